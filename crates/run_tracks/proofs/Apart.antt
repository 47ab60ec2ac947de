-- What two instances may do, they may do in either order.
use Rattle.std.proofs.Common.{◌≡◌, ◌≢◌, ◌∙◌, ◌==◌, ◌+◌, ◌<◌, ◌≤◌, ◌⊎◌, ℕ, Bool, true, false, Contains, List, [], ◌∷◌, Option, None, Some, ap, arith, drop, get_or, if◌then◌else◌, inl, inr, refl, subst, sym}
use Rattle.std.proofs.Math.Path.{fun_ext}
use Rattle.std.proofs.lemmas.Bool.{cases_Bool, cases_eq, eqb-true}
use Rattle.std.proofs.lemmas.List.Elements.{Contains-append_left, Contains-append_right, Contains-push}
use Rattle.run_tracks.specs.MoveLaws.{AreApart, TwoAreApart}
use Rattle.run_tracks.specs.Moves.{Act, Brings, Change, Goes, Inside, IsFirst, IsPermitted, IsPutBefore, Left, LookUp, Lose, May, MayGo, MayPut, MayTick, Move, NobodyLooks, NothingIsLost, Put, Step, Ticks, WaitsFor, WaitsUntil, after, after_act, altered, changes_after, next_look, next_version, puts_after, there_after, told_after, version_after}

-- ---- what is so of each number

altered_there : {X : Type 0} (number : ℕ) (change : X → X) (all : ℕ → X) (other : ℕ) → (other == number) ≡ true
    → altered number change all other ≡ change (all other)
altered_there number change all other here = ap (λ b. if b then change (all other) else all other) here

altered_other : {X : Type 0} (number : ℕ) (change : X → X) (all : ℕ → X) (other : ℕ) → (other == number) ≡ false
    → altered number change all other ≡ all other
altered_other number change all other apart = ap (λ b. if b then change (all other) else all other) apart

is_other : (other number : ℕ) → (other ≡ number → ⊥) → (other == number) ≡ false
is_other other number apart = grind arith

-- two are changed
both_changed : {X : Type 0} (here there : Bool) (g h : X → X) (x : X) → (here ≡ true → there ≡ true → ⊥)
    → (if there then h (if here then g x else x) else (if here then g x else x))
    ≡ (if here then g (if there then h x else x) else (if there then h x else x))
both_changed true true g h x apart = absurd (apart refl refl)
both_changed true false g h x apart = refl
both_changed false true g h x apart = refl
both_changed false false g h x apart = refl

twice_changed : {X : Type 0} (here there : Bool) (g : X → X) (x : X)
    → (if there then g (if here then g x else x) else (if here then g x else x))
    ≡ (if here then g (if there then g x else x) else (if there then g x else x))
twice_changed true true g x = refl
twice_changed true false g x = refl
twice_changed false true g x = refl
twice_changed false false g x = refl

apart_altered : {X : Type 0} (n m : ℕ) (g h : X → X) (all : ℕ → X) → n ≢ m
    → altered m h (altered n g all) ≡ altered n g (altered m h all)
apart_altered n m g h all apart =
    fun_ext (λ k. both_changed (k == n) (k == m) g h (all k)
    (λ here there. apart (sym (eqb-true k n here) ∙ eqb-true k m there)))

alike_altered : {X : Type 0} (n m : ℕ) (g : X → X) (all : ℕ → X)
    → altered m g (altered n g all) ≡ altered n g (altered m g all)
alike_altered n m g all = fun_ext (λ k. twice_changed (k == n) (k == m) g (all k))

-- ---- what is left is the same

puts_same : (one another : Act) (puts : ℕ → List ℕ)
    → puts_after another (puts_after one puts) ≡ puts_after one (puts_after another puts)
puts_same (Put n) (Put m) puts = alike_altered n m (λ (all : List ℕ). drop 1 all) puts
puts_same (Put n) another puts = refl
puts_same one another puts = refl

told_same : (one another : Act) (told : ℕ → ℕ)
    → told_after another (told_after one told) ≡ told_after one (told_after another told)
told_same (Put n) (Put m) told = alike_altered n m (λ (count : ℕ). count + 1) told
told_same (Put n) another told = refl
told_same one another told = refl

there_same : (one another : Act) (is_there : ℕ → Bool)
    → there_after another (there_after one is_there) ≡ there_after one (there_after another is_there)
there_same (Change (Some n)) (Change (Some m)) is_there = alike_altered n m (λ (was : Bool). true) is_there
there_same (Change (Some n)) another is_there = refl
there_same one another is_there = refl

changes_same : (one another : Act) (changes : List ℕ)
    → changes_after another (changes_after one changes) ≡ changes_after one (changes_after another changes)
changes_same (Change n) (Change m) changes = refl
changes_same (Change n) another changes = refl
changes_same one another changes = refl

version_same : (one another : Act) (version : ℕ)
    → version_after another (version_after one version) ≡ version_after one (version_after another version)
version_same (Change n) (Change m) version = refl
version_same (Change n) another version = refl
version_same one another version = refl

same_left : (l : Left) (number : ℕ) (one : Act) (later : List Act) (other : ℕ) (another : Act) (rest : List Act)
    → number ≢ other
    → after_act (after_act l number one later) other another rest
    ≡ after_act (after_act l other another rest) number one later
same_left l number one later other another rest apart =
    let acts = apart_altered number other (λ (all : List Act). later) (λ (all : List Act). rest) l.acts apart in
    λ i. record {
      acts = acts i;
      puts = puts_same one another l.puts i;
      told = told_same one another l.told i;
      is_there = there_same one another l.is_there i;
      changes = changes_same one another l.changes i;
      version = version_same one another l.version i;
      clock = l.clock;
    }

-- ---- what only grows, or only gets less

grown_if : (here : Bool) (count : ℕ) → count ≤ (if here then count + 1 else count)
grown_if true count = omega arith
grown_if false count = omega arith

told_grows : (one : Act) (told : ℕ → ℕ) (number : ℕ) → told number ≤ told_after one told number
told_grows (Put receiver) told number = grown_if (number == receiver) (told number)
told_grows one told number = omega arith

there_if : (here was : Bool) → was ≡ true → (if here then true else was) ≡ true
there_if true was is = refl
there_if false was is = is

there_stays : (one : Act) (is_there : ℕ → Bool) (number : ℕ) → is_there number ≡ true
    → there_after one is_there number ≡ true
there_stays (Change (Some made)) is_there number is = there_if (number == made) (is_there number) is
there_stays one is_there number is = is

-- what is left to an instance was left before
left_before : (acts : ℕ → List Act) (number : ℕ) (one : Act) (later : List Act) → acts number ≡ one ∷ later
    → (other : ℕ) (what : Act) → Contains (altered number (λ (all : List Act). later) acts other) what
    → Contains (acts other) what
left_before acts number one later next other what has =
    elim (cases_Bool (other == number)) [
      | inl here ↦
          let now : Contains later what = subst (λ (all : List Act). Contains all what)
          (altered_there number (λ (all : List Act). later) acts other here) has in
          let before : acts other ≡ one ∷ later = ap acts (eqb-true other number here) ∙ next in
          subst (λ (all : List Act). Contains all what) (sym before)
          (Contains-append_right (one ∷ []) later what now)
      | inr apart ↦
          subst (λ (all : List Act). Contains all what)
          (altered_other number (λ (all : List Act). later) acts other apart) has
    ]

-- what comes next is left
next_is_left : (acts : List Act) (one : Act) (later : List Act) → acts ≡ one ∷ later → Contains acts one
next_is_left acts one later next =
    subst (λ (all : List Act). Contains all one) (sym next)
    (Contains-append_left (one ∷ []) later one (Contains-push [] one))

-- so much is put as a step had drawn
abbrev IsDrawn : ℕ → Act → Type 0
IsDrawn told (Step at drawn looked) = drawn ≤ told
IsDrawn told other = Unit {0}

drawn_by : (l : Left) (number : ℕ) (one : Act) → IsPermitted l number one → IsDrawn (l.told number) one
drawn_by l number (Step at drawn looked) may = may.1
drawn_by l number other may = tt

-- what comes before the next look comes before the one after the next act
before_later : (one : Act) (later : List Act) (told : ℕ) → IsDrawn told one → IsPutBefore told (next_look (one ∷ later))
    → IsPutBefore told (next_look later)
before_later (Step at drawn true) later told enough before = let no : ⊥ = omega (arith, enough, before) in absurd no
before_later (Step at drawn false) later told enough before = before
before_later other later told enough before = before

before_stays : (acts : ℕ → List Act) (number : ℕ) (one : Act) (later : List Act) → acts number ≡ one ∷ later
    → (told : ℕ → ℕ) → IsDrawn (told number) one → (receiver : ℕ)
    → IsPutBefore (told receiver) (next_look (acts receiver))
    → IsPutBefore (told receiver) (next_look (altered number (λ (all : List Act). later) acts receiver))
before_stays acts number one later next told enough receiver before =
    elim (cases_Bool (receiver == number)) [
      | inl here ↦
          let is = eqb-true receiver number here in
          let drawn : IsDrawn (told receiver) one = subst (λ n. IsDrawn (told n) one) (sym is) enough in
          let all : acts receiver ≡ one ∷ later = ap acts is ∙ next in
          let was : IsPutBefore (told receiver) (next_look (one ∷ later)) =
          subst (λ (all : List Act). IsPutBefore (told receiver) (next_look all)) all before in
          subst (λ (all : List Act). IsPutBefore (told receiver) (next_look all))
          (sym (altered_there number (λ (all : List Act). later) acts receiver here))
          (before_later one later (told receiver) drawn was)
      | inr apart ↦
          subst (λ (all : List Act). IsPutBefore (told receiver) (next_look all))
          (sym (altered_other number (λ (all : List Act). later) acts receiver apart)) before
    ]

-- ---- one is permitted after another

-- there is one turn
one_first : (all : List ℕ) (number other : ℕ) → IsFirst number all → IsFirst other all → number ≡ other
one_first [] number other first second = absurd first
one_first (next ∷ later) number other first second = sym first ∙ second

-- what is looked up hinders a change
look_first : (l : Left) (number : ℕ) (later : List Act) (version : ℕ) → MayGo l number (LookUp version) later
    → NobodyLooks l → ⊥
look_first l number later version may nobody =
    nobody number (ap next_version may.next ∙ ap Some may.permitted)

-- an act that is neither a look-up nor a change leaves the next look-up where it is
abbrev IsOther : Act → Type 0
IsOther (LookUp version) = ⊥
IsOther (Change made) = ⊥
IsOther other = Unit {0}

next_stays : (one : Act) (later : List Act) → IsOther one → next_version (one ∷ later) ≡ next_version later
next_stays (LookUp version) later is = absurd is
next_stays (Change made) later is = absurd is
next_stays other later is = refl

-- whoever looks up next once another has done this did so before
looks_before : (acts : ℕ → List Act) (number : ℕ) (one : Act) (later : List Act) → acts number ≡ one ∷ later
    → IsOther one → (other version : ℕ)
    → next_version (altered number (λ (all : List Act). later) acts other) ≡ Some version
    → next_version (acts other) ≡ Some version
looks_before acts number one later next is other version looks =
    elim (cases_Bool (other == number)) [
      | inl here ↦
          ap next_version (ap acts (eqb-true other number here) ∙ next) ∙ next_stays one later is
          ∙ sym (ap next_version (altered_there number (λ (all : List Act). later) acts other here)) ∙ looks
      | inr apart ↦
          sym (ap next_version (altered_other number (λ (all : List Act). later) acts other apart)) ∙ looks
    ]

look_stays : (l : Left) (one : Act) (number : ℕ) → IsPermitted l number one → (other : ℕ) (rest : List Act)
    (version : ℕ) → MayGo l other (LookUp version) rest → version ≡ version_after one l.version
look_stays l (Change made) number may other rest version looks = absurd (look_first l other rest version looks may.1)
look_stays l one number may other rest version looks = looks.permitted

lost_less : (l : Left) (number : ℕ) (one : Act) (later : List Act) → l.acts number ≡ one ∷ later → (made : Option ℕ)
    → NothingIsLost l made → NothingIsLost (after_act l number one later) made
lost_less l number one later next None nothing = tt
lost_less l number one later next (Some made) nothing = λ other has.
    nothing other (left_before l.acts number one later next other (Lose made) has)

change_stays : (l : Left) (one : Act) (number : ℕ) (later : List Act) → l.acts number ≡ one ∷ later
    → IsPermitted l number one → (other : ℕ) (made : Option ℕ) → number ≢ other → IsPermitted l other (Change made)
    → IsPermitted (after_act l number one later) other (Change made)
change_stays l (Change also) number later next may other made apart change =
    absurd (apart (one_first l.changes number other may.0 change.0))
change_stays l (LookUp version) number later next may other made apart change =
    absurd (change.1 number (ap next_version next ∙ ap Some may))
change_stays l one number later next may other made apart change = (
  change.0,
  λ who looks. change.1 who (looks_before l.acts number one later next tt who l.version looks),
  lost_less l number one later next made change.2,
)

lose_if : (here was : Bool) → (here ≡ true → ⊥) → was ≡ false → (if here then true else was) ≡ false
lose_if true was apart is = absurd (apart refl)
lose_if false was apart is = is

lose_stays : (l : Left) (one : Act) (number : ℕ) → IsPermitted l number one → (other : ℕ) (rest : List Act)
    (receiver : ℕ) → MayGo l other (Lose receiver) rest → there_after one l.is_there receiver ≡ false
lose_stays l (Change (Some made)) number may other rest receiver loses =
    lose_if (receiver == made) (l.is_there receiver)
    (λ here. may.2 other (subst (λ n. Contains (l.acts other) (Lose n)) (eqb-true receiver made here)
    (next_is_left (l.acts other) (Lose receiver) rest loses.next)))
    loses.permitted
lose_stays l one number may other rest receiver loses = loses.permitted

put_stays : (l : Left) (one : Act) (number : ℕ) (later : List Act) → l.acts number ≡ one ∷ later
    → IsPermitted l number one → (other receiver : ℕ) → number ≢ other → IsPermitted l other (Put receiver)
    → IsPermitted (after_act l number one later) other (Put receiver)
put_stays l (Put also) number later next may other receiver apart put =
    let before = before_stays l.acts number (Put also) later next l.told tt receiver put.2 in
    elim (cases_Bool (receiver == also)) [
      | inl here ↦
          let mine : IsFirst number (l.puts receiver) =
          subst (λ n. IsFirst number (l.puts n)) (sym (eqb-true receiver also here)) may.1 in
          absurd (apart (one_first (l.puts receiver) number other mine put.1))
      | inr elsewhere ↦ (
        put.0,
        subst (λ (all : List ℕ). IsFirst other all)
            (sym (altered_other also (λ (all : List ℕ). drop 1 all) l.puts receiver elsewhere)) put.1,
        subst (λ count. IsPutBefore count (next_look (altered number (λ (all : List Act). later) l.acts receiver)))
            (sym (altered_other also (λ (count : ℕ). count + 1) l.told receiver elsewhere)) before,
      )
    ]
put_stays l one number later next may other receiver apart put = (
  there_stays one l.is_there receiver put.0,
  put.1,
  before_stays l.acts number one later next l.told (drawn_by l number one may) receiver put.2,
)

permitted_after : (l : Left) (number : ℕ) (one : Act) (later : List Act) (other : ℕ) (another : Act) (rest : List Act)
    → number ≢ other → MayGo l number one later → MayGo l other another rest
    → IsPermitted (after_act l number one later) other another
permitted_after l number one later other (Step at drawn looked) rest apart may also =
    let grows = told_grows one l.told other in
    let enough = also.permitted.1 in
    (also.permitted.0, omega (arith, enough, grows))
permitted_after l number one later other (LookUp version) rest apart may also =
    look_stays l one number may.permitted other rest version also
permitted_after l number one later other (Change made) rest apart may also =
    change_stays l one number later may.next may.permitted other made apart also.permitted
permitted_after l number one later other (Put receiver) rest apart may also =
    put_stays l one number later may.next may.permitted other receiver apart also.permitted
permitted_after l number one later other (Lose receiver) rest apart may also =
    lose_stays l one number may.permitted other rest receiver also
permitted_after l number one later other Inside rest apart may also = tt

may_after : (l : Left) (number : ℕ) (one : Act) (later : List Act) (other : ℕ) (another : Act) (rest : List Act)
    → number ≢ other → MayGo l number one later → MayGo l other another rest
    → MayGo (after_act l number one later) other another rest
may_after l number one later other another rest apart may also = record {
  positive = also.positive;
  next = altered_other number (λ (all : List Act). later) l.acts other (is_other other number (λ is. apart (sym is)))
      ∙ also.next;
  is_there = there_stays one l.is_there other also.is_there;
  permitted = permitted_after l number one later other another rest apart may also;
}

-- ---- the environment

not_first : (number : ℕ) → 0 < number → 0 ≢ number
not_first number positive = λ is. omega (arith, positive, is)

-- one puts after another
put_after : (l : Left) (brought : ℕ) (number receiver : ℕ) → 0 ≢ number ⊎ receiver ≢ brought → MayPut l 0 brought
    → MayPut l number receiver → MayPut (after l (Brings brought)) number receiver
put_after l brought number receiver apart may put =
    elim (cases_Bool (receiver == brought)) [
      | inl here ↦
          let is = eqb-true receiver brought here in
          let mine : IsFirst 0 (l.puts receiver) = subst (λ n. IsFirst 0 (l.puts n)) (sym is) may.1 in
          elim apart [
            | inl other ↦ absurd (other (one_first (l.puts receiver) 0 number mine put.1))
            | inr elsewhere ↦ absurd (elsewhere is)
          ]
      | inr elsewhere ↦ (
        put.0,
        subst (λ (all : List ℕ). IsFirst number all)
            (sym (altered_other brought (λ (all : List ℕ). drop 1 all) l.puts receiver elsewhere)) put.1,
        subst (λ count. IsPutBefore count (next_look (l.acts receiver)))
            (sym (altered_other brought (λ (count : ℕ). count + 1) l.told receiver elsewhere)) put.2,
      )
    ]

permitted_then : (l : Left) (brought number : ℕ) (one : Act) → 0 < number → MayPut l 0 brought
    → IsPermitted l number one → IsPermitted (after l (Brings brought)) number one
permitted_then l brought number (Step at drawn looked) positive may is =
    let grows = told_grows (Put brought) l.told number in
    let enough = is.1 in
    (is.0, omega (arith, enough, grows))
permitted_then l brought number (LookUp version) positive may is = is
permitted_then l brought number (Change None) positive may is = is
permitted_then l brought number (Change (Some made)) positive may is = is
permitted_then l brought number (Put receiver) positive may is =
    put_after l brought number receiver (inl (not_first number positive)) may is
permitted_then l brought number (Lose receiver) positive may is = is
permitted_then l brought number Inside positive may is = tt

goes_then : (l : Left) (brought number : ℕ) (one : Act) (later : List Act) → MayPut l 0 brought
    → MayGo l number one later → MayGo (after l (Brings brought)) number one later
goes_then l brought number one later may also = record {
  positive = also.positive;
  next = also.next;
  is_there = also.is_there;
  permitted = permitted_then l brought number one also.positive may also.permitted;
}

brings_then : (l : Left) (number : ℕ) (one : Act) (later : List Act) (brought : ℕ) → MayGo l number one later
    → MayPut l 0 brought → MayPut (after_act l number one later) 0 brought
brings_then l number one later brought may also =
    put_stays l one number later may.next may.permitted 0 brought (λ is. not_first number may.positive (sym is)) also

same_brought : (l : Left) (number : ℕ) (one : Act) (later : List Act) (brought : ℕ)
    → after (after_act l number one later) (Brings brought)
    ≡ after_act (after l (Brings brought)) number one later
same_brought l number one later brought = λ i. record {
  acts = altered number (λ (all : List Act). later) l.acts;
  puts = puts_same one (Put brought) l.puts i;
  told = told_same one (Put brought) l.told i;
  is_there = there_after one l.is_there;
  changes = changes_after one l.changes;
  version = version_after one l.version;
  clock = l.clock;
}

goes_and_brings : (l : Left) (number : ℕ) (one : Act) (later : List Act) (brought : ℕ) → MayGo l number one later
    → MayPut l 0 brought → AreApart l (Goes number one later) (Brings brought)
goes_and_brings l number one later brought may also = record {
  first = goes_then l brought number one later also may;
  second = brings_then l number one later brought may also;
  same = same_brought l number one later brought;
}

both_brought : (l : Left) (one other : ℕ) → MayPut l 0 one → MayPut l 0 other
    → (after l (Brings one) ≡ after l (Brings other)) ⊎ AreApart l (Brings one) (Brings other)
both_brought l one other may also =
    elim (cases_eq one other) [
      | inl is ↦ inl (ap (λ n. after l (Brings n)) is)
      | inr apart ↦ inr (record {
        first = put_after l other 0 one (inr apart) also may;
        second = put_after l one 0 other (inr (λ is. apart (sym is))) may also;
        same = λ i. record {
          acts = l.acts;
          puts = puts_same (Put one) (Put other) l.puts i;
          told = told_same (Put one) (Put other) l.told i;
          is_there = l.is_there;
          changes = l.changes;
          version = l.version;
          clock = l.clock;
        };
      })
    ]

-- ---- the clock

-- whoever may go on doesn't wait for a later time
no_wait : (l : Left) (number : ℕ) (one : Act) (later : List Act) (time : ℕ) → l.clock < time → IsPermitted l number one
    → WaitsUntil time (one ∷ later) → ⊥
no_wait l number (Step at drawn looked) later time behind may waits =
    let now = may.0 in
    omega (arith, behind, now, waits)
no_wait l number (LookUp version) later time behind may waits = waits
no_wait l number (Change made) later time behind may waits = waits
no_wait l number (Put receiver) later time behind may waits = waits
no_wait l number (Lose receiver) later time behind may waits = waits
no_wait l number Inside later time behind may waits = waits

no_tick : (l : Left) (number : ℕ) (one : Act) (later : List Act) (time : ℕ) → MayGo l number one later
    → MayTick l time → ⊥
no_tick l number one later time may tick =
    no_wait l number one later time tick.later may.permitted
    (subst (λ (all : List Act). WaitsUntil time all) may.next (tick.all number))

not_before : (one other : ℕ) (acts : List Act) → WaitsFor one acts → WaitsUntil other acts → other ≤ one
not_before one other [] first second = absurd first
not_before one other (Step at drawn looked ∷ later) first second = omega (arith, first, second)
not_before one other (LookUp version ∷ later) first second = absurd first
not_before one other (Change made ∷ later) first second = absurd first
not_before one other (Put receiver ∷ later) first second = absurd first
not_before one other (Lose receiver ∷ later) first second = absurd first
not_before one other (Inside ∷ later) first second = absurd first

same_tick : (l : Left) (one other : ℕ) → MayTick l one → MayTick l other → one ≡ other
same_tick l one other may also =
    let below = not_before one other (l.acts may.somebody.0) may.somebody.1 (also.all may.somebody.0) in
    let above = not_before other one (l.acts also.somebody.0) also.somebody.1 (may.all also.somebody.0) in
    omega (arith, below, above)

ticks_then : (l : Left) (brought time : ℕ) → MayTick l time → MayTick (after l (Brings brought)) time
ticks_then l brought time may = record { later = may.later; all = may.all; somebody = may.somebody }

-- ---- any two

-- an instance does what comes next of it
same_act : (l : Left) (number : ℕ) (one another : Act) (later rest : List Act) → MayGo l number one later
    → MayGo l number another rest → after_act l number one later ≡ after_act l number another rest
same_act l number one another later rest may also =
    let same : one ∷ later ≡ another ∷ rest = sym may.next ∙ also.next in
    ap (λ (what : Act). after_act l number what later) (ap (λ (all : List Act). get_or all 0 one) same)
    ∙ ap (λ (all : List Act). after_act l number another all) (ap (λ (all : List Act). drop 1 all) same)

two_go : (l : Left) (number : ℕ) (one : Act) (later : List Act) (other : ℕ) (another : Act) (rest : List Act)
    → MayGo l number one later → MayGo l other another rest
    → (after_act l number one later ≡ after_act l other another rest)
    ⊎ AreApart l (Goes number one later) (Goes other another rest)
two_go l number one later other another rest may also =
    elim (cases_eq number other) [
      | inl is ↦
          let mine : MayGo l other one later = subst (λ n. MayGo l n one later) is may in
          inl (ap (λ n. after_act l n one later) is ∙ same_act l other one another later rest mine also)
      | inr apart ↦ inr (record {
        first = may_after l other another rest number one later (λ is. apart (sym is)) also may;
        second = may_after l number one later other another rest apart may also;
        same = same_left l number one later other another rest apart;
      })
    ]

turned : (l : Left) (one other : Move) → AreApart l one other → AreApart l other one
turned l one other both = record { first = both.second; second = both.first; same = sym both.same }

tick_and_bring : (l : Left) (time brought : ℕ) → MayTick l time → MayPut l 0 brought
    → AreApart l (Ticks time) (Brings brought)
tick_and_bring l time brought may also = record {
  first = ticks_then l brought time may;
  second = also;
  same = refl;
}

any_two : (l : Left) (one other : Move) → May l one → May l other
    → (after l one ≡ after l other) ⊎ AreApart l one other
any_two l (Goes number one later) (Goes other another rest) may also =
    two_go l number one later other another rest may also
any_two l (Goes number one later) (Brings brought) may also =
    inr (goes_and_brings l number one later brought may also)
any_two l (Goes number one later) (Ticks time) may also = absurd (no_tick l number one later time may also)
any_two l (Brings brought) (Goes number one later) may also =
    inr (turned l (Goes number one later) (Brings brought) (goes_and_brings l number one later brought also may))
any_two l (Brings one) (Brings other) may also = both_brought l one other may also
any_two l (Brings brought) (Ticks time) may also =
    inr (turned l (Ticks time) (Brings brought) (tick_and_bring l time brought also may))
any_two l (Ticks time) (Goes number one later) may also = absurd (no_tick l number one later time also may)
any_two l (Ticks time) (Brings brought) may also = inr (tick_and_bring l time brought may also)
any_two l (Ticks one) (Ticks other) may also = inl (ap (λ time. after l (Ticks time)) (same_tick l one other may also))

pub two_are_apart : TwoAreApart
two_are_apart = any_two
