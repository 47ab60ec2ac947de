-- Names that pass the test are those of joins that the start reaches.
use Rattle.std.proofs.Common.{◌≡◌, ◌∙◌, ◌||◌, ◌<◌, ◌≤◌, ℕ, zero, suc, inl, inr, Bool, true, false, if◌then◌else◌, List, [], ◌∷◌, Option, None, Some, is_some, flat_map, nat_lt, refl, ap, sym, subst, arith}
use Rattle.std.proofs.lemmas.Bool.{lt-ltb, ltb-false, ltb-true}
use Rattle.std.proofs.lemmas.List.Folds.{list_any-append}
use Rattle.std.proofs.lemmas.Slice.Eq.{bytes_eq-Decides}
use Rattle.std.specs.Str.{bytes_eq}
use Rattle.build_names.proofs.FaultLemmas.{in-left, in-right}
use Rattle.build_names.specs.FaultLaws.{In}
use Rattle.build_names.specs.Names.{first_of}
use Rattle.sdl_tree.specs.Tree.{Join, Next, Stop, Terminator}
use Rattle.sdl_tree.specs.Words.{Spot}
use Rattle.sdl_tree.specs.declared.name.Spelling.{Spelling}
use Rattle.build_flow.specs.Beginnings.{Beginning}
use Rattle.build_flow.specs.Listed.{led_turn, texts}
use Rattle.build_flow.specs.Mentions.{is_named}
use Rattle.build_flow.specs.Met.{met_if}
use Rattle.build_flow.specs.Quick.{all_confirmed, all_named, confirmed_by, confirmed_in, is_sooner}
use Rattle.build_flow.specs.Reach.{EachReached, StartReaches, is_first, labels_in}
use Rattle.build_flow.specs.Turns.{Found, found_from, sooner}
use Rattle.build_flow.proofs.PassingLemmas.{found-named}
use Rattle.build_flow.proofs.PathLaws.{never, or-cases}
use Rattle.build_flow.proofs.ReachLaws.{IsLed, and-left, and-right, entered-reached}
use Rattle.build_flow.proofs.TurnLemmas.{kept, kept-from}

-- ---- what comes before a turn

abbrev within : ℕ → Option ℕ → Bool
within own None = false
within own (Some turn) = nat_lt turn own

within-if : (own one other : ℕ) (less : Bool) → nat_lt other one ≡ less → (a b : Bool) → nat_lt one own ≡ a →
    nat_lt other own ≡ b → within own (if less then Some other else Some one) ≡ (a || b)
within-if own one other true less true b first second =
    let before : other < one = ltb-true other one less in
    let after : one < own = ltb-true one own first in
    lt-ltb other own (omega (arith, before, after))
within-if own one other true less false b first second = second
within-if own one other false less true b first second = first
within-if own one other false less false true first second =
    let after : other < own = ltb-true other own second in
    let late : own ≤ one = ltb-false one own first in
    let order : one ≤ other = ltb-false other one less in
    absurd (omega (arith, after, late, order))
within-if own one other false less false false first second = first

or-nothing : (b : Bool) → b ≡ (b || false)
or-nothing true = refl
or-nothing false = refl

within-either : (own : ℕ) (one other : Option ℕ) →
    within own (sooner one other) ≡ (within own one || within own other)
within-either own None other = refl
within-either own (Some one) None = or-nothing (nat_lt one own)
within-either own (Some one) (Some other) =
    within-if own one other (nat_lt other one) refl (nat_lt one own) (nat_lt other own) refl refl

-- ---- names that are confirmed

named-flat : {A : Type 0} (f : A → List (List ℕ)) (xs : List A) (text : List ℕ) → is_named (flat_map f xs) text ≡ true →
    (x : A) × In x xs × (is_named (f x) text ≡ true)
named-flat f [] text is = never is
named-flat f (x ∷ xs) text is =
    elim (or-cases (is_named (f x) text) (is_named (flat_map f xs) text)
    (sym (list_any-append (bytes_eq text) (f x) (flat_map f xs)) ∙ is)) [
      | inl now ↦ (x, inl refl, now)
      | inr later ↦ let g = named-flat f xs text later in (g.0, inr g.1, g.2)
    ]

all-named : (names texts' : List (List ℕ)) (text : List ℕ) → all_named names texts' ≡ true →
    is_named texts' text ≡ true → is_named names text ≡ true
all-named names [] text all is = never is
all-named names (first ∷ rest) text all is =
    elim (or-cases (bytes_eq text first) (is_named rest text) is) [
      | inl same ↦ ap (is_named names) ((bytes_eq-Decides text first).0 same)
          ∙ and-left (is_named names first) (all_named names rest) all
      | inr later ↦ all-named names rest text (and-right (is_named names first) (all_named names rest) all) later
    ]

met-one : (b : Bool) (one : Terminator) → b ≡ true → In one (met_if b one)
met-one true one is = inl refl
met-one false one is = never is

in-kept : (counts : Option ℕ → Bool) (found : List Found) (one : Found) → In one found →
    counts (Some one.turn) ≡ true → In one.terminator (kept counts found)
in-kept counts [] one at is = absurd at
in-kept counts (first ∷ rest) one at is =
    elim at [
      | inl same ↦ in-left one.terminator (met_if (counts (Some first.turn)) first.terminator) (kept counts rest)
          (subst (λ (f : Found). In one.terminator (met_if (counts (Some f.turn)) f.terminator)) same
          (met-one (counts (Some one.turn)) one.terminator is))
      | inr i ↦ in-right one.terminator (met_if (counts (Some first.turn)) first.terminator) (kept counts rest)
          (in-kept counts rest one i is)
    ]

abbrev pub found_as : Terminator → ℕ → Found
found_as terminator turn = record { terminator = terminator; turn = turn }

-- a join on the name to which a path comes in a turn before its own
pub record IsConfirmed (names : List (List ℕ × ℕ)) (found : List Found) (text : List ℕ) : Type 0 where
  pub word : Spelling
  pub label : Spot
  pub turn : ℕ
  pub listed : In (found_as (Join word label) turn) found
  pub named : label.text ≡ text
  pub is_sooner : is_sooner turn (first_of names label.text) ≡ true

named-one : (b : Bool) (one text : List ℕ) → is_named (if b then one ∷ [] else []) text ≡ true →
    (b ≡ true) × (one ≡ text)
named-one true one text is =
    elim (or-cases (bytes_eq text one) false is) [
      | inl same ↦ (refl, sym ((bytes_eq-Decides text one).0 same))
      | inr impossible ↦ never impossible
    ]
named-one false one text is = never is

confirmed-one : (names : List (List ℕ × ℕ)) (found : List Found) (text : List ℕ) (terminator : Terminator) (turn : ℕ) →
    In (found_as terminator turn) found → is_named (confirmed_by names terminator turn) text ≡ true →
    IsConfirmed names found text
confirmed-one names found text (Next word state) turn at is = never is
confirmed-one names found text (Stop word) turn at is = never is
confirmed-one names found text (Join word label) turn at is =
    let f = named-one (is_sooner turn (first_of names label.text)) label.text text is in
    record { word = word; label = label; turn = turn; listed = at; named = f.1; is_sooner = f.0 }

confirmed-name : (names : List (List ℕ × ℕ)) (found : List Found) (text : List ℕ) →
    is_named (all_confirmed names found) text ≡ true → IsConfirmed names found text
confirmed-name names found text is =
    let f = named-flat (confirmed_in names) found text is in
    confirmed-one names found text f.0.terminator f.0.turn f.1 f.2

-- ---- the start reaches them

abbrev Reached : List Beginning → List ℕ → Type 0
Reached all text = (word : Spelling) × (name : Spot) × (name.text ≡ text) × StartReaches all (Join word name)

module _ (all : List Beginning) (names : List (List ℕ × ℕ)) (found : List Found)
    (are : found ≡ found_from (led_turn (labels_in all) names) all)
    (confirmed : (text : List ℕ) → is_named (texts names) text ≡ true → IsConfirmed names found text) where
  abbrev turns : Spot → Option ℕ
  turns = led_turn (labels_in all) names

  led-if : (label : Spot) (own : ℕ) →
      ((other : ℕ) → first_of names label.text ≡ Some other → other < own → Reached all label.text) →
      (b : Bool) → is_first (labels_in all) label ≡ b → (turn : Option ℕ) → first_of names label.text ≡ turn →
      within own (if b then turn else None) ≡ true → IsLed all label
  led-if label own before true first None is entered = never entered
  led-if label own before true first (Some turn) is entered = (first, before turn is (ltb-true turn own entered))
  led-if label own before false first turn is entered = never entered

  reached-at : (text : List ℕ) (own : ℕ) → first_of names text ≡ Some own →
      ((label : Spot) (other : ℕ) → first_of names label.text ≡ Some other → other < own → Reached all label.text) →
      Reached all text
  reached-at text own is before =
      let c = confirmed text (sym (found-named names text) ∙ ap is_some is) in
      let soon : nat_lt c.turn own ≡ true =
      ap (is_sooner c.turn) (sym (ap (first_of names) c.named ∙ is)) ∙ c.is_sooner in
      let less : c.turn < own = ltb-true c.turn own soon in
      let start : nat_lt 0 own ≡ true = lt-ltb 0 own (omega (arith, less)) in
      let met = in-kept (within own) found (found_as (Join c.word c.label) c.turn) c.listed soon in
      let kept-are = ap (kept (within own)) are ∙ kept-from turns (within own) refl start (within-either own) all in (
        c.word,
        c.label,
        c.named,
        entered-reached all (λ label. within own (turns label))
            (λ label entered. led-if label own (before label) (is_first (labels_in all) label) refl
            (first_of names label.text) refl entered)
            (Join c.word c.label) (subst (In (Join c.word c.label)) kept-are met),
      )

  below : (bound : ℕ) (text : List ℕ) (own : ℕ) → first_of names text ≡ Some own → own < bound → Reached all text
  below zero text own is less = absurd (omega (arith, less))
  below (suc bound) text own is less =
      reached-at text own is (λ label other also before. below bound label.text other also (omega (arith, less, before)))

  found-own : (text : List ℕ) (own : Option ℕ) → first_of names text ≡ own → is_some own ≡ true → Reached all text
  found-own text None is some = never some
  found-own text (Some own) is some = below (suc own) text own is (omega arith)

  pub each-confirmed : EachReached all (texts names)
  each-confirmed = λ text is. found-own text (first_of names text) refl (found-named names text ∙ is)

pub quick-reached : (all : List Beginning) (names : List (List ℕ × ℕ)) (found : List Found) →
    found ≡ found_from (led_turn (labels_in all) names) all →
    all_named (all_confirmed names found) (texts names) ≡ true → EachReached all (texts names)
quick-reached all names found are named =
    each-confirmed all names found are
    (λ text is. confirmed-name names found text (all-named (all_confirmed names found) (texts names) text named is))
