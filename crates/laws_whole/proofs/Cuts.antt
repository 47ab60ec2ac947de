-- Of what an instance sends to another the first signals may be gone: those that were sent before the other was there.
use Rattle.std.proofs.Common.{◌≡◌, ◌∙◌, ◌⊎◌, ◌&&◌, ◌++◌, ◌+◌, ◌<◌, ◌≤◌, ap, append-nil, append_assoc, arith, if◌then◌else◌, inl, inr, nat_eq, nat_le, refl, subst, sym, ℕ, Bool, true, false, All, Contains, List, [], ◌∷◌, None, Some}
use Rattle.std.proofs.lemmas.Bool.{cases_lt}
use Rattle.std.proofs.lemmas.List.Elements.{All-append, All-cons, All-head, All-nil, All-tail, Contains-append_right}
use Rattle.laws_creates.proofs.Steps.{MakeNext-split}
use Rattle.laws_whole.proofs.Hearing.{line_effects}
use Rattle.laws_whole.proofs.Lists.{split_append}
use Rattle.laws_whole.proofs.Naming.{AreByPid, IsByPid, IsLineByPid}
use Rattle.laws_whole.proofs.Sending.{all_comes, deeds_send, given_after-append, given_more, no_put, not_there_is, puts_by-append, sent_to-append}
use Rattle.port_model.specs.declared.values.item.Item.{Item}
use Rattle.port_model.specs.declared.values.item.SignalId.{SignalId}
use Rattle.port_model.specs.declared.values.pid.Pid.TheVariants.{Of}
use Rattle.port_model.specs.declared.values.value.Value.{Value}
use Rattle.run_record.specs.declared.evaluation.identity.Identity.{Identity}
use Rattle.run_record.specs.Event as event
use Rattle.run_record.specs.Event.{Event}
use Rattle.run_semantics.proofs.Acting.{AreActs, AreActsOf}
use Rattle.run_semantics.proofs.Deeds.{events_of-append}
use Rattle.run_semantics.specs.Effect.{Arm, Create, Deed, Effect, Send, effects_of, events_of}
use Rattle.run_semantics.specs.Sent.{sent_by_one, sent_to}
use Rattle.sdl_system.specs.System.{SystemValue}
use Rattle.sdl_system.specs.declared.id.ProcessId.{ProcessId}
use Rattle.sdl_system.specs.declared.route.Dest.{Dest}
use Rattle.sdl_system.specs.declared.route.Dest.TheVariants as dest
use Rattle.sdl_system.specs.declared.route.Target.{Target}
use Rattle.sdl_system.specs.declared.route.Target.TheVariants.{Env, Instance, Nobody, Null}
use Rattle.serial_order.proofs.Made.{MakeNext}
use Rattle.serial_order.specs.Execution.{Expired, Happening, Heard, Moved, Ticked}
use Rattle.serial_order.specs.Told.{Moment, comes_by, comes_by_one, deeds_of, given_after, is_there, moment_after, put_by, puts_of, sends_from}
use Rattle.settle_meaning.specs.Puts.{EndsWith}

-- The event doesn't create this instance; and if it sends a signal there, it names it by its Pid.
abbrev pub IsBefore : ℕ → Event → Type 0
IsBefore n (event.Create process (Some number)) = number ≡ n → ⊥
IsBefore n (event.Output signal to values (Instance number)) = number ≡ n → to ≡ dest.Pid (Of n)
IsBefore n happened = Unit {0}

-- The events of an instance in two parts: of the first nothing was put into the port of the other, and none of them
-- creates the other; what they send there names it by its Pid. Of the second all was put that it sends there.
pub record Cut (m n : ℕ) (events : List Event) (put : List Item) : Type 0 where
  pub early : List Event
  pub late : List Event
  pub events_are : events ≡ early ++ late
  pub put_is : put ≡ sent_to m late n
  pub is_before : All (IsBefore n) early

-- what is so of the one in the middle
all_middle : {X : Type 0} (P : X → Type 0) (before : List X) (x : X) (after : List X) → All P (before ++ x ∷ after)
    → P x
all_middle P [] x after all = All-head P x after all
all_middle P (y ∷ before) x after all = all_middle P before x after (All-tail P y (before ++ x ∷ after) all)

-- all that was sent behind a create of the other was put
pub since_create : (m n : ℕ) (events : List Event) (put : List Item) → Cut m n events put → (before later : List Event)
    (process : ProcessId) → events ≡ before ++ event.Create process (Some n) ∷ later
    → EndsWith put (sent_to m later n)
since_create m n events put cut before later process is =
    let create : Event = event.Create process (Some n) in
    elim (split_append cut.early cut.late before create later (sym cut.events_are ∙ is)) [
      | inl w ↦
          absurd (all_middle (IsBefore n) before create w.0
          (subst (λ (l : List Event). All (IsBefore n) l) w.1 cut.is_before) refl)
      | inr w ↦ (
        sent_to m w.0 n,
        cut.put_is ∙ ap (λ (l : List Event). sent_to m l n) w.1 ∙ sent_to-append m n w.0 (create ∷ later),
      )
    ]

-- events more that send nothing
pub cut_more : (m n : ℕ) (events more : List Event) (put : List Item) → sent_to m more n ≡ [] → Cut m n events put
    → Cut m n (events ++ more) put
cut_more m n events more put none cut = record {
  early = cut.early;
  late = cut.late ++ more;
  events_are = ap (λ (l : List Event). l ++ more) cut.events_are ∙ append_assoc cut.early cut.late more;
  put_is = cut.put_is
      ∙ sym (append-nil (sent_to m cut.late n))
      ∙ ap (λ (l : List Item). sent_to m cut.late n ++ l) (sym none)
      ∙ sym (sent_to-append m n cut.late more);
  is_before = cut.is_before;
}

-- ---- the deeds of one step

-- once they are done the other is there, or is not yet
pub data Reaches (m n given : ℕ) (events : List Event) (put : List Item) : Type 0 where
  reached : n < given + 1 → Cut m n events put → Reaches m n given events put
  not_yet : given < n → put ≡ [] → All (IsBefore n) events → Reaches m n given events put

module _ (system : SystemValue) (m n : ℕ) (first : 0 < n) where
  abbrev after : Moment → List Effect → Moment
  after now done = record now { given = given_after now.given done }

  -- one deed, where the other is not there
  data One (now : Moment) (e : Event) (done : List Effect) : Type 0 where
    creates : n < given_after now.given done + 1 → puts_of (comes_by n now done) ≡ [] → sent_by_one m n e ≡ []
        → One now e done
    passes : given_after now.given done < n → puts_of (comes_by n now done) ≡ [] → IsBefore n e → One now e done

  module _ (now : Moment) (beyond : now.given < n) where
    as_one : (e : Event) (done known : List Effect) → done ≡ known → One now e known → One now e done
    as_one e done known same one = subst (λ (l : List Effect). One now e l) (sym same) one

    nothing : (e : Event) (done : List Effect) → done ≡ [] → IsBefore n e → One now e done
    nothing e done none is_before = as_one e done [] none (passes beyond refl is_before)

    create_one : (process : ProcessId) (number : ℕ) (values : List Value) → number ≡ now.given + 1
        → One now (event.Create process (Some number)) (Create process number m values ∷ [])
    create_one process number values next =
        elim (cases_lt (now.given + 1) n) [
          | inl before ↦ passes before refl (λ same. let wrong : ⊥ = omega (arith, same, next, before) in wrong)
          | inr at ↦ creates (omega (arith, at)) refl refl
        ]

    output_before : (signal : SignalId) (named : Dest) (values : List Value) (target : Target)
        → IsByPid now.given (event.Output signal named values target)
        → IsBefore n (event.Output signal named values target)
    output_before signal named values (Instance number) by_pid = λ same.
        by_pid (omega (arith, beyond, same)) ∙ ap (λ k. dest.Pid (Of k)) same
    output_before signal named values Env by_pid = tt
    output_before signal named values Null by_pid = tt
    output_before signal named values Nobody by_pid = tt

    one_deed : (e : Event) (done : List Effect) → AreActsOf m e done → MakeNext system now.given done
        → IsByPid now.given e → One now e done
    one_deed (event.Output signal named values target) done are make by_pid =
        as_one (event.Output signal named values target) done (Send target are.0 ∷ []) are.1
        (passes beyond
        (ap (λ (b : Bool). puts_of ((if b then put_by n target are.0 else []) ++ [])) (not_there_is n now beyond))
        (output_before signal named values target by_pid))
    one_deed (event.Set key due) done are make by_pid =
        as_one (event.Set key due) done (Arm are.0 ∷ []) are.1
        (passes beyond
        (ap puts_of (append-nil (comes_by_one n now (Arm are.0)))
        ∙ no_put n now.clock are.0 (is_there n now && nat_le are.0.due now.clock)) tt)
    one_deed (event.Create process None) done are make by_pid = nothing (event.Create process None) done are.1 tt
    one_deed (event.Create process (Some number)) done are make by_pid =
        let makes : MakeNext system now.given (Create process number m are.0 ∷ []) =
        subst (λ (l : List Effect). MakeNext system now.given l) are.1 make in
        as_one (event.Create process (Some number)) done (Create process number m are.0 ∷ []) are.1
        (create_one process number are.0 makes.0.0)
    one_deed (event.Start at) done are make by_pid = nothing (event.Start at) done are tt
    one_deed (event.Consumed at got) done are make by_pid = nothing (event.Consumed at got) done are tt
    one_deed (event.Prior at got) done are make by_pid = nothing (event.Prior at got) done are tt
    one_deed (event.Discarded at got) done are make by_pid = nothing (event.Discarded at got) done are tt
    one_deed (event.Provided at number) done are make by_pid = nothing (event.Provided at number) done are tt
    one_deed (event.FailedAt at why) done are make by_pid = nothing (event.FailedAt at why) done are tt
    one_deed (event.Task variable value) done are make by_pid = nothing (event.Task variable value) done are tt
    one_deed (event.Reset key) done are make by_pid = nothing (event.Reset key) done are tt
    one_deed (event.NextState state) done are make by_pid = nothing (event.NextState state) done are tt
    one_deed event.Stop done are make by_pid = nothing event.Stop done are tt
    one_deed (event.Failed why) done are make by_pid = nothing (event.Failed why) done are tt
    one_deed (event.Rest state) done are make by_pid = nothing (event.Rest state) done are tt
    one_deed (event.Cut state) done are make by_pid = nothing (event.Cut state) done are tt

  -- where it is there already all comes
  deeds_there : (now : Moment) (deeds : List Deed) → AreActs m deeds → n < now.given + 1
      → puts_of (comes_by n now (effects_of deeds)) ≡ sent_to m (events_of deeds) n
  deeds_there now deeds are within = all_comes n now (effects_of deeds) first within ∙ deeds_send m n deeds are

  module _ (now : Moment) (deed : Deed) (rest : List Deed) (of_one : AreActsOf m deed.event deed.effects)
      (of_rest : AreActs m rest) where
    abbrev events : List Event
    events = deed.event ∷ events_of rest

    abbrev done : List Effect
    done = deed.effects ++ effects_of rest

    abbrev next : Moment
    next = after now deed.effects

    abbrev later_put : List Item
    later_put = puts_of (comes_by n next (effects_of rest))

    end_is : given_after now.given done ≡ given_after next.given (effects_of rest)
    end_is = given_after-append now.given deed.effects (effects_of rest)

    put_are : puts_of (comes_by n now done) ≡ puts_of (comes_by n now deed.effects) ++ later_put
    put_are = puts_by-append n now deed.effects (effects_of rest)

    abbrev Later : Type 0
    Later = Reaches m n (given_after next.given (effects_of rest)) (events_of rest) later_put

    abbrev Whole : Type 0
    Whole = Reaches m n (given_after now.given done) events (puts_of (comes_by n now done))

    by_one : One now deed.event deed.effects → Later → Whole
    by_one (creates within none sends_none) later =
        reached
        (let more : next.given ≤ given_after next.given (effects_of rest) = given_more next.given (effects_of rest) in
        omega (arith, within, more, end_is))
        (record {
          early = [];
          late = events;
          events_are = refl;
          put_is = put_are
              ∙ ap (λ (l : List Item). l ++ later_put) none
              ∙ deeds_there next rest of_rest within
              ∙ ap (λ (l : List Item). l ++ sent_to m (events_of rest) n) (sym sends_none);
          is_before = All-nil (IsBefore n);
        })
    by_one (passes beyond none is_before) (reached within cut) =
        reached (subst (λ k. n < k + 1) (sym end_is) within) (record {
          early = deed.event ∷ cut.early;
          late = cut.late;
          events_are = ap (λ (l : List Event). deed.event ∷ l) cut.events_are;
          put_is = put_are ∙ ap (λ (l : List Item). l ++ later_put) none ∙ cut.put_is;
          is_before = All-cons (IsBefore n) deed.event cut.early is_before cut.is_before;
        })
    by_one (passes beyond none is_before) (not_yet still put_none all_before) =
        not_yet (subst (λ k. k < n) (sym end_is) still)
        (put_are ∙ ap (λ (l : List Item). l ++ later_put) none ∙ put_none)
        (All-cons (IsBefore n) deed.event (events_of rest) is_before all_before)

    by_case : MakeNext system now.given deed.effects → IsByPid now.given deed.event → (now.given < n) ⊎ (n ≤ now.given)
        → Later → Whole
    by_case make by_pid (inl beyond) later =
        by_one (one_deed now beyond deed.event deed.effects of_one make by_pid) later
    by_case make by_pid (inr within) later =
        reached
        (let more : now.given ≤ given_after now.given done = given_more now.given done in omega (arith, within, more))
        (record {
          early = [];
          late = events;
          events_are = refl;
          put_is = deeds_there now (deed ∷ rest) (of_one, of_rest) (omega (arith, within));
          is_before = All-nil (IsBefore n);
        })

  none_cut : (now : Moment) → (now.given < n) ⊎ (n ≤ now.given) → Reaches m n now.given [] []
  none_cut now (inl beyond) = not_yet beyond refl (All-nil (IsBefore n))
  none_cut now (inr within) =
      reached (omega (arith, within)) (record {
        early = [];
        late = [];
        events_are = refl;
        put_is = refl;
        is_before = All-nil (IsBefore n);
      })

  pub deeds_cut : (now : Moment) (deeds : List Deed) → AreActs m deeds → MakeNext system now.given (effects_of deeds)
      → AreByPid now.given deeds
      → Reaches m n (given_after now.given (effects_of deeds)) (events_of deeds)
      (puts_of (comes_by n now (effects_of deeds)))
  deeds_cut now [] are make by_pid = none_cut now (cases_lt now.given n)
  deeds_cut now (deed ∷ rest) are make by_pid =
      let parts : MakeNext system now.given deed.effects
      × MakeNext system (given_after now.given deed.effects) (effects_of rest) =
      MakeNext-split system now.given deed.effects (effects_of rest) make in
      by_case now deed rest are.0 are.1 parts.0 by_pid.0 (cases_lt now.given n)
      (deeds_cut (after now deed.effects) rest are.1 parts.1 by_pid.1)

-- ---- all that happened

-- A step has acts of its instance, which is there, creates the next numbers, and names by its Pid whom it sends a
-- signal
-- before that is there. A line that is heard sends its signal, and nothing else is done; so does it.
abbrev pub IsOrderly : SystemValue → Moment → Happening → Type 0
IsOrderly system now (Moved who deeds) =
    (who.pid < now.given + 1) × AreActs who.pid deeds × MakeNext system now.given (effects_of deeds)
    × AreByPid now.given deeds
IsOrderly system now (Expired fuse) = Unit {0}
IsOrderly system now (Heard line effects) =
    (target : Target) × (effects ≡ line_effects line.signal target) × IsLineByPid now.given line.signal target
IsOrderly system now (Ticked time) = Unit {0}

abbrev pub AreOrderly : SystemValue → Moment → List Happening → Type 0
AreOrderly system now [] = Unit {0}
AreOrderly system now (first ∷ rest) = IsOrderly system now first × AreOrderly system (moment_after now first) rest

given_kept : (now : Moment) (happened : Happening) → now.given ≤ (moment_after now happened).given
given_kept now (Moved who deeds) = given_more now.given (effects_of deeds)
given_kept now (Expired fuse) = omega arith
given_kept now (Heard line effects) = given_more now.given effects
given_kept now (Ticked time) = omega arith

eq_of : (m n : ℕ) → nat_eq m n ≡ true → m ≡ n
eq_of m n same = grind (arith, same)

module _ (system : SystemValue) (m n : ℕ) (first : 0 < n) where
  abbrev puts_in : Moment → List Happening → List Item
  puts_in now happenings = sends_from (Of m) n now happenings

  abbrev told : List Happening → List Event
  told happenings = events_of (deeds_of m happenings)

  own_acts : (who : Identity) (deeds : List Deed) → nat_eq who.pid m ≡ true → AreActs who.pid deeds → AreActs m deeds
  own_acts who deeds own are = subst (λ k. AreActs k deeds) (eq_of who.pid m own) are

  -- where one happening comes in full, and the rest too, all does
  join : (deeds : List Deed) (rest : List Happening) (put later : List Item) → put ≡ sent_to m (events_of deeds) n
      → later ≡ sent_to m (told rest) n
      → put ++ later ≡ sent_to m (events_of (deeds ++ deeds_of m rest)) n
  join deeds rest put later here more =
      ap (λ (l : List Item). l ++ later) here
      ∙ ap (λ (l : List Item). sent_to m (events_of deeds) n ++ l) more
      ∙ sym (sent_to-append m n (events_of deeds) (told rest))
      ∙ ap (λ (l : List Event). sent_to m l n) (sym (events_of-append deeds (deeds_of m rest)))

  -- all comes once the other is there
  pub all_there : (now : Moment) (happenings : List Happening) → AreOrderly system now happenings → n < now.given + 1
      → puts_in now happenings ≡ sent_to m (told happenings) n
  all_there now [] are within = refl
  all_there now (Moved who deeds ∷ rest) are within =
      by_test (nat_eq who.pid m) refl
      (all_there (moment_after now (Moved who deeds)) rest are.1
      (let kept : now.given ≤ given_after now.given (effects_of deeds) = given_more now.given (effects_of deeds) in
      omega (arith, within, kept))) where
        by_test : (b : Bool) → nat_eq who.pid m ≡ b
            → puts_in (moment_after now (Moved who deeds)) rest ≡ sent_to m (told rest) n
            → puts_of (comes_by n now (if b then effects_of deeds else []))
            ++ puts_in (moment_after now (Moved who deeds)) rest
            ≡ sent_to m (events_of ((if b then deeds else []) ++ deeds_of m rest)) n
        by_test true own more =
            join deeds rest (puts_of (comes_by n now (effects_of deeds)))
            (puts_in (moment_after now (Moved who deeds)) rest)
            (deeds_there system m n first now deeds (own_acts who deeds own are.0.1) within) more
        by_test false other more = more
  all_there now (Expired fuse ∷ rest) are within = all_there now rest are.1 within
  all_there now (Heard line effects ∷ rest) are within =
      all_there (moment_after now (Heard line effects)) rest are.1
      (let kept : now.given ≤ given_after now.given effects = given_more now.given effects in
      omega (arith, within, kept))
  all_there now (Ticked time ∷ rest) are within = all_there (moment_after now (Ticked time)) rest are.1 within

  -- all comes of one that has a number that isn't lesser
  pub all_behind : n < m + 1 → (now : Moment) (happenings : List Happening) → AreOrderly system now happenings
      → puts_in now happenings ≡ sent_to m (told happenings) n
  all_behind less now [] are = refl
  all_behind less now (Moved who deeds ∷ rest) are =
      by_test (nat_eq who.pid m) refl (all_behind less (moment_after now (Moved who deeds)) rest are.1) where
        by_test : (b : Bool) → nat_eq who.pid m ≡ b
            → puts_in (moment_after now (Moved who deeds)) rest ≡ sent_to m (told rest) n
            → puts_of (comes_by n now (if b then effects_of deeds else []))
            ++ puts_in (moment_after now (Moved who deeds)) rest
            ≡ sent_to m (events_of ((if b then deeds else []) ++ deeds_of m rest)) n
        by_test true own more =
            let same : who.pid ≡ m = eq_of who.pid m own in
            join deeds rest (puts_of (comes_by n now (effects_of deeds)))
            (puts_in (moment_after now (Moved who deeds)) rest)
            (deeds_there system m n first now deeds (own_acts who deeds own are.0.1)
            (omega (arith, less, same, are.0.0))) more
        by_test false other more = more
  all_behind less now (Expired fuse ∷ rest) are = all_behind less now rest are.1
  all_behind less now (Heard line effects ∷ rest) are =
      all_behind less (moment_after now (Heard line effects)) rest are.1
  all_behind less now (Ticked time ∷ rest) are = all_behind less (moment_after now (Ticked time)) rest are.1

  -- where the instance makes the step
  step_cut : (now : Moment) (deeds : List Deed) (rest : List Happening) (end : ℕ)
      → Reaches m n end (events_of deeds) (puts_of (comes_by n now (effects_of deeds)))
      → (later : List Item) → (n < end + 1 → later ≡ sent_to m (told rest) n) → Cut m n (told rest) later
      → Cut m n (events_of (deeds ++ deeds_of m rest)) (puts_of (comes_by n now (effects_of deeds)) ++ later)
  step_cut now deeds rest end (reached within cut) later all after = record {
    early = cut.early;
    late = cut.late ++ told rest;
    events_are = events_of-append deeds (deeds_of m rest)
        ∙ ap (λ (l : List Event). l ++ told rest) cut.events_are
        ∙ append_assoc cut.early cut.late (told rest);
    put_is = ap (λ (l : List Item). l ++ later) cut.put_is
        ∙ ap (λ (l : List Item). sent_to m cut.late n ++ l) (all within)
        ∙ sym (sent_to-append m n cut.late (told rest));
    is_before = cut.is_before;
  }
  step_cut now deeds rest end (not_yet beyond none all_before) later all after = record {
    early = events_of deeds ++ after.early;
    late = after.late;
    events_are = events_of-append deeds (deeds_of m rest)
        ∙ ap (λ (l : List Event). events_of deeds ++ l) after.events_are
        ∙ sym (append_assoc (events_of deeds) after.early after.late);
    put_is = ap (λ (l : List Item). l ++ later) none ∙ after.put_is;
    is_before = All-append (IsBefore n) (events_of deeds) after.early all_before after.is_before;
  }

  pub all_cut : (now : Moment) (happenings : List Happening) → AreOrderly system now happenings
      → Cut m n (told happenings) (puts_in now happenings)
  all_cut now [] are =
      record { early = []; late = []; events_are = refl; put_is = refl; is_before = All-nil (IsBefore n) }
  all_cut now (Moved who deeds ∷ rest) are =
      by_test (nat_eq who.pid m) refl (all_cut (moment_after now (Moved who deeds)) rest are.1) where
        by_test : (b : Bool) → nat_eq who.pid m ≡ b
            → Cut m n (told rest) (puts_in (moment_after now (Moved who deeds)) rest)
            → Cut m n (events_of ((if b then deeds else []) ++ deeds_of m rest))
            (puts_of (comes_by n now (if b then effects_of deeds else []))
            ++ puts_in (moment_after now (Moved who deeds)) rest)
        by_test true own after =
            step_cut now deeds rest (given_after now.given (effects_of deeds))
            (deeds_cut system m n first now deeds (own_acts who deeds own are.0.1) are.0.2 are.0.3)
            (puts_in (moment_after now (Moved who deeds)) rest)
            (λ within. all_there (moment_after now (Moved who deeds)) rest are.1 within) after
        by_test false other after = after
  all_cut now (Expired fuse ∷ rest) are = all_cut now rest are.1
  all_cut now (Heard line effects ∷ rest) are = all_cut (moment_after now (Heard line effects)) rest are.1
  all_cut now (Ticked time ∷ rest) are = all_cut (moment_after now (Ticked time)) rest are.1

-- ---- what is sent before

-- an output to the instance names it by its Pid
pub record IsSentTo (n : ℕ) (events : List Event) : Type 0 where
  pub signal : SignalId
  pub values : List Value
  pub among : Contains events (event.Output signal (dest.Pid (Of n)) values (Instance n))

abbrev pub NothingOr : ℕ → ℕ → List Event → Type 0
NothingOr m n events = (sent_to m events n ≡ []) ⊎ IsSentTo n events

later_sent : (m n : ℕ) (e : Event) (rest : List Event) → sent_by_one m n e ≡ [] → NothingOr m n rest
    → NothingOr m n (e ∷ rest)
later_sent m n e rest none (inl nothing) = inl (ap (λ (l : List Item). l ++ sent_to m rest n) none ∙ nothing)
later_sent m n e rest none (inr sent) =
    inr (record {
      signal = sent.signal;
      values = sent.values;
      among = Contains-append_right (e ∷ []) rest (event.Output sent.signal (dest.Pid (Of n)) sent.values (Instance n))
          sent.among;
    })

pub sent_before : (m n : ℕ) (events : List Event) → All (IsBefore n) events → NothingOr m n events
sent_before m n [] all = inl refl
sent_before m n (e ∷ rest) all =
    by_event e (All-head (IsBefore n) e rest all) (sent_before m n rest (All-tail (IsBefore n) e rest all)) where
      by_number : (signal : SignalId) (named : Dest) (values : List Value) (number : ℕ)
          → IsBefore n (event.Output signal named values (Instance number)) → (b : Bool) → nat_eq number n ≡ b
          → NothingOr m n rest → NothingOr m n (event.Output signal named values (Instance number) ∷ rest)
      by_number signal named values number before true own later =
          let same : number ≡ n = eq_of number n own in
          inr (record {
            signal = signal;
            values = values;
            among = (
              0,
              omega arith,
              ap (λ (to : Dest). event.Output signal to values (Instance number)) (before same)
                  ∙ ap (λ k. event.Output signal (dest.Pid (Of n)) values (Instance k)) same,
            );
          })
      by_number signal named values number before false other later =
          later_sent m n (event.Output signal named values (Instance number)) rest
          (ap (λ (b : Bool). if b then record { name = signal; values = values; sender = Of m } ∷ [] else []) other)
          later

      by_event : (e : Event) → IsBefore n e → NothingOr m n rest → NothingOr m n (e ∷ rest)
      by_event (event.Output signal named values (Instance number)) before later =
          by_number signal named values number before (nat_eq number n) refl later
      by_event (event.Output signal named values Env) before later =
          later_sent m n (event.Output signal named values Env) rest refl later
      by_event (event.Output signal named values Null) before later =
          later_sent m n (event.Output signal named values Null) rest refl later
      by_event (event.Output signal named values Nobody) before later =
          later_sent m n (event.Output signal named values Nobody) rest refl later
      by_event happened before later = later_sent m n happened rest refl later
