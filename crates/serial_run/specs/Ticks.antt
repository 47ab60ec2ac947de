-- Where all rest the clock may move: the law that the sweeps ask of instances.
use Rattle.std.proofs.Common.{◌≡◌, ◌∙◌, ◌+◌, ◌≤◌, ℕ, min, List, [], ◌∷◌, None, Option, Some, All, ap, arith, length, map, refl, subst, sym}
use Rattle.std.proofs.lemmas.List.Elements.{All-contains, All-cons, All-head, All-map, All-nil, All-tail, All-weaker}
use Rattle.std.proofs.lemmas.Option.{none-some}
use Rattle.std.specs.Prelude.{Bool}
use Rattle.port_model.specs.declared.inbox.entry.Fuse.{Fuse}
use Rattle.port_model.specs.Timers.{IsLeast, earlier}
use Rattle.sdl_script.specs.declared.script.ScriptLine.{ScriptLine}
use Rattle.sdl_timers.proofs.Thinning.{thins_all}
use Rattle.sdl_timers.specs.DueOrder.{IsInOrder}
use Rattle.sdl_timers.specs.Thinned.{Thins}
use Rattle.serial_run.specs.Serial.{IsSerial, state_of}
use Rattle.serial_run.specs.Thinned.{IsThinned, is_spent_in}
use Rattle.serial_run.specs.declared.instances.Instances.{Instances}
use Rattle.serial_order.specs.Execution.{IsNoFuseBefore, IsNoLineBefore, IsNothingDue, Rests, Ticked, Ticks, next_line}
use Rattle.serial_order.specs.RunState.{RunState}
use Rattle.sdl_interp.specs.Instance.{IsAtRest}
use Rattle.serial_run.specs.Advances.{Advances, Reaches}
use Rattle.serial_run.specs.Clearing.{all_late, with_all}
use Rattle.serial_run.specs.ExecutionLaws.{advances_one, notes_none}
use Rattle.serial_run.specs.Meanings.{all_rest, next_same, nothing_due}
use Rattle.serial_run.specs.Winding.{IsToWind, Wound, least_first, wound}
use Rattle.serial_sweeps.specs.Sweeps.{IsTick, Moment, ticked, until}
use Rattle.sdl_system.specs.Behaviour.{Behaviour}

abbrev dues : List Fuse → List ℕ
dues fuses = map (λ (fuse : Fuse). fuse.due) fuses

-- ---- the next time

up_to : (due : ℕ) (line : Option ℕ) (time : ℕ) → earlier (Some due) line ≡ Some time → time ≤ due
up_to due None time is = let same : due ≡ time = cc in omega (arith, same)
up_to due (Some at) time is = let same : min due at ≡ time = cc in omega (arith, same)

-- no fuse comes before it
times_late : (times : List ℕ) (due line : Option ℕ) (time : ℕ) → IsLeast times due → earlier due line ≡ Some time
    → All (λ (one : ℕ). time ≤ one) times
times_late times None line time least is =
    let none : times ≡ [] = least in
    subst (All (λ (one : ℕ). time ≤ one)) (sym none) (All-nil (λ (one : ℕ). time ≤ one))
times_late times (Some due) line time least is =
    let low : time ≤ due = up_to due line time is in
    All-weaker (λ (one : ℕ). due ≤ one) (λ (one : ℕ). time ≤ one) (λ one high. omega (arith, low, high)) times least.1

fuses_late : (time : ℕ) (fuses : List Fuse) → All (λ (one : ℕ). time ≤ one) (dues fuses) → IsNoFuseBefore time fuses
fuses_late time [] all = All-nil (λ (fuse : Fuse). time ≤ fuse.due)
fuses_late time (fuse ∷ more) all =
    All-cons (λ (fuse : Fuse). time ≤ fuse.due) fuse more
    (All-head (λ (one : ℕ). time ≤ one) fuse.due (dues more) all)
    (fuses_late time more (All-tail (λ (one : ℕ). time ≤ one) fuse.due (dues more) all))

-- nor a line
line_late : (due : Option ℕ) (lines : List ScriptLine) (time : ℕ) → earlier due (next_line lines) ≡ Some time
    → IsNoLineBefore time lines
line_late due [] time is = tt
line_late None (line ∷ later) time is = let same : line.at ≡ time = cc in omega (arith, same)
line_late (Some due) (line ∷ later) time is = let same : min due line.at ≡ time = cc in omega (arith, same)

-- and it isn't before what nothing comes before
not_before : (low : ℕ) (times : List ℕ) (due : Option ℕ) (lines : List ScriptLine) (time : ℕ)
    → All (λ (one : ℕ). low ≤ one) times → IsNoLineBefore low lines → IsLeast times due
    → earlier due (next_line lines) ≡ Some time → low ≤ time
not_before low times None [] time all none least is = absurd (none-some time is)
not_before low times None (line ∷ later) time all none least is =
    let same : line.at ≡ time = cc in omega (arith, same, none)
not_before low times (Some due) [] time all none least is =
    let same : due ≡ time = cc in
    let high : low ≤ due = All-contains (λ (one : ℕ). low ≤ one) times due all least.0 in
    omega (arith, same, high)
not_before low times (Some due) (line ∷ later) time all none least is =
    let same : min due line.at ≡ time = cc in
    let high : low ≤ due = All-contains (λ (one : ℕ). low ≤ one) times due all least.0 in
    omega (arith, same, high, none)

-- ---- the same time is the next one with some spent fuses more, if none of these comes before it

-- the least time of these fuses makes it the next one
pub record IsNextOf (fuses : List Fuse) (lines : List ScriptLine) (time : ℕ) : Type 0 where
  pub due : Option ℕ
  pub least : IsLeast (dues fuses) due
  pub is_next : earlier due (next_line lines) ≡ Some time

no_due : (due : Option ℕ) (line : Option ℕ) (time : ℕ) → IsLeast [] due → earlier due line ≡ Some time
    → earlier None line ≡ Some time
no_due None line time least is = is
no_due (Some due) line time least is =
    absurd (All-contains (λ (one : ℕ). ⊥) [] due (All-nil (λ (one : ℕ). ⊥)) least.0)

-- a time that is no later than the least one, and not before the next
first_due : (first : ℕ) (times : List ℕ) (due : Option ℕ) (lines : List ScriptLine) (time : ℕ) → time ≤ first
    → All (λ (one : ℕ). first ≤ one) times → IsLeast times due → earlier due (next_line lines) ≡ Some time
    → earlier (Some first) (next_line lines) ≡ Some time
first_due first times None [] time low all least is = absurd (none-some time is)
first_due first times None (line ∷ later) time low all least is =
    let same : line.at ≡ time = cc in
    let now : min first line.at ≡ time = omega (arith, same, low) in ap Some now
first_due first times (Some due) [] time low all least is =
    let same : due ≡ time = cc in
    let high : first ≤ due = All-contains (λ (one : ℕ). first ≤ one) times due all least.0 in
    let now : first ≡ time = omega (arith, same, high, low) in ap Some now
first_due first times (Some due) (line ∷ later) time low all least is =
    let same : min due line.at ≡ time = cc in
    let high : first ≤ due = All-contains (λ (one : ℕ). first ≤ one) times due all least.0 in
    let now : min first line.at ≡ time = omega (arith, same, high, low) in ap Some now

next_again : (spent : Fuse → Bool) (fuses left : List Fuse) (lines : List ScriptLine) (due : Option ℕ) (time : ℕ)
    → IsInOrder fuses → Thins spent fuses left → IsNoFuseBefore time fuses → IsLeast (dues left) due
    → earlier due (next_line lines) ≡ Some time → IsNextOf fuses lines time
next_again spent [] left lines due time ordered none late least is = record {
  due = None;
  least = refl;
  is_next = no_due due (next_line lines) time (subst (λ (list : List Fuse). IsLeast (dues list) due) none least) is;
}
next_again spent (fuse ∷ more) left lines due time ordered thins late least is =
    let same : fuse.due ≤ fuse.due = omega arith in
    let all : IsNoFuseBefore fuse.due left =
    thins_all spent (λ (one : Fuse). fuse.due ≤ one.due) (fuse ∷ more) left thins
    (all_late fuse.due fuse more ordered same) in
    record {
      due = Some fuse.due;
      least = least_first fuse more ordered;
      is_next = first_due fuse.due (dues left) due lines time
          (All-head (λ (one : Fuse). time ≤ one.due) fuse more late)
          (All-map (λ (one : ℕ). fuse.due ≤ one) (λ (one : Fuse). one.due) left all) least is;
    }

-- ---- the clock moves

module _ (last time : ℕ) (ready : List ℕ) (m : Moment) (a : Instances) (serial : IsSerial ready a)
    (all : All IsAtRest a.instances.items) (tick : IsTick last m time) (ps : List Behaviour)
    (rests : All (Rests ps) a.instances.items) (fuses : List Fuse)
    (thinned : IsThinned (record (state_of m a) { fuses = fuses }) (state_of m a)) where
  abbrev from : RunState
  from = record (state_of m a) { fuses = fuses }

  is_next : earlier tick.next.due (next_line m.script) ≡ Some time
  is_next = ap (earlier tick.next.due) (next_same m.script) ∙ tick.next.is_next

  to_wind : IsToWind ps last from m.fuses time
  to_wind =
      let due : IsNothingDue (state_of m a) = nothing_due m a tick.nothing_due in
      record {
        rest = rests;
        in_order = thinned.in_order;
        thins = thinned.thins;
        no_fuse = fuses_late time m.fuses
            (times_late (dues m.fuses) tick.next.due (next_line m.script) time tick.next.least is_next);
        no_line = line_late tick.next.due m.script time is_next;
        none_due = due.lines;
        within = λ none. let bound = tick.next.within none in omega (arith, bound);
      }

  before : until m ≤ time
  before =
      let due : IsNothingDue (state_of m a) = nothing_due m a tick.nothing_due in
      not_before (until m) (dues m.fuses) tick.next.due m.script time
      (All-map (λ (one : ℕ). until m ≤ one) (λ (one : Fuse). one.due) m.fuses due.fuses) due.lines tick.next.least
      is_next

  ticks_on : (kept : Option (List ℕ)) → Advances ps last m a kept from (ticked m time a.living.given) a kept
  ticks_on kept =
      let n : Moment = ticked m time a.living.given in
      let w : Wound ps last from m.fuses time = wound ps last m.fuses time from to_wind in
      let at : RunState =
      record from { clock = w.clock; until = w.until; turn = w.turn; bound = w.bound; fuses = w.fuses } in
      let to : RunState =
      record at { clock = time; until = time + 1; turn = 0; bound = length a.instances.items } in
      let next : IsNextOf w.fuses m.script time =
      next_again (is_spent_in a.instances.items) w.fuses m.fuses m.script tick.next.due time w.in_order w.thins
      w.no_fuse tick.next.least is_next in
      let within : w.until ≤ time = w.within before in
      let ticks : Ticks ps last at time to = record {
        due = next.due;
        nothing_due = record {
          fuses = All-weaker (λ (one : Fuse). time ≤ one.due) (λ (one : Fuse). w.until ≤ one.due)
              (λ one late. omega (arith, within, late)) w.fuses w.no_fuse;
          lines = w.no_line;
        };
        rest = rests;
        least = next.least;
        is_next = next.is_next;
        within = tick.next.within;
        now = refl;
      } in
      let thinned_to : IsThinned to (state_of n a) = record {
        same = ap (λ bound. state_of (ticked m time bound) a) (ap (λ living. living.given) serial.living);
        in_order = w.in_order;
        thins = w.thins;
      } in
      advances_one ps last m n a a kept kept from at to w.happenings w.execution w.none w.nobody (Ticked time) ticks
      thinned_to (omega arith) (λ spent. let some = tick.some in absurd (omega (arith, some, spent))) (notes_none kept)
      refl

pub tick_reaches : (last time : ℕ) (ready : List ℕ) (m : Moment) (a : Instances) (kept : Option (List ℕ))
    → IsSerial ready a → All IsAtRest a.instances.items → IsTick last m time
    → Reaches last m a kept (ticked m time a.living.given) a kept
tick_reaches last time ready m a kept serial all tick = λ ps behaviours g thinned.
    let is = with_all g (state_of m a) thinned in
    subst (λ (x : RunState). Advances ps last m a kept x (ticked m time a.living.given) a kept) is
    (ticks_on last time ready m a serial all tick ps (all_rest ps a behaviours serial all) g.fuses
    (subst (λ (x : RunState). IsThinned x (state_of m a)) (sym is) thinned) kept)
