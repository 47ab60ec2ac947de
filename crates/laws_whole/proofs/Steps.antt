-- What each step of a serial run gives: its acts, the next numbers, and no put by its own calls.
use Rattle.std.proofs.Common.{◌≡◌, ◌∙◌, ◌++◌, ◌+◌, ap, arith, length-append, refl, subst, sym, ℕ, List, [], ◌∷◌, None, Option, Some, length}
use Rattle.std.specs.List.{flat_map}
use Rattle.laws_creates.proofs.Creates.{deeds_whom, next_who, step_effects, step_makes, system_kept, who_count, whom}
use Rattle.laws_creates.proofs.Numbers.{Numbered, all_numbered}
use Rattle.laws_creates.specs.Creates.{created_in_one, identities}
use Rattle.laws_whole.proofs.Cuts.{AreOrderly, IsOrderly}
use Rattle.laws_whole.proofs.Hearing.{SendsItsSignal, line_effects, one_sends}
use Rattle.laws_whole.proofs.Naming.{AreByPid, IsLineByPid, deeds_named, line_named, world_knows}
use Rattle.laws_whole.proofs.Whos.{there_within}
use Rattle.run_record.specs.declared.evaluation.identity.Identity.{Identity}
use Rattle.run_semantics.specs.Effect.{Arm, Create, Deed, Effect, Send, effects_of}
use Rattle.sdl_interp.specs.Instance.{InstanceValue}
use Rattle.sdl_script.specs.declared.script.ScriptLine.{ScriptLine}
use Rattle.sdl_script.specs.declared.script.ScriptSignal.{ScriptSignal}
use Rattle.sdl_system.specs.Behaviour.{Behaviour}
use Rattle.sdl_system.specs.Route.{target_in}
use Rattle.sdl_system.specs.System.{SystemValue}
use Rattle.sdl_system.specs.declared.route.Source.TheVariants as source
use Rattle.sdl_system.specs.declared.route.Target.{Target}
use Rattle.sdl_system.specs.declared.route.Target.TheVariants.{Nobody}
use Rattle.serial_order.proofs.Made.{MakeNext}
use Rattle.serial_order.specs.Execution.{Execution, Expired, Follows, Happening, Heard, Moved, Steps, Ticked, begins, goes}
use Rattle.serial_order.specs.RunState.{RunState, beginning, heard_effects, living_of, world_at}
use Rattle.serial_order.specs.Told.{Moment, first_moment, given_after, moment_after}

-- ---- the moment behind all that happened

abbrev pub moment_from : Moment → List Happening → Moment
moment_from now [] = now
moment_from now (first ∷ rest) = moment_from (moment_after now first) rest

moment_from-append : (now : Moment) (happenings : List Happening) (next : Happening)
    → moment_from now (happenings ++ next ∷ []) ≡ moment_after (moment_from now happenings) next
moment_from-append now [] next = refl
moment_from-append now (first ∷ rest) next = moment_from-append (moment_after now first) rest next

orderly_append : (system : SystemValue) (now : Moment) (happenings : List Happening) (next : Happening)
    → AreOrderly system now happenings → IsOrderly system (moment_from now happenings) next
    → AreOrderly system now (happenings ++ next ∷ [])
orderly_append system now [] next are last = (last, tt)
orderly_append system now (first ∷ rest) next are last =
    (are.0, orderly_append system (moment_after now first) rest next are.1 last)

-- as many numbers are given as instances are created
given_count : (given : ℕ) (done : List Effect) → given_after given done ≡ given + length (flat_map whom done)
given_count given [] = omega arith
given_count given (Send target item ∷ rest) = given_count given rest
given_count given (Arm fuse ∷ rest) = given_count given rest
given_count given (Create process number parent values ∷ rest) =
    let later : given_after (given + 1) rest ≡ given + 1 + length (flat_map whom rest) = given_count (given + 1) rest in
    omega (arith, later)

line_given : (given : ℕ) (o : Option ScriptSignal) (target : Target) → given_after given (line_effects o target) ≡ given
line_given given None target = refl
line_given given (Some signal) target = refl

module _ (ps : List Behaviour) (system : SystemValue) (time : ℕ) where
  next_given : (g : RunState) (next : Happening) (h : RunState) → Follows ps time g next h → g.system ≡ system
      → SendsItsSignal next → (now : Moment) → now.given ≡ length g.instances
      → (moment_after now next).given ≡ length h.instances
  next_given g next h follows same sends now given =
      let all : length (identities h.instances) ≡ length (identities g.instances ++ created_in_one next) =
      ap (λ (l : List Identity). length l) (next_who ps system time g next h follows same) in
      let long : length h.instances ≡ length g.instances + length (created_in_one next) =
      omega (
        arith,
        all,
        length-append (identities g.instances) (created_in_one next),
        who_count h.instances,
        who_count g.instances,
      ) in
      by_next next follows sends (sym long) where
        by_next : (next : Happening) → Follows ps time g next h → SendsItsSignal next
            → length g.instances + length (created_in_one next) ≡ length h.instances
            → (moment_after now next).given ≡ length h.instances
        by_next (Moved who deeds) step sends long =
            let count : given_after now.given (effects_of deeds)
            ≡ now.given + length (flat_map whom (effects_of deeds)) = given_count now.given (effects_of deeds) in
            let made : length (flat_map whom (effects_of deeds)) ≡ length (created_in_one (Moved who deeds)) =
            ap (λ (l : List Identity). length l) (deeds_whom who.pid deeds (step_effects ps g who deeds h step)) in
            omega (arith, count, made, long, given)
        by_next (Expired fuse) expires sends long = omega (arith, given, long)
        by_next (Heard line effects) hears sends long =
            let none : given_after now.given effects ≡ now.given =
            ap (λ (l : List Effect). given_after now.given l) sends.1 ∙ line_given now.given line.signal sends.0 in
            omega (arith, none, given, long)
        by_next (Ticked at) tick sends long = omega (arith, given, long)

  -- what a step sends to one that is not there yet names it by its Pid
  step_by_pid : (g : RunState) (who : Identity) (deeds : List Deed) (h : RunState) → Steps ps g who deeds h
      → Numbered 1 (identities g.instances) → AreByPid (length g.instances) deeds
  step_by_pid g who deeds h step numbered =
      let old : InstanceValue = step.old in
      subst (λ (list : List Deed). AreByPid (length g.instances) list) step.deeds_are
      (deeds_named old.system old.who (world_at g) (length g.instances) old.store.time (world_knows g numbered)
      step.goes.deeds step.goes.are_true)

  -- and so does a line
  line_by_pid : (g : RunState) → Numbered 1 (identities g.instances) → (o : Option ScriptSignal)
      → (target : Target) × (heard_effects g o ≡ line_effects o target) × IsLineByPid (length g.instances) o target
  line_by_pid g numbered None = (Nobody, refl, tt)
  line_by_pid g numbered (Some signal) =
      let target : Target =
      target_in g.system.routes signal.item.name source.Env signal.to (living_of g.system g.instances).least in
      (target, refl, line_named g numbered signal target refl)

  next_orderly : (g : RunState) (next : Happening) (h : RunState) → Follows ps time g next h → g.system ≡ system
      → Numbered 1 (identities g.instances) → (now : Moment) → now.given ≡ length g.instances
      → IsOrderly system now next
  next_orderly g (Moved who deeds) h step same numbered now given = (
    omega (arith, (there_within g.instances who.pid step.old step.is_there).1, given),
    step_effects ps g who deeds h step,
    subst (λ k. MakeNext system k (effects_of deeds)) (sym given) (step_makes ps g who deeds h step system same),
    subst (λ k. AreByPid k deeds) (sym given) (step_by_pid g who deeds h step numbered),
  )
  next_orderly g (Expired fuse) h expires same numbered now given = tt
  next_orderly g (Heard line effects) h hears same numbered now given =
      let sent = line_by_pid g numbered line.signal in (
        sent.0,
        hears.effects_are ∙ sent.1,
        subst (λ k. IsLineByPid k line.signal sent.0) (sym given) sent.2,
      )
  next_orderly g (Ticked at) h tick same numbered now given = tt

-- what is so of all that happened
pub record AreAllOrderly (system : SystemValue) (happenings : List Happening) (last : RunState) : Type 0 where
  pub orderly : AreOrderly system (first_moment system) happenings
  pub given : (moment_from (first_moment system) happenings).given ≡ length last.instances

module _ (ps : List Behaviour) (system : SystemValue) (lines : List ScriptLine) (time : ℕ) where
  pub all_orderly : {happenings : List Happening} {last : RunState}
      → Execution ps time (beginning system lines) happenings last → AreAllOrderly system happenings last
  all_orderly begins = record { orderly = tt; given = refl }
  all_orderly (goes {happenings = happenings} {at = at} execution next to follows) =
      let before : AreAllOrderly system happenings at = all_orderly execution in
      let same : at.system ≡ system = system_kept ps system time execution in
      let now : Moment = moment_from (first_moment system) happenings in
      let sends : SendsItsSignal next =
      one_sends ps system lines time (happenings ++ next ∷ []) next (record {
        before = happenings;
        after = [];
        at = at;
        to = to;
        parted = refl;
        execution = execution;
        follows = follows;
      }) in
      record {
        orderly = orderly_append system (first_moment system) happenings next before.orderly
            (next_orderly ps system time at next to follows same (all_numbered ps system time execution) now
            before.given);
        given = ap (λ (m : Moment). m.given) (moment_from-append (first_moment system) happenings next)
            ∙ next_given ps system time at next to follows same sends now before.given;
      }
