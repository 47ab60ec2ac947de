-- Each expiry in the history of a port stands behind the set that it is of.
use Rattle.std.proofs.Common.{◌≡◌, ◌∙◌, ◌&&◌, ◌++◌, ◌==◌, append-nil, append_assoc, if◌then◌else◌, inl, inr, refl, subst, sym, ℕ, nat_le, Bool, true, false, List, [], ◌∷◌}
use Rattle.std.specs.Prelude.{All, Contains}
use Rattle.std.proofs.lemmas.List.Elements.{All-head, Contains-append_left, Contains-append_right}
use Rattle.port_model.specs.declared.inbox.entry.Fuse.{Fuse}
use Rattle.port_model.specs.History.{Expire, PortEvent, Put, Reset, Set, Stop, Take}
use Rattle.port_model.specs.declared.values.item.Item.{Item}
use Rattle.serial_order.specs.Execution.{Execution, Expired, Follows, Happening, Heard, Moved, Steps, Ticked, begins, goes}
use Rattle.serial_order.specs.RunState.{RunState, beginning}
use Rattle.serial_order.specs.Told.{Moment, comes_by, comes_by_one, expiry_by, first_moment, given_after_one, history_of, history_of_one, is_there, put_by}
use Rattle.run_record.specs.declared.evaluation.identity.Identity.{Identity}
use Rattle.laws_timers.proofs.Arms.{Among, contained}
use Rattle.laws_timers.proofs.Dues.{moment_from}
use Rattle.laws_timers.proofs.Numbers.{eq_is, eq_of}
use Rattle.laws_timers.proofs.Sets.{IsSetBy, execution_set, heard_arms, history_more, set_of, step_arms}
use Rattle.laws_timers.specs.Fused.{ExpiriesFollowSets, FollowSets, WasSet}
use Rattle.run_semantics.specs.Effect.{Effect, Arm, Create, Deed, Send, effects_of, calls_of}
use Rattle.run_semantics.specs.Runs.{own_of}
use Rattle.sdl_script.specs.declared.script.ScriptLine.{ScriptLine}
use Rattle.sdl_system.specs.Behaviour.{Behaviour}
use Rattle.sdl_system.specs.System.{SystemValue}
use Rattle.sdl_system.specs.declared.route.Target.{Target}
use Rattle.sdl_system.specs.declared.route.Target.TheVariants.{Env, Instance, Nobody, Null}

-- ---- histories

-- the sets of these expiries all stand in what happened before
abbrev AreOf : List PortEvent → List PortEvent → Type 0
AreOf before [] = Unit {0}
AreOf before (Expire key arm due at ∷ rest) = Contains before (Set key due arm) × AreOf before rest
AreOf before (event ∷ rest) = AreOf before rest

of_longer : (before more events : List PortEvent) → AreOf before events → AreOf (before ++ more) events
of_longer before more [] are = tt
of_longer before more (Put item ∷ rest) are = of_longer before more rest are
of_longer before more (Expire key arm due at ∷ rest) are =
    (Contains-append_left before more (Set key due arm) are.0, of_longer before more rest are.1)
of_longer before more (Take classes taken ∷ rest) are = of_longer before more rest are
of_longer before more (Set key due arm ∷ rest) are = of_longer before more rest are
of_longer before more (Reset key ∷ rest) are = of_longer before more rest are
of_longer before more (Stop ∷ rest) are = of_longer before more rest are

follow_of : (before events : List PortEvent) → AreOf before events → FollowSets before events
follow_of before [] are = tt
follow_of before (Put item ∷ rest) are =
    follow_of (before ++ Put item ∷ []) rest (of_longer before (Put item ∷ []) rest are)
follow_of before (Expire key arm due at ∷ rest) are = (
  are.0,
  follow_of (before ++ Expire key arm due at ∷ []) rest (of_longer before (Expire key arm due at ∷ []) rest are.1),
)
follow_of before (Take classes taken ∷ rest) are =
    follow_of (before ++ Take classes taken ∷ []) rest (of_longer before (Take classes taken ∷ []) rest are)
follow_of before (Set key due arm ∷ rest) are =
    follow_of (before ++ Set key due arm ∷ []) rest (of_longer before (Set key due arm ∷ []) rest are)
follow_of before (Reset key ∷ rest) are =
    follow_of (before ++ Reset key ∷ []) rest (of_longer before (Reset key ∷ []) rest are)
follow_of before (Stop ∷ rest) are = follow_of (before ++ Stop ∷ []) rest (of_longer before (Stop ∷ []) rest are)

-- what happened before, as it is cut between two lists
one_on : (before rest later : List PortEvent) (event : PortEvent) → FollowSets (before ++ event ∷ rest) later
    → FollowSets ((before ++ event ∷ []) ++ rest) later
one_on before rest later event follow =
    subst (λ (list : List PortEvent). FollowSets list later) (sym (append_assoc before (event ∷ []) rest)) follow

follow_append : (before first later : List PortEvent) → FollowSets before first → FollowSets (before ++ first) later
    → FollowSets before (first ++ later)
follow_append before [] later follow more =
    subst (λ (list : List PortEvent). FollowSets list later) (append-nil before) more
follow_append before (Put item ∷ rest) later follow more =
    follow_append (before ++ Put item ∷ []) rest later follow (one_on before rest later (Put item) more)
follow_append before (Expire key arm due at ∷ rest) later follow more = (
  follow.0,
  follow_append (before ++ Expire key arm due at ∷ []) rest later follow.1
      (one_on before rest later (Expire key arm due at) more),
)
follow_append before (Take classes taken ∷ rest) later follow more =
    follow_append (before ++ Take classes taken ∷ []) rest later follow
    (one_on before rest later (Take classes taken) more)
follow_append before (Set key due arm ∷ rest) later follow more =
    follow_append (before ++ Set key due arm ∷ []) rest later follow (one_on before rest later (Set key due arm) more)
follow_append before (Reset key ∷ rest) later follow more =
    follow_append (before ++ Reset key ∷ []) rest later follow (one_on before rest later (Reset key) more)
follow_append before (Stop ∷ rest) later follow more =
    follow_append (before ++ Stop ∷ []) rest later follow (one_on before rest later Stop more)

module _ (before : List PortEvent) where
  of_append : (first later : List PortEvent) → AreOf before first → AreOf before later → AreOf before (first ++ later)
  of_append [] later are more = more
  of_append (Put item ∷ rest) later are more = of_append rest later are more
  of_append (Expire key arm due at ∷ rest) later are more = (are.0, of_append rest later are.1 more)
  of_append (Take classes taken ∷ rest) later are more = of_append rest later are more
  of_append (Set key due arm ∷ rest) later are more = of_append rest later are more
  of_append (Reset key ∷ rest) later are more = of_append rest later are more
  of_append (Stop ∷ rest) later are more = of_append rest later are more

  -- an owner's calls are no expiries
  own_are : (history : List PortEvent) → AreOf before (own_of history)
  own_are [] = tt
  own_are (Put item ∷ rest) = own_are rest
  own_are (Expire key arm due at ∷ rest) = own_are rest
  own_are (Take classes taken ∷ rest) = own_are rest
  own_are (Set key due arm ∷ rest) = own_are rest
  own_are (Reset key ∷ rest) = own_are rest
  own_are (Stop ∷ rest) = own_are rest

  of_if : (b : Bool) (events : List PortEvent) → (b ≡ true → AreOf before events)
      → AreOf before (if b then events else [])
  of_if true events are = are refl
  of_if false events are = tt

  put_of : (n : ℕ) (target : Target) (item : Item) → AreOf before (put_by n target item)
  put_of n (Instance number) item = of_if (number == n) (Put item ∷ []) (λ same. tt)
  put_of n Env item = tt
  put_of n Null item = tt
  put_of n Nobody item = tt

  expiry_of : (n at : ℕ) (fuse : Fuse) → (fuse.pid ≡ n → Contains before (set_of fuse))
      → AreOf before (expiry_by n at fuse)
  expiry_of n at fuse was =
      of_if (fuse.pid == n) (Expire fuse.key fuse.arm fuse.due at ∷ []) (λ same. (was (eq_of fuse.pid n same), tt))

  module _ (n : ℕ) where
    comes_of : (now : Moment) (done : List Effect)
        → ((fuse : Fuse) → Among (Arm fuse) done → fuse.pid ≡ n → Contains before (set_of fuse))
        → AreOf before (comes_by n now done)
    comes_of now [] was = tt
    comes_of now (effect ∷ rest) was =
        of_append (comes_by_one n now effect) (comes_by n (record now { given = given_after_one now.given effect }) rest)
        (by_effect effect (λ fuse same. was fuse (inl same)))
        (comes_of (record now { given = given_after_one now.given effect }) rest (λ fuse is. was fuse (inr is))) where
          by_effect : (effect : Effect) → ((fuse : Fuse) → Arm fuse ≡ effect → fuse.pid ≡ n → Contains before (set_of fuse))
              → AreOf before (comes_by_one n now effect)
          by_effect (Send target item) was =
              of_if (is_there n now) (put_by n target item) (λ there. put_of n target item)
          by_effect (Arm fuse) was =
              of_if (is_there n now && nat_le fuse.due now.clock) (expiry_by n now.clock fuse)
              (λ has_come. expiry_of n now.clock fuse (was fuse refl))
          by_effect (Create process number parent values) was = tt

-- ---- one happening

module _ (ps : List Behaviour) (time : ℕ) (system : SystemValue) (happenings : List Happening) (n : ℕ) where
  abbrev before : List PortEvent
  before = history_of system n happenings

  abbrev now : Moment
  now = moment_from (first_moment system) happenings

  step_calls : (g : RunState) (who : Identity) (deeds : List Deed) (h : RunState) → Steps ps g who deeds h
      → AreOf before (calls_of deeds)
  step_calls g who deeds h step =
      subst (λ (list : List Deed). AreOf before (calls_of list)) step.deeds_are
      (subst (λ (calls : List PortEvent). AreOf before calls) step.goes.own (own_are before step.goes.history))

  moved_follow : (g : RunState) (who : Identity) (deeds : List Deed) (h : RunState) → Steps ps g who deeds h
      → FollowSets before (history_of_one n now (Moved who deeds))
  moved_follow g who deeds h step =
      let calls : List PortEvent = if who.pid == n then calls_of deeds else [] in
      follow_append before calls (comes_by n now (effects_of deeds))
      (follow_of before calls
      (of_if before (who.pid == n) (calls_of deeds) (λ same. step_calls g who deeds h step)))
      (follow_of (before ++ calls) (comes_by n now (effects_of deeds))
      (comes_of (before ++ calls) n now (effects_of deeds)
      (λ fuse is own.
      let set_by : IsSetBy who.pid (calls_of deeds) fuse = step_arms ps g who deeds h step fuse is in
      subst (λ (b : Bool). Contains (before ++ (if b then calls_of deeds else [])) (set_of fuse))
      (sym (eq_is who.pid n (sym set_by.own ∙ own)))
      (Contains-append_right before (calls_of deeds) (set_of fuse)
      (contained (set_of fuse) (calls_of deeds) set_by.call)))))

  follow_one : (g : RunState) (next : Happening) (h : RunState) → Follows ps time g next h
      → All (WasSet system happenings) g.fuses → FollowSets before (history_of_one n now next)
  follow_one g (Moved who deeds) h step were = moved_follow g who deeds h step
  follow_one g (Expired fuse) h expires were =
      let was : WasSet system happenings fuse =
      All-head (WasSet system happenings) fuse expires.later
      (subst (λ (list : List Fuse). All (WasSet system happenings) list) expires.first were) in
      follow_of before (history_of_one n now (Expired fuse))
      (of_if before (is_there n now) (expiry_by n now.clock fuse)
      (λ there.
      expiry_of before n now.clock fuse
      (λ own. subst (λ k. Contains (history_of system k happenings) (set_of fuse)) own was)))
  follow_one g (Heard line done) h hear were =
      follow_of before (comes_by n now done)
      (comes_of before n now done
      (λ fuse is own.
      heard_arms (λ (f : Fuse). Contains before (set_of f)) g line.signal fuse
      (subst (λ (list : List Effect). Among (Arm fuse) list) hear.effects_are is)))
  follow_one g (Ticked clock) h tick were = tt

-- ---- all that happened

execution_follows : (ps : List Behaviour) (system : SystemValue) (lines : List ScriptLine) (time : ℕ)
    {happenings : List Happening} {last : RunState} → Execution ps time (beginning system lines) happenings last → (n : ℕ)
    → FollowSets [] (history_of system n happenings)
execution_follows ps system lines time begins n = tt
execution_follows ps system lines time (goes {happenings = happenings} {at = at} execution next to follows) n =
    let history : List PortEvent = history_of system n happenings in
    let one : List PortEvent = history_of_one n (moment_from (first_moment system) happenings) next in
    subst (λ (list : List PortEvent). FollowSets [] list)
    (sym (history_more n (first_moment system) happenings next))
    (follow_append [] history one (execution_follows ps system lines time execution n)
    (follow_one ps time system happenings n at next to follows (execution_set ps system lines time execution)))

-- each expiry stands behind its set
pub expiries_follow_sets : ExpiriesFollowSets
expiries_follow_sets ps system lines time happenings last behaviours execution n =
    execution_follows ps system lines time execution n
