-- What a node does, whatever stands where it begins.
use Rattle.port_model.specs.declared.values.value.Value.{Value}
use Rattle.run_record.specs.Environment.{environment}
use Rattle.run_record.specs.Value as evaluated
use Rattle.run_record.specs.declared.evaluation.store.Store.{Store}
use Rattle.run_record.specs.declared.failure.Failure.TheVariants.{Memory}
use Rattle.run_record.specs.declared.failure.Failure.{Failure}
use Rattle.run_semantics.proofs.Goes.{goes_on, goes_turn, wrong_here, wrong_on}
use Rattle.run_semantics.specs.Fails.{Fails, IsTooLong}
use Rattle.run_semantics.specs.Goes.{AreInner, Goes, GoesWrong, MachineValue}
use Rattle.run_semantics.specs.Leads.{Counts}
use Rattle.run_semantics.specs.ControlPoint.{Amid, Definition, Doing, Ended, In}
use Rattle.run_semantics.specs.World.{WorldValue}
use Rattle.sdl_interp.proofs.Deeds.{goes_ended, goes_to_same, goes_to_state}
use Rattle.sdl_interp.proofs.Heads.{Decided, LeadsOn, acts_here, counted_joins, decided_here, ends_here, is_state, is_there, leads_on, same_fails, undecided}
use Rattle.sdl_interp.proofs.Walks.{Ends}
use Rattle.sdl_interp.specs.Running.{CoreValue}
use Rattle.sdl_interp.specs.Walk.{ActsAs, CantChoose, ChoosesWay, EntersNone, FailsToAct, IsEntered, IsPassed, IsPlain, IsStopped, Visits, VisitsWrong, marks_of}
use Rattle.sdl_interp.specs.Work.{Does, DoesWrong, IsOf, amid, behind}
use Rattle.sdl_interp.specs.declared.transitions.machine.Position.{Position}
use Rattle.sdl_system.specs.Body as body
use Rattle.sdl_system.specs.Body.{Action, Body, Terminator, Whither, chosen, followed}
use Rattle.sdl_system.specs.System.{SystemValue}
use Rattle.sdl_system.specs.Table.{At, Joined, action_of, terminator_of}
use Rattle.sdl_system.specs.Term.{term_of}
use Rattle.sdl_system.specs.Walk.{GoesOn}
use Rattle.sdl_system.specs.declared.id.LabelId.{LabelId}
use Rattle.sdl_system.specs.declared.id.NodeId.{NodeId}
use Rattle.sdl_system.specs.declared.id.StateId.{StateId}
use Rattle.sdl_system.specs.declared.process.Process.{Process}
use Rattle.sdl_system.specs.declared.statement.Assignment.{Assignment}
use Rattle.sdl_system.specs.declared.statement.Creation.{Creation}
use Rattle.sdl_system.specs.declared.statement.Decision.{Decision}
use Rattle.sdl_system.specs.declared.statement.Node.{Node}
use Rattle.sdl_system.specs.declared.statement.Output.{Output}
use Rattle.sdl_system.specs.declared.statement.Setting as set
use Rattle.sdl_system.specs.declared.statement.Statement.TheVariants as kind
use Rattle.sdl_system.specs.declared.statement.Statement.{Statement}
use Rattle.sdl_system.specs.declared.statement.TimerUse.{TimerUse}
use Rattle.sdl_system.specs.declared.statement.Way.{Way}
use Rattle.std.proofs.Common.{Global, Vec, ◌≡◌, ◌∙◌, sym, ap, subst, inl, inr, refl, true, List, [], Option, Some}

abbrev node_with : Statement → Option NodeId → Node
node_with statement next = record { statement = statement; next = next }

-- ---- lists

-- what is behind the last entry of a list is done
module _ (d : Definition) (origin : Option StateId) (rest : Body) (m : MachineValue) (w : WorldValue) where
  pub task_done : Goes AreInner d (Amid origin (body.task []) rest) m w (Doing origin rest) m w
  task_done = goes_turn d (Amid origin (body.task []) rest) (Doing origin rest) m m w (refl, refl) refl refl refl refl

  pub output_done : (to : Option Whither)
      → Goes AreInner d (Amid origin (body.output [] to) rest) m w (Doing origin rest) m w
  output_done to =
      goes_turn d (Amid origin (body.output [] to) rest) (Doing origin rest) m m w (refl, refl) refl refl refl refl

  pub set_done : Goes AreInner d (Amid origin (body.set []) rest) m w (Doing origin rest) m w
  set_done = goes_turn d (Amid origin (body.set []) rest) (Doing origin rest) m m w (refl, refl) refl refl refl refl

  pub reset_done : Goes AreInner d (Amid origin (body.reset []) rest) m w (Doing origin rest) m w
  reset_done = goes_turn d (Amid origin (body.reset []) rest) (Doing origin rest) m m w (refl, refl) refl refl refl refl

module _ (system : SystemValue) (process : Process) (s : Statement) where
  -- the action of the statement is done
  pub effects_as : (action : Action) (m n : MachineValue) (w v : WorldValue) → action_of s ≡ Some action
      → Does (IsOf system process) (amid action) m w behind n v → ActsAs system process (action_of s) m w n v
  effects_as action m n w v is does =
      subst (λ (o : Option Action). ActsAs system process o m w n v) (sym is) does

  -- one with a list is done, once its list is
  pub effects_listed : (all none : Action) (m n : MachineValue) (w v : WorldValue) → action_of s ≡ Some all
      → ((d : Definition) (origin : Option StateId) (rest : Body)
      → Goes AreInner d (Amid origin none rest) n v (Doing origin rest) n v)
      → Does (IsOf system process) (amid all) m w (amid none) n v → ActsAs system process (action_of s) m w n v
  effects_listed all none m n w v is done does = effects_as all m n w v is (λ d of origin rest.
      goes_on d (Amid origin all rest) (Amid origin none rest) (Doing origin rest) m n n w v v (does d of origin rest)
      (done d origin rest))

  -- it fails
  pub fails_to_act : (action : Action) (m n : MachineValue) (w v : WorldValue) (why : Failure)
      → action_of s ≡ Some action → DoesWrong (IsOf system process) (amid action) m w n v why
      → FailsToAct system process (action_of s) m w n v why
  fails_to_act action m n w v why is wrong =
      subst (λ (o : Option Action). FailsToAct system process o m w n v why) (sym is) wrong

-- where the statement has no action, nothing is done
pub effects_none : (system : SystemValue) (process : Process) (s : Statement) (m : MachineValue) (w : WorldValue)
    → ((list : Vec Assignment Global) → s ≡ kind.Task list → ⊥) → ((sends : Output) → s ≡ kind.Output sends → ⊥)
    → ((list : Vec set.Setting Global) → s ≡ kind.Set list → ⊥)
    → ((list : Vec TimerUse Global) → s ≡ kind.Reset list → ⊥)
    → ((creation : Creation) → s ≡ kind.Create creation → ⊥) → ActsAs system process (action_of s) m w m w
effects_none system process (kind.Task list) m w task output sets resets creates = absurd (task list refl)
effects_none system process (kind.Output sends) m w task output sets resets creates = absurd (output sends refl)
effects_none system process (kind.Set list) m w task output sets resets creates = absurd (sets list refl)
effects_none system process (kind.Reset list) m w task output sets resets creates = absurd (resets list refl)
effects_none system process (kind.Create creation) m w task output sets resets creates = absurd (creates creation refl)
effects_none system process (kind.Decision asked) m w task output sets resets creates = (refl, refl)
effects_none system process (kind.Join label) m w task output sets resets creates = (refl, refl)
effects_none system process (kind.NextState state) m w task output sets resets creates = (refl, refl)
effects_none system process kind.SameState m w task output sets resets creates = (refl, refl)
effects_none system process kind.Stop m w task output sets resets creates = (refl, refl)

module _ (system : SystemValue) (process : Process) (node : Node) (origin : Option StateId) (l : MachineValue)
    (w : WorldValue) where
  -- a statement that can't be counted fails, whatever it is
  pub visits_uncounted : (n : MachineValue) (why : Failure) → IsPassed node.statement → IsTooLong l.store why → n ≡ l
      → VisitsWrong system process node origin l w n w why
  visits_uncounted n why counted long same d is body.nothing heads = absurd heads
  visits_uncounted n why counted long same d is (body.action first rest) heads =
      wrong_here d (Doing origin (body.action first rest)) l n w w why (inr long) same refl
  visits_uncounted n why counted long same d is (body.decision question parts rest) heads =
      wrong_here d (Doing origin (body.decision question parts rest)) l n w w why (inr (inl long)) same refl
  visits_uncounted n why counted long same d is (body.label number rest) heads = absurd heads
  visits_uncounted n why counted long same d is (body.ending last) heads =
      let joins = counted_joins node.statement last counted heads in
      subst (λ (t : Terminator). GoesWrong d (Doing origin (body.ending t)) l w n w why) (sym joins.1)
      (wrong_here d (Doing origin (body.ending (body.join joins.0))) l n w w why (inr long) same refl)

  module _ (m : MachineValue) (counts : Counts l.store m.store) (is_counted : m ≡ record l { store = m.store }) where
    who_same : m.who ≡ l.who
    who_same = ap (λ (x : MachineValue). x.who) is_counted

    owner_same : m.owner ≡ l.owner
    owner_same = ap (λ (x : MachineValue). x.owner) is_counted

    events_same : m.events ≡ l.events
    events_same = ap (λ (x : MachineValue). x.events) is_counted

    time_same : m.store.time ≡ l.store.time
    time_same = ap (λ (s : Store). s.time) counts.1

    counted : (d : Definition) (first : Action) (rest : Body)
        → Goes AreInner d (Doing origin (body.action first rest)) l w (Amid origin first rest) m w
    counted d first rest =
        goes_turn d (Doing origin (body.action first rest)) (Amid origin first rest) l m w (refl, counts)
        who_same owner_same events_same time_same

    -- an action is counted, and done
    pub visits_action : (first : Action) (n : MachineValue) (v : WorldValue) → action_of node.statement ≡ Some first
        → Does (IsOf system process) (amid first) m w behind n v
        → Visits system process node origin l w node.next n v
    visits_action first n v effects does = λ d is todo number got heads.
        let here = acts_here process.nodes.items (marks_of is) node first todo effects heads in
        record {
          rest = here.0;
          stands = here.2;
          goes = subst (λ (b : Body). Goes AreInner d (Doing origin b) l w (Doing origin here.0) n v) (sym here.1)
              (goes_on d (Doing origin (body.action first here.0)) (Amid origin first here.0) (Doing origin here.0)
              l m n w w v (counted d first here.0) (does d is origin here.0));
        }

    -- it is counted, and fails
    pub visits_action_wrong : (first : Action) (n : MachineValue) (v : WorldValue) (why : Failure)
        → action_of node.statement ≡ Some first → DoesWrong (IsOf system process) (amid first) m w n v why
        → VisitsWrong system process node origin l w n v why
    visits_action_wrong first n v why effects does = λ d is todo heads.
        let here = acts_here process.nodes.items (marks_of is) node first todo effects heads in
        subst (λ (b : Body). GoesWrong d (Doing origin b) l w n v why) (sym here.1)
        (wrong_on d (Doing origin (body.action first here.0)) (Amid origin first here.0) l m n w w v why
        (counted d first here.0) (does d is origin here.0))

    -- a join is counted, and leads to what stands from its label on
    pub visits_join : (label : LabelId) → node.statement ≡ kind.Join label
        → Visits system process node origin l w node.next m w
    visits_join label stands_there = λ d is todo number got heads.
        let nodes : List Node = process.nodes.items in
        let ends = ends_here nodes (marks_of is) node (body.join label) todo (ap terminator_of stands_there) heads in
        let at : At nodes (Some number) (kind.Join label) node.next = record {
          node = number;
          here = refl;
          stands = got ∙ ap (λ (s : Statement). Some (node_with s node.next)) stands_there;
        } in
        let joined : Joined d.behaviour.bodies nodes (marks_of is) label node.next =
        is.behaves.means.bodies_are.joins (Some number) node.next label at in
        record {
          rest = joined.on;
          stands = joined.stands;
          goes = subst (λ (b : Body). Goes AreInner d (Doing origin b) l w (Doing origin joined.on) m w) (sym ends)
              (goes_turn d (Doing origin (body.ending (body.join label))) (Doing origin joined.on) l m w
              (counts, (joined.on, joined.label, refl)) who_same owner_same events_same time_same);
        }

    acted : (s : Statement) (n : MachineValue) (v : WorldValue) → node.statement ≡ s → IsPlain s
        → ActsAs system process (action_of s) m w n v → Visits system process node origin l w node.next n v
    acted (kind.Task list) n v is plain effects = visits_action _ n v (ap action_of is) effects
    acted (kind.Output sends) n v is plain effects = visits_action _ n v (ap action_of is) effects
    acted (kind.Set list) n v is plain effects = visits_action _ n v (ap action_of is) effects
    acted (kind.Reset list) n v is plain effects = visits_action _ n v (ap action_of is) effects
    acted (kind.Create creation) n v is plain effects = visits_action _ n v (ap action_of is) effects
    acted (kind.Decision asked) n v is plain effects = absurd plain
    acted (kind.Join label) n v is plain effects = rw (effects.0, effects.1) (visits_join label is)
    acted (kind.NextState state) n v is plain effects = absurd plain
    acted kind.SameState n v is plain effects = absurd plain
    acted kind.Stop n v is plain effects = absurd plain

    -- a statement that is no decision and no end is counted, and its action is done
    pub visits_acted : (n : MachineValue) (v : WorldValue) → IsPlain node.statement
        → ActsAs system process (action_of node.statement) m w n v
        → Visits system process node origin l w node.next n v
    visits_acted n v plain effects = acted node.statement n v refl plain effects

    acted_wrong : (s : Statement) (n : MachineValue) (v : WorldValue) (why : Failure) → node.statement ≡ s → IsPlain s
        → FailsToAct system process (action_of s) m w n v why → VisitsWrong system process node origin l w n v why
    acted_wrong (kind.Task list) n v why is plain fails = visits_action_wrong _ n v why (ap action_of is) fails
    acted_wrong (kind.Output sends) n v why is plain fails = visits_action_wrong _ n v why (ap action_of is) fails
    acted_wrong (kind.Set list) n v why is plain fails = visits_action_wrong _ n v why (ap action_of is) fails
    acted_wrong (kind.Reset list) n v why is plain fails = visits_action_wrong _ n v why (ap action_of is) fails
    acted_wrong (kind.Create creation) n v why is plain fails = visits_action_wrong _ n v why (ap action_of is) fails
    acted_wrong (kind.Decision asked) n v why is plain fails = absurd plain
    acted_wrong (kind.Join label) n v why is plain fails = absurd fails
    acted_wrong (kind.NextState state) n v why is plain fails = absurd plain
    acted_wrong kind.SameState n v why is plain fails = absurd plain
    acted_wrong kind.Stop n v why is plain fails = absurd plain

    -- or fails
    pub visits_acted_wrong : (n : MachineValue) (v : WorldValue) (why : Failure) → IsPlain node.statement
        → FailsToAct system process (action_of node.statement) m w n v why
        → VisitsWrong system process node origin l w n v why
    visits_acted_wrong n v why plain fails = acted_wrong node.statement n v why refl plain fails

    -- a decision is counted, and the way that it takes leads on
    pub visits_decision : (asked : Decision) (way : Way) → node.statement ≡ kind.Decision asked
        → ChoosesWay (environment system l.who l.store l.owner.state) asked way
        → Visits system process node origin l w way.0 m w
    visits_decision asked way stands_there chooses = λ d is todo number got heads.
        let nodes : List Node = process.nodes.items in
        let decided : Decided nodes (marks_of is) node asked todo =
        decided_here nodes (marks_of is) node asked todo stands_there heads in
        let value : Value = chooses.value in
        let goes : LeadsOn nodes (marks_of is) decided.rest way (chosen value decided.parts) =
        leads_on nodes (marks_of is) decided.rest way (chosen value decided.parts)
        (subst (λ (o : Option Way). GoesOn nodes (marks_of is) decided.rest o (chosen value decided.parts))
        chooses.takes (decided.goes value)) in
        let next : Body = followed goes.part decided.rest in
        record {
          rest = next;
          stands = goes.stands;
          goes = subst (λ (b : Body). Goes AreInner d (Doing origin b) l w (Doing origin next) m w) (sym decided.is)
              (goes_turn d (Doing origin (body.decision (term_of asked.question) decided.parts decided.rest))
              (Doing origin next) l m w (
                counts,
                (
                  next,
                  record {
                    value = value;
                    part = goes.part;
                    asked = ap (λ (x : SystemValue).
                        evaluated.value_of (environment x l.who l.store l.owner.state) (term_of asked.question))
                        is.system_is ∙ chooses.is;
                    takes = goes.takes;
                    goes_on = refl;
                  },
                  refl,
                ),
              ) who_same owner_same events_same time_same);
        }

  -- a decision that can't be counted, or has no way, fails
  pub visits_undecided : (asked : Decision) (n : MachineValue) (why : Failure) → node.statement ≡ kind.Decision asked
      → CantChoose (environment system l.who l.store l.owner.state) l.store asked why → n ≡ l
      → VisitsWrong system process node origin l w n w why
  visits_undecided asked n why stands_there cant same = λ d is todo heads.
      let decided : Decided process.nodes.items (marks_of is) node asked todo =
      decided_here process.nodes.items (marks_of is) node asked todo stands_there heads in
      subst (λ (b : Body). GoesWrong d (Doing origin b) l w n w why) (sym decided.is)
      (wrong_here d (Doing origin (body.decision (term_of asked.question) decided.parts decided.rest)) l n w w why
      (undecided process.nodes.items (marks_of is) node asked todo decided d l.who l.owner.state origin l.store why
      (subst (λ (x : SystemValue). CantChoose (environment x l.who l.store l.owner.state) l.store asked why)
      (sym is.system_is) cant)) same refl)

-- ---- the end of a transition

module _ (k : CoreValue) (node : Node) (origin : Option StateId) (w : WorldValue) where
  -- a state of the process is entered
  pub ends_in_state : (state : StateId) (position : Position) (n : CoreValue) → node.statement ≡ kind.NextState state
      → IsEntered (Some state) k position n → Ends k.system k.process node origin k.work w position n.work w
  ends_in_state state position n stands_there enters =
      let to : StateId = enters.number in
      let same : state ≡ to = let is = enters.is in cc in
      rw enters.position_is (λ d is todo heads.
      let ends = ends_here k.process.nodes.items (marks_of is) node (body.to_state to) todo
      (ap terminator_of (stands_there ∙ ap (λ (x : StateId). kind.NextState x) same)) heads in
      subst (λ (b : Body). Goes AreInner d (Doing origin b) k.work w (In to) n.work w) (sym ends)
      (goes_to_state d origin to k.work n.work w (is_state k.system k.process d is to enters.there) enters.work))

  -- and the one from which the transition began
  pub ends_in_same : (position : Position) (n : CoreValue) → node.statement ≡ kind.SameState
      → IsEntered origin k position n → Ends k.system k.process node origin k.work w position n.work w
  ends_in_same position n stands_there enters =
      let to : StateId = enters.number in
      rw enters.position_is (λ d is todo heads.
      let ends = ends_here k.process.nodes.items (marks_of is) node body.to_same todo (ap terminator_of stands_there)
      heads in
      subst (λ (b : Body). Goes AreInner d (Doing origin b) k.work w (In to) n.work w) (sym ends)
      (subst (λ (from : Option StateId). Goes AreInner d (Doing from (body.ending body.to_same)) k.work w (In to) n.work
      w)
      (sym enters.is) (goes_to_same d to k.work n.work w (is_state k.system k.process d is to enters.there)
      enters.work)))

  -- the instance ends
  pub ends_stopped : (position : Position) (n : CoreValue) → node.statement ≡ kind.Stop
      → k.work.owner.state.alive ≡ true → IsStopped k position n
      → Ends k.system k.process node origin k.work w position n.work w
  ends_stopped position n stands_there alive stops = rw stops.0 (λ d is todo heads.
      let ends = ends_here k.process.nodes.items (marks_of is) node body.stop todo (ap terminator_of stands_there) heads
      in
      subst (λ (b : Body). Goes AreInner d (Doing origin b) k.work w Ended n.work w) (sym ends)
      (goes_ended d origin k.work n.work w alive stops.1))

  -- what fails where it ends
  ends_wrong : (last : Terminator) (n : CoreValue) (why : Failure) → terminator_of node.statement ≡ Some last
      → ((d : Definition) → IsOf k.system k.process d
      → Fails d k.work.who k.work.owner.state (Doing origin (body.ending last)) k.work.store why)
      → n.work ≡ k.work → VisitsWrong k.system k.process node origin k.work w n.work w why
  ends_wrong last n why stands_there fails same = λ d is todo heads.
      let ends = ends_here k.process.nodes.items (marks_of is) node last todo stands_there heads in
      subst (λ (b : Body). GoesWrong d (Doing origin b) k.work w n.work w why) (sym ends)
      (wrong_here d (Doing origin (body.ending last)) k.work n.work w w why (fails d is) same refl)

  pub ends_in_no_state : (state : StateId) (n : CoreValue) (why : Failure) → node.statement ≡ kind.NextState state
      → EntersNone (Some state) k.process why → n.work ≡ k.work
      → VisitsWrong k.system k.process node origin k.work w n.work w why
  ends_in_no_state state n why stands_there none same =
      ends_wrong (body.to_state state) n why (ap terminator_of stands_there)
      (λ d is. elim none [
        | inl memory ↦ inl (memory, tt)
        | inr missing ↦ inr (missing.0, λ there. missing.1 (is_there k.system k.process d is state there))
      ]) same

  pub ends_in_none_again : (n : CoreValue) (why : Failure) → node.statement ≡ kind.SameState
      → EntersNone origin k.process why → n.work ≡ k.work
      → VisitsWrong k.system k.process node origin k.work w n.work w why
  ends_in_none_again n why stands_there none same =
      ends_wrong body.to_same n why (ap terminator_of stands_there)
      (λ d is. same_fails k.system k.process d is k.work.who k.work.owner.state origin k.work.store why none) same

  pub ends_unstopped : (n : CoreValue) (why : Failure) → node.statement ≡ kind.Stop → why ≡ Memory
      → n.work ≡ k.work → VisitsWrong k.system k.process node origin k.work w n.work w why
  ends_unstopped n why stands_there memory same =
      ends_wrong body.stop n why (ap terminator_of stands_there) (λ d is. inl (memory, tt)) same
