use Rattle.std.proofs.Common.{◌∙◌, sym, subst, Bool}
use Rattle.sdl_interp.proofs.Instances.{Closes, closes_cut, closes_ended, closes_resting, closes_unstarted}
use Rattle.sdl_interp.specs.Instance.{InstanceValue, IsAtRest, IsClosed}
use Rattle.run_record.specs.Record.{RecordValue}
use Rattle.sdl_interp.specs.declared.transitions.machine.Position.{Position}
use Rattle.sdl_interp.proofs.instance.Instance.close.Goals as goal
use Rattle.sdl_interp.proofs.instance.Instance.close.Goals.{in-BeforeStart, in-In, in-In-2, in-Ended}

pub returns-clause-closed : goal.returns-clause-closed
returns-clause-closed g c =
    let i = c.self.inside in
    let shared : Bool = g.P.Inbox.shared in
    let owning = g.P.Inbox.owning in
    let since = g.P.Inbox.since in
    let whole : Bool = c.args.whole in
    let trace : RecordValue = c.match-position.trace in
    let closes : Closes owning since i.core shared whole trace i.position =
    elim c.match-position.branch [
      | in-BeforeStart w ↦
          subst (λ (p : Position). Closes owning since i.core shared whole trace p) (sym w.in-BeforeStart.is)
          (closes_unstarted owning since i.core shared whole trace (w.trace-is ∙ w.cut.ensures))
      | in-In w ↦
          subst (λ (p : Position). Closes owning since i.core shared whole trace p) (sym w.in-In.is)
          (closes_resting owning since i.core shared whole trace w.in-In.state w.if-whole.true
          (w.trace-is ∙ w.rest.ensures))
      | in-In-2 w ↦
          subst (λ (p : Position). Closes owning since i.core shared whole trace p) (sym w.in-In-2.is)
          (closes_cut owning since i.core shared whole trace w.in-In-2.state w.if-whole.false
          (w.trace-is ∙ w.cut-in-In-2.ensures))
      | in-Ended w ↦
          subst (λ (p : Position). Closes owning since i.core shared whole trace p) (sym w.in-Ended.is)
          (closes_ended owning since i.core shared whole trace w.trace-is)
    ] in
    subst (λ (x : InstanceValue). IsClosed shared whole x trace) c.self.view_is
    (closes c.self.invariant
    (λ is_whole. subst (λ (x : InstanceValue). IsAtRest x) (sym c.self.view_is) (c.requires is_whole)))
