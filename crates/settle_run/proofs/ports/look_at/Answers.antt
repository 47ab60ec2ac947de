-- The count, what the type of the port keeps, and the test.
use Rattle.std.proofs.Common.{◌≡◌, subst}
use Rattle.input_port.specs.Held.{IsKept}
use Rattle.port_model.specs.Ends.{OwnerState}
use Rattle.settle_closing.specs.History.{EndsAs}
use Rattle.settle_run.proofs.ports.look_at.Goals as goal

pub returns : goal.returns
returns g c = λ then.
    let counted = c.args.counted.now in
    let inbox : c.inbox-inbox.result.now.owner ≡ counted.owner = c.inbox-inbox.ensures in
    record {
      owner = counted.owner;
      counted = c.is_counted.ensures;
      kept = subst IsKept inbox c.is_kept.ensures;
      ends = subst
          (λ (o : OwnerState). EndsAs c.args.whole c.args.end c.args.trace.now.events (g.K.Fixed.owners counted.at) o)
          inbox
          ((c.ends_as.ensures (g.K.Fixed.owners counted.at) then).0 c.if-not-ends_as.false);
    }
