use Rattle.std.proofs.Common.{◌≡◌, ◌∙◌, ap, subst, sym, ℕ, List, [], Option}
use Rattle.port_model.specs.Ends.{OwnerState}
use Rattle.input_port.specs.Kept.{senders_of}
use Rattle.port_model.specs.KeptWords.{IsKeptOf}
use Rattle.input_port.proofs.queue.receiver.Receiver.keep_puts.Goals as goal

pub invariant_of-self : goal.invariant_of-self
invariant_of-self c =
    let drawn = c.self.inside.pass.me.view.client.drawn in
    let none : drawn ≡ [] = ap (λ (o : OwnerState). o.drawn) c.self.view_is ∙ c.requires in (
      c.self.invariant.0,
      c.self.invariant.1,
      c.self.invariant.2,
      subst (λ (kept : Option (List ℕ)). IsKeptOf kept (senders_of drawn)) (sym c.new.ensures)
          (sym (ap senders_of none)),
    )
