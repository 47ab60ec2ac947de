use Rattle.std.proofs.Common.{◌∙◌, ap, sym}
use Rattle.std.proofs.lemmas.Bool.{false≢true}
use Rattle.std.proofs.lemmas.List.{take_all}
use Rattle.build_routes.specs.Entries.{listed_at}
use Rattle.build_routes.specs.declared.receiver.Receiver.{Receiver}
use Rattle.build_routes.proofs.ReceiverLemmas.{listed_more, listed_on}
use Rattle.build_routes.proofs.receiver.listed.Goals as goal
use Rattle.build_routes.proofs.receiver.listed.Goals.{then-has_bit+in_ok-push, else-has_bit}

pub loop-receiver-preserved : goal.loop-receiver-preserved
loop-receiver-preserved c =
    let none : Receiver = record { process = record { 0 = 0 }; signals = 0 } in
    let receivers = c.args.receivers.now in
    let i = c.loop-receiver.receiver-index in
    let before = c.loop-receiver.list.items in
    elim c.if-has_bit.branch [
      | then-has_bit+in_ok-push w ↦
          listed_more c.args.place receivers i none before c.loop-receiver-test.true c.loop-receiver.invariant
          c.if-has_bit.list.items (c.has_bit.ensures.0 w.if-has_bit.true)
          (ap (λ x. x.items) w.list-is ∙ w.in_ok-push.ensures.items)
      | else-has_bit w ↦
          ap (λ x. x.items) w.list-is
          ∙ listed_on c.args.place receivers i none before c.loop-receiver-test.true c.loop-receiver.invariant
          (λ bit. false≢true (sym w.if-has_bit.false ∙ c.has_bit.ensures.1 bit))
    ]

pub returns : goal.returns
returns c =
    c.loop-receiver.invariant
    ∙ ap (listed_at c.args.place) (take_all c.loop-receiver.receiver-index c.args.receivers.now
    c.loop-receiver-test.false)
