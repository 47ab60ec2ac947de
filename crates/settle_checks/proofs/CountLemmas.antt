-- The owners of ports, record by record.
use Rattle.std.proofs.Common.{◌≡◌, ◌∙◌, ◌<◌, ap, get_or, length, subst, sym, ℕ, List}
use Rattle.std.specs.declared.alloc.Global.{Global}
use Rattle.crossbeam_queue.specs.SegTies.{SegId}
use Rattle.input_port.specs.Ends.{HeldState}
use Rattle.port_model.specs.Ends.{OwnerState}
use Rattle.run_record.specs.Record.{RecordValue}
use Rattle.settle_checks.specs.Account.{AreOwnersOf, IsOwnerOf}

-- the owner of the next port
pub owner_next : (owners : ℕ → OwnerState) (ports : ℕ → SegId Global) (records : List RecordValue)
    (inboxes : List HeldState) (at n : ℕ) (trace : RecordValue) (inbox : HeldState)
    → AreOwnersOf owners ports records inboxes → at ≡ n → n < length inboxes → inbox ≡ get_or inboxes n inbox
    → at < length records → trace ≡ get_or records at trace → IsOwnerOf owners ports at trace inbox
owner_next owners ports records inboxes at n trace inbox are same within is below trace_is =
    let within_at : at < length inboxes = subst (λ k. k < length inboxes) (sym same) within in
    let is_at : inbox ≡ get_or inboxes at inbox = is ∙ ap (λ k. get_or inboxes k inbox) (sym same) in
    subst (λ (h : HeldState). IsOwnerOf owners ports at trace h) (sym is_at) (are at inbox within_at trace below trace_is)
