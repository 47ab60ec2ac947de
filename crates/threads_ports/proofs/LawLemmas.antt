-- What keeps the facts of senders, and where they lead.
use Rattle.std.proofs.Common.{◌≡◌, ◌∙◌, ap, append-nil, refl, sym, subst, inl, inr, ⊎_elim, [], ◌∷◌, ◌++◌}
use Rattle.port_model.specs.Put.{of}
use Rattle.input_port.proofs.PutLists.{of-append}
use Rattle.input_port.specs.Counts.{signals_in}
use Rattle.port_model.specs.declared.values.pid.Pid.TheVariants.{Of}
use Rattle.threads_ports.proofs.SendersKept.{last_none, last_of_same}
use Rattle.threads_ports.proofs.SentLemmas.{sent_to-append}
use Rattle.threads_ports.proofs.Signals.{signals_in-append}
use Rattle.threads_ports.specs.SenderLaws.{NobodyPuts, OthersPutNothing, OthersRecordNothing, SendersFillRows}
use Rattle.threads_ports.specs.Peers.{AreLast, put_by, put_to}
use Rattle.run_semantics.specs.Sent.{sent_by_one, sent_to}

pub nobody_puts : NobodyPuts
nobody_puts origin sends number = last_none origin (sends number)

pub others_put_nothing : OthersPutNothing
others_put_nothing origin sends more peers nothing last number =
    ⊎_elim
    (λ (same : more number ≡ sends number).
    last_of_same origin (sends number) (more number) (put_to peers number) same (last number))
    (λ (none : put_to peers number ≡ []).
    subst (AreLast origin (more number)) (sym none) (last_none origin (more number)))
    (nothing number)

pub others_record_nothing : OthersRecordNothing
others_record_nothing who events happened peers nothing last =
    others_put_nothing (Of who) (sent_to who events) (sent_to who (events ++ happened ∷ [])) peers
    (λ number. ⊎_elim
    (λ (sends : sent_by_one who number happened ≡ []).
    inl (sent_to-append who events happened number ∙ ap (λ l. sent_to who events number ++ l) sends
    ∙ append-nil (sent_to who events number)))
    (λ (none : put_to peers number ≡ []). inr none)
    (nothing number))
    last

pub senders_fill_rows : SendersFillRows
senders_fill_rows sends known origin sender last starts = record {
  put = put_by sender;
  many = refl;
  flows = record {
    own = last.own;
    more = signals_in (of sender.number starts.0);
    first = ap (λ l. signals_in (of sender.number l)) starts.1
        ∙ ap signals_in (of-append sender.number sender.seen starts.0)
        ∙ signals_in-append (of sender.number sender.seen) (of sender.number starts.0);
  };
  end = last.end;
}
