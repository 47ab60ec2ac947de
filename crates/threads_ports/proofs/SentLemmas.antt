-- What a record sends, once one event more is noted.
use Rattle.std.proofs.Common.{◌≡◌, ◌∙◌, ap, append-nil, cond, nat_eq, sym, ℕ, List, [], ◌∷◌, ◌++◌}
use Rattle.std.proofs.lemmas.Grind.{flat_map-append}
use Rattle.port_model.specs.declared.values.item.Item.{Item}
use Rattle.port_model.specs.declared.values.pid.Pid.{Pid}
use Rattle.port_model.specs.declared.values.pid.Pid.TheVariants.{Of}
use Rattle.run_record.specs.Event.{Event}
use Rattle.sdl_system.specs.declared.route.Dest.{Dest}
use Rattle.run_semantics.specs.Sent.{output_of, sent_by_one, sent_to}

pub sent_to-append : (who : ℕ) (events : List Event) (happened : Event) (number : ℕ)
    → sent_to who (events ++ happened ∷ []) number ≡ sent_to who events number ++ sent_by_one who number happened
sent_to-append who events happened number =
    flat_map-append (sent_by_one who number) events (happened ∷ [])
    ∙ ap (λ l. sent_to who events number ++ l) (append-nil (sent_by_one who number happened))

-- a signal, as another sends it
abbrev sent_as : Item → Pid → Item
sent_as item sender = record { name = item.name; values = item.values; sender = sender }

pub sent_by_one-output : (who number to : ℕ) (item : Item) (named : Dest) → item.sender ≡ Of who
    → sent_by_one who number (output_of item named to) ≡ cond (nat_eq to number) (item ∷ []) []
sent_by_one-output who number to item named own =
    ap (λ (sender : Pid). cond (nat_eq to number) (sent_as item sender ∷ []) []) (sym own)
