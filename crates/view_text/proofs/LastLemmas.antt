-- What the last event of a record says of how it closes.
use Rattle.std.proofs.Common.{◌≡◌, ◌-◌, ◌+◌, List, [], ◌∷◌, ◌++◌, length, slice_get, suc, Some, refl, ◌∙◌, ap, arith}
use Rattle.std.proofs.lemmas.List.{length_push}
use Rattle.port_model.specs.declared.values.value.Value.{Value}
use Rattle.run_record.specs.Entry.{event_of}
use Rattle.run_record.specs.Event.{Event}
use Rattle.run_record.specs.Record.{RecordValue}
use Rattle.run_record.specs.declared.entry.Entry.{Entry}
use Rattle.run_record.specs.declared.entry.Entry.TheVariants as kept
use Rattle.sdl_system.specs.System.{SystemValue}
use Rattle.view_text.specs.JsonText.{closing_json, last_event}

-- its values don't matter
closing-any : (system : SystemValue) (trace : RecordValue) (entry : Entry) (values : List Value)
    → closing_json system trace (Some (event_of entry values)) ≡ closing_json system trace (Some (event_of entry []))
closing-any system trace (kept.Start at) values = refl
closing-any system trace entry values = refl

last-push : (before : List Event) (last : Event) → last_event (before ++ last ∷ []) ≡ Some last
last-push [] last = refl
last-push (one ∷ before) last =
    let place : length ((one ∷ before) ++ last ∷ []) - 1 ≡ suc (length (before ++ last ∷ []) - 1) =
    (let some : length (before ++ last ∷ []) ≡ length before + 1 = length_push before last in omega arith) in
    ap (slice_get ((one ∷ before) ++ last ∷ [])) place ∙ last-push before last

-- how a record closes is said by its last entry
pub closing-last : (system : SystemValue) (trace : RecordValue) (events before : List Event) (entry : Entry)
    (values : List Value) → events ≡ before ++ event_of entry values ∷ []
    → closing_json system trace (last_event events) ≡ closing_json system trace (Some (event_of entry []))
closing-last system trace events before entry values is =
    ap (λ l. closing_json system trace (last_event l)) is
    ∙ ap (closing_json system trace) (last-push before (event_of entry values))
    ∙ closing-any system trace entry values
