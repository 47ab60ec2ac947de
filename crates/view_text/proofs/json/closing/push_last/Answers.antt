-- The last entry says it of the last event.
use Rattle.std.proofs.Common.{◌≡◌, ◌++◌, ◌∙◌, List, [], ℕ, ap, append-nil, subst, sym}
use Rattle.std.specs.Prelude.{OnOk}
use Rattle.std.specs.String.{string_bytes}
use Rattle.view_text.specs.JsonText.{closing_json, last_event}
use Rattle.view_text.proofs.LastLemmas.{closing-last}
use Rattle.view_text.proofs.json.closing.push_last.Goals as goal

pub returns-in-Some : goal.returns-in-Some
returns-in-Some c =
    let last = c.in-Some.ensures in
    subst
    (λ (l : List ℕ).
    OnOk c.push_closed.result (string_bytes c.push_closed.new.text ≡ string_bytes c.args.text.now ++ l))
    (sym (closing-last c.args.system.now c.args.record.now c.args.record.now.events last.0 c.in-Some.told.entry
    c.in-Some.told.values.now last.1)) c.push_closed.ensures

pub returns-in-None : goal.returns-in-None
returns-in-None c =
    let system = c.args.system.now in
    let trace = c.args.record.now in
    let path : closing_json system trace (last_event trace.events) ≡ [] =
    ap (λ events. closing_json system trace (last_event events)) c.in-None.ensures in
    sym (append-nil (string_bytes c.args.text.now)) ∙ ap (λ l. string_bytes c.args.text.now ++ l) (sym path)
