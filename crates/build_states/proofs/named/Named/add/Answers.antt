use Rattle.std.proofs.Common.{◌∙◌, ◌++◌, ◌∷◌, [], ap, false, map, true}
use Rattle.std.proofs.lemmas.List.{map-append}
use Rattle.indexmap.proofs.CallerLemmas.{insert_entry-new}
use Rattle.build_names.proofs.NameLemmas.{none-of}
use Rattle.build_states.specs.Listed.{named_value, response_value}
use Rattle.build_states.proofs.AnswerLemmas.{is_named-found, with_signal-known, with_signal-new}
use Rattle.std.proofs.Common.{sym}
use Rattle.build_states.proofs.named.Named.add.Goals as goal

pub returns-in_ok-insert : goal.returns-in_ok-insert
returns-in_ok-insert c =
    let signal = c.args.signal in
    let response = c.args.response in
    let table = c.self.inside.by_signal in
    ap (map named_value) (c.in_ok-insert.ensures.entries
    ∙ insert_entry-new _ table signal response (none-of _ (sym c.if-not-contains_key.ensures)))
    ∙ map-append named_value table.entries ((signal, response) ∷ [])
    ∙ ap (λ named. named ++ (signal, response_value response.now) ∷ []) c.self.view_is
    ∙ with_signal-new c.args.self.now signal (response_value response.now)
    (is_named-found table.entries c.args.self.now signal false c.self.view_is c.if-not-contains_key.ensures)

pub returns-else-not-contains_key : goal.returns-else-not-contains_key
returns-else-not-contains_key c =
    with_signal-known c.args.self.now c.args.signal (response_value c.args.response.now)
    (is_named-found c.self.inside.by_signal.entries c.args.self.now c.args.signal true c.self.view_is
    c.if-not-contains_key.ensures)
