use Rattle.std.proofs.Common.{◌∙◌, ◌++◌, ◌∷◌, [], ap, map, sym}
use Rattle.std.proofs.lemmas.List.{map-append}
use Rattle.indexmap.proofs.CallerLemmas.{insert_entry-new}
use Rattle.build_states.specs.Shared.{known_in, same_turns}
use Rattle.build_states.proofs.ShareLemmas.{same-mapped}
use Rattle.build_states.proofs.known.Known.add.Goals as goal

pub returns : goal.returns
returns c =
    let table = c.self.inside.by_turns in
    let turns = c.args.turns in
    ap (map (λ entry. (entry.0.now, entry.1)))
    (c.in_ok-insert.ensures.entries
    ∙ insert_entry-new _ table turns c.args.table
    (sym (same-mapped (same_turns turns.now) table.entries) ∙ ap (λ known. known_in known turns.now) c.self.view_is
    ∙ c.requires))
    ∙ map-append (λ entry. (entry.0.now, entry.1)) table.entries ((turns, c.args.table) ∷ [])
    ∙ ap (λ known. known ++ (turns.now, c.args.table) ∷ []) c.self.view_is
