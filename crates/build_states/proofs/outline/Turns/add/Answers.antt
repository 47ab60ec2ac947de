use Rattle.std.proofs.Common.{◌≡◌, ◌∙◌, ℕ, List, None, Some, ap, cond, sym}
use Rattle.std.specs.Str.{bytes_eq}
use Rattle.std.proofs.lemmas.Map.Text.{hash_map_updates_str}
use Rattle.indexmap.specs.IndexMap.{get_by}
use Rattle.build_states.specs.Outlined.{with_turn}
use Rattle.build_states.specs.Turned.{turns_of}
use Rattle.build_states.proofs.ShareLemmas.{turn-added, turns-kept, turns_kept, unwrapped}
use Rattle.build_states.proofs.outline.Turns.add.Goals as goal

pub returns : goal.returns
returns c =
    let before = c.self.inside.by_name in
    let between = c.swap_remove.new.self in
    let after = c.insert.new.self in
    let name = c.args.name.now in
    let turn = c.args.turn in
    let pushed = c.in_ok-turns.turns in
    let old : (text : List ℕ) → turns_kept (get_by (λ key. bytes_eq text key.now) before) ≡ turns_of c.args.self.now text =
    λ text. turns-kept before.entries text ∙ ap (λ table. turns_of table text) c.self.view_is in
    let items =
    c.in_ok-turns.ensures
    ∙ ap (λ turns. with_turn turns.items turn) c.unwrap_or-turns.ensures
    ∙ ap (λ turns. with_turn turns turn) (unwrapped c.swap_remove.result c.new.result c.new.ensures.items)
    ∙ ap (λ kept. with_turn (turns_kept kept) turn) c.swap_remove.ensures.value
    ∙ ap (λ turns. with_turn turns turn) (old name) in
    λ text.
    sym (turns-kept after.entries text)
    ∙ ap turns_kept
    (hash_map_updates_str name between after (Some pushed) c.in_ok-insert.ensures.updates text
    ∙ ap (λ rest. cond (bytes_eq name text) (Some pushed) rest)
    (hash_map_updates_str name before between None c.swap_remove.ensures.updates text))
    ∙ turn-added name text pushed turn (get_by (λ key. bytes_eq text key.now) before) (turns_of c.args.self.now)
    (old text) items
