use Rattle.std.proofs.Common.{◌≡◌, ◌∙◌, ◌++◌, ◌∷◌, [], Some, ap, cond, sym}
use Rattle.indexmap.specs.IndexMap.{get_by}
use Rattle.sdl_system.specs.declared.id.ConditionId.{ConditionId}
use Rattle.build_tables.specs.Grouped.{group_of, same_condition}
use Rattle.build_tables.proofs.WaitingLemmas.{group-added, group_kept, groups-kept, unwrapped}
use Rattle.build_tables.proofs.waiting.Waiting.add.Goals as goal

pub returns : goal.returns
returns c =
    let before = c.self.inside.by_condition in
    let after = c.insert.new.self in
    let condition = c.args.condition in
    let signal = c.args.signal in
    let pushed = c.in_ok-signals.signals in
    let old : (other : ConditionId) →
    group_kept (get_by (same_condition other) before) ≡ group_of c.args.self.now other =
    λ other. groups-kept before.entries other ∙ ap (λ groups. group_of groups other) c.self.view_is in
    let items =
    c.in_ok-signals.ensures
    ∙ ap (λ signals. signals.items ++ signal ∷ []) c.unwrap_or-signals.ensures
    ∙ ap (λ signals. signals ++ signal ∷ []) (unwrapped c.swap_remove.result c.new.result c.new.ensures.items)
    ∙ ap (λ kept. group_kept kept ++ signal ∷ []) c.swap_remove.ensures.value
    ∙ ap (λ signals. signals ++ signal ∷ []) (old condition) in
    λ other.
    sym (groups-kept after.entries other)
    ∙ ap group_kept
    (c.in_ok-insert.ensures.updates.0 other
    ∙ ap (λ rest. cond (same_condition condition other) (Some pushed) rest)
    (c.swap_remove.ensures.updates.0 other))
    ∙ group-added condition other pushed signal (get_by (same_condition other) before) (group_of c.args.self.now)
    (old other) items
