use Rattle.std.proofs.Common.{◌∙◌, ◌++◌, ◌∷◌, [], ap, sym}
use Rattle.std.specs.Str.{bytes_eq}
use Rattle.indexmap.specs.IndexMap.{get_by}
use Rattle.indexmap.proofs.CallerLemmas.{insert_entry-new}
use Rattle.build_names.proofs.NameLemmas.{known-pushed, new-pushed, none-of}
use Rattle.build_names.proofs.scopes.names.Names.add.Goals as goal
use Rattle.build_names.proofs.scopes.names.Names.add.Goals.{then-not-contains_key+in_ok-insert, else-not-contains_key}

pub invariant_of-self-2 : goal.invariant_of-self-2
invariant_of-self-2 g c =
    let name = c.args.text in
    let what = c.args.what in
    let entries = c.self.inside.entries.items in
    let pushed = c.push.new.self.items in
    let table = c.self.inside.first in
    elim c.if-not-contains_key.branch [
      | then-not-contains_key+in_ok-insert w ↦ λ text.
          ap (λ inside. get_by (λ key. bytes_eq text key.now) inside.first) w.self-inside-is
          ∙ new-pushed table.entries w.insert.new.self.entries entries pushed name what
          (w.in_ok-insert.ensures.entries
          ∙ insert_entry-new _ table name what (none-of _ (sym w.if-not-contains_key.ensures)))
          (c.in_ok-push.ensures.items ∙ ap (λ inside. inside.entries.items ++ (name, what) ∷ []) w.self-inside-is
          ∙ ap (λ items. items ++ (name, what) ∷ []) c.in_ok-reserve.ensures.items)
          c.self.invariant text
      | else-not-contains_key w ↦ λ text.
          ap (λ inside. get_by (λ key. bytes_eq text key.now) inside.first) w.self-inside-is
          ∙ known-pushed (λ t. get_by (λ key. bytes_eq t key.now) table) entries pushed name what
          (c.in_ok-push.ensures.items ∙ ap (λ inside. inside.entries.items ++ (name, what) ∷ []) w.self-inside-is
          ∙ ap (λ items. items ++ (name, what) ∷ []) c.in_ok-reserve.ensures.items)
          c.self.invariant (sym w.if-not-contains_key.ensures) text
    ]
