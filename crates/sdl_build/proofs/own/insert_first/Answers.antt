use Rattle.std.proofs.Common.{sym}
use Rattle.sdl_build.proofs.OwnLemmas.{inserted, kept}
use Rattle.sdl_build.proofs.own.insert_first.Goals as goal

pub returns-in_ok-insert : goal.returns-in_ok-insert
returns-in_ok-insert g c =
    inserted c.args.names.now c.insert.new.self c.in_ok-from_str.field-0 _ _ c.in_ok-from_str.ensures.ok
    c.in_ok-insert.ensures.updates (sym c.if-not-contains_key.ensures)

pub returns-else-not-contains_key : goal.returns-else-not-contains_key
returns-else-not-contains_key g c = kept c.args.names.now _ _ (sym c.if-not-contains_key.ensures)
