use Rattle.std.proofs.Common.{◌++◌, [], ◌∷◌, Option, sym, subst}
use Rattle.build_process.proofs.AddedLemmas.{stand-more, stand-none}
use Rattle.build_process.specs.Added.{Enters, Stand}
use Rattle.build_statements.specs.Built.{table_of}
use Rattle.sdl_system.specs.declared.id.NodeId.{NodeId}
use Rattle.build_process.proofs.added.note_entry.Goals as goal

pub returns-in_ok-push-in-Some : goal.returns-in_ok-push-in-Some
returns-in_ok-push-in-Some c = λ before found last stand enter.
    let added = c.args.added.now in
    let table = table_of added.table in
    subst (λ list. Stand table list added.is_whole (found ++ last ∷ [])) (sym c.in_ok-push-in-Some.ensures.items)
    (stand-more before table added.entries.items added.is_whole found last c.in-Some.node stand
    (subst (λ (place : Option NodeId). Enters before table place last) c.in-Some.is enter))

pub returns-in-None : goal.returns-in-None
returns-in-None c = λ before found last stand enter.
    let added = c.args.added.now in
    let table = table_of added.table in
    stand-none before table added.entries.items added.is_whole found last stand
    (subst (λ (place : Option NodeId). Enters before table place last) c.in-None.is enter)
