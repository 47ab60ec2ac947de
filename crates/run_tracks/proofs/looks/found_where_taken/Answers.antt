use Rattle.std.proofs.Common.{◌≡◌, ◌∙◌, false, true, ap, sym}
use Rattle.std.specs.List.{list_any}
use Rattle.std.specs.Prelude.{if◌then◌else◌, option_copied}
use Rattle.run_tracks.proofs.Priorities.{no_priority}
use Rattle.run_tracks.proofs.looks.found_where_taken.Goals as goal
use Rattle.run_tracks.specs.Looks.{found_where_taken, is_priority}
use Rattle.run_tracks.specs.declared.looks.MoreFound.TheVariants as found

pub returns : goal.returns
returns c =
    let none : list_any is_priority c.in-Some.table.now.selection ≡ false =
    no_priority c.in-Some.table.now.selection (λ has.
    let some : c.has_priority.result ≡ true = c.has_priority.ensures.1 has in
    let not = c.if-has_priority.false in
    let no : ⊥ = cc in
    no) in
    sym (ap (λ o. found_where_taken (option_copied o)) c.in-Some.is
    ∙ ap (λ b. if b then found.Nothing else found.Anything) none)
