use Rattle.std.proofs.Common.{◌≡◌, ◌∙◌, ap, length, rules, sym}
use Rattle.std.proofs.Crossing.{crosses}
use denote.Param.Send.{sendable}
use Rattle.sdl_report.proofs.Crossing.{names}
use Rattle.sdl_report.proofs.WorkersPieceLemmas.{joined-same}
use Rattle.sdl_report.specs.declared.workers.piece.Piece.{Piece}
use Rattle.sdl_report.proofs.workers.report_text.make_texts.Goals as goal

pub for_each_mut-requires-sync-F : goal.for_each_mut-requires-sync-F
for_each_mut-requires-sync-F g c κs within = search (names, sendable, crosses) depth 20

pub returns-clause-lines : goal.returns-clause-lines
returns-clause-lines g c =
    let same : length c.for_each_mut.new.s ≡ length c.args.pieces.now = search rules in
    joined-same c.args.pieces.now c.for_each_mut.new.s same
    (λ i d here.
    let change = (c.for_each_mut.ensures i d here).1 in
    ap (λ (piece : Piece). piece.lines) (sym change.left) ∙ change.call.0
    ∙ ap (λ (piece : Piece). piece.lines) change.argument_is)
