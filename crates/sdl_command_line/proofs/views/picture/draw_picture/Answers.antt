use Rattle.std.proofs.lemmas.Result.{err_from_is_err_and}
use Rattle.sdl_command_line.proofs.DrawnLaws.{picture_drawn, picture_fails}
use Rattle.sdl_command_line.proofs.views.picture.draw_picture.Goals as goal

pub returns-in_err-write_picture-clause-err : goal.returns-in_err-write_picture-clause-err
returns-in_err-write_picture-clause-err g c =
    let residual = c.from_residual-in_err-write_picture in
    let p = err_from_is_err_and residual.result residual.ensures.1 in
    rw (p.1, p.2) (picture_fails _ c.args.form c.args.run.now _ _ c.requires c.in_err-write_picture.ensures.err)

pub returns-clause-ok : goal.returns-clause-ok
returns-clause-ok g c =
    picture_drawn c.args.form c.args.run.now _ _ _ c.requires c.in_ok-write_picture.ensures.ok
