use Rattle.std.proofs.Common.{◌≡◌, ◌∙◌, ap, subst, take}
use Rattle.std.specs.Io.KnownBytes.{Appends}
use Rattle.sdl_report.specs.Gathered.{BreaksOff}
use Rattle.sdl_report.proofs.GatheredLemmas.{Breaks-part, OnErr-any}
use Rattle.sdl_report.proofs.page.Page.send.Goals as goal

pub returns-in_err-write_text-clause-err : goal.returns-in_err-write_text-clause-err
returns-in_err-write_text-clause-err g c =
    let held = g.W.Write.contents c.args.writer.now in
    let after = g.W.Write.contents c.write_text.new.writer in
    let same : c.split_at.result.0.now ≡ c.args.self.now =
    c.split_at.ensures.front ∙ ap (take c.self.inside.end) c.deref.ensures.value ∙ c.self.view_is in
    OnErr-any c.from_residual.result
    (Breaks-part held after c.args.self.now (subst (BreaksOff held after) same c.in_err-write_text.ensures.err))

pub returns-clause-sent : goal.returns-clause-sent
returns-clause-sent g c =
    subst (Appends (g.W.Write.contents c.args.writer.now) (g.W.Write.contents c.write_text.new.writer))
    (c.split_at.ensures.front ∙ ap (take c.self.inside.end) c.deref.ensures.value ∙ c.self.view_is)
    c.in_ok-write_text.ensures.ok
