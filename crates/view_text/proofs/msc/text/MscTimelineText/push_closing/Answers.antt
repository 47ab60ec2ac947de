use Rattle.std.proofs.Common.{[], ◌∷◌, ◌++◌, codes}
use Rattle.sdl_report.specs.ReportText.{end_text}
use Rattle.std.specs.String.{string_bytes}
use Rattle.view_text.specs.MscText.{order_text}
use Rattle.view_text.proofs.Pushed.{grown, pushed}
use Rattle.view_text.proofs.msc.text.MscTimelineText.push_closing.Goals as goal

pub returns : goal.returns
returns c =
    let text = string_bytes c.args.text.now in
    let end = 10 ∷ codes "endmsc; /* " in
    let how = end_text c.args.self.now.cast.report.now in
    let order = order_text c.args.self.now.stuck in
    let close = codes " */" in
    pushed c.push_str-3.result _ text (end ++ how ++ order ++ close) (10 ∷ [])
    (grown text (end ++ how ++ order) close
    (grown text (end ++ how) order (grown text end how c.in_ok-push_str.ensures.bytes c.in_ok-push_end_text.ensures)
    c.in_ok-push_order.ensures) c.in_ok-push_str-2.ensures.bytes) c.push_str-3.ensures.bytes
