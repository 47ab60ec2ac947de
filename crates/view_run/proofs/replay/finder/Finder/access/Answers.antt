use Rattle.std.proofs.Common.{◌≡◌, ◌∙◌, Some, ap, subst, sym}
use Rattle.std.specs.Prelude.{option_copied}
use Rattle.run_order.specs.Kept.{IsThere}
use Rattle.run_order.specs.Noted.{ReplayState}
use Rattle.view_run.proofs.replay.finder.Finder.access.Goals as goal
use Rattle.view_run.specs.Telling.{puts_by}
use Rattle.run_tracks.specs.Tracks.{at_number}

pub returns-then-may_put : goal.returns-then-may_put
returns-then-may_put c =
    let tracks = c.args.self.now.tracks in
    let receiver = c.in-Instance.receiver in
    let port = c.in-Some-Some.port.now in
    let there : at_number tracks.ports receiver ≡ Some port =
    sym c.port.ensures ∙ ap option_copied c.in-Some-Some.is-1 in (
      c.in-Instance.is,
      subst (λ (r : ReplayState). IsThere r.order receiver) c.replay.ensures
          (c.is_there.ensures.0 c.if-is_there.true),
      ap (puts_by c.args.number) there ∙ sym c.may_put.ensures ∙ c.if-may_put.true,
    )
