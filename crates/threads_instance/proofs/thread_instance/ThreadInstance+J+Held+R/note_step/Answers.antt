use Rattle.std.proofs.Common.{◌≡◌, length, subst}
use Rattle.std.specs.Prelude.{IfSome}
use Rattle.port_model.specs.Ends.{OwnerState}
use Rattle.port_model.specs.KeptWords.{Notes}
use Rattle.threads_instance.specs.ThreadInstance.{ThreadInstanceState}
use Rattle.threads_instance.proofs.CourseLemmas.{counted}
use Rattle.threads_instance.proofs.thread_instance.ThreadInstance+J+Held+R.note_step.Goals as goal

pub returns-clause-drawn : goal.returns-clause-drawn
returns-clause-drawn g c =
    subst (λ (m : ThreadInstanceState).
    Notes m.course.drawn (length m.instance.owner.drawn) c.note_count.new.counts) c.self.view_is
    (counted _ _ c.drawn-drawn.result _ c.note_count.ensures
    (subst (λ (o : OwnerState). IfSome c.drawn-drawn.result (λ count. count ≡ length o.drawn)) c.inbox.ensures
    c.drawn-drawn.ensures))
