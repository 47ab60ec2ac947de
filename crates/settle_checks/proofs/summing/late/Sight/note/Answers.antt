-- The event is one more.
use Rattle.std.proofs.Common.{◌∙◌, ◌++◌, ◌∷◌, [], List, ap, subst, sym}
use Rattle.run_record.specs.Entry.{event_of}
use Rattle.run_record.specs.Event.{Event}
use Rattle.settle_checks.proofs.LateLemmas.{sight_more, sight_nothing}
use Rattle.settle_checks.specs.Late.{IsSightOf}
use Rattle.settle_checks.specs.declared.summing.flows.Pass.{Pass}
use Rattle.settle_checks.specs.declared.summing.late.Sight.{Sight}
use Rattle.settle_checks.proofs.summing.late.Sight.note.Goals as goal
use Rattle.settle_checks.proofs.summing.late.Sight.note.Goals.{in-Some+in_ok-push, in_default}

pub returns : goal.returns
returns c = λ done values is.
    let e : Event = event_of c.args.entry values in
    let time = c.args.self.now.time in
    let passes = c.args.self.now.passes.items in
    let after = c.time_of-time.result in
    elim c.match-sent_by.branch [
      | in-Some+in_ok-push w ↦
          sight_more done e time after passes is (c.time_of-time.ensures values) w.in-Some.pass
          c.match-sent_by.self.passes.items
          (w.in-Some.ensures values) (ap (λ (s : Sight). s.passes.items) w.self-is ∙ w.in_ok-push.ensures.items)
      | in_default w ↦
          subst (λ (l : List Pass). IsSightOf (done ++ e ∷ []) after l)
          (sym (ap (λ (s : Sight). s.passes.items) w.self-is))
          (sight_nothing done e time after passes is (c.time_of-time.ensures values) (w.in_default.ensures values))
    ]
