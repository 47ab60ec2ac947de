use Rattle.std.proofs.Common.{arith, refl}
use Rattle.std.proofs.KnownBytes.{Keeps-trans}
use Rattle.std.proofs.lemmas.Result.{IfOk-weaker}
use Rattle.sdl_engine.specs.Answer.{carried}
use Rattle.sdl_engine.proofs.FailedLaws.{says_as}
use Rattle.sdl_engine.proofs.text.run_and_note.Goals as goal

pub returns-clause-quiet : goal.returns-clause-quiet
returns-clause-quiet g c = λ refused cut none order.
    Keeps-trans _ _ _
    (c.tell-told.ensures.quiet cut
    (λ tells. grind (arith, c.keep_texts.ensures.kept, c.note_refusal.ensures.rest, none tells)) order)
    (Keeps-trans _ _ _ (c.note_refusal.ensures.refused refused) c.keep_texts.ensures.quiet)

pub returns-clause-silent : goal.returns-clause-silent
returns-clause-silent g c = λ asked cut none order.
    Keeps-trans _ _ _
    (c.tell-told.ensures.quiet cut
    (λ tells. grind (arith, c.keep_texts.ensures.kept, c.note_refusal.ensures.rest, none tells)) order)
    (Keeps-trans _ _ _ (c.note_refusal.ensures.asked asked) c.keep_texts.ensures.quiet)

pub returns-clause-told_failed : goal.returns-clause-told_failed
returns-clause-told_failed g c =
    let notes = c.keep_texts.new.notes in
    let before = c.tell-told.new.notes in
    IfOk-weaker c.tell-told.result _ _
    (λ how says. record {
      input = c.in_ok-input.input;
      read = c.in_ok-input.ensures.ok;
      says = says_as c.in_ok-input.input (carried g.E.Runner.threaded c.args.options.now) how before.stuck notes.stuck
          before.failed notes.failed _ _
          (grind (arith, c.keep_texts.ensures.kept, c.note_refusal.ensures.rest))
          (grind (arith, c.keep_texts.ensures.kept, c.note_refusal.ensures.rest)) says;
    })
    (c.tell-told.ensures.told_failed refl)
