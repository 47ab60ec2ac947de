use Rattle.build_states.specs.Answered.{answers_value}
use Rattle.build_states.proofs.AnswerLemmas.{mention-added, mention-noted}
use Rattle.build_states.proofs.answers.Answers.add_mentions.Goals as goal

pub loop-mention-preserved : goal.loop-mention-preserved
loop-mention-preserved c =
    let first = answers_value c.args.self.now in
    let xs = c.args.mentions.now in
    let i = c.loop-mention.mention-index in
    let x = c.mention-item.result in
    let self = answers_value c.loop-mention.self in
    let before = c.loop-mention.invariant.added in
    record {
      added = mention-added first xs i x c.loop-mention-test.true c.mention-item.is self before
          _ c.in_ok-add_mention.ensures.added;
      noted = mention-noted first xs i x c.loop-mention-test.true c.mention-item.is self before
          _ _ _ c.loop-mention.invariant.noted c.in_ok-add_mention.ensures.noted;
    }
