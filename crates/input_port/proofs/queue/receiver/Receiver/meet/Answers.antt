use Rattle.std.proofs.Common.{◌∙◌, ap, rules}
use Rattle.input_port.specs.QueueCalls.{popped_list}
use Rattle.input_port.proofs.Meeting.{comes_back, counted_more, given_back}
use Rattle.input_port.proofs.queue.receiver.Receiver.meet.Goals as goal

pub returns-clause-meet : goal.returns-clause-meet
returns-clause-meet g c = record {
  news = popped_list c.take_in-popped.result;
  draws = search rules;
  kept = search rules;
  told = search rules;
  port = search rules;
  number = search rules;
  own = comes_back c.args.sender c.again.result _ _ c.take_in-popped.new.pass.me.view.client _ c.take_in-popped.ensures.taken
      (search rules) (search rules) (search rules) (search rules) (search rules);
  seen = search rules;
}

pub invariant_of-self-2 : goal.invariant_of-self-2
invariant_of-self-2 g c = (
  given_back _ _ _ _ _ _ _ c.take_in-popped.ensures.taken c.split_again-pass.ensures.owner c.self.invariant.0.gathered_is
      (counted_more c.self.inside.pass.me.view.client.drawn _ (popped_list c.take_in-popped.result) _ _ c.take_in-popped.ensures.taken.drawn c.self.invariant.0.signals_are c.signals_in.ensures.count),
  search rules,
  search rules,
  c.note_popped.ensures c.self.inside.pass.me.view.client.drawn _
      (ap (λ v. v.drawn) c.split_again-pass.ensures.owner ∙ c.take_in-popped.ensures.taken.drawn) c.self.invariant.3,
)
