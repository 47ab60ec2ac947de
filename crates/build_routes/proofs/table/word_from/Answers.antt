use Rattle.build_routes.specs.Entries.{listed_at}
use Rattle.build_routes.proofs.table.word_from.Goals as goal

pub returns-clause-word : goal.returns-clause-word
returns-clause-word c = record {
  tells = c.in_ok-arrivals.ensures;
  numbers = λ place small.
      let h = c.in_ok-numbers.ensures.numbers place small in
      (h.0, listed_at place c.in_ok-receivers.receivers.items, h.1, h.2, c.in_ok-receivers.ensures place);
}
