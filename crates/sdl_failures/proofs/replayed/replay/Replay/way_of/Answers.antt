-- The way of the value of the question.
use Rattle.std.proofs.Common.{◌≡◌, Ok, subst, sym}
use Rattle.run_record.specs.Knowledge.{KnowledgeValue, environment_of}
use Rattle.run_record.specs.Value.{value_of}
use Rattle.sdl_system.specs.Term.{term_of}
use Rattle.sdl_failures.proofs.replayed.replay.Replay.way_of.Goals as goal

pub returns : goal.returns
returns c = λ to leads. (
  c.in_ok-way.way,
  record {
    value = c.in-Ok.value;
    is = subst (λ (k : KnowledgeValue).
        value_of (environment_of k) (term_of c.args.asked.now.question) ≡ Ok c.in-Ok.value)
        c.knowledge-knowledge.ensures c.in-Ok.ensures.ok;
    takes = sym c.in_ok-way.ensures;
  },
  leads,
)
