-- It is one too many, or fails by what it evaluates.
use Rattle.std.proofs.Common.{inl, inr, subst}
use Rattle.run_record.specs.Knowledge.{KnowledgeValue, environment_of}
use Rattle.sdl_failures.specs.Fails.{PartFails}
use Rattle.sdl_failures.proofs.replayed.replay.Replay.fails_at.Goals as goal

pub returns-in-TooLong : goal.returns-in-TooLong
returns-in-TooLong c = λ yes.
    let long = c.is_too_long.ensures yes in inl (long.0, long.1, (c.in-TooLong.is, long.2))

pub returns-in_default : goal.returns-in_default
returns-in_default c = λ yes.
    inr (subst (λ (k : KnowledgeValue).
    PartFails k.system c.args.self.now.process.now (environment_of k) c.args.statement.now c.args.part c.args.why)
    c.knowledge-knowledge.ensures (c.part_fails.ensures yes))
