use Rattle.std.proofs.Common.{refl, subst, sym, ◌∙◌}
use Rattle.std.specs.Prelude.{List}
use Rattle.port_model.specs.Passed.{Loses, Standing}
use Rattle.port_model.proofs.Passings.{no_signal_passed, signal_is_there, takes_signal}
use Rattle.port_model.proofs.passed.Passed.forget.Goals as goal

pub take_at-requires : goal.take_at-requires
take_at-requires c = rw (sym c.self.view_is) (signal_is_there c.self.invariant c.args.key.now c.in-Some.place (sym c.of_timer.ensures ∙ c.in-Some.is))

pub returns-in-None : goal.returns-in-None
returns-in-None c =
    let none = no_signal_passed c.self.invariant c.args.key.now (sym c.of_timer.ensures ∙ c.in-None.is) in rw (sym c.self.view_is) (record { reply = none.0; left = none.1; same = λ _. refl })

pub returns-in-Some : goal.returns-in-Some
returns-in-Some c =
    let goes = takes_signal (subst (λ (s : List Standing). Loses s c.in-Some.place c.take_at.result c.take_at.new.self) (sym c.self.view_is) c.take_at.ensures) c.self.invariant c.args.key.now
    (sym c.of_timer.ensures ∙ c.in-Some.is) in rw (sym c.self.view_is) (record { reply = goes.0; left = goes.1; same = λ other. absurd cc })
