-- What is noted of each kind of step.
use Rattle.std.proofs.Common.{refl, subst, sym}
use Rattle.sdl_interp.specs.declared.instance.Stepped.{Stepped}
use Rattle.threads_shared.specs.Noting.{IsNoted}
use Rattle.threads_shared.proofs.noting.note_stepped.Goals as goal

pub returns-in-Moved-clause-noted : goal.returns-in-Moved-clause-noted
returns-in-Moved-clause-noted g c = λ kept.
    subst (λ (s : Stepped). IsNoted s c.args.told c.args.own.now.versions c.note_step.new.own.versions
    c.args.seated.now.value c.note_step.new.seated.value) (sym c.in-Moved.is) (c.note_step.ensures.noted kept)

pub returns-in-Idle-clause-noted : goal.returns-in-Idle-clause-noted
returns-in-Idle-clause-noted g c = λ kept.
    subst (λ (s : Stepped). IsNoted s c.args.told c.args.own.now.versions c.args.own.now.versions
    c.args.seated.now.value c.args.seated.now.value) (sym c.in-Idle.is) (record { same = refl; kept = refl })

pub returns-in-Ended-clause-noted : goal.returns-in-Ended-clause-noted
returns-in-Ended-clause-noted g c = λ kept.
    subst (λ (s : Stepped). IsNoted s c.args.told c.args.own.now.versions c.end_instance.new.own.versions
    c.args.seated.now.value c.end_instance.new.seated.value) (sym c.in-Ended.is)
    (c.end_instance.ensures.noted kept, c.end_instance.ensures.ended)
