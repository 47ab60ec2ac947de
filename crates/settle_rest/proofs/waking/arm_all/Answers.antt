use Rattle.std.proofs.Common.{◌≡◌, ◌<◌, ◌∙◌, ◌∷◌, ◌++◌, [], ap, append_assoc, arith, List, rules, subst, sym}
use Rattle.std.proofs.lemmas.List.Elements.{All-cons, All-same}
use Rattle.port_model.specs.declared.inbox.entry.Fuse.{Fuse}
use Rattle.serial_sweeps.specs.Sweeps.{IsNoFuseBefore}
use Rattle.settle_rest.specs.Woken.{with_fuses}
use Rattle.settle_rest.proofs.Arming.{none_before_all, with_last}
use Rattle.settle_rest.proofs.waking.arm_all.Goals as goal

pub loop-fuse-preserved : goal.loop-fuse-preserved
loop-fuse-preserved c =
    let so_far = c.loop-fuse.invariant in
    let waiting = c.loop-fuse.agenda.fuses in
    let left = c.pop.new.self.items in
    let fuse = c.in-Some.fuse in
    let last = so_far.later.0 in
    let before : c.loop-fuse.fuses.items ≡ left ++ fuse ∷ [] = c.in-Some.ensures.items in
    let after : c.args.agenda.now.clock < fuse.due = omega (arith, c.in_ok-arm.ensures.later, so_far.clock) in
    record {
      clock = c.arm.ensures.clock ∙ so_far.clock;
      ready = c.arm.ensures.ready ∙ so_far.ready;
      armed = ap (with_fuses left) c.in_ok-arm.ensures.armed ∙ sym (with_last left fuse waiting)
          ∙ sym (ap (λ (fuses : List Fuse). with_fuses fuses waiting) before) ∙ so_far.armed;
      later = (
        fuse ∷ last,
        so_far.later.1 ∙ ap (λ (fuses : List Fuse). fuses ++ last) before ∙ append_assoc left (fuse ∷ []) last,
        All-cons (λ (one : Fuse). c.args.agenda.now.clock < one.due) fuse last after so_far.later.2,
      );
    }

pub returns-clause-before : goal.returns-clause-before
returns-clause-before c = λ until low all.
    let so_far = c.loop-fuse.invariant in
    let clock = c.args.agenda.now.clock in
    let fuses = c.args.fuses.now.items in
    let last = so_far.later.0 in
    let none : c.loop-fuse.fuses.items ≡ [] = search rules in
    let armed : c.loop-fuse.agenda.fuses ≡ with_fuses fuses c.args.agenda.now.fuses =
    sym (ap (λ (left : List Fuse). with_fuses left c.loop-fuse.agenda.fuses) none) ∙ so_far.armed in
    let later = All-same (λ (one : Fuse). clock < one.due) fuses last
    (so_far.later.1 ∙ ap (λ (left : List Fuse). left ++ last) none) so_far.later.2 in
    subst (IsNoFuseBefore until) (sym armed)
    (none_before_all until clock fuses c.args.agenda.now.fuses low later all)
