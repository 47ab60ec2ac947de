-- What is heard is noted, and nothing else is put.
use Rattle.std.proofs.Common.{◌+◌, length, refl, subst}
use Rattle.std.proofs.lemmas.Option.{slice_get_read}
use Rattle.threads_shared.proofs.HeardLines.{heard_line, heard_still, hears}
use Rattle.threads_shared.specs.Environment.{EnvironmentState, HearsNext}
use Rattle.threads_shared.proofs.environment.Environment.hear.Goals as goal

pub invariant_of-self : goal.invariant_of-self
invariant_of-self g c =
    let old = c.self.inside in
    let new = c.hear_signal.new in (
      c.self.invariant.0,
      heard_still old.lines.now old.line old.targets.items new.targets.items old.peers new.peers
          c.in_err-woken.ensures.err_targets c.in_err-woken.ensures.err_peers c.self.invariant.1,
      c.hear_signal.ensures.ports,
    )

pub invariant_of-self-2 : goal.invariant_of-self-2
invariant_of-self-2 g c =
    let old = c.self.inside in
    let new = c.hear_signal.new in (
      c.self.invariant.0,
      heard_line old.lines.now old.line old.targets.items new.targets.items old.peers new.peers c.in-Some.line.now
          c.args.shared.now.system.now c.in_ok-woken.woken c.self.invariant.0
          (slice_get_read old.lines.now (length old.lines.now) old.line c.in-Some.line.now refl
          c.in-Some.ensures.lookup.3.0 c.in-Some.ensures.lookup.1) c.in_ok-woken.ensures.heard c.self.invariant.1,
      c.hear_signal.ensures.ports,
    )

pub returns-clause-heard : goal.returns-clause-heard
returns-clause-heard g c =
    let old = c.self.inside in
    let new = c.hear_signal.new in
    let system = c.args.shared.now.system.now in
    let before : EnvironmentState = record {
      lines = old.lines.now;
      line = old.line;
      targets = old.targets.items;
      peers = old.peers;
    } in
    let after : EnvironmentState = record {
      lines = old.lines.now;
      line = old.line + 1;
      targets = new.targets.items;
      peers = new.peers;
    } in
    subst (λ (e : EnvironmentState). HearsNext system c.in_ok-woken.woken e after) c.self.view_is
    (hears system c.in_ok-woken.woken before after c.in-Some.line.now
    (slice_get_read old.lines.now (length old.lines.now) old.line c.in-Some.line.now refl c.in-Some.ensures.lookup.3.0
    c.in-Some.ensures.lookup.1) c.in_ok-woken.ensures.heard)
