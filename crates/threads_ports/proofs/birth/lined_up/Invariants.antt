use Rattle.std.proofs.Common.{◌≡◌, length}
use Rattle.threads_ports.specs.Named.{AreMade}
use Rattle.threads_ports.proofs.birth.lined_up.Given as goal

-- There are ports for the sites so far, with their desks and owners.
abbrev pub invariant-loop-site : goal.invariant-loop-site
invariant-loop-site l =
    (length l.rows.items ≡ length l.yielded) × AreMade l.rows.items l.desks.items l.owners.items
