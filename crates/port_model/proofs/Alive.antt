-- What is drawn or put leaves a stopped port stopped, and a living one alive.
use Rattle.std.proofs.Common.{◌≡◌, ℕ, List, [], ◌∷◌, refl, ◌∙◌, arith}
use Rattle.port_model.specs.Port.{PortState}
use Rattle.port_model.specs.Calls.{after_entry, after_draw, after_draws}
use Rattle.port_model.specs.declared.inbox.entry.Entry.{Entry}
use Rattle.port_model.specs.declared.inbox.entry.Entry.TheVariants.{Signal, Timer}
use Rattle.port_model.specs.declared.inbox.placed.Placed.{Placed}

pub after_entry-alive : (pid : ℕ) (port : PortState) (at : ℕ) (entry : Entry) → (after_entry pid port at entry).alive ≡ port.alive
after_entry-alive pid port at (Signal item) = grind arith
after_entry-alive pid port at (Timer fuse) = grind arith

pub after_draws-alive : (pid : ℕ) (port : PortState) (news : List Placed) → (after_draws pid port news).alive ≡ port.alive
after_draws-alive pid port [] = refl
after_draws-alive pid port (x ∷ xs) = after_draws-alive pid (after_draw pid port x) xs ∙ after_entry-alive pid port x.at x.entry
