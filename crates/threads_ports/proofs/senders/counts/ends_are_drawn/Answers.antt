-- Lemmas say so.
use Rattle.threads_ports.proofs.Told.{all_is_drawn, ends_are_drawn, no_other_is_drawn}
use Rattle.threads_ports.proofs.senders.counts.ends_are_drawn.Goals as goal

pub returns : goal.returns
returns c = record { each = ends_are_drawn; all = all_is_drawn; no_other = no_other_is_drawn }
