use Rattle.settle_checks.specs.Account.{put_at}
use Rattle.settle_run.specs.Parts.{owner_at}
use Rattle.settle_run.proofs.report.report_of.Given as goal

-- what was put: what the senders of each place have, and the owners as the records were closed
abbrev pub ghosts-settle_ports : goal.ghosts-settle_ports
ghosts-settle_ports g a = record {
  puts = put_at a.ports.places.items;
  owners = owner_at a.ports.inboxes.items;
}
