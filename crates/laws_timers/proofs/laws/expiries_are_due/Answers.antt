-- Expiries are due: lemmas say so.
use Rattle.laws_timers.proofs.Dues.{expiries_are_due, histories_are_in_time}
use Rattle.laws_timers.proofs.laws.expiries_are_due.Goals as goal

pub returns : goal.returns
returns c = record { fuses = expiries_are_due; ports = histories_are_in_time }
