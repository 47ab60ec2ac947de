-- How a chronicle ends.
use Rattle.std.specs.Prelude.{◌≡◌, ◌≢◌, ◌⊎◌, ℕ, false, List}
use Rattle.std.specs.List.{AllZip}
use Rattle.run_order.specs.Chronicle.{ChronicleState}
use Rattle.run_order.specs.Kept.{end_of_run}
use Rattle.run_order.specs.Noted.{IsNotOver}
use Rattle.run_order.specs.OneOrder.{instances_of}
use Rattle.run_order.specs.declared.chronicle.Ending.{Ending}
use Rattle.run_order.specs.declared.chronicle.Ending.TheVariants as ending
use Rattle.run_record.specs.declared.record.Report.{Report}
use Rattle.sdl_system.specs.Behaviour.{Behaviour}
use Rattle.serial_order.specs.Report.{Closes}

-- whose events are told
abbrev pub tellers_in : Ending → List ℕ
tellers_in (ending.Whole tellers) = tellers.items
tellers_in (ending.Part tellers) = tellers.items

abbrev pub IfPart : Ending → Type 0 → Type 0
IfPart (ending.Whole tellers) cause = Unit {0}
IfPart (ending.Part tellers) cause = cause

-- Why what is told isn't all of the report: something is still to be told, the run ends at another time, the environment
-- did something behind the last transition of a run that was cut, or the records are others.
abbrev pub IsNotOf : List Behaviour → ChronicleState → Report → Type 0
IsNotOf ps c report =
    IsNotOver report.whole c.now c.noted ⊎ (end_of_run report.whole c.now ≢ report.end)
    ⊎ ((report.whole ≡ false) × (c.in_transition ≡ false))
    ⊎ (AllZip (Closes ps report.whole) (instances_of c.now) report.records.items → ⊥)
