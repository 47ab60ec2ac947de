-- The signals that a run sends to the environment.
use Rattle.std.specs.Prelude.{ℕ, List, [], ◌∷◌, ◌++◌, codes}
use Rattle.std.specs.Fmt.{decimal}
use Rattle.std.specs.List.{flat_map}
use Rattle.std.specs.Option.{unwrap_or}
use Rattle.port_model.specs.declared.values.item.SignalId.{SignalId}
use Rattle.port_model.specs.declared.values.value.Value.{Value}
use Rattle.run_record.specs.Event as event
use Rattle.run_record.specs.Record.{RecordValue}
use Rattle.sdl_command_line.specs.Sender.{sender_text}
use Rattle.sdl_report.specs.ReportText.{signal_text}
use Rattle.sdl_system.specs.System.{SystemValue}
use Rattle.sdl_system.specs.declared.route.Target.TheVariants as reached
use Rattle.view_text.specs.Walk.{StepValue}

-- the time after an event: one with which a transition begins has its own
abbrev pub time_after : ℕ → event.Event → ℕ
time_after now (event.Start at) = at
time_after now (event.Consumed at got) = at
time_after now (event.Prior at got) = at
time_after now (event.Discarded at got) = at
time_after now (event.Provided at number) = at
time_after now (event.FailedAt at why) = at
time_after now other = now

-- `3 val(1) from #1`
abbrev pub output_line : SystemValue → ℕ → ℕ → SignalId → List Value → List ℕ
output_line system now who signal values =
    decimal now ++ codes " " ++ signal_text system signal values ++ sender_text who

-- the line of an event of this instance at this time, if that is an output to the environment
abbrev pub sent_text : SystemValue → ℕ → ℕ → event.Event → List ℕ
sent_text system now who (event.Output signal to values reached.Env) = output_line system now who signal values
sent_text system now who other = []

-- the lines of these events of an instance
abbrev pub outputs_in : SystemValue → ℕ → ℕ → List event.Event → List ℕ
outputs_in system who now [] = []
outputs_in system who now (event ∷ more) =
    sent_text system (time_after now event) who event ++ outputs_in system who (time_after now event) more

-- the line of an event of a timeline, if that is an output to the environment: its time is when its transition began
abbrev pub step_text : SystemValue → StepValue → List ℕ
step_text system step = sent_text system (unwrap_or step.at 0) step.trace.pid step.event

-- the lines of these events of a timeline
abbrev pub outputs_of : SystemValue → List StepValue → List ℕ
outputs_of system steps = flat_map (step_text system) steps

-- the lines of what each of these instances sends, by itself
abbrev pub outputs_by_sender : SystemValue → List RecordValue → List ℕ
outputs_by_sender system records =
    flat_map (λ (trace : RecordValue). outputs_in system trace.pid 0 trace.events) records
