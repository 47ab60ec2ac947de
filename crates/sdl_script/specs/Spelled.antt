-- What is read of a line of a script, and why nothing is.
use Rattle.std.specs.Prelude.{◌≡◌, Option, Some, None}
use Rattle.std.specs.Option.{option_map}
use Rattle.port_model.specs.declared.values.item.SignalId.{SignalId}
use Rattle.sdl_system.specs.System.{SystemValue}
use Rattle.sdl_script.specs.declared.fault.Fault.{Fault}
use Rattle.sdl_script.specs.declared.fault.Fault.TheVariants.{Syntax, BackInTime, UnknownSignal, Arguments, Memory}
use Rattle.sdl_script.specs.declared.spelling.SpelledReceiver.{SpelledReceiver}
use Rattle.sdl_script.specs.declared.spelling.SpelledReceiver.TheVariants as receiver
use Rattle.sdl_script.specs.declared.spelling.SpelledSignal.{SpelledSignal}
use Rattle.sdl_script.specs.ScriptText.{IsReached}
use Rattle.sdl_script.specs.Spelling.{Receiver, Named, Numbered, Spelled}

-- what the code has of a spelled signal, as plain data

abbrev pub plain_receiver : SpelledReceiver → Receiver
plain_receiver (receiver.Process name) = Named name.now
plain_receiver (receiver.Instance number) = Numbered number

abbrev pub plain_whither : Option SpelledReceiver → Option Receiver
plain_whither to = option_map plain_receiver to

abbrev pub plain : SpelledSignal → Spelled
plain signal = record { name = signal.name.now; values = signal.values.items; to = plain_whither signal.to }

abbrev pub plain_signal : Option SpelledSignal → Option Spelled
plain_signal signal = option_map plain signal

-- memory may always be wanting, and a fault of syntax has this reason
abbrev pub IsSyntaxFault : Fault → Type 0 → Type 0
IsSyntaxFault Memory reason = Unit {0}
IsSyntaxFault Syntax reason = reason
IsSyntaxFault BackInTime reason = ⊥
IsSyntaxFault UnknownSignal reason = ⊥
IsSyntaxFault Arguments reason = ⊥

-- and so has a fault of arguments
abbrev pub IsArgumentFault : Fault → Type 0 → Type 0
IsArgumentFault Memory reason = Unit {0}
IsArgumentFault Syntax reason = ⊥
IsArgumentFault BackInTime reason = ⊥
IsArgumentFault UnknownSignal reason = ⊥
IsArgumentFault Arguments reason = reason

-- why there is no destination
abbrev pub HasNoWay : Fault → SystemValue → SignalId → Option Receiver → Type 0
HasNoWay Memory system signal to = ⊥
HasNoWay Syntax system signal to = ⊥
HasNoWay BackInTime system signal to = ⊥
HasNoWay UnknownSignal system signal to = ¬ IsReached system signal to
HasNoWay Arguments system signal to = IsReached system signal to × (to ≡ Some (Numbered None))
