use Rattle.std.proofs.Common.{◌≡◌, Option}
use Rattle.std.specs.Iterator.Adapters.{zip_first, zip_second}
use Rattle.std.specs.Slice.Iter.{iter_rest}
use Rattle.port_model.specs.Ends.{OwnerState}
use Rattle.sdl_interp.specs.Stimulus.{HasVariables}
use Rattle.run_semantics.specs.Goes.{AreInner, Goes}
use Rattle.run_semantics.specs.ControlPoint.{Definition, Receiving}
use Rattle.run_semantics.specs.World.{WorldValue}
use Rattle.sdl_interp.specs.Machine.{value_of}
use Rattle.sdl_system.specs.Body.{Body}
use Rattle.sdl_system.specs.declared.id.StateId.{StateId}
use Rattle.sdl_interp.proofs.reception.hand_out.Given as goal

abbrev pub invariant-loop-variable : goal.invariant-loop-variable
invariant-loop-variable l = record {
  trace : l.machine.trace ≡ l.initial.machine.trace;
  goes : (d : Definition) → HasVariables l.process d → (origin : Option StateId) (next : Body) (owner : OwnerState)
      (w : WorldValue)
      → Goes AreInner d (Receiving origin l.variables l.values next) (value_of l.initial.machine owner) w
      (Receiving origin (iter_rest (zip_first l.variable-iterator)) (iter_rest (zip_second l.variable-iterator)) next)
      (value_of l.machine owner) w;
}
