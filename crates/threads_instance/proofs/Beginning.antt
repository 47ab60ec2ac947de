-- An instance that has just been made has sent and done nothing, and is in its seat.
use Rattle.std.proofs.Common.{◌≡◌, ◌∙◌, ap, cond, refl, subst, sym, ℕ, Bool, true, false, List, [], Option, Some, slice_get}
use Rattle.std.specs.declared.alloc.Global.{Global}
use Rattle.crossbeam_queue.specs.SegTies.{SegId}
use Rattle.port_model.specs.Ends.{OwnerState}
use Rattle.port_model.specs.Port.{empty_port}
use Rattle.port_model.specs.declared.values.item.Item.{Item}
use Rattle.port_model.specs.declared.values.value.Value.{Value}
use Rattle.run_record.specs.declared.evaluation.identity.Identity.{Identity}
use Rattle.run_record.specs.Event.{Event}
use Rattle.run_semantics.specs.Effect.{Effect}
use Rattle.run_semantics.specs.Sent.{sent_to}
use Rattle.run_semantics.specs.World.{has_port}
use Rattle.sdl_interp.specs.Instance.{InstanceValue, created}
use Rattle.sdl_system.specs.System.{SystemValue}
use Rattle.sdl_system.specs.declared.process.Process.{Process}
use Rattle.threads_instance.proofs.RunBy.{created_by}
use Rattle.threads_instance.specs.Outbox.{sent_in}
use Rattle.threads_instance.specs.RunBy.{HasRunBy}
use Rattle.threads_instance.specs.ThreadInstance.{HasSent, IsSeated}

none_either : (port : Bool) (none : List Item) → none ≡ [] → [] ≡ cond port none []
none_either true none is = sym is
none_either false none is = refl

sent_none : (i : InstanceValue) (sent : List (ℕ × Item)) → i.events ≡ [] → sent ≡ [] → HasSent i sent
sent_none i sent none nothing = λ d is_run number.
    ap (λ (l : List (ℕ × Item)). sent_in l number) nothing
    ∙ none_either (has_port number) (sent_to i.who.pid i.events number)
    (ap (λ (l : List Event). sent_to i.who.pid l number) none)

module _ (shared : Bool) (named : Option SystemValue) (ports : ℕ → SegId Global) (system : SystemValue)
    (process : Process) (who : Identity) (values : List Value) (owner : OwnerState) where
  abbrev pub first : InstanceValue
  first = created system process who values owner

  pub begun : (i : InstanceValue) (sent : List (ℕ × Item)) (effects : List Effect) → i ≡ first → sent ≡ []
      → effects ≡ [] → named ≡ Some system → slice_get system.processes who.process.0 ≡ Some process
      → owner.port ≡ ports who.pid → owner.pid ≡ who.pid → owner.state ≡ empty_port → owner.drawn ≡ []
      → (i.system ≡ system) × HasSent i sent × IsSeated named ports i × HasRunBy shared i values effects
  begun i sent effects is nothing none system_is process_is port own empty undrawn =
      subst (λ (x : InstanceValue).
      (x.system ≡ system) × HasSent x sent × IsSeated named ports x × HasRunBy shared x values effects) (sym is) (
        refl,
        sent_none first sent refl nothing,
        record { system_is = system_is; process_is = process_is; port = port; own = own },
        subst (λ (l : List Effect). HasRunBy shared first values l) (sym none)
            (created_by shared system process who values owner empty undrawn),
      )
