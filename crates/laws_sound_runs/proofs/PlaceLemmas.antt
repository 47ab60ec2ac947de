-- A run from the start stays at places from which transitions lead to states.
use Rattle.std.proofs.Common.{◌≡◌, ℕ, List, [], ◌∷◌, Option, None, Some, length, slice_get, sym, subst}
use Rattle.port_model.specs.History.{PortEvent}
use Rattle.port_model.specs.Port.{PortState}
use Rattle.port_model.specs.declared.values.value.Value.{Value}
use Rattle.run_record.specs.declared.evaluation.identity.Identity.{Identity}
use Rattle.run_record.specs.declared.evaluation.store.Store.{Store}
use Rattle.run_record.specs.Event as event
use Rattle.run_record.specs.Event.{Event}
use Rattle.run_semantics.specs.Effect.{Effect, Deed}
use Rattle.run_semantics.specs.Leads.{Happens, LeadsSilently}
use Rattle.run_semantics.specs.ControlPoint.{Amid, AtStart, Closed, Definition, Doing, Ended, In, IsState, ControlPoint, Receiving}
use Rattle.run_semantics.specs.Runs.{Runs, acts, hears, still, turns, waits}
use Rattle.laws_sound_runs.proofs.PathLemmas.{chosen-part, every-followed, every-from, every-part, reaches-also}
use Rattle.laws_sound_runs.specs.RunLaws.{ComesToStates}
use Rattle.laws_sound_runs.specs.Paths.{Meets, Reaches, at_end, at_once, behind_action, behind_label, by_join, by_part}
use Rattle.laws_sound_runs.specs.States.{AreLed, IsLed, LeadsNowhere, LeadsToStates}
use Rattle.sdl_system.specs.Body as body
use Rattle.sdl_system.specs.Body.{Action, Body, Terminator, followed}
use Rattle.sdl_system.specs.Table.{LabelOf}
use Rattle.sdl_system.specs.Term.{Term}
use Rattle.sdl_system.specs.declared.id.LabelId.{LabelId}
use Rattle.sdl_system.specs.declared.id.StateId.{StateId}

-- a transition began in a state, or no path of it comes to where that would be asked for
abbrev pub IsBegun : Definition → Option StateId → Body → Type 0
IsBegun d None b = Reaches d.behaviour.bodies body.to_same b → ⊥
IsBegun d (Some n) b = IsState d n

-- what is to be done leads to states
pub record IsGood (d : Definition) (origin : Option StateId) (b : Body) : Type 0 where
  pub led : AreLed (length d.behaviour.states) b
  pub begun : IsBegun d origin b

abbrev pub IsGoodPlace : Definition → ControlPoint → Type 0
IsGoodPlace d AtStart = Unit {0}
IsGoodPlace d (In n) = IsState d n
IsGoodPlace d (Receiving origin variables values next) = IsGood d origin next
IsGoodPlace d (Doing origin b) = IsGood d origin b
IsGoodPlace d (Amid origin first rest) = IsGood d origin rest
IsGoodPlace d Ended = Unit {0}
IsGoodPlace d Closed = Unit {0}

module _ (d : Definition) (sound : LeadsToStates d.behaviour) where
  abbrev count : ℕ
  count = length d.behaviour.states

  moved : (place to : ControlPoint) → to ≡ place → IsGoodPlace d place → IsGoodPlace d to
  moved place to is good = subst (IsGoodPlace d) (sym is) good

  -- a body with fewer paths
  begun-also : (origin : Option StateId) (b c : Body) → ((x : Terminator) → Meets x c → Meets x b) →
      IsBegun d origin b → IsBegun d origin c
  begun-also None b c also begun = λ reaches. begun (reaches-also d.behaviour.bodies body.to_same c b also reaches)
  begun-also (Some n) b c also begun = begun

  begun-joined : (origin : Option StateId) (l : LabelId) (on : Body) → LabelOf d.behaviour.bodies l on →
      IsBegun d origin (body.ending (body.join l)) → IsBegun d origin on
  begun-joined None l on from begun = λ reaches. begun (by_join (body.ending (body.join l)) on l at_end from reaches)
  begun-joined (Some n) l on from begun = begun

  -- the body of a number, from a state
  from-state : (n : StateId) (number : ℕ) (b : Body) → IsState d n → slice_get d.behaviour.bodies number ≡ Some b →
      IsGood d (Some n) b
  from-state n number b is listed = record { led = sound.led number b listed; begun = is }

  module _ (who : Identity) (q : PortState) where
    happens-good : (place : ControlPoint) (s : Store) (e : Event) (calls : List PortEvent) (done : List Effect) (to : ControlPoint)
        (t : Store) → IsGoodPlace d place → Happens d who q place s e calls done to t → IsGoodPlace d to
    happens-good AtStart s (event.Start at) calls done to t good happens =
        moved (Doing None happens.4.0) to happens.4.2
        (record {
          led = sound.led d.behaviour.start happens.4.0 happens.4.1;
          begun = sound.stays happens.4.0 happens.4.1;
        })
    happens-good AtStart s (event.Cut state) calls done to t good happens = moved Closed to happens.3 tt
    happens-good AtStart s (event.Failed why) calls done to t good happens = moved Ended to happens.3 tt
    happens-good AtStart s happened calls done to t good happens = absurd happens
    happens-good (In n) s (event.Consumed at got) calls done to t good happens =
        moved (Receiving (Some n) (happens.1).variables _ (happens.1).next) to (happens.1).place
        (from-state n (happens.1).inputs.number (happens.1).next good (happens.1).inputs.begins)
    happens-good (In n) s (event.Prior at got) calls done to t good happens =
        moved (Receiving (Some n) (happens.1).variables _ (happens.1).next) to (happens.1).place
        (from-state n (happens.1).inputs.number (happens.1).next good (happens.1).inputs.begins)
    happens-good (In n) s (event.Discarded at got) calls done to t good happens =
        moved (In n) to (happens.1).place good
    happens-good (In n) s (event.Provided at number) calls done to t good happens =
        moved (Doing (Some n) (happens.1).next) to (happens.1).place
        (from-state n (happens.1).begin (happens.1).next good (happens.1).listed)
    happens-good (In n) s (event.FailedAt at why) calls done to t good happens = moved Ended to (happens.1).place tt
    happens-good (In n) s (event.Rest state) calls done to t good happens = moved Closed to happens.3 tt
    happens-good (In n) s (event.Cut state) calls done to t good happens = moved Closed to happens.3 tt
    happens-good (In n) s (event.Failed why) calls done to t good happens = moved Ended to happens.3 tt
    happens-good (In n) s happened calls done to t good happens = absurd happens
    happens-good (Receiving origin variables values rest) s (event.Failed why) calls done to t good happens =
        moved Ended to happens.3 tt
    happens-good (Receiving origin variables values rest) s happened calls done to t good happens = absurd happens
    happens-good (Doing origin (body.ending (body.to_state n))) s (event.NextState m) calls done to t good happens =
        moved (In n) to happens.3 happens.5
    happens-good (Doing origin (body.ending (body.to_state n))) s (event.Failed why) calls done to t good happens =
        moved Ended to happens.3 tt
    happens-good (Doing origin (body.ending (body.to_state n))) s happened calls done to t good happens =
        absurd happens
    happens-good (Doing (Some n) (body.ending body.to_same)) s (event.NextState m) calls done to t good happens =
        moved (In n) to happens.3 happens.5
    happens-good (Doing (Some n) (body.ending body.to_same)) s (event.Failed why) calls done to t good happens =
        moved Ended to happens.3 tt
    happens-good (Doing (Some n) (body.ending body.to_same)) s happened calls done to t good happens = absurd happens
    happens-good (Doing None (body.ending body.to_same)) s (event.Failed why) calls done to t good happens =
        moved Ended to happens.3 tt
    happens-good (Doing None (body.ending body.to_same)) s happened calls done to t good happens = absurd happens
    happens-good (Doing origin (body.ending body.stop)) s event.Stop calls done to t good happens =
        moved Ended to happens.2 tt
    happens-good (Doing origin (body.ending body.stop)) s (event.Failed why) calls done to t good happens =
        moved Ended to happens.3 tt
    happens-good (Doing origin (body.ending body.stop)) s happened calls done to t good happens = absurd happens
    happens-good (Doing origin (body.ending (body.join label))) s (event.Failed why) calls done to t good happens =
        moved Ended to happens.3 tt
    happens-good (Doing origin (body.ending (body.join label))) s happened calls done to t good happens =
        absurd happens
    happens-good (Doing origin body.nothing) s (event.Failed why) calls done to t good happens =
        moved Ended to happens.3 tt
    happens-good (Doing origin body.nothing) s happened calls done to t good happens = absurd happens
    happens-good (Doing origin (body.action first rest)) s (event.Failed why) calls done to t good happens =
        moved Ended to happens.3 tt
    happens-good (Doing origin (body.action first rest)) s happened calls done to t good happens = absurd happens
    happens-good (Doing origin (body.decision question parts rest)) s (event.Failed why) calls done to t good happens =
        moved Ended to happens.3 tt
    happens-good (Doing origin (body.decision question parts rest)) s happened calls done to t good happens =
        absurd happens
    happens-good (Doing origin (body.label number rest)) s (event.Failed why) calls done to t good happens =
        moved Ended to happens.3 tt
    happens-good (Doing origin (body.label number rest)) s happened calls done to t good happens = absurd happens
    happens-good (Amid origin (body.task []) rest) s (event.Failed why) calls done to t good happens =
        moved Ended to happens.3 tt
    happens-good (Amid origin (body.task []) rest) s happened calls done to t good happens = absurd happens
    happens-good (Amid origin (body.task (one ∷ more)) rest) s (event.Task variable value) calls done to t good
        happens =
        moved (Amid origin (body.task more) rest) to happens.2 good
    happens-good (Amid origin (body.task (one ∷ more)) rest) s (event.Failed why) calls done to t good happens =
        moved Ended to happens.3 tt
    happens-good (Amid origin (body.task (one ∷ more)) rest) s happened calls done to t good happens = absurd happens
    happens-good (Amid origin (body.output [] whom) rest) s (event.Failed why) calls done to t good happens =
        moved Ended to happens.3 tt
    happens-good (Amid origin (body.output [] whom) rest) s happened calls done to t good happens = absurd happens
    happens-good (Amid origin (body.output (one ∷ more) whom) rest) s (event.Output signal named values target) calls
        done to t good happens =
        moved (Amid origin (body.output more whom) rest) to happens.1 good
    happens-good (Amid origin (body.output (one ∷ more) whom) rest) s (event.Failed why) calls done to t good happens =
        moved Ended to happens.3 tt
    happens-good (Amid origin (body.output (one ∷ more) whom) rest) s happened calls done to t good happens =
        absurd happens
    happens-good (Amid origin (body.set []) rest) s (event.Failed why) calls done to t good happens =
        moved Ended to happens.3 tt
    happens-good (Amid origin (body.set []) rest) s happened calls done to t good happens = absurd happens
    happens-good (Amid origin (body.set (one ∷ more)) rest) s (event.Set key due) calls done to t good happens =
        moved (Amid origin (body.set more) rest) to happens.0 good
    happens-good (Amid origin (body.set (one ∷ more)) rest) s (event.Failed why) calls done to t good happens =
        moved Ended to happens.3 tt
    happens-good (Amid origin (body.set (one ∷ more)) rest) s happened calls done to t good happens = absurd happens
    happens-good (Amid origin (body.reset []) rest) s (event.Failed why) calls done to t good happens =
        moved Ended to happens.3 tt
    happens-good (Amid origin (body.reset []) rest) s happened calls done to t good happens = absurd happens
    happens-good (Amid origin (body.reset (one ∷ more)) rest) s (event.Reset key) calls done to t good happens =
        moved (Amid origin (body.reset more) rest) to happens.2 good
    happens-good (Amid origin (body.reset (one ∷ more)) rest) s (event.Failed why) calls done to t good happens =
        moved Ended to happens.3 tt
    happens-good (Amid origin (body.reset (one ∷ more)) rest) s happened calls done to t good happens = absurd happens
    happens-good (Amid origin (body.create process terms) rest) s (event.Create named number) calls done to t good
        happens =
        moved (Doing origin rest) to happens.2 good
    happens-good (Amid origin (body.create process terms) rest) s (event.Failed why) calls done to t good happens =
        moved Ended to happens.3 tt
    happens-good (Amid origin (body.create process terms) rest) s happened calls done to t good happens =
        absurd happens
    happens-good Ended s (event.Failed why) calls done to t good happens = moved Ended to happens.3 tt
    happens-good Ended s happened calls done to t good happens = absurd happens
    happens-good Closed s (event.Failed why) calls done to t good happens = moved Ended to happens.3 tt
    happens-good Closed s happened calls done to t good happens = absurd happens

    -- a part that is chosen, with what stands behind the decision
    chosen-good : (origin : Option StateId) (question : Term) (parts : body.Parts) (rest next one : Body) →
        IsGood d origin (body.decision question parts rest) → (v : Value) → body.chosen v parts ≡ Some one →
        next ≡ followed one rest → IsGood d origin next
    chosen-good origin question parts rest next one good v takes is =
        let part = chosen-part v parts one takes in
        subst (IsGood d origin) (sym is)
        (record {
          led = every-followed (λ (first : Action). Unit {0}) (λ (question : Term). Unit {0}) (IsLed count) one rest
              (every-part (λ (first : Action). Unit {0}) (λ (question : Term). Unit {0}) (IsLed count) one parts part
              good.led.1) good.led.2;
          begun = begun-also origin (body.decision question parts rest) (followed one rest)
              (λ x meets. by_part question parts rest one part meets) good.begun;
        })

    joined-good : (origin : Option StateId) (l : LabelId) (on : Body) → IsGood d origin (body.ending (body.join l)) →
        LabelOf d.behaviour.bodies l on → IsGood d origin on
    joined-good origin l on good from = record {
      led = every-from (λ (first : Action). Unit {0}) (λ (question : Term). Unit {0}) (IsLed count) l from.whole on
          from.from (sound.led from.number from.whole from.body);
      begun = begun-joined origin l on from good.begun;
    }

    turns-good : (place : ControlPoint) (s : Store) (to : ControlPoint) (t : Store) → IsGoodPlace d place →
        LeadsSilently d who q place s to t → IsGoodPlace d to
    turns-good AtStart s to t good turn = absurd turn
    turns-good (In n) s to t good turn = absurd turn
    turns-good (Receiving origin (Some variable ∷ variables) (value ∷ values) next) s to t good turn =
        moved (Receiving origin variables values next) to turn.0 good
    turns-good (Receiving origin (None ∷ variables) (value ∷ values) next) s to t good turn =
        moved (Receiving origin variables values next) to turn.0 good
    turns-good (Receiving origin variables values next) s to t good turn = moved (Doing origin next) to turn.0 good
    turns-good (Doing origin body.nothing) s to t good turn = absurd turn
    turns-good (Doing origin (body.action first rest)) s to t good turn =
        moved (Amid origin first rest) to turn.0
        (record {
          led = good.led.1;
          begun = begun-also origin (body.action first rest) rest (λ x meets. behind_action first rest meets)
              good.begun;
        })
    turns-good (Doing origin (body.decision question parts rest)) s to t good turn =
        moved (Doing origin turn.1.0) to turn.1.2
        (chosen-good origin question parts rest turn.1.0 (turn.1.1).part good (turn.1.1).value (turn.1.1).takes
        (turn.1.1).goes_on)
    turns-good (Doing origin (body.label number rest)) s to t good turn =
        moved (Doing origin rest) to turn.0
        (record {
          led = good.led;
          begun = begun-also origin (body.label number rest) rest (λ x meets. behind_label number rest meets)
              good.begun;
        })
    turns-good (Doing origin (body.ending (body.join label))) s to t good turn =
        moved (Doing origin turn.1.0) to turn.1.2 (joined-good origin label turn.1.0 good turn.1.1)
    turns-good (Doing origin (body.ending (body.to_state n))) s to t good turn = absurd turn
    turns-good (Doing origin (body.ending body.to_same)) s to t good turn = absurd turn
    turns-good (Doing origin (body.ending body.stop)) s to t good turn = absurd turn
    turns-good (Amid origin (body.task []) rest) s to t good turn = moved (Doing origin rest) to turn.0 good
    turns-good (Amid origin (body.task (one ∷ more)) rest) s to t good turn = absurd turn
    turns-good (Amid origin (body.output [] whom) rest) s to t good turn = moved (Doing origin rest) to turn.0 good
    turns-good (Amid origin (body.output (one ∷ more) whom) rest) s to t good turn = absurd turn
    turns-good (Amid origin (body.set []) rest) s to t good turn = moved (Doing origin rest) to turn.0 good
    turns-good (Amid origin (body.set (one ∷ more)) rest) s to t good turn = absurd turn
    turns-good (Amid origin (body.reset []) rest) s to t good turn = moved (Doing origin rest) to turn.0 good
    turns-good (Amid origin (body.reset (one ∷ more)) rest) s to t good turn = absurd turn
    turns-good (Amid origin (body.create process terms) rest) s to t good turn = absurd turn
    turns-good Ended s to t good turn = absurd turn
    turns-good Closed s to t good turn = absurd turn

  module _ (who : Identity) (s : Store) (q : PortState) where
    pub runs-good : {deeds : List Deed} {history : List PortEvent} {place : ControlPoint} {t : Store} {r : PortState} →
        Runs d who AtStart s q deeds history place t r → IsGoodPlace d place
    runs-good still = tt
    runs-good (acts {at = at} {mid = mid} {port = port} before deed to t r leads legal) =
        happens-good who port at mid deed.event deed.calls deed.effects to t (runs-good before) leads
    runs-good (turns {at = at} {mid = mid} {port = port} before to t turn) =
        turns-good who port at mid to t (runs-good before) turn
    runs-good (hears before heard r outside step) = runs-good before
    runs-good (waits before classes quiet step) = runs-good before

  -- no good place leads nowhere
  pub leads-on : (place : ControlPoint) → IsGoodPlace d place → LeadsNowhere d place → ⊥
  leads-on AtStart good nowhere = nowhere
  leads-on (In n) good nowhere = nowhere
  leads-on (Receiving origin variables values next) good nowhere = nowhere
  leads-on (Doing origin body.nothing) good nowhere = nowhere
  leads-on (Doing origin (body.action first rest)) good nowhere = nowhere
  leads-on (Doing origin (body.decision question parts rest)) good nowhere = nowhere
  leads-on (Doing origin (body.label number rest)) good nowhere = nowhere
  leads-on (Doing origin (body.ending (body.join label))) good nowhere = nowhere
  leads-on (Doing origin (body.ending (body.to_state n))) good nowhere = nowhere good.led
  leads-on (Doing None (body.ending body.to_same)) good nowhere = good.begun (at_once (body.ending body.to_same) at_end)
  leads-on (Doing (Some n) (body.ending body.to_same)) good nowhere = nowhere good.begun
  leads-on (Doing origin (body.ending body.stop)) good nowhere = nowhere
  leads-on (Amid origin first rest) good nowhere = nowhere
  leads-on Ended good nowhere = nowhere
  leads-on Closed good nowhere = nowhere

pub comes-to-states : ComesToStates
comes-to-states d who place s t q r deeds history sound runs nowhere =
    leads-on d sound place (runs-good d sound who s q runs) nowhere
