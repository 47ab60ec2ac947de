-- What is ahead of an instance, by what its state has and what waits in its port.
use Rattle.std.proofs.Common.{◌≡◌, ◌+◌, ◌<◌, List, [], ◌∷◌, None, Some, length, refl, subst, sym}
use Rattle.std.proofs.lemmas.List.Elements.{All-nil}
use Rattle.std.specs.List.{AllZip}
use Rattle.port_model.specs.Take.{IsSaved}
use Rattle.run_record.specs.Environment.{Environment, environment}
use Rattle.run_semantics.specs.ControlPoint.{Definition}
use Rattle.sdl_interp.specs.declared.transitions.machine.Position.{Position}
use Rattle.sdl_interp.specs.declared.transitions.machine.Position.TheVariants as at
use Rattle.sdl_interp.proofs.SelectionLemmas.{HasTable, has_table, selects_plain}
use Rattle.sdl_interp.specs.Instance.{HasNothing, InstanceValue, IsAtRest, IsQuietAt, IsRunAs, NeedsStep}
use Rattle.sdl_system.specs.Behaviour.{ContinuousSignal, MeansContinuous}
use Rattle.sdl_system.specs.Process.{table_of}
use Rattle.sdl_system.specs.declared.id.NodeId.{NodeId}
use Rattle.sdl_system.specs.declared.id.StateId.{StateId}
use Rattle.sdl_system.specs.declared.process.Process.{Process}
use Rattle.sdl_system.specs.declared.state.Continuous.{Continuous}
use Rattle.sdl_system.specs.declared.state.StateTable.{StateTable}

-- a table without continuous signals means none
none_meant : (process : Process) (entries : List NodeId) (signals : List Continuous) (meant : List ContinuousSignal)
    → signals ≡ [] → AllZip (MeansContinuous process entries) signals meant → meant ≡ []
none_meant process entries [] [] none means = refl
none_meant process entries [] (one ∷ more) none means = absurd means
none_meant process entries (signal ∷ signals) meant none means = let wrong : ⊥ = cc in absurd wrong

-- In a state that has neither enabling conditions nor continuous signals nothing fails and nothing begins by itself. So
-- the instance is at rest while nothing waits.
quiet_at : (position : Position) (i : InstanceValue) → HasNothing position i → (d : Definition) → IsRunAs i d
    → IsQuietAt d position i
quiet_at at.BeforeStart i nothing d run = absurd nothing
quiet_at at.Ended i nothing d run = absurd nothing
quiet_at (at.In n) i nothing d run =
    let table = nothing.table in
    let has : HasTable d i.system i.process table n run.behaves.means.entries =
    has_table i.system i.process d run table n nothing.listed in
    let here : Environment = environment d.system i.who i.store i.owner.state in
    let meant : has.state.continuous ≡ [] =
    none_meant i.process run.behaves.means.entries table.continuous.items has.state.continuous nothing.continuous
    has.does.continuous_is in (
      table.selection,
      record {
        selecting = record {
          state = has.state;
          is = has.is;
          selects = selects_plain d i.system i.process table n run.behaves.means.entries here has nothing.conditions;
        };
        nothing = (rw nothing.waiting (All-nil (IsSaved table.selection)), refl);
        tries = rw meant refl;
      },
    )

pub rests : (i : InstanceValue) → HasNothing i.position i → IsAtRest i
rests i nothing = quiet_at i.position i nothing

pub has_nothing : (i : InstanceValue) (n : StateId) (table : StateTable) → i.position ≡ at.In n
    → table_of i.process n ≡ Some table → table.conditions.items ≡ [] → table.continuous.items ≡ []
    → i.owner.state.waiting ≡ [] → HasNothing i.position i
has_nothing i n table in_state listed bare unconditional none =
    subst (λ (p : Position). HasNothing p i) (sym in_state) (record {
      table = table;
      listed = listed;
      conditions = bare;
      continuous = unconditional;
      waiting = none;
    })

-- ---- where only a step tells

pub needs_step : (i : InstanceValue) (n : StateId) (table : StateTable) → i.position ≡ at.In n
    → table_of i.process n ≡ Some table → i.owner.state.waiting ≡ []
    → 0 < length table.conditions.items + length table.continuous.items → NeedsStep i.position i
needs_step i n table in_state listed none some =
    subst (λ (p : Position). NeedsStep p i) (sym in_state) (rw listed (none, some))

pub needs_unlisted : (i : InstanceValue) (n : StateId) → i.position ≡ at.In n → table_of i.process n ≡ None
    → NeedsStep i.position i
needs_unlisted i n in_state unlisted = subst (λ (p : Position). NeedsStep p i) (sym in_state) (rw unlisted tt)

pub needs_elsewhere : (i : InstanceValue) → ((n : StateId) → i.position ≡ at.In n → ⊥) → NeedsStep i.position i
needs_elsewhere i elsewhere = by_case i.position elsewhere where
  by_case : (position : Position) → ((n : StateId) → position ≡ at.In n → ⊥) → NeedsStep position i
  by_case at.BeforeStart other = tt
  by_case at.Ended other = tt
  by_case (at.In n) other = absurd (other n refl)
