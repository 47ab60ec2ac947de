-- Laws of targets.
use Rattle.std.specs.Prelude.{◌≡◌, ◌++◌, ℕ, Bool, true, false, All, List, ◌∷◌, Option, None, Some}
use Rattle.port_model.specs.declared.values.item.SignalId.{SignalId}
use Rattle.sdl_system.specs.Route.{living_in, reaches_env, receivers, target_in}
use Rattle.sdl_system.specs.declared.id.ProcessId.{ProcessId}
use Rattle.sdl_system.specs.declared.route.Dest.TheVariants.{Path}
use Rattle.sdl_system.specs.declared.route.Routes.{Routes}
use Rattle.sdl_system.specs.declared.route.Source.{Source}
use Rattle.sdl_system.specs.declared.route.Target.{Target}
use Rattle.sdl_system.specs.declared.route.Target.TheVariants as target

-- the process has no living instance
abbrev pub IsEmpty : List (Option ℕ) → ProcessId → Type 0
IsEmpty living process = living_in living process ≡ None

-- of these processes this one is the first that has a living instance
pub record IsFirst (living : List (Option ℕ)) (list : List ProcessId) (instance : ℕ) : Type 0 where
  pub before : List ProcessId
  pub process : ProcessId
  pub after : List ProcessId
  pub stands : list ≡ before ++ process ∷ after
  pub empty : All (IsEmpty living) before
  pub lives : living_in living process ≡ Some instance

-- what the target of a signal without a destination is, by the processes that a path reaches and whether one reaches
-- env
abbrev pub IsTarget : List (Option ℕ) → List ProcessId → Target → (env : Bool) → Type 0
IsTarget living list (target.Instance instance) env = IsFirst living list instance
IsTarget living list target.Env env = All (IsEmpty living) list × (env ≡ true)
IsTarget living list target.Nobody env = All (IsEmpty living) list × (env ≡ false)
IsTarget living list target.Null env = ⊥

-- Without a destination a signal goes to the first process that a path reaches and that has a living instance; with
-- none to env, if a path reaches it; else to nobody.
abbrev pub GoesAlongPaths : Type 0
GoesAlongPaths =
    (routes : Routes) (signal : SignalId) (from : Source) (living : List (Option ℕ))
    → IsTarget living (receivers routes from signal) (target_in routes signal from Path living)
    (reaches_env routes from signal)
