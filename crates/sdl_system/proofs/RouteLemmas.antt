-- The processes to which paths lead.
use Rattle.std.proofs.Common.{◌≡◌, ◌||◌, ℕ, All, Bool, true, false, List, [], ◌∷◌, Option, None, Some, ap, arith, filter, refl, if◌then◌else◌}
use Rattle.std.specs.List.{list_any}
use Rattle.std.proofs.lemmas.List.Elements.{All-cons}
use Rattle.port_model.specs.declared.values.item.SignalId.{SignalId}
use Rattle.sdl_system.specs.Route.{first_living, instance_or, is_any, living_in, or_later, reaches_env, receivers, target_in}
use Rattle.sdl_system.specs.RouteLaws.{IsEmpty, IsTarget}
use Rattle.sdl_system.specs.declared.id.ProcessId.{ProcessId}
use Rattle.sdl_system.specs.declared.route.Dest.TheVariants.{Path}
use Rattle.sdl_system.specs.declared.route.Routes.{Routes}
use Rattle.sdl_system.specs.declared.route.Source.{Source}
use Rattle.sdl_system.specs.declared.route.Target.{Target}
use Rattle.sdl_system.specs.declared.route.Target.TheVariants as target

-- some process of a list passes a test where those that pass it are some
pub is_any-filter : (test : ProcessId → Bool) (list : List ProcessId) → list_any test list ≡ is_any (filter test list)
is_any-filter test [] = refl
is_any-filter test (process ∷ rest) =
    elim (test process) as
    (λ b. (b || list_any test rest) ≡ is_any (if b then process ∷ filter test rest else filter test rest))
    [ true ↦ refl | false ↦ is_any-filter test rest ]

-- ---- targets

none_before : (living : List (Option ℕ)) → All (IsEmpty living) []
none_before living = λ k d within. absurd (omega arith)

one_before : (living : List (Option ℕ)) (process : ProcessId) (list : List ProcessId) → IsEmpty living process → All
    (IsEmpty living) list
    → All (IsEmpty living) (process ∷ list)
one_before living process list here rest = All-cons (IsEmpty living) process list here rest

later : (living : List (Option ℕ)) (process : ProcessId) (list : List ProcessId) (env : Bool) (t : Target)
    → IsEmpty living process
    → IsTarget living list t env → IsTarget living (process ∷ list) t env
later living process list env (target.Instance n) empty is = record {
  before = process ∷ is.before;
  process = is.process;
  after = is.after;
  stands = ap (λ xs. process ∷ xs) is.stands;
  empty = one_before living process is.before empty is.empty;
  lives = is.lives;
}
later living process list env target.Env empty is = (one_before living process list empty is.0, is.1)
later living process list env target.Nobody empty is = (one_before living process list empty is.0, is.1)
later living process list env target.Null empty is = is

found : (living : List (Option ℕ)) (process : ProcessId) (rest : List ProcessId) (env : Bool) (here : Option ℕ)
    → living_in living process ≡ here
    → IsTarget living rest (instance_or (first_living living rest) (if env then target.Env else target.Nobody)) env
    → IsTarget living (process ∷ rest)
    (instance_or (or_later here (first_living living rest)) (if env then target.Env else target.Nobody)) env
found living process rest env None is there =
    later living process rest env
    (instance_or (first_living living rest) (if env then target.Env else target.Nobody)) is there
found living process rest env (Some n) is there =
    record { before = []; process = process; after = rest; stands = refl; empty = none_before living; lives = is }

along : (living : List (Option ℕ)) (list : List ProcessId) (env : Bool)
    → IsTarget living list (instance_or (first_living living list) (if env then target.Env else target.Nobody)) env
along living [] true = (none_before living, refl)
along living [] false = (none_before living, refl)
along living (process ∷ rest) env =
    found living process rest env (living_in living process) refl (along living rest env)

pub goes_along_paths : (routes : Routes) (signal : SignalId) (from : Source) (living : List (Option ℕ))
    → IsTarget living (receivers routes from signal) (target_in routes signal from Path living)
    (reaches_env routes from signal)
goes_along_paths routes signal from living =
    along living (receivers routes from signal) (reaches_env routes from signal)
