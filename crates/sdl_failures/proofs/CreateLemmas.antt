-- The variables with which an instance begins.
use Rattle.std.proofs.Common.{◌≡◌, ℕ, zero, suc, List, [], ◌∷◌, ◌++◌, Option, None, Some, Ok, Contains, ap, map, refl, slice_get, subst, sym}
use Rattle.std.specs.Borrow.{Bor}
use Rattle.port_model.specs.declared.values.pid.Pid.TheVariants as pid
use Rattle.port_model.specs.declared.values.value.Value.{Value}
use Rattle.run_record.specs.Knowledge.{KnowledgeValue, environment_of}
use Rattle.run_record.specs.Value.{values_at}
use Rattle.run_record.specs.Variables.{VariableList}
use Rattle.run_record.specs.declared.evaluation.identity.Identity.{Identity}
use Rattle.run_record.specs.Event.{Event}
use Rattle.run_record.specs.Record.{RecordValue}
use Rattle.run_semantics.specs.Instance.{parameters_from}
use Rattle.sdl_system.specs.System.{SystemValue}
use Rattle.sdl_system.specs.Term.{term_of}
use Rattle.sdl_system.specs.declared.expression.Expression.{Expression}
use Rattle.sdl_system.specs.declared.id.ProcessId.{ProcessId}
use Rattle.sdl_system.specs.declared.process.Process.{Process}
use Rattle.sdl_system.specs.declared.process.Variable.{Variable}
use Rattle.sdl_system.specs.declared.sort.Sort.{Sort}
use Rattle.sdl_failures.specs.Received.{variables_from}
use Rattle.sdl_failures.specs.Stands.{BeginsWith, Creates, first, identity_of, made}

-- one parameter more
pub parameters_more : (n : ℕ) (values : List Value)
    → parameters_from (suc n) values ≡ parameters_from n values ++ slice_get values n ∷ []
parameters_more zero [] = refl
parameters_more zero (value ∷ values) = refl
parameters_more (suc n) [] = ap (λ (list : List (Option Value)). None ∷ list) (parameters_more n [])
parameters_more (suc n) (value ∷ values) =
    ap (λ (list : List (Option Value)). Some value ∷ list) (parameters_more n values)

-- the initial values of variables that are read behind references
pub initials_read : (xs : List (Bor Variable))
    → map (λ (x : Bor Variable). x.now.initial) xs
    ≡ map (λ (v : Variable). v.initial) (map (λ (x : Bor Variable). x.now) xs)
initials_read [] = refl
initials_read (x ∷ xs) = ap (λ (rest : List (Option Value)). x.now.initial ∷ rest) (initials_read xs)

-- ---- with which variables it begins

-- its process is one of the system
pub process-there : (system : SystemValue) (records : List RecordValue) (trace : RecordValue)
    (variables : VariableList) → BeginsWith system records trace variables
    → (process : Process) × (slice_get system.processes trace.process.0 ≡ Some process)
process-there system records trace variables (first t process is none) = (process, is)
process-there system records trace variables (made t parent process maker before values is by there listed begins creates) =
    (process, is)

-- what nobody created
pub begins-first : (system : SystemValue) (records : List RecordValue) (trace : RecordValue) (process : Process)
    (variables : VariableList) → slice_get system.processes trace.process.0 ≡ Some process → trace.parent ≡ pid.Null
    → variables ≡ variables_from process [] → BeginsWith system records trace variables
begins-first system records trace process variables is none are =
    subst (λ (v : VariableList). BeginsWith system records trace v) (sym are) (first trace process is none)

-- what an instance created
pub begins-made : (system : SystemValue) (records : List RecordValue) (trace parent : RecordValue) (process : Process)
    (before variables : VariableList) (values : List Value) → slice_get system.processes trace.process.0 ≡ Some process
    → trace.parent ≡ pid.Of parent.pid → Contains records parent → BeginsWith system records parent before
    → ((maker : Process) → slice_get system.processes parent.process.0 ≡ Some maker
    → Creates system maker (identity_of parent) before parent.events trace.process trace.pid values)
    → variables ≡ variables_from process values → BeginsWith system records trace variables
begins-made system records trace parent process before variables values is by there begins creates are =
    let maker = process-there system records parent before begins in
    subst (λ (v : VariableList). BeginsWith system records trace v) (sym are)
    (made trace parent process maker.0 before values is by there maker.1 begins (creates maker.0 maker.1))

-- ---- a create

pub same_process : (p q : ProcessId) → p.0 ≡ q.0 → p ≡ q
same_process p q same = let f : ℕ → ProcessId = λ n. record { 0 = n } in ap f same

-- the values, by what is known, as it is said otherwise
pub evaluated_as : (k k' : KnowledgeValue) (sorts sorts' : List Sort) (list list' : List Expression)
    (values : List Value) → k ≡ k' → sorts ≡ sorts' → list ≡ list'
    → values_at (environment_of k) sorts (map term_of list) ≡ Ok values
    → values_at (environment_of k') sorts' (map term_of list') ≡ Ok values
evaluated_as k k' sorts sorts' list list' values known by are is =
    subst (λ (x : KnowledgeValue). values_at (environment_of x) sorts' (map term_of list') ≡ Ok values) known
    (subst (λ (x : List Sort). values_at (environment_of k) x (map term_of list') ≡ Ok values) by
    (subst (λ (x : List Expression). values_at (environment_of k) sorts (map term_of x) ≡ Ok values) are is))

-- the instance that is created, as it is said otherwise
pub creates_as : (system : SystemValue) (maker : Process) (who : Identity) (variables : VariableList)
    (all : List Event) (created created' : ProcessId) (number number' : ℕ) (values : List Value)
    → created ≡ created' → number ≡ number' → Creates system maker who variables all created number values
    → Creates system maker who variables all created' number' values
creates_as system maker who variables all created created' number number' values process own creates =
    subst (λ (p : ProcessId). Creates system maker who variables all p number' values) process
    (subst (λ (n : ℕ). Creates system maker who variables all created n values) own creates)
