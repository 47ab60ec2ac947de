-- The values of several expressions, and of a timer.
use Rattle.std.proofs.Common.{◌≡◌, ◌∙◌, ◌++◌, ℕ, Bool, sym, ap, subst, inl, inr, Result, Ok, Err, Vec, Global, List, drop, map}
use Rattle.port_model.specs.declared.values.item.SignalId.{SignalId}
use Rattle.port_model.specs.declared.values.timer_key.TimerKey.{TimerKey}
use Rattle.port_model.specs.declared.values.value.Value.{Value}
use Rattle.port_model.specs.declared.values.value.Value.TheVariants as value
use Rattle.sdl_system.specs.Term.{Operand, Term, active, chain_step, expression_step, link_step, term_of, terms_of, variable}
use Rattle.sdl_system.specs.declared.expression.Expression.{Expression}
use Rattle.sdl_system.specs.declared.expression.Expression.TheFolds.{fold-roll-Expression}
use Rattle.sdl_system.specs.declared.expression.Expression.TheOpen.{Expression-F}
use Rattle.sdl_system.specs.declared.expression.Expression.TheVariants.{Active, Variable, rolls-Active, rolls-Variable}
use Rattle.sdl_system.specs.declared.id.VariableId.{VariableId}
use Rattle.sdl_system.specs.declared.sort.Sort.{Sort}
use Rattle.run_record.specs.declared.failure.Failure.{Failure}
use Rattle.run_record.specs.Environment.{Environment}
use Rattle.run_record.specs.Memory.{FailsAs, list_wants_memory, wants_memory}
use Rattle.run_record.specs.Value.{asked, key_at, value_of, values_of}

-- the values that are known already, and then the rest
abbrev pub preceded : List Value → Result (List Value) Failure → Result (List Value) Failure
preceded values (Err why) = Err why
preceded values (Ok rest) = Ok (values ++ rest)

-- what the expressions from a place on come to
abbrev pub left_of : Environment → List Sort → List Expression → ℕ → Result (List Value) Failure
left_of here sorts expressions i = values_of here (drop i sorts) (terms_of (map term_of (drop i expressions)))

-- the term of a variable
pub variable_is : (expression : Expression) (number : VariableId) → expression ≡ Variable number →
    term_of expression ≡ variable number
variable_is expression number is =
    ap term_of (is ∙ sym (rolls-Variable number))
    ∙ fold-roll-Expression Term Term Operand expression_step chain_step link_step (Expression-F.Variable number)

-- the term of an expression that asks for a timer
active_is : (expression : Expression) (timer : SignalId) (values : Vec Expression Global) (list : List Expression) →
    expression ≡ Active timer values → list ≡ values.items →
    term_of expression ≡ active timer (terms_of (map term_of list))
active_is expression timer values list is are =
    ap term_of (is ∙ sym (rolls-Active timer values))
    ∙ fold-roll-Expression Term Term Operand expression_step chain_step link_step (Expression-F.Active timer values)
    ∙ ap (λ items. active timer (terms_of (map term_of items))) (sym are)

-- whether a timer is active, by its key
pub active_value : (here : Environment) (expression : Expression) (timer : SignalId) (values : Vec Expression Global)
    (list : List Expression) (key : TimerKey) (truth : Bool) → expression ≡ Active timer values →
    list ≡ values.items → key_at here timer (map term_of list) ≡ Ok key → truth ≡ here.active key →
    value_of here (term_of expression) ≡ Ok (value.Bool truth)
active_value here expression timer values list key truth is are known asks =
    ap (value_of here) (active_is expression timer values list is are)
    ∙ ap (asked here) known ∙ ap (λ b. Ok (value.Bool b)) (sym asks)

asked_fails : (here : Environment) (wants : Bool) (key : Result TimerKey Failure) (why : Failure) →
    FailsAs wants key why → FailsAs wants (asked here key) why
asked_fails here wants key why (inl e) = inl (ap (asked here) e)
asked_fails here wants key why (inr refused) = inr refused

-- a timer's key that fails
pub active_fails : (here : Environment) (expression : Expression) (timer : SignalId) (values : Vec Expression Global)
    (list : List Expression) (why : Failure) → expression ≡ Active timer values → list ≡ values.items →
    FailsAs (list_wants_memory (map term_of list)) (key_at here timer (map term_of list)) why →
    FailsAs (wants_memory (term_of expression)) (value_of here (term_of expression)) why
active_fails here expression timer values list why is are fails =
    let P : Term → Type 0 = λ t. FailsAs (wants_memory t) (value_of here t) why in
    subst P (sym (active_is expression timer values list is are))
    (asked_fails here (list_wants_memory (map term_of list)) (key_at here timer (map term_of list)) why fails)
