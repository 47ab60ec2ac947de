use Rattle.std.proofs.Common.{◌≡◌, ℤ, Ok, Option, None, Some, refl, subst, sym}
use Rattle.std.specs.Option.{IfSome}
use Rattle.std.specs.Prelude.{option_and_then}
use Rattle.port_model.specs.declared.values.value.Value.{Value}
use Rattle.port_model.specs.declared.values.value.Value.TheVariants as value
use Rattle.sdl_system.specs.Term.{Term, term_of}
use Rattle.run_record.proofs.ListLemmas.{variable_is}
use Rattle.run_record.specs.Environment.{Environment, environment}
use Rattle.run_record.specs.Value.{accessed, value_of}
use Rattle.run_record.specs.Variables.{integer_of, value_in}
use Rattle.run_record.proofs.evaluation.store.Store.integer.Goals as goal

-- a variable with an integer is read as one
accessed_integer : (read : Option Value)
    → IfSome (option_and_then integer_of read) (λ number. accessed read ≡ Ok (value.Int number))
accessed_integer None = tt
accessed_integer (Some (value.Int number)) = refl
accessed_integer (Some (value.Bool truth)) = tt
accessed_integer (Some (value.Pid pid)) = tt
accessed_integer (Some (value.Time number)) = tt
accessed_integer (Some (value.Duration number)) = tt

-- the number that was read is that of the term
abbrev IsReadAs : Environment → Term → Option ℤ → Type 0
IsReadAs here term found = IfSome found (λ number. value_of here term ≡ Ok (value.Int number))

pub returns-in-Variable-clause-value : goal.returns-in-Variable-clause-value
returns-in-Variable-clause-value c = λ system who port.
    let here = environment system who c.args.self.now port in
    let number = c.in-Variable.variable in
    let is = variable_is c.args.expression.now number c.in-Variable.is in
    subst (λ (found : Option ℤ). IsReadAs here (term_of c.args.expression.now) found) (sym c.integer.ensures)
    (subst
    (λ (term : Term). IsReadAs here term (option_and_then integer_of (value_in c.args.self.now.variables number)))
    (sym is) (accessed_integer (value_in c.args.self.now.variables number)))
