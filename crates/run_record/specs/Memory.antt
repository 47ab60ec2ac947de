-- Where an evaluation may want memory.
use Rattle.std.specs.Prelude.{◌≡◌, ◌⊎◌, ◌||◌, Bool, true, false, List, Result, Err}
use Rattle.sdl_system.specs.Term.{Term, Terms, constant, variable, now, pid, active, unary, binary, no_term, and_term, terms_of}
use Rattle.run_record.specs.declared.failure.Failure.{Failure}
use Rattle.run_record.specs.declared.failure.Failure.TheVariants.{Memory}

-- a list of values is kept, so it wants memory where it has any
abbrev pub want_memory : Terms → Bool
want_memory no_term = false
want_memory (and_term first rest) = true

-- an expression wants memory where it asks for a timer with values
abbrev pub wants_memory : Term → Bool
wants_memory (active timer values) = want_memory values
wants_memory (unary operation operand) = wants_memory operand
wants_memory (binary operation left right) = wants_memory left || wants_memory right
wants_memory (constant value) = false
wants_memory (variable number) = false
wants_memory now = false
wants_memory (pid who) = false

abbrev pub list_wants_memory : List Term → Bool
list_wants_memory terms = want_memory (terms_of terms)

-- A failure is the one that is meant, or memory was refused where it is wanted.
abbrev pub FailsAs : {T : Type 0} → Bool → Result T Failure → Failure → Type 0
FailsAs wants meant why = (meant ≡ Err why) ⊎ ((wants ≡ true) × (why ≡ Memory))
