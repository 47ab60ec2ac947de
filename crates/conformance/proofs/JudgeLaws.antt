-- What answers say of their case.
use Rattle.std.proofs.Common.{◌≡◌, ◌↔◌, subst, sym, refl, Option, Some, None, IsNone, MatchOption, Result, Ok, Err, IfOk}
use Rattle.sdl_engine.specs.declared.options.Options.{Options}
use Rattle.conformance.specs.Judgement.{AnswersOtherwise, DiffersBy, IsAnswer, IsCanonical, IsOfAnswer, IsUnstable}
use Rattle.conformance.specs.declared.case.Answer.{Answer}
use Rattle.conformance.specs.declared.case.Case.{Case}
use Rattle.conformance.specs.declared.judge.Difference.{Difference}
use Rattle.conformance.specs.declared.judge.Difference.TheVariants.{Arguments, Output, Status, Again, Explained}

-- a canonical text and what a check of it answers
pub again_found : {P E : Type 0} (options : Options) (answer again : Answer) (r : Result (Option P) E) → IsAnswer answer.output.items options again.output.items again.status → IfOk r (λ found. IsNone found ↔ (answer.output.items ≡ again.output.items)) → IfOk r (λ found. MatchOption found (IsCanonical options answer) (λ _. IsUnstable options answer))
again_found options answer again (Ok None) told same =
    λ _. (again.status, subst (λ output. IsAnswer answer.output.items options output again.status) (sym (same.0 refl)) told)
again_found options answer again (Ok (Some pair)) told same = (again, told, λ equal. let bad = same.1 equal in cc)
again_found options answer again (Err fault) told same = tt

-- a difference between the answer and the wanted one
pub differs_by_answer : (case : Case) (answer : Answer) (how : Difference) → IsOfAnswer how → AnswersOtherwise case answer
    → DiffersBy case how
differs_by_answer case answer Arguments kind other = absurd kind
differs_by_answer case answer (Again pair) kind other = absurd kind
differs_by_answer case answer (Explained pair) kind other = absurd kind
differs_by_answer case answer (Output pair) kind other = (answer, other)
differs_by_answer case answer (Status want told) kind other = (answer, other)
