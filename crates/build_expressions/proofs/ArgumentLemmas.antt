-- Values in a list, each for a place.
use Rattle.std.proofs.Common.{◌≡◌, ◌≢◌, ◌∙◌, suc, ◌++◌, ◌&&◌, Bool, true, false, List, [], ◌∷◌, Option, None, Some, Result, Ok, Err, length, refl, sym, ap}
use Rattle.std.specs.Result.{OnOk}
use Rattle.build_expressions.specs.Partial.{all_some, and_last, both}
use Rattle.build_expressions.specs.Typing.{Argument, are_taken, is_taken}
use Rattle.sdl_system.specs.Term.{Operand, Term, binary, chained}
use Rattle.sdl_system.specs.declared.sort.Sort.{Sort}

and-false : (b : Bool) → false ≡ (b && false)
and-false true = refl
and-false false = refl

and-assoc : (a b d : Bool) → ((a && b) && d) ≡ (a && (b && d))
and-assoc true b d = refl
and-assoc false b d = refl

-- fewer or more values than places
pub are_taken-other : (places : List (Option Sort)) (arguments : List Argument) → length arguments ≢ length places →
    false ≡ are_taken places arguments
are_taken-other [] [] other = absurd (other refl)
are_taken-other [] (argument ∷ arguments) other = refl
are_taken-other (place ∷ places) [] other = refl
are_taken-other (place ∷ places) (argument ∷ arguments) other =
    and-false (is_taken place argument.typed)
    ∙ ap (λ b. is_taken place argument.typed && b) (are_taken-other places arguments (λ same. other (ap suc same)))

-- one more value that is looked at
pub are_taken-more : (whole all taken : Bool) (place : Option Sort) (places : List (Option Sort)) (argument : Argument)
    (arguments : List Argument) → whole ≡ (all && are_taken (place ∷ places) (argument ∷ arguments)) →
    taken ≡ is_taken place argument.typed → whole ≡ ((all && taken) && are_taken places arguments)
are_taken-more whole all taken place places argument arguments is here =
    is ∙ ap (λ b. all && (b && are_taken places arguments)) (sym here)
    ∙ sym (and-assoc all taken (are_taken places arguments))

both-last : {A : Type 0} (first : Option A) (rest : Option (List A)) (last : Option A) →
    both ◌∷◌ first (and_last rest last) ≡ and_last (both ◌∷◌ first rest) last
both-last None rest last = refl
both-last (Some first) None last = refl
both-last (Some first) (Some rest) None = refl
both-last (Some first) (Some rest) (Some last) = refl

last-only : {A : Type 0} (last : Option A) → both ◌∷◌ last (Some []) ≡ and_last (Some []) last
last-only None = refl
last-only (Some last) = refl

-- a list with one more behind it
pub all_some-last : {A : Type 0} (values : List (Option A)) (last : Option A) →
    all_some (values ++ last ∷ []) ≡ and_last (all_some values) last
all_some-last [] last = last-only last
all_some-last (first ∷ rest) last =
    ap (both ◌∷◌ first) (all_some-last rest last) ∙ both-last first (all_some rest) last

-- one more operand of a chain
pub chained-last : (first : Term) (rest : List Operand) (last : Operand) →
    chained first (rest ++ last ∷ []) ≡ binary last.operation (chained first rest) last.term
chained-last first [] last = refl
chained-last first (next ∷ rest) last = chained-last (binary next.operation first next.term) rest last

pub on_ok : {T E P : Type 0} (r : Result T E) → P → OnOk r P
on_ok (Ok x) p = p
on_ok (Err e) p = tt
