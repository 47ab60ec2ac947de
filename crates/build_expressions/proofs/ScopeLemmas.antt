-- What a name stands for in the scopes round a place.
use Rattle.std.proofs.Common.{◌≡◌, ◌∙◌, ℕ, ◌++◌, Bool, true, false, cond, List, [], ◌∷◌, Option, Some, option_map, refl, ap, sym}
use Rattle.std.specs.Option.{option_or}
use Rattle.std.specs.Str.{bytes_eq}
use Rattle.build_names.specs.Names.{first_of, first_outward}
use Rattle.build_names.proofs.NameLemmas.{lookup-append}
use Rattle.build_expressions.specs.Scope.{meaning}

-- what it does in the innermost scope is what its first entry does
pub outward-first : {T : Type 0} (process block system : List (List ℕ × T)) (text : List ℕ) →
    first_outward process block system text ≡ first_of (process ++ (block ++ system)) text
outward-first process block system text =
    sym (lookup-append (bytes_eq text) process (block ++ system)
    ∙ ap (option_or (first_of process text)) (lookup-append (bytes_eq text) block system))

mapped : {A B : Type 0} (f : A → B) (found : Bool) (x : A) (rest : Option A) (mapped_rest : Option B) →
    mapped_rest ≡ option_map f rest → cond found (Some (f x)) mapped_rest ≡ option_map f (cond found (Some x) rest)
mapped f true x rest mapped_rest h = refl
mapped f false x rest mapped_rest h = h

pub meaning-first : {A B : Type 0} (f : A → B) (names : List (List ℕ × A)) (text : List ℕ) →
    first_of (meaning f names) text ≡ option_map f (first_of names text)
meaning-first f [] text = refl
meaning-first f (entry ∷ names) text =
    mapped f (bytes_eq text entry.0) entry.1 (first_of names text) (first_of (meaning f names) text)
    (meaning-first f names text)
