-- In a run each term comes to a value of its kind.
use Rattle.std.proofs.Common.{◌≡◌, ◌∙◌, ℕ, zero, suc, List, [], ◌∷◌, Some, ap, map, slice_get, sym}
use Rattle.laws_sound_runs.proofs.SortLemmas.{runs-keep-sorts}
use Rattle.laws_sound_processes.specs.ProcessLaws.{RunsHaveKinds}
use Rattle.laws_sound_runs.proofs.ValueLemmas.{values-have-kinds}
use Rattle.run_record.specs.Environment.{environment}
use Rattle.sdl_system.specs.Behaviour.{variable_meaning}

mapped-get : {A B : Type 0} (f : A → B) (xs : List A) (n : ℕ) (x : A) → slice_get xs n ≡ Some x →
    slice_get (map f xs) n ≡ Some (f x)
mapped-get f [] zero x is = absurd (let never : ⊥ = cc in never)
mapped-get f [] (suc n) x is = absurd (let never : ⊥ = cc in never)
mapped-get f (y ∷ xs) zero x is = let same : y ≡ x = cc in ap (λ z. Some (f z)) same
mapped-get f (y ∷ xs) (suc n) x is = mapped-get f xs n x is

pub runs-have-kinds : RunsHaveKinds
runs-have-kinds d process who from place s t q r deeds history kind term v means have runs has is =
    values-have-kinds d.system process (environment d.system who t r) kind term v has
    (λ number variable w listed found.
    runs-keep-sorts d who from place s t q r deeds history have runs number (variable_meaning variable) w
    (ap (λ list. slice_get list number.0) (sym means.variables_are)
    ∙ mapped-get variable_meaning process.variables.items number.0 variable listed) found) is
