-- Whether an instance has ended, after one event more.
use Rattle.std.proofs.Common.{◌≡◌, ◌∙◌, ◌||◌, ap, refl, sym, Bool, true, false, List, [], ◌∷◌, ◌++◌}
use Rattle.std.specs.List.{list_any}
use Rattle.std.proofs.lemmas.List.Folds.{list_any-append}
use Rattle.run_record.specs.Event.{Event}
use Rattle.settle_meaning.specs.Identities.{is_memory}
use Rattle.settle_meaning.specs.Living.{is_end}
use Rattle.settle_checks.specs.Summary.{IsFate}
use Rattle.settle_checks.specs.declared.summing.fate.Fate.{Fate}

or_false : (b : Bool) → (b || false) ≡ b
or_false true = refl
or_false false = refl

pub any_more : (p : Event → Bool) (done : List Event) (happened : Event) (old new : Bool)
    → new ≡ (old || p happened) → old ≡ list_any p done → new ≡ list_any p (done ++ happened ∷ [])
any_more p done happened old new is was =
    is ∙ ap (λ b. b || p happened) was
    ∙ sym (list_any-append p done (happened ∷ []) ∙ ap (λ b. list_any p done || b) (or_false (p happened)))

pub fate_none : (fate : Fate) → fate.ends ≡ false → fate.lacks_memory ≡ false → IsFate [] fate
fate_none fate ends memory = record { ends = ends; lacks_memory = memory }

pub fate_more : (done : List Event) (happened : Event) (old new : Fate) → new.ends ≡ (old.ends || is_end happened)
    → new.lacks_memory ≡ (old.lacks_memory || is_memory happened) → IsFate done old
    → IsFate (done ++ happened ∷ []) new
fate_more done happened old new ends memory is = record {
  ends = any_more is_end done happened old.ends new.ends ends is.ends;
  lacks_memory = any_more is_memory done happened old.lacks_memory new.lacks_memory memory is.lacks_memory;
}
