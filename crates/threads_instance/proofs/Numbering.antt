-- The slots of a run are made one by one, in the order of their numbers.
use Rattle.std.proofs.Common.{◌≡◌, ◌++◌, ◌∷◌, ◌+◌, ◌<◌, ◌∙◌, [], ℕ, Bool, true, false, List, ap, arith, get_or, length, length-append, ltb, subst, sym, refl}
use Rattle.std.proofs.lemmas.Bool.{ltb-false, ltb-true}
use Rattle.std.proofs.lemmas.List.{get_or_append_left, get_or_push}
use Rattle.crossbeam_utils.specs.Padded.{padded_value}
use Rattle.crossbeam_utils.specs.declared.cache_padded.CachePadded.{CachePadded}
use Rattle.threads_instance.specs.Slots.{AreNumbered}
use Rattle.threads_instance.specs.declared.queue.slot.Slot.{Slot}

module _ {T : Type 0} where
  abbrev pub number_of : CachePadded (Slot T) → ℕ
  number_of row = (padded_value row).number

  -- with the next slot each still has its number
  numbered_push : (rows : List (CachePadded (Slot T))) (row : CachePadded (Slot T))
      → AreNumbered rows → number_of row ≡ length rows + 1 → AreNumbered (rows ++ row ∷ [])
  numbered_push rows row each last k d below = by (ltb k (length rows)) refl
    where
      by : (less : Bool) → ltb k (length rows) ≡ less → number_of (get_or (rows ++ row ∷ []) k d) ≡ k + 1
      by true is =
          let within : k < length rows = ltb-true k (length rows) is in
          ap number_of (get_or_append_left rows (row ∷ []) d k within) ∙ each k d within
      by false is =
          let at : length rows ≡ k = omega (arith, ltb-false k (length rows) is, below, length-append rows (row ∷ [])) in
          ap number_of (get_or_push rows row d k at) ∙ last ∙ ap (λ n. n + 1) at

  pub numbered_more : (rows more : List (CachePadded (Slot T))) (row : CachePadded (Slot T)) (count : ℕ)
      → length rows ≡ count → AreNumbered rows → number_of row ≡ count + 1 → more ≡ rows ++ row ∷ []
      → AreNumbered more
  numbered_more rows more row count long each last is =
      subst (λ list. AreNumbered list) (sym is)
      (numbered_push rows row each (last ∙ ap (λ n. n + 1) (sym long)))
