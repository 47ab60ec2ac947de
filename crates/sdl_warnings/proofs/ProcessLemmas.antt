-- The words of a text, process by process.
use Rattle.std.proofs.Common.{◌≡◌, ◌<◌, ◌≤◌, ◌+◌, ◌-◌, ℕ, suc, Bool, true, false, if◌then◌else◌, List, [], ◌∷◌, ◌++◌, ap, append-nil, append_assoc, arith, cond, drop, length, length-drop, refl, slice_range, sym, take, ◌∙◌, ⊎_elim}
use Rattle.std.proofs.lemmas.Bool.{cases_Bool}
use Rattle.std.proofs.lemmas.List.{drop-drop, drop_all}
use Rattle.std.specs.List.{flat_map, prefix_len}
use Rattle.parse_expressions.specs.declared.word.PlacedWord.{PlacedWord}
use Rattle.sdl_warnings.specs.Heads.{HeadValue}
use Rattle.sdl_warnings.specs.Processes.{goes_on, of_part, parts, with_first}
use Rattle.sdl_warnings.specs.declared.suspicion.Warning.{Warning}

abbrev first_part : List PlacedWord → List (List PlacedWord)
first_part words = take (prefix_len goes_on words) words ∷ parts (drop (prefix_len goes_on words + 1) words)

module _ (word : PlacedWord) (more : List PlacedWord) where
  abbrev chosen : Bool → List (List PlacedWord)
  chosen b = if b then with_first word (parts more) else [] ∷ parts more

  abbrev cut : ℕ → List (List PlacedWord)
  cut n = take n (word ∷ more) ∷ parts (drop (n + 1) (word ∷ more))

  abbrev len : Bool → ℕ
  len b = cond b (1 + prefix_len goes_on more) 0

  stops : goes_on word ≡ false → chosen (goes_on word) ≡ cut (len (goes_on word))
  stops is = ap chosen is ∙ sym (ap (λ b. cut (len b)) is)

  goes : goes_on word ≡ true → with_first word (parts more) ≡ cut (1 + prefix_len goes_on more)
      → chosen (goes_on word) ≡ cut (len (goes_on word))
  goes is rest = ap chosen is ∙ rest ∙ sym (ap (λ b. cut (len b)) is)

  longer : parts more ≡ first_part more → with_first word (parts more) ≡ cut (1 + prefix_len goes_on more)
  longer rest =
      let n = prefix_len goes_on more in
      let one : suc n ≡ 1 + n = omega arith in
      let two : suc (n + 1) ≡ 1 + n + 1 = omega arith in
      ap (with_first word) rest
      ∙ ap (λ k. take k (word ∷ more) ∷ parts (drop (n + 1) more)) one
      ∙ ap (λ k. take (1 + n) (word ∷ more) ∷ parts (drop k (word ∷ more))) two

parted : (word : PlacedWord) (more : List PlacedWord) → parts (word ∷ more) ≡ first_part (word ∷ more)
parted word [] = ⊎_elim (λ is. goes word [] is refl) (λ is. stops word [] is) (cases_Bool (goes_on word))
parted word (next ∷ more) =
    ⊎_elim
    (λ is. goes word (next ∷ more) is (longer word (next ∷ more) (parted next more)))
    (λ is. stops word (next ∷ more) is)
    (cases_Bool (goes_on word))

some_parted : (words : List PlacedWord) → 0 < length words → parts words ≡ first_part words
some_parted [] some = absurd (omega (arith, some))
some_parted (word ∷ more) some = parted word more

module _ (constants : List HeadValue) (words : List PlacedWord) (all : List Warning) where
  pub passed : (from end : ℕ) (found found' : List Warning) → from < length words
      → end ≡ from + prefix_len goes_on (drop from words)
      → found' ≡ found ++ of_part constants (slice_range words from end)
      → found ++ flat_map (of_part constants) (parts (drop from words)) ≡ all
      → found' ++ flat_map (of_part constants) (parts (drop (end + 1) words)) ≡ all
  passed from end found found' within is grows so_far =
      let n = prefix_len goes_on (drop from words) in
      let size : end - from ≡ n = omega (arith, is) in
      let place : from + (n + 1) ≡ end + 1 = omega (arith, is) in
      let left = length-drop from words in
      let some : 0 < length (drop from words) = omega (arith, left, within) in
      let rest = parts (drop (end + 1) words) in
      ap (λ l. l ++ flat_map (of_part constants) rest) (grows ∙ ap (λ k. found ++ of_part constants (take k (drop from words))) size)
      ∙ append_assoc found (of_part constants (take n (drop from words))) (flat_map (of_part constants) rest)
      ∙ ap (λ l. found ++ flat_map (of_part constants) (take n (drop from words) ∷ parts l))
      (sym (drop-drop (n + 1) from words ∙ ap (λ k. drop k words) place))
      ∙ ap (λ l. found ++ flat_map (of_part constants) l) (sym (some_parted (drop from words) some))
      ∙ so_far

  pub passed_all : (from : ℕ) (found : List Warning) → length words ≤ from
      → found ++ flat_map (of_part constants) (parts (drop from words)) ≡ all → found ≡ all
  passed_all from found end so_far =
      sym (append-nil found) ∙ ap (λ l. found ++ flat_map (of_part constants) (parts l)) (sym (drop_all from words end)) ∙ so_far
