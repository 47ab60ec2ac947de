-- Flags of the paths that a connect names.
use Rattle.std.proofs.Common.{◌≡◌, ℕ, ◌+◌, ◌<◌, ◌≤◌, ◌++◌, ◌↔◌, Bool, true, false, List, [], ◌∷◌, get_or, length, arith, inl, inr, sym, subst, ◌∙◌, ap}
use Rattle.std.proofs.lemmas.Bool.{cases_Bool, cases_eq, false≢true}
use Rattle.std.proofs.lemmas.List.{get_or_append_left, get_or_push}
use Rattle.std.proofs.lemmas.Option.{slice_get_within}
use Rattle.build_routes.specs.Paths.{IsNamed}
use Rattle.build_routes.specs.Reached.{AreFlags}
use Rattle.build_routes.specs.declared.network.joined.Network.{Network}

pub flags_more : (network : Network) (flags new : List Bool) (i : ℕ) (flag : Bool) → length flags ≡ i → (flag ≡ true) ↔ IsNamed network i
    → ((n : ℕ) → n < i → (get_or flags n false ≡ true) ↔ IsNamed network n) → new ≡ flags ++ flag ∷ []
    → (n : ℕ) → n < i + 1 → (get_or new n false ≡ true) ↔ IsNamed network n
flags_more network flags new i flag size here before pushed n below = elim (cases_eq n i) [
  | inl same ↦
      let at : get_or new n false ≡ flag = ap (λ x. get_or x n false) pushed ∙ get_or_push flags flag false n (size ∙ sym same) in (
        λ e. subst (λ x. IsNamed network x) (sym same) (here.0 (sym at ∙ e)),
        λ named. at ∙ here.1 (subst (λ x. IsNamed network x) same named),
      )
  | inr other ↦
      let at : get_or new n false ≡ get_or flags n false = ap (λ x. get_or x n false) pushed ∙ get_or_append_left flags (flag ∷ []) false n (omega arith) in
      (λ e. (before n (omega arith)).0 (sym at ∙ e), λ named. at ∙ (before n (omega arith)).1 named)
]

pub flags_all : (network : Network) (flags : List Bool) (i : ℕ) → length network.paths.items ≤ i
    → ((n : ℕ) → n < i → (get_or flags n false ≡ true) ↔ IsNamed network n) → AreFlags network flags
flags_all network flags i all each n path here =
    let within : n < i = omega (arith, slice_get_within network.paths.items n path here) in (
      λ flag named. false≢true (sym flag ∙ (each n within).1 named),
      λ unnamed. elim (cases_Bool (get_or flags n false)) [ inl is ↦ absurd (unnamed ((each n within).0 is)) | inr not_it ↦ not_it ],
    )
