-- Lists whose elements have numbers, as far as a loop has come.
use Rattle.std.proofs.Common.{◌≡◌, ◌∙◌, ◌++◌, ◌+◌, ◌<◌, ℕ, List, [], ◌∷◌, length, map, take, get_or, ap, sym, arith}
use Rattle.std.proofs.lemmas.List.{append-nil, length-map, length-take-le, map_more}
use Rattle.std.proofs.lemmas.List.Concat.{flat_map-append}
use Rattle.build_network.specs.Numbered.{joined, numbered}

numbered-more : {A B : Type 0} (make : ℕ → A → B) (n : ℕ) (xs : List A) (x : A) →
    numbered make n (xs ++ x ∷ []) ≡ numbered make n xs ++ make (n + length xs) x ∷ []
numbered-more make n [] x = ap (λ k. make k x ∷ []) (omega arith)
numbered-more make n (y ∷ ys) x =
    ap (λ rest. make n y ∷ rest) (numbered-more make (n + 1) ys x
    ∙ ap (λ k. numbered make (n + 1) ys ++ make k x ∷ []) (omega arith))

module _ {A : Type 0} (xs : List A) (i : ℕ) (x : A) (within : i < length xs) (is : x ≡ get_or xs i x) where
  taken-length : length (take i xs) ≡ i
  taken-length = length-take-le i xs (omega (arith, within))

  pub mapped-step : {B : Type 0} (f : A → B) → map f (take (i + 1) xs) ≡ map f (take i xs) ++ f x ∷ []
  mapped-step f = map_more f xs i x within ∙ ap (λ y. map f (take i xs) ++ f y ∷ []) (sym is)

  pub numbered-map-step : {B C : Type 0} (f : A → B) (make : ℕ → B → C) (n k : ℕ) → k ≡ n + i →
      numbered make n (map f (take (i + 1) xs)) ≡ numbered make n (map f (take i xs)) ++ make k (f x) ∷ []
  numbered-map-step f make n k k_is =
      ap (numbered make n) (mapped-step f)
      ∙ numbered-more make n (map f (take i xs)) (f x)
      ∙ ap (λ j. numbered make n (map f (take i xs)) ++ make (n + j) (f x) ∷ [])
      (length-map (take i xs) f ∙ taken-length)
      ∙ ap (λ j. numbered make n (map f (take i xs)) ++ make j (f x) ∷ []) (sym k_is)

  pub joined-map-step : {B C : Type 0} (f : A → B) (make : ℕ → B → List C) (n k : ℕ) → k ≡ n + i →
      joined (numbered make n (map f (take (i + 1) xs))) ≡ joined (numbered make n (map f (take i xs))) ++ make k (f x)
  joined-map-step f make n k k_is =
      ap joined (numbered-map-step f make n k k_is)
      ∙ flat_map-append (λ list. list) (numbered make n (map f (take i xs))) (make k (f x) ∷ [])
      ∙ ap (λ list. joined (numbered make n (map f (take i xs))) ++ list) (append-nil (make k (f x)))
