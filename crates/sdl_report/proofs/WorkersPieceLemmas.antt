-- The lines of pieces, and the texts of pieces as they go out.
use Rattle.std.proofs.Common.{◌≡◌, ◌∙◌, ℕ, suc, ◌+◌, ◌<◌, List, [], ◌∷◌, ◌++◌, length, take, drop, get_or, set, Option, refl, sym, ap, subst, append_assoc, append-nil, take-append-drop, drop-cons, arith}
use Rattle.std.proofs.lemmas.List.{flat_map_more, take_more, take_more_set}
use Rattle.std.proofs.lemmas.List.Concat.{flat_map-append}
use Rattle.std.proofs.KnownBytes.{Appends-trans}
use Rattle.std.specs.List.{flat_map}
use Rattle.std.specs.Io.KnownBytes.{Appends}
use Rattle.sdl_report.specs.Gathered.{BreaksOff}
use Rattle.sdl_system.specs.System.{SystemValue}
use Rattle.sdl_report.proofs.LineLemmas.{breaks-later, breaks-sooner}
use Rattle.sdl_report.specs.Lines.{LineValue, line_text, lines_text}
use Rattle.sdl_report.specs.Pieces.{joined, piece_text, pieces_text}
use Rattle.sdl_report.specs.declared.workers.piece.Piece.{Piece}

-- the texts of the pieces are the text of their lines
pub pieces-text-joined : (system : SystemValue) (pieces : List Piece) →
    pieces_text system pieces ≡ lines_text system (joined pieces)
pieces-text-joined system [] = refl
pieces-text-joined system (piece ∷ pieces) =
    ap (λ l. piece_text system piece ++ l) (pieces-text-joined system pieces)
    ∙ sym (flat_map-append (line_text system) piece.lines (joined pieces))

-- what is true of each piece is true of the lines that are joined
pub joined-same : (xs ys : List Piece) → length ys ≡ length xs →
    ((i : ℕ) (d : Piece) → i < length xs → (get_or ys i d).lines ≡ (get_or xs i d).lines) → joined ys ≡ joined xs
joined-same [] [] same each = refl
joined-same [] (y ∷ ys) same each = absurd (omega (arith, same))
joined-same (x ∷ xs) [] same each = absurd (omega (arith, same))
joined-same (x ∷ xs) (y ∷ ys) same each =
    ap (λ l. l ++ joined ys) (each 0 x (omega arith))
    ∙ ap (λ l. x.lines ++ l)
    (joined-same xs ys (omega (arith, same)) (λ i d here. each (suc i) d (omega (arith, here))))

-- one piece more is cut from what is left
pub cut-more : (pieces : List Piece) (i : ℕ) (piece : Piece) (share : ℕ) (left all : List LineValue) →
    i < length pieces → joined (take i pieces) ++ left ≡ all → piece.lines ≡ take share left →
    joined (take (i + 1) (set pieces i piece)) ++ drop share left ≡ all
cut-more pieces i piece share left all here before own =
    ap (λ l. joined l ++ drop share left) (take_more_set pieces i piece here)
    ∙ ap (λ l. l ++ drop share left)
    (flat_map-append (λ (p : Piece). p.lines) (take i pieces) (piece ∷ [])
    ∙ ap (λ l. joined (take i pieces) ++ l) (append-nil piece.lines ∙ own))
    ∙ append_assoc (joined (take i pieces)) (take share left) (drop share left)
    ∙ ap (λ l. joined (take i pieces) ++ l) (take-append-drop share left) ∙ before

-- ---- the elements of a list, whose texts go out one after the other

module _ {X : Type 0} (f : X → List ℕ) (xs : List X) (i : ℕ) (x : X) (here : i < length xs)
    (is : x ≡ get_or xs i x) where
  -- one more
  pub sent-more : (a b c : Option (List ℕ)) → Appends a b (flat_map f (take i xs)) → Appends b c (f x) →
      Appends a c (flat_map f (take (i + 1) xs))
  sent-more a b c before more =
      subst (Appends a c)
      (flat_map_more f [] (take i xs) x
      ∙ ap (flat_map f) (ap (λ y. take i xs ++ y ∷ []) is ∙ sym (take_more xs i x here)))
      (Appends-trans a b c (flat_map f (take i xs)) (f x) before more)

  -- a break in it
  pub breaks-here : (a b c : Option (List ℕ)) → Appends a b (flat_map f (take i xs)) → BreaksOff b c (f x) →
      BreaksOff a c (flat_map f xs)
  breaks-here a b c before off =
      let after = flat_map f (drop (suc i) xs) in
      subst (BreaksOff a c)
      (sym
      (ap (flat_map f) (sym (take-append-drop i xs)) ∙ flat_map-append f (take i xs) (drop i xs)
      ∙ ap (λ l. flat_map f (take i xs) ++ flat_map f l) (drop-cons xs i x here)
      ∙ ap (λ y. flat_map f (take i xs) ++ (f y ++ after)) (sym is)))
      (breaks-later a b c (flat_map f (take i xs)) (f x ++ after) before (breaks-sooner b c (f x) after off))

-- ---- one round: some lines went out, the next ones are cut and go out, and others are left

module _ (system : SystemValue) (all sent own left after : List LineValue) (before : all ≡ sent ++ left)
    (cut : own ++ after ≡ left) where
  pub round-lines : all ≡ (sent ++ own) ++ after
  round-lines = before ∙ ap (λ l. sent ++ l) (sym cut) ∙ sym (append_assoc sent own after)

  round-text : (end : List ℕ) → (lines_text system sent ++ lines_text system own) ++ (lines_text system after ++ end)
      ≡ lines_text system all ++ end
  round-text end =
      let f = line_text system in
      sym (append_assoc (lines_text system sent ++ lines_text system own) (lines_text system after) end)
      ∙ ap (λ l. l ++ end)
      (ap (λ l. l ++ lines_text system after) (sym (flat_map-append f sent own))
      ∙ sym (flat_map-append f (sent ++ own) after) ∙ ap (lines_text system) (sym round-lines))

  module _ (a b c : Option (List ℕ)) (out : Appends a b (lines_text system sent)) where
    pub round-out : Appends b c (lines_text system own) → Appends a c (lines_text system (sent ++ own))
    round-out more =
        subst (Appends a c) (sym (flat_map-append (line_text system) sent own))
        (Appends-trans a b c (lines_text system sent) (lines_text system own) out more)

    pub round-breaks : (end : List ℕ) → BreaksOff b c (lines_text system own) →
        BreaksOff a c (lines_text system all ++ end)
    round-breaks end off =
        let first = lines_text system sent in
        let next = lines_text system own in
        subst (BreaksOff a c) (round-text end)
        (breaks-sooner a c (first ++ next) (lines_text system after ++ end) (breaks-later a b c first next out off))

-- all lines went out
pub all-text : (system : SystemValue) (all sent left : List LineValue) → all ≡ sent ++ left → left ≡ [] →
    lines_text system sent ≡ lines_text system all
all-text system all sent left before none =
    ap (lines_text system) (sym (before ∙ ap (λ l. sent ++ l) none ∙ append-nil sent))
