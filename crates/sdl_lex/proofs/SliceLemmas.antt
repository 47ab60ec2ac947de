-- The slices of a text that its tokens are.
use Rattle.std.proofs.Common.{◌≡◌, ℕ, ◌+◌, ◌-◌, List, [], ◌∷◌, ◌++◌, length, take, drop, sym, refl, ap, ◌∙◌, subst, arith, append_assoc, length-append}
use Rattle.std.specs.Prelude.{slice_range}
use Rattle.std.specs.List.{All, AllByRecursion}
use Rattle.std.proofs.lemmas.List.{drop-drop, drop_at, take_at}
use Rattle.std.proofs.lemmas.List.Elements.{All-from_recursion}
use Rattle.sdl_lex.specs.declared.token.Token.{Token}
use Rattle.sdl_lex.specs.Kind.{Is}
use Rattle.sdl_lex.specs.Part.{Part, Gap, Lexeme, joined, AreParts, tokens_of}
use Rattle.sdl_lex.specs.Token.{IsSlice}
use Rattle.sdl_lex.proofs.LexerLemmas.{CutSoFar}

module _ (text before front after : List ℕ) (cut : text ≡ before ++ (front ++ after)) where
  from_start : drop (length before) text ≡ front ++ after
  from_start = ap (drop (length before)) cut ∙ drop_at before (front ++ after) (length before) refl

  slice_is : slice_range text (length before) (length before + length front) ≡ front
  slice_is =
      let len : length before + length front - length before ≡ length front = omega arith in
      ap (λ n. take n (drop (length before) text)) len ∙ ap (take (length front)) from_start ∙ take_at front after (length front) refl

  from_end : drop (length before + length front) text ≡ after
  from_end = sym (drop-drop (length front) (length before) text) ∙ ap (drop (length front)) from_start ∙ drop_at front after (length front) refl

slices : (text before : List ℕ) (parts : List Part) (rest : List ℕ) → text ≡ before ++ (joined parts ++ rest) → AreParts parts rest → AllByRecursion (IsSlice text) (tokens_of (length before) parts)
slices text before [] rest cut x = tt
slices text before (Gap f ∷ parts) rest cut x =
    let on : text ≡ (before ++ f) ++ (joined parts ++ rest) = cut ∙ ap (λ l. before ++ l) (append_assoc f (joined parts) rest) ∙ sym (append_assoc before f (joined parts ++ rest)) in
    subst (λ n. AllByRecursion (IsSlice text) (tokens_of n parts)) (length-append before f) (slices text (before ++ f) parts rest on x.1)
slices text before (Lexeme k f ∷ parts) rest cut x =
    let here : text ≡ before ++ (f ++ (joined parts ++ rest)) = cut ∙ ap (λ l. before ++ l) (append_assoc f (joined parts) rest) in
    let on : text ≡ (before ++ f) ++ (joined parts ++ rest) = here ∙ sym (append_assoc before f (joined parts ++ rest)) in (
      subst (λ l. Is k l (drop (length before + length f) text)) (sym (slice_is text before f (joined parts ++ rest) here))
          (subst (λ l. Is k f l) (sym (from_end text before f (joined parts ++ rest) here)) x.0.0),
      subst (λ n. AllByRecursion (IsSlice text) (tokens_of n parts)) (length-append before f) (slices text (before ++ f) parts rest on x.1),
    )

pub All-slices : (text rest : List ℕ) (tokens : List Token) → CutSoFar text rest tokens → All (IsSlice text) tokens
All-slices text rest tokens s =
    All-from_recursion (IsSlice text) tokens (subst (AllByRecursion (IsSlice text)) (sym s.are_tokens) (slices text [] s.parts rest s.cut s.are_parts))
