-- The loop of `lex`: the text so far is parts, and one part more.
use Rattle.std.proofs.Common.{◌≡◌, ℕ, ◌+◌, ◌-◌, Some, None, List, [], ◌∷◌, ◌++◌, length, drop, sym, refl, ap, ◌∙◌, subst, arith, length-append}
use Rattle.std.specs.Prelude.{Ok}
use Rattle.std.proofs.lemmas.List.{append-nil, drop_at}
use Rattle.sdl_lex.specs.declared.token.Kind.{Kind}
use Rattle.sdl_lex.specs.declared.token.Token.{Token}
use Rattle.sdl_lex.specs.declared.piece.Piece.{Piece}
use Rattle.sdl_lex.specs.Part.{Part, Gap, Lexeme, bytes_of, IsPart, joined, AreParts, tokens_of}
use Rattle.sdl_lex.specs.Piece.{Found}
use Rattle.sdl_lex.specs.Token.{InOrder}
use Rattle.sdl_lex.proofs.PartLemmas.{joined-push, AreParts-push, tokens_of-push, InOrder-tokens}

-- the text is parts up to the rest, and these are the tokens among them
pub record CutSoFar (text rest : List ℕ) (tokens : List Token) : Type 0 where
  pub parts : List Part
  pub cut : text ≡ joined parts ++ rest
  pub are_parts : AreParts parts rest
  pub are_tokens : tokens ≡ tokens_of 0 parts

pub cut_none : (text : List ℕ) → CutSoFar text text []
cut_none text = record { parts = []; cut = refl; are_parts = tt; are_tokens = refl }

module _ (text rest : List ℕ) (tokens : List Token) (s : CutSoFar text rest tokens) where
  offset_is : length text - length rest ≡ length (joined s.parts)
  offset_is = let total = ap length s.cut ∙ length-append (joined s.parts) rest in omega arith

  cut_more : (p : Part) (after : List ℕ) → rest ≡ bytes_of p ++ after → IsPart p after → CutSoFar text after (tokens ++ tokens_of (length text - length rest) (p ∷ []))
  cut_more p after e part = record {
    parts = s.parts ++ p ∷ [];
    cut = s.cut ∙ ap (λ l. joined s.parts ++ l) e ∙ sym (joined-push s.parts p after);
    are_parts = AreParts-push s.parts p after (subst (AreParts s.parts) e s.are_parts) part;
    are_tokens =
        let here : length text - length rest ≡ 0 + length (joined s.parts) = let offset = offset_is in omega arith in
        (λ i. s.are_tokens i ++ tokens_of (here i) (p ∷ [])) ∙ sym (tokens_of-push 0 s.parts p);
  }

  after_is : (f after : List ℕ) (n : ℕ) → rest ≡ f ++ after → n ≡ length f → after ≡ drop n rest
  after_is f after n e len = sym (drop_at f after n (sym len)) ∙ ap (drop n) (sym e)

  pub gap_more : (piece : Piece) → Found (Ok piece) rest → piece.kind ≡ None → CutSoFar text (drop piece.len rest) tokens
  gap_more piece (Gap f, after, e, part, kind, len) none =
      subst (λ l. CutSoFar text l tokens) (after_is f after piece.len e len) (subst (CutSoFar text after) (append-nil tokens) (cut_more (Gap f) after e part))
  gap_more piece (Lexeme k f, after, e, part, kind, len) none = let both : None ≡ Some k = sym none ∙ kind in cc

  pub token_more : (piece : Piece) (k : Kind) → Found (Ok piece) rest → piece.kind ≡ Some k → CutSoFar text (drop piece.len rest) (tokens ++ record { kind = k; start = length text - length rest; end = length text - length rest + piece.len } ∷ [])
  token_more piece k (Gap f, after, e, part, kind, len) some = let both : Some k ≡ None = sym some ∙ kind in cc
  token_more piece k (Lexeme m f, after, e, part, kind, len) some =
      let both : Some m ≡ Some k = sym kind ∙ some in
      let same : m ≡ k = cc in
      let token : tokens_of (length text - length rest) (Lexeme m f ∷ []) ≡ record { kind = k; start = length text - length rest; end = length text - length rest + piece.len } ∷ [] =
      λ i. record { kind = same i; start = length text - length rest; end = length text - length rest + sym len i } ∷ [] in
      subst (λ l. CutSoFar text l (tokens ++ record { kind = k; start = length text - length rest; end = length text - length rest + piece.len } ∷ [])) (after_is f after piece.len e len)
      (subst (λ l. CutSoFar text after (tokens ++ l)) token (cut_more (Lexeme m f) after e part))

  pub InOrder-all : rest ≡ [] → InOrder 0 tokens (length text)
  InOrder-all nil =
      let end : 0 + length (joined s.parts) ≡ length text = (let offset = offset_is in let none = ap length nil in omega arith) in
      subst (λ l. InOrder 0 l (length text)) (sym s.are_tokens) (subst (InOrder 0 (tokens_of 0 s.parts)) end (InOrder-tokens 0 0 s.parts rest (omega arith) s.are_parts))
