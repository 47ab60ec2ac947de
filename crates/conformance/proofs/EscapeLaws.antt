-- What a text without escapes keeps piece by piece.
use Rattle.std.proofs.Common.{◌≡◌, ◌≢◌, ℕ, List, [], ◌∷◌, ◌++◌, sym, ap, ◌∙◌, append_assoc, subst}
use Rattle.std.proofs.lemmas.List.Elements.{All-tail}
use Rattle.conformance.specs.Escape.{IsPlain, IsPlainByte, PutsByte}
use Rattle.conformance.specs.declared.escape.Piece.{Piece}
use Rattle.conformance.specs.declared.escape.Piece.TheVariants.{Byte}

pub plain_step : (text rest old new : List ℕ) (piece : Piece) → IsPlainByte text piece rest → PutsByte piece old new → IsPlain text → IsPlain rest × (new ++ rest ≡ old ++ text)
plain_step text rest old new (Byte b) is puts plain =
    (All-tail (λ byte. byte ≢ 92) b rest (subst IsPlain is plain), ap (λ t. t ++ rest) puts ∙ append_assoc old (b ∷ []) rest ∙ ap (λ t. old ++ t) (sym is))
plain_step text rest old new other is puts plain = absurd is
