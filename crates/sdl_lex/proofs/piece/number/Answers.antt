use Rattle.std.proofs.Common.{◌≡◌, ◌≤◌, ℕ, ℤ, pos, to_z, of_z, w64, Ok, Some, sym, ◌∙◌, subst, arith}
use Rattle.std.proofs.lemmas.Int.{ints, to_z-of_z}
use Rattle.sdl_lex.specs.declared.token.Kind.TheVariants.{Number}
use Rattle.sdl_lex.specs.Piece.{Found}
use Rattle.sdl_lex.proofs.RunLemmas.{found_number, big_number}
use Rattle.sdl_lex.proofs.piece.number.Goals as goal

small_number : (value : ℤ) (n : ℕ) → value ≡ pos n → n ≤ 9223372036854775807 → to_z w64 (of_z w64 value) ≡ pos n
small_number value n is small = to_z-of_z w64 value (omega (arith, ints)) ∙ is

pub returns-in-Some : goal.returns-in-Some
returns-in-Some c =
    let parts = c.split_at.ensures in
    subst (λ v. Found (Ok (record { kind = Some (Number v); len = c.digits_len-len.result })) c.args.bytes.now) (sym (small_number c.in-Some.value _ c.in-Some.ensures.value c.in-Some.ensures.small))
    (found_number c.args.bytes.now c.split_at.result.0.now c.split_at.result.1.now parts.by_index.0 c.digits_len-len.result (sym parts.front_len) c.requires c.digits_len-len.ensures.value c.in-Some.ensures.small)

pub returns-in-None : goal.returns-in-None
returns-in-None c =
    let parts = c.split_at.ensures in
    big_number c.args.bytes.now c.split_at.result.0.now c.split_at.result.1.now parts.by_index.0 c.digits_len-len.result (sym parts.front_len) c.requires c.digits_len-len.ensures.value c.in-None.ensures.big
