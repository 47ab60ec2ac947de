use Rattle.std.proofs.Common.{◌*◌, ◌%◌, ◌^◌, inl, inr, sym, subst, ◌∙◌, w64}
use Rattle.std.specs.Prelude.{bit_or}
use Rattle.std.proofs.lemmas.Bool.{cases_eq}
use Rattle.std.proofs.lemmas.Nat.Bits.{bit_at_set_other, bit_at_set_same}
use Rattle.build_routes.specs.Mask.{Bit}
use Rattle.build_routes.proofs.network.mask.with_bit.Goals as goal

pub returns : goal.returns
returns c = λ k.
    let mask = c.args.mask in
    let place = c.args.place in (
      λ has. elim (cases_eq k place) [
        | inl same ↦ inr (sym same)
        | inr other ↦ inl (sym (bit_at_set_other w64 mask place c.requires k other) ∙ has)
      ],
      λ either. elim either [
        | inl was ↦ elim (cases_eq k place) [
          | inl same ↦ subst (λ x. Bit (bit_or mask (1 * 2 ^ place % 2 ^ 64)) x) (sym same) (bit_at_set_same w64 mask place c.requires)
          | inr other ↦ bit_at_set_other w64 mask place c.requires k other ∙ was
        ]
        | inr same ↦ subst (λ x. Bit (bit_or mask (1 * 2 ^ place % 2 ^ 64)) x) same (bit_at_set_same w64 mask place c.requires)
      ],
    )
