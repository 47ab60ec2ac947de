-- Warnings in the order of their places.
use Rattle.std.proofs.Common.{◌≡◌, ◌+◌, List, IsPermutation, arith, get_or, subst, ◌∙◌}
use Rattle.std.proofs.lemmas.Bool.Decides.{nat_tests}
use Rattle.std.specs.List.Sorted.{IsSortedBy}
use Rattle.std.specs.Ordering.{is_lt, nat_cmp, ordering_then}
use Rattle.parse_expressions.specs.declared.word.PlacedWord.{PlacedWord}
use Rattle.sdl_lex.specs.declared.place.Place.{Place}
use Rattle.sdl_tree.specs.Tree.{Tree}
use Rattle.sdl_warnings.specs.Found.{AreWarnings, gathered, is_before}
use Rattle.sdl_warnings.specs.declared.suspicion.Warning.{Warning}

before_is : (one other : Place)
    → is_before one other ≡ is_lt (ordering_then (nat_cmp one.line other.line) (nat_cmp one.column other.column))
before_is one other = grind (arith, nat_tests)

pub are_sorted : (tree : Tree) (words : List PlacedWord) (found sorted : List Warning) → found ≡ gathered tree words
    → IsPermutation found sorted
    → IsSortedBy
    (λ (one other : Warning). is_lt
    (ordering_then (nat_cmp one.place.line other.place.line) (nat_cmp one.place.column other.place.column))) sorted
    → AreWarnings tree words sorted
are_sorted tree words found sorted is same rises = record {
  all = subst (λ (l : List Warning). IsPermutation l sorted) is same;
  ordered = λ k d low within.
      before_is (get_or sorted (k + 1) d).place (get_or sorted k d).place ∙ rises k d low within;
}
