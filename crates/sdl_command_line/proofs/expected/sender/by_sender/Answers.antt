use Rattle.std.proofs.Common.{ℕ, List, rules}
use Rattle.std.specs.Borrow.{Bor}
use Rattle.std.proofs.lemmas.List.Sorted.{answers_always, IsNonDecreasingBy-from_sort_by_key, IsPermutation-map}
use Rattle.sdl_command_line.specs.Sender.{ending_number}
use Rattle.sdl_command_line.proofs.SenderLemmas.{ascending_texts, stable_texts}
use Rattle.sdl_command_line.proofs.expected.sender.by_sender.Goals as goal

pub returns : goal.returns
returns c = record {
  same = IsPermutation-map (λ (line : Bor (List ℕ)). line.now) _ _ c.in_ok-sort_by_key.ensures.permutation;
  ascending =
      ascending_texts ending_number _
      (IsNonDecreasingBy-from_sort_by_key (λ (line : Bor (List ℕ)). ending_number line.now) _ c.in_ok-sort_by_key.ensures.sorted
      (λ a r q k. search rules));
  stable =
      stable_texts _ _ (c.sort_by_key.ensures.stable (λ (line : Bor (List ℕ)). ending_number line.now)
      (answers_always _ _ _ (λ f a r g h. search rules)));
}
