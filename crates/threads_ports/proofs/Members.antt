-- The members of a set of numbers, as the set changes.
use Rattle.std.proofs.Common.{◌≡◌, ℕ, ◌+◌, ◌*◌, ◌/◌, ◌<◌, ◌≤◌, true, false, List, [], length, Some, slice_get, get_or, sym, ◌∙◌}
use Rattle.std.specs.Int.{bit_at}
use Rattle.threads_ports.specs.NumberSets.{is_in, with_number, without}
use Rattle.threads_ports.specs.Words.{is_set, members_below}
use Rattle.threads_ports.proofs.Bits.{with_bit, without_bit, set_same, set_other, clear_same, clear_other, zero_word, lowest_set, none_below}
use Rattle.threads_ports.proofs.Ranges.{first_in_range, is_in_beyond, is_in_range, length_in_range, none_in_range, one_less, one_more, one_more_counted}

pub members-most : (most : ℕ) (words : List ℕ) → length (members_below most words) ≤ most
unfolding members_below
members-most most words = length_in_range (is_set words) 0 most

pub members-contain : (most : ℕ) (words : List ℕ) (m : ℕ) → m < most
    → is_in m (members_below most words) ≡ is_set words m
unfolding members_below
members-contain most words m within = is_in_range (is_set words) m most within

pub members-beyond : (most : ℕ) (words : List ℕ) (m : ℕ) → most ≤ m → is_in m (members_below most words) ≡ false
unfolding members_below
members-beyond most words m past = is_in_beyond (is_set words) m most past

-- where all words are 0
pub members-none : (most : ℕ) (words : List ℕ) → ((j : ℕ) → get_or words j 0 ≡ 0) → members_below most words ≡ []
unfolding members_below
members-none most words none =
    none_in_range (is_set words) 0 most (λ k _ _. zero_word words k (none (k / 64)))

module _ (most : ℕ) (words : List ℕ) (m : ℕ) (within : m < most) (word : m / 64 < length words) where
  pub members-insert : members_below most (with_bit words m) ≡ with_number m (members_below most words)
  unfolding members_below
  members-insert =
      one_more (is_set words) (is_set (with_bit words m)) m most within (set_same words m word)
      (λ k _ other. set_other words m word k other)

  pub length-insert : is_in m (members_below most words) ≡ false
      → length (members_below most (with_bit words m)) ≡ length (members_below most words) + 1
  unfolding members_below
  length-insert absent =
      one_more_counted (is_set words) (is_set (with_bit words m)) m most within (set_same words m word)
      (sym (is_in_range (is_set words) m most within) ∙ absent) (λ k _ other. set_other words m word k other)

  pub members-remove : members_below most (without_bit words m) ≡ without m (members_below most words)
  unfolding members_below
  members-remove =
      one_less (is_set words) (is_set (without_bit words m)) m most (clear_same words m word)
      (λ k _ other. clear_other words m word k other)

  pub length-remove : is_in m (members_below most words) ≡ true
      → length (members_below most (without_bit words m)) + 1 ≡ length (members_below most words)
  unfolding members_below
  length-remove present =
      sym (one_more_counted (is_set (without_bit words m)) (is_set words) m most within
      (sym (is_in_range (is_set words) m most within) ∙ present) (clear_same words m word)
      (λ k _ other. sym (clear_other words m word k other)))

-- the first word that isn't 0 has the least number, at its lowest bit
pub members-least : (most : ℕ) (words : List ℕ) (place word bit : ℕ) → get_or words place 0 ≡ word → bit < 64
    → bit_at word bit ≡ 1 → ((k : ℕ) → k < bit → bit_at word k ≡ 0) → ((j : ℕ) → j < place → get_or words j 0 ≡ 0)
    → place * 64 + bit < most → slice_get (members_below most words) 0 ≡ Some (place * 64 + bit)
unfolding members_below
members-least most words place word bit here low one lower before within =
    first_in_range (is_set words) (place * 64 + bit) most within (lowest_set words place word bit here low one)
    (none_below words place word bit here low lower before)
