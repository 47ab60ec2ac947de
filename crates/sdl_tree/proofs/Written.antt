-- What is written for the erasure of a node spells it, before whatever comes after it: the ways in which productions are put
-- together.
use Rattle.std.proofs.Common.{refl, Option, Some, None, option_map, List, [], ◌∷◌, map, inl, inr}
use Rattle.sdl_tree.specs.declared.mark.Mark.{Mark}
use Rattle.sdl_tree.specs.declared.mark.Mark.TheVariants as mark
use Rattle.sdl_tree.specs.Canonical.{separated, repeated, optional, in_parentheses, fixed, name_words, number_words, end_words, sig_words}
use Rattle.sdl_tree.specs.Erased.{plain, erased_word, erased_name, erased_sort, erased_number, erased_item}
use Rattle.sdl_tree.specs.Spells.Parts.{IsMark, Both, Behind, Before, Followed, Optional, Separated, Repeated, Enclosed, InParentheses, SpellsName, SpellsNumber, SpellsEnd, Ended, SpellsClosing, SpellsSig, SpellsSigs}
use Rattle.sdl_tree.specs.Tree.{SignalListItem, SignalItem, ListItem}
use Rattle.sdl_tree.specs.Words.{Spot, Words, Fixed}
use Rattle.sdl_tree.specs.Words as word

pub record Writes {A : Type 0} (erase : A → A) (P : A → Words → Words → Type 0) (words : A → Words → Words) : Type 0 where
  pub writes : (x : A) (i j k : Words) → P x i j → P (erase x) (words (erase x) k) k

pub mark_written : (m : Mark) → Writes erased_word (IsMark m) (λ s j. Fixed m s ∷ j)
mark_written m = record { writes = λ x i j k s. refl }

pub name_written : Writes erased_name SpellsName name_words
name_written = record { writes = λ x i j k s. refl }

pub sort_written : Writes erased_sort SpellsName name_words
sort_written = record { writes = λ x i j k s. refl }

pub number_written : Writes erased_number SpellsNumber number_words
number_written = record { writes = λ x i j k s. refl }

pub end_written : (k : Words) → SpellsEnd (end_words k) k
end_written k = inl (plain, refl)

-- the closing mark with the name
abbrev pub closing_words : Mark → Spot → Words → Words
closing_words m x j = fixed m ∷ word.Name x ∷ end_words j

pub closing_written : (m : Mark) (x : Spot) (k : Words) → SpellsClosing m x.text (closing_words m x k) k
closing_written m x k = (plain, _, end_words k, refl, inr (x, refl, refl), end_written k)

module _ {A : Type 0} {erase : A → A} {P : A → Words → Words → Type 0} {words : A → Words → Words} (p : Writes erase P words) where
  pub both_written : {B : Type 0} {erase_more : B → B} {Q : B → Words → Words → Type 0} {more : B → Words → Words} → Writes erase_more Q more →
      Writes {A = A × B} (λ x. (erase x.0, erase_more x.1)) (Both P Q) (λ x j. words x.0 (more x.1 j))
  both_written {erase_more = erase_more} {more = more} q = record {
    writes = λ x i j k s.
        let rest = more (erase_more x.1) k in
        (rest, p.writes x.0 i s.0 rest s.1, q.writes x.1 s.0 j k s.2);
  }

  pub behind_written : (m : Mark) → Writes erase (Behind m P) (λ x j. fixed m ∷ words x j)
  behind_written m = record { writes = λ x i j k s. (plain, _, refl, p.writes x s.1 j k s.3) }

  pub before_written : (m : Mark) → Writes erase (Before P m) (λ x j. words x (fixed m ∷ j))
  before_written m = record { writes = λ x i j k s. (plain, p.writes x i (Fixed m s.0 ∷ j) (fixed m ∷ k) s.1) }

  pub followed_written : (Dropped : Words → Words → Type 0) (dropped : Words → Words) → ((k : Words) → Dropped (dropped k) k) →
      Writes erase (Followed P Dropped) (λ x j. words x (dropped j))
  followed_written Dropped dropped each = record { writes = λ x i j k s. (dropped k, p.writes x i s.0 (dropped k) s.1, each k) }

  pub ended_written : Writes erase (Ended P) (λ x j. words x (end_words j))
  ended_written = record { writes = λ x i j k s. (end_words k, p.writes x i s.0 (end_words k) s.1, end_written k) }

  optional_on : (o : Option A) (i j k : Words) → Optional P o i j → Optional P (option_map erase o) (optional words (option_map erase o) k) k
  optional_on None i j k s = refl
  optional_on (Some x) i j k s = p.writes x i j k s

  pub optional_written : Writes (option_map erase) (Optional P) (optional words)
  optional_written = record { writes = optional_on }

  separated_on : (xs : List A) (i j k : Words) → Separated P xs i j → Separated P (map erase xs) (separated words (map erase xs) k) k
  separated_on [] i j k s = absurd s
  separated_on (x ∷ []) i j k s = p.writes x i j k s
  separated_on (x ∷ y ∷ xs) i j k s =
      let rest = separated words (map erase (y ∷ xs)) k in
      (plain, rest, p.writes x i (Fixed mark.Comma s.0 ∷ s.1) (fixed mark.Comma ∷ rest) s.2, separated_on (y ∷ xs) s.1 j k s.3)

  pub separated_written : Writes (map erase) (Separated P) (separated words)
  separated_written = record { writes = separated_on }

  repeated_on : (xs : List A) (i j k : Words) → Repeated P xs i j → Repeated P (map erase xs) (repeated words (map erase xs) k) k
  repeated_on [] i j k s = refl
  repeated_on (x ∷ xs) i j k s =
      let rest = repeated words (map erase xs) k in
      (rest, p.writes x i s.0 rest s.1, repeated_on xs s.0 j k s.2)

  pub repeated_written : Writes (map erase) (Repeated P) (repeated words)
  repeated_written = record { writes = repeated_on }

  in_parentheses_on : (xs : List A) (i j k : Words) → InParentheses P xs i j → InParentheses P (map erase xs) (in_parentheses words (map erase xs) k) k
  in_parentheses_on [] i j k s = refl
  in_parentheses_on (x ∷ xs) i j k s =
      let rest = separated words (map erase (x ∷ xs)) (fixed mark.Close ∷ k) in
      (plain, rest, refl, (plain, separated_on (x ∷ xs) s.1 (Fixed mark.Close s.3.0 ∷ j) (fixed mark.Close ∷ k) s.3.1))

  pub in_parentheses_written : Writes (map erase) (InParentheses P) (in_parentheses words)
  in_parentheses_written = record { writes = in_parentheses_on }

-- "(" x {"," x} ")"
pub enclosed_written : {A : Type 0} {erase : A → A} {P : A → Words → Words → Type 0} {words : A → Words → Words} → Writes erase P words →
    Writes (map erase) (Enclosed P) (λ xs j. fixed mark.Open ∷ separated words xs (fixed mark.Close ∷ j))
enclosed_written p = behind_written (before_written (separated_written p) mark.Close) mark.Open

pub names_written : Writes (map erased_name) (Separated SpellsName) (separated name_words)
names_written = separated_written name_written

sig_on : (x : SignalListItem) (i j k : Words) → SpellsSig x i j → SpellsSig (erased_item x) (sig_words (erased_item x) k) k
sig_on (SignalItem x) i j k s = refl
sig_on (ListItem x) i j k s = (behind_written (before_written name_written mark.Close) mark.Open).writes x i j k s

pub sigs_written : Writes (map erased_item) SpellsSigs (separated sig_words)
sigs_written = separated_written (record { writes = sig_on })
