-- Where known words spell a node, so are those behind it, and what is written for the node can be written before words that can:
-- the ways in which productions are put together.
use Rattle.std.proofs.Common.{◌≡◌, refl, subst, lit≤, ℕ, Bool, true, false, if◌then◌else◌, Option, Some, None, option_map, List, [], ◌∷◌, map, inl, inr, codes}
use Rattle.std.specs.Str.{bytes_eq}
use Rattle.sdl_tree.specs.declared.mark.Mark.{Mark}
use Rattle.sdl_tree.specs.declared.mark.Mark.TheVariants as mark
use Rattle.sdl_tree.specs.Canonical.{separated, repeated, optional, in_parentheses, fixed, name_words, number_words, end_words, sig_words}
use Rattle.sdl_tree.specs.Erased.{erased_word, erased_name, erased_sort, erased_number, erased_item}
use Rattle.sdl_tree.specs.Keyword.{keyword_found, left_out_found}
use Rattle.sdl_tree.specs.Spells.Parts.{IsMark, Both, Behind, Before, Followed, Optional, Separated, Repeated, Enclosed, InParentheses, Unless, Wherever, SpellsName, SpellsNumber, SpellsEnd, SpellsEndName, Ended, SpellsClosing, sort_of, SpellsSig, SpellsSigs}
use Rattle.sdl_tree.specs.Tree.{SignalListItem, SignalItem, ListItem}
use Rattle.sdl_tree.specs.Words.{Spot, Words, Fixed}
use Rattle.sdl_tree.specs.Words as word
use Rattle.sdl_print.proofs.Known.{IsName, AreKnown, AreWritable}

pub known : {i j : Words} → i ≡ j → AreKnown i → AreKnown j
known e w = subst AreKnown e w

-- the rest is known, and what is written can be written before words that can
abbrev pub Carried : Words → (Words → Words) → Type 0
Carried j words = AreKnown j × ((k : Words) → AreWritable k → AreWritable (words k))

pub record Carries {A : Type 0} (erase : A → A) (P : A → Words → Words → Type 0) (words : A → Words → Words) : Type 0 where
  pub carries : (x : A) (i j : Words) → P x i j → AreKnown i → Carried j (words (erase x))

-- words that the node drops, and words that can be written in their place
pub record Drops (Dropped : Words → Words → Type 0) (words : Words → Words) : Type 0 where
  pub drops : (i j : Words) → Dropped i j → AreKnown i → AreKnown j
  pub writes : (k : Words) → AreWritable k → AreWritable (words k)

pub mark_carried : (m : Mark) → Carries erased_word (IsMark m) (λ s j. Fixed m s ∷ j)
mark_carried m = record { carries = λ x i j s w. ((known s w).1, λ k v. (refl, v)) }

pub name_carried : Carries erased_name SpellsName name_words
name_carried = record { carries = λ x i j s w. let h = known s w in (h.1, λ k v. (h.0, v)) }

sort_known : (x : List ℕ) → IsName x → IsName (sort_of x)
unfolding keyword_found left_out_found
sort_known x h = of_test (bytes_eq x (codes "PId"))
  where
    of_test : (b : Bool) → IsName (if b then codes "Pid" else x)
    of_test true = ((refl, refl), lit≤ tt, refl, refl)
    of_test false = h

pub sort_carried : Carries erased_sort SpellsName name_words
sort_carried = record { carries = λ x i j s w. let h = known s w in (h.1, λ k v. (sort_known x.text h.0, v)) }

pub number_carried : Carries erased_number SpellsNumber number_words
number_carried = record { carries = λ x i j s w. let h = known s w in (h.1, λ k v. ((h.0, refl), v)) }

end_known : (i j : Words) → SpellsEnd i j → AreKnown i → AreKnown j
end_known i j (inl s) w = (known s.1 w).1
end_known i j (inr s) w = (known s.3 w).1.1.1

pub end_dropped : Drops SpellsEnd end_words
end_dropped = record { drops = end_known; writes = λ k v. (refl, v) }

end_name_known : (name : List ℕ) (i j : Words) → SpellsEndName name i j → AreKnown i → AreKnown j
end_name_known name i j (inl s) w = known s w
end_name_known name i j (inr s) w = (known s.2 w).1

pub closing_known : (m : Mark) (name : List ℕ) (i j : Words) → SpellsClosing m name i j → AreKnown i → AreKnown j
closing_known m name i j s w = end_known s.2 j s.5 (end_name_known name s.1 s.2 s.4 (known s.3 w).1)

-- the closing mark with a name that can be written
pub closing_dropped : (m : Mark) (x : Spot) → IsName x.text → Drops (SpellsClosing m x.text) (λ j. fixed m ∷ word.Name (erased_name x) ∷ end_words j)
closing_dropped m x h = record { drops = closing_known m x.text; writes = λ k v. (refl, (h, (refl, v))) }

module _ {A : Type 0} {erase : A → A} {P : A → Words → Words → Type 0} {words : A → Words → Words} (p : Carries erase P words) where
  pub both_carried : {B : Type 0} {erase_more : B → B} {Q : B → Words → Words → Type 0} {more : B → Words → Words} → Carries erase_more Q more →
      Carries {A = A × B} (λ x. (erase x.0, erase_more x.1)) (Both P Q) (λ x j. words x.0 (more x.1 j))
  both_carried {erase_more = erase_more} {more = more} q = record {
    carries = λ x i j s w.
        let a = p.carries x.0 i s.0 s.1 w in
        let b = q.carries x.1 s.0 j s.2 a.0 in
        (b.0, λ k v. a.1 (more (erase_more x.1) k) (b.1 k v));
  }

  pub behind_carried : (m : Mark) → Carries erase (Behind m P) (λ x j. fixed m ∷ words x j)
  behind_carried m = record { carries = λ x i j s w. let a = p.carries x s.1 j s.3 (known s.2 w).1 in (a.0, λ k v. (refl, a.1 k v)) }

  pub before_carried : (m : Mark) → Carries erase (Before P m) (λ x j. words x (fixed m ∷ j))
  before_carried m = record { carries = λ x i j s w. let a = p.carries x i (Fixed m s.0 ∷ j) s.1 w in (a.0.1, λ k v. a.1 (fixed m ∷ k) (refl, v)) }

  pub followed_carried : {Dropped : Words → Words → Type 0} {dropped : Words → Words} → Drops Dropped dropped →
      Carries erase (Followed P Dropped) (λ x j. words x (dropped j))
  followed_carried {dropped = dropped} d = record {
    carries = λ x i j s w. let a = p.carries x i s.0 s.1 w in (d.drops s.0 j s.2 a.0, λ k v. a.1 (dropped k) (d.writes k v));
  }

  pub ended_carried : Carries erase (Ended P) (λ x j. words x (end_words j))
  ended_carried = record { carries = λ x i j s w. (followed_carried end_dropped).carries x i j s w }

  optional_on : (o : Option A) (i j : Words) → Optional P o i j → AreKnown i → Carried j (optional words (option_map erase o))
  optional_on None i j s w = (known s w, λ k v. v)
  optional_on (Some x) i j s w = p.carries x i j s w

  pub optional_carried : Carries (option_map erase) (Optional P) (optional words)
  optional_carried = record { carries = optional_on }

  pub unless_carried : (first : Mark) → Carries erase (Unless first P) words
  unless_carried first = record { carries = λ x i j s w. p.carries x i j s.1 w }

  wherever_on : (first : Mark) (o : Option A) (i j : Words) → Wherever first P o i j → AreKnown i → Carried j (optional words (option_map erase o))
  wherever_on first None i j s w = (known s.0 w, λ k v. v)
  wherever_on first (Some x) i j s w = p.carries x i j s w

  pub wherever_carried : (first : Mark) → Carries (option_map erase) (Wherever first P) (optional words)
  wherever_carried first = record { carries = wherever_on first }

  separated_on : (xs : List A) (i j : Words) → Separated P xs i j → AreKnown i → Carried j (separated words (map erase xs))
  separated_on [] i j s w = absurd s
  separated_on (x ∷ []) i j s w = p.carries x i j s w
  separated_on (x ∷ y ∷ xs) i j s w =
      let a = p.carries x i (Fixed mark.Comma s.0 ∷ s.1) s.2 w in
      let b = separated_on (y ∷ xs) s.1 j s.3 a.0.1 in
      (b.0, λ k v. a.1 (fixed mark.Comma ∷ separated words (map erase (y ∷ xs)) k) (refl, b.1 k v))

  pub separated_carried : Carries (map erase) (Separated P) (separated words)
  separated_carried = record { carries = separated_on }

  repeated_on : (xs : List A) (i j : Words) → Repeated P xs i j → AreKnown i → Carried j (repeated words (map erase xs))
  repeated_on [] i j s w = (known s w, λ k v. v)
  repeated_on (x ∷ xs) i j s w =
      let a = p.carries x i s.0 s.1 w in
      let b = repeated_on xs s.0 j s.2 a.0 in
      (b.0, λ k v. a.1 (repeated words (map erase xs) k) (b.1 k v))

  pub repeated_carried : Carries (map erase) (Repeated P) (repeated words)
  repeated_carried = record { carries = repeated_on }

-- "(" x {"," x} ")"
pub enclosed_carried : {A : Type 0} {erase : A → A} {P : A → Words → Words → Type 0} {words : A → Words → Words} → Carries erase P words →
    Carries (map erase) (Enclosed P) (λ xs j. fixed mark.Open ∷ separated words xs (fixed mark.Close ∷ j))
enclosed_carried p = behind_carried (before_carried (separated_carried p) mark.Close) mark.Open

module _ {A : Type 0} {erase : A → A} {P : A → Words → Words → Type 0} {words : A → Words → Words} (p : Carries erase P words) where
  in_parentheses_on : (xs : List A) (i j : Words) → InParentheses P xs i j → AreKnown i → Carried j (in_parentheses words (map erase xs))
  in_parentheses_on [] i j s w = (known s w, λ k v. v)
  in_parentheses_on (x ∷ xs) i j s w = (enclosed_carried p).carries (x ∷ xs) i j s w

  pub in_parentheses_carried : Carries (map erase) (InParentheses P) (in_parentheses words)
  in_parentheses_carried = record { carries = in_parentheses_on }

pub names_carried : Carries (map erased_name) (Separated SpellsName) (separated name_words)
names_carried = separated_carried name_carried

pub sorts_carried : Carries (map erased_sort) (InParentheses SpellsName) (in_parentheses name_words)
sorts_carried = in_parentheses_carried sort_carried

sig_on : (x : SignalListItem) (i j : Words) → SpellsSig x i j → AreKnown i → Carried j (sig_words (erased_item x))
sig_on (SignalItem x) i j s w = name_carried.carries x i j s w
sig_on (ListItem x) i j s w = (behind_carried (before_carried name_carried mark.Close) mark.Open).carries x i j s w

pub sigs_carried : Carries (map erased_item) SpellsSigs (separated sig_words)
sigs_carried = separated_carried (record { carries = sig_on })
