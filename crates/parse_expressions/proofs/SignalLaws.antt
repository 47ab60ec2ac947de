-- The laws of more ways to put readings together, of what closes a construct, and of signals.
use Rattle.parse_expressions.proofs.Grammar.{Mark, erased_sort, erased_item, erased_signal, erased_signal_list, erased_signal_set, SpellsSignalName, SpellsSignal, SpellsSignalList, SpellsSignalSet, InParentheses, Begins, SpellsName, Ended, SpellsSigs, sort_of, Words, Parser, made, either, maybe, front, rest, sees, sees_name, same_mark, name, separated, in_parentheses, ended, sees_one, signal_with, signal_name, signal, sig, signal_list_with, signal_list, signal_set_with, signal_set, ◌≡◌, ◌⊎◌, inl, inr, Bool, true, false, ◌||◌, List, [], ◌∷◌, map, refl, sym, ap, ◌∙◌, subst, true≢false}
use Rattle.sdl_tree.specs.declared.mark.Mark.TheVariants as mark
use Rattle.parse_expressions.proofs.Laws.{Form, Rules, Law, MaybeLaw, Anywhere, Or, either_as, as_law, mark_law, behind_law, formed_law, first_law, maybe_law, then_law, true_or_false, sees_last, sees_ok, sees_at, sees_front, SameFront}
use Rattle.parse_expressions.proofs.ListLaws.{separated_law}
use Rattle.parse_expressions.proofs.PartLaws.{name_as, name_law, in_parentheses_law, sig_law}
use Rattle.parse_expressions.proofs.ClosingLaws.{ended_at_law}

-- ---- nodes that are records

-- a record is made of its fields
pub record_law : {A B : Type 0} (f : A → B) (fields : B → A) {p : Parser A} {P M : Form A} {S : Words → Type 0} {e : A → A} {g : B → B}
    → ((x : A) → g (f x) ≡ f (e x)) → ((x : A) → fields (f x) ≡ x) → ((y : B) → f (fields y) ≡ y)
    → Law p P M S e → Law (made f p) (λ y i j. P (fields y) i j) (λ y i j. M (fields y) i j) S g
record_law {A} f fields {P = P} {M = M} same again back a =
    formed_law f (λ j t. t) (of_fields P) (λ y i j s. (fields y, sym (back y), s)) (of_fields M) same a
  where
    of_fields : (R : Form A) (x : A) (i j : Words) → R x i j → R (fields (f x)) i j
    of_fields R x i j s = let Q : A → Type 0 = λ y. R y i j in subst Q (sym (again x)) s

-- ---- what begins with a mark, and takes it

abbrev pub Opens : {A : Type 0} → Mark → Form A → Type 0
Opens {A} m P = (x : A) (i j : Words) → P x i j → Begins m i

pub opens_seen : {A : Type 0} (m : Mark) (P : Form A) → Opens m P → (x : A) (i j : Words) → P x i j → sees m i ≡ true
opens_seen m P opens x i j s = let o = opens x i j s in sees_at m o.0 i o.1 o.2

-- ---- one of some productions, each of which begins with a mark of its own

abbrev pub BeginsOne : List Mark → Words → Type 0
BeginsOne [] i = ⊥
BeginsOne (m ∷ ms) i = Begins m i ⊎ BeginsOne ms i

abbrev pub has_mark : Mark → List Mark → Bool
has_mark m [] = false
has_mark m (n ∷ ns) = same_mark n m || has_mark m ns

pub or_left : (a b : Bool) → a ≡ true → (a || b) ≡ true
or_left a b e = ap (λ c. c || b) e

pub or_right : (a b : Bool) → b ≡ true → (a || b) ≡ true
or_right true b e = refl
or_right false b e = e

neither : (a b : Bool) → (a || b) ≡ false → (a ≡ false) × (b ≡ false)
neither true b e = absurd (true≢false e)
neither false b e = (refl, e)

pub begins_seen : (ms : List Mark) (i : Words) → BeginsOne ms i → sees_one ms i ≡ true
begins_seen [] i b = absurd b
begins_seen (m ∷ ms) i (inl b) = or_left (sees m i) (sees_one ms i) (sees_at m b.0 i b.1 b.2)
begins_seen (m ∷ ms) i (inr b) = or_right (sees m i) (sees_one ms i) (begins_seen ms i b)

other_mark : (m n : Mark) (i : Words) → Begins n i → same_mark n m ≡ false → sees m i ≡ false
unfolding sees front
other_mark m n i b other = ap (sees m) b.2 ∙ other

-- a mark that is none of them doesn't stand where one of them does
pub begins_unseen : (m : Mark) (ms : List Mark) (i : Words) → has_mark m ms ≡ false → BeginsOne ms i → sees m i ≡ false
begins_unseen m [] i none b = absurd b
begins_unseen m (n ∷ ns) i none (inl b) = other_mark m n i b (neither (same_mark n m) (has_mark m ns) none).0
begins_unseen m (n ∷ ns) i none (inr b) = begins_unseen m ns i (neither (same_mark n m) (has_mark m ns) none).1 b

-- one of them that is seen stands there
pub seen_begins : (ms : List Mark) (i : Words) → sees_one ms i ≡ true → BeginsOne ms i
seen_begins [] i e = absurd (true≢false (sym e))
seen_begins (m ∷ ms) i e = elim (true_or_false (sees m i)) as (λ _. BeginsOne (m ∷ ms) i) [
  | inl t ↦ let at = sees_ok m i t in inl (at.0, rest i, at.1)
  | inr t ↦ inr (seen_begins ms i (sym (ap (λ b. b || sees_one ms i) t) ∙ e))
]

abbrev pub have_mark : List Mark → List Mark → Bool
have_mark [] ns = false
have_mark (m ∷ ms) ns = has_mark m ns || have_mark ms ns

-- nor do marks of which none is one of them
pub others_unseen : (ms ns : List Mark) (i : Words) → have_mark ms ns ≡ false → BeginsOne ns i → sees_one ms i ≡ false
others_unseen [] ns i none b = refl
others_unseen (m ∷ ms) ns i none b =
    let two = neither (has_mark m ns) (have_mark ms ns) none in λ n. begins_unseen m ns i two.0 b n || others_unseen ms ns i two.1 b n

-- nor a name
pub begins_unnamed : (ms : List Mark) (i : Words) → BeginsOne ms i → sees_name i ≡ false
unfolding sees_name front
begins_unnamed [] i b = absurd b
begins_unnamed (m ∷ ms) i (inl b) = ap sees_name b.2
begins_unnamed (m ∷ ms) i (inr b) = begins_unnamed ms i b

-- what stands next says which of the marks does
pub one_front : (ms : List Mark) (i k : Words) → SameFront i k → sees_one ms i ≡ sees_one ms k
one_front [] i k same = refl
one_front (m ∷ ms) i k same = λ n. sees_front m i k same n || one_front ms i k same n

pub none_at_end : (ms : List Mark) → sees_one ms [] ≡ false
none_at_end [] = refl
none_at_end (m ∷ ms) = λ n. sees_last m n || none_at_end ms n

-- [x], where x begins with this mark
pub maybe_mark : {A : Type 0} (m : Mark) {p : Parser A} {P M : Form A} {S : Words → Type 0} {e : A → A} → Law p P M S e → Opens m P
    → MaybeLaw (maybe (sees m) p) P M S (sees m) e
maybe_mark m {P = P} a opens = maybe_law (sees m) (sees_front m) a.rules (sees_last m) (opens_seen m P opens)

-- what is read, and the marks with one of which it begins
pub record Choice {A : Type 0} (p : Parser A) (P M : Form A) (S : Words → Type 0) (marks : List Mark) (erased : A → A) : Type 0 where
  pub law : Law p P M S erased
  pub begins : (x : A) (i j : Words) → P x i j → BeginsOne marks i

pub one_choice : {A : Type 0} (m : Mark) {p : Parser A} {P M : Form A} {S : Words → Type 0} {e : A → A} → Law p P M S e → Opens m P → Choice p P M S (m ∷ []) e
one_choice m a opens = record { law = a; begins = λ x i j s. inl (opens x i j s) }

-- the first, where its mark stands, and else one of the others
module _ {A : Type 0} (m : Mark) (ms : List Mark) {p q : Parser A} {P M Q N : Form A} {S : Words → Type 0} {e : A → A} where
  pub or_rules : has_mark m ms ≡ false → Law p P M S e → Opens m P → Rules q Q N S e → ((x : A) (i j : Words) → Q x i j → BeginsOne ms i)
      → Choice (either (sees m) p q) (Or P Q) (Or M N) S (m ∷ ms) e
  or_rules none a opens b begins = record {
    law = first_law (sees m) (sees_front m) a b (opens_seen m P opens) (λ x i j s t. begins_unseen m ms i none (begins x i j s));
    begins = either_as (λ x i j s. inl (opens x i j s)) (λ x i j s. inr (begins x i j s));
  }

  pub or_choice : has_mark m ms ≡ false → Law p P M S e → Opens m P → Choice q Q N S ms e → Choice (either (sees m) p q) (Or P Q) (Or M N) S (m ∷ ms) e
  or_choice none a opens b = or_rules none a opens b.law.rules b.begins

-- another name for a choice
pub as_choice : {A : Type 0} {p : Parser A} {P M R O : Form A} {S : Words → Type 0} {ms : List Mark} {e : A → A}
    → ((x : A) (i j : Words) → P x i j → R x i j) → ((x : A) (i j : Words) → R x i j → P x i j) → ((x : A) (i j : Words) → M x i j → O x i j)
    → Choice p P M S ms e → Choice p R O S ms e
as_choice to from to_more c = record { law = as_law to from to_more c.law; begins = λ x i j s. c.begins x i j (from x i j s) }

-- [x], where x begins with one of these marks
pub maybe_choice : {A : Type 0} (ms : List Mark) {p : Parser A} {P M : Form A} {S : Words → Type 0} {e : A → A} → Choice p P M S ms e
    → MaybeLaw (maybe (sees_one ms) p) P M S (sees_one ms) e
maybe_choice ms c = maybe_law (sees_one ms) (one_front ms) c.law.rules (none_at_end ms) (λ x i j s. begins_seen ms i (c.begins x i j s))

-- ---- signals

-- the name of a sort
pub sort_law : Law name SpellsName SpellsName Anywhere erased_sort
sort_law = name_as erased_sort (λ x y e n. record { text = sort_of (e n); place = (erased_sort x).place })

-- [sorts]
pub sorts_law : Law (in_parentheses name) (InParentheses SpellsName) (InParentheses SpellsName) (λ j. sees mark.Open j ≡ false) (map erased_sort)
sorts_law = in_parentheses_law sort_law (λ s m. tt) (λ s m. tt) tt

signal_name_law : Law signal_name SpellsSignalName SpellsSignalName (λ j. sees mark.Open j ≡ false) erased_signal
unfolding signal_name
signal_name_law =
    record_law signal_with (λ y. (y.name, y.sorts)) (λ x. refl) (λ x. refl) (λ y. refl) (then_law name_law sorts_law)

pub signal_law : Law signal SpellsSignal SpellsSignal Anywhere (map erased_signal)
unfolding signal sees front same_mark
signal_law =
    behind_law mark.Signal (ended_at_law (separated_law signal_name_law (λ s m. refl) refl) (λ s m. (refl, refl)) (λ s m. (refl, refl)))

-- sigs end
pub sigs_law : Law (ended (separated sig)) (Ended SpellsSigs) (Ended SpellsSigs) Anywhere (map erased_item)
unfolding sees front same_mark
sigs_law = ended_at_law (separated_law sig_law (λ s m. tt) tt) (λ s m. (tt, refl)) (λ s m. (tt, refl))

pub signal_list_law : Law signal_list SpellsSignalList SpellsSignalList Anywhere erased_signal_list
unfolding signal_list
signal_list_law =
    record_law signal_list_with (λ y. (y.word, (y.name, y.items))) (λ x. refl) (λ x. refl) (λ y. refl)
    (then_law (mark_law mark.SignalList) (then_law name_law (behind_law mark.Equal sigs_law)))

pub signal_set_law : Law signal_set SpellsSignalSet SpellsSignalSet Anywhere erased_signal_set
unfolding signal_set
signal_set_law =
    record_law signal_set_with (λ y. (y.word, y.items)) (λ x. refl) (λ x. refl) (λ y. refl)
    (then_law (mark_law mark.SignalSet) sigs_law)
