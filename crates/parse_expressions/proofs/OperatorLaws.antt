-- Operators and keyword operands, and their marks.
use Rattle.std.proofs.lemmas.Bool.Decides.{nat_tests}
use Rattle.parse_expressions.proofs.Grammar.{KeywordValue, UnaryOperator, Operator, Mark, Spelling, erased_word, plain, looseness, operator_mark, value_mark, unary_mark, IsMark, SpellsEnd, Words, Fixed, Outcome, Refused, and_then, on, mark_by, front, mark_at, expect, operator_of, by_mark, of_level, operator_at, value_at, unary_at, marked, sees_operator, ◌≡◌, ℕ, ◌<◌, ◌≤◌, ◌==◌, inl, inr, true, false, is_some, [], ◌∷◌, Option, Some, None, Ok, Err, refl, sym, ap, ◌∙◌, arith}
use Rattle.sdl_tree.specs.declared.expressions.KeywordValue.TheVariants as value
use Rattle.sdl_tree.specs.declared.expressions.UnaryOperator.TheVariants as unary
use Rattle.sdl_tree.specs.declared.expressions.Operator.TheVariants as operator
use Rattle.sdl_tree.specs.declared.mark.Mark.TheVariants as mark
use Rattle.parse_expressions.proofs.Laws.{Form, Gives, Rules, Law, Anywhere, still, mark_law, read_as, rest_here, bind_is, chosen, if_true, if_false, expect_again, alike_fixed, alike_from, SameFront, no_deeper}
use Rattle.parse_expressions.proofs.PartLaws.{end_begins}

pub operator_of_again : (o : Operator) → operator_of (operator_mark o) ≡ Some o
operator_of_again operator.Implies = refl
operator_of_again o = refl

pub value_at_again : (v : KeywordValue) (s : Spelling) (j : Words) → value_at (Fixed (value_mark v) s ∷ j) ≡ Some v
unfolding value_at mark_at front
value_at_again value.True s j = refl
value_at_again v s j = refl

pub unary_at_again : (o : UnaryOperator) (s : Spelling) (j : Words) → unary_at (Fixed (unary_mark o) s ∷ j) ≡ Some o
unfolding unary_at mark_at front
unary_at_again unary.Minus s j = refl
unary_at_again o s j = refl

of_level_ok : (k : ℕ) (p : Option Operator) (o : Operator) → of_level k p ≡ Some o → (p ≡ Some o) × (looseness o ≡ k)
of_level_ok k None o e = absurd cc
of_level_ok k (Some q) o e = elim (chosen (looseness q == k) (Some q) None (Some o) e) [
  | inl s ↦ (s.1, let same : q ≡ o = cc in let level : looseness q ≡ k = grind (arith, nat_tests, s.0) in sym (ap looseness same) ∙ level)
  | inr s ↦ absurd cc
]

pub operator_at_ok : (k : ℕ) (i : Words) (o : Operator) → operator_at k i ≡ Some o → (by_mark operator_of (mark_at i) ≡ Some o) × (looseness o ≡ k)
unfolding operator_at
operator_at_ok k i o e = of_level_ok k (by_mark operator_of (mark_at i)) o e

pub operator_at_again : (k : ℕ) (o : Operator) (s : Spelling) (j : Words) → looseness o ≡ k → operator_at k (Fixed (operator_mark o) s ∷ j) ≡ Some o
unfolding operator_at mark_at front
operator_at_again k o s j e =
    let same : (looseness o == k) ≡ true = grind (arith, nat_tests, e) in
    ap (of_level k) (operator_of_again o) ∙ if_true (looseness o == k) (Some o) None same

pub some_of : {K : Type 0} (o : Option K) → is_some o ≡ true → (v : K) × (o ≡ Some v)
some_of None e = absurd cc
some_of (Some v) e = (v, refl)

-- ---- where an expression of a looseness stops: each operator that stands next is looser

abbrev pub Stops : ℕ → Words → Type 0
Stops k j = (o : Operator) → by_mark operator_of (mark_at j) ≡ Some o → k < looseness o

-- it stops at a mark that is no operator
pub stops_at : (m : Mark) → operator_of m ≡ None → (k : ℕ) (s : Spelling) (j : Words) → Stops k (Fixed m s ∷ j)
unfolding mark_at front
stops_at m none k s j o e = absurd (let apart : ◌≡◌ {A = Option Operator} None (Some o) = sym none ∙ e in cc)

pub stops_end : (k : ℕ) (i j : Words) → SpellsEnd i j → Stops k i
stops_end k = end_begins (Stops k) (stops_at mark.Semicolon refl k) (stops_at mark.Comment refl k)

-- and at the end of the text
pub stops_last : (k : ℕ) → Stops k []
unfolding mark_at front
stops_last k o e = absurd cc

of_level_none : (k : ℕ) (p : Option Operator) → ((o : Operator) → p ≡ Some o → k < looseness o) → of_level k p ≡ None
of_level_none k None stop = refl
of_level_none k (Some o) stop =
    let looser : k < looseness o = stop o refl in
    let other : (looseness o == k) ≡ false = grind (arith, nat_tests, looser) in if_false (looseness o == k) (Some o) None other

pub operator_none : (k : ℕ) (j : Words) → Stops k j → sees_operator k j ≡ false
unfolding operator_at
operator_none k j stop = ap is_some (of_level_none k (by_mark operator_of (mark_at j)) stop)

-- an expression of a smaller looseness stops at an operator
pub stops_before : (l k : ℕ) (j : Words) → l < k → sees_operator k j ≡ true → Stops l j
stops_before l k j less seen p e =
    let a = some_of (operator_at k j) seen in
    let b = operator_at_ok k j a.0 a.1 in
    let same : a.0 ≡ p = (let both : ◌≡◌ {A = Option Operator} (Some a.0) (Some p) = sym b.0 ∙ e in cc) in
    let level : looseness p ≡ k = sym (ap looseness same) ∙ b.1 in omega (arith, level)

pub stops_below : (k l : ℕ) (j : Words) → k ≤ l → Stops l j → Stops k j
stops_below k l j le stop o e = let more = stop o e in omega arith

-- it stops wherever the same stands next
pub same_mark_at : (i k : Words) → SameFront i k → mark_at i ≡ mark_at k
unfolding mark_at
same_mark_at i k e = ap mark_by e

pub operator_front : (l : ℕ) (i k : Words) → SameFront i k → sees_operator l i ≡ sees_operator l k
unfolding operator_at
operator_front l i k e = ap (λ m. is_some (of_level l (by_mark operator_of m))) (same_mark_at i k e)

pub operator_end : (l : ℕ) → sees_operator l [] ≡ false
unfolding operator_at mark_at front
operator_end l = refl

-- ---- one of some marks

abbrev pub IsMarked : {K : Type 0} → (K → Mark) → (K → Type 0) → Form (K × Spelling)
IsMarked mark_of Good x i j = Good x.0 × (i ≡ Fixed (mark_of x.0) x.1 ∷ j)

module _ {K : Type 0} (find : Words → Option K) (mark_of : K → Mark) (Good : K → Type 0) (good : (i : Words) (v : K) → find i ≡ Some v → Good v)
    (again : (v : K) (s : Spelling) (j : Words) → Good v → find (Fixed (mark_of v) s ∷ j) ≡ Some v) where
  abbrev Marks : Words → Outcome (K × Spelling) → Type 0
  Marks = Gives (marked find mark_of) (IsMarked mark_of Good) (IsMarked mark_of Good) Anywhere

  marked_complete : (x : K × Spelling) (i j : Words) → IsMarked mark_of Good x i j → marked find mark_of i ≡ read_as x j
  marked_complete x i j e =
      let at : Words = Fixed (mark_of x.0) x.1 ∷ j in
      ap (marked find mark_of) e.1
      ∙ ap (λ o. on o (Err (Refused at)) (λ v. and_then (expect (mark_of v) at) (λ s k. read_as (v, s) k))) (again x.0 x.1 j e.0)
      ∙ bind_is (expect (mark_of x.0) at) (λ s k. read_as (x.0, s) k) x.1 j (expect_again (mark_of x.0) x.1 j)

  -- the mark is the one that is found
  marked_with : (i : Words) (v : K) → find i ≡ Some v → (o : Outcome Spelling) → Gives (expect (mark_of v)) (IsMark (mark_of v)) (IsMark (mark_of v)) Anywhere i o
      → Marks i (and_then o (λ s k. read_as (v, s) k))
  marked_with i v e (Ok z) t = record {
    taken = Fixed (mark_of v) z.0 ∷ [];
    at = t.spelled;
    again = λ k g. marked_complete (v, z.0) (Fixed (mark_of v) z.0 ∷ k) k (good i v e, refl);
    spelled = (good i v e, t.spelled);
  }
  marked_with i v e (Err r) t = still i r (λ left u. absurd (no_deeper i left tt u)) t

  marked_by : (i : Words) (o : Option K) → find i ≡ o → Marks i (on o (Err (Refused i)) (λ v. and_then (expect (mark_of v) i) (λ s k. read_as (v, s) k)))
  marked_by i None e = rest_here i
  marked_by i (Some v) e = marked_with i v e (expect (mark_of v) i) ((mark_law (mark_of v)).rules.tells i)

  pub marked_rules : Rules (marked find mark_of) (IsMarked mark_of Good) (IsMarked mark_of Good) Anywhere (λ x. (x.0, erased_word x.1))
  marked_rules = record {
    tells = λ i. marked_by i (find i) refl;
    complete = λ x i j e t. marked_complete x i j e;
    moves = λ x i j k e t.
        let a = alike_fixed (mark_of x.0) x.1 j k (alike_from i (Fixed (mark_of x.0) x.1 ∷ j) k e.1 t) in ((x.0, a.0), a.1, (e.0, a.2), a.3, refl);
    more = λ x i j e. e;
  }

  -- where there is such a mark
  pub marked_law : (v : K) → Good v → Law (marked find mark_of) (IsMarked mark_of Good) (IsMarked mark_of Good) Anywhere (λ x. (x.0, erased_word x.1))
  marked_law v good_one = record { rules = marked_rules; one = ((v, plain), Fixed (mark_of v) plain ∷ [], λ j t. (good_one, refl)) }
