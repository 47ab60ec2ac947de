-- The laws of `set`. Which of the two clauses is read, a look beyond the next word decides; so what is passed where one too
-- many opens is shown not to begin the other.
use Rattle.sdl_parse.proofs.Words.{As, SpellsAction, Anywhere, Applied, Before, Behind, Both, Expr, Fixed, Form, IsHead, IsOpening, Law, Made, None, Option, Optional, SameFront, SetClause, Some, Spelling, SpellsApplied, SpellsClause, SpellsExpr, Spot, TooMany, Word, Words, [], ap, as_law, before_law, behind_law, either, end_other, ended_law, erased_action, erased_clause, expr_law, false, far_rules, first_word, front, inl, inr, loosest, made_law, mark_law, passed_front, refl, renamed, rest, same_mark, sees_other, separated_law, spelled_again, stops_at, suc, sym, then_law, ℕ, ◌++◌, ◌∙◌, ◌∷◌, ◌≡◌, ◌⊎◌}
use Rattle.sdl_tree.specs.declared.mark.Mark.TheVariants as mark
use Rattle.sdl_tree.specs.Words as word
use Rattle.sdl_parse.specs.Clauses.{comma_ahead, timed_with, timed, untimed_with, untimed, clause, set_with, set}
use Rattle.sdl_parse.proofs.ActionLaws.{applied_law}
use Rattle.sdl_parse.proofs.CommaLemmas.{time_comma, timer_no_comma, no_time, timer_there, parenthesized_front}

-- ---- words with the same beginning, up to an opening word

-- where the one begin with a name, the others do, and have the same behind it
shared : (passed head : Words) (w : Word) → IsOpening w → IsHead head w → (k m : Words) (y : Spot) (l : Words) → passed ++ (head ++ k) ≡ word.Name y ∷ l
    → (n : Words) × (passed ++ (head ++ m) ≡ word.Name y ∷ n) × SameFront l n
unfolding rest
shared [] head w (s, inl o) (inl h) k m y l e = absurd cc
shared [] head w (s, inr o) (inl h) k m y l e = absurd cc
shared [] head w o (inr h) k m y l e = absurd (let active = h.1 in cc)
shared (v ∷ passed) head w o h k m y l e = (
  passed ++ (head ++ m),
  ap (λ u. u ∷ (passed ++ (head ++ m))) (ap (first_word v) e),
  ap front (sym (ap rest e)) ∙ passed_front passed head w h k m,
)

-- no words begin a time and a timer alone
clash : (d c : ℕ) (x : Expr) (a : Applied) (s t : Spelling) (i j k l : Words) → SpellsExpr d x i (Fixed mark.Comma s ∷ j) → SpellsApplied c a k (Fixed mark.Close t ∷ l)
    → ((y : Spot) (m : Words) → k ≡ word.Name y ∷ m → (n : Words) × (i ≡ word.Name y ∷ n) × SameFront m n) → ⊥
clash d c x a s t i j k l time timer same =
    let there = timer_there c a t k l timer in
    let other = same a.name there.0 there.1 in
    no_time d x s i j time a.name other.0 other.1 (parenthesized_front there.0 other.0 other.2 there.2)

-- ---- the two clauses behind their parenthesis

abbrev Timed : ℕ → Form SetClause
Timed d = Made timed_with (Before (Both (Before (SpellsExpr d) mark.Comma) (SpellsApplied d)) mark.Close)

abbrev Untimed : ℕ → Form SetClause
Untimed d = Made untimed_with (Before (SpellsApplied d) mark.Close)

abbrev IsClause : ℕ → Form SetClause
IsClause d x i j = Timed d x i j ⊎ Untimed d x i j

timed_law : (d : ℕ) → Law (timed d) (Timed d) (Timed (suc d)) Anywhere erased_clause
unfolding timed same_mark
timed_law d = made_law timed_with (λ x. refl)
    (before_law mark.Close (then_law (before_law mark.Comma (expr_law d) (stops_at mark.Comma refl loosest)) (applied_law d)) (sees_other mark.Open mark.Close refl))

untimed_law : (d : ℕ) → Law (untimed d) (Untimed d) (Untimed (suc d)) Anywhere erased_clause
unfolding untimed same_mark
untimed_law d = made_law untimed_with (λ x. refl) (before_law mark.Close (applied_law d) (sees_other mark.Open mark.Close refl))

module _ (d : ℕ) (i left : Words) where
  timed_bars : (t : TooMany (Timed d) (Timed (suc d)) Anywhere i left) (k : Words) (x : SetClause) (j : Words) → IsClause d x (t.passed ++ (t.head ++ k)) j → Anywhere j → ⊥
  timed_bars t k x j (inl n) u = t.barred k x j n u
  timed_bars t k x j (inr n) u =
      let m = t.more.2 [] tt in let times = m.2.1 in let timer = n.2 in
      clash (suc d) d m.0.0 n.0 times.1.0 timer.0 (t.passed ++ (t.head ++ (t.more.1 ++ []))) times.0 (t.passed ++ (t.head ++ k)) j times.1.1 timer.1
      (λ y l e. shared t.passed t.head t.opening t.opens t.heads k (t.more.1 ++ []) y l e)

  untimed_bars : (t : TooMany (Untimed d) (Untimed (suc d)) Anywhere i left) (k : Words) (x : SetClause) (j : Words) → IsClause d x (t.passed ++ (t.head ++ k)) j → Anywhere j → ⊥
  untimed_bars t k x j (inr n) u = t.barred k x j n u
  untimed_bars t k x j (inl n) u =
      let m = t.more.2 [] tt in let timer = m.2 in let times = n.2.1 in
      clash d (suc d) n.0.0 m.0 times.1.0 timer.0 (t.passed ++ (t.head ++ k)) times.0 (t.passed ++ (t.head ++ (t.more.1 ++ []))) [] times.1.1 timer.1
      (λ y l e. shared t.passed t.head t.opening t.opens t.heads (t.more.1 ++ []) k y l e)

untimed_begins : (d : ℕ) (x : SetClause) (i j : Words) → Untimed d x i j → comma_ahead 0 i ≡ false
untimed_begins d x i j s = timer_no_comma d s.0 s.2.0 i j s.2.1

inside_law : (d : ℕ) → Law (either (comma_ahead 0) (timed d) (untimed d)) (IsClause d) (IsClause (suc d)) Anywhere erased_clause
inside_law d = record {
  rules =
      far_rules (comma_ahead 0) (timed_law d).rules (untimed_law d).rules (λ x i j s. let t = s.2.1 in time_comma d s.0.0 t.1.0 i t.0 t.1.1) (λ x i j s t. untimed_begins d x i j s)
      (λ i x m k r t g. untimed_begins d x (r.taken ++ k) k (spelled_again (untimed_law d).rules x i m k r g))
      (λ i left t u. renamed i left (IsClause d) (IsClause (suc d)) (λ x. x) (λ j v. v) (λ x k j n. inl n) (λ x k j n. inl n) u (timed_bars d i left u))
      (λ i left t u. renamed i left (IsClause d) (IsClause (suc d)) (λ x. x) (λ j v. v) (λ x k j n. inr n) (λ x k j n. inr n) u (untimed_bars d i left u));
  one = let o = (timed_law d).one in (o.0, o.1, λ j t. inl (o.2 j t));
}

-- ---- a clause

clause_to : (d : ℕ) (x : SetClause) (i j : Words) → Behind mark.Open (IsClause d) x i j → SpellsClause d x i j
clause_to d x i j (s, k, e, inl n) = rw n.1 (s, k, e, n.2)
clause_to d x i j (s, k, e, inr n) = rw n.1 (s, k, e, (n.2.0, (k, refl, n.2.1)))

clause_from : (d : ℕ) (x : SetClause) (i j : Words) → SpellsClause d x i j → Behind mark.Open (IsClause d) x i j
clause_from d x i j s = (s.0, s.1, s.2, by x.time s.3)
  where
    by : (time : Option Expr) → Before (Both (Optional (Before (SpellsExpr d) mark.Comma)) (SpellsApplied d)) mark.Close (time, x.timer) s.1 j
        → IsClause d (record { time = time; timer = x.timer }) s.1 j
    by None r = let b = r.1 in inr (x.timer, refl, (r.0, rw b.1 b.2))
    by (Some time) r = inl ((time, x.timer), refl, r)

pub clause_law : (d : ℕ) → Law (clause d) (SpellsClause d) (SpellsClause (suc d)) Anywhere erased_clause
unfolding clause
clause_law d = as_law (clause_to d) (clause_from d) (clause_to (suc d)) (behind_law mark.Open (inside_law d))

-- ---- set

pub set_law : (d : ℕ) → Law (set d) (As (SpellsAction d) set_with) (As (SpellsAction (suc d)) set_with) Anywhere erased_action
unfolding set same_mark
set_law d = made_law set_with (λ x. refl)
    (then_law (mark_law mark.Set)
    (ended_law (separated_law (clause_law d) (λ s m. tt) tt) (λ i j s. (tt, end_other mark.Comma refl refl i j s))))
