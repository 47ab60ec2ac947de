-- What a look for the comma of a clause passes: expressions, and all that stands in parentheses.
use Rattle.sdl_parse.proofs.Words.{Active, Applied, Chain, Expr, Fixed, InParentheses, Keyword, List, Named, Numeral, Paren, Repeated, RepeatedOnce, SameFront, Separated, Spelling, SpellsApplied, SpellsAt, SpellsExpr, SpellsInner, SpellsLink, SpellsPrimary, SpellsTimer, Spot, Stops, Unary, Words, [], ap, expr_law, exprs_in, false, front, inl, inr, links_in, loosest, operator_mark, plain_name, refl, rest, same_mark, sees, sees_at, sees_front, sees_ok, stops_at, suc, sym, true, true≢false, unary_mark, value_mark, zero, ℕ, ◌∙◌, ◌∷◌, ◌≡◌, ◌⊎◌}
use Rattle.sdl_tree.specs.declared.expressions.KeywordValue.TheVariants as value
use Rattle.sdl_tree.specs.declared.expressions.UnaryOperator.TheVariants as unary
use Rattle.sdl_tree.specs.declared.expressions.Operator.TheVariants as operator
use Rattle.sdl_tree.specs.declared.mark.Mark.TheVariants as mark
use Rattle.sdl_tree.specs.Words as word
use Rattle.sdl_parse.specs.Clauses.{look_at, comma_ahead}
use Rattle.parse_expressions.proofs.Steps.{same_rest}

-- what a look passes, inside as many parentheses
abbrev Passes : {A : Type 0} → (A → Words → Words → Type 0) → Type 0
Passes {A} P = (n : ℕ) (x : A) (i j : Words) → P x i j → comma_ahead n i ≡ comma_ahead n j

module _ {A : Type 0} (P : A → Words → Words → Type 0) (passes : Passes P) where
  repeated_passes : Passes (Repeated P)
  repeated_passes n [] i j s = ap (comma_ahead n) s
  repeated_passes n (x ∷ xs) i j s = passes n x i s.0 s.1 ∙ repeated_passes n xs s.0 j s.2

  once_passes : Passes (RepeatedOnce P)
  once_passes n [] i j s = absurd s
  once_passes n (x ∷ xs) i j s = repeated_passes n (x ∷ xs) i j s

  separated_passes : (n : ℕ) (xs : List A) (i j : Words) → Separated P xs i j → comma_ahead (suc n) i ≡ comma_ahead (suc n) j
  unfolding comma_ahead look_at same_mark
  separated_passes n [] i j s = absurd s
  separated_passes n (x ∷ []) i j s = passes (suc n) x i j s
  separated_passes n (x ∷ y ∷ ys) i j s =
      passes (suc n) x i (Fixed mark.Comma s.0 ∷ s.1) s.2 ∙ separated_passes n (y ∷ ys) s.1 j s.3

  listed_passes : Passes (InParentheses P)
  unfolding comma_ahead look_at same_mark
  listed_passes n [] i j s = ap (comma_ahead n) s
  listed_passes n (x ∷ xs) i j s =
      let inner = s.3 in ap (comma_ahead n) s.2 ∙ separated_passes n (x ∷ xs) s.1 (Fixed mark.Close inner.0 ∷ j) inner.1

module _ (Inner : Expr → Words → Words → Type 0) (Timer : Spot × List Expr → Words → Words → Type 0) (inner : Passes Inner) (timer : Passes Timer) where
  primary_passes : Passes (SpellsPrimary Inner Timer)
  unfolding comma_ahead look_at same_mark
  primary_passes n (Numeral x) i j s = ap (comma_ahead n) s
  primary_passes n (Named x) i j s = ap (comma_ahead n) s
  primary_passes n (Keyword v w) i j s =
      ap (comma_ahead n) s ∙ (elim v as (λ u. comma_ahead n (Fixed (value_mark u) w ∷ j) ≡ comma_ahead n j) [ value.True ↦ refl | _ ↦ refl ])
  primary_passes n (Paren w e) i j s =
      let b = s.2 in ap (comma_ahead n) s.1 ∙ inner (suc n) e s.0 (Fixed mark.Close b.0 ∷ j) b.1
  primary_passes n (Active w x values) i j s =
      let b = s.2 in let c = b.3 in
      ap (comma_ahead n) s.1 ∙ ap (comma_ahead n) b.2
      ∙ timer (suc n) (x, exprs_in values) b.1 (Fixed mark.Close c.0 ∷ j) c.1
  primary_passes n x i j s = absurd s

  link_passes : (k : ℕ) → Passes (SpellsAt Inner Timer k) → (l : ℕ) → Passes (SpellsLink (SpellsAt Inner Timer k) l)
  unfolding comma_ahead look_at same_mark
  link_passes k operand l n x i j s =
      let b = s.1 in
      ap (comma_ahead n) b.1
      ∙ (elim x.operator as (λ o. comma_ahead n (Fixed (operator_mark o) x.word ∷ b.0) ≡ comma_ahead n b.0) [ operator.Implies ↦ refl | _ ↦ refl ])
      ∙ operand n x.operand b.0 j b.2

  level_passes : (k : ℕ) → Passes (SpellsAt Inner Timer k)
  unfolding comma_ahead look_at same_mark
  level_passes zero n x i j s = primary_passes n x i j s
  level_passes (suc zero) n x i j (inl s) = primary_passes n x i j s
  level_passes (suc zero) n (Unary o w e) i j (inr s) = ap (comma_ahead n) s.1
      ∙ (elim o as (λ u. comma_ahead n (Fixed (unary_mark u) w ∷ s.0) ≡ comma_ahead n s.0) [ unary.Minus ↦ refl | _ ↦ refl ])
      ∙ primary_passes n e s.0 j s.2
  level_passes (suc zero) n x i j (inr s) = absurd s
  level_passes (suc (suc k)) n x i j (inl s) = level_passes (suc k) n x i j s
  level_passes (suc (suc k)) n (Chain e links) i j (inr s) = level_passes (suc k) n e i s.0 s.1
      ∙ once_passes (SpellsLink (SpellsAt Inner Timer (suc k)) (suc (suc k))) (link_passes (suc k) (level_passes (suc k)) (suc (suc k))) n (links_in links) s.0 j s.2
  level_passes (suc (suc k)) n x i j (inr s) = absurd s

mutual
  unfolding comma_ahead look_at same_mark

  inner_passes : (d : ℕ) → Passes (SpellsInner d)
  inner_passes zero n x i j s = absurd s
  inner_passes (suc d) n x i j s = level_passes (SpellsInner d) (SpellsTimer d) (inner_passes d) (timer_passes d) loosest n x i j s

  timer_passes : (d : ℕ) → Passes (SpellsTimer d)
  timer_passes zero n x i j s = absurd s
  timer_passes (suc d) n x i j s =
      ap (comma_ahead n) s.1 ∙ listed_passes (SpellsInner d) (inner_passes d) n x.1 s.0 j s.2

expr_passes : (d : ℕ) → Passes (SpellsExpr d)
expr_passes d = level_passes (SpellsInner d) (SpellsTimer d) (inner_passes d) (timer_passes d) loosest

-- a comma stands ahead of a time
pub time_comma : (d : ℕ) (x : Expr) (s : Spelling) (i j : Words) → SpellsExpr d x i (Fixed mark.Comma s ∷ j) → comma_ahead 0 i ≡ true
unfolding comma_ahead look_at same_mark
time_comma d x s i j t = expr_passes d 0 x i (Fixed mark.Comma s ∷ j) t

-- and none of a timer alone
pub timer_no_comma : (d : ℕ) (x : Applied) (s : Spelling) (i j : Words) → SpellsApplied d x i (Fixed mark.Close s ∷ j) → comma_ahead 0 i ≡ false
unfolding comma_ahead look_at same_mark
timer_no_comma d x s i j t =
    ap (comma_ahead 0) t.1 ∙ listed_passes (SpellsExpr d) (expr_passes d) 0 x.values t.0 (Fixed mark.Close s ∷ j) t.2

-- ---- a name alone is read as an expression where a parenthesis stands behind it, as behind the name of a timer

abbrev pub Parenthesized : Words → Type 0
Parenthesized l = (sees mark.Open l ≡ true) ⊎ (sees mark.Close l ≡ true)

-- neither an operator nor a comma stands there, and it stands wherever the same is next
stops_parenthesized : (k : ℕ) (l : Words) → Parenthesized l → Stops k l × (sees mark.Comma l ≡ false)
unfolding sees front same_mark
stops_parenthesized k l (inl e) = let at = sees_ok mark.Open l e in (rw at.1 (stops_at mark.Open refl k at.0 (rest l)), ap (sees mark.Comma) at.1)
stops_parenthesized k l (inr e) = let at = sees_ok mark.Close l e in (rw at.1 (stops_at mark.Close refl k at.0 (rest l)), ap (sees mark.Comma) at.1)

pub parenthesized_front : (i k : Words) → SameFront i k → Parenthesized i → Parenthesized k
parenthesized_front i k same (inl e) = inl (sym (sees_front mark.Open i k same) ∙ e)
parenthesized_front i k same (inr e) = inr (sym (sees_front mark.Close i k same) ∙ e)

-- so no time begins with a name and a parenthesis
pub no_time : (d : ℕ) (x : Expr) (s : Spelling) (i j : Words) → SpellsExpr d x i (Fixed mark.Comma s ∷ j)
    → (y : Spot) (l : Words) → i ≡ word.Name y ∷ l → Parenthesized l → ⊥
no_time d x s i j t y l e b =
    let read = (expr_law d).rules.complete in
    let stop = stops_parenthesized loosest l b in
    let alone = read (Named y) i l (rw e (plain_name (SpellsInner d) (SpellsTimer d) y loosest l)) stop.0 in
    let time = read x i (Fixed mark.Comma s ∷ j) t (stops_at mark.Comma refl loosest s j) in
    true≢false (sym (sees_at mark.Comma s l j (same_rest (Named y) x l (Fixed mark.Comma s ∷ j) (sym alone ∙ time))) ∙ stop.1)

-- behind the name of a timer stands one
pub timer_there : (d : ℕ) (x : Applied) (s : Spelling) (i j : Words) → SpellsApplied d x i (Fixed mark.Close s ∷ j) → (l : Words) × (i ≡ word.Name x.name ∷ l) × Parenthesized l
timer_there d x s i j t = (t.0, t.1, listed x.values t.0 t.2)
  where
    listed : (es : List Expr) (m : Words) → InParentheses (SpellsExpr d) es m (Fixed mark.Close s ∷ j) → Parenthesized m
    listed [] m u = inr (sees_at mark.Close s m j u)
    listed (f ∷ fs) m u = inl (sees_at mark.Open u.0 m u.1 u.2)
