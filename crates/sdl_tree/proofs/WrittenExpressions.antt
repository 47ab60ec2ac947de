-- What is written for the erasure of an expression spells it.
use Rattle.std.proofs.Common.{refl, ℕ, zero, suc, List, ◌∷◌, inl, inr}
use Rattle.sdl_tree.specs.declared.mark.Mark.TheVariants as mark
use Rattle.sdl_tree.specs.Canonical.{fixed, expr_words, links_words, values_words, more_values_words, applied_words}
use Rattle.sdl_tree.specs.Erased.{plain, erased_name, erased_expr, erased_exprs, erased_links, erased_applied}
use Rattle.sdl_tree.specs.Spells.Expressions.{loosest, unary_mark, operator_mark, SpellsPrimary, SpellsUnary, SpellsLink, SpellsChain, SpellsAt, SpellsInner, SpellsTimer, SpellsExpr, SpellsApplied}
use Rattle.sdl_tree.specs.Spells.Parts.{Separated, Repeated, InParentheses}
use Rattle.sdl_tree.specs.Tree.{Expr, Numeral, Named, Keyword, Active, Paren, Unary, Chain, Exprs, NoExpr, AndExpr, exprs_in, Links, NoLink, AndLink, links_in}
use Rattle.sdl_tree.specs.Words.{Spot, Words, Fixed}
use Rattle.sdl_tree.specs.Words as word
use Rattle.sdl_tree.proofs.Written.{Writes, mark_written, name_written, both_written, before_written, in_parentheses_written}

-- what is written for a timer and its values spells them
pub record WritesTimer (Timer : Spot × List Expr → Words → Words → Type 0) : Type 0 where
  pub writes : (x : Spot) (es : Exprs) (i j k : Words) → Timer (x, exprs_in es) i j →
      Timer (erased_name x, exprs_in (erased_exprs es)) (word.Name (erased_name x) ∷ values_words (erased_exprs es) k) k

module _ {P : Expr → Words → Words → Type 0} (p : Writes erased_expr P expr_words) where
  more_values_written : (e : Expr) (es : Exprs) (i j k : Words) → Separated P (e ∷ exprs_in es) i j →
      Separated P (erased_expr e ∷ exprs_in (erased_exprs es)) (expr_words (erased_expr e) (more_values_words (erased_exprs es) k)) k
  more_values_written e NoExpr i j k s = p.writes e i j k s
  more_values_written e (AndExpr f es) i j k s =
      let rest = expr_words (erased_expr f) (more_values_words (erased_exprs es) k) in
      (plain, rest, p.writes e i (Fixed mark.Comma s.0 ∷ s.1) (fixed mark.Comma ∷ rest) s.2, more_values_written f es s.1 j k s.3)

  values_written : (es : Exprs) (i j k : Words) → InParentheses P (exprs_in es) i j →
      InParentheses P (exprs_in (erased_exprs es)) (values_words (erased_exprs es) k) k
  values_written NoExpr i j k s = refl
  values_written (AndExpr e es) i j k s =
      (plain, _, refl, (plain, more_values_written e es s.1 (Fixed mark.Close s.3.0 ∷ j) (fixed mark.Close ∷ k) s.3.1))

  links_written : (loose : ℕ) (ls : Links) (i j k : Words) → Repeated (SpellsLink P loose) (links_in ls) i j →
      Repeated (SpellsLink P loose) (links_in (erased_links ls)) (links_words (erased_links ls) k) k
  links_written loose NoLink i j k s = refl
  links_written loose (AndLink o w e ls) i j k s =
      let rest = links_words (erased_links ls) k in
      (rest, (s.1.0, (both_written (mark_written (operator_mark o)) p).writes (w, e) i s.0 rest s.1.1), links_written loose ls s.0 j k s.2)

  unary_written : (e : Expr) (i j k : Words) → SpellsUnary P e i j → SpellsUnary P (erased_expr e) (expr_words (erased_expr e) k) k
  unary_written (Numeral n) i j k s = absurd s
  unary_written (Named x) i j k s = absurd s
  unary_written (Keyword v w) i j k s = absurd s
  unary_written (Active w timer values) i j k s = absurd s
  unary_written (Paren w e) i j k s = absurd s
  unary_written (Unary o w e) i j k s = (both_written (mark_written (unary_mark o)) p).writes (w, e) i j k s
  unary_written (Chain e links) i j k s = absurd s

  chain_written : (loose : ℕ) (e : Expr) (i j k : Words) → SpellsChain P loose e i j → SpellsChain P loose (erased_expr e) (expr_words (erased_expr e) k) k
  chain_written loose (Numeral n) i j k s = absurd s
  chain_written loose (Named x) i j k s = absurd s
  chain_written loose (Keyword v w) i j k s = absurd s
  chain_written loose (Active w timer values) i j k s = absurd s
  chain_written loose (Paren w e) i j k s = absurd s
  chain_written loose (Unary o w e) i j k s = absurd s
  chain_written loose (Chain e NoLink) i j k s = absurd s.2
  chain_written loose (Chain e (AndLink o w f ls)) i j k s =
      let links = AndLink o w f ls in
      let rest = links_words (erased_links links) k in
      (rest, p.writes e i s.0 rest s.1, links_written loose links s.0 j k s.2)

module _ {Inner : Expr → Words → Words → Type 0} {Timer : Spot × List Expr → Words → Words → Type 0}
    (inner : Writes erased_expr Inner expr_words) (timer : WritesTimer Timer) where
  primary_on : (e : Expr) (i j k : Words) → SpellsPrimary Inner Timer e i j → SpellsPrimary Inner Timer (erased_expr e) (expr_words (erased_expr e) k) k
  primary_on (Numeral n) i j k s = refl
  primary_on (Named x) i j k s = refl
  primary_on (Keyword v w) i j k s = refl
  primary_on (Active w x values) i j k s =
      (_, refl, (plain, _, refl, (plain, timer.writes x values s.2.1 (Fixed mark.Close s.2.3.0 ∷ j) (fixed mark.Close ∷ k) s.2.3.1)))
  primary_on (Paren w e) i j k s = (both_written (mark_written mark.Open) (before_written inner mark.Close)).writes (w, e) i j k s
  primary_on (Unary o w e) i j k s = absurd s
  primary_on (Chain e links) i j k s = absurd s

  primary_written : Writes erased_expr (SpellsPrimary Inner Timer) expr_words
  primary_written = record { writes = primary_on }

  at_by : (loose : ℕ) → ((e : Expr) (i j k : Words) → SpellsAt Inner Timer loose e i j → SpellsAt Inner Timer loose (erased_expr e) (expr_words (erased_expr e) k) k) →
      Writes erased_expr (SpellsAt Inner Timer loose) expr_words
  at_by loose each = record { writes = each }

  at_on : (loose : ℕ) (e : Expr) (i j k : Words) → SpellsAt Inner Timer loose e i j → SpellsAt Inner Timer loose (erased_expr e) (expr_words (erased_expr e) k) k
  at_on zero e i j k s = primary_on e i j k s
  at_on (suc zero) e i j k s = elim s [
    | inl primary ↦ inl (primary_on e i j k primary)
    | inr signed ↦ inr (unary_written primary_written e i j k signed)
  ]
  at_on (suc (suc loose)) e i j k s = elim s [
    | inl tighter ↦ inl (at_on (suc loose) e i j k tighter)
    | inr chain ↦ inr (chain_written (at_by (suc loose) (at_on (suc loose))) (suc (suc loose)) e i j k chain)
  ]

  pub at_written : (loose : ℕ) → Writes erased_expr (SpellsAt Inner Timer loose) expr_words
  at_written loose = at_by loose (at_on loose)

inner_written : (depth : ℕ) → Writes erased_expr (SpellsInner depth) expr_words × WritesTimer (SpellsTimer depth)
inner_written zero = (record { writes = λ x i j k s. absurd s }, record { writes = λ x es i j k s. absurd s })
inner_written (suc depth) =
    let below = inner_written depth in
    (record { writes = (at_written below.0 below.1 loosest).writes }, record { writes = λ x es i j k s. (_, refl, values_written below.0 es s.0 j k s.2) })

pub expr_written : (depth : ℕ) → Writes erased_expr (SpellsExpr depth) expr_words
expr_written depth =
    let inner = inner_written depth in
    record { writes = (at_written inner.0 inner.1 loosest).writes }

pub applied_written : (depth : ℕ) → Writes erased_applied (SpellsApplied depth) applied_words
applied_written depth = record {
  writes = λ a i j k s. (both_written name_written (in_parentheses_written (expr_written depth))).writes (a.name, a.values) i j k s;
}
