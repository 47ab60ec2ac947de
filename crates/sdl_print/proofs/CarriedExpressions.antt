-- Where known words spell an expression, what is written for it can be written.
use Rattle.std.proofs.Common.{refl, ℕ, zero, suc, List, ◌∷◌, inl, inr}
use Rattle.sdl_tree.specs.declared.mark.Mark.TheVariants as mark
use Rattle.sdl_tree.specs.Canonical.{fixed, expr_words, links_words, values_words, more_values_words, applied_words}
use Rattle.sdl_tree.specs.Erased.{erased_name, erased_expr, erased_exprs, erased_links, erased_applied}
use Rattle.sdl_tree.specs.Spells.Expressions.{loosest, value_mark, unary_mark, operator_mark, SpellsPrimary, SpellsUnary, SpellsLink, SpellsChain, SpellsAt, SpellsInner, SpellsTimer, SpellsExpr, SpellsApplied}
use Rattle.sdl_tree.specs.Spells.Parts.{Separated, Repeated, InParentheses}
use Rattle.sdl_tree.specs.Tree.{Expr, Numeral, Named, Keyword, Active, Paren, Unary, Chain, Exprs, NoExpr, AndExpr, exprs_in, Links, NoLink, AndLink, links_in}
use Rattle.sdl_tree.specs.Words.{Spot, Words, Fixed}
use Rattle.sdl_tree.specs.Words as word
use Rattle.sdl_print.proofs.Known.{AreKnown}
use Rattle.sdl_print.proofs.Carried.{Carried, Carries, known, mark_carried, name_carried, number_carried, both_carried, before_carried, in_parentheses_carried}

-- what is written for a timer and its values can be written where they are spelled
record CarriesTimer (Timer : Spot × List Expr → Words → Words → Type 0) : Type 0 where
  carries : (x : Spot) (es : Exprs) (i j : Words) → Timer (x, exprs_in es) i j → AreKnown i →
      Carried j (λ k. word.Name (erased_name x) ∷ values_words (erased_exprs es) k)

module _ {P : Expr → Words → Words → Type 0} (p : Carries erased_expr P expr_words) where
  more_values_carried : (e : Expr) (es : Exprs) (i j : Words) → Separated P (e ∷ exprs_in es) i j → AreKnown i →
      Carried j (λ k. expr_words (erased_expr e) (more_values_words (erased_exprs es) k))
  more_values_carried e NoExpr i j s w = p.carries e i j s w
  more_values_carried e (AndExpr f es) i j s w =
      let a = p.carries e i (Fixed mark.Comma s.0 ∷ s.1) s.2 w in
      let b = more_values_carried f es s.1 j s.3 a.0.1 in
      (b.0, λ k v. a.1 (more_values_words (erased_exprs (AndExpr f es)) k) (refl, b.1 k v))

  values_carried : (es : Exprs) (i j : Words) → InParentheses P (exprs_in es) i j → AreKnown i → Carried j (values_words (erased_exprs es))
  values_carried NoExpr i j s w = (known s w, λ k v. v)
  values_carried (AndExpr e es) i j s w =
      let a = more_values_carried e es s.1 (Fixed mark.Close s.3.0 ∷ j) s.3.1 (known s.2 w).1 in
      (a.0.1, λ k v. (refl, a.1 (fixed mark.Close ∷ k) (refl, v)))

  links_carried : (loose : ℕ) (ls : Links) (i j : Words) → Repeated (SpellsLink P loose) (links_in ls) i j → AreKnown i →
      Carried j (links_words (erased_links ls))
  links_carried loose NoLink i j s w = (known s w, λ k v. v)
  links_carried loose (AndLink o sp e ls) i j s w =
      let a = (both_carried (mark_carried (operator_mark o)) p).carries (sp, e) i s.0 s.1.1 w in
      let b = links_carried loose ls s.0 j s.2 a.0 in
      (b.0, λ k v. a.1 (links_words (erased_links ls) k) (b.1 k v))

  unary_carried : (e : Expr) (i j : Words) → SpellsUnary P e i j → AreKnown i → Carried j (expr_words (erased_expr e))
  unary_carried (Numeral n) i j s w = absurd s
  unary_carried (Named x) i j s w = absurd s
  unary_carried (Keyword o sp) i j s w = absurd s
  unary_carried (Active sp timer values) i j s w = absurd s
  unary_carried (Paren sp e) i j s w = absurd s
  unary_carried (Unary o sp e) i j s w = (both_carried (mark_carried (unary_mark o)) p).carries (sp, e) i j s w
  unary_carried (Chain e links) i j s w = absurd s

  chain_carried : (loose : ℕ) (e : Expr) (i j : Words) → SpellsChain P loose e i j → AreKnown i → Carried j (expr_words (erased_expr e))
  chain_carried loose (Numeral n) i j s w = absurd s
  chain_carried loose (Named x) i j s w = absurd s
  chain_carried loose (Keyword o sp) i j s w = absurd s
  chain_carried loose (Active sp timer values) i j s w = absurd s
  chain_carried loose (Paren sp e) i j s w = absurd s
  chain_carried loose (Unary o sp e) i j s w = absurd s
  chain_carried loose (Chain e NoLink) i j s w = absurd s.2
  chain_carried loose (Chain e (AndLink o sp f ls)) i j s w =
      let links = AndLink o sp f ls in
      let a = p.carries e i s.0 s.1 w in
      let b = links_carried loose links s.0 j s.2 a.0 in
      (b.0, λ k v. a.1 (links_words (erased_links links) k) (b.1 k v))

module _ {Inner : Expr → Words → Words → Type 0} {Timer : Spot × List Expr → Words → Words → Type 0}
    (inner : Carries erased_expr Inner expr_words) (timer : CarriesTimer Timer) where
  primary_on : (e : Expr) (i j : Words) → SpellsPrimary Inner Timer e i j → AreKnown i → Carried j (expr_words (erased_expr e))
  primary_on (Numeral n) i j s w = number_carried.carries n i j s w
  primary_on (Named x) i j s w = name_carried.carries x i j s w
  primary_on (Keyword o sp) i j s w = (mark_carried (value_mark o)).carries sp i j s w
  primary_on (Active sp x values) i j s w =
      let a = timer.carries x values s.2.1 (Fixed mark.Close s.2.3.0 ∷ j) s.2.3.1 (known s.2.2 (known s.1 w).1).1 in
      (a.0.1, λ k v. (refl, (refl, a.1 (fixed mark.Close ∷ k) (refl, v))))
  primary_on (Paren sp e) i j s w = (both_carried (mark_carried mark.Open) (before_carried inner mark.Close)).carries (sp, e) i j s w
  primary_on (Unary o sp e) i j s w = absurd s
  primary_on (Chain e links) i j s w = absurd s

  primary_carried : Carries erased_expr (SpellsPrimary Inner Timer) expr_words
  primary_carried = record { carries = primary_on }

  at_by : (loose : ℕ) → ((e : Expr) (i j : Words) → SpellsAt Inner Timer loose e i j → AreKnown i → Carried j (expr_words (erased_expr e))) →
      Carries erased_expr (SpellsAt Inner Timer loose) expr_words
  at_by loose each = record { carries = each }

  at_on : (loose : ℕ) (e : Expr) (i j : Words) → SpellsAt Inner Timer loose e i j → AreKnown i → Carried j (expr_words (erased_expr e))
  at_on zero e i j s w = primary_on e i j s w
  at_on (suc zero) e i j s w = elim s [
    | inl primary ↦ primary_on e i j primary w
    | inr signed ↦ unary_carried primary_carried e i j signed w
  ]
  at_on (suc (suc loose)) e i j s w = elim s [
    | inl tighter ↦ at_on (suc loose) e i j tighter w
    | inr chain ↦ chain_carried (at_by (suc loose) (at_on (suc loose))) (suc (suc loose)) e i j chain w
  ]

  at_carried : (loose : ℕ) → Carries erased_expr (SpellsAt Inner Timer loose) expr_words
  at_carried loose = at_by loose (at_on loose)

inner_carried : (depth : ℕ) → Carries erased_expr (SpellsInner depth) expr_words × CarriesTimer (SpellsTimer depth)
inner_carried zero = (record { carries = λ x i j s w. absurd s }, record { carries = λ x es i j s w. absurd s })
inner_carried (suc depth) =
    let below = inner_carried depth in (
      record { carries = (at_carried below.0 below.1 loosest).carries },
      record {
        carries = λ x es i j s w.
            let h = known s.1 w in
            let a = values_carried below.0 es s.0 j s.2 h.1 in
            (a.0, λ k v. (h.0, a.1 k v));
      },
    )

pub expr_carried : (depth : ℕ) → Carries erased_expr (SpellsExpr depth) expr_words
expr_carried depth =
    let inner = inner_carried depth in
    record { carries = (at_carried inner.0 inner.1 loosest).carries }

pub applied_carried : (depth : ℕ) → Carries erased_applied (SpellsApplied depth) applied_words
applied_carried depth = record {
  carries = λ a i j s w. (both_carried name_carried (in_parentheses_carried (expr_carried depth))).carries (a.name, a.values) i j s w;
}
