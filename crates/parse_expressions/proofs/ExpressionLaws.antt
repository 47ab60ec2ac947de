-- The laws of expressions.
use Rattle.parse_expressions.proofs.Grammar.{KeywordValue, UnaryOperator, Spelling, plain, erased_word, erased_name, erased_expr, erased_exprs, erased_links, looseness, loosest, operator_mark, value_mark, unary_mark, SpellsPrimary, SpellsUnary, SpellsLink, SpellsChain, SpellsAt, SpellsInner, SpellsExpr, SpellsTimer, IsMark, Both, Behind, Before, Repeated, Enclosed, InParentheses, SpellsName, SpellsNumber, Expr, Numeral, Named, Keyword, Active, Paren, Unary, Chain, Exprs, NoExpr, AndExpr, exprs_in, Link, Links, NoLink, AndLink, links_in, exprs_of, links_of, Number, Words, Spot, Fixed, Parser, Outcome, Refused, Deep, too_deep, refuse, ◌⊗◌, and_then, made, either, is_number, front, rest, mark_at, sees, same_mark, sees_name, sees_number, expect, in_parentheses, by_mark, value_of, operator_at, value_at, unary_at, unary_of, marked, Readers, readers, keyword_with, paren_with, active_with, unary_with, link_with, chain_with, sees_value, sees_unary, sees_operator, primary, signed, link, chain, level, expr, paren_of, active_of, deep_active, no_args, ◌≡◌, ℕ, zero, suc, ◌⊎◌, inl, inr, Bool, true, false, is_some, if◌then◌else◌, List, [], ◌∷◌, map, Ok, Err, refl, sym, ap, ◌∙◌, subst, arith}
use Rattle.sdl_tree.specs.declared.expressions.KeywordValue.TheVariants as value
use Rattle.sdl_tree.specs.declared.expressions.UnaryOperator.TheVariants as unary
use Rattle.sdl_tree.specs.declared.mark.Mark.TheVariants as mark
use Rattle.sdl_tree.specs.Words as word
use Rattle.parse_expressions.proofs.Laws.{Form, Never, Gives, Rules, Law, MaybeLaw, Anywhere, Made, still, as_law, stops_law, never_rules, refuse_rules, nothing_law, mark_law, same_rules, shut, shut_first, shut_rules, both_rules, both_law, then_law, behind_law, before_law, formed_rules, formed_law, made_law, made_as, Or, either_as, either_rules, first_law, either_law, maybe_law, sees_front, sees_ok, sees_at, sees_other, swapped, no_deeper, closed}
use Rattle.parse_expressions.proofs.ListLaws.{repeated_law, repeated_begins, separated_begins}
use Rattle.parse_expressions.proofs.OperatorLaws.{value_at_again, unary_at_again, operator_at_ok, operator_at_again, Stops, operator_none, operator_front, operator_end, same_mark_at, stops_at, stops_last, stops_before, stops_below, IsMarked, marked_rules, marked_law}
use Rattle.parse_expressions.proofs.PartLaws.{nameless, name_begins, name_front, name_law, number_law, in_parentheses_law, opens_list, listed_to, listed_from}

abbrev pub erased_link : Link → Link
erased_link l = record { operator = l.operator; word = erased_word l.word; operand = erased_expr l.operand }

-- ---- lists in the tree

exprs_again : (es : Exprs) → exprs_of (exprs_in es) ≡ es
exprs_again NoExpr = refl
exprs_again (AndExpr e es) = ap (AndExpr e) (exprs_again es)

-- the list in the tree is the list, and without its places that without its places
exprs_are : (es : List Expr) → (exprs_in (exprs_of es) ≡ es) × (erased_exprs (exprs_of es) ≡ exprs_of (map erased_expr es))
exprs_are [] = (refl, refl)
exprs_are (e ∷ es) = let more = exprs_are es in (ap (λ fs. e ∷ fs) more.0, ap (AndExpr (erased_expr e)) more.1)

links_again : (ls : Links) → links_of (links_in ls) ≡ ls
links_again NoLink = refl
links_again (AndLink o w e ls) = ap (AndLink o w e) (links_again ls)

links_are : (ls : List Link) → (links_in (links_of ls) ≡ ls) × (erased_links (links_of ls) ≡ links_of (map erased_link ls))
links_are [] = (refl, refl)
links_are (l ∷ ls) = let more = links_are ls in (ap (λ ks. l ∷ ks) more.0, ap (AndLink l.operator (erased_word l.word) (erased_expr l.operand)) more.1)

erased_chain : (e : Expr) (ls : List Link) → erased_expr (chain_with e ls) ≡ chain_with (erased_expr e) (map erased_link ls)
erased_chain e [] = refl
erased_chain e (l ∷ ls) = ap (Chain (erased_expr e)) ((links_are (l ∷ ls)).1)

-- ---- what expressions begin with

module _ (Q : Words → Type 0) (at_name : (x : Spot) (k : Words) → Q (word.Name x ∷ k)) (at_number : (n : Number) (k : Words) → Q (word.Number n.value n.digits ∷ k))
    (at_value : (v : KeywordValue) (s : Spelling) (k : Words) → Q (Fixed (value_mark v) s ∷ k)) (at_open : (s : Spelling) (k : Words) → Q (Fixed mark.Open s ∷ k))
    (at_active : (s : Spelling) (k : Words) → Q (Fixed mark.Active s ∷ k)) (Inner : Form Expr) (Timer : Form (Spot × List Expr)) where
  primary_begins : (x : Expr) (i j : Words) → SpellsPrimary Inner Timer x i j → Q i
  primary_begins (Named x) i j s = subst Q (sym s) (at_name x j)
  primary_begins (Numeral n) i j s = subst Q (sym s) (at_number n j)
  primary_begins (Keyword v w) i j s = subst Q (sym s) (at_value v w j)
  primary_begins (Paren w e) i j s = subst Q (sym s.1) (at_open w s.0)
  primary_begins (Active w timer values) i j s = subst Q (sym s.1) (at_active w s.0)
  primary_begins x i j s = absurd s

  module _ (at_unary : (o : UnaryOperator) (s : Spelling) (k : Words) → Q (Fixed (unary_mark o) s ∷ k)) where
    pub level_begins : (k : ℕ) (x : Expr) (i j : Words) → SpellsAt Inner Timer k x i j → Q i
    level_begins zero x i j s = primary_begins x i j s
    level_begins (suc zero) x i j (inl s) = primary_begins x i j s
    level_begins (suc zero) (Unary o w e) i j (inr s) = subst Q (sym s.1) (at_unary o w s.0)
    level_begins (suc zero) x i j (inr s) = absurd s
    level_begins (suc (suc k)) x i j (inl s) = level_begins (suc k) x i j s
    level_begins (suc (suc k)) (Chain e links) i j (inr s) = level_begins (suc k) e i s.0 s.1
    level_begins (suc (suc k)) x i j (inr s) = absurd s

-- ---- operands with operators between them

module _ {operand : Parser Expr} {P M : Form Expr} (l : ℕ) (a : Law operand P M (Stops l) erased_expr) where
  pub link_law : MaybeLaw (link operand (suc l)) (SpellsLink P (suc l)) (SpellsLink M (suc l)) (Stops l) (sees_operator (suc l)) erased_link
  unfolding link
  link_law =
      maybe_law (sees_operator (suc l)) (operator_front (suc l))
      (formed_rules link_with (λ j t. t) (λ x i j s. (s.1.0, (s.0, s.1.1, s.2))) (λ x i j s. (((x.operator, x.word), x.operand), refl, (s.1.0, (s.0, s.1.1), s.1.2)))
      (λ x i j s. (s.1.0, (s.0, s.1.1, s.2))) (λ x. refl)
      (both_rules (marked_rules (operator_at (suc l)) operator_mark (λ o. looseness o ≡ suc l) (λ i o e. (operator_at_ok (suc l) i o e).1) (λ o s j e. operator_at_again (suc l) o s j e))
      a (λ y m j s t. tt)))
      (operator_end (suc l)) (λ x i j s. ap (sees_operator (suc l)) s.1.1 ∙ ap is_some (operator_at_again (suc l) x.operator x.word s.1.0 s.0))

  abbrev IsChain : Form Expr → Form (Expr × List Link)
  IsChain R = Both R (Repeated (SpellsLink R (suc l)))

  chain_to : (R : Form Expr) (x : Expr × List Link) (i j : Words) → IsChain R x i j → R (chain_with x.0 x.1) i j ⊎ SpellsChain R (suc l) (chain_with x.0 x.1) i j
  chain_to R (e, []) i j s = let F : Words → Type 0 = λ k. R e i k in inl (subst F s.2 s.1)
  chain_to R (e, k ∷ ks) i j s =
      let F : List Link → Type 0 = λ ms. Repeated (SpellsLink R (suc l)) (k ∷ ms) s.0 j in inr (s.0, s.1, subst F (sym (links_are ks).0) s.2)

  chain_from : (x : Expr) (i j : Words) → P x i j ⊎ SpellsChain P (suc l) x i j → Made (λ p. chain_with p.0 p.1) (IsChain P) x i j
  chain_from x i j (inl s) = ((x, []), refl, (j, s, refl))
  chain_from (Chain e NoLink) i j (inr s) = absurd s.2
  chain_from (Chain e (AndLink o w f ls)) i j (inr s) = ((e, links_in (AndLink o w f ls)), ap (Chain e) (sym (links_again (AndLink o w f ls))), s)
  chain_from x i j (inr s) = absurd s

  pub chain_law : Law (chain operand (suc l)) (λ x i j. P x i j ⊎ SpellsChain P (suc l) x i j) (λ x i j. M x i j ⊎ SpellsChain M (suc l) x i j) (Stops (suc l)) erased_expr
  chain_law =
      formed_law (λ p. chain_with p.0 p.1) (λ j t. (stops_below l (suc l) j (omega arith) t, operator_none (suc l) j t))
      (chain_to P) chain_from (chain_to M) (λ x. erased_chain x.0 x.1)
      (both_law a (repeated_law link_law (λ i seen. stops_before l (suc l) i (omega arith) seen) (stops_last l)) (λ ls m j s t. repeated_begins link_law (λ i seen. stops_before l (suc l) i (omega arith) seen) (stops_last l) ls m j s t.0))

-- ---- primaries

abbrev pub IsParen : Form Expr → Form Expr
IsParen Inner = Made paren_with (Both (IsMark mark.Open) (Before Inner mark.Close))

abbrev pub IsActive : Form (Spot × List Expr) → Form Expr
IsActive Timer = Made active_with (Both (IsMark mark.Active) (Behind mark.Open (Before Timer mark.Close)))

abbrev IsKeyword : Form Expr
IsKeyword = Made keyword_with (IsMarked value_mark (λ v. Unit {0}))

module _ (Inner : Form Expr) (Timer : Form (Spot × List Expr)) where
  abbrev IsInside : Form Expr
  IsInside = Or (IsParen Inner) (Or (IsActive Timer) Never)

  abbrev IsPrimary : Form Expr
  IsPrimary = Or (Made Named SpellsName) (Or (Made Numeral SpellsNumber) (Or IsKeyword IsInside))

  no_value : (x : Expr) (i j : Words) → IsInside x i j → sees_value i ≡ false
  unfolding value_at mark_at front
  no_value x i j (inl s) = ap sees_value s.2.1
  no_value x i j (inr (inl s)) = ap sees_value s.2.1
  no_value x i j (inr (inr s)) = absurd s

  no_number : (x : Expr) (i j : Words) → Or IsKeyword IsInside x i j → sees_number i ≡ false
  unfolding sees_number front
  no_number x i j (inl s) = ap sees_number s.2.1
  no_number x i j (inr (inl s)) = ap sees_number s.2.1
  no_number x i j (inr (inr (inl s))) = ap sees_number s.2.1
  no_number x i j (inr (inr (inr s))) = absurd s

  no_name : (x : Expr) (i j : Words) → Or (Made Numeral SpellsNumber) (Or IsKeyword IsInside) x i j → sees_name i ≡ false
  unfolding sees_name front
  no_name x i j (inl s) = ap sees_name s.2
  no_name x i j (inr (inl s)) = ap sees_name s.2.1
  no_name x i j (inr (inr (inl s))) = ap sees_name s.2.1
  no_name x i j (inr (inr (inr (inl s)))) = ap sees_name s.2.1
  no_name x i j (inr (inr (inr (inr s)))) = absurd s

  no_unary_value : (v : KeywordValue) (s : Spelling) (k : Words) → sees_unary (Fixed (value_mark v) s ∷ k) ≡ false
  unfolding unary_at mark_at front
  no_unary_value value.True s k = refl
  no_unary_value v s k = refl

  no_unary : (x : Expr) (i j : Words) → SpellsPrimary Inner Timer x i j → sees_unary i ≡ false
  unfolding unary_at mark_at front
  no_unary = primary_begins (λ i. sees_unary i ≡ false) (λ x k. refl) (λ n k. refl) no_unary_value (λ s k. refl) (λ s k. refl) Inner Timer

  active_to : (x : Expr) (i j : Words) → IsActive Timer x i j → SpellsPrimary Inner Timer x i j
  active_to x i j s =
      let F : Expr → Type 0 = λ y. SpellsPrimary Inner Timer y i j in
      let R : List Expr → Type 0 = λ es. Both (IsMark mark.Active) (Behind mark.Open (Before Timer mark.Close)) (s.0.0, (s.0.1.0, es)) i j in
      subst F (sym s.1) (subst R (sym (exprs_are s.0.1.1).0) s.2)

  primary_to : (x : Expr) (i j : Words) → IsPrimary x i j → SpellsPrimary Inner Timer x i j
  primary_to =
      either_as (made_as (SpellsPrimary Inner Timer) Named) (either_as (made_as (SpellsPrimary Inner Timer) Numeral)
      (either_as (λ x i j s. made_as (SpellsPrimary Inner Timer) keyword_with x i j (s.0, s.1, s.2.1)) (either_as (made_as (SpellsPrimary Inner Timer) paren_with) (either_as active_to (λ x i j s. absurd s)))))

  primary_from : (x : Expr) (i j : Words) → SpellsPrimary Inner Timer x i j → IsPrimary x i j
  primary_from (Named x) i j s = inl (x, refl, s)
  primary_from (Numeral n) i j s = inr (inl (n, refl, s))
  primary_from (Keyword v w) i j s = inr (inr (inl ((v, w), refl, (tt, s))))
  primary_from (Paren w e) i j s = inr (inr (inr (inl ((w, e), refl, s))))
  primary_from (Active w timer values) i j s = inr (inr (inr (inr (inl ((w, (timer, exprs_in values)), ap (Active w timer) (sym (exprs_again values)), s)))))
  primary_from x i j s = absurd s

no_open : (Timer : Form (Spot × List Expr)) (x : Expr) (i j : Words) → IsActive Timer x i j ⊎ ⊥ → sees mark.Open i ≡ false
unfolding sees front same_mark
no_open Timer x i j (inl s) = ap (sees mark.Open) s.2.1
no_open Timer x i j (inr s) = absurd s

-- what is read inside parentheses
abbrev pub inside : Readers → Parser Expr
inside r = either (sees mark.Open) r.paren (either (sees mark.Active) r.active refuse)

module _ (Inner MoreInner : Form Expr) (Timer MoreTimer : Form (Spot × List Expr)) where
  -- where something may stand in parentheses
  inside_rules : {p q : Parser Expr} → Rules p (IsParen Inner) (IsParen MoreInner) Anywhere erased_expr → Rules q (IsActive Timer) (IsActive MoreTimer) Anywhere erased_expr
      → Rules (either (sees mark.Open) p (either (sees mark.Active) q refuse)) (IsInside Inner Timer) (IsInside MoreInner MoreTimer) Anywhere erased_expr
  inside_rules paren active =
      either_rules (sees mark.Open) (sees_front mark.Open) paren
      (either_rules (sees mark.Active) (sees_front mark.Active) active (refuse_rules (λ x i j s. s)) (λ x i j s. sees_at mark.Active s.0.0 i s.2.0 s.2.1) (λ x i j s t. absurd s))
      (λ x i j s. sees_at mark.Open s.0.0 i s.2.0 s.2.1) (λ x i j s t. no_open Timer x i j s)

  primary_law : (r : Readers) → Rules (inside r) (IsInside Inner Timer) (IsInside MoreInner MoreTimer) Anywhere erased_expr
      → Law (primary r) (SpellsPrimary Inner Timer) (SpellsPrimary MoreInner MoreTimer) Anywhere erased_expr
  unfolding primary sees_number value_at front
  primary_law r within =
      as_law (primary_to Inner Timer) (primary_from Inner Timer) (primary_to MoreInner MoreTimer)
      (either_law sees_name name_front (made_law Named (λ x. refl) name_law)
      (either_law sees_number (λ i k e. ap is_number e) (made_law Numeral (λ x. refl) number_law)
      (first_law sees_value (λ i k e. ap (λ m. is_some (by_mark value_of m)) (same_mark_at i k e))
      (made_law keyword_with (λ x. refl) (marked_law value_at value_mark (λ v. Unit {0}) (λ i v e. tt) (λ v s j e. value_at_again v s j) value.Now tt))
      within
      (λ x i j s. ap sees_value s.2.1 ∙ ap is_some (value_at_again s.0.0 s.0.1 j)) (λ x i j s t. no_value Inner Timer x i j s))
      (λ x i j s. ap sees_number s.2) (λ x i j s t. no_number Inner Timer x i j s))
      (λ x i j s. name_begins s.0 i j s.2) (λ x i j s t. no_name Inner Timer x i j s))

-- ---- ("-" | "not") primary

unary_from : (P : Form Expr) (x : Expr) (i j : Words) → SpellsUnary P x i j → Made unary_with (Both (IsMarked unary_mark (λ o. Unit {0})) P) x i j
unary_from P (Unary o w e) i j s = (((o, w), e), refl, (s.0, (tt, s.1), s.2))
unary_from P x i j s = absurd s

unary_law : {operand : Parser Expr} {P M : Form Expr} → Law operand P M Anywhere erased_expr → ((x : Expr) (i j : Words) → P x i j → sees_unary i ≡ false)
    → Law (either sees_unary (made unary_with (marked unary_at unary_mark ⊗ operand)) operand) (λ x i j. P x i j ⊎ SpellsUnary P x i j) (λ x i j. M x i j ⊎ SpellsUnary M x i j)
    Anywhere erased_expr
unfolding unary_at
unary_law {P = P} a none =
    as_law (λ x i j s. swapped s) (λ x i j s. swapped s) (λ x i j s. swapped s)
    (either_law sees_unary (λ i k e. ap (λ m. is_some (by_mark unary_of m)) (same_mark_at i k e))
    (formed_law unary_with (λ j t. t) (λ x i j s. (s.0, s.1.1, s.2)) (unary_from P) (λ x i j s. (s.0, s.1.1, s.2)) (λ x. refl)
    (then_law (marked_law unary_at unary_mark (λ o. Unit {0}) (λ i o e. tt) (λ o s j e. unary_at_again o s j) unary.Minus tt) a))
    a (λ x i j s. let u = unary_from P x i j s in ap sees_unary u.2.1.1 ∙ ap is_some (unary_at_again u.0.0.0 u.0.0.1 u.2.0)) (λ x i j s t. none x i j s))

-- ---- levels

module _ (r : Readers) (Inner MoreInner : Form Expr) (Timer MoreTimer : Form (Spot × List Expr))
    (within : Rules (inside r) (IsInside Inner Timer) (IsInside MoreInner MoreTimer) Anywhere erased_expr) where
  level_law : (k : ℕ) → Law (level r k) (SpellsAt Inner Timer k) (SpellsAt MoreInner MoreTimer k) (Stops k) erased_expr
  unfolding level signed
  level_law zero = stops_law (λ j t. tt) (primary_law Inner MoreInner Timer MoreTimer r within)
  level_law (suc zero) = stops_law (λ j t. tt) (unary_law (primary_law Inner MoreInner Timer MoreTimer r within) (no_unary Inner Timer))
  level_law (suc (suc k)) = chain_law (suc k) (level_law (suc k))

-- ---- where nothing more may stand inside

-- a name alone
pub plain_name : (Inner : Form Expr) (Timer : Form (Spot × List Expr)) (y : Spot) (k : ℕ) (j : Words) → SpellsAt Inner Timer k (Named y) (word.Name y ∷ j) j
plain_name Inner Timer y zero j = refl
plain_name Inner Timer y (suc zero) j = inl refl
plain_name Inner Timer y (suc (suc k)) j = inl (plain_name Inner Timer y (suc k) j)

abbrev DeepActive : Words → Outcome Expr → Type 0
DeepActive = Gives deep_active (IsActive (SpellsTimer zero)) (IsActive (SpellsTimer (suc zero))) Anywhere

active_by : (i : Words) (r : Spelling) (k : Words) → i ≡ Fixed mark.Active r ∷ k → (b : Bool) → sees mark.Open k ≡ b → DeepActive i (if b then Err (Deep k) else Err (Refused k))
active_by i r k at true e =
    let seen = sees_ok mark.Open k e in
    let w : Spelling = seen.0 in
    closed i k (Fixed mark.Active r ∷ Fixed mark.Open w ∷ []) (rest k) (Fixed mark.Open w) (at ∙ ap (λ l. Fixed mark.Active r ∷ l) seen.1) seen.1 (w, inl refl) (inr (r, refl))
    (active_with (r, (nameless, [])), word.Name nameless ∷ Fixed mark.Close plain ∷ [], λ j u. ((r, (nameless, [])), refl, (_, refl, (w, _, refl, (plain, (Fixed mark.Close plain ∷ j, refl, refl))))))
    (λ l x j n u. n.2.2.3.1)
active_by i r k at false e = (Fixed mark.Active r ∷ [], at)

active_first : (i : Words) (o : Outcome Spelling) → Gives (expect mark.Active) (IsMark mark.Active) (IsMark mark.Active) Anywhere i o → DeepActive i (and_then o (λ _ k. shut mark.Open k))
active_first i (Ok z) t = active_by i z.0 z.1 t.spelled (sees mark.Open z.1) refl
active_first i (Err r) t = still i r (λ left u. absurd (no_deeper i left tt u)) t

deep_active_tells : (i : Words) → DeepActive i (deep_active i)
unfolding deep_active
deep_active_tells i = active_first i (expect mark.Active i) ((mark_law mark.Active).rules.tells i)

inside_none : Rules (either (sees mark.Open) too_deep (either (sees mark.Active) deep_active refuse)) (IsInside (SpellsInner zero) (SpellsTimer zero))
    (IsInside (SpellsInner (suc zero)) (SpellsTimer (suc zero))) Anywhere erased_expr
inside_none =
    same_rules (shut_first mark.Open (either (sees mark.Active) deep_active refuse))
    (inside_rules (SpellsInner zero) (SpellsInner (suc zero)) (SpellsTimer zero) (SpellsTimer (suc zero))
    (shut_rules mark.Open (λ s. (s, inl refl)) (IsParen (SpellsInner zero)) (IsParen (SpellsInner (suc zero))) Anywhere (λ x i j s. s.2.2.1)
    (λ s. (paren_with (s, Named nameless), word.Name nameless ∷ Fixed mark.Close plain ∷ [], λ j u. ((s, Named nameless), refl, (_, refl, (plain, plain_name (SpellsInner zero) (SpellsTimer zero) nameless loosest (Fixed mark.Close plain ∷ j)))))))
    (never_rules deep_active_tells (λ x i j s. s.2.2.3.1)))

no_args_law : Law no_args (InParentheses (SpellsInner zero)) (InParentheses (SpellsInner (suc zero))) (λ j. sees mark.Open j ≡ false) (map erased_expr)
no_args_law =
    as_law (listed_to (SpellsInner zero)) (listed_from (SpellsInner zero)) (listed_to (SpellsInner (suc zero)))
    (record {
      rules =
          same_rules (shut_first mark.Open (λ i. Ok ([], i)))
          (either_rules (sees mark.Open) (sees_front mark.Open)
          (shut_rules mark.Open (λ s. (s, inl refl)) (Enclosed (SpellsInner zero)) (Enclosed (SpellsInner (suc zero))) (λ j. sees mark.Open j ≡ false)
          (λ xs i j s. separated_begins (SpellsInner zero) (λ k. ⊥) (λ x k l n. n) xs s.1 (Fixed mark.Close s.3.0 ∷ j) s.3.1)
          (λ s. (Named nameless ∷ [], word.Name nameless ∷ Fixed mark.Close plain ∷ [], λ j u. (s, _, refl, (plain, plain_name (SpellsInner zero) (SpellsTimer zero) nameless loosest (Fixed mark.Close plain ∷ j))))))
          (nothing_law []).rules (opens_list (SpellsInner zero)) (λ xs i j s t. ap (sees mark.Open) s.1 ∙ t));
      one = ([], [], λ j t. inr (refl, refl));
    })

pub record AreRead (d : ℕ) : Type 0 where
  pub within : Rules (inside (readers d)) (IsInside (SpellsInner d) (SpellsTimer d)) (IsInside (SpellsInner (suc d)) (SpellsTimer (suc d))) Anywhere erased_expr
  pub args : Law (readers d).args (InParentheses (SpellsInner d)) (InParentheses (SpellsInner (suc d))) (λ j. sees mark.Open j ≡ false) (map erased_expr)

expr_in : (d : ℕ) → AreRead d → Law (expr d) (SpellsExpr d) (SpellsExpr (suc d)) (Stops loosest) erased_expr
expr_in d a = level_law (readers d) (SpellsInner d) (SpellsInner (suc d)) (SpellsTimer d) (SpellsTimer (suc d)) a.within loosest

paren_of_law : (d : ℕ) → AreRead d → Law (paren_of (expr d)) (IsParen (SpellsInner (suc d))) (IsParen (SpellsInner (suc (suc d)))) Anywhere erased_expr
unfolding paren_of
paren_of_law d a = made_law paren_with (λ x. refl) (then_law (mark_law mark.Open) (before_law mark.Close (expr_in d a) (stops_at mark.Close refl loosest)))

active_of_law : (d : ℕ) → AreRead d → Law (active_of (readers d).args) (IsActive (SpellsTimer (suc d))) (IsActive (SpellsTimer (suc (suc d)))) Anywhere erased_expr
unfolding active_of same_mark
active_of_law d a =
    made_law active_with (λ x. ap (Active (erased_word x.0) (erased_name x.1.0)) (exprs_are x.1.1).1)
    (then_law (mark_law mark.Active) (behind_law mark.Open (before_law mark.Close (then_law name_law a.args) (sees_other mark.Open mark.Close refl))))

are_read : (d : ℕ) → AreRead d
unfolding readers
are_read zero = record { within = inside_none; args = no_args_law }
are_read (suc d) =
    let below = are_read d in
    record {
      within =
          inside_rules (SpellsInner (suc d)) (SpellsInner (suc (suc d))) (SpellsTimer (suc d)) (SpellsTimer (suc (suc d)))
          (paren_of_law d below).rules (active_of_law d below).rules;
      args = in_parentheses_law (expr_in d below) (stops_at mark.Comma refl loosest) (stops_at mark.Close refl loosest) (stops_last loosest);
    }

-- ---- expr

pub expr_law : (d : ℕ) → Law (expr d) (SpellsExpr d) (SpellsExpr (suc d)) (Stops loosest) erased_expr
expr_law d = expr_in d (are_read d)

-- [args]
pub args_law : (d : ℕ) → Law (in_parentheses (expr d)) (InParentheses (SpellsExpr d)) (InParentheses (SpellsExpr (suc d))) (λ j. sees mark.Open j ≡ false) (map erased_expr)
unfolding readers
args_law d = (are_read (suc d)).args
