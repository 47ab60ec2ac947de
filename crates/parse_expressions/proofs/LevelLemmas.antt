-- How levels and chains of the code go on as those of the reading do.
use Rattle.std.proofs.lemmas.Grind.{common_steps}
use Rattle.std.proofs.lemmas.Bool.Decides.{nat_tests}
use Rattle.std.proofs.Common.{◌≢◌}
use Rattle.parse_expressions.proofs.Grammar.{Words, Outcome, Parser, Some, None, Ok, Err, Operator, looseness, and_then, mark_at, by_mark, operator_of, of_level, operator_at, sees_operator, is_some, false, ◌≡◌, ◌==◌, ℕ, zero, suc, ◌+◌, ◌-◌, ◌<◌, ◌≤◌, List, [], ◌∷◌, map, ap, refl, arith, Deep, in_parentheses, repeated_by, repeated_from, repeated, Readers, readers, level, primary, signed, link, paren_of, active_of, deep_active, no_args, expr, ◌∙◌, Expr, Chain, links_of, expr_value, chain_value, link_value, chain_with, length, Vec, Global}
use Rattle.parse_expressions.proofs.Steps.{bind_is, if_false, none_as, read_as}
use Rattle.sdl_tree.specs.Tree as tree
use Rattle.sdl_tree.specs.declared.expressions.Chain.{roll-Chain}
use Rattle.sdl_tree.specs.declared.expressions.Expression.{Expression}
use Rattle.sdl_tree.specs.declared.expressions.Link.{Link}
use Rattle.sdl_tree.proofs.ViewLemmas.{chained_value}

-- ---- levels, where the code reads on from the one below

pub level_zero : (r : Readers) (k : ℕ) (i : Words) → k ≡ 0 → level r k i ≡ primary r i
unfolding level
level_zero r k i e = ap (λ n. level r n i) e

level_one : (r : Readers) (i : Words) → level r 1 i ≡ signed r i
unfolding level
level_one r i = refl

-- an expression and the links behind it, and the chain of them
abbrev with_links : Outcome Expr → Parser (List tree.Link) → Outcome (Expr × List tree.Link)
with_links o q = and_then o (λ e m. and_then (q m) (λ links j. Ok ((e, links), j)))

abbrev in_chain : Outcome (Expr × List tree.Link) → Outcome Expr
in_chain o = and_then o (λ p j. Ok (chain_with p.0 p.1, j))

level_more : (r : Readers) (k : ℕ) (i : Words)
    → level r (suc (suc k)) i ≡ in_chain (with_links (level r (suc k) i) (repeated (link (level r (suc k)) (suc (suc k)))))
unfolding level
level_more r k i = refl

-- What is read on from an expression of a looseness, up to the one that is so much looser.
unfoldable pub climb : Readers → ℕ → ℕ → Expr → Parser Expr
climb r k zero e i = Ok (e, i)
climb r k (suc n) e i =
    and_then (repeated (link (level r k) (suc k)) i) (λ links j. climb r (suc k) n (chain_with e links) j)

climb_none : (r : Readers) (k : ℕ) (e : Expr) (i : Words) → climb r k zero e i ≡ Ok (e, i)
unfolding climb
climb_none r k e i = refl

unchanged : (r : Readers) (k : ℕ) (o : Outcome Expr) → o ≡ and_then o (climb r k zero)
unfolding climb
unchanged r k (Ok p) = refl
unchanged r k (Err f) = refl

linked : (e : Expr) (o : Outcome (List tree.Link)) (more : Expr → Parser Expr)
    → and_then (in_chain (and_then o (λ links j. Ok ((e, links), j)))) more ≡ and_then o (λ links j. more (chain_with e links) j)
linked e (Ok p) more = refl
linked e (Err f) more = refl

higher : (r : Readers) (k n : ℕ) (o : Outcome Expr)
    → and_then (in_chain (with_links o (repeated (link (level r (suc k)) (suc (suc k)))))) (climb r (suc (suc k)) n)
    ≡ and_then o (climb r (suc k) (suc n))
unfolding climb
higher r k n (Ok p) = linked p.0 (repeated (link (level r (suc k)) (suc (suc k))) p.1) (climb r (suc (suc k)) n)
higher r k n (Err f) = refl

level_from : (r : Readers) (n k m : ℕ) (i : Words) → m ≡ suc k + n
    → level r m i ≡ and_then (level r (suc k) i) (climb r (suc k) n)
level_from r zero k m i e =
    let same : m ≡ suc k = omega (arith, e) in ap (λ l. level r l i) same ∙ unchanged r (suc k) (level r (suc k) i)
level_from r (suc n) k m i e =
    let same : m ≡ suc (suc k) + n = omega (arith, e) in
    level_from r n (suc k) m i same
    ∙ ap (λ o. and_then o (climb r (suc (suc k)) n)) (level_more r k i)
    ∙ higher r k n (level r (suc k) i)

pub level_signed : (r : Readers) (k : ℕ) (i : Words) → 1 ≤ k
    → level r k i ≡ and_then (signed r i) (climb r 1 (k + 1 - 2))
level_signed r k i some =
    let same : k ≡ 1 + (k + 1 - 2) = omega arith in
    level_from r (k + 1 - 2) 0 k i same ∙ ap (λ o. and_then o (climb r 1 (k + 1 - 2))) (level_one r i)

-- one turn of the code's loop
pub climb_turn : (r : Readers) (k end : ℕ) (e : Expr) (i : Words) → 2 ≤ k → k < end
    → climb r (k - 1) (end - k) e i
    ≡ and_then (repeated (link (level r (k - 1)) k) i)
    (λ links j. climb r (k + 1 - 1) (end - (k + 1)) (chain_with e links) j)
unfolding climb
climb_turn r k end e i some below =
    let turn : end - k ≡ suc (end - (k + 1)) = omega arith in
    let whole : suc (k - 1) ≡ k = omega arith in
    let next : suc (k - 1) ≡ k + 1 - 1 = omega arith in
    ap (λ n. climb r (k - 1) n e i) turn
    ∙ ap (λ l. and_then (repeated (link (level r (k - 1)) l) i)
    (λ links j. climb r (suc (k - 1)) (end - (k + 1)) (chain_with e links) j)) whole
    ∙ ap (λ l. and_then (repeated (link (level r (k - 1)) k) i)
    (λ links j. climb r l (end - (k + 1)) (chain_with e links) j)) next

pub climb_done : (r : Readers) (k end : ℕ) (e : Expr) (i : Words) → end ≤ k
    → climb r (k - 1) (end - k) e i ≡ Ok (e, i)
unfolding climb
climb_done r k end e i done = let none : end - k ≡ 0 = omega arith in ap (λ n. climb r (k - 1) n e i) none

-- ---- levels that have no operator here

no_link : (p : Parser Expr) (k : ℕ) (i : Words) → operator_at k i ≡ None → link p k i ≡ none_as i
unfolding link
no_link p k i none = if_false (sees_operator k i) _ (none_as i) (ap is_some none)

no_more : (p : Parser Expr) (k n : ℕ) (i : Words) → operator_at k i ≡ None
    → repeated_from (link p k) n [] i ≡ read_as [] i
unfolding repeated_from
no_more p k zero i none = refl
no_more p k (suc n) i none =
    bind_is (link p k i) (λ o j. repeated_by [] (repeated_from (link p k) n) o j) None i (no_link p k i none)

no_links : (p : Parser Expr) (k : ℕ) (i : Words) → operator_at k i ≡ None → repeated (link p k) i ≡ read_as [] i
no_links p k i none = no_more p k (length i) i none

stays : (r : Readers) (k n : ℕ) (e : Expr) (i : Words) → operator_at (suc k) i ≡ None
    → climb r k (suc n) e i ≡ climb r (suc k) n e i
unfolding climb
stays r k n e i none =
    bind_is (repeated (link (level r k) (suc k)) i) (λ links j. climb r (suc k) n (chain_with e links) j) [] i
    (no_links (level r k) (suc k) i none)

no_operator : (k : ℕ) (i : Words) → by_mark operator_of (mark_at i) ≡ None → operator_at k i ≡ None
unfolding operator_at
no_operator k i none = ap (of_level k) none

other_operator : (k : ℕ) (i : Words) (o : Operator) → by_mark operator_of (mark_at i) ≡ Some o → looseness o ≢ k
    → operator_at k i ≡ None
unfolding operator_at
other_operator k i o is other =
    let differs : (looseness o == k) ≡ false = grind (arith, nat_tests, other) in
    ap (of_level k) is ∙ if_false (looseness o == k) (Some o) None differs

-- where no operator stands next, all of them
pub climb_ended : (r : Readers) (k n : ℕ) (e : Expr) (i : Words) → by_mark operator_of (mark_at i) ≡ None
    → climb r k n e i ≡ Ok (e, i)
climb_ended r k zero e i none = climb_none r k e i
climb_ended r k (suc n) e i none =
    stays r k n e i (no_operator (suc k) i none) ∙ climb_ended r (suc k) n e i none

-- where an operator of another looseness does, this one
pub climb_passed : (r : Readers) (k end : ℕ) (e : Expr) (i : Words) (o : Operator)
    → by_mark operator_of (mark_at i) ≡ Some o → looseness o ≢ k → 2 ≤ k → k < end
    → climb r (k - 1) (end - k) e i ≡ climb r (k + 1 - 1) (end - (k + 1)) e i
climb_passed r k end e i o is other some below =
    let none = other_operator k i o is other in
    climb_turn r k end e i some below
    ∙ bind_is (repeated (link (level r (k - 1)) k) i)
    (λ links j. climb r (k + 1 - 1) (end - (k + 1)) (chain_with e links) j) [] i (no_links (level r (k - 1)) k i none)

pub ruleset climbing = (common_steps, level_zero, level_signed, climb_turn, climb_done, climb_ended, climb_passed)

-- ---- what is read inside one more pair of parentheses

pub paren_none : (d : ℕ) (i : Words) → d ≡ 0 → (readers d).paren i ≡ Err (Deep i)
unfolding readers
paren_none d i e = ap (λ n. (readers n).paren i) e

pub active_none : (d : ℕ) (i : Words) → d ≡ 0 → (readers d).active i ≡ deep_active i
unfolding readers
active_none d i e = ap (λ n. (readers n).active i) e

pub args_none : (d : ℕ) (i : Words) → d ≡ 0 → (readers d).args i ≡ no_args i
unfolding readers
args_none d i e = ap (λ n. (readers n).args i) e

pub paren_one : (d : ℕ) (i : Words) → 0 < d → (readers d).paren i ≡ paren_of (expr (d - 1)) i
unfolding readers
paren_one d i some = let e : d ≡ suc (d - 1) = omega arith in ap (λ n. (readers n).paren i) e

pub active_one : (d : ℕ) (i : Words) → 0 < d → (readers d).active i ≡ active_of (readers (d - 1)).args i
unfolding readers
active_one d i some = let e : d ≡ suc (d - 1) = omega arith in ap (λ n. (readers n).active i) e

pub args_one : (d : ℕ) (i : Words) → 0 < d → (readers d).args i ≡ in_parentheses (expr (d - 1)) i
unfolding readers
args_one d i some = let e : d ≡ suc (d - 1) = omega arith in ap (λ n. (readers n).args i) e

pub ruleset nesting = (common_steps, paren_none, active_none, args_none, paren_one, active_one, args_one)

-- ---- what the view makes of a chain

pub alone : (e : Expr) (links : List Link) → length links ≡ 0 → chain_with e (map link_value links) ≡ e
alone e [] none = refl
alone e (l ∷ links) none = absurd (omega (arith, none))

some : (e : Expr) (links : List Link) → 0 < length links → Chain e (links_of (map link_value links)) ≡ chain_with e (map link_value links)
some e [] more = absurd (omega (arith, more))
some e (l ∷ links) more = refl

pub chained : (first : Expression) (rest : Vec Link Global) → 0 < length rest.items
    → chain_value (roll-Chain (record { first = first; rest = rest })) ≡ chain_with (expr_value first) (map link_value rest.items)
chained first rest more = chained_value first rest ∙ some (expr_value first) rest.items more
