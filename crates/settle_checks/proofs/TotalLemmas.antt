-- How many signals went to each instance, with one flow more.
use Rattle.std.proofs.Common.{◌≡◌, ◌∙◌, ◌<◌, ◌≤◌, ◌+◌, ◌==◌, ap, arith, cond, get_or, length, refl, subst, sym, take, ℕ, Bool, true, false, List, [], Option, Some}
use Rattle.std.specs.Prelude.{unwrap_or}
use Rattle.std.specs.BTreeMap.{BTreeMap, Updates, get}
use Rattle.std.specs.Cmp.{unsigned_ties}
use Rattle.std.specs.Ordering.{nat_cmp}
use Rattle.std.proofs.lemmas.List.{take_all}
use Rattle.std.proofs.lemmas.List.Sums.{sum_by_more}
use Rattle.port_model.specs.Same.{same_pid}
use Rattle.port_model.specs.declared.values.pid.Pid.{Pid}
use Rattle.port_model.specs.declared.values.pid.Pid.TheVariants.{Env, Null, Of}
use Rattle.settle_checks.specs.Flows.{is_with}
use Rattle.settle_checks.specs.Totals.{AreTotals, IsOneMore, Table, total}
use Rattle.settle_checks.specs.declared.summing.flows.Flow.{Flow}

plus_zero : (n : ℕ) → n ≡ n + 0
plus_zero n = omega arith

same_number : (a b : ℕ) → (a == b) ≡ true → a ≡ b
same_number a b is = grind (arith, is)

-- ---- one flow

-- the total of its instance is another one
pub total_with : (number count : ℕ) (flow : Flow) (old new : BTreeMap ℕ ℕ) → flow.pass.peer ≡ Of number
    → Updates nat_cmp old new number (Some count) → count ≡ unwrap_or (get nat_cmp old number) 0 + flow.count
    → IsOneMore flow old.entries new.entries
total_with number count flow old new to updates count_is n =
    ap (λ (o : Option ℕ). unwrap_or o 0) (updates.0 n)
    ∙ ap (λ (b : Bool). unwrap_or (cond b (Some count) (get nat_cmp old n)) 0) (sym (unsigned_ties number n))
    ∙ by_test (number == n) refl
    ∙ ap (λ (p : Pid). total old.entries n + cond (same_pid p (Of n)) flow.count 0) (sym to) where
      by_test : (b : Bool) → (number == n) ≡ b
          → unwrap_or (cond b (Some count) (get nat_cmp old n)) 0 ≡ total old.entries n + cond b flow.count 0
      by_test true is = count_is ∙ ap (λ m. total old.entries m + flow.count) (same_number number n is)
      by_test false is = plus_zero (total old.entries n)

-- it went to no instance
pub total_same_null : (flow : Flow) (totals : Table) → flow.pass.peer ≡ Null → IsOneMore flow totals totals
total_same_null flow totals to number =
    plus_zero (total totals number)
    ∙ ap (λ (p : Pid). total totals number + cond (same_pid p (Of number)) flow.count 0) (sym to)

pub total_same_env : (flow : Flow) (totals : Table) → flow.pass.peer ≡ Env → IsOneMore flow totals totals
total_same_env flow totals to number =
    plus_zero (total totals number)
    ∙ ap (λ (p : Pid). total totals number + cond (same_pid p (Of number)) flow.count 0) (sym to)

-- ---- all flows

pub totals_none : (totals : BTreeMap ℕ ℕ) → totals.entries ≡ [] → AreTotals [] totals.entries
totals_none totals none n = ap (λ (t : Table). total t n) none

pub totals_more : (flows : List Flow) (i : ℕ) (d : Flow) (old new : Table) → i < length flows
    → IsOneMore (get_or flows i d) old new → AreTotals (take i flows) old → AreTotals (take (i + 1) flows) new
totals_more flows i d old new within one are number =
    one number
    ∙ ap (λ n. n + cond (is_with number (get_or flows i d).pass) (get_or flows i d).count 0) (are number)
    ∙ sym (sum_by_more (λ (f : Flow). cond (is_with number f.pass) f.count 0) flows i d within)

pub totals_all : (flows : List Flow) (i : ℕ) (totals : Table) → length flows ≤ i → AreTotals (take i flows) totals
    → AreTotals flows totals
totals_all flows i totals past are =
    subst (λ (l : List Flow). AreTotals l totals) (take_all i flows past) are
