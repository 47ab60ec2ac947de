-- One signal more is counted.
use Rattle.std.proofs.Common.{◌≡◌, ◌∙◌, ◌<◌, ◌≤◌, ◌+◌, ap, arith, cond, get_or, length, refl, set, subst, sym, take, ℕ, Bool, true, false, List, [], ◌∷◌, ◌++◌, count_by}
use Rattle.std.specs.List.{sum_by}
use Rattle.std.proofs.lemmas.List.{take_all, take_more}
use Rattle.std.proofs.lemmas.List.Sums.{sum_by-set, sum_by_push}
use Rattle.settle_checks.specs.Flows.{AreFlows, IsPlaceOf, counted}
use Rattle.settle_checks.specs.declared.summing.flows.Flow.{Flow}
use Rattle.settle_checks.specs.declared.summing.flows.Pass.{Pass}

-- what a flow counts for a test
weight : (Pass → Bool) → Flow → ℕ
weight P flow = cond (P flow.pass) flow.count 0

module _ (passes : List Pass) (pass : Pass) (P : Pass → Bool) where
  count_more : count_by P (passes ++ pass ∷ []) ≡ count_by P passes + cond (P pass) 1 0
  count_more = sum_by_push (λ (p : Pass). cond (P p) 1 0) passes pass

  -- a flow begins
  begun_for : (old : List Flow) → counted P old ≡ count_by P passes
      → counted P (old ++ record { pass = pass; count = 1 } ∷ []) ≡ count_by P (passes ++ pass ∷ [])
  begun_for old are =
      sum_by_push (λ (f : Flow). cond (P f.pass) f.count 0) old (record { pass = pass; count = 1 })
      ∙ ap (λ n. n + cond (P pass) 1 0) are ∙ sym count_more

  -- a flow has one more
  more_by : (b : Bool) (count all before after : ℕ) → all + cond b count 0 ≡ before + cond b (count + 1) 0
      → after ≡ before + cond b 1 0 → all ≡ after
  more_by true count all before after all_is after_is = omega (arith, all_is, after_is)
  more_by false count all before after all_is after_is = omega (arith, all_is, after_is)

  one_for : (old : List Flow) (place count : ℕ) (d : Flow) → place < length old → (get_or old place d).pass ≡ pass
      → count ≡ (get_or old place d).count + 1 → counted P old ≡ count_by P passes
      → counted P (set old place (record { pass = pass; count = count })) ≡ count_by P (passes ++ pass ∷ [])
  one_for old place count d within same one are =
      let f : Flow → ℕ = λ (flow : Flow). cond (P flow.pass) flow.count 0 in
      let new : Flow = record { pass = pass; count = count } in
      let was : f (get_or old place d) ≡ cond (P pass) (get_or old place d).count 0 =
      ap (λ p. cond (P p) (get_or old place d).count 0) same in
      let sums : sum_by f (set old place new) + f (get_or old place d) ≡ sum_by f old + f new =
      sum_by-set f old place new d within in
      more_by (P pass) (get_or old place d).count (counted P (set old place new)) (count_by P passes)
      (count_by P (passes ++ pass ∷ []))
      (ap (λ n. counted P (set old place new) + n) (sym was) ∙ sums
      ∙ ap (λ n. n + f new) are ∙ ap (λ n. count_by P passes + cond (P pass) n 0) one)
      count_more

pub flows_begun : (passes : List Pass) (pass : Pass) (old new : List Flow)
    → new ≡ old ++ record { pass = pass; count = 1 } ∷ [] → AreFlows passes old
    → AreFlows (passes ++ pass ∷ []) new
flows_begun passes pass old new is are P = ap (counted P) is ∙ begun_for passes pass P old (are P)

pub flows_more : (passes : List Pass) (pass : Pass) (old new : List Flow) (place count : ℕ) (d : Flow)
    → IsPlaceOf old pass place → count ≡ (get_or old place d).count + 1
    → new ≡ set old place (record { pass = pass; count = count }) → AreFlows passes old
    → AreFlows (passes ++ pass ∷ []) new
flows_more passes pass old new place count d at one is are P =
    ap (counted P) is ∙ one_for passes pass P old place count d at.within (at.same d) one (are P)

-- no signal passes
pub flows_same : (passes more : List Pass) (flows : List Flow) → more ≡ [] → AreFlows passes flows
    → AreFlows (passes ++ more) flows
flows_same passes more flows none are =
    subst (λ l. AreFlows (passes ++ l) flows) (sym none) (subst (λ l. AreFlows l flows) (nothing passes) are) where
      nothing : (xs : List Pass) → xs ≡ xs ++ []
      nothing [] = refl
      nothing (x ∷ xs) = ap (λ l. x ∷ l) (nothing xs)

-- ---- a list of signals

pub flows_next : (passes : List Pass) (i : ℕ) (d : Pass) (flows : List Flow) → i < length passes
    → AreFlows (take i passes ++ get_or passes i d ∷ []) flows → AreFlows (take (i + 1) passes) flows
flows_next passes i d flows within are =
    subst (λ (l : List Pass). AreFlows l flows) (sym (take_more passes i d within)) are

pub flows_all : (passes : List Pass) (i : ℕ) (flows : List Flow) → length passes ≤ i
    → AreFlows (take i passes) flows → AreFlows passes flows
flows_all passes i flows past are = subst (λ (l : List Pass). AreFlows l flows) (take_all i passes past) are
