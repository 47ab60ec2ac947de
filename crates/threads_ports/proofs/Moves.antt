-- Each step keeps the rule of the numbers.
use Rattle.std.proofs.Common.{◌≡◌, ◌≢◌, ℕ, suc, ◌+◌, ◌%◌, ◌^◌, ◌<◌, ◌≤◌, [], ◌∷◌, ◌++◌, set, sym, refl, ap, ◌∙◌, subst, ⊎_elim, arith}
use Rattle.std.specs.Prelude.{sum_by, slice_index}
use Rattle.std.proofs.Math.Nat.{mod-eq_of_lt}
use Rattle.std.proofs.lemmas.Bool.{cases_lt}
use Rattle.std.proofs.lemmas.Bool.Decides.{nat_tests}
use Rattle.std.proofs.lemmas.List.Sums.{sum_by_push, sum_by-le-sum_by}
use mathlib.Core.Option.{some}
use lib.ListN.{get_elem?}
use Rattle.atomic_table.specs.Table.{State, Me, keeps, Allows, Splits, Joins}
use Rattle.atomic_table.proofs.Lists.{at_set, at_snoc, set_here}
use Rattle.threads_ports.specs.declared.instances.rule.View.{View}
use Rattle.threads_ports.specs.Numbers.{times, one_to}
use Rattle.threads_ports.specs.Rule.{given, allowance, Fits, Kept}
use Rattle.threads_ports.specs.Steps.{Knows, Draws, Looks}
use Rattle.threads_ports.specs.Views.{view, without_part, one_part, together, spent}
use Rattle.threads_ports.proofs.Sums.{stands, sum_at, sum_set, each_set, whole_sum, times_push, times-append, one_to_past, one_to_once}

-- What a seat that has seen all draws so far knows.
knows_at : (s : State (Unit {0}) View) (h : Kept s) (seat : ℕ) (v : View) → get_elem? s.views seat ≡ some v → v.seen ≡ given h.draws → Knows v
knows_at s h seat v at now = record {
  right = let a = sum_at (λ u. u.parts) s.views seat v at in let p = h.parts in omega arith;
  most = omega arith;
  once = λ x. let a = sum_at (λ u. times x u.drawn) s.views seat v at in let o = h.once x in let p = one_to_once (given h.draws) x in omega arith;
  whole = λ all x. sym (whole_sum x s.views seat v at (λ j u e. (h.fits j u e).idle) (h.parts ∙ sym all)) ∙ h.once x
      ∙ ap (λ n. times x (one_to n)) (sym now);
}

-- the state after a step of one seat
abbrev after : State (Unit {0}) View → ℕ → View → ℕ → State (Unit {0}) View
after s seat w word = record { words = set s.words 0 word; homes = s.homes; views = set s.views seat w }

-- One seat steps, and keeps its parts.
changed : (s : State (Unit {0}) View) (h : Kept s) (seat : ℕ) (v w : View) (word draws : ℕ) → get_elem? s.views seat ≡ some v
    → word ≡ draws → h.draws ≤ draws → w.parts ≡ v.parts → w.seen ≡ given draws → v.seen ≤ w.seen → (v.parts ≡ 0 → w.drawn ≡ [])
    → draws ≤ 1000 + sum_by allowance (set s.views seat w)
    → ((x : ℕ) → times x w.drawn + times x (one_to (given h.draws)) ≡ times x v.drawn + times x (one_to (given draws)))
    → Kept (after s seat w word) × Knows w
changed s h seat v w word draws at is more same now further idle few once =
    let kept : Kept (after s seat w word) = record {
      draws = draws;
      word = ap (λ l. set l 0 word) h.word ∙ ap (λ k. k ∷ []) is;
      parts = let t = sum_set (λ u. u.parts) s.views seat v w at in let p = h.parts in omega arith;
      few = few;
      once = λ x. let t = sum_set (λ u. times x u.drawn) s.views seat v w at in let o = h.once x in let n = once x in omega arith;
      fits = each_set (Fits draws) s.views seat w record { seen = omega arith; idle = λ none. idle (sym same ∙ none) }
          (λ j u e. let f = h.fits j u e in let seen = f.seen in record { seen = omega arith; idle = f.idle });
    } in
    (kept, knows_at (after s seat w word) kept seat w (set_here s.views seat w (stands s.views seat v at).0) now)

-- the count that a step finds
found : (s : State (Unit {0}) View) (h : Kept s) → slice_index s.words 0 ≡ h.draws
found s h = ap (λ l. slice_index l 0) h.word

pub looks : (slots seat : ℕ) (me : Me (Unit {0}) View) → Allows Kept slots seat me 0 (λ n. n) (λ n w. Looks me.0 n w.0 × (w.1 ≡ me.1))
looks slots seat me s h homes at word =
    let v = me.0 in
    let n = h.draws in
    let w = view v.parts v.drawn (given n) in
    let e = found s h in
    let fits = h.fits seat v at in
    let few : n ≤ 1000 + sum_by allowance (set s.views seat w) =
    let seen = fits.seen in let t = sum_set allowance s.views seat v w at in let f = h.few in
    grind (arith, nat_tests) in
    let new = changed s h seat v w (slice_index s.words 0) n at e (omega arith) refl refl fits.seen fits.idle few
    (λ x. refl) in
    let told : Looks v n w = record { sees = refl; further = fits.seen; knows = new.1 } in
    (w, keeps, tt, new.0, (subst (λ k. Looks v k w) (sym e) told, refl))

-- A draw that gives the next number.
next_draw : (s : State (Unit {0}) View) (h : Kept s) (seat : ℕ) (v : View) (m : ℕ) → get_elem? s.views seat ≡ some v → 0 < v.parts → v.seen < 1000
    → m ≡ suc h.draws → h.draws < 1000 → (w : View) × Kept (after s seat w m) × Draws v h.draws w
next_draw s h seat v m at some_part few_seen e lt =
    let n = h.draws in
    let w = view v.parts (v.drawn ++ suc n ∷ []) (suc n) in
    let seen = (h.fits seat v at).seen in
    let now : given n ≡ n = omega arith in
    let next : given (suc n) ≡ suc n = omega arith in
    let once : (x : ℕ) → times x w.drawn + times x (one_to (given n)) ≡ times x v.drawn + times x (one_to (given (suc n))) = λ x.
    let a = times_push x (suc n) v.drawn in
    let b = times_push x (suc n) (one_to n) in
    let c = ap (λ k. times x (one_to k)) now in
    let d = ap (λ k. times x (one_to k)) next in omega arith
    in
    let kept = changed s h seat v w m (suc n) at e (omega arith) refl (sym next) (omega arith) (λ none. absurd (omega arith)) (omega arith) once in
    let unused : times (suc n) v.drawn ≡ 0 =
    let a = sum_at (λ u. times (suc n) u.drawn) s.views seat v at in
    let o = h.once (suc n) in
    let c = ap (λ k. times (suc n) (one_to k)) now in
    let p = one_to_past n (suc n) (omega arith) in omega arith
    in (
      w,
      kept.0,
      record { next = λ _. refl; new = λ _. (omega arith, unused); none = λ le. absurd (omega arith); knows = kept.1 },
    )

-- A draw that gives none.
last_draw : (s : State (Unit {0}) View) (h : Kept s) (seat : ℕ) (v : View) (m : ℕ) → get_elem? s.views seat ≡ some v → 0 < v.parts → v.seen < 1000
    → m ≡ suc h.draws → 1000 ≤ h.draws → (w : View) × Kept (after s seat w m) × Draws v h.draws w
last_draw s h seat v m at some_part few_seen e le =
    let n = h.draws in
    let w = view v.parts v.drawn 1000 in
    let now : given n ≡ 1000 = omega arith in
    let next : given (suc n) ≡ 1000 = omega arith in
    let few : suc n ≤ 1000 + sum_by allowance (set s.views seat w) =
    let t = sum_set allowance s.views seat v w at in let f = h.few in grind (arith, nat_tests) in
    let idle = (h.fits seat v at).idle in
    let once : (x : ℕ) → times x v.drawn + times x (one_to (given n)) ≡ times x v.drawn + times x (one_to (given (suc n))) =
    λ x. ap (λ k. times x v.drawn + times x (one_to k)) (now ∙ sym next)
    in
    let kept = changed s h seat v w m (suc n) at e (omega arith) refl (sym next) (omega arith) idle few once in (
      w,
      kept.0,
      record { next = λ lt. absurd (omega arith); new = λ lt. absurd (omega arith); none = λ _. refl; knows = kept.1 },
    )

pub draws : (slots seat : ℕ) (me : Me (Unit {0}) View) → 0 < me.0.parts → me.0.seen < 1000
    → Allows Kept slots seat me 0 (λ n. (n + 1) % 2 ^ 64) (λ n w. Draws me.0 n w.0 × (w.1 ≡ me.1))
draws slots seat me some_part few_seen s h homes at word =
    let v = me.0 in
    let n = h.draws in
    let e = found s h in
    let few = h.few in
    let parts = h.parts in
    let less = sum_by-le-sum_by allowance (λ v. v.parts) s.views (λ v. grind (arith, nat_tests)) in
    let m = (slice_index s.words 0 + 1) % 2 ^ 64 in
    let small : slice_index s.words 0 + 1 < 2 ^ 64 = omega arith in
    let one_more : m ≡ suc n = mod-eq_of_lt small ∙ omega arith in
    let drawn : (w : View) × Kept (after s seat w m) × Draws v n w =
    ⊎_elim (λ (lt : n < 1000). next_draw s h seat v m at some_part few_seen one_more lt)
    (λ (le : 1000 ≤ n). last_draw s h seat v m at some_part few_seen one_more le) (cases_lt n 1000)
    in
    (drawn.0, keeps, tt, drawn.1, (subst (λ k. Draws v k drawn.0) (sym e) drawn.2, refl))

pub splits : (seat : ℕ) (v : View) → 1 < v.parts → Splits Kept seat v (without_part v) (one_part v)
splits seat v two s h at =
    let w = without_part v in
    let new = one_part v in
    let seen = (h.fits seat v at).seen in
    let views = set s.views seat w in
    record {
      draws = h.draws;
      word = h.word;
      parts = let t = sum_set (λ u. u.parts) s.views seat v w at in let p = h.parts in let q = sum_by_push (λ (u : View). u.parts) views new in omega arith;
      few =
          let t = sum_set allowance s.views seat v w at in let f = h.few in let q = sum_by_push allowance views new in
          grind (arith, nat_tests);
      once = λ x.
          let t = sum_set (λ u. times x u.drawn) s.views seat v w at in
          let o = h.once x in
          let q = sum_by_push (λ (u : View). times x u.drawn) views new in omega arith;
      fits = λ j u e.
          ⊎_elim (λ (old : get_elem? views j ≡ some u). each_set (Fits h.draws) s.views seat w
          record { seen = seen; idle = λ none. absurd (omega arith) } h.fits j u old)
          (λ (is : new ≡ u). subst (Fits h.draws) is record { seen = seen; idle = λ none. refl }) (at_snoc views new u j e);
    }

pub joins : (seat : ℕ) (v : View) (other : ℕ) (u : View) → Joins Kept seat v other u (together v u) spent
joins seat v other u s h at apart there =
    let w = together v u in
    let views = set s.views seat w in
    let theirs = ⊎_elim (λ (t : (other ≡ seat) × (w ≡ u)). absurd (apart t.0)) (λ (t : (other ≢ seat) × (get_elem? s.views other ≡ some u)). t.1) (at_set s.views seat other w u there) in
    let mine = h.fits seat v at in
    let its = h.fits other u theirs in
    let a = mine.seen in
    let b = its.seen in
    let idle : w.parts ≡ 0 → w.drawn ≡ [] = λ no.
    ap (λ l. l ++ u.drawn) (mine.idle (omega arith)) ∙ its.idle (omega arith) in
    record {
      draws = h.draws;
      word = h.word;
      parts =
          let p = h.parts in
          let t = sum_set (λ x. x.parts) s.views seat v w at in
          let q = sum_set (λ x. x.parts) views other u spent there in omega arith;
      few =
          let f = h.few in
          let t = sum_set allowance s.views seat v w at in
          let q = sum_set allowance views other u spent there in grind (arith, nat_tests);
      once = λ x.
          let o = h.once x in
          let t = sum_set (λ y. times x y.drawn) s.views seat v w at in
          let q = sum_set (λ y. times x y.drawn) views other u spent there in
          let r = times-append x v.drawn u.drawn in omega arith;
      fits = each_set (Fits h.draws) views other spent record { seen = omega arith; idle = λ none. refl }
          (λ j y e. each_set (Fits h.draws) s.views seat w
          record { seen = omega arith; idle = idle } h.fits j y e);
    }
