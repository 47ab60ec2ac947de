use Rattle.std.proofs.Common.{◌≡◌, ◌≢◌, ℕ, max, true, false, List, get_or, set, sym, refl, ap, ◌∙◌, subst, ⊎_elim, arith}
use mathlib.Core.Option.{some}
use lib.ListN.{get_elem?}
use Rattle.atomic_table.specs.Table.{Me, keeps, Allows, Splits}
use Rattle.atomic_table.proofs.Lists.{at_set, at_snoc}
use Rattle.sdl_timers.specs.declared.rule.Hand.{Hand}
use Rattle.sdl_timers.specs.Clock.{hand, Fits, IsTime, Looks, Raises}

-- what each seat knows, after one seat has stepped
each_set : (F : ℕ → Hand → Type 0) (views : List Hand) (seat : ℕ) (w : Hand) → F seat w
    → ((j : ℕ) (u : Hand) → j ≢ seat → get_elem? views j ≡ some u → F j u) → (j : ℕ) (u : Hand) → get_elem? (set views seat w) j ≡ some u → F j u
each_set F views seat w mine others j u e =
    ⊎_elim (λ (x : (j ≡ seat) × (w ≡ u)). subst (λ (y : ℕ × Hand). F y.0 y.1) (λ i. (sym x.0 i, x.1 i)) mine)
    (λ (x : (j ≢ seat) × (get_elem? views j ≡ some u)). others j u x.0 x.1) (at_set views seat j w u e)

-- a reader may load the word
pub looks : (slots id : ℕ) (me : Me (Unit {0}) Hand) → me.0.ticks ≡ false → Allows IsTime slots id me 0 (λ n. n) (Looks me)
looks slots id me reads s h homes at fits =
    let n = get_or s.words 0 0 in
    let is : n ≡ h.time = ap (λ (l : List ℕ). get_or l 0 0) h.word in
    let known = h.fits id me.0 at in
    let mine : Fits h.time h.ticker id (hand false n) = record { seen = omega arith; ticks = λ e. cc } in
    let word = ap (λ (l : List ℕ). set l 0 (get_or l 0 0)) h.word in
    let all = each_set (Fits h.time h.ticker) s.views id (hand false n) mine (λ j u other e. h.fits j u e) in
    (hand false n, keeps, tt, record { time = h.time; ticker = h.ticker; word = word; fits = all }, (omega arith, refl))

-- the ticker may raise it
pub raises : (slots id to : ℕ) (me : Me (Unit {0}) Hand) → me.0.ticks ≡ true → Allows IsTime slots id me 0 (λ n. max n to) (Raises to me)
raises slots id to me ticks s h homes at fits =
    let own = (h.fits id me.0 at).ticks ticks in
    let w = hand true (max me.0.seen to) in
    let time = max h.time to in
    let mine : Fits time h.ticker id w =
    record { seen = omega arith; ticks = λ e. (own.0, ap (λ t. max t to) own.1) } in
    let others : (j : ℕ) (u : Hand) → j ≢ id → get_elem? s.views j ≡ some u → Fits time h.ticker j u = λ j u other e.
    let theirs = h.fits j u e in
    record { seen = omega arith; ticks = λ t. absurd (other ((theirs.ticks t).0 ∙ sym own.0)) } in
    let word = ap (λ (l : List ℕ). set l 0 (max (get_or l 0 0) to)) h.word in
    let all = each_set (Fits time h.ticker) s.views id w mine others in
    (w, keeps, tt, record { time = time; ticker = h.ticker; word = word; fits = all }, refl)

-- and a new reader may know what a seat knows
pub splits : (id : ℕ) (v : Hand) → Splits IsTime id v v (hand false v.seen)
splits id v s h at =
    let known = h.fits id v at in
    let new : (j : ℕ) → Fits h.time h.ticker j (hand false v.seen) =
    λ j. record { seen = known.seen; ticks = λ e. cc } in
    let all = each_set (Fits h.time h.ticker) s.views id v known (λ k t other f. h.fits k t f) in
    record {
      time = h.time;
      ticker = h.ticker;
      word = h.word;
      fits = λ j u e. ⊎_elim (all j u) (λ (x : hand false v.seen ≡ u). subst (Fits h.time h.ticker j) x (new j))
          (at_snoc (set s.views id v) (hand false v.seen) u j e);
    }
