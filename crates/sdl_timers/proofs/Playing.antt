use Rattle.std.proofs.Common.{◌≡◌, ◌≢◌, ◌⊎◌, ℕ, zero, suc, ◌+◌, ◌-◌, ◌*◌, ◌/◌, ◌%◌, ◌<◌, ◌≤◌, List, Option, None, length, replicate, drop, set, refl, sym, ap, ◌∙◌, inl, inr, ⊎_elim, length-set, get_or-set_other, get_or-set_same, arith}
use Rattle.std.proofs.lemmas.List.{drop-set-add, drop-set-lt, get_or-drop, get_or-replicate, length-replicate}
use Rattle.std.proofs.lemmas.Bool.{cases_eq, cases_lt}
use Rattle.sdl_timers.specs.declared.due.Due.{Due}
use Rattle.sdl_timers.specs.DueOrder.{earlier, IsUpTo}
use Rattle.sdl_timers.specs.Tournament.{node_at, IsWon, IsPlayed, IsLeastOf}
use Rattle.sdl_timers.proofs.Orders.{up_to_itself, up_to_along, earlier_left, earlier_right, earlier_one}

-- a number is twice its half, or one more
halves : (n : ℕ) → (2 * (n / 2) ≡ n) ⊎ (2 * (n / 2) + 1 ≡ n)
halves n = ⊎_elim (λ (e : n % 2 ≡ 0). inl (omega arith)) (λ (odd : n % 2 ≢ 0). inr (omega arith)) (cases_eq (n % 2) 0)

-- the root is no later than any node
root_first : (nodes : List (Option Due)) → IsPlayed nodes → (most node : ℕ) → node ≤ most → 1 ≤ node → node < 512 → IsUpTo (node_at nodes 1) (node_at nodes node)
root_first nodes played zero node m h b = absurd (omega arith)
root_first nodes played (suc most) node m h b =
    let upper : ℕ = node / 2 in
    let at : ℕ → Option Due = λ k. node_at nodes k in
    ⊎_elim (λ (e : node ≡ 1). rw e (up_to_itself (at 1))) (λ (below : node ≢ 1).
    let first = root_first nodes played most upper (omega arith) (omega arith) (omega arith) in
    let won : IsWon nodes upper = played.won upper (omega arith) (omega arith) in
    let above : IsUpTo (at upper) (at node) =
    ⊎_elim (λ (e : 2 * upper ≡ node). rw e at (rw (← won) at (earlier_left (at (2 * upper)) (at (2 * upper + 1)))))
    (λ (e : 2 * upper + 1 ≡ node). rw e at (rw (← won) at (earlier_right (at (2 * upper)) (at (2 * upper + 1)))))
    (halves node) in
    up_to_along (at 1) (at upper) (at node) first above) (cases_eq node 1)

-- each node has what some leaf has
abbrev IsLeaf : List (Option Due) → Option Due → Type 0
IsLeaf nodes due = (leaf : ℕ) × (256 ≤ leaf) × (leaf < 512) × (node_at nodes leaf ≡ due)

a_leaf : (nodes : List (Option Due)) → IsPlayed nodes → (more node : ℕ) → 512 ≤ node + more → 1 ≤ node → node < 512 → IsLeaf nodes (node_at nodes node)
a_leaf nodes played zero node m h b = absurd (omega arith)
a_leaf nodes played (suc more) node m h b =
    let at : ℕ → Option Due = λ k. node_at nodes k in
    ⊎_elim (λ (inner : node < 256).
    let won : IsWon nodes node = played.won node h inner in
    ⊎_elim (λ (e : earlier (at (2 * node)) (at (2 * node + 1)) ≡ at (2 * node)). rw (won, e)
    (a_leaf nodes played more (2 * node) (omega arith) (omega arith) (omega arith)))
    (λ (e : earlier (at (2 * node)) (at (2 * node + 1)) ≡ at (2 * node + 1)). rw (won, e)
    (a_leaf nodes played more (2 * node + 1) (omega arith) (omega arith) (omega arith)))
    (earlier_one (at (2 * node)) (at (2 * node + 1)))) (λ (leaf : 256 ≤ node). (node, leaf, b, refl)) (cases_lt node 256)

-- so the root has the least of the entrants
pub root_least : (nodes : List (Option Due)) → IsPlayed nodes → IsLeastOf (drop 256 nodes) (node_at nodes 1)
root_least nodes played =
    let leaf = a_leaf nodes played 511 1 (omega arith) (omega arith) (omega arith) in
    let place : ℕ = leaf.0 - 256 in
    let back : 256 + place ≡ leaf.0 = let from = leaf.1 in omega arith in
    record {
      entrant = place;
      below = let top = leaf.2 in omega arith;
      among = get_or-drop 256 nodes place None ∙ ap (λ (k : ℕ). node_at nodes k) back ∙ leaf.3;
      first = λ other b. rw (get_or-drop 256 nodes other None)
          (root_first nodes played 511 (256 + other) (omega arith) (omega arith) (omega arith));
    }

-- On the way from a changed leaf to the root: each inner node is won but for the one above `node`. The leaves are these entrants.
pub record IsPlaying (nodes : List (Option Due)) (node : ℕ) (entrants : List (Option Due)) : Type 0 where
  pub from : 1 ≤ node
  pub below : node < 512
  pub long : length nodes ≡ 512
  pub others : (j : ℕ) → 1 ≤ j → j < 256 → j ≢ node / 2 → IsWon nodes j
  pub leaves : drop 256 nodes ≡ entrants

-- a node that isn't below j has no part in what j has won
still_won : (nodes : List (Option Due)) (node j : ℕ) (due : Option Due) → 1 ≤ j → j ≢ node → j ≢ node / 2 → IsWon nodes j → IsWon (set nodes node due) j
still_won nodes node j due h here above won =
    let left : 2 * j ≢ node = λ e. above (omega arith) in
    let right : 2 * j + 1 ≢ node = λ e. above (omega arith) in
    get_or-set_other nodes node j due None here ∙ won
    ∙ ap (λ (d : Option Due). earlier d (node_at nodes (2 * j + 1))) (sym (get_or-set_other nodes node (2 * j) due None left))
    ∙ ap (λ (d : Option Due). earlier (node_at (set nodes node due) (2 * j)) d) (sym (get_or-set_other nodes node (2 * j + 1) due None right))

pub begins : (nodes : List (Option Due)) (entrant n : ℕ) (due : Option Due) → n ≡ entrant → entrant < 256 → IsPlayed nodes
    → IsPlaying (set nodes (256 + n) due) (256 + n) (set (drop 256 nodes) entrant due)
begins nodes entrant n due e b played =
    let long = played.long in
    record {
      from = omega arith;
      below = omega arith;
      long = length-set nodes (256 + n) due ∙ long;
      others = λ j one top other. still_won nodes (256 + n) j due one (λ q. omega arith) other (played.won j one top);
      leaves = drop-set-add 256 nodes n due ∙ ap (λ (k : ℕ). set (drop 256 nodes) k due) e;
    }

pub plays : (nodes : List (Option Due)) (node : ℕ) (entrants : List (Option Due)) (due : Option Due) → IsPlaying nodes node entrants → 1 < node
    → due ≡ earlier (node_at nodes (2 * (node / 2))) (node_at nodes (2 * (node / 2) + 1)) → IsPlaying (set nodes (node / 2) due) (node / 2) entrants
plays nodes node entrants due p h e =
    let upper : ℕ = node / 2 in
    let from = p.from in
    let below = p.below in
    let long = p.long in
    record {
      from = omega arith;
      below = omega arith;
      long = length-set nodes upper due ∙ long;
      others = λ j one top other.
          ⊎_elim (λ (here : j ≡ upper).
          let same = get_or-set_same nodes upper due None (omega arith) in
          let left = get_or-set_other nodes upper (2 * j) due None (λ q. omega arith) in
          let right = get_or-set_other nodes upper (2 * j + 1) due None (λ q. omega arith) in
          rw (left, right, here) (same ∙ e))
          (λ (there : j ≢ upper). still_won nodes upper j due one there other (p.others j one top there))
          (cases_eq j upper);
      leaves = drop-set-lt 256 nodes upper due (omega arith) ∙ p.leaves;
    }

pub ends : (nodes : List (Option Due)) (node : ℕ) (entrants : List (Option Due)) → IsPlaying nodes node entrants → node ≤ 1 → IsPlayed nodes
ends nodes node entrants p h = record { long = p.long; won = λ j one top. p.others j one top (λ (e : j ≡ node / 2). omega arith) }

pub unplayed : IsPlayed (replicate 512 None)
unplayed =
    let none : (k : ℕ) → k < 512 → node_at (replicate 512 None) k ≡ None = λ k b. get_or-replicate 512 k None None b in
    record {
      long = length-replicate {A = Option Due} 512 None;
      won = λ j one top. none j (omega arith)
          ∙ ap (λ (d : Option Due). earlier d None) (sym (none (2 * j) (omega arith)))
          ∙ ap (λ (d : Option Due). earlier (node_at (replicate 512 None) (2 * j)) d) (sym (none (2 * j + 1) (omega arith)));
    }
