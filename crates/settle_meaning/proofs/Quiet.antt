-- Draws after which no more waits change nothing.
use Rattle.std.proofs.Common.{◌≡◌, ◌∙◌, ◌⊎◌, ◌==◌, ◌≤◌, ◌+◌, ap, arith, cond, inl, inr, length, refl, subst, sym, ⊎_elim, ℕ, Bool, true, false, List, [], ◌∷◌, ◌++◌}
use Rattle.std.proofs.lemmas.List.{length_push}
use Rattle.port_model.specs.Calls.{after_draws, after_entry}
use Rattle.port_model.specs.declared.inbox.entry.Entry.{Entry}
use Rattle.port_model.specs.declared.inbox.entry.Entry.TheVariants.{Signal, Timer}
use Rattle.port_model.specs.declared.inbox.entry.Fuse.{Fuse}
use Rattle.port_model.specs.declared.inbox.placed.Placed.{Placed}
use Rattle.port_model.specs.History.{Expire}
use Rattle.port_model.specs.Port.{PortState, expire_in, expires}
use Rattle.port_model.specs.Timers.{with_waiting}
use Rattle.port_model.specs.declared.got.Got.TheVariants as got
use Rattle.port_model.specs.declared.values.item.Item.{Item}
use Rattle.run_semantics.specs.Goes.{drawn_as, entry_as}
use Rattle.settle_meaning.proofs.Drawn.{puts_of-append}
use Rattle.settle_meaning.specs.Histories.{puts_of}
use Rattle.settle_meaning.specs.MeaningLaws.{QuietDrawsChangeNothing}

-- one entry more waits, and the port lives as before
record Grows (port next : PortState) : Type 0 where
  alive : next.alive ≡ port.alive
  more : length next.waiting ≡ length port.waiting + 1

-- or the port is the same, and no signal was put
record Stays (pid at : ℕ) (entry : Entry) (port next : PortState) : Type 0 where
  same : next ≡ port
  none : puts_of (entry_as pid at entry) ≡ []

-- ---- one draw

module _ (pid at : ℕ) (port : PortState) where
  put_grows : (item : Item) → port.alive ≡ true → Grows port (after_entry pid port at (Signal item))
  put_grows item lives =
      let next : PortState = record port { waiting = port.waiting ++ got.Signal item ∷ [] } in
      let is : after_entry pid port at (Signal item) ≡ next = ap (λ b. cond b next port) lives in
      record {
        alive = ap (λ (p : PortState). p.alive) is;
        more = ap (λ (p : PortState). length p.waiting) is ∙ length_push port.waiting (got.Signal item);
      }

  module _ (fuse : Fuse) where
    abbrev expired : PortState
    expired = record port {
      waiting = port.waiting ++ got.Timer fuse.key ∷ [];
      timers = with_waiting fuse.key fuse.arm port.timers;
    }

    abbrev Drawn : PortState → Type 0
    Drawn next = Grows port next ⊎ Stays pid at (Timer fuse) port next

    expiry_puts : (own : Bool)
        → puts_of (cond own (Expire fuse.key fuse.arm fuse.due at ∷ []) []) ≡ []
    expiry_puts true = refl
    expiry_puts false = refl

    -- its own timer: it expires, or nothing changes
    by_time : (now : Bool) → Drawn (cond now expired port)
    by_time true = inl (record { alive = refl; more = length_push port.waiting (got.Timer fuse.key) })
    by_time false = inr (record { same = refl; none = expiry_puts (fuse.pid == pid) })

    by_owner : (own : Bool) → Drawn (cond own (expire_in port fuse.key fuse.arm fuse.due at) port)
    by_owner true = by_time (expires port fuse.key fuse.arm fuse.due at)
    by_owner false = inr (record { same = refl; none = expiry_puts (fuse.pid == pid) })

  one_drawn : (entry : Entry) → port.alive ≡ true
      → Grows port (after_entry pid port at entry) ⊎ Stays pid at entry port (after_entry pid port at entry)
  one_drawn (Signal item) lives = inl (put_grows item lives)
  one_drawn (Timer fuse) lives = by_owner fuse (fuse.pid == pid)

-- ---- all draws

-- no fewer wait after them
no_fewer : (pid : ℕ) (port : PortState) (news : List Placed) → port.alive ≡ true
    → length port.waiting ≤ length (after_draws pid port news).waiting
no_fewer pid port [] lives = omega arith
no_fewer pid port (placed ∷ more) lives =
    let next : PortState = after_entry pid port placed.at placed.entry in
    ⊎_elim
    (λ (grows : Grows port next).
    let rest : length next.waiting ≤ length (after_draws pid next more).waiting =
    no_fewer pid next more (grows.alive ∙ lives) in
    omega (arith, rest, grows.more))
    (λ (stays : Stays pid placed.at placed.entry port next).
    subst (λ (p : PortState). length port.waiting ≤ length (after_draws pid p more).waiting) (sym stays.same)
    (no_fewer pid port more lives))
    (one_drawn pid placed.at port placed.entry lives)

pub quiet_draws_change_nothing : QuietDrawsChangeNothing
quiet_draws_change_nothing pid port [] lives same = (refl, refl)
quiet_draws_change_nothing pid port (placed ∷ more) lives same =
    let next : PortState = after_entry pid port placed.at placed.entry in
    ⊎_elim
    (λ (grows : Grows port next).
    let rest : length next.waiting ≤ length (after_draws pid next more).waiting =
    no_fewer pid next more (grows.alive ∙ lives) in
    let wrong : ⊥ = omega (arith, rest, grows.more, same) in absurd wrong)
    (λ (stays : Stays pid placed.at placed.entry port next).
    let after : after_draws pid next more ≡ after_draws pid port more =
    ap (λ (p : PortState). after_draws pid p more) stays.same in
    let rest = quiet_draws_change_nothing pid port more lives
    (ap (λ (p : PortState). length p.waiting) (sym after) ∙ same) in (
      after ∙ rest.0,
      puts_of-append (entry_as pid placed.at placed.entry) (drawn_as pid more)
          ∙ ap (λ (items : List Item). items ++ puts_of (drawn_as pid more)) stays.none
          ∙ rest.1,
    ))
    (one_drawn pid placed.at port placed.entry lives)
