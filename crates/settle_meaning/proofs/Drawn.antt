-- What is drawn, as events of a port: signals that are put, and expiries.
use Rattle.std.proofs.Common.{◌≡◌, ◌∙◌, ◌==◌, ◌+◌, ap, arith, cond, refl, sym, ℕ, Bool, true, false, List, [], ◌∷◌, ◌++◌, All, count_by, nat_le, ◌&&◌}
use Rattle.std.proofs.lemmas.List.Elements.{All-append, All-cons, All-nil}
use Rattle.std.proofs.lemmas.List.Sums.{sum_by-append, sum_by-cons}
use Rattle.port_model.specs.Calls.{after_draws, after_entry}
use Rattle.port_model.specs.Ends.{is_signal, is_signal_entry}
use Rattle.port_model.specs.declared.inbox.entry.Entry.{Entry}
use Rattle.port_model.specs.declared.inbox.entry.Entry.TheVariants.{Signal, Timer}
use Rattle.port_model.specs.declared.inbox.placed.Placed.{Placed}
use Rattle.port_model.specs.History.{Expire, PortEvent, Put, Reset, Set, Stop, Take}
use Rattle.port_model.specs.Port.{PortState, expire_in, put_into}
use Rattle.port_model.specs.Timers.{is_running, with_waiting}
use Rattle.port_model.specs.declared.got.Got.TheVariants as got
use Rattle.port_model.specs.declared.values.item.Item.{Item}
use Rattle.port_model.specs.declared.values.timer_key.TimerKey.{TimerKey}
use Rattle.run_semantics.specs.Goes.{drawn_as, entry_as}
use Rattle.settle_meaning.specs.Closed.{IsExpiry}
use Rattle.settle_meaning.specs.Histories.{puts_of}
use Rattle.settle_meaning.specs.MeaningLaws.{LateIsNothing, PutsComeFromOutside, StoppedStays}

-- ---- puts

pub puts_of-append : (first later : List PortEvent) → puts_of (first ++ later) ≡ puts_of first ++ puts_of later
puts_of-append [] later = refl
puts_of-append (Put item ∷ rest) later = ap (λ (items : List Item). item ∷ items) (puts_of-append rest later)
puts_of-append (Expire key arm due at ∷ rest) later = puts_of-append rest later
puts_of-append (Take classes taken ∷ rest) later = puts_of-append rest later
puts_of-append (Set key due arm ∷ rest) later = puts_of-append rest later
puts_of-append (Reset key ∷ rest) later = puts_of-append rest later
puts_of-append (Stop ∷ rest) later = puts_of-append rest later

pub puts_come_from_outside : PutsComeFromOutside
puts_come_from_outside [] = refl
puts_come_from_outside (Put item ∷ rest) = ap (λ (items : List Item). item ∷ items) (puts_come_from_outside rest)
puts_come_from_outside (Expire key arm due at ∷ rest) = puts_come_from_outside rest
puts_come_from_outside (Take classes taken ∷ rest) = puts_come_from_outside rest
puts_come_from_outside (Set key due arm ∷ rest) = puts_come_from_outside rest
puts_come_from_outside (Reset key ∷ rest) = puts_come_from_outside rest
puts_come_from_outside (Stop ∷ rest) = puts_come_from_outside rest

-- ---- no signal is drawn

fuse_puts : (own : Bool) (key : TimerKey) (arm due at : ℕ) → puts_of (cond own (Expire key arm due at ∷ []) []) ≡ []
fuse_puts true key arm due at = refl
fuse_puts false key arm due at = refl

-- the entry is an expiry, and so are the rest
none_first : (pid at : ℕ) (entry : Entry) (rest : ℕ) → cond (is_signal_entry entry) 1 0 + rest ≡ 0
    → (puts_of (entry_as pid at entry) ≡ []) × (rest ≡ 0)
none_first pid at (Signal item) rest none = let wrong : ⊥ = omega (arith, none) in absurd wrong
none_first pid at (Timer fuse) rest none =
    (fuse_puts (fuse.pid == pid) fuse.key fuse.arm fuse.due at, omega (arith, none))

none_drawn : (pid : ℕ) (news : List Placed) → count_by is_signal news ≡ 0 → puts_of (drawn_as pid news) ≡ []
none_drawn pid [] none = refl
none_drawn pid (placed ∷ more) none =
    let parts = none_first pid placed.at placed.entry (count_by is_signal more)
    (sym (sum_by-cons (λ (p : Placed). cond (is_signal p) 1 0) placed more) ∙ none) in
    puts_of-append (entry_as pid placed.at placed.entry) (drawn_as pid more)
    ∙ ap (λ (items : List Item). items ++ puts_of (drawn_as pid more)) parts.0
    ∙ none_drawn pid more parts.1

pub late_is_nothing : LateIsNothing
late_is_nothing pid drawn news same =
    let split : count_by is_signal (drawn ++ news) ≡ count_by is_signal drawn + count_by is_signal news =
    sum_by-append (λ (p : Placed). cond (is_signal p) 1 0) drawn news in
    none_drawn pid news (omega (arith, split, same))

-- ---- without signals, expiries are drawn

fuse_expires : (own : Bool) (key : TimerKey) (arm due at : ℕ)
    → All IsExpiry (cond own (Expire key arm due at ∷ []) [])
fuse_expires true key arm due at = All-cons IsExpiry (Expire key arm due at) [] tt (All-nil IsExpiry)
fuse_expires false key arm due at = All-nil IsExpiry

entry_expires : (pid at : ℕ) (entry : Entry) (rest : List Item) → puts_of (entry_as pid at entry) ++ rest ≡ []
    → All IsExpiry (entry_as pid at entry) × (rest ≡ [])
entry_expires pid at (Signal item) rest none = let wrong : ⊥ = cc in absurd wrong
entry_expires pid at (Timer fuse) rest none = (
  fuse_expires (fuse.pid == pid) fuse.key fuse.arm fuse.due at,
  ap (λ (items : List Item). items ++ rest) (sym (fuse_puts (fuse.pid == pid) fuse.key fuse.arm fuse.due at)) ∙ none,
)

pub drawn_expiries : (pid : ℕ) (news : List Placed) → puts_of (drawn_as pid news) ≡ []
    → All IsExpiry (drawn_as pid news)
drawn_expiries pid [] none = All-nil IsExpiry
drawn_expiries pid (placed ∷ more) none =
    let parts = entry_expires pid placed.at placed.entry (puts_of (drawn_as pid more))
    (sym (puts_of-append (entry_as pid placed.at placed.entry) (drawn_as pid more)) ∙ none) in
    All-append IsExpiry (entry_as pid placed.at placed.entry) (drawn_as pid more) parts.0
    (drawn_expiries pid more parts.1)

-- ---- a stopped port

module _ (pid at : ℕ) (port : PortState) (stopped : port.alive ≡ false) (none : port.timers ≡ []) where
  put_stays : (item : Item) → put_into port item ≡ port
  put_stays item = ap (λ b. cond b (record port { waiting = port.waiting ++ got.Signal item ∷ [] }) port) stopped

  expire_stays : (key : TimerKey) (arm due : ℕ) → expire_in port key arm due at ≡ port
  expire_stays key arm due =
      ap (λ b. cond (nat_le due at && b) (record port {
        waiting = port.waiting ++ got.Timer key ∷ [];
        timers = with_waiting key arm port.timers;
      }) port) (ap (λ timers. is_running key arm due timers) none)
      ∙ never (nat_le due at) (record port {
        waiting = port.waiting ++ got.Timer key ∷ [];
        timers = with_waiting key arm port.timers;
      }) where
        never : (b : Bool) (other : PortState) → cond (b && false) other port ≡ port
        never true other = refl
        never false other = refl

  fuse_stays : (own : Bool) (key : TimerKey) (arm due : ℕ) → cond own (expire_in port key arm due at) port ≡ port
  fuse_stays true key arm due = expire_stays key arm due
  fuse_stays false key arm due = refl

  entry_stays : (entry : Entry) → after_entry pid port at entry ≡ port
  entry_stays (Signal item) = put_stays item
  entry_stays (Timer fuse) = fuse_stays (fuse.pid == pid) fuse.key fuse.arm fuse.due

pub stopped_stays : StoppedStays
stopped_stays pid port [] stopped none = refl
stopped_stays pid port (placed ∷ more) stopped none =
    ap (λ (p : PortState). after_draws pid p more) (entry_stays pid placed.at port stopped none placed.entry)
    ∙ stopped_stays pid port more stopped none
