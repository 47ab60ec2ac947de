-- The events of a port, by what its owner has drawn.
use Rattle.std.proofs.Common.{◌≡◌, ◌≤◌, ◌==◌, ap, cond, refl, ℕ, Bool, true, false, List, [], ◌∷◌, ◌++◌, All}
use Rattle.std.proofs.lemmas.List.Elements.{All-append, All-cons, All-head, All-nil, All-tail}
use Rattle.input_port.specs.Counts.{signal_before, signals_in}
use Rattle.port_model.specs.Put.{IsDueBy, IsTimely}
use Rattle.port_model.specs.declared.inbox.entry.Entry.{Entry}
use Rattle.port_model.specs.declared.inbox.entry.Entry.TheVariants.{Signal, Timer}
use Rattle.port_model.specs.declared.inbox.placed.Placed.{Placed}
use Rattle.port_model.specs.History.{Expire, PortEvent, Put, Reset, Set, Stop, Take}
use Rattle.port_model.specs.declared.values.item.Item.{Item}
use Rattle.port_model.specs.declared.values.timer_key.TimerKey.{TimerKey}
use Rattle.run_semantics.specs.Goes.{drawn_as, entry_as}
use Rattle.run_semantics.specs.Runs.{outside_of}
use Rattle.settle_meaning.specs.Histories.{IsInTime, puts_of}

-- ---- puts

module _ (rest : List PortEvent) (items : List Item) (same : puts_of rest ≡ items) where
  fuse_puts : (own : Bool) (key : TimerKey) (arm due at : ℕ)
      → puts_of (cond own (Expire key arm due at ∷ []) [] ++ rest) ≡ items
  fuse_puts true key arm due at = same
  fuse_puts false key arm due at = same

  entry_puts : (pid at : ℕ) (entry : Entry) → puts_of (entry_as pid at entry ++ rest) ≡ signal_before entry items
  entry_puts pid at (Signal item) = ap (λ (l : List Item). item ∷ l) same
  entry_puts pid at (Timer fuse) = fuse_puts (fuse.pid == pid) fuse.key fuse.arm fuse.due at

-- the signals that are put are those that were drawn
pub drawn_puts : (pid : ℕ) (drawn : List Placed) → puts_of (drawn_as pid drawn) ≡ signals_in drawn
drawn_puts pid [] = refl
drawn_puts pid (placed ∷ more) =
    entry_puts (drawn_as pid more) (signals_in more) (drawn_puts pid more) pid placed.at placed.entry

-- ---- expiries

fuse_in_time : (own : Bool) (key : TimerKey) (arm due at : ℕ) → due ≤ at
    → All IsInTime (cond own (Expire key arm due at ∷ []) [])
fuse_in_time true key arm due at in_time = All-cons IsInTime (Expire key arm due at) [] in_time (All-nil IsInTime)
fuse_in_time false key arm due at in_time = All-nil IsInTime

entry_in_time : (pid at : ℕ) (entry : Entry) → IsDueBy at entry → All IsInTime (entry_as pid at entry)
entry_in_time pid at (Signal item) due = All-cons IsInTime (Put item) [] tt (All-nil IsInTime)
entry_in_time pid at (Timer fuse) due = fuse_in_time (fuse.pid == pid) fuse.key fuse.arm fuse.due at due

-- what is drawn in time is in time
pub drawn_in_time : (pid : ℕ) (drawn : List Placed) → All IsTimely drawn → All IsInTime (drawn_as pid drawn)
drawn_in_time pid [] timely = All-nil IsInTime
drawn_in_time pid (placed ∷ more) timely =
    All-append IsInTime (entry_as pid placed.at placed.entry) (drawn_as pid more)
    (entry_in_time pid placed.at placed.entry (All-head IsTimely placed more timely))
    (drawn_in_time pid more (All-tail IsTimely placed more timely))

-- an owner's calls are no expiries
pub history_in_time : (history : List PortEvent) → All IsInTime (outside_of history) → All IsInTime history
history_in_time [] all = All-nil IsInTime
history_in_time (Put item ∷ rest) all =
    All-cons IsInTime (Put item) rest tt (history_in_time rest (All-tail IsInTime (Put item) (outside_of rest) all))
history_in_time (Expire key arm due at ∷ rest) all =
    All-cons IsInTime (Expire key arm due at) rest
    (All-head IsInTime (Expire key arm due at) (outside_of rest) all)
    (history_in_time rest (All-tail IsInTime (Expire key arm due at) (outside_of rest) all))
history_in_time (Take classes taken ∷ rest) all =
    All-cons IsInTime (Take classes taken) rest tt (history_in_time rest all)
history_in_time (Set key due arm ∷ rest) all = All-cons IsInTime (Set key due arm) rest tt (history_in_time rest all)
history_in_time (Reset key ∷ rest) all = All-cons IsInTime (Reset key) rest tt (history_in_time rest all)
history_in_time (Stop ∷ rest) all = All-cons IsInTime Stop rest tt (history_in_time rest all)
