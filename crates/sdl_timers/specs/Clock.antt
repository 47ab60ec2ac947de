-- The rule of the clock's word, and what its steps tell.
use Rattle.std.specs.Prelude.{◌≡◌, ℕ, ◌≤◌, max, Bool, true, false, [], ◌∷◌}
use mathlib.Core.Option.{some}
use lib.ListN.{get_elem?}
use Rattle.atomic_table.specs.Table.{State, Me}
use Rattle.atomic_table.specs.Seated.{TableId}
use Rattle.atomic_table.specs.declared.shared.Seat.{Seat}
use Rattle.sdl_timers.specs.declared.rule.Hand.{Hand}

abbrev pub hand : Bool → ℕ → Hand
hand ticks seen = record { ticks = ticks; seen = seen }

-- what a seat knows is so: it has seen no time that is still to come, and the ticker, of which there is one, has seen the time
pub record Fits (time ticker seat : ℕ) (v : Hand) : Type 0 where
  pub seen : v.seen ≤ time
  pub ticks : v.ticks ≡ true → (seat ≡ ticker) × (v.seen ≡ time)

-- The rule of a clock: its one word is the time, and what each seat knows is so.
pub record IsTime (s : State (Unit {0}) Hand) : Type 0 where
  pub time : ℕ
  pub ticker : ℕ
  pub word : s.words ≡ time ∷ []
  pub fits : (seat : ℕ) (v : Hand) → get_elem? s.views seat ≡ some v → Fits time ticker seat v

-- a load: the time is not before what the reader had seen, and the reader has seen it
abbrev pub Looks : Me (Unit {0}) Hand → ℕ → Me (Unit {0}) Hand → Type 0
Looks v n w = (v.0.seen ≤ n) × (w ≡ (hand false n, v.1))

-- a maximum: the time is the greater one from then on
abbrev pub Raises : ℕ → Me (Unit {0}) Hand → ℕ → Me (Unit {0}) Hand → Type 0
Raises to v n w = w ≡ (hand true (max v.0.seen to), v.1)

-- a seat of this table, which has one word and no slot
pub record IsSeated (word : TableId) (seat : Seat (Unit {0}) Hand) : Type 0 where
  pub same : seat.table_id ≡ word
  pub words : word.words ≡ 1
  pub slots : word.slots ≡ 0
  pub empty : seat.me.1 ≡ []
