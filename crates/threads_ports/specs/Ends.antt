-- What callers see of a table of numbers and of a seat.
use Rattle.std.specs.Prelude.{◌≡◌, ℕ, ◌<◌, List, []}
use Rattle.atomic_table.specs.Table.{Me}
use Rattle.atomic_table.specs.Seated.{TableId}
use Rattle.threads_ports.specs.declared.instances.rule.View.{View}
use Rattle.threads_ports.specs.Steps.{Knows}

-- what a caller sees of the table: which one it is
pub record TableState : Type 0 where
  pub id : TableId

-- What a caller sees of a seat: which table it is of; how many of the 64 parts of the right to draw it has; how many seats it
-- can still split off; the numbers that it has drawn; and how many numbers it has seen drawn, by whatever seat.
pub record SeatState : Type 0 where
  pub table : TableId
  pub parts : ℕ
  pub left : ℕ
  pub drawn : List ℕ
  pub seen : ℕ

-- what a caller sees of the seat that knows this
abbrev pub seat_of : TableId → Me (Unit {0}) View → ℕ → SeatState
seat_of id me left = record { table = id; parts = me.0.parts; left = left; drawn = me.0.drawn; seen = me.0.seen }

-- the table has one word, which counts the draws, and no slot
pub record IsTable (id : TableId) : Type 0 where
  pub words : id.words ≡ 1
  pub slots : id.slots ≡ 0

-- a seat's fields say what it knows, and it keeps a part for itself
pub record IsSeat (id : TableId) (me : Me (Unit {0}) View) (left seen : ℕ) : Type 0 where
  pub table : IsTable id
  pub empty : me.1 ≡ []
  pub parts : left < me.0.parts
  pub seen_is : me.0.seen ≡ seen
  pub knows : Knows me.0
