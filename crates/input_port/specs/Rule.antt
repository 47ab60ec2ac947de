-- The rule of a port, which holds at every moment of every schedule.
use Rattle.std.specs.Prelude.{◌≡◌, ℕ, suc, ◌<◌, ◌≤◌, true, List, ◌++◌, length, map, All}
use mathlib.Core.Option.{some}
use lib.ListN.{get_elem?}
use Rattle.port_model.specs.declared.inbox.placed.Placed.{Placed}
use Rattle.port_model.specs.declared.inbox.placed.Gone.{Gone}
use Rattle.input_port.specs.declared.queue.rule.View.{View}
use Rattle.port_model.specs.Put.{StartsWith, of, one_to, Apart, IsTimely}

-- What the rule keeps of a port: its put list, what of it is drawn, how many numbers the desk has given out, which pass has
-- which number (`seat n` is one more than the pass that puts under n, and 0 where none does), and which passes are the desk's
-- and the owner's.
pub record Book : Type 0 where
  pub puts : List Placed
  pub drawn : List Placed
  pub given : ℕ
  pub seat : ℕ → ℕ
  pub desk : ℕ
  pub owner : ℕ

-- the one pass that gives out numbers knows how many it has given
pub record FitsDesk (b : Book) (pass : ℕ) (v : View) : Type 0 where
  pub only : pass ≡ b.desk
  pub given : v.number ≡ b.given

-- A sender has a number of its own that the desk gave out. What it has seen begins the put list, and has all that it has put.
pub record FitsSender (b : Book) (pass : ℕ) (v : View) : Type 0 where
  pub positive : 0 < v.number
  pub given : v.number ≤ b.given
  pub seated : b.seat v.number ≡ suc pass
  pub seen : StartsWith b.puts v.seen
  pub own : of v.number b.puts ≡ of v.number v.seen
  pub counted : length (of v.number v.seen) ≡ v.count

-- No pass puts under the number of a gathered sender, and all that it has put stands in the known list.
pub record IsGone (b : Book) (known : List Placed) (g : Gone) : Type 0 where
  pub positive : 0 < g.number
  pub given : g.number ≤ b.given
  pub free : b.seat g.number ≡ 0
  pub own : of g.number b.puts ≡ of g.number known
  pub counted : length (of g.number known) ≡ g.count

-- The one pass that takes knows what is drawn. Its known list begins the put list, and begins with the drawn entries.
pub record FitsOwner (b : Book) (pass : ℕ) (v : View) : Type 0 where
  pub only : pass ≡ b.owner
  pub drawn : v.drawn ≡ b.drawn
  pub known : StartsWith b.puts v.seen
  pub begins : StartsWith v.seen v.drawn
  pub told : StartsWith v.seen v.told
  pub gathered : All (IsGone b v.seen) v.gathered
  pub apart : Apart v.gathered

-- what a pass knows is so, for each of its rights
abbrev pub Fits : Book → ℕ → View → Type 0
Fits b pass v = (v.gives ≡ true → FitsDesk b pass v) × (v.sends ≡ true → FitsSender b pass v) × (v.takes ≡ true → FitsOwner b pass v)

-- the desk gave out the number of the entry
abbrev pub IsGiven : ℕ → Placed → Type 0
IsGiven given p = (0 < p.number) × (p.number ≤ given)

-- a fact of each view, with the number of its pass
abbrev pub EachView : (ℕ → View → Type 0) → List View → Type 0
EachView F views = (pass : ℕ) (v : View) → get_elem? views pass ≡ some v → F pass v

-- The rule of a port. The drawn entries and what the queue holds are the put list. Each entry has a number that was given
-- out, and those of one number are counted 1, 2, .. in their order. No expiry was put before its due time. What each pass
-- knows is so.
pub record Kept (items : List Placed) (views : List View) : Type 0 where
  pub book : Book
  pub puts : book.drawn ++ items ≡ book.puts
  pub numbered : All (IsGiven book.given) book.puts
  pub counted : (n : ℕ) → map (λ p. p.count) (of n book.puts) ≡ one_to (length (of n book.puts))
  pub timely : All IsTimely book.puts
  pub fits : EachView (Fits book) views
