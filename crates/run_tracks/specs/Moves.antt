-- What the records and the words of a run leave to be told, and when each of it may be told.
use Rattle.std.specs.Prelude.{◌≡◌, ◌==◌, ◌+◌, ◌<◌, ◌≤◌, ℕ, Bool, true, false, List, [], ◌∷◌, Contains, None, Option, Some, drop, if◌then◌else◌}

-- ---- what is left

-- What an instance does next. It makes a step at a time, after which so many entries were drawn from its port; the step
-- may have looked at the port, and found no more there. It looks up who lives, which was so after so many changes. It
-- changes who lives, and may make the instance of a number. It puts into the port of a number. What it sends to a number
-- is lost, since nobody has that yet. Or it does what nobody else sees.
pub data Act : Type 0 where
  Step : (at drawn : ℕ) (looked : Bool) → Act
  LookUp : (version : ℕ) → Act
  Change : (made : Option ℕ) → Act
  Put : (receiver : ℕ) → Act
  Lose : (receiver : ℕ) → Act
  Inside : Act

-- What is left of a run. By the number of an instance, from 1 on: what it does, and who puts into its port, 0 for the
-- environment, each in their order; how much is put; and whether it is there. Who changes who lives, in their order, and
-- how many changes are told. The clock.
pub record Left : Type 0 where
  pub acts : ℕ → List Act
  pub puts : ℕ → List ℕ
  pub told : ℕ → ℕ
  pub is_there : ℕ → Bool
  pub changes : List ℕ
  pub version : ℕ
  pub clock : ℕ

-- what is so of each number, changed in this way for one of them
abbrev pub altered : {X : Type 0} → ℕ → (X → X) → (ℕ → X) → ℕ → X
altered number change all other = if other == number then change (all other) else all other

-- An instance does this next, and these are left; the environment puts into the port of a number; or the clock moves to
-- a time.
pub data Move : Type 0 where
  Goes : (number : ℕ) (one : Act) (later : List Act) → Move
  Brings : (receiver : ℕ) → Move
  Ticks : (time : ℕ) → Move

-- ---- when it may be told

-- it is the turn of this number
abbrev pub IsFirst : ℕ → List ℕ → Type 0
IsFirst number [] = ⊥
IsFirst number (next ∷ later) = next ≡ number

-- the next look at a port: how many entries were drawn by then
abbrev pub next_look : List Act → Option ℕ
next_look [] = None
next_look (Step at drawn true ∷ later) = Some drawn
next_look (other ∷ later) = next_look later

-- one more is put before it
abbrev pub IsPutBefore : ℕ → Option ℕ → Type 0
IsPutBefore told None = Unit {0}
IsPutBefore told (Some drawn) = told < drawn

-- Whoever has this number puts in its turn, if the receiver is there, and before its next look only as far as that had
-- drawn.
abbrev pub MayPut : Left → ℕ → ℕ → Type 0
MayPut l number receiver =
    (l.is_there receiver ≡ true) × IsFirst number (l.puts receiver)
    × IsPutBefore (l.told receiver) (next_look (l.acts receiver))

-- the next look-up before any change: after how many changes it is
abbrev pub next_version : List Act → Option ℕ
next_version [] = None
next_version (LookUp version ∷ later) = Some version
next_version (Change made ∷ later) = None
next_version (other ∷ later) = next_version later

-- nobody looks up next who lives now
abbrev pub NobodyLooks : Left → Type 0
NobodyLooks l = (number : ℕ) → next_version (l.acts number) ≡ Some l.version → ⊥

-- nothing more is lost that is sent to the one that is made
abbrev pub NothingIsLost : Left → Option ℕ → Type 0
NothingIsLost l None = Unit {0}
NothingIsLost l (Some made) = (number : ℕ) → Contains (l.acts number) (Lose made) → ⊥

-- A step is made in its time, once all is put that its owner had drawn after it. A look-up comes where as many changes
-- are told as it saw. A change comes in its turn, behind the look-ups of who lived before it; and a create behind what is
-- lost.
abbrev pub IsPermitted : Left → ℕ → Act → Type 0
IsPermitted l number (Step at drawn looked) = (at ≡ l.clock) × (drawn ≤ l.told number)
IsPermitted l number (LookUp version) = version ≡ l.version
IsPermitted l number (Change made) = IsFirst number l.changes × NobodyLooks l × NothingIsLost l made
IsPermitted l number (Put receiver) = MayPut l number receiver
IsPermitted l number (Lose receiver) = l.is_there receiver ≡ false
IsPermitted l number Inside = Unit {0}

-- The instance of this number is there, and does this next, and it is permitted.
pub record MayGo (l : Left) (number : ℕ) (one : Act) (later : List Act) : Type 0 where
  pub positive : 0 < number
  pub next : l.acts number ≡ one ∷ later
  pub is_there : l.is_there number ≡ true
  pub permitted : IsPermitted l number one

-- nothing is left, or a step at this time or later comes next
abbrev pub WaitsUntil : ℕ → List Act → Type 0
WaitsUntil time [] = Unit {0}
WaitsUntil time (Step at drawn looked ∷ later) = time ≤ at
WaitsUntil time (other ∷ later) = ⊥

-- a step at this time comes next
abbrev pub WaitsFor : ℕ → List Act → Type 0
WaitsFor time (Step at drawn looked ∷ later) = at ≡ time
WaitsFor time other = ⊥

-- The clock moves to the next time at which somebody makes a step, once all before it is told.
pub record MayTick (l : Left) (time : ℕ) : Type 0 where
  pub later : l.clock < time
  pub all : (number : ℕ) → WaitsUntil time (l.acts number)
  pub somebody : (number : ℕ) × WaitsFor time (l.acts number)

abbrev pub May : Left → Move → Type 0
May l (Goes number one later) = MayGo l number one later
May l (Brings receiver) = MayPut l 0 receiver
May l (Ticks time) = MayTick l time

-- ---- what is left then

abbrev pub puts_after : Act → (ℕ → List ℕ) → ℕ → List ℕ
puts_after (Put receiver) puts = altered receiver (λ (all : List ℕ). drop 1 all) puts
puts_after other puts = puts

abbrev pub told_after : Act → (ℕ → ℕ) → ℕ → ℕ
told_after (Put receiver) told = altered receiver (λ (count : ℕ). count + 1) told
told_after other told = told

abbrev pub there_after : Act → (ℕ → Bool) → ℕ → Bool
there_after (Change (Some made)) is_there = altered made (λ (was : Bool). true) is_there
there_after other is_there = is_there

abbrev pub changes_after : Act → List ℕ → List ℕ
changes_after (Change made) changes = drop 1 changes
changes_after other changes = changes

abbrev pub version_after : Act → ℕ → ℕ
version_after (Change made) version = version + 1
version_after other version = version

-- the instance of this number has done this, and these are left
abbrev pub after_act : Left → ℕ → Act → List Act → Left
after_act l number one later = record {
  acts = altered number (λ (all : List Act). later) l.acts;
  puts = puts_after one l.puts;
  told = told_after one l.told;
  is_there = there_after one l.is_there;
  changes = changes_after one l.changes;
  version = version_after one l.version;
  clock = l.clock;
}

abbrev pub after : Left → Move → Left
after l (Goes number one later) = after_act l number one later
after l (Brings receiver) = record l {
  puts = puts_after (Put receiver) l.puts;
  told = told_after (Put receiver) l.told;
}
after l (Ticks time) = record l { clock = time }
