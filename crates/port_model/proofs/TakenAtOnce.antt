-- A signal that is put where nothing waits, and a take of it then.
use Rattle.std.proofs.Common.{◌≡◌, ◌≢◌, ◌==◌, ◌<◌, Bool, true, false, List, [], ◌∷◌, ◌++◌, All, inl, inr, refl, sym, ap, ◌∙◌, arith, length}
use Rattle.std.proofs.lemmas.Bool.Decides.{Decides-eqb}
use Rattle.std.proofs.lemmas.List.Elements.{All-cons, All-nil}
use Rattle.port_model.specs.declared.values.item.Item.{Item}
use Rattle.port_model.specs.declared.got.Got.{Got}
use Rattle.port_model.specs.declared.got.Got.TheVariants.{Signal}
use Rattle.port_model.specs.declared.selection.Class.{Class}
use Rattle.port_model.specs.declared.selection.Class.TheVariants as class
use Rattle.port_model.specs.declared.taken.Taken.{Taken}
use Rattle.port_model.specs.declared.taken.Taken.TheVariants.{Nothing}
use Rattle.port_model.specs.Port.{PortState, put_into}
use Rattle.port_model.specs.Selection.{class_of}
use Rattle.port_model.specs.Take.{taken_as, IsOrdinary, IsSaved, Takes, TakesFirst}

-- the port with just this signal
abbrev alone : PortState → Item → PortState
alone port item = record port { waiting = Signal item ∷ [] }

put_alone : (port : PortState) (item : Item) → port.waiting ≡ [] → port.alive ≡ true
    → put_into port item ≡ alone port item
put_alone port item none alive = rw (none, alive) refl

first : (Passed : Got → Type 0) (port : PortState) (item : Item) → port.waiting ≡ []
    → TakesFirst Passed (alone port item) (Signal item) port
first Passed port item none = record {
  before = [];
  after = [];
  was = refl;
  passed = All-nil Passed;
  now = ap (λ (l : List Got). record port { waiting = l }) none;
}

all_alone : (P : Got → Type 0) (item : Item) → P (Signal item) → All P (Signal item ∷ [])
all_alone P item is = All-cons P (Signal item) [] is (All-nil P)

takes_alone : (classes : List Class) (port : PortState) (item : Item) (c : Class) → port.waiting ≡ []
    → class_of classes item.name ≡ c → c ≢ class.Saved → Takes classes (alone port item) (taken_as c (Signal item)) port
takes_alone classes port item class.Priority none is unsaved = inl (first (IsOrdinary classes) port item none, is)
takes_alone classes port item class.Input none is unsaved =
    inr (all_alone (IsOrdinary classes) item (λ e. cc), first (IsSaved classes) port item none, is)
takes_alone classes port item class.Saved none is unsaved = absurd (unsaved refl)
takes_alone classes port item class.Discard none is unsaved =
    (all_alone (IsOrdinary classes) item (λ e. cc), first (IsSaved classes) port item none, is)

-- one that isn't saved is taken, and the port is as before
pub taken_at_once : (classes : List Class) (old new : PortState) (item : Item) (c : Class) (taken : Taken)
    → old.waiting ≡ [] → old.alive ≡ true → c ≡ class_of classes item.name → c ≢ class.Saved
    → taken ≡ taken_as c (Signal item) → new ≡ old → Takes classes (put_into old item) taken new
taken_at_once classes old new item c taken none alive is unsaved answer same =
    rw (answer, same, put_alone old item none alive) (takes_alone classes old item c none (sym is) unsaved)

-- one that is saved stays
pub saved_at_once : (classes : List Class) (old new : PortState) (item : Item) (c : Class) → old.waiting ≡ []
    → old.alive ≡ true → c ≡ class_of classes item.name → c ≡ class.Saved
    → new ≡ record old { waiting = old.waiting ++ Signal item ∷ [] } → Takes classes (put_into old item) Nothing new
saved_at_once classes old new item c none alive is saved same =
    let left : new ≡ alone old item =
    same ∙ ap (λ (l : List Got). record old { waiting = l ++ Signal item ∷ [] }) none in
    rw (put_alone old item none alive, left) (all_alone (IsSaved classes) item (sym is ∙ saved), refl)

-- a stopped port drops it
pub dropped_at_once : (classes : List Class) (old new : PortState) (item : Item) → old.waiting ≡ [] → old.alive ≡ false
    → new ≡ old → Takes classes (put_into old item) Nothing new
dropped_at_once classes old new item none stopped same = rw (same, stopped, none) (All-nil (IsSaved classes), refl)

-- ---- whether something waits

pub none_waits : (waiting : List Got) (empty : Bool) → empty ≡ (length waiting == 0) → empty ≡ true → waiting ≡ []
none_waits [] empty is told = refl
none_waits (got ∷ more) empty is told =
    let none : length (got ∷ more) ≡ 0 = (Decides-eqb (length (got ∷ more)) 0).0 (sym is ∙ told) in absurd (omega arith)

pub some_waits : (waiting : List Got) (empty : Bool) → empty ≡ (length waiting == 0) → empty ≡ false
    → 0 < length waiting
some_waits [] empty is told = absurd cc
some_waits (got ∷ more) empty is told = omega arith
