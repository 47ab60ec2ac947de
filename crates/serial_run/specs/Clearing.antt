-- Spent fuses that a run hasn't any more: in an execution they expire to no effect, before anything else is done.
use Rattle.std.proofs.Common.{◌≡◌, ◌⊎◌, ◌∙◌, ◌+◌, ◌<◌, ◌≤◌, ◌==◌, Bool, true, false, ℕ, zero, suc, nat_le, if◌then◌else◌, List, [], ◌∷◌, Option, None, Some, ap, arith, inl, inr, leb-false, leb-true, refl, set, slice_get, subst, sym}
use Rattle.std.proofs.lemmas.List.Elements.{All-cons, All-head, All-nil, All-weaker}
use Rattle.port_model.specs.declared.inbox.entry.Fuse.{Fuse}
use Rattle.port_model.proofs.Spent.{spent_expires}
use Rattle.port_model.specs.Port.{PortState, expire_in}
use Rattle.sdl_timers.proofs.Firing.{no_earlier}
use Rattle.sdl_timers.specs.DueOrder.{IsInOrder, is_before}
use Rattle.sdl_timers.specs.Thinned.{Thins}
use Rattle.serial_run.specs.Serial.{state_of}
use Rattle.serial_run.specs.Thinned.{IsThinned, is_spent_in, is_spent_of}
use Rattle.serial_run.specs.declared.instances.Instances.{Instances}
use Rattle.serial_order.specs.Execution.{Execution, Expired, Expires, Follows, Happening, IsNoFuseBefore, IsTransition, begins, goes, transitions_of, transitions_of_one}
use Rattle.serial_order.specs.RunState.{RunState, changed_at, expired, instance_at, with_expiry, with_instance}
use Rattle.serial_run.specs.Advances.{Advances}
use Rattle.serial_run.specs.ExecutionLaws.{advances_one, execution_append}
use Rattle.serial_run.specs.Told.{NotesThese, teller_of, tellers_of}
use Rattle.serial_sweeps.specs.Sweeps.{Moment, until}
use Rattle.sdl_interp.specs.Instance.{InstanceValue}
use Rattle.sdl_system.specs.Behaviour.{Behaviour}

-- ---- a spent fuse expires

-- it expires to no effect
same_expiry : (fuse : Fuse) (at : ℕ) (i : InstanceValue) → is_spent_of fuse (Some i) ≡ true
    → with_expiry fuse at i ≡ i
same_expiry fuse at i spent =
    ap (λ (state : PortState). record i { owner = record i.owner { state = state } }) (by_test (fuse.pid == i.owner.pid))
  where
    by_test : (b : Bool)
        → (if b then expire_in i.owner.state fuse.key fuse.arm fuse.due at else i.owner.state) ≡ i.owner.state
    by_test true = spent_expires fuse.key fuse.arm fuse.due i.owner.state at spent
    by_test false = refl

set_same : (xs : List InstanceValue) (place : ℕ) (i : InstanceValue) → slice_get xs place ≡ Some i
    → set xs place i ≡ xs
set_same [] place i there = refl
set_same (first ∷ xs) zero i there = let is : i ≡ first = cc in ap (λ j. j ∷ xs) is
set_same (first ∷ xs) (suc place) i there = ap (λ all. first ∷ all) (set_same xs place i there)

with_same : (instances : List InstanceValue) (number : ℕ) (i : InstanceValue) → instance_at instances number ≡ Some i
    → with_instance instances number i ≡ instances
with_same instances zero i there = refl
with_same instances (suc place) i there = set_same instances place i there

-- nothing changes
pub same_expired : (g : RunState) (fuse : Fuse) → is_spent_in g.instances fuse ≡ true → expired g fuse ≡ g
same_expired g fuse spent =
    ap (λ (all : List InstanceValue). record g { instances = all }) (by_found (instance_at g.instances fuse.pid) refl spent)
  where
    by_found : (o : Option InstanceValue) → instance_at g.instances fuse.pid ≡ o → is_spent_of fuse o ≡ true
        → changed_at (with_expiry fuse g.clock) g.instances fuse.pid o ≡ g.instances
    by_found None there gone = refl
    by_found (Some i) there gone =
        ap (with_instance g.instances fuse.pid) (same_expiry fuse g.clock i gone)
        ∙ with_same g.instances fuse.pid i there

-- no fuse is due before the first one
pub all_late : (time : ℕ) (fuse : Fuse) (more : List Fuse) → IsInOrder (fuse ∷ more) → time ≤ fuse.due
    → IsNoFuseBefore time (fuse ∷ more)
all_late time fuse more ordered late =
    All-cons (λ (one : Fuse). time ≤ one.due) fuse more late
    (All-weaker (λ (other : Fuse). is_before other fuse ≡ false) (λ (other : Fuse). time ≤ other.due)
    (λ other behind. let later = no_earlier fuse other behind in omega (arith, late, later)) more ordered.0)

-- ---- all that are due, up to the first that the run has

-- this one is due, and the run has it
pub record HasDue (g h : RunState) : Type 0 where
  pub fuse : Fuse
  pub later : List Fuse
  pub rest : List Fuse
  pub first : g.fuses ≡ fuse ∷ later
  pub too : h.fuses ≡ fuse ∷ rest
  pub due : fuse.due < g.until
  pub thins : Thins (is_spent_in g.instances) later rest

pub record Cleared (ps : List Behaviour) (last : ℕ) (g h : RunState) : Type 0 where
  pub happenings : List Happening
  pub to : RunState
  pub execution : Execution ps last g happenings to
  pub none : transitions_of happenings ≡ 0
  pub nobody : tellers_of happenings ≡ []
  pub thinned : IsThinned to h
  pub next : IsNoFuseBefore to.until to.fuses ⊎ HasDue to h

module _ (ps : List Behaviour) (last : ℕ) where
  -- the state has nothing to clear
  clears_none : (g h : RunState) → IsThinned g h → IsNoFuseBefore g.until g.fuses ⊎ HasDue g h → Cleared ps last g h
  clears_none g h thinned next = record {
    happenings = [];
    to = g;
    execution = begins;
    none = refl;
    nobody = refl;
    thinned = thinned;
    next = next;
  }

  -- a spent fuse that is due expires, and then others do
  clears_one : (fuse : Fuse) (more : List Fuse) (g h : RunState) → g.fuses ≡ fuse ∷ more → fuse.due < g.until
      → is_spent_in g.instances fuse ≡ true → Cleared ps last (record g { fuses = more }) h → Cleared ps last g h
  clears_one fuse more g h is due gone rest =
      let mid : RunState = record g { fuses = more } in
      let expires : Expires g fuse mid = record {
        later = more;
        first = is;
        due = due;
        now = sym (same_expired mid fuse gone);
      } in
      let one : Execution ps last g (Expired fuse ∷ []) mid = goes begins (Expired fuse) mid expires in
      let later = rest.none in
      record {
        happenings = Expired fuse ∷ rest.happenings;
        to = rest.to;
        execution = execution_append one rest.execution;
        none = omega (arith, later);
        nobody = rest.nobody;
        thinned = rest.thinned;
        next = rest.next;
      }

  clears_next : (fuse : Fuse) (more : List Fuse) (g h : RunState) → g.fuses ≡ fuse ∷ more → IsThinned g h
      → ((mid : RunState) → mid.fuses ≡ more → IsThinned mid h → Cleared ps last mid h) → Cleared ps last g h
  clears_next fuse more g h is thinned on = by_test (nat_le g.until fuse.due) refl where
    ordered : IsInOrder (fuse ∷ more)
    ordered = subst IsInOrder is thinned.in_order

    by_thins : fuse.due < g.until → Thins (is_spent_in g.instances) (fuse ∷ more) h.fuses → Cleared ps last g h
    by_thins due (inl (gone, thins)) =
        clears_one fuse more g h is due gone
        (on (record g { fuses = more }) refl
        (record { same = thinned.same; in_order = ordered.1; thins = thins }))
    by_thins due (inr (rest, too, thins)) =
        clears_none g h thinned (inr (record {
          fuse = fuse;
          later = more;
          rest = rest;
          first = is;
          too = too;
          due = due;
          thins = thins;
        }))

    by_test : (b : Bool) → nat_le g.until fuse.due ≡ b → Cleared ps last g h
    by_test true late =
        clears_none g h thinned (inl (subst (IsNoFuseBefore g.until) (sym is)
        (all_late g.until fuse more ordered (leb-true g.until fuse.due late))))
    by_test false early =
        by_thins (leb-false g.until fuse.due early)
        (subst (λ (list : List Fuse). Thins (is_spent_in g.instances) list h.fuses) is thinned.thins)

  clear : (fuses : List Fuse) (g h : RunState) → g.fuses ≡ fuses → IsThinned g h → Cleared ps last g h
  clear [] g h is thinned =
      clears_none g h thinned
      (inl (subst (IsNoFuseBefore g.until) (sym is) (All-nil (λ (one : Fuse). g.until ≤ one.due))))
  clear (fuse ∷ more) g h is thinned =
      clears_next fuse more g h is thinned (λ mid same fewer. clear more mid h same fewer)

  pub cleared : (g h : RunState) → IsThinned g h → Cleared ps last g h
  cleared g h thinned = clear g.fuses g h refl thinned

-- where no fuse of the run is due none is
pub none_due : (g h : RunState) → IsThinned g h → IsNoFuseBefore h.until h.fuses
    → IsNoFuseBefore g.until g.fuses ⊎ HasDue g h → IsNoFuseBefore g.until g.fuses
none_due g h thinned none (inl all) = all
none_due g h thinned none (inr next) =
    let late : h.until ≤ next.fuse.due =
    All-head (λ (one : Fuse). h.until ≤ one.due) next.fuse next.rest (subst (IsNoFuseBefore h.until) next.too none) in
    let same : h.until ≡ g.until = ap (λ (x : RunState). x.until) thinned.same in
    let due : next.fuse.due < g.until = next.due in
    absurd (omega (arith, late, same, due))

-- a state with the fuses of the other
pub with_all : (g h : RunState) → IsThinned g h → record h { fuses = g.fuses } ≡ g
with_all g h thinned = ap (λ (x : RunState). record x { fuses = g.fuses }) thinned.same

-- ---- one thing happens, where no fuse of the run is due

-- one thing happens, from a state with these fuses
pub record OneMore (ps : List Behaviour) (last : ℕ) (m : Moment) (a : Instances) (k : Option (List ℕ)) (n : Moment)
    (b : Instances) (l : Option (List ℕ)) (fuses : List Fuse) : Type 0 where
  pub happened : Happening
  pub to : RunState
  pub follows : Follows ps last (record (state_of m a) { fuses = fuses }) happened to
  pub thinned : IsThinned to (state_of n b)
  pub counted : n.left + transitions_of_one happened ≡ m.left
  pub reached : n.left ≡ 0 → IsTransition happened
  pub noted : NotesThese k (teller_of happened) l
  pub system : b.system ≡ a.system

-- Whatever spent fuses there are besides, they expire first.
pub advances_cleared : (ps : List Behaviour) (last : ℕ) (m n : Moment) (a b : Instances) (k l : Option (List ℕ))
    → IsNoFuseBefore (until m) m.fuses
    → ((fuses : List Fuse) → IsThinned (record (state_of m a) { fuses = fuses }) (state_of m a)
    → IsNoFuseBefore (until m) fuses → OneMore ps last m a k n b l fuses)
    → (g : RunState) → IsThinned g (state_of m a) → Advances ps last m a k g n b l
advances_cleared ps last m n a b k l none made g thinned =
    let h : RunState = state_of m a in
    let clear : Cleared ps last g h = cleared ps last g h thinned in
    let at : RunState = record h { fuses = clear.to.fuses } in
    let is : at ≡ clear.to = with_all clear.to h clear.thinned in
    let no_fuse : IsNoFuseBefore clear.to.until clear.to.fuses = none_due clear.to h clear.thinned none clear.next in
    let same : clear.to.until ≡ until m = sym (ap (λ (x : RunState). x.until) clear.thinned.same) in
    let one : OneMore ps last m a k n b l clear.to.fuses =
    made clear.to.fuses (subst (λ (x : RunState). IsThinned x h) (sym is) clear.thinned)
    (subst (λ time. IsNoFuseBefore time clear.to.fuses) same no_fuse) in
    advances_one ps last m n a b k l g at one.to clear.happenings
    (subst (λ (x : RunState). Execution ps last g clear.happenings x) (sym is) clear.execution) clear.none clear.nobody
    one.happened one.follows one.thinned one.counted one.reached one.noted one.system
