-- Fuses expire, and lines are heard.
use Rattle.std.proofs.Common.{◌≡◌, ◌⊎◌, ◌+◌, ◌<◌, ◌≤◌, Bool, true, ℕ, List, [], ◌∷◌, ◌∙◌, Option, inl, inr, refl, sym, ap, subst, arith}
use Rattle.std.proofs.lemmas.List.Elements.{All-head}
use Rattle.port_model.specs.declared.inbox.entry.Fuse.{Fuse}
use Rattle.sdl_timers.proofs.Thinning.{thins_all}
use Rattle.sdl_timers.specs.DueOrder.{IsInOrder}
use Rattle.serial_order.specs.Execution.{Expired, Expires, Heard, Hears, IsNoFuseBefore}
use Rattle.serial_order.specs.RunState.{RunState, after_effects, expired, heard_effects}
use Rattle.serial_run.proofs.Thinning.{thinned_expired, thinned_heard}
use Rattle.serial_run.specs.Serial.{state_of}
use Rattle.serial_run.specs.Thinned.{IsThinned, is_spent_in}
use Rattle.serial_run.specs.declared.instances.Instances.{Instances}
use Rattle.sdl_script.specs.declared.script.ScriptLine.{ScriptLine}
use Rattle.serial_run.specs.Advances.{Reaches}
use Rattle.serial_run.specs.Clearing.{Cleared, HasDue, advances_cleared, cleared}
use Rattle.serial_run.specs.ExecutionLaws.{advances_one, notes_none}
use Rattle.serial_run.specs.Told.{NotesThese}
use Rattle.serial_sweeps.specs.Sweeps.{Moment, until_of}

until_is : (begun : Bool) (clock : ℕ) → begun ≡ true → until_of begun clock ≡ clock + 1
until_is begun clock is = ap (λ b. until_of b clock) is

-- ---- a fuse expires

-- where a fuse of the run is due, spent ones expire up to it
has_due : (g h : RunState) (fuse : Fuse) (later : List Fuse) → IsThinned g h → h.fuses ≡ fuse ∷ later
    → fuse.due < h.until → IsNoFuseBefore g.until g.fuses ⊎ HasDue g h → HasDue g h
has_due g h fuse later thinned first due (inr next) = next
has_due g h fuse later thinned first due (inl none) =
    let all : IsNoFuseBefore g.until h.fuses =
    thins_all (is_spent_in g.instances) (λ (one : Fuse). g.until ≤ one.due) g.fuses h.fuses thinned.thins none in
    let late : g.until ≤ fuse.due =
    All-head (λ (one : Fuse). g.until ≤ one.due) fuse later (subst (IsNoFuseBefore g.until) first all) in
    let same : h.until ≡ g.until = ap (λ (x : RunState). x.until) thinned.same in
    absurd (omega (arith, late, due, same))

-- without the fuse
without_due : (g h : RunState) → IsThinned g h → (next : HasDue g h)
    → IsThinned (record g { fuses = next.later }) (record h { fuses = next.rest })
without_due g h thinned next =
    let ordered : IsInOrder (next.fuse ∷ next.later) = subst IsInOrder next.first thinned.in_order in
    record {
      same = ap (λ (x : RunState). record x { fuses = next.rest }) thinned.same;
      in_order = ordered.1;
      thins = next.thins;
    }

pub expire_reaches : (m n : Moment) (a b : Instances) (fuse : Fuse) (later : List Fuse) → m.fuses ≡ fuse ∷ later
    → m.begun ≡ true → fuse.due ≤ m.clock → state_of n b ≡ expired (record (state_of m a) { fuses = later }) fuse
    → n.left ≡ m.left → 0 < m.left → b.system ≡ a.system → (last : ℕ) (kept : Option (List ℕ))
    → Reaches last m a kept n b kept
expire_reaches m n a b fuse later first begun in_time now left some system = λ last kept ps behaviours g thinned.
    let h : RunState = state_of m a in
    let until = until_is m.begun m.clock begun in
    let due : fuse.due < h.until = omega (arith, until, in_time) in
    let clear : Cleared ps last g h = cleared ps last g h thinned in
    let next : HasDue clear.to h = has_due clear.to h fuse later clear.thinned first due clear.next in
    let lists : fuse ∷ later ≡ next.fuse ∷ next.rest = sym first ∙ next.too in
    let one : next.fuse ≡ fuse = cc in
    let rest : next.rest ≡ later = cc in
    let to : RunState = expired (record clear.to { fuses = next.later }) next.fuse in
    let expires : Expires clear.to next.fuse to = record {
      later = next.later;
      first = next.first;
      due = next.due;
      now = refl;
    } in
    let state : state_of n b ≡ expired (record h { fuses = next.rest }) next.fuse =
    now ∙ sym (λ i. expired (record h { fuses = rest i }) (one i)) in
    let thinned_to : IsThinned to (state_of n b) =
    subst (IsThinned to) (sym state)
    (thinned_expired (record clear.to { fuses = next.later }) (record h { fuses = next.rest }) next.fuse
    (without_due clear.to h clear.thinned next)) in
    advances_one ps last m n a b kept kept g clear.to to clear.happenings clear.execution clear.none clear.nobody
    (Expired next.fuse) expires thinned_to (omega (arith, left)) (λ spent. absurd (omega (arith, left, some, spent)))
    (notes_none kept) system

-- ---- a line is heard

pub hear_reaches : (m n : Moment) (a b : Instances) (line : ScriptLine) (later : List ScriptLine)
    → m.script ≡ line ∷ later → m.begun ≡ true → line.at ≤ m.clock → IsNoFuseBefore (m.clock + 1) m.fuses
    → state_of n b ≡ after_effects (record (state_of m a) { script = later }) (heard_effects (state_of m a) line.signal)
    → n.left ≡ m.left → 0 < m.left → b.system ≡ a.system → (last : ℕ) (k l : Option (List ℕ))
    → NotesThese k (0 ∷ []) l → Reaches last m a k n b l
hear_reaches m n a b line later next begun in_time no_fuse now left some system = λ last k l noted ps behaviours.
    let h : RunState = state_of m a in
    let until = until_is m.begun m.clock begun in
    let none : IsNoFuseBefore h.until m.fuses = subst (λ time. IsNoFuseBefore time m.fuses) (sym until) no_fuse in
    advances_cleared ps last m n a b k l none (λ fuses thinned none_due.
    let at : RunState = record h { fuses = fuses } in
    let to : RunState = after_effects (record at { script = later }) (heard_effects at line.signal) in
    let hears : Hears at line (heard_effects at line.signal) to = record {
      later = later;
      next = next;
      due = omega (arith, until, in_time);
      no_fuse = none_due;
      effects_are = refl;
      now = refl;
    } in
    let thinned_to : IsThinned to (state_of n b) =
    subst (IsThinned to) (sym now) (thinned_heard at h later line.signal thinned) in
    record {
      happened = Heard line (heard_effects at line.signal);
      to = to;
      follows = hears;
      thinned = thinned_to;
      counted = omega (arith, left);
      reached = λ spent. absurd (omega (arith, left, some, spent));
      noted = noted;
      system = system;
    })
