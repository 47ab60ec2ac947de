-- What happens next can go one way only.
use Rattle.std.proofs.Common.{◌≡◌, ◌∙◌, ◌+◌, ◌<◌, ◌≤◌, ap, arith, length, map, refl, subst, sym, ℕ, zero, suc, All, List, [], ◌∷◌, None, Option, Some}
use Rattle.std.proofs.lemmas.List.Elements.{All-contains, All-head, All-nil}
use Rattle.std.proofs.lemmas.Option.{get_or_from_slice_get, none-some, same_Some, slice_get_within}
use Rattle.std.specs.Prelude.{Contains}
use Rattle.port_model.specs.declared.inbox.entry.Fuse.{Fuse}
use Rattle.port_model.specs.Timers.{IsLeast, earlier}
use Rattle.serial_order.specs.Execution.{Expired, Expires, Follows, Happening, Heard, Hears, IsNoFuseBefore, IsNoLineBefore, Moved, Rests, Steps, Ticked, Ticks, next_line}
use Rattle.serial_order.specs.RunState.{RunState, after_effects, expired, heard_effects, instance_at}
use Rattle.run_record.specs.declared.evaluation.identity.Identity.{Identity}
use Rattle.sdl_interp.specs.Instance.{InstanceValue}
use Rattle.run_semantics.specs.Effect.{Effect, Deed, events_of}
use Rattle.sdl_script.specs.declared.script.ScriptLine.{ScriptLine}
use Rattle.sdl_system.specs.Behaviour.{Behaviour}
use Rattle.laws_one_report.proofs.Bare.{effects_bare, as_many, expiry_bare, heard_bare, partner}
use Rattle.laws_one_report.proofs.Moves.{moves_same}
use Rattle.laws_one_report.proofs.Resting.{never_rests, rests_same}
use Rattle.laws_one_report.proofs.Lacking.{ByNumber, step_lacks}
use Rattle.laws_one_report.specs.Same.{bare_whole, uncalled_one}
use Rattle.laws_one_step.specs.Unique.{LackNothing}

-- ---- the same parts

module _ (g h : RunState) (same : bare_whole g ≡ bare_whole h) where
  until_same : g.until ≡ h.until
  until_same = ap (λ (x : RunState). x.until) same

  fuses_same : g.fuses ≡ h.fuses
  fuses_same = ap (λ (x : RunState). x.fuses) same

  script_same : g.script ≡ h.script
  script_same = ap (λ (x : RunState). x.script) same

-- ---- two kinds exclude each other

-- a fuse that is due, where none is
pub fuse_clash : (g h : RunState) (fuse : Fuse) (later : List Fuse) → bare_whole g ≡ bare_whole h
    → IsNoFuseBefore g.until g.fuses → h.fuses ≡ fuse ∷ later → fuse.due < h.until → ⊥
fuse_clash g h fuse later same none first due =
    let list : g.fuses ≡ fuse ∷ later = fuses_same g h same ∙ first in
    let above : g.until ≤ fuse.due =
    All-head (λ (f : Fuse). g.until ≤ f.due) fuse later (subst (λ fs. IsNoFuseBefore g.until fs) list none) in
    let until = until_same g h same in omega (arith, above, due, until)

-- a line that is due, where none is
line_clash : (g h : RunState) (line : ScriptLine) (later : List ScriptLine) → bare_whole g ≡ bare_whole h
    → IsNoLineBefore g.until g.script → h.script ≡ line ∷ later → line.at < h.until → ⊥
line_clash g h line later same none first due =
    let list : g.script ≡ line ∷ later = script_same g h same ∙ first in
    let above : g.until ≤ line.at = subst (λ ls. IsNoLineBefore g.until ls) list none in
    let until = until_same g h same in omega (arith, above, due, until)

-- an instance that makes a step, where all rest
pub rest_clash : (ps : List Behaviour) (g h : RunState) (who : Identity) (deeds : List Deed) (to : RunState)
    → bare_whole g ≡ bare_whole h → All (Rests ps) h.instances → (step : Steps ps g who deeds to)
    → LackNothing (events_of deeds) → ⊥
rest_clash ps g h who deeds to same rest step lack =
    let there = partner g h who.pid step.old same step.is_there in
    never_rests ps g who deeds to step lack
    (rests_same ps there.0 step.old (sym there.2) (one_rests h.instances who.pid there.0 there.1 rest)) where
      one_rests : (xs : List InstanceValue) (n : ℕ) (i : InstanceValue) → instance_at xs n ≡ Some i
          → All (Rests ps) xs → Rests ps i
      one_rests xs zero i found rest = absurd (none-some i found)
      one_rests xs (suc place) i found rest =
          subst (λ j. Rests ps j) (get_or_from_slice_get xs place i i found)
          (rest place i (slice_get_within xs place i found))

-- ---- two of one kind

no_member : (times : List ℕ) (time : ℕ) → times ≡ [] → Contains times time → ⊥
no_member times time none member =
    All-contains (λ (t : ℕ). ⊥) [] time (All-nil (λ (t : ℕ). ⊥)) (subst (λ ts. Contains ts time) none member)

least_one : (times : List ℕ) (a b : Option ℕ) → IsLeast times a → IsLeast times b → a ≡ b
least_one times None None first second = refl
least_one times None (Some b) first second =
    let none : times ≡ [] = first in absurd (no_member times b none second.0)
least_one times (Some a) None first second =
    let none : times ≡ [] = second in absurd (no_member times a none first.0)
least_one times (Some a) (Some b) first second =
    let up : a ≤ b = All-contains (λ t. a ≤ t) times b first.1 second.0 in
    let down : b ≤ a = All-contains (λ t. b ≤ t) times a second.1 first.0 in
    ap Some (level a b up down) where
      level : (a b : ℕ) → a ≤ b → b ≤ a → a ≡ b
      level a b up down = omega arith

module _ (ps : List Behaviour) (last : ℕ) where
  expiries_same : (g h : RunState) (fuse other : Fuse) (to up : RunState) → bare_whole g ≡ bare_whole h
      → Expires g fuse to → Expires h other up
      → (uncalled_one (Expired fuse) ≡ uncalled_one (Expired other)) × (bare_whole to ≡ bare_whole up)
  expiries_same g h fuse other to up same first second =
      let lists : fuse ∷ first.later ≡ other ∷ second.later =
      sym first.first ∙ fuses_same g h same ∙ second.first in
      let one : fuse ≡ other = cc in
      let rest : first.later ≡ second.later = cc in (
        ap Expired one,
        ap bare_whole first.now
            ∙ expiry_bare (record g { fuses = first.later }) fuse g.clock fuse.pid
            ∙ (λ k. expired (record (same k) { fuses = rest k }) (one k))
            ∙ sym (expiry_bare (record h { fuses = second.later }) other h.clock other.pid)
            ∙ ap bare_whole (sym second.now),
      )

  hearings_same : (g h : RunState) (line other : ScriptLine) (effects acts' : List Effect) (to up : RunState)
      → bare_whole g ≡ bare_whole h → Hears g line effects to → Hears h other acts' up
      → (uncalled_one (Heard line effects) ≡ uncalled_one (Heard other acts')) × (bare_whole to ≡ bare_whole up)
  hearings_same g h line other effects acts' to up same first second =
      let lists : line ∷ first.later ≡ other ∷ second.later =
      sym first.next ∙ script_same g h same ∙ second.next in
      let one : line ≡ other = cc in
      let rest : first.later ≡ second.later = cc in
      let done : effects ≡ acts' =
      first.effects_are ∙ sym (heard_bare g line.signal) ∙ (λ k. heard_effects (same k) (one k).signal)
      ∙ heard_bare h other.signal ∙ sym second.effects_are in (
        (λ k. Heard (one k) (done k)),
        ap bare_whole first.now
            ∙ effects_bare (record g { script = first.later }) effects
            ∙ (λ k. after_effects (record (same k) { script = rest k }) (done k))
            ∙ sym (effects_bare (record h { script = second.later }) acts')
            ∙ ap bare_whole (sym second.now),
      )

  ticks_same : (g h : RunState) (time other : ℕ) (to up : RunState) → bare_whole g ≡ bare_whole h
      → Ticks ps last g time to → Ticks ps last h other up
      → (uncalled_one (Ticked time) ≡ uncalled_one (Ticked other)) × (bare_whole to ≡ bare_whole up)
  ticks_same g h time other to up same first second =
      let dues : first.due ≡ second.due =
      least_one (map (λ (fuse : Fuse). fuse.due) h.fuses) first.due second.due
      (subst (λ fs. IsLeast (map (λ (fuse : Fuse). fuse.due) fs) first.due) (fuses_same g h same) first.least)
      second.least in
      let one : time ≡ other =
      same_Some time other
      (sym first.is_next ∙ (λ k. earlier (dues k) (next_line (script_same g h same k))) ∙ second.is_next) in
      let many : length g.instances ≡ length h.instances = as_many g h same in (
        ap Ticked one,
        ap bare_whole first.now
            ∙ (λ k. record (same k) { clock = one k; until = one k + 1; turn = 0; bound = many k })
            ∙ ap bare_whole (sym second.now),
      )

  -- ---- whatever happens

  pub follows_same : (g h : RunState) (next other : Happening) (to up : RunState) → bare_whole g ≡ bare_whole h
      → Follows ps last g next to → Follows ps last h other up → ByNumber to.instances → ByNumber up.instances
      → (uncalled_one next ≡ uncalled_one other) × (bare_whole to ≡ bare_whole up)
  follows_same g h (Moved who deeds) (Moved who' deeds') to up same first second lack lack' =
      moves_same ps last g who deeds to first h who' deeds' up second same
      (step_lacks ps last g who deeds to first lack) (step_lacks ps last h who' deeds' up second lack')
  follows_same g h (Moved who deeds) (Expired fuse) to up same first second lack lack' =
      absurd (fuse_clash g h fuse second.later same first.nothing_due.fuses second.first second.due)
  follows_same g h (Moved who deeds) (Heard line effects) to up same first second lack lack' =
      absurd (line_clash g h line second.later same first.nothing_due.lines second.next second.due)
  follows_same g h (Moved who deeds) (Ticked time) to up same first second lack lack' =
      absurd (rest_clash ps g h who deeds to same second.rest first (step_lacks ps last g who deeds to first lack))
  follows_same g h (Expired fuse) (Moved who deeds) to up same first second lack lack' =
      absurd (fuse_clash h g fuse first.later (sym same) second.nothing_due.fuses first.first first.due)
  follows_same g h (Expired fuse) (Expired other) to up same first second lack lack' =
      expiries_same g h fuse other to up same first second
  follows_same g h (Expired fuse) (Heard line effects) to up same first second lack lack' =
      absurd (fuse_clash h g fuse first.later (sym same) second.no_fuse first.first first.due)
  follows_same g h (Expired fuse) (Ticked time) to up same first second lack lack' =
      absurd (fuse_clash h g fuse first.later (sym same) second.nothing_due.fuses first.first first.due)
  follows_same g h (Heard line effects) (Moved who deeds) to up same first second lack lack' =
      absurd (line_clash h g line first.later (sym same) second.nothing_due.lines first.next first.due)
  follows_same g h (Heard line effects) (Expired fuse) to up same first second lack lack' =
      absurd (fuse_clash g h fuse second.later same first.no_fuse second.first second.due)
  follows_same g h (Heard line effects) (Heard other acts') to up same first second lack lack' =
      hearings_same g h line other effects acts' to up same first second
  follows_same g h (Heard line effects) (Ticked time) to up same first second lack lack' =
      absurd (line_clash h g line first.later (sym same) second.nothing_due.lines first.next first.due)
  follows_same g h (Ticked time) (Moved who deeds) to up same first second lack lack' =
      absurd (rest_clash ps h g who deeds up (sym same) first.rest second
      (step_lacks ps last h who deeds up second lack'))
  follows_same g h (Ticked time) (Expired fuse) to up same first second lack lack' =
      absurd (fuse_clash g h fuse second.later same first.nothing_due.fuses second.first second.due)
  follows_same g h (Ticked time) (Heard line effects) to up same first second lack lack' =
      absurd (line_clash g h line second.later same first.nothing_due.lines second.next second.due)
  follows_same g h (Ticked time) (Ticked other) to up same first second lack lack' =
      ticks_same g h time other to up same first second
