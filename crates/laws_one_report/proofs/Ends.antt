-- An execution that ends a report goes no further in another.
use Rattle.std.proofs.Common.{◌≡◌, ◌∙◌, ◌+◌, ◌-◌, ◌++◌, ◌<◌, ◌≤◌, ap, arith, if◌then◌else◌, inl, inr, length, length-append, map, min, nat_le, refl, slice_get, subst, sym, ℕ, Bool, true, false, All, List, [], ◌∷◌, None, Option, Some}
use Rattle.std.proofs.lemmas.List.Elements.{All-contains, All-head, All-map, All-tail}
use Rattle.std.proofs.lemmas.Option.{none-some, slice_get-get_or}
use Rattle.std.specs.Option.{option_map_or}
use Rattle.std.specs.Prelude.{slice_index_or}
use Rattle.port_model.specs.declared.inbox.entry.Fuse.{Fuse}
use Rattle.port_model.specs.Timers.{IsLeast, earlier}
use Rattle.serial_order.specs.Execution.{Execution, Expired, Follows, Happening, Heard, IsNoFuseBefore, IsTransition, Moved, Ticked, begins, goes, is_transition, next_line, transitions_of, transitions_of_one}
use Rattle.serial_order.specs.RunState.{RunState, after_effect, after_effects, beginning, change_at, with_expiry}
use Rattle.serial_order.specs.Report.{Ends, EndsCut, EndsWhole}
use Rattle.run_semantics.specs.Effect.{Effect, Arm, Create, Deed, Send, effects_of}
use Rattle.sdl_script.specs.Script.{IsScript, end_of}
use Rattle.sdl_script.specs.declared.script.ScriptLine.{ScriptLine}
use Rattle.sdl_system.specs.Behaviour.{Behaviour}
use Rattle.sdl_system.specs.System.{SystemValue}
use Rattle.sdl_system.specs.declared.route.Target.TheVariants.{Env, Instance, Nobody, Null}
use Rattle.sdl_timers.specs.DueOrder.{with_fuse}
use Rattle.laws_one_report.proofs.Executions.{Headed, Parted, agree, headed, parted}
use Rattle.laws_one_report.proofs.Follows.{rest_clash}
use Rattle.laws_one_report.proofs.Grown.{stepped}
use Rattle.laws_one_report.proofs.Lacking.{ByNumber, before_execution, step_lacks}
use Rattle.laws_one_report.specs.Same.{AreSame, bare_whole, uncalled, uncalled_one}

-- ---- transitions

pub transitions_of-append : (before after : List Happening)
    → transitions_of (before ++ after) ≡ transitions_of before + transitions_of after
transitions_of-append [] after = omega arith
transitions_of-append (first ∷ rest) after = omega (arith, transitions_of-append rest after)

is_transition_uncalled : (deeds : List Deed) → is_transition (map uncalled deeds) ≡ is_transition deeds
is_transition_uncalled [] = refl
is_transition_uncalled (first ∷ rest) = refl

one_uncalled : (happened : Happening) → transitions_of_one (uncalled_one happened) ≡ transitions_of_one happened
one_uncalled (Moved who deeds) = ap (λ b. if b then 1 else 0) (is_transition_uncalled deeds)
one_uncalled (Expired fuse) = refl
one_uncalled (Heard line effects) = refl
one_uncalled (Ticked time) = refl

all_uncalled : (happenings : List Happening)
    → transitions_of (map uncalled_one happenings) ≡ transitions_of happenings
all_uncalled [] = refl
all_uncalled (first ∷ rest) =
    let here = one_uncalled first in let later = all_uncalled rest in omega (arith, here, later)

pub transitions_same : (happenings others : List Happening)
    → map uncalled_one happenings ≡ map uncalled_one others → transitions_of happenings ≡ transitions_of others
transitions_same happenings others same =
    sym (all_uncalled happenings) ∙ ap transitions_of same ∙ all_uncalled others

-- where a list of happenings ends in a transition, so does what is left of it
last_counts : (xs ys zs : List Happening) (last : Happening) → xs ++ ys ≡ zs ++ last ∷ [] → 0 < length ys
    → IsTransition last → 1 ≤ transitions_of ys
last_counts [] ys zs last same some is =
    let all = ap transitions_of same in
    let parts = transitions_of-append zs (last ∷ []) in omega (arith, all, parts, is)
last_counts (x ∷ xs) ys [] last same some is =
    let none : xs ++ ys ≡ [] = cc in
    let long = ap length none in
    let parts = length-append xs ys in
    absurd (omega (arith, long, parts, some))
last_counts (x ∷ xs) ys (z ∷ zs) last same some is =
    let tail : xs ++ ys ≡ zs ++ last ∷ [] = cc in last_counts xs ys zs last tail some is

-- ---- the script's end

-- what is done up to now, and what is left, is not past the script's end
pub record IsWithin (last : ℕ) (g : RunState) : Type 0 where
  pub until : g.until ≤ last + 1
  pub lines : All (λ (line : ScriptLine). line.at ≤ last) g.script

record KeepsScript (g h : RunState) : Type 0 where
  until : h.until ≡ g.until
  script : h.script ≡ g.script

effect_keeps : (g : RunState) (effect : Effect) → KeepsScript g (after_effect g effect)
effect_keeps g (Send (Instance n) item) = record { until = refl; script = refl }
effect_keeps g (Send Env item) = record { until = refl; script = refl }
effect_keeps g (Send Null item) = record { until = refl; script = refl }
effect_keeps g (Send Nobody item) = record { until = refl; script = refl }
effect_keeps g (Arm fuse) =
    by_test (nat_le fuse.due g.clock)
    (record g { instances = change_at (with_expiry fuse g.clock) g.instances fuse.pid })
    (record g { fuses = with_fuse fuse g.fuses }) (record { until = refl; script = refl })
    (record { until = refl; script = refl }) where
      by_test : (b : Bool) (now later : RunState) → KeepsScript g now → KeepsScript g later
          → KeepsScript g (if b then now else later)
      by_test true now later first second = first
      by_test false now later first second = second
effect_keeps g (Create process number parent values) = record { until = refl; script = refl }

effects_keep : (g : RunState) (effects : List Effect) → KeepsScript g (after_effects g effects)
effects_keep g [] = record { until = refl; script = refl }
effects_keep g (effect ∷ rest) =
    let first = effect_keeps g effect in
    let later = effects_keep (after_effect g effect) rest in
    record { until = later.until ∙ first.until; script = later.script ∙ first.script }

kept_within : (last : ℕ) (g h : RunState) → KeepsScript g h → IsWithin last g → IsWithin last h
kept_within last g h keeps within = record {
  until = subst (λ n. n ≤ last + 1) (sym keeps.until) within.until;
  lines = subst (λ ls. All (λ (line : ScriptLine). line.at ≤ last) ls) (sym keeps.script) within.lines;
}

sooner : (due : Option ℕ) (at time : ℕ) → earlier due (Some at) ≡ Some time → time ≤ at
sooner None at time is = let same : at ≡ time = cc in omega (arith, same)
sooner (Some one) at time is = let same : min one at ≡ time = cc in omega (arith, same)

module _ (ps : List Behaviour) (last : ℕ) where
  tick_time : (script : List ScriptLine) (due : Option ℕ) (time : ℕ) → earlier due (next_line script) ≡ Some time
      → (script ≡ [] → time ≤ last) → All (λ (line : ScriptLine). line.at ≤ last) script → time ≤ last
  tick_time [] due time is within all = within refl
  tick_time (line ∷ later) due time is within all =
      let before : time ≤ line.at = sooner due line.at time is in
      let bound : line.at ≤ last = All-head (λ (l : ScriptLine). l.at ≤ last) line later all in
      omega (arith, before, bound)

  within_next : (g : RunState) (next : Happening) (h : RunState) → Follows ps last g next h → IsWithin last g
      → IsWithin last h
  within_next g (Moved who deeds) h step within =
      subst (λ x. IsWithin last x) (sym step.now)
      (kept_within last (stepped ps last g who deeds h step)
      (after_effects (stepped ps last g who deeds h step) (effects_of deeds))
      (effects_keep (stepped ps last g who deeds h step) (effects_of deeds))
      (record { until = within.until; lines = within.lines }))
  within_next g (Expired fuse) h expires within =
      subst (λ x. IsWithin last x) (sym expires.now) (record { until = within.until; lines = within.lines })
  within_next g (Heard line effects) h hears within =
      subst (λ x. IsWithin last x) (sym hears.now)
      (kept_within last (record g { script = hears.later }) (after_effects (record g { script = hears.later }) effects)
      (effects_keep (record g { script = hears.later }) effects)
      (record {
        until = within.until;
        lines = All-tail (λ (l : ScriptLine). l.at ≤ last) line hears.later
            (subst (λ ls. All (λ (l : ScriptLine). l.at ≤ last) ls) hears.next within.lines);
      }))
  within_next g (Ticked time) h ticks within =
      let bound : time ≤ last = tick_time g.script ticks.due time ticks.is_next ticks.within within.lines in
      subst (λ x. IsWithin last x) (sym ticks.now) (record { until = omega (arith, bound); lines = within.lines })

  within_execution : {from : RunState} {happenings : List Happening} {to : RunState} → Execution ps last from happenings to
      → IsWithin last from → IsWithin last to
  within_execution begins within = within
  within_execution (goes {at = at} execution next to follows) within =
      within_next at next to follows (within_execution execution within)

-- the lines of a script are not past its end
lines_within : (system : SystemValue) (lines : List ScriptLine) → IsScript system lines
    → All (λ (line : ScriptLine). line.at ≤ end_of lines) lines
lines_within system lines script k d below =
    let before : (slice_index_or lines k d).at ≤ (slice_index_or lines (length lines - 1) d).at =
    script.in_order k (length lines - 1) d (omega (arith, below)) (omega (arith, below)) in
    let at_end : slice_get lines (length lines - 1) ≡ Some (slice_index_or lines (length lines - 1) d) =
    slice_get-get_or lines (length lines - 1) d (omega (arith, below)) in
    let is : end_of lines ≡ (slice_index_or lines (length lines - 1) d).at =
    ap (λ o. option_map_or (λ (line : ScriptLine). line.at) o 0) at_end in
    subst (λ n. (slice_index_or lines k d).at ≤ n) (sym is) before

begins_within : (system : SystemValue) (lines : List ScriptLine) → IsScript system lines
    → IsWithin (end_of lines) (beginning system lines)
begins_within system lines script =
    record { until = omega arith; lines = lines_within system lines script }

-- ---- a whole execution goes no further

module _ (ps : List Behaviour) (system : SystemValue) (lines : List ScriptLine) (limit : ℕ)
    (happenings : List Happening) (last : RunState) (end : ℕ) (whole : EndsWhole ps lines limit happenings last end)
    (g : RunState) (same : bare_whole last ≡ bare_whole g) (within : IsWithin (end_of lines) g) where
  fuses_late : All (λ (fuse : Fuse). end_of lines + 1 ≤ fuse.due) g.fuses
  fuses_late = subst (λ fs. IsNoFuseBefore (end_of lines + 1) fs) (ap (λ (x : RunState). x.fuses) same) whole.no_fuse

  heard_all : g.script ≡ []
  heard_all = sym (ap (λ (x : RunState). x.script) same) ∙ whole.heard

  no_tick : (due : Option ℕ) (time : ℕ) → IsLeast (map (λ (fuse : Fuse). fuse.due) g.fuses) due
      → earlier due (next_line []) ≡ Some time → time ≤ end_of lines → ⊥
  no_tick None time least is bound = none-some time is
  no_tick (Some at) time least is bound =
      let same : at ≡ time = cc in
      let late : end_of lines + 1 ≤ at =
      All-contains (λ t. end_of lines + 1 ≤ t) (map (λ (fuse : Fuse). fuse.due) g.fuses) at
      (All-map (λ t. end_of lines + 1 ≤ t) (λ (fuse : Fuse). fuse.due) g.fuses fuses_late) least.0 in
      omega (arith, same, late, bound)

  pub whole_stops : (next : Happening) (h : RunState) → Follows ps (end_of lines) g next h → ByNumber h.instances → ⊥
  whole_stops (Moved who deeds) h step lack =
      rest_clash ps g last who deeds h (sym same) whole.rest step (step_lacks ps (end_of lines) g who deeds h step lack)
  whole_stops (Expired fuse) h expires lack =
      let late : end_of lines + 1 ≤ fuse.due =
      All-head (λ (f : Fuse). end_of lines + 1 ≤ f.due) fuse expires.later
      (subst (λ fs. All (λ (f : Fuse). end_of lines + 1 ≤ f.due) fs) expires.first fuses_late) in
      omega (arith, late, expires.due, within.until)
  whole_stops (Heard line effects) h hears lack =
      let wrong : [] ≡ line ∷ hears.later = sym heard_all ∙ hears.next in let no_way : ⊥ = cc in no_way
  whole_stops (Ticked time) h ticks lack =
      no_tick ticks.due time ticks.least
      (subst (λ ls. earlier ticks.due (next_line ls) ≡ Some time) heard_all ticks.is_next) (ticks.within heard_all)

-- ---- of two that end a report neither is longer

module _ (ps : List Behaviour) (system : SystemValue) (lines : List ScriptLine) (limit : ℕ)
    (script : IsScript system lines) (happenings others : List Happening) (last end : RunState)
    (first : Execution ps (end_of lines) (beginning system lines) happenings last)
    (second : Execution ps (end_of lines) (beginning system lines) others end) (lack : ByNumber last.instances)
    (lack' : ByNumber end.instances) where
  -- after a cut there is no room for one transition more
  cut_stops : (before after : List Happening) (whole' : Bool) (time time' : ℕ) → EndsCut limit happenings last time
      → Ends whole' ps lines limit others end time' → others ≡ before ++ after
      → transitions_of happenings ≡ transitions_of before → 0 < length after → ⊥
  cut_stops before after true time time' cut whole is same some =
      let fewer : transitions_of others < limit = whole.fewer in
      let all : transitions_of others ≡ transitions_of (before ++ after) = ap transitions_of is in
      let parts = transitions_of-append before after in
      let many : transitions_of happenings ≡ limit = cut.as_many in
      omega (arith, fewer, all, parts, many, same)
  cut_stops before after false time time' cut other is same some =
      let all : transitions_of others ≡ transitions_of (before ++ after) = ap transitions_of is in
      let parts = transitions_of-append before after in
      let long = ap length is in
      let lengths = length-append before after in
      let many : transitions_of happenings ≡ limit = cut.as_many in
      let also : transitions_of others ≡ limit = other.as_many in
      elim other.in_transition [
        | inl none ↦ (let empty = ap length none in omega (arith, empty, long, lengths, some))
        | inr w ↦
            let counts : 1 ≤ transitions_of after =
            last_counts before after w.0 w.1 (sym is ∙ w.2) some w.3 in
            omega (arith, counts, all, parts, many, also, same)
      ]

  pub not_longer : (whole whole' : Bool) (time time' : ℕ) → Ends whole ps lines limit happenings last time
      → Ends whole' ps lines limit others end time' → length happenings < length others → ⊥
  not_longer whole whole' time time' ends ends' less =
      by_whole whole ends where
        parts : Parted ps (end_of lines) (beginning system lines) others end (length happenings)
        parts = parted ps (end_of lines) second (length happenings) (omega (arith, less))

        some : 0 < length parts.after
        some =
            let lengths = ap length parts.is ∙ length-append parts.before parts.after in
            let many = parts.many in omega (arith, lengths, many, less)

        alike : AreSame happenings parts.before last parts.mid
        alike =
            agree ps (end_of lines) (beginning system lines) first parts.first lack
            (before_execution ps (end_of lines) parts.mid parts.second lack') (sym parts.many)

        by_whole : (w : Bool) → Ends w ps lines limit happenings last time → ⊥
        by_whole true is_whole =
            let next : Headed ps (end_of lines) parts.mid end = headed ps (end_of lines) parts.second some in
            whole_stops ps system lines limit happenings last time is_whole parts.mid alike.whole
            (within_execution ps (end_of lines) parts.first (begins_within system lines script)) next.next next.state
            next.follows (before_execution ps (end_of lines) next.state next.rest lack')
        by_whole false cut =
            cut_stops parts.before parts.after whole' time time' cut ends' parts.is
            (transitions_same happenings parts.before alike.happened) some
