-- What a look-up in the table tells, and what its changes make of the lists that callers see.
use Rattle.std.proofs.Common.{◌≡◌, ℕ, ◌<◌, ◌≤◌, ◌==◌, Bool, true, false, not, ◌&&◌, ◌||◌, cond, List, [], ◌∷◌, ◌++◌, length, map, Some, None, All, subst, sym, ap, ◌∙◌, refl, arith}
use Rattle.std.specs.Prelude.{filter, is_some, nat_le, nat_eq}
use Rattle.std.specs.List.{list_any}
use Rattle.std.specs.Map.{lookup, remove_entry, set_value}
use Rattle.std.specs.BTreeMap.{is_at, insert_entry}
use Rattle.std.specs.BTreeMap.Range.{IsLeBy}
use Rattle.std.proofs.lemmas.Map.Steps.{set_value_same}
use Rattle.std.specs.Ordering.{match_ordering, nat_cmp, is_eq}
use Rattle.std.specs.Cmp.{both_tied, unsigned_ties}
use Rattle.std.specs.declared.cmp.Ordering.TheVariants.{Less, Equal, Greater}
use Rattle.std.proofs.lemmas.List.{map_push}
use Rattle.std.proofs.lemmas.List.Folds.{list_any_at, list_any_none, Any-from_list_any}
use Rattle.std.proofs.lemmas.Bool.{eqb-true}
use Rattle.std.proofs.lemmas.Cmp.{nat_eq_equiv}
use Rattle.std.proofs.lemmas.Map.Views.{All-from_any, Contains-from_any}
use Rattle.std.proofs.lemmas.List.Elements.{All-weaker}
use Rattle.std.proofs.lemmas.Bool.Decides.{nat_tests, same_from_decides, Decides-like}
use Rattle.port_model.specs.declared.deadline.Deadline.{Deadline}
use Rattle.port_model.specs.declared.timer.ActiveTimer.{ActiveTimer}
use Rattle.port_model.specs.declared.timer.Phase.TheVariants.{Running}
use Rattle.port_model.specs.declared.values.timer_key.TimerKey.{TimerKey}
use Rattle.port_model.specs.declared.timers.Timer.{Timer}
use Rattle.port_model.specs.Table.{Kept, active_of, armed_of, put_in, in_order, is_of, is_set_by, is_until, runs_until, deadline_at, deadline_order, phase_of, IsTable, TimersValue}
use Rattle.port_model.specs.Timers.{same_key, key_order, same_phase, due_times, is_active, is_running, is_set, waits, with_armed, with_running, with_waiting, without_key, armed_for, without_armed, is_armed, Armed, IsLeast}
use Rattle.port_model.specs.Coherence.{has_key}
use Rattle.port_model.proofs.Keys.{same_itself, same_key-Decides, key_order-Decides}
use Rattle.port_model.proofs.Lists.{With, first, later, alone_kept, alone_tested, any_implied, any_with, count_with, none_counted, none_implied, none_kept, none_left, none_tested, others_left, with_map}
use Rattle.port_model.proofs.Ordered.{any_in_order, any_viewed, last_in_order, late, no_set_yet, order_is, with_order, Below}

abbrev pub at : TimerKey → TimerKey → Bool
at key = is_at (key_order key)

at_is : (key k : TimerKey) → at key k ≡ same_key k key
at_is key k = same_from_decides (at key k) (same_key k key) (key_order-Decides key k) (Decides-like (same_key k key) sym sym (same_key-Decides k key))

abbrev pub timers_of : List Kept → List ActiveTimer
timers_of entries = map active_of (in_order entries)

abbrev pub armed_in : List Kept → List Armed
armed_in entries = map armed_of (in_order entries)

abbrev pub view_of : List Kept → TimersValue
view_of entries = record { timers = timers_of entries; armed = armed_in entries }

-- whether some entry is of a key is whether a look-up finds one
pub looked_up : (key : TimerKey) (entries : List Kept) → is_some (lookup (at key) entries) ≡ list_any (is_of key) entries
looked_up key [] = refl
looked_up key (e ∷ es) = grind (arith, looked_up key es, at_is key e.0)

pub active_is : (key : TimerKey) (entries : List Kept) → is_some (lookup (at key) entries) ≡ is_active key (timers_of entries)
active_is key entries = looked_up key entries ∙ sym (any_viewed active_of (λ timer. same_key timer.key key) entries)

-- a timer's entry, and one more, among the others
pub set_with : (key : TimerKey) (value : Timer) (entries : List Kept) (timer : Timer) → lookup (at key) entries ≡ Some timer
    → With (key, value) (remove_entry (at key) entries) (set_value (at key) entries value)
set_with key value [] timer is = absurd cc
set_with key value (e ∷ es) timer is =
    elim (at key e.0) as (λ b. at key e.0 ≡ b → cond b (Some e.1) (lookup (at key) es) ≡ Some timer
    → With (key, value) (cond b es (e ∷ remove_entry (at key) es)) (cond b ((e.0, value) ∷ es) (e ∷ set_value (at key) es value))) [
      | true ↦ (λ here _. subst (λ k. With (key, value) es ((k, value) ∷ es)) ((key_order-Decides key e.0).0 here) (first es))
      | false ↦ (λ _ further. later e (remove_entry (at key) es) (set_value (at key) es value) (set_with key value es timer further))
    ] refl is

pub insert_with : (key : TimerKey) (value : Timer) (entries : List Kept) → lookup (at key) entries ≡ None
    → With (key, value) entries (insert_entry key_order entries key value)
insert_with key value [] none = first []
insert_with key value (e ∷ es) none =
    elim (key_order key e.0) as (λ o. cond (is_eq o) (Some e.1) (lookup (at key) es) ≡ None
    → With (key, value) (e ∷ es) (match_ordering o ((key, value) ∷ e ∷ es) ((e.0, value) ∷ es) (e ∷ insert_entry key_order es key value))) [
      | Less ↦ (λ _. first (e ∷ es))
      | Equal ↦ (λ some. absurd cc)
      | Greater ↦ (λ further. later e es (insert_entry key_order es key value) (insert_with key value es further))
    ] none

pub phase_running : (timer : Timer) (arm due : ℕ)
    → same_phase (phase_of timer) (Running arm due) ≡ (not timer.waits && (timer.arm == arm && timer.due == due))
phase_running timer arm due = grind arith

pub phase_waits : (timer : Timer) → not (is_set (phase_of timer)) ≡ timer.waits
phase_waits timer = grind arith

-- deadlines are the same by time and set, and so a timer runs until one
at_deadline : (d x : Deadline) → is_at (deadline_order d) x ≡ (d.due == x.due && d.arm == x.arm)
at_deadline d x = sym (both_tied _ _ (nat_cmp d.due x.due) (nat_cmp d.arm x.arm) (unsigned_ties d.due x.due) (unsigned_ties d.arm x.arm))

until_is : (timer : Timer) (d : Deadline) → is_until timer d ≡ (not timer.waits && (timer.due == d.due && timer.arm == d.arm))
until_is timer d = ap (λ b. not timer.waits && b) (at_deadline (deadline_at timer.due timer.arm) d)

-- a table and one with one entry more
module _ (key : TimerKey) (timer : Timer) (rest all : List Kept) (w : With (key, timer) rest all) where
  pub table_with : (due now : Deadline → Bool) → IsTable rest due → list_any (is_of key) rest ≡ false → list_any (is_set_by timer.arm) rest ≡ false
      → ((d : Deadline) → now d ≡ (is_until timer d || due d)) → IsTable all now
  table_with due now table no_key no_set is = record {
    keys = λ k. let one = table.keys k in let counts = count_with (is_of k) w in
        let none : same_key key k ≡ true → length (filter (is_of k) rest) ≡ 0 =
        λ same. ap length (none_kept (is_of k) rest (subst (λ j. list_any (is_of j) rest ≡ false) ((same_key-Decides key k).0 same) no_key)) in
        grind arith;
    arms = λ arm. let one = table.arms arm in let counts = count_with (is_set_by arm) w in
        let none : timer.arm ≡ arm → length (filter (is_set_by arm) rest) ≡ 0 =
        λ same. ap length (none_kept (is_set_by arm) rest (subst (λ j. list_any (is_set_by j) rest ≡ false) same no_set)) in
        grind (arith, nat_tests);
    runs = λ d. is d ∙ ap (λ b. is_until timer d || b) (table.runs d) ∙ ap (λ b. b || list_any (runs_until d) rest) (until_is timer d)
        ∙ sym (any_with (runs_until d) w);
  }

  module _ (due : Deadline → Bool) (table : IsTable all due) where
    pub none_of_key : list_any (is_of key) rest ≡ false
    none_of_key =
        let one = table.keys key in let counts = count_with (is_of key) w in let here = same_itself key in
        none_counted (is_of key) rest (grind arith)

    pub none_of_set : list_any (is_set_by timer.arm) rest ≡ false
    none_of_set =
        let one = table.arms timer.arm in let counts = count_with (is_set_by timer.arm) w in
        none_counted (is_set_by timer.arm) rest (grind (arith, nat_tests))

    pub table_without : (now : Deadline → Bool) → ((d : Deadline) → now d ≡ cond (is_until timer d) false (due d)) → IsTable rest now
    table_without now is = record {
      keys = λ k. let one = table.keys k in omega (arith, count_with (is_of k) w);
      arms = λ arm. let one = table.arms arm in omega (arith, count_with (is_set_by arm) w);
      runs = λ d. let now_is = is d in let was = table.runs d in let one = any_with (runs_until d) w in let until = until_is timer d in
          let none : runs_until d (key, timer) ≡ true → list_any (runs_until d) rest ≡ false =
          λ here. none_implied (runs_until d) (is_set_by timer.arm) (λ e runs. grind (arith, nat_tests)) rest none_of_set in
          grind arith;
    }

-- What a table tells of a key: whether its timer is active and what its set gave, whether its signal waits, by which sets it runs
-- and until when, and the entries of the others.
pub record Tells (key : TimerKey) (v : TimersValue) (active : Bool) (armed : List Armed) (waiting : Bool) (runs : ℕ → ℕ → Bool)
    (others : List Kept) : Type 0 where
  pub is_active : is_active key v.timers ≡ active
  pub is_armed : armed_for key v.armed ≡ armed
  pub is_waiting : waiting ≡ waits key v.timers
  pub is_running : (arm due : ℕ) → runs arm due ≡ is_running key arm due v.timers
  pub timers : timers_of others ≡ without_key key v.timers
  pub sets : armed_in others ≡ without_armed key v.armed

tells_none : (key : TimerKey) (entries : List Kept) → list_any (is_of key) entries ≡ false
    → Tells key (view_of entries) false [] false (λ arm due. false) entries
tells_none key entries none =
    let timers = any_viewed active_of (has_key key) entries ∙ none in let armed = any_viewed armed_of (is_armed key) entries ∙ none in record {
      is_active = timers;
      is_armed = none_kept (is_armed key) (armed_in entries) armed;
      is_waiting = sym (none_tested (has_key key) (λ timer. not (is_set timer.phase)) (timers_of entries) timers);
      is_running = λ arm due. sym (none_tested (has_key key) (λ timer. same_phase timer.phase (Running arm due)) (timers_of entries) timers);
      timers = sym (none_left (has_key key) (timers_of entries) timers);
      sets = sym (none_left (is_armed key) (armed_in entries) armed);
    }

-- the sets of the table come before this one
abbrev pub AreBefore : ℕ → TimersValue → Type 0
AreBefore n v = All (λ (a : Armed). a.arm < n) v.armed

below_from_armed : (entries : List Kept) {v : TimersValue} → view_of entries ≡ v → (n : ℕ) → AreBefore n v → Below n entries
below_from_armed entries view n all =
    sym (any_viewed armed_of (λ a. nat_le n a.arm) entries)
    ∙ list_any_none (λ a. nat_le n a.arm) (armed_in entries)
    (All-weaker (λ (a : Armed). a.arm < n) (λ a. nat_le n a.arm ≡ false) (λ a lt. grind (arith, nat_tests)) (armed_in entries)
    (subst (AreBefore n) (sym view) all))

-- a timer that is set, and its entry beside others
abbrev pub set_to : ℕ → ℕ → Timer
set_to arm due = record { arm = arm; due = due; waits = false }

module _ (key : TimerKey) (arm due : ℕ) (rest now : List Kept) (w : With (key, set_to arm due) rest now) (below : Below arm rest) where
  set_timers : timers_of now ≡ timers_of rest ++ record { key = key; phase = Running arm due } ∷ []
  set_timers = ap (map active_of) (last_in_order w below) ∙ map_push active_of (in_order rest) (key, set_to arm due)

  set_armed : armed_in now ≡ armed_in rest ++ record { key = key; arm = arm; due = due } ∷ []
  set_armed = ap (map armed_of) (last_in_order w below) ∙ map_push armed_of (in_order rest) (key, set_to arm due)

  set_table : (was is : Deadline → Bool) → IsTable rest was → list_any (is_of key) rest ≡ false
      → ((d : Deadline) → is d ≡ (is_until (set_to arm due) d || was d)) → IsTable now is
  set_table was is table none = table_with key (set_to arm due) rest now w was is table none (no_set_yet arm rest below)

-- an expiry in the order of the sets
none_waiting : (key : TimerKey) (arm : ℕ) (timers : List ActiveTimer) → is_active key timers ≡ false → with_waiting key arm timers ≡ timers
none_waiting key arm [] none = refl
none_waiting key arm (timer ∷ timers) none = grind (arith, none_waiting key arm timers)

put_waiting : (key : TimerKey) (timer : Timer) (es : List Kept) → is_active key (map active_of es) ≡ false
    → map active_of (put_in (key, record timer { waits = true }) es) ≡ with_waiting key timer.arm (map active_of (put_in (key, timer) es))
put_waiting key timer [] none = grind (arith, same_itself key)
put_waiting key timer (e ∷ es) none =
    grind (arith, same_itself key, put_waiting key timer es, none_waiting key timer.arm (map active_of es))

put_same : (key : TimerKey) (timer : Timer) (es : List Kept)
    → map armed_of (put_in (key, record timer { waits = true }) es) ≡ map armed_of (put_in (key, timer) es)
put_same key timer [] = refl
put_same key timer (e ∷ es) = grind (arith, put_same key timer es)

-- where the key is in the table
module _ (key : TimerKey) {entries : List Kept} {due : Deadline → Bool} {v : TimersValue} (view : view_of entries ≡ v)
    (table : IsTable entries due) {timer : Timer} (is : Some timer ≡ lookup (at key) entries) where
  abbrev others : List Kept
  others = remove_entry (at key) entries

  it : With (key, timer) others entries
  it = subst (With (key, timer) others) (set_value_same (at key) entries timer (sym is)) (set_with key timer entries timer (sym is))

  no_key : list_any (is_of key) others ≡ false
  no_key = none_of_key key timer others entries it due table

  no_set : list_any (is_set_by timer.arm) others ≡ false
  no_set = none_of_set key timer others entries it due table

  pub has_timer : Tells key v true (armed_of (key, timer) ∷ []) timer.waits
      (λ arm due. not timer.waits && (timer.arm == arm && timer.due == due)) others
  has_timer =
      let same = same_itself key in let none = tells_none key others no_key in let ordered = with_order it no_set in
      let timers = with_map active_of ordered in let armed = with_map armed_of ordered in
      let no_armed = any_viewed armed_of (is_armed key) others ∙ no_key in
      subst (λ v. Tells key v true (armed_of (key, timer) ∷ []) timer.waits
      (λ arm due. not timer.waits && (timer.arm == arm && timer.due == due)) others) view (record {
        is_active = any_with (has_key key) timers ∙ ap (λ b. b || is_active key (timers_of others)) same;
        is_armed = alone_kept (is_armed key) armed same no_armed;
        is_waiting = sym (alone_tested (has_key key) (λ timer. not (is_set timer.phase)) timers same none.is_active ∙ phase_waits timer);
        is_running = λ arm due. sym (alone_tested (has_key key) (λ timer. same_phase timer.phase (Running arm due)) timers same none.is_active
            ∙ phase_running timer arm due);
        timers = sym (others_left (has_key key) timers same none.is_active);
        sets = sym (others_left (is_armed key) armed same no_armed);
      })

  pub removed_table : (now : Deadline → Bool) → ((d : Deadline) → now d ≡ cond (is_until timer d) false (due d)) → IsTable others now
  removed_table = table_without key timer others entries it due table

  -- a new set of it
  module _ (arm time : ℕ) (before : AreBefore arm v) where
    abbrev renewed : List Kept
    renewed = set_value (at key) entries (set_to arm time)

    again : With (key, set_to arm time) others renewed
    again = set_with key (set_to arm time) entries timer (sym is)

    older : (timer.arm < arm) × Below arm others
    older = let all : list_any (late arm) entries ≡ (late arm (key, timer) || list_any (late arm) others) = any_with (late arm) it in let below : Below arm entries = below_from_armed entries view arm before in grind (arith, nat_tests)

    pub renewed_lists : (timers_of renewed ≡ with_running key arm time v.timers) × (armed_in renewed ≡ with_armed key arm time v.armed)
    renewed_lists =
        let timers = set_timers key arm time others renewed again older.1 in let armed = set_armed key arm time others renewed again older.1 in
        let left = has_timer in (cc, cc)

    pub renewed_table : (mid now : Deadline → Bool) → ((d : Deadline) → mid d ≡ cond (is_until (set_to arm time) d) true (due d))
        → ((d : Deadline) → now d ≡ cond (is_until timer d) false (mid d)) → IsTable renewed now
    renewed_table mid now more less =
        set_table key arm time others renewed again older.1 (λ d. cond (is_until timer d) false (due d)) now (removed_table _ (λ d. refl)) no_key
        (λ d. let one = until_is timer d in let other = until_is (set_to arm time) d in let mid_is = more d in let now_is = less d in
        let lower = older.0 in grind (arith, nat_tests))

  -- its expiry
  abbrev expired : List Kept
  expired = set_value (at key) entries (record timer { waits = true })

  waits_now : With (key, record timer { waits = true }) others expired
  waits_now = set_with key (record timer { waits = true }) entries timer (sym is)

  pub expired_lists : (arm time : ℕ) → is_running key arm time v.timers ≡ true
      → (timers_of expired ≡ with_waiting key arm v.timers) × (armed_in expired ≡ v.armed)
  expired_lists arm time runs =
      let now = order_is waits_now no_set in let was = order_is it no_set in let armed = put_same key timer (in_order others) in
      let timers = put_waiting key timer (in_order others) ((tells_none key others no_key).is_active) in
      let same : timer.arm ≡ arm = let test = has_timer.is_running arm time in grind (arith, nat_tests) in (cc, cc)

  pub expired_table : (now : Deadline → Bool) → ((d : Deadline) → now d ≡ cond (is_until timer d) false (due d)) → IsTable expired now
  expired_table now h =
      table_with key (record timer { waits = true }) others expired waits_now now now (removed_table now h) no_key no_set (λ d. refl)

-- where it isn't
no_entry : (key : TimerKey) (entries : List Kept) → lookup (at key) entries ≡ None → list_any (is_of key) entries ≡ false
no_entry key entries is = sym (looked_up key entries) ∙ ap is_some is

pub has_none : (key : TimerKey) (entries : List Kept) {v : TimersValue} → view_of entries ≡ v → None ≡ lookup (at key) entries
    → Tells key v false [] false (λ arm due. false) entries
has_none key entries view is =
    subst (λ v. Tells key v false [] false (λ arm due. false) entries) view (tells_none key entries (no_entry key entries (sym is)))

module _ (key : TimerKey) (entries : List Kept) {v : TimersValue} (view : view_of entries ≡ v) (inactive : is_active key v.timers ≡ false)
    (arm due : ℕ) (before : AreBefore arm v) where
  abbrev added : List Kept
  added = insert_entry key_order entries key (set_to arm due)

  none : lookup (at key) entries ≡ None
  none = let found = active_is key entries in let no : is_active key (timers_of entries) ≡ false = cc in grind arith

  pub added_lists : (timers_of added ≡ with_running key arm due v.timers) × (armed_in added ≡ with_armed key arm due v.armed)
  added_lists =
      let w = insert_with key (set_to arm due) entries none in let below = below_from_armed entries view arm before in
      let timers = set_timers key arm due entries added w below in let armed = set_armed key arm due entries added w below in
      let same = has_none key entries view (sym none) in (cc, cc)

  pub added_table : (was now : Deadline → Bool) → IsTable entries was
      → ((d : Deadline) → now d ≡ cond (is_until (set_to arm due) d) true (was d)) → IsTable added now
  added_table was now table h =
      set_table key arm due entries added (insert_with key (set_to arm due) entries none) (below_from_armed entries view arm before)
      was now table (no_entry key entries none) (λ d. let now_is = h d in grind arith)

-- a set that was refused leaves the table as it was
pub undone_table : {entries : List Kept} {v : TimersValue} → view_of entries ≡ v → (was mid now : Deadline → Bool) (arm due : ℕ)
    → IsTable entries was → AreBefore arm v → ((d : Deadline) → mid d ≡ cond (is_until (set_to arm due) d) true (was d))
    → ((d : Deadline) → now d ≡ cond (is_until (set_to arm due) d) false (mid d)) → IsTable entries now
undone_table {entries} view was mid now arm due table before more less = record {
  keys = table.keys;
  arms = table.arms;
  runs = λ d. let now_is = less d in let mid_is = more d in let was_is = table.runs d in let until = until_is (set_to arm due) d in
      let none : d.arm ≡ arm → list_any (runs_until d) entries ≡ false =
      λ same. none_implied (runs_until d) (is_set_by arm) (λ e runs. grind (arith, nat_tests)) entries
      (no_set_yet arm entries (below_from_armed entries view arm before)) in
      grind (arith, nat_tests);
}

-- ---- the least due time
due_any : (n : ℕ) (entries : List Kept) → list_any (nat_eq n) (due_times (map active_of entries)) ≡ list_any (λ e. not e.1.waits && nat_eq n e.1.due) entries
due_any n [] = refl
due_any n (e ∷ es) = grind (arith, due_any n es)

empty_from_none : (ns : List ℕ) → ((n : ℕ) → list_any (nat_eq n) ns ≡ true → ⊥) → ns ≡ []
empty_from_none [] none = refl
empty_from_none (n ∷ ns) none = absurd (none n (grind (arith, nat_tests)))

module _ (entries : List Kept) (deadlines : List Deadline) (table : IsTable entries (λ d. list_any (is_at (deadline_order d)) deadlines)) where
  times_any : (n : ℕ) → list_any (nat_eq n) (due_times (timers_of entries)) ≡ list_any (λ e. not e.1.waits && nat_eq n e.1.due) entries
  times_any n = due_any n (in_order entries) ∙ any_in_order (λ e. not e.1.waits && nat_eq n e.1.due) entries

  -- a due time is that of a deadline
  deadline_any : (n : ℕ) → list_any (nat_eq n) (due_times (timers_of entries)) ≡ true → list_any (λ d. nat_eq n d.due) deadlines ≡ true
  deadline_any n is =
      let e = Any-from_list_any (λ e. not e.1.waits && nat_eq n e.1.due) entries (sym (times_any n) ∙ is) in
      let d : Deadline = deadline_at n e.1.1.arm in
      let here : runs_until d e.1 ≡ true = let due_is = e.4 in grind (arith, nat_tests) in
      any_implied (is_at (deadline_order d)) (λ x. nat_eq n x.due) (λ x same. let both = at_deadline d x in grind (arith, nat_tests)) deadlines
      (table.runs d ∙ list_any_at (runs_until d) entries e.0 e.1 e.2 (ap (runs_until d) e.3 ∙ here))

  pub least_none : (0 < length deadlines → false ≡ true) → IsLeast (due_times (timers_of entries)) None
  least_none none = empty_from_none (due_times (timers_of entries)) (λ n is.
      let d = Any-from_list_any (λ d. nat_eq n d.due) deadlines (deadline_any n is) in
      let some : false ≡ true = none (let within = d.2 in omega arith) in cc)

  pub least_first : (k : Deadline) → list_any (is_at (deadline_order k)) deadlines ≡ true → All (IsLeBy deadline_order k) deadlines
      → IsLeast (due_times (timers_of entries)) (Some k.due)
  least_first k member all = (
    Contains-from_any eqb-true k.due (due_times (timers_of entries))
        (times_any k.due ∙ any_implied (runs_until k) (λ e. not e.1.waits && nat_eq k.due e.1.due) (λ e runs. grind (arith, nat_tests)) entries
        (sym (table.runs k) ∙ member)),
    All-from_any nat_eq_equiv (λ other. k.due ≤ other) (due_times (timers_of entries)) (λ n is.
        let d = Any-from_list_any (λ d. nat_eq n d.due) deadlines (deadline_any n is) in
        let least = subst (IsLeBy deadline_order k) d.3 (all d.0 d.1 d.2) in let due_is = d.4 in grind (arith, nat_tests)),
  )
