-- What the calls of a port leave coherent, and of its sets.
use Rattle.std.proofs.Common.{◌≡◌, ℕ, ◌+◌, ◌≤◌, Bool, true, false, List, [], ◌∷◌, ◌++◌, length, Option, Some, None, MatchOption, subst, sym, ap, ◌∙◌, refl, arith}
use Rattle.std.specs.Prelude.{filter, IfSome}
use Rattle.std.proofs.lemmas.List.Elements.{All-filter, All-nil, All-push, All-weaker}
use Rattle.port_model.specs.declared.values.timer_key.TimerKey.{TimerKey}
use Rattle.port_model.specs.declared.timer.ActiveTimer.{ActiveTimer}
use Rattle.port_model.specs.declared.got.Got.{Got}
use Rattle.port_model.specs.declared.selection.Class.{Class}
use Rattle.port_model.specs.declared.got.Got.TheVariants.{Signal, Timer}
use Rattle.port_model.specs.Backlog.{waiting_in, BacklogValue, IsHead, Leaves}
use Rattle.port_model.specs.Coherence.{has_key, runs_by, IsCoherent}
use Rattle.port_model.specs.PlainPort.{AreUpTo, PlainPortValue}
use Rattle.port_model.specs.Port.{remove_from, set_in}
use Rattle.port_model.specs.Take.{HasClass, IsSaved}
use Rattle.port_model.specs.Timers.{after_taking, armed_after, is_signal_of, waits, with_armed, with_running, without_armed, without_key, without_signal, Armed}
use Rattle.port_model.proofs.Coherence.{coherent_between, coherent_is}
use Rattle.port_model.proofs.Lists.{none_counted, none_left}

-- where a timer has no signal that waits, nothing is taken out
all_run : (key : TimerKey) (timers : List ActiveTimer) → waits key timers ≡ false
    → length (filter (runs_by key) timers) ≡ length (filter (has_key key) timers)
all_run key [] none = refl
all_run key (timer ∷ timers) none = grind (arith, all_run key timers)

pub no_signal : (key : TimerKey) (waiting : List Got) (timers : List ActiveTimer) → IsCoherent waiting timers → waits key timers ≡ false
    → without_signal key waiting ≡ waiting
no_signal key waiting timers is none =
    let counts = (is key).waits in let run = all_run key timers none in
    none_left (is_signal_of key) waiting (none_counted (is_signal_of key) waiting (omega arith))

-- the signal of a timer waits once at most
pub waits_once : {waiting : List Got} {timers : List ActiveTimer} → IsCoherent waiting timers → (key : TimerKey)
    → length (filter (is_signal_of key) waiting) ≤ 1
waits_once is key = let counts = (is key).waits in let one = (is key).one in omega arith

pub all_wait_once : {waiting : List Got} {timers : List ActiveTimer} → IsCoherent waiting timers → (back : Option TimerKey)
    → IfSome back (λ key. length (filter (is_signal_of key) waiting) ≤ 1)
all_wait_once is None = tt
all_wait_once is (Some key) = waits_once is key

-- what a set takes out of what waits
pub signal_out : (key : TimerKey) (waiting now : List Got) (timers : List ActiveTimer) (back : Option TimerKey) → IsCoherent waiting timers
    → MatchOption back (waits key timers ≡ false) (λ k. (k ≡ key) × (waits key timers ≡ true))
    → MatchOption back (now ≡ waiting) (λ k. now ≡ without_signal k waiting) → now ≡ without_signal key waiting
signal_out key waiting now timers None is none same = same ∙ sym (no_signal key waiting timers is none)
signal_out key waiting now timers (Some k) is has left = left ∙ ap (λ j. without_signal j waiting) has.0

-- the numbers of the sets
pub fewer_sets : (sets : ℕ) (key : TimerKey) (armed : List Armed) {now : List Armed} → now ≡ without_armed key armed → AreUpTo sets armed → AreUpTo sets now
fewer_sets sets key armed same all = rw same (All-filter _ (λ (a : Armed). a.arm ≤ sets) armed all)

pub one_set_more : (sets : ℕ) (key : TimerKey) (due : ℕ) (armed : List Armed) {now : List Armed}
    → now ≡ with_armed key (sets + 1) due armed → AreUpTo sets armed → AreUpTo (sets + 1) now
one_set_more sets key due armed same all =
    rw same (All-push (λ (a : Armed). a.arm ≤ sets + 1) (without_armed key armed) (record { key = key; arm = sets + 1; due = due })
    (All-weaker (λ (a : Armed). a.arm ≤ sets) (λ (a : Armed). a.arm ≤ sets + 1) (λ a le. omega (arith, le)) (without_armed key armed)
    (fewer_sets sets key armed refl all)) (omega arith))

-- an entry that was taken out, with its timer
pub sets_left : (sets : ℕ) (got : Got) (armed : List Armed) {now : List Armed} → now ≡ armed_after got armed → AreUpTo sets armed → AreUpTo sets now
sets_left sets (Signal item) armed same all = rw same all
sets_left sets (Timer key) armed same all = fewer_sets sets key armed same all

pub coherent_left : {Passed : Got → Type 0} {old now : List Got} {got : Got} {timers then : List ActiveTimer} → Leaves Passed old got now
    → then ≡ after_taking got timers → IsCoherent old timers → IsCoherent now then
coherent_left {now = now} {got} {timers} {then} l same is =
    coherent_is now (l.before ++ l.after) then (after_taking got timers) l.now same
    (coherent_between l.before l.after got timers (subst (λ w. IsCoherent w timers) l.was is))

-- just the first entry is taken out
pub head_leaves : {classes : List Class} {c : Class} (old new : BacklogValue) (got : Got) → IsHead classes old c → old.rest ≡ got ∷ new.rest
    → new.passed ≡ [] → Leaves (IsSaved classes) (waiting_in old) got (waiting_in new) × HasClass c classes got
head_leaves {classes} {c} old new got head taken none =
    let first = head.rest in let here : head.got ≡ got = cc in (
      record {
        before = [];
        after = new.rest;
        was = ap (λ l. l ++ old.rest) head.passed ∙ taken;
        passed = All-nil (IsSaved classes);
        now = ap (λ l. l ++ new.rest) none;
      },
      subst (HasClass c classes) here head.has,
    )

-- a port out of which a timer was taken, and one where it is set
module _ (key : TimerKey) {waiting now : List Got} {timers then : List ActiveTimer} {sets room : ℕ} {alive : Bool} {armed : List Armed} {v : PlainPortValue} where
  pub state_without : record { state = record { waiting = waiting; timers = timers; sets = sets; alive = alive }; armed = armed; room = room } ≡ v
      → now ≡ without_signal key waiting → then ≡ without_key key timers
      → record { waiting = now; timers = then; sets = sets; alive = alive } ≡ remove_from v.state key
  state_without view waits left = cc

  pub state_set : (due : ℕ) → record { state = record { waiting = waiting; timers = timers; sets = sets; alive = alive }; armed = armed; room = room } ≡ v
      → now ≡ without_signal key waiting → then ≡ with_running key (sets + 1) due timers
      → record { waiting = now; timers = then; sets = sets + 1; alive = alive } ≡ set_in v.state key due
  state_set due view waits left = cc
