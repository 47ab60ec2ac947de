-- What the calls of a backlog leave of what waits there.
use Rattle.std.proofs.Common.{◌≡◌, ℕ, ◌+◌, ◌<◌, ◌≤◌, true, false, List, [], ◌∷◌, ◌++◌, not, length, length-append, get_or, drop, All, subst, sym, ap, ◌∙◌, arith, append_assoc}
use Rattle.std.specs.Prelude.{Bool, filter, MatchBool, MatchOption, Option, Some, None}
use Rattle.std.specs.List.{remove}
use Rattle.std.proofs.lemmas.List.{get_or_at}
use Rattle.std.proofs.lemmas.Map.Entries.{length-values_of}
use Rattle.std.proofs.lemmas.List.Elements.{filter-append, All-append, All-push, All-weaker}
use Rattle.port_model.specs.declared.values.timer_key.TimerKey.{TimerKey}
use Rattle.port_model.specs.declared.selection.Class.{Class}
use Rattle.port_model.specs.declared.selection.Class.TheVariants as class
use Rattle.port_model.specs.declared.wanted.Wanted.TheVariants as wanted
use Rattle.port_model.specs.declared.got.Got.{Got}
use Rattle.port_model.specs.Backlog.{waiting_in, BacklogValue, Leaves, Passes}
use Rattle.port_model.specs.Passed.{gots_in, holds_signal_of, Standing}
use Rattle.port_model.specs.Search.{IsFirst}
use Rattle.port_model.specs.Selection.{class_of}
use Rattle.port_model.specs.Take.{name_of, HasClass, IsOrdinary, IsSaved}
use Rattle.port_model.specs.Timers.{is_signal_of, without_signal}
use Rattle.port_model.specs.Wanted.{is_wanted, IsUnwanted, IsWanted}
use Rattle.port_model.proofs.Lists.{none_counted, none_left, none_pushed, some_counted}
use Rattle.port_model.proofs.Searches.{remove-append}

-- ---- the classes that a look is for
pub not_priority : (c : Class) → is_wanted wanted.Priority c ≡ false → c ≡ class.Priority → ⊥
not_priority c unwanted is = let e : is_wanted wanted.Priority class.Priority ≡ false = subst (λ c. is_wanted wanted.Priority c ≡ false) is unwanted in cc

pub is_priority : (c : Class) → is_wanted wanted.Priority c ≡ true → c ≡ class.Priority
is_priority c here = grind arith

pub is_saved : (c : Class) → is_wanted wanted.Unsaved c ≡ false → c ≡ class.Saved
is_saved c unwanted = grind arith

pub not_saved : (c : Class) → is_wanted wanted.Unsaved c ≡ true → c ≡ class.Saved → ⊥
not_saved c here is = let e : is_wanted wanted.Unsaved class.Saved ≡ true = subst (λ c. is_wanted wanted.Unsaved c ≡ true) is here in cc

-- ---- an entry is taken out
leaves_as : {P Q : Got → Type 0} {old new : List Got} {got : Got} → ((g : Got) → P g → Q g) → Leaves P old got new → Leaves Q old got new
leaves_as {P} {Q} h l = record { before = l.before; after = l.after; was = l.was; passed = All-weaker P Q h l.before l.passed; now = l.now }

-- one that was passed over: what stands behind those stays
pub leaves_passed : {P : Got → Type 0} {old new : List Got} {got : Got} (rest : List Got) → Leaves P old got new → Leaves P (old ++ rest) got (new ++ rest)
leaves_passed {got = got} rest l = record {
  before = l.before;
  after = l.after ++ rest;
  was = ap (λ w. w ++ rest) l.was ∙ append_assoc l.before (got ∷ l.after) rest;
  passed = l.passed;
  now = ap (λ w. w ++ rest) l.now ∙ append_assoc l.before l.after rest;
}

-- one of the rest, where none that was passed over or stands before it is wanted
pub leaves_rest : (P W : Got → Type 0) (passed rest : List Got) {old now : List Got} {place : ℕ} {got : Got} → passed ++ rest ≡ old → All P passed
    → IsFirst P W rest place → got ≡ get_or rest place got → now ≡ remove rest place → Leaves P old got (passed ++ now) × W got
leaves_rest P W passed rest {now = now} {place} {got} whole all first is left =
    let was = first.was in let at = first.at in
    let entry : got ≡ first.got = is ∙ ap (λ l. get_or l place got) was ∙ get_or_at first.before first.got first.after got place at in
    let without = remove-append first.before first.got first.after place at in
    let old_parts = append_assoc passed first.before (first.got ∷ first.after) in let new_parts = append_assoc passed first.before first.after in (
      record { before = passed ++ first.before; after = first.after; was = cc; passed = All-append P passed first.before all first.passed; now = cc },
      subst W (sym entry) first.wanted,
    )

-- a take of a priority input's entry, and one of an entry that isn't saved
module _ (classes : List Class) (old new : List Got) where
  pub priority_taken : (result : Option Got) → MatchOption result ((new ≡ old) × All (IsUnwanted wanted.Priority classes) new)
      (λ got. Leaves (IsUnwanted wanted.Priority classes) old got new × IsWanted wanted.Priority classes got)
      → MatchOption result ((new ≡ old) × All (IsOrdinary classes) new) (λ got. Leaves (IsOrdinary classes) old got new × HasClass class.Priority classes got)
  priority_taken None is = (
    is.0,
    All-weaker (IsUnwanted wanted.Priority classes) (IsOrdinary classes) (λ g is. not_priority (class_of classes (name_of g)) is) new is.1,
  )
  priority_taken (Some got) is = (
    leaves_as (λ g is. not_priority (class_of classes (name_of g)) is) is.0,
    is_priority (class_of classes (name_of got)) is.1,
  )

  pub unsaved_left : All (IsUnwanted wanted.Unsaved classes) new → All (IsSaved classes) new
  unsaved_left all = All-weaker (IsUnwanted wanted.Unsaved classes) (IsSaved classes) (λ g is. is_saved (class_of classes (name_of g)) is) new all

  pub unsaved_taken : {got : Got} → Leaves (IsUnwanted wanted.Unsaved classes) old got new → Leaves (IsSaved classes) old got new
  unsaved_taken l = leaves_as (λ g is. is_saved (class_of classes (name_of g)) is) l

-- ---- an entry is passed over
module _ {old new : BacklogValue} (p : Passes old new) where
  pub same_waits : waiting_in new ≡ waiting_in old
  same_waits =
      ap (λ l. l ++ new.rest) p.passed ∙ append_assoc old.passed (p.got ∷ []) new.rest ∙ sym (ap (λ l. old.passed ++ l) p.rest)

  -- it is the one that was looked at
  looked_at : (got : Got) → got ≡ get_or old.rest 0 got → got ≡ p.got
  looked_at got is = is ∙ ap (λ l. get_or l 0 got) p.rest

  pub all_passed_are : (P : Got → Type 0) (got : Got) → got ≡ get_or old.rest 0 got → P got → All P old.passed → All P new.passed
  all_passed_are P got is here all =
      subst (All P) (sym p.passed) (All-push P old.passed p.got all (subst P (looked_at got is) here))

  pub none_passed_is : (key : TimerKey) (got : Got) → got ≡ get_or old.rest 0 got → is_signal_of key got ≡ false
      → holds_signal_of key old.passed ≡ false → holds_signal_of key new.passed ≡ false
  none_passed_is key got is other none =
      let mine : is_signal_of key p.got ≡ false = subst (λ g. is_signal_of key g ≡ false) (looked_at got is) other in
      ap (holds_signal_of key) p.passed ∙ none_pushed (is_signal_of key) old.passed p.got none mine

-- whether it was passed over or not
pub passes_unwanted : (P : Got → Type 0) (result : Bool) (old new : BacklogValue) (got : Got)
    → MatchBool result (Passes old new) ((new.passed ≡ old.passed) × (new.rest ≡ old.rest)) → got ≡ get_or old.rest 0 got → P got
    → All P old.passed → All P new.passed
passes_unwanted P true old new got p is here all = all_passed_are p P got is here all
passes_unwanted P false old new got same is here all = subst (All P) (sym same.0) all

-- ---- the signal of a timer goes, which waits once at most
module _ (key : TimerKey) (passed rest : List Got) (once : length (filter (is_signal_of key) (passed ++ rest)) ≤ 1) where
  counts : length (filter (is_signal_of key) (passed ++ rest)) ≡ length (filter (is_signal_of key) passed) + length (filter (is_signal_of key) rest)
  counts = ap length (filter-append (is_signal_of key) passed rest) ∙ length-append (filter (is_signal_of key) passed) (filter (is_signal_of key) rest)

  -- it was passed over
  pub forgot_passed : {now : List Got} → holds_signal_of key passed ≡ true → now ≡ without_signal key passed → now ++ rest ≡ without_signal key (passed ++ rest)
  forgot_passed holds is =
      let some = some_counted (is_signal_of key) passed holds in let both = counts in
      let none = none_left (is_signal_of key) rest (none_counted (is_signal_of key) rest (omega arith)) in
      ap (λ l. l ++ rest) is ∙ sym (filter-append (λ g. not (is_signal_of key g)) passed rest ∙ ap (λ l. without_signal key passed ++ l) none)

  -- it was not
  pub forgot_rest : {now : List Got} → holds_signal_of key passed ≡ false → now ≡ without_signal key rest → passed ++ now ≡ without_signal key (passed ++ rest)
  forgot_rest none is =
      ap (λ l. passed ++ l) is ∙ sym (filter-append (λ g. not (is_signal_of key g)) passed rest
      ∙ ap (λ l. l ++ without_signal key rest) (none_left (is_signal_of key) passed none))

  pub once_in_rest : length (filter (is_signal_of key) rest) ≤ 1
  once_in_rest = let both = counts in omega arith

-- no more is left than there was
fewer_kept : (key : TimerKey) (gots : List Got) → length (without_signal key gots) ≤ length gots
fewer_kept key [] = omega arith
fewer_kept key (got ∷ gots) = grind (arith, fewer_kept key gots)

pub fewer_left : (key : TimerKey) (entries now : List Standing) → gots_in now ≡ without_signal key (gots_in entries) → length now ≤ length entries
fewer_left key entries now left =
    let fewer = fewer_kept key (gots_in entries) in let before = length-values_of entries in let after = length-values_of now in
    let same = ap length left in omega arith

pub forgot_first : (key : TimerKey) (got : Got) (waiting : List Got) → 0 < length waiting → got ≡ get_or waiting 0 got
    → length (filter (is_signal_of key) waiting) ≤ 1 → is_signal_of key got ≡ true → drop 1 waiting ≡ without_signal key waiting
forgot_first key got [] some is once its = absurd (omega (arith, some))
forgot_first key got (first ∷ rest) some is once its =
    let here : is_signal_of key first ≡ true = ap (is_signal_of key) (sym is) ∙ its in
    let none = none_left (is_signal_of key) rest (none_counted (is_signal_of key) rest (grind arith)) in grind arith
