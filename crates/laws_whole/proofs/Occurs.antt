-- Each happening of a run, with the run that comes before it.
use Rattle.std.proofs.Common.{◌≡◌, ◌∙◌, ◌++◌, ap, append_assoc, arith, if◌then◌else◌, refl, sym, ℕ, Bool, true, false, All, List, [], ◌∷◌, nat_eq}
use Rattle.std.proofs.lemmas.List.Elements.{All-append, All-cons, All-head, All-nil, All-tail, All-weaker}
use Rattle.run_semantics.specs.Effect.{Deed}
use Rattle.sdl_script.specs.declared.script.ScriptLine.{ScriptLine}
use Rattle.sdl_system.specs.Behaviour.{Behaviour}
use Rattle.sdl_system.specs.System.{SystemValue}
use Rattle.serial_order.specs.Execution.{Execution, Expired, Follows, Happening, Heard, Moved, Ticked, begins, goes}
use Rattle.serial_order.specs.RunState.{RunState, beginning}
use Rattle.serial_order.specs.Told.{deeds_of, deeds_of_one}

module _ (ps : List Behaviour) (system : SystemValue) (lines : List ScriptLine) (time : ℕ) where
  -- it happens in a run, behind these happenings
  pub record Occurs (happenings : List Happening) (next : Happening) : Type 0 where
    pub before : List Happening
    pub after : List Happening
    pub at : RunState
    pub to : RunState
    pub parted : happenings ≡ before ++ next ∷ after
    pub execution : Execution ps time (beginning system lines) before at
    pub follows : Follows ps time at next to

  occurs_still : (happenings : List Happening) (more next : Happening) → Occurs happenings next
      → Occurs (happenings ++ more ∷ []) next
  occurs_still happenings more next occurs = record {
    before = occurs.before;
    after = occurs.after ++ more ∷ [];
    at = occurs.at;
    to = occurs.to;
    parted = ap (λ (l : List Happening). l ++ more ∷ []) occurs.parted
        ∙ append_assoc occurs.before (next ∷ occurs.after) (more ∷ []);
    execution = occurs.execution;
    follows = occurs.follows;
  }

  pub all_occur : {happenings : List Happening} {last : RunState}
      → Execution ps time (beginning system lines) happenings last → All (Occurs happenings) happenings
  all_occur begins = All-nil (Occurs [])
  all_occur (goes {happenings = happenings} {at = at} execution next to follows) =
      All-append (Occurs (happenings ++ next ∷ [])) happenings (next ∷ [])
      (All-weaker (Occurs happenings) (Occurs (happenings ++ next ∷ [])) (occurs_still happenings next) happenings
      (all_occur execution))
      (All-cons (Occurs (happenings ++ next ∷ [])) next [] (record {
        before = happenings;
        after = [];
        at = at;
        to = to;
        parted = refl;
        execution = execution;
        follows = follows;
      }) (All-nil (Occurs (happenings ++ next ∷ []))))

-- ---- the deeds of one instance

eq_of : (m n : ℕ) → nat_eq m n ≡ true → m ≡ n
eq_of m n same = grind (arith, same)

-- this is so of the deeds of an instance, where it makes the step
abbrev pub OfDeeds : ℕ → (Deed → Type 0) → Happening → Type 0
OfDeeds n P (Moved who deeds) = who.pid ≡ n → All P deeds
OfDeeds n P (Expired fuse) = Unit {0}
OfDeeds n P (Heard line effects) = Unit {0}
OfDeeds n P (Ticked time) = Unit {0}

module _ (n : ℕ) (P : Deed → Type 0) where
  one_all : (happened : Happening) → OfDeeds n P happened → All P (deeds_of_one n happened)
  one_all (Moved who deeds) all = by_test (nat_eq who.pid n) refl where
    by_test : (b : Bool) → nat_eq who.pid n ≡ b → All P (if b then deeds else [])
    by_test true same = all (eq_of who.pid n same)
    by_test false other = All-nil P
  one_all (Expired fuse) all = All-nil P
  one_all (Heard line effects) all = All-nil P
  one_all (Ticked time) all = All-nil P

  pub deeds_all : (happenings : List Happening) → All (OfDeeds n P) happenings → All P (deeds_of n happenings)
  deeds_all [] all = All-nil P
  deeds_all (first ∷ rest) all =
      All-append P (deeds_of_one n first) (deeds_of n rest) (one_all first (All-head (OfDeeds n P) first rest all))
      (deeds_all rest (All-tail (OfDeeds n P) first rest all))

pub deeds_of-append : (n : ℕ) (first later : List Happening)
    → deeds_of n (first ++ later) ≡ deeds_of n first ++ deeds_of n later
deeds_of-append n [] later = refl
deeds_of-append n (happened ∷ rest) later =
    ap (λ (list : List Deed). deeds_of_one n happened ++ list) (deeds_of-append n rest later)
    ∙ sym (append_assoc (deeds_of_one n happened) (deeds_of n rest) (deeds_of n later))
