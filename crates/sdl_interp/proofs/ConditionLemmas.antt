-- What the conditions of a state and of its continuous signals come to, one after the other.
use Rattle.std.proofs.Common.{◌≡◌, ◌⊎◌, ◌∙◌, ◌||◌, ⊎_elim, inl, inr, sym, ap, subst, refl, ℕ, zero, suc, ◌≤◌, Bool, true, false, List, [], ◌∷◌, ◌++◌, Option, None, Some, Result, Ok, Err, IfErr, IfOk, arith, drop, length, map, option_map, slice_get, le_of_eq, take}
use Rattle.std.specs.Borrow.{Bor}
use Rattle.std.specs.Slice.{IsItemAt}
use Rattle.std.proofs.lemmas.List.{take_all}
use Rattle.std.proofs.Math.ListN.{drop_of_length-le}
use Rattle.std.proofs.lemmas.Option.{same_Some, slice_get-get_or, slice_get-map}
use Rattle.std.proofs.lemmas.Slice.Zip.{AllZip-long}
use Rattle.std.specs.List.{AllZip, list_any}
use Rattle.run_record.specs.Environment.{Environment}
use Rattle.run_record.specs.Memory.{FailsAs, wants_memory}
use Rattle.run_record.specs.Value.{truth_at}
use Rattle.sdl_interp.specs.Condition.{are_conditions}
use Rattle.run_record.specs.declared.failure.Failure.{Failure}
use Rattle.run_record.specs.declared.failure.Failure.TheVariants.{Memory}
use Rattle.run_semantics.specs.Fails.{conditions_of}
use Rattle.run_semantics.specs.Selection.{begins, failing, fails, first_failure, none_true, tried, tried_or}
use Rattle.sdl_system.specs.Behaviour.{ContinuousSignal, MeansContinuous, condition_in}
use Rattle.sdl_system.specs.Term.{Term, term_of}
use Rattle.sdl_system.specs.declared.expression.Expression.{Expression}
use Rattle.sdl_system.specs.declared.id.ConditionId.{ConditionId}
use Rattle.sdl_system.specs.declared.id.NodeId.{NodeId}
use Rattle.sdl_system.specs.declared.process.Process.{Process}
use Rattle.sdl_system.specs.declared.state.Continuous.{Continuous}
use Rattle.sdl_system.specs.declared.state.Enabling.{Enabling}

-- ---- one condition

-- the expression that stands at the number of a condition is its term
pub term_found : (process : Process) (number : ConditionId) (expression : Expression) (term : Term)
    → slice_get process.conditions.items number.0 ≡ Some expression → condition_in process number ≡ Some term
    → term_of expression ≡ term
term_found process number expression term found is =
    same_Some (term_of expression) term (sym (ap (λ (o : Option Expression). option_map term_of o) found) ∙ is)

-- what a read of a list gave stands at its index
pub item_read : {X : Type 0} (xs : List X) (i : ℕ) (x : Bor X) → IsItemAt xs i (Some x) → slice_get xs i ≡ Some x.now
item_read xs i x read = slice_get-get_or xs i x.now read.3.0 ∙ ap Some (sym (read.4 (omega arith) x.now))

module _ (process : Process) (number : ConditionId) (expression : Expression) (here here' : Environment)
    (found : slice_get process.conditions.items number.0 ≡ Some expression) (same : here ≡ here') where
  pub told_ok : (r : Result Bool Failure)
      → IfOk r (λ (truth : Bool). truth_at here (term_of expression) ≡ Ok truth)
      → IfOk r (λ (truth : Bool). (term : Term) → condition_in process number ≡ Some term
      → truth_at here' term ≡ Ok truth)
  told_ok (Err why) told = tt
  told_ok (Ok truth) told = λ term is.
      ap (λ (x : Environment). truth_at x term) (sym same)
      ∙ ap (truth_at here) (sym (term_found process number expression term found is)) ∙ told

  pub told_err : (r : Result Bool Failure)
      → IfErr r (FailsAs (wants_memory (term_of expression)) (truth_at here (term_of expression)))
      → IfErr r (λ (why : Failure). (term : Term) → condition_in process number ≡ Some term
      → FailsAs (wants_memory term) (truth_at here' term) why)
  told_err (Ok truth) told = tt
  told_err (Err why) told = λ term is.
      subst (λ (x : Environment). FailsAs (wants_memory term) (truth_at x term) why) same
      (subst (λ (t : Term). FailsAs (wants_memory t) (truth_at here t) why)
      (term_found process number expression term found is) told)

held : (o : Option Term) (c : Option Term) → option_map (λ (t : Term). Some t) o ≡ Some c
    → (term : Term) × (o ≡ Some term) × (c ≡ Some term)
held None c is = absurd cc
held (Some term) c is = (term, refl, sym (same_Some (Some term) c is))

-- the term of an enabling condition stands at its place among the terms
pub condition_at : (process : Process) (conditions : List Enabling) (terms : List Term) (i : ℕ) (enabling : Enabling)
    → are_conditions process conditions ≡ map Some terms → slice_get conditions i ≡ Some enabling
    → (term : Term) × (slice_get terms i ≡ Some term) × (condition_in process enabling.condition ≡ Some term)
condition_at process conditions terms i enabling are listed =
    let at : option_map (λ (t : Term). Some t) (slice_get terms i) ≡ Some (condition_in process enabling.condition) =
    sym (slice_get-map (λ (t : Term). Some t) terms i)
    ∙ ap (λ (os : List (Option Term)). slice_get os i) (sym are)
    ∙ slice_get-map (λ (e : Enabling). condition_in process e.condition) conditions i
    ∙ ap (λ (o : Option Enabling). option_map (λ (e : Enabling). condition_in process e.condition) o) listed in
    held (slice_get terms i) (condition_in process enabling.condition) at

as_many : (process : Process) (conditions : List Enabling) (terms : List Term)
    → are_conditions process conditions ≡ map Some terms → length terms ≡ length conditions
as_many process [] [] are = refl
as_many process [] (term ∷ terms) are = absurd cc
as_many process (one ∷ conditions) [] are = absurd cc
as_many process (one ∷ conditions) (term ∷ terms) are =
    let tail : are_conditions process conditions ≡ map Some terms = cc in
    ap suc (as_many process conditions terms tail)

-- ---- enabling conditions, of which so many are known

pub truths_more : (here : Environment) (terms : List Term) (i : ℕ) (term : Term) (truths : List Bool) (truth : Bool)
    → slice_get terms i ≡ Some term → truth_at here term ≡ Ok truth
    → map (truth_at here) (take i terms) ≡ map Ok truths
    → map (truth_at here) (take (suc i) terms) ≡ map Ok (truths ++ truth ∷ [])
truths_more here [] i term truths truth found is before = absurd cc
truths_more here (t ∷ ts) zero term [] truth found is before =
    ap (λ (r : Result Bool Failure). r ∷ []) (ap (truth_at here) (same_Some t term found) ∙ is)
truths_more here (t ∷ ts) zero term (b ∷ bs) truth found is before = absurd cc
truths_more here (t ∷ ts) (suc i) term [] truth found is before = absurd cc
truths_more here (t ∷ ts) (suc i) term (b ∷ bs) truth found is before =
    let head : truth_at here t ≡ Ok b = cc in
    let tail : map (truth_at here) (take i ts) ≡ map Ok bs = cc in
    let later = truths_more here ts i term bs truth found is tail in
    ap (λ (r : Result Bool Failure). r ∷ map (truth_at here) (take (suc i) ts)) head
    ∙ ap (λ (rs : List (Result Bool Failure)). Ok b ∷ rs) later

-- all are known in the end
pub truths_all : (here : Environment) (process : Process) (conditions : List Enabling) (terms : List Term)
    (truths : List Bool) → are_conditions process conditions ≡ map Some terms
    → map (truth_at here) (take (length conditions) terms) ≡ map Ok truths → map (truth_at here) terms ≡ map Ok truths
truths_all here process conditions terms truths are before =
    subst (λ (ts : List Term). map (truth_at here) ts ≡ map Ok truths)
    (take_all (length conditions) terms (le_of_eq (as_many process conditions terms are))) before

-- the next one fails, and is the first that does
pub fails_first : (here : Environment) (terms : List Term) (i : ℕ) (term : Term) (truths : List Bool) (why : Failure)
    → slice_get terms i ≡ Some term → truth_at here term ≡ Err why
    → map (truth_at here) (take i terms) ≡ map Ok truths → first_failure here terms ≡ Some why
fails_first here [] i term truths why found is before = absurd cc
fails_first here (t ∷ ts) zero term truths why found is before =
    ap (λ (r : Result Bool Failure). failing r (first_failure here ts))
    (ap (truth_at here) (same_Some t term found) ∙ is)
fails_first here (t ∷ ts) (suc i) term [] why found is before = absurd cc
fails_first here (t ∷ ts) (suc i) term (b ∷ bs) why found is before =
    let head : truth_at here t ≡ Ok b = cc in
    let tail : map (truth_at here) (take i ts) ≡ map Ok bs = cc in
    ap (λ (r : Result Bool Failure). failing r (first_failure here ts)) head
    ∙ fails_first here ts i term bs why found is tail

-- the condition of a place fails, where those before it are known
pub failed_at : (here : Environment) (process : Process) (conditions : List Enabling) (terms : List Term) (i : ℕ)
    (enabling : Enabling) (truths : List Bool) (why : Failure) → are_conditions process conditions ≡ map Some terms
    → slice_get conditions i ≡ Some enabling → map (truth_at here) (take i terms) ≡ map Ok truths
    → ((term : Term) → condition_in process enabling.condition ≡ Some term
    → FailsAs (wants_memory term) (truth_at here term) why)
    → (why ≡ Memory) ⊎ (first_failure here terms ≡ Some why)
failed_at here process conditions terms i enabling truths why are listed before failed =
    let meant : (term : Term) × (slice_get terms i ≡ Some term)
    × (condition_in process enabling.condition ≡ Some term) =
    condition_at process conditions terms i enabling are listed in
    ⊎_elim (λ told. inr (fails_first here terms i meant.0 truths why meant.1 told before)) (λ refused. inl refused.1)
    (failed meant.0 meant.2)

-- where all are known, none fails
pub none_fails : (here : Environment) (terms : List Term) (truths : List Bool)
    → map (truth_at here) terms ≡ map Ok truths → first_failure here terms ≡ None
none_fails here [] truths are = refl
none_fails here (t ∷ ts) [] are = absurd cc
none_fails here (t ∷ ts) (b ∷ bs) are =
    let head : truth_at here t ≡ Ok b = cc in
    let tail : map (truth_at here) ts ≡ map Ok bs = cc in
    ap (λ (r : Result Bool Failure). failing r (first_failure here ts)) head ∙ none_fails here ts bs tail

pub none_to_fail : (here : Environment) (terms : List Term) → [] ≡ map Some terms → first_failure here terms ≡ None
none_to_fail here [] are = refl
none_to_fail here (t ∷ ts) are = absurd cc

came : (r : Result Bool Failure) (o : Option Bool) → Some r ≡ option_map (λ (b : Bool). Ok b) o
    → (truth : Bool) × (o ≡ Some truth) × (r ≡ Ok truth)
came r None is = absurd cc
came r (Some truth) is = (truth, refl, same_Some r (Ok truth) is)

-- how the condition of a place came out
pub truth_of_place : (here : Environment) (terms : List Term) (truths : List Bool) (i : ℕ) (term : Term)
    → map (truth_at here) terms ≡ map Ok truths → slice_get terms i ≡ Some term
    → (truth : Bool) × (slice_get truths i ≡ Some truth) × (truth_at here term ≡ Ok truth)
truth_of_place here terms truths i term are found =
    let at : Some (truth_at here term) ≡ option_map (λ (b : Bool). Ok b) (slice_get truths i) =
    sym (ap (λ (o : Option Term). option_map (truth_at here) o) found)
    ∙ sym (slice_get-map (truth_at here) terms i)
    ∙ ap (λ (rs : List (Result Bool Failure)). slice_get rs i) are
    ∙ slice_get-map (λ (b : Bool). Ok b) truths i in
    came (truth_at here term) (slice_get truths i) at

-- ---- continuous signals, of which so many were tried

-- the continuous signal at a place of the table, as it is meant
pub record Meets (process : Process) (entries : List NodeId) (meant : List ContinuousSignal) (i : ℕ)
    (signal : Continuous) : Type 0 where
  pub one : ContinuousSignal
  pub means : MeansContinuous process entries signal one
  pub is : drop i meant ≡ one ∷ drop (suc i) meant
  pub wants : wants_memory one.condition ≡ true → list_any wants_memory (conditions_of meant) ≡ true

later_too : (b c : Bool) → c ≡ true → (b || c) ≡ true
later_too true c is = refl
later_too false c is = is

pub meets_at : (process : Process) (entries : List NodeId) (signals : List Continuous) (meant : List ContinuousSignal)
    (i : ℕ) (signal : Continuous) → AllZip (MeansContinuous process entries) signals meant
    → slice_get signals i ≡ Some signal → Meets process entries meant i signal
meets_at process entries [] meant i signal all found = absurd cc
meets_at process entries (s ∷ ss) [] i signal all found = absurd all
meets_at process entries (s ∷ ss) (m ∷ ms) zero signal all found = record {
  one = m;
  means = subst (λ (x : Continuous). MeansContinuous process entries x m) (same_Some s signal found) all.0;
  is = refl;
  wants = λ is. ap (λ (b : Bool). b || list_any wants_memory (conditions_of ms)) is;
}
meets_at process entries (s ∷ ss) (m ∷ ms) (suc i) signal all found =
    let later = meets_at process entries ss ms i signal all.1 found in
    record {
      one = later.one;
      means = later.means;
      is = later.is;
      wants = λ is. later_too (wants_memory m.condition) (list_any wants_memory (conditions_of ms)) (later.wants is);
    }

module _ (here : Environment) (process : Process) (entries : List NodeId) (meant : List ContinuousSignal) (i : ℕ)
    (signal : Continuous) (meets : Meets process entries meant i signal) where
  tried_next : tried here (drop i meant)
      ≡ tried_or (truth_at here meets.one.condition) meets.one (tried here (drop (suc i) meant))
  tried_next = ap (tried here) meets.is

  by_result : (r : Result Bool Failure) → truth_at here meets.one.condition ≡ r
      → tried here (drop i meant) ≡ tried_or r meets.one (tried here (drop (suc i) meant))
  by_result r is =
      tried_next
      ∙ ap (λ (x : Result Bool Failure). tried_or x meets.one (tried here (drop (suc i) meant))) is

  pub passes : truth_at here meets.one.condition ≡ Ok false
      → tried here (drop i meant) ≡ tried here (drop (suc i) meant)
  passes is = by_result (Ok false) is

  pub begins_there : truth_at here meets.one.condition ≡ Ok true
      → tried here (drop i meant) ≡ begins meets.one.number meets.one.body
  begins_there is = by_result (Ok true) is

  pub fails_there : (why : Failure) → truth_at here meets.one.condition ≡ Err why
      → tried here (drop i meant) ≡ fails why
  fails_there why is = by_result (Err why) is

  -- the condition fails, and the signals before have false ones
  pub ends_failing : (why : Failure) → tried here meant ≡ tried here (drop i meant)
      → FailsAs (wants_memory meets.one.condition) (truth_at here meets.one.condition) why
      → (tried here meant ≡ fails why)
      ⊎ ((why ≡ Memory) × (list_any wants_memory (conditions_of meant) ≡ true))
  ends_failing why before failed =
      ⊎_elim (λ told. inl (before ∙ fails_there why told)) (λ refused. inr (refused.1, meets.wants refused.0)) failed

-- behind the last of them none is true
pub none_left : (here : Environment) (process : Process) (entries : List NodeId) (signals : List Continuous)
    (meant : List ContinuousSignal) (i : ℕ) → AllZip (MeansContinuous process entries) signals meant
    → length signals ≤ i → tried here (drop i meant) ≡ none_true
none_left here process entries signals meant i all past =
    ap (tried here)
    (drop_of_length-le meant
    (subst (λ (n : ℕ). n ≤ i) (sym (AllZip-long (MeansContinuous process entries) signals meant all)) past))
