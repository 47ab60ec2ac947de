-- What spelled signals and values mean.
use Rattle.std.proofs.Common.{◌≡◌, ℕ, zero, suc, ◌+◌, ◌<◌, ℤ, pos, negsuc, true, Option, None, Some, List, [], ◌∷◌, ◌++◌, length, get_or, take, inl, sym, refl, ap, ◌∙◌, subst, arith}
use Rattle.std.specs.Prelude.{IsSomeAnd, option_and_then}
use Rattle.std.specs.List.{AllZip}
use Rattle.std.specs.Option.{option_map}
use Rattle.std.proofs.lemmas.Grind.{take_at_read}
use Rattle.port_model.specs.declared.values.item.SignalId.{SignalId}
use Rattle.port_model.specs.declared.values.value.Value.{Value}
use Rattle.port_model.specs.declared.values.value.Value.TheVariants as value
use Rattle.sdl_system.specs.Sort.{has_sort, as_natural}
use Rattle.sdl_system.specs.System.{SystemValue}
use Rattle.sdl_system.specs.declared.route.Dest.{Dest}
use Rattle.sdl_system.specs.declared.signal.Signal.{Signal}
use Rattle.sdl_system.specs.declared.sort.Sort.{Sort}
use Rattle.sdl_system.specs.declared.sort.Sort.TheVariants as sort
use Rattle.sdl_script.specs.declared.fault.Fault.{Fault}
use Rattle.sdl_script.specs.declared.fault.Fault.TheVariants.{Syntax, BackInTime, UnknownSignal, Arguments, Memory}
use Rattle.sdl_script.specs.declared.script.ScriptSignal.{ScriptSignal}
use Rattle.sdl_script.specs.declared.value.SpelledValue.{SpelledValue}
use Rattle.sdl_script.specs.Script.{IsFromEnv, IsOfSort, MayGo}
use Rattle.sdl_script.specs.ScriptText.{AreArguments, HasBadArguments, HasSignalFault, IsDestination, NamesSignal, IsReached, IsSent}
use Rattle.sdl_script.specs.Spelled.{HasNoWay, IsArgumentFault}
use Rattle.sdl_script.specs.Spelling.{Named, Numbered, Receiver, Spelled}
use Rattle.sdl_script.specs.Value.{Fits, number_in, truth_in, pid_in, value_at}

-- ---- sorts

natural_sort : (n : ℤ) (v : Value) → as_natural n ≡ Some v → has_sort sort.Natural v ≡ true
natural_sort (pos n) v e = let same : value.Int (pos n) ≡ v = cc in ap (has_sort sort.Natural) (sym same)
natural_sort (negsuc n) v e = cc

natural_sorted : (o : Option ℤ) (v : Value) → option_and_then as_natural o ≡ Some v → has_sort sort.Natural v ≡ true
natural_sorted None v e = cc
natural_sorted (Some n) v e = natural_sort n v e

map_sorted : {A : Type 0} (t : Sort) (f : A → Value) (o : Option A) (v : Value) → ((x : A) → has_sort t (f x) ≡ true) → option_map f o ≡ Some v → has_sort t v ≡ true
map_sorted t f None v sorted e = cc
map_sorted t f (Some x) v sorted e = let same : f x ≡ v = cc in ap (has_sort t) (sym same) ∙ sorted x

-- what fits a sort has it
fits_sort : (s : SpelledValue) (t : Sort) (v : Value) → Fits s t v → IsOfSort v t
fits_sort s sort.Boolean v fits = map_sorted sort.Boolean value.Bool (truth_in s) v (λ x. refl) fits
fits_sort s sort.Integer v fits = map_sorted sort.Integer value.Int (number_in s) v (λ x. refl) fits
fits_sort s sort.Natural v fits = natural_sorted (number_in s) v fits
fits_sort s sort.Pid v fits = map_sorted sort.Pid value.Pid (pid_in s) v (λ x. refl) fits
fits_sort s sort.Time v fits = map_sorted sort.Time value.Time (number_in s) v (λ x. refl) fits
fits_sort s sort.Duration v fits = map_sorted sort.Duration value.Duration (number_in s) v (λ x. refl) fits

pub arguments_sorted : (ss : List SpelledValue) (ts : List Sort) (vs : List Value) → AreArguments ss ts vs → AllZip IsOfSort vs ts
arguments_sorted [] [] [] h = tt
arguments_sorted [] [] (v ∷ vs) h = h
arguments_sorted [] (t ∷ ts) [] h = h
arguments_sorted [] (t ∷ ts) (v ∷ vs) h = absurd h
arguments_sorted (s ∷ ss) [] [] h = absurd h
arguments_sorted (s ∷ ss) [] (v ∷ vs) h = h
arguments_sorted (s ∷ ss) (t ∷ ts) [] h = h
arguments_sorted (s ∷ ss) (t ∷ ts) (v ∷ vs) h = (fits_sort s t v h.0, arguments_sorted ss ts vs h.1)

-- ---- arguments, one after the other

arguments_push : (ss : List SpelledValue) (ts : List Sort) (vs : List Value) (s : SpelledValue) (t : Sort) (v : Value) → AreArguments ss ts vs → Fits s t v
    → AreArguments (ss ++ s ∷ []) (ts ++ t ∷ []) (vs ++ v ∷ [])
arguments_push [] [] [] s t v h fits = (fits, tt)
arguments_push [] [] (w ∷ vs) s t v h fits = absurd h
arguments_push [] (u ∷ ts) [] s t v h fits = absurd h
arguments_push [] (u ∷ ts) (w ∷ vs) s t v h fits = absurd h
arguments_push (r ∷ ss) [] [] s t v h fits = absurd h
arguments_push (r ∷ ss) [] (w ∷ vs) s t v h fits = absurd h
arguments_push (r ∷ ss) (u ∷ ts) [] s t v h fits = absurd h
arguments_push (r ∷ ss) (u ∷ ts) (w ∷ vs) s t v h fits = (h.0, arguments_push ss ts vs s t v h.1 fits)

-- so many spelled values are these
abbrev pub ArgumentsUpTo : List SpelledValue → List Sort → ℕ → List Value → Type 0
ArgumentsUpTo ss ts i vs = AreArguments (take i ss) (take i ts) vs

pub arguments_more : (ss : List SpelledValue) (ts : List Sort) (i : ℕ) (vs : List Value) (v : Value) → ArgumentsUpTo ss ts i vs → i < length ss → i < length ts
    → (d : SpelledValue) (e : Sort) → Fits (get_or ss i d) (get_or ts i e) v → ArgumentsUpTo ss ts (i + 1) (vs ++ v ∷ [])
arguments_more ss ts i vs v h here there d e fits =
    let front = sym (take_at_read ss i d here).1 in
    let back = sym (take_at_read ts i e there).1 in
    subst (λ l. AreArguments l (take (i + 1) ts) (vs ++ v ∷ [])) front
    (subst (λ l. AreArguments (take i ss ++ get_or ss i d ∷ []) l (vs ++ v ∷ [])) back
    (arguments_push (take i ss) (take i ts) vs (get_or ss i d) (get_or ts i e) v h fits))

-- another number of values
pub not_as_many : (ss : List SpelledValue) (ts : List Sort) → (length ss ≡ length ts → ⊥) → (vs : List Value) → ¬ AreArguments ss ts vs
not_as_many [] [] other [] h = other refl
not_as_many [] [] other (v ∷ vs) h = h
not_as_many [] (t ∷ ts) other [] h = h
not_as_many [] (t ∷ ts) other (v ∷ vs) h = h
not_as_many (s ∷ ss) [] other [] h = h
not_as_many (s ∷ ss) [] other (v ∷ vs) h = h
not_as_many (s ∷ ss) (t ∷ ts) other [] h = h
not_as_many (s ∷ ss) (t ∷ ts) other (v ∷ vs) h = not_as_many ss ts (λ same. other (ap suc same)) vs h.1

-- a spelled value that fits its sort by no value
pub bad_argument : (ss : List SpelledValue) (ts : List Sort) (i : ℕ) → i < length ts → (d : SpelledValue) (e : Sort) → value_at (get_or ts i e) (get_or ss i d) ≡ None
    → (vs : List Value) → ¬ AreArguments ss ts vs
bad_argument [] [] i here d e none [] h = absurd (omega arith)
bad_argument [] [] i here d e none (v ∷ vs) h = h
bad_argument [] (t ∷ ts) i here d e none [] h = h
bad_argument [] (t ∷ ts) i here d e none (v ∷ vs) h = h
bad_argument (s ∷ ss) [] i here d e none [] h = h
bad_argument (s ∷ ss) [] i here d e none (v ∷ vs) h = h
bad_argument (s ∷ ss) (t ∷ ts) i here d e none [] h = h
bad_argument (s ∷ ss) (t ∷ ts) zero here d e none (v ∷ vs) h = let both : None ≡ Some v = sym none ∙ h.0 in cc
bad_argument (s ∷ ss) (t ∷ ts) (suc i) here d e none (v ∷ vs) h = bad_argument ss ts i (omega arith) d e none vs h.1

-- ---- faults

pub arguments_fault : {R : Type 0} (fault : Fault) (system : SystemValue) (spelled : Spelled) → (R → HasBadArguments system spelled) → IsArgumentFault fault R → HasSignalFault fault system spelled
arguments_fault Memory system spelled f h = tt
arguments_fault Syntax system spelled f h = h
arguments_fault BackInTime system spelled f h = h
arguments_fault UnknownSignal system spelled f h = absurd h
arguments_fault Arguments system spelled f h = f h

-- where the signal of the name is not reached, none of that name is
pub no_way : (fault : Fault) (system : SystemValue) (spelled : Spelled) (signal : SignalId) (declared : Signal) → NamesSignal system spelled.name signal declared
    → HasNoWay fault system signal spelled.to → HasSignalFault fault system spelled
no_way Memory system spelled signal declared own h = tt
no_way Syntax system spelled signal declared own h = h
no_way BackInTime system spelled signal declared own h = h
no_way UnknownSignal system spelled signal declared own h = λ other also is reached.
    let both : Some other ≡ Some signal = sym is.0 ∙ own.0 in
    let same : other ≡ signal = cc in
    h (subst (λ n. IsReached system n spelled.to) same reached)
no_way Arguments system spelled signal declared own h = (signal, declared, own, h.0, inl h.1)

-- ---- signals that are sent

may_go : (system : SystemValue) (signal : SignalId) (to : Option Receiver) (destination : Dest) → IsReached system signal to → IsDestination system to destination → MayGo system signal destination
may_go system signal None destination reached is = subst (MayGo system signal) (sym is) reached
may_go system signal (Some (Named name)) destination reached is = subst (MayGo system signal) (sym is.2) (name, is.1)
may_go system signal (Some (Numbered number)) destination reached is = subst (MayGo system signal) (sym is.2) (is.0, refl)

-- the environment may send what it sends
pub sent_from_env : (system : SystemValue) (spelled : Spelled) (signal : ScriptSignal) → IsSent system spelled signal → IsFromEnv system signal
sent_from_env system spelled signal s = record {
  sender = s.0;
  own = (spelled.name, s.2.0);
  values =
      subst (λ o. IsSomeAnd o (λ (declared : Signal). AllZip IsOfSort signal.item.values declared.sorts.items)) (sym s.2.1)
      (arguments_sorted spelled.values s.1.sorts.items signal.item.values s.5);
  to = may_go system signal.item.name spelled.to signal.to s.3 s.4;
}
