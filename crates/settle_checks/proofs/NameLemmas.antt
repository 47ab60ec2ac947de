-- The numbers that signals of the script name.
use Rattle.std.proofs.Common.{◌≡◌, ◌∙◌, ◌<◌, ◌+◌, ap, arith, get_or, inl, inr, length, refl, subst, sym, take, ⊎_elim, ℕ, zero, suc, Bool, true, false, List, [], ◌∷◌, ◌++◌, Some}
use Rattle.std.specs.Prelude.{Contains, map, option_to_list, slice_set}
use Rattle.std.proofs.lemmas.Bool.{cases_eq}
use Rattle.std.proofs.lemmas.Grind.{flat_map-append}
use Rattle.std.proofs.lemmas.List.Elements.{Contains-append_left, Contains-append_right, Contains-get_or, Contains-push}
use Rattle.port_model.specs.declared.values.pid.Pid.{Pid}
use Rattle.port_model.specs.declared.values.pid.Pid.TheVariants.{Of}
use Rattle.port_model.specs.declared.values.value.Value.{Value}
use Rattle.port_model.specs.declared.values.value.Value.TheVariants as value
use Rattle.sdl_script.specs.declared.script.ScriptLine.{ScriptLine}
use Rattle.sdl_script.specs.declared.script.ScriptSignal.{ScriptSignal}
use Rattle.settle_checks.proofs.Lists.{front_is}
use Rattle.settle_checks.specs.Names.{AddsNamed, AddsOnly, AreNamedBy, NamesIn, NamesIt}
use Rattle.settle_checks.specs.Outputs.{AreNamed}
use Rattle.settle_meaning.specs.Puts.{Heard, signals_heard, signals_of}

-- ---- a row

no_name : (row : List Bool) (n : ℕ) → get_or (row ++ false ∷ []) n false ≡ get_or row n false
no_name [] zero = refl
no_name [] (suc n) = refl
no_name (x ∷ xs) zero = refl
no_name (x ∷ xs) (suc n) = no_name xs n

pub none_named : (row : List Bool) → AreNamedBy [] row → AreNamedBy [] (row ++ false ∷ [])
none_named row are n named = are n (sym (no_name row n) ∙ named)

set_other : (row : List Bool) (k n : ℕ) → (n ≡ k → ⊥) → get_or (slice_set row k true) n false ≡ get_or row n false
set_other [] k n apart = refl
set_other (x ∷ xs) zero zero apart = absurd (apart refl)
set_other (x ∷ xs) zero (suc n) apart = refl
set_other (x ∷ xs) (suc k) zero apart = refl
set_other (x ∷ xs) (suc k) (suc n) apart = set_other xs k n (λ same. apart (ap suc same))

pub adds_one : (row : List Bool) (k : ℕ) → AddsOnly row (Of k) (slice_set row k true)
adds_one row k n named =
    ⊎_elim (λ (same : n ≡ k). inr (ap Of (sym same)))
    (λ (apart : n ≡ k → ⊥). inl (sym (set_other row k n apart) ∙ named))
    (cases_eq n k)

pub adds_none : (row : List Bool) (pid : Pid) → AddsOnly row pid row
adds_none row pid n named = inl named

-- ---- a signal

pub named_none : (row : List Bool) (signal : ScriptSignal) → AddsNamed row signal row
named_none row signal n named = inl named

pub named_more : (first old new : List Bool) (signal : ScriptSignal) (pid : Pid)
    → ((n : ℕ) → pid ≡ Of n → NamesIt signal n) → AddsOnly old pid new → AddsNamed first signal old
    → AddsNamed first signal new
named_more first old new signal pid names adds before n named =
    ⊎_elim (λ was. before n was) (λ is. inr (names n is)) (adds n named)

-- the value at a place is among them
pub value_named : (signal : ScriptSignal) (i : ℕ) (d : Value) (pid : Pid) → i < length signal.item.values
    → get_or signal.item.values i d ≡ value.Pid pid → (n : ℕ) → pid ≡ Of n → NamesIt signal n
value_named signal i d pid within is n same =
    inr (subst (λ v. Contains signal.item.values v) (is ∙ ap value.Pid same)
    (Contains-get_or signal.item.values i d within))

-- ---- the lines

pub lines_none : (lines : List ScriptLine) (i : ℕ) (line : ScriptLine) (row : List Bool) → i < length lines
    → line ≡ get_or lines i line → AreNamedBy (signals_of (take i lines)) row
    → AreNamedBy (signals_of (take (i + 1) lines)) row
lines_none lines i line row within is are n named =
    let was : NamesIn (signals_of (take i lines)) n = are n named in
    record {
      one = was.one;
      among = subst (λ l. Contains (signals_of l) was.one) (sym (front_is lines i line within is))
          (subst (λ l. Contains l was.one) (sym (flat_map-append (λ (l : ScriptLine). option_to_list l.signal) (take i lines) (line ∷ [])))
          (Contains-append_left (signals_of (take i lines)) (signals_of (line ∷ [])) was.one was.among));
      names = was.names;
    }

pub lines_more : (lines : List ScriptLine) (i : ℕ) (line : ScriptLine) (signal : ScriptSignal) (old new : List Bool)
    → i < length lines → line ≡ get_or lines i line → line.signal ≡ Some signal → AddsNamed old signal new
    → AreNamedBy (signals_of (take i lines)) old → AreNamedBy (signals_of (take (i + 1) lines)) new
lines_more lines i line signal old new within is has adds are n named =
    ⊎_elim (λ (was : get_or old n false ≡ true). lines_none lines i line old within is are n was)
    (λ (names : NamesIt signal n).
    record {
      one = signal;
      among = subst (λ l. Contains (signals_of l) signal) (sym (front_is lines i line within is))
          (subst (λ l. Contains l signal) (sym (flat_map-append (λ (l : ScriptLine). option_to_list l.signal) (take i lines) (line ∷ [])))
          (Contains-append_right (signals_of (take i lines)) (signals_of (line ∷ [])) signal
          (subst (λ o. Contains (option_to_list o ++ []) signal) (sym has) (Contains-push [] signal))));
      names = names;
    })
    (adds n named)

-- ---- what was heard

-- a result is that of one of them
record IsOf {X Y : Type 0} (f : X → Y) (xs : List X) (y : Y) : Type 0 where
  x : X
  among : Contains xs x
  is : f x ≡ y

of_map : {X Y : Type 0} (f : X → Y) (xs : List X) (y : Y) → Contains (map f xs) y → IsOf f xs y
of_map f [] y among = let wrong : ⊥ = omega (arith, among.1) in absurd wrong
of_map f (x ∷ xs) y (zero, within, is) = record { x = x; among = Contains-append_left (x ∷ []) xs x (Contains-push [] x); is = is }
of_map f (x ∷ xs) y (suc k, within, is) =
    let rest = of_map f xs y (k, omega (arith, within), is) in
    record { x = rest.x; among = Contains-append_right (x ∷ []) xs rest.x rest.among; is = rest.is }

pub are_named : (heard : List Heard) (lines : List ScriptLine) (i : ℕ) (row : List Bool)
    → signals_heard heard ≡ signals_of lines → take i lines ≡ lines → AreNamedBy (signals_of (take i lines)) row
    → AreNamed heard row
are_named heard lines i row same all are n named =
    let was : NamesIn (signals_of lines) n = subst (λ l. NamesIn (signals_of l) n) all (are n named) in
    let one = of_map (λ (h : Heard). h.signal) heard was.one (subst (λ l. Contains l was.one) (sym same) was.among) in
    record {
      one = one.x;
      among = one.among;
      names = record { named = subst (λ s. NamesIt s n) (sym one.is) was.names };
    }
