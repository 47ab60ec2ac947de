-- Signals of the script, and where they went.
use Rattle.std.proofs.Common.{◌≡◌, ◌∙◌, ◌<◌, ◌+◌, ap, append-nil, get_or, length, subst, sym, take, ℕ, List, [], ◌∷◌, ◌++◌, All, Option, None, Some}
use Rattle.std.specs.Prelude.{option_to_list}
use Rattle.std.specs.List.{AllZip}
use Rattle.std.proofs.lemmas.List.{take_more}
use Rattle.std.proofs.lemmas.List.Concat.{flat_map-append}
use Rattle.std.proofs.lemmas.List.Elements.{All-cons, All-nil}
use Rattle.run_record.specs.Record.{RecordValue}
use Rattle.sdl_script.specs.declared.script.ScriptLine.{ScriptLine}
use Rattle.sdl_script.specs.declared.script.ScriptSignal.{ScriptSignal}
use Rattle.sdl_system.specs.System.{SystemValue}
use Rattle.sdl_system.specs.declared.route.Target.{Target}
use Rattle.settle_checks.proofs.AccountLists.{zip_push}
use Rattle.settle_checks.specs.Account.{IsRight}
use Rattle.settle_checks.specs.Outputs.{targets_of}
use Rattle.settle_meaning.specs.Puts.{Heard, IsHeardRight, signals_heard, signals_of}

module _ (system : SystemValue) (records : List RecordValue) where
  -- what is right of signals and targets is right of what was heard
  zip_heard : (heard : List Heard) → AllZip (IsRight system records) (signals_heard heard) (targets_of heard)
      → All (IsHeardRight system records) heard
  zip_heard [] zip = All-nil (IsHeardRight system records)
  zip_heard (one ∷ rest) zip = All-cons (IsHeardRight system records) one rest zip.0 (zip_heard rest zip.1)

  pub heard_right : (heard : List Heard) (signals : List ScriptSignal) (targets : List Target)
      → signals_heard heard ≡ signals → targets_of heard ≡ targets → AllZip (IsRight system records) signals targets
      → All (IsHeardRight system records) heard
  heard_right heard signals targets signals_are targets_are zip =
      zip_heard heard
      (subst (λ (l : List ScriptSignal). AllZip (IsRight system records) l (targets_of heard)) (sym signals_are)
      (subst (λ (l : List Target). AllZip (IsRight system records) signals l) (sym targets_are) zip))

-- ---- one line more

abbrev pub signal_in : ScriptLine → List ScriptSignal
signal_in line = option_to_list line.signal

signals_more : (lines : List ScriptLine) (i : ℕ) (line : ScriptLine) → i < length lines → line ≡ get_or lines i line
    → signals_of (take (i + 1) lines) ≡ signals_of (take i lines) ++ signal_in line
signals_more lines i line within is =
    ap signals_of (take_more lines i line within)
    ∙ flat_map-append signal_in (take i lines) (get_or lines i line ∷ [])
    ∙ ap (λ (l : List ScriptSignal). signals_of (take i lines) ++ l) (append-nil (signal_in (get_or lines i line)))
    ∙ ap (λ (l : ScriptLine). signals_of (take i lines) ++ signal_in l) (sym is)

module _ (R : ScriptSignal → Target → Type 0) (lines : List ScriptLine) (i : ℕ) (line : ScriptLine)
    (targets : List Target) (place : ℕ) (within : i < length lines) (is : line ≡ get_or lines i line)
    (zip : AllZip R (signals_of (take i lines)) (take place targets)) where
  -- it has no signal
  pub zip_none : line.signal ≡ None → AllZip R (signals_of (take (i + 1) lines)) (take place targets)
  zip_none none =
      subst (λ (l : List ScriptSignal). AllZip R l (take place targets))
      (sym (signals_more lines i line within is
      ∙ ap (λ (s : Option ScriptSignal). signals_of (take i lines) ++ option_to_list s) none
      ∙ append-nil (signals_of (take i lines)))) zip

  -- its signal went to the next target
  pub zip_some : (signal : ScriptSignal) (d : Target) → line.signal ≡ Some signal → place < length targets
      → R signal (get_or targets place d) → AllZip R (signals_of (take (i + 1) lines)) (take (place + 1) targets)
  zip_some signal d some below fits =
      subst (λ (l : List ScriptSignal). AllZip R l (take (place + 1) targets))
      (sym (signals_more lines i line within is
      ∙ ap (λ (s : Option ScriptSignal). signals_of (take i lines) ++ option_to_list s) some))
      (subst (λ (l : List Target). AllZip R (signals_of (take i lines) ++ signal ∷ []) l)
      (sym (take_more targets place d below))
      (zip_push R (signals_of (take i lines)) (take place targets) signal (get_or targets place d) zip fits))
