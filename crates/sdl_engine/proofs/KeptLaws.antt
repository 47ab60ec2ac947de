-- What holds of a run that is kept.
use Rattle.std.proofs.Common.{◌≡◌, ℕ, Bool, true, false, List, Option, None, Some, Result, Ok, Err, IfOk, IfSome, OnOk, inl, refl, subst, sym}
use Rattle.sdl_engine.specs.declared.input.Input.{Input}
use Rattle.sdl_engine.specs.Answer.{IsRunOfInput, TellsRun, outcome_by}
use Rattle.sdl_engine.specs.Kept.{IsToldRun, KeepsRun}
use Rattle.sdl_engine.specs.declared.options.Command.TheVariants as command
use Rattle.sdl_engine.specs.declared.options.Options.{Options}
use Rattle.sdl_engine.specs.declared.options.Outcome.{Outcome}
use Rattle.sdl_engine.specs.declared.options.TextFault.{TextFault}
use Rattle.sdl_engine.specs.declared.run.Run.{Run}

-- what holds of a run holds of what is kept, once the run is kept, or is not
pub if_kept : (P : Run → Type 0) (keeps : Bool) (run : Run) (kept : Option Run) → P run
    → (keeps ≡ true → kept ≡ Some run) → (keeps ≡ false → kept ≡ None) → IfSome kept P
if_kept P true run kept is holds drops = subst (λ (k : Option Run). IfSome k P) (sym (holds refl)) is
if_kept P false run kept is holds drops = subst (λ (k : Option Run). IfSome k P) (sym (drops refl)) tt

-- of no run anything holds
pub if_none : (P : Run → Type 0) (kept : Option Run) → kept ≡ None → IfSome kept P
if_none P kept none = subst (λ (k : Option Run). IfSome k P) (sym none) tt

-- ---- the run that was told

-- it is known by the options as they were carried out
pub told_run : (input : Input) (options : Options) (workers : Option ℕ) (how : Outcome) (run : Run)
    (before stuck : Option ℕ) (old new : Option (List ℕ)) → options.command ≡ command.Run
    → options.workers ≡ workers
    → IsRunOfInput input workers options.limit run.system run.report run.script.lines.items run.log
    → how ≡ outcome_by run.report.whole
    → TellsRun options.view run.log run.system run.report run.script.lines.items before old new
    → stuck ≡ before → IsToldRun input options how run stuck old new
told_run input options workers how run before stuck old new asked by ran is tells same = record {
  asked = asked;
  ran = subst (λ (w : Option ℕ).
      IsRunOfInput input w options.limit run.system run.report run.script.lines.items run.log) (sym by) ran;
  came = is;
  tells = subst (λ (s : Option ℕ).
      TellsRun options.view run.log run.system run.report run.script.lines.items s old new) (sym same) tells;
}

-- it is the run that is kept, or none is
keeps_told : (keeps : Bool) (input : Input) (options : Options) (how : Outcome) (run : Run) (kept : Option Run)
    (stuck : Option ℕ) (old new : Option (List ℕ)) → IsToldRun input options how run stuck old new
    → (keeps ≡ true → kept ≡ Some run) → (keeps ≡ false → kept ≡ None)
    → KeepsRun keeps input options how kept stuck old new
keeps_told true input options how run kept stuck old new told holds drops =
    subst (λ (k : Option Run). KeepsRun true input options how k stuck old new) (sym (holds refl)) (refl, told)
keeps_told false input options how run kept stuck old new told holds drops =
    subst (λ (k : Option Run). KeepsRun false input options how k stuck old new) (sym (drops refl)) (inl refl)

pub run_kept : (keeps : Bool) (input : Input) (options : Options) (workers : Option ℕ) (run : Run) (kept : Option Run)
    (before stuck : Option ℕ) (old new : Option (List ℕ)) (r : Result Outcome TextFault)
    → options.command ≡ command.Run → options.workers ≡ workers
    → IsRunOfInput input workers options.limit run.system run.report run.script.lines.items run.log
    → IfOk r (λ how. how ≡ outcome_by run.report.whole)
    → OnOk r (TellsRun options.view run.log run.system run.report run.script.lines.items before old new)
    → stuck ≡ before → (keeps ≡ true → kept ≡ Some run) → (keeps ≡ false → kept ≡ None)
    → IfOk r (λ how. KeepsRun keeps input options how kept stuck old new)
run_kept keeps input options workers run kept before stuck old new (Ok how) asked by ran is tells same kept' drops =
    keeps_told keeps input options how run kept stuck old new
    (told_run input options workers how run before stuck old new asked by ran is tells same) kept' drops
run_kept keeps input options workers run kept before stuck old new (Err why) asked by ran is tells same kept' drops = tt
