-- Whether an instance of a run failed, by the notes of it.
use Rattle.std.proofs.Common.{◌≡◌, ℕ, Bool, true, false, List, Option, None, Some, Result, Ok, Err, IfOk, IfSome, OnOk, inl, inr, subst, sym}
use Rattle.sdl_failures.specs.Ending.{has_failed}
use Rattle.sdl_engine.specs.declared.input.Input.{Input}
use Rattle.sdl_engine.specs.Answer.{IsRunOfInput, TellsRun, outcome_by, outcome_of}
use Rattle.sdl_engine.specs.Kept.{SaysFailed, TellsNoRun}
use Rattle.sdl_engine.specs.declared.options.Command.TheVariants as command
use Rattle.sdl_engine.specs.declared.options.Options.{Options}
use Rattle.sdl_engine.specs.declared.options.Outcome.{Outcome}
use Rattle.sdl_engine.specs.declared.options.TextFault.{TextFault}
use Rattle.sdl_engine.specs.declared.refusal.Refusal.{Refusal}
use Rattle.sdl_engine.specs.declared.refusal.Refusal.TheVariants as refusal
use Rattle.sdl_engine.specs.declared.run.Run.{Run}
use Rattle.sdl_engine.proofs.KeptLaws.{if_kept, if_none, told_run}

-- the notes of a kept run say whether an instance of it failed
abbrev pub Tells : Option Run → Bool → Type 0
Tells kept failed = IfSome kept (λ (run : Run). failed ≡ has_failed run.report.records.items)

-- so they do once the run is kept, or is not
pub tells_kept : (keeps failed : Bool) (run : Run) (kept : Option Run)
    → failed ≡ has_failed run.report.records.items
    → (keeps ≡ true → kept ≡ Some run) → (keeps ≡ false → kept ≡ None) → Tells kept failed
tells_kept keeps failed run kept = if_kept (λ (r : Run). failed ≡ has_failed r.report.records.items) keeps run kept

-- of no run they say nothing
pub tells_none : (failed : Bool) (kept : Option Run) → kept ≡ None → Tells kept failed
tells_none failed kept = if_none (λ (r : Run). failed ≡ has_failed r.report.records.items) kept

-- ---- whether or not the run is kept

-- by the run that was told
pub run_failed : (input : Input) (options : Options) (workers : Option ℕ) (run : Run) (before stuck : Option ℕ)
    (failed : Bool) (old new : Option (List ℕ)) (r : Result Outcome TextFault) → options.command ≡ command.Run
    → options.workers ≡ workers
    → IsRunOfInput input workers options.limit run.system run.report run.script.lines.items run.log
    → IfOk r (λ how. how ≡ outcome_by run.report.whole)
    → OnOk r (TellsRun options.view run.log run.system run.report run.script.lines.items before old new)
    → stuck ≡ before → failed ≡ has_failed run.report.records.items
    → IfOk r (λ how. SaysFailed input options how stuck failed old new)
run_failed input options workers run before stuck failed old new (Ok how) asked by ran is tells same fails =
    inr (record {
      run = run;
      told = told_run input options workers how run before stuck old new asked by ran is tells same;
      is = fails;
    })
run_failed input options workers run before stuck failed old new (Err why) asked by ran is tells same fails = tt

-- of a refusal no run was told
refused_no_run : (options : Options) (how : Outcome) (why : Refusal) → how ≡ outcome_of why → TellsNoRun options how
refused_no_run options how (refusal.Parse error) is = inr (inl is)
refused_no_run options how (refusal.Build error) is = inr (inl is)
refused_no_run options how (refusal.Script error) is = inr (inl is)
refused_no_run options how (refusal.Run error) is = inr (inr is)

pub refused_failed : (input : Input) (options : Options) (why : Refusal) (stuck : Option ℕ) (failed : Bool)
    (old new : Option (List ℕ)) (r : Result Outcome TextFault) → IfOk r (λ how. how ≡ outcome_of why)
    → failed ≡ false → IfOk r (λ how. SaysFailed input options how stuck failed old new)
refused_failed input options why stuck failed old new (Ok how) is none =
    inl (refused_no_run options how why is, none)
refused_failed input options why stuck failed old new (Err fault) is none = tt

-- nor of a check
pub checked_failed : (input : Input) (options : Options) (stuck : Option ℕ) (failed : Bool) (old new : Option (List ℕ))
    (r : Result Outcome TextFault) → options.command ≡ command.Check → failed ≡ false
    → IfOk r (λ how. SaysFailed input options how stuck failed old new)
checked_failed input options stuck failed old new (Ok how) asked none = inl (inl asked, none)
checked_failed input options stuck failed old new (Err fault) asked none = tt

-- the same notes, as it is said otherwise
pub says_as : (input : Input) (options : Options) (how : Outcome) (stuck stuck' : Option ℕ) (failed failed' : Bool)
    (old new : Option (List ℕ)) → stuck' ≡ stuck → failed' ≡ failed
    → SaysFailed input options how stuck failed old new → SaysFailed input options how stuck' failed' old new
says_as input options how stuck stuck' failed failed' old new at is says =
    subst (λ (s : Option ℕ). SaysFailed input options how s failed' old new) (sym at)
    (subst (λ (b : Bool). SaysFailed input options how stuck b old new) (sym is) says)
