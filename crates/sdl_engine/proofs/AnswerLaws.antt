-- What the calls of a command give, put together into what is said of the input.
use Rattle.std.proofs.Common.{◌≡◌, ap, sym, subst, refl, inl, inr, ℕ, List, Option, None, Some, Bool, true, false, Result, Ok, Err, IfOk, IfErr, OnOk}
use Rattle.std.specs.Io.KnownBytes.{Appends}
use Rattle.sdl_engine.specs.Input.{IsRead}
use Rattle.sdl_engine.specs.declared.input.Input.{Input}
use Rattle.sdl_engine.specs.declared.input.Input.TheVariants.{Held, TooLong}
use Rattle.sdl_engine.specs.declared.texts.Texts.{Texts}
use Rattle.sdl_report.specs.Gathered as gathered
use Rattle.sdl_report.specs.declared.write_whole.WriteFault.{WriteFault}
use Rattle.sdl_report.specs.declared.write_whole.WriteFault.TheVariants as written
use Rattle.run_record.specs.declared.record.Report.{Report}
use Rattle.run_record.specs.declared.run_error.RunError.{RunError}
use Rattle.run_record.specs.declared.run_error.RunError.TheVariants as run
use Rattle.sdl_script.specs.declared.script.ScriptLine.{ScriptLine}
use Rattle.sdl_system.specs.System.{SystemValue}
use Rattle.view_run.specs.declared.order_log.OrderLog.{OrderLog}
use Rattle.sdl_engine.specs.Answer.{Allows, AllowsOfRun, BreaksOff, BreaksOffRun, BreaksOffTelling, FailsToTell, FailsToTellRun, Faulted, Fails, IsRunOfInput, IsRunRefused, IsSerial, PrintsInput, Refuses, Says, SaysCut, SaysWhole, Tells, TellsRun, Written, carried, fault_of, outcome_by, outcome_of, workers_by}
use Rattle.sdl_engine.specs.RefusalText.{refusal_line}
use Rattle.sdl_engine.specs.Views.{IsTold}
use Rattle.sdl_engine.specs.declared.options.Command.{Command}
use Rattle.sdl_engine.specs.declared.options.Command.TheVariants as command
use Rattle.sdl_engine.specs.declared.options.Options.{Options}
use Rattle.sdl_engine.specs.declared.options.Outcome.{Outcome}
use Rattle.sdl_engine.specs.declared.options.Outcome.TheVariants as outcome
use Rattle.sdl_engine.specs.declared.options.TextFault.{TextFault}
use Rattle.sdl_engine.specs.declared.options.TextFault.TheVariants as fault
use Rattle.sdl_engine.specs.declared.options.View.{View}
use Rattle.sdl_engine.specs.declared.refusal.Refusal.{Refusal}
use Rattle.sdl_engine.specs.declared.refusal.Refusal.TheVariants as refusal

-- options that ask for no thread are carried out the same without threads
workers_same : (how : Command) (asked : Option ℕ) → (how ≡ command.Run → asked ≡ None) →
    workers_by false how asked ≡ asked
workers_same command.Check asked serial = refl
workers_same command.Run asked serial = sym (serial refl)

pub carried_same : (options : Options) → IsSerial options → carried false options ≡ options
carried_same options serial =
    ap (λ (w : Option ℕ). record options { workers = w }) (workers_same options.command options.workers serial)

-- what tells a run is what is said of its input
pub run_says : (input : Input) (options : Options) (workers : Option ℕ) (system : SystemValue) (report : Report)
    (lines : List ScriptLine) (log : Option OrderLog) (whole : Bool) (stuck : Option ℕ)
    (text : List ℕ) → options.command ≡ command.Run → options.workers ≡ workers → report.whole ≡ whole →
    IsRunOfInput input workers options.limit system report lines log →
    IsTold options.view log system report lines stuck text → Says input options (outcome_by whole) text
run_says (Held texts) options workers system report lines log true stuck text asked by is run told =
    subst (λ c. SaysWhole c options.workers texts options.limit options.view text) (sym asked) (record {
      system = system;
      report = report;
      lines = lines;
      log = log;
      run = subst (λ w. IsRunOfInput (Held texts) w options.limit system report lines log) (sym by) run;
      is_whole = is;
      stuck = stuck;
      says = told;
    })
run_says (Held texts) options workers system report lines log false stuck text asked by is run told =
    subst (λ c. SaysCut c options.workers texts options.limit options.view text) (sym asked) (record {
      system = system;
      report = report;
      lines = lines;
      log = log;
      run = subst (λ w. IsRunOfInput (Held texts) w options.limit system report lines log) (sym by) run;
      is_whole = is;
      stuck = stuck;
      says = told;
    })
run_says TooLong options workers system report lines log whole stuck text asked by is run told = absurd run

-- so is the canonical text of its specification
pub canonical_says : (input : Input) (options : Options) (text : List ℕ) → options.command ≡ command.Check →
    PrintsInput input text → Says input options outcome.Whole text
canonical_says (Held texts) options text asked prints =
    subst (λ c. SaysWhole c options.workers texts options.limit options.view text) (sym asked) prints
canonical_says TooLong options text asked prints = absurd prints

-- and the line of a refusal
refuses : (asked : Command) (workers : Option ℕ) (input : Input) (refused : Refusal) →
    Allows asked workers input refused → Refuses asked workers input (outcome_of refused) (refusal_line refused)
refuses asked workers input why allowed = record { refused = why; allowed = allowed; kind = refl; line = refl }

-- what a check may tell doesn't hang on workers
pub check_allows : (workers : Option ℕ) (input : Input) (refused : Refusal) → Allows command.Check None input refused →
    Allows command.Check workers input refused
check_allows workers (Held texts) refused allowed = allowed
check_allows workers TooLong refused allowed = allowed

-- with workers a run may tell either of itself, without them lack of memory alone
pub run_allows : (workers : Option ℕ) (texts : Texts) (error : RunError) → (workers ≡ None → error ≡ run.Memory) →
    IsRunRefused texts → AllowsOfRun workers texts error
run_allows None texts error only refused = subst (λ e. AllowsOfRun None texts e) (sym (only refl)) refused
run_allows (Some workers) texts run.Memory only refused = refused
run_allows (Some workers) texts (run.Lost number) only refused = refused

says_refused : (input : Input) (options : Options) (why : Refusal) (line : List ℕ) →
    Refuses options.command options.workers input (outcome_of why) line → Says input options (outcome_of why) line
says_refused (Held texts) options (refusal.Parse error) line r = r
says_refused (Held texts) options (refusal.Build error) line r = r
says_refused (Held texts) options (refusal.Script error) line r = r
says_refused (Held texts) options (refusal.Run error) line r = r
says_refused TooLong options (refusal.Parse error) line r = r
says_refused TooLong options (refusal.Build error) line r = r
says_refused TooLong options (refusal.Script error) line r = r
says_refused TooLong options (refusal.Run error) line r = r

pub refusal_says : (asked : Command) (workers : Option ℕ) (input : Input) (options : Options) (why : Refusal) →
    options.command ≡ asked → options.workers ≡ workers → Allows asked workers input why →
    Says input options (outcome_of why) (refusal_line why)
refusal_says asked workers input options why is by allowed =
    says_refused input options why (refusal_line why)
    (subst (λ c. Refuses c options.workers input (outcome_of why) (refusal_line why)) (sym is)
    (subst (λ w. Refuses asked w input (outcome_of why) (refusal_line why)) (sym by)
    (refuses asked workers input why allowed)))

-- ---- what a call's result says

-- what went out of a text before a fault of writing it
pub breaks_off : (why : WriteFault) (text : List ℕ) (old new : Option (List ℕ)) → gathered.BreaksOff old new text →
    BreaksOff (fault_of why) text old new
breaks_off written.Write text old new off = off
breaks_off written.Memory text old new off = off

pub tells_by : (input : Input) (options : Options) (expected : Outcome) (text : List ℕ) (old new : Option (List ℕ))
    (r : Result Outcome TextFault) → Says input options expected text → IfOk r (λ how. how ≡ expected) →
    OnOk r (Appends old new text) → IfOk r (λ how. Tells input options how old new)
tells_by input options expected text old new (Ok how) says is out = record {
  text = text;
  says = subst (λ o. Says input options o text) (sym is) says;
  out = out;
}
tells_by input options expected text old new (Err why) says is out = tt

fails_by' : (input : Input) (options : Options) (expected : Outcome) (text : List ℕ) (old new : Option (List ℕ))
    (why : TextFault) → Says input options expected text → BreaksOff why text old new →
    Fails why input options old new
fails_by' input options expected text old new fault.Read says off = absurd off
fails_by' input options expected text old new fault.Write says off = record {
  how = expected;
  text = text;
  says = says;
  breaks = off;
}
fails_by' input options expected text old new fault.Memory says off = inr (record {
  how = expected;
  text = text;
  says = says;
  breaks = off;
})

pub fails_by : (input : Input) (options : Options) (expected : Outcome) (text : List ℕ) (old new : Option (List ℕ))
    (r : Result Outcome TextFault) → Says input options expected text →
    IfErr r (λ why. BreaksOff why text old new) → IfErr r (λ why. Fails why input options old new)
fails_by input options expected text old new (Ok how) says off = tt
fails_by input options expected text old new (Err why) says off =
    fails_by' input options expected text old new why says off

tells_not' : (input : Input) (options : Options) (expected : Outcome) (text : List ℕ) (old new : Option (List ℕ))
    (why : TextFault) → Says input options expected text → FailsToTell why text old new →
    Fails why input options old new
tells_not' input options expected text old new fault.Read says off = absurd off
tells_not' input options expected text old new fault.Write says off =
    fails_by' input options expected text old new fault.Write says off
tells_not' input options expected text old new fault.Memory says off =
    elim off [
      | inl kept ↦ inl kept
      | inr broken ↦ fails_by' input options expected text old new fault.Memory says broken
    ]

pub tells_not : (input : Input) (options : Options) (expected : Outcome) (text : List ℕ) (old new : Option (List ℕ))
    (r : Result Outcome TextFault) → Says input options expected text →
    IfErr r (λ why. FailsToTell why text old new) → IfErr r (λ why. Fails why input options old new)
tells_not input options expected text old new (Ok how) says off = tt
tells_not input options expected text old new (Err why) says off =
    tells_not' input options expected text old new why says off

pub refused_by : (asked : Command) (workers : Option ℕ) (input : Input) (options : Options) (why : Refusal)
    (old new : Option (List ℕ)) (r : Result Outcome TextFault) → options.command ≡ asked →
    options.workers ≡ workers → Allows asked workers input why → IfOk r (λ how. how ≡ outcome_of why) →
    OnOk r (Appends old new (refusal_line why)) → IfOk r (λ how. Tells input options how old new)
refused_by asked workers input options why old new r is by allowed kind out =
    tells_by input options (outcome_of why) (refusal_line why) old new r
    (refusal_says asked workers input options why is by allowed) kind out

pub failed_by : (asked : Command) (workers : Option ℕ) (input : Input) (options : Options) (why : Refusal)
    (old new : Option (List ℕ)) (r : Result Outcome TextFault) → options.command ≡ asked →
    options.workers ≡ workers → Allows asked workers input why →
    IfErr r (λ fault. FailsToTell fault (refusal_line why) old new) →
    IfErr r (λ fault. Fails fault input options old new)
failed_by asked workers input options why old new r is by allowed off =
    tells_not input options (outcome_of why) (refusal_line why) old new r
    (refusal_says asked workers input options why is by allowed) off

-- ---- the whole program: the input was read first

pub written_by : (text : Option (List ℕ)) (script : Option (Option (List ℕ))) (old new : Option (List ℕ))
    (input : Input) (options : Options) (r : Result Outcome TextFault) → IsRead text script input →
    IfOk r (λ how. Tells input options how old new) → IfOk r (λ how. Written text script options how old new)
written_by text script old new input options (Ok how) read tells = record { input = input; read = read; tells = tells }
written_by text script old new input options (Err why) read tells = tt

faulted : (text : Option (List ℕ)) (script : Option (Option (List ℕ))) (old new : Option (List ℕ)) (input : Input)
    (options : Options) (why : TextFault) → IsRead text script input → Fails why input options old new →
    Faulted why text script options old new
faulted text script old new input options fault.Read read off = absurd off
faulted text script old new input options fault.Write read off = record { input = input; read = read; breaks = off }
faulted text script old new input options fault.Memory read off =
    elim off [ inl kept ↦ inl kept | inr broken ↦ inr (record { input = input; read = read; breaks = broken }) ]

pub faulted_by : (text : Option (List ℕ)) (script : Option (Option (List ℕ))) (old new : Option (List ℕ))
    (input : Input) (options : Options) (r : Result Outcome TextFault) → IsRead text script input →
    IfErr r (λ why. Fails why input options old new) → IfErr r (λ why. Faulted why text script options old new)
faulted_by text script old new input options (Ok how) read off = tt
faulted_by text script old new input options (Err why) read off =
    faulted text script old new input options why read off

-- ---- a run

pub run_tells : (input : Input) (options : Options) (workers : Option ℕ) (system : SystemValue) (report : Report)
    (lines : List ScriptLine) (log : Option OrderLog) (stuck : Option ℕ) (old new : Option (List ℕ))
    (r : Result Outcome TextFault) → options.command ≡ command.Run → options.workers ≡ workers →
    IsRunOfInput input workers options.limit system report lines log →
    IfOk r (λ how. how ≡ outcome_by report.whole) →
    OnOk r (TellsRun options.view log system report lines stuck old new) →
    IfOk r (λ how. Tells input options how old new)
run_tells input options workers system report lines log stuck old new (Ok how) asked by run is tells =
    record {
      text = tells.text;
      says = subst (λ o. Says input options o tells.text) (sym is)
          (run_says input options workers system report lines log report.whole stuck tells.text asked by
          refl run tells.says);
      out = tells.out;
    }
run_tells input options workers system report lines log stuck old new (Err why) asked by run is tells = tt

breaks_off_run : (input : Input) (options : Options) (workers : Option ℕ) (system : SystemValue) (report : Report)
    (lines : List ScriptLine) (log : Option OrderLog) (old new : Option (List ℕ)) →
    options.command ≡ command.Run → options.workers ≡ workers →
    IsRunOfInput input workers options.limit system report lines log →
    BreaksOffRun options.view log system report lines old new → BreaksOffTelling input options old new
breaks_off_run input options workers system report lines log old new asked by run off = record {
  how = outcome_by report.whole;
  text = off.text;
  says = run_says input options workers system report lines log report.whole off.stuck off.text asked by
      refl run off.says;
  breaks = off.breaks;
}

run_fails' : (input : Input) (options : Options) (workers : Option ℕ) (system : SystemValue) (report : Report)
    (lines : List ScriptLine) (log : Option OrderLog) (old new : Option (List ℕ)) (why : TextFault) →
    options.command ≡ command.Run → options.workers ≡ workers →
    IsRunOfInput input workers options.limit system report lines log →
    FailsToTellRun why options.view log system report lines old new → Fails why input options old new
run_fails' input options workers system report lines log old new fault.Read asked by run off = absurd off
run_fails' input options workers system report lines log old new fault.Write asked by run off =
    breaks_off_run input options workers system report lines log old new asked by run off
run_fails' input options workers system report lines log old new fault.Memory asked by run off = elim off [
  | inl kept ↦ inl kept
  | inr broken ↦
      inr (breaks_off_run input options workers system report lines log old new asked by run broken)
]

pub run_fails : (input : Input) (options : Options) (workers : Option ℕ) (system : SystemValue) (report : Report)
    (lines : List ScriptLine) (log : Option OrderLog) (old new : Option (List ℕ))
    (r : Result Outcome TextFault) → options.command ≡ command.Run → options.workers ≡ workers →
    IsRunOfInput input workers options.limit system report lines log →
    IfErr r (λ why. FailsToTellRun why options.view log system report lines old new) →
    IfErr r (λ why. Fails why input options old new)
run_fails input options workers system report lines log old new (Ok how) asked by run off = tt
run_fails input options workers system report lines log old new (Err why) asked by run off =
    run_fails' input options workers system report lines log old new why asked by run off

-- ---- a view

-- what went out of a text that tells a run, before a fault of writing it
pub view_fails : (why : WriteFault) (view : View) (log : Option OrderLog) (system : SystemValue) (report : Report)
    (lines : List ScriptLine) (stuck : Option ℕ) (text : List ℕ) (old new : Option (List ℕ)) →
    IsTold view log system report lines stuck text → gathered.BreaksOff old new text →
    FailsToTellRun (fault_of why) view log system report lines old new
view_fails written.Write view log system report lines stuck text old new told off = record {
  text = text;
  stuck = stuck;
  says = told;
  breaks = off;
}
view_fails written.Memory view log system report lines stuck text old new told off = inr (record {
  text = text;
  stuck = stuck;
  says = told;
  breaks = off;
})
