-- What the engine answers, said of an answer.
use Rattle.std.proofs.Common.{◌≡◌, ℕ, true, List, [], Some, None, Result, Ok, Err, IfOk, IfErr, subst}
use Rattle.sdl_engine.specs.Answer.{Faulted, Written, carried}
use Rattle.sdl_engine.specs.declared.options.Options.{Options}
use Rattle.sdl_engine.specs.declared.options.Outcome.{Outcome}
use Rattle.sdl_engine.specs.declared.options.TextFault.{TextFault}
use Rattle.conformance.specs.Judgement.{IsAnswer, status_of}

-- a runner that has threads carries out the options as they are
pub is_answer : (input before output : List ℕ) (options : Options) (status : ℕ) (came : Result Outcome TextFault)
    → before ≡ [] → status ≡ status_of came
    → IfOk came (λ how. Written (Some input) None (carried true options) how (Some before) (Some output))
    → IfErr came (λ fault. Faulted fault (Some input) None (carried true options) (Some before) (Some output))
    → IsAnswer input options output status
is_answer input before output options status (Ok how) empty ends ok err = record {
  came = Ok how;
  ends = ends;
  writes = subst (λ (was : List ℕ). Written (Some input) None options how (Some was) (Some output)) empty ok;
}
is_answer input before output options status (Err fault) empty ends ok err = record {
  came = Err fault;
  ends = ends;
  writes = subst (λ (was : List ℕ). Faulted fault (Some input) None options (Some was) (Some output)) empty err;
}
