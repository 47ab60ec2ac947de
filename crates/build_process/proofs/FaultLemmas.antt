-- Passes one behind another.
use Rattle.std.proofs.Common.{◌≡◌, ◌∙◌, ◌++◌, ℕ, Bool, List, Option, OnOk, Result, Ok, Err, ap, append_assoc, flat_map}
use Rattle.build_names.proofs.FaultLemmas.{both_noted}
use Rattle.build_names.specs.Faults.{Diagnostic, least_of}
use Rattle.build_names.specs.States.{different}
use Rattle.build_states.specs.States.{is_named, left_out_faults, named_faults, names_in, process_faults}
use Rattle.build_states.proofs.ProcessLemmas.{left_out-same}
use Rattle.build_states.specs.Context.{Context}
use Rattle.build_states.specs.Reading.{Part, body_faults, process_read}
use Rattle.sdl_tree.specs.Tree.{ProcessDefinition}
use Rattle.sdl_tree.specs.Words.{Spot}
use Rattle.build_process.specs.Faulty.{NotesBody, NotesFlow, flow_faults}
use Rattle.build_process.specs.ProcessScope.{ProcessScope, for_stimuli}

pub two-noted : (old first second : Option Diagnostic) (xs ys : List Diagnostic) → first ≡ least_of old xs →
    second ≡ least_of first ys → second ≡ least_of old (xs ++ ys)
two-noted old first second xs ys one two = two ∙ ap (λ t. least_of t ys) one ∙ both_noted old xs ys

-- what holds anyway
pub on-ok : {T E P : Type 0} (r : Result T E) → P → OnOk r P
on-ok (Ok x) p = p
on-ok (Err e) p = tt

-- the faults of stimuli and of names behind asterisks, then those of the states
pub states-noted : (context : Context) (process : ProcessDefinition) (test : List ℕ → Bool) (parts : List Part)
    (names : List Spot) (old first second : Option Diagnostic) →
    ((text : List ℕ) → test text ≡ is_named (names_in process.body) text) →
    parts ≡ (process_read context process).parts → names ≡ different (names_in process.body) →
    first ≡ least_of old (body_faults context process.body ++ flat_map (left_out_faults test) process.body) →
    second ≡ least_of first (flat_map (named_faults parts) names) →
    second ≡ least_of old (process_faults context process)
states-noted context process test parts names old first second same parts-are names-are one two =
    let faults = body_faults context process.body in
    let left_out = flat_map (left_out_faults (is_named (names_in process.body))) process.body in
    two-noted old first second (faults ++ flat_map (left_out_faults test) process.body)
    (flat_map (named_faults parts) names) one two
    ∙ ap (λ list. least_of old ((faults ++ list) ++ flat_map (named_faults parts) names))
    (left_out-same test (is_named (names_in process.body)) same process.body)
    ∙ ap (λ list. least_of old ((faults ++ left_out) ++ flat_map (named_faults list) names)) parts-are
    ∙ ap (λ list. least_of old ((faults ++ left_out)
    ++ flat_map (named_faults (process_read context process).parts) list))
    names-are
    ∙ ap (least_of old) (append_assoc faults left_out
    (flat_map (named_faults (process_read context process).parts) (different (names_in process.body))))

-- the faults of the transitions behind those of the states
pub body-noted : (around : ProcessScope) (process : ProcessDefinition) (old first second : Option Diagnostic) →
    first ≡ least_of old (process_faults (for_stimuli around) process) → NotesFlow around process first second →
    NotesBody around process old second
body-noted around process old first second one flow = record {
  names = flow.names;
  are_reached = flow.are_reached;
  noted =
      two-noted old first second (process_faults (for_stimuli around) process) (flow_faults around process flow.names)
      one flow.noted;
}
