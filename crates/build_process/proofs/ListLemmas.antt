-- Bodies and faults of lists of transitions.
use Rattle.std.proofs.Common.{◌≡◌, ◌∙◌, ◌++◌, List, [], ◌∷◌, Option, append_assoc, flat_map, ap, sym}
use Rattle.std.proofs.lemmas.Grind.{flat_map-append}
use Rattle.std.proofs.lemmas.List.{map-append}
use Rattle.build_process.specs.Bodies.{beginning_body, bodies_among, faults_among, statement_faults}
use Rattle.build_flow.specs.Beginnings.{Beginning}
use Rattle.build_statements.proofs.ListLemmas.{flat_map-last}
use Rattle.build_statements.specs.Contexts.{Context}
use Rattle.sdl_system.specs.Body.{Body}

-- those of one more part
pub bodies-more : {X : Type 0} (context : Context) (f : X → List Beginning) (before : List X) (x : X)
    (found : List (Option Body)) →
    (found ++ bodies_among context (flat_map f before)) ++ bodies_among context (f x)
    ≡ found ++ bodies_among context (flat_map f (before ++ x ∷ []))
bodies-more context f before x found =
    append_assoc found (bodies_among context (flat_map f before)) (bodies_among context (f x))
    ∙ ap (λ list. found ++ list) (sym (ap (bodies_among context) (flat_map-last f before x)
    ∙ map-append (beginning_body context) (flat_map f before) (f x)))

pub faults-more : {X : Type 0} (context : Context) (f : X → List Beginning) (before : List X) (x : X) →
    faults_among context (flat_map f before) ++ faults_among context (f x)
    ≡ faults_among context (flat_map f (before ++ x ∷ []))
faults-more context f before x =
    sym (ap (faults_among context) (flat_map-last f before x)
    ∙ flat_map-append (statement_faults context) (flat_map f before) (f x))
