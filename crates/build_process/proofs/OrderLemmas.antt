-- How many transitions begin in the parts of a process.
use Rattle.std.proofs.Common.{◌≡◌, ◌∙◌, ℕ, ◌+◌, List, [], ◌∷◌, arith, flat_map, fold, length, length-append, suc, refl, ap, sym}
use Rattle.build_process.specs.Order.{PartsInOrder, StimuliInOrder}
use Rattle.build_flow.specs.Beginnings.{part_beginnings, stimulus_beginnings}
use Rattle.build_states.specs.Context.{Context}
use Rattle.build_states.specs.Reading.{Begun, Reading, first_reading, no_stimuli, with_part, with_stimulus}
use Rattle.sdl_tree.specs.Tree.{BodyPart, ContinuousSignal, FreeAction, InputPart, PriorityInput, SavePart, StatePart, Stimulus}

nothing-more : (n : ℕ) → n ≡ n + 0
nothing-more n = omega arith

stimulus-next : (context : Context) (begun : Begun) (s : Stimulus) →
    (with_stimulus context begun s).numbering.next.0 ≡ begun.numbering.next.0 + length (stimulus_beginnings s)
stimulus-next context begun (InputPart word inputs condition t) = refl
stimulus-next context begun (PriorityInput word inputs t) = refl
stimulus-next context begun (SavePart word saved) = nothing-more begun.numbering.next.0
stimulus-next context begun (ContinuousSignal word condition priority t) = refl

sum-of : (a b d n m : ℕ) → n ≡ m + d → m ≡ a + b → n ≡ a + (b + d)
sum-of a b d n m first second = omega (arith, first, second)

stimuli-next : (context : Context) (begun : Begun) (list : List Stimulus) →
    (fold (with_stimulus context) begun list).numbering.next.0
    ≡ begun.numbering.next.0 + length (flat_map stimulus_beginnings list)
stimuli-next context begun [] = nothing-more begun.numbering.next.0
stimuli-next context begun (s ∷ list) =
    sum-of begun.numbering.next.0 (length (stimulus_beginnings s)) (length (flat_map stimulus_beginnings list)) _ _
    (stimuli-next context (with_stimulus context begun s) list) (stimulus-next context begun s)
    ∙ ap (λ n. begun.numbering.next.0 + n)
    (sym (length-append (stimulus_beginnings s) (flat_map stimulus_beginnings list)))

pub stimuli-in-order : StimuliInOrder
stimuli-in-order context numbering states before =
    stimuli-next context (record { numbering = numbering; part = no_stimuli states }) before

part-next : (context : Context) (reading : Reading) (part : BodyPart) →
    (with_part context reading part).numbering.next.0 ≡ reading.numbering.next.0 + length (part_beginnings part)
part-next context reading (StatePart states stimuli) = stimuli-in-order context reading.numbering states stimuli
part-next context reading (FreeAction word label t) = refl

parts-next : (context : Context) (reading : Reading) (list : List BodyPart) →
    (fold (with_part context) reading list).numbering.next.0
    ≡ reading.numbering.next.0 + length (flat_map part_beginnings list)
parts-next context reading [] = nothing-more reading.numbering.next.0
parts-next context reading (part ∷ list) =
    sum-of reading.numbering.next.0 (length (part_beginnings part)) (length (flat_map part_beginnings list)) _ _
    (parts-next context (with_part context reading part) list) (part-next context reading part)
    ∙ ap (λ n. reading.numbering.next.0 + n)
    (sym (length-append (part_beginnings part) (flat_map part_beginnings list)))

one-first : (n m : ℕ) → n ≡ 1 + m → n ≡ suc m
one-first n m is = omega (arith, is)

pub parts-in-order : PartsInOrder
parts-in-order context start before =
    one-first _ (length (flat_map part_beginnings before)) (parts-next context first_reading before)
