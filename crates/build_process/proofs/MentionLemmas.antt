-- The labels of bodies, and those to which their joins lead, said of the words in the text.
use Rattle.std.proofs.Common.{◌≡◌, ◌∙◌, ◌++◌, List, [], ◌∷◌, Option, None, Some, append-nil, append_assoc, flat_map, map, option_map, refl, ap, sym}
use Rattle.std.proofs.lemmas.Grind.{flat_map-append}
use Rattle.build_process.proofs.EndLemmas.{Labelled, both-some, labelled-some, map-some, opened, some-same, without}
use Rattle.build_process.specs.Bodies.{beginning_body, bodies_among}
use Rattle.build_flow.specs.Beginnings.{Beginning, part_beginnings, stimulus_beginnings}
use Rattle.build_flow.specs.Mentions.{Mention, Standing, Joined, action_mentions, actions_mentions, beginning_mentions, ending_mentions, label_mentions, otherwise_mentions, parts_mentions, process_mentions, terminator_mentions, transition_mentions}
use Rattle.build_names.specs.Labels.{action_labels, actions_labels, body_labels, ending_labels, label_words, otherwise_labels, parts_labels, process_labels, stimulus_labels, transition_labels}
use Rattle.build_statements.specs.Contexts.{Context, label_in, state_in}
use Rattle.build_statements.specs.Labels.{gathered, gathered_in}
use Rattle.build_statements.specs.Statements.{answers_in, asked_in, create_in, kind_in, output_in, reset_in, set_in, task_in, terminator_in}
use Rattle.build_statements.specs.Transitions.{Head, Piece, acts, asks, before, body_in, ending_in, head_in, other_in, parts_of, piece, pieces_in, steps_in}
use Rattle.build_expressions.specs.Partial.{both}
use Rattle.build_expressions.specs.Typing.{term_in}
use Rattle.build_expressions.specs.declared.operand_sort.OperandSort.{OperandSort}
use Rattle.sdl_system.specs.Body as body
use Rattle.sdl_system.specs.Body.{Body}
use Rattle.sdl_system.specs.declared.id.LabelId.{LabelId}
use Rattle.sdl_system.specs.declared.id.StateId.{StateId}
use Rattle.sdl_tree.specs.Tree as tree
use Rattle.sdl_tree.specs.Tree.{Transition, Actions, Action, Parts, Otherwise, Ending, Steps, NoAction, AndAction, Task, Output, Set, Reset, Create, Decision, NoPart, AndPart, NoElse, Else, Stimulus, InputPart, PriorityInput, SavePart, ContinuousSignal, BodyPart, StatePart, FreeAction, ProcessDefinition}
use Rattle.sdl_tree.specs.Words.{Spot}

-- what a label's number gives, where a name has one
abbrev pub for_some : (LabelId → List LabelId) → Option LabelId → List LabelId
for_some f None = []
for_some f (Some l) = f l

-- what the labels and the joins that are mentioned give
abbrev pub named : Context → (LabelId → List LabelId) → (LabelId → List LabelId) → Mention → List LabelId
named context f j (Standing word) = for_some f (label_in context word.text)
named context f j (Joined word) = for_some j (label_in context word.text)

-- ---- what a body gives

module _ (context : Context) (f : LabelId → List LabelId) (g : body.Terminator → List LabelId)
    (no_state : (state : StateId) → g (body.to_state state) ≡ []) (not_same : g body.to_same ≡ [])
    (no_stop : g body.stop ≡ []) where
  abbrev of_all : List Mention → List LabelId
  of_all mentions = flat_map (named context f (λ l. g (body.join l))) mentions

  of-append : (xs ys : List Mention) → of_all (xs ++ ys) ≡ of_all xs ++ of_all ys
  of-append xs ys = flat_map-append (named context f (λ l. g (body.join l))) xs ys

  joins-by : (o : Option LabelId) (x : body.Terminator) → option_map body.join o ≡ Some x →
      g x ≡ for_some (λ l. g (body.join l)) o ++ []
  joins-by None x is = cc
  joins-by (Some l) x is = ap g (sym (some-same (body.join l) x is)) ∙ sym (append-nil (g (body.join l)))

  terminator-gathers : (terminator : tree.Terminator) (x : body.Terminator) →
      terminator_in context terminator ≡ Some x → g x ≡ of_all (terminator_mentions terminator)
  terminator-gathers (tree.Next word (tree.Same dash)) x is = ap g (sym (some-same body.to_same x is)) ∙ not_same
  terminator-gathers (tree.Next word (tree.To state)) x is =
      let r = map-some body.to_state (state_in context state.text) x is in ap g r.2 ∙ no_state r.0
  terminator-gathers (tree.Stop word) x is = ap g (sym (some-same body.stop x is)) ∙ no_stop
  terminator-gathers (tree.Join word label) x is = joins-by (label_in context label.text) x is

  labelled-gathers : (name : Option Spot) (inner whole : Body) → Labelled context name inner whole →
      gathered f g whole ≡ of_all (label_mentions name) ++ gathered f g inner
  labelled-gathers name inner whole (without none same) =
      ap (gathered f g) same ∙ ap (λ (o : Option Spot). of_all (label_mentions o) ++ gathered f g inner) (sym none)
  labelled-gathers name inner whole (opened word l is found same) =
      ap (gathered f g) same
      ∙ ap (λ (list : List LabelId). list ++ gathered f g inner)
      (sym (append-nil (f l)) ∙ ap (λ (o : Option LabelId). for_some f o ++ []) (sym found))
      ∙ ap (λ (o : Option Spot). of_all (label_mentions o) ++ gathered f g inner) (sym is)

  ending-gathers : (ending : Option Ending) (whole : Body) → ending_in context ending ≡ Some whole →
      gathered f g whole ≡ of_all (ending_mentions ending)
  ending-gathers None whole is = ap (gathered f g) (sym (some-same body.nothing whole is))
  ending-gathers (Some ending) whole is =
      let last = option_map body.ending (terminator_in context ending.terminator) in
      let r = labelled-some context ending.label last whole is in
      let t = map-some body.ending (terminator_in context ending.terminator) r.0 r.1 in
      labelled-gathers ending.label r.0 whole r.2
      ∙ ap (λ list. of_all (label_mentions ending.label) ++ list)
      (ap (gathered f g) t.2 ∙ terminator-gathers ending.terminator t.0 t.1)
      ∙ sym (of-append (label_mentions ending.label) (terminator_mentions ending.terminator))

  joined-mentions : (label action rest : List Mention) (last : List LabelId) →
      of_all label ++ (of_all action ++ (of_all rest ++ last)) ≡ of_all ((label ++ action) ++ rest) ++ last
  joined-mentions label action rest last =
      ap (λ list. of_all label ++ list) (sym (append_assoc (of_all action) (of_all rest) last))
      ∙ sym (append_assoc (of_all label) (of_all action ++ of_all rest) last)
      ∙ ap (λ list. list ++ last) (sym (append_assoc (of_all label) (of_all action) (of_all rest))
      ∙ ap (λ list. list ++ of_all rest) (sym (of-append label action)) ∙ sym (of-append (label ++ action) rest))

  mutual
    pub transition-gathers : (t : Transition) (whole : Body) → body_in context t ≡ Some whole →
        gathered f g whole ≡ of_all (transition_mentions t)
    transition-gathers (Steps actions ending) whole is =
        steps-gathers actions (ending_in context ending) whole is (of_all (ending_mentions ending))
        (ending-gathers ending)
        ∙ sym (of-append (actions_mentions actions) (ending_mentions ending))

    steps-gathers : (actions : Actions) (end : Option Body) (whole : Body) → steps_in context actions end ≡ Some whole →
        (last : List LabelId) → ((e : Body) → end ≡ Some e → gathered f g e ≡ last) →
        gathered f g whole ≡ of_all (actions_mentions actions) ++ last
    steps-gathers NoAction end whole is last ends = ends whole is
    steps-gathers (AndAction name first rest) end whole is last ends =
        let r = labelled-some context name (both before (head_in context first) (steps_in context rest end)) whole is in
        let s = both-some before (head_in context first) (steps_in context rest end) r.0 r.1 in
        labelled-gathers name r.0 whole r.2
        ∙ ap (λ list. of_all (label_mentions name) ++ list)
        (ap (gathered f g) s.4 ∙ head-gathers first s.0 s.1 s.2
        ∙ ap (λ list. of_all (action_mentions first) ++ list) (steps-gathers rest end s.1 s.3 last ends))
        ∙ joined-mentions (label_mentions name) (action_mentions first) (actions_mentions rest) last

    head-gathers : (first : Action) (h : Head) (rest : Body) → head_in context first ≡ Some h →
        gathered f g (before h rest) ≡ of_all (action_mentions first) ++ gathered f g rest
    head-gathers (Task word assignments) h rest is =
        let r = map-some acts (task_in context assignments) h is in ap (λ x. gathered f g (before x rest)) r.2
    head-gathers (Output word outputs destination) h rest is =
        let r = map-some acts (output_in context outputs destination) h is in ap (λ x. gathered f g (before x rest)) r.2
    head-gathers (Set word clauses) h rest is =
        let r = map-some acts (set_in context clauses) h is in ap (λ x. gathered f g (before x rest)) r.2
    head-gathers (Reset word groups) h rest is =
        let r = map-some acts (reset_in context groups) h is in ap (λ x. gathered f g (before x rest)) r.2
    head-gathers (Create word process) h rest is =
        let r = map-some acts (create_in context process) h is in ap (λ x. gathered f g (before x rest)) r.2
    head-gathers (Decision word question parts other) h rest is =
        let typed = asked_in context question in
        let pieces = pieces_in context (kind_in typed) parts in
        let r = both-some asks (term_in typed) (both parts_of pieces (other_in context other)) h is in
        let s = both-some parts_of pieces (other_in context other) r.1 r.3 in
        ap (λ x. gathered f g (before x rest)) (r.4 ∙ ap (asks r.0) s.4)
        ∙ ap (λ list. list ++ gathered f g rest)
        (parts-gathers (kind_in typed) parts s.0 s.1 s.2 (of_all (otherwise_mentions other))
        (other-gathers other s.1 s.3) ∙ sym (of-append (parts_mentions parts) (otherwise_mentions other)))

    parts-gathers : (kind : Option OperandSort) (parts : Parts) (pieces : List Piece) (other : Option Body) →
        pieces_in context kind parts ≡ Some pieces → (last : List LabelId) →
        gathered_in f g (parts_of [] other) ≡ last →
        gathered_in f g (parts_of pieces other) ≡ of_all (parts_mentions parts) ++ last
    parts-gathers kind NoPart pieces other is last ends =
        ap (λ list. gathered_in f g (parts_of list other)) (sym (some-same [] pieces is)) ∙ ends
    parts-gathers kind (AndPart answers t rest) pieces other is last ends =
        let r = both-some ◌∷◌ (both piece (answers_in context kind answers) (body_in context t))
        (pieces_in context kind rest) pieces is in
        let s = both-some piece (answers_in context kind answers) (body_in context t) r.0 r.2 in
        ap (λ list. gathered_in f g (parts_of list other)) (r.4 ∙ ap (λ x. x ∷ r.1) s.4)
        ∙ ap (λ list. list ++ gathered_in f g (parts_of r.1 other)) (transition-gathers t s.1 s.3)
        ∙ ap (λ list. of_all (transition_mentions t) ++ list) (parts-gathers kind rest r.1 other r.3 last ends)
        ∙ sym (append_assoc (of_all (transition_mentions t)) (of_all (parts_mentions rest)) last)
        ∙ ap (λ list. list ++ last) (sym (of-append (transition_mentions t) (parts_mentions rest)))

    other-gathers : (other : Otherwise) (o : Option Body) → other_in context other ≡ Some o →
        gathered_in f g (parts_of [] o) ≡ of_all (otherwise_mentions other)
    other-gathers NoElse o is = ap (λ x. gathered_in f g (parts_of [] x)) (sym (some-same None o is))
    other-gathers (Else t) o is =
        let r = map-some Some (body_in context t) o is in
        ap (λ x. gathered_in f g (parts_of [] x)) r.2 ∙ transition-gathers t r.0 r.1

  beginning-gathers : (b : Beginning) (whole : Body) → beginning_body context b ≡ Some whole →
      gathered f g whole ≡ of_all (beginning_mentions b)
  beginning-gathers b whole is =
      let r = labelled-some context b.label (body_in context b.transition) whole is in
      labelled-gathers b.label r.0 whole r.2
      ∙ ap (λ list. of_all (label_mentions b.label) ++ list) (transition-gathers b.transition r.0 r.1)
      ∙ sym (of-append (label_mentions b.label) (transition_mentions b.transition))

  pub all-gathered : (list : List Beginning) (bodies : List Body) → bodies_among context list ≡ map Some bodies →
      flat_map (gathered f g) bodies ≡ of_all (flat_map beginning_mentions list)
  all-gathered [] [] is = refl
  all-gathered [] (x ∷ bodies) is = cc
  all-gathered (b ∷ list) [] is = cc
  all-gathered (b ∷ list) (x ∷ bodies) is =
      let first : beginning_body context b ≡ Some x = cc in
      let rest : bodies_among context list ≡ map Some bodies = cc in
      ap (λ labels. labels ++ flat_map (gathered f g) bodies) (beginning-gathers b x first)
      ∙ ap (λ labels. of_all (beginning_mentions b) ++ labels) (all-gathered list bodies rest)
      ∙ sym (of-append (beginning_mentions b) (flat_map beginning_mentions list))

-- ---- the labels of a process

-- the labels that are mentioned
abbrev spots : Mention → List Spot
spots (Standing word) = word ∷ []
spots (Joined word) = []

abbrev all_spots : List Mention → List Spot
all_spots mentions = flat_map spots mentions

spots-append : (xs ys : List Mention) → all_spots (xs ++ ys) ≡ all_spots xs ++ all_spots ys
spots-append xs ys = flat_map-append spots xs ys

label-spots : (name : Option Spot) → label_words name ≡ all_spots (label_mentions name)
label-spots None = refl
label-spots (Some word) = refl

terminator-spots : (t : tree.Terminator) → [] ≡ all_spots (terminator_mentions t)
terminator-spots (tree.Next word state) = refl
terminator-spots (tree.Stop word) = refl
terminator-spots (tree.Join word label) = refl

ending-spots : (ending : Option Ending) → ending_labels ending ≡ all_spots (ending_mentions ending)
ending-spots None = refl
ending-spots (Some ending) =
    sym (append-nil (label_words ending.label))
    ∙ ap (λ list. list ++ []) (label-spots ending.label)
    ∙ ap (λ list. all_spots (label_mentions ending.label) ++ list) (terminator-spots ending.terminator)
    ∙ sym (spots-append (label_mentions ending.label) (terminator_mentions ending.terminator))

mutual
  transition-spots : (t : Transition) → transition_labels t ≡ all_spots (transition_mentions t)
  transition-spots (Steps actions ending) =
      ap (λ list. list ++ ending_labels ending) (actions-spots actions)
      ∙ ap (λ list. all_spots (actions_mentions actions) ++ list) (ending-spots ending)
      ∙ sym (spots-append (actions_mentions actions) (ending_mentions ending))

  actions-spots : (actions : Actions) → actions_labels actions ≡ all_spots (actions_mentions actions)
  actions-spots NoAction = refl
  actions-spots (AndAction name first rest) =
      ap (λ list. list ++ (action_labels first ++ actions_labels rest)) (label-spots name)
      ∙ ap (λ list. all_spots (label_mentions name) ++ (list ++ actions_labels rest)) (action-spots first)
      ∙ ap (λ list. all_spots (label_mentions name) ++ (all_spots (action_mentions first) ++ list)) (actions-spots rest)
      ∙ sym (append_assoc (all_spots (label_mentions name)) (all_spots (action_mentions first))
      (all_spots (actions_mentions rest)))
      ∙ ap (λ list. list ++ all_spots (actions_mentions rest))
      (sym (spots-append (label_mentions name) (action_mentions first)))
      ∙ sym (spots-append (label_mentions name ++ action_mentions first) (actions_mentions rest))

  action-spots : (action : Action) → action_labels action ≡ all_spots (action_mentions action)
  action-spots (Task word assignments) = refl
  action-spots (Output word outputs destination) = refl
  action-spots (Set word clauses) = refl
  action-spots (Reset word groups) = refl
  action-spots (Create word process) = refl
  action-spots (Decision word question parts other) =
      ap (λ list. list ++ otherwise_labels other) (parts-spots parts)
      ∙ ap (λ list. all_spots (parts_mentions parts) ++ list) (otherwise-spots other)
      ∙ sym (spots-append (parts_mentions parts) (otherwise_mentions other))

  parts-spots : (parts : Parts) → parts_labels parts ≡ all_spots (parts_mentions parts)
  parts-spots NoPart = refl
  parts-spots (AndPart answers t rest) =
      ap (λ list. list ++ parts_labels rest) (transition-spots t)
      ∙ ap (λ list. all_spots (transition_mentions t) ++ list) (parts-spots rest)
      ∙ sym (spots-append (transition_mentions t) (parts_mentions rest))

  otherwise-spots : (other : Otherwise) → otherwise_labels other ≡ all_spots (otherwise_mentions other)
  otherwise-spots NoElse = refl
  otherwise-spots (Else t) = transition-spots t

abbrev begun_spots : List Beginning → List Spot
begun_spots list = all_spots (flat_map beginning_mentions list)

begun-append : (xs ys : List Beginning) → begun_spots (xs ++ ys) ≡ begun_spots xs ++ begun_spots ys
begun-append xs ys =
    ap all_spots (flat_map-append beginning_mentions xs ys)
    ∙ spots-append (flat_map beginning_mentions xs) (flat_map beginning_mentions ys)

-- a transition without a label of its own
plain-spots : (t : Transition) → transition_labels t ≡ all_spots (transition_mentions t ++ [])
plain-spots t = transition-spots t ∙ ap all_spots (sym (append-nil (transition_mentions t)))

stimulus-spots : (s : Stimulus) → stimulus_labels s ≡ begun_spots (stimulus_beginnings s)
stimulus-spots (InputPart word inputs condition t) = plain-spots t
stimulus-spots (PriorityInput word inputs t) = plain-spots t
stimulus-spots (SavePart word saved) = refl
stimulus-spots (ContinuousSignal word condition priority t) = plain-spots t

stimuli-spots : (list : List Stimulus) → flat_map stimulus_labels list ≡ begun_spots (flat_map stimulus_beginnings list)
stimuli-spots [] = refl
stimuli-spots (s ∷ list) =
    ap (λ labels. labels ++ flat_map stimulus_labels list) (stimulus-spots s)
    ∙ ap (λ labels. begun_spots (stimulus_beginnings s) ++ labels) (stimuli-spots list)
    ∙ sym (begun-append (stimulus_beginnings s) (flat_map stimulus_beginnings list))

part-spots : (part : BodyPart) → body_labels part ≡ begun_spots (part_beginnings part)
part-spots (StatePart states stimuli) = stimuli-spots stimuli
part-spots (FreeAction word label t) = ap (λ list. label ∷ list) (plain-spots t)

parts-begun : (list : List BodyPart) → flat_map body_labels list ≡ begun_spots (flat_map part_beginnings list)
parts-begun [] = refl
parts-begun (part ∷ list) =
    ap (λ labels. labels ++ flat_map body_labels list) (part-spots part)
    ∙ ap (λ labels. begun_spots (part_beginnings part) ++ labels) (parts-begun list)
    ∙ sym (begun-append (part_beginnings part) (flat_map part_beginnings list))

pub process-spots : (process : ProcessDefinition) → process_labels process ≡ all_spots (process_mentions process)
process-spots process =
    ap (λ labels. labels ++ flat_map body_labels process.body) (transition-spots process.start.transition)
    ∙ ap (λ labels. all_spots (transition_mentions process.start.transition) ++ labels) (parts-begun process.body)
    ∙ sym (spots-append (transition_mentions process.start.transition)
    (flat_map beginning_mentions (flat_map part_beginnings process.body)))

-- ---- the numbers of labels

abbrev pub number_of : Context → Spot → List LabelId
number_of context word = for_some (λ l. l ∷ []) (label_in context word.text)

pub none-of : (o : Option LabelId) → for_some (λ l. []) o ≡ []
none-of None = refl
none-of (Some l) = refl

pub standing-numbers : (context : Context) (mentions : List Mention) →
    flat_map (named context (λ l. l ∷ []) (λ l. [])) mentions ≡ flat_map (number_of context) (all_spots mentions)
standing-numbers context [] = refl
standing-numbers context (Standing word ∷ rest) =
    ap (λ list. number_of context word ++ list) (standing-numbers context rest)
standing-numbers context (Joined word ∷ rest) =
    ap (λ list. list ++ flat_map (named context (λ l. l ∷ []) (λ l. [])) rest) (none-of (label_in context word.text))
    ∙ standing-numbers context rest
