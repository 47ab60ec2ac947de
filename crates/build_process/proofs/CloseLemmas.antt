-- The bodies of a process whose transitions end and whose labels are numbered are closed.
use Rattle.std.proofs.Common.{◌≡◌, ◌∙◌, inl, inr, ℕ, zero, suc, ◌≤◌, ◌++◌, Bool, true, false, List, [], ◌∷◌, Option, None, Some, flat_map, map, slice_get, refl, ap, sym, subst}
use Rattle.std.proofs.lemmas.Slice.Eq.{bytes_eq-Decides}
use Rattle.std.specs.Str.{bytes_eq}
use Rattle.build_process.proofs.EndLemmas.{Labelled, labelled-ends, labelled-some, opened, or-left, or-right, standing, transition-ends, transition-onward, without}
use Rattle.build_process.proofs.MentionLemmas.{all-gathered, for_some, named, none-of, number_of, process-spots, standing-numbers}
use Rattle.build_process.proofs.NumberLemmas.{counted, counted-once, number-in, numbers-are, same-text}
use Rattle.build_process.specs.Bodies.{beginning_body, bodies_among, bodies_of}
use Rattle.build_process.specs.Numbered.{AreNumbered}
use Rattle.build_process.specs.Sound.{BodiesClosed}
use Rattle.build_flow.specs.Beginnings.{Beginning, beginnings}
use Rattle.build_flow.specs.Ends.{beginning_faults, ends_faults, enters_named}
use Rattle.build_flow.specs.Mentions as mention
use Rattle.build_flow.specs.Mentions.{Mention, is_named, join_names, process_joins, process_mentions}
use Rattle.build_flow.specs.Passing.{transition_passed}
use Rattle.build_names.specs.Labels.{process_labels}
use Rattle.build_statements.proofs.CountLemmas.{in-append}
use Rattle.build_statements.proofs.LinkLemmas.{in-times, times-in}
use Rattle.build_statements.specs.Contexts.{Context, label_in}
use Rattle.build_statements.specs.Labels.{itself, joined, no_label, not_joined, times}
use Rattle.build_statements.specs.Made.{Closed, all_joins, all_labels}
use Rattle.build_statements.specs.Transitions.{body_in}
use Rattle.build_names.specs.FaultLaws.{In}
use Rattle.build_names.specs.Faults.{Diagnostic, fault_if}
use Rattle.build_names.specs.declared.faults.fault.Rule.{Rule}
use Rattle.sdl_system.specs.Body as body
use Rattle.sdl_system.specs.Body.{Body, Ends, FromLabel}
use Rattle.sdl_system.specs.Table.{LabelOf}
use Rattle.sdl_system.specs.declared.id.LabelId.{LabelId}
use Rattle.sdl_tree.specs.Tree.{ProcessDefinition}
use Rattle.sdl_tree.specs.Words.{Spot}

-- ---- transitions that end

pub no-fault : (broken : Bool) (kind : Rule) (word : Spot) (rest : List Diagnostic) →
    fault_if broken kind word ++ rest ≡ [] →
    (broken ≡ false) × (rest ≡ [])
no-fault true kind word rest is = cc
no-fault false kind word rest is = (refl, is)

-- the beginning to which a body belongs
record Begun (context : Context) (names : List (List ℕ)) (whole : Body) : Type 0 where
  beginning : Beginning
  body_is : beginning_body context beginning ≡ Some whole
  stops : transition_passed (enters_named names) beginning.transition true ≡ false

begun : (context : Context) (names : List (List ℕ)) (list : List Beginning) (bodies : List Body) →
    bodies_among context list ≡ map Some bodies → flat_map (beginning_faults names) list ≡ [] → (number : ℕ)
    (whole : Body) → slice_get bodies number ≡ Some whole → Begun context names whole
begun context names [] [] is none zero whole at = cc
begun context names [] [] is none (suc number) whole at = cc
begun context names [] (x ∷ bodies) is none number whole at = cc
begun context names (b ∷ list) [] is none number whole at = cc
begun context names (b ∷ list) (x ∷ bodies) is none zero whole at =
    let first : beginning_body context b ≡ Some x = cc in
    let stops = no-fault (transition_passed (enters_named names) b.transition true) _ b.word
    (flat_map (beginning_faults names) list) none in
    record { beginning = b; body_is = first ∙ at; stops = stops.0 }
begun context names (b ∷ list) (x ∷ bodies) is none (suc number) whole at =
    let rest : bodies_among context list ≡ map Some bodies = cc in
    let stops = no-fault (transition_passed (enters_named names) b.transition true) _ b.word
    (flat_map (beginning_faults names) list) none in
    begun context names list bodies rest stops.1 number whole at

begun-ends : (context : Context) (names : List (List ℕ)) (whole : Body) → Begun context names whole → Ends whole
begun-ends context names whole b =
    let r = labelled-some context b.beginning.label (body_in context b.beginning.transition) whole b.body_is in
    labelled-ends context b.beginning.label r.0 whole r.2
    (transition-ends context (enters_named names) b.beginning.transition r.0 r.1 b.stops)

-- ---- labels that a join names

record NamedBy (context : Context) (mentions : List Mention) (l : LabelId) : Type 0 where
  word : Spot
  number : label_in context word.text ≡ Some l
  is_joined : is_named (flat_map join_names mentions) word.text ≡ true

the-one : (o : Option LabelId) (l : LabelId) → In l (for_some (λ x. x ∷ []) o) → o ≡ Some l
the-one None l at = absurd at
the-one (Some x) l at = elim at [ inl e ↦ ap (λ (k : LabelId). Some k) (sym e) | inr none ↦ absurd none ]

named-by : (context : Context) (mentions : List Mention) (l : LabelId) →
    In l (flat_map (named context (λ x. []) (λ x. x ∷ [])) mentions) → NamedBy context mentions l
named-by context [] l at = absurd at
named-by context (mention.Standing word ∷ rest) l at =
    let r = named-by context rest l (subst
    (λ (list : List LabelId). In l (list ++ flat_map (named context (λ x. []) (λ x. x ∷ [])) rest))
    (none-of (label_in context word.text)) at) in
    record { word = r.word; number = r.number; is_joined = r.is_joined }
named-by context (mention.Joined word ∷ rest) l at =
    elim (in-append l (for_some (λ x. x ∷ []) (label_in context word.text))
    (flat_map (named context (λ x. []) (λ x. x ∷ [])) rest) at) [
      | inl first ↦ record {
        word = word;
        number = the-one (label_in context word.text) l first;
        is_joined = or-left (bytes_eq word.text word.text) (is_named (flat_map join_names rest) word.text)
            ((bytes_eq-Decides word.text word.text).1 refl);
      }
      | inr later ↦ let r = named-by context rest l later in
          record {
            word = r.word;
            number = r.number;
            is_joined = or-right (bytes_eq r.word.text word.text) (is_named (flat_map join_names rest) r.word.text)
                r.is_joined;
          }
    ]

-- ---- all bodies

module _ (context : Context) (process : ProcessDefinition) (bodies : List Body)
    (are_bodies : bodies_of context process ≡ map Some bodies) (all_end : ends_faults process ≡ [])
    (are : AreNumbered context process) where
  abbrev names : List (List ℕ)
  names = process_joins process

  labels-are : all_labels bodies ≡ counted 0 (process_labels process)
  labels-are =
      all-gathered context itself not_joined (λ state. refl) refl refl (beginnings process) bodies are_bodies
      ∙ standing-numbers context (process_mentions process)
      ∙ ap (flat_map (number_of context)) (sym (process-spots process))
      ∙ numbers-are context process are

  joins-are : all_joins bodies ≡ flat_map (named context (λ x. []) (λ x. x ∷ [])) (process_mentions process)
  joins-are = all-gathered context no_label joined (λ state. refl) refl refl (beginnings process) bodies are_bodies

  joined-by : (l : LabelId) → 1 ≤ times l (all_joins bodies) → NamedBy context (process_mentions process) l
  joined-by l many =
      named-by context (process_mentions process) l
      (subst (In l) joins-are (in-times l (all_joins bodies) many))

  begun-at : (number : ℕ) (whole : Body) → slice_get bodies number ≡ Some whole → Begun context names whole
  begun-at number whole at = begun context names (beginnings process) bodies are_bodies all_end number whole at

  -- paths enter at the label of such a number
  entered : (l : LabelId) → 1 ≤ times l (all_joins bodies) → (label : Spot) → label_in context label.text ≡ Some l →
      enters_named names label ≡ true
  entered l many label is =
      let by = joined-by l many in
      subst (λ (text : List ℕ). is_named names text ≡ true)
      (same-text context process are by.word.text label.text l by.number is) by.is_joined

  labelled-after : (l : LabelId) → 1 ≤ times l (all_joins bodies) → (name : Option Spot) (inner whole on : Body) →
      Labelled context name inner whole → Ends inner → ((on : Body) → FromLabel l inner on → Ends on) →
      FromLabel l whole on → Ends on
  labelled-after l many name inner whole on (without none same) ends onward from =
      onward on (subst (λ (b : Body). FromLabel l b on) same from)
  labelled-after l many name inner whole on (opened word n called found same) ends onward from =
      elim (standing l (body.label n inner) on (subst (λ (b : Body). FromLabel l b on) same from)) [
        | inl e ↦ subst Ends (sym e.1) ends
        | inr later ↦ onward on later
      ]

  after : (l : LabelId) (on : Body) → 1 ≤ times l (all_joins bodies) → LabelOf bodies l on → Ends on
  after l on many label =
      let b = begun-at label.number label.whole label.body in
      let t = b.beginning.transition in
      let r = labelled-some context b.beginning.label (body_in context t) label.whole b.body_is in
      labelled-after l many b.beginning.label r.0 label.whole on r.2
      (transition-ends context (enters_named names) t r.0 r.1 b.stops)
      (transition-onward context (enters_named names) l (entered l many) t true r.0 r.1 b.stops) label.from

  leads : (l : LabelId) → 1 ≤ times l (all_joins bodies) → 1 ≤ times l (all_labels bodies)
  leads l many =
      let by = joined-by l many in
      times-in l (all_labels bodies)
      (subst (In l) (sym labels-are) (number-in context process are by.word.text l by.number))

  once : (l : LabelId) → times l (all_labels bodies) ≤ 1
  once l =
      subst (λ (list : List LabelId). times l list ≤ 1) (sym labels-are) (counted-once l 0 (process_labels process))

  pub closed : Closed bodies
  closed = record {
    ends = λ number whole at. begun-ends context names whole (begun-at number whole at);
    leads = leads;
    after = after;
    once = once;
  }

pub bodies-closed : BodiesClosed
bodies-closed = closed
