-- Each join of the body of a transition leads to a label that some name stands for.
use Rattle.std.proofs.Common.{◌≡◌, ◌∙◌, inl, inr, ℕ, List, [], ◌∷◌, Option, None, Some, option_map, refl, ap, sym, subst}
use Rattle.build_statements.specs.Contexts.{Context, label_in, state_in}
use Rattle.build_statements.specs.Labels.{gathered_in, joined, joins_of, no_label}
use Rattle.build_statements.specs.Statements.{answers_in, asked_in, create_in, kind_in, output_in, reset_in, set_in, task_in, terminator_in}
use Rattle.build_statements.specs.Transitions.{Head, Piece, acts, asks, before, body_in, ending_in, head_in, labelled, other_in, parts_of, piece, pieces_in, steps_in}
use Rattle.build_statements.proofs.CountLemmas.{in-append}
use Rattle.build_names.specs.FaultLaws.{In}
use Rattle.build_expressions.specs.Partial.{both}
use Rattle.build_expressions.specs.Typing.{term_in}
use Rattle.build_expressions.specs.declared.operand_sort.OperandSort.{OperandSort}
use Rattle.sdl_system.specs.Body as body
use Rattle.sdl_system.specs.Body.{Action, Body}
use Rattle.sdl_system.specs.Term.{Term}
use Rattle.sdl_system.specs.declared.answer.Answer.{Answer}
use Rattle.sdl_system.specs.declared.id.LabelId.{LabelId}
use Rattle.sdl_system.specs.declared.id.StateId.{StateId}
use Rattle.sdl_tree.specs.Tree as tree
use Rattle.sdl_tree.specs.Words.{Spot}

module _ (context : Context) where
  -- some name stands for each of the labels
  abbrev Named : List LabelId → Type 0
  Named labels = (l : LabelId) → In l labels → (text : List ℕ) × (label_in context text ≡ Some l)

  abbrev NamedIf : Option Body → Type 0
  NamedIf None = Unit {0}
  NamedIf (Some b) = Named (joins_of b)

  abbrev NamedHead : Option Head → Type 0
  NamedHead None = Unit {0}
  NamedHead (Some (acts action)) = Unit {0}
  NamedHead (Some (asks question parts)) = Named (gathered_in no_label joined parts)

  abbrev NamedPieces : Option (List Piece) → Type 0
  NamedPieces None = Unit {0}
  NamedPieces (Some pieces) = (p : Piece) → In p pieces → Named (joins_of p.body)

  abbrev NamedOther : Option (Option Body) → Type 0
  NamedOther None = Unit {0}
  NamedOther (Some b) = NamedIf b

  -- ---- each kind of statement

  labelled-found : (found : Option LabelId) (b : Option Body) → NamedIf b → NamedIf (both body.label found b)
  labelled-found None b named = tt
  labelled-found (Some number) None named = tt
  labelled-found (Some number) (Some b) named = named

  labelled-named : (name : Option Spot) (b : Option Body) → NamedIf b → NamedIf (labelled context name b)
  labelled-named None b named = named
  labelled-named (Some name) b named = labelled-found (label_in context name.text) b named

  join-named : (text : List ℕ) (found : Option LabelId) → label_in context text ≡ found →
      NamedIf (option_map body.ending (option_map body.join found))
  join-named text None is = tt
  join-named text (Some k) is = λ l at. elim at [ inl e ↦ (text, is ∙ ap Some (sym e)) | inr none ↦ absurd none ]

  state-named : (found : Option StateId) → NamedIf (option_map body.ending (option_map body.to_state found))
  state-named None = tt
  state-named (Some state) = λ l at. absurd at

  terminator-named : (t : tree.Terminator) → NamedIf (option_map body.ending (terminator_in context t))
  terminator-named (tree.Next word (tree.Same dash)) = λ l at. absurd at
  terminator-named (tree.Next word (tree.To state)) = state-named (state_in context state.text)
  terminator-named (tree.Stop word) = λ l at. absurd at
  terminator-named (tree.Join word name) = join-named name.text (label_in context name.text) refl

  ending-named : (e : Option tree.Ending) → NamedIf (ending_in context e)
  ending-named None = λ l at. absurd at
  ending-named (Some e) =
      labelled-named e.label (option_map body.ending (terminator_in context e.terminator))
      (terminator-named e.terminator)

  acts-named : (found : Option Action) → NamedHead (option_map acts found)
  acts-named None = tt
  acts-named (Some action) = tt

  before-named : (head : Option Head) (rest : Option Body) → NamedHead head → NamedIf rest →
      NamedIf (both before head rest)
  before-named None rest first later = tt
  before-named (Some head) None first later = tt
  before-named (Some (acts action)) (Some rest) first later = later
  before-named (Some (asks question parts)) (Some rest) first later = λ l at.
      elim (in-append l (gathered_in no_label joined parts) (joins_of rest) at)
      [ inl i ↦ first l i | inr i ↦ later l i ]

  parts-named : (pieces : List Piece) (other : Option Body) →
      ((p : Piece) → In p pieces → Named (joins_of p.body)) → NamedIf other →
      Named (gathered_in no_label joined (parts_of pieces other))
  parts-named [] None each last = λ l at. absurd at
  parts-named [] (Some other) each last = last
  parts-named (p ∷ pieces) other each last = λ l at.
      elim (in-append l (joins_of p.body) (gathered_in no_label joined (parts_of pieces other)) at) [
        | inl i ↦ each p (inl refl) l i
        | inr i ↦ parts-named pieces other (λ q at_q. each q (inr at_q)) last l i
      ]

  asks-named : (question : Option Term) (pieces : Option (List Piece)) (other : Option (Option Body)) →
      NamedPieces pieces → NamedOther other → NamedHead (both asks question (both parts_of pieces other))
  asks-named None pieces other each last = tt
  asks-named (Some q) None other each last = tt
  asks-named (Some q) (Some pieces) None each last = tt
  asks-named (Some q) (Some pieces) (Some other) each last = parts-named pieces other each last

  more-named : (found : Option (List Answer)) (b : Option Body) (rest : Option (List Piece)) → NamedIf b →
      NamedPieces rest → NamedPieces (both ◌∷◌ (both piece found b) rest)
  more-named None b rest first later = tt
  more-named (Some list) None rest first later = tt
  more-named (Some list) (Some b) None first later = tt
  more-named (Some list) (Some b) (Some rest) first later = λ p at.
      elim at [
        | inl e ↦ subst (λ (q : Piece). Named (joins_of q.body)) (sym e) first
        | inr i ↦ later p i
      ]

  other-found : (b : Option Body) → NamedIf b → NamedOther (option_map Some b)
  other-found None named = tt
  other-found (Some b) named = named

  -- ---- whole transitions

  mutual
    body-named : (t : tree.Transition) → NamedIf (body_in context t)
    body-named (tree.Steps actions ending) =
        steps-named actions (ending_in context ending) (ending-named ending)

    steps-named : (actions : tree.Actions) (end : Option Body) → NamedIf end → NamedIf (steps_in context actions end)
    steps-named tree.NoAction end named = named
    steps-named (tree.AndAction name first rest) end named =
        labelled-named name (both before (head_in context first) (steps_in context rest end))
        (before-named (head_in context first) (steps_in context rest end) (head-named first)
        (steps-named rest end named))

    head-named : (action : tree.Action) → NamedHead (head_in context action)
    head-named (tree.Task word assignments) = acts-named (task_in context assignments)
    head-named (tree.Output word outputs destination) = acts-named (output_in context outputs destination)
    head-named (tree.Set word clauses) = acts-named (set_in context clauses)
    head-named (tree.Reset word groups) = acts-named (reset_in context groups)
    head-named (tree.Create word applied) = acts-named (create_in context applied)
    head-named (tree.Decision word question parts other) =
        asks-named (term_in (asked_in context question))
        (pieces_in context (kind_in (asked_in context question)) parts) (other_in context other)
        (pieces-named (kind_in (asked_in context question)) parts) (other-named other)

    pieces-named : (question : Option OperandSort) (parts : tree.Parts) → NamedPieces (pieces_in context question parts)
    pieces-named question tree.NoPart = λ p at. absurd at
    pieces-named question (tree.AndPart list transition rest) =
        more-named (answers_in context question list) (body_in context transition) (pieces_in context question rest)
        (body-named transition) (pieces-named question rest)

    other-named : (other : tree.Otherwise) → NamedOther (other_in context other)
    other-named tree.NoElse = tt
    other-named (tree.Else transition) = other-found (body_in context transition) (body-named transition)

  named-of : (b : Option Body) (whole : Body) → b ≡ Some whole → NamedIf b → Named (joins_of whole)
  named-of None whole is named = cc
  named-of (Some b) whole is named =
      subst (λ (o : Option Body). NamedIf o) is named

  pub joins-named : (transition : tree.Transition) (whole : Body) (l : LabelId) →
      body_in context transition ≡ Some whole → In l (joins_of whole) →
      (text : List ℕ) × (label_in context text ≡ Some l)
  joins-named transition whole l is at = named-of (body_in context transition) whole is (body-named transition) l at
