-- What it means that the parts of a decision were added to a table.
use Rattle.std.specs.Prelude.{◌≡◌, ◌⊎◌, ◌+◌, List, [], ◌∷◌, Option, None, Some, Vec, flat_map}
use Rattle.std.specs.Global.{Global}
use Rattle.build_statements.specs.Built.{Built, GrownTo, Lasts, Becomes, Table, joined_labels, marked_labels}
use Rattle.build_statements.specs.Labels.{gathered_in, itself, joined, joins_of, labels_of, no_label, not_joined, times}
use Rattle.build_statements.specs.Transitions.{Head, Piece, acts, asks}
use Rattle.build_statements.specs.declared.nodes.table.Mark.{Mark}
use Rattle.build_names.specs.FaultLaws.{In}
use Rattle.sdl_system.specs.Body as body
use Rattle.sdl_system.specs.Body.{Body, FromLabel, InParts, Parts}
use Rattle.sdl_system.specs.Table.{Has, HasParts, action_of}
use Rattle.sdl_system.specs.Term.{Term, term_of}
use Rattle.sdl_system.specs.declared.answer.Answer as answers
use Rattle.sdl_system.specs.declared.id.LabelId.{LabelId}
use Rattle.sdl_system.specs.declared.id.NodeId.{NodeId}
use Rattle.sdl_system.specs.declared.statement.Branch.{Branch}
use Rattle.sdl_system.specs.declared.statement.Decision.{Decision}
use Rattle.sdl_system.specs.declared.statement.Node.{Node}
use Rattle.sdl_system.specs.declared.statement.Statement.{Statement}
use Rattle.sdl_system.specs.declared.statement.Statement.TheVariants as kind
use Rattle.sdl_system.specs.declared.statement.Way.{Way}

-- ---- all parts

pub record BuiltParts (old new : Table) (branches : List Branch) (otherwise : Option Way) (parts : Parts)
    (to : Option NodeId) : Type 0 where
  pub grown : GrownTo old new
  pub stand : (nodes : List Node) (marks : List (Option NodeId)) → Becomes new nodes marks
      → HasParts nodes marks branches otherwise parts to
  pub marked : (mark : Mark) → In mark new.marks → In mark old.marks
      ⊎ ((on : Body) × InParts mark.label parts on × Lasts new (Some mark.node) on to)
  pub labels : (l : LabelId) → times l (marked_labels new)
      ≡ times l (gathered_in itself not_joined parts) + times l (marked_labels old)
  pub joins : (l : LabelId) → times l (joined_labels new)
      ≡ times l (gathered_in no_label joined parts) + times l (joined_labels old)

-- ---- those with answers, as far as they are added

-- each branch has its part
abbrev pub HasPieces : List Node → List (Option NodeId) → List Branch → List Piece → Option NodeId → Type 0
HasPieces nodes marks [] [] to = Unit {0}
HasPieces nodes marks [] (piece ∷ pieces) to = ⊥
HasPieces nodes marks (branch ∷ branches) [] to = ⊥
HasPieces nodes marks (branch ∷ branches) (piece ∷ pieces) to =
    (branch.answers.items ≡ piece.answers) × Has nodes marks branch.way.0 piece.body to
    × HasPieces nodes marks branches pieces to

-- the statements from a label on that stands in one of the parts
abbrev pub InPieces : LabelId → List Piece → Body → Type 0
InPieces l pieces on = (piece : Piece) × In piece pieces × FromLabel l piece.body on

abbrev pub piece_labels : Piece → List LabelId
piece_labels piece = labels_of piece.body

abbrev pub piece_joins : Piece → List LabelId
piece_joins piece = joins_of piece.body

pub record BuiltPieces (old new : Table) (branches : List Branch) (pieces : List Piece)
    (to : Option NodeId) : Type 0 where
  pub grown : GrownTo old new
  pub stand : (nodes : List Node) (marks : List (Option NodeId)) → Becomes new nodes marks
      → HasPieces nodes marks branches pieces to
  pub marked : (mark : Mark) → In mark new.marks → In mark old.marks
      ⊎ ((on : Body) × InPieces mark.label pieces on × Lasts new (Some mark.node) on to)
  pub labels : (l : LabelId) → times l (marked_labels new)
      ≡ times l (flat_map piece_labels pieces) + times l (marked_labels old)
  pub joins : (l : LabelId) → times l (joined_labels new)
      ≡ times l (flat_map piece_joins pieces) + times l (joined_labels old)

abbrev pub BuiltPiecesIf : Table → Table → Option (List Branch) → Option (List Piece) → Option NodeId → Type 0
BuiltPiecesIf old new branches None to = Unit {0}
BuiltPiecesIf old new None (Some pieces) to = ⊥
BuiltPiecesIf old new (Some branches) (Some pieces) to = BuiltPieces old new branches pieces to

-- one part, with its branch
pub record BuiltPiece (old new : Table) (branch : Branch) (piece : Piece) (to : Option NodeId) : Type 0 where
  pub answers : branch.answers.items ≡ piece.answers
  pub built : Built old new branch.way.0 piece.body to

abbrev pub BuiltPieceIf : Table → Table → Option Branch → Option Piece → Option NodeId → Type 0
BuiltPieceIf old new branch None to = Unit {0}
BuiltPieceIf old new None (Some piece) to = ⊥
BuiltPieceIf old new (Some branch) (Some piece) to = BuiltPiece old new branch piece to

-- what stands behind `else`
abbrev pub BuiltOther : Table → Table → Option Way → Option Body → Option NodeId → Type 0
BuiltOther old new None None to = new ≡ old
BuiltOther old new (Some way) None to = ⊥
BuiltOther old new None (Some other) to = ⊥
BuiltOther old new (Some way) (Some other) to = Built old new way.0 other to

abbrev pub BuiltOtherIf : Table → Table → Option Way → Option (Option Body) → Option NodeId → Type 0
BuiltOtherIf old new way None to = Unit {0}
BuiltOtherIf old new way (Some other) to = BuiltOther old new way other to

-- ---- a statement before its node is added

-- the decision on a question with these branches
pub record IsDecision (question : Term) (branches : List Branch) (otherwise : Option Way)
    (statement : Option Statement) : Type 0 where
  pub asked : Decision
  pub is : statement ≡ Some (kind.Decision asked)
  pub asks : term_of asked.question ≡ question
  pub branched : asked.branches.items ≡ branches
  pub other : asked.otherwise ≡ otherwise

-- the same where they may be missing: nothing then
abbrev pub IsDecisionOrNone : Option Term → Option (List Branch) → Option Way → Option Statement → Type 0
IsDecisionOrNone None branches otherwise statement = statement ≡ None
IsDecisionOrNone (Some question) None otherwise statement = statement ≡ None
IsDecisionOrNone (Some question) (Some branches) otherwise statement = IsDecision question branches otherwise statement

-- the answers with where they lead
abbrev pub branch_of : Way → Vec answers.Answer Global → Branch
branch_of way answers = record { answers = answers; way = way }

-- the statement is a decision whose parts stand in the table
pub record Asks (old new : Table) (statement : Statement) (head : Head) (to : Option NodeId) : Type 0 where
  pub asked : Decision
  pub parts : Parts
  pub head_is : head ≡ asks (term_of asked.question) parts
  pub is : statement ≡ kind.Decision asked
  pub built : BuiltParts old new asked.branches.items asked.otherwise parts to

-- the statement is an action, and nothing was added
pub record Acts (old new : Table) (statement : Statement) (head : Head) : Type 0 where
  pub action : body.Action
  pub head_is : head ≡ acts action
  pub is : action_of statement ≡ Some action
  pub same : new ≡ old

abbrev pub HeadIf : Table → Table → Option Statement → Option Head → Option NodeId → Type 0
HeadIf old new statement None to = Unit {0}
HeadIf old new None (Some head) to = ⊥
HeadIf old new (Some statement) (Some head) to = Acts old new statement head ⊎ Asks old new statement head to
