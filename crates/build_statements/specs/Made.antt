-- The table of all bodies of a process.
use Rattle.std.specs.Prelude.{◌≡◌, ◌≤◌, ◌++◌, ℕ, List, [], ◌∷◌, None, Some, flat_map, length, slice_get}
use Rattle.build_statements.specs.Built.{Built, Lasts, Table, joined_labels, marked_labels}
use Rattle.build_statements.specs.Contexts.{Context, label_in}
use Rattle.build_statements.specs.Labels.{joins_of, labels_of, times}
use Rattle.build_statements.specs.Transitions.{body_in}
use Rattle.build_statements.specs.declared.nodes.table.Mark.{Mark}
use Rattle.build_names.specs.FaultLaws.{In}
use Rattle.sdl_system.specs.Body.{Body, Ends}
use Rattle.sdl_system.specs.Table.{LabelOf}
use Rattle.sdl_system.specs.declared.id.LabelId.{LabelId}
use Rattle.sdl_system.specs.declared.id.NodeId.{NodeId}
use Rattle.sdl_tree.specs.Tree.{Transition}

-- the labels of several bodies, and those to which their joins lead, each as often as it stands there
abbrev pub all_labels : List Body → List LabelId
all_labels bodies = flat_map labels_of bodies

abbrev pub all_joins : List Body → List LabelId
all_joins bodies = flat_map joins_of bodies

-- the body of this number stands from its entry on, to the end of the transition
pub record MadeAt (table : Table) (entries : List NodeId) (number : ℕ) (whole : Body) : Type 0 where
  pub entry : NodeId
  pub listed : slice_get entries number ≡ Some entry
  pub stands : Lasts table (Some entry) whole None

-- the mark is that of a label of one of the bodies
pub record MarksOf (bodies : List Body) (table : Table) (mark : Mark) : Type 0 where
  pub on : Body
  pub label : LabelOf bodies mark.label on
  pub stands : Lasts table (Some mark.node) on None

-- The table is made of these bodies, each from its entry on.
pub record Made (bodies : List Body) (entries : List NodeId) (table : Table) : Type 0 where
  pub begins : (number : ℕ) (whole : Body) → slice_get bodies number ≡ Some whole → MadeAt table entries number whole
  pub marked : (mark : Mark) → In mark table.marks → MarksOf bodies table mark
  pub labels : (l : LabelId) → times l (marked_labels table) ≡ times l (all_labels bodies)
  pub joins : (l : LabelId) → times l (joined_labels table) ≡ times l (all_joins bodies)
  pub as_many : length entries ≡ length bodies

-- The bodies are whole: no path runs off an end, each join has its label, and no label stands at two places. What
-- stands behind a label to which no join leads needn't end.
pub record Closed (bodies : List Body) : Type 0 where
  pub ends : (number : ℕ) (whole : Body) → slice_get bodies number ≡ Some whole → Ends whole
  pub leads : (l : LabelId) → 1 ≤ times l (all_joins bodies) → 1 ≤ times l (all_labels bodies)
  pub after : (l : LabelId) (on : Body) → 1 ≤ times l (all_joins bodies) → LabelOf bodies l on → Ends on
  pub once : (l : LabelId) → times l (all_labels bodies) ≤ 1

-- ---- laws

-- No body makes no table.
abbrev pub NothingMade : Table → Type 0
NothingMade table = Made [] [] table

-- One more body that is added to the table.
abbrev pub BodyMade : Type 0
BodyMade =
    (bodies : List Body) (entries : List NodeId) (old new : Table) (entry : NodeId) (whole : Body)
    → Made bodies entries old → Built old new (Some entry) whole None
    → Made (bodies ++ whole ∷ []) (entries ++ entry ∷ []) new

-- Each join of the body of a transition leads to a label that some name stands for.
abbrev pub JoinsAreNamed : Type 0
JoinsAreNamed =
    (context : Context) (transition : Transition) (whole : Body) (l : LabelId)
    → body_in context transition ≡ Some whole → In l (joins_of whole)
    → (text : List ℕ) × (label_in context text ≡ Some l)

-- What stands from each label of the bodies on.
abbrev pub LabelsStand : Type 0
LabelsStand = (bodies : List Body) (l : LabelId) → In l (all_labels bodies) → (on : Body) × LabelOf bodies l on
