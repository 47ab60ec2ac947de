-- How a statement with its label is added to a table.
use Rattle.std.proofs.Common.{◌≡◌, ◌∙◌, ◌⊎◌, inl, inr, ◌++◌, List, Option, None, Some, append-nil, option_and_then, option_map, refl, ap, sym, subst}
use Rattle.build_statements.specs.Built.{Built, BuiltIf, Table, end_of, mark_if, marks_for, place_of, placed}
use Rattle.build_statements.specs.Contexts.{Context, label_in}
use Rattle.build_statements.specs.Decided.{Acts, Asks, BuiltOtherIf, BuiltParts, BuiltPieceIf, BuiltPiecesIf, HeadIf, IsDecision, IsDecisionOrNone}
use Rattle.build_statements.specs.Transitions.{Head, Piece, acts, asks, before, labelled, parts_of}
use Rattle.build_statements.specs.declared.nodes.table.Mark.{Mark}
use Rattle.build_statements.proofs.BuiltLemmas.{Built-action, Built-decision, Built-ending, Built-label, with_node}
use Rattle.build_statements.proofs.PartLemmas.{Parts-none, Parts-other, Pieces-last}
use Rattle.build_expressions.specs.Partial.{and_last, both}
use Rattle.sdl_system.specs.Body as body
use Rattle.sdl_system.specs.Body.{Body, Terminator}
use Rattle.sdl_system.specs.Table.{action_of, terminator_of}
use Rattle.sdl_system.specs.Term.{Term, term_of}
use Rattle.sdl_system.specs.declared.id.LabelId.{LabelId}
use Rattle.sdl_system.specs.declared.id.NodeId.{NodeId}
use Rattle.sdl_system.specs.declared.statement.Branch.{Branch}
use Rattle.sdl_system.specs.declared.statement.Statement.{Statement}
use Rattle.sdl_system.specs.declared.statement.Way.{Way}
use Rattle.sdl_tree.specs.Words.{Spot}

pub table-is : (t u : Table) → t.nodes ≡ u.nodes → t.marks ≡ u.marks → t ≡ u
table-is t u nodes marks =
    ap (λ n. record { nodes = n; marks = t.marks }) nodes ∙ ap (λ m. record { nodes = u.nodes; marks = m }) marks

-- ---- labels

abbrev with_marks : Table → List Mark → Table
with_marks table marks = record { nodes = table.nodes; marks = table.marks ++ marks }

found-built : (first table : Table) (found : Option LabelId) (n : NodeId) (b : Option Body) (to : Option NodeId) →
    BuiltIf first table (Some n) b to →
    BuiltIf first (with_marks table (mark_if found n)) (Some n) (both body.label found b) to
found-built first table None n b to built = tt
found-built first table (Some l) n None to built = tt
found-built first table (Some l) n (Some b) to built = Built-label first table l n b to built

named-built : (context : Context) (first table : Table) (name : Option Spot) (n : NodeId) (b : Option Body)
    (to : Option NodeId) → BuiltIf first table (Some n) b to →
    BuiltIf first (with_marks table (marks_for context name n)) (Some n) (labelled context name b) to
named-built context first table None n b to built =
    subst (λ (marks : List Mark). BuiltIf first (record { nodes = table.nodes; marks = marks }) (Some n) b to)
    (sym (append-nil table.marks)) built
named-built context first table (Some name) n b to built =
    found-built first table (label_in context name.text) n b to built

-- nothing is said of what has no meaning
found-none : (first table : Table) (place : Option NodeId) (found : Option LabelId) (to : Option NodeId) →
    BuiltIf first table place (both body.label found None) to
found-none first table place None to = tt
found-none first table place (Some l) to = tt

pub refused : (context : Context) (name : Option Spot) (first table : Table) (place to : Option NodeId) →
    BuiltIf first table place (labelled context name None) to
refused context None first table place to = tt
refused context (Some name) first table place to = found-none first table place (label_in context name.text) to

-- ---- actions and decisions

head-built : (first old mid : Table) (s : Statement) (h : Head) (b : Body) (next to : Option NodeId) →
    Acts old mid s h ⊎ Asks old mid s h next → Built first old next b to →
    Built first (with_node mid (record { statement = s; next = next })) (Some (end_of mid)) (before h b) to
head-built first old mid s h b next to is built =
    elim is [
      | inl a ↦ subst (λ (x : Head). Built first (with_node mid (record { statement = s; next = next }))
          (Some (end_of mid)) (before x b) to) (sym a.head_is)
          (subst (λ (t : Table). Built first (with_node t (record { statement = s; next = next })) (Some (end_of t))
          (body.action a.action b) to) (sym a.same) (Built-action first old s a.action b next to a.is built))
      | inr d ↦ subst (λ (x : Head). Built first (with_node mid (record { statement = s; next = next }))
          (Some (end_of mid)) (before x b) to) (sym d.head_is)
          (subst (λ (x : Statement). Built first (with_node mid (record { statement = x; next = next }))
          (Some (end_of mid)) (body.decision (term_of d.asked.question) d.parts b) to) (sym d.is)
          (Built-decision first old mid d.asked d.parts b next to d.built built))
    ]

pub step-built : (context : Context) (first old mid : Table) (name : Option Spot) (statement : Option Statement)
    (head : Option Head) (behind : Option Body) (next to : Option NodeId) → HeadIf old mid statement head next →
    BuiltIf first old next behind to →
    BuiltIf first (placed context mid name statement next) (place_of mid statement next)
    (labelled context name (both before head behind)) to
step-built context first old mid name statement None behind next to is built =
    refused context name first (placed context mid name statement next) (place_of mid statement next) to
step-built context first old mid name None (Some h) behind next to is built = absurd is
step-built context first old mid name (Some s) (Some h) None next to is built =
    refused context name first (placed context mid name (Some s) next) (Some (end_of mid)) to
step-built context first old mid name (Some s) (Some h) (Some b) next to is built =
    named-built context first (with_node mid (record { statement = s; next = next })) name (end_of mid)
    (Some (before h b)) to (head-built first old mid s h b next to is built)

-- an action, with nothing added
pub acted : (table : Table) (statement : Option Statement) (found : Option body.Action) (next : Option NodeId) →
    option_and_then action_of statement ≡ found → HeadIf table table statement (option_map acts found) next
acted table statement None next is = tt
acted table None (Some a) next is = cc
acted table (Some s) (Some a) next is = inl (record { action = a; head_is = refl; is = is; same = refl })

-- ---- terminators

pub ending-built : (context : Context) (table : Table) (name : Option Spot) (statement : Option Statement)
    (found : Option Terminator) (next to : Option NodeId) → option_and_then terminator_of statement ≡ found →
    BuiltIf table (placed context table name statement next) (place_of table statement next)
    (labelled context name (option_map body.ending found)) to
ending-built context table name statement None next to is =
    refused context name table (placed context table name statement next) (place_of table statement next) to
ending-built context table name None (Some e) next to is = cc
ending-built context table name (Some s) (Some e) next to is =
    named-built context table (with_node table (record { statement = s; next = next })) name (end_of table)
    (Some (body.ending e)) to (Built-ending table s e next to is)

-- ---- parts

pub pieces-more : (first old new : Table) (branches : Option (List Branch)) (pieces : Option (List Piece))
    (branch : Option Branch) (piece : Option Piece) (to : Option NodeId) → BuiltPiecesIf first old branches pieces to →
    BuiltPieceIf old new branch piece to → BuiltPiecesIf first new (and_last branches branch) (and_last pieces piece) to
pieces-more first old new branches None branch piece to before last = tt
pieces-more first old new branches (Some ps) branch None to before last = tt
pieces-more first old new None (Some ps) branch (Some p) to before last = absurd before
pieces-more first old new (Some bs) (Some ps) None (Some p) to before last = absurd last
pieces-more first old new (Some bs) (Some ps) (Some b) (Some p) to before last =
    Pieces-last first old new bs ps b p to before last

decided : (first new : Table) (q : Term) (bs : List Branch) (ps : List Piece) (way : Option Way) (other : Option Body)
    (statement : Option Statement) (to : Option NodeId) → BuiltParts first new bs way (parts_of ps other) to →
    IsDecision q bs way statement → HeadIf first new statement (Some (asks q (parts_of ps other))) to
decided first new q bs ps way other statement to built is =
    subst (λ (x : Option Statement). HeadIf first new x (Some (asks q (parts_of ps other))) to) (sym is.is)
    (inr (record {
      asked = is.asked;
      parts = parts_of ps other;
      head_is = ap (λ (x : Term). asks x (parts_of ps other)) (sym is.asks);
      is = refl;
      built =
          subst (λ (x : List Branch). BuiltParts first new x is.asked.otherwise (parts_of ps other) to)
          (sym is.branched)
          (subst (λ (x : Option Way). BuiltParts first new bs x (parts_of ps other) to) (sym is.other) built);
    }))

pub decision-built : (first old new : Table) (question : Option Term) (branches : Option (List Branch))
    (pieces : Option (List Piece)) (way : Option Way) (other : Option (Option Body)) (statement : Option Statement)
    (to : Option NodeId) → BuiltPiecesIf first old branches pieces to → BuiltOtherIf old new way other to →
    IsDecisionOrNone question branches way statement →
    HeadIf first new statement (both asks question (both parts_of pieces other)) to
decision-built first old new None branches pieces way other statement to built last is = tt
decision-built first old new (Some q) branches None way other statement to built last is = tt
decision-built first old new (Some q) branches (Some ps) way None statement to built last is = tt
decision-built first old new (Some q) None (Some ps) way (Some other) statement to built last is = absurd built
decision-built first old new (Some q) (Some bs) (Some ps) None (Some None) statement to built same is =
    decided first new q bs ps None None statement to
    (subst (λ (t : Table). BuiltParts first t bs None (parts_of ps None) to) (sym same)
    (Parts-none first old bs ps to built)) is
decision-built first old new (Some q) (Some bs) (Some ps) None (Some (Some b)) statement to built last is = absurd last
decision-built first old new (Some q) (Some bs) (Some ps) (Some way) (Some None) statement to built last is =
    absurd last
decision-built first old new (Some q) (Some bs) (Some ps) (Some way) (Some (Some b)) statement to built last is =
    decided first new q bs ps (Some way) (Some b) statement to (Parts-other first old new bs ps way b to built last) is

-- the same of tables and places that are these
pub placed-built : (first t u : Table) (p q : Option NodeId) (b : Option Body) (to : Option NodeId) → t ≡ u → p ≡ q →
    BuiltIf first u q b to → BuiltIf first t p b to
placed-built first t u p q b to tables places built =
    subst (λ (x : Table). BuiltIf first x p b to) (sym tables)
    (subst (λ (x : Option NodeId). BuiltIf first u x b to) (sym places) built)
