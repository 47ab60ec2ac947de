-- How a body is added to a table, one statement before the other.
use Rattle.std.proofs.Common.{◌≡◌, ◌∙◌, inl, inr, ℕ, ◌+◌, ◌==◌, ◌++◌, List, [], ◌∷◌, Option, None, Some, arith, cond, length, slice_get, refl, ap, sym, subst}
use Rattle.build_statements.specs.Built.{Built, GrownTo, Lasts, MarksIn, Table, end_of, joined_labels, label_of, marked_labels, node_joins, statement_joins}
use Rattle.build_statements.specs.Decided.{BuiltParts}
use Rattle.build_statements.specs.Labels.{gathered_in, itself, joined, joins_of, labels_of, no_label, not_joined, times}
use Rattle.build_statements.specs.declared.nodes.table.Mark.{Mark}
use Rattle.build_statements.proofs.CountLemmas.{at-end, gathers-last, in-append, kept-behind, maps-last, none-plus, times-append}
use Rattle.build_names.proofs.FaultLemmas.{in-left, in-right}
use Rattle.sdl_system.proofs.BodyLemmas.{Has-followed}
use Rattle.sdl_system.proofs.GrowLemmas.{Has-grows}
use Rattle.sdl_system.specs.Body as body
use Rattle.sdl_system.specs.Body.{Action, Body, Parts, Terminator, followed, here, past_action, past_decision, past_label, within}
use Rattle.sdl_system.specs.Table.{Has, action_of, terminator_of}
use Rattle.sdl_system.specs.Term.{term_of}
use Rattle.sdl_system.specs.declared.id.LabelId.{LabelId}
use Rattle.sdl_system.specs.declared.id.NodeId.{NodeId}
use Rattle.sdl_system.specs.declared.statement.Decision.{Decision}
use Rattle.sdl_system.specs.declared.statement.Node.{Node}
use Rattle.sdl_system.specs.declared.statement.Statement.{Statement}
use Rattle.sdl_system.specs.declared.statement.Statement.TheVariants as kind

-- ---- tables with one more node or mark

abbrev pub with_node : Table → Node → Table
with_node table node = record { nodes = table.nodes ++ node ∷ []; marks = table.marks }

abbrev pub with_mark : Table → Mark → Table
with_mark table mark = record { nodes = table.nodes; marks = table.marks ++ mark ∷ [] }

pub grown-node : (table : Table) (node : Node) → GrownTo table (with_node table node)
grown-node table node nodes marks becomes = record {
  kept = λ n one stands. becomes.kept n one (kept-behind table.nodes (node ∷ []) n.0 one stands);
  marked = becomes.marked;
}

pub grown-mark : (table : Table) (mark : Mark) → GrownTo table (with_mark table mark)
grown-mark table mark nodes marks becomes = record {
  kept = becomes.kept;
  marked = λ one at. becomes.marked one (in-left one table.marks (mark ∷ []) at);
}

-- ---- what statements say of joins

abbrev joined_if : Option Terminator → List LabelId
joined_if None = []
joined_if (Some terminator) = joined terminator

ending-joins : (s : Statement) → statement_joins s ≡ joined_if (terminator_of s)
ending-joins (kind.Join label) = refl
ending-joins (kind.Task list) = refl
ending-joins (kind.Output sends) = refl
ending-joins (kind.Set list) = refl
ending-joins (kind.Reset list) = refl
ending-joins (kind.Create creation) = refl
ending-joins (kind.Decision asked) = refl
ending-joins (kind.NextState state) = refl
ending-joins kind.SameState = refl
ending-joins kind.Stop = refl

action-joins : (s : Statement) (a : Action) → action_of s ≡ Some a → statement_joins s ≡ []
action-joins (kind.Join label) a is = cc
action-joins (kind.Task list) a is = refl
action-joins (kind.Output sends) a is = refl
action-joins (kind.Set list) a is = refl
action-joins (kind.Reset list) a is = refl
action-joins (kind.Create creation) a is = refl
action-joins (kind.Decision asked) a is = refl
action-joins (kind.NextState state) a is = refl
action-joins kind.SameState a is = refl
action-joins kind.Stop a is = refl

-- ---- one statement

pub Built-nothing : (table : Table) (place : Option NodeId) → Built table table place body.nothing place
Built-nothing table place = record {
  grown = λ nodes marks becomes. becomes;
  stands = λ nodes marks becomes. refl;
  marked = λ mark at. inl at;
  labels = λ l. none-plus (times l (marked_labels table));
  joins = λ l. none-plus (times l (joined_labels table));
}

pub Built-ending : (table : Table) (s : Statement) (e : Terminator) (next to : Option NodeId) →
    terminator_of s ≡ Some e →
    Built table (with_node table (record { statement = s; next = next })) (Some (end_of table)) (body.ending e) to
Built-ending table s e next to is =
    let node : Node = record { statement = s; next = next } in
    record {
      grown = grown-node table node;
      stands = λ nodes marks becomes.
          let k = becomes.kept (end_of table) node (at-end table.nodes node) in
          record {
            statement = s;
            next = k.next;
            at = record { node = end_of table; here = refl; stands = k.stands };
            ends = is;
          };
      marked = λ mark at. inl at;
      labels = λ l. none-plus (times l (marked_labels table));
      joins = λ l.
          gathers-last l node_joins table.nodes node
          ∙ ap (λ list. times l list + times l (joined_labels table)) (ending-joins s ∙ ap joined_if is);
    }

-- the node at the end of a table with an action, whatever the table becomes
acts-new : (table : Table) (s : Statement) (a : Action) (next : Option NodeId) → action_of s ≡ Some a →
    Lasts (with_node table (record { statement = s; next = next })) (Some (end_of table)) (body.action a body.nothing) next
acts-new table s a next is nodes marks becomes =
    let node : Node = record { statement = s; next = next } in
    Has-grows (table.nodes ++ node ∷ []) [] nodes marks
    (record { kept = becomes.kept; marked = λ l place at. absurd (cc at.marked) })
    (Some (end_of table)) next (body.action a body.nothing) (
      next,
      record {
        statement = s;
        at = record { node = end_of table; here = refl; stands = at-end table.nodes node };
        acts = is;
      },
      refl,
    )

pub Built-action : (first table : Table) (s : Statement) (a : Action) (rest : Body) (next to : Option NodeId) →
    action_of s ≡ Some a → Built first table next rest to →
    Built first (with_node table (record { statement = s; next = next })) (Some (end_of table)) (body.action a rest) to
Built-action first table s a rest next to is built =
    let node : Node = record { statement = s; next = next } in
    record {
      grown = λ nodes marks becomes. built.grown nodes marks (grown-node table node nodes marks becomes);
      stands = λ nodes marks becomes.
          let acts = acts-new table s a next is nodes marks becomes in (
            acts.0,
            acts.1,
            subst (λ (x : Option NodeId). Has nodes marks x rest to) (sym acts.2)
                (built.stands nodes marks (grown-node table node nodes marks becomes)),
          );
      marked = λ mark at. elim (built.marked mark at) [
        | inl old ↦ inl old
        | inr r ↦ inr (
          r.0,
          past_action a rest r.0 r.1,
          λ nodes marks becomes. r.2 nodes marks (grown-node table node nodes marks becomes),
        )
      ];
      labels = built.labels;
      joins = λ l.
          gathers-last l node_joins table.nodes node
          ∙ ap (λ list. times l list + times l (joined_labels table)) (action-joins s a is)
          ∙ sym (none-plus (times l (joined_labels table))) ∙ built.joins l;
    }

sum-decided : (n a parts rest first mid old : ℕ) → n ≡ mid → mid ≡ parts + old → old ≡ rest + first →
    a ≡ parts + rest → n ≡ a + first
sum-decided n a parts rest first mid old one two three four = omega (arith, one, two, three, four)

pub Built-decision : (first old mid : Table) (asked : Decision) (parts : Parts) (rest : Body)
    (next to : Option NodeId) → BuiltParts old mid asked.branches.items asked.otherwise parts next →
    Built first old next rest to →
    Built first (with_node mid (record { statement = kind.Decision asked; next = next })) (Some (end_of mid))
    (body.decision (term_of asked.question) parts rest) to
Built-decision first old mid asked parts rest next to inner built =
    let node : Node = record { statement = kind.Decision asked; next = next } in
    record {
      grown = λ nodes marks becomes.
          built.grown nodes marks (inner.grown nodes marks (grown-node mid node nodes marks becomes));
      stands = λ nodes marks becomes.
          let within_mid = grown-node mid node nodes marks becomes in
          let k = becomes.kept (end_of mid) node (at-end mid.nodes node) in (
            asked,
            next,
            record {
              at = record {
                node = end_of mid;
                here = refl;
                stands = subst (λ (x : Option NodeId). slice_get nodes (length mid.nodes)
                    ≡ Some (record { statement = kind.Decision asked; next = x })) (sym k.same) k.stands;
              };
              asks = refl;
            },
            inner.stand nodes marks within_mid,
            built.stands nodes marks (inner.grown nodes marks within_mid),
          );
      marked = λ mark at. elim (inner.marked mark at) [
        | inl before ↦ elim (built.marked mark before) [
          | inl older ↦ inl older
          | inr r ↦ inr (
            r.0,
            past_decision (term_of asked.question) parts rest r.0 r.1,
            λ nodes marks becomes.
                r.2 nodes marks (inner.grown nodes marks (grown-node mid node nodes marks becomes)),
          )
        ]
        | inr r ↦ inr (
          followed r.0 rest,
          within (term_of asked.question) parts rest r.0 r.1,
          λ nodes marks becomes.
              Has-followed nodes marks (Some mark.node) next to r.0 rest
              (r.2 nodes marks (grown-node mid node nodes marks becomes))
              (built.stands nodes marks (inner.grown nodes marks (grown-node mid node nodes marks becomes))),
        )
      ];
      labels = λ l.
          sum-decided _ (times l (labels_of (body.decision (term_of asked.question) parts rest)))
          (times l (gathered_in itself not_joined parts)) (times l (labels_of rest)) _ (times l (marked_labels mid)) _
          refl (inner.labels l) (built.labels l)
          (times-append l (gathered_in itself not_joined parts) (labels_of rest));
      joins = λ l.
          sum-decided _ (times l (joins_of (body.decision (term_of asked.question) parts rest)))
          (times l (gathered_in no_label joined parts)) (times l (joins_of rest)) _ (times l (joined_labels mid)) _
          (gathers-last l node_joins mid.nodes node ∙ sym (none-plus (times l (joined_labels mid)))) (inner.joins l)
          (built.joins l)
          (times-append l (gathered_in no_label joined parts) (joins_of rest));
    }

sum-labelled : (n one rest table first : ℕ) → n ≡ one + table → table ≡ rest + first → n ≡ (one + rest) + first
sum-labelled n one rest table first a b = omega (arith, a, b)

pub Built-label : (first table : Table) (l : LabelId) (n : NodeId) (rest : Body) (to : Option NodeId) →
    Built first table (Some n) rest to →
    Built first (with_mark table (record { label = l; node = n })) (Some n) (body.label l rest) to
Built-label first table l n rest to built =
    let mark : Mark = record { label = l; node = n } in
    record {
      grown = λ nodes marks becomes. built.grown nodes marks (grown-mark table mark nodes marks becomes);
      stands = λ nodes marks becomes. (
        record {
          node = n;
          here = refl;
          marked = becomes.marked mark (in-right mark table.marks (mark ∷ []) (inl refl));
        },
        built.stands nodes marks (grown-mark table mark nodes marks becomes),
      );
      marked = λ one at. elim (in-append one table.marks (mark ∷ []) at) [
        | inl before ↦ elim (built.marked one before) [
          | inl older ↦ inl older
          | inr r ↦ inr (
            r.0,
            past_label l rest r.0 r.1,
            λ nodes marks becomes. r.2 nodes marks (grown-mark table mark nodes marks becomes),
          )
        ]
        | inr last ↦ elim last [
          | inl e ↦ inr (subst (λ m. MarksIn (with_mark table mark) (body.label l rest) to m) (sym e) (
            rest,
            here rest,
            λ nodes marks becomes. built.stands nodes marks (grown-mark table mark nodes marks becomes),
          ))
          | inr none ↦ absurd none
        ]
      ];
      labels = λ k.
          sum-labelled _ (cond (l.0 == k.0) 1 0) (times k (labels_of rest)) (times k (marked_labels table)) _
          (maps-last k label_of table.marks mark) (built.labels k);
      joins = built.joins;
    }
