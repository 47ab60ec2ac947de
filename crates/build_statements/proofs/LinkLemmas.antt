-- Tables whose joins are linked.
use Rattle.std.proofs.Common.{◌≡◌, ◌∙◌, inl, inr, ℕ, zero, suc, ◌+◌, ◌≤◌, ◌==◌, ◌++◌, Bool, true, false, List, [], ◌∷◌, Option, None, Some, arith, cond, flat_map, map, option_map, slice_get, refl, ap, sym, subst}
use Rattle.std.specs.Option.{option_or, unwrap_or}
use Rattle.std.proofs.lemmas.Bool.{eq-eqb, eqb-true}
use Rattle.std.proofs.lemmas.Option.{slice_get-map}
use Rattle.build_statements.specs.Built.{Becomes, Table, label_of, marked_labels, node_joins, statement_joins}
use Rattle.build_statements.specs.Labels.{times}
use Rattle.build_statements.specs.Linked.{first_mark, linked, linked_nodes, next_of, place_at}
use Rattle.build_statements.specs.declared.nodes.table.Mark.{Mark}
use Rattle.build_names.proofs.FaultLemmas.{in-left, in-right}
use Rattle.build_names.specs.FaultLaws.{In}
use Rattle.sdl_system.specs.BodyLaws.{KeepsNext}
use Rattle.sdl_system.specs.declared.id.LabelId.{LabelId}
use Rattle.sdl_system.specs.declared.id.NodeId.{NodeId}
use Rattle.sdl_system.specs.declared.statement.Node.{Node}
use Rattle.sdl_system.specs.declared.statement.Statement.{Statement}
use Rattle.sdl_system.specs.declared.statement.Statement.TheVariants as kind

-- ---- how often a label stands in a list

-- it does where it is one of the list
pub times-in : (l : LabelId) (xs : List LabelId) → In l xs → 1 ≤ times l xs
times-in l [] at = absurd at
times-in l (x ∷ xs) at = elim at [
  | inl e ↦ let same : (x.0 == l.0) ≡ true = eq-eqb x.0 l.0 (ap (λ (k : LabelId). k.0) (sym e)) in
      subst (λ (b : Bool). 1 ≤ cond b 1 0 + times l xs) (sym same) (omega arith)
  | inr later ↦ let rest : 1 ≤ times l xs = times-in l xs later in omega (arith, rest)
]

found-label : (l x : LabelId) (xs : List LabelId) (b : Bool) → (x.0 == l.0) ≡ b → 1 ≤ cond b 1 0 + times l xs →
    (1 ≤ times l xs → In l xs) → In l (x ∷ xs)
found-label l x xs true same many rest = inl (sym (ap (λ (n : ℕ). record { 0 = n }) (eqb-true x.0 l.0 same)))
found-label l x xs false same many rest = inr (rest (omega (arith, many)))

-- and only there
pub in-times : (l : LabelId) (xs : List LabelId) → 1 ≤ times l xs → In l xs
in-times l [] many = absurd (omega (arith, many))
in-times l (x ∷ xs) many = found-label l x xs (x.0 == l.0) refl many (in-times l xs)

-- ---- marks

-- the mark of a label that is marked
pub mark-of : (l : LabelId) (marks : List Mark) → In l (map label_of marks) →
    (mark : Mark) × In mark marks × (mark.label ≡ l)
mark-of l [] at = absurd at
mark-of l (m ∷ marks) at = elim at [
  | inl e ↦ (m, inl refl, sym e)
  | inr later ↦ let r = mark-of l marks later in (r.0, inr r.1, r.2)
]

label-in : (mark : Mark) (marks : List Mark) → In mark marks → In mark.label (map label_of marks)
label-in mark [] at = absurd at
label-in mark (m ∷ marks) at = elim at [
  | inl e ↦ inl (ap label_of e)
  | inr later ↦ inr (label-in mark marks later)
]

false-true : false ≡ true → ⊥
false-true e = cc

mark-first : (mark m : Mark) (marks : List Mark) (b : Bool) → (m.label.0 == mark.label.0) ≡ b →
    In mark (m ∷ marks) → cond b 1 0 + times mark.label (map label_of marks) ≤ 1 →
    (In mark marks → times mark.label (map label_of marks) ≤ 1 → first_mark marks mark.label ≡ Some mark.node) →
    cond b (Some m.node) (first_mark marks mark.label) ≡ Some mark.node
mark-first mark m marks true same at once rest = elim at [
  | inl e ↦ ap (λ (x : Mark). Some x.node) (sym e)
  | inr later ↦ absurd (let more : 1 ≤ times mark.label (map label_of marks) =
      times-in mark.label (map label_of marks) (label-in mark marks later) in omega (arith, once, more))
]
mark-first mark m marks false same at once rest = elim at [
  | inl e ↦ absurd (false-true (sym same ∙ eq-eqb m.label.0 mark.label.0 (ap (λ (x : Mark). x.label.0) (sym e))))
  | inr later ↦ rest later (omega (arith, once))
]

-- a label that is marked once is marked at the node of its mark
pub marked-first : (mark : Mark) (marks : List Mark) → In mark marks → times mark.label (map label_of marks) ≤ 1 →
    first_mark marks mark.label ≡ Some mark.node
marked-first mark [] at once = absurd at
marked-first mark (m ∷ marks) at once =
    mark-first mark m marks (m.label.0 == mark.label.0) refl at once (marked-first mark marks)

-- ---- places

pub place-none : (places : List (Option NodeId)) (n : ℕ) →
    place_at (places ++ None ∷ []) (record { 0 = n }) ≡ place_at places (record { 0 = n })
place-none [] zero = refl
place-none [] (suc n) = refl
place-none (x ∷ places) zero = refl
place-none (x ∷ places) (suc n) = place-none places n

either-mark : (m : Mark) (b : Bool) (found more last : Option NodeId) → more ≡ option_or found last →
    cond b (Some m.node) more ≡ option_or (cond b (Some m.node) found) last
either-mark m true found more last is = refl
either-mark m false found more last is = is

pub mark-last : (marks : List Mark) (mark : Mark) (l : LabelId) → first_mark (marks ++ mark ∷ []) l
    ≡ option_or (first_mark marks l) (cond (mark.label.0 == l.0) (Some mark.node) None)
mark-last [] mark l = refl
mark-last (m ∷ marks) mark l =
    either-mark m (m.label.0 == l.0) (first_mark marks l) (first_mark (marks ++ mark ∷ []) l) _ (mark-last marks mark l)

-- ---- linked nodes

keeps-next : (f : LabelId → Option NodeId) (s : Statement) (next : Option NodeId) → KeepsNext s next (next_of f s next)
keeps-next f (kind.Join label) next = tt
keeps-next f (kind.Task list) next = refl
keeps-next f (kind.Output sends) next = refl
keeps-next f (kind.Set list) next = refl
keeps-next f (kind.Reset list) next = refl
keeps-next f (kind.Create creation) next = refl
keeps-next f (kind.Decision asked) next = refl
keeps-next f (kind.NextState state) next = refl
keeps-next f kind.SameState next = refl
keeps-next f kind.Stop next = refl

some-place : (o : Option (Option NodeId)) (n : NodeId) → unwrap_or o None ≡ Some n → o ≡ Some (Some n)
some-place None n is = cc
some-place (Some x) n is = ap Some is

-- a table becomes its linked nodes, with the places of labels that are marked once
pub linked-becomes : (table : Table) (places : List (Option NodeId)) →
    ((l : LabelId) → place_at places l ≡ first_mark table.marks l) →
    ((l : LabelId) → times l (marked_labels table) ≤ 1) → Becomes table (linked_nodes table) places
linked-becomes table places are once = record {
  kept = λ n node stands.
      let f = first_mark table.marks in
      record {
        next = next_of f node.statement node.next;
        stands = slice_get-map (linked f) table.nodes n.0 ∙ ap (option_map (linked f)) stands;
        same = keeps-next f node.statement node.next;
      };
  marked = λ mark at.
      some-place (slice_get places mark.label.0) mark.node
      (are mark.label ∙ marked-first mark table.marks at (once mark.label));
}

-- a join among the linked nodes is one of the table, and leads to the node of its label
pub join-at : (f : LabelId → Option NodeId) (nodes : List Node) (n : ℕ) (l : LabelId) (next : Option NodeId) →
    slice_get (map (linked f) nodes) n ≡ Some (record { statement = kind.Join l; next = next }) →
    In l (flat_map node_joins nodes) × (next ≡ f l)
join-at f [] zero l next is = cc
join-at f [] (suc n) l next is = cc
join-at f (node ∷ nodes) zero l next is =
    let same : linked f node ≡ record { statement = kind.Join l; next = next } =
    ap (λ (o : Option Node). unwrap_or o (linked f node)) is in
    let joins : node.statement ≡ kind.Join l = ap (λ (x : Node). x.statement) same in (
      in-left l (node_joins node) (flat_map node_joins nodes)
          (subst (λ (x : Statement). In l (statement_joins x)) (sym joins) (inl refl)),
      sym (ap (λ (x : Node). x.next) same) ∙ ap (λ (x : Statement). next_of f x node.next) joins,
    )
join-at f (node ∷ nodes) (suc n) l next is =
    let r = join-at f nodes n l next is in
    (in-right l (node_joins node) (flat_map node_joins nodes) r.0, r.1)

-- two ways from labels to nodes that agree are one
pub same-places : (f g : LabelId → Option NodeId) → ((l : LabelId) → f l ≡ g l) → f ≡ g
same-places f g same = λ i l. same l i
