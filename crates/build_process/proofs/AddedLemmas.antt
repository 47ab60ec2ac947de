-- Bodies that are added to a table one after the other.
use Rattle.std.proofs.Common.{◌≡◌, ◌∙◌, inl, inr, ℕ, zero, suc, ◌+◌, ◌≤◌, ◌==◌, ◌++◌, Bool, true, false, List, [], ◌∷◌, Option, None, Some, arith, cond, length, length-append, map, slice_get, refl, ap, sym, subst}
use Rattle.std.proofs.lemmas.Bool.{eq-eqb}
use Rattle.std.specs.Option.{unwrap_or}
use Rattle.build_process.specs.Added.{AreEntries, AreWhole, BuiltAt, Enters, HasEach, MadeOf, Stand}
use Rattle.build_process.specs.declared.transitions.Transitions.{Transitions}
use Rattle.build_statements.specs.Built.{Becomes, Built, BuiltIf, Table, label_of, marked_labels}
use Rattle.build_statements.specs.Contexts.{Context, label_in}
use Rattle.build_statements.specs.Labels.{labels_of, times}
use Rattle.build_statements.specs.Made.{Made}
use Rattle.build_statements.specs.Transitions.{labelled}
use Rattle.build_statements.specs.declared.nodes.table.Mark.{Mark}
use Rattle.build_statements.proofs.CountLemmas.{at-end, gathers-last, kept-behind}
use Rattle.build_statements.proofs.LinkLemmas.{times-in}
use Rattle.build_statements.proofs.MadeLemmas.{body-made}
use Rattle.build_names.specs.FaultLaws.{In}
use Rattle.build_expressions.specs.Partial.{both}
use Rattle.sdl_system.specs.Body as body
use Rattle.sdl_system.specs.Body.{Body, Ends}
use Rattle.sdl_system.specs.BodyLaws.{KeepsNext}
use Rattle.sdl_system.specs.Table.{Has}
use Rattle.sdl_system.specs.declared.id.LabelId.{LabelId}
use Rattle.sdl_system.specs.declared.id.NodeId.{NodeId}
use Rattle.sdl_system.specs.declared.statement.Node.{Node}
use Rattle.sdl_system.specs.declared.statement.Statement.{Statement}
use Rattle.sdl_system.specs.declared.statement.Statement.TheVariants as kind
use Rattle.sdl_tree.specs.Words.{Spot}

-- ---- nodes that stand by their labels

-- the list with a node at this place
abbrev put : NodeId → ℕ → List (Option NodeId) → List (Option NodeId)
put node zero [] = Some node ∷ []
put node zero (x ∷ places) = Some node ∷ places
put node (suc n) [] = None ∷ put node n []
put node (suc n) (x ∷ places) = x ∷ put node n places

put-here : (node : NodeId) (n : ℕ) (places : List (Option NodeId)) → slice_get (put node n places) n ≡ Some (Some node)
put-here node zero [] = refl
put-here node zero (x ∷ places) = refl
put-here node (suc n) [] = put-here node n []
put-here node (suc n) (x ∷ places) = put-here node n places

put-other : (node other : NodeId) (n m : ℕ) (places : List (Option NodeId)) → (n ≡ m → ⊥) →
    slice_get places m ≡ Some (Some other) → slice_get (put node n places) m ≡ Some (Some other)
put-other node other n zero [] differ is = cc
put-other node other n (suc m) [] differ is = cc
put-other node other zero zero (x ∷ places) differ is = absurd (differ refl)
put-other node other zero (suc m) (x ∷ places) differ is = is
put-other node other (suc n) zero (x ∷ places) differ is = is
put-other node other (suc n) (suc m) (x ∷ places) differ is =
    put-other node other n m places (λ e. differ (ap suc e)) is

-- the nodes of marks by their labels
abbrev places_for : List Mark → List (Option NodeId)
places_for [] = []
places_for (m ∷ marks) = put m.node m.label.0 (places_for marks)

label-among : (mark : Mark) (marks : List Mark) → In mark marks → In mark.label (map label_of marks)
label-among mark [] at = absurd at
label-among mark (m ∷ marks) at =
    elim at [ inl e ↦ inl (ap label_of e) | inr later ↦ inr (label-among mark marks later) ]

false-true : false ≡ true → ⊥
false-true e = cc

by-mark : (mark m : Mark) (marks : List Mark) (b : Bool) → (m.label.0 == mark.label.0) ≡ b → In mark (m ∷ marks) →
    cond b 1 0 + times mark.label (map label_of marks) ≤ 1 →
    (In mark marks → times mark.label (map label_of marks) ≤ 1 →
    slice_get (places_for marks) mark.label.0 ≡ Some (Some mark.node)) →
    slice_get (put m.node m.label.0 (places_for marks)) mark.label.0 ≡ Some (Some mark.node)
by-mark mark m marks true same at once rest = elim at [
  | inl e ↦ subst
      (λ (x : Mark). slice_get (put x.node x.label.0 (places_for marks)) mark.label.0 ≡ Some (Some mark.node))
      e (put-here mark.node mark.label.0 (places_for marks))
  | inr later ↦ absurd (let more : 1 ≤ times mark.label (map label_of marks) =
      times-in mark.label (map label_of marks) (label-among mark marks later) in omega (arith, once, more))
]
by-mark mark m marks false same at once rest = elim at [
  | inl e ↦ absurd (false-true (sym same ∙ eq-eqb m.label.0 mark.label.0 (ap (λ (x : Mark). x.label.0) (sym e))))
  | inr later ↦ put-other m.node mark.node m.label.0 mark.label.0 (places_for marks)
      (λ e. false-true (sym same ∙ eq-eqb m.label.0 mark.label.0 e)) (rest later (omega (arith, once)))
]

found-mark : (mark : Mark) (marks : List Mark) → In mark marks → times mark.label (map label_of marks) ≤ 1 →
    slice_get (places_for marks) mark.label.0 ≡ Some (Some mark.node)
found-mark mark [] at once = absurd at
found-mark mark (m ∷ marks) at once =
    by-mark mark m marks (m.label.0 == mark.label.0) refl at once (found-mark mark marks)

same-next : (s : Statement) (next : Option NodeId) → KeepsNext s next next
same-next (kind.Join label) next = tt
same-next (kind.Task list) next = refl
same-next (kind.Output sends) next = refl
same-next (kind.Set list) next = refl
same-next (kind.Reset list) next = refl
same-next (kind.Create creation) next = refl
same-next (kind.Decision asked) next = refl
same-next (kind.NextState state) next = refl
same-next kind.SameState next = refl
same-next kind.Stop next = refl

-- a table in which no label is marked twice is one that it can become
becomes-itself : (table : Table) → ((l : LabelId) → times l (marked_labels table) ≤ 1) →
    Becomes table table.nodes (places_for table.marks)
becomes-itself table once = record {
  kept = λ n node stands. record { next = node.next; stands = stands; same = same-next node.statement node.next };
  marked = λ mark at. found-mark mark table.marks at (once mark.label);
}

-- ---- one body

-- a body that ends begins at a node
begins-at : (nodes : List Node) (marks : List (Option NodeId)) (place : Option NodeId) (whole : Body) →
    Has nodes marks place whole None → Ends whole → (entry : NodeId) × (place ≡ Some entry)
begins-at nodes marks place body.nothing has ends = absurd ends
begins-at nodes marks place (body.action first rest) has ends = (has.1.at.node, has.1.at.here)
begins-at nodes marks place (body.decision question parts rest) has ends = (has.2.at.node, has.2.at.here)
begins-at nodes marks place (body.label number rest) has ends = (has.0.node, has.0.here)
begins-at nodes marks place (body.ending terminator) has ends = (has.at.node, has.at.here)

built-at : (old new : Table) (place : Option NodeId) (whole : Body) → Built old new place whole None → Ends whole →
    ((l : LabelId) → times l (labels_of whole) + times l (marked_labels old) ≤ 1) → BuiltAt old new place whole
built-at old new place whole built ends once =
    let once_new : (l : LabelId) → times l (marked_labels new) ≤ 1 =
    λ l. subst (λ (n : ℕ). n ≤ 1) (sym (built.labels l)) (once l) in
    let b = begins-at new.nodes (places_for new.marks) place whole
    (built.stands new.nodes (places_for new.marks) (becomes-itself new once_new)) ends in
    record { entry = b.0; here = b.1; built = subst (λ (p : Option NodeId). Built old new p whole None) b.1 built }

none-some : {A B : Type 0} (x : A) → None ≡ Some x → B
none-some x is = cc

pub enters : (old new : Table) (place : Option NodeId) (found : Option Body) → BuiltIf old new place found None →
    Enters old new place found
enters old new place None built = λ whole is ends once. none-some whole is
enters old new place (Some b) built = λ whole is ends once.
    let same : b ≡ whole = ap (λ (o : Option Body). unwrap_or o b) is in
    built-at old new place whole (subst (λ (x : Body). Built old new place x None) same built) ends once

-- ---- a connection

-- its label marks the node at which its transition begins
with-label : (before mid new : Table) (node : NodeId) (l : LabelId) (found : Option Body) →
    BuiltIf before mid (Some node) found None →
    ((first : Table) (whole : Body) (to : Option NodeId) → Built first mid (Some node) whole to →
    Built first new (Some node) (body.label l whole) to) →
    Enters before new (Some node) (both body.label (Some l) found)
with-label before mid new node l None built marks = λ whole is ends once. none-some whole is
with-label before mid new node l (Some b) built marks = λ whole is ends once.
    let same : body.label l b ≡ whole = ap (λ (o : Option Body). unwrap_or o (body.label l b)) is in
    record {
      entry = node;
      here = refl;
      built = subst (λ (x : Body). Built before new (Some node) x None) same (marks before b None built);
    }

pub label-enters : (context : Context) (name : Spot) (before mid new : Table) (node : NodeId) (l : LabelId)
    (found : Option Body) → label_in context name.text ≡ Some l → BuiltIf before mid (Some node) found None →
    ((first : Table) (whole : Body) (to : Option NodeId) → Built first mid (Some node) whole to →
    Built first new (Some node) (body.label l whole) to) →
    Enters before new (Some node) (labelled context (Some name) found)
label-enters context name before mid new node l found is built marks =
    subst (λ (o : Option LabelId). Enters before new (Some node) (both body.label o found)) (sym is)
    (with-label before mid new node l found built marks)

-- there is none where it begins at no node
no-node : (before new : Table) (o : Option LabelId) (found : Option Body) → BuiltIf before new None found None →
    Enters before new None (both body.label o found)
no-node before new None found built = λ whole is ends once. none-some whole is
no-node before new (Some l) None built = λ whole is ends once. none-some whole is
no-node before new (Some l) (Some b) built = λ whole is ends once.
    let same : body.label l b ≡ whole = ap (λ (o : Option Body). unwrap_or o (body.label l b)) is in
    let at = built-at before new None b built (subst Ends (sym same) ends)
    (λ k. let all =
    subst (λ (x : Body). times k (labels_of x) + times k (marked_labels before) ≤ 1) (sym same) (once k) in
    omega (arith, all)) in
    none-some at.entry at.here

pub no-place : (context : Context) (name : Spot) (before new : Table) (found : Option Body) →
    BuiltIf before new None found None → Enters before new None (labelled context (Some name) found)
no-place context name before new found built = no-node before new (label_in context name.text) found built

pub no-label : (context : Context) (name : Spot) (before new : Table) (place : Option NodeId) (found : Option Body) →
    label_in context name.text ≡ None → Enters before new place (labelled context (Some name) found)
no-label context name before new place found is =
    subst (λ (o : Option LabelId). Enters before new place (both body.label o found)) (sym is)
    (λ whole same ends once. none-some whole same)

-- ---- all bodies

record Split (found : List (Option Body)) (last : Option Body) (bodies : List Body) : Type 0 where
  first : List Body
  one : Body
  first_is : found ≡ map Some first
  last_is : last ≡ Some one
  is : bodies ≡ first ++ one ∷ []

split : (found : List (Option Body)) (last : Option Body) (bodies : List Body) → found ++ last ∷ [] ≡ map Some bodies →
    Split found last bodies
split [] last [] same = cc
split [] last (b ∷ []) same =
    let e : last ≡ Some b = cc in record { first = []; one = b; first_is = refl; last_is = e; is = refl }
split [] last (b ∷ c ∷ bodies) same = cc
split (x ∷ []) last [] same = cc
split (x ∷ y ∷ found) last [] same = cc
split (x ∷ found) last (b ∷ bodies) same =
    let e : x ≡ Some b = cc in
    let rest : found ++ last ∷ [] ≡ map Some bodies = cc in
    let r = split found last bodies rest in
    record {
      first = b ∷ r.first;
      one = r.one;
      first_is = ap (λ y. y ∷ found) e ∙ ap (λ list. Some b ∷ list) r.first_is;
      last_is = r.last_is;
      is = ap (λ list. b ∷ list) r.is;
    }

whole-before : (bodies : List Body) (b : Body) → AreWhole (bodies ++ b ∷ []) → AreWhole bodies
whole-before bodies b whole = record {
  ends = λ number one is. whole.ends number one (kept-behind bodies (b ∷ []) number one is);
  once = λ l.
      let all = subst (λ (n : ℕ). n ≤ 1) (gathers-last l labels_of bodies b) (whole.once l) in
      omega (arith, all);
}

-- one more body, which begins at the place
added-at : (before new : Table) (entries : List NodeId) (is_whole : Bool) (found : List (Option Body))
    (last : Option Body) (place : Option NodeId) → Stand before entries is_whole found →
    Enters before new place last → (bodies : List Body) →
    (s : Split found last bodies) → AreWhole bodies →
    MadeOf before entries is_whole s.first × BuiltAt before new place s.one
added-at before new entries is_whole found last place stand enter bodies s whole =
    let w = subst AreWhole s.is whole in
    let m = stand.made s.first s.first_is (whole-before s.first s.one w) in (
      m,
      enter s.one s.last_is (w.ends (length s.first) s.one (at-end s.first s.one))
          (λ l. let all = subst (λ (n : ℕ). n ≤ 1) (gathers-last l labels_of s.first s.one) (w.once l) in
          let marks = m.made.labels l in omega (arith, all, marks)),
    )

pub stand-more : (before new : Table) (entries : List NodeId) (is_whole : Bool) (found : List (Option Body))
    (last : Option Body) (node : NodeId) → Stand before entries is_whole found → Enters before new (Some node) last →
    Stand new (entries ++ node ∷ []) is_whole (found ++ last ∷ [])
stand-more before new entries is_whole found last node stand enter = record {
  made = λ bodies same whole.
      let s = split found last bodies same in
      let r = added-at before new entries is_whole found last (Some node) stand enter bodies s whole in
      subst (λ (list : List Body). MadeOf new (entries ++ node ∷ []) is_whole list) (sym s.is)
      (record {
        each = r.0.each;
        made = body-made s.first entries before new node s.one r.0.made
            (subst (λ (p : Option NodeId). Built before new p s.one None) (sym r.1.here) r.1.built);
      });
  many = λ each.
      length-append entries (node ∷ []) ∙ ap (λ n. n + 1) (stand.many each) ∙ sym (length-append found (last ∷ []));
}

pub stand-none : (before new : Table) (entries : List NodeId) (is_whole : Bool) (found : List (Option Body))
    (last : Option Body) → Stand before entries is_whole found → Enters before new None last →
    Stand new entries false (found ++ last ∷ [])
stand-none before new entries is_whole found last stand enter = record {
  made = λ bodies same whole.
      let s = split found last bodies same in
      let r = added-at before new entries is_whole found last None stand enter bodies s whole in
      none-some r.1.entry r.1.here;
  many = λ each. absurd (false-true each);
}

nothing-else : (table : Table) → Made [] [] table → (bodies : List Body) → [] ≡ map Some bodies →
    MadeOf table [] true bodies
nothing-else table made [] same = record { each = refl; made = made }
nothing-else table made (b ∷ bodies) same = cc

pub stand-nothing : (table : Table) → Made [] [] table → Stand table [] true []
stand-nothing table made = record {
  made = λ bodies same whole. nothing-else table made bodies same;
  many = λ each. refl;
}

-- ---- entries

-- where each transition has an entry, there are as many
pub each-entry : (table : Table) (entries : List NodeId) (is_whole : Bool) (found : List (Option Body))
    (transitions : Option Transitions) → Stand table entries is_whole found → AreEntries is_whole entries transitions →
    HasEach (length found) transitions
each-entry table entries is_whole found None stand are = tt
each-entry table entries is_whole found (Some transitions) stand are = ap length are.1 ∙ stand.many are.0
