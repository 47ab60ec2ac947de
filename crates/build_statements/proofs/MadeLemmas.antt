-- The table of all bodies of a process.
use Rattle.std.proofs.Common.{◌≡◌, ◌∙◌, ◌⊎◌, inl, inr, ℕ, zero, suc, ◌+◌, ◌≤◌, ◌++◌, List, [], ◌∷◌, Option, None, Some, length, length-append, slice_get, refl, ap, sym, subst}
use Rattle.build_statements.specs.Built.{Becomes, Built, Table, joined_labels, marked_labels}
use Rattle.build_statements.specs.Labels.{gathered_in, itself, joins_of, labels_of, not_joined, times}
use Rattle.build_statements.specs.Linked.{first_mark, linked_nodes, place_at}
use Rattle.build_statements.specs.Made.{Closed, Made, MadeAt, all_joins, all_labels}
use Rattle.build_statements.proofs.CountLemmas.{at-end, gathers-last, in-append, kept-behind}
use Rattle.build_statements.proofs.LinkLemmas.{in-times, join-at, linked-becomes, mark-of, marked-first, times-in}
use Rattle.build_names.specs.FaultLaws.{In}
use Rattle.sdl_system.specs.Body as body
use Rattle.sdl_system.specs.Body.{Body, FromLabel, InParts, Parts, followed, here, in_first, in_later, in_otherwise, past_action, past_decision, past_label, within}
use Rattle.sdl_system.specs.Table.{At, Has, IsTableOf, Joined, LabelOf}
use Rattle.sdl_system.specs.declared.id.LabelId.{LabelId}
use Rattle.sdl_system.specs.declared.id.NodeId.{NodeId}
use Rattle.sdl_system.specs.declared.statement.Statement.TheVariants as kind

-- ---- one more body

one-more : {A : Type 0} (xs : List A) (x y : A) (n : ℕ) → slice_get (xs ++ x ∷ []) n ≡ Some y →
    (slice_get xs n ≡ Some y) ⊎ ((n ≡ length xs) × (x ≡ y))
one-more [] x y zero is = inr (refl, cc)
one-more [] x y (suc n) is = cc
one-more (z ∷ xs) x y zero is = inl is
one-more (z ∷ xs) x y (suc n) is = elim (one-more xs x y n is) [ inl old ↦ inl old | inr last ↦ inr (ap suc last.0, last.1) ]

pub body-made : (bodies : List Body) (entries : List NodeId) (old new : Table) (entry : NodeId) (whole : Body) →
    Made bodies entries old → Built old new (Some entry) whole None →
    Made (bodies ++ whole ∷ []) (entries ++ entry ∷ []) new
body-made bodies entries old new entry whole made built = record {
  begins = λ number one is. elim (one-more bodies whole one number is) [
    | inl before ↦ let m = made.begins number one before in
        record {
          entry = m.entry;
          listed = kept-behind entries (entry ∷ []) number m.entry m.listed;
          stands = λ nodes marks becomes. m.stands nodes marks (built.grown nodes marks becomes);
        }
    | inr last ↦ subst (λ (b : Body). MadeAt new (entries ++ entry ∷ []) number b) last.1
        (record {
          entry = entry;
          listed = subst (λ (n : ℕ). slice_get (entries ++ entry ∷ []) n ≡ Some entry) (made.as_many ∙ sym last.0)
              (at-end entries entry);
          stands = built.stands;
        })
  ];
  marked = λ mark at. elim (built.marked mark at) [
    | inl before ↦ let m = made.marked mark before in
        record {
          on = m.on;
          label = record {
            number = m.label.number;
            whole = m.label.whole;
            body = kept-behind bodies (whole ∷ []) m.label.number m.label.whole m.label.body;
            from = m.label.from;
          };
          stands = λ nodes marks becomes. m.stands nodes marks (built.grown nodes marks becomes);
        }
    | inr r ↦ record {
      on = r.0;
      label = record { number = length bodies; whole = whole; body = at-end bodies whole; from = r.1 };
      stands = r.2;
    }
  ];
  labels = λ l.
      built.labels l ∙ ap (λ n. times l (labels_of whole) + n) (made.labels l)
      ∙ sym (gathers-last l labels_of bodies whole);
  joins = λ l.
      built.joins l ∙ ap (λ n. times l (joins_of whole) + n) (made.joins l)
      ∙ sym (gathers-last l joins_of bodies whole);
  as_many =
      length-append entries (entry ∷ []) ∙ ap (λ n. n + 1) made.as_many ∙ sym (length-append bodies (whole ∷ []));
}

-- ---- labels

mutual
  from-label : (l : LabelId) (b : Body) → In l (labels_of b) → (on : Body) × FromLabel l b on
  from-label l body.nothing at = absurd at
  from-label l (body.action first rest) at =
      let r = from-label l rest at in (r.0, past_action first rest r.0 r.1)
  from-label l (body.decision question parts rest) at =
      elim (in-append l (gathered_in itself not_joined parts) (labels_of rest) at) [
        | inl inner ↦ let r = from-parts l parts inner in (followed r.0 rest, within question parts rest r.0 r.1)
        | inr later ↦ let r = from-label l rest later in (r.0, past_decision question parts rest r.0 r.1)
      ]
  from-label l (body.label number rest) at =
      elim at [
        | inl e ↦ subst (λ (n : LabelId). (on : Body) × FromLabel l (body.label n rest) on) e (rest, here rest)
        | inr later ↦ let r = from-label l rest later in (r.0, past_label number rest r.0 r.1)
      ]
  from-label l (body.ending terminator) at = absurd at

  from-parts : (l : LabelId) (parts : Parts) → In l (gathered_in itself not_joined parts) →
      (on : Body) × InParts l parts on
  from-parts l body.no_part at = absurd at
  from-parts l (body.otherwise b) at = let r = from-label l b at in (r.0, in_otherwise b r.0 r.1)
  from-parts l (body.part answers b rest) at =
      elim (in-append l (labels_of b) (gathered_in itself not_joined rest) at) [
        | inl first ↦ let r = from-label l b first in (r.0, in_first answers b rest r.0 r.1)
        | inr later ↦ let r = from-parts l rest later in (r.0, in_later answers b rest r.0 r.1)
      ]

pub labels-stand : (bodies : List Body) (l : LabelId) → In l (all_labels bodies) → (on : Body) × LabelOf bodies l on
labels-stand [] l at = absurd at
labels-stand (b ∷ bodies) l at =
    elim (in-append l (labels_of b) (all_labels bodies) at) [
      | inl first ↦ let r = from-label l b first in
          (r.0, record { number = 0; whole = b; body = refl; from = r.1 })
      | inr later ↦ let r = labels-stand bodies l later in
          (r.0, record { number = suc r.1.number; whole = r.1.whole; body = r.1.body; from = r.1.from })
    ]

-- ---- the finished table

module _ (bodies : List Body) (entries : List NodeId) (table : Table) (places : List (Option NodeId))
    (are : (l : LabelId) → place_at places l ≡ first_mark table.marks l) (made : Made bodies entries table)
    (closed : Closed bodies) where
  once : (l : LabelId) → times l (marked_labels table) ≤ 1
  once l = subst (λ (n : ℕ). n ≤ 1) (sym (made.labels l)) (closed.once l)

  becomes : Becomes table (linked_nodes table) places
  becomes = linked-becomes table places are once

  joined-at : (place next : Option NodeId) (l : LabelId) → At (linked_nodes table) place (kind.Join l) next →
      Joined bodies (linked_nodes table) places l next
  joined-at place next l at =
      let join = join-at (first_mark table.marks) table.nodes at.node.0 l next at.stands in
      let many : 1 ≤ times l (all_joins bodies) =
      subst (λ (n : ℕ). 1 ≤ n) (made.joins l) (times-in l (joined_labels table) join.0) in
      let marks : 1 ≤ times l (marked_labels table) =
      subst (λ (n : ℕ). 1 ≤ n) (sym (made.labels l)) (closed.leads l many) in
      let found = mark-of l table.marks (in-times l (marked_labels table) marks) in
      let mark = made.marked found.0 found.1 in
      let label : LabelOf bodies l mark.on = subst (λ (x : LabelId). LabelOf bodies x mark.on) found.2 mark.label in
      let leads : next ≡ Some found.0.node =
      join.1 ∙ ap (first_mark table.marks) (sym found.2)
      ∙ marked-first found.0 table.marks found.1 (once found.0.label) in
      record {
        on = mark.on;
        label = label;
        stands = record {
          has = subst (λ (x : Option NodeId). Has (linked_nodes table) places x mark.on None) (sym leads)
              (mark.stands (linked_nodes table) places becomes);
          ends = closed.after l mark.on many label;
        };
      }

  pub is-table : IsTableOf bodies entries (linked_nodes table)
  is-table = record {
    marks = places;
    begins = λ number whole is.
        let m = made.begins number whole is in
        record {
          entry = m.entry;
          listed = m.listed;
          stands = record {
            has = m.stands (linked_nodes table) places becomes;
            ends = closed.ends number whole is;
          };
        };
    joins = joined-at;
  }
