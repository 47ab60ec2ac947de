-- How the parts of a decision are added to a table, one behind the other.
use Rattle.std.proofs.Common.{◌≡◌, inl, inr, ℕ, ◌+◌, ◌++◌, List, [], ◌∷◌, Option, None, Some, arith, flat_map, refl, subst}
use Rattle.build_statements.specs.Built.{Built, Table, joined_labels, marked_labels}
use Rattle.build_statements.specs.Decided.{BuiltParts, BuiltPiece, BuiltPieces, HasPieces, piece_joins, piece_labels}
use Rattle.build_statements.specs.Labels.{gathered, gathered_in, itself, joined, joins_of, labels_of, no_label, not_joined, times}
use Rattle.build_statements.specs.Transitions.{Piece, parts_of}
use Rattle.build_statements.proofs.CountLemmas.{gathers-last, none-plus, times-append}
use Rattle.build_names.proofs.FaultLemmas.{in-left, in-right}
use Rattle.build_names.specs.FaultLaws.{In}
use Rattle.sdl_system.specs.Body.{Body, FromLabel, InParts, Terminator, in_first, in_later, in_otherwise}
use Rattle.sdl_system.specs.Table.{Has, HasParts}
use Rattle.sdl_system.specs.declared.id.LabelId.{LabelId}
use Rattle.sdl_system.specs.declared.id.NodeId.{NodeId}
use Rattle.sdl_system.specs.declared.statement.Branch.{Branch}
use Rattle.sdl_system.specs.declared.statement.Node.{Node}
use Rattle.sdl_system.specs.declared.statement.Way.{Way}

-- ---- branches with their parts

has-last : (nodes : List Node) (marks : List (Option NodeId)) (to : Option NodeId) (bs : List Branch) (ps : List Piece)
    (b : Branch) (p : Piece) → HasPieces nodes marks bs ps to → b.answers.items ≡ p.answers →
    Has nodes marks b.way.0 p.body to → HasPieces nodes marks (bs ++ b ∷ []) (ps ++ p ∷ []) to
has-last nodes marks to [] [] b p has answers way = (answers, way, tt)
has-last nodes marks to [] (q ∷ ps) b p has answers way = absurd has
has-last nodes marks to (a ∷ bs) [] b p has answers way = absurd has
has-last nodes marks to (a ∷ bs) (q ∷ ps) b p has answers way =
    (has.0, has.1, has-last nodes marks to bs ps b p has.2 answers way)

has-none : (nodes : List Node) (marks : List (Option NodeId)) (to : Option NodeId) (bs : List Branch) (ps : List Piece)
    → HasPieces nodes marks bs ps to → HasParts nodes marks bs None (parts_of ps None) to
has-none nodes marks to [] [] has = (refl, refl)
has-none nodes marks to [] (q ∷ ps) has = absurd has
has-none nodes marks to (a ∷ bs) [] has = absurd has
has-none nodes marks to (a ∷ bs) (q ∷ ps) has = (has.0, has.1, has-none nodes marks to bs ps has.2)

has-other : (nodes : List Node) (marks : List (Option NodeId)) (to : Option NodeId) (bs : List Branch)
    (ps : List Piece) (way : Way) (other : Body) → HasPieces nodes marks bs ps to → Has nodes marks way.0 other to →
    HasParts nodes marks bs (Some way) (parts_of ps (Some other)) to
has-other nodes marks to [] [] way other has last = (way, refl, refl, last)
has-other nodes marks to [] (q ∷ ps) way other has last = absurd has
has-other nodes marks to (a ∷ bs) [] way other has last = absurd has
has-other nodes marks to (a ∷ bs) (q ∷ ps) way other has last =
    (has.0, has.1, has-other nodes marks to bs ps way other has.2 last)

-- ---- labels in parts

in-parts : (l : LabelId) (on : Body) (other : Option Body) (ps : List Piece) (p : Piece) → In p ps →
    FromLabel l p.body on → InParts l (parts_of ps other) on
in-parts l on other [] p at from = absurd at
in-parts l on other (q ∷ ps) p at from =
    elim at [
      | inl e ↦ in_first q.answers q.body (parts_of ps other) on
          (subst (λ (x : Piece). FromLabel l x.body on) e from)
      | inr later ↦ in_later q.answers q.body (parts_of ps other) on (in-parts l on other ps p later from)
    ]

in-other : (l : LabelId) (on other : Body) (ps : List Piece) → FromLabel l other on →
    InParts l (parts_of ps (Some other)) on
in-other l on other [] from = in_otherwise other on from
in-other l on other (q ∷ ps) from =
    in_later q.answers q.body (parts_of ps (Some other)) on (in-other l on other ps from)

-- what the labels and the terminators of the part behind `else` give
abbrev other_gathered : (LabelId → List LabelId) → (Terminator → List LabelId) → Option Body → List LabelId
other_gathered f g None = []
other_gathered f g (Some other) = gathered f g other

sum-parts : (n a rest pieces other all : ℕ) → n ≡ a + rest → rest ≡ pieces + other → all ≡ a + pieces →
    n ≡ all + other
sum-parts n a rest pieces other all one two three = omega (arith, one, two, three)

gathered-parts : (l : LabelId) (f : LabelId → List LabelId) (g : Terminator → List LabelId) (other : Option Body)
    (ps : List Piece) → times l (gathered_in f g (parts_of ps other))
    ≡ times l (flat_map (λ (p : Piece). gathered f g p.body) ps) + times l (other_gathered f g other)
gathered-parts l f g None [] = none-plus 0
gathered-parts l f g (Some other) [] = none-plus (times l (gathered f g other))
gathered-parts l f g other (q ∷ ps) =
    sum-parts _ (times l (gathered f g q.body)) _ _ (times l (other_gathered f g other)) _
    (times-append l (gathered f g q.body) (gathered_in f g (parts_of ps other))) (gathered-parts l f g other ps)
    (times-append l (gathered f g q.body) (flat_map (λ (p : Piece). gathered f g p.body) ps))

-- ---- parts of a table

pub Pieces-none : (table : Table) (to : Option NodeId) → BuiltPieces table table [] [] to
Pieces-none table to = record {
  grown = λ nodes marks becomes. becomes;
  stand = λ nodes marks becomes. tt;
  marked = λ mark at. inl at;
  labels = λ l. none-plus (times l (marked_labels table));
  joins = λ l. none-plus (times l (joined_labels table));
}

sum-last : (new one old ps first all : ℕ) → new ≡ one + old → old ≡ ps + first → all ≡ one + ps → new ≡ all + first
sum-last new one old ps first all a b d = omega (arith, a, b, d)

pub Pieces-last : (first old new : Table) (bs : List Branch) (ps : List Piece) (b : Branch) (p : Piece)
    (to : Option NodeId) → BuiltPieces first old bs ps to → BuiltPiece old new b p to →
    BuiltPieces first new (bs ++ b ∷ []) (ps ++ p ∷ []) to
Pieces-last first old new bs ps b p to before last = record {
  grown = λ nodes marks becomes. before.grown nodes marks (last.built.grown nodes marks becomes);
  stand = λ nodes marks becomes.
      has-last nodes marks to bs ps b p (before.stand nodes marks (last.built.grown nodes marks becomes)) last.answers
      (last.built.stands nodes marks becomes);
  marked = λ mark at. elim (last.built.marked mark at) [
    | inl older ↦ elim (before.marked mark older) [
      | inl oldest ↦ inl oldest
      | inr r ↦ inr (
        r.0,
        (r.1.0, in-left r.1.0 ps (p ∷ []) r.1.1, r.1.2),
        λ nodes marks becomes. r.2 nodes marks (last.built.grown nodes marks becomes),
      )
    ]
    | inr r ↦ inr (r.0, (p, in-right p ps (p ∷ []) (inl refl), r.1), r.2)
  ];
  labels = λ l.
      sum-last _ (times l (labels_of p.body)) _ _ _ _ (last.built.labels l) (before.labels l)
      (gathers-last l piece_labels ps p);
  joins = λ l.
      sum-last _ (times l (joins_of p.body)) _ _ _ _ (last.built.joins l) (before.joins l)
      (gathers-last l piece_joins ps p);
}

sum-all : (new other old ps first all : ℕ) → new ≡ other + old → old ≡ ps + first → all ≡ ps + other →
    new ≡ all + first
sum-all new other old ps first all a b d = omega (arith, a, b, d)

pub Parts-none : (first old : Table) (bs : List Branch) (ps : List Piece) (to : Option NodeId) →
    BuiltPieces first old bs ps to → BuiltParts first old bs None (parts_of ps None) to
Parts-none first old bs ps to pieces = record {
  grown = pieces.grown;
  stand = λ nodes marks becomes. has-none nodes marks to bs ps (pieces.stand nodes marks becomes);
  marked = λ mark at. elim (pieces.marked mark at) [
    | inl older ↦ inl older
    | inr r ↦ inr (r.0, in-parts mark.label r.0 None ps r.1.0 r.1.1 r.1.2, r.2)
  ];
  labels = λ l.
      sum-all _ 0 _ _ _ _ (none-plus _) (pieces.labels l) (gathered-parts l itself not_joined None ps);
  joins = λ l.
      sum-all _ 0 _ _ _ _ (none-plus _) (pieces.joins l) (gathered-parts l no_label joined None ps);
}

pub Parts-other : (first old new : Table) (bs : List Branch) (ps : List Piece) (way : Way) (other : Body)
    (to : Option NodeId) → BuiltPieces first old bs ps to → Built old new way.0 other to →
    BuiltParts first new bs (Some way) (parts_of ps (Some other)) to
Parts-other first old new bs ps way other to pieces last = record {
  grown = λ nodes marks becomes. pieces.grown nodes marks (last.grown nodes marks becomes);
  stand = λ nodes marks becomes.
      has-other nodes marks to bs ps way other (pieces.stand nodes marks (last.grown nodes marks becomes))
      (last.stands nodes marks becomes);
  marked = λ mark at. elim (last.marked mark at) [
    | inl older ↦ elim (pieces.marked mark older) [
      | inl oldest ↦ inl oldest
      | inr r ↦ inr (
        r.0,
        in-parts mark.label r.0 (Some other) ps r.1.0 r.1.1 r.1.2,
        λ nodes marks becomes. r.2 nodes marks (last.grown nodes marks becomes),
      )
    ]
    | inr r ↦ inr (r.0, in-other mark.label r.0 other ps r.1, r.2)
  ];
  labels = λ l.
      sum-all _ (times l (labels_of other)) _ _ _ _ (last.labels l) (pieces.labels l)
      (gathered-parts l itself not_joined (Some other) ps);
  joins = λ l.
      sum-all _ (times l (joins_of other)) _ _ _ _ (last.joins l) (pieces.joins l)
      (gathered-parts l no_label joined (Some other) ps);
}
