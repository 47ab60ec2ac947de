-- Bodies behind one another.
use Rattle.std.proofs.Common.{◌≡◌, Option, List, refl, ap, inl, inr, sym, subst}
use Rattle.sdl_system.specs.Body.{Body, nothing, action, decision, label, ending, Ends, FromLabel, here, past_action, past_label, past_decision, within, followed}
use Rattle.sdl_system.specs.Table.{Has}
use Rattle.sdl_system.specs.declared.id.LabelId.{LabelId}
use Rattle.sdl_system.specs.declared.id.NodeId.{NodeId}
use Rattle.sdl_system.specs.declared.statement.Node.{Node}

pub followed-assoc : (a b c : Body) → followed (followed a b) c ≡ followed a (followed b c)
followed-assoc nothing b c = refl
followed-assoc (action first rest) b c = ap (action first) (followed-assoc rest b c)
followed-assoc (decision question parts rest) b c = ap (decision question parts) (followed-assoc rest b c)
followed-assoc (label number rest) b c = ap (label number) (followed-assoc rest b c)
followed-assoc (ending terminator) b c = refl

pub Ends-first : (a b : Body) → Ends a → Ends (followed a b)
Ends-first nothing b ends = absurd ends
Ends-first (action first rest) b ends = Ends-first rest b ends
Ends-first (decision question parts rest) b ends =
    elim ends [ inl all ↦ inl all | inr later ↦ inr (Ends-first rest b later) ]
Ends-first (label number rest) b ends = Ends-first rest b ends
Ends-first (ending terminator) b ends = ends

pub Ends-second : (a b : Body) → Ends b → Ends (followed a b)
Ends-second nothing b ends = ends
Ends-second (action first rest) b ends = Ends-second rest b ends
Ends-second (decision question parts rest) b ends = inr (Ends-second rest b ends)
Ends-second (label number rest) b ends = Ends-second rest b ends
Ends-second (ending terminator) b ends = tt

pub label-followed : (l : LabelId) (b a on : Body) → FromLabel l a on → FromLabel l (followed a b) (followed on b)
label-followed l b _ _ (here rest) = here (followed rest b)
label-followed l b _ _ (past_action first rest on from) =
    past_action first (followed rest b) (followed on b) (label-followed l b rest on from)
label-followed l b _ _ (past_label number rest on from) =
    past_label number (followed rest b) (followed on b) (label-followed l b rest on from)
label-followed l b _ _ (past_decision question parts rest on from) =
    past_decision question parts (followed rest b) (followed on b) (label-followed l b rest on from)
label-followed l b _ _ (within question parts rest inner from) =
    subst (λ (x : Body). FromLabel l (decision question parts (followed rest b)) x)
    (sym (followed-assoc inner rest b)) (within question parts (followed rest b) inner from)

pub Has-followed : (nodes : List Node) (marks : List (Option NodeId)) (from mid to : Option NodeId) (a b : Body)
    → Has nodes marks from a mid
    → Has nodes marks mid b to → Has nodes marks from (followed a b) to
Has-followed nodes marks from mid to nothing b first second =
    subst (λ (x : Option NodeId). Has nodes marks x b to) (sym first) second
Has-followed nodes marks from mid to (action one rest) b first second =
    (first.0, first.1, Has-followed nodes marks first.0 mid to rest b first.2 second)
Has-followed nodes marks from mid to (decision question parts rest) b first second =
    (first.0, first.1, first.2, first.3, Has-followed nodes marks first.1 mid to rest b first.4 second)
Has-followed nodes marks from mid to (label number rest) b first second =
    (first.0, Has-followed nodes marks from mid to rest b first.1 second)
Has-followed nodes marks from mid to (ending terminator) b first second = first
