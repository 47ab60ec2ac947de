-- One round of the search for what the start reaches.
use Rattle.std.proofs.Common.{◌≡◌, ◌∙◌, ◌<◌, ℕ, inl, inr, Bool, true, false, if◌then◌else◌, List, [], ◌∷◌, ◌++◌, Option, is_some, flat_map, ap, sym, subst}
use Rattle.std.proofs.lemmas.List.{map-append}
use Rattle.build_names.specs.FaultLaws.{In}
use Rattle.build_names.specs.Faults.{Diagnostic, least_of}
use Rattle.build_names.specs.Names.{first_of}
use Rattle.sdl_tree.specs.Tree.{Join, ProcessDefinition, Terminator}
use Rattle.build_flow.specs.Beginnings.{Beginning, beginnings}
use Rattle.build_flow.specs.Joins.{AreAllMet, any_new, count_open, joins_in, with_joins, with_name}
use Rattle.build_flow.specs.Listed.{texts}
use Rattle.build_flow.specs.Mentions.{is_named}
use Rattle.build_flow.specs.Reach.{AreReached, EachReached, met_from}
use Rattle.build_flow.specs.Stays.{NotesStays, stay_fault}
use Rattle.build_flow.proofs.JoinLemmas.{comes-from, fewer-open, kept-named, none-new, one-new}
use Rattle.build_flow.proofs.PassingLemmas.{found-named}
use Rattle.build_flow.proofs.ReachLaws.{all-reached, met-joins, met-reached}

module _ (all : List Beginning) (names : List (List ℕ)) (terminators : List Terminator)
    (are : terminators ≡ met_from all names) where
  pub round-closed : EachReached all names → any_new names terminators ≡ false → AreAllMet all terminators
  round-closed each is =
      let none = none-new terminators names is in
      record {
        names = names;
        are_reached = all-reached all names
            (λ word name at. none.named word name (subst (In (Join word name)) (sym are) at)) each;
        met = are;
      }

  pub round-each : EachReached all names → EachReached all (with_joins names terminators)
  round-each each = λ text is.
      elim (comes-from terminators names text is) [
        | inl known ↦ each text known
        | inr f ↦ (f.0, f.1, f.3, met-reached all names each (Join f.0 f.1) (subst (In (Join f.0 f.1)) are f.2))
      ]

  pub round-fewer : any_new names terminators ≡ true →
      count_open (joins_in all) (with_joins names terminators) < count_open (joins_in all) names
  round-fewer is =
      let one = one-new terminators names is in
      fewer-open (joins_in all) names (with_joins names terminators) (kept-named terminators names) one.name.text
      (met-joins one.word one.name all names (subst (In (Join one.word one.name)) are one.met)) one.is_open one.added

-- ---- a name that is looked up and added

pub known-name : (names : List (List ℕ × ℕ)) (text : List ℕ) (found : Option ℕ) (b : Bool) →
    found ≡ first_of names text → is_some found ≡ b → is_named (texts names) text ≡ b
known-name names text found b is also = sym (found-named names text) ∙ ap is_some (sym is) ∙ also

pub name-added : (names more : List (List ℕ × ℕ)) (text : List ℕ) (turn : ℕ) →
    is_named (texts names) text ≡ false → more ≡ names ++ (text, turn) ∷ [] → texts more ≡ with_name (texts names) text
name-added names more text turn is also =
    ap texts also
    ∙ map-append (λ name. name.0) names ((text, turn) ∷ [])
    ∙ ap (λ (b : Bool). if b then texts names else texts names ++ text ∷ []) (sym is)

pub name-known : (names : List (List ℕ × ℕ)) (text : List ℕ) →
    is_named (texts names) text ≡ true → texts names ≡ with_name (texts names) text
name-known names text is = ap (λ (b : Bool). if b then texts names else texts names ++ text ∷ []) (sym is)

-- ---- what is noted at the end

pub stays-noted : (process : ProcessDefinition) (all : List Beginning) (terminators : List Terminator)
    (old new : Option Diagnostic) →
    all ≡ beginnings process → AreAllMet all terminators → new ≡ least_of old (flat_map stay_fault terminators) →
    NotesStays process old new
stays-noted process all terminators old new same are is = record {
  names = are.names;
  are_reached = subst (λ list. AreReached list are.names) same are.are_reached;
  noted = is
      ∙ ap (λ list. least_of old (flat_map stay_fault list)) (are.met ∙ ap (λ list. met_from list are.names) same);
}
