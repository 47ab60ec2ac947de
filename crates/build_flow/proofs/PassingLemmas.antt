-- Names that are looked up in a table or in a list, and paths where the labels of some names are entered.
use Rattle.std.proofs.Common.{◌≡◌, ◌∙◌, ◌&&◌, ◌||◌, ℕ, Bool, true, false, cond, if◌then◌else◌, List, [], ◌∷◌, Option, None, Some, flat_map, is_some, refl, ap, sym}
use Rattle.std.proofs.Math.Path.{fun_ext}
use Rattle.std.specs.Str.{bytes_eq}
use Rattle.sdl_lex.specs.declared.place.Place.{Place}
use Rattle.build_names.specs.Names.{first_of}
use Rattle.sdl_tree.specs.Tree.{Transition}
use Rattle.sdl_tree.specs.Views.{terminator_value}
use Rattle.sdl_tree.specs.Words.{Spot}
use Rattle.build_flow.specs.Beginnings.{Beginning}
use Rattle.build_flow.specs.Ends.{enters_named}
use Rattle.build_flow.specs.Listed.{found_listed, led_turn, terminators_listed, texts}
use Rattle.build_flow.specs.Mentions.{is_named}
use Rattle.build_flow.specs.Passing.{transition_passed}
use Rattle.build_flow.specs.Reach.{beginning_met, is_first, labels_in, leads, met_from}
use Rattle.build_flow.specs.Turns.{found_from, transition_turn}
use Rattle.build_flow.specs.declared.walk.Found.{Found}
use Rattle.build_flow.proofs.TurnLemmas.{kept, kept-from, same-transition, some-either}

some-or : {A : Type 0} (same : Bool) (what : A) (rest : Option A) (named : Bool) → is_some rest ≡ named →
    is_some (cond same (Some what) rest) ≡ (same || named)
some-or true what rest named is = refl
some-or false what rest named is = is

pub found-named : (names : List (List ℕ × ℕ)) (text : List ℕ) →
    is_some (first_of names text) ≡ is_named (texts names) text
found-named [] text = refl
found-named (name ∷ names) text =
    some-or (bytes_eq text name.0) name.1 (first_of names text) (is_named (texts names) text) (found-named names text)

-- what is asked of each label alike is asked of paths alike
pub same-entries : (one other : Spot → Bool) → ((label : Spot) → one label ≡ other label) →
    (t : Transition) (comes : Bool) →
    transition_passed one t comes ≡ transition_passed other t comes
same-entries one other same t comes = ap (λ (enters : Spot → Bool). transition_passed enters t comes) (fun_ext same)

-- where paths enter at the labels of some names, in whatever turns
pub named-passed : (names : List (List ℕ × ℕ)) (t : Transition) →
    is_some (transition_turn (λ label. first_of names label.text) t (Some 0))
    ≡ transition_passed (enters_named (texts names)) t true
named-passed names t =
    same-transition (λ label. first_of names label.text) is_some refl some-either t (Some 0)
    ∙ same-entries (λ label. is_some (first_of names label.text)) (enters_named (texts names))
    (λ label. found-named names label.text) t true

-- ---- where the start and the labels of joins are entered

abbrev led-test : Bool → List (List ℕ × ℕ) → List ℕ → Option ℕ
led-test first names text = if first then first_of names text else None

some-led : (first : Bool) (names : List (List ℕ × ℕ)) (text : List ℕ) →
    is_some (led-test first names text) ≡ (first && is_named (texts names) text)
some-led true names text = found-named names text
some-led false names text = refl

all-kept : (found : List Found) → kept is_some (found_listed found) ≡ terminators_listed found
all-kept [] = refl
all-kept (one ∷ rest) = ap (λ list. terminator_value one.terminator.now ∷ list) (all-kept rest)

same-met : (one other : Spot → Bool) → ((label : Spot) → one label ≡ other label) → (all : List Beginning) →
    flat_map (beginning_met one) all ≡ flat_map (beginning_met other) all
same-met one other same all = ap (λ (enters : Spot → Bool). flat_map (beginning_met enters) all) (fun_ext same)

-- what is found is what is met
pub found-met : (all : List Beginning) (labels : List (List ℕ × Place)) (names : List (List ℕ × ℕ))
    (found : List Found) →
    labels ≡ labels_in all → found_listed found ≡ found_from (led_turn labels names) all →
    terminators_listed found ≡ met_from all (texts names)
found-met all labels names found same is =
    sym (all-kept found)
    ∙ ap (kept is_some) is
    ∙ kept-from (led_turn labels names) is_some refl refl some-either all
    ∙ same-met (λ label. is_some (led_turn labels names label)) (leads labels (texts names))
    (λ label. some-led (is_first labels label) names label.text) all
    ∙ ap (λ list. flat_map (beginning_met (leads list (texts names))) all) same
