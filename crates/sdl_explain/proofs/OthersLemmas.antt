-- Faults that are found one after the other.
use Rattle.std.proofs.Common.{◌≡◌, ◌<◌, ◌≤◌, ◌+◌, ◌-◌, ◌^◌, ◌++◌, ◌∙◌, ℕ, true, false, List, [], ◌∷◌, None, Some, append-nil, ap, arith, length, min, refl, subst, sym, take_all}
use Rattle.std.specs.String.{string_bytes}
use Rattle.std.proofs.lemmas.Bool.{cond-false, cond-true, cond_both}
use Rattle.std.proofs.lemmas.List.{length-append, length-take, length_push, take-append-le}
use Rattle.build_names.specs.declared.faults.fault.Rule.{Rule}
use Rattle.explain_syntax.specs.Gap.{lacks}
use Rattle.explain_syntax.specs.Line.{IsWithoutLine}
use Rattle.explain_syntax.specs.Words.{is_same_place}
use Rattle.explain_syntax.specs.declared.rests.rest.Rest.{Rest}
use Rattle.sdl_build.specs.declared.error.BuildError.{BuildError}
use Rattle.sdl_build.specs.declared.error.BuildError.TheVariants as error
use Rattle.sdl_explain.specs.Others.{AreFound, AreLinesFound, AreOtherLines, AreOthers, Ends, EndsLines, IsFoundPast, IsRefusedWith, TellsFirst, is_lost, is_often, is_right, is_still, lines_are_often, lines_are_right, most_turns, no_place, one_more, one_more_line, only_first, only_first_line, unless_lacking}
use Rattle.sdl_explain.specs.Refused.{build_place, script_line}
use Rattle.sdl_explain.specs.declared.others.Found.TheVariants.{Right, Wrong, Nothing}
use Rattle.sdl_explain.specs.declared.others.Others.{Others}
use Rattle.sdl_lex.specs.declared.place.Place.{Place}
use Rattle.sdl_script.specs.ScriptText as script
use Rattle.sdl_script.specs.declared.script.ScriptError.{ScriptError}
use Rattle.sdl_script.specs.declared.script.ScriptLine.{ScriptLine}
use Rattle.sdl_system.specs.System.{SystemValue}
use Rattle.sdl_tree.specs.declared.name.Name.{Name}

-- ---- one more is told if there is room, and is counted else

pub told_too : (X : Type 0) (all : List X) (fault : X) (old new : Others X) → length old.told.items < 20
    → new.told.items ≡ old.told.items ++ fault ∷ [] → new.more ≡ old.more → TellsFirst X all old
    → TellsFirst X (all ++ fault ∷ []) new
told_too X all fault old new less told more so_far =
    let size : length old.told.items ≡ min 20 (length all) = ap length so_far.told ∙ length-take 20 all in
    let grown = length_push all fault in
    let few : length all < 20 = omega (arith, size, less) in
    let none : length all - 20 ≡ length (all ++ fault ∷ []) - 20 = omega (arith, few, grown) in
    record {
      told = told ∙ ap (λ l. l ++ fault ∷ []) (so_far.told ∙ take_all 20 all (omega (arith, few)))
          ∙ sym (take_all 20 (all ++ fault ∷ []) (omega (arith, few, grown)));
      more = more ∙ so_far.more ∙ none;
    }

pub counted_too : (X : Type 0) (all : List X) (fault : X) (old new : Others X) → 20 ≤ length old.told.items
    → new.told.items ≡ old.told.items → new.more ≡ old.more + 1 → TellsFirst X all old
    → TellsFirst X (all ++ fault ∷ []) new
counted_too X all fault old new full told more so_far =
    let size : length old.told.items ≡ min 20 (length all) = ap length so_far.told ∙ length-take 20 all in
    let grown = length_push all fault in
    let many : 20 ≤ length all = omega (arith, size, full) in
    let one : (length all - 20) + 1 ≡ length (all ++ fault ∷ []) - 20 = omega (arith, many, grown) in
    record {
      told = told ∙ so_far.told ∙ sym (take-append-le 20 all (fault ∷ []) many);
      more = more ∙ ap (λ n. n + 1) so_far.more ∙ one;
    }

pub none_told : (X : Type 0) (others : Others X) → others.told.items ≡ [] → others.more ≡ 0 → TellsFirst X [] others
none_told X others told more = record { told = told; more = more }

-- ---- with a specification

at_most_one : (rest : Rest) (rule : Rule) (word : Name) → length (unless_lacking rest (error.Broken rule word)) ≤ 1
at_most_one rest rule word =
    let P : List BuildError → Type 0 = λ l. length l ≤ 1 in
    cond_both (lacks rest (string_bytes word.text)) [] (error.Broken rule word ∷ []) P (λ e. omega arith) (λ e. omega arith)

-- the fault counts, or it doesn't
pub counts : (rest : Rest) (rule : Rule) (word : Name) (old new : Others BuildError)
    → lacks rest (string_bytes word.text) ≡ false
    → ((all : List BuildError) → TellsFirst BuildError all old
    → TellsFirst BuildError (all ++ error.Broken rule word ∷ []) new)
    → (all : List BuildError) → TellsFirst BuildError all old
    → TellsFirst BuildError (all ++ unless_lacking rest (error.Broken rule word)) new
counts rest rule word old new known adds all so_far =
    let fault = error.Broken rule word in
    subst (λ l. TellsFirst BuildError (all ++ l) new)
    (sym (cond-false (lacks rest (string_bytes word.text)) [] (fault ∷ []) known)) (adds all so_far)

pub counts_not : (rest : Rest) (rule : Rule) (word : Name) (others : Others BuildError)
    → lacks rest (string_bytes word.text) ≡ true
    → (all : List BuildError) → TellsFirst BuildError all others
    → TellsFirst BuildError (all ++ unless_lacking rest (error.Broken rule word)) others
counts_not rest rule word others lacking all so_far =
    let fault = error.Broken rule word in
    subst (λ l. TellsFirst BuildError l others)
    (sym (ap (λ l. all ++ l) (cond-true (lacks rest (string_bytes word.text)) [] (fault ∷ []) lacking)
    ∙ append-nil all)) so_far

-- the search has come to this place
pub record Searched (text : List ℕ) (first : BuildError) (turns : ℕ) (rest : Rest) (place : Place) (others : Others BuildError) : Type 0 where
  pub last : BuildError
  pub all : List BuildError
  pub found : AreFound text first turns rest last all
  pub placed : build_place last ≡ Some place
  pub shown : TellsFirst BuildError all others
  pub few : length all ≤ turns

-- so few are counted
pub room : (text : List ℕ) (first : BuildError) (turns : ℕ) (rest : Rest) (place : Place) (others : Others BuildError)
    → Searched text first turns rest place others → turns < 200 → others.more + 1 < 2 ^ 64
room text first turns rest place others so_far less =
    let few = so_far.few in
    let more = so_far.shown.more in
    omega (arith, few, more, less)

pub begun : (text : List ℕ) (first : BuildError) (rest : Rest) (place : Place) (others : Others BuildError)
    → rest.text.items ≡ text → rest.names.items ≡ [] → build_place first ≡ Some place → others.told.items ≡ []
    → others.more ≡ 0 → Searched text first 0 rest place others
begun text first rest place others is unnamed placed told more = record {
  last = first;
  all = [];
  found = only_first rest is unnamed;
  placed = placed;
  shown = none_told BuildError others told more;
  few = omega arith;
}

-- one more was found
pub found_more : (text : List ℕ) (first : BuildError) (turns : ℕ) (rest next : Rest) (place : Place) (rule : Rule)
    (word : Name) (old new : Others BuildError) → Searched text first turns rest place old
    → IsFoundPast place rest next (Wrong rule word) → is_same_place word.place place ≡ false
    → ((all : List BuildError) → TellsFirst BuildError all old
    → TellsFirst BuildError (all ++ unless_lacking next (error.Broken rule word)) new)
    → Searched text first (turns + 1) next word.place new
found_more text first turns rest next place rule word old new so_far past moved adds =
    let fault = error.Broken rule word in
    record {
      last = fault;
      all = so_far.all ++ unless_lacking next fault;
      found = one_more turns rest next so_far.last so_far.all place rule word so_far.found so_far.placed past moved;
      placed = refl;
      shown = adds so_far.all so_far.shown;
      few =
          let grown = length-append so_far.all (unless_lacking next fault) in
          let one = at_most_one next rule word in
          let before = so_far.few in
          omega (arith, grown, one, before);
    }

ended : (text : List ℕ) (first : BuildError) (turns : ℕ) (rest : Rest) (place : Place) (old new : Others BuildError)
    → (so_far : Searched text first turns rest place old) → new.told.items ≡ old.told.items → new.more ≡ old.more
    → Ends text turns rest so_far.last new.is_all → AreOthers text first new
ended text first turns rest place old new so_far told more end = record {
  turns = turns;
  rest = rest;
  last = so_far.last;
  all = so_far.all;
  found = so_far.found;
  ends = end;
  shown = record { told = told ∙ so_far.shown.told; more = more ∙ so_far.shown.more };
}

pub nothing_found : (text : List ℕ) (first : BuildError) (turns : ℕ) (rest next : Rest) (place : Place)
    (others : Others BuildError) → Searched text first turns rest place others → IsFoundPast place rest next Nothing
    → others.is_all ≡ false → AreOthers text first others
nothing_found text first turns rest next place others so_far past all =
    ended text first turns rest place others others so_far refl refl
    (subst (λ b. Ends text turns rest so_far.last b) (sym all) (is_lost place next so_far.placed past))

pub stays_there : (text : List ℕ) (first : BuildError) (turns : ℕ) (rest next : Rest) (place : Place) (rule : Rule)
    (word : Name) (others : Others BuildError) → Searched text first turns rest place others
    → IsFoundPast place rest next (Wrong rule word) → is_same_place word.place place ≡ true → others.is_all ≡ false
    → AreOthers text first others
stays_there text first turns rest next place rule word others so_far past same all =
    ended text first turns rest place others others so_far refl refl
    (subst (λ b. Ends text turns rest so_far.last b) (sym all) (is_still place next rule word so_far.placed past same))

pub all_right : (text : List ℕ) (first : BuildError) (turns : ℕ) (rest next : Rest) (place : Place)
    (old new : Others BuildError) → Searched text first turns rest place old → IsFoundPast place rest next Right
    → new.told.items ≡ old.told.items → new.more ≡ old.more → new.is_all ≡ true → AreOthers text first new
all_right text first turns rest next place old new so_far past told more all =
    ended text first turns rest place old new so_far told more
    (subst (λ b. Ends text turns rest so_far.last b) (sym all) (is_right place next so_far.placed past))

pub often_enough : (text : List ℕ) (first : BuildError) (turns : ℕ) (rest : Rest) (place : Place)
    (others : Others BuildError) → Searched text first turns rest place others → turns ≡ most_turns text
    → others.is_all ≡ false → AreOthers text first others
often_enough text first turns rest place others so_far many all =
    ended text first turns rest place others others so_far refl refl
    (subst (λ b. Ends text turns rest so_far.last b) (sym all) (is_often many))

pub without_place : (text : List ℕ) (first : BuildError) (rest : Rest) (others : Others BuildError)
    → rest.text.items ≡ text → rest.names.items ≡ [] → build_place first ≡ None → others.told.items ≡ []
    → others.more ≡ 0 → others.is_all ≡ false → AreOthers text first others
without_place text first rest others is unnamed unplaced told more all = record {
  turns = 0;
  rest = rest;
  last = first;
  all = [];
  found = only_first rest is unnamed;
  ends = subst (λ b. Ends text 0 rest first b) (sym all) (no_place unplaced);
  shown = none_told BuildError others told more;
}

-- ---- with a script

-- the search has come to this fault
pub record LinesSearched (system : SystemValue) (text : List ℕ) (first : ScriptError) (turns : ℕ) (rest : List ℕ) (last : ScriptError) (others : Others ScriptError) : Type 0 where
  pub all : List ScriptError
  pub found : AreLinesFound system text first turns rest last all
  pub shown : TellsFirst ScriptError all others
  pub few : length all ≤ turns

-- so few are counted
pub line_room : (system : SystemValue) (text : List ℕ) (first : ScriptError) (turns : ℕ) (rest : List ℕ)
    (last : ScriptError) (others : Others ScriptError) → LinesSearched system text first turns rest last others
    → turns < 200 → others.more + 1 < 2 ^ 64
line_room system text first turns rest last others so_far less =
    let few = so_far.few in
    let more = so_far.shown.more in
    omega (arith, few, more, less)

pub lines_begun : (system : SystemValue) (text : List ℕ) (first : ScriptError) (rest : List ℕ) (others : Others ScriptError)
    → rest ≡ text → others.told.items ≡ [] → others.more ≡ 0 → LinesSearched system text first 0 rest first others
lines_begun system text first rest others is told more = record {
  all = [];
  found = subst (λ r. AreLinesFound system text first 0 r first []) (sym is) only_first_line;
  shown = none_told ScriptError others told more;
  few = omega arith;
}

pub line_more : (system : SystemValue) (text : List ℕ) (first : ScriptError) (turns : ℕ) (rest next : List ℕ)
    (last fault : ScriptError) (number : ℕ) (old new : Others ScriptError)
    → LinesSearched system text first turns rest last old → script_line last ≡ Some number
    → IsWithoutLine number rest next → IsRefusedWith system next fault
    → ((all : List ScriptError) → TellsFirst ScriptError all old → TellsFirst ScriptError (all ++ fault ∷ []) new)
    → LinesSearched system text first (turns + 1) next fault new
line_more system text first turns rest next last fault number old new so_far line without refused adds = record {
  all = so_far.all ++ fault ∷ [];
  found = one_more_line turns rest next last fault so_far.all number so_far.found line without refused;
  shown = adds so_far.all so_far.shown;
  few = let grown = length_push so_far.all fault in let before = so_far.few in omega (arith, grown, before);
}

pub is_script : (system : SystemValue) (text : List ℕ) (first : ScriptError) (turns : ℕ) (rest next : List ℕ)
    (last : ScriptError) (number : ℕ) (said : List ScriptLine) (old new : Others ScriptError)
    → LinesSearched system text first turns rest last old → script_line last ≡ Some number
    → IsWithoutLine number rest next → script.SaysScript system next said → new.told.items ≡ old.told.items
    → new.more ≡ old.more → new.is_all ≡ true → AreOtherLines system text first new
is_script system text first turns rest next last number said old new so_far line without says told more all = record {
  turns = turns;
  rest = rest;
  last = last;
  all = so_far.all;
  found = so_far.found;
  ends = subst (λ b. EndsLines system text turns rest last b) (sym all)
      (lines_are_right number next said line without says);
  shown = record { told = told ∙ so_far.shown.told; more = more ∙ so_far.shown.more };
}

pub lines_often : (system : SystemValue) (text : List ℕ) (first : ScriptError) (turns : ℕ) (rest : List ℕ)
    (last : ScriptError) (others : Others ScriptError) → LinesSearched system text first turns rest last others
    → turns ≡ most_turns text → others.is_all ≡ false → AreOtherLines system text first others
lines_often system text first turns rest last others so_far many all = record {
  turns = turns;
  rest = rest;
  last = last;
  all = so_far.all;
  found = so_far.found;
  ends = subst (λ b. EndsLines system text turns rest last b) (sym all) (lines_are_often many);
  shown = so_far.shown;
}
