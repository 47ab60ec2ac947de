-- Each fault that is found is one of a text in which something is left out.
use Rattle.std.proofs.Common.{◌≡◌, ◌≤◌, ◌∙◌, ℕ, All, Bool, true, false, List, [], ◌∷◌, ap, arith, length, min, subst, sym, take}
use Rattle.std.specs.String.{string_bytes}
use Rattle.std.proofs.lemmas.Bool.{cond_both, false≢true}
use Rattle.std.proofs.lemmas.List.{length-take}
use Rattle.std.proofs.lemmas.List.Elements.{All-append, All-cons, All-nil, All-push, All-same, All-take, All-weaker}
use Rattle.build_names.specs.declared.faults.fault.Rule.{Rule}
use Rattle.explain_syntax.proofs.RestLemmas.{filled_rest, line_rest, on, whole}
use Rattle.explain_syntax.specs.Gap.{LeavesOut, lacks}
use Rattle.explain_syntax.specs.Rest.{IsRestOf}
use Rattle.explain_syntax.specs.declared.rests.rest.Rest.{Rest}
use Rattle.sdl_build.specs.declared.error.BuildError.{BuildError}
use Rattle.sdl_build.specs.declared.error.BuildError.TheVariants as error
use Rattle.sdl_explain.specs.Others.{AreFound, AreLinesBeside, AreLinesFound, AreOtherLines, AreOthers, Ends, EndsLines, IsFaultBeside, IsFaultOf, IsFoundPast, IsLineBeside, IsLineOf, IsRightBeside, IsScriptBeside, IsScriptOf, beside_fault, beside_none, beside_system, is_lost, is_often, is_right, is_still, left_out, lines_are_often, lines_are_right, no_place, one_more, one_more_line, only_first, only_first_line, unless_lacking}
use Rattle.sdl_explain.specs.declared.others.Found.TheVariants.{Right, Wrong}
use Rattle.sdl_explain.specs.declared.others.Others.{Others}
use Rattle.sdl_lex.specs.declared.place.Place.{Place}
use Rattle.sdl_script.specs.declared.script.ScriptError.{ScriptError}
use Rattle.sdl_system.specs.System.{SystemValue}
use Rattle.sdl_tree.specs.declared.name.Name.{Name}

-- ---- with a specification

out_rest : (place : Place) (old new : Rest) → LeavesOut place old new → IsRestOf old.text.items new.text.items
out_rest place old new out =
    filled_rest out.gap.from out.gap.to out.gap.stops old.text.items new.text.items out.filled

past_rest : (text : List ℕ) (place : Place) (old new : Rest) (rule : Rule) (word : Name)
    → IsRestOf text old.text.items → IsFoundPast place old new (Wrong rule word) → IsRestOf text new.text.items
past_rest text place old new rule word so_far (left_out _ out found) =
    on text old.text.items new.text.items so_far (out_rest place old new out)

past_fault : (place : Place) (old new : Rest) (rule : Rule) (word : Name)
    → IsFoundPast place old new (Wrong rule word) → IsFaultOf new.text.items (error.Broken rule word)
past_fault place old new rule word (left_out _ out found) = found

found_rest : (text : List ℕ) (first : BuildError) (turns : ℕ) (rest : Rest) (last : BuildError) (all : List BuildError)
    → AreFound text first turns rest last all → IsRestOf text rest.text.items
found_rest text first _ rest _ _ (only_first _ is unnamed) =
    subst (λ r. IsRestOf text r) (sym is) (whole text)
found_rest text first _ next _ _ (one_more turns rest _ last others place rule word so_far placed past moved) =
    past_rest text place rest next rule word (found_rest text first turns rest last others so_far) past

found_beside : (text : List ℕ) (first : BuildError) (turns : ℕ) (rest : Rest) (last : BuildError) (all : List BuildError)
    → AreFound text first turns rest last all → All (IsFaultBeside text) all
found_beside text first _ rest _ _ (only_first _ is unnamed) = All-nil (IsFaultBeside text)
found_beside text first _ next _ _ (one_more turns rest _ last others place rule word so_far placed past moved) =
    let fault = error.Broken rule word in
    let P : List BuildError → Type 0 = λ l. All (IsFaultBeside text) l in
    let here : IsFaultBeside text fault = record {
      rest = next.text.items;
      is_rest = past_rest text place rest next rule word (found_rest text first turns rest last others so_far) past;
      found = past_fault place rest next rule word past;
    } in
    All-append (IsFaultBeside text) others (unless_lacking next fault)
    (found_beside text first turns rest last others so_far)
    (cond_both (lacks next (string_bytes word.text)) [] (fault ∷ []) P (λ e. All-nil (IsFaultBeside text))
    (λ e. All-cons (IsFaultBeside text) fault [] here (All-nil (IsFaultBeside text))))

pub others_beside : (text : List ℕ) (first : BuildError) (others : Others BuildError) → AreOthers text first others
    → All (IsFaultBeside text) others.told.items
others_beside text first others are =
    All-same (IsFaultBeside text) others.told.items (take 20 are.all) are.shown.told
    (All-take (IsFaultBeside text) 20 are.all
    (found_beside text first are.turns are.rest are.last are.all are.found))

pub others_few : (text : List ℕ) (first : BuildError) (others : Others BuildError) → AreOthers text first others
    → length others.told.items ≤ 20
others_few text first others are =
    let size : length others.told.items ≡ min 20 (length are.all) = ap length are.shown.told ∙ length-take 20 are.all in
    omega (arith, size)

right_past : (text : List ℕ) (place : Place) (old new : Rest) → IsRestOf text old.text.items
    → IsFoundPast place old new Right → IsRightBeside text
right_past text place old new so_far (left_out _ out right) = record {
  rest = new.text.items;
  is_rest = on text old.text.items new.text.items so_far (out_rest place old new out);
  right = right;
}

ends_right : (text : List ℕ) (turns : ℕ) (rest : Rest) (last : BuildError) (is_all : Bool)
    → IsRestOf text rest.text.items → Ends text turns rest last is_all → is_all ≡ true → IsRightBeside text
ends_right text turns rest last _ so_far (no_place unplaced) is = absurd (false≢true is)
ends_right text turns rest last _ so_far (is_lost place next placed past) is = absurd (false≢true is)
ends_right text turns rest last _ so_far (is_still place next rule word placed past same) is = absurd (false≢true is)
ends_right text turns rest last _ so_far (is_right place next placed past) is =
    right_past text place rest next so_far past
ends_right text turns rest last _ so_far (is_often many) is = absurd (false≢true is)

pub others_right : (text : List ℕ) (first : BuildError) (others : Others BuildError) → AreOthers text first others
    → others.is_all ≡ true → IsRightBeside text
others_right text first others are is =
    ends_right text are.turns are.rest are.last others.is_all
    (found_rest text first are.turns are.rest are.last are.all are.found) are.ends is

-- ---- with a script

lines_rest : (system : SystemValue) (text : List ℕ) (first : ScriptError) (turns : ℕ) (rest : List ℕ)
    (last : ScriptError) (all : List ScriptError) → AreLinesFound system text first turns rest last all
    → IsRestOf text rest
lines_rest system text first _ _ _ _ only_first_line = whole text
lines_rest system text first _ next _ _ (one_more_line turns rest _ last fault others number so_far line without refused) =
    on text rest next (lines_rest system text first turns rest last others so_far) (line_rest number rest next without)

lines_beside : (system : SystemValue) (text : List ℕ) (first : ScriptError) (turns : ℕ) (rest : List ℕ)
    (last : ScriptError) (all : List ScriptError) → AreLinesFound system text first turns rest last all
    → All (IsLineOf system text) all
lines_beside system text first _ _ _ _ only_first_line = All-nil (IsLineOf system text)
lines_beside system text first _ next _ _ (one_more_line turns rest _ last fault others number so_far line without refused) =
    All-push (IsLineOf system text) others fault (lines_beside system text first turns rest last others so_far)
    (record {
      rest = next;
      is_rest = on text rest next (lines_rest system text first turns rest last others so_far)
          (line_rest number rest next without);
      found = refused.refused;
    })

told_lines : (system : SystemValue) (text : List ℕ) (first : ScriptError) (others : Others ScriptError)
    → AreOtherLines system text first others → All (IsLineOf system text) others.told.items
told_lines system text first others are =
    All-same (IsLineOf system text) others.told.items (take 20 are.all) are.shown.told
    (All-take (IsLineOf system text) 20 are.all
    (lines_beside system text first are.turns are.rest are.last are.all are.found))

pub other_lines_beside : (specification text : List ℕ) (first : ScriptError) (others : Others ScriptError)
    → AreLinesBeside specification text first others → All (IsLineBeside specification text) others.told.items
other_lines_beside specification text first others (beside_none none told more all) =
    All-same (IsLineBeside specification text) others.told.items [] told (All-nil (IsLineBeside specification text))
other_lines_beside specification text first others (beside_fault rule word fault told more all) =
    All-same (IsLineBeside specification text) others.told.items [] told (All-nil (IsLineBeside specification text))
other_lines_beside specification text first others (beside_system tree system spelled built are) =
    All-weaker (IsLineOf system text) (IsLineBeside specification text)
    (λ fault line. record { tree = tree; spelled = spelled; system = system; built = built; line = line })
    others.told.items (told_lines system text first others are)

few_lines : (system : SystemValue) (text : List ℕ) (first : ScriptError) (others : Others ScriptError)
    → AreOtherLines system text first others → length others.told.items ≤ 20
few_lines system text first others are =
    let size : length others.told.items ≡ min 20 (length are.all) = ap length are.shown.told ∙ length-take 20 are.all in
    omega (arith, size)

none_is_few : {X : Type 0} (told : List X) → told ≡ [] → length told ≤ 20
none_is_few told none = let size = ap length none in omega (arith, size)

pub other_lines_few : (specification text : List ℕ) (first : ScriptError) (others : Others ScriptError)
    → AreLinesBeside specification text first others → length others.told.items ≤ 20
other_lines_few specification text first others (beside_none none told more all) = none_is_few others.told.items told
other_lines_few specification text first others (beside_fault rule word fault told more all) =
    none_is_few others.told.items told
other_lines_few specification text first others (beside_system tree system spelled built are) =
    few_lines system text first others are

lines_end : (system : SystemValue) (text : List ℕ) (turns : ℕ) (rest : List ℕ) (last : ScriptError) (is_all : Bool)
    → IsRestOf text rest → EndsLines system text turns rest last is_all → is_all ≡ true → IsScriptOf system text
lines_end system text turns rest last _ so_far (lines_are_right number next lines line without says) is = record {
  rest = next;
  is_rest = on text rest next so_far (line_rest number rest next without);
  lines = lines;
  says = says;
}
lines_end system text turns rest last _ so_far (lines_are_often many) is = absurd (false≢true is)

pub other_lines_right : (specification text : List ℕ) (first : ScriptError) (others : Others ScriptError)
    → AreLinesBeside specification text first others → others.is_all ≡ true → IsScriptBeside specification text
other_lines_right specification text first others (beside_none none told more all) is = absurd (false≢true (sym all ∙ is))
other_lines_right specification text first others (beside_fault rule word fault told more all) is =
    absurd (false≢true (sym all ∙ is))
other_lines_right specification text first others (beside_system tree system spelled built are) is = record {
  tree = tree;
  spelled = spelled;
  system = system;
  built = built;
  script = lines_end system text are.turns are.rest are.last others.is_all
      (lines_rest system text first are.turns are.rest are.last are.all are.found) are.ends is;
}
