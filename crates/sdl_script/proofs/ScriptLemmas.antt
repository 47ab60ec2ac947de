-- A script grows line by line, as the text is read.
use Rattle.std.proofs.Common.{◌≡◌, ℕ, ◌+◌, ◌-◌, ◌<◌, ◌≤◌, Option, None, Some, List, [], ◌∷◌, ◌++◌, length, get_or, refl, sym, ap, ◌∙◌, subst, arith, length-append}
use Rattle.std.specs.List.{cons_option}
use Rattle.std.specs.Option.{option_map_or, option_to_list}
use Rattle.std.proofs.lemmas.Option.{slice_get-get_or}
use Rattle.std.proofs.lemmas.List.Elements.{All-push, filter_map-append}
use Rattle.std.proofs.lemmas.List.Sorted.{IsNonDecreasingBy-push}
use Rattle.sdl_system.specs.System.{SystemValue}
use Rattle.sdl_script.specs.declared.fault.Fault.{Fault}
use Rattle.sdl_script.specs.declared.fault.Fault.TheVariants as fault
use Rattle.sdl_script.specs.declared.script.ScriptLine.{ScriptLine}
use Rattle.sdl_script.specs.Script.{IsScript, IsNext, SendsFromEnv, end_of}
use Rattle.sdl_script.specs.ScriptText.{Reading, IsRead, AreLines, BeginsWith, SaysNothing, SaysUpTo, Adds, HasFault, HasSignalFault, FaultAt, Refuses, all_said, refusal}
use Rattle.sdl_script.specs.Spelled.{IsSyntaxFault}
use Rattle.sdl_script.specs.Spelling.{Spelled, SpellsLine, IsNoSpelling, latest_time}

-- where there is a line, the end is the time of the last one
end_of_last : (lines : List ScriptLine) (default : ScriptLine) → 0 < length lines
    → end_of lines ≡ (get_or lines (length lines - 1) default).at
end_of_last lines default some =
    ap (λ last. option_map_or (λ (line : ScriptLine). line.at) last 0)
    (slice_get-get_or lines (length lines - 1) default (omega arith))

-- a script takes a line that may stand behind its last one
pub script_grows : (system : SystemValue) (lines : List ScriptLine) (line : ScriptLine) → IsScript system lines
    → IsNext system (end_of lines) line → IsScript system (lines ++ line ∷ [])
script_grows system lines line script next = record {
  in_order = IsNonDecreasingBy-push (λ l. l.at) lines line script.in_order
      (λ d some. let last = end_of_last lines d some in let P : ℕ → Type 0 = λ t. t ≤ line.at in subst P last next.not_before);
  within = All-push (λ l. l.at ≤ latest_time) lines line script.within next.within;
  from_env = All-push (SendsFromEnv system) lines line script.from_env next.from_env;
}

-- ---- lines of a text, one after the other

-- the text up to the rest was read as these lines
pub record ReadUpTo (system : SystemValue) (text rest : List ℕ) (lines : List ScriptLine) (number : ℕ) : Type 0 where
  pub readings : List Reading
  pub says : SaysUpTo system text rest readings lines
  pub counted : number ≡ length readings

AreLines-push : (readings : List Reading) (reading : Reading) (text from rest : List ℕ) → AreLines readings text from → BeginsWith reading.line from rest
    → AreLines (readings ++ reading ∷ []) text rest
AreLines-push [] reading text from rest are line = (rest, subst (λ l. BeginsWith reading.line l rest) (sym are) line, refl)
AreLines-push (r ∷ readings) reading text from rest are line = (are.0, are.1, AreLines-push readings reading are.0 from rest are.2 line)

all_said-push : (readings : List Reading) (reading : Reading) → all_said (readings ++ reading ∷ []) ≡ all_said readings ++ option_to_list reading.said
all_said-push readings reading =
    filter_map-append (λ (r : Reading). r.said) readings (reading ∷ []) ∙ ap (λ l. all_said readings ++ l) (last reading.said)
  where
    last : (said : Option ScriptLine) → cons_option said [] ≡ option_to_list said
    last None = refl
    last (Some line) = refl

pub read_more : (system : SystemValue) (text from rest line : List ℕ) (lines lines' : List ScriptLine) (number : ℕ) → ReadUpTo system text from lines number
    → BeginsWith line from rest → Adds system line lines lines' → ReadUpTo system text rest lines' (number + 1)
read_more system text from rest line lines lines' number read begins adds =
    let reading : Reading = record { line = line; said = adds.0 } in
    record {
      readings = read.readings ++ reading ∷ [];
      says = record {
        are_lines = AreLines-push read.readings reading text from rest read.says.are_lines begins;
        are_read = All-push (IsRead system) read.readings reading read.says.are_read adds.1;
        are_said = adds.2 ∙ ap (λ l. l ++ option_to_list adds.0) read.says.are_said ∙ sym (all_said-push read.readings reading);
      };
      counted = let count = read.counted in omega (arith, count, length-append read.readings (reading ∷ []));
    }

fault_at : (system : SystemValue) (text from rest line : List ℕ) (lines : List ScriptLine) (number : ℕ) (fault : Fault) → ReadUpTo system text from lines number → IsScript system lines
    → BeginsWith line from rest → HasFault fault system (end_of lines) line → FaultAt (number + 1) fault system text
fault_at system text from rest line lines number fault read script begins has =
    (read.readings, lines, line, from, rest, read.says, script, ap (λ n. n + 1) read.counted, begins, has)

pub refuses : (system : SystemValue) (text from rest line : List ℕ) (lines : List ScriptLine) (number : ℕ) (fault : Fault) → ReadUpTo system text from lines number → IsScript system lines
    → BeginsWith line from rest → HasFault fault system (end_of lines) line → Refuses (refusal fault (number + 1)) system text
refuses system text from rest line lines number fault.Syntax read script begins has = fault_at system text from rest line lines number fault.Syntax read script begins has
refuses system text from rest line lines number fault.BackInTime read script begins has = fault_at system text from rest line lines number fault.BackInTime read script begins has
refuses system text from rest line lines number fault.UnknownSignal read script begins has = fault_at system text from rest line lines number fault.UnknownSignal read script begins has
refuses system text from rest line lines number fault.Arguments read script begins has = fault_at system text from rest line lines number fault.Arguments read script begins has
refuses system text from rest line lines number fault.Memory read script begins has = tt

-- ---- what a line says

pub syntax_fault : (system : SystemValue) (end : ℕ) (line : List ℕ) (f : Fault) → ¬ SaysNothing line → IsSyntaxFault f (IsNoSpelling line) → HasFault f system end line
syntax_fault system end line fault.Syntax something h = (something, h)
syntax_fault system end line fault.BackInTime something h = absurd h
syntax_fault system end line fault.UnknownSignal something h = absurd h
syntax_fault system end line fault.Arguments something h = absurd h
syntax_fault system end line fault.Memory something h = tt

pub signal_fault : (system : SystemValue) (end at : ℕ) (line : List ℕ) (spelled : Spelled) (f : Fault) → SpellsLine at (Some spelled) line → end ≤ at → HasSignalFault f system spelled → HasFault f system end line
signal_fault system end at line spelled fault.Syntax s in_order h = absurd h
signal_fault system end at line spelled fault.BackInTime s in_order h = absurd h
signal_fault system end at line spelled fault.UnknownSignal s in_order h = (at, spelled, s, in_order, h)
signal_fault system end at line spelled fault.Arguments s in_order h = (at, spelled, s, in_order, h)
signal_fault system end at line spelled fault.Memory s in_order h = tt
