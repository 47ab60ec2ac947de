-- A text that says a script has no fault.
use Rattle.std.proofs.Common.{◌≡◌, ℕ, ◌-◌, ◌<◌, ◌≤◌, Option, None, Some, ◌⊎◌, inl, inr, ⊎_elim, List, [], ◌∷◌, ◌++◌, length, get_or, sym, refl, ap, ◌∙◌, subst, arith, length-append}
use Rattle.std.specs.Prelude.{All}
use Rattle.std.specs.List.{cons_option}
use Rattle.std.specs.List.Sorted.{IsNonDecreasingBy}
use Rattle.std.specs.Option.{option_map_or}
use Rattle.std.proofs.Math.Seq.{get_or-append_seam}
use Rattle.std.proofs.lemmas.List.{get_or_append_left}
use Rattle.std.proofs.lemmas.List.Elements.{All-head, All-tail, filter_map-append}
use Rattle.std.proofs.lemmas.Option.{none-some, slice_get-get_or}
use Rattle.sdl_system.specs.System.{SystemValue}
use Rattle.sdl_system.specs.declared.signal.Signal.{Signal}
use Rattle.sdl_script.specs.declared.fault.Fault.{Fault}
use Rattle.sdl_script.specs.declared.fault.Fault.TheVariants as fault
use Rattle.sdl_script.specs.declared.script.ScriptError.TheVariants.{Arguments, BackInTime, Memory, Syntax, UnknownSignal}
use Rattle.sdl_script.specs.declared.script.ScriptLine.{ScriptLine}
use Rattle.sdl_script.specs.declared.script.ScriptSignal.{ScriptSignal}
use Rattle.sdl_script.specs.Script.{IsScript, end_of}
use Rattle.sdl_script.specs.ScriptText.{AreArguments, AreLines, BeginsWith, FaultAt, HasBadArguments, HasFault, IsDestination, IsRead, IsUnknown, Means, Reading, Says, SaysNothing, SaysScript, all_said}
use Rattle.sdl_script.specs.Spelling.{IsNoSpelling, Spelled, SpellsLine}
use Rattle.sdl_script.specs.One.{NoFault}
use Rattle.sdl_script.proofs.Meanings.{one_name}
use Rattle.sdl_script.proofs.Spellings.{one_spelling}
use Rattle.sdl_script.proofs.Texts.{no_line, one_line, one_reading, unspelled}

-- ---- one row of lines goes on where another ends

-- behind the first row the second one has a line, and it is this one
pub record Stands (system : SystemValue) (before row : List Reading) (line : List ℕ) : Type 0 where
  pub reading : Reading
  pub more : List Reading
  pub is : row ≡ before ++ reading ∷ more
  pub line_is : reading.line ≡ line
  pub read : IsRead system reading

-- the first row goes on as far as this where the second ends
abbrev pub GoesOn : List Reading → List Reading → List ℕ → List ℕ → Type 0
GoesOn before row end from = (more : List Reading) × (before ≡ row ++ more) × AreLines more end from

pub meets : (system : SystemValue) (before row : List Reading) (text from end line rest : List ℕ)
    → AreLines before text from → All (IsRead system) before → BeginsWith line from rest → AreLines row text end
    → All (IsRead system) row → Stands system before row line ⊎ GoesOn before row end from
meets system [] [] text from end line rest are said begins run told = inr ([], refl, sym run ∙ are)
meets system [] (reading ∷ row) text from end line rest are said begins run told =
    inl (record {
      reading = reading;
      more = row;
      is = refl;
      line_is =
          (one_line text reading.line run.0 line rest run.1 (subst (λ l. BeginsWith line l rest) (sym are) begins)).0;
      read = All-head (IsRead system) reading row told;
    })
meets system (first ∷ before) [] text from end line rest are said begins run told =
    inr (first ∷ before, refl, subst (λ l. AreLines (first ∷ before) l from) run are)
meets system (first ∷ before) (reading ∷ row) text from end line rest are said begins run told =
    let lines = one_line text first.line are.0 reading.line run.0 are.1 run.1 in
    let same = one_reading system first reading lines.0 (All-head (IsRead system) first before said)
    (All-head (IsRead system) reading row told) in
    ⊎_elim
    (λ (s : Stands system before row line). inl (record {
      reading = s.reading;
      more = s.more;
      is = λ i. sym same i ∷ s.is i;
      line_is = s.line_is;
      read = s.read;
    }))
    (λ (on : GoesOn before row end from). inr (on.0, (λ i. same i ∷ on.1 i), on.2))
    (meets system before row are.0 from end line rest are.2 (All-tail (IsRead system) first before said) begins
    (subst (λ m. AreLines row m end) (sym lines.1) run.2) (All-tail (IsRead system) reading row told))

-- ---- a line that says something or nothing is at no fault

no_syntax : (system : SystemValue) (line : List ℕ) (said : Option ScriptLine) → Says system line said
    → ¬ SaysNothing line → IsNoSpelling line → ⊥
no_syntax system line None says something none = something says
no_syntax system line (Some said) says something none = none said.at says.0 says.1

-- where something is spelled, the line says its time
says_time : (system : SystemValue) (line : List ℕ) (said : Option ScriptLine) (at : ℕ) (signal : Option Spelled)
    → Says system line said → SpellsLine at signal line
    → (told : ScriptLine) × (said ≡ Some told) × (told.at ≡ at) × Means system signal told.signal
says_time system line None at signal says s = absurd (unspelled line at signal says s)
says_time system line (Some told) at signal says s =
    let one = one_spelling line told.at at says.0 signal says.1 s in
    (told, refl, one.0, subst (λ o. Means system o told.signal) one.1 says.2)

-- what is sent is known, and so are its arguments

known : (system : SystemValue) (spelled : Spelled) (signal : Option ScriptSignal) → IsUnknown system spelled
    → Means system (Some spelled) signal → ⊥
known system spelled None unknown means = means
known system spelled (Some signal) unknown means = unknown signal.item.name means.1 means.2 means.3

fitted : (system : SystemValue) (spelled : Spelled) (signal : Option ScriptSignal) → HasBadArguments system spelled
    → Means system (Some spelled) signal → ⊥
fitted system spelled None bad means = means
fitted system spelled (Some signal) (name, declared, names, reached, inl unfit) means =
    let goes = subst (λ to. IsDestination system to signal.to) unfit means.4 in
    none-some goes.0 goes.1
fitted system spelled (Some signal) (name, declared, names, reached, inr none) means =
    let same = one_name system spelled.name name signal.item.name declared means.1 names means.2 in
    none signal.item.values
    (subst (λ (d : Signal). AreArguments spelled.values d.sorts.items signal.item.values) (sym same.1) means.5)

-- ---- the times of a script

-- where there is a line, the end is the time of the last one
end_of_last : (lines : List ScriptLine) (default : ScriptLine) → 0 < length lines
    → end_of lines ≡ (get_or lines (length lines - 1) default).at
end_of_last lines default some =
    ap (λ last. option_map_or (λ (line : ScriptLine). line.at) last 0)
    (slice_get-get_or lines (length lines - 1) default (omega arith))

-- a line of a script isn't before the end of the lines before it
not_before : (lines more : List ScriptLine) (line : ScriptLine)
    → IsNonDecreasingBy (λ (l : ScriptLine). l.at) (lines ++ line ∷ more) → end_of lines ≤ line.at
not_before [] more line rise = omega arith
not_before (first ∷ lines) more line rise =
    let before = first ∷ lines in
    let some : 0 < length before = omega arith in
    let len = length-append before (line ∷ more) in
    let last = end_of_last before line some in
    let at_last = ap (λ (l : ScriptLine). l.at)
    (get_or_append_left before (line ∷ more) line (length before - 1) (omega (arith, some))) in
    let at_line = ap (λ (l : ScriptLine). l.at) (get_or-append_seam before line more line) in
    let rises = rise (length before - 1) (length before) line (omega arith) (omega (arith, len)) in
    omega (arith, last, at_last, at_line, rises)

-- ---- faults

-- what the rows say, where one goes on with a line that says something
says_on : (before row more : List Reading) (reading : Reading) (told : ScriptLine) → row ≡ before ++ reading ∷ more
    → reading.said ≡ Some told → all_said row ≡ all_said before ++ told ∷ all_said more
says_on before row more reading told is said =
    ap all_said is
    ∙ filter_map-append (λ (r : Reading). r.said) before (reading ∷ more)
    ∙ ap (λ o. all_said before ++ cons_option o (all_said more)) said

module _ (system : SystemValue) (before row : List Reading) (lines script : List ScriptLine) (line : List ℕ)
    (said : lines ≡ all_said before) (told : script ≡ all_said row) (is : IsScript system script)
    (stands : Stands system before row line) where
  says : Says system line stands.reading.said
  says = subst (λ l. Says system l stands.reading.said) stands.line_is stands.read

  in_time : (at : ℕ) (signal : Option Spelled) → SpellsLine at signal line → at < end_of lines → ⊥
  in_time at signal s early =
      let means = says_time system line stands.reading.said at signal says s in
      let all = told ∙ says_on before row stands.more stands.reading means.0 stands.is means.1 in
      let late = not_before (all_said before) (all_said stands.more) means.0
      (subst (IsNonDecreasingBy (λ (l : ScriptLine). l.at)) all is.in_order) in
      let ends = ap end_of said in
      let same = means.2 in
      omega (arith, late, ends, same, early)

  -- none but lack of memory
  pub no_fault_of : (f : Fault) → HasFault f system (end_of lines) line → f ≡ fault.Memory
  no_fault_of fault.Syntax h = absurd (no_syntax system line stands.reading.said says h.0 h.1)
  no_fault_of fault.BackInTime h = absurd (in_time h.0 h.1 h.2 h.3)
  no_fault_of fault.UnknownSignal h =
      let means = says_time system line stands.reading.said h.0 (Some h.1) says h.2 in
      absurd (known system h.1 means.0.signal h.4 means.3)
  no_fault_of fault.Arguments h =
      let means = says_time system line stands.reading.said h.0 (Some h.1) says h.2 in
      absurd (fitted system h.1 means.0.signal h.4 means.3)
  no_fault_of fault.Memory h = refl

no_fault_at : (system : SystemValue) (text : List ℕ) (lines : List ScriptLine) (number : ℕ) (f : Fault)
    → SaysScript system text lines → IsScript system lines → FaultAt number f system text → f ≡ fault.Memory
no_fault_at system text lines number f says is (before, earlier, line, from, rest, up_to, was, count, begins, has) =
    ⊎_elim
    (λ (stands : Stands system before says.0 line).
    no_fault_of system before says.0 earlier lines line up_to.are_said says.1.are_said is stands f has)
    (λ (on : GoesOn before says.0 [] from). absurd (no_more on.0 from on.2 begins))
    (meets system before says.0 text from [] line rest up_to.are_lines up_to.are_read begins says.1.are_lines
    says.1.are_read)
  where
    no_more : (more : List Reading) (from : List ℕ) → AreLines more [] from → BeginsWith line from rest → ⊥
    no_more [] from nothing begins = no_line from line rest (sym nothing) begins
    no_more (reading ∷ more) from are begins = no_line [] reading.line are.0 refl are.1

pub no_fault : NoFault
no_fault system text lines (Syntax n) says is refused =
    let e = no_fault_at system text lines n fault.Syntax says is refused in cc
no_fault system text lines (BackInTime n) says is refused =
    let e = no_fault_at system text lines n fault.BackInTime says is refused in cc
no_fault system text lines (UnknownSignal n) says is refused =
    let e = no_fault_at system text lines n fault.UnknownSignal says is refused in cc
no_fault system text lines (Arguments n) says is refused =
    let e = no_fault_at system text lines n fault.Arguments says is refused in cc
no_fault system text lines Memory says is refused = refl
