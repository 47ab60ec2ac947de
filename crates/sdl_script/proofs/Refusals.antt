-- A text is refused in one way.
use Rattle.std.proofs.Common.{◌≡◌, ◌≢◌, ℕ, ◌+◌, ◌<◌, ◌≤◌, Option, Some, ◌⊎◌, inl, inr, ⊎_elim, List, [], ◌∷◌, ◌++◌, length, sym, refl, ap, ◌∙◌, subst, arith, append-nil, length-append}
use Rattle.std.specs.Prelude.{All}
use Rattle.std.proofs.Math.Seq.{get_or-append_seam}
use Rattle.std.proofs.lemmas.Option.{same_Some}
use Rattle.sdl_system.specs.System.{SystemValue}
use Rattle.sdl_script.specs.declared.fault.Fault.{Fault}
use Rattle.sdl_script.specs.declared.fault.Fault.TheVariants as fault
use Rattle.sdl_script.specs.declared.script.ScriptError.{ScriptError}
use Rattle.sdl_script.specs.declared.script.ScriptError.TheVariants.{Arguments, BackInTime, Memory, Syntax, UnknownSignal}
use Rattle.sdl_script.specs.Script.{end_of}
use Rattle.sdl_script.specs.ScriptText.{BeginsWith, FaultAt, HasBadArguments, HasFault, IsRead, IsUnknown, Reading, Refuses, all_said, refusal}
use Rattle.sdl_script.specs.Spelling.{Spelled, SpellsLine}
use Rattle.sdl_script.specs.One.{OneRefusal}
use Rattle.sdl_script.proofs.Faults.{GoesOn, Stands, meets, no_fault_of}
use Rattle.sdl_script.proofs.Spellings.{one_spelling}
use Rattle.sdl_script.proofs.Texts.{one_line}

-- the first row is the second one, or goes on with a line of which the second knows
goes_on : (system : SystemValue) (before row : List Reading) (end from line rest : List ℕ)
    → All (IsRead system) before → BeginsWith line end rest → GoesOn before row end from
    → Stands system row before line ⊎ ((before ≡ row) × (end ≡ from))
goes_on system before row end from line rest said begins ([], is, are) = inr (is ∙ append-nil row, are)
goes_on system before row end from line rest said begins (reading ∷ more, is, are) =
    let all = subst (All (IsRead system)) is said in
    let len = length-append row (reading ∷ more) in
    let here : length row < length (row ++ reading ∷ more) = omega (arith, len) in
    inl (record {
      reading = reading;
      more = more;
      is = is;
      line_is = (one_line end reading.line are.0 line rest are.1 begins).0;
      read = subst (IsRead system) (get_or-append_seam row reading more reading) (all (length row) reading here);
    })

module _ (system : SystemValue) (end : ℕ) (line : List ℕ) where
  -- a line has one time, so it is early or not
  early : (at other : ℕ) (signal again : Option Spelled) → SpellsLine at signal line → SpellsLine other again line
      → at < end → end ≤ other → ⊥
  early at other signal again s t before behind =
      let same = (one_spelling line at other signal again s t).0 in
      omega (arith, same, before, behind)

  -- and one signal, which is reached or not
  reached : (at other : ℕ) (spelled again : Spelled) → SpellsLine at (Some spelled) line
      → SpellsLine other (Some again) line → IsUnknown system spelled → HasBadArguments system again → ⊥
  reached at other spelled again s t unknown (name, declared, names, reaches, bad) =
      let same : spelled ≡ again =
      same_Some spelled again (one_spelling line at other (Some spelled) (Some again) s t).1 in
      subst (IsUnknown system) same unknown name declared names reaches

  one_fault : (f g : Fault) → HasFault f system end line → HasFault g system end line → f ≢ fault.Memory
      → g ≢ fault.Memory → f ≡ g
  one_fault fault.Memory g s t some more = absurd (some refl)
  one_fault fault.Syntax fault.Syntax s t some more = refl
  one_fault fault.Syntax fault.BackInTime s t some more = absurd (s.1 t.0 t.1 t.2)
  one_fault fault.Syntax fault.UnknownSignal s t some more = absurd (s.1 t.0 (Some t.1) t.2)
  one_fault fault.Syntax fault.Arguments s t some more = absurd (s.1 t.0 (Some t.1) t.2)
  one_fault fault.Syntax fault.Memory s t some more = absurd (more refl)
  one_fault fault.BackInTime fault.Syntax s t some more = absurd (t.1 s.0 s.1 s.2)
  one_fault fault.BackInTime fault.BackInTime s t some more = refl
  one_fault fault.BackInTime fault.UnknownSignal s t some more =
      absurd (early s.0 t.0 s.1 (Some t.1) s.2 t.2 s.3 t.3)
  one_fault fault.BackInTime fault.Arguments s t some more = absurd (early s.0 t.0 s.1 (Some t.1) s.2 t.2 s.3 t.3)
  one_fault fault.BackInTime fault.Memory s t some more = absurd (more refl)
  one_fault fault.UnknownSignal fault.Syntax s t some more = absurd (t.1 s.0 (Some s.1) s.2)
  one_fault fault.UnknownSignal fault.BackInTime s t some more =
      absurd (early t.0 s.0 t.1 (Some s.1) t.2 s.2 t.3 s.3)
  one_fault fault.UnknownSignal fault.UnknownSignal s t some more = refl
  one_fault fault.UnknownSignal fault.Arguments s t some more =
      absurd (reached s.0 t.0 s.1 t.1 s.2 t.2 s.4 t.4)
  one_fault fault.UnknownSignal fault.Memory s t some more = absurd (more refl)
  one_fault fault.Arguments fault.Syntax s t some more = absurd (t.1 s.0 (Some s.1) s.2)
  one_fault fault.Arguments fault.BackInTime s t some more = absurd (early t.0 s.0 t.1 (Some s.1) t.2 s.2 t.3 s.3)
  one_fault fault.Arguments fault.UnknownSignal s t some more = absurd (reached t.0 s.0 t.1 s.1 t.2 s.2 t.4 s.4)
  one_fault fault.Arguments fault.Arguments s t some more = refl
  one_fault fault.Arguments fault.Memory s t some more = absurd (more refl)

one_fault_at : (system : SystemValue) (text : List ℕ) (number count : ℕ) (f g : Fault) → FaultAt number f system text
    → FaultAt count g system text → f ≢ fault.Memory → g ≢ fault.Memory → (number ≡ count) × (f ≡ g)
one_fault_at system text number count f g
    (before, lines, line, from, rest, up_to, is, at, begins, has)
    (row, others, other, end, behind, up, was, place, starts, suffers) some more =
    ⊎_elim
    (λ (stands : Stands system before row line).
    absurd (some (no_fault_of system before row lines others line up_to.are_said up.are_said was stands f has)))
    (λ (on : GoesOn before row end from). ⊎_elim
    (λ (stands : Stands system row before other).
    absurd (more (no_fault_of system row before others lines other up.are_said up_to.are_said is stands g suffers)))
    (λ (same : (before ≡ row) × (end ≡ from)).
    let first = one_line from line rest other behind begins
    (subst (λ t. BeginsWith other t behind) same.1 starts) in
    let ends : end_of others ≡ end_of lines =
    ap end_of (up.are_said ∙ ap all_said (sym same.0) ∙ sym up_to.are_said) in (
      at ∙ ap (λ (l : List Reading). length l + 1) same.0 ∙ sym place,
      one_fault system (end_of lines) line f g has
          (subst (λ n. HasFault g system n line) ends
          (subst (λ l. HasFault g system (end_of others) l) (sym first.0) suffers)) some more,
    ))
    (goes_on system before row end from other behind up_to.are_read starts on))
    (meets system before row text from end line rest up_to.are_lines up_to.are_read begins up.are_lines up.are_read)

-- the fault that a refusal tells
record Told (system : SystemValue) (text : List ℕ) (error : ScriptError) : Type 0 where
  pub is_of : Fault
  pub number : ℕ
  pub is : error ≡ refusal is_of number
  pub at : FaultAt number is_of system text
  pub some : is_of ≢ fault.Memory

told_by : (system : SystemValue) (text : List ℕ) (error : ScriptError) → Refuses error system text → error ≢ Memory
    → Told system text error
told_by system text (Syntax n) refused some =
    record { is_of = fault.Syntax; number = n; is = refl; at = refused; some = λ e. cc }
told_by system text (BackInTime n) refused some =
    record { is_of = fault.BackInTime; number = n; is = refl; at = refused; some = λ e. cc }
told_by system text (UnknownSignal n) refused some =
    record { is_of = fault.UnknownSignal; number = n; is = refl; at = refused; some = λ e. cc }
told_by system text (Arguments n) refused some =
    record { is_of = fault.Arguments; number = n; is = refl; at = refused; some = λ e. cc }
told_by system text Memory refused some = absurd (some refl)

pub one_refusal : OneRefusal
one_refusal system text error other refused again some more =
    let first = told_by system text error refused some in
    let second = told_by system text other again more in
    let same = one_fault_at system text first.number second.number first.is_of second.is_of first.at second.at
    first.some second.some in
    first.is ∙ (λ i. refusal (same.1 i) (same.0 i)) ∙ sym second.is
