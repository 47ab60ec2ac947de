-- Going along the events of a run and of a marked one.
use Rattle.std.proofs.Common.{◌≡◌, ◌∙◌, ℕ, ℤ, ◌+◌, Bool, true, false, cond, List, [], ◌∷◌, ◌++◌, Option, Some, refl, sym, ap, arith}
use Rattle.std.specs.List.{filter}
use Rattle.std.specs.Option.{option_map_or}
use Rattle.std.proofs.lemmas.List.Sums.{sum_by-cons}
use Rattle.port_model.specs.Same.{same_values, same_values-Decides}
use Rattle.port_model.specs.declared.values.value.Value.{Value}
use Rattle.run_record.specs.Event.{Event}
use Rattle.run_record.specs.Record.{RecordValue}
use Rattle.sdl_system.specs.declared.id.VariableId.{VariableId}
use Rattle.sdl_system.specs.System.{SystemValue}
use Rattle.view_coverage.specs.Marks.{mark_of, marks_of, once, passes, variable_in}

pub values_same : (xs ys : List Value) → same_values xs ys ≡ true → xs ≡ ys
values_same xs ys same = (same_values-Decides xs ys).0 same

-- one event more of a marked run: what is left of both goes on after it, if it is no mark
pub filter-step : (p : Event → Bool) (one : Event) (marked later rest more : List Event) → marked ≡ one ∷ later
    → cond (p one) (one ∷ []) [] ++ more ≡ rest → more ≡ filter p later → rest ≡ filter p marked
filter-step p one marked later rest more is goes matches =
    sym goes ∙ ap (λ l. cond (p one) (one ∷ []) [] ++ l) matches ∙ by (p one) ∙ sym (ap (filter p) is)
  where
    by : (b : Bool) → cond b (one ∷ []) [] ++ filter p later ≡ cond b (one ∷ filter p later) (filter p later)
    by true = refl
    by false = refl

-- one event more that is counted
pub marks-step : (variable : VariableId) (events rest : List Event) (one : Event) (part : ℕ) (mark : Option ℤ)
    (now new total : ℕ) → events ≡ one ∷ rest → mark ≡ mark_of variable one → new ≡ now + once mark part
    → now + marks_of variable events part ≡ total → new + marks_of variable rest part ≡ total
marks-step variable events rest one part mark now new total is marks adds was =
    let f = λ (event_here : Event). once (mark_of variable event_here) part in
    let here : marks_of variable events part ≡ once mark part + marks_of variable rest part =
    ap (λ l. marks_of variable l part) is ∙ sum_by-cons f one rest
    ∙ ap (λ m. once m part + marks_of variable rest part) (sym marks) in
    omega arith

-- a process that has a variable for marks
pub passes_some : (system : SystemValue) (trace : RecordValue) (variable : VariableId) (part : ℕ)
    → Some variable ≡ variable_in system trace.process → passes system trace part ≡ marks_of variable trace.events part
passes_some system trace variable part is =
    ap (λ found. option_map_or (λ one. marks_of one trace.events part) found 0) (sym is)
