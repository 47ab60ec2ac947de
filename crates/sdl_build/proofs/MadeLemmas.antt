-- The processes of a specification, one after the other.
use Rattle.std.proofs.Common.{◌≡◌, ◌∙◌, ◌+◌, ◌<◌, ◌++◌, ℕ, Bool, zero, suc, Contains, List, [], ◌∷◌, Option, None, Some, IfOk, OnOk, Result, Ok, Err, ap, arith, inl, inr, length, map, refl, slice_get, subst, sym}
use Rattle.std.proofs.lemmas.Option.{slice_get-get_or}
use Rattle.std.specs.Global.{Vec}
use Rattle.sdl_build.specs.Processes.{IsMadeFrom}
use Rattle.sdl_build.specs.Made.{AreMade, AreProcessesOr, IsMadeAt, WholeList}
use Rattle.sdl_build.specs.Faulty.{NotesAt, NotesBodies}
use Rattle.sdl_build.specs.Faulty as notes
use Rattle.sdl_build.proofs.ProcessLemmas.{length-map}
use Rattle.sdl_build.specs.Headings.{IsValidSet}
use Rattle.sdl_build.specs.ProcessScope.{process_scope}
use Rattle.sdl_build.specs.Context.{IsNetwork, Context}
use Rattle.build_definitions.specs.Rows.{ProcessRow}
use Rattle.build_definitions.specs.Definitions.{Rows}
use Rattle.build_definitions.specs.declared.symbols.symbol_table.SymbolTable.{SymbolTable}
use Rattle.build_network.specs.Numbered.{numbered}
use Rattle.build_process.specs.Faulty.{NotesBody}
use Rattle.build_names.specs.Faults.{Diagnostic}
use Rattle.build_routes.proofs.TableLemmas.{get_push}
use Rattle.build_routes.specs.Valid.{AreValid}
use Rattle.build_routes.specs.declared.network.joined.Network.{Network}
use Rattle.std.proofs.lemmas.Option.{none-some}
use Rattle.sdl_system.specs.declared.id.ProcessId.{ProcessId}
use Rattle.sdl_system.specs.declared.process.Process.{Process}

-- ---- nothing is made any more

pub noted-anyhow : {T E : Type 0} (result : Result T E) (P : Type 0) → P → OnOk result P
noted-anyhow (Ok made) P is = is
noted-anyhow (Err why) P is = tt

-- ---- one after the other

pub same-one : {A : Type 0} (x y : A) → Some x ≡ Some y → x ≡ y
same-one x y is = ap (λ o. pick o x) is
  where
    pick : {A : Type 0} → Option A → A → A
    pick None other = other
    pick (Some it) other = it

pub made-more : (context : Context) (old new : List (Option Process)) (number : ProcessId) (row : ProcessRow)
    (process : Option Process) → AreMade context old → new ≡ old ++ process ∷ [] → number.0 ≡ length old →
    slice_get context.rows.processes number.0 ≡ Some row → IsMadeFrom context number row process → AreMade context new
made-more context old new number row process known is at listed made n other found there stands =
    elim (get_push old process n.0 found (subst (λ list. slice_get list n.0 ≡ Some found) is stands)) [
      | inl was ↦ known n other found there was
      | inr last ↦
          let same : number ≡ n = ap (λ k. record { 0 = k }) (at ∙ sym last.0) in
          let rows : row ≡ other = same-one row other
          (sym listed ∙ ap (λ k. slice_get context.rows.processes k) (at ∙ sym last.0) ∙ there) in
          subst (IsMadeFrom context n other) last.1
          (subst (λ r. IsMadeFrom context n r process) rows
          (subst (λ k. IsMadeFrom context k row process) same made))
    ]

-- the place of one that isn't there
missing-at : (made : List (Option Process)) → Contains made None → (n : ℕ) × (slice_get made n ≡ Some None)
missing-at made has = (has.0, slice_get-get_or made has.0 None has.1 ∙ ap Some has.2)

get-map : {A : Type 0} (xs : List A) (n : ℕ) (x : A) → slice_get xs n ≡ Some x →
    slice_get (map Some xs) n ≡ Some (Some x)
get-map [] zero x is = absurd (none-some x is)
get-map [] (suc n) x is = absurd (none-some x is)
get-map (y ∷ ys) zero x is = ap Some is
get-map (y ∷ ys) (suc n) x is = get-map ys n x is

pub mapped-get : {A B : Type 0} (f : A → B) (xs : List A) (n : ℕ) (x : A) → slice_get xs n ≡ Some x →
    slice_get (map f xs) n ≡ Some (f x)
mapped-get f [] zero x is = absurd (none-some x is)
mapped-get f [] (suc n) x is = absurd (none-some x is)
mapped-get f (y ∷ ys) zero x is = ap (λ z. Some (f z)) (same-one y x is)
mapped-get f (y ∷ ys) (suc n) x is = mapped-get f ys n x is

pub get-below : {A B : Type 0} (xs : List A) (ys : List B) (n : ℕ) (y : B) → length ys ≡ length xs →
    slice_get ys n ≡ Some y → (x : A) × (slice_get xs n ≡ Some x)
get-below [] [] zero y same is = absurd (none-some y is)
get-below [] [] (suc n) y same is = absurd (none-some y is)
get-below [] (z ∷ zs) n y same is = absurd (omega (arith, same))
get-below (x ∷ xs) [] zero y same is = absurd (none-some y is)
get-below (x ∷ xs) [] (suc n) y same is = absurd (none-some y is)
get-below (x ∷ xs) (z ∷ zs) zero y same is = (x, refl)
get-below (x ∷ xs) (z ∷ zs) (suc n) y same is = get-below xs zs n y (omega (arith, same)) is

pub all-or : (context : Context) (made : List (Option Process)) (result : Option (Vec Process)) →
    length made ≡ length context.rows.processes → AreMade context made → WholeList made result →
    AreProcessesOr context result
all-or context made None size known lacks =
    let at = missing-at made lacks in
    let row = get-below context.rows.processes made at.0 None size at.1 in
    record {
      number = record { 0 = at.0 };
      row = row.0;
      listed = row.1;
      refused = known (record { 0 = at.0 }) row.0 None row.1 at.1;
    }
all-or context made (Some list) size known whole = record {
  size = sym (length-map Some list.items) ∙ ap length whole ∙ size;
  each = λ number row process listed stands.
      known number row (Some process) listed
      (subst (λ all. slice_get all number.0 ≡ Some (Some process)) whole (get-map list.items number.0 process stands));
}

-- ---- how many there are

length-numbered : {A B : Type 0} (make : ℕ → A → B) (n : ℕ) (xs : List A) → length (numbered make n xs) ≡ length xs
length-numbered make n [] = refl
length-numbered make n (x ∷ xs) = ap suc (length-numbered make (n + 1) xs)

-- as many valid input sets as rows of processes
pub as-many : (rows : Rows) (symbols : SymbolTable) (network : Network) (valid : List (List Bool)) →
    IsNetwork rows symbols network → AreValid network (length network.processes.items) valid →
    length valid ≡ length rows.processes
as-many rows symbols network valid is are =
    are.size ∙ ap length is.processes ∙ length-numbered _ 0 rows.processes

-- ---- the one at a place

pub less-than : (place rows entries many : ℕ) → place < rows → rows ≡ entries → many ≡ entries → place < many
less-than place rows entries many below same all = omega (arith, below, same, all)

pub below-at : (place yielded many : ℕ) → place ≡ yielded → yielded < many → place < many
below-at place yielded many at below = omega (arith, at, below)

-- a valid input set of the network is one for the process at its place
pub valid-at : (context : Context) (valid : List (List Bool)) (yielded place : ℕ) (set : List Bool) →
    AreValid context.network (length context.network.processes.items) valid →
    context.network.signals ≡ length context.rows.signals → place ≡ yielded → slice_get valid yielded ≡ Some set →
    IsValidSet context (record { 0 = place }) set
valid-at context valid yielded place set are signals at stands =
    let listed : slice_get valid place ≡ Some set = ap (slice_get valid) at ∙ stands in
    record {
      size = are.places (record { 0 = place }) set listed ∙ signals;
      members = λ is signal found below. are.each (record { 0 = place }) is set signal found listed below;
    }

pub made-at-if : {E : Type 0} (context : Context) (number place : ℕ) (row : ProcessRow)
    (result : Result (Option Process) E) →
    number ≡ place → slice_get context.rows.processes place ≡ Some row →
    IfOk result (IsMadeFrom context (record { 0 = number }) row) → IfOk result (IsMadeAt context place)
made-at-if context number place row (Ok process) at listed made = record {
  row = row;
  listed = listed;
  made = subst (λ n. IsMadeFrom context (record { 0 = n }) row process) at made;
}
made-at-if context number place row (Err why) at listed made = tt

pub noted-at : {A E : Type 0} (context : Context) (number place : ℕ) (row : ProcessRow) (old new : Option Diagnostic)
    (result : Result A E) → number ≡ place → slice_get context.rows.processes place ≡ Some row →
    OnOk result (NotesBody (process_scope context (record { 0 = number }) row.definition) row.definition old new) →
    OnOk result (NotesAt context place old new)
noted-at context number place row old new (Ok made) at listed notes = record {
  row = row;
  listed = listed;
  notes = subst (λ n. NotesBody (process_scope context (record { 0 = n }) row.definition) row.definition old new) at
      notes;
}
noted-at context number place row old new (Err why) at listed notes = tt

pub made-next : (context : Context) (old new : List (Option Process)) (place : ℕ) (process : Option Process) →
    AreMade context old → new ≡ old ++ process ∷ [] → place ≡ length old → IsMadeAt context place process →
    AreMade context new
made-next context old new place process known is at one =
    made-more context old new (record { 0 = place }) one.row process known is at one.listed one.made

-- ---- one more is noted

suc-is : (n : ℕ) → suc n ≡ n + 1
suc-is n = omega arith

pub bodies-more : (context : Context) (old mid new : Option Diagnostic) (number : ProcessId) (row : ProcessRow)
    (count : ℕ) →
    NotesBodies context old count mid → number.0 ≡ count → slice_get context.rows.processes number.0 ≡ Some row →
    NotesBody (process_scope context number row.definition) row.definition mid new →
    NotesBodies context old (count + 1) new
bodies-more context old mid new number row count known at listed body =
    subst (λ n. NotesBodies context old n new) (suc-is count)
    (notes.more count mid new row known (ap (slice_get context.rows.processes) (sym at) ∙ listed)
    (subst (λ n. NotesBody (process_scope context (record { 0 = n }) row.definition) row.definition mid new) at body))

pub bodies-next : (context : Context) (old mid new : Option Diagnostic) (place count many : ℕ) →
    NotesBodies context old count mid → place ≡ count → many ≡ count + 1 → NotesAt context place mid new →
    NotesBodies context old many new
bodies-next context old mid new place count many known at grown one =
    subst (λ n. NotesBodies context old n new) (sym grown)
    (bodies-more context old mid new (record { 0 = place }) one.row count known at one.listed one.notes)

-- ---- all of them

pub all-if : {E : Type 0} (context : Context) (made : List (Option Process))
    (result : Result (Option (Vec Process)) E) →
    length made ≡ length context.rows.processes → AreMade context made → IfOk result (WholeList made) →
    IfOk result (AreProcessesOr context)
all-if context made (Ok list) size known whole = all-or context made list size known whole
all-if context made (Err why) size known whole = tt
