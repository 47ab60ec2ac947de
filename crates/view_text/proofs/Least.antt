-- The least numbers of those that live, where records are numbered: who begins or ends changes that of its process
-- alone.
use Rattle.std.proofs.Common.{◌≡◌, ◌≢◌, ◌<◌, ◌≤◌, ◌+◌, ◌-◌, ◌==◌, ◌&&◌, ◌⊎◌, ℕ, zero, suc, Bool, true, false, cond, if◌then◌else◌, List, [], ◌∷◌, Option, None, Some, inl, inr, refl, sym, ap, ◌∙◌, subst, drop, take, length, get_or, length-set, set, zero-add, arith, ⊎_elim, nat_eq, nat_lt, slice_get}
use Rattle.std.specs.List.{find}
use Rattle.std.specs.Option.{option_map}
use Rattle.std.proofs.Math.Bool.{and-false}
use Rattle.std.proofs.lemmas.Bool.{and_parts, cases_Bool, eqb-true}
use Rattle.std.proofs.lemmas.Bool.Decides.{eqb_tells, nat_tests}
use Rattle.std.proofs.Math.Seq.{take-nil}
use Rattle.std.proofs.lemmas.Grind.{get_or-set_at}
use Rattle.std.proofs.lemmas.Option.{slice_get_read}
use Rattle.std.proofs.lemmas.List.{ext_get_or, get_or-set_other, get_or_read}
use Rattle.std.proofs.lemmas.List.FromFn.{get_or-map-range_with_len, length-map-range_with_len}
use Rattle.std.specs.Borrow.{Bor}
use Rattle.std.specs.Prelude.{Result, Ok, Err, OnOk}
use Rattle.run_record.specs.Record.{RecordValue}
use Rattle.view_text.specs.Living.{IsLeast, IsMost, changed, living_in}
use Rattle.view_text.specs.Numbered.{are_numbered, lesser, process_of}
use Rattle.view_text.specs.Sending.{least_living, least_of, lives_of}
use Rattle.view_text.specs.declared.living.Living.{Living}

nat_cases : (a b : ℕ) → (a ≡ b) ⊎ (a ≢ b)
nat_cases a b = ⊎_elim (λ (t : (nat_eq a b ≡ true) × (a ≡ b)). inl t.1) (λ (t : (nat_eq a b ≡ false) ×
    (a ≢ b)). inr t.1) (eqb_tells a b)

-- ---- the first record

module _ (living : ℕ → Bool) (process : ℕ) (trace : RecordValue) (more : List RecordValue) where
  head_lives : lives_of living process trace ≡ true → least_of living (trace ∷ more) process ≡ Some trace.pid
  head_lives e = ap (λ b. option_map (λ (t : RecordValue). t.pid) (cond b (Some trace) (find
      (lives_of living process) more))) e

  head_rests : lives_of living process trace ≡ false
      → least_of living (trace ∷ more) process ≡ least_of living more process
  head_rests e = ap (λ b. option_map (λ (t : RecordValue). t.pid) (cond b (Some trace) (find
      (lives_of living process) more))) e

other_number : (now : Bool) (number : ℕ) (living : ℕ → Bool) (other : ℕ) → number ≢ other
    → changed now number living other ≡ living other
other_number now number living other apart = grind (arith, nat_tests)

own_number : (now : Bool) (number : ℕ) (living : ℕ → Bool) (other : ℕ) → number ≡ other
    → changed now number living other ≡ now
own_number now number living other same = grind (arith, nat_tests)

same_test : (a b : ℕ) → a ≡ b → (a == b) ≡ true
same_test a b e = grind (arith, nat_tests)

other_test : (a b : ℕ) → a ≢ b → (a == b) ≡ false
other_test a b e = grind (arith, nat_tests)

module _ (number : ℕ) (trace : RecordValue) (more : List RecordValue) where
  abbrev first_of : Bool → Option ℕ
  first_of b =
      option_map (λ (t : RecordValue). t.process.0) (cond b (Some trace) (find (λ
      (t : RecordValue). t.pid == number) more))

  head_is : trace.pid ≡ number → process_of (trace ∷ more) number ≡ Some trace.process.0
  head_is e = ap first_of (same_test trace.pid number e)

  head_other : trace.pid ≢ number → process_of (trace ∷ more) number ≡ process_of more number
  head_other e = ap first_of (other_test trace.pid number e)

-- ---- where records are numbered

numbered_head : (first : ℕ) (trace : RecordValue) (more : List RecordValue) → are_numbered first (trace ∷ more) ≡ true
    → (trace.pid ≡ first) × (are_numbered (first + 1) more ≡ true)
numbered_head first trace more all =
    let parts = and_parts (trace.pid == first) (are_numbered (first + 1) more) all in
    (eqb-true trace.pid first parts.0, parts.1)

-- those of these records are as they were
module _ (now : Bool) (number : ℕ) (living : ℕ → Bool) (process : ℕ) where
  -- a record of another number, or of another process
  same_head : (trace : RecordValue) → trace.pid ≢ number → lives_of
      (changed now number living) process trace ≡ lives_of living process trace
  same_head trace other =
      ap (λ b. (trace.process.0 == process) && b) (other_number now number living trace.pid (λ e. other (sym e)))

  -- where the heads do the same, and the rest does
  by_head : (one other : ℕ → Bool) (trace : RecordValue) (more : List RecordValue)
      → lives_of one process trace ≡ lives_of other process trace
      → least_of one more process ≡ least_of other more process
      → least_of one (trace ∷ more) process ≡ least_of other (trace ∷ more) process
  by_head one other trace more same rest =
      ⊎_elim
      (λ lives. head_lives one process trace more (same ∙ lives) ∙ sym (head_lives other process trace more lives))
      (λ dead. head_rests one process trace more (same ∙ dead) ∙ rest ∙ sym (head_rests other process trace more dead))
      (cases_Bool (lives_of other process trace))

  -- behind the record of the number
  later : (first : ℕ) (records : List RecordValue) → are_numbered first records ≡ true → number < first
      → least_of (changed now number living) records process ≡ least_of living records process
  later first [] all behind = refl
  later first (trace ∷ more) all behind =
      let parts = numbered_head first trace more all in
      let is : trace.pid ≡ first = parts.0 in
      let apart : trace.pid ≢ number = λ e. omega (arith, e, is) in
      by_head (changed now number living) living trace more (same_head trace apart)
      (later (first + 1) more parts.1 (omega arith))

  -- another process
  pub apart : (first : ℕ) (records : List RecordValue) → are_numbered first records ≡ true
      → process_of records number ≢ Some process
      → least_of (changed now number living) records process ≡ least_of living records process
  apart first [] all other = refl
  apart first (trace ∷ more) all other =
      let parts = numbered_head first trace more all in
      ⊎_elim
      (λ (own : trace.pid ≡ number).
      let away : (trace.process.0 == process) ≡ false =
      other_test trace.process.0 process (λ e. other (head_is number trace more own ∙ ap Some e)) in
      by_head (changed now number living) living trace more
      (ap (λ b. b && changed now number living trace.pid) away ∙ sym (ap (λ b. b && living trace.pid) away))
      (later (first + 1) more parts.1 (omega (arith, own, parts.0))))
      (λ (differs : trace.pid ≢ number).
      by_head (changed now number living) living trace more (same_head trace differs)
      (apart (first + 1) more parts.1 (λ e. other (head_other number trace more differs ∙ e))))
      (nat_cases trace.pid number)

-- the least number of some records is one of theirs
least_from : (living : ℕ → Bool) (process first : ℕ) (records : List RecordValue) (least : ℕ)
    → are_numbered first records ≡ true
    → least_of living records process ≡ Some least → first ≤ least
least_from living process first [] least all some = cc
least_from living process first (trace ∷ more) least all some =
    let parts = numbered_head first trace more all in
    ⊎_elim
    (λ lives. let own : Some trace.pid ≡ Some least = sym (head_lives living process trace more lives) ∙ some in
    let same : trace.pid ≡ least = cc in
    omega (arith, same, parts.0))
    (λ dead. let rest = least_from living process (first + 1) more least parts.1
    (sym (head_rests living process trace more dead) ∙ some) in
    omega (arith, rest))
    (cases_Bool (lives_of living process trace))

lesser_own : (least : Option ℕ) (number : ℕ) → ((m : ℕ) → least ≡ Some m → number ≤ m)
    → lesser least number ≡ Some number
lesser_own None number above = refl
lesser_own (Some m) number above =
    let le = above m refl in
    let test : nat_lt m number ≡ false = grind (arith, nat_tests) in
    ap (λ b. Some (if b then m else number)) test

lesser_other : (m number : ℕ) → m < number → lesser (Some m) number ≡ Some m
lesser_other m number less =
    let test : nat_lt m number ≡ true = grind (arith, nat_tests) in
    ap (λ b. Some (if b then m else number)) test

module _ (number : ℕ) (living : ℕ → Bool) (process : ℕ) where
  -- one begins: the least number of its process is its own, if that is less
  pub begun : (first : ℕ) (records : List RecordValue) → are_numbered first records ≡ true → first ≤ number
      → process_of records number ≡ Some process
      → least_of (changed true number living) records process ≡ lesser (least_of living records process) number
  begun first [] all from found = cc
  begun first (trace ∷ more) all from found =
      let parts = numbered_head first trace more all in
      ⊎_elim
      (λ (own : trace.pid ≡ number).
      let its : Some trace.process.0 ≡ Some process = sym (head_is number trace more own) ∙ found in
      let here : trace.process.0 ≡ process = cc in
      let lives : lives_of (changed true number living) process trace ≡ true =
      (λ i. same_test trace.process.0 process here i && own_number true number living trace.pid (sym own) i) in
      head_lives (changed true number living) process trace more lives ∙ ap Some own
      ∙ sym (lesser_own (least_of living (trace ∷ more) process) number
      (λ m some. let low = least_from living process first (trace ∷ more) m all some in omega
      (arith, low, own, parts.0))))
      (λ (differs : trace.pid ≢ number).
      let same = same_head true number living process trace differs in
      let is : trace.pid ≡ first = parts.0 in
      let less : trace.pid < number = omega (arith, differs, is) in
      ⊎_elim
      (λ lives. head_lives (changed true number living) process trace more (same ∙ lives)
      ∙ sym (lesser_other trace.pid number less)
      ∙ sym (ap (λ o. lesser o number) (head_lives living process trace more lives)))
      (λ dead. head_rests (changed true number living) process trace more (same ∙ dead)
      ∙ begun (first + 1) more parts.1 (omega (arith, less, is)) (sym (head_other number trace more differs) ∙ found)
      ∙ sym (ap (λ o. lesser o number) (head_rests living process trace more dead)))
      (cases_Bool (lives_of living process trace)))
      (nat_cases trace.pid number)

  -- one ends that isn't the least of its process
  pub ended_other : (first : ℕ) (records : List RecordValue) → are_numbered first records ≡ true
      → process_of records number ≡ Some process → least_of living records process ≢ Some number
      → least_of (changed false number living) records process ≡ least_of living records process
  ended_other first [] all found other = refl
  ended_other first (trace ∷ more) all found other =
      let parts = numbered_head first trace more all in
      ⊎_elim
      (λ (own : trace.pid ≡ number).
      let dead : lives_of living process trace ≡ false =
      ⊎_elim
      (λ lives. absurd (other (head_lives living process trace more lives ∙ ap Some own)))
      (λ (dead : lives_of living process trace ≡ false). dead)
      (cases_Bool (lives_of living process trace)) in
      let now : lives_of (changed false number living) process trace ≡ false =
      ap (λ b. (trace.process.0 == process) && b) (own_number false number living trace.pid (sym own))
      ∙ and-false (trace.process.0 == process) in
      head_rests (changed false number living) process trace more now
      ∙ later false number living process (first + 1) more parts.1 (omega (arith, own, parts.0))
      ∙ sym (head_rests living process trace more dead))
      (λ (differs : trace.pid ≢ number).
      let same = same_head false number living process trace differs in
      ⊎_elim
      (λ lives. head_lives (changed false number living) process trace more (same ∙ lives)
      ∙ sym (head_lives living process trace more lives))
      (λ dead. head_rests (changed false number living) process trace more (same ∙ dead)
      ∙ ended_other (first + 1) more parts.1 (sym (head_other number trace more differs) ∙ found)
      (λ e. other (head_rests living process trace more dead ∙ e))
      ∙ sym (head_rests living process trace more dead))
      (cases_Bool (lives_of living process trace)))
      (nat_cases trace.pid number)

  -- the least one of a process ends: the next one is behind it
  pub ended_least : (first before : ℕ) (records : List RecordValue) → are_numbered first records ≡ true
      → first + before ≡ number
      → least_of living records process ≡ Some number
      → least_of (changed false number living) records process
      ≡ least_of (changed false number living) (drop (suc before) records) process
  ended_least first before [] all from some = refl
  ended_least first zero (trace ∷ more) all from some =
      let parts = numbered_head first trace more all in
      let own : number ≡ trace.pid = omega (arith, from, parts.0) in
      let now : lives_of (changed false number living) process trace ≡ false =
      ap (λ b. (trace.process.0 == process) && b) (own_number false number living trace.pid own)
      ∙ and-false (trace.process.0 == process) in
      head_rests (changed false number living) process trace more now
  ended_least first (suc before) (trace ∷ more) all from some =
      let parts = numbered_head first trace more all in
      let differs : trace.pid ≢ number = λ e. omega (arith, e, from, parts.0) in
      let same = same_head false number living process trace differs in
      ⊎_elim
      (λ lives. let own : Some trace.pid ≡ Some number = sym (head_lives living process trace more lives) ∙ some in
      let same : trace.pid ≡ number = cc in
      absurd (differs same))
      (λ dead. head_rests (changed false number living) process trace more (same ∙ dead)
      ∙ ended_least (first + 1) before more parts.1 (omega (arith, from)) (sym
      (head_rests living process trace more dead) ∙ some))
      (cases_Bool (lives_of living process trace))

-- ---- where none lives any more

module _ (living : ℕ → Bool) (process most : ℕ) (none : IsMost most living) where
  none_behind : (first : ℕ) (records : List RecordValue) → are_numbered first records ≡ true → most < first
      → least_of living records process ≡ None
  none_behind first [] all behind = refl
  none_behind first (trace ∷ more) all behind =
      let parts = numbered_head first trace more all in
      let is : trace.pid ≡ first = parts.0 in
      let dead : lives_of living process trace ≡ false =
      ap (λ b. (trace.process.0 == process) && b) (none trace.pid (omega (arith, is)))
      ∙ and-false (trace.process.0 == process) in
      head_rests living process trace more dead ∙ none_behind (first + 1) more parts.1 (omega arith)

  -- so the records up to there are enough
  pub up_to_most : (first count : ℕ) (records : List RecordValue) → are_numbered first records ≡ true
      → most < first + count
      → least_of living (take count records) process ≡ least_of living records process
  up_to_most first count [] all enough = ap (λ l. least_of living l process) (take-nil count)
  up_to_most first zero (trace ∷ more) all enough = sym (none_behind first (trace ∷ more) all (omega arith))
  up_to_most first (suc count) (trace ∷ more) all enough =
      let parts = numbered_head first trace more all in
      let rest = up_to_most (first + 1) count more parts.1 (omega (arith, enough)) in
      ⊎_elim
      (λ lives. head_lives living process trace (take count more) lives
      ∙ sym (head_lives living process trace more lives))
      (λ dead. head_rests living process trace (take count more) dead ∙ rest
      ∙ sym (head_rests living process trace more dead))
      (cases_Bool (lives_of living process trace))

pub numbered_rest : (first count : ℕ) (records : List RecordValue) → are_numbered first records ≡ true
    → are_numbered (first + count) (drop count records) ≡ true
numbered_rest first zero records all = let n : first ≡ first + 0 = omega arith in ap (λ k. are_numbered k records)
    (sym n) ∙ all
numbered_rest first (suc count) [] all = refl
numbered_rest first (suc count) (trace ∷ more) all =
    let parts = numbered_head first trace more all in
    let n : first + 1 + count ≡ first + suc count = omega arith in
    ap (λ k. are_numbered k (drop count more)) (sym n) ∙ numbered_rest (first + 1) count more parts.1

-- ---- those of all processes

pub length-least : (living : ℕ → Bool) (records : List RecordValue) (processes : ℕ)
    → length (least_living living records processes) ≡ processes
length-least living records processes = length-map-range_with_len (least_of living records) 0 processes

get-least : (living : ℕ → Bool) (records : List RecordValue) (processes process : ℕ) → process < processes
    → get_or (least_living living records processes) process None ≡ least_of living records process
get-least living records processes process less =
    get_or-map-range_with_len (least_of living records) 0 processes process process None less (zero-add process)

-- as they were where none changes
pub all_same : (living living' : ℕ → Bool) (records : List RecordValue) (processes : ℕ)
    → ((process : ℕ) → process < processes → least_of living' records process ≡ least_of living records process)
    → least_living living' records processes ≡ least_living living records processes
all_same living living' records processes same =
    ext_get_or None (least_living living' records processes) (least_living living records processes)
    (length-least living' records processes ∙ sym (length-least living records processes))
    (λ k less. let within : k < processes = omega (arith, less, length-least living' records processes) in
    get-least living' records processes k within ∙ same k within ∙ sym (get-least living records processes k within))

-- and where that of one process does
pub all_but_one : (living living' : ℕ → Bool) (records : List RecordValue) (processes one : ℕ) → one < processes
    → ((process : ℕ) → process ≢ one → least_of living' records process ≡ least_of living records process)
    → least_living living' records processes ≡ set (least_living living records processes) one
    (least_of living' records one)
all_but_one living living' records processes one within same =
    let before = least_living living records processes in
    let new = least_of living' records one in
    let len = length-least living records processes in
    ext_get_or None (least_living living' records processes) (set before one new)
    (length-least living' records processes ∙ sym len ∙ sym (length-set before one new))
    (λ k less. let inside : k < processes = omega (arith, less, length-least living' records processes) in
    get-least living' records processes k inside
    ∙ ⊎_elim
    (λ (own : k ≡ one). ap (least_of living' records) own ∙ sym (get_or-set_at before one k new None own (omega
    (arith, len, within))))
    (λ (other : k ≢ one). same k other ∙ sym (get-least living records processes k inside)
    ∙ sym (get_or-set_other before one k new None other))
    (nat_cases k one))

-- ---- where records are numbered from 1 on

no_place : (number first : ℕ) (records : List RecordValue) → are_numbered first records ≡ true → number < first
    → process_of records number ≡ None
no_place number first [] all less = refl
no_place number first (trace ∷ more) all less =
    let parts = numbered_head first trace more all in
    let differs : trace.pid ≢ number = λ e. omega (arith, e, parts.0) in
    head_other number trace more differs ∙ no_place number (first + 1) more parts.1 (omega arith)

-- the instance of a number is that of the record at its place
pub at_place : (number first place : ℕ) (records : List RecordValue) → are_numbered first records ≡ true
    → first + place ≡ number
    → process_of records number ≡ option_map (λ (trace : RecordValue). trace.process.0) (slice_get records place)
at_place number first place [] all is = refl
at_place number first zero (trace ∷ more) all is =
    let parts = numbered_head first trace more all in
    head_is number trace more (omega (arith, is, parts.0))
at_place number first (suc place) (trace ∷ more) all is =
    let parts = numbered_head first trace more all in
    let differs : trace.pid ≢ number = λ e. omega (arith, e, is, parts.0) in
    head_other number trace more differs ∙ at_place number (first + 1) place more parts.1 (omega (arith, is))

pub at_place_within : (number first place : ℕ) (records : List RecordValue) (trace : RecordValue)
    → are_numbered first records ≡ true
    → first + place ≡ number → place < length records → trace ≡ get_or records place trace
    → process_of records number ≡ Some trace.process.0
at_place_within number first place records trace all is within own =
    at_place number first place records all is
    ∙ ap (option_map (λ (t : RecordValue). t.process.0)) (slice_get_read records
    (length records) place trace refl within own)

pub of_zero : (records : List RecordValue) → are_numbered 1 records ≡ true → process_of records 0 ≡ None
of_zero records all = no_place 0 1 records all (omega arith)

pub some_number : (records : List RecordValue) (number process : ℕ) → are_numbered 1 records ≡ true
    → process_of records number ≡ Some process → 1 ≤ number
some_number records number process all found =
    ⊎_elim
    (λ (none : number ≡ 0). let both : None ≡ Some process =
    sym (of_zero records all) ∙ sym (ap (process_of records) none) ∙ found in
    cc)
    (λ (some : number ≢ 0). omega arith)
    (nat_cases number 0)

-- ---- one begins or ends

module _ (records : List RecordValue) (processes number : ℕ) (living : ℕ
    → Bool) (all : are_numbered 1 records ≡ true) where
  -- it is of no process
  pub of_none : (now : Bool) → process_of records number ≡ None
      → least_living (changed now number living) records processes ≡ least_living living records processes
  of_none now none =
      all_same living (changed now number living) records processes
      (λ q less. apart now number living q 1 records all (λ e. let both : None ≡ Some q = sym none ∙ e in cc))

  pub of_beyond : (now : Bool) (process : ℕ) → process_of records number ≡ Some process → processes ≤ process
      → least_living (changed now number living) records processes ≡ least_living living records processes
  of_beyond now process found beyond =
      all_same living (changed now number living) records processes
      (λ q less. apart now number living q 1 records all (λ e. let both : Some process ≡ Some q = sym found ∙ e in
      let same : process ≡ q = cc in
      omega (arith, same)))

  module _ (process : ℕ) (found : process_of records number ≡ Some process) (within : process < processes) where
    others : (now : Bool) (q : ℕ) → q ≢ process → least_of
        (changed now number living) records q ≡ least_of living records q
    others now q differs =
        apart now number living q 1 records all (λ e. let both : Some process ≡ Some q = sym found ∙ e in
        let same : q ≡ process = cc in
        differs same)

    one_at : (now : Bool) (new : Option ℕ) → least_of (changed now number living) records process ≡ new
        → least_living (changed now number living) records processes ≡ set
        (least_living living records processes) process new
    one_at now new is =
        all_but_one living (changed now number living) records processes process within (others now)
        ∙ ap (set (least_living living records processes) process) is

    -- it begins
    pub lowered_at : 1 ≤ number → least_living (changed true number living) records processes
        ≡ set (least_living living records processes) process
        (lesser (get_or (least_living living records processes) process None) number)
    lowered_at some =
        one_at true _ (begun number living process 1 records all some found
        ∙ ap (λ o. lesser o number) (sym (get-least living records processes process within)))

    -- it ends, and is not the least one
    pub kept_at : get_or (least_living living records processes) process None ≢ Some number
        → least_living (changed false number living) records processes ≡ least_living living records processes
    kept_at other =
        all_same living (changed false number living) records processes
        (λ q less. ⊎_elim
        (λ (own : q ≡ process). ap (least_of (changed false number living) records) own
        ∙ ended_other number living process 1 records all found
        (λ e. other (get-least living records processes process within ∙ e))
        ∙ sym (ap (least_of living records) own))
        (λ (differs : q ≢ process). others false q differs)
        (nat_cases q process))

    -- it ends, and is the least one
    pub raised_at : (most : ℕ) → 1 ≤ number → IsMost most (changed false number living)
        → get_or (least_living living records processes) process None ≡ Some number
        → least_living (changed false number living) records processes
        ≡ set (least_living living records processes) process
        (least_of (changed false number living) (take (most - number) (drop number records)) process)
    raised_at most some none own =
        let lives = changed false number living in
        let place : 1 + (number - 1) ≡ number = omega arith in
        let places : suc (number - 1) ≡ number = omega arith in
        one_at false _ (ended_least number living process 1 (number - 1) records all place
        (sym (get-least living records processes process within) ∙ own)
        ∙ ap (λ n. least_of lives (drop n records) process) places
        ∙ sym (up_to_most lives process most none (1 + number) (most - number) (drop number records)
        (numbered_rest 1 number records all) (omega arith)))

-- the same, by what is kept of the least numbers, and what is read there
module _ (records : List RecordValue) (processes number : ℕ) (living : ℕ → Bool) (all : are_numbered 1 records ≡ true)
    (items : List (Option ℕ)) (was : items ≡ least_living living records processes) (process : ℕ)
    (found : process_of records number ≡ Some process) (within : process < length items) (read : Option ℕ)
    (own : read ≡ get_or items process read) where
  abbrev before : List (Option ℕ)
  before = least_living living records processes

  inside : process < processes
  inside = let len = length-least living records processes in let same = ap length was in omega
      (arith, within, len, same)

  some : 1 ≤ number
  some = some_number records number process all found

  read_is : read ≡ get_or before process None
  read_is = get_or_read items process read within own None ∙ ap (λ (l : List (Option ℕ)). get_or l process None) was

  set_is : (new new' : Option ℕ) → new ≡ new' → set items process new ≡ set before process new'
  set_is new new' is = ap (λ (l : List (Option ℕ)). set l process new) was ∙ ap (set before process) is

  pub lowered : (new : Option ℕ) → new ≡ lesser read number
      → set items process new ≡ least_living (changed true number living) records processes
  lowered new is =
      set_is new _ (is ∙ ap (λ o. lesser o number) read_is)
      ∙ sym (lowered_at records processes number living all process found inside some)

  pub raised : (most : ℕ) (new : Option ℕ) → IsMost most (changed false number living) → read ≡ Some number
      → new ≡ least_of (changed false number living) (take (most - number) (drop number records)) process
      → set items process new ≡ least_living (changed false number living) records processes
  raised most new none least is =
      set_is new _ is
      ∙ sym (raised_at records processes number living all process found inside most some none (sym read_is ∙ least))

  pub kept : read ≢ Some number → items ≡ least_living (changed false number living) records processes
  kept other =
      was ∙ sym (kept_at records processes number living all process found inside (λ e. other (read_is ∙ e)))

-- ---- what is kept

-- none above the greatest number, once one more lives
pub most_added : (most new number : ℕ) (lives lives' : ℕ → Bool) → IsMost most lives → most ≤ new → number ≤ new
    → ((other : ℕ) → lives' other ≡ changed true number lives other) → IsMost new lives'
most_added most new number lives lives' none up own is = λ other above.
    is other ∙ other_number true number lives other (λ e. omega (arith, e)) ∙ none other (omega arith)

-- and once one lives no more
most_removed : (most number : ℕ) (lives : ℕ → Bool) → IsMost most lives → IsMost most (changed false number lives)
most_removed most number lives none = λ other above.
    ⊎_elim
    (λ own. own_number false number lives other own)
    (λ differs. other_number false number lives other differs ∙ none other above)
    (nat_cases number other)

pub most_removed_at : (most number : ℕ) (lives : ℕ → Bool) (mid : Living) → IsMost most lives → mid.most ≡ most
    → ((other : ℕ) → living_in mid other ≡ changed false number lives other) → IsMost mid.most (living_in mid)
most_removed_at most number lives mid none same numbers = λ other above.
    let up : most < other = omega (arith, same, above) in
    numbers other ∙ most_removed most number lives none other up

module _ (old mid new : Living) (now : Bool) (number : ℕ) (was : IsLeast old)
    (records : mid.records ≡ old.records) (processes : mid.processes ≡ old.processes)
    (least : mid.least.items ≡ old.least.items) (known : mid.is_numbered ≡ old.is_numbered)
    (numbers : (other : ℕ) → living_in mid other ≡ changed now number (living_in old) other)
    (most : IsMost mid.most (living_in mid)) (last : new ≡ record mid { least = new.least }) where
  abbrev all_records : List RecordValue
  all_records = mid.records.now

  lives_are : living_in mid ≡ changed now number (living_in old)
  lives_are = λ i other. numbers other i

  numbered_still : mid.is_numbered ≡ true → are_numbered 1 all_records ≡ true
  numbered_still is = ap (λ (rs : Bor (List RecordValue)). are_numbered 1 rs.now) records
      ∙ was.numbered (sym known ∙ is)

  were : mid.least.items ≡ least_living (living_in old) all_records mid.processes
  were =
      least ∙ was.numbers
      ∙ ap (λ (rs : Bor (List RecordValue)). least_living (living_in old) rs.now old.processes) (sym records)
      ∙ ap (least_living (living_in old) all_records) (sym processes)

  kept_by : new.least.items ≡ least_living (living_in mid) all_records mid.processes → IsLeast new
  kept_by are = subst IsLeast (sym last) (record { numbers = are; most = most; numbered = numbered_still })

  -- all were found anew
  pub found_anew : new.least.items ≡ least_living (living_in mid) all_records mid.processes → IsLeast new
  found_anew are = kept_by are

  -- or that of one process was changed
  pub changed_one : mid.is_numbered ≡ true
      → (are_numbered 1 all_records ≡ true → (lives : ℕ → Bool)
      → mid.least.items ≡ least_living lives all_records mid.processes
      → living_in mid ≡ changed now number lives
      → new.least.items ≡ least_living (changed now number lives) all_records mid.processes)
      → IsLeast new
  changed_one is one =
      kept_by (one (numbered_still is) (living_in old) were lives_are
      ∙ ap (λ lives. least_living lives all_records mid.processes) (sym lives_are))

pub on_ok : {A E : Type 0} (r : Result A E) (P Q : Type 0) → (P → Q) → OnOk r P → OnOk r Q
on_ok (Ok x) P Q f h = f h
on_ok (Err e) P Q f h = tt
