-- Tables that states share.
use Rattle.std.proofs.Common.{◌≡◌, ◌∙◌, ◌+◌, ◌&&◌, ◌<◌, ◌⊎◌, inl, inr, ℕ, zero, suc, ◌++◌, Bool, true, false, cond, List, [], ◌∷◌, Option, None, Some, ap, arith, flat_map, get_or, if◌then◌else◌, length, map, option_map, refl, slice_get, subst, sym, take, unwrap_or}
use Rattle.std.specs.Borrow.{Bor}
use Rattle.std.specs.Global.{Vec}
use Rattle.std.specs.Map.{lookup}
use Rattle.std.specs.Option.{option_or}
use Rattle.std.specs.Str.{bytes_eq}
use Rattle.std.proofs.lemmas.Grind.{flat_map-append}
use Rattle.std.proofs.lemmas.List.{length-map, map-append, take_more}
use Rattle.std.proofs.lemmas.Slice.Eq.{bytes_eq-Decides}
use Rattle.build_names.proofs.FaultLemmas.{both_noted}
use Rattle.build_names.proofs.NameLemmas.{lookup-append}
use Rattle.build_names.specs.Faults.{Diagnostic, least_of}
use Rattle.sdl_system.specs.declared.id.TableId.{TableId}
use Rattle.sdl_tree.specs.Words.{Spot}
use Rattle.build_states.specs.Reading.{Part}
use Rattle.build_states.specs.Outlined.{chosen, listed_part, parts_at, seen_in, with_turn}
use Rattle.build_states.specs.Shared.{AreShared, IsKnown, Keeps, KeepsKnown, faults_by, known_in, same_turn, same_turns, states_listed, table_at, table_by, turns_in}
use Rattle.build_states.specs.States.{Table, mentions_in, named_faults, parts_of, state_faults, table_named, table_of, tables_of, twice_faults, with_parts}
use Rattle.build_states.specs.Turned.{entry_kept, turns_found, turns_of}
use Rattle.build_states.specs.declared.outline.Turn.{Turn}
use Rattle.build_states.proofs.AgainLaws.{noted-again, noted-before}
use Rattle.build_states.proofs.AnswerLemmas.{mapped}
use Rattle.build_states.proofs.ChosenLaws.{chosen-parts, get-behind}
use Rattle.build_states.proofs.PartLemmas.{state_faults-append, with_parts-append}

-- ---- look-ups

pub same-mapped : {K X : Type 0} (test : K → Bool) (entries : List (Bor K × X)) →
    lookup test (map (λ entry. (entry.0.now, entry.1)) entries) ≡ lookup (λ key. test key.now) entries
same-mapped test [] = refl
same-mapped test (entry ∷ entries) =
    ap (λ rest. cond (test entry.0.now) (Some entry.1) rest) (same-mapped test entries)

kept-mapped : (text : List ℕ) (entries : List (Bor (List ℕ) × Vec Turn)) →
    lookup (bytes_eq text) (map entry_kept entries)
    ≡ option_map (λ turns. turns.items) (lookup (λ key. bytes_eq text key.now) entries)
kept-mapped text [] = refl
kept-mapped text (entry ∷ entries) =
    mapped (λ turns. turns.items) (bytes_eq text entry.0.now) entry.1 (lookup (λ key. bytes_eq text key.now) entries)
    (lookup (bytes_eq text) (map entry_kept entries)) (kept-mapped text entries)

abbrev pub turns_kept : Option (Vec Turn) → List Turn
turns_kept kept = turns_found (option_map (λ turns. turns.items) kept)

-- where a name stands, by what the code finds
pub turns-kept : (entries : List (Bor (List ℕ) × Vec Turn)) (text : List ℕ) →
    turns_kept (lookup (λ key. bytes_eq text key.now) entries) ≡ turns_of (map entry_kept entries) text
turns-kept entries text = ap turns_found (sym (kept-mapped text entries))

pub unwrapped : (kept : Option (Vec Turn)) (none : Vec Turn) → none.items ≡ [] →
    (unwrap_or kept none).items ≡ turns_kept kept
unwrapped None none is = is
unwrapped (Some turns) none is = refl

bytes-turned : (xs ys : List ℕ) (b : Bool) → bytes_eq xs ys ≡ b → bytes_eq ys xs ≡ b
bytes-turned xs ys true is =
    (bytes_eq-Decides ys xs).1 (sym ((bytes_eq-Decides xs ys).0 is))
bytes-turned xs ys false is = by (bytes_eq ys xs) refl
  where
    by : (b : Bool) → bytes_eq ys xs ≡ b → bytes_eq ys xs ≡ false
    by true turned =
        let same : bytes_eq xs ys ≡ true = (bytes_eq-Decides xs ys).1 (sym ((bytes_eq-Decides ys xs).0 turned)) in
        let never : false ≡ true = sym is ∙ same in
        cc
    by false turned = turned

-- one more place where a name stands
pub turn-added : (name text : List ℕ) (pushed : Vec Turn) (turn : Turn) (before : Option (Vec Turn))
    (old : List ℕ → List Turn) → turns_kept before ≡ old text → pushed.items ≡ with_turn (old name) turn →
    turns_kept (cond (bytes_eq name text) (Some pushed) (cond (bytes_eq name text) None before))
    ≡ (if bytes_eq text name then with_turn (old text) turn else old text)
turn-added name text pushed turn before old is new = by (bytes_eq name text) refl
  where
    by : (b : Bool) → bytes_eq name text ≡ b → turns_kept (cond b (Some pushed) (cond b None before))
        ≡ (if bytes_eq text name then with_turn (old text) turn else old text)
    by true same =
        new ∙ ap (λ t. with_turn (old t) turn) ((bytes_eq-Decides name text).0 same)
        ∙ ap (λ b. if b then with_turn (old text) turn else old text) (sym (bytes-turned name text true same))
    by false other =
        is ∙ ap (λ b. if b then with_turn (old text) turn else old text) (sym (bytes-turned name text false other))

-- ---- the parts of a table

pub part-mapped : {A B : Type 0} (f : A → B) (xs : List A) (n : ℕ) →
    slice_get (map f xs) n ≡ option_map f (slice_get xs n)
part-mapped f [] n = refl
part-mapped f (x ∷ xs) zero = refl
part-mapped f (x ∷ xs) (suc n) = part-mapped f xs n

module _ (all : List Part) (numbers : List ℕ) (i : ℕ) (d : ℕ) (below : i < length numbers)
    (found : Option Part) (is : found ≡ slice_get all (get_or numbers i d))
    (table : Table) (before : table ≡ table_of (parts_at all (take i numbers))) where
  one-more : parts_at all (take (i + 1) numbers) ≡ parts_at all (take i numbers) ++ listed_part found
  one-more =
      ap (parts_at all) (take_more numbers i d below)
      ∙ flat_map-append (λ number. listed_part (slice_get all number)) (take i numbers) (get_or numbers i d ∷ [])
      ∙ ap (λ here. parts_at all (take i numbers) ++ (listed_part here ++ [])) (sym is)
      ∙ ap (λ here. parts_at all (take i numbers) ++ here) (alone found)
    where
      alone : (part : Option Part) → listed_part part ++ [] ≡ listed_part part
      alone None = refl
      alone (Some part) = refl

  pub listed-added : (new : Table) → new ≡ with_parts table (listed_part found) →
      new ≡ table_of (parts_at all (take (i + 1) numbers))
  listed-added new added =
      added ∙ ap (λ t. with_parts t (listed_part found)) before
      ∙ with_parts-append (parts_at all (take i numbers)) (listed_part found)
      ∙ ap table_of (sym one-more)

  pub listed-noted : (old now new : Option Diagnostic) →
      now ≡ least_of old (state_faults (parts_at all (take i numbers))) →
      new ≡ least_of now (twice_faults table.answers (mentions_in (listed_part found))) →
      new ≡ least_of old (state_faults (parts_at all (take (i + 1) numbers)))
  listed-noted old now new noted added =
      let done = parts_at all (take i numbers) in
      let here = listed_part found in
      added
      ∙ ap (λ t. least_of now (twice_faults t.answers (mentions_in here))) before
      ∙ ap (λ told. least_of told (twice_faults (table_of done).answers (mentions_in here))) noted
      ∙ both_noted old (state_faults done) (twice_faults (table_of done).answers (mentions_in here))
      ∙ ap (least_of old) (sym (ap state_faults one-more ∙ state_faults-append done here))

-- ---- what is known

turn-made : (a : Turn) (part : ℕ) (goes : Bool) (until from : ℕ) → a.part ≡ part → a.is_left_out ≡ goes →
    a.until ≡ until → a.from ≡ from → a ≡ record { part = part; is_left_out = goes; until = until; from = from }
turn-made a part goes until from parts out up on =
    ap (λ n. record { part = n; is_left_out = a.is_left_out; until = a.until; from = a.from }) parts
    ∙ ap (λ g. record { part = part; is_left_out = g; until = a.until; from = a.from }) out
    ∙ ap (λ u. record { part = part; is_left_out = goes; until = u; from = a.from }) up
    ∙ ap (λ f. record { part = part; is_left_out = goes; until = until; from = f }) on

turn-same : (a b : Turn) → same_turn a b ≡ true → a ≡ b
turn-same a b same =
    let parts : a.part ≡ b.part = grind arith in
    let goes : a.is_left_out ≡ b.is_left_out = grind arith in
    let until : a.until ≡ b.until = grind arith in
    let from : a.from ≡ b.from = grind arith in
    turn-made a b.part b.is_left_out b.until b.from parts goes until from

both-true : (a b : Bool) → (a && b) ≡ true → (a ≡ true) × (b ≡ true)
both-true true b h = (refl, h)
both-true false b h = let never : false ≡ true = h in cc

turns-same : (xs ys : List Turn) → same_turns xs ys ≡ true → xs ≡ ys
turns-same [] [] same = refl
turns-same [] (y ∷ ys) same = cc
turns-same (x ∷ xs) [] same = cc
turns-same (x ∷ xs) (y ∷ ys) same =
    let both = both-true (same_turn x y) (same_turns xs ys) same in
    ap (λ z. z ∷ xs) (turn-same x y both.0) ∙ ap (λ zs. y ∷ zs) (turns-same xs ys both.1)

turn-itself : (a : Turn) → same_turn a a ≡ true
turn-itself a = grind arith

turns-themselves : (xs : List Turn) → same_turns xs xs ≡ true
turns-themselves [] = refl
turns-themselves (x ∷ xs) = ap (λ b. b && same_turns xs xs) (turn-itself x) ∙ turns-themselves xs

get-kept : {A : Type 0} (xs ys : List A) (n : ℕ) (x : A) → slice_get xs n ≡ Some x → slice_get (xs ++ ys) n ≡ Some x
get-kept [] ys n x h = cc
get-kept (y ∷ xs) ys zero x h = h
get-kept (y ∷ xs) ys (suc n) x h = get-kept xs ys n x h

-- a table that comes behind others
pub tables-kept : (tables : List Table) (table : Table) → Keeps tables (tables ++ table ∷ [])
tables-kept tables table number other h = get-kept tables (table ∷ []) number.0 other h

found-either : {A : Type 0} (found : Option A) (same : Bool) (x y : A) →
    option_or found (cond same (Some x) None) ≡ Some y → (found ≡ Some y) ⊎ ((same ≡ true) × (x ≡ y))
found-either None true x y h = let e : x ≡ y = cc in inr (refl, e)
found-either None false x y h = cc
found-either (Some z) same x y h = inl h

module _ (parts : List Part) (stars : List ℕ) (turns : List Turn) (known : List (List Turn × TableId))
    (tables : List Table) (old : Option Diagnostic) (number : TableId) (at : number.0 ≡ length tables)
    (before : IsKnown parts stars known tables old) where
  pub added-read : (table : Table) → table ≡ table_by parts stars turns →
      table_at (tables ++ table ∷ []) number ≡ Some (table_by parts stars turns)
  added-read table is =
      ap (slice_get (tables ++ table ∷ [])) at ∙ get-behind tables table [] ∙ ap (λ t. Some t) is

  known-either : (other : List Turn) (found : TableId) → known_in (known ++ (turns, number) ∷ []) other ≡ Some found →
      (known_in known other ≡ Some found) ⊎ ((same_turns other turns ≡ true) × (number ≡ found))
  known-either other found h =
      found-either (known_in known other) (same_turns other turns) number found
      (sym (lookup-append (same_turns other) known ((turns, number) ∷ [])) ∙ h)

  pub known-more : (table : Table) (new : Option Diagnostic) → table ≡ table_by parts stars turns →
      new ≡ least_of old (faults_by parts stars turns) →
      IsKnown parts stars (known ++ (turns, number) ∷ []) (tables ++ table ∷ []) new
  known-more table new is told = record {
    right = λ other found h. elim (known-either other found h) [
      | inl e ↦ tables-kept tables table found (table_by parts stars other) (before.right other found e)
      | inr e ↦ subst (λ n. table_at (tables ++ table ∷ []) n ≡ Some (table_by parts stars other)) e.1
          (subst (λ ts. table_at (tables ++ table ∷ []) number ≡ Some (table_by parts stars ts))
          (sym (turns-same other turns e.0)) (added-read table is))
    ];
    noted = λ other found h. elim (known-either other found h) [
      | inl e ↦ subst (λ t. least_of t (faults_by parts stars other) ≡ t) (sym told)
          (noted-before old (faults_by parts stars other) (faults_by parts stars turns) (before.noted other found e))
      | inr e ↦ subst (λ t. least_of t (faults_by parts stars other) ≡ t) (sym told)
          (subst (λ ts. least_of (least_of old (faults_by parts stars turns)) (faults_by parts stars ts)
          ≡ least_of old (faults_by parts stars turns)) (sym (turns-same other turns e.0))
          (noted-again old (faults_by parts stars turns)))
    ];
  }

-- what is known behind one more
module _ (known : List (List Turn × TableId)) (turns : List Turn) (number : TableId) where
  pub known-stays : KeepsKnown known (known ++ (turns, number) ∷ [])
  known-stays other found h =
      lookup-append (same_turns other) known ((turns, number) ∷ [])
      ∙ ap (λ at. option_or at (lookup (same_turns other) ((turns, number) ∷ []))) h

  pub known-found : known_in known turns ≡ None → known_in (known ++ (turns, number) ∷ []) turns ≡ Some number
  known-found none =
      lookup-append (same_turns turns) known ((turns, number) ∷ [])
      ∙ ap (λ at. option_or at (lookup (same_turns turns) ((turns, number) ∷ []))) none
      ∙ ap (λ b. cond b (Some number) None) (turns-themselves turns)

-- nothing is known yet
pub nothing-known : (parts : List Part) (stars : List ℕ) (told : Option Diagnostic) → IsKnown parts stars [] [] told
nothing-known parts stars told =
    record { right = λ turns number h. never h; noted = λ turns number h. absurd (never-at h) }
  where
    never-at : {n : TableId} → None ≡ Some n → ⊥
    never-at h = cc

    never : {n : TableId} {P : Type 0} → None ≡ Some n → P
    never h = cc

-- ---- one more state

numbers-kept : (old new : List Table) → Keeps old new → (numbers : List TableId) (tables : List Table) →
    map (table_at old) numbers ≡ map (λ t. Some t) tables → map (table_at new) numbers ≡ map (λ t. Some t) tables
numbers-kept old new keeps [] [] h = refl
numbers-kept old new keeps [] (table ∷ tables) h = cc
numbers-kept old new keeps (number ∷ numbers) [] h = cc
numbers-kept old new keeps (number ∷ numbers) (table ∷ tables) h =
    let here : table_at old number ≡ Some table = cc in
    let there : map (table_at old) numbers ≡ map (λ t. Some t) tables = cc in
    ap (λ found. found ∷ map (table_at new) numbers) (keeps number table here)
    ∙ ap (λ rest. Some table ∷ rest) (numbers-kept old new keeps numbers tables there)

module _ (parts : List Part) (stars : List ℕ) (turns : List Turn) (name : Spot)
    (seen : record { stars = stars; turns = turns } ≡ seen_in name.text (states_listed parts)) where
  own-parts : parts_at parts (chosen (record { stars = stars; turns = turns })) ≡ parts_of name.text parts
  own-parts = ap (λ s. parts_at parts (chosen s)) seen ∙ chosen-parts name.text parts

  pub own-table : table_by parts stars turns ≡ table_named parts name
  own-table = ap table_of own-parts

  pub own-faults : faults_by parts stars turns ≡ named_faults parts name
  own-faults = ap state_faults own-parts

-- the table of one more state, behind those of others
pub states-more : (parts : List Part) (done : List Spot) (name : Spot) (old new : List Table)
    (numbers : List TableId) (number : TableId) → Keeps old new →
    map (table_at old) numbers ≡ map (λ t. Some t) (tables_of parts done) →
    table_at new number ≡ Some (table_named parts name) →
    map (table_at new) (numbers ++ number ∷ []) ≡ map (λ t. Some t) (tables_of parts (done ++ name ∷ []))
states-more parts done name old new numbers number keeps before here =
    map-append (table_at new) numbers (number ∷ [])
    ∙ ap (λ list. list ++ table_at new number ∷ []) (numbers-kept old new keeps numbers (tables_of parts done) before)
    ∙ ap (λ found. map (λ t. Some t) (tables_of parts done) ++ found ∷ []) here
    ∙ sym (ap (map (λ t. Some t)) (map-append (table_named parts) done (name ∷ []))
    ∙ map-append (λ t. Some t) (tables_of parts done) (table_named parts name ∷ []))

pub states-noted : (parts : List Part) (done : List Spot) (name : Spot) (old now new : Option Diagnostic) →
    now ≡ least_of old (flat_map (named_faults parts) done) →
    new ≡ least_of now (named_faults parts name) →
    new ≡ least_of old (flat_map (named_faults parts) (done ++ name ∷ []))
states-noted parts done name old now new before here =
    here ∙ ap (λ t. least_of t (named_faults parts name)) before
    ∙ both_noted old (flat_map (named_faults parts) done) (named_faults parts name)
    ∙ ap (λ list. least_of old (flat_map (named_faults parts) done ++ list)) (sym (alone (named_faults parts name)))
    ∙ ap (least_of old) (sym (flat_map-append (named_faults parts) done (name ∷ [])))
  where
    alone : (xs : List Diagnostic) → xs ++ [] ≡ xs
    alone [] = refl
    alone (x ∷ xs) = ap (λ ys. x ∷ ys) (alone xs)

-- ---- states that share a table

-- the table of the state at this place is known, by where its name stands
pub record HasTable (parts : List Part) (known : List (List Turn × TableId)) (numbers : List TableId) (i : ℕ)
    (name : Spot) : Type 0 where
  pub number : TableId
  pub is_known : known_in known (turns_in parts name) ≡ Some number
  pub at : slice_get numbers i ≡ Some number

-- so is that of each of these states
abbrev pub HaveTables : List Part → List (List Turn × TableId) → List TableId → List Spot → Type 0
HaveTables parts known numbers names =
    (i : ℕ) (name : Spot) → slice_get names i ≡ Some name → HasTable parts known numbers i name

get-either : {A : Type 0} (xs : List A) (y : A) (i : ℕ) (z : A) → slice_get (xs ++ y ∷ []) i ≡ Some z →
    (slice_get xs i ≡ Some z) ⊎ ((i ≡ length xs) × (y ≡ z))
get-either [] y zero z h = let e : y ≡ z = cc in inr (refl, e)
get-either [] y (suc i) z h = cc
get-either (x ∷ xs) y zero z h = inl h
get-either (x ∷ xs) y (suc i) z h = elim (get-either xs y i z h) [
  | inl e ↦ inl e
  | inr e ↦ inr (ap suc e.0, e.1)
]

pub tables-had : (parts : List Part) (old new : List (List Turn × TableId)) (numbers : List TableId)
    (number : TableId) (done : List Spot) (name : Spot) → KeepsKnown old new → length numbers ≡ length done →
    HaveTables parts old numbers done → known_in new (turns_in parts name) ≡ Some number →
    HaveTables parts new (numbers ++ number ∷ []) (done ++ name ∷ [])
tables-had parts old new numbers number done name keeps size before here i other h =
    elim (get-either done name i other h) [
      | inl e ↦ was (before i other e)
      | inr e ↦ record {
        number = number;
        is_known = subst (λ n. known_in new (turns_in parts n) ≡ Some number) e.1 here;
        at = ap (slice_get (numbers ++ number ∷ [])) (e.0 ∙ sym size) ∙ get-behind numbers number [];
      }
    ]
  where
    was : HasTable parts old numbers i other → HasTable parts new (numbers ++ number ∷ []) i other
    was had = record {
      number = had.number;
      is_known = keeps (turns_in parts other) had.number had.is_known;
      at = get-kept numbers (number ∷ []) i had.number had.at;
    }

-- states whose names stand in the same state lists share it
pub tables-shared : (parts : List Part) (known : List (List Turn × TableId)) (numbers : List TableId)
    (names : List Spot) → HaveTables parts known numbers names → AreShared parts names numbers
tables-shared parts known numbers names have i j one other at there same =
    let here = have i one at in
    let beside = have j other there in
    here.at ∙ sym here.is_known ∙ ap (known_in known) same ∙ beside.is_known ∙ sym beside.at

pub as-many : (parts : List Part) (done : List Spot) (tables : List Table) (numbers : List TableId) →
    map (table_at tables) numbers ≡ map (λ t. Some t) (tables_of parts done) → length numbers ≡ length done
as-many parts done tables numbers read =
    sym (length-map numbers (table_at tables)) ∙ ap (λ list. length list) read
    ∙ length-map (tables_of parts done) (λ t. Some t) ∙ length-map done (table_named parts)
