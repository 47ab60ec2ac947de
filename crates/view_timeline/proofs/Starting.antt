-- Before anything is told.
use Rattle.std.proofs.Common.{◌≡◌, ℕ, zero, suc, ◌+◌, ◌<◌, List, [], ◌∷◌, ◌++◌, length, map, get_or, take, slice_get, None, Some, Bool, true, false, ◌||◌, ◌&&◌, ◌==◌, if◌then◌else◌, refl, sym, ◌∙◌, ap, subst, arith}
use Rattle.std.proofs.lemmas.List.{length-map, map-append, take_more}
use Rattle.std.specs.List.{AllByRecursion}
use Rattle.port_model.specs.declared.values.pid.Pid as pid
use Rattle.port_model.specs.declared.values.pid.Pid.TheVariants as who
use Rattle.run_record.specs.Record.{RecordValue}
use Rattle.view_timeline.specs.Cursor.{CursorValue}
use Rattle.view_timeline.specs.Events.{AreTold}
use Rattle.view_timeline.specs.Lives.{is_initial, is_null}
use Rattle.view_timeline.specs.Moves.{GoOn, IsLatest, IsPart, done_by, moves_of}
use Rattle.view_timeline.specs.Parts.{AreLongest}
use Rattle.view_timeline.specs.Rows.{RowsState}
use Rattle.view_timeline.specs.Traffic.{Ledger, Tells}
use Rattle.view_timeline.specs.declared.channel.Channel.{Channel}
use Rattle.view_timeline.specs.declared.events.Reached.{Reached}
use Rattle.view_timeline.specs.declared.moves.Move.{Move}
use Rattle.view_timeline.proofs.Steps.{tells-at, waits}

-- the cursor of a record of which nothing is told
abbrev pub fresh_cursor : RecordValue → CursorValue
fresh_cursor trace = record { number = trace.pid; told = 0; left = trace.events }

-- a record of which nothing is told
abbrev pub fresh : RecordValue → Reached
fresh trace = record { cursor = fresh_cursor trace; began = None }

pub get-map : {A B : Type 0} (f : A → B) (xs : List A) (k : ℕ) (x : A) → slice_get xs k ≡ Some x
    → slice_get (map f xs) k ≡ Some (f x)
get-map f [] k x is = let no : ⊥ = cc in absurd no
get-map f (a ∷ xs) zero x is = let e : a ≡ x = cc in ap (λ y. Some (f y)) e
get-map f (a ∷ xs) (suc k) x is = get-map f xs k x is

-- a ledger in which nothing is told
pub record IsFresh (records : List RecordValue) (now : Ledger) : Type 0 where
  pub links : now.links ≡ []
  pub arrows : now.arrows ≡ 0
  pub living : (number : ℕ) → now.living number ≡ is_initial records number
  pub begun : (number : ℕ) → now.begun number ≡ is_initial records number
  pub rows : (channel : Channel) → now.rows channel ≡ []

or-none : (b : Bool) → b ≡ (b || false)
or-none true = refl
or-none false = refl

pub tells-fresh : (records : List RecordValue) (living begun : ℕ → Bool) (rows : RowsState)
    → ((number : ℕ) → living number ≡ is_initial records number)
    → ((number : ℕ) → begun number ≡ is_initial records number) → ((channel : Channel) → rows channel ≡ [])
    → Tells records [] (record { links = []; arrows = 0; living = living; begun = begun; rows = rows })
tells-fresh records living begun rows lives_so begun_so empty = record {
  right = tt;
  drawn = λ number lt. let no : ⊥ = omega (arith, lt) in absurd no;
  below = tt;
  living = lives_so;
  begun = λ number. begun_so number ∙ or-none (is_initial records number);
  waiting = λ channel. sym (empty channel);
  in_order = λ channel. ap (map waits) (sym (empty channel));
}

pub keeps-fresh : (records : List RecordValue) (moves : List Move) (all : List Reached) (now : Ledger) → moves ≡ []
    → all ≡ map fresh records → IsFresh records now → AreTold records moves all now
keeps-fresh records moves all now none fresh_all ledger = record {
  as_many = ap length fresh_all ∙ length-map records fresh;
  parts = subst (AllByRecursion (IsPart records)) (sym none) tt;
  longest = subst (AreLongest records) (sym none) tt;
  told = λ place trace is_there. record {
    one = fresh trace;
    is_there = ap (λ l. slice_get l place) fresh_all ∙ get-map fresh records place trace is_there;
    at = record { number = refl; first = []; all = refl; told = refl };
    began_is = refl;
    told = subst (λ ms. GoOn 0 (moves_of place ms) 0) (sym none) refl;
  };
  tells = subst (λ ms. Tells records (done_by records ms) now) (sym none)
      (tells-at records [] now [] 0 ledger.links ledger.arrows
      (tells-fresh records now.living now.begun now.rows ledger.living ledger.begun ledger.rows));
}

pub latest-fresh : (records : List RecordValue) (moves : List Move) (time : ℕ) → moves ≡ [] → time ≡ 0
    → IsLatest time (done_by records moves)
latest-fresh records moves time none first =
    subst (λ ms. IsLatest time (done_by records ms)) (sym none) (record {
      up_to = record { forward = tt; up_to = tt };
      is_told = λ some. let no : ⊥ = omega (arith, some, first) in absurd no;
    })

-- ---- one record more

-- up to a place
pub fresh-more : (records : List RecordValue) (i : ℕ) (trace : RecordValue) (items new : List Reached)
    (cursor : CursorValue) → i < length records → trace ≡ get_or records i trace → items ≡ map fresh (take i records)
    → cursor ≡ fresh_cursor trace → new ≡ items ++ (record { cursor = cursor; began = None }) ∷ []
    → new ≡ map fresh (take (i + 1) records)
fresh-more records i trace items new cursor lt at items_are cursor_is grows =
    grows ∙ ap (λ l. l ++ (record { cursor = cursor; began = None }) ∷ []) items_are
    ∙ ap (λ (c : CursorValue). map fresh (take i records) ++ (record { cursor = c; began = None }) ∷ []) cursor_is
    ∙ ap (λ (t : RecordValue). map fresh (take i records) ++ fresh t ∷ []) at
    ∙ sym (map-append fresh (take i records) (get_or records i trace ∷ []))
    ∙ ap (map fresh) (sym (take_more records i trace lt))

-- who lives and who has begun, with one more

or-last : (a b : Bool) (c d : Bool) → c ≡ (b || d) → (a || c) ≡ ((a || b) || d)
or-last true b c d is = refl
or-last false b c d is = is

initial-last : (records : List RecordValue) (trace : RecordValue) (n : ℕ)
    → is_initial (records ++ trace ∷ []) n ≡ (is_initial records n || ((trace.pid == n) && is_null trace.parent))
initial-last [] trace n = or-nothing ((trace.pid == n) && is_null trace.parent)
  where
    or-nothing : (b : Bool) → (b || false) ≡ b
    or-nothing true = refl
    or-nothing false = refl
initial-last (r ∷ records) trace n =
    or-last ((r.pid == n) && is_null r.parent) (is_initial records n) (is_initial (records ++ trace ∷ []) n)
    ((trace.pid == n) && is_null trace.parent) (initial-last records trace n)

pub ledger-more : (records : List RecordValue) (trace : RecordValue) (old new : Ledger) → IsFresh records old
    → new.links ≡ old.links → new.arrows ≡ old.arrows → ((channel : Channel) → new.rows channel ≡ old.rows channel)
    → ((n : ℕ) → new.living n ≡ (old.living n || ((trace.pid == n) && is_null trace.parent)))
    → ((n : ℕ) → new.begun n ≡ (old.begun n || ((trace.pid == n) && is_null trace.parent)))
    → IsFresh (records ++ trace ∷ []) new
ledger-more records trace old new was links arrows rows living begun = record {
  links = links ∙ was.links;
  arrows = arrows ∙ was.arrows;
  living = λ n. living n
      ∙ ap (λ b. b || ((trace.pid == n) && is_null trace.parent)) (was.living n)
      ∙ sym (initial-last records trace n);
  begun = λ n. begun n
      ∙ ap (λ b. b || ((trace.pid == n) && is_null trace.parent)) (was.begun n)
      ∙ sym (initial-last records trace n);
  rows = λ channel. rows channel ∙ was.rows channel;
}

pub ledger-records : (records : List RecordValue) (i : ℕ) (trace : RecordValue) (now : Ledger) → i < length records
    → trace ≡ get_or records i trace → IsFresh (take i records ++ trace ∷ []) now
    → IsFresh (take (i + 1) records) now
ledger-records records i trace now lt at fresh_so =
    subst (λ rs. IsFresh rs now) (ap (λ x. take i records ++ x ∷ []) at ∙ sym (take_more records i trace lt)) fresh_so

-- ---- who is admitted

pub admits-null : (number n : ℕ) (parent : pid.Pid) (was now : Bool) → who.Null ≡ parent
    → now ≡ (if number == n then true else was) → now ≡ (was || ((number == n) && is_null parent))
admits-null number n parent was now null is =
    is ∙ subst (λ (p : pid.Pid). (if number == n then true else was) ≡ (was || ((number == n) && is_null p))) null
    (by was (number == n))
  where
    by : (a b : Bool) → (if b then true else a) ≡ (a || (b && true))
    by true true = refl
    by true false = refl
    by false true = refl
    by false false = refl

not-null : (parent : pid.Pid) → (parent ≡ who.Null → ⊥) → is_null parent ≡ false
not-null who.Null never = absurd (never refl)
not-null who.Env never = refl
not-null (who.Of number) never = refl

pub admits-other : (number n : ℕ) (parent : pid.Pid) (was : Bool) → (parent ≡ who.Null → ⊥)
    → was ≡ (was || ((number == n) && is_null parent))
admits-other number n parent was never = by was (number == n) (is_null parent) (not-null parent never)
  where
    by : (a b c : Bool) → c ≡ false → a ≡ (a || (b && c))
    by true b c none = refl
    by false true c none = sym none
    by false false c none = refl
