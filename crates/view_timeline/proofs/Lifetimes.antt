-- Who lives, and who has begun, once one more thing was done.
use Rattle.std.proofs.Common.{◌≡◌, ℕ, ◌||◌, Bool, true, false, List, [], ◌∷◌, ◌++◌, Option, None, Some, IfSome, if◌then◌else◌, refl, sym, ◌∙◌, ap}
use Rattle.std.specs.List.{list_any}
use Rattle.run_record.specs.Record.{RecordValue}
use Rattle.view_timeline.specs.Did.{Did}
use Rattle.view_timeline.specs.Lives.{begun_on, creates, has_begun, is_initial, lives, lives_after, lives_on}

pub lives_after-last : (number : ℕ) (before : Bool) (done : List Did) (d : Did)
    → lives_after number before (done ++ d ∷ []) ≡ lives_on number d (lives_after number before done)
lives_after-last number before [] d = refl
lives_after-last number before (x ∷ done) d = lives_after-last number (lives_on number x before) done d

pub lives-last : (records : List RecordValue) (done : List Did) (d : Did) (number : ℕ)
    → lives records (done ++ d ∷ []) number ≡ lives_on number d (lives records done number)
lives-last records done d number = lives_after-last number (is_initial records number) done d

-- ---- who has begun

or-assoc : (a b c : Bool) → (a || (b || c)) ≡ ((a || b) || c)
or-assoc true b c = refl
or-assoc false b c = refl

any-last : (before : Bool) (number : ℕ) (done : List Did) (d : Did)
    → (before || list_any (λ (one : Did). creates number one.event) (done ++ d ∷ []))
    ≡ begun_on number d.event (before || list_any (λ (one : Did). creates number one.event) done)
any-last before number [] d = by before (creates number d.event)
  where
    by : (a b : Bool) → (a || (b || false)) ≡ (if b then true else (a || false))
    by true true = refl
    by true false = refl
    by false true = refl
    by false false = refl
any-last before number (one ∷ done) d =
    or-assoc before (creates number one.event) (list_any (λ (other : Did). creates number other.event) (done ++ d ∷ []))
    ∙ any-last (before || creates number one.event) number done d
    ∙ ap (begun_on number d.event) (sym (or-assoc before (creates number one.event)
    (list_any (λ (other : Did). creates number other.event) done)))

pub begun-last : (records : List RecordValue) (done : List Did) (d : Did) (number : ℕ)
    → has_begun records (done ++ d ∷ []) number ≡ begun_on number d.event (has_begun records done number)
begun-last records done d number = any-last (is_initial records number) number done d

-- the same where it is known by another account
pub if_some-along : (receiver : Option ℕ) (one other : ℕ → Bool) → ((n : ℕ) → other n ≡ one n)
    → IfSome receiver (λ n. one n ≡ true) → IfSome receiver (λ n. other n ≡ true)
if_some-along None one other same is = tt
if_some-along (Some n) one other same is = same n ∙ is
