-- Who may have lived at one time.
use Rattle.std.proofs.Common.{◌≡◌, ◌∙◌, ap, append_assoc, cond, refl, subst, sym, ℕ, Bool, true, false, List, [], ◌∷◌, ◌++◌, All, Option}
use Rattle.std.specs.Prelude.{Contains, filter, map}
use Rattle.std.proofs.lemmas.List.{map-append}
use Rattle.std.proofs.lemmas.List.Elements.{All-cons, All-filter, All-map, All-nil, Contains-append_left, Contains-append_right, Contains-push, filter-append}
use Rattle.run_record.specs.Record.{RecordValue}
use Rattle.settle_checks.proofs.SummingLeast.{least_add}
use Rattle.settle_checks.proofs.SummingLists.{all_mapped}
use Rattle.settle_checks.specs.Least.{Adds, HasLeast, lasting_of}
use Rattle.settle_meaning.specs.Identities.{identities_of, identity_of}
use Rattle.settle_meaning.specs.Living.{AreLiving, is_lasting}

lasting_append : (first later : List RecordValue) → lasting_of (first ++ later) ≡ lasting_of first ++ lasting_of later
lasting_append first later =
    ap (λ (l : List RecordValue). map identity_of l) (filter-append is_lasting first later)
    ∙ map-append identity_of (filter is_lasting first) (filter is_lasting later)

one_lasts : (trace : RecordValue) (b : Bool) → is_lasting trace ≡ b
    → lasting_of (trace ∷ []) ≡ cond b (identity_of trace ∷ []) []
one_lasts trace b is =
    ap (λ b. map identity_of (cond b (trace ∷ []) [])) is ∙ by_test b where
      by_test : (b : Bool) → map identity_of (cond b (trace ∷ []) []) ≡ cond b (identity_of trace ∷ []) []
      by_test true = refl
      by_test false = refl

-- a record more: its instance is added, or isn't one of them
pub lasting_more : (done : List RecordValue) (trace : RecordValue) (old new : List (Option ℕ))
    → is_lasting trace ≡ true → Adds old trace.process trace.pid new → HasLeast (lasting_of done) old
    → HasLeast (lasting_of (done ++ trace ∷ [])) new
lasting_more done trace old new is adds has =
    subst (λ living. HasLeast living new)
    (sym (lasting_append done (trace ∷ []) ∙ ap (λ l. lasting_of done ++ l) (one_lasts trace true is)))
    (least_add (lasting_of done) (identity_of trace) old new adds has)

-- ---- in the end

lasting_among : (before rest : List RecordValue)
    → All (λ (trace : RecordValue). is_lasting trace ≡ true → Contains (lasting_of (before ++ rest)) (identity_of trace)) rest
lasting_among before [] = All-nil (λ (trace : RecordValue).
    is_lasting trace ≡ true → Contains (lasting_of (before ++ [])) (identity_of trace))
lasting_among before (trace ∷ rest) =
    All-cons
    (λ (t : RecordValue). is_lasting t ≡ true → Contains (lasting_of (before ++ trace ∷ rest)) (identity_of t)) trace rest
    (λ is.
    subst (λ l. Contains l (identity_of trace)) (sym (lasting_append before (trace ∷ rest)))
    (Contains-append_right (lasting_of before) (lasting_of (trace ∷ rest)) (identity_of trace) (first is)))
    (subst (λ (l : List RecordValue). All (λ (t : RecordValue). is_lasting t ≡ true
    → Contains (lasting_of l) (identity_of t)) rest) (append_assoc before (trace ∷ []) rest)
    (lasting_among (before ++ trace ∷ []) rest)) where
      first : is_lasting trace ≡ true → Contains (lasting_of (trace ∷ rest)) (identity_of trace)
      first is =
          subst (λ l. Contains l (identity_of trace))
          (sym (lasting_append (trace ∷ []) rest ∙ ap (λ l. l ++ lasting_of rest) (one_lasts trace true is)))
          (Contains-append_left (identity_of trace ∷ []) (lasting_of rest) (identity_of trace)
          (Contains-push [] (identity_of trace)))

pub lasting_live : (records : List RecordValue) (least : List (Option ℕ)) → HasLeast (lasting_of records) least
    → AreLiving records least
lasting_live records least has = record {
  living = lasting_of records;
  recorded = All-map (Contains (identities_of records)) identity_of (filter is_lasting records)
      (All-filter is_lasting (λ (t : RecordValue). Contains (identities_of records) (identity_of t)) records
      (all_mapped identity_of records));
  lasting = lasting_among [] records;
  least_is = has;
}

-- ---- one instance more lives
