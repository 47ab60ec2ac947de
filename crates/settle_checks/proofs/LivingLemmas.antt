-- Who may have lived at one time.
use Rattle.std.proofs.Common.{◌≡◌, ◌∙◌, ap, append-nil, append_assoc, cond, refl, subst, sym, ℕ, Bool, true, false, List, [], ◌∷◌, ◌++◌, All, Option}
use Rattle.std.specs.Prelude.{Contains, filter, map}
use Rattle.std.proofs.lemmas.List.{map-append}
use Rattle.std.proofs.lemmas.List.Elements.{All-cons, All-filter, All-map, All-nil, All-push, All-weaker, Contains-append_left, Contains-append_right, Contains-push, filter-append}
use Rattle.run_record.specs.Record.{RecordValue}
use Rattle.port_model.specs.declared.values.item.SignalId.{SignalId}
use Rattle.sdl_system.specs.Route.{target_in}
use Rattle.sdl_system.specs.System.{SystemValue}
use Rattle.sdl_system.specs.declared.id.ProcessId.{ProcessId}
use Rattle.sdl_system.specs.declared.route.Dest.{Dest}
use Rattle.sdl_system.specs.declared.route.Source.{Source}
use Rattle.sdl_system.specs.declared.route.Target.{Target}
use Rattle.settle_checks.proofs.Least.{least_add}
use Rattle.settle_checks.proofs.Lists.{all_mapped}
use Rattle.settle_checks.specs.Events.{IsProcessOf}
use Rattle.settle_checks.specs.Least.{Adds, HasLeast, lasting_of}
use Rattle.settle_meaning.specs.Identities.{identities_of, identity_of}
use Rattle.settle_meaning.specs.Living.{AreLiving, GoesBy, is_lasting}

lasting_append : (first later : List RecordValue) → lasting_of (first ++ later) ≡ lasting_of first ++ lasting_of later
lasting_append first later =
    ap (λ (l : List RecordValue). map identity_of l) (filter-append is_lasting first later)
    ∙ map-append identity_of (filter is_lasting first) (filter is_lasting later)

one_lasts : (trace : RecordValue) (b : Bool) → is_lasting trace ≡ b
    → lasting_of (trace ∷ []) ≡ cond b (identity_of trace ∷ []) []
one_lasts trace b is =
    ap (λ b. map identity_of (cond b (trace ∷ []) [])) is ∙ by_test b where
      by_test : (b : Bool) → map identity_of (cond b (trace ∷ []) []) ≡ cond b (identity_of trace ∷ []) []
      by_test true = refl
      by_test false = refl

-- a record more: its instance is added, or isn't one of them
pub lasting_more : (done : List RecordValue) (trace : RecordValue) (old new : List (Option ℕ))
    → is_lasting trace ≡ true → Adds old trace.process trace.pid new → HasLeast (lasting_of done) old
    → HasLeast (lasting_of (done ++ trace ∷ [])) new
lasting_more done trace old new is adds has =
    subst (λ living. HasLeast living new)
    (sym (lasting_append done (trace ∷ []) ∙ ap (λ l. lasting_of done ++ l) (one_lasts trace true is)))
    (least_add (lasting_of done) (identity_of trace) old new adds has)

pub lasting_same : (done : List RecordValue) (trace : RecordValue) (least : List (Option ℕ))
    → is_lasting trace ≡ false → HasLeast (lasting_of done) least → HasLeast (lasting_of (done ++ trace ∷ [])) least
lasting_same done trace least is has =
    subst (λ living. HasLeast living least)
    (sym (lasting_append done (trace ∷ []) ∙ ap (λ l. lasting_of done ++ l) (one_lasts trace false is)
    ∙ append-nil (lasting_of done)))
    has

-- ---- in the end

lasting_among : (before rest : List RecordValue)
    → All (λ (trace : RecordValue). is_lasting trace ≡ true → Contains (lasting_of (before ++ rest)) (identity_of trace)) rest
lasting_among before [] = All-nil (λ (trace : RecordValue).
    is_lasting trace ≡ true → Contains (lasting_of (before ++ [])) (identity_of trace))
lasting_among before (trace ∷ rest) =
    All-cons
    (λ (t : RecordValue). is_lasting t ≡ true → Contains (lasting_of (before ++ trace ∷ rest)) (identity_of t)) trace rest
    (λ is.
    subst (λ l. Contains l (identity_of trace)) (sym (lasting_append before (trace ∷ rest)))
    (Contains-append_right (lasting_of before) (lasting_of (trace ∷ rest)) (identity_of trace) (first is)))
    (subst (λ (l : List RecordValue). All (λ (t : RecordValue). is_lasting t ≡ true
    → Contains (lasting_of l) (identity_of t)) rest) (append_assoc before (trace ∷ []) rest)
    (lasting_among (before ++ trace ∷ []) rest)) where
      first : is_lasting trace ≡ true → Contains (lasting_of (trace ∷ rest)) (identity_of trace)
      first is =
          subst (λ l. Contains l (identity_of trace))
          (sym (lasting_append (trace ∷ []) rest ∙ ap (λ l. l ++ lasting_of rest) (one_lasts trace true is)))
          (Contains-append_left (identity_of trace ∷ []) (lasting_of rest) (identity_of trace)
          (Contains-push [] (identity_of trace)))

pub lasting_live : (records : List RecordValue) (least : List (Option ℕ)) → HasLeast (lasting_of records) least
    → AreLiving records least
lasting_live records least has = record {
  living = lasting_of records;
  recorded = All-map (Contains (identities_of records)) identity_of (filter is_lasting records)
      (All-filter is_lasting (λ (t : RecordValue). Contains (identities_of records) (identity_of t)) records
      (all_mapped identity_of records));
  lasting = lasting_among [] records;
  least_is = has;
}

-- ---- one instance more lives

pub one_more_lives : (records : List RecordValue) (old new : List (Option ℕ)) (process : ProcessId) (number : ℕ)
    → IsProcessOf records number process → Adds old process number new → AreLiving records old → AreLiving records new
one_more_lives records old new process number is adds lives = record {
  living = lives.living ++ is.who ∷ [];
  recorded = All-push (Contains (identities_of records)) lives.living is.who lives.recorded is.among;
  lasting = All-weaker (λ (t : RecordValue). is_lasting t ≡ true → Contains lives.living (identity_of t))
      (λ (t : RecordValue). is_lasting t ≡ true → Contains (lives.living ++ is.who ∷ []) (identity_of t))
      (λ t among lasts. Contains-append_left lives.living (is.who ∷ []) (identity_of t) (among lasts)) records
      lives.lasting;
  least_is = least_add lives.living is.who old new
      (subst (λ n. Adds old is.who.process n new) (sym is.number_is)
      (subst (λ p. Adds old p number new) (sym is.process_is) adds))
      lives.least_is;
}

pub goes_by : (system : SystemValue) (records : List RecordValue) (least : List (Option ℕ)) (signal : SignalId)
    (from : Source) (to : Dest) (target : Target) → AreLiving records least
    → target ≡ target_in system.routes signal from to least → GoesBy system records signal from to target
goes_by system records least signal from to target lives is = record { least = least; living = lives; goes = is }
