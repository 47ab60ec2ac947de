-- Whom a record creates, with one event more.
use Rattle.std.proofs.Common.{◌≡◌, ◌∙◌, ap, append-nil, subst, sym, ⊎_elim, ℕ, List, [], ◌∷◌, ◌++◌, None, Option, Some, count_by}
use Rattle.std.specs.Prelude.{IfSome, map, option_to_list}
use Rattle.std.specs.List.{flat_map}
use Rattle.std.proofs.lemmas.Grind.{flat_map-append}
use Rattle.std.proofs.lemmas.List.{map_push}
use Rattle.std.proofs.lemmas.List.Elements.{Contains-append_left, Contains-push}
use Rattle.run_record.specs.declared.evaluation.identity.Identity.{Identity}
use Rattle.port_model.specs.declared.values.value.Value.{Value}
use Rattle.run_record.specs.Entry.{event_of}
use Rattle.run_record.specs.Event as event
use Rattle.run_record.specs.Event.{Event}
use Rattle.run_record.specs.declared.entry.Entry.{Entry}
use Rattle.run_record.specs.declared.entry.Entry.TheVariants as kept
use Rattle.sdl_system.specs.declared.id.ProcessId.{ProcessId}
use Rattle.settle_checks.specs.Events.{refused_in}
use Rattle.settle_meaning.specs.Identities.{created_by}
use Rattle.settle_meaning.specs.Times.{time_by}
use Rattle.settle_checks.proofs.Splits.{IsLast, StandsIn, last_or}
use Rattle.settle_checks.specs.Flows.{is_with, sent_passes}
use Rattle.settle_checks.specs.Summary.{CreatesAs, HasBirthAfter, IsCreating, IsSentBefore, child_of, number_in}
use Rattle.settle_checks.specs.declared.summing.creating.Birth.{Birth}
use Rattle.settle_checks.specs.declared.summing.creating.Creates.TheVariants.{Child, Nothing, Null}
use Rattle.settle_checks.specs.declared.summing.creating.Creating.{Creating}

-- what is told of one event more
pub flat_more : {X : Type 0} (f : Event → List X) (done : List Event) (happened : Event) (more : List X)
    → f happened ≡ more → flat_map f (done ++ happened ∷ []) ≡ flat_map f done ++ more
flat_more {X} f done happened more is =
    flat_map-append f done (happened ∷ []) ∙ ap (λ (l : List X). flat_map f done ++ l) (append-nil (f happened) ∙ is)

abbrev pub refusals : Event → List ProcessId
refusals happened = option_to_list (refused_in happened)

refused_none : (o : Option ProcessId) → o ≡ None → option_to_list o ≡ []
refused_none o none = ap (λ (p : Option ProcessId). option_to_list p) none

-- a create by one event more is the one of that event, or one before
module _ (done : List Event) (happened : Event) (births : List Birth)
    (each : (before later : List Event) (process : ProcessId) (number : ℕ)
    → done ≡ before ++ event.Create process (Some number) ∷ later → HasBirthAfter before process number births)
    (more : List Birth)
    (here : (process : ProcessId) (number : ℕ) → happened ≡ event.Create process (Some number)
    → HasBirthAfter done process number (births ++ more)) where
  each_more : (before later : List Event) (process : ProcessId) (number : ℕ)
      → done ++ happened ∷ [] ≡ before ++ event.Create process (Some number) ∷ later
      → HasBirthAfter before process number (births ++ more)
  each_more before later process number split =
      ⊎_elim
      (λ (end : IsLast done happened (event.Create process (Some number)) before later).
      subst (λ (l : List Event). HasBirthAfter l process number (births ++ more)) (sym end.before_is)
      (here process number end.same))
      (λ (stands : StandsIn done happened (event.Create process (Some number)) before later).
      let has : HasBirthAfter before process number births =
      each before stands.rest process number stands.stands in
      record {
        birth = has.birth;
        among = Contains-append_left births more has.birth has.among;
        tells = has.tells;
      })
      (last_or happened (event.Create process (Some number)) done before later split)

no_split : (before later : List Event) (happened : Event) → [] ≡ before ++ happened ∷ later → ⊥
no_split [] later happened is = cc
no_split (b ∷ bs) later happened is = cc

pub creating_none : (creating : Creating) → creating.births.items ≡ [] → creating.refused.items ≡ []
    → IsCreating [] creating
creating_none creating births refused = record {
  children = λ creator. ap (λ (l : List Birth). map (child_of creator) l) births;
  each = λ before later process number split.
      absurd (no_split before later (event.Create process (Some number)) split);
  refused = refused;
}

-- the number that an entry creates is that of its event
number_of_entry : (entry : Entry) (values : List Value) (process : ProcessId) (number : ℕ)
    → event_of entry values ≡ event.Create process (Some number) → number_in entry ≡ Some number
number_of_entry (kept.Create p o) values process number is = cc
number_of_entry entry values process number is = let wrong : ⊥ = cc in absurd wrong

pub sent_is : (done : List Event) (entry : Entry) (values : List Value) (process : ProcessId) (number sent : ℕ)
    → event_of entry values ≡ event.Create process (Some number) → IsSentBefore done entry sent
    → sent ≡ count_by (is_with number) (sent_passes 0 done)
sent_is done entry values process number sent is before =
    subst (λ (o : Option ℕ). IfSome o (λ n. sent ≡ count_by (is_with n) (sent_passes 0 done)))
    (number_of_entry entry values process number is) before

-- ---- by what the event creates

pub creating_nothing : (done : List Event) (happened : Event) (creating : Creating) → CreatesAs happened Nothing
    → IsCreating done creating → IsCreating (done ++ happened ∷ []) creating
creating_nothing done happened creating creates is = record {
  children = λ creator.
      is.children creator
      ∙ sym (flat_more (created_by creator) done happened [] (creates.0 creator)
      ∙ append-nil (flat_map (created_by creator) done));
  each = λ before later process number split.
      subst (λ (l : List Birth). HasBirthAfter before process number l) (append-nil creating.births.items)
      (each_more done happened creating.births.items is.each []
      (λ p n same. absurd (creates.2 p n same)) before later process number split);
  refused = is.refused
      ∙ sym (flat_more refusals done happened [] (refused_none (refused_in happened) creates.1)
      ∙ append-nil (flat_map refusals done));
}

pub creating_null : (done : List Event) (happened : Event) (process : ProcessId) (old new : Creating)
    → CreatesAs happened (Null process) → new.births.items ≡ old.births.items
    → new.refused.items ≡ old.refused.items ++ process ∷ [] → IsCreating done old
    → IsCreating (done ++ happened ∷ []) new
creating_null done happened process old new creates births refused is = record {
  children = λ creator.
      ap (λ (l : List Birth). map (child_of creator) l) births ∙ is.children creator
      ∙ sym (flat_more (created_by creator) done happened []
      (ap (λ (e : Event). created_by creator e) creates)
      ∙ append-nil (flat_map (created_by creator) done));
  each = λ before later p n split.
      subst (λ (l : List Birth). HasBirthAfter before p n l) (append-nil old.births.items ∙ sym births)
      (each_more done happened old.births.items is.each []
      (λ q m same. let wrong : ⊥ = null_or_child process q m (sym creates ∙ same) in absurd wrong)
      before later p n split);
  refused = refused ∙ ap (λ (l : List ProcessId). l ++ process ∷ []) is.refused
      ∙ sym (flat_more refusals done happened (process ∷ []) (ap (λ (e : Event). refusals e) creates));
} where
  null_or_child : (p q : ProcessId) (m : ℕ) → event.Create p None ≡ event.Create q (Some m) → ⊥
  null_or_child p q m e = cc

pub creating_child : (done : List Event) (happened : Event) (birth : Birth) (old new : Creating)
    → CreatesAs happened (Child birth.process birth.number) → birth.at ≡ time_by 0 done
    → birth.sent ≡ count_by (is_with birth.number) (sent_passes 0 done)
    → new.births.items ≡ old.births.items ++ birth ∷ [] → new.refused.items ≡ old.refused.items
    → IsCreating done old → IsCreating (done ++ happened ∷ []) new
creating_child done happened birth old new creates at sent births refused is = record {
  children = λ creator.
      ap (λ (l : List Birth). map (child_of creator) l) births
      ∙ map_push (child_of creator) old.births.items birth
      ∙ ap (λ (l : List Identity). l ++ child_of creator birth ∷ []) (is.children creator)
      ∙ sym (flat_more (created_by creator) done happened (child_of creator birth ∷ [])
      (ap (λ (e : Event). created_by creator e) creates));
  each = λ before later process number split.
      subst (λ (l : List Birth). HasBirthAfter before process number l) (sym births)
      (each_more done happened old.births.items is.each (birth ∷ []) here before later process number split);
  refused = refused ∙ is.refused
      ∙ sym (flat_more refusals done happened [] (ap (λ (e : Event). refusals e) creates)
      ∙ append-nil (flat_map refusals done));
} where
  process_of : {p q : ProcessId} {m n : ℕ} → event.Create p (Some m) ≡ event.Create q (Some n) → p ≡ q
  process_of e = cc

  number_of : {p q : ProcessId} {m n : ℕ} → event.Create p (Some m) ≡ event.Create q (Some n) → m ≡ n
  number_of e = cc

  here : (process : ProcessId) (number : ℕ) → happened ≡ event.Create process (Some number)
      → HasBirthAfter done process number (old.births.items ++ birth ∷ [])
  here process number same =
      let is_one : event.Create birth.process (Some birth.number) ≡ event.Create process (Some number) =
      sym creates ∙ same in
      record {
        birth = birth;
        among = Contains-push old.births.items birth;
        tells = record {
          process_is = process_of is_one;
          number_is = number_of is_one;
          at = at;
          sent = sent ∙ ap (λ n. count_by (is_with n) (sent_passes 0 done)) (number_of is_one);
        };
      }
