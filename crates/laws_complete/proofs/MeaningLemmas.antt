-- What states mean whose conditions all come to something.
use Rattle.std.proofs.Common.{◌≡◌, ◌∙◌, ◌<◌, ℕ, zero, suc, Contains, IfSome, List, [], ◌∷◌, Option, None, Some, ap, arith, length, map, option_map, refl, slice_get, sym}
use Rattle.std.specs.List.{AllZip}
use Rattle.port_model.specs.declared.values.item.SignalId.{SignalId}
use Rattle.laws_complete.proofs.MentionedLemmas.{Begins, BeginsNumbered, Bounds, IsCondition, IsTable, found-begins, tried-each}
use Rattle.build_names.specs.FaultLaws.{Each}
use Rattle.build_states.specs.States.{Numbered, Table, meaning_of, named_in, numbered_from, state_of, table_named, tried}
use Rattle.build_states.specs.Mentions as said
use Rattle.build_states.specs.Reading.{Part}
use Rattle.sdl_system.specs.Behaviour.{StateMeaning, input, priority_input, save}
use Rattle.sdl_system.specs.Term.{Term}
use Rattle.sdl_system.specs.declared.id.ConditionId.{ConditionId}
use Rattle.build_tables.specs.Meant.{IsMeaning, come_to, condition_at, continuous_meaning, response_meaning}
use Rattle.sdl_tree.specs.Words.{Spot}

-- ---- what is there

abbrev Given : {A : Type 0} → Option A → Type 0
Given {A} found = (it : A) × (found ≡ Some it)

mapped-given : {A B : Type 0} (f : A → B) (found : Option A) → Given found → Given (option_map f found)
mapped-given f found given = (f given.0, ap (option_map f) given.1)

-- where each is there, so is the list
each-given : {A B : Type 0} (f : A → Option B) (xs : List A) → Each (λ x. Given (f x)) xs →
    (list : List B) × (map f xs ≡ map Some list)
each-given f [] each = ([], refl)
each-given f (x ∷ xs) each =
    let first = each.0 in
    let rest = each-given f xs each.1 in
    (first.0 ∷ rest.0, ap (λ one. one ∷ map f xs) first.1 ∙ ap (λ list. Some first.0 ∷ list) rest.1)

each-weaker : {A : Type 0} (P R : A → Type 0) (xs : List A) → ((x : A) → P x → R x) → Each P xs → Each R xs
each-weaker P R [] weaker each = tt
each-weaker P R (x ∷ xs) weaker each = (weaker x each.0, each-weaker P R xs weaker each.1)

-- what is there of what may be said
abbrev said_as : {A B : Type 0} → (A → Option B) → Option A → Option B
said_as f None = None
said_as f (Some x) = f x

as-given : {A B : Type 0} (f : A → Option B) (said : Option A) → IfSome said (λ x. Given (f x)) →
    option_map f said ≡ option_map Some (said_as f said)
as-given f None given = refl
as-given f (Some x) given = ap (λ one. Some one) given.1 ∙ sym (ap (option_map Some) given.1)

some-weaker : {A : Type 0} (P R : A → Type 0) (said : Option A) → ((x : A) → P x → R x) → IfSome said P → IfSome said R
some-weaker P R None weaker is = tt
some-weaker P R (Some x) weaker is = weaker x is

-- ---- conditions

behind : (conditions : List (Option Term)) (one : Option Term) → Contains conditions None →
    Contains (one ∷ conditions) None
behind conditions one (k, less, is) = (suc k, omega (arith, less), is)

condition-given : (conditions : List (Option Term)) → (Contains conditions None → ⊥) → (k : ℕ) → k < length conditions →
    Given (come_to (slice_get conditions k))
condition-given [] all k below = absurd (omega (arith, below))
condition-given (None ∷ conditions) all zero below = absurd (all (0, omega arith, refl))
condition-given (Some term ∷ conditions) all zero below = (term, refl)
condition-given (one ∷ conditions) all (suc k) below =
    condition-given conditions (λ listed. all (behind conditions one listed)) k (omega (arith, below))

module _ (conditions : List (Option Term)) (all : Contains conditions None → ⊥) (transitions : ℕ) where
  abbrev n : Bounds
  n = record { transitions = transitions; conditions = length conditions }

  at-given : (condition : ConditionId) → IsCondition n condition → Given (condition_at conditions condition)
  at-given condition below = condition-given conditions all condition.0 below

  response-given : (response : said.Response) → Begins n response → Given (response_meaning conditions response)
  response-given (said.input variables None begin) begins = (input variables None begin.0, refl)
  response-given (said.input variables (Some condition) begin) begins =
      mapped-given (λ term. input variables (Some term) begin.0) (condition_at conditions condition)
      (at-given condition begins.1)
  response-given (said.priority_input variables begin) begins = (priority_input variables begin.0, refl)
  response-given said.save begins = (save, refl)

  continuous-given : (one : Numbered) → BeginsNumbered n one → Given (continuous_meaning conditions one)
  continuous-given one begins =
      mapped-given _ (condition_at conditions one.signal.condition) (at-given one.signal.condition begins.1)

  some-given : (response : Option said.Response) → IfSome response (Begins n) →
      option_map (response_meaning conditions) response
      ≡ option_map Some (said_as (response_meaning conditions) response)
  some-given response begins =
      as-given (response_meaning conditions) response
      (some-weaker (Begins n) (λ one. Given (response_meaning conditions one)) response response-given begins)

  -- ---- states

  module _ (Q : SignalId → Type 0) where
    table-given : (name : List ℕ) (table : Table) → IsTable n Q table →
        (meaning : StateMeaning) × IsMeaning conditions (meaning_of name table) meaning
    table-given name table is =
        let enabling = each-given (condition_at conditions) table.enabling
        (each-weaker (IsCondition n) (λ one. Given (condition_at conditions one)) table.enabling at-given
        is.enabling) in
        let order = tried (numbered_from 1 table.continuous) in
        let continuous = each-given (continuous_meaning conditions) order
        (each-weaker (BeginsNumbered n) (λ one. Given (continuous_meaning conditions one)) order continuous-given
        (tried-each n table.continuous is.continuous)) in (
          record {
            name = name;
            named = λ signal. said_as (response_meaning conditions) (named_in table.answers.named signal);
            rest = said_as (response_meaning conditions) table.answers.rest;
            enabling = enabling.0;
            continuous = continuous.0;
          },
          record {
            name_is = refl;
            named_is = λ signal.
                some-given (named_in table.answers.named signal)
                (found-begins n Q table.answers.named signal is.answers.named);
            rest_is = some-given table.answers.rest is.answers.rest;
            enabling_is = enabling.1;
            continuous_is = continuous.1;
          },
        )

    -- what the states of these names mean
    pub states-given : (parts : List Part) (names : List Spot) →
        ((name : Spot) → IsTable n Q (table_named parts name)) →
        (meanings : List StateMeaning) × AllZip (IsMeaning conditions) (map (state_of parts) names) meanings
    states-given parts [] tables = ([], tt)
    states-given parts (name ∷ names) tables =
        let first = table-given name.text (table_named parts name) (tables name) in
        let rest = states-given parts names tables in
        (first.0 ∷ rest.0, (first.1, rest.1))
