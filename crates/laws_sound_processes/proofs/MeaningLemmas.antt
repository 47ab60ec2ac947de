-- What states mean is sound.
use Rattle.std.proofs.Common.{◌≡◌, ◌∙◌, ◌<◌, ◌≤◌, ℕ, All, IfSome, List, [], ◌∷◌, Option, None, Some, length, map, inl, inr, option_map, ap, sym, subst}
use Rattle.std.proofs.lemmas.List.Elements.{All-cons, All-head, All-nil, All-tail}
use Rattle.std.proofs.lemmas.Bool.{cases_lt}
use Rattle.std.specs.List.{AllZip}
use Rattle.port_model.specs.declared.values.item.SignalId.{SignalId}
use Rattle.build_process.proofs.EndLemmas.{map-some, some-same}
use Rattle.laws_complete.proofs.MentionedLemmas.{Begins, BeginsNumbered, Bounds, IsTable, found-begins, tried-each}
use Rattle.build_process.specs.Meant.{NamesSignals}
use Rattle.build_names.specs.FaultLaws.{Each}
use Rattle.laws_sound_processes.proofs.TypedLemmas.{Holds}
use Rattle.laws_sound_processes.proofs.ConditionLemmas.{AreTruths, truth-at}
use Rattle.laws_sound_processes.proofs.InputLemmas.{AreGood, Says, SaysRest, named-says, rest-says}
use Rattle.laws_sound_processes.specs.States.{IsSoundContinuous, IsSoundInput, IsSoundResponse, IsSoundRest, IsSoundState, IsTruth}
use Rattle.build_states.specs.States.{Numbered, named_in, numbered_from, state_of, table_named, tried}
use Rattle.build_states.specs.Mentions as said
use Rattle.build_states.specs.Reading.{Part}
use Rattle.sdl_system.specs.Behaviour.{ContinuousSignal, Response, StateMeaning, input, priority_input, save}
use Rattle.sdl_system.specs.System.{SystemValue}
use Rattle.sdl_system.specs.Term.{Term}
use Rattle.sdl_system.specs.declared.id.ConditionId.{ConditionId}
use Rattle.sdl_system.specs.declared.id.VariableId.{VariableId}
use Rattle.sdl_system.specs.declared.process.Process.{Process}
use Rattle.build_tables.specs.Meant.{IsMeaning, condition_at, continuous_meaning, input_meaning, response_meaning}
use Rattle.sdl_tree.specs.Words.{Spot}

-- ---- lists

each-all : {A : Type 0} (P : A → Type 0) (xs : List A) → Each P xs → All P xs
each-all P [] each = All-nil P
each-all P (x ∷ xs) each = All-cons P x xs each.0 (each-all P xs each.1)

all-each : {A : Type 0} (P : A → Type 0) (xs : List A) → All P xs → Each P xs
all-each P [] all = tt
all-each P (x ∷ xs) all = (All-head P x xs all, all-each P xs (All-tail P x xs all))

-- what holds of what each element of a list gives
each-given : {A B : Type 0} (Q : A → Type 0) (P : B → Type 0) (f : A → Option B) (xs : List A) (ys : List B) →
    map f xs ≡ map Some ys → Each Q xs → ((x : A) (y : B) → Q x → f x ≡ Some y → P y) → Each P ys
each-given Q P f [] [] is each by = tt
each-given Q P f [] (y ∷ ys) is each by = absurd (let never : ⊥ = cc in never)
each-given Q P f (x ∷ xs) [] is each by = absurd (let never : ⊥ = cc in never)
each-given Q P f (x ∷ xs) (y ∷ ys) is each by =
    let first : f x ≡ Some y = cc in
    let rest : map f xs ≡ map Some ys = cc in
    (by x y each.0 first, each-given Q P f xs ys rest each.1 by)

every : {A : Type 0} (xs : List A) → Each (λ (x : A). Unit {0}) xs
every [] = tt
every (x ∷ xs) = (tt, every xs)

module _ (system : SystemValue) (process : Process) (conditions : List (Option Term))
    (truths : AreTruths system process conditions) (n : Bounds) where
  abbrev count : ℕ
  count = n.transitions

  -- the condition of this number, where it comes to something
  is-truth : (number : ConditionId) (term : Term) → condition_at conditions number ≡ Some term →
      IsTruth system process term
  is-truth number term is =
      subst (Holds (IsTruth system process)) is (truth-at system process conditions number truths)

  -- ---- what is done with a signal

  abbrev InputOf : (List (Option VariableId) → Type 0) → Response → Type 0
  InputOf P (input variables condition b) = P variables × IfSome condition (IsTruth system process) × (b < count)
  InputOf P (priority_input variables b) = ⊥
  InputOf P save = ⊥

  input-of : (P : List (Option VariableId) → Type 0) (variables : List (Option VariableId))
      (condition : Option ConditionId) (begin : ℕ) (response : Response) →
      input_meaning conditions variables condition begin ≡ Some response → P variables → begin < count →
      InputOf P response
  input-of P variables None begin response is says below =
      subst (InputOf P) (some-same (input variables None begin) response is) (says, tt, below)
  input-of P variables (Some number) begin response is says below =
      let r = map-some (λ term. input variables (Some term) begin) (condition_at conditions number) response is in
      subst (InputOf P) (sym r.2) (says, is-truth number r.0 r.1, below)

  named-input : (signal : SignalId) (response : Response) → InputOf (IsSoundInput system process signal) response →
      IsSoundResponse system process count signal response
  named-input signal (input variables condition b) is = is
  named-input signal (priority_input variables b) is = absurd is
  named-input signal save is = absurd is

  rest-input : (response : Response) → InputOf (λ variables. variables ≡ []) response →
      IsSoundRest system process count response
  rest-input (input variables condition b) is = is
  rest-input (priority_input variables b) is = absurd is
  rest-input save is = absurd is

  response-sound : (signal : SignalId) (one : said.Response) (response : Response) → Says system process signal one →
      Begins n one → signal.0 < length system.signals → response_meaning conditions one ≡ Some response →
      IsSoundResponse system process count signal response
  response-sound signal (said.input variables condition begin) response says begins below is =
      named-input signal response
      (input-of (IsSoundInput system process signal) variables condition begin.0 response is says begins.0)
  response-sound signal (said.priority_input variables begin) response says begins below is =
      subst (IsSoundResponse system process count signal) (some-same (priority_input variables begin.0) response is)
      (says, begins)
  response-sound signal said.save response says begins below is =
      subst (IsSoundResponse system process count signal) (some-same save response is) below

  rest-sound : (one : said.Response) (response : Response) → SaysRest one → Begins n one →
      response_meaning conditions one ≡ Some response → IsSoundRest system process count response
  rest-sound (said.input variables condition begin) response says begins is =
      rest-input response (input-of (λ list. list ≡ []) variables condition begin.0 response is says begins.0)
  rest-sound (said.priority_input variables begin) response says begins is = absurd says
  rest-sound said.save response says begins is =
      subst (IsSoundRest system process count) (some-same save response is) tt

  some-rest : (found : Option said.Response) (meant : Option Response) →
      option_map (response_meaning conditions) found ≡ option_map Some meant → IfSome found SaysRest →
      IfSome found (Begins n) → IfSome meant (IsSoundRest system process count)
  some-rest found None is says begins = tt
  some-rest None (Some response) is says begins = absurd (let never : ⊥ = cc in never)
  some-rest (Some one) (Some response) is says begins =
      rest-sound one response says begins (some-same (response_meaning conditions one) (Some response) is)

  -- ---- a state

  below-bound : (bound : ℕ) (signal : SignalId) (found : Option said.Response) (one : said.Response) →
      found ≡ Some one → (bound ≤ signal.0 → found ≡ None) → signal.0 < bound
  below-bound bound signal found one is none =
      elim (cases_lt signal.0 bound) [
        | inl below ↦ below
        | inr past ↦ absurd (let missing : found ≡ None = none past in let never : ⊥ = cc in never)
      ]

  abbrev meant_by : Numbered → Term → ContinuousSignal
  meant_by one term = record { condition = term; number = one.number; body = one.signal.begin.0 }

  continuous-sound : (one : Numbered) (signal : ContinuousSignal) → BeginsNumbered n one →
      continuous_meaning conditions one ≡ Some signal → IsSoundContinuous system process count signal
  continuous-sound one signal begins is =
      let r = map-some (meant_by one) (condition_at conditions one.signal.condition) signal is in
      subst (IsSoundContinuous system process count) (sym r.2) (is-truth one.signal.condition r.0 r.1, begins.0)

  module _ (bound : ℕ) (known : bound ≡ length system.signals) (Q : SignalId → Type 0) (parts : List Part)
      (good : Each (AreGood system process) parts)
      (tables : (name : Spot) → IsTable n Q (table_named parts name)) where
    state-sound : (name : Spot) (state : StateMeaning) → NamesSignals bound (state_of parts name) →
        IsMeaning conditions (state_of parts name) state → IsSoundState system process count state
    state-sound name state within is = record {
      named = λ signal response found.
          let named = (table_named parts name).answers.named in
          let r = map-some (response_meaning conditions) (named_in named signal) (Some response)
          (is.named_is signal ∙ ap (option_map Some) found) in
          response-sound signal r.0 response (named-says system process parts name good signal r.0 r.1)
          (subst (λ o. IfSome o (Begins n)) r.1
          (found-begins n Q named signal (tables name).answers.named))
          (subst (λ m. signal.0 < m) known
          (below-bound bound signal (named_in named signal) r.0 r.1 (within signal)))
          (sym r.2);
      rest = some-rest (table_named parts name).answers.rest state.rest is.rest_is
          (rest-says system process parts name good) (tables name).answers.rest;
      enabling = each-all (IsTruth system process) state.enabling
          (each-given (λ (number : ConditionId). Unit {0}) (IsTruth system process) (condition_at conditions)
          (table_named parts name).enabling state.enabling is.enabling_is (every (table_named parts name).enabling)
          (λ number term has found. is-truth number term found));
      continuous = each-all (IsSoundContinuous system process count) state.continuous
          (each-given (BeginsNumbered n) (IsSoundContinuous system process count) (continuous_meaning conditions)
          (tried (numbered_from 1 (table_named parts name).continuous)) state.continuous is.continuous_is
          (tried-each n (table_named parts name).continuous (tables name).continuous) continuous-sound);
    }

    states-each : (names : List Spot) (states : List StateMeaning) →
        Each (NamesSignals bound) (map (state_of parts) names) →
        AllZip (IsMeaning conditions) (map (state_of parts) names) states →
        Each (IsSoundState system process count) states
    states-each [] [] within zip = tt
    states-each [] (state ∷ states) within zip = absurd zip
    states-each (name ∷ names) [] within zip = absurd zip
    states-each (name ∷ names) (state ∷ states) within zip =
        (state-sound name state within.0 zip.0, states-each names states within.1 zip.1)

    pub states-sound : (names : List Spot) (states : List StateMeaning) →
        All (NamesSignals bound) (map (state_of parts) names) →
        AllZip (IsMeaning conditions) (map (state_of parts) names) states →
        All (IsSoundState system process count) states
    states-sound names states within zip =
        each-all (IsSoundState system process count) states
        (states-each names states (all-each (NamesSignals bound) (map (state_of parts) names) within) zip)
