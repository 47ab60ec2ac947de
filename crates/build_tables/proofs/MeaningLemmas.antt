-- What a table means that holds what its states say.
use Rattle.std.proofs.Common.{◌≡◌, ◌∙◌, ◌<◌, ◌≤◌, ◌⊎◌, inl, inr, ℕ, zero, suc, Bool, All, List, [], ◌∷◌, Option, None, Some, ap, arith, map, option_map, refl, slice_get, string_bytes, subst, sym, unwrap_or}
use Rattle.std.specs.List.{AllZip}
use Rattle.std.proofs.lemmas.List.Elements.{All-head, All-tail}
use Rattle.port_model.specs.declared.values.item.SignalId.{SignalId}
use Rattle.build_states.specs.Mentions as said
use Rattle.build_states.specs.States as said_of
use Rattle.build_states.specs.States.{Numbered, Table, meaning_of, named_in}
use Rattle.build_states.specs.Tabled.{meaning_at, meanings_at}
use Rattle.build_states.proofs.ShareLemmas.{part-mapped}
use Rattle.sdl_system.specs.Behaviour as behaviour
use Rattle.sdl_system.specs.Behaviour.{ContinuousSignal, MeansContinuous, MeansResponse, MeansState, MeansTable, Response, StateMeaning, condition_in}
use Rattle.sdl_system.specs.Term.{Term, term_of}
use Rattle.sdl_system.specs.State.{named_reaction}
use Rattle.sdl_system.specs.declared.expression.Expression.{Expression}
use Rattle.sdl_system.specs.declared.id.ConditionId.{ConditionId}
use Rattle.sdl_system.specs.declared.id.NodeId.{NodeId}
use Rattle.sdl_system.specs.declared.id.TableId.{TableId}
use Rattle.sdl_system.specs.declared.id.VariableId.{VariableId}
use Rattle.sdl_system.specs.declared.process.Process.{Process}
use Rattle.sdl_system.specs.declared.process.State.{State}
use Rattle.sdl_system.specs.declared.state.Continuous.{Continuous}
use Rattle.sdl_system.specs.declared.state.Enabling.{Enabling}
use Rattle.sdl_system.specs.declared.state.Reaction.{Reaction}
use Rattle.sdl_system.specs.declared.state.Reaction.TheVariants as react
use Rattle.sdl_system.specs.declared.state.Reception.{Reception}
use Rattle.sdl_system.specs.declared.state.StateTable.{StateTable}
use Rattle.sdl_tree.specs.Words.{Spot}
use Rattle.build_tables.specs.Linked.{Doing, IsLinked, IsTable, continuous_linked, enabling_value, kept, linked, preferred, reaction_value, received, waits_for}
use Rattle.build_tables.specs.Meant.{HasConditions, IsMeaning, NamesWithin, StatesMean, come_to, condition_at, continuous_meaning, input_meaning, response_meaning, tables_at}
use Rattle.build_tables.specs.Stated.{state_value, states_listed}

-- ---- parts of equal things

pub some-same : {A : Type 0} (x y : A) → Some x ≡ Some y → x ≡ y
some-same x y same = ap (λ o. unwrap_or o x) same

abbrev head_or : {A : Type 0} → A → List A → A
head_or x [] = x
head_or x (y ∷ ys) = y

abbrev tail_of : {A : Type 0} → List A → List A
tail_of [] = []
tail_of (y ∷ ys) = ys

pub head-same : {A : Type 0} (x y : A) (xs ys : List A) → x ∷ xs ≡ y ∷ ys → x ≡ y
head-same x y xs ys same = ap (head_or x) same

pub tail-same : {A : Type 0} (x y : A) (xs ys : List A) → x ∷ xs ≡ y ∷ ys → xs ≡ ys
tail-same x y xs ys same = ap tail_of same

pub below-or-not : (n m : ℕ) → (n < m) ⊎ (m ≤ n)
below-or-not n m = by n m
  where
    by : (n m : ℕ) → (n < m) ⊎ (m ≤ n)
    by n zero = inr (omega arith)
    by zero (suc m) = inl (omega arith)
    by (suc n) (suc m) = up (by n m)
      where
        up : (n < m) ⊎ (m ≤ n) → (suc n < suc m) ⊎ (suc m ≤ suc n)
        up (inl less) = inl (omega (arith, less))
        up (inr more) = inr (omega (arith, more))

abbrev variables_in : Doing → List (Option VariableId)
variables_in (received variables condition begin) = variables
variables_in (preferred variables begin) = variables
variables_in kept = []

abbrev pub condition_in_doing : Doing → Option ConditionId
condition_in_doing (received variables condition begin) = condition
condition_in_doing (preferred variables begin) = None
condition_in_doing kept = None

abbrev begin_in : NodeId → Doing → NodeId
begin_in node (received variables condition begin) = begin
begin_in node (preferred variables begin) = begin
begin_in node kept = node

-- ---- responses

module _ (process : Process) (entries : List NodeId) (conditions : List (Option Term))
    (has : HasConditions process conditions) where
  come-to : (found : Option Expression) →
      come_to (option_map (λ expression. Some (term_of expression)) found) ≡ option_map term_of found
  come-to None = refl
  come-to (Some expression) = refl

  condition-same : (number : ConditionId) → condition_in process number ≡ condition_at conditions number
  condition-same number =
      sym (come-to (slice_get process.conditions.items number.0))
      ∙ ap come_to (sym (part-mapped (λ expression. Some (term_of expression)) process.conditions.items number.0))
      ∙ ap (λ list. come_to (slice_get list number.0)) has

  input-means : (reception : Reception) (condition : Option ConditionId) (meant : Response) (body : ℕ) →
      slice_get entries body ≡ Some reception.begin →
      input_meaning conditions reception.variables.items condition body ≡ Some meant →
      MeansResponse process entries (Some (react.Input reception condition)) (Some meant)
  input-means reception None meant body begins is =
      subst (λ m. MeansResponse process entries (Some (react.Input reception None)) (Some m))
      (some-same (behaviour.input reception.variables.items None body) meant is)
      (refl, tt, begins)
  input-means reception (Some number) meant body begins is = by (condition_at conditions number) refl is
    where
      by : (found : Option Term) → condition_at conditions number ≡ found →
          option_map (λ term. behaviour.input reception.variables.items (Some term) body) found ≡ Some meant →
          MeansResponse process entries (Some (react.Input reception (Some number))) (Some meant)
      by None at is = cc
      by (Some term) at is =
          subst (λ m. MeansResponse process entries (Some (react.Input reception (Some number))) (Some m))
          (some-same (behaviour.input reception.variables.items (Some term) body) meant is)
          (refl, condition-same number ∙ at, begins)

  one-means : (reaction : Reaction) (response : said.Response) (meant : Response) →
      Some (reaction_value reaction) ≡ linked entries response → response_meaning conditions response ≡ Some meant →
      MeansResponse process entries (Some reaction) (Some meant)
  one-means (react.Input reception condition) (said.input variables number begin) meant is means =
      by (slice_get entries begin.0) refl is
    where
      by : (found : Option NodeId) → slice_get entries begin.0 ≡ found →
          Some (received reception.variables.items condition reception.begin)
          ≡ option_map (λ node. received variables number node) found →
          MeansResponse process entries (Some (react.Input reception condition)) (Some meant)
      by None at same = cc
      by (Some node) at same =
          let doing = some-same _ _ same in
          let lists : reception.variables.items ≡ variables = ap variables_in doing in
          let numbers : condition ≡ number = ap condition_in_doing doing in
          let nodes : reception.begin ≡ node = ap (begin_in node) doing in
          input-means reception condition meant begin.0 (at ∙ ap (λ n. Some n) (sym nodes))
          (ap (λ list. input_meaning conditions list condition begin.0) lists
          ∙ ap (λ c. input_meaning conditions variables c begin.0) numbers ∙ means)
  one-means (react.Input reception condition) (said.priority_input variables begin) meant is means =
      by (slice_get entries begin.0) is
    where
      by : (found : Option NodeId) → Some (received reception.variables.items condition reception.begin)
          ≡ option_map (λ node. preferred variables node) found →
          MeansResponse process entries (Some (react.Input reception condition)) (Some meant)
      by None same = cc
      by (Some node) same = cc
  one-means (react.Input reception condition) said.save meant is means = cc
  one-means (react.Priority reception) (said.priority_input variables begin) meant is means =
      by (slice_get entries begin.0) refl is
    where
      by : (found : Option NodeId) → slice_get entries begin.0 ≡ found →
          Some (preferred reception.variables.items reception.begin)
          ≡ option_map (λ node. preferred variables node) found →
          MeansResponse process entries (Some (react.Priority reception)) (Some meant)
      by None at same = cc
      by (Some node) at same =
          let doing = some-same _ _ same in
          let lists : reception.variables.items ≡ variables = ap variables_in doing in
          let nodes : reception.begin ≡ node = ap (begin_in node) doing in
          subst (λ m. MeansResponse process entries (Some (react.Priority reception)) (Some m))
          (some-same (behaviour.priority_input variables begin.0) meant means)
          (lists, at ∙ ap (λ n. Some n) (sym nodes))
  one-means (react.Priority reception) (said.input variables number begin) meant is means =
      by (slice_get entries begin.0) is
    where
      by : (found : Option NodeId) → Some (preferred reception.variables.items reception.begin)
          ≡ option_map (λ node. received variables number node) found →
          MeansResponse process entries (Some (react.Priority reception)) (Some meant)
      by None same = cc
      by (Some node) same = cc
  one-means (react.Priority reception) said.save meant is means = cc
  one-means react.Save (said.input variables number begin) meant is means = by (slice_get entries begin.0) is
    where
      by : (found : Option NodeId) → Some kept ≡ option_map (λ node. received variables number node) found →
          MeansResponse process entries (Some react.Save) (Some meant)
      by None same = cc
      by (Some node) same = cc
  one-means react.Save (said.priority_input variables begin) meant is means = by (slice_get entries begin.0) is
    where
      by : (found : Option NodeId) → Some kept ≡ option_map (λ node. preferred variables node) found →
          MeansResponse process entries (Some react.Save) (Some meant)
      by None same = cc
      by (Some node) same = cc
  one-means react.Save said.save meant is means =
      subst (λ m. MeansResponse process entries (Some react.Save) (Some m)) (some-same behaviour.save meant means) tt

  response-means : (reaction : Option Reaction) (response : Option said.Response) (meant : Option Response) →
      IsLinked entries reaction response →
      option_map (response_meaning conditions) response ≡ option_map (λ m. Some m) meant →
      MeansResponse process entries reaction meant
  response-means None None None is means = tt
  response-means None None (Some meant) is means = cc
  response-means None (Some response) meant is means = cc
  response-means (Some reaction) None meant is means = cc
  response-means (Some reaction) (Some response) None is means = cc
  response-means (Some reaction) (Some response) (Some meant) is means =
      one-means reaction response meant (some-same _ _ is) (some-same _ _ means)

  -- ---- conditions and continuous signals

  enabled-means : (reactions : List (SignalId × Reaction)) (count : ℕ) (rest : Option Reaction)
      (list : List Enabling) (enabling : List ConditionId) →
      map enabling_value list ≡ map (waits_for reactions count rest) enabling →
      map (λ (e : Enabling). condition_in process e.condition) list ≡ map (condition_at conditions) enabling
  enabled-means reactions count rest [] [] is = refl
  enabled-means reactions count rest [] (number ∷ enabling) is = cc
  enabled-means reactions count rest (one ∷ list) [] is = cc
  enabled-means reactions count rest (one ∷ list) (number ∷ enabling) is =
      let first : one.condition ≡ number = ap (λ w. w.condition) (head-same _ _ _ _ is) in
      ap (λ c. c ∷ map (λ (e : Enabling). condition_in process e.condition) list)
      (ap (condition_in process) first ∙ condition-same number)
      ∙ ap (λ cs. condition_at conditions number ∷ cs)
      (enabled-means reactions count rest list enabling (tail-same _ _ _ _ is))

  signal-means : (one : Continuous) (numbered : Numbered) (meant : ContinuousSignal) →
      Some one ≡ continuous_linked entries numbered → continuous_meaning conditions numbered ≡ Some meant →
      MeansContinuous process entries one meant
  signal-means one numbered meant is means =
      by (slice_get entries numbered.signal.begin.0) refl is (condition_at conditions numbered.signal.condition) refl
      means
    where
      by : (node : Option NodeId) → slice_get entries numbered.signal.begin.0 ≡ node →
          Some one ≡ option_map
          (λ n. record { condition = numbered.signal.condition; number = numbered.number; begin = n }) node →
          (term : Option Term) → condition_at conditions numbered.signal.condition ≡ term →
          option_map (λ t. record { condition = t; number = numbered.number; body = numbered.signal.begin.0 }) term
          ≡ Some meant →
          MeansContinuous process entries one meant
      by None at same term comes says = cc
      by (Some node) at same None comes says = cc
      by (Some node) at same (Some term) comes says =
          let here = some-same _ _ same in
          let there = some-same _ _ says in
          record {
            condition_is = ap (λ c. condition_in process c.condition) here
                ∙ condition-same numbered.signal.condition ∙ comes ∙ ap (λ m. Some m.condition) there;
            number_is = ap (λ c. c.number) here ∙ ap (λ m. m.number) there;
            begins = ap (λ m. slice_get entries m.body) (sym there) ∙ at ∙ ap (λ c. Some c.begin) (sym here);
          }

  signals-mean : (list : List Continuous) (numbered : List Numbered) (meant : List ContinuousSignal) →
      map (λ c. Some c) list ≡ map (continuous_linked entries) numbered →
      map (continuous_meaning conditions) numbered ≡ map (λ m. Some m) meant →
      AllZip (MeansContinuous process entries) list meant
  signals-mean [] [] [] is means = tt
  signals-mean [] [] (m ∷ meant) is means = cc
  signals-mean [] (n ∷ numbered) meant is means = cc
  signals-mean (one ∷ list) [] meant is means = cc
  signals-mean (one ∷ list) (n ∷ numbered) [] is means = cc
  signals-mean (one ∷ list) (n ∷ numbered) (m ∷ meant) is means = (
    signal-means one n m (head-same _ _ _ _ is) (head-same _ _ _ _ means),
    signals-mean list numbered meant (tail-same _ _ _ _ is) (tail-same _ _ _ _ means),
  )

  -- ---- tables

  table-means : (valid : List Bool) (count : ℕ) (name : List ℕ) (says : Table) (table : StateTable)
      (meant : StateMeaning) → IsTable entries valid count says table → NamesWithin count says →
      IsMeaning conditions (meaning_of name says) meant → MeansTable process entries table meant
  table-means valid count name says table meant holds within means = record {
    named_is = λ signal. by signal (below-or-not signal.0 count);
    rest_is = response-means table.rest says.answers.rest meant.rest holds.rest means.rest_is;
    enabling_is =
        enabled-means table.reactions count table.rest table.conditions.items says.enabling holds.conditions
        ∙ means.enabling_is;
    continuous_is = signals-mean table.continuous.items _ meant.continuous holds.continuous means.continuous_is;
  }
    where
      by : (signal : SignalId) → (signal.0 < count) ⊎ (count ≤ signal.0) →
          MeansResponse process entries (named_reaction table.reactions signal) (meant.named signal)
      by signal (inl less) =
          response-means (named_reaction table.reactions signal) (named_in says.answers.named signal)
          (meant.named signal)
          (holds.named.within signal less) (means.named_is signal)
      by signal (inr more) =
          response-means (named_reaction table.reactions signal) (named_in says.answers.named signal)
          (meant.named signal)
          (rw (holds.named.past signal more, within signal more) refl) (means.named_is signal)

  -- ---- states

  module _ (valid : List Bool) (count : ℕ) (tables : List Table) (made : List StateTable)
      (are : process.tables.items ≡ made) (hold : AllZip (IsTable entries valid count) tables made)
      (within : All (NamesWithin count) tables) where
    state-at : (name : List ℕ) (says : Table) (meant : StateMeaning) (state : State) →
        string_bytes state.name ≡ name → IsMeaning conditions (meaning_of name says) meant →
        (some : List Table) (list : List StateTable) → AllZip (IsTable entries valid count) some list →
        All (NamesWithin count) some → (k : ℕ) → slice_get some k ≡ Some says →
        slice_get list k ≡ slice_get process.tables.items state.table.0 →
        MeansState process entries state meant
    state-at name says meant state named means [] list zipped below k at same = cc
    state-at name says meant state named means (one ∷ some) [] zipped below k at same = absurd zipped
    state-at name says meant state named means (one ∷ some) (table ∷ list) zipped below zero at same =
        let is : one ≡ says = some-same one says at in
        record {
          name_is = named ∙ means.name_is;
          table = table;
          listed = sym same;
          does = table-means valid count name says table meant
              (subst (λ t. IsTable entries valid count t table) is zipped.0)
              (subst (NamesWithin count) is (All-head (NamesWithin count) one some below)) means;
        }
    state-at name says meant state named means (one ∷ some) (table ∷ list) zipped below (suc k) at same =
        state-at name says meant state named means some list zipped.1
        (All-tail (NamesWithin count) one some below) k at same

    state-means : (name : Spot) (number : TableId) (state : State) (says : said_of.StateMeaning)
        (meant : StateMeaning) →
        state_value state ≡ record { name = name.text; table = number } →
        meaning_at name (slice_get tables number.0) ≡ Some says → IsMeaning conditions says meant →
        MeansState process entries state meant
    state-means name number state says meant is at means = by (slice_get tables number.0) refl at
      where
        by : (found : Option Table) → slice_get tables number.0 ≡ found → meaning_at name found ≡ Some says →
            MeansState process entries state meant
        by None found at = cc
        by (Some table) found at =
            state-at name.text table meant state (ap (λ s. s.name) is)
            (subst (λ s. IsMeaning conditions s meant) (sym (some-same (meaning_of name.text table) says at)) means)
            tables made hold within number.0 found
            (ap (λ list. slice_get list number.0) (sym are)
            ∙ ap (λ s. slice_get process.tables.items s.table.0) (sym is))

    pub all-mean : (names : List Spot) (numbers : List TableId) (states : List State)
        (says : List said_of.StateMeaning) (meanings : List StateMeaning) →
        map state_value states ≡ states_listed names numbers →
        meanings_at names (tables_at tables numbers) ≡ map (λ s. Some s) says →
        AllZip (IsMeaning conditions) says meanings → AllZip (MeansState process entries) states meanings
    all-mean [] numbers [] [] [] is at means = tt
    all-mean [] numbers [] [] (m ∷ meanings) is at means = absurd means
    all-mean [] numbers [] (s ∷ says) meanings is at means = cc
    all-mean [] numbers (state ∷ states) says meanings is at means = cc
    all-mean (name ∷ names) [] [] [] [] is at means = tt
    all-mean (name ∷ names) [] [] [] (m ∷ meanings) is at means = absurd means
    all-mean (name ∷ names) [] [] (s ∷ says) meanings is at means = cc
    all-mean (name ∷ names) [] (state ∷ states) says meanings is at means = cc
    all-mean (name ∷ names) (number ∷ numbers) [] says meanings is at means = cc
    all-mean (name ∷ names) (number ∷ numbers) (state ∷ states) [] meanings is at means = cc
    all-mean (name ∷ names) (number ∷ numbers) (state ∷ states) (s ∷ says) [] is at means = absurd means
    all-mean (name ∷ names) (number ∷ numbers) (state ∷ states) (s ∷ says) (m ∷ meanings) is at means = (
      state-means name number state s m (head-same _ _ _ _ is) (head-same _ _ _ _ at) means.0,
      all-mean names numbers states says meanings (tail-same _ _ _ _ is) (tail-same _ _ _ _ at) means.1,
    )

pub states-mean : (entries : List NodeId) (valid : List Bool) (count : ℕ) (names : List Spot) (tables : List Table)
    (numbers : List TableId) (states : List State) (made : List StateTable) →
    AllZip (IsTable entries valid count) tables made → map state_value states ≡ states_listed names numbers →
    StatesMean entries count names tables numbers states made
states-mean entries valid count names tables numbers states made hold listed process conditions says meanings are has
    within at means =
    all-mean process entries conditions has valid count tables made are hold within names numbers states says meanings
    listed at means
