-- The conditions that a state puts to signals stand among its enabling conditions.
use Rattle.std.proofs.Common.{◌≡◌, ◌∙◌, ◌⊎◌, inl, inr, ◌++◌, ℕ, zero, suc, Bool, true, false, All, Contains, List, [], ◌∷◌, Option, None, Some, ap, arith, fold, if◌then◌else◌, length, map, refl, slice_get, subst, sym}
use Rattle.std.proofs.lemmas.List.{length-append}
use Rattle.std.proofs.lemmas.List.Elements.{All-append, All-cons, All-filter, All-head, All-nil, All-push, All-tail, All-weaker, Contains-append_left, Contains-append_right, Contains-push}
use Rattle.build_expressions.specs.Scope.{SignalMeaning, signal_in}
use Rattle.build_states.specs.Context.{Context}
use Rattle.build_states.specs.Mentions.{Mention, Response, input_mention, inputs_mentions, item_mention, list_mentions, received, rest_mention, saved_mentions, subjects_of}
use Rattle.build_states.specs.Reading.{Begun, Part, Reading, body_read, first_reading, no_stimuli, part_read, with_part, with_stimuli, with_stimulus}
use Rattle.build_states.specs.declared.stimuli.mention.Manner.{Manner}
use Rattle.build_states.specs.declared.stimuli.mention.Manner.TheVariants as manner
use Rattle.build_states.specs.declared.stimuli.subject.Subject.{Subject}
use Rattle.build_states.specs.declared.stimuli.subject.Subject.TheVariants.{Rest, Signal}
use Rattle.build_states.specs.declared.stimuli.transition.TransitionId.{TransitionId}
use Rattle.build_states.specs.FirstMention.{first_said, speaks_of}
use Rattle.build_states.specs.States.{enabling_in, is_part_of, mentions_in, parts_of}
use Rattle.build_states.proofs.FirstLemmas.{first_mention}
use Rattle.sdl_system.specs.declared.id.ConditionId.{ConditionId}
use Rattle.build_tables.specs.Agreeing.{StatesAreEnabling, said_condition}
use Rattle.sdl_tree.specs.Tree as tree
use Rattle.sdl_tree.specs.Tree.{BodyPart, Condition, FreeAction, Input, InputAll, InputList, InputPart, Inputs, PriorityInput, SaveAll, SaveList, SavePart, Saved, SignalListItem, StatePart, Stimulus}
use Rattle.sdl_tree.specs.Words.{Spot}

-- ---- what fits

abbrev is_rest : Subject → Bool
is_rest (Signal number) = false
is_rest Rest = true

-- The condition of a mention is one of these, and it is known of each condition whether it stands with an asterisk.
record Fits (kinds : List Bool) (enabling : List ConditionId) (mention : Mention) : Type 0 where
  listed : (condition : ConditionId) → said_condition (Some mention.response) ≡ Some condition →
      Contains enabling condition
  kind : (condition : ConditionId) (subject : Subject) → said_condition (Some mention.response) ≡ Some condition →
      speaks_of mention subject ≡ true → slice_get kinds condition.0 ≡ Some (is_rest subject)

abbrev PartFits : List Bool → Part → Type 0
PartFits kinds part = All (Fits kinds part.enabling) part.mentions

-- what is known stays known
abbrev Grows : List Bool → List Bool → Type 0
Grows old new = (n : ℕ) (b : Bool) → slice_get old n ≡ Some b → slice_get new n ≡ Some b

get-left : (old : List Bool) (more : List Bool) → Grows old (old ++ more)
get-left [] more zero b is = cc
get-left [] more (suc n) b is = cc
get-left (x ∷ old) more zero b is = is
get-left (x ∷ old) more (suc n) b is = get-left old more n b is

get-last : (old : List Bool) (b : Bool) (n : ℕ) → n ≡ length old → slice_get (old ++ b ∷ []) n ≡ Some b
get-last [] b zero is = refl
get-last [] b (suc n) is = absurd (omega (arith, is))
get-last (x ∷ old) b zero is = absurd (omega (arith, is))
get-last (x ∷ old) b (suc n) is = get-last old b n (omega (arith, is))

fits-known : (old new : List Bool) (enabling : List ConditionId) → Grows old new → (mention : Mention) →
    Fits old enabling mention → Fits new enabling mention
fits-known old new enabling grows mention fits = record {
  listed = fits.listed;
  kind = λ condition subject is speaks. grows condition.0 (is_rest subject) (fits.kind condition subject is speaks);
}

fits-more : (kinds : List Bool) (enabling more : List ConditionId) (mention : Mention) →
    Fits kinds enabling mention → Fits kinds (enabling ++ more) mention
fits-more kinds enabling more mention fits = record {
  listed = λ condition is. Contains-append_left enabling more condition (fits.listed condition is);
  kind = fits.kind;
}

-- a mention without a condition
fits-none : (kinds : List Bool) (enabling : List ConditionId) (mention : Mention) →
    said_condition (Some mention.response) ≡ None → Fits kinds enabling mention
fits-none kinds enabling mention none = record {
  listed = λ condition is. never condition (sym none ∙ is);
  kind = λ condition subject is speaks. never condition (sym none ∙ is);
}
  where
    never : {A : Type 0} (condition : ConditionId) → None ≡ Some condition → A
    never condition is = cc

-- ---- what is said of a subject

-- what the first of some mentions says, or one of those behind them
first-fits : (kinds : List Bool) (enabling : List ConditionId) (mentions behind : List Mention) →
    All (Fits kinds enabling) mentions → (subject : Subject) (condition : ConditionId) →
    said_condition (first_said (mentions ++ behind) subject) ≡ Some condition →
    (Contains enabling condition × (slice_get kinds condition.0 ≡ Some (is_rest subject)))
    ⊎ (said_condition (first_said behind subject) ≡ Some condition)
first-fits kinds enabling [] behind fit subject condition is = inr is
first-fits kinds enabling (mention ∷ mentions) behind fit subject condition is =
    by (speaks_of mention subject) refl is
    (first-fits kinds enabling mentions behind (All-tail (Fits kinds enabling) mention mentions fit) subject condition)
  where
    by : (b : Bool) → speaks_of mention subject ≡ b →
        said_condition (if b then Some mention.response else first_said (mentions ++ behind) subject) ≡ Some condition →
        (said_condition (first_said (mentions ++ behind) subject) ≡ Some condition →
        (Contains enabling condition × (slice_get kinds condition.0 ≡ Some (is_rest subject)))
        ⊎ (said_condition (first_said behind subject) ≡ Some condition)) →
        (Contains enabling condition × (slice_get kinds condition.0 ≡ Some (is_rest subject)))
        ⊎ (said_condition (first_said behind subject) ≡ Some condition)
    by true speaks is rest =
        let fits = All-head (Fits kinds enabling) mention mentions fit in
        inl (fits.listed condition is, fits.kind condition subject is speaks)
    by false silent is rest = rest is

parts-fit : (kinds : List Bool) (parts : List Part) → All (PartFits kinds) parts →
    (subject : Subject) (condition : ConditionId) →
    said_condition (first_said (mentions_in parts) subject) ≡ Some condition →
    Contains (enabling_in parts) condition × (slice_get kinds condition.0 ≡ Some (is_rest subject))
parts-fit kinds [] fit subject condition is = cc
parts-fit kinds (part ∷ parts) fit subject condition is =
    by (first-fits kinds part.enabling part.mentions (mentions_in parts) (All-head (PartFits kinds) part parts fit)
    subject condition is)
    (parts-fit kinds parts (All-tail (PartFits kinds) part parts fit) subject condition)
  where
    by : ((Contains part.enabling condition × (slice_get kinds condition.0 ≡ Some (is_rest subject)))
        ⊎ (said_condition (first_said (mentions_in parts) subject) ≡ Some condition)) →
        (said_condition (first_said (mentions_in parts) subject) ≡ Some condition →
        Contains (enabling_in parts) condition × (slice_get kinds condition.0 ≡ Some (is_rest subject))) →
        Contains (enabling_in (part ∷ parts)) condition × (slice_get kinds condition.0 ≡ Some (is_rest subject))
    by (inl here) rest = (Contains-append_left part.enabling (enabling_in parts) condition here.0, here.1)
    by (inr behind) rest =
        let there = rest behind in
        (Contains-append_right part.enabling (enabling_in parts) condition there.0, there.1)

-- ---- mentions of a stimulus

-- the names of an input speak of signals alone, and an asterisk of the rest
input-subjects : (found : Option SignalMeaning) (word : Spot) (response : Response) (subject : Subject) →
    speaks_of (record { word = word; subjects = subjects_of found; response = response }) subject ≡ true →
    is_rest subject ≡ false
input-subjects None word response subject speaks = cc
input-subjects (Some meaning) word response (Signal number) speaks = refl
input-subjects (Some meaning) word response Rest speaks = cc

rest-subjects : (word : Spot) (response : Response) (subject : Subject) →
    speaks_of (record { word = word; subjects = Rest ∷ []; response = response }) subject ≡ true →
    is_rest subject ≡ true
rest-subjects word response (Signal number) speaks = cc
rest-subjects word response Rest speaks = refl

abbrev stands_for_rest : Inputs → Bool
stands_for_rest (InputList inputs) = false
stands_for_rest (InputAll asterisk) = true

abbrev no_condition : Response → Type 0
no_condition response = said_condition (Some response) ≡ None

-- inputs without a condition
list-free : (kinds : List Bool) (enabling : List ConditionId) (context : Context) (how : Manner)
    (begin : TransitionId) → ((variables : List _) → no_condition (received how begin variables)) →
    (inputs : List Input) → All (Fits kinds enabling) (list_mentions context how begin inputs)
list-free kinds enabling context how begin none [] = All-nil (Fits kinds enabling)
list-free kinds enabling context how begin none (one ∷ inputs) =
    All-cons (Fits kinds enabling) (input_mention context how begin one) (list_mentions context how begin inputs)
    (fits-none kinds enabling (input_mention context how begin one) (none _))
    (list-free kinds enabling context how begin none inputs)

inputs-free : (kinds : List Bool) (enabling : List ConditionId) (context : Context) (begin : TransitionId)
    (inputs : Inputs) → All (Fits kinds enabling) (inputs_mentions context (manner.Input None) begin inputs)
inputs-free kinds enabling context begin (InputList inputs) =
    list-free kinds enabling context (manner.Input None) begin (λ variables. refl) inputs
inputs-free kinds enabling context begin (InputAll asterisk) =
    All-cons (Fits kinds enabling) _ [] (fits-none kinds enabling _ refl) (All-nil (Fits kinds enabling))

items-free : (kinds : List Bool) (enabling : List ConditionId) (context : Context) (items : List SignalListItem) →
    All (Fits kinds enabling) (map (item_mention context) items)
items-free kinds enabling context [] = All-nil (Fits kinds enabling)
items-free kinds enabling context (item ∷ items) =
    All-cons (Fits kinds enabling) (item_mention context item) (map (item_mention context) items)
    (fits-none kinds enabling (item_mention context item) refl) (items-free kinds enabling context items)

saved-free : (kinds : List Bool) (enabling : List ConditionId) (context : Context) (saved : Saved) →
    All (Fits kinds enabling) (saved_mentions context saved)
saved-free kinds enabling context (SaveList items) = items-free kinds enabling context items
saved-free kinds enabling context (SaveAll asterisk) =
    All-cons (Fits kinds enabling) _ [] (fits-none kinds enabling _ refl) (All-nil (Fits kinds enabling))

-- inputs under a condition that is the last one
module _ (kinds : List Bool) (enabling : List ConditionId) (context : Context) (begin : TransitionId)
    (own : ConditionId) (at : own.0 ≡ length kinds) where
  same-own : (condition : ConditionId) → Some own ≡ Some condition → own ≡ condition
  same-own condition is = ap (λ found. pick found own) is
    where
      pick : Option ConditionId → ConditionId → ConditionId
      pick None other = other
      pick (Some one) other = one

  own-fits : (b : Bool) (mention : Mention) → said_condition (Some mention.response) ≡ Some own →
      ((subject : Subject) → speaks_of mention subject ≡ true → is_rest subject ≡ b) →
      Fits (kinds ++ b ∷ []) (enabling ++ own ∷ []) mention
  own-fits b mention says kind = record {
    listed = λ condition is.
        subst (Contains (enabling ++ own ∷ [])) (same-own condition (sym says ∙ is)) (Contains-push enabling own);
    kind = λ condition subject is speaks.
        get-last kinds b condition.0 (ap (λ c. c.0) (sym (same-own condition (sym says ∙ is))) ∙ at)
        ∙ ap (λ k. Some k) (sym (kind subject speaks));
  }

  list-own : (inputs : List Input) →
      All (Fits (kinds ++ false ∷ []) (enabling ++ own ∷ []))
      (list_mentions context (manner.Input (Some own)) begin inputs)
  list-own [] = All-nil (Fits (kinds ++ false ∷ []) (enabling ++ own ∷ []))
  list-own (one ∷ inputs) =
      let mention = input_mention context (manner.Input (Some own)) begin one in
      All-cons (Fits (kinds ++ false ∷ []) (enabling ++ own ∷ [])) mention
      (list_mentions context (manner.Input (Some own)) begin inputs)
      (own-fits false mention refl
      (input-subjects (signal_in context.scope one.signal.text) one.signal mention.response)) (list-own inputs)

  inputs-own : (inputs : Inputs) →
      All (Fits (kinds ++ stands_for_rest inputs ∷ []) (enabling ++ own ∷ []))
      (inputs_mentions context (manner.Input (Some own)) begin inputs)
  inputs-own (InputList inputs) = list-own inputs
  inputs-own (InputAll asterisk) =
      let mention = rest_mention asterisk (received (manner.Input (Some own)) begin []) in
      All-cons (Fits (kinds ++ true ∷ []) (enabling ++ own ∷ [])) mention []
      (own-fits true mention refl (rest-subjects mention.word mention.response))
      (All-nil (Fits (kinds ++ true ∷ []) (enabling ++ own ∷ [])))

-- ---- a part

-- what is known behind the stimuli of a part, where this was known before it
record Known (before : List Bool) (begun : Begun) : Type 0 where
  kinds : List Bool
  grows : Grows before kinds
  sized : length kinds ≡ length begun.numbering.conditions
  fit : PartFits kinds begun.part

longer : {A B : Type 0} (xs : List A) (ys : List B) (x : A) (y : B) → length xs ≡ length ys →
    length (xs ++ x ∷ []) ≡ length (ys ++ y ∷ [])
longer xs ys x y same = omega (arith, same, length-append xs (x ∷ []), length-append ys (y ∷ []))

module _ (before : List Bool) (context : Context) where
  -- mentions without conditions are added
  known-free : (begun : Begun) (known : Known before begun) (next : TransitionId) (mentions : List Mention) →
      All (Fits known.kinds begun.part.enabling) mentions →
      Known before (record {
        numbering = record { next = next; conditions = begun.numbering.conditions };
        part = record {
          states = begun.part.states;
          mentions = begun.part.mentions ++ mentions;
          enabling = begun.part.enabling;
          continuous = begun.part.continuous;
        };
      })
  known-free begun known next mentions free = record {
    kinds = known.kinds;
    grows = known.grows;
    sized = known.sized;
    fit = All-append (Fits known.kinds begun.part.enabling) begun.part.mentions mentions known.fit free;
  }

  known-input : (begun : Begun) → Known before begun → (inputs : Inputs) (condition : Option Condition)
      (word : _) (transition : _) →
      Known before (with_stimulus context begun (InputPart word inputs condition transition))
  known-input begun known inputs None word transition =
      known-free begun known _ _
      (inputs-free known.kinds begun.part.enabling context begun.numbering.next inputs)
  known-input begun known inputs (Some condition) word transition =
      let own : ConditionId = record { 0 = length begun.numbering.conditions } in
      let kinds = known.kinds ++ stands_for_rest inputs ∷ [] in
      let enabling = begun.part.enabling ++ own ∷ [] in
      record {
        kinds = kinds;
        grows = λ n b is. get-left known.kinds (stands_for_rest inputs ∷ []) n b (known.grows n b is);
        sized = longer known.kinds begun.numbering.conditions (stands_for_rest inputs) _ known.sized;
        fit = All-append (Fits kinds enabling) begun.part.mentions _
            (All-weaker (Fits known.kinds begun.part.enabling) (Fits kinds enabling)
            (λ mention fits. fits-more kinds begun.part.enabling (own ∷ []) mention
            (fits-known known.kinds kinds begun.part.enabling
            (get-left known.kinds (stands_for_rest inputs ∷ [])) mention fits)) begun.part.mentions known.fit)
            (inputs-own known.kinds begun.part.enabling context begun.numbering.next own (sym known.sized) inputs);
      }

  known-stimulus : (begun : Begun) → Known before begun → (stimulus : Stimulus) →
      Known before (with_stimulus context begun stimulus)
  known-stimulus begun known (InputPart word inputs condition transition) =
      known-input begun known inputs condition word transition
  known-stimulus begun known (PriorityInput word inputs transition) =
      known-free begun known _ _
      (list-free known.kinds begun.part.enabling context manner.Priority begun.numbering.next (λ variables. refl)
      inputs)
  known-stimulus begun known (SavePart word saved) =
      known-free begun known begun.numbering.next _ (saved-free known.kinds begun.part.enabling context saved)
  known-stimulus begun known (tree.ContinuousSignal word condition priority transition) = record {
    kinds = known.kinds ++ false ∷ [];
    grows = λ n b is. get-left known.kinds (false ∷ []) n b (known.grows n b is);
    sized = longer known.kinds begun.numbering.conditions false _ known.sized;
    fit = All-weaker (Fits known.kinds begun.part.enabling) (Fits (known.kinds ++ false ∷ []) begun.part.enabling)
        (fits-known known.kinds (known.kinds ++ false ∷ []) begun.part.enabling (get-left known.kinds (false ∷ [])))
        begun.part.mentions known.fit;
  }

  known-stimuli : (begun : Begun) → Known before begun → (stimuli : List Stimulus) →
      Known before (with_stimuli context begun stimuli)
  known-stimuli begun known [] = known
  known-stimuli begun known (stimulus ∷ stimuli) =
      known-stimuli (with_stimulus context begun stimulus) (known-stimulus begun known stimulus) stimuli

-- ---- a process

record AllKnown (reading : Reading) : Type 0 where
  kinds : List Bool
  sized : length kinds ≡ length reading.numbering.conditions
  fit : All (PartFits kinds) reading.parts

module _ (context : Context) where
  known-part : (reading : Reading) → AllKnown reading → (part : BodyPart) → AllKnown (with_part context reading part)
  known-part reading known (StatePart states stimuli) =
      let more = known-stimuli known.kinds context (record { numbering = reading.numbering; part = no_stimuli states })
      (record {
        kinds = known.kinds;
        grows = λ n b is. is;
        sized = known.sized;
        fit = All-nil (Fits known.kinds []);
      }) stimuli in
      record {
        kinds = more.kinds;
        sized = more.sized;
        fit = All-push (PartFits more.kinds) reading.parts (part_read context reading.numbering states stimuli).part
            (All-weaker (PartFits known.kinds) (PartFits more.kinds)
            (λ (part : Part) fits. All-weaker (Fits known.kinds part.enabling) (Fits more.kinds part.enabling)
            (fits-known known.kinds more.kinds part.enabling more.grows) part.mentions fits) reading.parts known.fit)
            more.fit;
      }
  known-part reading known (FreeAction word label transition) =
      record { kinds = known.kinds; sized = known.sized; fit = known.fit }

  known-body : (reading : Reading) → AllKnown reading → (body : List BodyPart) →
      AllKnown (fold (with_part context) reading body)
  known-body reading known [] = known
  known-body reading known (part ∷ body) =
      known-body (with_part context reading part) (known-part reading known part) body

-- ---- a state

pub are-enabling : StatesAreEnabling
are-enabling context body name =
    let known = known-body context first_reading
    (record { kinds = []; sized = refl; fit = All-nil (PartFits []) }) body in
    let parts = parts_of name.text (body_read context body).parts in
    let fit = All-filter (λ (part : Part). is_part_of name.text part.states) (PartFits known.kinds)
    (body_read context body).parts known.fit in
    let said = λ (subject : Subject) (condition : ConditionId).
    parts-fit known.kinds parts fit subject condition in
    let first = λ (subject : Subject).
    ap said_condition (sym (first_mention (mentions_in parts) subject)) in
    record {
      named = λ signal condition is. (said (Signal signal) condition (first (Signal signal) ∙ is)).0;
      rest = λ condition is. (said Rest condition (first Rest ∙ is)).0;
      apart = λ signal condition one other.
          apart known.kinds condition (said (Signal signal) condition (first (Signal signal) ∙ one)).1
          (said Rest condition (first Rest ∙ other)).1;
    }
  where
    apart : (kinds : List Bool) (condition : ConditionId) → slice_get kinds condition.0 ≡ Some false →
        slice_get kinds condition.0 ≡ Some true → ⊥
    apart kinds condition one other = never (sym one ∙ other)
      where
        never : Some false ≡ Some true → ⊥
        never is = cc
