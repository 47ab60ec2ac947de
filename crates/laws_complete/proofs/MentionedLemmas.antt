-- What a state says, by what holds of each mention of its parts: the numbers of transitions and conditions are below
-- their bounds, and something holds of each signal.
use Rattle.std.proofs.Common.{◌+◌, ◌<◌, ◌++◌, ℕ, Bool, true, false, cond, IfSome, List, [], ◌∷◌, Option, None, Some, filter, fold, if◌then◌else◌, is_some}
use Rattle.std.specs.Option.{option_or}
use Rattle.port_model.specs.declared.values.item.SignalId.{SignalId}
use Rattle.build_names.proofs.FaultLemmas.{each-both, each-in, each-of}
use Rattle.build_names.specs.FaultLaws.{Each}
use Rattle.build_states.specs.States.{Answers, Numbered, Table, comes_first, named_in, no_answers, numbered_from, parts_of, is_part_of, placed, table_of, tried, with_answer, with_mention, with_mentions, with_subjects}
use Rattle.build_states.specs.Mentions.{Mention, Response, input, priority_input, save}
use Rattle.build_states.specs.Reading.{ContinuousSignal, Part}
use Rattle.build_states.specs.declared.stimuli.subject.Subject.{Subject}
use Rattle.build_states.specs.declared.stimuli.subject.Subject.TheVariants.{Rest, Signal}
use Rattle.sdl_system.specs.State.{same_signal}
use Rattle.sdl_system.specs.declared.id.ConditionId.{ConditionId}

-- ---- mentions and what they give

-- how many transitions and conditions there are
pub record Bounds : Type 0 where
  pub transitions : ℕ
  pub conditions : ℕ

abbrev pub IsCondition : Bounds → ConditionId → Type 0
IsCondition n condition = condition.0 < n.conditions

-- a response that begins one of the transitions, where one of the conditions is true
abbrev pub Begins : Bounds → Response → Type 0
Begins n (input variables condition begin) = (begin.0 < n.transitions) × IfSome condition (IsCondition n)
Begins n (priority_input variables begin) = begin.0 < n.transitions
Begins n save = Unit {0}

abbrev pub Speaks : (SignalId → Type 0) → Subject → Type 0
Speaks Q (Signal signal) = Q signal
Speaks Q Rest = Unit {0}

pub record IsMention (n : Bounds) (Q : SignalId → Type 0) (mention : Mention) : Type 0 where
  pub begins : Begins n mention.response
  pub speaks : Each (Speaks Q) mention.subjects

abbrev pub IsSaid : Bounds → (SignalId → Type 0) → SignalId × Response → Type 0
IsSaid n Q said = Q said.0 × Begins n said.1

pub record AreAnswers (n : Bounds) (Q : SignalId → Type 0) (answers : Answers) : Type 0 where
  pub named : Each (IsSaid n Q) answers.named
  pub rest : IfSome answers.rest (Begins n)

module _ (n : Bounds) (Q : SignalId → Type 0) where
  one-more : (known : Bool) (named : List (SignalId × Response)) (signal : SignalId) (response : Response) →
      Each (IsSaid n Q) named → Q signal → Begins n response →
      Each (IsSaid n Q) (if known then named else named ++ (signal, response) ∷ [])
  one-more true named signal response are one begins = are
  one-more false named signal response are one begins =
      each-both (IsSaid n Q) named ((signal, response) ∷ []) are ((one, begins), tt)

  rest-or : (rest : Option Response) (response : Response) → IfSome rest (Begins n) → Begins n response →
      IfSome (option_or rest (Some response)) (Begins n)
  rest-or None response is begins = begins
  rest-or (Some first) response is begins = is

  answer-more : (answers : Answers) (response : Response) (subject : Subject) → AreAnswers n Q answers →
      Begins n response → Speaks Q subject → AreAnswers n Q (with_answer answers response subject)
  answer-more answers response (Signal signal) are begins speaks = record {
    named = one-more (is_some (named_in answers.named signal)) answers.named signal response are.named speaks begins;
    rest = are.rest;
  }
  answer-more answers response Rest are begins speaks = record {
    named = are.named;
    rest = rest-or answers.rest response are.rest begins;
  }

  subjects-more : (answers : Answers) (response : Response) (subjects : List Subject) → AreAnswers n Q answers →
      Begins n response → Each (Speaks Q) subjects → AreAnswers n Q (with_subjects answers response subjects)
  subjects-more answers response [] are begins speaks = are
  subjects-more answers response (subject ∷ subjects) are begins speaks =
      subjects-more (with_answer answers response subject) response subjects
      (answer-more answers response subject are begins speaks.0) begins speaks.1

  mentions-more : (answers : Answers) (mentions : List Mention) → AreAnswers n Q answers →
      Each (IsMention n Q) mentions → AreAnswers n Q (with_mentions answers mentions)
  mentions-more answers [] are each = are
  mentions-more answers (mention ∷ mentions) are each =
      mentions-more (with_mention answers mention) mentions
      (subjects-more answers mention.response mention.subjects are each.0.begins each.0.speaks) each.1

-- ---- continuous signals

abbrev pub BeginsContinuous : Bounds → ContinuousSignal → Type 0
BeginsContinuous n signal = (signal.begin.0 < n.transitions) × IsCondition n signal.condition

abbrev pub BeginsNumbered : Bounds → Numbered → Type 0
BeginsNumbered n one = BeginsContinuous n one.signal

module _ (n : Bounds) where
  numbered-each : (number : ℕ) (signals : List ContinuousSignal) → Each (BeginsContinuous n) signals →
      Each (BeginsNumbered n) (numbered_from number signals)
  numbered-each number [] each = tt
  numbered-each number (signal ∷ signals) each = (each.0, numbered-each (number + 1) signals each.1)

  placed-by : (first : Bool) (one signal : Numbered) (rest : List Numbered) → BeginsNumbered n one →
      Each (BeginsNumbered n) rest → Each (BeginsNumbered n) (placed rest signal) → BeginsNumbered n signal →
      Each (BeginsNumbered n) (if first then one ∷ placed rest signal else signal ∷ (one ∷ rest))
  placed-by true one signal rest is each more begins = (is, more)
  placed-by false one signal rest is each more begins = (begins, (is, each))

  placed-each : (list : List Numbered) (signal : Numbered) → Each (BeginsNumbered n) list → BeginsNumbered n signal →
      Each (BeginsNumbered n) (placed list signal)
  placed-each [] signal each begins = (begins, tt)
  placed-each (one ∷ rest) signal each begins =
      placed-by (comes_first one.signal.priority signal.signal.priority) one signal rest each.0 each.1
      (placed-each rest signal each.1 begins) begins

  tried-more : (before signals : List Numbered) → Each (BeginsNumbered n) before → Each (BeginsNumbered n) signals →
      Each (BeginsNumbered n) (fold placed before signals)
  tried-more before [] done each = done
  tried-more before (signal ∷ signals) done each =
      tried-more (placed before signal) signals (placed-each before signal done each.0) each.1

  pub tried-each : (signals : List ContinuousSignal) → Each (BeginsContinuous n) signals →
      Each (BeginsNumbered n) (tried (numbered_from 1 signals))
  tried-each signals each = tried-more [] (numbered_from 1 signals) tt (numbered-each 1 signals each)

-- ---- parts and tables

pub record IsPart (n : Bounds) (Q : SignalId → Type 0) (part : Part) : Type 0 where
  pub mentions : Each (IsMention n Q) part.mentions
  pub enabling : Each (IsCondition n) part.enabling
  pub continuous : Each (BeginsContinuous n) part.continuous

pub record IsTable (n : Bounds) (Q : SignalId → Type 0) (table : Table) : Type 0 where
  pub answers : AreAnswers n Q table.answers
  pub enabling : Each (IsCondition n) table.enabling
  pub continuous : Each (BeginsContinuous n) table.continuous

filtered-by : {A : Type 0} (P : A → Type 0) (b : Bool) (x : A) (xs : List A) → P x → Each P xs →
    Each P (cond b (x ∷ xs) xs)
filtered-by P true x xs is each = (is, each)
filtered-by P false x xs is each = each

filtered : {A : Type 0} (P : A → Type 0) (test : A → Bool) (xs : List A) → Each P xs → Each P (filter test xs)
filtered P test [] each = tt
filtered P test (x ∷ xs) each = filtered-by P (test x) x (filter test xs) each.0 (filtered P test xs each.1)

module _ (n : Bounds) (Q : SignalId → Type 0) where
  no-answers : AreAnswers n Q no_answers
  no-answers = record { named = tt; rest = tt }

  table-of : (parts : List Part) → Each (IsPart n Q) parts → IsTable n Q (table_of parts)
  table-of parts each = record {
    answers =
        mentions-more n Q no_answers _ no-answers
        (each-of (IsMention n Q) (λ part. part.mentions) parts
        (λ part among. (each-in (IsPart n Q) parts part each among).mentions));
    enabling =
        each-of (IsCondition n) (λ part. part.enabling) parts
        (λ part among. (each-in (IsPart n Q) parts part each among).enabling);
    continuous =
        each-of (BeginsContinuous n) (λ part. part.continuous) parts
        (λ part among. (each-in (IsPart n Q) parts part each among).continuous);
  }

  -- what the state of a name says, by what holds of all parts
  pub table-named : (text : List ℕ) (parts : List Part) → Each (IsPart n Q) parts →
      IsTable n Q (table_of (parts_of text parts))
  table-named text parts each =
      table-of (parts_of text parts) (filtered (IsPart n Q) (λ part. is_part_of text part.states) parts each)

-- ---- look-ups

found-by : (n : Bounds) (here : Bool) (response : Response) (rest : Option Response) → Begins n response →
    IfSome rest (Begins n) → IfSome (cond here (Some response) rest) (Begins n)
found-by n true response rest is later = is
found-by n false response rest is later = later

-- what is said of a signal
pub found-begins : (n : Bounds) (Q : SignalId → Type 0) (named : List (SignalId × Response)) (signal : SignalId) →
    Each (IsSaid n Q) named → IfSome (named_in named signal) (Begins n)
found-begins n Q [] signal each = tt
found-begins n Q (said ∷ named) signal each =
    found-by n (same_signal signal said.0) said.1 (named_in named signal) each.0.1
    (found-begins n Q named signal each.1)
