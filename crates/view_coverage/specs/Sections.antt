-- What there is to cover, with its counts.
use Rattle.std.specs.Prelude.{◌≡◌, ◌==◌, ◌+◌, ◌++◌, ℕ, Bool, false, List, [], ◌∷◌, Option, None, Some, codes, is_some, map, slice_get, string_bytes, if◌then◌else◌}
use Rattle.std.specs.Borrow.{Bor}
use Rattle.std.specs.Fmt.{decimal}
use Rattle.std.specs.List.Sorted.{IsPermutation}
use Rattle.port_model.specs.declared.values.item.SignalId.{SignalId}
use Rattle.sdl_lex.specs.Place.{place_text}
use Rattle.sdl_lex.specs.declared.place.Place.{Place}
use Rattle.sdl_system.specs.Process.{table_of}
use Rattle.sdl_system.specs.State.{named_reaction}
use Rattle.sdl_system.specs.System.{SystemValue}
use Rattle.sdl_system.specs.declared.id.ProcessId.{ProcessId}
use Rattle.sdl_system.specs.declared.id.StateId.{StateId}
use Rattle.sdl_system.specs.declared.process.Process.{Process}
use Rattle.sdl_system.specs.declared.signal.Signal.{Signal}
use Rattle.sdl_system.specs.declared.state.StateTable.{StateTable}
use Rattle.build_names.specs.Labels.{names_listed}
use Rattle.sdl_tree.specs.Words.{Spot}
use Rattle.sdl_tree.specs.declared.name.Name.{Name}
use Rattle.view_coverage.specs.Coverage.{counted}
use Rattle.view_coverage.specs.declared.point.Passage.{Passage}
use Rattle.view_coverage.specs.declared.point.Passage.TheVariants.{Entered, Provided, Taken}
use Rattle.view_coverage.specs.declared.point.Point.{Point}
use Rattle.view_coverage.specs.declared.goals.goal.AnswerGoal.{AnswerGoal}
use Rattle.view_coverage.specs.declared.goals.goal.Awaited.{Awaited}
use Rattle.view_coverage.specs.declared.goals.goal.Awaited.TheVariants as awaited
use Rattle.view_coverage.specs.declared.goals.goal.ProcessGoals.{ProcessGoals}
use Rattle.view_coverage.specs.declared.goals.goal.StimulusGoal.{StimulusGoal}
use Rattle.view_coverage.specs.declared.goals.goal.Urgency.{Urgency}
use Rattle.view_coverage.specs.declared.goals.goal.Urgency.TheVariants.{Plain, Priority}
use Rattle.view_coverage.specs.declared.sections.item.Item.{Item}
use Rattle.view_coverage.specs.declared.sections.item.Kind.{Kind}
use Rattle.view_coverage.specs.declared.sections.item.Kind.TheVariants as kind
use Rattle.view_coverage.specs.declared.sections.item.Section.{Section}
use Rattle.view_coverage.specs.declared.covered.answers.Answers.{Answers}
use Rattle.view_coverage.specs.declared.covered.answers.Answers.TheVariants as known
use Rattle.view_coverage.specs.declared.covered.section.Material.{Material}

-- ---- an item

-- an item by its words
pub record Row : Type 0 where
  pub kind : Kind
  pub place : Place
  pub at : List ℕ
  pub owner : List ℕ
  pub what : List ℕ
  pub times : ℕ

abbrev pub row_of : Item → Row
row_of item = record {
  kind = item.kind;
  place = item.place;
  at = string_bytes item.at;
  owner = string_bytes item.owner;
  what = string_bytes item.what;
  times = item.times;
}

abbrev pub rows_listed : List Item → List Row
rows_listed items = map row_of items

abbrev pub row_at : Kind → Place → List ℕ → List ℕ → ℕ → Row
row_at kind place owner what times =
    record { kind = kind; place = place; at = place_text place; owner = owner; what = what; times = times }

abbrev pub in_text : List ℕ → List ℕ
in_text name = codes "in " ++ name

-- ---- counts

-- how often a state of a process passed this
abbrev pub times_of : List (Point × ℕ) → ProcessId → StateId → Passage → ℕ
times_of counts process state passage = counted counts (record { process = process; state = state; passage = passage })

abbrev pub is_named_by : Option StateTable → SignalId → Bool
is_named_by None signal = false
is_named_by (Some table) signal = is_some (named_reaction table.reactions signal)

abbrev pub is_named_in : Option Process → StateId → SignalId → Bool
is_named_in None state signal = false
is_named_in (Some process) state signal = is_named_by (table_of process state) signal

-- whether a state names the signal
abbrev pub is_named : SystemValue → ProcessId → StateId → SignalId → Bool
is_named system process state signal = is_named_in (slice_get system.processes process.0) state signal

-- how often a state took a signal, if the state doesn't name it
abbrev pub unnamed_times : SystemValue → List (Point × ℕ) → ProcessId → StateId → SignalId → ℕ
unnamed_times system counts process state signal =
    if is_named system process state signal then 0 else times_of counts process state (Taken signal)

-- how often it took those of these signals that it doesn't name, where they are numbered from this number on
abbrev pub rest_from : SystemValue → List (Point × ℕ) → ProcessId → StateId → ℕ → List Signal → ℕ
rest_from system counts process state number [] = 0
rest_from system counts process state number (signal ∷ signals) =
    unnamed_times system counts process state (record { 0 = number })
    + rest_from system counts process state (number + 1) signals

abbrev pub awaited_times : SystemValue → List (Point × ℕ) → ProcessId → StateId → Awaited → ℕ
awaited_times system counts process state (awaited.Signal urgency signal) = times_of counts process state (Taken signal)
awaited_times system counts process state awaited.Rest = rest_from system counts process state 0 system.signals
awaited_times system counts process state (awaited.Continuous number) = times_of counts process state (Provided number)

-- ---- states

abbrev pub state_row : List (Point × ℕ) → ProcessId → StateId → Spot → Row
state_row counts process state name =
    row_at kind.State name.place (in_text name.text) (codes "entered") (times_of counts process state Entered)

-- states of these names, numbered from this number on
abbrev pub state_rows : List (Point × ℕ) → ProcessId → ℕ → List Spot → List Row
state_rows counts process number [] = []
state_rows counts process number (name ∷ names) =
    state_row counts process (record { 0 = number }) name ∷ state_rows counts process (number + 1) names

-- ---- stimuli

abbrev pub name_text : Option (Bor Name) → List ℕ
name_text None = []
name_text (Some name) = string_bytes name.now.text

abbrev pub signal_text : Option Signal → List ℕ
signal_text None = []
signal_text (Some signal) = string_bytes signal.name

abbrev pub input_text : Urgency → List ℕ → List ℕ
input_text Plain name = codes "input " ++ name
input_text Priority name = codes "priority input " ++ name

abbrev pub awaited_text : SystemValue → Awaited → List ℕ
awaited_text system (awaited.Signal urgency signal) =
    input_text urgency (signal_text (slice_get system.signals signal.0))
awaited_text system awaited.Rest = codes "input *"
awaited_text system (awaited.Continuous number) = codes "provided " ++ decimal number

-- the ways from a place are the states that wait there
abbrev pub stimulus_kind : StimulusGoal → Kind
stimulus_kind goal = kind.Stimulus (record { place = goal.place; number = goal.state.0 })

abbrev pub stimulus_row : SystemValue → List (Point × ℕ) → ProcessId → List (Bor Name) → StimulusGoal → Row
stimulus_row system counts process states goal =
    row_at (stimulus_kind goal) goal.place (in_text (name_text (slice_get states goal.state.0)))
    (awaited_text system goal.awaited) (awaited_times system counts process goal.state goal.awaited)

-- ---- answers

abbrev pub answer_kind : AnswerGoal → Kind
answer_kind goal = kind.Answer (record { place = goal.decision; number = goal.branch })

abbrev pub answer_row : AnswerGoal → ℕ → Row
answer_row goal times =
    row_at (answer_kind goal) goal.place (codes "decision of " ++ place_text goal.decision)
    (string_bytes goal.answers) times

abbrev pub answer_if : ProcessId → AnswerGoal → ℕ → List Row
answer_if process goal times = if goal.process.0 == process.0 then answer_row goal times ∷ [] else []

abbrev pub answer_of : ProcessId → AnswerGoal → Option ℕ → List Row
answer_of process goal None = []
answer_of process goal (Some times) = answer_if process goal times

-- those of a process among these, of which the counts are numbered from this number on
abbrev pub answer_rows : ProcessId → List ℕ → ℕ → List AnswerGoal → List Row
answer_rows process counts number [] = []
answer_rows process counts number (goal ∷ goals) =
    answer_of process goal (slice_get counts number) ++ answer_rows process counts (number + 1) goals

-- of answers nothing is told if nothing is known
abbrev pub known_rows : ProcessId → List AnswerGoal → Answers → List Row
known_rows process goals (known.Known counts) = answer_rows process counts.items 0 goals
known_rows process goals other = []

-- ---- a process

-- all that there is to cover in a process, in whatever order
abbrev pub process_rows : SystemValue → List (Point × ℕ) → List AnswerGoal → Answers → ProcessGoals → List Row
process_rows system counts answer_goals answers goals =
    state_rows counts goals.number 0 (names_listed goals.states.items)
    ++ map (stimulus_row system counts goals.number goals.states.items) goals.stimuli.items
    ++ known_rows goals.number answer_goals answers

-- what the sections are made of
pub record Sources : Type 0 where
  pub system : SystemValue
  pub counts : List (Point × ℕ)
  pub answer_goals : List AnswerGoal
  pub answers : Answers

pub record IsSection (sources : Sources) (goals : ProcessGoals) (section : Section) : Type 0 where
  pub process : section.process.now ≡ string_bytes goals.name.now.text
  pub items : IsPermutation (process_rows sources.system sources.counts sources.answer_goals sources.answers goals)
      (rows_listed section.items.items)

-- ---- what the code keeps

abbrev pub sources_of : Material → Sources
sources_of material = record {
  system = material.system.now;
  counts = material.counts.now;
  answer_goals = material.goals.now.answers.items;
  answers = material.answers.now;
}
