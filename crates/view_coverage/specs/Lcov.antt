-- The tracefile of what a run covered, as LCOV reads it.
use Rattle.std.specs.Prelude.{◌≡◌, ◌==◌, ◌-◌, ◌<◌, ◌≤◌, ℕ, Bool, not, List, [], ◌∷◌, ◌++◌, codes, count_by, length, if◌then◌else◌}
use Rattle.std.specs.Fmt.{decimal}
use Rattle.std.specs.List.{flat_map, list_any, sum_by}
use Rattle.view_coverage.specs.Group.{all_of, missed_of}
use Rattle.view_coverage.specs.Source.{source_text}
use Rattle.view_coverage.specs.declared.sections.group.Group.TheVariants.{Choices}
use Rattle.view_coverage.specs.declared.sections.item.Branch.{Branch}
use Rattle.view_coverage.specs.declared.sections.item.Item.{Item}
use Rattle.view_coverage.specs.declared.sections.item.Kind as kind
use Rattle.view_coverage.specs.declared.sections.item.Kind.TheVariants as is
use Rattle.view_coverage.specs.declared.sections.item.Knowledge as knowledge
use Rattle.view_coverage.specs.declared.sections.item.Knowledge.TheVariants as known
use Rattle.view_coverage.specs.declared.sections.item.Section.{Section}
use Rattle.view_coverage.specs.declared.sections.line_count.LineCount.{LineCount}

-- the name of the test, which says if answers are not known
abbrev pub test_name : knowledge.Knowledge → List ℕ
test_name known.Known = []
test_name known.NotOfThreads = codes "answers_not_known"
test_name known.OtherRun = codes "answers_not_known"

abbrev pub heading_text : knowledge.Knowledge → List ℕ → List ℕ
heading_text knowledge source = codes "TN:" ++ test_name knowledge ++ 10 ∷ [] ++ codes "SF:" ++ source_text source ++ 10 ∷ []

-- ---- ways

abbrev pub branch_row : Branch → ℕ → List ℕ
branch_row branch times =
    codes "BRDA:" ++ decimal branch.place.line ++ codes "," ++ decimal branch.place.column
    ++ codes "," ++ decimal branch.number ++ codes "," ++ decimal times ++ 10 ∷ []

abbrev pub branch_if : kind.Kind → ℕ → List ℕ
branch_if is.State times = []
branch_if (is.Stimulus branch) times = branch_row branch times
branch_if (is.Answer branch) times = branch_row branch times

abbrev pub item_branch : Item → List ℕ
item_branch item = branch_if item.kind item.times

abbrev pub section_branches : Section → List ℕ
section_branches section = flat_map item_branch section.items.items

-- those of all sections, how many there are, and how many were gone
abbrev pub branches_text : List Section → List ℕ
branches_text sections =
    flat_map section_branches sections ++ codes "BRF:" ++ decimal (all_of Choices sections) ++ 10 ∷ []
    ++ codes "BRH:" ++ decimal (all_of Choices sections - missed_of Choices sections) ++ 10 ∷ []

-- ---- lines

abbrev pub line_if : kind.Kind → ℕ → List LineCount
line_if is.State times = []
line_if (is.Stimulus branch) times = record { line = branch.place.line; times = times } ∷ []
line_if (is.Answer branch) times = record { line = branch.place.line; times = times } ∷ []

-- the line in which a stimulus is, or the decision of an answer
abbrev pub item_line : Item → List LineCount
item_line item = line_if item.kind item.times

abbrev pub section_lines : Section → List LineCount
section_lines section = flat_map item_line section.items.items

abbrev pub lines_in : List Section → List LineCount
lines_in sections = flat_map section_lines sections

abbrev pub is_at : ℕ → LineCount → Bool
is_at line count = count.line == line

abbrev pub times_if : ℕ → LineCount → ℕ
times_if line count = if is_at line count then count.times else 0

abbrev pub times_at : ℕ → List LineCount → ℕ
times_at line counts = sum_by (times_if line) counts

-- the same lines as these, with the same sums
pub record SumsUp (counts lines : List LineCount) : Type 0 where
  pub has : (line : ℕ) → list_any (is_at line) lines ≡ list_any (is_at line) counts
  pub times : (line : ℕ) → times_at line lines ≡ times_at line counts

-- each of these lines comes after the one before it, the first after this one
abbrev pub RiseFrom : ℕ → List LineCount → Type 0
RiseFrom line [] = Unit {0}
RiseFrom line (count ∷ rest) = (line < count.line) × RiseFrom count.line rest

-- each line comes after the one before it, so none comes twice
abbrev pub AreInOrder : List LineCount → Type 0
AreInOrder [] = Unit {0}
AreInOrder (count ∷ rest) = RiseFrom count.line rest

abbrev pub line_row : LineCount → List ℕ
line_row count = codes "DA:" ++ decimal count.line ++ codes "," ++ decimal count.times ++ 10 ∷ []

abbrev pub is_passed : LineCount → Bool
is_passed count = not (count.times == 0)

-- the lines, how many there are, and how many were passed
abbrev pub lines_text : List LineCount → List ℕ
lines_text lines =
    flat_map line_row lines ++ codes "LF:" ++ decimal (length lines) ++ 10 ∷ []
    ++ codes "LH:" ++ decimal (count_by is_passed lines) ++ 10 ∷ []

-- ---- all of it

abbrev pub tracefile_text : knowledge.Knowledge → List ℕ → List Section → List LineCount → List ℕ
tracefile_text knowledge source sections lines =
    heading_text knowledge source ++ branches_text sections ++ lines_text lines ++ codes "end_of_record" ++ 10 ∷ []

-- the tracefile of these sections, with the counts of their lines
abbrev pub IsTracefile : knowledge.Knowledge → List ℕ → List Section → List ℕ → Type 0
IsTracefile knowledge source sections text =
    (lines : List LineCount) × SumsUp (lines_in sections) lines × AreInOrder lines
    × (text ≡ tracefile_text knowledge source sections lines)

-- ---- what the code keeps

-- they come one after the other, the first after this line, and none after the bound
abbrev pub RiseUpTo : ℕ → ℕ → List LineCount → Type 0
RiseUpTo bound line [] = line ≤ bound
RiseUpTo bound line (count ∷ rest) = (line < count.line) × RiseUpTo bound count.line rest

-- they come one after the other, and none after the bound
abbrev pub AreUpTo : ℕ → List LineCount → Type 0
AreUpTo bound [] = Unit {0}
AreUpTo bound (count ∷ rest) = RiseUpTo bound count.line rest
