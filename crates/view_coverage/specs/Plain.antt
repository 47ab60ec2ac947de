-- The plain text of what a run covered.
use Rattle.std.specs.Prelude.{◌≡◌, ◌==◌, ◌-◌, ℕ, List, [], ◌∷◌, ◌++◌, codes, length, replicate, if◌then◌else◌}
use Rattle.std.specs.Fmt.{decimal}
use Rattle.std.specs.List.{flat_map}
use Rattle.std.specs.String.{string_bytes}
use Rattle.view_coverage.specs.Group.{all_in, all_of, is_missed, missed_in, missed_of}
use Rattle.view_coverage.specs.declared.sections.column.Widths.{Widths}
use Rattle.view_coverage.specs.declared.sections.group.Group as group
use Rattle.view_coverage.specs.declared.sections.group.Group.TheVariants as of
use Rattle.view_coverage.specs.declared.sections.item.Item.{Item}
use Rattle.view_coverage.specs.declared.sections.item.Knowledge as knowledge
use Rattle.view_coverage.specs.declared.sections.item.Knowledge.TheVariants as known
use Rattle.view_coverage.specs.declared.sections.item.Section.{Section}

-- a text at the left of a column of that width, and the blanks before the next one
abbrev pub column : List ℕ → ℕ → List ℕ
column cell width = cell ++ replicate (width - length cell) 32 ++ codes "  "

abbrev pub count_text : List ℕ → ℕ → ℕ → List ℕ
count_text before count all = before ++ decimal count ++ codes " of " ++ decimal all

-- ---- what never came

abbrev pub missed_row : Widths → List ℕ → Item → List ℕ
missed_row widths process item =
    codes "  " ++ column (string_bytes item.at) widths.at ++ column process widths.process
    ++ column (string_bytes item.owner) widths.owner ++ string_bytes item.what ++ 10 ∷ []

abbrev pub missed_row_if : Widths → group.Group → List ℕ → Item → List ℕ
missed_row_if widths group process item = if is_missed group item then missed_row widths process item else []

abbrev pub missed_section : Widths → group.Group → Section → List ℕ
missed_section widths group section =
    flat_map (missed_row_if widths group section.process.now) section.items.items

abbrev pub missed_rows : Widths → group.Group → List Section → List ℕ
missed_rows widths group sections = flat_map (missed_section widths group) sections

-- stimuli and answers
abbrev pub missed_text : Widths → List Section → List ℕ
missed_text widths sections =
    count_text (codes "never: ") (missed_of of.Choices sections) (all_of of.Choices sections)
    ++ 10 ∷ [] ++ missed_rows widths of.Choices sections

abbrev pub unentered_rows : Widths → List Section → List ℕ
unentered_rows widths sections =
    count_text (codes "never entered: ") (missed_of of.States sections) (all_of of.States sections)
    ++ codes " states" ++ 10 ∷ [] ++ missed_rows widths of.States sections

-- states, if there are any
abbrev pub unentered_text : Widths → List Section → List ℕ
unentered_text widths sections =
    if missed_of of.States sections == 0 then [] else unentered_rows widths sections

-- why nothing is known of answers, if nothing is
abbrev pub unknown_text : knowledge.Knowledge → List ℕ
unknown_text known.Known = []
unknown_text known.NotOfThreads = codes "answers of decisions: not known of a run with workers" ++ 10 ∷ []
unknown_text known.OtherRun =
    codes "answers of decisions: not known, since a run that counts them is another one" ++ 10 ∷ []

-- ---- a process

abbrev pub tally_text : List ℕ → group.Group → Section → List ℕ
tally_text before group section =
    count_text before (all_in group section.items.items - missed_in group section.items.items)
    (all_in group section.items.items)

-- of answers nothing is said where nothing is known
abbrev pub covered_text : knowledge.Knowledge → Section → List ℕ
covered_text known.Known section = tally_text (codes ", answers ") of.Answers section
covered_text other section = []

abbrev pub item_row : Widths → Item → List ℕ
item_row widths item =
    codes "  " ++ column (string_bytes item.at) widths.at ++ column (string_bytes item.owner) widths.owner
    ++ column (string_bytes item.what) widths.what ++ decimal item.times ++ 10 ∷ []

abbrev pub item_rows : Widths → List Item → List ℕ
item_rows widths items = flat_map (item_row widths) items

abbrev pub section_text : Widths → knowledge.Knowledge → Section → List ℕ
section_text widths knowledge section =
    section.process.now ++ tally_text (codes ": states ") of.States section
    ++ tally_text (codes ", stimuli ") of.Stimuli section ++ covered_text knowledge section
    ++ 10 ∷ [] ++ item_rows widths section.items.items

abbrev pub sections_text : Widths → knowledge.Knowledge → List Section → List ℕ
sections_text widths knowledge sections = flat_map (section_text widths knowledge) sections

-- ---- all of it

abbrev pub plain_text : Widths → knowledge.Knowledge → List Section → List ℕ
plain_text widths knowledge sections =
    missed_text widths sections ++ unentered_text widths sections ++ unknown_text knowledge
    ++ sections_text widths knowledge sections

-- the text, with columns of some widths
abbrev pub IsPlainText : List Section → knowledge.Knowledge → List ℕ → Type 0
IsPlainText sections knowledge text = (widths : Widths) × (text ≡ plain_text widths knowledge sections)
