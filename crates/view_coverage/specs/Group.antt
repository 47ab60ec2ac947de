-- Items that are counted together.
use Rattle.std.specs.Prelude.{ℕ, ◌==◌, ◌&&◌, Bool, true, false, List, count_by}
use Rattle.std.specs.List.{sum_by}
use Rattle.view_coverage.specs.declared.sections.group.Group as group
use Rattle.view_coverage.specs.declared.sections.group.Group.TheVariants as of
use Rattle.view_coverage.specs.declared.sections.item.Item.{Item}
use Rattle.view_coverage.specs.declared.sections.item.Kind as kind
use Rattle.view_coverage.specs.declared.sections.item.Kind.TheVariants as is
use Rattle.view_coverage.specs.declared.sections.item.Section.{Section}

abbrev pub has_kind : group.Group → kind.Kind → Bool
has_kind of.States is.State = true
has_kind of.Stimuli (is.Stimulus branch) = true
has_kind of.Answers (is.Answer branch) = true
has_kind of.Choices (is.Stimulus branch) = true
has_kind of.Choices (is.Answer branch) = true
has_kind group other = false

abbrev pub is_in : group.Group → Item → Bool
is_in group item = has_kind group item.kind

abbrev pub is_missed : group.Group → Item → Bool
is_missed group item = is_in group item && item.times == 0

abbrev pub all_in : group.Group → List Item → ℕ
all_in group items = count_by (is_in group) items

abbrev pub missed_in : group.Group → List Item → ℕ
missed_in group items = count_by (is_missed group) items

abbrev pub all_of : group.Group → List Section → ℕ
all_of group sections = sum_by (λ section. all_in group section.items.items) sections

abbrev pub missed_of : group.Group → List Section → ℕ
missed_of group sections = sum_by (λ section. missed_in group section.items.items) sections
