-- The ends of an arrow, and what its labels say of them.
use Rattle.std.specs.Prelude.{ℕ, ◌-◌, ◌<◌, ◌⊎◌, ◌++◌, List, codes}
use Rattle.std.specs.Int.{abs_diff}
use Rattle.std.specs.Fmt.{decimal}
use Rattle.view_chart.specs.declared.chart.Spot.{Spot}
use Rattle.view_chart.specs.declared.chart.Head.{Head}
use Rattle.view_chart.specs.declared.chart.Head.TheVariants as head
use Rattle.view_chart.specs.declared.picture.ends.OtherEnd.{OtherEnd}
use Rattle.view_chart.specs.declared.picture.ends.OtherEnd.TheVariants as other

-- they are more than six columns apart, or more than twelve rows
abbrev pub IsFar : Spot → Spot → Type 0
IsFar from to = (6 < abs_diff from.column.0 to.column.0) ⊎ (12 < to.row.0 - from.row.0)

-- who has a column, in short
abbrev pub short_name : Head → List ℕ
short_name head.Env = codes "env"
short_name head.Others = codes "others"
short_name (head.Instance number process) = codes "#" ++ decimal number

-- what the label at one end says of the other
abbrev pub other_words : OtherEnd → Head → List ℕ
other_words (other.To column) head = codes " to " ++ short_name head
other_words (other.From column) head = codes " from " ++ short_name head
