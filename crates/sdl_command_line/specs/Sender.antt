-- The lines of a text by the instances that send what they tell.
use Rattle.std.specs.Prelude.{ℕ, ◌+◌, ◌-◌, ◌*◌, ◌^◌, ◌==◌, ◌&&◌, nat_le, List, ◌++◌, codes, min, if◌then◌else◌}
use Rattle.std.specs.List.{fold}
use Rattle.std.specs.List.Sorted.{IsNonDecreasingBy, IsPermutation, IsStableByKey}
use Rattle.std.specs.Ordering.{nat_cmp}
use Rattle.std.specs.Fmt.{decimal}

-- the end of a line on what this instance sends
abbrev pub sender_text : ℕ → List ℕ
sender_text who = codes " from #" ++ decimal who ++ codes "\n"

-- The number with which a line ends one byte later. A line end changes nothing.
abbrev pub number_after : ℕ → ℕ → ℕ
number_after number byte =
    if nat_le 48 byte && nat_le byte 57
    then min (min (number * 10) (2 ^ 32 - 1) + (byte - 48)) (2 ^ 32 - 1)
    else (if byte == 10 then number else 0)

-- the number with which a line ends, 0 if it ends with none
abbrev pub ending_number : List ℕ → ℕ
ending_number line = fold number_after 0 line

-- The lines by the numbers with which they end. Those of one number are in their order.
pub record AreBySender (all arranged : List (List ℕ)) : Type 0 where
  pub same : IsPermutation all arranged
  pub ascending : IsNonDecreasingBy ending_number arranged
  pub stable : IsStableByKey ending_number nat_cmp all arranged
