-- The sorts of values, and what a value is at a place of a sort (Z.104: predefined sorts).
use Rattle.std.specs.Prelude.{ℤ, pos, negsuc, Bool, true, false, Option, Some, None}
use Rattle.port_model.specs.declared.values.pid.Pid.{Pid}
use Rattle.port_model.specs.declared.values.pid.Pid.TheVariants.{Null}
use Rattle.port_model.specs.declared.values.value.Value.{Value}
use Rattle.port_model.specs.declared.values.value.Value.TheVariants as value
use Rattle.sdl_system.specs.Operation.{number_of, truth_of}
use Rattle.sdl_system.specs.declared.sort.Sort.{Sort}
use Rattle.sdl_system.specs.declared.sort.Sort.TheVariants as sort

-- whether a value is one of this sort
abbrev pub has_sort : Sort → Value → Bool
has_sort sort.Boolean (value.Bool truth) = true
has_sort sort.Integer (value.Int number) = true
has_sort sort.Natural (value.Int (pos n)) = true
has_sort sort.Pid (value.Pid pid) = true
has_sort sort.Time (value.Time number) = true
has_sort sort.Duration (value.Duration number) = true
has_sort sort other = false

-- the Pid of a value; null for what is no Pid
abbrev pub pid_of : Value → Pid
pid_of (value.Pid pid) = pid
pid_of other = Null

-- a number at a Natural place: a negative one has none
abbrev pub as_natural : ℤ → Option Value
as_natural (pos n) = Some (value.Int (pos n))
as_natural (negsuc n) = None

-- A value at a place of this sort. A number takes the sort of the place; truths and Pids are what they are.
abbrev pub as_sort : Sort → Value → Option Value
as_sort sort.Boolean v = Some (value.Bool (truth_of v))
as_sort sort.Integer v = Some (value.Int (number_of v))
as_sort sort.Natural v = as_natural (number_of v)
as_sort sort.Pid v = Some (value.Pid (pid_of v))
as_sort sort.Time v = Some (value.Time (number_of v))
as_sort sort.Duration v = Some (value.Duration (number_of v))
