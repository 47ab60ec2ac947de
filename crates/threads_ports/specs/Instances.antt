-- The instances of one process: who lives, and how many creates are under way.
use Rattle.std.specs.Prelude.{◌+◌, ◌-◌, ◌≤◌, ◌&&◌, ℕ, Bool, true, not, nat_lt, List, [], length, Option, IfSome, slice_get}
use Rattle.std.specs.Option.{option_map, option_map_or}
use Rattle.threads_ports.specs.NumberSets.{is_in, with_number, without, IsAscending}
use Rattle.threads_ports.specs.declared.instances.instances.Limit.{Limit}

-- The numbers of those that live, ascending; and where the process has a maximum, this and the number of reservations.
pub record InstancesValue : Type 0 where
  pub living : List ℕ
  pub limit : Option Limit

-- a limit of which nothing is reserved
abbrev pub unreserved : ℕ → Limit
unreserved most = record { maximum = most; reserved = 0 }

-- nobody lives, of a process with this maximum
abbrev pub none_of : Option ℕ → InstancesValue
none_of maximum = record { living = []; limit = option_map unreserved maximum }

-- ---- the maximum

-- those that live and those that are reserved are no more than may be
abbrev pub IsWithin : Option Limit → List ℕ → Type 0
IsWithin limit living = IfSome limit (λ l. length living + l.reserved ≤ l.maximum)

abbrev pub AreWithinLimit : InstancesValue → Type 0
AreWithinLimit instances = IsWithin instances.limit instances.living

-- whether there may be one more: those that live and those that are reserved are fewer than may be, where that is
-- bounded
abbrev pub has_room : InstancesValue → Bool
has_room instances = option_map_or (λ l. nat_lt (length instances.living + l.reserved) l.maximum) instances.limit true

-- ---- reservations

-- whether there is a reservation, where they are counted
abbrev pub has_reservation : InstancesValue → Bool
has_reservation instances = option_map_or (λ l. nat_lt 0 l.reserved) instances.limit true

abbrev pub more_reserved : Limit → Limit
more_reserved l = record l { reserved = l.reserved + 1 }

abbrev pub less_reserved : Limit → Limit
less_reserved l = record l { reserved = l.reserved - 1 }

abbrev pub with_reservation : InstancesValue → InstancesValue
with_reservation instances = record instances { limit = option_map more_reserved instances.limit }

-- one reservation less, where there is one
abbrev pub without_reservation : InstancesValue → InstancesValue
without_reservation instances = record instances { limit = option_map less_reserved instances.limit }

-- ---- who lives

-- whether an instance can come to life: it doesn't live yet, and there is a reservation for it
abbrev pub can_live : ℕ → InstancesValue → Bool
can_live number instances = not (is_in number instances.living) && has_reservation instances

-- one more lives, and its reservation is spent
abbrev pub with_one : ℕ → InstancesValue → InstancesValue
with_one number instances = record {
  living = with_number number instances.living;
  limit = option_map less_reserved instances.limit;
}

-- one lives no more
abbrev pub without_one : ℕ → InstancesValue → InstancesValue
without_one number instances = record instances { living = without number instances.living }

-- their numbers stand in ascending order, each once
abbrev pub AreAscending : InstancesValue → Type 0
AreAscending instances = IsAscending instances.living

-- the least number of those that live
abbrev pub least : InstancesValue → Option ℕ
least instances = slice_get instances.living 0
