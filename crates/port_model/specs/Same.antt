-- When Pids, values and keys are the same, and their order.
use Rattle.std.specs.Prelude.{◌≡◌, Bool, List, refl}
use Rattle.std.proofs.Common.{ap}
use Rattle.std.specs.Bool.{Decides}
use Rattle.std.specs.declared.cmp.Ordering.{Ordering}
use Rattle.std.specs.Ordering.{eq_by_cmp}
use Rattle.std.specs.Cmp.{IsEquivalence, IsTotalOrder, decided, booleans_Decides, unsigned_Decides, signed_Decides}
use Rattle.std.specs.Cmp.Lexicographic.{pointwise, pointwise_decides, slice_cmp, lists_total, lists_ties}
use Rattle.port_model.specs.declared.values.pid.Pid.{Pid}
use Rattle.port_model.specs.declared.values.pid.Pid.TheVariants.{Null, Env, Of}
use Rattle.port_model.specs.declared.values.value.Value.{Value}
use Rattle.port_model.specs.declared.values.value.Value.TheVariants as sort
use Rattle.port_model.specs.contracts.values.pid.PidPartialEq.TheImpl as pids
use Rattle.port_model.specs.contracts.values.value.ValuePartialEq.TheImpl as values
use Rattle.port_model.specs.contracts.values.value.ValueOrd.TheImpl as order
use Rattle.port_model.specs.contracts.values.value.ValueOrd.TheImpl.Laws.{total-law, matches_eq-law}

-- whether two Pids, two values or two lists of values are the same: what `==` answers
abbrev pub same_pid : Pid → Pid → Bool
same_pid = pids.ghosts.eq

abbrev pub same_value : Value → Value → Bool
same_value = values.ghosts.eq

abbrev pub same_values : List Value → List Value → Bool
same_values = pointwise same_value

pub same_pid-Decides : (a b : Pid) → Decides (same_pid a b) (a ≡ b)
same_pid-Decides Null Null = (λ _. refl, λ _. refl)
same_pid-Decides Env Env = (λ _. refl, λ _. refl)
same_pid-Decides (Of a) (Of b) = (λ e. ap Of ((unsigned_Decides a b).0 e), λ e. (unsigned_Decides a b).1 cc)
same_pid-Decides a b = (λ e. cc, λ e. cc)

pub same_value-Decides : (a b : Value) → Decides (same_value a b) (a ≡ b)
same_value-Decides (sort.Int a) (sort.Int b) = (λ e. ap sort.Int ((signed_Decides a b).0 e), λ e. (signed_Decides a b).1 cc)
same_value-Decides (sort.Bool a) (sort.Bool b) = (λ e. ap sort.Bool ((booleans_Decides a b).0 e), λ e. (booleans_Decides a b).1 cc)
same_value-Decides (sort.Pid a) (sort.Pid b) = (λ e. ap sort.Pid ((same_pid-Decides a b).0 e), λ e. (same_pid-Decides a b).1 cc)
same_value-Decides (sort.Time a) (sort.Time b) = (λ e. ap sort.Time ((signed_Decides a b).0 e), λ e. (signed_Decides a b).1 cc)
same_value-Decides (sort.Duration a) (sort.Duration b) = (λ e. ap sort.Duration ((signed_Decides a b).0 e), λ e. (signed_Decides a b).1 cc)
same_value-Decides a b = (λ e. cc, λ e. cc)

pub same_values-Decides : (xs ys : List Value) → Decides (same_values xs ys) (xs ≡ ys)
same_values-Decides = pointwise_decides same_value-Decides

pub same_values_equiv : IsEquivalence same_values
same_values_equiv = decided same_values same_values-Decides

-- the order in which values stand, and lists of values: what `cmp` answers
abbrev pub value_order : Value → Value → Ordering
value_order = order.ghosts.cmp

abbrev pub values_order : List Value → List Value → Ordering
values_order = slice_cmp value_order

pub values_order_total : IsTotalOrder values_order
values_order_total = lists_total total-law

pub values_order_ties : (xs ys : List Value) → same_values xs ys ≡ eq_by_cmp values_order xs ys
values_order_ties = lists_ties value_order matches_eq-law
