-- What an event leaves coherent. A key's signals, its timers and those of them that run are counted.
use Rattle.std.proofs.Common.{◌≡◌, ℕ, ◌≤◌, true, ◌&&◌, cond, List, [], ◌∷◌, ◌++◌, length, subst, sym, ◌∙◌, refl, arith}
use Rattle.std.specs.Prelude.{filter, nat_le}
use Rattle.std.proofs.lemmas.Bool.{and_parts}
use Rattle.std.proofs.lemmas.Bool.Decides.{same_from_decides, Decides-like}
use Rattle.port_model.specs.declared.values.timer_key.TimerKey.{TimerKey}
use Rattle.port_model.specs.declared.timer.ActiveTimer.{ActiveTimer}
use Rattle.port_model.specs.declared.timer.Phase.TheVariants.{Running}
use Rattle.port_model.specs.declared.got.Got.{Got}
use Rattle.port_model.specs.declared.got.Got.TheVariants.{Signal, Timer}
use Rattle.port_model.specs.declared.values.item.Item.{Item}
use Rattle.port_model.specs.Coherence.{has_key, runs_by, IsCoherent}
use Rattle.port_model.specs.Timers.{same_key, is_set, is_running, is_signal_of, with_waiting, without_key, without_signal, after_taking}
use Rattle.port_model.proofs.Keys.{same_key-Decides}
use Rattle.port_model.proofs.Lists.{count_left, count_with, middle, pushed}

abbrev signals : TimerKey → List Got → ℕ
signals key waiting = length (filter (is_signal_of key) waiting)

abbrev having : TimerKey → List ActiveTimer → ℕ
having key timers = length (filter (has_key key) timers)

abbrev running : TimerKey → List ActiveTimer → ℕ
running key timers = length (filter (runs_by key) timers)

-- of what has one key, all has another key or nothing
like : (x key k : TimerKey) → same_key x k ≡ true → same_key x key ≡ same_key key k
like x key k same =
    let e = (same_key-Decides x k).0 same in
    same_from_decides (same_key x key) (same_key key k) (same_key-Decides x key)
    (Decides-like (same_key key k) (λ f. e ∙ sym f) (λ f. sym f ∙ e) (same_key-Decides key k))

signal_like : (key k : TimerKey) (got : Got) → is_signal_of k got ≡ true → is_signal_of key got ≡ same_key key k
signal_like key k (Signal item) is = absurd cc
signal_like key k (Timer expired) is = like expired key k is

-- without a key
module _ (key k : TimerKey) where
  signals_left : (waiting : List Got) → signals k (without_signal key waiting) ≡ cond (same_key key k) 0 (signals k waiting)
  signals_left = count_left (is_signal_of k) (is_signal_of key) (same_key key k) (signal_like key k)

  having_left : (timers : List ActiveTimer) → having k (without_key key timers) ≡ cond (same_key key k) 0 (having k timers)
  having_left = count_left (has_key k) (has_key key) (same_key key k) (λ timer. like timer.key key k)

  running_left : (timers : List ActiveTimer) → running k (without_key key timers) ≡ cond (same_key key k) 0 (running k timers)
  running_left = count_left (runs_by k) (has_key key) (same_key key k) (λ timer is. like timer.key key k (and_parts (same_key timer.key k) (is_set timer.phase) is).0)

  -- and with it as expired
  having_waits : (arm : ℕ) (timers : List ActiveTimer) → having k (with_waiting key arm timers) ≡ having k timers
  having_waits arm [] = refl
  having_waits arm (timer ∷ timers) = grind (arith, having_waits arm timers)

  running_waits : (arm : ℕ) (timers : List ActiveTimer) → running k (with_waiting key arm timers) ≡ cond (same_key key k) 0 (running k timers)
  running_waits arm [] = grind arith
  running_waits arm (timer ∷ timers) = grind (arith, running_waits arm timers, like timer.key key k)

-- the same of lists that are equal to these
pub coherent_is : (now waiting : List Got) (then timers : List ActiveTimer) → now ≡ waiting → then ≡ timers → IsCoherent waiting timers → IsCoherent now then
coherent_is now waiting then timers e f is = subst (λ w. IsCoherent w then) (sym e) (subst (λ t. IsCoherent waiting t) (sym f) is)

pub coherent_put : (waiting : List Got) (timers : List ActiveTimer) (item : Item)
    → IsCoherent waiting timers → IsCoherent (waiting ++ Signal item ∷ []) timers
coherent_put waiting timers item is k =
    let waits = (is k).waits in record { one = (is k).one; waits = omega (arith, count_with (is_signal_of k) (pushed waiting (Signal item))) }

pub coherent_removed : (key : TimerKey) (waiting : List Got) (timers : List ActiveTimer)
    → IsCoherent waiting timers → IsCoherent (without_signal key waiting) (without_key key timers)
coherent_removed key waiting timers is k =
    let f = is k in let some = signals_left key k waiting in let has = having_left key k timers in let runs = running_left key k timers in
    record { one = grind arith; waits = grind arith }

pub coherent_set : (key : TimerKey) (arm due : ℕ) (waiting : List Got) (timers : List ActiveTimer) → IsCoherent waiting timers
    → IsCoherent (without_signal key waiting) (without_key key timers ++ record { key = key; phase = Running arm due } ∷ [])
coherent_set key arm due waiting timers is k =
    let f = coherent_removed key waiting timers is k in let none = having_left key k timers in
    let more = pushed (without_key key timers) (record { key = key; phase = Running arm due }) in
    let has = count_with (has_key k) more in let runs = count_with (runs_by k) more in
    record { one = grind arith; waits = grind arith }

pub coherent_between : (before after : List Got) (got : Got) (timers : List ActiveTimer)
    → IsCoherent (before ++ got ∷ after) timers → IsCoherent (before ++ after) (after_taking got timers)
coherent_between before after (Signal item) timers is k =
    let waits = (is k).waits in record { one = (is k).one; waits = omega (arith, count_with (is_signal_of k) (middle before after (Signal item))) }
coherent_between before after (Timer key) timers is k =
    let f = is k in let one_less = count_with (is_signal_of k) (middle before after (Timer key)) in
    let has = having_left key k timers in let runs = running_left key k timers in
    record { one = grind arith; waits = grind arith }

-- an expiry
ran : (key : TimerKey) (arm due : ℕ) (timers : List ActiveTimer) → is_running key arm due timers ≡ true → 1 ≤ running key timers
ran key arm due [] is = absurd cc
ran key arm due (timer ∷ timers) is = grind (arith, ran key arm due timers)

pub coherent_expired : (key : TimerKey) (arm due at : ℕ) (waiting : List Got) (timers : List ActiveTimer)
    → (nat_le due at && is_running key arm due timers) ≡ true → IsCoherent waiting timers
    → IsCoherent (waiting ++ Timer key ∷ []) (with_waiting key arm timers)
coherent_expired key arm due at waiting timers expires is k =
    let f = is k in let more = count_with (is_signal_of k) (pushed waiting (Timer key)) in
    let has = having_waits key k arm timers in let runs = running_waits key k arm timers in
    let some : same_key key k ≡ true → 1 ≤ running k timers =
    λ same. subst (λ j. 1 ≤ running j timers) ((same_key-Decides key k).0 same)
    (ran key arm due timers (and_parts (nat_le due at) (is_running key arm due timers) expires).1) in
    record { one = grind arith; waits = grind arith }
