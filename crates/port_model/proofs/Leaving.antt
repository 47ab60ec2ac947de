-- What is left in a port at its end has its fuses.
use Rattle.std.proofs.Common.{◌≡◌, ℕ, ◌<◌, false, List, [], ◌∷◌, ◌++◌, length, map, filter, get_or, All, sym, ap, ◌∙◌, refl, arith, append_assoc}
use Rattle.std.proofs.lemmas.List.{map_push}
use Rattle.std.proofs.lemmas.List.Elements.{All-push, All-rest}
use Rattle.std.proofs.lemmas.List.Folds.{list_any_at}
use Rattle.port_model.specs.declared.got.Got.{Got}
use Rattle.port_model.specs.declared.got.Got.TheVariants as got
use Rattle.port_model.specs.declared.timer.ActiveTimer.{ActiveTimer}
use Rattle.port_model.specs.Coherence.{has_key, IsCoherent}
use Rattle.port_model.specs.Timers.{is_active, is_signal_of, Armed}
use Rattle.port_model.proofs.Keys.{same_itself}
use Rattle.port_model.proofs.Lists.{none_counted, none_kept}
use Rattle.port_model.specs.declared.inbox.entry.Entry.{Entry}
use Rattle.port_model.specs.Left.{got_of, HasItsFuse, IsFused}

-- a timer's signal that waits is that of an active timer
fused_one : (timers : List ActiveTimer) (waiting : List Got) (k : ℕ) (d g : Got) → IsCoherent waiting timers → k < length waiting → g ≡ get_or waiting k d → IsFused timers g
fused_one timers waiting k d (got.Signal item) is within at = tt
fused_one timers waiting k d (got.Timer key) is within at =
    let counts = (is key).waits in let counted = none_counted (is_signal_of key) waiting in
    let some = list_any_at (is_signal_of key) waiting k d within (ap (is_signal_of key) (sym at) ∙ same_itself key) in
    let none : is_active key timers ≡ false → length (filter (has_key key) timers) ≡ 0 = λ no. ap length (none_kept (has_key key) timers no) in
    grind arith

pub all_fused : (timers : List ActiveTimer) (waiting : List Got) → IsCoherent waiting timers → All (IsFused timers) waiting
all_fused timers waiting is k d within = fused_one timers waiting k d (get_or waiting k d) is within refl

-- one entry more of what waits
pub entries_more : (pid : ℕ) (timers : List ActiveTimer) (armed : List Armed) (all waiting rest : List Got) (list now : List Entry) (g : Got) (entry : Entry)
    → map got_of list ++ waiting ≡ all → All (HasItsFuse pid armed) list → All (IsFused timers) waiting
    → waiting ≡ g ∷ rest → got_of entry ≡ g → HasItsFuse pid armed entry → now ≡ list ++ entry ∷ []
    → (map got_of now ++ rest ≡ all) × All (HasItsFuse pid armed) now × All (IsFused timers) rest
entries_more pid timers armed all waiting rest list now g entry split has fused next is its pushed =
    let mapped = map_push got_of list entry in let parts = append_assoc (map got_of list) (g ∷ []) rest in
    (cc, rw pushed (All-push (HasItsFuse pid armed) list entry has its), All-rest (IsFused timers) g rest waiting next fused)
