-- What a create that comes to nothing has drawn, and who lives after one.
use Rattle.std.proofs.Common.{◌≡◌, ◌∙◌, ap, inl, inr, ℕ, Bool, true, List, [], ◌∷◌, ◌++◌}
use Rattle.std.specs.Prelude.{if◌then◌else◌}
use Rattle.threads_ports.specs.Instances.{with_one, with_reservation}
use Rattle.threads_ports.specs.Roster.{RosterValue, can_live_in, reserved_in, turned_in}
use Rattle.sdl_system.specs.declared.id.ProcessId.{ProcessId}
use Rattle.threads_shared.specs.Making.{IsSpent, LivesSince, reserved_for}

pub spent_none : (old new : List ℕ) → new ≡ old → IsSpent old new
spent_none old new is = inl is

pub spent_one : (old new : List ℕ) (number : ℕ) → new ≡ old ++ number ∷ [] → IsSpent old new
spent_one old new number is = inr (number, is)

pub lives_since : (old mid new : RosterValue) (process : ProcessId) (number ticket : ℕ) (made lives : Bool)
    → mid ≡ (if made then reserved_in with_reservation old process else old) → made ≡ true
    → new ≡ (if lives then turned_in (with_one number) mid process else mid)
    → lives ≡ can_live_in mid.processes process number → number ≡ ticket → LivesSince old process ticket new
lives_since old mid new process number ticket made lives mid_is made_is new_is lives_is number_is = λ can.
    let reserved : mid ≡ reserved_for process old =
    mid_is ∙ ap (λ b. if b then reserved_in with_reservation old process else old) made_is in
    let alive : lives ≡ true =
    lives_is ∙ ap (λ (n : ℕ). can_live_in mid.processes process n) number_is
    ∙ ap (λ (r : RosterValue). can_live_in r.processes process ticket) reserved ∙ can in
    new_is ∙ ap (λ b. if b then turned_in (with_one number) mid process else mid) alive
    ∙ ap (λ (n : ℕ). turned_in (with_one n) mid process) number_is
    ∙ ap (λ (r : RosterValue). turned_in (with_one ticket) r process) reserved
