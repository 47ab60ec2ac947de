-- What an owner knows to be put, and what of it is drawn.
use Rattle.std.proofs.Common.{◌≡◌, ◌∙◌, sym, ap, refl, Bool, true, List, [], ◌∷◌, ◌++◌, append_assoc, append-nil, arith, if◌then◌else◌, length, nat_lt}
use Rattle.std.proofs.lemmas.List.{length-append}
use Rattle.port_model.specs.Calls.{IsDrawn, TakesHere, after_draws, known_after}
use Rattle.port_model.specs.Ends.{OwnerState}
use Rattle.port_model.specs.Put.{longer}
use Rattle.port_model.specs.declared.inbox.placed.Placed.{Placed}
use Rattle.port_model.specs.History.{PortEvent, Take}
use Rattle.port_model.specs.declared.selection.Class.{Class}
use Rattle.port_model.specs.declared.taken.Taken.{Taken}
use Rattle.port_model.specs.declared.taken.Taken.TheVariants.{Consumed, Discarded, Nothing}
use Rattle.run_semantics.specs.Effect.{Deed}
use Rattle.run_semantics.specs.Goes.{HaveSeenAll, IsAllDrawn, RestOnAll}

-- of a list and a longer one that one is the longer
longer_more : (drawn : List Placed) (placed : Placed) → longer drawn (drawn ++ placed ∷ []) ≡ drawn ++ placed ∷ []
longer_more drawn placed = ap (λ (b : Bool). if b then drawn ++ placed ∷ [] else drawn) less where
  less : nat_lt (length drawn) (length (drawn ++ placed ∷ [])) ≡ true
  less = grind (arith, length-append drawn (placed ∷ []))

-- where all that is known was drawn, it is so after more was drawn
known_drawn : (known drawn news : List Placed) → known ≡ drawn → known_after known drawn news ≡ drawn ++ news
known_drawn known drawn [] same = same ∙ sym (append-nil drawn)
known_drawn known drawn (placed ∷ more) same =
    known_drawn (longer known (drawn ++ placed ∷ [])) (drawn ++ placed ∷ []) more
    (ap (λ (list : List Placed). longer list (drawn ++ placed ∷ [])) same ∙ longer_more drawn placed)
    ∙ append_assoc drawn (placed ∷ []) more

pub all_drawn_still : (m n : OwnerState) (news : List Placed) → IsDrawn m n news → IsAllDrawn m → IsAllDrawn n
all_drawn_still m n news draws all =
    draws.known ∙ known_drawn m.known m.drawn news all ∙ sym draws.drawn

-- all is drawn after a take that has seen all
pub all_seen : (classes : List Class) (old new : OwnerState) (reply : Taken) (rest : List PortEvent)
    → TakesHere classes old new reply → HaveSeenAll (Take classes reply ∷ rest) → IsAllDrawn new
all_seen classes old new Nothing rest takes seen = takes.fresh refl
all_seen classes old new (Consumed got) rest takes seen = takes.passed seen.0 seen.1
all_seen classes old new (Discarded got) rest takes seen = takes.passed seen.0 seen.1

pub all_drawn_taken : (classes : List Class) (old new : OwnerState) (reply : Taken) (takes : TakesHere classes old new reply)
    → IsAllDrawn old → IsAllDrawn new
all_drawn_taken classes old new reply takes all =
    all_drawn_still old
    (record new { state = after_draws old.pid old.state takes.news; armed = old.armed }) takes.news takes.draws all

-- what begins a list of deeds begins it still where more come after, or more come after none
pub rest_joined : (first later : List Deed) (mid last : OwnerState) → (RestOnAll first → IsAllDrawn mid)
    → (IsAllDrawn mid → IsAllDrawn last) → (RestOnAll later → IsAllDrawn last) → RestOnAll (first ++ later)
    → IsAllDrawn last
rest_joined [] later mid last one stays two rests = two rests
rest_joined (deed ∷ more) later mid last one stays two rests = stays (one rests)
