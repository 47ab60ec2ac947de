-- What each pass knows as it is made, and as others come and go.
use Rattle.std.specs.Prelude.{◌≡◌, ℕ, true, false, List, [], ◌∷◌}
use Rattle.port_model.specs.declared.inbox.placed.Placed.{Placed}
use Rattle.port_model.specs.declared.inbox.placed.Gone.{Gone}
use Rattle.input_port.specs.declared.queue.rule.View.{View}
use Rattle.port_model.specs.Put.{longer, shorter}

-- the first pass, which the port splits into the owner's and the desk's
abbrev pub whole : View
whole = record { gives = true; sends = false; takes = true; number = 0; count = 0; seen = []; told = []; drawn = []; gathered = [] }

-- the desk, which has given out the numbers up to this one
abbrev pub desk : ℕ → View
desk number = record { gives = true; sends = false; takes = false; number = number; count = 0; seen = []; told = []; drawn = []; gathered = [] }

-- a sender with its number, how many entries it has put, and what it has seen
abbrev pub sender : ℕ → ℕ → List Placed → View
sender number count seen = record { gives = false; sends = true; takes = false; number = number; count = count; seen = seen; told = []; drawn = []; gathered = [] }

-- the owner with what it has drawn, what it knows, what it was told last, and the senders that it has gathered
abbrev pub owner : List Placed → List Placed → List Placed → List Gone → View
owner drawn known told gathered = record { gives = false; sends = false; takes = true; number = 0; count = 0; seen = known; told = told; drawn = drawn; gathered = gathered }

-- a pass that was given to the owner
abbrev pub spent : View
spent = record { gives = false; sends = false; takes = false; number = 0; count = 0; seen = []; told = []; drawn = []; gathered = [] }

abbrev pub owner_of : View → View
owner_of v = owner v.drawn v.seen v.told v.gathered

-- the owner after it has gathered a sender
abbrev pub gathers : View → View → View
gathers v u = owner v.drawn (longer v.seen u.seen) (shorter v.seen u.seen) (record { number = u.number; count = u.count } ∷ v.gathered)

-- the owner without the sender that it gathered last, and that sender, which has seen all that the owner knows
abbrev pub without_first : List Gone → List Gone
without_first [] = []
without_first (g ∷ gs) = gs

abbrev pub without_last : View → View
without_last v = owner v.drawn v.seen v.told (without_first v.gathered)

abbrev pub sender_again : List Placed → List Gone → View
sender_again seen [] = spent
sender_again seen (g ∷ gs) = sender g.number g.count seen

abbrev pub last_gathered : View → View
last_gathered v = sender_again v.seen v.gathered

-- some sender is gathered
abbrev pub HasGathered : List Gone → Type 0
HasGathered gathered = (g : Gone) × (gs : List Gone) × (gathered ≡ g ∷ gs)
