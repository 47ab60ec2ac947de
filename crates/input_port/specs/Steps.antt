-- What each kind of atomic step tells the one that makes it.
use Rattle.std.specs.Prelude.{◌≡◌, ◌+◌, ◌<◌, List, [], ◌∷◌, ◌++◌, length}
use Rattle.port_model.specs.declared.inbox.placed.Placed.{Placed}
use Rattle.input_port.specs.declared.queue.rule.View.{View}
use Rattle.port_model.specs.Put.{StartsWith, of, longer, AllThere, Apart, IsTimely}
use Rattle.input_port.specs.Views.{sender, owner}

-- A push: behind what the sender had seen came entries of others, and then its own.
abbrev pub Adds : View → Placed → View → Type 0
Adds v x w =
    (between : List Placed) × (of v.number between ≡ [])
    × (w ≡ sender v.number (v.count + 1) ((v.seen ++ between) ++ x ∷ []))

-- A pop with an entry: it is the next of the put list and is drawn; an expiry was put at its due time or later. The known
-- list goes on as far as before, or up to the entry. It has all that was told at the last gathering, and all entries of the gathered senders, whose numbers differ.
abbrev pub Draws : View → Placed → View → Type 0
Draws v x w =
    (w ≡ owner (v.drawn ++ x ∷ []) (longer v.seen (v.drawn ++ x ∷ [])) v.told v.gathered)
    × StartsWith w.seen v.seen × StartsWith w.seen w.drawn × StartsWith v.seen v.told × AllThere w.seen w.gathered
    × (0 < x.number) × (x.count ≡ length (of x.number v.drawn) + 1) × Apart w.gathered × IsTimely x

-- A pop that finds none: all of the known list is drawn. The rest as at `Draws`.
abbrev pub IsFresh : View → List Placed → Type 0
IsFresh v items = (items ≡ [] → v.seen ≡ v.drawn) × StartsWith v.seen v.told × AllThere v.seen v.gathered × Apart v.gathered
