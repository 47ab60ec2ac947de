-- Put lists: what was put into a port, in the order of the pushes.
use Rattle.std.specs.Prelude.{◌≡◌, ◌≢◌, ◌≤◌, ℕ, zero, suc, nat_eq, nat_lt, List, [], ◌∷◌, ◌++◌, length, filter, All, if◌then◌else◌}
use Rattle.port_model.specs.declared.inbox.entry.Entry.{Entry}
use Rattle.port_model.specs.declared.inbox.entry.Entry.TheVariants.{Signal, Timer}
use Rattle.port_model.specs.declared.inbox.placed.Placed.{Placed}
use Rattle.port_model.specs.declared.inbox.placed.Gone.{Gone}

-- The put list of a port: all its puts and expiries, in the one order of their pushes, each with its sender's number and its
-- place among the entries of that sender.

-- the first list begins with the second
abbrev pub StartsWith : List Placed → List Placed → Type 0
StartsWith xs ys = (rest : List Placed) × (xs ≡ ys ++ rest)

-- the entries of one number, in their order
abbrev pub of : ℕ → List Placed → List Placed
of n ps = filter (λ p. nat_eq p.number n) ps

-- an expiry is put at its due time or later
abbrev pub IsDueBy : ℕ → Entry → Type 0
IsDueBy at (Signal item) = Unit {0}
IsDueBy at (Timer fuse) = fuse.due ≤ at

abbrev pub IsTimely : Placed → Type 0
IsTimely placed = IsDueBy placed.at placed.entry

-- 1, 2, .. n
abbrev pub one_to : ℕ → List ℕ
one_to zero = []
one_to (suc n) = one_to n ++ suc n ∷ []

-- of two lists the longer one, and the shorter one
abbrev pub longer : List Placed → List Placed → List Placed
longer xs ys = if nat_lt (length xs) (length ys) then ys else xs

abbrev pub shorter : List Placed → List Placed → List Placed
shorter xs ys = if nat_lt (length xs) (length ys) then xs else ys

-- no number stands twice among the gathered senders
abbrev pub Apart : List Gone → Type 0
Apart [] = Unit {0}
Apart (g ∷ gs) = All (λ other. other.number ≢ g.number) gs × Apart gs

-- each gathered sender's entries all stand in the list
abbrev pub AllThere : List Placed → List Gone → Type 0
AllThere known gone = All (λ g. length (of g.number known) ≡ g.count) gone
