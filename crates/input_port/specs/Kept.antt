-- Who has put what is drawn, where that is kept.
use Rattle.std.specs.Prelude.{◌≡◌, ℕ, List, ◌++◌, Option, map}
use Rattle.port_model.specs.declared.inbox.placed.Placed.{Placed}
use Rattle.port_model.specs.KeptWords.{IsKeptOf}

-- of each entry the number of its sender
abbrev pub senders_of : List Placed → List ℕ
senders_of entries = map (λ (placed : Placed). placed.number) entries

-- If a list had these of all that was drawn before, it has those of these entries behind them now.
abbrev pub NotesSenders : Option (List ℕ) → List Placed → Option (List ℕ) → Type 0
NotesSenders old entries new =
    (drawn now : List Placed) → now ≡ drawn ++ entries → IsKeptOf old (senders_of drawn) → IsKeptOf new (senders_of now)
