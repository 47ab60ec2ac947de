-- A step to the next statement.
use Rattle.std.proofs.Common.{◌≡◌, List, refl, subst, sym}
use Rattle.run_record.specs.Variables.{VariableList}
use Rattle.run_record.specs.Event.{Event}
use Rattle.run_semantics.specs.Leads.{Counts}
use Rattle.sdl_system.specs.declared.id.NodeId.{NodeId}
use Rattle.sdl_failures.specs.Came.{Came}
use Rattle.sdl_failures.specs.Known.{KnownValue}
use Rattle.sdl_failures.specs.Replay.{Follows, HasCome}
use Rattle.sdl_failures.specs.declared.replayed.replay.Replay.{Replay}
use Rattle.sdl_failures.specs.declared.replayed.spot.Spot.TheVariants.{At}

-- it has gone to this statement, and counted one more
abbrev pub IsGone : Replay → Replay → NodeId → Type 0
IsGone r n to =
    Counts r.known.store n.known.store × (n ≡ record r { spot = At to 0; known = n.known })
    × (n.known.port ≡ r.known.port)

-- whatever it knows there, it may come to the statement
abbrev pub MayCome : Replay → NodeId → Type 0
MayCome r to =
    (variables : VariableList) (all : List Event) (new : KnownValue) → HasCome variables all r
    → Counts r.known.store new.store → new.port ≡ r.known.port
    → Came r.system.now r.process.now r.who variables all (At to 0) new r.left.left

pub follows_gone : (r n : Replay) (to : NodeId) → MayCome r to → IsGone r n to → Follows r n
follows_gone r n to may gone =
    subst (λ (x : Replay). Follows r x) (sym gone.1)
    (record {
      same = record { system = refl; process = refl; who = refl };
      comes = λ variables all came. may variables all n.known came gone.0 gone.2;
    })
