-- That several threads may read a system at once. What holds an expression is shown part by part, since the parts of a
-- process are more than one `search` goes through.
use denote.RattleType.{RattleType}
use denote.Hole.FixSend.{Syncs, fix_sync}
use denote.Param.Send.{IsSync, sendable}
use denote.Param.SendFields.{declared_sync, variants_sync}
use Rattle.std.proofs.Crossing.{Vec-sync}
use Rattle.std.proofs.Crossing as owners
use Rattle.std.proofs.MapsCrossing.{String-sync}
use Rattle.indexmap.proofs.map.IndexMap.TheSendSync as IndexMap
use Rattle.port_model.specs.contracts.values.value.Value as Value
use Rattle.sdl_system.specs.contracts.expression.Expression as Expression
use Rattle.sdl_system.specs.contracts.expression.Expression.TheKnot as Knot
use Rattle.sdl_system.specs.contracts.process.Process as Process
use Rattle.sdl_system.specs.contracts.process.State as State
use Rattle.sdl_system.specs.contracts.process.Variable as Variable
use Rattle.sdl_system.specs.contracts.signal.Signal as Signal
use Rattle.sdl_system.specs.contracts.state.StateTable as StateTable
use Rattle.sdl_system.specs.contracts.statement.Assignment as Assignment
use Rattle.sdl_system.specs.contracts.statement.Branch as Branch
use Rattle.sdl_system.specs.contracts.statement.Creation as Creation
use Rattle.sdl_system.specs.contracts.statement.Decision as Decision
use Rattle.sdl_system.specs.contracts.statement.Destination as Destination
use Rattle.sdl_system.specs.contracts.statement.Due as Due
use Rattle.sdl_system.specs.contracts.statement.Node as Node
use Rattle.sdl_system.specs.contracts.statement.Output as Output
use Rattle.sdl_system.specs.contracts.statement.Sending as Sending
use Rattle.sdl_system.specs.contracts.statement.Setting as Setting
use Rattle.sdl_system.specs.contracts.statement.Statement as Statement
use Rattle.sdl_system.specs.contracts.statement.TimerUse as TimerUse
use Rattle.sdl_system.specs.contracts.system.System as System
use Rattle.sdl_system.specs.contracts.system.System.TheInside as Inside
use Rattle.sdl_system.proofs.process.State.TheSendSync as a-state
use Rattle.sdl_system.proofs.process.Variable.TheSendSync as a-variable
use Rattle.sdl_system.proofs.route.Routes.TheSendSync as some-routes
use Rattle.sdl_system.proofs.signal.Signal.TheSendSync as a-signal
use Rattle.sdl_system.proofs.signal.SignalSet.TheSendSync as a-set
use Rattle.sdl_system.proofs.state.StateTable.TheSendSync as a-table
use Rattle.sdl_system.proofs.statement.Branch.TheSendSync as a-branch

value : IsSync Value.the_row
value = search (sendable, owners.crosses) depth 20

-- one layer of an expression, of a chain and of a link, from what it holds
expression_layer : (e c : RattleType) → IsSync e → IsSync c → IsSync (Knot.layer-Expression e e c)
expression_layer e c all_e all_c = search (value, sendable, owners.crosses) depth 20

chain_layer : (e l : RattleType) → IsSync e → IsSync l → IsSync (Knot.layer-Chain e l)
chain_layer e l all_e all_l = search (sendable, owners.crosses) depth 20

link_layer : (e : RattleType) → IsSync e → IsSync (Knot.layer-Link e)
link_layer e all_e = search (sendable, owners.crosses) depth 20

layers : (i : Knot.the_members) → Syncs Knot.ring i
layers = Expression.by_members (Syncs Knot.ring)
    (record {
      sync = λ h all. expression_layer (h Knot.member-Expression) (h Knot.member-Chain) (all Knot.member-Expression)
          (all Knot.member-Chain);
    })
    (record {
      sync = λ h all. chain_layer (h Knot.member-Expression) (h Knot.member-Link) (all Knot.member-Expression)
          (all Knot.member-Link);
    })
    (record { sync = λ h all. link_layer (h Knot.member-Expression) (all Knot.member-Expression) })

expression_within : IsSync Knot.hole-Expression
expression_within = fix_sync Knot.ring layers Knot.member-Expression

chain_within : IsSync Knot.hole-Chain
chain_within = fix_sync Knot.ring layers Knot.member-Chain

pub expression : IsSync Expression.the_row
expression = search (expression_within, chain_within, sendable, owners.crosses) depth 20

assignment : IsSync Assignment.the_row
assignment = declared_sync Assignment.the_type (search (sendable, owners.crosses) depth 20, (expression, tt))

sending : IsSync Sending.the_row
sending = search (expression, sendable, owners.crosses) depth 20

destination : IsSync Destination.the_row
destination = variants_sync Destination.enum ((search (sendable, owners.crosses) depth 20, tt), ((expression, tt), tt))

output : IsSync Output.the_row
output = search (sending, destination, sendable, owners.crosses) depth 20

timer_use : IsSync TimerUse.the_row
timer_use = search (expression, sendable, owners.crosses) depth 20

due : IsSync Due.the_row
due = variants_sync Due.enum ((expression, tt), ((search (sendable, owners.crosses) depth 20, tt), tt))

setting : IsSync Setting.the_row
setting = declared_sync Setting.the_type (timer_use, (due, tt))

creation : IsSync Creation.the_row
creation = search (expression, sendable, owners.crosses) depth 20

decision : IsSync Decision.the_row
decision = declared_sync Decision.the_type
    (expression, (Vec-sync Branch.the_row a-branch.the_sync, (search (sendable, owners.crosses) depth 20, tt)))

statement : IsSync Statement.the_row
statement = variants_sync Statement.enum (
  (Vec-sync Assignment.the_row assignment, tt),
  (
    (output, tt),
    (
      (Vec-sync Setting.the_row setting, tt),
      (
        (Vec-sync TimerUse.the_row timer_use, tt),
        (
          (creation, tt),
          (
            (decision, tt),
            (
              (search (sendable, owners.crosses) depth 20, tt),
              ((search (sendable, owners.crosses) depth 20, tt), (tt, (tt, tt))),
            ),
          ),
        ),
      ),
    ),
  ),
)

node : IsSync Node.the_row
node = declared_sync Node.the_type (statement, (search (sendable, owners.crosses) depth 20, tt))

pub process : IsSync Process.the_row
process = declared_sync Process.the_type (
  String-sync,
  (
    search (sendable, owners.crosses) depth 20,
    (
      search (sendable, owners.crosses) depth 20,
      (
        search (sendable, owners.crosses) depth 20,
        (
          Vec-sync Variable.the_row a-variable.the_sync,
          (
            a-set.the_sync,
            (
              Vec-sync State.the_row a-state.the_sync,
              (
                Vec-sync StateTable.the_row a-table.the_sync,
                (
                  Vec-sync Expression.the_row expression,
                  (Vec-sync Node.the_row node, (search (sendable, owners.crosses) depth 20, tt)),
                ),
              ),
            ),
          ),
        ),
      ),
    ),
  ),
)

inside : IsSync Inside.the_row
inside = declared_sync Inside.the_type (
  Vec-sync Signal.the_row a-signal.the_sync,
  (
    Vec-sync Process.the_row process,
    (
      some-routes.the_sync,
      (
        search (IndexMap.the_sync, String-sync, sendable, owners.crosses) depth 20,
        (search (IndexMap.the_sync, String-sync, sendable, owners.crosses) depth 20, tt),
      ),
    ),
  ),
)

pub system : IsSync System.the_row
system = search (inside, sendable) depth 20
