-- What joins the agents, over its network.
use Rattle.std.proofs.Common.{◌≡◌, ℕ, IfOk, Result, Ok, Err, subst, sym}
use Rattle.sdl_build.specs.Lists.{AreMembers}
use Rattle.sdl_build.specs.Context.{IsNetwork}
use Rattle.sdl_build.specs.declared.context.connections.Connections.{Connections}
use Rattle.build_routes.specs.declared.network.joined.Network.{Network}
use Rattle.build_definitions.specs.Definitions.{Rows}
use Rattle.build_definitions.specs.declared.symbols.symbol_table.SymbolTable.{SymbolTable}
use Rattle.build_states.specs.Context.{listed_members}

pub network-if : {E : Type 0} (rows : Rows) (symbols : SymbolTable) (network : Network)
    (result : Result Connections E) →
    IfOk result (λ connections. connections.network ≡ network) → IsNetwork rows symbols network →
    IfOk result (λ connections. IsNetwork rows symbols connections.network)
network-if rows symbols network (Ok connections) same is = subst (IsNetwork rows symbols) (sym same) is
network-if rows symbols network (Err why) same is = tt

pub members-if : {E : Type 0} (count many : ℕ) (result : Result Connections E) → count ≡ many →
    IfOk result (λ connections. AreMembers connections.network count (listed_members connections.members.items)) →
    IfOk result (λ connections. AreMembers connections.network many (listed_members connections.members.items))
members-if count many (Ok connections) same are =
    subst (λ n. AreMembers connections.network n (listed_members connections.members.items)) same are
members-if count many (Err why) same are = tt
