-- Where a path leads, its signal flows.
use Rattle.std.proofs.Common.{◌≡◌, ◌≢◌, ℕ, ◌⊎◌, ◌&&◌, not, Bool, true, false, List, Option, None, Some, slice_get, get_or, ap, ◌∙◌, sym, subst, refl, inl, inr}
use Rattle.port_model.specs.declared.values.item.SignalId.{SignalId}
use Rattle.std.specs.Prelude.{if◌then◌else◌}
use Rattle.sdl_system.specs.declared.id.ProcessId.{ProcessId}
use Rattle.std.proofs.lemmas.Option.{slice_get-get_or}
use Rattle.build_routes.specs.Nodes.{number}
use Rattle.build_routes.specs.Paths.{Accepts, By, Carries, Goes, Implied, IsImplied, IsSender, IsSource, Joined, StandsIn, Way}
use Rattle.build_routes.specs.Reached.{AreFlags, IsFree, Passes, Reached}
use Rattle.build_routes.specs.SignalLists.{StandsFor}
use Rattle.build_routes.specs.Steps.{AllSteps, Link, begin_of, end_of, first_of, from_block, is_implied, is_implied_block, node_if, on_first, on_implied, option_if, same_end, same_scope, touches}
use Rattle.build_routes.specs.declared.network.graph.Step.{Step}
use Rattle.build_routes.specs.declared.graph.joint.Side.TheVariants as which
use Rattle.build_routes.specs.declared.network.list.ListId.{ListId}
use Rattle.sdl_system.specs.declared.id.BlockId.{BlockId}
use Rattle.build_routes.specs.declared.network.joined.ChannelPath.{ChannelPath}
use Rattle.build_routes.specs.declared.network.joined.Connect.{Connect}
use Rattle.build_routes.specs.declared.network.joined.End as end
use Rattle.build_routes.specs.declared.network.joined.End.TheVariants as at
use Rattle.build_routes.specs.declared.network.joined.Network.{Network}
use Rattle.build_routes.specs.declared.network.joined.PathId.{PathId}
use Rattle.build_routes.specs.declared.network.joined.Scope as scope
use Rattle.build_routes.specs.declared.network.joined.Scope.TheVariants as its
use Rattle.build_routes.specs.declared.network.joined.Source.{Source}
use Rattle.build_routes.specs.declared.graph.node.Node as node
use Rattle.build_routes.specs.declared.graph.node.Node.TheVariants as nodes
use Rattle.build_routes.proofs.EachLemmas.{same_element}
use Rattle.std.proofs.lemmas.Bool.{and_from, cases_Bool}
use Rattle.build_routes.proofs.Sound.{same_end-true, same_scope-refl, same_end-refl, same_scope-true, sender_in_block}

-- a set of nodes that has the source, and each node to which a step leads from one of its nodes
pub record HasSteps (network : Network) (signal : SignalId) (source : Source) (flags : List Bool) (F : node.Node → Type 0) : Type 0 where
  pub begins : F nodes.Source
  pub goes : (m m' : node.Node) (only : Option ListId) → F m → AllSteps network flags source (number m) (record { to = number m'; only = only })
      → Passes network signal only → F m'

-- a signal that has come to the end of a way is at a node
abbrev pub AtEnd : (node.Node → Type 0) → scope.Scope → end.End → Type 0
AtEnd F its.System at.Env = F nodes.Env
AtEnd F its.System (at.Process p) = F (nodes.Process p)
AtEnd F its.System (at.Block b) = F (nodes.Into b)
AtEnd F (its.Block b) at.Env = F (nodes.OutOf b)
AtEnd F (its.Block b) (at.Process p) = F (nodes.Process p)
AtEnd F (its.Block b) (at.Block a) = Unit {0}

abbrev pub OnWay : Network → (node.Node → Type 0) → scope.Scope → Way → end.End → Type 0
OnWay network F scope (By n) end = (path : ChannelPath) × (slice_get network.paths.items n ≡ Some path) × (path.scope ≡ scope) × (path.to ≡ end)
    × F (nodes.Path (record { 0 = n }))
OnWay network F scope Implied end = AtEnd F scope end

link_if : (b : Bool) (m : node.Node) (p : Option node.Node) (only : Option ListId) (n : ℕ) (step : Step) → b ≡ true → Link (Some m) p only n step
    → Link (node_if b m) p only n step
link_if b m p only n step e link = subst (λ x. Link (node_if x m) p only n step) (sym e) link

link_to : (b : Bool) (m o : node.Node) (only : Option ListId) (n : ℕ) (step : Step) → b ≡ true → Link (Some o) (Some m) only n step
    → Link (Some o) (node_if b m) only n step
link_to b m o only n step e link = subst (λ x. Link (Some o) (node_if x m) only n step) (sym e) link

link_option : (b : Bool) (m p : Option node.Node) (only : Option ListId) (n : ℕ) (step : Step) → b ≡ true → Link m p only n step
    → Link (option_if b m) p only n step
link_option b m p only n step e link = subst (λ x. Link (option_if x m) p only n step) (sym e) link

implied_is : (network : Network) (scope : scope.Scope) → IsImplied network scope → is_implied network scope ≡ true
implied_is network its.System e = e
implied_is network (its.Block b) (block, here, e) = ap is_implied_block here ∙ e

not_same_end : (a b : end.End) → b ≢ a → not (same_end a b) ≡ true
not_same_end a b differs = elim (cases_Bool (same_end a b)) [
  | inl is ↦ absurd (differs (sym (same_end-true a b is)))
  | inr other ↦ ap not other
]

not_same_scope : (a b : scope.Scope) → b ≢ a → not (same_scope a b) ≡ true
not_same_scope a b differs = elim (cases_Bool (same_scope a b)) [
  | inl is ↦ absurd (differs (sym (same_scope-true a b is)))
  | inr other ↦ ap not other
]

same_scope-is : (a b : scope.Scope) → a ≡ b → same_scope a b ≡ true
same_scope-is a b e = ap (λ x. same_scope a x) (sym e) ∙ same_scope-refl a

same_end-is : (a b : end.End) → a ≡ b → same_end a b ≡ true
same_end-is a b e = ap (λ x. same_end a x) (sym e) ∙ same_end-refl a

-- from the implied channels of the system that come from another block
others_arrive : (network : Network) (signal : SignalId) (source : Source) (flags : List Bool) (F : node.Node → Type 0) → HasSteps network signal source flags F
    → F nodes.Others → IsImplied network its.System → (end : end.End) → StandsIn network its.System end → Accepts network signal end → AtEnd F its.System end
others_arrive network signal source flags F has at_others implied at.Env stands accepts =
    has.goes nodes.Others nodes.Env None at_others
    (inr (inr (inr (inr (inr (inl (link_if network.is_implied nodes.Others (Some nodes.Env) None _ _ implied (refl, refl)))))))) tt
others_arrive network signal source flags F has at_others implied (at.Process p) (process, here, home) (process', here', stands') =
    has.goes nodes.Others (nodes.Process p) (Some process.named) at_others
    (inr (inr (inl (
      p.0,
      process,
      here,
      inl
          (subst (λ x. Link (node_if (is_implied network x) (on_implied x)) (Some (nodes.Process p)) (Some process.named) (number nodes.Others) (record { to = number (nodes.Process p); only = Some process.named })) (sym home)
          (link_if network.is_implied nodes.Others (Some (nodes.Process p)) (Some process.named) _ _ implied (refl, refl))),
    ))))
    (subst (λ x. StandsFor network.lists.items signal x.named) (same_element network.processes.items p.0 p.0 process' process here here' refl) stands')
others_arrive network signal source flags F has at_others implied (at.Block b) stands accepts =
    let block = slice_get-get_or network.blocks.items b.0 (record { is_implied = false }) stands.1 in
    has.goes nodes.Others (nodes.Into b) None at_others
    (inr (inr (inr (inl (
      b.0,
      get_or network.blocks.items b.0 (record { is_implied = false }),
      block,
      inr (inl (link_if network.is_implied nodes.Others (Some (nodes.Into b)) None _ _ implied (refl, refl))),
    ))))) tt

-- from those that come from the agent in which the source is
first_arrives : (network : Network) (signal : SignalId) (source : Source) (flags : List Bool) (F : node.Node → Type 0) → HasSteps network signal source flags F
    → F nodes.First → IsImplied network its.System → (end : end.End) → StandsIn network its.System end → Accepts network signal end → source.end ≢ end
    → ((b : BlockId) → source.scope ≡ its.Block b → at.Block b ≢ end) → AtEnd F its.System end
first_arrives network signal source flags F has at_first implied at.Env stands accepts differs apart =
    has.goes nodes.First nodes.Env None at_first
    (inr (inr (inr (inr (inr (inr (link_if (network.is_implied && not (same_end source.end at.Env)) nodes.First (Some nodes.Env) None _ _
    (and_from network.is_implied (not (same_end source.end at.Env)) implied (not_same_end source.end at.Env (λ e. differs (sym e)))) (refl, refl)))))))) tt
first_arrives network signal source flags F has at_first implied (at.Process p) (process, here, home) (process', here', stands') differs apart =
    has.goes nodes.First (nodes.Process p) (Some process.named) at_first
    (inr (inr (inl (
      p.0,
      process,
      here,
      inr
          (subst (λ x. Link (option_if (is_implied network x && not (same_end (at.Process p) source.end)) (on_first x source)) (Some (nodes.Process p)) (Some process.named) (number nodes.First) (record { to = number (nodes.Process p); only = Some process.named })) (sym home)
          (link_option (network.is_implied && not (same_end (at.Process p) source.end)) (Some nodes.First) (Some (nodes.Process p)) (Some process.named) _ _
          (and_from network.is_implied (not (same_end (at.Process p) source.end)) implied (not_same_end (at.Process p) source.end differs)) (refl, refl))),
    ))))
    (subst (λ x. StandsFor network.lists.items signal x.named) (same_element network.processes.items p.0 p.0 process' process here here' refl) stands')
first_arrives network signal source flags F has at_first implied (at.Block b) stands accepts differs apart =
    let block = slice_get-get_or network.blocks.items b.0 (record { is_implied = false }) stands.1 in
    has.goes nodes.First (nodes.Into b) None at_first
    (inr (inr (inr (inl (
      b.0,
      get_or network.blocks.items b.0 (record { is_implied = false }),
      block,
      inr (inr (link_if (network.is_implied && not (same_scope (its.Block b) source.scope)) nodes.First (Some (nodes.Into b)) None _ _
          (and_from network.is_implied (not (same_scope (its.Block b) source.scope)) implied (not_same_scope (its.Block b) source.scope (λ e. apart b e refl))) (refl, refl))),
    ))))) tt

-- a process stands in one scope
one_scope : (network : Network) (p : ProcessId) (a b : scope.Scope) → StandsIn network a (at.Process p) → StandsIn network b (at.Process p) → a ≡ b
one_scope network p a b (x, here, home) (y, here', home') =
    sym home ∙ ap (λ z. z.scope) (same_element network.processes.items p.0 p.0 x y here' here refl) ∙ home'

own_differs : (network : Network) (scope : scope.Scope) (own end : end.End) (b : BlockId) → IsSender network scope own → scope ≡ its.Block b
    → StandsIn network its.System end → own ≢ end
own_differs network scope at.Env at.Env b is home stands = sender_in_block network scope at.Env b is home
own_differs network scope at.Env (at.Process q) b is home stands = λ e. cc
own_differs network scope at.Env (at.Block a) b is home stands = λ e. cc
own_differs network scope (at.Process p) at.Env b is home stands = λ e. cc
own_differs network scope (at.Process p) (at.Process q) b is home stands = λ e.
    let same : p ≡ q = cc in
    let there : StandsIn network its.System (at.Process p) = subst (λ x. StandsIn network its.System (at.Process x)) (sym same) stands in
    let wrong : its.Block b ≡ its.System = sym home ∙ one_scope network p scope its.System is there in cc
own_differs network scope (at.Process p) (at.Block a) b is home stands = λ e. cc
own_differs network scope (at.Block a) end b is home stands = absurd is

from_arrives : (network : Network) (signal : SignalId) (source : Source) (flags : List Bool) (F : node.Node → Type 0) → HasSteps network signal source flags F
    → IsSource network source → (b : BlockId) (t : Bool) → same_scope (its.Block b) source.scope ≡ t → F (if t then nodes.First else nodes.Others)
    → IsImplied network its.System → (end : end.End) → StandsIn network its.System end → Accepts network signal end → at.Block b ≢ end → AtEnd F its.System end
from_arrives network signal source flags F has is b true e begun implied end stands accepts differs =
    let home : source.scope ≡ its.Block b = sym (same_scope-true (its.Block b) source.scope e) in
    first_arrives network signal source flags F has begun implied end stands accepts (own_differs network source.scope source.end end b is home stands)
    (λ a other g. differs (let f : its.Block b ≡ its.Block a = sym home ∙ other in let h : b ≡ a = cc in ap (λ x. at.Block x) h ∙ g))
from_arrives network signal source flags F has is b false e begun implied end stands accepts differs =
    others_arrive network signal source flags F has begun implied end stands accepts

-- out of a block by implied channels
out_arrives : (network : Network) (signal : SignalId) (source : Source) (flags : List Bool) (F : node.Node → Type 0) → HasSteps network signal source flags F
    → IsSource network source → (b : BlockId) → F (nodes.OutOf b) → IsImplied network its.System → StandsIn network its.System (at.Block b)
    → (end : end.End) → StandsIn network its.System end → Accepts network signal end → at.Block b ≢ end → AtEnd F its.System end
out_arrives network signal source flags F has is b came implied here end stands accepts differs =
    let block = slice_get-get_or network.blocks.items b.0 (record { is_implied = false }) here.1 in
    from_arrives network signal source flags F has is b (same_scope (its.Block b) source.scope) refl
    (has.goes (nodes.OutOf b) (from_block b source) None came
    (inr (inr (inr (inl (
      b.0,
      get_or network.blocks.items b.0 (record { is_implied = false }),
      block,
      inl (link_if network.is_implied (nodes.OutOf b) (Some (from_block b source)) None _ _ implied (refl, refl)),
    ))))) tt)
    implied end stands accepts differs

-- from the source by implied channels
first_way : (network : Network) (signal : SignalId) (source : Source) (flags : List Bool) (F : node.Node → Type 0) → HasSteps network signal source flags F
    → (scope : scope.Scope) → scope ≡ source.scope → IsImplied network scope → (end : end.End) → StandsIn network scope end → Accepts network signal end
    → source.end ≢ end → AtEnd F scope end
first_way network signal source flags F has its.System home implied end stands accepts differs =
    first_arrives network signal source flags F has
    (has.goes nodes.Source nodes.First None has.begins
    (inr (inr (inr (inr (inl (subst (λ x. Link (node_if (is_implied network x) nodes.Source) (Some (first_of x)) None (number nodes.Source) (record { to = number nodes.First; only = None })) home
    (link_if network.is_implied nodes.Source (Some nodes.First) None _ _ implied (refl, refl)))))))) tt)
    implied end stands accepts differs (λ b other e. (let wrong : its.System ≡ its.Block b = home ∙ other in cc))
first_way network signal source flags F has (its.Block b) home implied at.Env stands accepts differs =
    has.goes nodes.Source (nodes.OutOf b) None has.begins
    (inr (inr (inr (inr (inl (subst (λ x. Link (node_if (is_implied network x) nodes.Source) (Some (first_of x)) None (number nodes.Source) (record { to = number (nodes.OutOf b); only = None })) home
    (link_if (is_implied network (its.Block b)) nodes.Source (Some (nodes.OutOf b)) None _ _ (implied_is network (its.Block b) implied) (refl, refl)))))))) tt
first_way network signal source flags F has (its.Block b) home implied (at.Process p) (process, here, there) (process', here', stands') differs =
    has.goes nodes.Source (nodes.Process p) (Some process.named) has.begins
    (inr (inr (inl (
      p.0,
      process,
      here,
      inr
          (subst (λ x. Link (option_if (is_implied network x && not (same_end (at.Process p) source.end)) (on_first x source)) (Some (nodes.Process p)) (Some process.named) (number nodes.Source) (record { to = number (nodes.Process p); only = Some process.named })) (sym there)
          (link_option (is_implied network (its.Block b) && not (same_end (at.Process p) source.end)) (node_if (same_scope (its.Block b) source.scope) nodes.Source) (Some (nodes.Process p)) (Some process.named) _ _
          (and_from (is_implied network (its.Block b)) (not (same_end (at.Process p) source.end)) (implied_is network (its.Block b) implied) (not_same_end (at.Process p) source.end differs))
          (link_if (same_scope (its.Block b) source.scope) nodes.Source (Some (nodes.Process p)) (Some process.named) _ _ (same_scope-is (its.Block b) source.scope home) (refl, refl)))),
    ))))
    (subst (λ x. StandsFor network.lists.items signal x.named) (same_element network.processes.items p.0 p.0 process' process here here' refl) stands')
first_way network signal source flags F has (its.Block b) home implied (at.Block a) stands accepts differs = tt

leaves_arrives : (network : Network) (signal : SignalId) (source : Source) (flags : List Bool) (F : node.Node → Type 0) → HasSteps network signal source flags F
    → {scope : scope.Scope} {way : Way} {from to : end.End} → Carries network signal scope way from to → scope ≡ source.scope → from ≡ source.end
    → OnWay network F scope way to
leaves_arrives network signal source flags F has (Carries.channel n path here stands) home from = (
  path,
  here,
  refl,
  refl,
  has.goes nodes.Source (nodes.Path (record { 0 = n })) (Some path.signals) has.begins
      (inl (
        n,
        path,
        here,
        inl (link_if (same_scope path.scope source.scope && same_end path.from source.end) nodes.Source (Some (nodes.Path (record { 0 = n }))) (Some path.signals) _ _
            (and_from (same_scope path.scope source.scope) (same_end path.from source.end) (same_scope-is path.scope source.scope home) (same_end-is path.from source.end from)) (refl, refl)),
      )) stands,
)
leaves_arrives network signal source flags F has (Carries.implied scope from to implied stands there differs accepts) home own =
    first_way network signal source flags F has scope home implied to there accepts (λ e. differs (own ∙ e))

-- at the end of a way
arrive_into : (network : Network) (signal : SignalId) (source : Source) (flags : List Bool) (F : node.Node → Type 0) → HasSteps network signal source flags F
    → (way : Way) (b : BlockId) → OnWay network F its.System way (at.Block b) → F (nodes.Into b)
arrive_into network signal source flags F has (By n) b (path, here, home, ends, at_path) =
    has.goes (nodes.Path (record { 0 = n })) (nodes.Into b) None at_path
    (inl (
      n,
      path,
      here,
      inr (inr
          (subst (λ x. Link (Some (nodes.Path (record { 0 = n }))) (end_of x path.to (get_or flags n false)) None (number (nodes.Path (record { 0 = n }))) (record { to = number (nodes.Into b); only = None })) (sym home)
          (subst (λ x. Link (Some (nodes.Path (record { 0 = n }))) (end_of its.System x (get_or flags n false)) None (number (nodes.Path (record { 0 = n }))) (record { to = number (nodes.Into b); only = None })) (sym ends)
          (refl, refl)))),
    )) tt
arrive_into network signal source flags F has Implied b on = on

arrive_env : (network : Network) (signal : SignalId) (source : Source) (flags : List Bool) (F : node.Node → Type 0) → HasSteps network signal source flags F
    → (way : Way) → OnWay network F its.System way at.Env → F nodes.Env
arrive_env network signal source flags F has (By n) (path, here, home, ends, at_path) =
    has.goes (nodes.Path (record { 0 = n })) nodes.Env None at_path
    (inl (
      n,
      path,
      here,
      inr (inr
          (subst (λ x. Link (Some (nodes.Path (record { 0 = n }))) (end_of x path.to (get_or flags n false)) None (number (nodes.Path (record { 0 = n }))) (record { to = number nodes.Env; only = None })) (sym home)
          (subst (λ x. Link (Some (nodes.Path (record { 0 = n }))) (end_of its.System x (get_or flags n false)) None (number (nodes.Path (record { 0 = n }))) (record { to = number nodes.Env; only = None })) (sym ends)
          (refl, refl)))),
    )) tt
arrive_env network signal source flags F has Implied on = on

arrive_out : (network : Network) (signal : SignalId) (source : Source) (flags : List Bool) (F : node.Node → Type 0) → HasSteps network signal source flags F
    → AreFlags network flags → (way : Way) (b : BlockId) → OnWay network F (its.Block b) way at.Env → IsFree network way → F (nodes.OutOf b)
arrive_out network signal source flags F has are (By n) b (path, here, home, ends, at_path) free =
    has.goes (nodes.Path (record { 0 = n })) (nodes.OutOf b) None at_path
    (inl (
      n,
      path,
      here,
      inr (inr
          (subst (λ x. Link (Some (nodes.Path (record { 0 = n }))) (end_of x path.to (get_or flags n false)) None (number (nodes.Path (record { 0 = n }))) (record { to = number (nodes.OutOf b); only = None })) (sym home)
          (subst (λ x. Link (Some (nodes.Path (record { 0 = n }))) (end_of (its.Block b) x (get_or flags n false)) None (number (nodes.Path (record { 0 = n }))) (record { to = number (nodes.OutOf b); only = None })) (sym ends)
          (link_to (not (get_or flags n false)) (nodes.OutOf b) (nodes.Path (record { 0 = n })) None _ _ (ap not ((are n path here).1 free)) (refl, refl))))),
    )) tt
arrive_out network signal source flags F has are Implied b on free = on

process_end : (F : node.Node → Type 0) (scope : scope.Scope) (p : ProcessId) → AtEnd F scope (at.Process p) → F (nodes.Process p)
process_end F its.System p at = at
process_end F (its.Block b) p at = at

end_of_process : (scope : scope.Scope) (p : ProcessId) (named : Bool) → end_of scope (at.Process p) named ≡ Some (nodes.Process p)
end_of_process its.System p named = refl
end_of_process (its.Block b) p named = refl

arrive_process : (network : Network) (signal : SignalId) (source : Source) (flags : List Bool) (F : node.Node → Type 0) → HasSteps network signal source flags F
    → (scope : scope.Scope) (way : Way) (p : ProcessId) → OnWay network F scope way (at.Process p) → F (nodes.Process p)
arrive_process network signal source flags F has scope (By n) p (path, here, home, ends, at_path) =
    has.goes (nodes.Path (record { 0 = n })) (nodes.Process p) None at_path
    (inl (
      n,
      path,
      here,
      inr (inr
          (subst (λ x. Link (Some (nodes.Path (record { 0 = n }))) x None (number (nodes.Path (record { 0 = n }))) (record { to = number (nodes.Process p); only = None }))
          (sym (ap (λ x. end_of path.scope x (get_or flags n false)) ends ∙ end_of_process path.scope p (get_or flags n false))) (refl, refl))),
    )) tt
arrive_process network signal source flags F has scope Implied p on = process_end F scope p on

-- both ways are channels that one connect of the block names
record Together (network : Network) (block : BlockId) (outer inner : Way) : Type 0 where
  k : ℕ
  connect : Connect
  i : ℕ
  j : ℕ
  out : PathId
  into : PathId
  at_k : slice_get network.connects.items k ≡ Some connect
  is_block : connect.block ≡ block
  at_i : slice_get connect.outer.items i ≡ Some out
  at_j : slice_get connect.inner.items j ≡ Some into
  is_outer : outer ≡ By out.0
  is_inner : inner ≡ By into.0

joined_cases : (network : Network) (block : BlockId) {outer inner : Way} → Joined network block outer inner
    → Together network block outer inner ⊎ IsFree network inner
joined_cases network block (Joined.connected k connect i j out into at_k is_block at_i at_j) = inl (record {
  k = k;
  connect = connect;
  i = i;
  j = j;
  out = out;
  into = into;
  at_k = at_k;
  is_block = is_block;
  at_i = at_i;
  at_j = at_j;
  is_outer = refl;
  is_inner = refl;
})
joined_cases network block (Joined.unnamed outer n free) = inr free
joined_cases network block (Joined.implied outer) = inr tt

by_is : (a b : ℕ) → By a ≡ By b → a ≡ b
by_is a b e = cc

-- over the border by a connect
connect_in : (network : Network) (signal : SignalId) (source : Source) (flags : List Bool) (F : node.Node → Type 0) → HasSteps network signal source flags F
    → (block : BlockId) (outer : Way) (n : ℕ) (path : ChannelPath) → Together network block outer (By n) → OnWay network F its.System outer (at.Block block)
    → slice_get network.paths.items n ≡ Some path → path.scope ≡ its.Block block → path.from ≡ at.Env
    → StandsFor network.lists.items signal path.signals → F (nodes.Path (record { 0 = n }))
connect_in network signal source flags F has block outer n path joint on here home begins stands =
    let on_outer : OnWay network F its.System (By joint.out.0) (at.Block block) = subst (λ x. OnWay network F its.System x (at.Block block)) joint.is_outer on in
    let around = on_outer.0 in
    let k = joint.k in
    let block_of = joint.connect.block in
    let came : F (nodes.IntoBy k) = has.goes (nodes.Path joint.out) (nodes.IntoBy k) None on_outer.4
    (inr (inl (
      k,
      joint.connect,
      joint.at_k,
      inl (
        joint.i,
        joint.out,
        joint.at_i,
        (
          around,
          on_outer.1,
          inl (link_to (touches which.Outer block_of around.scope around.to) (nodes.IntoBy k) (nodes.Path joint.out) None _ _
              (and_from (same_scope around.scope its.System) (same_end around.to (at.Block block_of)) (same_scope-is around.scope its.System on_outer.2)
              (same_end-is around.to (at.Block block_of) (on_outer.3 ∙ ap (λ x. at.Block x) (sym joint.is_block)))) (refl, refl)),
        ),
      ),
    ))) tt in
    let same : n ≡ joint.into.0 = by_is n joint.into.0 joint.is_inner in
    let f : ℕ → node.Node = λ x. nodes.Path (record { 0 = x }) in
    subst (λ x. F x) (sym (ap f same))
    (has.goes (nodes.IntoBy k) (nodes.Path joint.into) (Some path.signals) came
    (inr (inl (
      k,
      joint.connect,
      joint.at_k,
      inr (
        joint.j,
        joint.into,
        joint.at_j,
        (
          path,
          ap (λ x. slice_get network.paths.items x) (sym same) ∙ here,
          inr (link_if (touches which.Inner block_of path.scope path.from) (nodes.IntoBy k) (Some (nodes.Path joint.into)) (Some path.signals) _ _
              (and_from (same_scope path.scope (its.Block block_of)) (same_end path.from at.Env)
              (same_scope-is path.scope (its.Block block_of) (home ∙ ap (λ x. its.Block x) (sym joint.is_block))) (same_end-is path.from at.Env begins)) (refl, refl)),
        ),
      ),
    ))) stands)

connect_out : (network : Network) (signal : SignalId) (source : Source) (flags : List Bool) (F : node.Node → Type 0) → HasSteps network signal source flags F
    → (block : BlockId) (inner : Way) (n : ℕ) (path : ChannelPath) → Together network block (By n) inner → OnWay network F (its.Block block) inner at.Env
    → slice_get network.paths.items n ≡ Some path → path.scope ≡ its.System → path.from ≡ at.Block block
    → StandsFor network.lists.items signal path.signals → F (nodes.Path (record { 0 = n }))
connect_out network signal source flags F has block inner n path joint on here home begins stands =
    let on_inner : OnWay network F (its.Block block) (By joint.into.0) at.Env = subst (λ x. OnWay network F (its.Block block) x at.Env) joint.is_inner on in
    let within = on_inner.0 in
    let k = joint.k in
    let block_of = joint.connect.block in
    let came : F (nodes.OutBy k) = has.goes (nodes.Path joint.into) (nodes.OutBy k) None on_inner.4
    (inr (inl (
      k,
      joint.connect,
      joint.at_k,
      inr (
        joint.j,
        joint.into,
        joint.at_j,
        (
          within,
          on_inner.1,
          inl (link_to (touches which.Inner block_of within.scope within.to) (nodes.OutBy k) (nodes.Path joint.into) None _ _
              (and_from (same_scope within.scope (its.Block block_of)) (same_end within.to at.Env)
              (same_scope-is within.scope (its.Block block_of) (on_inner.2 ∙ ap (λ x. its.Block x) (sym joint.is_block)))
              (same_end-is within.to at.Env on_inner.3)) (refl, refl)),
        ),
      ),
    ))) tt in
    let same : n ≡ joint.out.0 = by_is n joint.out.0 joint.is_outer in
    let f : ℕ → node.Node = λ x. nodes.Path (record { 0 = x }) in
    subst (λ x. F x) (sym (ap f same))
    (has.goes (nodes.OutBy k) (nodes.Path joint.out) (Some path.signals) came
    (inr (inl (
      k,
      joint.connect,
      joint.at_k,
      inl (
        joint.i,
        joint.out,
        joint.at_i,
        (
          path,
          ap (λ x. slice_get network.paths.items x) (sym same) ∙ here,
          inr (link_if (touches which.Outer block_of path.scope path.from) (nodes.OutBy k) (Some (nodes.Path joint.out)) (Some path.signals) _ _
              (and_from (same_scope path.scope its.System) (same_end path.from (at.Block block_of))
              (same_scope-is path.scope its.System home) (same_end-is path.from (at.Block block_of) (begins ∙ ap (λ x. at.Block x) (sym joint.is_block)))) (refl, refl)),
        ),
      ),
    ))) stands)

in_implied : (network : Network) (signal : SignalId) (source : Source) (flags : List Bool) (F : node.Node → Type 0) → HasSteps network signal source flags F
    → (b : BlockId) → IsImplied network (its.Block b) → (end : end.End) → StandsIn network (its.Block b) end → Accepts network signal end → at.Env ≢ end
    → F (nodes.Into b) → AtEnd F (its.Block b) end
in_implied network signal source flags F has b implied at.Env stands accepts differs came = absurd (differs refl)
in_implied network signal source flags F has b implied (at.Process p) (process, here, home) (process', here', stands') differs came =
    has.goes (nodes.Into b) (nodes.Process p) (Some process.named) came
    (inr (inr (inl (
      p.0,
      process,
      here,
      inl
          (subst (λ x. Link (node_if (is_implied network x) (on_implied x)) (Some (nodes.Process p)) (Some process.named) (number (nodes.Into b)) (record { to = number (nodes.Process p); only = Some process.named })) (sym home)
          (link_if (is_implied network (its.Block b)) (nodes.Into b) (Some (nodes.Process p)) (Some process.named) _ _ (implied_is network (its.Block b) implied) (refl, refl))),
    ))))
    (subst (λ x. StandsFor network.lists.items signal x.named) (same_element network.processes.items p.0 p.0 process' process here here' refl) stands')
in_implied network signal source flags F has b implied (at.Block a) stands accepts differs came = tt

in_arrives : (network : Network) (signal : SignalId) (source : Source) (flags : List Bool) (F : node.Node → Type 0) → HasSteps network signal source flags F
    → AreFlags network flags → (block : BlockId) (outer : Way) → OnWay network F its.System outer (at.Block block)
    → {scope : scope.Scope} {inner : Way} {from to : end.End} → Carries network signal scope inner from to → scope ≡ its.Block block → from ≡ at.Env
    → Together network block outer inner ⊎ IsFree network inner → OnWay network F scope inner to
in_arrives network signal source flags F has are block outer on (Carries.channel n path here stands) home begins (inl joint) =
    (path, here, refl, refl, connect_in network signal source flags F has block outer n path joint on here home begins stands)
in_arrives network signal source flags F has are block outer on (Carries.channel n path here stands) home begins (inr free) = (
  path,
  here,
  refl,
  refl,
  has.goes (nodes.Into block) (nodes.Path (record { 0 = n })) (Some path.signals)
      (arrive_into network signal source flags F has outer block on)
      (inl (
        n,
        path,
        here,
        inr (inl
            (subst (λ x. Link (begin_of x path.from (get_or flags n false)) (Some (nodes.Path (record { 0 = n }))) (Some path.signals) (number (nodes.Into block)) (record { to = number (nodes.Path (record { 0 = n })); only = Some path.signals })) (sym home)
            (subst (λ x. Link (begin_of (its.Block block) x (get_or flags n false)) (Some (nodes.Path (record { 0 = n }))) (Some path.signals) (number (nodes.Into block)) (record { to = number (nodes.Path (record { 0 = n })); only = Some path.signals })) (sym begins)
            (link_if (not (get_or flags n false)) (nodes.Into block) (Some (nodes.Path (record { 0 = n }))) (Some path.signals) _ _ (ap not ((are n path here).1 free)) (refl, refl))))),
      )) stands,
)
in_arrives network signal source flags F has are block outer on (Carries.implied scope from to implied stands there differs accepts) home begins joined =
    subst (λ x. AtEnd F x to) (sym home)
    (in_implied network signal source flags F has block (subst (λ x. IsImplied network x) home implied) to (subst (λ x. StandsIn network x to) home there) accepts
    (λ e. differs (begins ∙ e)) (arrive_into network signal source flags F has outer block on))

out_goes : (network : Network) (signal : SignalId) (source : Source) (flags : List Bool) (F : node.Node → Type 0) → HasSteps network signal source flags F
    → IsSource network source → AreFlags network flags → (block : BlockId) (inner : Way) → OnWay network F (its.Block block) inner at.Env
    → {scope : scope.Scope} {outer : Way} {from to : end.End} → Carries network signal scope outer from to → scope ≡ its.System → from ≡ at.Block block
    → Together network block outer inner ⊎ IsFree network inner → OnWay network F scope outer to
out_goes network signal source flags F has is are block inner on (Carries.channel n path here stands) home begins (inl joint) =
    (path, here, refl, refl, connect_out network signal source flags F has block inner n path joint on here home begins stands)
out_goes network signal source flags F has is are block inner on (Carries.channel n path here stands) home begins (inr free) = (
  path,
  here,
  refl,
  refl,
  has.goes (nodes.OutOf block) (nodes.Path (record { 0 = n })) (Some path.signals)
      (arrive_out network signal source flags F has are inner block on free)
      (inl (
        n,
        path,
        here,
        inr (inl
            (subst (λ x. Link (begin_of x path.from (get_or flags n false)) (Some (nodes.Path (record { 0 = n }))) (Some path.signals) (number (nodes.OutOf block)) (record { to = number (nodes.Path (record { 0 = n })); only = Some path.signals })) (sym home)
            (subst (λ x. Link (begin_of its.System x (get_or flags n false)) (Some (nodes.Path (record { 0 = n }))) (Some path.signals) (number (nodes.OutOf block)) (record { to = number (nodes.Path (record { 0 = n })); only = Some path.signals })) (sym begins)
            (refl, refl)))),
      )) stands,
)
out_goes network signal source flags F has is are block inner on (Carries.implied scope from to implied stands there differs accepts) home begins (inl joint) =
    absurd (let wrong = joint.is_outer in cc)
out_goes network signal source flags F has is are block inner on (Carries.implied scope from to implied stands there differs accepts) home begins (inr free) =
    subst (λ x. AtEnd F x to) (sym home)
    (out_arrives network signal source flags F has is block (arrive_out network signal source flags F has are inner block on free)
    (subst (λ x. IsImplied network x) home implied) (subst (λ x. StandsIn network its.System x) begins (subst (λ x. StandsIn network x from) home stands))
    to (subst (λ x. StandsIn network x to) home there) accepts (λ e. differs (begins ∙ e)))

-- A signal that goes on a way is at that way's node.
pub complete : (network : Network) (signal : SignalId) (source : Source) (flags : List Bool) (F : node.Node → Type 0) → HasSteps network signal source flags F
    → IsSource network source → AreFlags network flags
    → {scope : scope.Scope} {way : Way} {to : end.End} → Goes network signal source scope way to → OnWay network F scope way to
complete network signal source flags F has is are (Goes.leaves carries) = leaves_arrives network signal source flags F has carries refl refl
complete network signal source flags F has is are (Goes.goes_in {block} outer goes carries joined) =
    in_arrives network signal source flags F has are block outer (complete network signal source flags F has is are goes) carries refl refl
    (joined_cases network block joined)
complete network signal source flags F has is are (Goes.goes_out block inner goes carries joined) =
    out_goes network signal source flags F has is are block inner (complete network signal source flags F has is are goes) carries refl refl
    (joined_cases network block joined)

-- What a path leads to is reached.
pub process_complete : (network : Network) (signal : SignalId) (source : Source) (flags : List Bool) (F : node.Node → Type 0) → HasSteps network signal source flags F
    → IsSource network source → AreFlags network flags → (p : ProcessId) → Reached network signal source (nodes.Process p) → F (nodes.Process p)
process_complete network signal source flags F has is are p (scope, way, goes) =
    arrive_process network signal source flags F has scope way p (complete network signal source flags F has is are goes)

pub env_complete : (network : Network) (signal : SignalId) (source : Source) (flags : List Bool) (F : node.Node → Type 0) → HasSteps network signal source flags F
    → IsSource network source → AreFlags network flags → Reached network signal source nodes.Env → F nodes.Env
env_complete network signal source flags F has is are (way, goes) =
    arrive_env network signal source flags F has way (complete network signal source flags F has is are goes)
