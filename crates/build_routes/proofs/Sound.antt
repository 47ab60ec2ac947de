-- A signal comes to a node only as the node says.
use Rattle.std.proofs.Common.{◌≡◌, ◌≢◌, ℕ, ◌<◌, ◌&&◌, not, Bool, true, false, List, Option, None, Some, slice_get, get_or, length, ap, ◌∙◌, sym, subst, refl, inl, inr}
use Rattle.port_model.specs.declared.values.item.SignalId.{SignalId}
use Rattle.std.proofs.lemmas.Bool.{and_parts, cases_eq, eqb-true, eq-eqb, false≢true, not-true}
use Rattle.std.specs.Prelude.{if◌then◌else◌}
use Rattle.sdl_system.specs.declared.id.ProcessId.{ProcessId}
use Rattle.std.proofs.lemmas.Option.{slice_get_within}
use Rattle.build_routes.specs.Graph.{Flows, Leads}
use Rattle.build_routes.specs.Mask.{Has, Lets}
use Rattle.build_routes.specs.Nodes.{number}
use Rattle.build_routes.specs.declared.network.graph.Row.{Row}
use Rattle.build_routes.specs.Paths.{Accepts, By, Carries, Goes, Implied, IsImplied, IsNamed, IsSender, IsSource, Joined, StandsIn, Way}
use Rattle.build_routes.specs.Reached.{AreFlags, ComesOut, IsFree, Passes, Reached}
use Rattle.build_routes.specs.Steps.{AllSteps, BlockSteps, JointSteps, Link, PathSteps, ProcessSteps, ScopeSteps, begin_of, departs, end_of, first_of, from_block, is_implied, is_implied_block, node_if, on_first, on_implied, option_if, same_end, same_scope, touches}
use Rattle.build_routes.specs.declared.network.graph.Step.{Step}
use Rattle.build_routes.specs.declared.graph.joint.Side.TheVariants as which
use Rattle.build_routes.specs.declared.network.list.ListId.{ListId}
use Rattle.build_routes.specs.declared.network.joined.Block.{Block}
use Rattle.sdl_system.specs.declared.id.BlockId.{BlockId}
use Rattle.build_routes.specs.declared.network.joined.ChannelPath.{ChannelPath}
use Rattle.build_routes.specs.declared.network.joined.Connect.{Connect}
use Rattle.build_routes.specs.declared.network.joined.End as end
use Rattle.build_routes.specs.declared.network.joined.End.TheVariants as at
use Rattle.build_routes.specs.declared.network.joined.Network.{Network}
use Rattle.build_routes.specs.declared.network.joined.PathId.{PathId}
use Rattle.build_routes.specs.declared.network.joined.Process.{Process}
use Rattle.build_routes.specs.declared.network.joined.Scope as scope
use Rattle.build_routes.specs.declared.network.joined.Scope.TheVariants as its
use Rattle.build_routes.specs.declared.network.joined.Source.{Source}
use Rattle.build_routes.specs.declared.graph.node.Node as node
use Rattle.build_routes.specs.declared.graph.node.Node.TheVariants as nodes
use Rattle.build_routes.proofs.EachLemmas.{same_element}
use Rattle.build_routes.proofs.NodeLemmas.{number-same}

block_same : (a b : BlockId) → a.0 ≡ b.0 → a ≡ b
block_same a b same = let f : ℕ → BlockId = λ n. record { 0 = n } in ap f same

pub same_scope-true : (a b : scope.Scope) → same_scope a b ≡ true → a ≡ b
same_scope-true its.System its.System e = refl
same_scope-true its.System (its.Block b) e = cc
same_scope-true (its.Block a) its.System e = cc
same_scope-true (its.Block a) (its.Block b) e = ap (λ x. its.Block x) (block_same a b (eqb-true a.0 b.0 e))

pub same_end-true : (a b : end.End) → same_end a b ≡ true → a ≡ b
same_end-true at.Env at.Env e = refl
same_end-true at.Env (at.Process q) e = cc
same_end-true at.Env (at.Block b) e = cc
same_end-true (at.Process p) at.Env e = cc
same_end-true (at.Process p) (at.Process q) e =
    let f : ℕ → end.End = λ n. at.Process (record { 0 = n }) in ap f (eqb-true p.0 q.0 e)
same_end-true (at.Process p) (at.Block b) e = cc
same_end-true (at.Block a) at.Env e = cc
same_end-true (at.Block a) (at.Process q) e = cc
same_end-true (at.Block a) (at.Block b) e = ap (λ x. at.Block x) (block_same a b (eqb-true a.0 b.0 e))

-- a node that is there under a condition
pub node_if-is : (b : Bool) (m n : node.Node) → node_if b m ≡ Some n → (b ≡ true) × (m ≡ n)
node_if-is true m n e = (refl, cc)
node_if-is false m n e = cc

pub free_joins : (network : Network) (block : BlockId) (outer inner : Way) → IsFree network inner → Joined network block outer inner
free_joins network block outer (By n) free = Joined.unnamed outer n free
free_joins network block outer Implied free = Joined.implied outer

-- over a step, from a node that was reached as it says
pub over_link : (network : Network) (signal : SignalId) (source : Source) (o p : Option node.Node) (only : Option ListId) (n : ℕ) (step : Step)
    → ((m m' : node.Node) → o ≡ Some m → p ≡ Some m' → Reached network signal source m → Passes network signal only → Reached network signal source m')
    → Link o p only n step → ((m : node.Node) → number m ≡ n → Reached network signal source m) → Passes network signal step.only
    → (m : node.Node) → number m ≡ step.to → Reached network signal source m
over_link network signal source None p only n step goes link sound passes m is = absurd link
over_link network signal source (Some before) None only n step goes link sound passes m is = absurd link
over_link network signal source (Some before) (Some after) only n step goes link sound passes m is =
    let same : after ≡ m = number-same after m (ap (λ s. s.to) (sym link.1) ∙ sym is) in
    subst (λ x. Reached network signal source x) same
    (goes before after refl refl (sound before (sym link.0)) (subst (λ s. Passes network signal s.only) link.1 passes))

-- a path that begins at the border of a block
begin_goes : (network : Network) (signal : SignalId) (source : Source) (scope : scope.Scope) (from to : end.End) (named : Bool) (n : ℕ) (m : node.Node)
    → begin_of scope from named ≡ Some m → (named ≡ false → IsNamed network n → ⊥) → Reached network signal source m
    → Carries network signal scope (By n) from to → Goes network signal source scope (By n) to
begin_goes network signal source its.System at.Env to named n m e free reached carries = cc
begin_goes network signal source its.System (at.Process p) to named n m e free reached carries = cc
begin_goes network signal source its.System (at.Block b) to named n m e free reached carries =
    let same : m ≡ nodes.OutOf b = cc in
    let out : ComesOut network signal source b = subst (λ x. Reached network signal source x) same reached in
    Goes.goes_out b out.way out.goes carries (free_joins network b (By n) out.way out.free)
begin_goes network signal source (its.Block b) at.Env to named n m e free reached carries =
    let is = node_if-is (not named) (nodes.Into b) m e in
    let into : Reached network signal source (nodes.Into b) = subst (λ x. Reached network signal source x) (sym is.1) reached in
    Goes.goes_in into.0 into.1 carries (Joined.unnamed into.0 n (free (not-true named is.0)))
begin_goes network signal source (its.Block b) (at.Process p) to named n m e free reached carries = cc
begin_goes network signal source (its.Block b) (at.Block a) to named n m e free reached carries = cc

-- where a path ends
end_reached : (network : Network) (signal : SignalId) (source : Source) (scope : scope.Scope) (to : end.End) (named : Bool) (n : ℕ) (m : node.Node)
    → end_of scope to named ≡ Some m → (named ≡ false → IsNamed network n → ⊥) → Goes network signal source scope (By n) to
    → Reached network signal source m
end_reached network signal source its.System at.Env named n m e free goes =
    let same : nodes.Env ≡ m = cc in subst (λ x. Reached network signal source x) same (By n, goes)
end_reached network signal source its.System (at.Process p) named n m e free goes =
    let same : nodes.Process p ≡ m = cc in subst (λ x. Reached network signal source x) same (its.System, By n, goes)
end_reached network signal source its.System (at.Block b) named n m e free goes =
    let same : nodes.Into b ≡ m = cc in subst (λ x. Reached network signal source x) same (By n, goes)
end_reached network signal source (its.Block b) at.Env named n m e free goes =
    let is = node_if-is (not named) (nodes.OutOf b) m e in
    subst (λ x. Reached network signal source x) is.1 (record { way = By n; goes = goes; free = free (not-true named is.0) })
end_reached network signal source (its.Block b) (at.Process p) named n m e free goes =
    let same : nodes.Process p ≡ m = cc in subst (λ x. Reached network signal source x) same (its.Block b, By n, goes)
end_reached network signal source (its.Block b) (at.Block a) named n m e free goes = cc

-- the steps of a path
pub path_sound : (network : Network) (signal : SignalId) (source : Source) (named : Bool) (q : ℕ) (path : ChannelPath) (n : ℕ) (step : Step)
    → slice_get network.paths.items q ≡ Some path → (named ≡ false → IsNamed network q → ⊥) → PathSteps source named q path n step
    → ((m : node.Node) → number m ≡ n → Reached network signal source m) → Passes network signal step.only
    → (m : node.Node) → number m ≡ step.to → Reached network signal source m
path_sound network signal source named q path n step here free steps sound passes = elim steps [
  | inl starts ↦ over_link network signal source (node_if (same_scope path.scope source.scope && same_end path.from source.end) nodes.Source)
      (Some (nodes.Path (record { 0 = q }))) (Some path.signals) n step
      (λ m m' e f reached stands.
      let is = node_if-is (same_scope path.scope source.scope && same_end path.from source.end) nodes.Source m e in
      let both = and_parts (same_scope path.scope source.scope) (same_end path.from source.end) is.0 in
      let same : nodes.Path (record { 0 = q }) ≡ m' = cc in
      subst (λ x. Reached network signal source x) same (
        path,
        here,
        subst (λ x. Goes network signal source x (By q) path.to) (sym (same_scope-true path.scope source.scope both.0))
            (Goes.leaves (subst (λ x. Carries network signal source.scope (By q) x path.to) (same_end-true path.from source.end both.1)
            (subst (λ x. Carries network signal x (By q) path.from path.to) (same_scope-true path.scope source.scope both.0)
            (Carries.channel q path here stands)))),
      ))
      starts sound passes
  | inr rest ↦ elim rest [
    | inl begins ↦ over_link network signal source (begin_of path.scope path.from named) (Some (nodes.Path (record { 0 = q }))) (Some path.signals) n step
        (λ m m' e f reached stands.
        let same : nodes.Path (record { 0 = q }) ≡ m' = cc in
        subst (λ x. Reached network signal source x) same (
          path,
          here,
          begin_goes network signal source path.scope path.from path.to named q m e free reached (Carries.channel q path here stands),
        ))
        begins sound passes
    | inr ends ↦ over_link network signal source (Some (nodes.Path (record { 0 = q }))) (end_of path.scope path.to named) None n step
        (λ m m' e f reached stands.
        let same : m ≡ nodes.Path (record { 0 = q }) = cc in
        let on : Reached network signal source (nodes.Path (record { 0 = q })) = subst (λ x. Reached network signal source x) same reached in
        let goes : Goes network signal source path.scope (By q) path.to =
        subst (λ x. Goes network signal source x.scope (By q) x.to) (same_element network.paths.items q q on.0 path here on.1 refl) on.2 in
        end_reached network signal source path.scope path.to named q m' f free goes)
        ends sound passes
  ]
]

sender_stands : (network : Network) (scope : scope.Scope) (end : end.End) → IsSender network scope end → StandsIn network scope end
sender_stands network scope at.Env is = tt
sender_stands network scope (at.Process p) is = is
sender_stands network scope (at.Block b) is = absurd is

sender_not_block : (network : Network) (scope : scope.Scope) (end : end.End) (b : BlockId) → IsSender network scope end → end ≢ at.Block b
sender_not_block network scope at.Env b is = λ e. cc
sender_not_block network scope (at.Process p) b is = λ e. cc
sender_not_block network scope (at.Block a) b is = absurd is

pub sender_in_block : (network : Network) (scope : scope.Scope) (end : end.End) (b : BlockId) → IsSender network scope end → scope ≡ its.Block b → end ≢ at.Env
sender_in_block network scope at.Env b is home = λ e. (let f : its.System ≡ its.Block b = sym is ∙ home in cc)
sender_in_block network scope (at.Process p) b is home = λ e. cc
sender_in_block network scope (at.Block a) b is home = absurd is

pub same_scope-refl : (a : scope.Scope) → same_scope a a ≡ true
same_scope-refl its.System = refl
same_scope-refl (its.Block a) = eq-eqb a.0 a.0 refl

pub same_end-refl : (a : end.End) → same_end a a ≡ true
same_end-refl at.Env = refl
same_end-refl (at.Process p) = eq-eqb p.0 p.0 refl
same_end-refl (at.Block b) = eq-eqb b.0 b.0 refl

scopes_differ : (a b : scope.Scope) → same_scope a b ≡ false → b ≢ a
scopes_differ a b e = λ f. false≢true (sym e ∙ ap (λ x. same_scope a x) f ∙ same_scope-refl a)

ends_differ : (a b : end.End) → same_end a b ≡ false → b ≢ a
ends_differ a b e = λ f. false≢true (sym e ∙ ap (λ x. same_end a x) f ∙ same_end-refl a)

implied_block : (o : Option Block) → is_implied_block o ≡ true → (is : Block) × (o ≡ Some is) × (is.is_implied ≡ true)
implied_block None e = absurd (false≢true e)
implied_block (Some block) e = (block, refl, e)

pub implied_true : (network : Network) (scope : scope.Scope) → is_implied network scope ≡ true → IsImplied network scope
implied_true network its.System e = e
implied_true network (its.Block b) e = implied_block (slice_get network.blocks.items b.0) e

option_if-is : (b : Bool) (o : Option node.Node) (n : node.Node) → option_if b o ≡ Some n → (b ≡ true) × (o ≡ Some n)
option_if-is true o n e = (refl, e)
option_if-is false o n e = cc

-- a signal that has come out of a block goes on by an implied channel
goes_from : (network : Network) (signal : SignalId) (source : Source) (b : BlockId) (end : end.End) → ComesOut network signal source b
    → IsImplied network its.System → StandsIn network its.System (at.Block b) → StandsIn network its.System end → at.Block b ≢ end
    → Accepts network signal end → Goes network signal source its.System Implied end
goes_from network signal source b end out implied stands there differs accepts =
    Goes.goes_out b out.way out.goes (Carries.implied its.System (at.Block b) end implied stands there differs accepts)
    (free_joins network b Implied out.way out.free)

-- so does one at its source
goes_first : (network : Network) (signal : SignalId) (source : Source) (scope : scope.Scope) (end : end.End) → IsSource network source
    → source.scope ≡ scope → IsImplied network scope → StandsIn network scope end → source.end ≢ end
    → Accepts network signal end → Goes network signal source scope Implied end
goes_first network signal source scope end is home implied there differs accepts =
    subst (λ x. Goes network signal source x Implied end) home (Goes.leaves
    (subst (λ x. Carries network signal x Implied source.end end) (sym home)
    (Carries.implied scope source.end end implied
    (subst (λ x. StandsIn network x source.end) home (sender_stands network source.scope source.end is)) there differs accepts)))

-- from the first implied channels
goes_on_first : (network : Network) (signal : SignalId) (source : Source) (end : end.End) → IsSource network source
    → Reached network signal source nodes.First → IsImplied network its.System → StandsIn network its.System end → source.end ≢ end
    → ((b : BlockId) → source.scope ≡ its.Block b → at.Block b ≢ end)
    → Accepts network signal end → Goes network signal source its.System Implied end
goes_on_first network signal source end is (inl home) implied there differs apart accepts =
    goes_first network signal source its.System end is home implied there differs accepts
goes_on_first network signal source end is (inr own) implied there differs apart accepts =
    goes_from network signal source own.0 end own.3 implied own.2 there (apart own.0 own.1) accepts

-- what comes out of a block that isn't the source's came in before
came_in : (network : Network) (signal : SignalId) (source : Source) (b : BlockId) {scope : scope.Scope} {way : Way} {end : end.End}
    → Goes network signal source scope way end → scope ≡ its.Block b → source.scope ≢ its.Block b
    → (outer : Way) × Goes network signal source its.System outer (at.Block b)
came_in network signal source b (Goes.leaves carries) here differs = absurd (differs here)
came_in network signal source b (Goes.goes_in {block} outer goes carries joined) here differs =
    let same : block ≡ b = cc in (outer, subst (λ x. Goes network signal source its.System outer (at.Block x)) same goes)
came_in network signal source b (Goes.goes_out block inner goes carries joined) here differs = cc

process_from : (network : Network) (signal : SignalId) (source : Source) (scope : scope.Scope) (q : ProcessId) → IsImplied network scope
    → StandsIn network scope (at.Process q) → Accepts network signal (at.Process q) → Reached network signal source (on_implied scope)
    → Goes network signal source scope Implied (at.Process q)
process_from network signal source its.System q implied stands accepts reached =
    goes_from network signal source reached.0 (at.Process q) reached.3 implied reached.2 stands (λ e. cc) accepts
process_from network signal source (its.Block b) q implied stands accepts reached =
    Goes.goes_in reached.0 reached.1 (Carries.implied (its.Block b) at.Env (at.Process q) implied tt stands (λ e. cc) accepts) (Joined.implied reached.0)

process_first : (network : Network) (signal : SignalId) (source : Source) (scope : scope.Scope) (q : ProcessId) (m : node.Node) → IsSource network source
    → IsImplied network scope → StandsIn network scope (at.Process q) → Accepts network signal (at.Process q) → source.end ≢ at.Process q
    → on_first scope source ≡ Some m → Reached network signal source m → Goes network signal source scope Implied (at.Process q)
process_first network signal source its.System q m is implied stands accepts differs e reached =
    let same : m ≡ nodes.First = cc in
    goes_on_first network signal source (at.Process q) is (subst (λ x. Reached network signal source x) same reached) implied stands differs (λ b home f. cc) accepts
process_first network signal source (its.Block b) q m is implied stands accepts differs e reached =
    let first = node_if-is (same_scope (its.Block b) source.scope) nodes.Source m e in
    goes_first network signal source (its.Block b) (at.Process q) is (sym (same_scope-true (its.Block b) source.scope first.0)) implied stands differs accepts

-- the steps to a process
pub process_sound : (network : Network) (signal : SignalId) (source : Source) (q : ℕ) (process : Process) (n : ℕ) (step : Step) → IsSource network source
    → slice_get network.processes.items q ≡ Some process → ProcessSteps network source q process n step
    → ((m : node.Node) → number m ≡ n → Reached network signal source m) → Passes network signal step.only
    → (m : node.Node) → number m ≡ step.to → Reached network signal source m
process_sound network signal source q process n step is here steps sound passes = elim steps [
  | inl comes ↦ over_link network signal source (node_if (is_implied network process.scope) (on_implied process.scope))
      (Some (nodes.Process (record { 0 = q }))) (Some process.named) n step
      (λ m m' e f reached stands.
      let first = node_if-is (is_implied network process.scope) (on_implied process.scope) m e in
      let same : nodes.Process (record { 0 = q }) ≡ m' = cc in
      subst (λ x. Reached network signal source x) same (
        process.scope,
        Implied,
        process_from network signal source process.scope (record { 0 = q }) (implied_true network process.scope first.0)
            (process, here, refl) (process, here, stands) (subst (λ x. Reached network signal source x) (sym first.1) reached),
      ))
      comes sound passes
  | inr firsts ↦ over_link network signal source
      (option_if (is_implied network process.scope && not (same_end (at.Process (record { 0 = q })) source.end)) (on_first process.scope source))
      (Some (nodes.Process (record { 0 = q }))) (Some process.named) n step
      (λ m m' e f reached stands.
      let first = option_if-is (is_implied network process.scope && not (same_end (at.Process (record { 0 = q })) source.end)) (on_first process.scope source) m e in
      let both = and_parts (is_implied network process.scope) (not (same_end (at.Process (record { 0 = q })) source.end)) first.0 in
      let same : nodes.Process (record { 0 = q }) ≡ m' = cc in
      subst (λ x. Reached network signal source x) same (
        process.scope,
        Implied,
        process_first network signal source process.scope (record { 0 = q }) m is (implied_true network process.scope both.0)
            (process, here, refl) (process, here, stands)
            (ends_differ (at.Process (record { 0 = q })) source.end (not-true (same_end (at.Process (record { 0 = q })) source.end) both.1)) first.1 reached,
      ))
      firsts sound passes
]

out_reached : (network : Network) (signal : SignalId) (source : Source) (b : BlockId) (t : Bool) → same_scope (its.Block b) source.scope ≡ t
    → StandsIn network its.System (at.Block b) → ComesOut network signal source b → Reached network signal source (if t then nodes.First else nodes.Others)
out_reached network signal source b true e stands out = inr (b, sym (same_scope-true (its.Block b) source.scope e), stands, out)
out_reached network signal source b false e stands out = (b, scopes_differ (its.Block b) source.scope e, stands, out)

-- the steps of a block
pub block_sound : (network : Network) (signal : SignalId) (source : Source) (q n : ℕ) (step : Step) → IsSource network source
    → q < length network.blocks.items → BlockSteps network.is_implied source q n step
    → ((m : node.Node) → number m ≡ n → Reached network signal source m) → Passes network signal step.only
    → (m : node.Node) → number m ≡ step.to → Reached network signal source m
block_sound network signal source q n step is within steps sound passes =
    let b : BlockId = record { 0 = q } in
    let stands : StandsIn network its.System (at.Block b) = (refl, within) in
    elim steps [
      | inl out ↦ over_link network signal source (node_if network.is_implied (nodes.OutOf b)) (Some (from_block b source)) None n step
          (λ m m' e f reached pass.
          let first = node_if-is network.is_implied (nodes.OutOf b) m e in
          let same : from_block b source ≡ m' = cc in
          subst (λ x. Reached network signal source x) same
          (out_reached network signal source b (same_scope (its.Block b) source.scope) refl stands (subst (λ x. Reached network signal source x) (sym first.1) reached)))
          out sound passes
      | inr rest ↦ elim rest [
        | inl others ↦ over_link network signal source (node_if network.is_implied nodes.Others) (Some (nodes.Into b)) None n step
            (λ m m' e f reached pass.
            let first = node_if-is network.is_implied nodes.Others m e in
            let same : nodes.Into b ≡ m' = cc in
            let from : Reached network signal source nodes.Others = subst (λ x. Reached network signal source x) (sym first.1) reached in
            subst (λ x. Reached network signal source x) same
            (elim (cases_eq from.0.0 q) [
              | inl equal ↦
                  let came = came_in network signal source from.0 from.3.goes refl from.1 in
                  (came.0, subst (λ x. Goes network signal source its.System came.0 (at.Block x)) (block_same from.0 b equal) came.1)
              | inr differs ↦ (
                Implied,
                goes_from network signal source from.0 (at.Block b) from.3 first.0 from.2 stands
                    (λ g. differs (let f : from.0 ≡ b = cc in ap (λ x. x.0) f)) tt,
              )
            ]))
            others sound passes
        | inr firsts ↦ over_link network signal source (node_if (network.is_implied && not (same_scope (its.Block b) source.scope)) nodes.First) (Some (nodes.Into b)) None n step
            (λ m m' e f reached pass.
            let first = node_if-is (network.is_implied && not (same_scope (its.Block b) source.scope)) nodes.First m e in
            let both = and_parts network.is_implied (not (same_scope (its.Block b) source.scope)) first.0 in
            let same : nodes.Into b ≡ m' = cc in
            subst (λ x. Reached network signal source x) same (
              Implied,
              goes_on_first network signal source (at.Block b) is (subst (λ x. Reached network signal source x) (sym first.1) reached) both.0 stands
                  (sender_not_block network source.scope source.end b is)
                  (λ a home g. scopes_differ (its.Block b) source.scope (not-true (same_scope (its.Block b) source.scope) both.1)
                  (home ∙ (let h : a ≡ b = cc in ap (λ x. its.Block x) h))) tt,
            ))
            firsts sound passes
      ]
    ]

first_reached : (network : Network) (signal : SignalId) (source : Source) (scope : scope.Scope) → IsSource network source → source.scope ≡ scope
    → IsImplied network scope → Reached network signal source (first_of scope)
first_reached network signal source its.System is home implied = inl home
first_reached network signal source (its.Block b) is home implied = record {
  way = Implied;
  goes = goes_first network signal source (its.Block b) at.Env is home implied tt (sender_in_block network source.scope source.end b is home) tt;
  free = tt;
}

-- the steps of the source's scope and the system's
pub scope_sound : (network : Network) (signal : SignalId) (source : Source) (n : ℕ) (step : Step) → IsSource network source
    → ScopeSteps network source n step
    → ((m : node.Node) → number m ≡ n → Reached network signal source m) → Passes network signal step.only
    → (m : node.Node) → number m ≡ step.to → Reached network signal source m
scope_sound network signal source n step is steps sound passes = elim steps [
  | inl starts ↦ over_link network signal source (node_if (is_implied network source.scope) nodes.Source) (Some (first_of source.scope)) None n step
      (λ m m' e f reached pass.
      let first = node_if-is (is_implied network source.scope) nodes.Source m e in
      let same : first_of source.scope ≡ m' = cc in
      subst (λ x. Reached network signal source x) same
      (first_reached network signal source source.scope is refl (implied_true network source.scope first.0)))
      starts sound passes
  | inr rest ↦ elim rest [
    | inl others ↦ over_link network signal source (node_if network.is_implied nodes.Others) (Some nodes.Env) None n step
        (λ m m' e f reached pass.
        let first = node_if-is network.is_implied nodes.Others m e in
        let same : nodes.Env ≡ m' = cc in
        let from : Reached network signal source nodes.Others = subst (λ x. Reached network signal source x) (sym first.1) reached in
        subst (λ x. Reached network signal source x) same
        (Implied, goes_from network signal source from.0 at.Env from.3 first.0 from.2 tt (λ g. cc) tt))
        others sound passes
    | inr firsts ↦ over_link network signal source (node_if (network.is_implied && not (same_end source.end at.Env)) nodes.First) (Some nodes.Env) None n step
        (λ m m' e f reached pass.
        let first = node_if-is (network.is_implied && not (same_end source.end at.Env)) nodes.First m e in
        let both = and_parts network.is_implied (not (same_end source.end at.Env)) first.0 in
        let same : nodes.Env ≡ m' = cc in
        subst (λ x. Reached network signal source x) same (
          Implied,
          goes_on_first network signal source at.Env is (subst (λ x. Reached network signal source x) (sym first.1) reached) both.0 tt
              (λ g. ends_differ source.end at.Env (not-true (same_end source.end at.Env) both.1) (sym g)) (λ a home g. cc) tt,
        ))
        firsts sound passes
  ]
]

outer_sound : (network : Network) (signal : SignalId) (source : Source) (k : ℕ) (connect : Connect) (j : ℕ) (id : PathId) (path : ChannelPath) (n : ℕ) (step : Step)
    → slice_get network.connects.items k ≡ Some connect → slice_get connect.outer.items j ≡ Some id → slice_get network.paths.items id.0 ≡ Some path
    → JointSteps which.Outer k connect.block id path n step
    → ((m : node.Node) → number m ≡ n → Reached network signal source m) → Passes network signal step.only
    → (m : node.Node) → number m ≡ step.to → Reached network signal source m
outer_sound network signal source k connect j id path n step at_k at_j here steps sound passes = elim steps [
  | inl comes ↦ over_link network signal source (Some (nodes.Path id)) (node_if (touches which.Outer connect.block path.scope path.to) (nodes.IntoBy k)) None n step
      (λ m m' e f reached pass.
      let same : m ≡ nodes.Path id = cc in
      let on : Reached network signal source (nodes.Path id) = subst (λ x. Reached network signal source x) same reached in
      let goes : Goes network signal source path.scope (By id.0) path.to =
      subst (λ x. Goes network signal source x.scope (By id.0) x.to) (same_element network.paths.items id.0 id.0 on.0 path here on.1 refl) on.2 in
      let is = node_if-is (touches which.Outer connect.block path.scope path.to) (nodes.IntoBy k) m' f in
      let both = and_parts (same_scope path.scope its.System) (same_end path.to (at.Block connect.block)) is.0 in
      subst (λ x. Reached network signal source x) is.1 (
        connect,
        j,
        id,
        at_k,
        at_j,
        subst (λ x. Goes network signal source its.System (By id.0) x) (same_end-true path.to (at.Block connect.block) both.1)
            (subst (λ x. Goes network signal source x (By id.0) path.to) (same_scope-true path.scope its.System both.0) goes),
      ))
      comes sound passes
  | inr departs ↦ over_link network signal source (node_if (touches which.Outer connect.block path.scope path.from) (nodes.OutBy k)) (Some (nodes.Path id)) (Some path.signals) n step
      (λ m m' e f reached stands.
      let is = node_if-is (touches which.Outer connect.block path.scope path.from) (nodes.OutBy k) m e in
      let both = and_parts (same_scope path.scope its.System) (same_end path.from (at.Block connect.block)) is.0 in
      let out : Reached network signal source (nodes.OutBy k) = subst (λ x. Reached network signal source x) (sym is.1) reached in
      let same_connect : out.0 ≡ connect = same_element network.connects.items k k out.0 connect at_k out.3 refl in
      let came : Goes network signal source (its.Block connect.block) (By out.2.0) at.Env = subst (λ x. Goes network signal source (its.Block x.block) (By out.2.0) at.Env) same_connect out.5 in
      let inner : slice_get connect.inner.items out.1 ≡ Some out.2 = subst (λ x. slice_get x.inner.items out.1 ≡ Some out.2) same_connect out.4 in
      let home : path.scope ≡ its.System = same_scope-true path.scope its.System both.0 in
      let carries : Carries network signal its.System (By id.0) (at.Block connect.block) path.to =
      subst (λ x. Carries network signal its.System (By id.0) x path.to) (same_end-true path.from (at.Block connect.block) both.1)
      (subst (λ x. Carries network signal x (By id.0) path.from path.to) home (Carries.channel id.0 path here stands)) in
      let same : nodes.Path id ≡ m' = cc in
      subst (λ x. Reached network signal source x) same (
        path,
        here,
        subst (λ x. Goes network signal source x (By id.0) path.to) (sym home)
            (Goes.goes_out connect.block (By out.2.0) came carries (Joined.connected k connect j out.1 id out.2 at_k refl at_j inner)),
      ))
      departs sound passes
]

inner_sound : (network : Network) (signal : SignalId) (source : Source) (k : ℕ) (connect : Connect) (j : ℕ) (id : PathId) (path : ChannelPath) (n : ℕ) (step : Step)
    → slice_get network.connects.items k ≡ Some connect → slice_get connect.inner.items j ≡ Some id → slice_get network.paths.items id.0 ≡ Some path
    → JointSteps which.Inner k connect.block id path n step
    → ((m : node.Node) → number m ≡ n → Reached network signal source m) → Passes network signal step.only
    → (m : node.Node) → number m ≡ step.to → Reached network signal source m
inner_sound network signal source k connect j id path n step at_k at_j here steps sound passes = elim steps [
  | inl comes ↦ over_link network signal source (Some (nodes.Path id)) (node_if (touches which.Inner connect.block path.scope path.to) (nodes.OutBy k)) None n step
      (λ m m' e f reached pass.
      let same : m ≡ nodes.Path id = cc in
      let on : Reached network signal source (nodes.Path id) = subst (λ x. Reached network signal source x) same reached in
      let goes : Goes network signal source path.scope (By id.0) path.to =
      subst (λ x. Goes network signal source x.scope (By id.0) x.to) (same_element network.paths.items id.0 id.0 on.0 path here on.1 refl) on.2 in
      let is = node_if-is (touches which.Inner connect.block path.scope path.to) (nodes.OutBy k) m' f in
      let both = and_parts (same_scope path.scope (its.Block connect.block)) (same_end path.to at.Env) is.0 in
      subst (λ x. Reached network signal source x) is.1 (
        connect,
        j,
        id,
        at_k,
        at_j,
        subst (λ x. Goes network signal source (its.Block connect.block) (By id.0) x) (same_end-true path.to at.Env both.1)
            (subst (λ x. Goes network signal source x (By id.0) path.to) (same_scope-true path.scope (its.Block connect.block) both.0) goes),
      ))
      comes sound passes
  | inr departs ↦ over_link network signal source (node_if (touches which.Inner connect.block path.scope path.from) (nodes.IntoBy k)) (Some (nodes.Path id)) (Some path.signals) n step
      (λ m m' e f reached stands.
      let is = node_if-is (touches which.Inner connect.block path.scope path.from) (nodes.IntoBy k) m e in
      let both = and_parts (same_scope path.scope (its.Block connect.block)) (same_end path.from at.Env) is.0 in
      let into : Reached network signal source (nodes.IntoBy k) = subst (λ x. Reached network signal source x) (sym is.1) reached in
      let same_connect : into.0 ≡ connect = same_element network.connects.items k k into.0 connect at_k into.3 refl in
      let came : Goes network signal source its.System (By into.2.0) (at.Block connect.block) = subst (λ x. Goes network signal source its.System (By into.2.0) (at.Block x.block)) same_connect into.5 in
      let outer : slice_get connect.outer.items into.1 ≡ Some into.2 = subst (λ x. slice_get x.outer.items into.1 ≡ Some into.2) same_connect into.4 in
      let home : path.scope ≡ its.Block connect.block = same_scope-true path.scope (its.Block connect.block) both.0 in
      let carries : Carries network signal (its.Block connect.block) (By id.0) at.Env path.to =
      subst (λ x. Carries network signal (its.Block connect.block) (By id.0) x path.to) (same_end-true path.from at.Env both.1)
      (subst (λ x. Carries network signal x (By id.0) path.from path.to) home (Carries.channel id.0 path here stands)) in
      let same : nodes.Path id ≡ m' = cc in
      subst (λ x. Reached network signal source x) same (
        path,
        here,
        subst (λ x. Goes network signal source x (By id.0) path.to) (sym home)
            (Goes.goes_in (By into.2.0) came carries (Joined.connected k connect into.1 j into.2 id at_k refl outer at_j)),
      ))
      departs sound passes
]

-- each step
all_sound : (network : Network) (signal : SignalId) (source : Source) (flags : List Bool) (n : ℕ) (step : Step) → IsSource network source → AreFlags network flags
    → AllSteps network flags source n step
    → ((m : node.Node) → number m ≡ n → Reached network signal source m) → Passes network signal step.only
    → (m : node.Node) → number m ≡ step.to → Reached network signal source m
all_sound network signal source flags n step is are steps sound passes = elim steps [
  | inl path ↦ path_sound network signal source (get_or flags path.0 false) path.0 path.1 n step path.2 (are path.0 path.1 path.2).0 path.3 sound passes
  | inr rest ↦ elim rest [
    | inl connect ↦ elim connect.3 [
      | inl outer ↦ outer_sound network signal source connect.0 connect.1 outer.0 outer.1 outer.3.0 n step connect.2 outer.2 outer.3.1 outer.3.2 sound passes
      | inr inner ↦ inner_sound network signal source connect.0 connect.1 inner.0 inner.1 inner.3.0 n step connect.2 inner.2 inner.3.1 inner.3.2 sound passes
    ]
    | inr others ↦ elim others [
      | inl process ↦ process_sound network signal source process.0 process.1 n step is process.2 process.3 sound passes
      | inr last ↦ elim last [
        | inl block ↦ block_sound network signal source block.0 n step is (slice_get_within network.blocks.items block.0 block.1 block.2) block.3 sound passes
        | inr scope ↦ scope_sound network signal source n step is scope sound passes
      ]
    ]
  ]
]

-- What flows to a node from the source was reached as it says.
pub flow_sound : (network : Network) (signal : SignalId) (source : Source) (flags : List Bool) (rows : List Row) (column start : List ℕ) (k : ℕ) → IsSource network source
    → AreFlags network flags → ((n : ℕ) (step : Step) → Leads rows n step → AllSteps network flags source n step)
    → ((only : Option ListId) → Lets column only k → Passes network signal only) → ((n : ℕ) → Has start n k → n ≡ 0)
    → {n : ℕ} → Flows rows column start k n → (m : node.Node) → number m ≡ n → Reached network signal source m
flow_sound network signal source flags rows column start k is are leads lets starts (Flows.begins {n} has) m same =
    let at_source : nodes.Source ≡ m = number-same nodes.Source m (sym (starts n has) ∙ sym same) in
    subst (λ x. Reached network signal source x) at_source tt
flow_sound network signal source flags rows column start k is are leads lets starts (Flows.goes_on {n} step flows goes passes to) m same =
    all_sound network signal source flags n step is are (leads n step goes)
    (flow_sound network signal source flags rows column start k is are leads lets starts flows) (lets step.only passes) m (same ∙ sym to)
