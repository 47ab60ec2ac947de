-- How signals come back to their sender.
use Rattle.std.proofs.Common.{◌≡◌, ◌≢◌, ◌⊎◌, ◌<◌, Some, ap, inl, inr, refl, slice_get, subst, sym, ◌∙◌}
use Rattle.std.proofs.lemmas.Option.{same_Some}
use Rattle.std.specs.List.{Contains}
use Rattle.port_model.specs.declared.values.item.SignalId.{SignalId}
use Rattle.sdl_system.specs.Route.{receivers}
use Rattle.sdl_system.specs.declared.id.BlockId.{BlockId}
use Rattle.sdl_system.specs.declared.id.ProcessId.{ProcessId}
use Rattle.sdl_system.specs.declared.route.Routes.{Routes}
use Rattle.sdl_system.specs.declared.route.Source.TheVariants as from
use Rattle.build_routes.specs.Laws.{IsCarried}
use Rattle.build_routes.specs.Paths.{Carries, Goes, IsSender, IsSource, Path, StandsIn, Way}
use Rattle.build_routes.specs.Table.{AreRoutes}
use Rattle.build_routes.specs.declared.network.joined.End as end
use Rattle.build_routes.specs.declared.network.joined.End.TheVariants as at
use Rattle.build_routes.specs.declared.network.joined.Network.{Network}
use Rattle.build_routes.specs.declared.network.joined.Process.{Process}
use Rattle.build_routes.specs.declared.network.joined.Scope as scope
use Rattle.build_routes.specs.declared.network.joined.Scope.TheVariants as its
use Rattle.build_routes.specs.declared.network.joined.Source.{Source}

-- where a signal may be that went by implied channels alone: not back at its source, nor at the block that it came from, nor
-- at the border over which it came into another block
data Apart (source : Source) (scope : scope.Scope) (to : end.End) : Type 0 where
  at_home : scope ≡ source.scope → to ≢ source.end → Apart source scope to
  beside : (block : BlockId) → source.scope ≡ its.Block block → scope ≡ its.System → to ≢ at.Block block → Apart source scope to
  within : (block : BlockId) → scope ≡ its.Block block → scope ≢ source.scope → to ≢ at.Env → Apart source scope to

record IsApart (network : Network) (source : Source) (scope : scope.Scope) (to : end.End) : Type 0 where
  apart : Apart source scope to
  stands : StandsIn network scope to

-- what a way tells
step : (network : Network) (signal : SignalId) {scope : scope.Scope} {way : Way} {from to : end.End} → Carries network signal scope way from to
    → IsCarried network signal ⊎ ((from ≢ to) × StandsIn network scope to)
step network signal (Carries.channel n path stands carries) = inl (record { number = n; path = path; stands = stands; carries = carries })
step network signal (Carries.implied scope from to implied begins ends other accepts) = inr (other, ends)

into : (source : Source) (block : BlockId) (to : end.End) → at.Env ≢ to → Apart source its.System (at.Block block) → Apart source (its.Block block) to
into source block to other (Apart.at_home same away) =
    Apart.within block refl (λ e. let no : its.Block block ≡ its.System = e ∙ sym same in cc) (λ e. other (sym e))
into source block to other (Apart.beside own inside system away) =
    Apart.within block refl (λ e. away (let same : its.Block block ≡ its.Block own = e ∙ inside in cc)) (λ e. other (sym e))
into source block to other (Apart.within own same away border) = absurd (cc same)

out : (source : Source) (block : BlockId) (to : end.End) → at.Block block ≢ to → Apart source (its.Block block) at.Env → Apart source its.System to
out source block to other (Apart.at_home same away) = Apart.beside block (sym same) refl (λ e. other (sym e))
out source block to other (Apart.beside own inside system away) = absurd (cc system)
out source block to other (Apart.within own same away border) = absurd (border refl)

went : (network : Network) (signal : SignalId) (source : Source) {scope : scope.Scope} {way : Way} {to : end.End} → Goes network signal source scope way to
    → IsCarried network signal ⊎ IsApart network source scope to
went network signal source (Goes.leaves {way} {to} carries) = elim (step network signal carries) [
  | inl is ↦ inl is
  | inr other ↦ inr (record { apart = Apart.at_home refl (λ e. other.0 (sym e)); stands = other.1 })
]
went network signal source (Goes.goes_in {block} {inner} {to} outer goes carries joined) = elim (went network signal source goes) [
  | inl is ↦ inl is
  | inr before ↦ elim (step network signal carries) [
    | inl is ↦ inl is
    | inr other ↦ inr (record { apart = into source block to other.0 before.apart; stands = other.1 })
  ]
]
went network signal source (Goes.goes_out {outer} {to} block inner goes carries joined) = elim (went network signal source goes) [
  | inl is ↦ inl is
  | inr before ↦ elim (step network signal carries) [
    | inl is ↦ inl is
    | inr other ↦ inr (record { apart = out source block to other.0 before.apart; stands = other.1 })
  ]
]

-- a process stands in one scope
one_scope : (network : Network) (process : ProcessId) (a b : scope.Scope) → StandsIn network a (at.Process process) → StandsIn network b (at.Process process) → a ≡ b
one_scope network process a b left right =
    let same : left.0 ≡ right.0 = same_Some left.0 right.0 (sym left.1 ∙ right.1) in
    sym left.2 ∙ ap (λ x. x.scope) same ∙ right.2

back_at : (network : Network) (source : Source) (scope : scope.Scope) (process : ProcessId) → source.end ≡ at.Process process → StandsIn network source.scope (at.Process process)
    → IsApart network source scope (at.Process process) → Apart source scope (at.Process process) → ⊥
back_at network source scope process is home there (Apart.at_home same away) = away (sym is)
back_at network source scope process is home there (Apart.beside block inside system away) =
    let e : scope ≡ source.scope = one_scope network process scope source.scope there.stands home in
    let no : its.System ≡ its.Block block = sym system ∙ e ∙ inside in cc
back_at network source scope process is home there (Apart.within block same away border) =
    away (one_scope network process scope source.scope there.stands home)

back_outside : (source : Source) → source.end ≡ at.Env → source.scope ≡ its.System → Apart source its.System at.Env → ⊥
back_outside source is system (Apart.at_home same away) = away (sym is)
back_outside source is system (Apart.beside block inside same away) = let no : its.Block block ≡ its.System = sym inside ∙ system in cc
back_outside source is system (Apart.within block same away border) = border refl

sender_outside : (network : Network) (source : Source) → source.end ≡ at.Env → IsSource network source → source.scope ≡ its.System
sender_outside network source is sender = subst (λ e. IsSender network source.scope e) is sender

sender_home : (network : Network) (source : Source) (process : ProcessId) → source.end ≡ at.Process process → IsSource network source
    → StandsIn network source.scope (at.Process process)
sender_home network source process is sender = subst (λ e. IsSender network source.scope e) is sender

returns_at : (network : Network) (signal : SignalId) (source : Source) (end : end.End) → source.end ≡ end → IsSource network source → Path network signal source end
    → IsCarried network signal
returns_at network signal source at.Env is sender path = elim (went network signal source path.1) [
  | inl carried ↦ carried
  | inr apart ↦ absurd (back_outside source is (sender_outside network source is sender) apart.apart)
]
returns_at network signal source (at.Process p) is sender path = elim (went network signal source path.2) [
  | inl carried ↦ carried
  | inr apart ↦ absurd (back_at network source path.0 p is (sender_home network source p is sender) apart apart.apart)
]
returns_at network signal source (at.Block block) is sender path = absurd path

pub returns : (network : Network) (signal : SignalId) (source : Source) → IsSource network source → Path network signal source source.end → IsCarried network signal
returns network signal source sender path = returns_at network signal source source.end refl sender path

pub none_receives : (network : Network) (routes : Routes) (signal : SignalId) (process : ProcessId) (is : Process) → AreRoutes network routes
    → slice_get network.processes.items process.0 ≡ Some is → signal.0 < network.signals → (IsCarried network signal → ⊥)
    → Contains (receivers routes (from.Process process) signal) process → ⊥
none_receives network routes signal process is are here below none has =
    let source : Source = record { end = at.Process process; scope = is.scope } in
    let list = are.processes (from.Process process) source signal (is, here, refl) below in
    none (returns network signal source (is, here, refl) ((list.reached process).0 has).1)
