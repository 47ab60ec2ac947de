-- What the environment has heard of its script, and what it has put (Z.101: environment; Z.102: input).
use Rattle.std.specs.Prelude.{◌≡◌, ◌<◌, ℕ, List, [], ◌∷◌, ◌++◌, IfSome, Option, None, Some, map, slice_get, take}
use Rattle.port_model.specs.declared.values.pid.Pid.TheVariants.{Env}
use Rattle.sdl_script.specs.declared.script.ScriptLine.{ScriptLine}
use Rattle.sdl_script.specs.declared.script.ScriptSignal.{ScriptSignal}
use Rattle.sdl_system.specs.Route.{target_in}
use Rattle.sdl_system.specs.System.{SystemValue}
use Rattle.sdl_system.specs.declared.route.Source.TheVariants as source
use Rattle.sdl_system.specs.declared.route.Target.{Target}
use Rattle.settle_meaning.specs.Puts.{Heard, heard_by, signals_heard, signals_of}
use Rattle.threads_shared.specs.Sending.{ArePutAlike, IsSent}
use Rattle.threads_ports.specs.Peers.{ArePeers, PeersState}

-- What a caller sees of the environment: the lines of the script, how many of them are heard, where the signal of each
-- of these went, and the senders.
pub record EnvironmentState : Type 0 where
  pub lines : List ScriptLine
  pub line : ℕ
  pub targets : List Target
  pub peers : PeersState

-- the signal of the line, if it has one, is of the environment
abbrev pub IsOfEnv : ScriptLine → Type 0
IsOfEnv line = IfSome line.signal (λ (signal : ScriptSignal). signal.item.sender ≡ Env)

-- the next line, if there is one, is for later than this time
abbrev pub IsNextAfter : ℕ → EnvironmentState → Type 0
IsNextAfter time e = IfSome (slice_get e.lines e.line) (λ (line : ScriptLine). time < line.at)

-- ---- what was heard

-- So many lines are heard. Each of their signals went to one of these targets, in their order, and what was put into
-- each port is the end of what went to its instance, and all of it is of the environment.
pub record IsHeardBy (lines : List ScriptLine) (line : ℕ) (targets : List Target) (peers : PeersState) : Type 0 where
  pub heard : List Heard
  pub signals : signals_heard heard ≡ signals_of (take line lines)
  pub targets_are : map (λ (one : Heard). one.target) heard ≡ targets
  pub put : ArePeers Env (heard_by heard) peers

-- ---- one line more

-- the signal went where the routes of the system lead it, by some that live
abbrev pub IsRouted : SystemValue → ScriptSignal → Target → Type 0
IsRouted system signal target =
    (least : List (Option ℕ)) × (target ≡ target_in system.routes signal.item.name source.Env signal.to least)

-- A signal is heard: its target is the last of the targets now, and the signal is put there, or gone.
pub record HearsSignal (system : SystemValue) (signal : ScriptSignal) (woken : Option ℕ) (before after : List Target)
    (old new : PeersState) : Type 0 where
  pub target : Target
  pub routed : IsRouted system signal target
  pub noted : after ≡ before ++ target ∷ []
  pub sent : IsSent target signal.item woken old new

-- A line without a signal is heard: nothing is put, and nobody is woken.
pub record HearsNone (woken : Option ℕ) (before after : List Target) (old new : PeersState) : Type 0 where
  pub nobody : woken ≡ None
  pub noted : after ≡ before
  pub same : ArePutAlike old new

abbrev pub HearsLine : SystemValue → Option ScriptSignal → Option ℕ → List Target → List Target → PeersState → PeersState
    → Type 0
HearsLine system None woken before after old new = HearsNone woken before after old new
HearsLine system (Some signal) woken before after old new = HearsSignal system signal woken before after old new

-- the next line is heard
abbrev pub HearsNext : SystemValue → Option ℕ → EnvironmentState → EnvironmentState → Type 0
HearsNext system woken old new =
    IfSome (slice_get old.lines old.line)
    (λ (line : ScriptLine). HearsLine system line.signal woken old.targets new.targets old.peers new.peers)

-- nothing is heard, and nothing was put
pub record HearsNothing (old new : EnvironmentState) : Type 0 where
  pub line : new.line ≡ old.line
  pub targets : new.targets ≡ old.targets
  pub same : ArePutAlike old.peers new.peers
