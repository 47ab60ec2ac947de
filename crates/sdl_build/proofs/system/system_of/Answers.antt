use Rattle.std.proofs.Common.{◌∙◌, ap, map}
use Rattle.sdl_build.specs.Signals.{signal_of}
use Rattle.sdl_system.specs.System.{meaning_of}
use Rattle.sdl_build.proofs.system.system_of.Goals as goal

pub returns : goal.returns
returns c = record {
  signals = ap (map signal_of) c.new.ensures.signals ∙ c.in_ok-defined.ensures.signals;
  processes_are = c.new.ensures.processes;
  routes_are = c.new.ensures.routes;
  own_signals = λ text. ap (λ names. meaning_of names text) c.new.ensures.own_signals
      ∙ c.in_ok-defined.ensures.own_signals text;
  process_names = λ text. ap (λ names. meaning_of names text) c.new.ensures.process_names
      ∙ c.in_ok-defined.ensures.process_names text;
}
