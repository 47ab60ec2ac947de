use Rattle.std.proofs.Common.{◌∙◌, ap}
use Rattle.sdl_system.proofs.NameLemmas.{lookup-named}
use Rattle.sdl_system.specs.System.{SystemValue, meaning_of}
use Rattle.sdl_system.proofs.system.System.signal_of_name.Goals as goal

pub returns : goal.returns
returns c =
    c.copied.ensures ∙ c.get.ensures.value ∙ lookup-named c.self.inside.own_signals.entries c.args.name.now
    ∙ ap (λ (system : SystemValue). meaning_of system.own_signals c.args.name.now) c.self.view_is
