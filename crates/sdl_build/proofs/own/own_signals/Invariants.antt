use Rattle.std.proofs.Common.{◌≡◌, ℕ, List, drop, map}
use Rattle.std.specs.Option.{option_or}
use Rattle.sdl_build.specs.Built.{own_from}
use Rattle.build_definitions.specs.Seen.{signal_seen}
use Rattle.build_names.specs.Names.{first_of}
use Rattle.sdl_system.specs.System.{meaning_of, named}
use Rattle.sdl_build.proofs.own.own_signals.Given as goal

abbrev pub invariant-loop-entry : goal.invariant-loop-entry
invariant-loop-entry l = (text : List ℕ) →
    option_or (meaning_of (named l.names) text)
    (first_of (own_from l.next (map signal_seen (drop l.entry-index l.entries))) text)
    ≡ first_of (own_from 0 (map signal_seen l.entries)) text
