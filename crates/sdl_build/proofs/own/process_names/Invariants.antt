use Rattle.std.proofs.Common.{◌≡◌, ℕ, List, drop, map}
use Rattle.std.specs.Option.{option_or}
use Rattle.sdl_build.specs.Built.{named_processes}
use Rattle.build_definitions.specs.Seen.{process_seen}
use Rattle.build_names.specs.Names.{first_of}
use Rattle.sdl_system.specs.System.{meaning_of, named}
use Rattle.sdl_build.proofs.own.process_names.Given as goal

abbrev pub invariant-loop-entry : goal.invariant-loop-entry
invariant-loop-entry l = (text : List ℕ) →
    option_or (meaning_of (named l.names) text)
    (first_of (named_processes l.next (map process_seen (drop l.entry-index l.entries))) text)
    ≡ first_of (named_processes 0 (map process_seen l.entries)) text
