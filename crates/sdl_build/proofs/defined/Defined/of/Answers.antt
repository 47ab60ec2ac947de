use Rattle.std.proofs.Common.{◌∙◌, ap, map}
use Rattle.sdl_build.specs.Built.{named_processes, own_from}
use Rattle.sdl_build.specs.Signals.{signals_from}
use Rattle.build_definitions.specs.Seen.{process_seen, signal_seen}
use Rattle.build_definitions.specs.Definitions.{rows_of}
use Rattle.build_names.specs.Names.{first_of}
use Rattle.sdl_build.proofs.defined.Defined.of.Goals as goal

pub returns-clause-signals : goal.returns-clause-signals
returns-clause-signals c =
    c.in_ok-signals.ensures ∙ ap (λ entries. signals_from (map signal_seen entries) c.deref-2.result.now)
    c.deref.ensures.value
    ∙ ap (signals_from (rows_of c.args.definitions.now).signals) c.deref-2.ensures.value

pub returns-clause-own_signals : goal.returns-clause-own_signals
returns-clause-own_signals c = λ text.
    c.in_ok-own_signals.ensures text
    ∙ ap (λ entries. first_of (own_from 0 (map signal_seen entries)) text) c.deref-3.ensures.value

pub returns-clause-process_names : goal.returns-clause-process_names
returns-clause-process_names c = λ text.
    c.in_ok-process_names.ensures text
    ∙ ap (λ entries. first_of (named_processes 0 (map process_seen entries)) text) c.deref-4.ensures.value
