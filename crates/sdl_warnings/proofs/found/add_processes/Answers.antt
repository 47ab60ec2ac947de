use Rattle.std.proofs.Common.{map}
use Rattle.sdl_warnings.specs.Heads.{head_value}
use Rattle.sdl_warnings.proofs.ProcessLemmas.{passed, passed_all}
use Rattle.sdl_warnings.proofs.found.add_processes.Goals as goal

pub loop-from-preserved : goal.loop-from-preserved
loop-from-preserved c =
    passed (map head_value c.args.constants.now) c.args.words.now _ c.loop-from.from c.process_end-end.result
    c.loop-from.found.items c.add_process.new.found.items c.loop-from-test.true c.process_end-end.ensures.end
    c.in_ok-add_process.ensures c.loop-from.invariant

pub returns : goal.returns
returns c =
    passed_all (map head_value c.args.constants.now) c.args.words.now _ c.loop-from.from c.loop-from.found.items
    c.loop-from-test.false c.loop-from.invariant
