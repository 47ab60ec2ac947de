use Rattle.sdl_warnings.proofs.TimesLemmas.{unused_more}
use Rattle.sdl_warnings.proofs.unused.add_unused.Goals as goal

pub loop-defined-preserved : goal.loop-defined-preserved
loop-defined-preserved c =
    unused_more c.args.words.now c.deref-defined-items.result.now _ c.loop-defined.defined-index _
    c.loop-defined.found.items c.add_if_once.new.found.items _ c.loop-defined-test.true (c.in_ok-again.ensures _)
    c.in_ok-add_if_once.ensures c.loop-defined.invariant
