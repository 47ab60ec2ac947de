use Rattle.std.proofs.Common.{ap, nat_lt, ◌∙◌}
use Rattle.sdl_warnings.proofs.TimesLemmas.{again_on, all_taken, once_on}
use Rattle.sdl_warnings.proofs.unused.repeated.Goals as goal

pub loop-word-preserved : goal.loop-word-preserved
loop-word-preserved c =
    let words = c.args.words.now in
    let index = c.loop-word.word-index in
    let so_far = c.loop-word.invariant in
    record {
      once = λ text. once_on text words index _ c.loop-word-test.true _ _ (so_far.once text)
          (c.in_ok-count_name.ensures.once text);
      again = λ text. again_on text words index _ c.loop-word-test.true _ _ _ (so_far.once text) (so_far.again text)
          (c.in_ok-count_name.ensures.again text);
    }

pub returns : goal.returns
returns c = λ text.
    c.loop-word.invariant.again text
    ∙ ap (nat_lt 1) (all_taken text c.args.words.now c.loop-word.word-index c.loop-word-test.false)
