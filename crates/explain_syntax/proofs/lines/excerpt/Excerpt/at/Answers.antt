-- The line around a place, parted there.
use Rattle.std.proofs.Common.{refl}
use Rattle.explain_syntax.proofs.ExcerptLemmas.{excerpt_of, line_of}
use Rattle.explain_syntax.proofs.lines.excerpt.Excerpt.at.Goals as goal

pub returns-clause-found : goal.returns-clause-found
returns-clause-found c =
    let text = c.args.text.now in
    let offset = c.in_ok-offset.offset in
    let found = c.in_ok-offset.ensures.found in
    let start = c.line_start-start in
    let end = c.line_end-end in
    excerpt_of text c.args.place _ start.result offset end.result found start.ensures.before start.ensures.one
    start.ensures.begins
    (line_of text start.result offset end.result start.ensures.before end.ensures.behind end.ensures.within
    start.ensures.one start.ensures.begins end.ensures.one end.ensures.ends)
    end.ensures.behind refl refl refl
