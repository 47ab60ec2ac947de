use Rattle.std.proofs.Common.{◌≡◌, ◌∙◌, [], None, sym}
use Rattle.run_record.specs.Packed.{entry_at}
use Rattle.run_record.proofs.ReadLemmas.{count-within, counted-left, told-time}
use Rattle.run_record.proofs.reader.ReaderIterator.next.Goals as goal

pub split_at-requires : goal.split_at-requires
split_at-requires c =
    let r = c.loop-first.self-inside in
    count-within r.time r.entries.now c.in-Some.rest.now c.in-Some.first.now r.values.now [] [] c.count.result r.time
    c.in-Some.ensures.cases.0 c.count.ensures c.loop-first.invariant.1

pub loop-first-preserved : goal.loop-first-preserved
loop-first-preserved c =
    let r = c.loop-first.self-inside in
    let first = c.in-Some.first.now in
    let rest = c.in-Some.rest.now in
    let is = c.in-Some.ensures.cases.0 in
    let own = c.split_at.result.0.now in
    let more = c.split_at.result.1.now in
    let none : entry_at r.time first ≡ None = sym c.entry_at-found.ensures ∙ c.in_default-found.is in (
      told-time r.time r.entries.now rest first r.values.now own more c.count.result c.time_after-self-inside.result is
          c.count.ensures c.split_at.ensures.front c.split_at.ensures.back c.time_after-self-inside.ensures none
          ∙ c.loop-first.invariant.0,
      counted-left r.time r.entries.now rest first r.values.now own more c.count.result c.time_after-self-inside.result is
          c.count.ensures c.loop-first.invariant.1 c.split_at.ensures.back,
    )
