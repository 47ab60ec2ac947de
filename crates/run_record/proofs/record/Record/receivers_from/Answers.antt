use Rattle.std.proofs.Common.{◌≡◌, ◌-◌, ◌∙◌, ap, drop, length, min, rules, subst}
use Rattle.run_record.specs.Event.{receivers}
use Rattle.run_record.specs.Packed.{events_in}
use Rattle.run_record.specs.Record.{RecordValue}
use Rattle.run_record.proofs.ReceiverLemmas.{receivers-from}
use Rattle.run_record.proofs.record.Record.receivers_from.Goals as goal

pub returns : goal.returns
returns c =
    let kept = c.self.inside in
    let back = c.last_entries.result.now in
    let count = c.saturating_sub-count.result in
    let count_is : count ≡ kept.len - c.args.told = search rules in
    subst (λ (r : RecordValue). c.of.result ≡ receivers (drop c.args.told r.events)) c.self.view_is
    (c.of.ensures
    ∙ receivers-from kept.entries.items back kept.values.items kept.len c.args.told count c.self.invariant.counts
    c.self.invariant.len_is count_is
    (c.last_entries.ensures.rest ∙ ap (λ l. drop (length l - length back) l) c.as_slice-entries.ensures.value)
    (c.last_entries.ensures.events ∙ ap (λ l. min count (events_in l)) c.as_slice-entries.ensures.value))
