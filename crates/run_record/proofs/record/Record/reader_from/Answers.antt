use Rattle.std.proofs.Common.{◌≡◌, ◌+◌, ◌-◌, ◌≤◌, ◌∙◌, List, ap, arith, drop, length, min, refl, rules, subst, sym, take}
use Rattle.std.proofs.lemmas.List.{length-drop}
use Rattle.run_record.specs.Packed.{counted, events_in, time_in, told}
use Rattle.run_record.specs.Record.{RecordValue}
use Rattle.run_record.proofs.ReceiverLemmas.{front-counted, front-time, told-from}
use Rattle.run_record.proofs.record.Record.reader_from.Goals as goal

pub overflow_sub-place : goal.overflow_sub-place
overflow_sub-place c =
    let kept = c.self.inside in
    let back = c.last_entries-last.result.now in
    let is : back ≡ drop (length kept.entries.items - length back) kept.entries.items =
    c.last_entries-last.ensures.rest ∙ ap (λ l. drop (length l - length back) l) c.as_slice-entries.ensures.value in
    let all = front-counted kept.entries.items back kept.values.items c.self.invariant.counts is in
    let long = ap length c.as_slice-values.ensures.value in
    omega (arith, all, long, c.in_ok-own.ensures.0)

pub of_one_time-requires : goal.of_one_time-requires
of_one_time-requires c =
    let kept = c.self.inside in
    let values = c.as_slice-values.result.now in
    let back = c.last_entries-last.result.now in
    let is : back ≡ drop (length kept.entries.items - length back) kept.entries.items =
    c.last_entries-last.ensures.rest ∙ ap (λ l. drop (length l - length back) l) c.as_slice-entries.ensures.value in
    let all = front-counted kept.entries.items back kept.values.items c.self.invariant.counts is in
    let long = ap length c.as_slice-values.ensures.value in
    let place = length values - c.in_ok-own.own in
    let later : length c.split_at.result.1.now ≡ length (drop place values) = ap length c.split_at.ensures.back in
    omega (arith, all, long, c.in_ok-own.ensures.0, later, length-drop place values)

pub returns : goal.returns
returns c =
    let kept = c.self.inside in
    let values = c.as_slice-values.result.now in
    let back = c.last_entries-last.result.now in
    let later = c.split_at.result.1.now in
    let front = take (length kept.entries.items - length back) kept.entries.items in
    let count = c.saturating_sub-count.result in
    let count_is : count ≡ kept.len - c.args.told = search rules in
    let is : back ≡ drop (length kept.entries.items - length back) kept.entries.items =
    c.last_entries-last.ensures.rest ∙ ap (λ l. drop (length l - length back) l) c.as_slice-entries.ensures.value in
    let events : events_in back ≡ min count (events_in kept.entries.items) =
    c.last_entries-last.ensures.events ∙ ap (λ l. min count (events_in l)) c.as_slice-entries.ensures.value in
    let all = front-counted kept.entries.items back kept.values.items c.self.invariant.counts is in
    let long = ap length c.as_slice-values.ensures.value in
    let place : length values - c.in_ok-own.own ≡ counted front = omega (arith, all, long, c.in_ok-own.ensures.0) in
    let later_is : later ≡ drop (counted front) kept.values.items =
    c.split_at.ensures.back ∙ ap (λ n. drop n values) place
    ∙ ap (drop (counted front)) c.as_slice-values.ensures.value in
    let time : time_in 0 front ≡ kept.time =
    front-time kept.entries.items back is c.in_ok-own.ensures.1 ∙ c.self.invariant.time_is in
    subst (λ (r : RecordValue). c.of_one_time.result ≡ drop c.args.told r.events) c.self.view_is
    (c.of_one_time.ensures ∙ ap (λ t. told t back later) (sym time) ∙ ap (told (time_in 0 front) back) later_is
    ∙ sym (told-from kept.entries.items back kept.values.items kept.len c.args.told count c.self.invariant.counts
    c.self.invariant.len_is count_is is events))
