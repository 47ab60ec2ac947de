use Rattle.std.proofs.Common.{◌≡◌, ◌-◌, ◌∷◌, ◌++◌, [], List, ◌∙◌, ap, arith, length, subst, sym, take, true}
use Rattle.run_record.specs.Entry.{event_of}
use Rattle.run_record.specs.Event.{Event}
use Rattle.run_record.specs.Packed.{count_of, counted, ends_in_event, is_event, time_in, told}
use Rattle.run_record.specs.Record.{RecordValue}
use Rattle.run_record.proofs.ReadLemmas.{entry-there, last-event, last-within, told-last}
use Rattle.run_record.proofs.record.Record.last.Goals as goal

pub overflow_sub-place : goal.overflow_sub-place
overflow_sub-place c =
    let entries = c.as_slice-entries.result.now in
    let values = c.as_slice-values.result.now in
    let counts : counted entries ≡ length values =
    ap counted c.as_slice-entries.ensures.value ∙ c.self.invariant.counts
    ∙ sym (ap length c.as_slice-values.ensures.value) in
    let within = last-within entries _ c.in_ok-last.last.now values c.in_ok-last.ensures.cases.0 counts in
    omega (arith, within, c.count.ensures)

pub returns-in_err-entry : goal.returns-in_err-entry
returns-in_err-entry c =
    let last = c.in_ok-last.last.now in
    let event : is_event last ≡ true =
    last-event c.as_slice-entries.result.now _ last c.in_ok-last.ensures.cases.0
    (ap ends_in_event c.as_slice-entries.ensures.value ∙ c.self.invariant.ends) in
    absurd (entry-there c.self.inside.time last event (sym c.in_err-entry.ensures))

pub returns : goal.returns
returns c =
    let entries = c.as_slice-entries.result.now in
    let values = c.as_slice-values.result.now in
    let last = c.in_ok-last.last.now in
    let kept = c.self.inside in
    let is = c.in_ok-last.ensures.cases.0 in
    let counts : counted entries ≡ length values =
    ap counted c.as_slice-entries.ensures.value ∙ c.self.invariant.counts
    ∙ sym (ap length c.as_slice-values.ensures.value) in
    let event : is_event last ≡ true =
    last-event entries _ last is (ap ends_in_event c.as_slice-entries.ensures.value ∙ c.self.invariant.ends) in
    let moves : time_in 0 entries ≡ kept.time =
    ap (time_in 0) c.as_slice-entries.ensures.value ∙ c.self.invariant.time_is in
    let place = length values - c.count.result in
    let place_is : place ≡ length values - count_of last = omega (arith, c.count.ensures) in
    let same : told 0 kept.entries.items kept.values.items ≡ told 0 entries values =
    ap (λ l. told 0 l kept.values.items) (sym c.as_slice-entries.ensures.value)
    ∙ ap (told 0 entries) (sym c.as_slice-values.ensures.value) in
    subst
    (λ (r : RecordValue). (before : List Event)
    × (r.events ≡ before ++ event_of c.in_ok-entry.entry c.split_at.result.1.now ∷ []))
    c.self.view_is (
      told 0 c.in_ok-last.field-0-1.now (take place values),
      same ∙ told-last entries _ last values is counts kept.time place c.in_ok-entry.entry c.split_at.result.1.now
          place_is moves event c.split_at.ensures.back (sym c.in_ok-entry.ensures),
    )
