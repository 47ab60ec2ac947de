use Rattle.std.proofs.Common.{◌≡◌, ◌∙◌, ap, arith, length, subst}
use Rattle.run_record.specs.Packed.{counted, told}
use Rattle.run_record.specs.Record.{RecordValue}
use Rattle.run_record.proofs.record.Record.reader.Goals as goal

pub new-requires : goal.new-requires
new-requires c =
    let entries = ap counted c.as_slice-entries.ensures.value in
    let values = ap length c.as_slice-values.ensures.value in
    let counts = c.self.invariant.counts in
    omega (arith, entries, values, counts)

pub returns-clause-events : goal.returns-clause-events
returns-clause-events c =
    subst (λ (r : RecordValue). c.new.result ≡ r.events) c.self.view_is
    (c.new.ensures ∙ ap (λ l. told 0 l c.as_slice-values.result.now) c.as_slice-entries.ensures.value
    ∙ ap (told 0 c.self.inside.entries.items) c.as_slice-values.ensures.value)

pub returns-clause-bound : goal.returns-clause-bound
returns-clause-bound c =
    let read : c.new.result ≡ told 0 c.self.inside.entries.items c.self.inside.values.items =
    c.new.ensures ∙ ap (λ l. told 0 l c.as_slice-values.result.now) c.as_slice-entries.ensures.value
    ∙ ap (told 0 c.self.inside.entries.items) c.as_slice-values.ensures.value in
    let many = ap length read in
    let len = c.self.invariant.len_is in
    omega (arith, many, len)
