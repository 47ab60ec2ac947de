-- Whom the records create, by their summaries.
use Rattle.std.proofs.Common.{◌≡◌, ◌∙◌, ◌<◌, ◌+◌, ap, append_assoc, append-nil, get_or, length, sym, take, ℕ, List, [], ◌∷◌, ◌++◌}
use Rattle.std.specs.Prelude.{map}
use Rattle.std.specs.List.{flat_map}
use Rattle.std.proofs.lemmas.Grind.{flat_map-append}
use Rattle.std.proofs.lemmas.List.{take_more}
use Rattle.run_record.specs.declared.evaluation.identity.Identity.{Identity}
use Rattle.run_record.specs.Record.{RecordValue}
use Rattle.settle_meaning.specs.Identities.{created_in}
use Rattle.settle_checks.proofs.Zips.{zip_at}
use Rattle.settle_checks.specs.Summary.{AreSummaries, IsSummary, child_of}
use Rattle.settle_checks.specs.declared.summing.summary.Summary.{Summary}

-- the children of a record
pub children_are : (trace : RecordValue) (sum : Summary) → IsSummary trace sum
    → map (child_of trace.pid) sum.creating.births.items ≡ created_in trace
children_are trace sum is = is.creating.children trace.pid

-- the children of one record more
pub record_more : (records : List RecordValue) (sums : List Summary) (k : ℕ) (d : RecordValue) (e : Summary)
    (first made now : List Identity) → AreSummaries records sums → k < length records
    → made ≡ first ++ flat_map created_in (take k records)
    → now ≡ made ++ map (child_of (get_or records k d).pid) (get_or sums k e).creating.births.items
    → now ≡ first ++ flat_map created_in (take (k + 1) records)
record_more records sums k d e first made now are within is added =
    added
    ∙ ap (λ (l : List Identity). l ++ map (child_of (get_or records k d).pid) (get_or sums k e).creating.births.items) is
    ∙ ap (λ (l : List Identity). (first ++ flat_map created_in (take k records)) ++ l)
    (children_are (get_or records k d) (get_or sums k e) (zip_at IsSummary records sums k d e are within))
    ∙ append_assoc first (flat_map created_in (take k records)) (created_in (get_or records k d))
    ∙ ap (λ (l : List Identity). first ++ l)
    (ap (λ (l : List Identity). flat_map created_in (take k records) ++ l) (sym (append-nil (created_in (get_or records k d))))
    ∙ sym (flat_map-append created_in (take k records) (get_or records k d ∷ []))
    ∙ ap (λ (l : List RecordValue). flat_map created_in l) (sym (take_more records k d within)))
