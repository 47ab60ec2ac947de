-- How many instances of a process live on.
use Rattle.std.proofs.Common.{◌≡◌, ◌∙◌, ◌<◌, ◌+◌, ap, cond, get_or, length, sym, take, ℕ, Bool, List, count_by}
use Rattle.std.proofs.lemmas.List.Sums.{sum_by_more}
use Rattle.run_record.specs.Record.{RecordValue}
use Rattle.settle_meaning.specs.Starts.{lives_on}

-- one record more is counted, or not
pub living_more : (number : ℕ) (records : List RecordValue) (k count next : ℕ) (d : RecordValue) (lives : Bool)
    → k < length records → lives ≡ lives_on number (get_or records k d) → next ≡ count + cond lives 1 0
    → count ≡ count_by (lives_on number) (take k records)
    → next ≡ count_by (lives_on number) (take (k + 1) records)
living_more number records k count next d lives within is next_is counted =
    next_is
    ∙ ap (λ b. count + cond b 1 0) is
    ∙ ap (λ n. n + cond (lives_on number (get_or records k d)) 1 0) counted
    ∙ sym (sum_by_more (λ (t : RecordValue). cond (lives_on number t) 1 0) records k d within)
