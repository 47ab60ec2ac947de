-- One record more is counted, or not.
use Rattle.std.proofs.Common.{◌≡◌, ◌∙◌, ◌<◌, ◌≤◌, ◌+◌, List, ap, arith, cond, count_by, get_or, length, sym}
use Rattle.std.proofs.lemmas.List.{take_all}
use Rattle.run_record.specs.Record.{RecordValue}
use Rattle.settle_meaning.specs.Starts.{lives_on}
use Rattle.settle_checks.proofs.WithinLemmas.{living_more}
use Rattle.settle_checks.proofs.Zips.{zip_long, zip_of}
use Rattle.settle_checks.specs.Summary.{IsSummary}
use Rattle.settle_checks.proofs.summing.living.count_living.Goals as goal
use Rattle.settle_checks.proofs.summing.living.count_living.Goals.{else-lives_on, then-lives_on}

pub lives_on-requires : goal.lives_on-requires
lives_on-requires c =
    let within : c.loop-k.k < length c.args.records.now = omega (arith, c.loop-k-test.true, c.min-k-end.ensures) in
    zip_of IsSummary c.args.records.now c.args.sums.now c.loop-k.k c.index-records-k.result c.index-sums-k.result
    c.requires within c.index-records-k.is c.index-sums-k.is

pub loop-k-preserved : goal.loop-k-preserved
loop-k-preserved c =
    let number = c.args.number in
    let records = c.args.records.now in
    let k = c.loop-k.k in
    let count = c.loop-k.count in
    let d : RecordValue = c.index-records-k.result in
    let within : k < length records = omega (arith, c.loop-k-test.true, c.min-k-end.ensures) in
    let lives : c.lives_on.result ≡ lives_on number (get_or records k d) =
    c.lives_on.ensures ∙ ap (λ (t : RecordValue). lives_on number t) c.index-records-k.is in
    let none_more : count ≡ count + 0 = omega arith in
    let next : c.if-lives_on.count ≡ count + cond c.lives_on.result 1 0 =
    elim c.if-lives_on.branch [
      | then-lives_on w ↦ w.count-is ∙ ap (λ b. count + cond b 1 0) (sym w.if-lives_on.true)
      | else-lives_on w ↦ w.count-is ∙ none_more ∙ ap (λ b. count + cond b 1 0) (sym w.if-lives_on.false)
    ] in
    living_more number records k count c.if-lives_on.count d c.lives_on.result within lives next c.loop-k.invariant

pub returns : goal.returns
returns c =
    let records = c.args.records.now in
    let past : length records ≤ c.loop-k.k =
    omega (arith, c.loop-k-test.false, c.min-k-end.ensures, zip_long IsSummary records c.args.sums.now c.requires) in
    c.loop-k.invariant
    ∙ ap (λ (l : List RecordValue). count_by (lives_on c.args.number) l) (take_all c.loop-k.k records past)
