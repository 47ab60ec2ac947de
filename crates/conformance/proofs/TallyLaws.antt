-- The tally of cases that are judged one after the other.
use Rattle.std.proofs.Common.{◌≡◌, ℕ, ◌+◌, ◌<◌, List, [], ◌∷◌, ◌++◌, take, length, get_or, subst, sym, ap, ◌∙◌, refl, arith}
use Rattle.std.proofs.lemmas.List.{take_more}
use Rattle.conformance.specs.Judgement.{Upholds}
use Rattle.conformance.specs.Tally.{AddsUp, IsTally, one_more, counted}
use Rattle.conformance.specs.declared.case.Case.{Case}
use Rattle.conformance.specs.declared.judge.Verdict.{Verdict}
use Rattle.conformance.specs.declared.judge.Verdict.TheVariants.{AsWanted, Differs}
use Rattle.conformance.specs.declared.tally.Counts.{Counts}

cases-counted : (counts : Counts) (how : Verdict) → (counted counts how).cases ≡ counts.cases + 1
cases-counted counts AsWanted = refl
cases-counted counts (Differs how) = refl

-- one case more is counted
pub number_more : (old new : Counts) (how : Verdict) (n : ℕ) → new ≡ counted old how → old.cases ≡ n → new.cases ≡ n + 1
number_more old new how n is number =
    let here : new.cases ≡ (counted old how).cases = ap (λ c. c.cases) is in
    let more : old.cases + 1 ≡ n + 1 = ap (λ k. k + 1) number in
    here ∙ cases-counted old how ∙ more

pub adds_up_more : (counts : Counts) (how : Verdict) → AddsUp counts → AddsUp (counted counts how)
adds_up_more counts AsWanted sums = omega arith
adds_up_more counts (Differs how) sums = omega arith

pub tally_more : (cases : List Case) (i : ℕ) (counts : Counts) (case : Case) (how : Verdict) → i < length cases → case ≡ get_or cases i case → IsTally (take i cases) counts → Upholds case how → IsTally (take (i + 1) cases) (counted counts how)
tally_more cases i counts case how below is tally upholds =
    subst (λ cs. IsTally cs (counted counts how)) (sym (take_more cases i case below ∙ ap (λ x. take i cases ++ x ∷ []) (sym is))) (one_more case how tally upholds)
