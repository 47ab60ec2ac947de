use Rattle.std.proofs.Common.{◌∷◌, ◌++◌, ◌∙◌, [], ℕ, ap, arith, map, nat_eq, sym}
use Rattle.indexmap.specs.IndexSet.{contains}
use Rattle.std.proofs.lemmas.List.FromFn.{map-range_with_len_more}
use Rattle.std.specs.List.{range_with_len}
use Rattle.view_text.specs.Sending.{least_of}
use Rattle.view_text.proofs.living.least_living.Goals as goal

pub loop-process-preserved : goal.loop-process-preserved
loop-process-preserved c =
    let f = least_of (λ (number : ℕ). contains nat_eq c.args.numbers.now number) c.args.records.now in
    let n = c.loop-process.process in
    c.in_ok-push.ensures.items ∙ ap (λ l. l ++ c.least_of.result ∷ []) c.loop-process.invariant
    ∙ ap (λ x. map f (range_with_len 0 n) ++ x ∷ []) c.least_of.ensures
    ∙ sym (map-range_with_len_more f 0 n n (omega arith))
