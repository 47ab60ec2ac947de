-- One record more.
use Rattle.std.proofs.Common.{◌≡◌, ◌<◌, ◌+◌, ◌++◌, ◌∷◌, [], ℕ, List, get_or, length, subst, sym, take}
use Rattle.std.proofs.lemmas.List.{take_more}
use Rattle.std.proofs.lemmas.Slice.Zip.{all_zipped_more}
use Rattle.std.specs.List.{AllZip}
use Rattle.view_run.specs.Looked.{HadLooked}
use Rattle.view_run.proofs.replay.looked.looked_before_failures.Goals as goal

-- what is so of the first ones, and of the next, is so of one more
one_more : {A B : Type 0} (R : A → B → Type 0) (xs : List A) (ys more : List B) (i : ℕ) (x : A) (y : B) → i < length xs
    → x ≡ get_or xs i x → AllZip R (take i xs) ys → R x y → more ≡ ys ++ y ∷ [] → AllZip R (take (i + 1) xs) more
one_more R xs ys more i x y inside is all one pushed =
    subst (λ firsts. AllZip R firsts more) (sym (take_more xs i x inside))
    (subst (AllZip R (take i xs ++ get_or xs i x ∷ [])) (sym pushed)
    (all_zipped_more R (take i xs) ys (get_or xs i x) y all (subst (λ z. R z y) is one)))

pub loop-trace-preserved : goal.loop-trace-preserved
loop-trace-preserved c =
    one_more (HadLooked c.args.system.now c.args.records.now) c.args.records.now c.loop-trace.looked.items
    c.push.new.self.items c.loop-trace.trace-index c.trace-item.result c.in_ok-had_looked.field-0
    c.loop-trace-test.true c.trace-item.is c.loop-trace.invariant c.in_ok-had_looked.ensures
    c.in_ok-push.ensures.items
