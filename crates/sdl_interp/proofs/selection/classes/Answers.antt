use Rattle.std.proofs.Common.{◌≡◌, ◌∙◌, ◌<◌, ℕ, Bool, Some, arith, length, refl, rules, slice_get, subst, sym}
use Rattle.std.proofs.lemmas.List.{length_push}
use Rattle.std.proofs.lemmas.Option.{slice_get_read}
use Rattle.std.proofs.lemmas.Slice.Zip.{zip_end, zip_turn}
use Rattle.std.specs.Iterator.Adapters.{zip_first, zip_second}
use Rattle.std.specs.Slice.Iter.{iter_rest}
use Rattle.sdl_interp.proofs.SelectionLemmas.{open_more, shut_made, shut_more}
use Rattle.sdl_interp.proofs.selection.classes.Goals as goal

pub loop-enabling-preserved-then-not-truth : goal.loop-enabling-preserved-then-not-truth
loop-enabling-preserved-then-not-truth c =
    let conditions = c.args.table.now.conditions.items in
    let truths = c.args.truths.now in
    let start = c.into_iter-enabling-iterator.result in
    let first : iter_rest (zip_first start) ≡ conditions = search rules in
    let second : iter_rest (zip_second start) ≡ truths = search rules in
    let yielded = c.loop-enabling.yielded in
    let turn = zip_turn conditions truths yielded start c.loop-enabling.enabling-iterator c.next.new.self c.next.result
    first second c.loop-enabling.yielded_by (c.in-Some.enabling, c.in-Some.truth) c.in-Some.is c.next.ensures.steps in
    rw (length_push yielded (c.in-Some.enabling, c.in-Some.truth))
    (shut_more c.args.process.now c.args.table.now truths c.loop-number.classes.items c.loop-enabling.classes.items
    c.shut.new.classes.items (length yielded) c.in-Some.enabling.now
    (slice_get_read conditions (length conditions) (length yielded) c.in-Some.enabling.now refl turn.0
    (turn.2 c.in-Some.enabling.now))
    (subst (λ (b : Bool). slice_get truths (length yielded) ≡ Some b) c.if-not-truth.true
    (slice_get_read truths (length truths) (length yielded) c.in-Some.truth.now refl turn.1
    (turn.3 c.in-Some.truth.now)))
    c.loop-enabling.invariant
    (record { size = c.shut.ensures.length; saved = c.shut.ensures.saved; kept = c.shut.ensures.kept }))

pub loop-enabling-preserved : goal.loop-enabling-preserved
loop-enabling-preserved c =
    let conditions = c.args.table.now.conditions.items in
    let truths = c.args.truths.now in
    let start = c.into_iter-enabling-iterator.result in
    let first : iter_rest (zip_first start) ≡ conditions = search rules in
    let second : iter_rest (zip_second start) ≡ truths = search rules in
    let yielded = c.loop-enabling.yielded in
    let turn = zip_turn conditions truths yielded start c.loop-enabling.enabling-iterator c.next.new.self c.next.result
    first second c.loop-enabling.yielded_by (c.in-Some.enabling, c.in-Some.truth) c.in-Some.is c.next.ensures.steps in
    rw (length_push yielded (c.in-Some.enabling, c.in-Some.truth))
    (open_more c.args.process.now c.args.table.now truths c.loop-number.classes.items c.loop-enabling.classes.items
    (length yielded)
    (subst (λ (b : Bool). slice_get truths (length yielded) ≡ Some b) c.if-not-truth.false
    (slice_get_read truths (length truths) (length yielded) c.in-Some.truth.now refl turn.1
    (turn.3 c.in-Some.truth.now)))
    c.loop-enabling.invariant)

pub returns-clause-ok : goal.returns-clause-ok
returns-clause-ok c =
    let conditions = c.args.table.now.conditions.items in
    let truths = c.args.truths.now in
    let start = c.into_iter-enabling-iterator.result in
    let first : iter_rest (zip_first start) ≡ conditions = search rules in
    let second : iter_rest (zip_second start) ≡ truths = search rules in
    let yielded = c.loop-enabling.yielded in
    let counted : c.loop-number.number ≡ c.args.count = omega arith in
    shut_made c.args.process.now c.args.table.now truths c.loop-number.classes.items c.loop-enabling.classes.items
    c.args.count (length yielded) (c.loop-number.invariant.size ∙ counted)
    (λ k within. c.loop-number.invariant.same k (subst (λ (n : ℕ). k < n) (sym counted) within))
    (zip_end conditions truths yielded start c.loop-enabling.enabling-iterator c.next.new.self c.next.result first
    second c.loop-enabling.yielded_by c.in-None.is c.next.ensures.steps)
    c.loop-enabling.invariant
