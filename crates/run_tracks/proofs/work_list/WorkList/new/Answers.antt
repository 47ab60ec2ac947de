use Rattle.std.proofs.Common.{◌≡◌, ◌∙◌, ◌+◌, ◌++◌, ◌∷◌, ℕ, [], List, ap, arith, length, sym}
use Rattle.std.specs.List.{range_with_len}
use Rattle.run_tracks.proofs.Queues.{all_queued, range_more}
use Rattle.run_tracks.proofs.work_list.WorkList.new.Goals as goal

pub loop-place-preserved : goal.loop-place-preserved
loop-place-preserved c =
    c.in_ok-push_back.ensures.items
    ∙ ap (λ (ns : List ℕ). ns ++ (c.loop-place.place + 1) ∷ []) c.loop-place.invariant
    ∙ sym (range_more c.loop-place.place)

pub invariant_of-result : goal.invariant_of-result
invariant_of-result c =
    let all : c.loop-place.place ≡ c.args.numbers = omega arith in
    let many : length c.in_ok-queued.queued.items ≡ c.args.numbers = omega (arith, c.in_ok-queued.ensures.len) in
    all_queued c.args.numbers c.in_ok-queued.queued.items c.loop-place.queue.items many
    (c.loop-place.invariant ∙ ap (range_with_len 1) all)
