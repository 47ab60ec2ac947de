-- One count more.
use Rattle.std.proofs.Common.{◌≡◌, ◌∙◌, ◌<◌, ◌+◌, ap, get_or, length, subst, sym, List}
use Rattle.std.proofs.lemmas.Iterator.Adapters.{YieldsList-from_vec}
use Rattle.std.proofs.lemmas.Iterator.Consumers.{YieldsList-end, YieldsList-turn}
use Rattle.std.proofs.lemmas.List.{length_push}
use Rattle.settle_checks.proofs.GatherLemmas.{AreCountsOfAll, IsCountOfOne, count_more, counts_are}
use Rattle.settle_checks.proofs.AccountLists.{at_push}
use Rattle.settle_checks.specs.Gatherings.{HasGathered}
use Rattle.settle_checks.specs.Gathering.{CountedState, GatheringState}
use Rattle.settle_checks.proofs.account.counting.count_all.Goals as goal

pub count_of-requires : goal.count_of-requires
count_of-requires g c =
    let all = c.args.all.items in
    let started = c.into_iter-gathering-iterator.ensures.into_iter_gives in
    let turn = YieldsList-turn (YieldsList-from_vec all started.0 (started.1 ∙ c.args.all.ok.0))
    c.loop-gathering.yielded c.loop-gathering.gathering-iterator c.loop-gathering.yielded_by c.next.result c.next.new.self
    c.in-Some.gathering c.in-Some.is c.next.ensures.steps in
    subst (λ (it : GatheringState). HasGathered g.K.Fixed.puts c.args.places it) (sym turn.1)
    (c.requires (length c.loop-gathering.yielded) c.in-Some.gathering turn.0)

pub loop-gathering-preserved : goal.loop-gathering-preserved
loop-gathering-preserved g c =
    let all = c.args.all.items in
    let counted = c.loop-gathering.counted.items in
    let one = c.in_ok-count_of.field-0 in
    let inv = c.loop-gathering.invariant in
    let started = c.into_iter-gathering-iterator.ensures.into_iter_gives in
    let turn = YieldsList-turn (YieldsList-from_vec all started.0 (started.1 ∙ c.args.all.ok.0))
    c.loop-gathering.yielded c.loop-gathering.gathering-iterator c.loop-gathering.yielded_by c.next.result c.next.new.self
    c.in-Some.gathering c.in-Some.is c.next.ensures.steps in
    let count : IsCountOfOne c.args.places c.in-Some.gathering one = record {
      at = c.in_ok-count_of.ensures.at;
      number = c.in_ok-count_of.ensures.number;
      places_are = c.in_ok-count_of.ensures.places;
    } in
    record {
      long = ap length c.in_ok-push.ensures.items ∙ length_push counted one ∙ ap (λ n. n + 1) inv.long
          ∙ sym (length_push c.loop-gathering.yielded c.in-Some.gathering);
      each = subst (λ (l : List CountedState). AreCountsOfAll c.args.places all l) (sym c.in_ok-push.ensures.items)
          (at_push
          (λ k (it : CountedState). (gathering : GatheringState) → k < length all → gathering ≡ get_or all k gathering
          → IsCountOfOne c.args.places gathering it)
          counted one inv.each
          (count_more c.args.places all (length counted) (length c.loop-gathering.yielded) c.in-Some.gathering one inv.long
          turn.1 count));
    }

pub returns : goal.returns
returns g c =
    let all = c.args.all.items in
    let started = c.into_iter-gathering-iterator.ensures.into_iter_gives in
    let end = YieldsList-end (YieldsList-from_vec all started.0 (started.1 ∙ c.args.all.ok.0))
    c.loop-gathering.yielded c.loop-gathering.gathering-iterator c.loop-gathering.yielded_by c.next.result c.next.new.self
    c.in-None.is c.next.ensures.steps in
    counts_are c.args.places all c.loop-gathering.counted.items (c.loop-gathering.invariant.long ∙ end.1)
    c.loop-gathering.invariant.each
