-- What is told, its timeline says.
use Rattle.std.proofs.Common.{ℕ, List, [], None, Option, Some, subst, sym}
use Rattle.std.specs.Prelude.{IfNone, IfSome, MatchOption}
use Rattle.view_timeline.proofs.Telling.{tells-none-left}
use Rattle.view_timeline.proofs.Timelines.{fresh-so, held, in-order, is-of, left, once, same, says, stops-after, stops-in}
use Rattle.view_timeline.specs.Hindered.{CantGoOn, IsLeft}
use Rattle.view_timeline.specs.Events.{Closes, IsAllTold, TellsBefore, TellsIn, done_of}
use Rattle.view_timeline.specs.Parts.{IsInOrderOf, IsTimeline}
use Rattle.view_timeline.proofs.MoveLemmas.{up_to-none}
use Rattle.view_timeline.specs.Did.{Did}
use Rattle.view_timeline.proofs.told_order.timeline_in.Goals as goal

pub returns-in-Some-clause-untold : goal.returns-in-Some-clause-untold
returns-in-Some-clause-untold c =
    let records = c.args.report.now.records.items in
    let tellers = c.args.tellers.now in
    let number = c.in-Some.number in
    let events = c.tell_all.new.events in
    let started = c.in_ok-events.ensures in
    let made =
    fresh-so records c.deref.result.now c.in_ok-events.events c.deref.ensures.value started.keeps started.latest
    started.nothing in
    let keeps = c.in_ok-stopped.ensures.keeps records made.keeps in
    let upto = (c.in_ok-stopped.ensures.latest records made.keeps made.latest).up_to in
    let told = c.into_timeline-told.result in
    let is = is-of events told c.into_timeline-told.ensures in
    let before : TellsBefore number tellers (done_of records c.in_ok-events.events) (done_of records events) =
    subst (λ (o : Option ℕ). MatchOption o
    (TellsIn tellers (done_of records c.in_ok-events.events) (done_of records events))
    (λ number. TellsBefore number tellers (done_of records c.in_ok-events.events) (done_of records events)))
    c.in-Some.is (c.in_ok-stopped.ensures.told records made.keeps) in
    record {
      says = says records events told (Some events.latest) keeps upto is;
      stops = stops-in records tellers told number
          (subst (λ (ds : List Did). TellsBefore number tellers [] ds)
          (sym (same records events told (Some events.latest) keeps upto is))
          (subst (λ (ds : List Did). TellsBefore number tellers ds (done_of records events)) made.nothing before))
          (held records events told (Some events.latest) keeps upto is number
          (subst (λ (o : Option ℕ). IfSome o (CantGoOn records events.moves.items events.traffic.links.items))
          c.in-Some.is (c.in_ok-stopped.ensures.held records made.keeps made.latest)));
    }

-- ---- all that is in the order is told

pub returns-in-None : goal.returns-in-None
returns-in-None c =
    let records = c.args.report.now.records.items in
    let tellers = c.args.tellers.now in
    let start = c.in_ok-events.events in
    let at = c.tell_all.new.events in
    let events = c.close_all.new.events in
    let started = c.in_ok-events.ensures in
    let made =
    fresh-so records c.deref.result.now c.in_ok-events.events c.deref.ensures.value started.keeps started.latest
    started.nothing in
    let told = c.into_timeline-told-2.result in
    let is = is-of events told c.into_timeline-told-2.ensures in
    let kept = c.in_ok-stopped.ensures.keeps records made.keeps in
    let keeps = c.in_ok-left.ensures.keeps records kept in
    let upto =
    c.in_ok-left.ensures.up_to records kept (up_to-none (Some at.latest) (done_of records at)
    (c.in_ok-stopped.ensures.latest records made.keeps made.latest).up_to) in
    let all : IsAllTold events =
    subst (λ (o : Option ℕ). IfNone o (IsAllTold events)) c.in-None.is (c.in_ok-left.ensures.all records kept) in
    let tells : TellsIn tellers (done_of records start) (done_of records at) =
    tells-none-left c.in_ok-stopped.stopped (TellsIn tellers (done_of records start) (done_of records at))
    (λ number. TellsBefore number tellers (done_of records start) (done_of records at)) c.in_default.not-Some
    (c.in_ok-stopped.ensures.told records made.keeps) in
    let it : IsTimeline records told = says records events told None keeps upto is in
    record {
      each_once = once records events told None keeps upto is all;
      longest = it.longest;
      order = in-order records tellers (done_of records at) told
          (subst (λ (ds : List Did). TellsIn tellers ds (done_of records at)) made.nothing tells)
          (subst (λ (ds : List Did). Closes (done_of records at) ds)
          (sym (same records events told None keeps upto is)) (c.in_ok-left.ensures.closes records kept));
      forward = it.forward;
      arrows = it.arrows;
      all_takes = it.all_takes;
      in_order = it.in_order;
      waiting = it.waiting;
      looked_up = it.looked_up;
      else_unlinked = it.else_unlinked;
      living = it.living;
      untold = tt;
    }

-- ---- something is left of a record

pub returns-in-Some-left-clause-untold : goal.returns-in-Some-left-clause-untold
returns-in-Some-left-clause-untold c =
    let records = c.args.report.now.records.items in
    let tellers = c.args.tellers.now in
    let start = c.in_ok-events.events in
    let at = c.tell_all.new.events in
    let events = c.close_all.new.events in
    let started = c.in_ok-events.ensures in
    let made =
    fresh-so records c.deref.result.now c.in_ok-events.events c.deref.ensures.value started.keeps started.latest
    started.nothing in
    let told = c.into_timeline-told-2.result in
    let number = c.in-Some-left.number in
    let is = is-of events told c.into_timeline-told-2.ensures in
    let kept = c.in_ok-stopped.ensures.keeps records made.keeps in
    let keeps = c.in_ok-left.ensures.keeps records kept in
    let upto =
    c.in_ok-left.ensures.up_to records kept (up_to-none (Some at.latest) (done_of records at)
    (c.in_ok-stopped.ensures.latest records made.keeps made.latest).up_to) in
    let has : IsLeft records events.moves.items number =
    subst (λ (o : Option ℕ). IfSome o (IsLeft records events.moves.items)) c.in-Some-left.is
    (c.in_ok-left.ensures.left records kept) in
    let tells : TellsIn tellers (done_of records start) (done_of records at) =
    tells-none-left c.in_ok-stopped.stopped (TellsIn tellers (done_of records start) (done_of records at))
    (λ number. TellsBefore number tellers (done_of records start) (done_of records at)) c.in_default.not-Some
    (c.in_ok-stopped.ensures.told records made.keeps) in
    let order : IsInOrderOf records tellers told =
    in-order records tellers (done_of records at) told
    (subst (λ (ds : List Did). TellsIn tellers ds (done_of records at)) made.nothing tells)
    (subst (λ (ds : List Did). Closes (done_of records at) ds)
    (sym (same records events told None keeps upto is)) (c.in_ok-left.ensures.closes records kept)) in
    record {
      says = says records events told None keeps upto is;
      stops = stops-after records tellers told number order
          (left records events told None keeps upto is number has);
    }
