-- What is told, its timeline says.
use Rattle.std.proofs.Common.{◌≡◌, ℕ, nat_eq, ◌<◌, List, [], ◌∷◌, ◌++◌, length, length-append, map, slice_get, Option, Some, refl, sym, ◌∙◌, ap, subst, arith, append-nil}
use Rattle.std.specs.List.{AllByRecursion}
use Rattle.std.specs.Prelude.{replicate}
use Rattle.indexmap.specs.IndexSet.{contains}
use Rattle.run_record.specs.Record.{RecordValue}
use Rattle.view_timeline.specs.Events.{Closes, IsAllTold, IsTold, Keeps, TellsBefore, TellsIn, done_of, timeline_of}
use Rattle.view_timeline.specs.Parts.{AreLongest, EachOnce, IsInOrderOf, IsTimeline, StopsAt, stops_after, stops_before}
use Rattle.view_timeline.specs.declared.events.Events.{Events}
use Rattle.view_timeline.proofs.Gathering.{each-map}
use Rattle.view_timeline.proofs.Steps.{IsRightNow, waits}
use Rattle.view_timeline.specs.Did.{Did}
use Rattle.view_timeline.specs.Hindered.{CantGoOn, IsLeft}
use Rattle.view_timeline.specs.Linked.{Each, IsBelow, IsDrawn, IsInOrder, taken_on}
use Rattle.view_timeline.specs.Lives.{lives}
use Rattle.view_timeline.specs.Moves.{GoOn, IsLatest, IsPart, IsUpTo, NeverFall, done_by, moves_of, times}
use Rattle.view_timeline.specs.Rows.{Waiting}
use Rattle.view_timeline.specs.Timeline.{IsBegun}
use Rattle.view_timeline.specs.Traffic.{ledger_of}
use Rattle.view_timeline.specs.declared.channel.Channel.{Channel}
use Rattle.view_timeline.specs.declared.moves.Link.{Link}
use Rattle.view_timeline.specs.declared.moves.Link.TheVariants as is
use Rattle.view_timeline.specs.declared.moves.Timeline.{Timeline}

map-waits : (row : List Waiting) → map waits row ≡ replicate (length row) is.Waits
map-waits [] = refl
map-waits (w ∷ row) = ap (λ l. is.Waits ∷ l) (map-waits row)

-- nothing is told so far
pub record IsFresh (records : List RecordValue) (events : Events) : Type 0 where
  pub keeps : Keeps records events
  pub latest : IsLatest events.latest (done_of records events)
  pub nothing : done_of records events ≡ []

pub fresh-so : (records items : List RecordValue) (events : Events) → items ≡ records → Keeps items events
    → IsLatest events.latest (done_of items events) → done_of items events ≡ [] → IsFresh records events
fresh-so records items events same keeps latest nothing =
    subst (λ rs. IsFresh rs events) same (record { keeps = keeps; latest = latest; nothing = nothing })

-- the timeline of all that is told
pub record IsOf (events : Events) (told : Timeline) : Type 0 where
  pub moves : told.moves.items ≡ events.moves.items
  pub links : told.links.items ≡ events.traffic.links.items
  pub arrows : told.arrows ≡ events.traffic.arrows
  pub living : told.living ≡ events.traffic.living

pub is-of : (events : Events) (told : Timeline) → told ≡ timeline_of events → IsOf events told
is-of events told is = record {
  moves = ap (λ (t : Timeline). t.moves.items) is;
  links = ap (λ (t : Timeline). t.links.items) is;
  arrows = ap (λ (t : Timeline). t.arrows) is;
  living = ap (λ (t : Timeline). t.living) is;
}

module _ (records : List RecordValue) (events : Events) (told : Timeline) (time : Option ℕ)
    (keeps : Keeps records events) (upto : IsUpTo time (done_of records events)) (is : IsOf events told) where
  abbrev pub done : List Did
  done = done_by records told.moves.items

  pub same : done ≡ done_of records events
  same = ap (done_by records) is.moves

  right : {P : List Did → Did → Link → Type 0}
      → ((b : List Did) (d : Did) (l : Link) → IsRightNow records b d l → P b d l)
      → Each P [] done told.links.items
  right {P} reads =
      subst (λ ds. Each P [] ds told.links.items) (sym same)
      (subst (Each P [] (done_of records events)) (sym is.links)
      (each-map (IsRightNow records) P reads [] (done_of records events) events.traffic.links.items
      keeps.tells.right))

  orders : (channel : Channel) → IsInOrder done told.links.items channel
  orders channel =
      subst (λ ds. IsInOrder ds told.links.items channel) (sym same)
      (subst (λ ls. IsInOrder (done_of records events) ls channel) (sym is.links) (
        length ((ledger_of events.traffic).rows channel),
        keeps.tells.in_order channel
            ∙ ap (λ l. taken_on channel (done_of records events) events.traffic.links.items ++ l)
            (map-waits ((ledger_of events.traffic).rows channel)),
      ))

  begun : (place : ℕ) (trace : RecordValue) → slice_get records place ≡ Some trace → IsBegun trace place told
  begun place trace there =
      let t : IsTold events.moves.items place trace events.reached.items = keeps.told place trace there in
      let many = length-append t.at.first t.one.cursor.left in
      let all : length trace.events ≡ length (t.at.first ++ t.one.cursor.left) = ap length t.at.all in
      let told_is = t.at.told in
      record {
        end = t.one.cursor.told;
        within = omega (arith, many, all, told_is);
        whole = subst (λ ms. GoOn 0 (moves_of place ms) t.one.cursor.told) (sym is.moves) t.told;
      }

  pub says : IsTimeline records told
  says = record {
    parts = subst (AllByRecursion (IsPart records)) (sym is.moves) keeps.parts;
    longest = subst (AreLongest records) (sym is.moves) keeps.longest;
    begun = begun;
    forward = record {
      times = subst (λ ds. NeverFall (times ds)) (sym same) upto.forward;
      living = right (λ b d l one. one.by_living);
    };
    arrows = record {
      drawn = λ number lt.
          subst (λ ds. IsDrawn ds told.links.items number) (sym same)
          (subst (λ ls. IsDrawn (done_of records events) ls number) (sym is.links)
          (keeps.tells.drawn number (subst (λ (n : ℕ). number < n) is.arrows lt)));
      below = subst (λ (n : ℕ). AllByRecursion (IsBelow n) told.links.items) (sym is.arrows)
          (subst (AllByRecursion (IsBelow events.traffic.arrows)) (sym is.links) keeps.tells.below);
    };
    all_takes = right (λ b d l one. one.taken);
    in_order = orders;
    waiting = right (λ b d l one. one.sent);
    looked_up = right (λ b d l one. one.begun);
    else_unlinked = right (λ b d l one. one.else_plain);
    living = λ number.
        ap (λ set. contains nat_eq set number) is.living
        ∙ keeps.tells.living number ∙ ap (λ ds. lives records ds number) (sym same);
  }

  -- where nothing is left each event stands once
  pub once : IsAllTold events → EachOnce records told.moves.items
  once all_told = record {
    parts = says.parts;
    whole = λ place trace there.
        let t : IsTold events.moves.items place trace events.reached.items = keeps.told place trace there in
        let none : t.one.cursor.left ≡ [] = all_told place t.one t.is_there in
        let all : trace.events ≡ t.at.first =
        t.at.all ∙ ap (λ l. t.at.first ++ l) none ∙ append-nil t.at.first in
        let end : t.one.cursor.told ≡ length trace.events = sym t.at.told ∙ ap length (sym all) in
        subst (λ ms. GoOn 0 (moves_of place ms) (length trace.events)) (sym is.moves)
        (subst (GoOn 0 (moves_of place events.moves.items)) end t.told);
  }

  -- why it stops
  pub held : (number : ℕ) → CantGoOn records events.moves.items events.traffic.links.items number
      → CantGoOn records told.moves.items told.links.items number
  held number cant =
      subst (λ ls. CantGoOn records told.moves.items ls number) (sym is.links)
      (subst (λ ms. CantGoOn records ms events.traffic.links.items number) (sym is.moves) cant)

  -- of whom something is left
  pub left : (number : ℕ) → IsLeft records events.moves.items number → IsLeft records told.moves.items number
  left number has = subst (λ ms. IsLeft records ms number) (sym is.moves) has

-- ---- the order

-- all that is in the order is told, then records close
pub in-order : (records : List RecordValue) (tellers : List ℕ) (at : List Did) (told : Timeline)
    → TellsIn tellers [] at → Closes at (done_by records told.moves.items) → IsInOrderOf records tellers told
in-order records tellers at told tells closes = record {
  before = at;
  closings = closes.closings;
  all = closes.all;
  order = tells;
  only = closes.only;
}

-- it stops in the order
pub stops-in : (records : List RecordValue) (tellers : List ℕ) (told : Timeline) (number : ℕ)
    → TellsBefore number tellers [] (done_by records told.moves.items)
    → CantGoOn records told.moves.items told.links.items number → StopsAt records tellers told number
stops-in records tellers told number before cant =
    stops_before before.before before.later before.all before.tells cant

-- or at its end
pub stops-after : (records : List RecordValue) (tellers : List ℕ) (told : Timeline) (number : ℕ)
    → IsInOrderOf records tellers told → IsLeft records told.moves.items number → StopsAt records tellers told number
stops-after records tellers told number order is_left = stops_after order is_left
