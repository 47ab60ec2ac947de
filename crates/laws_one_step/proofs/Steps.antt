-- Two steps of an instance that begin alike are alike, and an instance that waits makes none.
use Rattle.std.proofs.Common.{◌≡◌, ◌∙◌, ℕ, Bool, IfSome, List, [], ◌∷◌, Some, ap, map, max, refl, subst, sym, append-nil}
use Rattle.std.proofs.lemmas.List.Elements.{All-head, All-tail}
use Rattle.std.specs.List.{flat_map}
use Rattle.port_model.specs.declared.inbox.placed.Placed.{Placed}
use Rattle.port_model.specs.History.{IsLegal}
use Rattle.port_model.specs.Port.{PortState}
use Rattle.port_model.specs.declared.selection.Class.{Class}
use Rattle.port_model.specs.declared.taken.Taken.TheVariants.{Nothing}
use Rattle.run_record.specs.declared.evaluation.identity.Identity.{Identity}
use Rattle.run_record.specs.declared.evaluation.store.Store.{Store}
use Rattle.run_record.specs.Event as event
use Rattle.run_record.specs.Event.{Event, is_beginning}
use Rattle.run_semantics.specs.Effect.{Deed, effects_of, events_of}
use Rattle.run_semantics.specs.Behaves.{Behaves}
use Rattle.run_semantics.specs.Goes.{Goes, IsOneStep, MachineValue, drawn_as}
use Rattle.run_semantics.specs.Leads.{IsQuiet, LeadsSilently}
use Rattle.run_semantics.specs.Leads as leads
use Rattle.run_semantics.specs.ControlPoint as place
use Rattle.run_semantics.specs.ControlPoint.{Definition, ControlPoint}
use Rattle.run_semantics.specs.Runs.{outside_of}
use Rattle.run_semantics.specs.World.{IsTrueOf, IsTrueOfOne, WorldValue, after_effects, time_after_one}
use Rattle.sdl_system.specs.System.{SystemValue}
use Rattle.sdl_system.specs.declared.id.StateId.{StateId}
use Rattle.sdl_system.specs.declared.process.Process.{Process}
use Rattle.laws_one_step.proofs.First.{Begins, First, FirstComes, IsAtTime, by_take, first_comes, first_one, trying}
use Rattle.laws_one_step.proofs.Iterates.{EndAlike, Leads, SameDid, Told, effects_told, living_kept, did_is, end_alike, events_told, moved, no_deed, path_leads, resting, same_place, told}
use Rattle.laws_one_step.proofs.Next.{Frame, Site, did, nothing}
use Rattle.laws_one_step.proofs.Paths.{Path, lone_calls, path_effects, path_ends, path_from, path_turns}
use Rattle.laws_one_step.specs.Unique.{IsBetween, IsKnown, IsPlainStep, LackNothing, LacksNothing, RestsForNow, StepsAlike}

-- ---- a step as a path

-- From a place, what is known there, a port and a world: a path of these deeds, of which one begins it.
pub record Stepped (d : Definition) (who : Identity) (w : WorldValue) (from : ControlPoint) (s : Store) (q : PortState)
    (counts : Bool) (deeds : List Deed) (to : ControlPoint) (t : Store) (r : PortState) : Type 0 where
  pub path : Path d who to t r from s q deeds
  pub shape : IsOneStep counts deeds
  pub lack : LackNothing (events_of deeds)
  pub are_true : IsTrueOf d.system who w s.time deeds
  pub starts : IsBetween from
  pub between : IsBetween to

pub stepped_by : (d : Definition) (from to : ControlPoint) (m n : MachineValue) (w v : WorldValue) (counts : Bool)
    → (step : IsPlainStep d from m w counts to n v)
    → Stepped d m.who w from m.store m.owner.state counts step.goes.deeds to n.store n.owner.state
stepped_by d from to m n w v counts step =
    let goes : Goes (IsOneStep counts) d from m w to n v = step.goes in
    let none : outside_of goes.history ≡ [] =
    goes.outside ∙ ap (λ (news : List Placed). drawn_as m.owner.pid news) step.undrawn in
    record {
      path = subst (λ list. Path d m.who to n.store n.owner.state from m.store m.owner.state list)
          (append-nil goes.deeds)
          (path_from d m.who from m.store m.owner.state goes.runs (lone_calls goes.history goes.deeds none goes.own) []
          to n.store n.owner.state path_ends);
      shape = goes.shape;
      lack = step.lacks_nothing;
      are_true = goes.are_true;
      starts = step.starts;
      between = step.between;
    }

-- ---- what begins it

-- the first deed, and the path behind it
record Headed (d : Definition) (who : Identity) (from : ControlPoint) (s : Store) (q : PortState) (deed : Deed)
    (rest : List Deed) (to : ControlPoint) (t : Store) (r : PortState) : Type 0 where
  mid : ControlPoint
  known : Store
  port : PortState
  does : leads.Leads d who q from s deed mid known
  legal : IsLegal q deed.calls port
  path : Path d who to t r mid known port rest

module _ (d : Definition) (who : Identity) (to : ControlPoint) (t : Store) (r : PortState) where
  no_turn_between : (from mid : ControlPoint) (s u : Store) (q : PortState) → IsBetween from → LeadsSilently d who q from s mid u → ⊥
  no_turn_between place.AtStart mid s u q between turns = turns
  no_turn_between (place.In n) mid s u q between turns = turns
  no_turn_between place.Ended mid s u q between turns = turns
  no_turn_between from mid s u q between turns = absurd between

  record Cut (from : ControlPoint) (s : Store) (q : PortState) (deeds : List Deed) : Type 0 where
    each : (deed : Deed) (rest : List Deed) → deeds ≡ deed ∷ rest → Headed d who from s q deed rest to t r

  cut : {from : ControlPoint} {s : Store} {q : PortState} {deeds : List Deed} → Path d who to t r from s q deeds
      → IsBetween from → Cut from s q deeds
  cut path_ends between = record { each = λ deed rest is. let wrong : ⊥ = cc in absurd wrong }
  cut (path_effects at mid s u q m first later does legal path) between = record {
    each = λ deed rest is.
        let same : first ≡ deed = cc in
        let also : later ≡ rest = cc in
        record {
          mid = mid;
          known = u;
          port = m;
          does = subst (λ (k : Deed). leads.Leads d who q at s k mid u) same does;
          legal = subst (λ (k : Deed). IsLegal q k.calls m) same legal;
          path = subst (λ list. Path d who to t r mid u m list) also path;
        };
  }
  cut (path_turns at mid s u q deeds turns path) between = absurd (no_turn_between at mid s u q between turns)

-- the clock's reading is the time of what begins the step
read_at : (system : SystemValue) (who : Identity) (w : WorldValue) (clock earlier : ℕ) (happened : Event) → w.clock ≡ Some clock
    → IsTrueOfOne system who w earlier happened → IsAtTime (max clock earlier) happened
read_at system who w clock earlier (event.Start at) known so = subst (λ o. IfSome o (λ c. at ≡ max c earlier)) known so
read_at system who w clock earlier (event.Consumed at got) known so =
    subst (λ o. IfSome o (λ c. at ≡ max c earlier)) known so
read_at system who w clock earlier (event.Prior at got) known so = subst (λ o. IfSome o (λ c. at ≡ max c earlier)) known so
read_at system who w clock earlier (event.Discarded at got) known so =
    subst (λ o. IfSome o (λ c. at ≡ max c earlier)) known so
read_at system who w clock earlier (event.Provided at number) known so =
    subst (λ o. IfSome o (λ c. at ≡ max c earlier)) known so
read_at system who w clock earlier (event.FailedAt at why) known so =
    subst (λ o. IfSome o (λ c. at ≡ max c earlier)) known so
read_at system who w clock earlier happened known so = tt

-- what runs, by whom, and the nodes of its process
frame_of : (d : Definition) (process : Process) → Behaves d.system process d.behaviour → Identity → Frame
frame_of d process behaves who = record {
  d = d;
  nodes = process.nodes.items;
  marks = behaves.means.bodies_are.marks;
  entries = behaves.means.entries;
  who = who;
}

-- ---- a step, told

module _ (f : Frame) (now : ℕ) (w : WorldValue) (from : ControlPoint) (s : Store) (q : PortState) where
  -- what begins the step, and what comes next until it is over
  record Whole (counts : Bool) (deeds : List Deed) (to : ControlPoint) (t : Store) (r : PortState) : Type 0 where
    deed : Deed
    rest : List Deed
    is : deeds ≡ deed ∷ rest
    counts_is : is_beginning deed.event ≡ counts
    after : Site
    known : Store
    port : PortState
    first : First f s q now from (did deed.event deed.effects after known port)
    leads : Leads f to t r (after_effects w deed.effects) after known port rest
    between : IsBetween to

  whole_alike : (one other : Bool) (deeds others : List Deed) (to up : ControlPoint) (t u : Store) (r p : PortState)
      → Whole one deeds to t r → Whole other others up u p
      → (told deeds ≡ told others) × (one ≡ other) × (to ≡ up) × (t ≡ u) × (r ≡ p)
  whole_alike one other deeds others to up t u r p a b =
      let begun : did a.deed.event a.deed.effects a.after a.known a.port
      ≡ did b.deed.event b.deed.effects b.after b.known b.port =
      first_one f s q now from (did a.deed.event a.deed.effects a.after a.known a.port)
      (did b.deed.event b.deed.effects b.after b.known b.port) a.first b.first in
      let same : SameDid a.deed.event b.deed.event a.deed.effects b.deed.effects a.after b.after a.known b.known a.port
      b.port =
      did_is (did a.deed.event a.deed.effects a.after a.known a.port) a.deed.event b.deed.event a.deed.effects b.deed.effects
      a.after b.after a.known b.known a.port b.port refl begun in
      let end : EndAlike a.leads.after b.leads.after t u r p (told a.rest) (told b.rest) =
      end_alike f a.leads.after b.leads.after t u r p
      (resting f.nodes f.marks to a.leads.after a.leads.at a.between)
      (resting f.nodes f.marks up b.leads.after b.leads.at b.between) a.leads.iterates
      (moved f b.leads.after u p (after_effects w a.deed.effects) (after_effects w b.deed.effects) a.after b.after a.known b.known
      a.port b.port (told b.rest) (ap (λ k. after_effects w k) same.same_effects) same.same_after same.same_known
      same.same_behind b.leads.iterates) in
      let tells : told a.rest ≡ told b.rest = end.same_told in (
        ap told a.is
            ∙ ap (λ (list : List Told). record { happened = a.deed.event; done = a.deed.effects } ∷ list) tells
            ∙ ap (λ k. record { happened = k; done = a.deed.effects } ∷ told b.rest) (sym same.same_event)
            ∙ ap (λ k. record { happened = b.deed.event; done = k } ∷ told b.rest) (sym same.same_effects)
            ∙ ap told (sym b.is),
        sym a.counts_is ∙ ap is_beginning (sym same.same_event) ∙ b.counts_is,
        same_place f.nodes f.marks to up a.leads.after b.leads.after a.leads.at b.leads.at a.between b.between
            end.same_site,
        end.same_store,
        end.same_port,
      )

module _ (d : Definition) (process : Process) (behaves : Behaves d.system process d.behaviour) (who : Identity)
    (w : WorldValue) (known : IsKnown w) (from : ControlPoint) (s : Store) (q : PortState) where
  frame : Frame
  frame = frame_of d process behaves who

  whole_by : (counts : Bool) (deeds : List Deed) (to : ControlPoint) (t : Store) (r : PortState)
      → Stepped d who w from s q counts deeds to t r
      → Whole (frame_of d process behaves who) (max known.clock s.time) w from s q counts deeds to t r
  unfolding frame_of
  whole_by counts [] to t r step = absurd step.shape
  whole_by counts (deed ∷ rest) to t r step =
      let f : Frame = frame_of d process behaves who in
      let head : Headed d who from s q deed rest to t r =
      (cut d who to t r step.path step.starts).each deed rest refl in
      let first : FirstComes f s q (max known.clock s.time) from deed.event deed.effects head.mid head.known head.port =
      first_comes f behaves.means.bodies_are refl s q deed.calls deed.effects head.mid head.known head.port head.legal from
      step.starts (max known.clock s.time) deed.event
      (All-head LacksNothing deed.event (events_of rest) step.lack) step.shape.0
      (read_at d.system who w known.clock s.time deed.event known.clock_is step.are_true.0) head.does in
      let kept = living_kept w deed.effects known.living known.living_is in
      record {
        deed = deed;
        rest = rest;
        is = refl;
        counts_is = step.shape.1;
        after = first.after;
        known = head.known;
        port = head.port;
        first = first.first;
        leads = path_leads f behaves.means.bodies_are refl to t r head.path (after_effects w deed.effects) kept.0 kept.1
            (time_after_one s.time deed.event) first.after first.at_site step.shape.2
            (All-tail LacksNothing deed.event (events_of rest) step.lack) step.are_true.1;
        between = step.between;
      }

  -- two steps from one place, knowledge, port and world
  pub stepped_alike : (one other : Bool) (deeds others : List Deed) (to up : ControlPoint) (t u : Store) (r p : PortState)
      → Stepped d who w from s q one deeds to t r → Stepped d who w from s q other others up u p
      → (told deeds ≡ told others) × (one ≡ other) × (to ≡ up) × (t ≡ u) × (r ≡ p)
  stepped_alike one other deeds others to up t u r p first second =
      whole_alike (frame_of d process behaves who) (max known.clock s.time) w from s q one other deeds others to up t
      u r p
      (whole_by one deeds to t r first) (whole_by other others up u p second)

-- one that waits makes none
pub no_step : (d : Definition) (process : Process) (behaves : Behaves d.system process d.behaviour) (who : Identity)
    (w : WorldValue) (known : IsKnown w) (n : StateId) (s : Store) (q : PortState) (counts : Bool) (deeds : List Deed)
    (to : ControlPoint) (t : Store) (r : PortState) (classes : List Class) → IsQuiet d who q n s classes
    → Stepped d who w (place.In n) s q counts deeds to t r → ⊥
unfolding frame_of
no_step d process behaves who w known n s q counts deeds to t r classes quiet step =
    let f : Frame = frame_of d process behaves who in
    let whole : Whole f (max known.clock s.time) w (place.In n) s q counts deeds to t r =
    whole_by d process behaves who w known (place.In n) s q counts deeds to t r step in
    let none : Begins f s q (max known.clock s.time) n nothing =
    subst (λ x. Begins f s q (max known.clock s.time) n x)
    (ap (λ x. trying f s (max known.clock s.time) n q x) quiet.tries)
    (by_take quiet.selecting.state classes Nothing q quiet.selecting.is quiet.selecting.selects quiet.nothing) in
    no_deed nothing whole.deed.event whole.deed.effects whole.after whole.known whole.port refl
    (first_one f s q (max known.clock s.time) (place.In n) nothing
    (did whole.deed.event whole.deed.effects whole.after whole.known whole.port) none whole.first)

-- ---- the laws

-- what is told decides the events and the acts
pub events_same : (deeds others : List Deed) → told deeds ≡ told others → events_of deeds ≡ events_of others
events_same deeds others same =
    events_told deeds ∙ ap (λ list. map (λ (t : Told). t.happened) list) same ∙ sym (events_told others)

pub effects_same : (deeds others : List Deed) → told deeds ≡ told others → effects_of deeds ≡ effects_of others
effects_same deeds others same =
    effects_told deeds ∙ ap (λ list. flat_map (λ (t : Told). t.done) list) same ∙ sym (effects_told others)

pub steps_alike : StepsAlike
steps_alike d process from m w one other to up n o v u behaves known first second =
    let same = stepped_alike d process behaves m.who w known from m.store m.owner.state one other first.goes.deeds
    second.goes.deeds to up n.store o.store n.owner.state o.owner.state
    (stepped_by d from to m n w v one first) (stepped_by d from up m o w u other second) in
    record {
      events = events_same first.goes.deeds second.goes.deeds same.0;
      effects = effects_same first.goes.deeds second.goes.deeds same.0;
      counts = same.1;
      place = same.2;
      store = same.3;
      port = same.4;
    }

pub rests_for_now : RestsForNow
rests_for_now d process state m w counts to n v classes behaves known quiet step =
    no_step d process behaves m.who w known state m.store m.owner.state counts step.goes.deeds to n.store n.owner.state
    classes quiet (stepped_by d (place.In state) to m n w v counts step)
