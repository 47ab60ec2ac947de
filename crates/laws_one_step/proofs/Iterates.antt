-- What comes next, again and again, until nothing does.
use Rattle.std.proofs.Common.{◌≡◌, ◌∙◌, ℕ, List, [], ◌∷◌, ◌++◌, Some, Option, ap, inl, inr, map, refl, subst, sym}
use Rattle.std.proofs.lemmas.List.Elements.{All-head, All-tail}
use Rattle.std.specs.List.{flat_map}
use Rattle.std.specs.Option.{option_map}
use Rattle.port_model.specs.Port.{PortState}
use Rattle.run_record.specs.declared.evaluation.store.Store.{Store}
use Rattle.run_record.specs.Event.{Event}
use Rattle.run_semantics.specs.Effect.{Effect, Deed, effects_of, events_of}
use Rattle.run_semantics.specs.Goes.{AreInner, IsInner}
use Rattle.run_semantics.specs.ControlPoint as place
use Rattle.run_semantics.specs.ControlPoint.{ControlPoint}
use Rattle.run_semantics.specs.World.{Living, IsTrueOf, WorldValue, after_effect, after_effects, living_after, time_after_one}
use Rattle.sdl_system.specs.Table.{IsTableOf}
use Rattle.sdl_system.specs.declared.id.NodeId.{NodeId}
use Rattle.sdl_system.specs.declared.statement.Node.{Node}
use Rattle.laws_one_step.proofs.Inner.{Comes}
use Rattle.laws_one_step.proofs.Inside.{TurnsTo, comes, turns_on}
use Rattle.laws_one_step.proofs.Next.{Frame, IsAt, Next, Site, amid, at_start, at_state, did, doing, is_amid, is_doing, is_over, is_receiving, is_start, is_state, next_of, nothing, over, receiving, turned}
use Rattle.laws_one_step.proofs.Paths.{Path, path_effects, path_ends, path_turns}
use Rattle.laws_one_step.specs.Unique.{IsBetween, LackNothing, LacksNothing}

-- what deeds record and do outside
pub record Told : Type 0 where
  pub happened : Event
  pub done : List Effect

abbrev pub told_one : Deed → Told
told_one deed = record { happened = deed.event; done = deed.effects }

abbrev pub told : List Deed → List Told
told deeds = map told_one deeds

pub events_told : (deeds : List Deed) → events_of deeds ≡ map (λ (t : Told). t.happened) (told deeds)
events_told [] = refl
events_told (deed ∷ rest) = ap (λ list. deed.event ∷ list) (events_told rest)

pub effects_told : (deeds : List Deed) → effects_of deeds ≡ flat_map (λ (t : Told). t.done) (told deeds)
effects_told [] = refl
effects_told (deed ∷ rest) = ap (λ list. deed.effects ++ list) (effects_told rest)

-- from a site, what is known there and a port, in a world that each event changes
pub data Iterates (f : Frame) (to : Site) (t : Store) (r : PortState)
    : WorldValue → Site → Store → PortState → List Told → Type 0 where
  it_ends : (w : WorldValue) → Iterates f to t r w to t r []
  it_turns : (w : WorldValue) (site after : Site) (s u : Store) (q : PortState) (tells : List Told)
      → next_of f w site s q ≡ turned after u → Iterates f to t r w after u q tells
      → Iterates f to t r w site s q tells
  it_effects : (w : WorldValue) (site after : Site) (s u : Store) (q m : PortState) (happened : Event) (done : List Effect)
      (tells : List Told) → next_of f w site s q ≡ did happened done after u m
      → Iterates f to t r (after_effects w done) after u m tells
      → Iterates f to t r w site s q (record { happened = happened; done = done } ∷ tells)

-- ---- one way only

-- nothing comes next between two steps
abbrev pub IsResting : Site → Type 0
IsResting at_start = Unit {0}
IsResting (at_state n) = Unit {0}
IsResting over = Unit {0}
IsResting site = ⊥

nothing_next : (f : Frame) (w : WorldValue) (site : Site) (s : Store) (q : PortState) → IsResting site
    → next_of f w site s q ≡ nothing
nothing_next f w at_start s q rests = refl
nothing_next f w (at_state n) s q rests = refl
nothing_next f w over s q rests = refl
nothing_next f w (receiving origin variables values spot) s q rests = absurd rests
nothing_next f w (doing origin spot) s q rests = absurd rests
nothing_next f w (amid origin action spot) s q rests = absurd rests

-- both end alike, and tell the same
pub record EndAlike (to up : Site) (t u : Store) (r p : PortState) (tells others : List Told) : Type 0 where
  pub same_told : tells ≡ others
  pub same_site : to ≡ up
  pub same_store : t ≡ u
  pub same_port : r ≡ p

turned_is : (x : Next) (one other : Site) (s u : Store) → x ≡ turned one s → x ≡ turned other u
    → (other ≡ one) × (u ≡ s)
turned_is x one other s u first second = let same : turned other u ≡ turned one s = sym second ∙ first in (cc, cc)

-- what an event leads to
pub record SameDid (e e' : Event) (a a' : List Effect) (one other : Site) (s u : Store) (q m : PortState) : Type 0 where
  pub same_event : e' ≡ e
  pub same_effects : a' ≡ a
  pub same_after : other ≡ one
  pub same_known : u ≡ s
  pub same_behind : m ≡ q

pub did_is : (x : Next) (e e' : Event) (a a' : List Effect) (one other : Site) (s u : Store) (q m : PortState)
    → x ≡ did e a one s q → x ≡ did e' a' other u m → SameDid e e' a a' one other s u q m
did_is x e e' a a' one other s u q m first second =
    let same : did e' a' other u m ≡ did e a one s q = sym second ∙ first in
    record { same_event = cc; same_effects = cc; same_after = cc; same_known = cc; same_behind = cc }

no_turn : (x : Next) (site : Site) (s : Store) → x ≡ nothing → x ≡ turned site s → ⊥
no_turn x site s none turns = cc

pub no_deed : (x : Next) (e : Event) (a : List Effect) (site : Site) (s : Store) (q : PortState) → x ≡ nothing
    → x ≡ did e a site s q → ⊥
no_deed x e a site s q none does = cc

turn_or_deed : (x : Next) (e : Event) (a : List Effect) (one other : Site) (s u : Store) (q : PortState)
    → x ≡ turned one s → x ≡ did e a other u q → ⊥
turn_or_deed x e a one other s u q turns does = cc

module _ (f : Frame) (up : Site) (u : Store) (p : PortState) where
  -- the same from where is the same
  pub moved : (w v : WorldValue) (one other : Site) (s x : Store) (q m : PortState) (tells : List Told) → v ≡ w
      → other ≡ one → x ≡ s → m ≡ q → Iterates f up u p v other x m tells → Iterates f up u p w one s q tells
  moved w v one other s x q m tells world site store port iterates =
      subst (λ k. Iterates f up u p k one s q tells) world
      (subst (λ k. Iterates f up u p v k s q tells) site
      (subst (λ k. Iterates f up u p v other k q tells) store
      (subst (λ k. Iterates f up u p v other x k tells) port iterates)))

module _ (f : Frame) where
  pub end_alike : (to up : Site) (t u : Store) (r p : PortState) → IsResting to → IsResting up
      → {w : WorldValue} {site : Site} {s : Store} {q : PortState} {tells others : List Told}
      → Iterates f to t r w site s q tells → Iterates f up u p w site s q others
      → EndAlike to up t u r p tells others
  end_alike _ _ _ _ _ _ rests halts (it_ends w) (it_ends _) =
      record { same_told = refl; same_site = refl; same_store = refl; same_port = refl }
  end_alike to up t u r p rests halts (it_ends w) (it_turns _ _ after _ x _ others next later) =
      absurd (no_turn (next_of f w to t r) after x (nothing_next f w to t r rests) next)
  end_alike to up t u r p rests halts (it_ends w) (it_effects _ _ after _ x _ m e a others next later) =
      absurd (no_deed (next_of f w to t r) e a after x m (nothing_next f w to t r rests) next)
  end_alike to up t u r p rests halts (it_turns w _ after _ x _ tells next later) (it_ends _) =
      absurd (no_turn (next_of f w up u p) after x (nothing_next f w up u p halts) next)
  end_alike to up t u r p rests halts (it_effects w _ after _ x _ m e a tells next later) (it_ends _) =
      absurd (no_deed (next_of f w up u p) e a after x m (nothing_next f w up u p halts) next)
  end_alike to up t u r p rests halts (it_turns w site after s x q tells next later) (it_turns _ _ other _ y _ others
      then further) =
      let same : (other ≡ after) × (y ≡ x) = turned_is (next_of f w site s q) after other x y next then in
      end_alike to up t u r p rests halts later (moved f up u p w w after other x y q q others refl same.0 same.1 refl
      further)
  end_alike to up t u r p rests halts (it_turns w site after s x q tells next later) (it_effects _ _ other _ y _ m e a
      others then further) =
      absurd (turn_or_deed (next_of f w site s q) e a after other x y m next then)
  end_alike to up t u r p rests halts (it_effects w site after s x q m e a tells next later) (it_turns _ _ other _ y _
      others then further) =
      absurd (turn_or_deed (next_of f w site s q) e a other after y x m then next)
  end_alike to up t u r p rests halts (it_effects w site after s x q m e a tells next later) (it_effects _ _ other _ y _ l
      e' a' others then further) =
      let same : SameDid e e' a a' after other x y m l =
      did_is (next_of f w site s q) e e' a a' after other x y m l next then in
      let rest : EndAlike to up t u r p tells others =
      end_alike to up t u r p rests halts later (moved f up u p (after_effects w a) (after_effects w a') after other x y m l
      others
      (ap (λ k. after_effects w k) same.same_effects) same.same_after same.same_known same.same_behind further) in
      let event_is : e' ≡ e = same.same_event in
      let effects_are : a' ≡ a = same.same_effects in
      let tells_are : tells ≡ others = rest.same_told in
      record {
        same_told = ap (λ list. record { happened = e; done = a } ∷ list) tells_are
            ∙ ap (λ k. record { happened = k; done = a } ∷ others) (sym event_is)
            ∙ ap (λ k. record { happened = e'; done = k } ∷ others) (sym effects_are);
        same_site = rest.same_site;
        same_store = rest.same_store;
        same_port = rest.same_port;
      }

-- ---- a path goes on so

pub living_kept : (w : WorldValue) (effects : List Effect) (living : Living) → w.living ≡ Some living
    → (now : Living) × ((after_effects w effects).living ≡ Some now)
living_kept w [] living known = (living, known)
living_kept w (effect ∷ rest) living known =
    living_kept (after_effect w effect) rest (living_after living effect)
    (ap (λ o. option_map (λ c. living_after c effect) o) known)

-- where a path ends, and the way there
pub record Leads (f : Frame) (to : ControlPoint) (t : Store) (r : PortState) (w : WorldValue) (site : Site) (s : Store)
    (q : PortState) (deeds : List Deed) : Type 0 where
  pub after : Site
  pub at : IsAt f.nodes f.marks to after
  pub iterates : Iterates f after t r w site s q (told deeds)

module _ (f : Frame) (table : IsTableOf f.d.behaviour.bodies f.entries f.nodes) (marks : table.marks ≡ f.marks)
    (to : ControlPoint) (t : Store) (r : PortState) where
  -- behind a step without an event
  turned_first : (w : WorldValue) (site : Site) (mid : ControlPoint) (s u : Store) (q : PortState) (deeds : List Deed)
      (turn : TurnsTo f w site s q mid u) → Leads f to t r w turn.after u q deeds → Leads f to t r w site s q deeds
  turned_first w site mid s u q deeds turn later =
      elim turn.is [
        | inl same ↦ record {
          after = later.after;
          at = later.at;
          iterates = moved f later.after t r w w site turn.after s u q q (told deeds) refl same.0 same.1 refl
              later.iterates;
        }
        | inr next ↦ record {
          after = later.after;
          at = later.at;
          iterates = it_turns w site turn.after s u q (told deeds) next later.iterates;
        }
      ]

  pub path_leads : {at : ControlPoint} {s : Store} {q : PortState} {deeds : List Deed} → Path f.d f.who to t r at s q deeds
      → (w : WorldValue) (living : Living) → w.living ≡ Some living → (earlier : ℕ) (site : Site)
      → IsAt f.nodes f.marks at site → AreInner deeds → LackNothing (events_of deeds)
      → IsTrueOf f.d.system f.who w earlier deeds → Leads f to t r w site s q deeds
  path_leads path_ends w living known earlier site is_at inner lack are =
      record { after = site; at = is_at; iterates = it_ends w }
  path_leads (path_effects at mid s u q m deed rest leads legal path) w living known earlier site is_at inner lack are =
      let here : Comes f w site s q deed.event deed.effects mid u m =
      comes f w s q deed.calls deed.effects mid u m legal living known earlier at site is_at deed.event
      (All-head (λ (d : Deed). IsInner d.event) deed rest inner)
      (All-head LacksNothing deed.event (events_of rest) lack) are.0 leads in
      let kept = living_kept w deed.effects living known in
      let later : Leads f to t r (after_effects w deed.effects) here.after u m rest =
      path_leads path (after_effects w deed.effects) kept.0 kept.1 (time_after_one earlier deed.event) here.after here.at
      (All-tail (λ (d : Deed). IsInner d.event) deed rest inner)
      (All-tail LacksNothing deed.event (events_of rest) lack) are.1 in
      record {
        after = later.after;
        at = later.at;
        iterates = it_effects w site here.after s u q m deed.event deed.effects (told rest) here.is later.iterates;
      }
  path_leads (path_turns at mid s u q deeds turns path) w living known earlier site is_at inner lack are =
      let turn : TurnsTo f w site s q mid u = turns_on f w s q mid u f.entries table marks at site is_at turns in
      turned_first w site mid s u q deeds turn
      (path_leads path w living known earlier turn.after turn.at inner lack are)

-- ---- between two steps

pub resting : (nodes : List Node) (marks : List (Option NodeId)) (at : ControlPoint) (site : Site)
    → IsAt nodes marks at site → IsBetween at
    → IsResting site
resting nodes marks _ _ is_start between = tt
resting nodes marks _ _ (is_state n) between = tt
resting nodes marks _ _ is_over between = tt
resting nodes marks _ _ (is_receiving origin variables values todo spot has) between = absurd between
resting nodes marks _ _ (is_doing origin todo spot has) between = absurd between
resting nodes marks _ _ (is_amid origin action rest spot has) between = absurd between

-- one place is at a site between two steps
place_of : Site → ControlPoint
place_of at_start = place.AtStart
place_of (at_state n) = place.In n
place_of site = place.Ended

placed : (nodes : List Node) (marks : List (Option NodeId)) (at : ControlPoint) (site : Site) → IsAt nodes marks at site
    → IsBetween at
    → at ≡ place_of site
unfolding place_of
placed nodes marks _ _ is_start between = refl
placed nodes marks _ _ (is_state n) between = refl
placed nodes marks _ _ is_over between = refl
placed nodes marks _ _ (is_receiving origin variables values todo spot has) between = absurd between
placed nodes marks _ _ (is_doing origin todo spot has) between = absurd between
placed nodes marks _ _ (is_amid origin action rest spot has) between = absurd between

pub same_place : (nodes : List Node) (marks : List (Option NodeId)) (at up : ControlPoint) (site other : Site)
    → IsAt nodes marks at site
    → IsAt nodes marks up other → IsBetween at → IsBetween up → site ≡ other → at ≡ up
same_place nodes marks at up site other is_at is_up between also same =
    placed nodes marks at site is_at between ∙ ap place_of same ∙ sym (placed nodes marks up other is_up also)
