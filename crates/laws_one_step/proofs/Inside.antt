-- Each event in a transition comes next, and so does each step without one.
use Rattle.std.proofs.Common.{◌≡◌, ◌⊎◌, ◌∙◌, ℕ, List, [], ◌∷◌, None, Some, Option, ap, inl, inr, refl, subst, sym}
use Rattle.port_model.specs.History.{IsLegal, PortEvent}
use Rattle.port_model.specs.Port.{PortState}
use Rattle.port_model.specs.declared.values.item.SignalId.{SignalId}
use Rattle.port_model.specs.declared.values.timer_key.TimerKey.{TimerKey}
use Rattle.port_model.specs.declared.values.value.Value.{Value}
use Rattle.run_record.specs.Environment.{environment}
use Rattle.run_record.specs.Value.{placed}
use Rattle.run_record.specs.declared.evaluation.store.Store.{Store}
use Rattle.run_record.specs.Event as event
use Rattle.run_record.specs.Event.{Event}
use Rattle.run_record.specs.declared.failure.Failure.TheVariants.{NoAnswer}
use Rattle.run_semantics.specs.Effect.{Effect}
use Rattle.run_semantics.specs.Goes.{IsInner}
use Rattle.run_semantics.specs.Leads.{Chooses, Counts, Happens, LeadsSilently}
use Rattle.run_semantics.specs.ControlPoint as place
use Rattle.run_semantics.specs.ControlPoint.{ControlPoint}
use Rattle.run_semantics.specs.Reception.{assigned, sort_in}
use Rattle.run_semantics.specs.World.{Living, IsTrueOfOne, WorldValue}
use Rattle.sdl_system.specs.Body as body
use Rattle.sdl_system.specs.Body.{Body, Parts, chosen, followed}
use Rattle.sdl_system.specs.Table.{Has, IsTableOf, LabelOf, way_of}
use Rattle.sdl_system.specs.Term.{Term}
use Rattle.sdl_system.specs.declared.id.LabelId.{LabelId}
use Rattle.sdl_system.specs.declared.id.NodeId.{NodeId}
use Rattle.sdl_system.specs.declared.id.ProcessId.{ProcessId}
use Rattle.sdl_system.specs.declared.id.StateId.{StateId}
use Rattle.sdl_system.specs.declared.id.VariableId.{VariableId}
use Rattle.sdl_system.specs.declared.route.Dest.{Dest}
use Rattle.sdl_system.specs.declared.route.Target.{Target}
use Rattle.sdl_system.specs.declared.statement.Way.{Way}
use Rattle.laws_one_step.proofs.Failed.{acts_next, asked_well, asks_next, counts_on, fails}
use Rattle.laws_one_step.proofs.Inner.{Comes, assigns, creates, ends_next, enters, on_ok, on_some, resets, sends, sets, stops}
use Rattle.laws_one_step.proofs.Next.{Frame, IsAt, Site, amid, counted, doing, failing, is_amid, is_doing, is_receiving, mark_of, next_of, receiving, turned}
use Rattle.laws_one_step.proofs.Ways.{GoesOn, decides, labelled}
use Rattle.laws_one_step.specs.Unique.{LacksNothing}

-- ---- events

module _ (f : Frame) (w : WorldValue) (s : Store) (q : PortState) (calls : List PortEvent) (done : List Effect)
    (to : ControlPoint)
    (t : Store) (r : PortState) (legal : IsLegal q calls r) where
  -- Of the shapes of places only one has the event; the others are named so far as what happens there depends on them.
  task_comes : (variable : VariableId) (value : Value) (at : ControlPoint) (site : Site) → IsAt f.nodes f.marks at site
      → Happens f.d f.who q at s (event.Task variable value) calls done to t
      → Comes f w site s q (event.Task variable value) done to t r
  task_comes variable value _ _ (is_amid origin (body.task (one ∷ more)) rest spot has) h =
      assigns f w s q calls done to t r legal origin one more rest spot variable value has h
  task_comes variable value _ _ (is_amid origin (body.output (one ∷ more) whom) rest spot has) h = absurd h
  task_comes variable value _ _ (is_amid origin (body.set (one ∷ more)) rest spot has) h = absurd h
  task_comes variable value _ _ (is_amid origin (body.reset (one ∷ more)) rest spot has) h = absurd h
  task_comes variable value _ _ (is_doing (Some n) (body.ending body.to_same) spot has) h = absurd h
  task_comes variable value _ _ (is_doing None (body.ending body.to_same) spot has) h = absurd h
  task_comes variable value _ _ at h = absurd h

  output_comes : (signal : SignalId) (named : Dest) (values : List Value) (target : Target) (living : Living)
      → w.living ≡ Some living → (earlier : ℕ)
      → IsTrueOfOne f.d.system f.who w earlier (event.Output signal named values target) → (at : ControlPoint) (site : Site)
      → IsAt f.nodes f.marks at site
      → Happens f.d f.who q at s (event.Output signal named values target) calls done to t
      → Comes f w site s q (event.Output signal named values target) done to t r
  output_comes signal named values target living known earlier so _ _
      (is_amid origin (body.output (one ∷ more) whom) rest spot has) h =
      sends f w s q calls done to t r legal origin one more whom rest spot signal named values target living known so
      has h
  output_comes signal named values target living known earlier so _ _
      (is_amid origin (body.task (one ∷ more)) rest spot has) h = absurd h
  output_comes signal named values target living known earlier so _ _
      (is_amid origin (body.set (one ∷ more)) rest spot has) h = absurd h
  output_comes signal named values target living known earlier so _ _
      (is_amid origin (body.reset (one ∷ more)) rest spot has) h = absurd h
  output_comes signal named values target living known earlier so _ _
      (is_doing (Some n) (body.ending body.to_same) spot has) h = absurd h
  output_comes signal named values target living known earlier so _ _
      (is_doing None (body.ending body.to_same) spot has) h = absurd h
  output_comes signal named values target living known earlier so _ _ at h = absurd h

  set_comes : (key : TimerKey) (due : ℕ) (at : ControlPoint) (site : Site) → IsAt f.nodes f.marks at site
      → Happens f.d f.who q at s (event.Set key due) calls done to t → Comes f w site s q (event.Set key due) done to
      t r
  set_comes key due _ _ (is_amid origin (body.set (one ∷ more)) rest spot has) h =
      sets f w s q calls done to t r legal origin one more rest spot key due has h
  set_comes key due _ _ (is_amid origin (body.task (one ∷ more)) rest spot has) h = absurd h
  set_comes key due _ _ (is_amid origin (body.output (one ∷ more) whom) rest spot has) h = absurd h
  set_comes key due _ _ (is_amid origin (body.reset (one ∷ more)) rest spot has) h = absurd h
  set_comes key due _ _ (is_doing (Some n) (body.ending body.to_same) spot has) h = absurd h
  set_comes key due _ _ (is_doing None (body.ending body.to_same) spot has) h = absurd h
  set_comes key due _ _ at h = absurd h

  reset_comes : (key : TimerKey) (at : ControlPoint) (site : Site) → IsAt f.nodes f.marks at site
      → Happens f.d f.who q at s (event.Reset key) calls done to t → Comes f w site s q (event.Reset key) done to t r
  reset_comes key _ _ (is_amid origin (body.reset (one ∷ more)) rest spot has) h =
      resets f w s q calls done to t r legal origin one more rest spot key has h
  reset_comes key _ _ (is_amid origin (body.task (one ∷ more)) rest spot has) h = absurd h
  reset_comes key _ _ (is_amid origin (body.output (one ∷ more) whom) rest spot has) h = absurd h
  reset_comes key _ _ (is_amid origin (body.set (one ∷ more)) rest spot has) h = absurd h
  reset_comes key _ _ (is_doing (Some n) (body.ending body.to_same) spot has) h = absurd h
  reset_comes key _ _ (is_doing None (body.ending body.to_same) spot has) h = absurd h
  reset_comes key _ _ at h = absurd h

  create_comes : (process : ProcessId) (number : Option ℕ) (living : Living) → w.living ≡ Some living → (earlier : ℕ)
      → IsTrueOfOne f.d.system f.who w earlier (event.Create process number) → (at : ControlPoint) (site : Site)
      → IsAt f.nodes f.marks at site → Happens f.d f.who q at s (event.Create process number) calls done to t
      → Comes f w site s q (event.Create process number) done to t r
  create_comes process number living known earlier so _ _ (is_amid origin (body.create made terms) rest spot has) h =
      creates f w s q calls done to t r legal origin made terms rest spot process number living known so has h
  create_comes process number living known earlier so _ _ (is_amid origin (body.task (one ∷ more)) rest spot has) h =
      absurd h
  create_comes process number living known earlier so _ _
      (is_amid origin (body.output (one ∷ more) whom) rest spot has) h = absurd h
  create_comes process number living known earlier so _ _ (is_amid origin (body.set (one ∷ more)) rest spot has) h =
      absurd h
  create_comes process number living known earlier so _ _ (is_amid origin (body.reset (one ∷ more)) rest spot has) h =
      absurd h
  create_comes process number living known earlier so _ _ (is_doing (Some n) (body.ending body.to_same) spot has) h =
      absurd h
  create_comes process number living known earlier so _ _ (is_doing None (body.ending body.to_same) spot has) h =
      absurd h
  create_comes process number living known earlier so _ _ at h = absurd h

  state_comes : (given : StateId) (at : ControlPoint) (site : Site) → IsAt f.nodes f.marks at site
      → Happens f.d f.who q at s (event.NextState given) calls done to t
      → Comes f w site s q (event.NextState given) done to t r
  state_comes given _ _ (is_doing origin (body.ending (body.to_state n)) spot has) h =
      enters f w s q calls done to t r legal n given (doing origin spot)
      (ends_next f w origin (body.to_state n) spot s q has) h.0 h.1 h.2 h.3 h.4 h.5
  state_comes given _ _ (is_doing (Some n) (body.ending body.to_same) spot has) h =
      enters f w s q calls done to t r legal n given (doing (Some n) spot)
      (ends_next f w (Some n) body.to_same spot s q has) h.0 h.1 h.2 h.3 h.4 h.5
  state_comes given _ _ (is_doing None (body.ending body.to_same) spot has) h = absurd h
  state_comes given _ _ (is_amid origin (body.task (one ∷ more)) rest spot has) h = absurd h
  state_comes given _ _ (is_amid origin (body.output (one ∷ more) whom) rest spot has) h = absurd h
  state_comes given _ _ (is_amid origin (body.set (one ∷ more)) rest spot has) h = absurd h
  state_comes given _ _ (is_amid origin (body.reset (one ∷ more)) rest spot has) h = absurd h
  state_comes given _ _ at h = absurd h

  stop_comes : (at : ControlPoint) (site : Site) → IsAt f.nodes f.marks at site
      → Happens f.d f.who q at s event.Stop calls done to t → Comes f w site s q event.Stop done to t r
  stop_comes _ _ (is_doing origin (body.ending body.stop) spot has) h =
      stops f w s q calls done to t r legal origin spot has h
  stop_comes _ _ (is_doing (Some n) (body.ending body.to_same) spot has) h = absurd h
  stop_comes _ _ (is_doing None (body.ending body.to_same) spot has) h = absurd h
  stop_comes _ _ (is_amid origin (body.task (one ∷ more)) rest spot has) h = absurd h
  stop_comes _ _ (is_amid origin (body.output (one ∷ more) whom) rest spot has) h = absurd h
  stop_comes _ _ (is_amid origin (body.set (one ∷ more)) rest spot has) h = absurd h
  stop_comes _ _ (is_amid origin (body.reset (one ∷ more)) rest spot has) h = absurd h
  stop_comes _ _ at h = absurd h

  pub comes : (living : Living) → w.living ≡ Some living → (earlier : ℕ) (at : ControlPoint) (site : Site)
      → IsAt f.nodes f.marks at site → (happened : Event) → IsInner happened → LacksNothing happened
      → IsTrueOfOne f.d.system f.who w earlier happened → Happens f.d f.who q at s happened calls done to t
      → Comes f w site s q happened done to t r
  comes living known earlier at site is_at (event.Task variable value) inner lacks so h =
      task_comes variable value at site is_at h
  comes living known earlier at site is_at (event.Output signal named values target) inner lacks so h =
      output_comes signal named values target living known earlier so at site is_at h
  comes living known earlier at site is_at (event.Set key due) inner lacks so h = set_comes key due at site is_at h
  comes living known earlier at site is_at (event.Reset key) inner lacks so h = reset_comes key at site is_at h
  comes living known earlier at site is_at (event.Create process number) inner lacks so h =
      create_comes process number living known earlier so at site is_at h
  comes living known earlier at site is_at (event.NextState given) inner lacks so h = state_comes given at site is_at h
  comes living known earlier at site is_at event.Stop inner lacks so h = stop_comes at site is_at h
  comes living known earlier at site is_at (event.Failed why) inner lacks so h =
      fails f w s q why at site calls done to t r lacks is_at h legal
  comes living known earlier at site is_at happened inner lacks so h = absurd inner

-- ---- steps without an event

-- what comes next, and leads to a place that is known; or nothing but a label was passed
pub record TurnsTo (f : Frame) (w : WorldValue) (site : Site) (s : Store) (q : PortState) (to : ControlPoint)
    (t : Store) : Type 0 where
  pub after : Site
  pub at : IsAt f.nodes f.marks to after
  pub is : ((after ≡ site) × (t ≡ s)) ⊎ (next_of f w site s q ≡ turned after t)

turned_same : (site : Site) (t t' : Store) → t' ≡ t → turned site t ≡ turned site t'
turned_same site t t' same = ap (λ x. turned site x) (sym same)

module _ (f : Frame) (w : WorldValue) (s : Store) (q : PortState) (to : ControlPoint) (t : Store) where
  -- a step that is one
  turns_so : (site after : Site) (at : ControlPoint) (u : Store) → to ≡ at → IsAt f.nodes f.marks at after → t ≡ u
      → next_of f w site s q ≡ turned after u → TurnsTo f w site s q to t
  turns_so site after at u place is_at store is = record {
    after = after;
    at = subst (λ p. IsAt f.nodes f.marks p after) (sym place) is_at;
    is = inr (is ∙ turned_same after u t store);
  }

  received : (origin : Option StateId) (variable : VariableId) (variables : List (Option VariableId)) (value : Value)
      (values : List Value) (next : Body) (spot : Option NodeId) → Has f.nodes f.marks spot next None
      → LeadsSilently f.d f.who q (place.Receiving origin (Some variable ∷ variables) (value ∷ values) next) s to t
      → TurnsTo f w (receiving origin (Some variable ∷ variables) (value ∷ values) spot) s q to t
  received origin variable variables value values next spot has turns =
      turns_so (receiving origin (Some variable ∷ variables) (value ∷ values) spot)
      (receiving origin variables values spot) (place.Receiving origin variables values next)
      (assigned variable turns.1.0 s) turns.0 (is_receiving origin variables values next spot has) turns.1.2
      (on_ok (placed (sort_in f.d.behaviour variable) value) turns.1.0 (failing s q)
      (λ taken. turned (receiving origin variables values spot) (assigned variable taken s)) turns.1.1)

  acts_on : (origin : Option StateId) (first : body.Action) (rest : Body) (spot : Option NodeId)
      → (has : Has f.nodes f.marks spot (body.action first rest) None)
      → (to ≡ place.Amid origin first rest) × Counts s t → TurnsTo f w (doing origin spot) s q to t
  acts_on origin first rest spot has turns =
      turns_so (doing origin spot) (amid origin first has.0) (place.Amid origin first rest) (counted s) turns.0
      (is_amid origin first rest has.0 has.2) turns.1.1
      (acts_next f w s q origin first spot has.0 has.1
      ∙ counts_on s q (turned (amid origin first has.0)) turns.1.0)

  -- the part that is chosen stands where the way leads
  record WayTo (way : Option Way) (rest part : Body) : Type 0 where
    way_is : Way
    is : way ≡ Some way_is
    has : Has f.nodes f.marks way_is.0 (followed part rest) None

  way_to : (rest part : Body) (way : Option Way) (chose : Option Body) → GoesOn f.nodes f.marks rest way chose
      → chose ≡ Some part → WayTo way rest part
  way_to rest part None None goes is = let wrong : ⊥ = cc in absurd wrong
  way_to rest part None (Some other) goes is = absurd goes
  way_to rest part (Some way) None goes is = absurd goes
  way_to rest part (Some way) (Some other) goes is =
      let same : other ≡ part = cc in
      record {
        way_is = way;
        is = refl;
        has = subst (λ b. Has f.nodes f.marks way.0 (followed b rest) None) same goes;
      }

  chooses : (origin : Option StateId) (question : Term) (parts : Parts) (rest : Body) (spot : Option NodeId)
      → (has : Has f.nodes f.marks spot (body.decision question parts rest) None) → Counts s t → (next : Body)
      → Chooses (environment f.d.system f.who s q) question parts rest next → to ≡ place.Doing origin next
      → TurnsTo f w (doing origin spot) s q to t
  chooses origin question parts rest spot has counts next asked leads =
      let way : WayTo (way_of has.0 asked.value) rest asked.part =
      way_to rest asked.part (way_of has.0 asked.value) (chosen asked.value parts)
      (decides f.nodes f.marks has.0.branches.items has.0.otherwise parts has.1 rest has.3 has.4 asked.value)
      asked.takes in
      turns_so (doing origin spot) (doing origin way.way_is.0) (place.Doing origin next) (counted s) leads
      (is_doing origin next way.way_is.0
      (subst (λ b. Has f.nodes f.marks way.way_is.0 b None) (sym asked.goes_on) way.has)) counts.1
      (asks_next f w s q origin has.0 question spot has.1 has.2
      ∙ asked_well f w s q origin has.0 question asked.value has.2.asks asked.asked counts.0
      ∙ on_some (way_of has.0 asked.value) way.way_is (failing s q NoAnswer)
      (λ way. turned (doing origin way.0) (counted s)) way.is)

  module _ (entries : List NodeId) (table : IsTableOf f.d.behaviour.bodies entries f.nodes)
      (marks : table.marks ≡ f.marks) where
    joins : (origin : Option StateId) (label : LabelId) (spot : Option NodeId)
        → Has f.nodes f.marks spot (body.ending (body.join label)) None → Counts s t → (on : Body)
        → LabelOf f.d.behaviour.bodies label on → to ≡ place.Doing origin on
        → TurnsTo f w (doing origin spot) s q to t
    joins origin label spot has counts on is_label leads =
        let begins = table.begins is_label.number is_label.whole is_label.body in
        let stands : Has f.nodes f.marks (Some begins.entry) is_label.whole None =
        subst (λ m. Has f.nodes m (Some begins.entry) is_label.whole None) marks begins.stands.has in
        turns_so (doing origin spot) (doing origin (mark_of f.marks label)) (place.Doing origin on) (counted s) leads
        (is_doing origin on (mark_of f.marks label)
        (labelled f.nodes f.marks label (Some begins.entry) None is_label.whole on is_label.from stands)) counts.1
        (ends_next f w origin (body.join label) spot s q has
        ∙ counts_on s q (turned (doing origin (mark_of f.marks label))) counts.0)

    pub turns_on : (at : ControlPoint) (site : Site) → IsAt f.nodes f.marks at site → LeadsSilently f.d f.who q at s to t
        → TurnsTo f w site s q to t
    turns_on _ _ (is_receiving origin (Some variable ∷ variables) (value ∷ values) next spot has) turns =
        received origin variable variables value values next spot has turns
    turns_on _ _ (is_receiving origin (None ∷ variables) (value ∷ values) next spot has) turns =
        turns_so (receiving origin (None ∷ variables) (value ∷ values) spot) (receiving origin variables values spot)
        (place.Receiving origin variables values next) s turns.0 (is_receiving origin variables values next spot has)
        turns.1 refl
    turns_on _ _ (is_receiving origin [] values next spot has) turns =
        turns_so (receiving origin [] values spot) (doing origin spot) (place.Doing origin next) s turns.0
        (is_doing origin next spot has) turns.1 refl
    turns_on _ _ (is_receiving origin (Some variable ∷ variables) [] next spot has) turns =
        turns_so (receiving origin (Some variable ∷ variables) [] spot) (doing origin spot) (place.Doing origin next) s
        turns.0 (is_doing origin next spot has) turns.1 refl
    turns_on _ _ (is_receiving origin (None ∷ variables) [] next spot has) turns =
        turns_so (receiving origin (None ∷ variables) [] spot) (doing origin spot) (place.Doing origin next) s
        turns.0 (is_doing origin next spot has) turns.1 refl
    turns_on _ _ (is_doing origin (body.action first rest) spot has) turns = acts_on origin first rest spot has turns
    turns_on _ _ (is_doing origin (body.decision question parts rest) spot has) turns =
        chooses origin question parts rest spot has turns.0 turns.1.0 turns.1.1 turns.1.2
    turns_on _ _ (is_doing origin (body.label number rest) spot has) turns = record {
      after = doing origin spot;
      at = subst (λ p. IsAt f.nodes f.marks p (doing origin spot)) (sym turns.0) (is_doing origin rest spot has.1);
      is = inl (refl, turns.1);
    }
    turns_on _ _ (is_doing origin (body.ending (body.join label)) spot has) turns =
        joins origin label spot has turns.0 turns.1.0 turns.1.1 turns.1.2
    turns_on _ _ (is_amid origin (body.task []) rest spot has) turns =
        turns_so (amid origin (body.task []) spot) (doing origin spot) (place.Doing origin rest) s turns.0
        (is_doing origin rest spot has) turns.1 refl
    turns_on _ _ (is_amid origin (body.output [] whom) rest spot has) turns =
        turns_so (amid origin (body.output [] whom) spot) (doing origin spot) (place.Doing origin rest) s turns.0
        (is_doing origin rest spot has) turns.1 refl
    turns_on _ _ (is_amid origin (body.set []) rest spot has) turns =
        turns_so (amid origin (body.set []) spot) (doing origin spot) (place.Doing origin rest) s turns.0
        (is_doing origin rest spot has) turns.1 refl
    turns_on _ _ (is_amid origin (body.reset []) rest spot has) turns =
        turns_so (amid origin (body.reset []) spot) (doing origin spot) (place.Doing origin rest) s turns.0
        (is_doing origin rest spot has) turns.1 refl
    turns_on _ _ at turns = absurd turns
