-- Each event in a transition is what comes next.
use Rattle.std.proofs.Common.{◌≡◌, ◌∙◌, ◌+◌, ℕ, Bool, true, false, IfSome, List, [], ◌∷◌, None, Some, Option, Result, Ok, ap, length, nat_eq, nat_lt, ne_eqb, refl, subst, sym}
use Rattle.std.proofs.lemmas.Bool.{lt-ltb}
use Rattle.port_model.specs.History.{IsLegal, PortEvent, PortStep, Reset, Set, Stop}
use Rattle.port_model.specs.Port.{PortState, remove_from, set_in, stopped}
use Rattle.port_model.specs.declared.values.pid.Pid.TheVariants.{Of}
use Rattle.port_model.specs.declared.plain_port.TheConstants.{MOST_SETS}
use Rattle.port_model.specs.declared.values.item.SignalId.{SignalId}
use Rattle.port_model.specs.declared.values.timer_key.TimerKey.{TimerKey}
use Rattle.port_model.specs.declared.values.value.Value.{Value}
use Rattle.run_record.specs.Environment.{environment}
use Rattle.run_record.specs.Value.{at_place, key_at, value_of, values_at}
use Rattle.run_record.specs.declared.evaluation.store.Store.{Store}
use Rattle.run_record.specs.Event as event
use Rattle.run_record.specs.Event.{Event}
use Rattle.run_record.specs.declared.failure.Failure.{Failure}
use Rattle.run_record.specs.declared.failure.Failure.TheVariants.{SetsSpent, Undefined}
use Rattle.run_semantics.specs.Effect.{Effect, Arm, Send}
use Rattle.run_semantics.specs.Fails.{parameters_of, sent_by, set_by}
use Rattle.run_semantics.specs.Leads.{Assigns, Creates, Happens, Sends, Sets, created, offspring_of}
use Rattle.run_semantics.specs.ControlPoint as place
use Rattle.run_semantics.specs.ControlPoint.{IsState, ControlPoint}
use Rattle.run_semantics.specs.Reception.{assigned, sort_in}
use Rattle.run_semantics.specs.World.{Living, IsNumber, IsRoute, IsRouteBy, WorldValue, number_for}
use Rattle.sdl_system.specs.Body as body
use Rattle.sdl_system.specs.Body.{Action, Assigning, Body, Sending, Setting, Terminator, Timing, Whither}
use Rattle.sdl_system.specs.Route.{target_in}
use Rattle.sdl_system.specs.Table.{Has, action_of, terminator_of}
use Rattle.sdl_system.specs.Term.{Term}
use Rattle.sdl_system.specs.declared.id.NodeId.{NodeId}
use Rattle.sdl_system.specs.declared.id.ProcessId.{ProcessId}
use Rattle.sdl_system.specs.declared.id.StateId.{StateId}
use Rattle.sdl_system.specs.declared.id.VariableId.{VariableId}
use Rattle.sdl_system.specs.declared.route.Dest.{Dest}
use Rattle.sdl_system.specs.declared.route.Source.TheVariants as source
use Rattle.sdl_system.specs.declared.route.Target.{Target}
use Rattle.sdl_system.specs.declared.statement.Statement.{Statement}
use Rattle.sdl_system.specs.declared.statement.Statement.TheVariants as kind
use Rattle.laws_one_step.proofs.Next.{Frame, IsAt, Next, Site, acts, amid, at_head, at_node, at_state, did, doing, ending, ends, entering, failing, head_of, is_amid, is_doing, is_over, is_state, made, next_of, node_at, nothing, on_option, on_result, on_test, over, reached, sent, set_at, set_or_spent}
use Rattle.laws_one_step.proofs.Ways.{at_is}

-- the event is what comes next, and leads to a place that is known
pub record Comes (f : Frame) (w : WorldValue) (site : Site) (s : Store) (q : PortState) (happened : Event)
    (done : List Effect) (to : ControlPoint) (t : Store) (r : PortState) : Type 0 where
  pub after : Site
  pub at : IsAt f.nodes f.marks to after
  pub is : next_of f w site s q ≡ did happened done after t r

-- ---- words

pub on_ok : {A : Type 0} (r : Result A Failure) (value : A) (wrong : Failure → Next) (right : A → Next) → r ≡ Ok value
    → on_result r wrong right ≡ right value
on_ok r value wrong right is = ap (λ x. on_result x wrong right) is

pub on_some : {A : Type 0} (o : Option A) (value : A) (none : Next) (some : A → Next) → o ≡ Some value
    → on_option o none some ≡ some value
on_some o value none some is = ap (λ x. on_option x none some) is

pub on_true : (b : Bool) (met unmet : Next) → b ≡ true → on_test b met unmet ≡ met
on_true b met unmet is = ap (λ x. on_test x met unmet) is

pub on_false : (b : Bool) (met unmet : Next) → b ≡ false → on_test b met unmet ≡ unmet
on_false b met unmet is = ap (λ x. on_test x met unmet) is

pub did_same : (e e' : Event) (a a' : List Effect) (site : Site) (t t' : Store) (r r' : PortState) → e' ≡ e → a' ≡ a
    → t' ≡ t → r' ≡ r → did e a site t r ≡ did e' a' site t' r'
did_same e e' a a' site t t' r r' is_event are_effects is_store is_port = cc

pub no_calls : (q r : PortState) (calls : List PortEvent) → calls ≡ [] → IsLegal q calls r → r ≡ q
no_calls q r calls none legal = subst (λ c. IsLegal q c r) none legal

-- what a lone call makes of a port
pub one_call : (q r : PortState) (calls : List PortEvent) (call : PortEvent) → calls ≡ call ∷ [] → IsLegal q calls r
    → PortStep q call r
one_call q r calls call one legal =
    let is : IsLegal q (call ∷ []) r = subst (λ c. IsLegal q c r) one legal in
    subst (λ x. PortStep q call x) (sym is.2) is.1

-- ---- where a body has

pub head_acts : (statement : Statement) (action : Action) → action_of statement ≡ Some action
    → head_of statement ≡ acts action
head_acts (kind.Task list) action is = cc
head_acts (kind.Output sends) action is = cc
head_acts (kind.Set list) action is = cc
head_acts (kind.Reset list) action is = cc
head_acts (kind.Create creation) action is = cc
head_acts (kind.Decision asked) action is = let wrong : ⊥ = cc in absurd wrong
head_acts (kind.Join label) action is = let wrong : ⊥ = cc in absurd wrong
head_acts (kind.NextState state) action is = let wrong : ⊥ = cc in absurd wrong
head_acts kind.SameState action is = let wrong : ⊥ = cc in absurd wrong
head_acts kind.Stop action is = let wrong : ⊥ = cc in absurd wrong

pub head_ends : (statement : Statement) (terminator : Terminator) → terminator_of statement ≡ Some terminator
    → head_of statement ≡ ends terminator
head_ends (kind.Task list) terminator is = let wrong : ⊥ = cc in absurd wrong
head_ends (kind.Output sends) terminator is = let wrong : ⊥ = cc in absurd wrong
head_ends (kind.Set list) terminator is = let wrong : ⊥ = cc in absurd wrong
head_ends (kind.Reset list) terminator is = let wrong : ⊥ = cc in absurd wrong
head_ends (kind.Create creation) terminator is = let wrong : ⊥ = cc in absurd wrong
head_ends (kind.Decision asked) terminator is = let wrong : ⊥ = cc in absurd wrong
head_ends (kind.Join label) terminator is = cc
head_ends (kind.NextState state) terminator is = cc
head_ends kind.SameState terminator is = cc
head_ends kind.Stop terminator is = cc

-- what comes next where a path ends
pub ends_next : (f : Frame) (w : WorldValue) (origin : Option StateId) (terminator : Terminator) (at : Option NodeId)
    (s : Store) (q : PortState) → Has f.nodes f.marks at (body.ending terminator) None
    → next_of f w (doing origin at) s q ≡ ending f origin s q terminator
ends_next f w origin terminator at s q has =
    on_some (node_at f.nodes at) (record { statement = has.statement; next = has.next }) nothing (at_node f origin s q)
    (at_is f.nodes at has.statement has.next has.at)
    ∙ ap (λ head. at_head f origin s q has.next head) (head_ends has.statement terminator has.ends)

-- ---- events of statements

module _ (f : Frame) (w : WorldValue) (s : Store) (q : PortState) (calls : List PortEvent) (done : List Effect)
    (to : ControlPoint)
    (t : Store) (r : PortState) (legal : IsLegal q calls r) where
  pub assigns : (origin : Option StateId) (one : Assigning) (more : List Assigning) (rest : Body) (spot : Option NodeId)
      (variable : VariableId) (value : Value) → Has f.nodes f.marks spot rest None
      → Happens f.d f.who q (place.Amid origin (body.task (one ∷ more)) rest) s (event.Task variable value) calls done
      to t
      → Comes f w (amid origin (body.task (one ∷ more)) spot) s q (event.Task variable value) done to t r
  assigns origin one more rest spot variable value has h =
      let assigns : Assigns f.d f.who q one s variable value t = h.3 in
      let meant : at_place (sort_in f.d.behaviour one.variable) (value_of (environment f.d.system f.who s q) one.value)
      ≡ Ok value = ap (λ v. at_place (sort_in f.d.behaviour v) (value_of (environment f.d.system f.who s q)
      one.value))
      (sym assigns.is) ∙ assigns.evaluated in
      let site : Site = amid origin (body.task more) spot in
      record {
        after = site;
        at = subst (λ p. IsAt f.nodes f.marks p site) (sym h.2) (is_amid origin (body.task more) rest spot has);
        is = on_ok (at_place (sort_in f.d.behaviour one.variable)
            (value_of (environment f.d.system f.who s q) one.value)) value (failing s q)
            (λ v. did (event.Task one.variable v) [] site (assigned one.variable v s) q) meant
            ∙ did_same (event.Task one.variable value) (event.Task variable value) [] done site
            (assigned one.variable value s) t q r
            (ap (λ v. event.Task v value) assigns.is) h.1
            (assigns.store ∙ ap (λ v. assigned v value s) assigns.is) (no_calls q r calls h.0 legal);
      }

  pub sends : (origin : Option StateId) (one : Sending) (more : List Sending) (whom : Option Whither) (rest : Body)
      (spot : Option NodeId) (signal : SignalId) (named : Dest) (values : List Value) (target : Target)
      (living : Living) → w.living ≡ Some living → IsRoute f.d.system w signal f.who.process named target
      → Has f.nodes f.marks spot rest None
      → Happens f.d f.who q (place.Amid origin (body.output (one ∷ more) whom) rest) s
      (event.Output signal named values target) calls done to t
      → Comes f w (amid origin (body.output (one ∷ more) whom) spot) s q (event.Output signal named values target) done
      to t r
  sends origin one more whom rest spot signal named values target living known route has h =
      let sends : Sends f.d f.who q whom one s signal named values target done = h.3 in
      let site : Site = amid origin (body.output more whom) spot in
      let routed : target ≡ target_in f.d.system.routes signal (source.Process f.who.process) named living.least =
      subst (λ o. IsRouteBy f.d.system o signal f.who.process named target) known route in
      let aim : target ≡ reached f w living one named =
      routed
      ∙ ap (λ x. target_in f.d.system.routes x (source.Process f.who.process) named living.least) sends.is in
      record {
        after = site;
        at = subst (λ p. IsAt f.nodes f.marks p site) (sym h.1)
            (is_amid origin (body.output more whom) rest spot has);
        is = on_ok (sent_by f.d.system (environment f.d.system f.who s q) whom one) (named, values) (failing s q)
            (λ pair. on_option w.living nothing (sent f w site s q one pair.0 pair.1)) sends.evaluated
            ∙ on_some w.living living nothing (sent f w site s q one named values) known
            ∙ did_same (event.Output one.signal named values (reached f w living one named))
            (event.Output signal named values target)
            (Send (reached f w living one named)
            (record { name = one.signal; values = values; sender = Of f.who.pid }) ∷ []) done site s t q r
            (ap (λ x. event.Output x named values target) sends.is
            ∙ ap (λ x. event.Output one.signal named values x) aim)
            (sends.effects_are
            ∙ ap (λ x. Send target (record { name = x; values = values; sender = Of f.who.pid }) ∷ []) sends.is
            ∙ ap (λ x. Send x (record { name = one.signal; values = values; sender = Of f.who.pid }) ∷ []) aim)
            h.2 (no_calls q r calls h.0 legal);
      }

  pub sets : (origin : Option StateId) (one : Setting) (more : List Setting) (rest : Body) (spot : Option NodeId)
      (key : TimerKey) (due : ℕ) → Has f.nodes f.marks spot rest None
      → Happens f.d f.who q (place.Amid origin (body.set (one ∷ more)) rest) s (event.Set key due) calls done to t
      → Comes f w (amid origin (body.set (one ∷ more)) spot) s q (event.Set key due) done to t r
  sets origin one more rest spot key due has h =
      let sets : Sets f.d f.who q one s key due calls done = h.2 in
      let site : Site = amid origin (body.set more) spot in
      let step : PortStep q (Set key due (q.sets + 1)) r =
      one_call q r calls (Set key due (q.sets + 1)) sets.calls_are legal in
      record {
        after = site;
        at = subst (λ p. IsAt f.nodes f.marks p site) (sym h.0) (is_amid origin (body.set more) rest spot has);
        is = on_ok (set_by (environment f.d.system f.who s q) one) (due, key) (failing s q)
            (λ at. set_or_spent f site s q at.0 at.1) sets.evaluated
            ∙ on_false (nat_eq q.sets MOST_SETS) (failing s q SetsSpent) (set_at f site s q due key)
            (ne_eqb q.sets MOST_SETS sets.numbered)
            ∙ did_same (event.Set key due) (event.Set key due)
            (Arm (record { pid = f.who.pid; key = key; arm = q.sets + 1; due = due }) ∷ []) done site s t
            (set_in q key due) r refl sets.effects_are h.1 step.2;
      }

  pub resets : (origin : Option StateId) (one : Timing) (more : List Timing) (rest : Body) (spot : Option NodeId)
      (key : TimerKey) → Has f.nodes f.marks spot rest None
      → Happens f.d f.who q (place.Amid origin (body.reset (one ∷ more)) rest) s (event.Reset key) calls done to t
      → Comes f w (amid origin (body.reset (one ∷ more)) spot) s q (event.Reset key) done to t r
  resets origin one more rest spot key has h =
      let site : Site = amid origin (body.reset more) spot in
      let step : PortStep q (Reset key) r = one_call q r calls (Reset key) h.0 legal in
      record {
        after = site;
        at = subst (λ p. IsAt f.nodes f.marks p site) (sym h.2) (is_amid origin (body.reset more) rest spot has);
        is = on_ok (key_at (environment f.d.system f.who s q) one.timer one.values) key (failing s q)
            (λ key. did (event.Reset key) [] site s (remove_from q key)) h.4
            ∙ did_same (event.Reset key) (event.Reset key) [] done site s t (remove_from q key) r refl h.1 h.3 step.1;
      }

  pub creates : (origin : Option StateId) (process : ProcessId) (terms : List Term) (rest : Body) (spot : Option NodeId)
      (given : ProcessId) (number : Option ℕ) (living : Living) → w.living ≡ Some living → IsNumber w given number
      → Has f.nodes f.marks spot rest None
      → Happens f.d f.who q (place.Amid origin (body.create process terms) rest) s (event.Create given number) calls
      done to t
      → Comes f w (amid origin (body.create process terms) spot) s q (event.Create given number) done to t r
  creates origin process terms rest spot given number living known is_number has h =
      let creates : Creates f.d f.who q process terms s number done t = h.3 in
      let site : Site = doing origin spot in
      let next : number ≡ number_for w.system living given =
      subst (λ o. IfSome o (λ living. number ≡ number_for w.system living given)) known is_number in
      let is_next : number ≡ number_for w.system living process =
      next ∙ ap (λ p. number_for w.system living p) h.1 in
      record {
        after = site;
        at = subst (λ p. IsAt f.nodes f.marks p site) (sym h.2) (is_doing origin rest spot has);
        is = on_ok (values_at (environment f.d.system f.who s q) (parameters_of f.d.system process) terms)
            creates.values (failing s q)
            (λ values. on_option w.living nothing (made f w site s q process values)) creates.evaluated
            ∙ on_some w.living living nothing (made f w site s q process creates.values) known
            ∙ did_same (event.Create process (number_for w.system living process)) (event.Create given number)
            (created process f.who.pid creates.values (number_for w.system living process)) done site
            (record s { offspring = offspring_of (number_for w.system living process) }) t q r
            (ap (λ p. event.Create p number) h.1 ∙ ap (λ n. event.Create process n) is_next)
            (creates.effects_are ∙ ap (λ n. created process f.who.pid creates.values n) is_next)
            (creates.store ∙ ap (λ n. record s { offspring = offspring_of n }) is_next)
            (no_calls q r calls h.0 legal);
      }

  -- ---- events at the end of a path

  pub enters : (n given : StateId) (site : Site) → next_of f w site s q ≡ entering f s q n → calls ≡ [] → done ≡ []
      → given ≡ n → to ≡ place.In n → t ≡ s → IsState f.d n
      → Comes f w site s q (event.NextState given) done to t r
  enters n given site leads none undone is place store there = record {
    after = at_state n;
    at = subst (λ p. IsAt f.nodes f.marks p (at_state n)) (sym place) (is_state n);
    is = leads
        ∙ on_true (nat_lt n.0 (length f.d.behaviour.states)) (did (event.NextState n) [] (at_state n) s q)
        (failing s q Undefined) (lt-ltb n.0 (length f.d.behaviour.states) there)
        ∙ did_same (event.NextState n) (event.NextState given) [] done (at_state n) s t q r (ap event.NextState is)
        undone store (no_calls q r calls none legal);
  }

  pub stops : (origin : Option StateId) (spot : Option NodeId) → Has f.nodes f.marks spot (body.ending body.stop) None
      → Happens f.d f.who q (place.Doing origin (body.ending body.stop)) s event.Stop calls done to t
      → Comes f w (doing origin spot) s q event.Stop done to t r
  stops origin spot has h =
      let step : PortStep q Stop r = one_call q r calls Stop h.0 legal in
      record {
        after = over;
        at = subst (λ p. IsAt f.nodes f.marks p over) (sym h.2) is_over;
        is = ends_next f w origin body.stop spot s q has
            ∙ did_same event.Stop event.Stop [] done over s t (stopped q) r refl h.1 h.3 step.1;
      }
