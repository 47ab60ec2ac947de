-- A failure of a transition for a cause is what comes next.
use Rattle.std.proofs.Common.{◌≡◌, ◌⊎◌, ◌∙◌, ◌<◌, ◌≤◌, ℕ, Bool, true, false, List, [], ◌∷◌, None, Some, Option, Result, Ok, Err, ap, arith, eq-eqb, inl, inr, length, nat_eq, nat_lt, refl, subst, sym}
use Rattle.std.proofs.lemmas.Bool.{lt-ltb}
use Rattle.port_model.specs.History.{IsLegal, PortEvent, PortStep, Stop}
use Rattle.port_model.specs.Port.{PortState, remove_from, stopped}
use Rattle.port_model.specs.declared.plain_port.TheConstants.{MOST_SETS}
use Rattle.port_model.specs.declared.values.value.Value.{Value}
use Rattle.run_record.specs.Environment.{environment}
use Rattle.run_record.specs.Value.{at_place, key_at, placed, value_of, values_at}
use Rattle.run_record.specs.declared.evaluation.identity.Identity.{Identity}
use Rattle.run_record.specs.declared.evaluation.store.Store.{Store}
use Rattle.run_record.specs.Event as event
use Rattle.run_record.specs.declared.failure.Failure.{Failure}
use Rattle.run_record.specs.declared.failure.Failure.TheVariants.{NoAnswer, SetsSpent, TooLong, Undefined}
use Rattle.run_semantics.specs.Effect.{Effect}
use Rattle.run_semantics.specs.Fails.{Fails, HasCause, HasNoAnswer, IsSpent, IsTooLong, most_statements, parameters_of, sent_by, set_by}
use Rattle.run_semantics.specs.Leads.{Happens}
use Rattle.run_semantics.specs.ControlPoint.{Amid, AtStart, Closed, Definition, Doing, Ended, In, IsState, ControlPoint, Receiving}
use Rattle.run_semantics.specs.Reception.{assigned, sort_in}
use Rattle.run_semantics.specs.World.{WorldValue}
use Rattle.sdl_system.specs.Body as body
use Rattle.sdl_system.specs.Body.{Action, Body, Parts, Setting, chosen}
use Rattle.sdl_system.specs.Table.{ActsAt, AsksAt, Has, way_of}
use Rattle.sdl_system.specs.Term.{Term, term_of}
use Rattle.sdl_system.specs.declared.id.NodeId.{NodeId}
use Rattle.sdl_system.specs.declared.id.StateId.{StateId}
use Rattle.sdl_system.specs.declared.statement.Decision.{Decision}
use Rattle.sdl_system.specs.declared.statement.Node.{Node}
use Rattle.sdl_system.specs.declared.statement.Statement.TheVariants as kind
use Rattle.sdl_system.specs.declared.statement.Way.{Way}
use Rattle.laws_one_step.proofs.Inner.{Comes, did_same, ends_next, head_acts, on_false, on_ok, on_some, on_true, one_call}
use Rattle.laws_one_step.proofs.Next.{Frame, IsAt, Next, Site, amid, at_head, at_node, counting, deciding, did, doing, entering, failing, is_amid, is_doing, is_over, is_receiving, made, mark_of, next_of, node_at, nothing, on_option, on_result, over, receiving, sent, set_at, set_or_spent, turned}
use Rattle.laws_one_step.proofs.Next as next
use Rattle.laws_one_step.proofs.Ways.{GoesOn, at_is, decides}
use Rattle.laws_one_step.specs.Unique.{is_want}

-- ---- what a failure says

-- whatever stands at the place
pub failed_so : (d : Definition) (who : Identity) (q : PortState) (at : ControlPoint) (s : Store) (why : Failure)
    (calls : List PortEvent) (done : List Effect) (to : ControlPoint) (t : Store)
    → Happens d who q at s (event.Failed why) calls done to t
    → (calls ≡ Stop ∷ []) × (done ≡ []) × Fails d who q at s why × (to ≡ Ended) × (t ≡ s)
failed_so d who q AtStart s why calls done to t h = h
failed_so d who q (In n) s why calls done to t h = h
failed_so d who q (Receiving origin variables values rest) s why calls done to t h = h
failed_so d who q (Doing origin body.nothing) s why calls done to t h = h
failed_so d who q (Doing origin (body.action first rest)) s why calls done to t h = h
failed_so d who q (Doing origin (body.decision question parts rest)) s why calls done to t h = h
failed_so d who q (Doing origin (body.label number rest)) s why calls done to t h = h
failed_so d who q (Doing origin (body.ending (body.join label))) s why calls done to t h = h
failed_so d who q (Doing origin (body.ending (body.to_state n))) s why calls done to t h = h
failed_so d who q (Doing None (body.ending body.to_same)) s why calls done to t h = h
failed_so d who q (Doing (Some n) (body.ending body.to_same)) s why calls done to t h = h
failed_so d who q (Doing origin (body.ending body.stop)) s why calls done to t h = h
failed_so d who q (Amid origin (body.task []) rest) s why calls done to t h = h
failed_so d who q (Amid origin (body.task (one ∷ more)) rest) s why calls done to t h = h
failed_so d who q (Amid origin (body.output [] whom) rest) s why calls done to t h = h
failed_so d who q (Amid origin (body.output (one ∷ more) whom) rest) s why calls done to t h = h
failed_so d who q (Amid origin (body.set []) rest) s why calls done to t h = h
failed_so d who q (Amid origin (body.set (one ∷ more)) rest) s why calls done to t h = h
failed_so d who q (Amid origin (body.reset []) rest) s why calls done to t h = h
failed_so d who q (Amid origin (body.reset (one ∷ more)) rest) s why calls done to t h = h
failed_so d who q (Amid origin (body.create process terms) rest) s why calls done to t h = h
failed_so d who q Ended s why calls done to t h = h
failed_so d who q Closed s why calls done to t h = h

-- ---- words

pub on_err : {A : Type 0} (r : Result A Failure) (why : Failure) (wrong : Failure → Next) (right : A → Next)
    → r ≡ Err why → on_result r wrong right ≡ wrong why
on_err r why wrong right is = ap (λ x. on_result x wrong right) is

pub on_none : {A : Type 0} (o : Option A) (none : Next) (some : A → Next) → o ≡ None → on_option o none some ≡ none
on_none o none some is = ap (λ x. on_option x none some) is

not_below : (a b : ℕ) → (a < b → ⊥) → nat_lt a b ≡ false
not_below a b never = by_test (nat_lt a b) refl where
  by_test : (x : Bool) → nat_lt a b ≡ x → nat_lt a b ≡ false
  by_test true is = absurd (never (grind arith))
  by_test false is = is

not_above : (a b : ℕ) → b ≤ a → nat_lt a b ≡ false
not_above a b least = not_below a b (λ less. omega (arith, less, least))

too_long : (s : Store) (q : PortState) (why : Failure) (go : Store → Next) → IsTooLong s why
    → counting s q go ≡ failing s q why
too_long s q why go long =
    on_false (nat_lt s.done most_statements) (go (next.counted s)) (failing s q TooLong)
    (not_above s.done most_statements long.1)
    ∙ ap (λ x. failing s q x) (sym long.0)

pub counts_on : (s : Store) (q : PortState) (go : Store → Next) → s.done < most_statements
    → counting s q go ≡ go (next.counted s)
counts_on s q go less =
    on_true (nat_lt s.done most_statements) (go (next.counted s)) (failing s q TooLong)
    (lt-ltb s.done most_statements less)

-- ---- decisions

-- where the value takes no part there is no way
no_way : (nodes : List Node) (marks : List (Option NodeId)) (rest : Body) (way : Option Way) (part : Option Body)
    → GoesOn nodes marks rest way part → part ≡ None → way ≡ None
no_way nodes marks rest None part goes none = refl
no_way nodes marks rest (Some way) None goes none = absurd goes
no_way nodes marks rest (Some way) (Some part) goes none = let wrong : ⊥ = cc in absurd wrong

module _ (f : Frame) (w : WorldValue) (s : Store) (q : PortState) where
  -- what comes next at a decision
  pub asks_next : (origin : Option StateId) (asked : Decision) (question : Term) (at after : Option NodeId)
      → AsksAt f.nodes at asked question after
      → next_of f w (doing origin at) s q ≡ counting s q (deciding f origin s q asked)
  asks_next origin asked question at after asks =
      on_some (node_at f.nodes at) (record { statement = kind.Decision asked; next = after }) nothing
      (at_node f origin s q) (at_is f.nodes at (kind.Decision asked) after asks.at)

  -- and at an action
  pub acts_next : (origin : Option StateId) (action : Action) (at after : Option NodeId)
      → ActsAt f.nodes at action after
      → next_of f w (doing origin at) s q ≡ counting s q (turned (amid origin action after))
  acts_next origin action at after acts =
      on_some (node_at f.nodes at) (record { statement = acts.statement; next = after }) nothing
      (at_node f origin s q) (at_is f.nodes at acts.statement after acts.at)
      ∙ ap (λ head. at_head f origin s q after head) (head_acts acts.statement action acts.acts)

  -- the question fails
  pub asked_wrong : (origin : Option StateId) (asked : Decision) (question : Term) (why : Failure)
      → term_of asked.question ≡ question → value_of (environment f.d.system f.who s q) question ≡ Err why
      → s.done < most_statements → counting s q (deciding f origin s q asked) ≡ failing s q why
  asked_wrong origin asked question why asks fails less =
      counts_on s q (deciding f origin s q asked) less
      ∙ on_err (value_of (environment f.d.system f.who s q) (term_of asked.question)) why (failing s q)
      (λ value. on_option (way_of asked value) (failing s q NoAnswer)
      (λ way. turned (doing origin way.0) (next.counted s)))
      (ap (λ x. value_of (environment f.d.system f.who s q) x) asks ∙ fails)

  -- its value
  pub asked_well : (origin : Option StateId) (asked : Decision) (question : Term) (value : Value)
      → term_of asked.question ≡ question → value_of (environment f.d.system f.who s q) question ≡ Ok value
      → s.done < most_statements
      → counting s q (deciding f origin s q asked)
      ≡ on_option (way_of asked value) (failing s q NoAnswer) (λ way. turned (doing origin way.0) (next.counted s))
  asked_well origin asked question value asks is less =
      counts_on s q (deciding f origin s q asked) less
      ∙ on_ok (value_of (environment f.d.system f.who s q) (term_of asked.question)) value (failing s q)
      (λ value. on_option (way_of asked value) (failing s q NoAnswer)
      (λ way. turned (doing origin way.0) (next.counted s)))
      (ap (λ x. value_of (environment f.d.system f.who s q) x) asks ∙ is)

  unanswered : (origin : Option StateId) (asked : Decision) (question : Term) (parts : Parts) (why : Failure)
      (miss : HasNoAnswer (environment f.d.system f.who s q) question parts why)
      → term_of asked.question ≡ question → way_of asked miss.value ≡ None → s.done < most_statements
      → counting s q (deciding f origin s q asked) ≡ failing s q why
  unanswered origin asked question parts why miss asks none less =
      asked_well origin asked question miss.value asks miss.asked less
      ∙ on_none (way_of asked miss.value) (failing s q NoAnswer) (λ way. turned (doing origin way.0) (next.counted s))
      none
      ∙ ap (λ x. failing s q x) (sym miss.told)

  -- ---- each place

  no_state : (n : StateId) (why : Failure) → why ≡ Undefined → (IsState f.d n → ⊥)
      → entering f s q n ≡ failing s q why
  no_state n why is none =
      on_false (nat_lt n.0 (length f.d.behaviour.states)) (did (event.NextState n) [] (next.at_state n) s q)
      (failing s q Undefined) (not_below n.0 (length f.d.behaviour.states) none)
      ∙ ap (λ x. failing s q x) (sym is)

  spent_or : (site : Site) (one : body.Setting) (why : Failure)
      → (set_by (environment f.d.system f.who s q) one ≡ Err why)
      ⊎ IsSpent (environment f.d.system f.who s q) q one why
      → next.setting_next f site s q one ≡ failing s q why
  spent_or site one why (inl fails) =
      on_err (set_by (environment f.d.system f.who s q) one) why (failing s q)
      (λ at. set_or_spent f site s q at.0 at.1) fails
  spent_or site one why (inr spent) =
      on_ok (set_by (environment f.d.system f.who s q) one) (spent.due, spent.key) (failing s q)
      (λ at. set_or_spent f site s q at.0 at.1) spent.evaluated
      ∙ on_true (nat_eq q.sets MOST_SETS) (failing s q SetsSpent) (set_at f site s q spent.due spent.key)
      (eq-eqb q.sets MOST_SETS spent.spent)
      ∙ ap (λ x. failing s q x) (sym spent.told)

  decision_wrong : (origin : Option StateId) (question : Term) (parts : Parts) (rest : Body) (at : Option NodeId)
      (why : Failure) (has : Has f.nodes f.marks at (body.decision question parts rest) None)
      → IsTooLong s why
      ⊎ ((s.done < most_statements) × (value_of (environment f.d.system f.who s q) question ≡ Err why))
      ⊎ ((s.done < most_statements) × HasNoAnswer (environment f.d.system f.who s q) question parts why)
      → counting s q (deciding f origin s q has.0) ≡ failing s q why
  decision_wrong origin question parts rest at why has (inl long) =
      too_long s q why (deciding f origin s q has.0) long
  decision_wrong origin question parts rest at why has (inr (inl fails)) =
      asked_wrong origin has.0 question why has.2.asks fails.1 fails.0
  decision_wrong origin question parts rest at why has (inr (inr miss)) =
      unanswered origin has.0 question parts why miss.1 has.2.asks
      (no_way f.nodes f.marks rest (way_of has.0 miss.1.value) (chosen miss.1.value parts)
      (decides f.nodes f.marks has.0.branches.items has.0.otherwise parts has.1 rest has.3 has.4 miss.1.value)
      miss.1.none)
      miss.0

  pub cause_next : (why : Failure) (at : ControlPoint) (site : Site) → IsAt f.nodes f.marks at site
      → HasCause f.d f.who q at s why → next_of f w site s q ≡ failing s q why
  cause_next why _ _ (is_receiving origin (Some variable ∷ variables) (value ∷ values) rest spot has) cause =
      on_err (placed (sort_in f.d.behaviour variable) value) why (failing s q)
      (λ taken. turned (receiving origin variables values spot) (assigned variable taken s)) cause
  cause_next why _ _ (is_doing origin (body.action first rest) spot has) cause =
      acts_next origin first spot has.0 has.1 ∙ too_long s q why (turned (amid origin first has.0)) cause
  cause_next why _ _ (is_doing origin (body.decision question parts rest) spot has) cause =
      asks_next origin has.0 question spot has.1 has.2 ∙ decision_wrong origin question parts rest spot why has cause
  cause_next why _ _ (is_doing origin (body.ending (body.join label)) spot has) cause =
      ends_next f w origin (body.join label) spot s q has
      ∙ too_long s q why (turned (doing origin (mark_of f.marks label))) cause
  cause_next why _ _ (is_doing origin (body.ending (body.to_state n)) spot has) cause =
      ends_next f w origin (body.to_state n) spot s q has ∙ no_state n why cause.0 cause.1
  cause_next why _ _ (is_doing None (body.ending body.to_same) spot has) cause =
      ends_next f w None body.to_same spot s q has ∙ ap (λ x. failing s q x) (sym cause)
  cause_next why _ _ (is_doing (Some n) (body.ending body.to_same) spot has) cause =
      ends_next f w (Some n) body.to_same spot s q has ∙ no_state n why cause.0 cause.1
  cause_next why _ _ (is_amid origin (body.task (one ∷ more)) rest spot has) cause =
      on_err (at_place (sort_in f.d.behaviour one.variable)
      (value_of (environment f.d.system f.who s q) one.value)) why (failing s q)
      (λ value. did (event.Task one.variable value) [] (amid origin (body.task more) spot)
      (assigned one.variable value s) q) cause
  cause_next why _ _ (is_amid origin (body.output (one ∷ more) to) rest spot has) cause =
      on_err (sent_by f.d.system (environment f.d.system f.who s q) to one) why (failing s q)
      (λ named. on_option w.living nothing
      (sent f w (amid origin (body.output more to) spot) s q one named.0 named.1)) cause
  cause_next why _ _ (is_amid origin (body.set (one ∷ more)) rest spot has) cause =
      spent_or (amid origin (body.set more) spot) one why cause
  cause_next why _ _ (is_amid origin (body.reset (one ∷ more)) rest spot has) cause =
      on_err (key_at (environment f.d.system f.who s q) one.timer one.values) why (failing s q)
      (λ key. did (event.Reset key) [] (amid origin (body.reset more) spot) s (remove_from q key)) cause
  cause_next why _ _ (is_amid origin (body.create process terms) rest spot has) cause =
      on_err (values_at (environment f.d.system f.who s q) (parameters_of f.d.system process) terms) why (failing s q)
      (λ values. on_option w.living nothing (made f w (doing origin spot) s q process values)) cause
  cause_next why _ _ at cause = absurd cause

  -- ---- the failure

  pub fails : (why : Failure) (at : ControlPoint) (site : Site) (calls : List PortEvent) (done : List Effect) (to : ControlPoint)
      (t : Store) (r : PortState) → is_want why ≡ false → IsAt f.nodes f.marks at site
      → Happens f.d f.who q at s (event.Failed why) calls done to t → IsLegal q calls r
      → Comes f w site s q (event.Failed why) done to t r
  fails why at site calls done to t r lacks is_at happens legal =
      let said = failed_so f.d f.who q at s why calls done to t happens in
      let step : PortStep q Stop r = one_call q r calls Stop said.0 legal in
      let leads : next_of f w site s q ≡ failing s q why =
      elim said.2 [
        | inl memory ↦
            (let wrong : true ≡ false = sym (ap is_want memory.0) ∙ lacks in let no : ⊥ = cc in absurd no)
        | inr cause ↦ cause_next why at site is_at cause
      ] in
      record {
        after = over;
        at = subst (λ p. IsAt f.nodes f.marks p over) (sym said.3) is_over;
        is = leads
            ∙ did_same (event.Failed why) (event.Failed why) [] done over s t (stopped q) r refl said.1 said.4 step.1;
      }
