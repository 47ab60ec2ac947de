-- What is put into a port is what was sent to it, each signal once and in the order of its sender.
use Rattle.std.proofs.Common.{◌≡◌, ◌∙◌, ◌+◌, ◌&&◌, ◌==◌, ◌++◌, ap, if◌then◌else◌, refl, subst, sym, ℕ, Bool, true, false, IfSome, List, [], ◌∷◌, None, Option, Some, nat_eq, nat_le}
use Rattle.std.proofs.lemmas.List.Elements.{All-head, All-tail}
use Rattle.port_model.specs.declared.inbox.entry.Fuse.{Fuse}
use Rattle.port_model.specs.History.{Expire, PortEvent, Put, Reset, Set, Stop, Take}
use Rattle.port_model.specs.declared.values.item.Item.{Item}
use Rattle.port_model.specs.declared.values.pid.Pid.{Pid}
use Rattle.port_model.specs.declared.values.pid.Pid.TheVariants as pid
use Rattle.serial_order.proofs.Scripts.{script_goes}
use Rattle.serial_order.specs.Execution.{Execution, Expired, Follows, Happening, Heard, Moved, Steps, Ticked, begins, goes}
use Rattle.serial_order.specs.RunState.{RunState, beginning, heard_effects}
use Rattle.serial_order.specs.Laws.{AreFromEnv, EachIsMatched}
use Rattle.serial_order.specs.Told.{Moment, effects_by, comes_by, comes_by_one, expiry_by, first_moment, from, history_from, history_of_one, is_from, is_there, lines_of_one, moment_after, put_by, puts_of, sends_from}
use Rattle.run_record.specs.declared.evaluation.identity.Identity.{Identity}
use Rattle.run_record.specs.Event as event
use Rattle.run_record.specs.Event.{Event}
use Rattle.run_semantics.proofs.Acting.{AreActs, AreActsOf, runs_effects}
use Rattle.run_semantics.specs.Effect.{Effect, Arm, Create, Deed, Send, effects_of, calls_of}
use Rattle.run_semantics.specs.Leads.{created}
use Rattle.run_semantics.specs.ControlPoint.{Definition}
use Rattle.run_semantics.specs.Runs.{own_of}
use Rattle.sdl_script.specs.declared.script.ScriptLine.{ScriptLine}
use Rattle.sdl_script.specs.declared.script.ScriptSignal.{ScriptSignal}
use Rattle.sdl_interp.specs.Machine.{place_of}
use Rattle.sdl_system.specs.Behaviour.{Behaviour}
use Rattle.sdl_system.specs.System.{SystemValue}
use Rattle.sdl_system.specs.declared.id.ProcessId.{ProcessId}
use Rattle.sdl_system.specs.declared.route.Target.{Target}
use Rattle.sdl_system.specs.declared.route.Target.TheVariants.{Env, Instance, Nobody, Null}
use Rattle.port_model.specs.declared.values.value.Value.{Value}

-- ---- puts and senders

puts_of-append : (first later : List PortEvent) → puts_of (first ++ later) ≡ puts_of first ++ puts_of later
puts_of-append [] later = refl
puts_of-append (Put item ∷ rest) later = ap (λ (items : List Item). item ∷ items) (puts_of-append rest later)
puts_of-append (Expire key arm due at ∷ rest) later = puts_of-append rest later
puts_of-append (Take classes taken ∷ rest) later = puts_of-append rest later
puts_of-append (Set key due arm ∷ rest) later = puts_of-append rest later
puts_of-append (Reset key ∷ rest) later = puts_of-append rest later
puts_of-append (Stop ∷ rest) later = puts_of-append rest later

-- an owner's calls put nothing
own_puts : (history : List PortEvent) → puts_of (own_of history) ≡ []
own_puts [] = refl
own_puts (Put item ∷ rest) = own_puts rest
own_puts (Expire key arm due at ∷ rest) = own_puts rest
own_puts (Take classes taken ∷ rest) = own_puts rest
own_puts (Set key due arm ∷ rest) = own_puts rest
own_puts (Reset key ∷ rest) = own_puts rest
own_puts (Stop ∷ rest) = own_puts rest

from-append : (one : Pid) (first later : List Item) → from one (first ++ later) ≡ from one first ++ from one later
from-append one [] later = refl
from-append one (item ∷ rest) later = by_test (is_from one item.sender) (from-append one rest later) where
  by_test : (b : Bool) → from one (rest ++ later) ≡ from one rest ++ from one later
      → (if b then item ∷ from one (rest ++ later) else from one (rest ++ later))
      ≡ (if b then item ∷ from one rest else from one rest) ++ from one later
  by_test true more = ap (λ (items : List Item). item ∷ items) more
  by_test false more = more

-- the signals of one sender
abbrev AreOf : Pid → List Item → Type 0
AreOf sender [] = Unit {0}
AreOf sender (item ∷ rest) = (item.sender ≡ sender) × AreOf sender rest

AreOf-append : (sender : Pid) (first later : List Item) → AreOf sender first → AreOf sender later
    → AreOf sender (first ++ later)
AreOf-append sender [] later are more = more
AreOf-append sender (item ∷ rest) later are more = (are.0, AreOf-append sender rest later are.1 more)

all_from : (one sender : Pid) (items : List Item) → AreOf sender items → is_from one sender ≡ true
    → from one items ≡ items
all_from one sender [] are same = refl
all_from one sender (item ∷ rest) are same =
    ap (λ (b : Bool). if b then item ∷ from one rest else from one rest)
    (ap (λ (p : Pid). is_from one p) are.0 ∙ same)
    ∙ ap (λ (items : List Item). item ∷ items) (all_from one sender rest are.1 same)

none_from : (one sender : Pid) (items : List Item) → AreOf sender items → is_from one sender ≡ false
    → from one items ≡ []
none_from one sender [] are other = refl
none_from one sender (item ∷ rest) are other =
    ap (λ (b : Bool). if b then item ∷ from one rest else from one rest)
    (ap (λ (p : Pid). is_from one p) are.0 ∙ other)
    ∙ none_from one sender rest are.1 other

-- ---- what comes by the acts of one sender

-- these acts send signals of this sender alone
abbrev AreSentBy : Pid → List Effect → Type 0
AreSentBy sender [] = Unit {0}
AreSentBy sender (Send target item ∷ rest) = (item.sender ≡ sender) × AreSentBy sender rest
AreSentBy sender (Arm fuse ∷ rest) = AreSentBy sender rest
AreSentBy sender (Create id number parent values ∷ rest) = AreSentBy sender rest

AreSentBy-append : (sender : Pid) (first later : List Effect) → AreSentBy sender first → AreSentBy sender later
    → AreSentBy sender (first ++ later)
AreSentBy-append sender [] later are more = more
AreSentBy-append sender (Send target item ∷ rest) later are more =
    (are.0, AreSentBy-append sender rest later are.1 more)
AreSentBy-append sender (Arm fuse ∷ rest) later are more = AreSentBy-append sender rest later are more
AreSentBy-append sender (Create id number parent values ∷ rest) later are more =
    AreSentBy-append sender rest later are more

put_of : (sender : Pid) (n : ℕ) (target : Target) (item : Item) → item.sender ≡ sender
    → AreOf sender (puts_of (put_by n target item))
put_of sender n (Instance number) item is = by_test (nat_eq number n) where
  by_test : (b : Bool) → AreOf sender (puts_of (if b then Put item ∷ [] else []))
  by_test true = (is, tt)
  by_test false = tt
put_of sender n Env item is = tt
put_of sender n Null item is = tt
put_of sender n Nobody item is = tt

if_there : (sender : Pid) (b : Bool) (history : List PortEvent) → AreOf sender (puts_of history)
    → AreOf sender (puts_of (if b then history else []))
if_there sender true history are = are
if_there sender false history are = tt

-- an expiry puts nothing
no_put : (n at : ℕ) (fuse : Fuse) (b : Bool) → puts_of (if b then expiry_by n at fuse else []) ≡ []
no_put n at fuse false = refl
no_put n at fuse true = by_test (nat_eq fuse.pid n) where
  by_test : (b : Bool) → puts_of (if b then Expire fuse.key fuse.arm fuse.due at ∷ [] else []) ≡ []
  by_test true = refl
  by_test false = refl

come_of : (sender : Pid) (n : ℕ) (now : Moment) (done : List Effect) → AreSentBy sender done
    → AreOf sender (puts_of (comes_by n now done))
come_of sender n now [] are = tt
come_of sender n now (Send target item ∷ rest) are =
    let here : List PortEvent = comes_by_one n now (Send target item) in
    subst (λ (items : List Item). AreOf sender items) (sym (puts_of-append here (comes_by n now rest)))
    (AreOf-append sender (puts_of here) (puts_of (comes_by n now rest))
    (if_there sender (is_there n now) (put_by n target item) (put_of sender n target item are.0))
    (come_of sender n now rest are.1))
come_of sender n now (Arm fuse ∷ rest) are =
    let here : List PortEvent = comes_by_one n now (Arm fuse) in
    let none : puts_of here ≡ [] = no_put n now.clock fuse (is_there n now && nat_le fuse.due now.clock) in
    subst (λ (items : List Item). AreOf sender items)
    (sym (puts_of-append here (comes_by n now rest)
    ∙ ap (λ (items : List Item). items ++ puts_of (comes_by n now rest)) none))
    (come_of sender n now rest are)
come_of sender n now (Create id number parent values ∷ rest) are =
    come_of sender n (record now { given = now.given + 1 }) rest are

-- ---- the acts of an instance

created_sent : (sender : Pid) (id : ProcessId) (parent : ℕ) (values : List Value) (number : Option ℕ)
    → AreSentBy sender (created id parent values number)
created_sent sender id parent values None = tt
created_sent sender id parent values (Some number) = tt

module _ (n : ℕ) where
  none_sent : (done : List Effect) → done ≡ [] → AreSentBy (pid.Of n) done
  none_sent done none = subst (λ (list : List Effect). AreSentBy (pid.Of n) list) (sym none) tt

  event_sent : (e : Event) (done : List Effect) → AreActsOf n e done → AreSentBy (pid.Of n) done
  event_sent (event.Output signal named values target) done are =
      subst (λ (list : List Effect). AreSentBy (pid.Of n) list) (sym are.1) (are.2, tt)
  event_sent (event.Set key due) done are = subst (λ (list : List Effect). AreSentBy (pid.Of n) list) (sym are.1) tt
  event_sent (event.Create id number) done are =
      subst (λ (list : List Effect). AreSentBy (pid.Of n) list) (sym are.1) (created_sent (pid.Of n) id n are.0 number)
  event_sent (event.Start at) done are = none_sent done are
  event_sent (event.Consumed at got) done are = none_sent done are
  event_sent (event.Prior at got) done are = none_sent done are
  event_sent (event.Discarded at got) done are = none_sent done are
  event_sent (event.Provided at number) done are = none_sent done are
  event_sent (event.FailedAt at why) done are = none_sent done are
  event_sent (event.Task variable value) done are = none_sent done are
  event_sent (event.Reset key) done are = none_sent done are
  event_sent (event.NextState state) done are = none_sent done are
  event_sent event.Stop done are = none_sent done are
  event_sent (event.Failed why) done are = none_sent done are
  event_sent (event.Rest state) done are = none_sent done are
  event_sent (event.Cut state) done are = none_sent done are

  deeds_sent : (deeds : List Deed) → AreActs n deeds → AreSentBy (pid.Of n) (effects_of deeds)
  deeds_sent [] are = tt
  deeds_sent (deed ∷ rest) are =
      AreSentBy-append (pid.Of n) deed.effects (effects_of rest) (event_sent deed.event deed.effects are.0)
      (deeds_sent rest are.1)

-- ---- one happening

-- An instance puts nothing by its own calls, and sends in its own name; a line's signal comes from the environment.
abbrev IsOwn : Happening → Type 0
IsOwn (Moved who deeds) = (puts_of (calls_of deeds) ≡ []) × AreSentBy (pid.Of who.pid) (effects_of deeds)
IsOwn (Heard line done) = AreSentBy pid.Env done
IsOwn (Expired fuse) = Unit {0}
IsOwn (Ticked time) = Unit {0}

none_put : (b : Bool) (calls : List PortEvent) → puts_of calls ≡ [] → puts_of (if b then calls else []) ≡ []
none_put true calls none = none
none_put false calls none = refl

module _ (n : ℕ) (now : Moment) where
  moved_puts : (who : Identity) (deeds : List Deed) → IsOwn (Moved who deeds)
      → puts_of (history_of_one n now (Moved who deeds)) ≡ puts_of (comes_by n now (effects_of deeds))
  moved_puts who deeds own =
      let calls : List PortEvent = if who.pid == n then calls_of deeds else [] in
      let comes : List PortEvent = comes_by n now (effects_of deeds) in
      puts_of-append calls comes
      ∙ ap (λ (items : List Item). items ++ puts_of comes) (none_put (nat_eq who.pid n) (calls_of deeds) own.0)

  moved_none : (sender : Pid) (who : Identity) (deeds : List Deed) → IsOwn (Moved who deeds)
      → is_from sender (pid.Of who.pid) ≡ false → from sender (puts_of (history_of_one n now (Moved who deeds))) ≡ []
  moved_none sender who deeds own other =
      ap (λ (items : List Item). from sender items) (moved_puts who deeds own)
      ∙ none_from sender (pid.Of who.pid) (puts_of (comes_by n now (effects_of deeds)))
      (come_of (pid.Of who.pid) n now (effects_of deeds) own.1) other

  moved_own : (m : ℕ) (who : Identity) (deeds : List Deed) → IsOwn (Moved who deeds) → (b : Bool)
      → nat_eq who.pid m ≡ b
      → from (pid.Of m) (puts_of (history_of_one n now (Moved who deeds)))
      ≡ puts_of (comes_by n now (if b then effects_of deeds else []))
  moved_own m who deeds own true same =
      let comes : List PortEvent = comes_by n now (effects_of deeds) in
      ap (λ (items : List Item). from (pid.Of m) items) (moved_puts who deeds own)
      ∙ all_from (pid.Of m) (pid.Of who.pid) (puts_of comes)
      (come_of (pid.Of who.pid) n now (effects_of deeds) own.1) same
  moved_own m who deeds own false other = moved_none (pid.Of m) who deeds own other

  matched_one : (sender : Pid) (happened : Happening) → IsOwn happened
      → from sender (puts_of (history_of_one n now happened)) ≡ puts_of (comes_by n now (effects_by sender happened))
  matched_one (pid.Of m) (Moved who deeds) own = moved_own m who deeds own (nat_eq who.pid m) refl
  matched_one pid.Env (Moved who deeds) own = moved_none pid.Env who deeds own refl
  matched_one pid.Null (Moved who deeds) own = moved_none pid.Null who deeds own refl
  matched_one (pid.Of m) (Heard line done) own =
      none_from (pid.Of m) pid.Env (puts_of (comes_by n now done)) (come_of pid.Env n now done own) refl
  matched_one pid.Env (Heard line done) own =
      all_from pid.Env pid.Env (puts_of (comes_by n now done)) (come_of pid.Env n now done own) refl
  matched_one pid.Null (Heard line done) own =
      none_from pid.Null pid.Env (puts_of (comes_by n now done)) (come_of pid.Env n now done own) refl
  matched_one (pid.Of m) (Expired fuse) own =
      ap (λ (items : List Item). from (pid.Of m) items) (no_put n now.clock fuse (is_there n now))
  matched_one pid.Env (Expired fuse) own =
      ap (λ (items : List Item). from pid.Env items) (no_put n now.clock fuse (is_there n now))
  matched_one pid.Null (Expired fuse) own =
      ap (λ (items : List Item). from pid.Null items) (no_put n now.clock fuse (is_there n now))
  matched_one (pid.Of m) (Ticked time) own = refl
  matched_one pid.Env (Ticked time) own = refl
  matched_one pid.Null (Ticked time) own = refl

-- ---- all that happened

abbrev AreOwn : List Happening → Type 0
AreOwn [] = Unit {0}
AreOwn (first ∷ rest) = IsOwn first × AreOwn rest

AreOwn-append : (happenings : List Happening) (next : Happening) → AreOwn happenings → IsOwn next
    → AreOwn (happenings ++ next ∷ [])
AreOwn-append [] next are last = (last, tt)
AreOwn-append (first ∷ rest) next are last = (are.0, AreOwn-append rest next are.1 last)

matched_all : (sender : Pid) (n : ℕ) (now : Moment) (happenings : List Happening) → AreOwn happenings
    → from sender (puts_of (history_from n now happenings)) ≡ sends_from sender n now happenings
matched_all sender n now [] are = refl
matched_all sender n now (first ∷ rest) are =
    let here : List PortEvent = history_of_one n now first in
    let later : List PortEvent = history_from n (moment_after now first) rest in
    ap (λ (items : List Item). from sender items) (puts_of-append here later)
    ∙ from-append sender (puts_of here) (puts_of later)
    ∙ ap (λ (items : List Item). items ++ from sender (puts_of later)) (matched_one n now sender first are.0)
    ∙ ap (λ (items : List Item). puts_of (comes_by n now (effects_by sender first)) ++ items)
    (matched_all sender n (moment_after now first) rest are.1)

-- a step of an execution
step_own : (ps : List Behaviour) (g : RunState) (who : Identity) (deeds : List Deed) (h : RunState)
    → Steps ps g who deeds h → IsOwn (Moved who deeds)
step_own ps g who deeds h step =
    let d : Definition = record { system = step.old.system; behaviour = step.p } in
    let are : AreActs step.old.who.pid step.goes.deeds =
    runs_effects d step.old.who (place_of step.old.position) step.old.store step.old.owner.state step.goes.runs in (
      ap (λ (list : List Deed). puts_of (calls_of list)) (sym step.deeds_are)
          ∙ ap puts_of (sym step.goes.own) ∙ own_puts step.goes.history,
      deeds_sent who.pid deeds
          (subst (λ (list : List Deed). AreActs who.pid list) step.deeds_are
          (subst (λ (w : Identity). AreActs w.pid step.goes.deeds) step.is_who are)),
    )

heard_own : (g : RunState) (signal : Option ScriptSignal) → IfSome signal (λ (s : ScriptSignal). s.item.sender ≡ pid.Env)
    → AreSentBy pid.Env (heard_effects g signal)
heard_own g None env = tt
heard_own g (Some signal) env = (env, tt)

-- the script that is left is of the environment, and so was what was heard
record IsEnvExecution (happenings : List Happening) (at : RunState) : Type 0 where
  own : AreOwn happenings
  left : AreFromEnv at.script

module _ (ps : List Behaviour) (time : ℕ) where
  next_own : (g : RunState) (next : Happening) (h : RunState) → Follows ps time g next h → AreFromEnv g.script → IsOwn next
  next_own g (Moved who deeds) h step env = step_own ps g who deeds h step
  next_own g (Expired fuse) h expires env = tt
  next_own g (Heard line done) h hear env =
      let lines : AreFromEnv (line ∷ hear.later) = subst AreFromEnv hear.next env in
      subst (λ (list : List Effect). AreSentBy pid.Env list) (sym hear.effects_are)
      (heard_own g line.signal
      (All-head (λ (line : ScriptLine). IfSome line.signal (λ (s : ScriptSignal). s.item.sender ≡ pid.Env)) line
      hear.later lines))
  next_own g (Ticked time) h tick env = tt

  after_one : (next : Happening) (script : List ScriptLine) → AreFromEnv (lines_of_one next ++ script)
      → AreFromEnv script
  after_one (Moved who deeds) script env = env
  after_one (Expired fuse) script env = env
  after_one (Heard line done) script env =
      All-tail (λ (line : ScriptLine). IfSome line.signal (λ (s : ScriptSignal). s.item.sender ≡ pid.Env)) line script
      env
  after_one (Ticked time) script env = env

  env_execution : {system : SystemValue} {lines : List ScriptLine} {happenings : List Happening} {last : RunState}
      → AreFromEnv lines → Execution ps time (beginning system lines) happenings last → IsEnvExecution happenings last
  env_execution env begins = record { own = tt; left = env }
  env_execution env (goes {happenings = happenings} {at = at} execution next to follows) =
      let before : IsEnvExecution happenings at = env_execution env execution in
      record {
        own = AreOwn-append happenings next before.own (next_own at next to follows before.left);
        left = after_one next to.script
            (subst AreFromEnv (sym (script_goes ps time at next to follows)) before.left);
      }

-- each signal that is put was sent, each that is sent is put once, in the order of its sender
pub each_is_matched : EachIsMatched
each_is_matched ps system lines time happenings last behaviours execution env sender n =
    matched_all sender n (first_moment system) happenings (env_execution ps time env execution).own
