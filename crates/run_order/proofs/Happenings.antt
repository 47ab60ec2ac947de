-- What each call does is one happening.
use Rattle.std.proofs.Common.{◌≡◌, ◌⊎◌, ◌∙◌, ◌+◌, ◌<◌, ◌≤◌, ◌||◌, ◌++◌, Bool, true, false, if◌then◌else◌, ℕ, zero, suc, List, [], ◌∷◌, All, Option, None, Some, ap, arith, inl, inr, le-leb, length, map, nat_eq, nat_le, refl, set, slice_get, subst, sym}
use Rattle.std.proofs.lemmas.Bool.Decides.{Decides-eqb, nat_tests}
use Rattle.std.proofs.lemmas.List.Elements.{All-contains}
use Rattle.std.proofs.lemmas.Option.{slice_get_past}
use Rattle.std.specs.Option.{option_map_or}
use Rattle.std.specs.Prelude.{◌↔◌, Contains, MatchOption}
use Rattle.port_model.specs.declared.inbox.entry.Fuse.{Fuse}
use Rattle.port_model.specs.declared.values.item.Item.{Item}
use Rattle.port_model.specs.declared.values.pid.Pid.TheVariants.{Of}
use Rattle.port_model.specs.declared.values.value.Value.{Value}
use Rattle.port_model.specs.Timers.{IsLeast, earlier}
use Rattle.run_order.proofs.Keeping.{same_there}
use Rattle.run_order.proofs.Living.{count_is}
use Rattle.run_order.specs.Interleaving.{Around, Expired, Heard, IsDoneAndRests, IsNothingDue, Looked, MayTell, Ticked, Told, Within}
use Rattle.run_order.specs.Kept.{IsNextNumber, IsNextTime, IsNoLook, IsNoStep, IsNoTell, IsSooner, Leads, MayLook, MayLookAt, MayTellAt}
use Rattle.run_order.specs.OrderState.{OrderState, after_pending, armed, change_at, changed_at, created, expired, fresh, heard, living_of, member_at, sent_to, with_created, with_member}
use Rattle.run_order.specs.Roster.{RosterValue, numbers_of, with_entered, with_left}
use Rattle.run_order.specs.declared.member.Member.{Member}
use Rattle.run_order.specs.declared.pending.Pending.{Pending}
use Rattle.run_order.specs.declared.pending.Pending.TheVariants as pending
use Rattle.run_semantics.specs.Behaves.{AreBehaviours}
use Rattle.run_record.specs.declared.evaluation.identity.Identity.{Identity}
use Rattle.run_semantics.specs.World.{count_in, is_full, is_reached, most_instances, number_for}
use Rattle.sdl_interp.specs.Instance.{InstanceValue, IsAtRest}
use Rattle.sdl_script.specs.declared.script.ScriptLine.{ScriptLine}
use Rattle.sdl_script.specs.declared.script.ScriptSignal.{ScriptSignal}
use Rattle.sdl_system.specs.Behaviour.{Behaviour}
use Rattle.sdl_system.specs.Route.{target_in}
use Rattle.sdl_system.specs.declared.id.ProcessId.{ProcessId}
use Rattle.sdl_system.specs.declared.process.Process.{Process}
use Rattle.sdl_system.specs.declared.route.Dest.{Dest}
use Rattle.sdl_system.specs.declared.route.Source.TheVariants as source
use Rattle.sdl_system.specs.declared.route.Target.{Target}
use Rattle.sdl_system.specs.declared.route.Target.TheVariants.{Env, Instance, Nobody, Null}
use Rattle.serial_order.specs.Execution.{IsNoFuseBefore, next_line}
use Rattle.sdl_timers.specs.DueOrder.{with_fuse}
use Rattle.serial_order.specs.RunState.{instance_of, with_expiry, with_put}

-- ---- instances by their numbers

pub at_number : (members : List Member) (number place : ℕ) → place + 1 ≡ number
    → member_at members number ≡ slice_get members place
at_number members number place is =
    let is_suc : number ≡ suc place = omega (arith, is) in ap (member_at members) is_suc

pub set_number : (members : List Member) (number place : ℕ) (m : Member) → place + 1 ≡ number
    → with_member members number m ≡ set members place m
set_number members number place m is =
    let is_suc : number ≡ suc place = omega (arith, is) in ap (λ n. with_member members n m) is_suc

pub change_there : (change : InstanceValue → InstanceValue) (members : List Member) (number place : ℕ) (m : Member)
    → place + 1 ≡ number → slice_get members place ≡ Some m
    → change_at change members number ≡ set members place (record m { instance = change m.instance })
change_there change members number place m is there =
    let is_suc : number ≡ suc place = omega (arith, is) in
    ap (change_at change members) is_suc ∙ ap (changed_at change members (suc place)) there

pub change_nobody : (change : InstanceValue → InstanceValue) (members : List Member) (number : ℕ)
    → (number ≡ 0) ⊎ (length members < number) → change_at change members number ≡ members
change_nobody change members zero out = refl
change_nobody change members (suc place) out =
    let past : length members ≤ place = elim out [ inl none ↦ omega (arith, none) | inr far ↦ omega (arith, far) ] in
    ap (changed_at change members (suc place)) (slice_get_past members place past)

-- nobody has such a number
pub nobody_at : (members : List Member) (number : ℕ) (m : Member) → (number ≡ 0) ⊎ (length members < number)
    → member_at members number ≡ Some m → ⊥
nobody_at members zero m out there = cc
nobody_at members (suc place) m out there =
    let past : length members ≤ place = elim out [ inl none ↦ omega (arith, none) | inr far ↦ omega (arith, far) ] in
    let wrong : None ≡ Some m = sym (slice_get_past members place past) ∙ there in
    cc

-- a signal reaches an instance, or nobody
pub sent_there : (g : OrderState) (number place : ℕ) (m : Member) (i : InstanceValue) (item : Item)
    → place + 1 ≡ number → slice_get g.members place ≡ Some m → i ≡ with_put item m.instance
    → record g { members = set g.members place (record m { instance = i }) } ≡ sent_to g (Instance number) item
sent_there g number place m i item is there now =
    ap (λ (one : InstanceValue). record g { members = set g.members place (record m { instance = one }) }) now
    ∙ ap (λ members. record g { members = members }) (sym (change_there (with_put item) g.members number place m is
    there))

pub sent_nobody : (g : OrderState) (number : ℕ) (item : Item) → (number ≡ 0) ⊎ (length g.members < number)
    → g ≡ sent_to g (Instance number) item
sent_nobody g number item out =
    ap (λ members. record g { members = members }) (sym (change_nobody (with_put item) g.members number out))

-- a fuse expires in the port of an instance, or nowhere
pub expired_there : (g : OrderState) (fuse : Fuse) (place : ℕ) (m : Member) (i : InstanceValue) → place + 1 ≡ fuse.pid
    → slice_get g.members place ≡ Some m → i ≡ with_expiry fuse g.clock m.instance
    → record g { members = set g.members place (record m { instance = i }) } ≡ expired g fuse
expired_there g fuse place m i is there now =
    ap (λ (one : InstanceValue). record g { members = set g.members place (record m { instance = one }) }) now
    ∙ ap (λ members. record g { members = members })
    (sym (change_there (with_expiry fuse g.clock) g.members fuse.pid place m is there))

pub expired_nobody : (g : OrderState) (fuse : Fuse) → (fuse.pid ≡ 0) ⊎ (length g.members < fuse.pid)
    → g ≡ expired g fuse
expired_nobody g fuse out =
    ap (λ members. record g { members = members })
    (sym (change_nobody (with_expiry fuse g.clock) g.members fuse.pid out))

-- the number of a create is the next one
given_next : (full : Bool) (given number : ℕ) → (if full then None else Some (given + 1)) ≡ Some number
    → number ≡ given + 1
given_next true given number is = let no : ⊥ = cc in absurd no
given_next false given number is = cc

pub next_number : (g : OrderState) (looked : Bool) (what : Pending) → MayTell g looked what
    → IsNextNumber (length g.members) what
next_number g looked (pending.Send to target item) may = tt
next_number g looked (pending.Arm fuse) may = tt
next_number g looked (pending.Create process number parent values) may =
    given_next (is_full g.system (living_of g) process) (length g.members) number may
next_number g looked (pending.Full process) may = tt
next_number g looked pending.End may = tt
next_number g looked pending.Inside may = tt

-- what may be told is what stands there
pub may_tell_there : (g : OrderState) (place : ℕ) (m : Member) (what : Pending) (later : List Pending)
    → MayTellAt g place → slice_get g.members place ≡ Some m → m.pending ≡ what ∷ later → MayTell g m.looked what
may_tell_there g place m what later at there next =
    let same : at.m ≡ m = same_there g.members place at.m m at.is_there there in
    let both : at.what ∷ at.later ≡ what ∷ later = sym at.next ∙ ap (λ (m : Member). m.pending) same ∙ next in
    let first : at.what ≡ what = cc in
    subst (MayTell g m.looked) first (subst (λ (one : Member). MayTell g one.looked at.what) same at.may)

-- what may be looked up is what stands there
pub may_look_there : (g : OrderState) (place : ℕ) (m : Member) (what : Pending) (later : List Pending)
    → MayLookAt g place → slice_get g.members place ≡ Some m → m.pending ≡ what ∷ later
    → MayLook g m.instance.who.process what
may_look_there g place m what later at there next =
    let same : at.m ≡ m = same_there g.members place at.m m at.is_there there in
    let both : at.what ∷ at.later ≡ what ∷ later = sym at.next ∙ ap (λ (m : Member). m.pending) same ∙ next in
    let first : at.what ≡ what = cc in
    subst (MayLook g m.instance.who.process) first
    (subst (λ (one : Member). MayLook g one.instance.who.process at.what) same at.may)

pub nothing_looked : (g : OrderState) (place : ℕ) (m : Member) → MayLookAt g place
    → slice_get g.members place ≡ Some m → m.pending ≡ [] → ⊥
nothing_looked g place m at there none =
    let same : at.m ≡ m = same_there g.members place at.m m at.is_there there in
    let wrong : at.what ∷ at.later ≡ [] = sym at.next ∙ ap (λ (m : Member). m.pending) same ∙ none in
    cc

-- there is something to be told then
pub nothing_next : (g : OrderState) (place : ℕ) (m : Member) → MayTellAt g place → slice_get g.members place ≡ Some m
    → m.pending ≡ [] → ⊥
nothing_next g place m at there none =
    let same : at.m ≡ m = same_there g.members place at.m m at.is_there there in
    let wrong : at.what ∷ at.later ≡ [] = sym at.next ∙ ap (λ (m : Member). m.pending) same ∙ none in
    cc

-- ---- what happens

pub leads_looked : (g h : OrderState) (number place : ℕ) (m : Member) (to : Dest) (target : Target) (item : Item)
    (later : List Pending) → slice_get g.members place ≡ Some m → place + 1 ≡ number
    → m.pending ≡ pending.Send to target item ∷ later
    → target ≡ target_in g.system.routes item.name (source.Process m.instance.who.process) to (living_of g).least
    → h ≡ record g { members = set g.members place (record m { looked = true }) } → Leads g [] Within h
leads_looked g h number place m to target item later there is next goes now = λ ps behaviours. record {
  happening = Looked number;
  follows = record {
    old = m;
    to = to;
    target = target;
    item = item;
    later = later;
    is_there = at_number g.members number place is ∙ there;
    next = next;
    goes = goes;
    now = now ∙ ap (λ members. record g { members = members })
        (sym (set_number g.members number place (record m { looked = true }) is));
  };
  tells = refl;
  part_is = refl;
}

looked_by : (g h : OrderState) (number place : ℕ) (m : Member) (what : Pending) (later : List Pending)
    → slice_get g.members place ≡ Some m → place + 1 ≡ number → m.pending ≡ what ∷ later
    → MayLook g m.instance.who.process what
    → h ≡ record g { members = set g.members place (record m { looked = true }) } → Leads g [] Within h
looked_by g h number place m (pending.Send to target item) later there is next goes now =
    leads_looked g h number place m to target item later there is next goes now
looked_by g h number place m (pending.Arm fuse) later there is next goes now = absurd goes
looked_by g h number place m (pending.Create process made parent values) later there is next goes now = absurd goes
looked_by g h number place m (pending.Full process) later there is next goes now = absurd goes
looked_by g h number place m pending.End later there is next goes now = absurd goes
looked_by g h number place m pending.Inside later there is next goes now = absurd goes

pub leads_may_look : (g h : OrderState) (number place : ℕ) (m : Member) → MayLookAt g place
    → slice_get g.members place ≡ Some m → place + 1 ≡ number
    → h ≡ record g { members = set g.members place (record m { looked = true }) } → Leads g [] Within h
leads_may_look g h number place m at there is now =
    let next : m.pending ≡ at.what ∷ at.later =
    ap (λ (m : Member). m.pending) (same_there g.members place m at.m there at.is_there) ∙ at.next in
    looked_by g h number place m at.what at.later there is next
    (may_look_there g place m at.what at.later at there next) now

pub leads_told : (g h : OrderState) (number place : ℕ) (m changed : Member) (what : Pending) (later : List Pending)
    → slice_get g.members place ≡ Some m → place + 1 ≡ number → m.pending ≡ what ∷ later → MayTell g m.looked what
    → changed ≡ record m { pending = later; looked = false }
    → h ≡ after_pending (record g { members = set g.members place changed }) m.instance.who what
    → Leads g (number ∷ []) Within h
leads_told g h number place m changed what later there is next may changed_is now = λ ps behaviours. record {
  happening = Told number what;
  follows = record {
    old = m;
    later = later;
    is_there = at_number g.members number place is ∙ there;
    next = next;
    may = may;
    now = now ∙ ap (λ members. after_pending (record g { members = members }) m.instance.who what)
        (ap (set g.members place) changed_is
        ∙ sym (set_number g.members number place (record m { pending = later; looked = false }) is));
  };
  tells = refl;
  part_is = refl;
}

pub leads_expired : (g h : OrderState) (fuse : Fuse) (later : List Fuse) → g.fuses ≡ fuse ∷ later → fuse.due < g.until
    → h ≡ expired (record g { fuses = later }) fuse → Leads g [] Around h
leads_expired g h fuse later first due now = λ ps behaviours. record {
  happening = Expired fuse;
  follows = record { later = later; first = first; due = due; now = now };
  tells = refl;
  part_is = refl;
}

pub leads_heard : (g h : OrderState) (line : ScriptLine) (later : List ScriptLine) → g.script ≡ line ∷ later
    → line.at < g.until → IsNoFuseBefore g.until g.fuses → h ≡ heard (record g { script = later }) line.signal
    → Leads g (0 ∷ []) Around h
leads_heard g h line later next due no_fuse now = λ ps behaviours. record {
  happening = Heard line;
  follows = record { later = later; next = next; due = due; no_fuse = no_fuse; now = now };
  tells = refl;
  part_is = refl;
}

pub leads_ticked : (g h : OrderState) (time : ℕ)
    → ((ps : List Behaviour) → AreBehaviours g.system ps → All (IsDoneAndRests ps) g.members) → IsNothingDue g
    → IsNextTime g time → h ≡ record g { clock = time; until = time + 1 } → Leads g [] Around h
leads_ticked g h time still none next now = λ ps behaviours. record {
  happening = Ticked time;
  follows = record {
    due = next.due;
    nothing_due = none;
    rest = still ps behaviours;
    least = next.least;
    is_next = next.sooner.is_next;
    within = next.sooner.within;
    now = now;
  };
  tells = refl;
  part_is = refl;
}

-- ---- a line

-- an item of the same name, values and sender
pub item_is : (item : Item) (values : List Value) → values ≡ item.values
    → record { name = item.name; values = values; sender = item.sender } ≡ item
item_is item values is = λ i. record { name = item.name; values = is i; sender = item.sender }

pub heard_signal : (g : OrderState) (line : Option ScriptSignal) (signal : ScriptSignal) (target : Target)
    (item : Item) → line ≡ Some signal
    → target ≡ target_in g.system.routes signal.item.name source.Env signal.to (living_of g).least
    → item ≡ signal.item → sent_to g target item ≡ heard g line
heard_signal g line signal target item some to is =
    (λ i. sent_to g (to i) (is i)) ∙ ap (heard g) (sym some)

-- ---- a fuse

pub armed_now : (g : OrderState) (fuse : Fuse) → fuse.due ≤ g.clock → expired g fuse ≡ armed g fuse
armed_now g fuse come =
    ap (λ b. if b then expired g fuse else record g { fuses = with_fuse fuse g.fuses })
    (sym (le-leb fuse.due g.clock come))

not_le : (a b : ℕ) → b < a → nat_le a b ≡ false
not_le a b late = grind (arith, nat_tests)

pub armed_later : (g : OrderState) (fuse : Fuse) (fuses : List Fuse) → g.clock < fuse.due
    → fuses ≡ with_fuse fuse g.fuses → record g { fuses = fuses } ≡ armed g fuse
armed_later g fuse fuses late more =
    ap (λ all. record g { fuses = all }) more
    ∙ ap (λ b. if b then expired g fuse else record g { fuses = with_fuse fuse g.fuses })
    (sym (not_le fuse.due g.clock late))

-- ---- an instance more

pub created_there : (g : OrderState) (id : ProcessId) (number parent : ℕ) (values : List Value) (process : Process)
    (i : InstanceValue) (roster : RosterValue) → slice_get g.system.processes id.0 ≡ Some process
    → i ≡ instance_of g.system process (record { process = id; pid = number; parent = Of parent }) values
    → roster ≡ with_entered g.roster id number
    → record g { members = g.members ++ fresh i ∷ []; roster = roster } ≡ created g id number parent values
created_there g id number parent values process i roster there made entered =
    (λ k. record g { members = g.members ++ fresh (made k) ∷ []; roster = entered k })
    ∙ ap (with_created g (record { process = id; pid = number; parent = Of parent }) values) (sym there)

pub created_none : (g : OrderState) (id : ProcessId) (number parent : ℕ) (values : List Value)
    → slice_get g.system.processes id.0 ≡ None → g ≡ created g id number parent values
created_none g id number parent values none =
    ap (with_created g (record { process = id; pid = number; parent = Of parent }) values) (sym none)

-- ---- where nothing of a kind can happen

pub no_look_nobody : (g : OrderState) (number : ℕ) → (number ≡ 0) ⊎ (length g.members < number) → IsNoLook g number
no_look_nobody g number out = λ h looks. nobody_at g.members number looks.old out looks.is_there

pub no_look_at : (g : OrderState) (number place : ℕ) → place + 1 ≡ number → (MayLookAt g place → ⊥) → IsNoLook g number
no_look_at g number place is never = λ h looks.
    never (record {
      m = looks.old;
      what = pending.Send looks.to looks.target looks.item;
      later = looks.later;
      is_there = sym (at_number g.members number place is) ∙ looks.is_there;
      next = looks.next;
      may = looks.goes;
    })

pub no_tell_nobody : (g : OrderState) (number : ℕ) → (number ≡ 0) ⊎ (length g.members < number) → IsNoTell g number
no_tell_nobody g number out = λ what h tells. nobody_at g.members number tells.old out tells.is_there

pub no_tell_at : (g : OrderState) (number place : ℕ) → place + 1 ≡ number → (MayTellAt g place → ⊥) → IsNoTell g number
no_tell_at g number place is never = λ what h tells.
    never (record {
      m = tells.old;
      what = what;
      later = tells.later;
      is_there = sym (at_number g.members number place is) ∙ tells.is_there;
      next = tells.next;
      may = tells.may;
    })

pub no_step_nobody : (g : OrderState) (number : ℕ) → (number ≡ 0) ⊎ (length g.members < number) → IsNoStep g number
no_step_nobody g number out = λ m there. absurd (nobody_at g.members number m out there)

pub no_step_due : (g : OrderState) (number : ℕ) → (IsNothingDue g → ⊥) → IsNoStep g number
no_step_due g number due = λ m there. inr (inr due)

pub no_step_pending : (g : OrderState) (number place : ℕ) (one : Member) → place + 1 ≡ number
    → slice_get g.members place ≡ Some one → (one.pending ≡ [] → ⊥) → IsNoStep g number
no_step_pending g number place one is there some = λ m found.
    inr (inl (λ none. some (ap (λ (m : Member). m.pending)
    (same_there g.members place one m there (sym (at_number g.members number place is) ∙ found)) ∙ none)))

pub no_step_rest : (g : OrderState) (number place : ℕ) (one : Member) → place + 1 ≡ number
    → slice_get g.members place ≡ Some one → IsAtRest one.instance → IsNoStep g number
no_step_rest g number place one is there rests = λ m found.
    inl (subst (λ (m : Member). IsAtRest m.instance)
    (same_there g.members place one m there (sym (at_number g.members number place is) ∙ found)) rests)

-- ---- tests of what may be told

pub told_send : (g : OrderState) (looked : Bool) (what : Pending) (to : Dest) (target : Target) (item : Item)
    → what ≡ pending.Send to target item → ((looked ≡ true) ↔ MayTell g looked what)
told_send g looked what to target item is =
    subst (λ (p : Pending). (looked ≡ true) ↔ MayTell g looked p) (sym is) (λ yes. yes, λ yes. yes)

pub told_create : (g : OrderState) (looked r : Bool) (what : Pending) (process : ProcessId) (number parent : ℕ)
    (values : List Value) → what ≡ pending.Create process number parent values
    → ((r ≡ true) ↔ (number_for g.system (living_of g) process ≡ Some number))
    → ((r ≡ true) ↔ MayTell g looked what)
told_create g looked r what process number parent values is next =
    subst (λ (p : Pending). (r ≡ true) ↔ MayTell g looked p) (sym is) next

pub told_full : (g : OrderState) (looked r : Bool) (what : Pending) (process : ProcessId)
    → what ≡ pending.Full process → ((r ≡ true) ↔ (number_for g.system (living_of g) process ≡ None))
    → ((r ≡ true) ↔ MayTell g looked what)
told_full g looked r what process is none =
    subst (λ (p : Pending). (r ≡ true) ↔ MayTell g looked p) (sym is) none

pub look_so : (g : OrderState) (process : ProcessId) (what : Pending) (to : Dest) (target : Target) (item : Item)
    (goes : Target) (r : Bool) → what ≡ pending.Send to target item
    → goes ≡ target_in g.system.routes item.name (source.Process process) to (living_of g).least
    → ((r ≡ true) ↔ (goes ≡ target)) → ((r ≡ true) ↔ MayLook g process what)
look_so g process what to target item goes r is routed same =
    subst (λ (p : Pending). (r ≡ true) ↔ MayLook g process p) (sym is) (
      λ yes. sym (same.0 yes) ∙ routed,
      λ may. same.1 (routed ∙ sym may),
    )

pub told_other : (g : OrderState) (looked : Bool) (what : Pending)
    → ((to : Dest) (target : Target) (item : Item) → what ≡ pending.Send to target item → ⊥)
    → ((process : ProcessId) (number parent : ℕ) (values : List Value)
    → what ≡ pending.Create process number parent values → ⊥)
    → ((process : ProcessId) → what ≡ pending.Full process → ⊥) → ((true ≡ true) ↔ MayTell g looked what)
told_other g looked (pending.Send to target item) send create full = absurd (send to target item refl)
told_other g looked (pending.Arm fuse) send create full = (λ yes. tt, λ may. refl)
told_other g looked (pending.Create process number parent values) send create full =
    absurd (create process number parent values refl)
told_other g looked (pending.Full process) send create full = absurd (full process refl)
told_other g looked pending.End send create full = (λ yes. tt, λ may. refl)
told_other g looked pending.Inside send create full = (λ yes. tt, λ may. refl)

pub wrong_way : false ≡ true → ⊥
wrong_way wrong = cc

pub look_other : (g : OrderState) (process : ProcessId) (what : Pending)
    → ((to : Dest) (target : Target) (item : Item) → what ≡ pending.Send to target item → ⊥)
    → ((false ≡ true) ↔ MayLook g process what)
look_other g process (pending.Send to target item) send = absurd (send to target item refl)
look_other g process (pending.Arm fuse) send = (wrong_way, λ may. absurd may)
look_other g process (pending.Create made number parent values) send = (wrong_way, λ may. absurd may)
look_other g process (pending.Full made) send = (wrong_way, λ may. absurd may)
look_other g process pending.End send = (wrong_way, λ may. absurd may)
look_other g process pending.Inside send = (wrong_way, λ may. absurd may)

-- what a create gives, if it gives a number
pub next_so : (next number : ℕ) (o : Option ℕ) → Some next ≡ o → ((nat_eq next number ≡ true) ↔ (o ≡ Some number))
next_so next number o is = (
  λ yes. sym is ∙ ap Some ((Decides-eqb next number).0 yes),
  λ known.
      let both : Some next ≡ Some number = is ∙ known in
      let same : next ≡ number = cc in
      (Decides-eqb next number).1 same,
)

pub no_next : (number : ℕ) (o : Option ℕ) → None ≡ o → ((false ≡ true) ↔ (o ≡ Some number))
no_next number o none = (
  λ wrong. absurd (wrong_way wrong),
  λ known.
      let both : None ≡ Some number = none ∙ known in
      let no : ⊥ = cc in
      absurd no,
)

pub some_next : (next : ℕ) (o : Option ℕ) → Some next ≡ o → ((false ≡ true) ↔ (o ≡ None))
some_next next o is = (
  λ wrong. absurd (wrong_way wrong),
  λ none.
      let both : Some next ≡ None = is ∙ none in
      let no : ⊥ = cc in
      absurd no,
)

pub none_next : (o : Option ℕ) → None ≡ o → ((true ≡ true) ↔ (o ≡ None))
none_next o none = (λ yes. sym none, λ known. refl)

-- ---- what an instance does outside

-- what goes to no instance is gone
pub sent_outside : (g : OrderState) (target : Target) (item : Item) → ((number : ℕ) → target ≡ Instance number → ⊥)
    → g ≡ sent_to g target item
sent_outside g (Instance number) item outside = absurd (outside number refl)
sent_outside g Env item outside = refl
sent_outside g Null item outside = refl
sent_outside g Nobody item outside = refl

pub left_there : (g : OrderState) (who : Identity) (what : Pending) (roster : RosterValue) → what ≡ pending.End
    → roster ≡ with_left g.roster who.process who.pid → record g { roster = roster } ≡ after_pending g who what
left_there g who what roster is left =
    ap (λ (r : RosterValue). record g { roster = r }) left ∙ ap (after_pending g who) (sym is)

pub nothing_done : (g : OrderState) (who : Identity) (what : Pending)
    → ((to : Dest) (target : Target) (item : Item) → what ≡ pending.Send to target item → ⊥)
    → ((fuse : Fuse) → what ≡ pending.Arm fuse → ⊥)
    → ((process : ProcessId) (number parent : ℕ) (values : List Value)
    → what ≡ pending.Create process number parent values → ⊥) → (what ≡ pending.End → ⊥)
    → g ≡ after_pending g who what
nothing_done g who (pending.Send to target item) send arm create ends = absurd (send to target item refl)
nothing_done g who (pending.Arm fuse) send arm create ends = absurd (arm fuse refl)
nothing_done g who (pending.Create process number parent values) send arm create ends =
    absurd (create process number parent values refl)
nothing_done g who (pending.Full process) send arm create ends = refl
nothing_done g who pending.End send arm create ends = absurd (ends refl)
nothing_done g who pending.Inside send arm create ends = refl

-- ---- the next time

least_same : (times : List ℕ) (one other : Option ℕ) → IsLeast times one → IsLeast times other → one ≡ other
least_same times None None least same = refl
least_same times None (Some other) least same =
    let below = subst (λ (all : List ℕ). Contains all other) least same.0 in
    let no : ⊥ = omega (arith, below.1) in
    absurd no
least_same times (Some one) None least same =
    let below = subst (λ (all : List ℕ). Contains all one) same least.0 in
    let no : ⊥ = omega (arith, below.1) in
    absurd no
least_same times (Some one) (Some other) least same =
    let low : one ≤ other = All-contains (λ n. one ≤ n) times other least.1 same.0 in
    let high : other ≤ one = All-contains (λ n. other ≤ n) times one same.1 least.0 in
    ap Some (omega (arith, low, high))

pub next_by : (r : Option ℕ) (g : OrderState) (due : Option ℕ) → IsLeast (map (λ (fuse : Fuse). fuse.due) g.fuses) due
    → MatchOption r ((time : ℕ) → IsSooner due g.script g.end time → ⊥) (IsSooner due g.script g.end)
    → MatchOption r ((time : ℕ) → IsNextTime g time → ⊥) (IsNextTime g)
next_by None g due least none = λ time next.
    none time (subst (λ d. IsSooner d g.script g.end time)
    (least_same (map (λ (fuse : Fuse). fuse.due) g.fuses) next.due due next.least least) next.sooner)
next_by (Some time) g due least sooner = record { due = due; least = least; sooner = sooner }

-- no line is left, and no time, or one that is past the end
pub no_sooner : (script : List ScriptLine) (end : ℕ) → script ≡ [] → (time : ℕ) → IsSooner None script end time → ⊥
no_sooner script end none time sooner =
    let next : earlier None (next_line []) ≡ Some time =
    subst (λ (lines : List ScriptLine). earlier None (next_line lines) ≡ Some time) none sooner.is_next in
    cc

pub too_late : (due : ℕ) (script : List ScriptLine) (end : ℕ) → script ≡ [] → end < due → (time : ℕ)
    → IsSooner (Some due) script end time → ⊥
too_late due script end none late time sooner =
    let next : Some due ≡ Some time =
    subst (λ (lines : List ScriptLine). earlier (Some due) (next_line lines) ≡ Some time) none sooner.is_next in
    let same : due ≡ time = cc in
    let within : time ≤ end = sooner.within none in
    omega (arith, late, same, within)

-- ---- the next number

pub full_some : (g : OrderState) (id : ProcessId) (p : Process) (count : ℕ) (r : Bool)
    → slice_get g.system.processes id.0 ≡ Some p → count ≡ length (numbers_of g.roster id)
    → r ≡ is_reached p.maximum count
    → r ≡ option_map_or (λ (p : Process). is_reached p.maximum (count_in (living_of g) id))
    (slice_get g.system.processes id.0) true
full_some g id p count r there counted reached =
    reached
    ∙ ap (is_reached p.maximum) (counted ∙ sym (count_is g.roster (length g.members) id))
    ∙ sym (ap (λ o. option_map_or (λ (p : Process). is_reached p.maximum (count_in (living_of g) id)) o true) there)

pub full_none : (g : OrderState) (id : ProcessId) → slice_get g.system.processes id.0 ≡ None
    → true ≡ option_map_or (λ (p : Process). is_reached p.maximum (count_in (living_of g) id))
    (slice_get g.system.processes id.0) true
full_none g id none =
    sym (ap (λ o. option_map_or (λ (p : Process). is_reached p.maximum (count_in (living_of g) id)) o true) none)

pub number_full : (g : OrderState) (id : ProcessId)
    → option_map_or (λ (p : Process). is_reached p.maximum (count_in (living_of g) id))
    (slice_get g.system.processes id.0) true ≡ true → None ≡ number_for g.system (living_of g) id
number_full g id full =
    sym (ap (λ b. if b || nat_le most_instances (length g.members) then None else Some (length g.members + 1)) full)

pub number_next : (g : OrderState) (id : ProcessId) (r : Option ℕ)
    → option_map_or (λ (p : Process). is_reached p.maximum (count_in (living_of g) id))
    (slice_get g.system.processes id.0) true ≡ false
    → r ≡ (if nat_le most_instances (length g.members) then None else Some (length g.members + 1))
    → r ≡ number_for g.system (living_of g) id
number_next g id r full next =
    next
    ∙ sym (ap (λ b. if b || nat_le most_instances (length g.members) then None else Some (length g.members + 1)) full)
