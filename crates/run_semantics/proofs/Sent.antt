-- What deeds send is what their events say.
use Rattle.std.proofs.Common.{◌≡◌, ◌∙◌, ◌==◌, ◌&&◌, ap, refl, sym, subst, ℕ, Bool, true, false, cond, List, [], ◌∷◌, ◌++◌, Option, None, Some, append-nil, append_assoc}
use Rattle.std.specs.Option.{option_map}
use Rattle.port_model.specs.declared.values.item.Item.{Item}
use Rattle.port_model.specs.declared.values.item.SignalId.{SignalId}
use Rattle.port_model.specs.declared.values.pid.Pid.TheVariants.{Of}
use Rattle.port_model.specs.declared.values.value.Value.{Value}
use Rattle.run_record.specs.Event as event
use Rattle.run_record.specs.Event.{Event}
use Rattle.run_semantics.proofs.Acting.{AreActs, AreActsOf}
use Rattle.run_semantics.specs.Effect.{Effect, Arm, Create, Deed, Send, events_of}
use Rattle.run_semantics.specs.Leads.{created}
use Rattle.run_semantics.specs.Sent.{sent_by_one, sent_to, sent_with}
use Rattle.run_semantics.specs.World.{Sent, WorldValue, after_effect, after_effects, after_deeds, has_port, sent_after, sent_on}
use Rattle.sdl_system.specs.declared.id.ProcessId.{ProcessId}
use Rattle.sdl_system.specs.declared.route.Dest.{Dest}
use Rattle.sdl_system.specs.declared.route.Target.{Target}
use Rattle.sdl_system.specs.declared.route.Target.TheVariants.{Env, Instance, Nobody, Null}

-- ---- by a number

none_by : (port : Bool) (sent : List Item) → sent ≡ cond port (sent ++ []) sent
none_by true sent = sym (append-nil sent)
none_by false sent = refl

one_by : (port to : Bool) (sent : List Item) (item : Item)
    → cond (port && to) (sent ++ item ∷ []) sent ≡ cond port (sent ++ (cond to (item ∷ []) [] ++ [])) sent
one_by true true sent item = refl
one_by true false sent item = sym (append-nil sent)
one_by false to sent item = refl

more_by : (port : Bool) (sent first later : List Item)
    → cond port (cond port (sent ++ (first ++ [])) sent ++ later) (cond port (sent ++ (first ++ [])) sent)
    ≡ cond port (sent ++ (first ++ later)) sent
more_by true sent first later =
    ap (λ list. (sent ++ list) ++ later) (append-nil first) ∙ append_assoc sent first later
more_by false sent first later = refl

-- ---- one event

-- what sends nothing leaves what was sent
nothing : (sent : Sent) → sent ≡ (λ number. cond (has_port number) (sent number ++ []) (sent number))
nothing sent = λ i number. none_by (has_port number) (sent number) i

-- a signal to an instance
something : (sent : Sent) (to : ℕ) (item : Item)
    → sent_on sent to item
    ≡ (λ number. cond (has_port number) (sent number ++ (cond (to == number) (item ∷ []) [] ++ [])) (sent number))
something sent to item = λ i number. one_by (has_port number) (to == number) (sent number) item i

-- the events behind the first
with_more : (who : ℕ) (e : Event) (rest : List Event) (sent : Sent)
    → sent_with who rest (sent_with who (e ∷ []) sent) ≡ sent_with who (e ∷ rest) sent
with_more who e rest sent = λ i number.
    more_by (has_port number) (sent number) (sent_by_one who number e) (sent_to who rest number) i

module _ (who : ℕ) (w : WorldValue) (sent : Sent) (known : w.sent ≡ Some sent) where
  -- what one act sends
  after_one : (effect : Effect) → (after_effect w effect).sent ≡ Some (sent_after sent effect)
  after_one effect = ap (λ (o : Option Sent). option_map (λ sent. sent_after sent effect) o) known

  done_by : (later : Sent) (done list : List Effect) → done ≡ list → (after_effects w list).sent ≡ Some later
      → (after_effects w done).sent ≡ Some later
  done_by later done list is then = subst (λ (effects : List Effect). (after_effects w effects).sent ≡ Some later) (sym is) then

  nothing_done : (done : List Effect) → done ≡ [] → (after_effects w done).sent ≡ Some sent
  nothing_done done none = done_by sent done [] none known

  created_none : (number : Option ℕ) (done : List Effect) (values : List Value) (id : ProcessId)
      → done ≡ created id who values number → (after_effects w done).sent ≡ Some sent
  created_none None done values id is = nothing_done done is
  created_none (Some number) done values id is =
      done_by sent done (Create id number who values ∷ []) is (after_one (Create id number who values))

  output_sends : (signal : SignalId) (named : Dest) (values : List Value) (target : Target)
      → let item : Item = record { name = signal; values = values; sender = Of who } in
      (after_effect w (Send target item)).sent ≡ Some (sent_with who (event.Output signal named values target ∷ []) sent)
  output_sends signal named values (Instance to) =
      let item : Item = record { name = signal; values = values; sender = Of who } in
      after_one (Send (Instance to) item) ∙ ap (λ s. Some s) (something sent to item)
  output_sends signal named values Env =
      after_one (Send Env (record { name = signal; values = values; sender = Of who })) ∙ ap (λ s. Some s) (nothing sent)
  output_sends signal named values Null =
      after_one (Send Null (record { name = signal; values = values; sender = Of who })) ∙ ap (λ s. Some s) (nothing sent)
  output_sends signal named values Nobody =
      after_one (Send Nobody (record { name = signal; values = values; sender = Of who }))
      ∙ ap (λ s. Some s) (nothing sent)

  -- an event without an output leaves what was sent
  quiet : (done : List Effect) → (after_effects w done).sent ≡ Some sent
      → (after_effects w done).sent ≡ Some (λ number. cond (has_port number) (sent number ++ []) (sent number))
  quiet done is = is ∙ ap (λ s. Some s) (nothing sent)

  event_sends : (e : Event) (done : List Effect) → AreActsOf who e done
      → (after_effects w done).sent ≡ Some (sent_with who (e ∷ []) sent)
  event_sends (event.Output signal named values target) done are =
      done_by (sent_with who (event.Output signal named values target ∷ []) sent) done
      (Send target (record { name = signal; values = values; sender = Of who }) ∷ [])
      (are.1 ∙ ap (λ item. Send target item ∷ []) are.3) (output_sends signal named values target)
  event_sends (event.Set key due) done are = quiet done (done_by sent done (Arm are.0 ∷ []) are.1 (after_one (Arm are.0)))
  event_sends (event.Create id number) done are = quiet done (created_none number done are.0 id are.1)
  event_sends (event.Start at) done are = quiet done (nothing_done done are)
  event_sends (event.Consumed at got) done are = quiet done (nothing_done done are)
  event_sends (event.Prior at got) done are = quiet done (nothing_done done are)
  event_sends (event.Discarded at got) done are = quiet done (nothing_done done are)
  event_sends (event.Provided at number) done are = quiet done (nothing_done done are)
  event_sends (event.FailedAt at why) done are = quiet done (nothing_done done are)
  event_sends (event.Task variable value) done are = quiet done (nothing_done done are)
  event_sends (event.Reset key) done are = quiet done (nothing_done done are)
  event_sends (event.NextState state) done are = quiet done (nothing_done done are)
  event_sends event.Stop done are = quiet done (nothing_done done are)
  event_sends (event.Failed why) done are = quiet done (nothing_done done are)
  event_sends (event.Rest state) done are = quiet done (nothing_done done are)
  event_sends (event.Cut state) done are = quiet done (nothing_done done are)

-- ---- several

-- what deeds send that do what their events say
pub deeds_send : (who : ℕ) (w : WorldValue) (deeds : List Deed) (sent : Sent) → AreActs who deeds
    → w.sent ≡ Some sent → (after_deeds w deeds).sent ≡ Some (sent_with who (events_of deeds) sent)
deeds_send who w [] sent are known = known ∙ ap (λ s. Some s) (nothing sent)
deeds_send who w (deed ∷ rest) sent are known =
    let first : (after_effects w deed.effects).sent ≡ Some (sent_with who (deed.event ∷ []) sent) =
    event_sends who w sent known deed.event deed.effects are.0 in
    deeds_send who (after_effects w deed.effects) rest (sent_with who (deed.event ∷ []) sent) are.1 first
    ∙ ap (λ s. Some s) (with_more who deed.event (events_of rest) sent)
