-- Whose the signals are that are put into a port.
use Rattle.std.proofs.Common.{◌≡◌, ◌∙◌, ◌==◌, ◌++◌, ap, arith, if◌then◌else◌, nat_eq, refl, subst, sym, ℕ, zero, suc, Bool, true, false, All, Contains, List, [], ◌∷◌, None, Option, Some, map, slice_get}
use Rattle.std.proofs.lemmas.List.Elements.{All-append, All-head, All-nil, All-tail, Contains-append_right}
use Rattle.std.proofs.lemmas.Option.{none-some, same_Some}
use Rattle.laws_whole.proofs.Sending.{AreSent, all_come_so, no_put, puts_of-append}
use Rattle.port_model.specs.History.{Expire, PortEvent, Put, Reset, Set, Stop, Take}
use Rattle.port_model.specs.declared.values.item.Item.{Item}
use Rattle.port_model.specs.declared.values.pid.Pid.TheVariants.{Of}
use Rattle.port_model.specs.declared.values.value.Value.{Value}
use Rattle.run_record.specs.declared.evaluation.identity.Identity.{Identity}
use Rattle.run_record.specs.Event as event
use Rattle.run_record.specs.Event.{Event}
use Rattle.run_record.specs.Record.{RecordValue}
use Rattle.run_semantics.proofs.Acting.{AreActs, AreActsOf}
use Rattle.run_semantics.specs.Effect.{Arm, Create, Deed, Effect, Send, calls_of, effects_of}
use Rattle.run_semantics.specs.Leads.{created}
use Rattle.run_semantics.specs.Runs.{own_of}
use Rattle.sdl_system.specs.declared.id.ProcessId.{ProcessId}
use Rattle.serial_order.specs.Execution.{Expired, Happening, Heard, Moved, Ticked}
use Rattle.serial_order.specs.Told as told
use Rattle.serial_order.specs.Told.{Moment, comes_by, history_from, history_of_one, is_there, moment_after}
use Rattle.settle_meaning.specs.Identities.{identities_of, identity_of}

pub own_puts : (history : List PortEvent) → told.puts_of (own_of history) ≡ []
own_puts [] = refl
own_puts (Put item ∷ rest) = own_puts rest
own_puts (Expire key arm due at ∷ rest) = own_puts rest
own_puts (Take classes taken ∷ rest) = own_puts rest
own_puts (Set key due arm ∷ rest) = own_puts rest
own_puts (Reset key ∷ rest) = own_puts rest
own_puts (Stop ∷ rest) = own_puts rest

module _ (P : Item → Type 0) where
  -- nothing is put by the own calls of an instance, and this is so of all that is sent
  abbrev pub PutsSo : Happening → Type 0
  PutsSo (Moved who deeds) = (told.puts_of (calls_of deeds) ≡ []) × AreSent P (effects_of deeds)
  PutsSo (Expired fuse) = Unit {0}
  PutsSo (Heard line effects) = AreSent P effects
  PutsSo (Ticked time) = Unit {0}

  none_put : (b : Bool) (calls : List PortEvent) → told.puts_of calls ≡ []
      → told.puts_of (if b then calls else []) ≡ []
  none_put true calls none = none
  none_put false calls none = refl

  one_so : (n : ℕ) (now : Moment) (happened : Happening) → PutsSo happened
      → All P (told.puts_of (history_of_one n now happened))
  one_so n now (Moved who deeds) so =
      let calls : List PortEvent = if (who.pid == n) then calls_of deeds else [] in
      let comes : List PortEvent = comes_by n now (effects_of deeds) in
      subst (λ (l : List Item). All P l)
      (sym (puts_of-append calls comes
      ∙ ap (λ (l : List Item). l ++ told.puts_of comes) (none_put (nat_eq who.pid n) (calls_of deeds) so.0)))
      (all_come_so P n now (effects_of deeds) so.1)
  one_so n now (Expired fuse) so =
      subst (λ (l : List Item). All P l) (sym (no_put n now.clock fuse (is_there n now))) (All-nil P)
  one_so n now (Heard line effects) so = all_come_so P n now effects so
  one_so n now (Ticked time) so = All-nil P

  pub all_so : (n : ℕ) (now : Moment) (happenings : List Happening) → All PutsSo happenings
      → All P (told.puts_of (history_from n now happenings))
  all_so n now [] all = All-nil P
  all_so n now (happened ∷ rest) all =
      subst (λ (l : List Item). All P l)
      (sym (puts_of-append (history_of_one n now happened) (history_from n (moment_after now happened) rest)))
      (All-append P (told.puts_of (history_of_one n now happened))
      (told.puts_of (history_from n (moment_after now happened) rest))
      (one_so n now happened (All-head PutsSo happened rest all))
      (all_so n (moment_after now happened) rest (All-tail PutsSo happened rest all)))

-- what the acts of an instance send is its own
module _ (P : Item → Type 0) (m : ℕ) (own : (item : Item) → item.sender ≡ Of m → P item) where
  none_so : (done : List Effect) → done ≡ [] → AreSent P done
  none_so done none = subst (λ (l : List Effect). AreSent P l) (sym none) tt

  created_so : (process : ProcessId) (values : List Value) (number : Option ℕ)
      → AreSent P (created process m values number)
  created_so process values None = tt
  created_so process values (Some number) = tt

  event_so : (e : Event) (done : List Effect) → AreActsOf m e done → AreSent P done
  event_so (event.Output signal named values to) done are =
      subst (λ (l : List Effect). AreSent P l) (sym are.1) (own are.0 are.2, tt)
  event_so (event.Set key due) done are = subst (λ (l : List Effect). AreSent P l) (sym are.1) tt
  event_so (event.Create process number) done are =
      subst (λ (l : List Effect). AreSent P l) (sym are.1) (created_so process are.0 number)
  event_so (event.Start at) done are = none_so done are
  event_so (event.Consumed at got) done are = none_so done are
  event_so (event.Prior at got) done are = none_so done are
  event_so (event.Discarded at got) done are = none_so done are
  event_so (event.Provided at number) done are = none_so done are
  event_so (event.FailedAt at why) done are = none_so done are
  event_so (event.Task variable value) done are = none_so done are
  event_so (event.Reset key) done are = none_so done are
  event_so (event.NextState state) done are = none_so done are
  event_so event.Stop done are = none_so done are
  event_so (event.Failed why) done are = none_so done are
  event_so (event.Rest state) done are = none_so done are
  event_so (event.Cut state) done are = none_so done are

  both_so : (one later : List Effect) → AreSent P one → AreSent P later → AreSent P (one ++ later)
  both_so [] later are more = more
  both_so (Send to item ∷ rest) later are more = (are.0, both_so rest later are.1 more)
  both_so (Arm fuse ∷ rest) later are more = both_so rest later are more
  both_so (Create process number parent values ∷ rest) later are more = both_so rest later are more

  pub deeds_so : (deeds : List Deed) → AreActs m deeds → AreSent P (effects_of deeds)
  deeds_so [] are = tt
  deeds_so (deed ∷ rest) are =
      both_so deed.effects (effects_of rest) (event_so deed.event deed.effects are.0) (deeds_so rest are.1)

-- who is among the records
pub contains_pid : (records : List RecordValue) (k : ℕ) (who : Identity)
    → slice_get (identities_of records) k ≡ Some who
    → Contains (map (λ (trace : RecordValue). Of trace.pid) records) (Of who.pid)
contains_pid [] k who there = absurd (none-some who there)
contains_pid (trace ∷ rest) zero who there =
    let same : identity_of trace ≡ who = same_Some (identity_of trace) who there in
    (0, omega arith, ap (λ (w : Identity). Of w.pid) same)
contains_pid (trace ∷ rest) (suc k) who there =
    Contains-append_right (Of trace.pid ∷ []) (map (λ (trace : RecordValue). Of trace.pid) rest) (Of who.pid)
    (contains_pid rest k who there)
