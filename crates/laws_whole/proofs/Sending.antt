-- What acts send to an instance, and what of that comes into its port.
use Rattle.std.proofs.Common.{◌≡◌, ◌∙◌, ◌&&◌, ◌==◌, ◌++◌, ◌+◌, ◌<◌, ◌≤◌, ap, append-nil, append_assoc, arith, if◌then◌else◌, nat_eq, nat_le, nat_lt, refl, subst, sym, ℕ, Bool, true, false, All, List, [], ◌∷◌, None, Option, Some}
use Rattle.std.proofs.lemmas.List.Concat.{flat_map-append}
use Rattle.std.proofs.lemmas.List.Elements.{All-append, All-cons, All-nil}
use Rattle.port_model.specs.declared.inbox.entry.Fuse.{Fuse}
use Rattle.port_model.specs.History.{Expire, PortEvent, Put, Reset, Set, Stop, Take}
use Rattle.port_model.specs.declared.values.item.Item.{Item}
use Rattle.port_model.specs.declared.values.value.Value.{Value}
use Rattle.run_record.specs.Event as event
use Rattle.run_record.specs.Event.{Event}
use Rattle.run_semantics.proofs.Acting.{AreActs, AreActsOf}
use Rattle.run_semantics.specs.Effect.{Arm, Create, Deed, Effect, Send, effects_of, events_of}
use Rattle.run_semantics.specs.Leads.{created}
use Rattle.run_semantics.specs.Sent.{sent_by_one, sent_to}
use Rattle.sdl_system.specs.declared.id.ProcessId.{ProcessId}
use Rattle.sdl_system.specs.declared.route.Target.{Target}
use Rattle.sdl_system.specs.declared.route.Target.TheVariants.{Env, Instance, Nobody, Null}
use Rattle.serial_order.specs.Told.{Moment, comes_by, comes_by_one, expiry_by, given_after, given_after_one, is_there, put_by, puts_of}

-- ---- who is there

pub there_is : (n : ℕ) (now : Moment) → 0 < n → n < now.given + 1 → is_there n now ≡ true
there_is n now first within =
    both (nat_lt 0 n) (nat_le n now.given) (grind (arith, first)) (grind (arith, within)) where
      both : (a b : Bool) → a ≡ true → b ≡ true → (a && b) ≡ true
      both a b one other = ap (λ x. x && b) one ∙ other

pub not_there_is : (n : ℕ) (now : Moment) → now.given < n → is_there n now ≡ false
not_there_is n now beyond = either (nat_lt 0 n) (nat_le n now.given) (grind (arith, beyond)) where
  either : (a b : Bool) → b ≡ false → (a && b) ≡ false
  either true b other = other
  either false b other = refl

-- numbers are only given
given_on : (given : ℕ) (effect : Effect) → given ≤ given_after_one given effect
given_on given (Send target item) = omega arith
given_on given (Arm fuse) = omega arith
given_on given (Create process number parent values) = omega arith

pub given_more : (given : ℕ) (done : List Effect) → given ≤ given_after given done
given_more given [] = omega arith
given_more given (effect ∷ rest) =
    let first : given ≤ given_after_one given effect = given_on given effect in
    let later : given_after_one given effect ≤ given_after (given_after_one given effect) rest =
    given_more (given_after_one given effect) rest in
    omega (arith, first, later)

pub given_after-append : (given : ℕ) (first later : List Effect)
    → given_after given (first ++ later) ≡ given_after (given_after given first) later
given_after-append given [] later = refl
given_after-append given (effect ∷ rest) later = given_after-append (given_after_one given effect) rest later

-- ---- puts

pub puts_of-append : (first later : List PortEvent) → puts_of (first ++ later) ≡ puts_of first ++ puts_of later
puts_of-append [] later = refl
puts_of-append (Put item ∷ rest) later = ap (λ (items : List Item). item ∷ items) (puts_of-append rest later)
puts_of-append (Expire key arm due at ∷ rest) later = puts_of-append rest later
puts_of-append (Take classes taken ∷ rest) later = puts_of-append rest later
puts_of-append (Set key due arm ∷ rest) later = puts_of-append rest later
puts_of-append (Reset key ∷ rest) later = puts_of-append rest later
puts_of-append (Stop ∷ rest) later = puts_of-append rest later

-- an expiry puts nothing
pub no_put : (n at : ℕ) (fuse : Fuse) (b : Bool) → puts_of (if b then expiry_by n at fuse else []) ≡ []
no_put n at fuse false = refl
no_put n at fuse true = by_test (nat_eq fuse.pid n) where
  by_test : (b : Bool) → puts_of (if b then Expire fuse.key fuse.arm fuse.due at ∷ [] else []) ≡ []
  by_test true = refl
  by_test false = refl

module _ (n : ℕ) where
  -- what an act sends to the instance, whether it is there or not
  abbrev pub item_to : Target → Item → List Item
  item_to (Instance number) item = if number == n then item ∷ [] else []
  item_to target item = []

  abbrev pub sends_to : List Effect → List Item
  sends_to [] = []
  sends_to (Send target item ∷ rest) = item_to target item ++ sends_to rest
  sends_to (Arm fuse ∷ rest) = sends_to rest
  sends_to (Create process number parent values ∷ rest) = sends_to rest

  put_item : (target : Target) (item : Item) → puts_of (put_by n target item) ≡ item_to target item
  put_item (Instance number) item = by_test (nat_eq number n) where
    by_test : (b : Bool) → puts_of (if b then Put item ∷ [] else []) ≡ (if b then item ∷ [] else [])
    by_test true = refl
    by_test false = refl
  put_item Env item = refl
  put_item Null item = refl
  put_item Nobody item = refl

  -- all comes where it is there
  pub all_comes : (now : Moment) (done : List Effect) → 0 < n → n < now.given + 1
      → puts_of (comes_by n now done) ≡ sends_to done
  all_comes now [] first within = refl
  all_comes now (Send target item ∷ rest) first within =
      puts_of-append (comes_by_one n now (Send target item)) (comes_by n now rest)
      ∙ ap (λ (b : Bool). puts_of (if b then put_by n target item else []) ++ puts_of (comes_by n now rest))
      (there_is n now first within)
      ∙ ap (λ (l : List Item). l ++ puts_of (comes_by n now rest)) (put_item target item)
      ∙ ap (λ (l : List Item). item_to target item ++ l) (all_comes now rest first within)
  all_comes now (Arm fuse ∷ rest) first within =
      puts_of-append (comes_by_one n now (Arm fuse)) (comes_by n now rest)
      ∙ ap (λ (l : List Item). l ++ puts_of (comes_by n now rest))
      (no_put n now.clock fuse (is_there n now && nat_le fuse.due now.clock))
      ∙ all_comes now rest first within
  all_comes now (Create process number parent values ∷ rest) first within =
      all_comes (record now { given = now.given + 1 }) rest first (omega (arith, within))

  pub comes_by-append : (now : Moment) (first later : List Effect)
      → comes_by n now (first ++ later)
      ≡ comes_by n now first ++ comes_by n (record now { given = given_after now.given first }) later
  comes_by-append now [] later = refl
  comes_by-append now (effect ∷ rest) later =
      let next : Moment = record now { given = given_after_one now.given effect } in
      ap (λ (l : List PortEvent). comes_by_one n now effect ++ l) (comes_by-append next rest later)
      ∙ sym (append_assoc (comes_by_one n now effect) (comes_by n next rest)
      (comes_by n (record now { given = given_after next.given rest }) later))

  pub puts_by-append : (now : Moment) (first later : List Effect)
      → puts_of (comes_by n now (first ++ later))
      ≡ puts_of (comes_by n now first)
      ++ puts_of (comes_by n (record now { given = given_after now.given first }) later)
  puts_by-append now first later =
      ap puts_of (comes_by-append now first later)
      ∙ puts_of-append (comes_by n now first) (comes_by n (record now { given = given_after now.given first }) later)

-- ---- what the events of an instance send

module _ (m n : ℕ) where
  none_sent : (done : List Effect) → done ≡ [] → sends_to n done ≡ []
  none_sent done none = ap (λ (l : List Effect). sends_to n l) none

  created_none : (process : ProcessId) (values : List Value) (number : Option ℕ)
      → sends_to n (created process m values number) ≡ []
  created_none process values None = refl
  created_none process values (Some number) = refl

  event_sends : (e : Event) (done : List Effect) → AreActsOf m e done → sends_to n done ≡ sent_by_one m n e
  event_sends (event.Output signal named values (Instance to)) done are =
      ap (λ (l : List Effect). sends_to n l) are.1
      ∙ append-nil (item_to n (Instance to) are.0)
      ∙ ap (λ (item : Item). item_to n (Instance to) item) are.3
  event_sends (event.Output signal named values Env) done are = ap (λ (l : List Effect). sends_to n l) are.1
  event_sends (event.Output signal named values Null) done are = ap (λ (l : List Effect). sends_to n l) are.1
  event_sends (event.Output signal named values Nobody) done are = ap (λ (l : List Effect). sends_to n l) are.1
  event_sends (event.Set key due) done are = ap (λ (l : List Effect). sends_to n l) are.1
  event_sends (event.Create process number) done are =
      ap (λ (l : List Effect). sends_to n l) are.1 ∙ created_none process are.0 number
  event_sends (event.Start at) done are = none_sent done are
  event_sends (event.Consumed at got) done are = none_sent done are
  event_sends (event.Prior at got) done are = none_sent done are
  event_sends (event.Discarded at got) done are = none_sent done are
  event_sends (event.Provided at number) done are = none_sent done are
  event_sends (event.FailedAt at why) done are = none_sent done are
  event_sends (event.Task variable value) done are = none_sent done are
  event_sends (event.Reset key) done are = none_sent done are
  event_sends (event.NextState state) done are = none_sent done are
  event_sends event.Stop done are = none_sent done are
  event_sends (event.Failed why) done are = none_sent done are
  event_sends (event.Rest state) done are = none_sent done are
  event_sends (event.Cut state) done are = none_sent done are

  sends_to-append : (first later : List Effect) → sends_to n (first ++ later) ≡ sends_to n first ++ sends_to n later
  sends_to-append [] later = refl
  sends_to-append (Send target item ∷ rest) later =
      ap (λ (l : List Item). item_to n target item ++ l) (sends_to-append rest later)
      ∙ sym (append_assoc (item_to n target item) (sends_to n rest) (sends_to n later))
  sends_to-append (Arm fuse ∷ rest) later = sends_to-append rest later
  sends_to-append (Create process number parent values ∷ rest) later = sends_to-append rest later

  pub deeds_send : (deeds : List Deed) → AreActs m deeds → sends_to n (effects_of deeds) ≡ sent_to m (events_of deeds) n
  deeds_send [] are = refl
  deeds_send (deed ∷ rest) are =
      sends_to-append deed.effects (effects_of rest)
      ∙ ap (λ (l : List Item). l ++ sends_to n (effects_of rest)) (event_sends deed.event deed.effects are.0)
      ∙ ap (λ (l : List Item). sent_by_one m n deed.event ++ l) (deeds_send rest are.1)

  pub sent_to-append : (first later : List Event)
      → sent_to m (first ++ later) n ≡ sent_to m first n ++ sent_to m later n
  sent_to-append first later = flat_map-append (sent_by_one m n) first later

-- ---- whose the signals are that come

module _ (P : Item → Type 0) where
  -- this is so of all signals that are sent
  abbrev pub AreSent : List Effect → Type 0
  AreSent [] = Unit {0}
  AreSent (Send target item ∷ rest) = P item × AreSent rest
  AreSent (Arm fuse ∷ rest) = AreSent rest
  AreSent (Create process number parent values ∷ rest) = AreSent rest

  one_put : (n : ℕ) (b : Bool) (target : Target) (item : Item) → P item
      → All P (puts_of (if b then put_by n target item else []))
  one_put n false target item holds = All-nil P
  one_put n true (Instance number) item holds = by_test (nat_eq number n) where
    by_test : (b : Bool) → All P (puts_of (if b then Put item ∷ [] else []))
    by_test true = All-cons P item [] holds (All-nil P)
    by_test false = All-nil P
  one_put n true Env item holds = All-nil P
  one_put n true Null item holds = All-nil P
  one_put n true Nobody item holds = All-nil P

  pub all_come_so : (n : ℕ) (now : Moment) (done : List Effect) → AreSent done → All P (puts_of (comes_by n now done))
  all_come_so n now [] are = All-nil P
  all_come_so n now (Send target item ∷ rest) are =
      subst (λ (l : List Item). All P l)
      (sym (puts_of-append (comes_by_one n now (Send target item)) (comes_by n now rest)))
      (All-append P (puts_of (comes_by_one n now (Send target item))) (puts_of (comes_by n now rest))
      (one_put n (is_there n now) target item are.0) (all_come_so n now rest are.1))
  all_come_so n now (Arm fuse ∷ rest) are =
      subst (λ (l : List Item). All P l)
      (sym (puts_of-append (comes_by_one n now (Arm fuse)) (comes_by n now rest)
      ∙ ap (λ (l : List Item). l ++ puts_of (comes_by n now rest))
      (no_put n now.clock fuse (is_there n now && nat_le fuse.due now.clock))))
      (all_come_so n now rest are)
  all_come_so n now (Create process number parent values ∷ rest) are =
      all_come_so n (record now { given = now.given + 1 }) rest are
