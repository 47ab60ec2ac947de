-- What is noted of an event, by what its entry does.
use Rattle.std.proofs.Common.{◌≡◌, ℕ, ◌+◌, ◌==◌, Bool, true, false, List, [], ◌∷◌, ◌++◌, length, take, drop, set, nat_eq, None, Some, Result, Ok, Err, refl, sym, ◌∙◌, ap, subst, append-nil, arith, if◌then◌else◌}
use Rattle.std.specs.Prelude.{IfOk, IsFalse, IsTrue, OnOk}
use Rattle.std.proofs.lemmas.List.{drop_all, take_all}
use Rattle.indexmap.specs.IndexSet.{IndexSet, contains}
use Rattle.port_model.specs.declared.values.item.SignalId.{SignalId}
use Rattle.port_model.specs.declared.values.value.Value.{Value}
use Rattle.run_record.specs.Entry.{event_of, got_from, got_of}
use Rattle.run_record.specs.Event as event
use Rattle.run_record.specs.declared.entry.Entry as entry
use Rattle.run_record.specs.declared.entry.Entry.TheVariants as kept
use Rattle.run_record.specs.declared.entry.Origin as origin
use Rattle.run_record.specs.declared.entry.Origin.TheVariants as from
use Rattle.run_record.specs.declared.entry.Stimulus.{Stimulus}
use Rattle.sdl_system.specs.declared.route.Dest.{Dest}
use Rattle.sdl_system.specs.declared.route.Target as target
use Rattle.sdl_system.specs.declared.route.Target.TheVariants as reached
use Rattle.view_timeline.specs.Did.{Message, did, message_got, sent_by, taken_by}
use Rattle.view_timeline.specs.Effect.{effect_in}
use Rattle.view_timeline.specs.Rows.{IsFirst, letter}
use Rattle.view_timeline.specs.Traffic.{IsMissing, IsToBegun, Ledger, Links, Notes, Passes, Puts, Takes, arrow}
use Rattle.view_timeline.specs.declared.moves.Link.TheVariants as is
use Rattle.view_timeline.specs.declared.channel.Channel.{Channel}
use Rattle.view_timeline.specs.declared.entries.Effect.{Effect}
use Rattle.view_timeline.specs.declared.entries.Effect.TheVariants as effect

-- who lives stays the same
abbrev pub KeepsLiving : Ledger → Ledger → Type 0
KeepsLiving old new = (n : ℕ) → new.living n ≡ old.living n

-- and who has begun
abbrev pub KeepsBegun : Ledger → Ledger → Type 0
KeepsBegun old new = (n : ℕ) → new.begun n ≡ old.begun n

-- what is noted of an entry that does this
abbrev pub Does : ℕ → List Value → Effect → Ledger → Ledger → Type 0
Does own values (effect.Takes got) old new =
    Links None (message_got own (got_of got values)) old new × KeepsLiving old new × KeepsBegun old new
Does own values (effect.Sends signal target) old new =
    ((named : Dest) → Links (sent_by own (event.Output signal named values target)) None old new)
    × KeepsLiving old new × KeepsBegun old new
Does own values (effect.Creates number) old new =
    Passes old new × ((n : ℕ) → new.living n ≡ (if number == n then true else old.living n))
    × ((n : ℕ) → new.begun n ≡ (if number == n then true else old.begun n))
Does own values effect.Ends old new =
    Passes old new × ((n : ℕ) → new.living n ≡ (if own == n then false else old.living n)) × KeepsBegun old new
Does own values effect.Nothing old new = Passes old new × KeepsLiving old new × KeepsBegun old new

pub notes-effect : (own : ℕ) (one : entry.Entry) (values : List Value) (old new : Ledger)
    → IsToBegun (event_of one values) old → Does own values (effect_in one) old new
    → Notes (did own (event_of one values)) old new
notes-effect own (kept.Start at) values old new to_begun does = record { living = does.1; begun = does.2; to_begun = to_begun; links = does.0 }
notes-effect own (kept.Consumed at got) values old new to_begun does = record { living = does.1; begun = does.2; to_begun = to_begun; links = does.0 }
notes-effect own (kept.Prior at got) values old new to_begun does = record { living = does.1; begun = does.2; to_begun = to_begun; links = does.0 }
notes-effect own (kept.Discarded at got) values old new to_begun does = record { living = does.1; begun = does.2; to_begun = to_begun; links = does.0 }
notes-effect own (kept.Provided at number) values old new to_begun does = record { living = does.1; begun = does.2; to_begun = to_begun; links = does.0 }
notes-effect own (kept.FailedAt at why) values old new to_begun does = record { living = does.1; begun = does.2; to_begun = to_begun; links = does.0 }
notes-effect own (kept.Task variable value) values old new to_begun does = record { living = does.1; begun = does.2; to_begun = to_begun; links = does.0 }
notes-effect own (kept.Output signal named target) values old new to_begun does =
    record { living = does.1; begun = does.2; to_begun = to_begun; links = does.0 named }
notes-effect own (kept.Set timer due) values old new to_begun does = record { living = does.1; begun = does.2; to_begun = to_begun; links = does.0 }
notes-effect own (kept.Reset timer) values old new to_begun does = record { living = does.1; begun = does.2; to_begun = to_begun; links = does.0 }
notes-effect own (kept.Create process None) values old new to_begun does = record { living = does.1; begun = does.2; to_begun = to_begun; links = does.0 }
notes-effect own (kept.Create process (Some number)) values old new to_begun does = record { living = does.1; begun = does.2; to_begun = to_begun; links = does.0 }
notes-effect own (kept.NextState state) values old new to_begun does = record { living = does.1; begun = does.2; to_begun = to_begun; links = does.0 }
notes-effect own kept.Stop values old new to_begun does = record { living = does.1; begun = does.2; to_begun = to_begun; links = does.0 }
notes-effect own (kept.Failed why) values old new to_begun does = record { living = does.1; begun = does.2; to_begun = to_begun; links = does.0 }
notes-effect own (kept.Rest state) values old new to_begun does = record { living = does.1; begun = does.2; to_begun = to_begun; links = does.0 }
notes-effect own (kept.Cut state) values old new to_begun does = record { living = does.1; begun = does.2; to_begun = to_begun; links = does.0 }

-- the same, where the effect is known
pub notes-does : (own : ℕ) (one : entry.Entry) (values : List Value) (effect : Effect) (old new : Ledger)
    → IsToBegun (event_of one values) old → effect ≡ effect_in one → Does own values effect old new → Notes (did own (event_of one values)) old new
notes-does own one values effect old new to_begun is does =
    notes-effect own one values old new to_begun (subst (λ (e : Effect). Does own values e old new) is does)

-- where the answer is whether it is so
noted-so : {E : Type 0} (result : Result Bool E) (P Q : Type 0) → (P → Q)
    → IfOk result (λ noted. IsTrue noted → P) → IfOk result (λ noted. IsTrue noted → Q)
noted-so (Ok b) P Q so was = λ is. so (was is)
noted-so (Err e) P Q so was = tt

pub notes-takes : {E : Type 0} (own : ℕ) (one : entry.Entry) (values : List Value) (got : Stimulus) (old new : Ledger)
    (result : Result Bool E) → IsToBegun (event_of one values) old → effect.Takes got ≡ effect_in one
    → KeepsLiving old new → KeepsBegun old new
    → IfOk result (λ noted. IsTrue noted → Links None (message_got own (got_of got values)) old new)
    → IfOk result (λ noted. IsTrue noted → Notes (did own (event_of one values)) old new)
notes-takes own one values got old new result to_begun is living begun links =
    noted-so result (Links None (message_got own (got_of got values)) old new)
    (Notes (did own (event_of one values)) old new)
    (λ l. notes-does own one values (effect.Takes got) old new to_begun is (l, living, begun)) links

-- what isn't noted takes a signal that doesn't wait first
abbrev pub Misses : ℕ → List Value → Effect → Ledger → Type 0
Misses own values (effect.Takes got) old = IsMissing (message_got own (got_of got values)) old
Misses own values _ old = ⊥

misses-effect : (own : ℕ) (one : entry.Entry) (values : List Value) (old : Ledger)
    → Misses own values (effect_in one) old → IsMissing (taken_by own (event_of one values)) old
misses-effect own (kept.Consumed at got) values old misses = misses
misses-effect own (kept.Prior at got) values old misses = misses
misses-effect own (kept.Discarded at got) values old misses = misses
misses-effect own (kept.Create process None) values old misses = absurd misses
misses-effect own (kept.Create process (Some number)) values old misses = absurd misses
misses-effect own _ values old misses = absurd misses

pub not_noted-so : {E : Type 0} (result : Result Bool E) (P Q : Type 0) → (P → Q)
    → IfOk result (λ noted. IsFalse noted → P) → IfOk result (λ noted. IsFalse noted → Q)
not_noted-so (Ok b) P Q so was = λ is. so (was is)
not_noted-so (Err e) P Q so was = tt

pub misses-takes : {E : Type 0} (own : ℕ) (one : entry.Entry) (values : List Value) (got : Stimulus) (old : Ledger)
    (result : Result Bool E) → effect.Takes got ≡ effect_in one
    → IfOk result (λ noted. IsFalse noted → IsMissing (message_got own (got_of got values)) old)
    → IfOk result (λ noted. IsFalse noted → IsMissing (taken_by own (event_of one values)) old)
misses-takes own one values got old result is missing =
    not_noted-so result (IsMissing (message_got own (got_of got values)) old)
    (IsMissing (taken_by own (event_of one values)) old)
    (λ m. misses-effect own one values old (subst (λ (e : Effect). Misses own values e old) is m)) missing

-- what comes from no instance is no message
pub got-outside : (own : ℕ) (got : Stimulus) (values : List Value)
    → ((number : ℕ) → got.origin ≡ from.Instance number → ⊥) → message_got own (got_of got values) ≡ None
got-outside own got values never = by got.origin never
  where
    by : (o : origin.Origin) → ((number : ℕ) → o ≡ from.Instance number → ⊥)
        → message_got own (got_from o got.name values) ≡ None
    by from.Timer never = refl
    by from.Null never = refl
    by from.Env never = refl
    by (from.Instance number) never = absurd (never number refl)

-- what comes from an instance is what it sent
pub got-inside : {E : Type 0} (own sender : ℕ) (got : Stimulus) (values : List Value) (old new : Ledger)
    (result : Result Bool E) → got.origin ≡ from.Instance sender
    → IfOk result (λ taken. IsTrue taken → Takes (record {
      channel = record { sender = sender; receiver = own; signal = got.name };
      values = values;
    }) old new)
    → IfOk result (λ noted. IsTrue noted → Links None (message_got own (got_of got values)) old new)
got-inside own sender got values old new result is takes =
    noted-so result (Takes (record {
      channel = record { sender = sender; receiver = own; signal = got.name };
      values = values;
    }) old new)
    (Links None (message_got own (got_of got values)) old new)
    (λ t. subst (λ (o : origin.Origin). Links None (message_got own (got_from o got.name values)) old new) (sym is) t)
    takes

pub got-misses : {E : Type 0} (own sender : ℕ) (got : Stimulus) (values : List Value) (old : Ledger)
    (result : Result Bool E) → got.origin ≡ from.Instance sender
    → IfOk result (λ taken. IsFalse taken
    → IsFirst values (old.rows (record { sender = sender; receiver = own; signal = got.name })) → ⊥)
    → IfOk result (λ noted. IsFalse noted → IsMissing (message_got own (got_of got values)) old)
got-misses own sender got values old result is missing =
    not_noted-so result (IsFirst values (old.rows (record { sender = sender; receiver = own; signal = got.name })) → ⊥)
    (IsMissing (message_got own (got_of got values)) old)
    (λ m. subst (λ (o : origin.Origin). IsMissing (message_got own (got_from o got.name values)) old) (sym is) m)
    missing

-- an output that reaches no instance, and one that does
pub sent-outside : (own : ℕ) (signal : SignalId) (named : Dest) (values : List Value) (goal : target.Target)
    (old new : Ledger) → ((number : ℕ) → goal ≡ reached.Instance number → ⊥) → Passes old new
    → Links (sent_by own (event.Output signal named values goal)) None old new
sent-outside own signal named values (reached.Instance number) old new never passes = absurd (never number refl)
sent-outside own signal named values reached.Env old new never passes = passes
sent-outside own signal named values reached.Null old new never passes = passes
sent-outside own signal named values reached.Nobody old new never passes = passes

pub sent-inside : (own receiver : ℕ) (signal : SignalId) (named : Dest) (values : List Value) (goal : target.Target)
    (old new : Ledger) → goal ≡ reached.Instance receiver
    → Puts (record {
      channel = record { sender = own; receiver = receiver; signal = signal };
      values = values;
    }) old new
    → Links (sent_by own (event.Output signal named values goal)) None old new
sent-inside own receiver signal named values goal old new is puts =
    subst (λ (t : target.Target). Links (sent_by own (event.Output signal named values t)) None old new) (sym is) puts

-- a signal to an instance that doesn't live, and to one that does
pub puts-gone : (message : Message) (old new : Ledger) → old.living message.channel.receiver ≡ false
    → new.links ≡ old.links ++ is.Gone ∷ [] → new.arrows ≡ old.arrows
    → ((channel : Channel) → new.rows channel ≡ old.rows channel) → Puts message old new
puts-gone message old new lives links arrows rows = record {
  links = links ∙ ap (λ b. old.links ++ (if b then is.Waits else is.Gone) ∷ []) (sym lives);
  arrows = arrows;
  rows = λ channel. rows channel ∙ sym (append-nil (old.rows channel))
      ∙ ap (λ b. old.rows channel ++ (if b then letter channel (length old.links)
      (Some message) else [])) (sym lives);
}

pub puts-waits : (message : Message) (old new : Ledger) (place : ℕ) → old.living message.channel.receiver ≡ true
    → place ≡ length old.links → new.links ≡ old.links ++ is.Waits ∷ [] → new.arrows ≡ old.arrows
    → ((channel : Channel) → new.rows channel ≡ old.rows channel ++ letter channel place (Some message))
    → Puts message old new
puts-waits message old new place lives at links arrows rows = record {
  links = links ∙ ap (λ b. old.links ++ (if b then is.Waits else is.Gone) ∷ []) (sym lives);
  arrows = arrows;
  rows = λ channel. rows channel ∙ ap (λ k. old.rows channel ++ letter channel k (Some message)) at
      ∙ ap (λ b. old.rows channel ++ (if b then letter channel (length old.links)
      (Some message) else [])) (sym lives);
}

-- what waits first is taken
pub takes-first : (message : Message) (old new : Ledger) (place : ℕ)
    → old.rows message.channel
    ≡ (record { place = place; values = message.values }) ∷ new.rows message.channel
    → ((channel : Channel) → (channel ≡ message.channel → ⊥) → new.rows channel ≡ old.rows channel)
    → new.links ≡ set old.links place (arrow old.arrows) ++ arrow old.arrows ∷ [] → new.arrows ≡ old.arrows + 1
    → Takes message old new
takes-first message old new place was others links arrows = record {
  first = record { place = place; values = message.values };
  rest = new.rows message.channel;
  values = refl;
  was = was;
  left = refl;
  others = others;
  links = links;
  arrows = arrows;
}

-- what was written into a slice of a list stands in the list
pub written_back : {A : Type 0} (old new : List A) (n : ℕ) → n ≡ length old → length new ≡ length old
    → take n (new ++ drop (length new) old) ≡ new
written_back old new n size same =
    ap (λ l. take n (new ++ l)) (drop_all (length new) old (omega (arith, same))) ∙ ap (take n) (append-nil new)
    ∙ take_all n new (omega (arith, size, same))

-- ---- answers that are Ok

pub on-ok-always : {T E : Type 0} (result : Result T E) (P : Type 0) → P → OnOk result P
on-ok-always (Ok v) P is = is
on-ok-always (Err e) P is = tt

-- who lives, by the set
pub living-same : {S : Type 0} (old new : IndexSet ℕ S) → new ≡ old → (n : ℕ)
    → contains nat_eq new n ≡ contains nat_eq old n
living-same old new same n = ap (λ living. contains nat_eq living n) same
