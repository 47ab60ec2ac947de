-- What keeps the fact that what was put is the last of what is sent.
use Rattle.std.proofs.Common.{◌≡◌, ◌∙◌, ap, append-nil, append_assoc, cond, nat_eq, refl, sym, subst, ℕ, Bool, true}
use Rattle.std.proofs.Common.{false, List, [], ◌∷◌, ◌++◌, All, Option, None, Some, Result, Ok, Err, MatchResult, IfSome}
use Rattle.std.proofs.lemmas.List.Elements.{All-append, All-cons, All-nil}
use Rattle.port_model.specs.Calls.{ComesBack}
use Rattle.port_model.specs.declared.inbox.entry.Entry.TheVariants.{Signal, Timer}
use Rattle.port_model.specs.declared.inbox.entry.Fuse.{Fuse}
use Rattle.input_port.specs.QueueEnds.{SenderState}
use Rattle.port_model.specs.declared.values.item.Item.{Item}
use Rattle.port_model.specs.declared.values.pid.Pid.{Pid}
use Rattle.port_model.specs.declared.values.pid.Pid.TheVariants.{Of}
use Rattle.port_model.specs.declared.refused.Refused.{Refused}
use Rattle.run_record.specs.Event.{Event}
use Rattle.sdl_system.specs.declared.route.Dest.{Dest}
use Rattle.threads_ports.proofs.SenderLemmas.{IsSet, put_in, put_to-puts, put_to-set, sender_to-last}
use Rattle.threads_ports.proofs.SentLemmas.{sent_by_one-output, sent_to-append}
use Rattle.threads_ports.specs.Peers.{AreLast, ArePeers, ArePeersOf, PeersState, PutsTo, put_by, put_to, sender_to, with_signal}
use Rattle.run_semantics.specs.Sent.{output_of, sent_to}
use Rattle.run_semantics.specs.World.{Sent}

-- nothing is the last of anything
pub last_none : (origin : Pid) (sends : List Item) → AreLast origin sends []
last_none origin sends = record {
  own = All-nil (λ (item : Item). item.sender ≡ origin);
  end = (sends, sym (append-nil sends));
}

-- where some signals more are sent, and just these are put
pub last_more : (origin : Pid) (sends put more : List Item) → All (λ item. item.sender ≡ origin) more
    → AreLast origin sends put → AreLast origin (sends ++ more) (put ++ more)
last_more origin sends put more own last = record {
  own = All-append (λ (item : Item). item.sender ≡ origin) put more last.own own;
  end = (last.end.0, ap (λ l. l ++ more) last.end.1 ∙ append_assoc last.end.0 put more);
}

-- what is sent is the same
pub last_of_same : (origin : Pid) (sends same put : List Item) → same ≡ sends → AreLast origin sends put
    → AreLast origin same put
last_of_same origin sends same put is last = record { own = last.own; end = (last.end.0, is ∙ last.end.1) }

put_one : (origin : Pid) (sends put : List Item) (item : Item) (b : Bool) → item.sender ≡ origin
    → AreLast origin sends put → AreLast origin (cond b (sends ++ item ∷ []) sends) (put ++ cond b (item ∷ []) [])
put_one origin sends put item true own last =
    last_more origin sends put (item ∷ [])
    (All-cons (λ (i : Item). i.sender ≡ origin) item [] own (All-nil (λ (i : Item). i.sender ≡ origin))) last
put_one origin sends put item false own last = subst (AreLast origin sends) (sym (append-nil put)) last

-- a signal is put
pub kept_put : (number : ℕ) (item : Item) (old new : PeersState) → PutsTo number 0 (Signal item) old new
    → (origin : Pid) (sends : Sent) → item.sender ≡ origin → ArePeers origin sends old
    → ArePeers origin (with_signal sends number item) new
kept_put number item old new puts origin sends own peers n =
    subst (AreLast origin (with_signal sends number item n))
    (sym (put_to-puts number 0 (Signal item) old new puts n))
    (put_one origin (sends n) (put_to old n) item (nat_eq number n) own (peers n))

with_one : (sends : List Item) (item : Item) (b : Bool)
    → sends ++ cond b (item ∷ []) [] ≡ cond b (sends ++ item ∷ []) sends
with_one sends item true = refl
with_one sends item false = append-nil sends

-- a signal is put, and then its output is noted
pub recorded_put : (number : ℕ) (item : Item) (old new : PeersState) → PutsTo number 0 (Signal item) old new → (who : ℕ)
    (events : List Event) (named : Dest) → item.sender ≡ Of who → ArePeersOf who events old
    → ArePeersOf who (events ++ output_of item named number ∷ []) new
recorded_put number item old new puts who events named own peers n =
    last_of_same (Of who) (with_signal (sent_to who events) number item n)
    (sent_to who (events ++ output_of item named number ∷ []) n) (put_to new n)
    (sent_to-append who events (output_of item named number) n
    ∙ ap (λ l. sent_to who events n ++ l) (sent_by_one-output who n number item named own)
    ∙ with_one (sent_to who events n) item (nat_eq number n))
    (kept_put number item old new puts (Of who) (sent_to who events) own peers n)

nothing_by : (b : Bool) (none : List Item) → none ≡ [] → cond b none [] ≡ []
nothing_by true none is = is
nothing_by false none is = refl

-- an expiry is no signal
pub kept_expire : (number at : ℕ) (fuse : Fuse) (old new : PeersState) → PutsTo number at (Timer fuse) old new
    → (origin : Pid) (sends : Sent) → ArePeers origin sends old → ArePeers origin sends new
kept_expire number at fuse old new puts origin sends peers n =
    subst (AreLast origin (sends n))
    (sym (put_to-puts number at (Timer fuse) old new puts n
    ∙ ap (λ l. put_to old n ++ l) (nothing_by (nat_eq number n) [] refl) ∙ append-nil (put_to old n)))
    (peers n)

kept_set_by : (origin : Pid) (sends put other : List Item) (b : Bool) → put ≡ [] → AreLast origin sends other
    → AreLast origin sends (cond b put other)
kept_set_by origin sends put other true nothing last = subst (AreLast origin sends) (sym nothing) (last_none origin sends)
kept_set_by origin sends put other false nothing last = last

-- where one that has put nothing comes, or one goes
pub kept_set : (old new : PeersState) (number : ℕ) (sender : Option SenderState) → IsSet old number sender new
    → put_in sender ≡ [] → (origin : Pid) (sends : Sent) → ArePeers origin sends old → ArePeers origin sends new
kept_set old new number sender set nothing origin sends peers n =
    subst (AreLast origin (sends n)) (sym (put_to-set old new number sender set n))
    (kept_set_by origin (sends n) (put_in sender) (put_to old n) (nat_eq number n) nothing (peers n))

pub kept_same : (old new : PeersState) → new ≡ old → (origin : Pid) (sends : Sent) → ArePeers origin sends old
    → ArePeers origin sends new
kept_same old new same origin sends peers = subst (ArePeers origin sends) (sym same) peers

-- what the last sender has put
pub last_of : (number : ℕ) (old new : PeersState) (sender : SenderState) → old ≡ new ++ (number, sender) ∷ []
    → sender_to new number ≡ None → (origin : Pid) (sends : Sent) → ArePeers origin sends old
    → AreLast origin (sends number) (put_by sender)
last_of number old new sender is none origin sends peers =
    subst (AreLast origin (sends number))
    (ap (λ l. put_to l number) is ∙ ap put_in (sender_to-last number new sender none)) (peers number)

-- what the sender of this number has put
pub last_in : (number : ℕ) (old : PeersState) (sender : Option SenderState) → sender ≡ sender_to old number
    → (origin : Pid) (sends : Sent) → ArePeers origin sends old
    → IfSome sender (λ s. AreLast origin (sends number) (put_by s))
last_in number old None is origin sends peers = tt
last_in number old (Some s) is origin sends peers =
    subst (AreLast origin (sends number)) (ap put_in (sym is)) (peers number)

-- ---- by what a call answers

pub expire_keeps : (number at : ℕ) (fuse : Fuse) (result : Result (Unit {0}) (Refused Fuse)) (old new : PeersState)
    → MatchResult result (λ _. PutsTo number at (Timer fuse) old new) (λ back. ComesBack back fuse × (new ≡ old))
    → (origin : Pid) (sends : Sent) → ArePeers origin sends old → ArePeers origin sends new
expire_keeps number at fuse (Ok done) old new puts = kept_expire number at fuse old new puts
expire_keeps number at fuse (Err back) old new puts = kept_same old new puts.1
