-- What was sent and what was put of it, once a sender has come, or a signal was sent.
use Rattle.std.proofs.Common.{◌≡◌, ◌∙◌, ◌&&◌, ap, append-nil, append_assoc, cond, eqb-true, nat_eq, refl, sym, subst}
use Rattle.std.proofs.Common.{◌≤◌, ℕ, Bool, true, false, List, [], ◌∷◌, ◌++◌, Option, None, Some, Result, Ok, Err, MatchResult}
use Rattle.std.proofs.Common.{OnOk, inl, inr}
use Rattle.std.proofs.lemmas.Grind.{flat_map-append}
use Rattle.port_model.specs.Calls.{ComesBack}
use Rattle.port_model.specs.declared.inbox.entry.Entry.TheVariants.{Signal, Timer}
use Rattle.port_model.specs.declared.inbox.entry.Fuse.{Fuse}
use Rattle.input_port.specs.QueueEnds.{SenderState}
use Rattle.port_model.specs.declared.values.item.Item.{Item}
use Rattle.port_model.specs.declared.refused.Refused.{Refused}
use Rattle.threads_instance.specs.Outbox.{AreEnds, Arms, OutboxState, sent_in}
use Rattle.threads_ports.proofs.SenderLemmas.{put_in, put_to-puts, sender_to-unknown}
use Rattle.threads_ports.specs.Peers.{PeersState, PutsTo, is_known, put_by, put_to, sender_to}
use Rattle.threads_ports.specs.Rows.{EndsWith}
use Rattle.run_semantics.specs.World.{has_port, sent_on}

-- ---- a sender that has put nothing

opened_by : (b : Bool) (sender : SenderState) → put_by sender ≡ [] → put_in (cond b (Some sender) None) ≡ []
opened_by true sender fresh = fresh
opened_by false sender fresh = refl

first_by : (b : Bool) (first : SenderState) (rest other : Option SenderState) → put_in rest ≡ put_in other
    → put_in (cond b (Some first) rest) ≡ put_in (cond b (Some first) other)
first_by true first rest other same = refl
first_by false first rest other same = same

pub put_to-open : (n number : ℕ) (peers : PeersState) (sender : SenderState) → put_by sender ≡ []
    → put_to (peers ++ (number, sender) ∷ []) n ≡ put_to peers n
put_to-open n number [] sender fresh = opened_by (nat_eq n number) sender fresh
put_to-open n number (e ∷ es) sender fresh =
    first_by (nat_eq n e.0) e.1 (sender_to (es ++ (number, sender) ∷ []) n) (sender_to es n)
    (put_to-open n number es sender fresh)

-- by what an opening answers
pub opened_same : (number : ℕ) (result : Result (Unit {0}) (Refused SenderState)) (old new : PeersState)
    (sender : SenderState) → put_by sender ≡ []
    → MatchResult result (λ _. new ≡ old ++ (number, sender) ∷ []) (λ back. ComesBack back sender × (new ≡ old))
    → (n : ℕ) → put_to new n ≡ put_to old n
opened_same number (Ok done) old new sender fresh is n =
    ap (λ (peers : PeersState). put_to peers n) is ∙ put_to-open n number old sender fresh
opened_same number (Err back) old new sender fresh is n = ap (λ (peers : PeersState). put_to peers n) is.1

-- ---- what was sent to each instance

none_by : (port : Bool) (sent : List Item) (item : Item) → sent ≡ cond (port && false) (sent ++ item ∷ []) sent
none_by true sent item = refl
none_by false sent item = refl

on_by : (number n : ℕ) (put : List Item) (item : Item) (b : Bool) → nat_eq number n ≡ b → has_port number ≡ true
    → put ++ cond b (item ∷ []) [] ≡ cond (has_port n && b) (put ++ item ∷ []) put
on_by number n put item true here port =
    let there : has_port n ≡ true = ap has_port (sym (eqb-true number n here)) ∙ port in
    ap (λ p. cond (p && true) (put ++ item ∷ []) put) (sym there)
on_by number n put item false here port = append-nil put ∙ none_by (has_port n) put item

nothing_by : (b : Bool) (put : List Item) → put ++ cond b [] [] ≡ put
nothing_by true put = append-nil put
nothing_by false put = append-nil put

-- an expiry is no signal
pub expired_same : (number at : ℕ) (fuse : Fuse) (result : Result (Unit {0}) (Refused Fuse)) (old new : PeersState)
    → MatchResult result (λ _. PutsTo number at (Timer fuse) old new) (λ back. ComesBack back fuse × (new ≡ old))
    → (n : ℕ) → put_to new n ≡ put_to old n
expired_same number at fuse (Ok done) old new puts n =
    put_to-puts number at (Timer fuse) old new puts n ∙ nothing_by (nat_eq number n) (put_to old n)
expired_same number at fuse (Err back) old new puts n = ap (λ (peers : PeersState). put_to peers n) puts.1

-- ---- what was sent, and what was put of it

-- a signal to one instance
abbrev one : ℕ → ℕ × Item → List Item
one number signal = cond (nat_eq signal.0 number) (signal.1 ∷ []) []

sent_in-append : (sent : List (ℕ × Item)) (to : ℕ) (item : Item) (number : ℕ)
    → sent_in (sent ++ (to, item) ∷ []) number ≡ sent_in sent number ++ cond (nat_eq to number) (item ∷ []) []
sent_in-append sent to item number =
    flat_map-append (one number) sent ((to, item) ∷ [])
    ∙ ap (λ l. sent_in sent number ++ l) (append-nil (cond (nat_eq to number) (item ∷ []) []))

-- a signal to an instance that has a port
pub sent_one : (sent more : List (ℕ × Item)) (to : ℕ) (item : Item) → more ≡ sent ++ (to, item) ∷ []
    → has_port to ≡ true → (number : ℕ) → sent_in more number ≡ sent_on (sent_in sent) to item number
sent_one sent more to item is port number =
    ap (λ (l : List (ℕ × Item)). sent_in l number) is ∙ sent_in-append sent to item number
    ∙ on_by to number (sent_in sent number) item (nat_eq to number) refl port

nowhere_by : (to number : ℕ) (sent : List Item) (item : Item) (b : Bool) → nat_eq to number ≡ b → has_port to ≡ false
    → sent ≡ cond (has_port number && b) (sent ++ item ∷ []) sent
nowhere_by to number sent item true here port =
    let none : has_port number ≡ false = ap has_port (sym (eqb-true to number here)) ∙ port in
    ap (λ p. cond (p && true) (sent ++ item ∷ []) sent) (sym none)
nowhere_by to number sent item false here port = none_by (has_port number) sent item

-- a signal to a number that nobody can have
pub sent_nowhere : (sent : List (ℕ × Item)) (to : ℕ) (item : Item) → has_port to ≡ false → (number : ℕ)
    → sent_in sent number ≡ sent_on (sent_in sent) to item number
sent_nowhere sent to item port number =
    nowhere_by to number (sent_in sent number) item (nat_eq to number) refl port

-- where nothing was sent, nothing was put
pub ends_none : AreEnds [] []
ends_none number = ([], refl)

pub ends_same : (sent : List (ℕ × Item)) (old new : PeersState) → ((n : ℕ) → put_to new n ≡ put_to old n)
    → AreEnds sent old → AreEnds sent new
ends_same sent old new same ends n = ((ends n).0, (ends n).1 ∙ ap (λ l. (ends n).0 ++ l) (sym (same n)))

-- a signal is put
pub ends_put : (number : ℕ) (item : Item) (sent : List (ℕ × Item)) (old new : PeersState)
    → PutsTo number 0 (Signal item) old new → AreEnds sent old → AreEnds (sent ++ (number, item) ∷ []) new
ends_put number item sent old new puts ends n =
    let more : List Item = cond (nat_eq number n) (item ∷ []) [] in (
      (ends n).0,
      sent_in-append sent number item n ∙ ap (λ l. l ++ more) (ends n).1 ∙ append_assoc (ends n).0 (put_to old n) more
          ∙ ap (λ l. (ends n).0 ++ l) (sym (put_to-puts number 0 (Signal item) old new puts n)),
    )

lost_by : (number n : ℕ) (item : Item) (sent : List Item) (peers : PeersState) (b : Bool) → nat_eq number n ≡ b
    → is_known peers number ≡ false → EndsWith sent (put_to peers n)
    → EndsWith (sent ++ cond b (item ∷ []) []) (put_to peers n)
lost_by number n item sent peers true here unknown ends =
    let none : put_to peers n ≡ [] =
    ap (λ m. put_to peers m) (sym (eqb-true number n here))
    ∙ ap put_in (sender_to-unknown (sender_to peers number) unknown) in (
      sent ++ item ∷ [],
      sym (append-nil (sent ++ item ∷ [])) ∙ ap (λ l. (sent ++ item ∷ []) ++ l) (sym none),
    )
lost_by number n item sent peers false here unknown ends = (ends.0, append-nil sent ∙ ends.1)

-- a signal is gone that is sent where there is no sender
pub ends_lost : (number : ℕ) (item : Item) (sent : List (ℕ × Item)) (peers : PeersState)
    → is_known peers number ≡ false → AreEnds sent peers → AreEnds (sent ++ (number, item) ∷ []) peers
ends_lost number item sent peers unknown ends n =
    let lost = lost_by number n item (sent_in sent n) peers (nat_eq number n) refl unknown (ends n) in
    (lost.0, sent_in-append sent number item n ∙ lost.1)

-- ---- by what a call answers

-- a signal that came back is sent by a later call
pub sent_later : {E : Type 0} (result : Result (Unit {0}) E) (old between new : OutboxState) (to : ℕ) (item back : Item)
    → back ≡ item → between ≡ old
    → OnOk result ((number : ℕ) → sent_in new.sent number ≡ sent_on (sent_in between.sent) to back number)
    → OnOk result ((number : ℕ) → sent_in new.sent number ≡ sent_on (sent_in old.sent) to item number)
sent_later (Ok done) old between new to item back is same sent = λ number.
    sent number
    ∙ ap (λ (o : OutboxState). sent_on (sent_in o.sent) to back number) same
    ∙ ap (λ (i : Item). sent_on (sent_in old.sent) to i number) is
sent_later (Err error) old between new to item back is same sent = tt

pub expired : (result : Result (Unit {0}) Fuse) (fuse : Fuse) (own time : ℕ) (old new : PeersState) → own ≡ fuse.pid
    → fuse.due ≤ time
    → MatchResult result (λ _. PutsTo own time (Timer fuse) old new) (λ back. (back ≡ fuse) × (new ≡ old))
    → MatchResult result (λ _. (fuse.due ≤ time) × PutsTo fuse.pid time (Timer fuse) old new)
    (λ back. (back ≡ fuse) × (new ≡ old))
expired (Ok done) fuse own time old new is due puts = (due, subst (λ n. PutsTo n time (Timer fuse) old new) is puts)
expired (Err back) fuse own time old new is due puts = puts

-- a timer is put, or its fuse kept
pub arms_put : (time : ℕ) (fuse : Fuse) (kept later : List Fuse) (old new : PeersState)
    → (fuse.due ≤ time) × PutsTo fuse.pid time (Timer fuse) old new → later ≡ kept → Arms time fuse kept later old new
arms_put time fuse kept later old new puts same = inl (puts.0, puts.1, same)

pub arms_kept : (time : ℕ) (fuse back : Fuse) (kept later : List Fuse) (old new : PeersState) → back ≡ fuse → new ≡ old
    → later ≡ kept ++ back ∷ [] → Arms time fuse kept later old new
arms_kept time fuse back kept later old new is same keeps = inr (keeps ∙ ap (λ (f : Fuse). kept ++ f ∷ []) is, same)
