-- Senders by their numbers, and what they have put, once one of them has changed.
use Rattle.std.proofs.Common.{◌≡◌, ◌∙◌, ap, append-nil, cond, eq-eqb, eqb-true, is_some, nat_eq, refl}
use Rattle.std.proofs.Common.{sym, subst, ℕ, Bool, true, false, List, [], ◌∷◌, ◌++◌, ◌+◌, Option, None, Some}
use Rattle.std.proofs.Common.{Result, Ok, Err, MatchResult}
use Rattle.std.proofs.lemmas.Map.{lookup-set_value}
use Rattle.std.specs.Cmp.{nat_eq_equiv}
use Rattle.std.specs.Map.{set_value}
use Rattle.std.specs.Option.{option_map_or}
use Rattle.port_model.specs.Calls.{ComesBack}
use Rattle.port_model.specs.Put.{of}
use Rattle.port_model.specs.declared.inbox.entry.Entry.{Entry}
use Rattle.port_model.specs.declared.inbox.placed.Placed.{Placed}
use Rattle.input_port.proofs.PutLists.{of_none, of_same}
use Rattle.input_port.specs.QueueCalls.{PutIs, Puts}
use Rattle.input_port.specs.Counts.{signal_before, signals_in}
use Rattle.input_port.specs.QueueEnds.{SenderState, sent_by}
use Rattle.port_model.specs.declared.values.item.Item.{Item}
use Rattle.port_model.specs.declared.refused.Refused.{Refused}
use Rattle.threads_ports.proofs.Signals.{signals_in-append}
use Rattle.threads_ports.specs.Peers.{PeersState, PutsTo, is_known, put_by, put_to, sender_to}

-- ---- one sender in the place of another, or of none

-- the senders are the old ones, but for this one at this number
abbrev pub IsSet : PeersState → ℕ → Option SenderState → PeersState → Type 0
IsSet old number sender new = (n : ℕ) → sender_to new n ≡ cond (nat_eq number n) sender (sender_to old n)

-- what a sender has put, if there is one
abbrev pub put_in : Option SenderState → List Item
put_in sender = option_map_or put_by sender []

put_in_by : (b : Bool) (sender other : Option SenderState)
    → put_in (cond b sender other) ≡ cond b (put_in sender) (put_in other)
put_in_by true sender other = refl
put_in_by false sender other = refl

pub put_to-set : (old new : PeersState) (number : ℕ) (sender : Option SenderState) → IsSet old number sender new → (n : ℕ)
    → put_to new n ≡ cond (nat_eq number n) (put_in sender) (put_to old n)
put_to-set old new number sender set n = ap put_in (set n) ∙ put_in_by (nat_eq number n) sender (sender_to old n)

-- ---- a put

pub put_by-puts : (before after : SenderState) (at : ℕ) (entry : Entry) → Puts before after at entry
    → put_by after ≡ put_by before ++ signal_before entry []
put_by-puts before after at entry puts =
    let placed : Placed = record { number = before.number; count = sent_by before + 1; at = at; entry = entry } in
    ap (λ n. signals_in (of n after.seen)) puts.number
    ∙ ap (λ l. signals_in (of before.number l)) puts.seen
    ∙ ap signals_in (of_same before.number (before.seen ++ puts.between) placed refl)
    ∙ signals_in-append (of before.number (before.seen ++ puts.between)) (placed ∷ [])
    ∙ ap (λ l. signals_in l ++ signal_before entry []) (of_none before.number before.seen puts.between puts.others)

-- where a sender has put something through the senders
pub set-through : (old new : PeersState) (number : ℕ) (before after : SenderState) → sender_to old number ≡ Some before
    → new ≡ set_value (nat_eq number) old after → IsSet old number (Some after) new
set-through old new number before after known changed n =
    ap (λ l. sender_to l n) changed
    ∙ lookup-set_value nat_eq_equiv (nat_eq number) (nat_eq_equiv.congr number) n after old (ap is_some known)

set-puts : (number at : ℕ) (entry : Entry) (old new : PeersState) (puts : PutsTo number at entry old new)
    → IsSet old number (Some puts.after) new
set-puts number at entry old new puts = set-through old new number puts.before puts.after puts.known puts.changed

put_to-puts_by : (number at : ℕ) (entry : Entry) (old new : PeersState) (puts : PutsTo number at entry old new) (n : ℕ)
    (b : Bool) → nat_eq number n ≡ b
    → cond b (put_by puts.after) (put_to old n) ≡ put_to old n ++ cond b (signal_before entry []) []
put_to-puts_by number at entry old new puts n true here =
    let known = ap (λ m. put_to old m) (sym (eqb-true number n here)) ∙ ap put_in puts.known in
    put_by-puts puts.before puts.after at entry puts.puts ∙ ap (λ l. l ++ signal_before entry []) (sym known)
put_to-puts_by number at entry old new puts n false here = sym (append-nil (put_to old n))

pub put_to-puts : (number at : ℕ) (entry : Entry) (old new : PeersState) → PutsTo number at entry old new → (n : ℕ)
    → put_to new n ≡ put_to old n ++ cond (nat_eq number n) (signal_before entry []) []
put_to-puts number at entry old new puts n =
    put_to-set old new number (Some puts.after) (set-puts number at entry old new puts) n
    ∙ put_to-puts_by number at entry old new puts n (nat_eq number n) refl

set_value-same_by : (e : ℕ × SenderState) (es : PeersState) (number : ℕ) (before after : SenderState) (b : Bool)
    → cond b (Some e.1) (sender_to es number) ≡ Some before → after ≡ before
    → (sender_to es number ≡ Some before → set_value (nat_eq number) es after ≡ es)
    → cond b ((e.0, after) ∷ es) (e ∷ set_value (nat_eq number) es after) ≡ e ∷ es
set_value-same_by e es number before after true known same rest =
    let one : e.1 ≡ before = cc in ap (λ v. (e.0, v) ∷ es) (same ∙ sym one)
set_value-same_by e es number before after false known same rest = ap (λ l. e ∷ l) (rest known)

set_value-same : (es : PeersState) (number : ℕ) (before after : SenderState) → sender_to es number ≡ Some before
    → after ≡ before → set_value (nat_eq number) es after ≡ es
set_value-same [] number before after known same = refl
set_value-same (e ∷ es) number before after known same =
    set_value-same_by e es number before after (nat_eq number e.0) known same
    (λ there. set_value-same es number before after there same)

-- what a sender has put, its owner has put, by what it sees of the senders
pub puts_through : (number at : ℕ) (entry : Entry) (items view new : PeersState) (before after : SenderState)
    → items ≡ view → Some before ≡ sender_to items number → new ≡ set_value (nat_eq number) items after
    → Puts before after at entry → PutsTo number at entry view new
puts_through number at entry items view new before after is known changed puts =
    subst (λ (old : PeersState). PutsTo number at entry old new) is
    (record { before = before; after = after; known = sym known; puts = puts; changed = changed })

-- where a sender stays as it was, all do
pub stays_through : (number : ℕ) (items view new : PeersState) (before after : SenderState)
    → items ≡ view → Some before ≡ sender_to items number → new ≡ set_value (nat_eq number) items after
    → after ≡ before → new ≡ view
stays_through number items view new before after is known changed same =
    changed ∙ set_value-same items number before after (sym known) same ∙ is

-- what a sender answers, its owner answers
pub put_through : {T : Type 0} (number at : ℕ) (entry : Entry) (value : T) (result : Result (Unit {0}) (Refused T))
    (items view new : PeersState) (before after : SenderState) → items ≡ view → Some before ≡ sender_to items number
    → new ≡ set_value (nat_eq number) items after → PutIs before after at entry value result
    → MatchResult result (λ _. PutsTo number at entry view new) (λ back. ComesBack back value × (new ≡ view))
put_through number at entry value (Ok done) items view new before after is known changed answer =
    puts_through number at entry items view new before after is known changed answer
put_through number at entry value (Err back) items view new before after is known changed answer =
    (answer.0, stays_through number items view new before after is known changed answer.1)

-- a sender that is found is known, and one that isn't found is not
pub is_found : (number : ℕ) (items view : PeersState) (sender : Option SenderState) → items ≡ view
    → sender ≡ sender_to items number → is_known view number ≡ is_some sender
is_found number items view sender is found =
    ap (λ (l : PeersState). is_known l number) (sym is) ∙ ap is_some (sym found)

-- ---- the last sender

sender_to-last_by : (number : ℕ) (e : ℕ × SenderState) (es : PeersState) (sender : SenderState) (b : Bool)
    → cond b (Some e.1) (sender_to es number) ≡ None
    → (sender_to es number ≡ None → sender_to (es ++ (number, sender) ∷ []) number ≡ Some sender)
    → cond b (Some e.1) (sender_to (es ++ (number, sender) ∷ []) number) ≡ Some sender
sender_to-last_by number e es sender true none rest = cc
sender_to-last_by number e es sender false none rest = rest none

pub sender_to-last : (number : ℕ) (es : PeersState) (sender : SenderState) → sender_to es number ≡ None
    → sender_to (es ++ (number, sender) ∷ []) number ≡ Some sender
sender_to-last number [] sender none = ap (λ b. cond b (Some sender) None) (eq-eqb number number refl)
sender_to-last number (e ∷ es) sender none =
    sender_to-last_by number e es sender (nat_eq number e.0) none (sender_to-last number es sender)

-- a number that isn't known has no sender
pub sender_to-unknown : (sender : Option SenderState) → is_some sender ≡ false → sender ≡ None
sender_to-unknown None is = refl
sender_to-unknown (Some s) is = cc
