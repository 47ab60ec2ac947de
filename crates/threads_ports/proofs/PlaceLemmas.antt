-- Senders by their places. No two have the same number, so the one at the place of a number is the one of that number.
use Rattle.std.proofs.Common.{◌≡◌, ◌∙◌, ap, cond, eq-eqb, eqb-true, get_or, is_some, nat_eq, refl, slice_get, sym, subst, zero, suc, ℕ, Bool, true, false, List, [], ◌∷◌, Option, None, Some, MatchOption}
use Rattle.std.proofs.lemmas.List.Quantifiers.{position-Some}
use Rattle.std.proofs.lemmas.Option.{none-some, same_Some, slice_get-get_or}
use Rattle.std.specs.Prelude.{position}
use Rattle.std.specs.Cmp.{nat_eq_equiv}
use Rattle.std.specs.List.{AllByRecursion, IsDistinct}
use Rattle.std.specs.Map.{keys_of, set_value, values_of}
use Rattle.std.specs.declared.alloc.Global.{Global}
use Rattle.crossbeam_queue.specs.SegTies.{SegId}
use Rattle.indexmap.specs.IndexMap.{set_value_at}
use Rattle.port_model.specs.declared.inbox.entry.Entry.{Entry}
use Rattle.input_port.specs.QueueCalls.{Puts}
use Rattle.input_port.specs.QueueEnds.{SenderState}
use Rattle.threads_ports.proofs.SenderLemmas.{IsSet, is_found, puts_through, set-through, stays_through}
use Rattle.threads_ports.specs.Peers.{AreNamed, PeersState, PutsTo, is_known, sender_to}

-- the number is that of the sender at this place, and of none before it
abbrev pub IsFirstAt : ℕ → PeersState → ℕ → Type 0
IsFirstAt number [] place = ⊥
IsFirstAt number (e ∷ es) zero = nat_eq number e.0 ≡ true
IsFirstAt number (e ∷ es) (suc place) = (nat_eq number e.0 ≡ false) × IsFirstAt number es place

-- what is so of each key is so of the key at a place
at_place : (P : ℕ → Type 0) (keys : List ℕ) (place key : ℕ) → AllByRecursion P keys → slice_get keys place ≡ Some key → P key
at_place P [] place key all here = absurd (none-some key here)
at_place P (k ∷ keys) zero key all here = subst P (same_Some k key here) all.0
at_place P (k ∷ keys) (suc place) key all here = at_place P keys place key all.1 here

apart : (number other : ℕ) → nat_eq number other ≡ false → nat_eq other number ≡ false
apart number other not = nat_eq_equiv.symm other number ∙ not

-- numbers differ, so the first place of a number is the one where it is
pub is_first : (number : ℕ) (peers : PeersState) (place : ℕ) → IsDistinct nat_eq (keys_of peers)
    → slice_get (keys_of peers) place ≡ Some number → IsFirstAt number peers place
unfolding IsDistinct
is_first number [] place distinct here = absurd (none-some number here)
is_first number (e ∷ es) zero distinct here = eq-eqb number e.0 (sym (same_Some e.0 number here))
is_first number (e ∷ es) (suc place) distinct here = (
  apart e.0 number (at_place (λ key. nat_eq e.0 key ≡ false) (keys_of es) place number distinct.0 here),
  is_first number es place distinct.1 here,
)

-- the sender there is the sender of the number
pub sender_at : (number : ℕ) (peers : PeersState) (place : ℕ) → IsFirstAt number peers place
    → sender_to peers number ≡ slice_get (values_of peers) place
sender_at number [] place first = absurd first
sender_at number (e ∷ es) zero first = ap (λ b. cond b (Some e.1) (sender_to es number)) first
sender_at number (e ∷ es) (suc place) first =
    ap (λ b. cond b (Some e.1) (sender_to es number)) first.0 ∙ sender_at number es place first.1

-- and what is written there is written to it
pub written_at : (number : ℕ) (peers : PeersState) (place : ℕ) (sender : SenderState) → IsFirstAt number peers place
    → set_value_at peers place sender ≡ set_value (nat_eq number) peers sender
written_at number [] place sender first = absurd first
written_at number (e ∷ es) zero sender first =
    sym (ap (λ b. cond b ((e.0, sender) ∷ es) (e ∷ set_value (nat_eq number) es sender)) first)
written_at number (e ∷ es) (suc place) sender first =
    ap (λ l. e ∷ l) (written_at number es place sender first.1)
    ∙ sym (ap (λ b. cond b ((e.0, sender) ∷ es) (e ∷ set_value (nat_eq number) es sender)) first.0)

-- what a search for the number gives
pub found_at : (number : ℕ) (peers view : PeersState) (place : Option ℕ) → peers ≡ view
    → place ≡ position (nat_eq number) (keys_of peers) → is_some place ≡ is_some (sender_to peers number)
    → MatchOption place (is_known view number ≡ false) (λ i. slice_get (keys_of view) i ≡ Some number)
found_at number peers view None is at some = ap (λ (l : PeersState). is_known l number) (sym is) ∙ sym some
found_at number peers view (Some i) is at some =
    let here = position-Some (nat_eq number) (keys_of peers) i number (sym at) in
    subst (λ (l : PeersState). slice_get (keys_of l) i ≡ Some number) is
    (slice_get-get_or (keys_of peers) i number here.0
    ∙ ap (λ key. Some key) (sym (eqb-true number (get_or (keys_of peers) i number) here.1)))

-- ---- a sender that is looked up by its place, and changed there

-- the sender at this place is that of the number
pub record IsAt (number place : ℕ) (items view : PeersState) (before : SenderState) : Type 0 where
  pub is : items ≡ view
  pub known : sender_to items number ≡ Some before
  pub written : (after : SenderState) → set_value_at items place after ≡ set_value (nat_eq number) items after

pub at_place_of : (number place : ℕ) (items view : PeersState) (before : SenderState) → items ≡ view
    → IsDistinct nat_eq (keys_of items) → slice_get (keys_of view) place ≡ Some number
    → Some before ≡ slice_get (values_of items) place → IsAt number place items view before
at_place_of number place items view before is distinct here found =
    let there = subst (λ (l : PeersState). slice_get (keys_of l) place ≡ Some number) (sym is) here in
    let first = is_first number items place distinct there in
    record {
      is = is;
      known = sender_at number items place first ∙ sym found;
      written = λ after. written_at number items place after first;
    }

module _ {number place : ℕ} {items view : PeersState} {before : SenderState} (at : IsAt number place items view before) where
  abbrev pub with_sender : SenderState → PeersState
  with_sender after = set_value_at items place after

  -- it alone has changed
  set_at : (after : SenderState) → IsSet items number (Some after) (with_sender after)
  set_at after = set-through items (with_sender after) number before after at.known (at.written after)

  pub known_there : is_known view number ≡ true
  known_there = is_found number items view (Some before) at.is (sym at.known)

  pub puts_at : (at_time : ℕ) (entry : Entry) (after : SenderState) → Puts before after at_time entry
      → PutsTo number at_time entry view (with_sender after)
  puts_at at_time entry after puts =
      puts_through number at_time entry items view (with_sender after) before after at.is (sym at.known)
      (at.written after) puts

  pub stays_at : (after : SenderState) → after ≡ before → with_sender after ≡ view
  stays_at after same =
      stays_through number items view (with_sender after) before after at.is (sym at.known) (at.written after) same

  known_by : (n : ℕ) (after : SenderState) (b : Bool) → nat_eq number n ≡ b
      → is_some (cond b (Some after) (sender_to items n)) ≡ is_some (sender_to items n)
  known_by n after true here =
      sym (ap (λ m. is_some (sender_to items m)) (sym (eqb-true number n here)) ∙ ap is_some at.known)
  known_by n after false here = refl

  -- so the same numbers are known
  pub known_at : (after : SenderState) (n : ℕ) → is_known (with_sender after) n ≡ is_known view n
  known_at after n =
      ap is_some (set_at after n) ∙ known_by n after (nat_eq number n) refl ∙ ap (λ (l : PeersState). is_known l n) at.is

  named_by : (ports : ℕ → SegId Global) (after : SenderState) (n : ℕ) (sender : SenderState) (b : Bool)
      → AreNamed ports items → after.port ≡ before.port → nat_eq number n ≡ b
      → cond b (Some after) (sender_to items n) ≡ Some sender → sender.port ≡ ports n
  named_by ports after n sender true named same here there =
      ap (λ (s : SenderState). s.port) (sym (same_Some after sender there)) ∙ same
      ∙ named number before at.known ∙ ap ports (eqb-true number n here)
  named_by ports after n sender false named same here there = named n sender there

  -- and each sender is of the port of its number still
  pub named_at : (ports : ℕ → SegId Global) (after : SenderState) → AreNamed ports items → after.port ≡ before.port
      → AreNamed ports (with_sender after)
  named_at ports after named same n sender there =
      named_by ports after n sender (nat_eq number n) named same refl (sym (set_at after n) ∙ there)
