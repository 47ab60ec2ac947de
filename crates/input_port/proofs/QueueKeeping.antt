-- The numbers of the senders, as they are kept, and what the owner knows beside them.
use Rattle.std.proofs.Common.{◌≡◌, ◌∙◌, ◌+◌, ap, append-nil, arith, length, refl, subst, sym, ⊎_elim, ℕ, List, [], ◌∷◌, ◌++◌, Option, None, Some}
use Rattle.std.proofs.lemmas.List.{length-map, map-append}
use Rattle.std.specs.Global.{Vec}
use Rattle.std.specs.Prelude.{IfSome, MatchOption, count_by, if◌then◌else◌, option_map}
use Rattle.port_model.specs.Ends.{is_signal, is_signal_entry}
use Rattle.port_model.specs.Put.{AllThere, Apart, StartsWith}
use Rattle.port_model.specs.declared.inbox.placed.Placed.{Placed}
use Rattle.input_port.specs.QueueCalls.{popped_list, TakesIn}
use Rattle.input_port.specs.QueueEnds.{IsOfOwner}
use Rattle.input_port.specs.Kept.{senders_of}
use Rattle.input_port.specs.Steps.{Draws, IsFresh}
use Rattle.input_port.proofs.Meeting.{counted_more}
use Rattle.input_port.specs.declared.queue.rule.View.{View}
use Rattle.port_model.specs.KeptWords.{with_word, IsKeptOf, Notes}

-- one entry more is drawn and noted
pub kept_one : (old new : Option (List ℕ)) (drawn now : List Placed) (x : Placed) → now ≡ drawn ++ x ∷ []
    → IsKeptOf old (senders_of drawn) → Notes old x.number new → IsKeptOf new (senders_of now)
kept_one old new drawn now x is kept noted = rw is (⊎_elim noted_there given_up noted)
  where
    with_one : (o : Option (List ℕ)) → IsKeptOf o (senders_of drawn)
        → IsKeptOf (with_word o x.number) (senders_of (drawn ++ x ∷ []))
    with_one None k = tt
    with_one (Some list) k = ap (λ l. l ++ x.number ∷ []) k ∙ sym (map-append (λ (p : Placed). p.number) drawn (x ∷ []))

    noted_there : new ≡ with_word old x.number → IsKeptOf new (senders_of (drawn ++ x ∷ []))
    noted_there e = rw e (with_one old kept)

    given_up : new ≡ None → IsKeptOf new (senders_of (drawn ++ x ∷ []))
    given_up e = rw e tt

-- none is
pub kept_none : (kept : Option (List ℕ)) (drawn now : List Placed) → now ≡ drawn ++ []
    → IsKeptOf kept (senders_of drawn) → IsKeptOf kept (senders_of now)
kept_none kept drawn now is k = rw (is ∙ append-nil drawn) k

-- as many are kept as are drawn
pub kept_count : (kept : Option (List ℕ)) (drawn : List Placed) (count : Option ℕ) → count ≡ option_map length kept
    → IsKeptOf kept (senders_of drawn) → IfSome count (λ n. n ≡ length drawn)
kept_count None drawn count is k = rw is tt
kept_count (Some list) drawn count is k =
    rw is (ap length k ∙ length-map drawn (λ (p : Placed). p.number))

-- and the list is theirs
pub kept_list : (kept : Option (List ℕ)) (drawn : List Placed) (list : Option (Vec ℕ))
    → option_map (λ (l : Vec ℕ). l.items) list ≡ kept → IsKeptOf kept (senders_of drawn)
    → IfSome list (λ l. l.items ≡ senders_of drawn)
kept_list kept drawn None is k = tt
kept_list kept drawn (Some l) is k = subst (λ (o : Option (List ℕ)). IsKeptOf o (senders_of drawn)) (sym is) k

-- ---- what a pop draws

pub drawn_one : (before v w : View) (x : Placed) → v ≡ before → Draws v x w → w.drawn ≡ before.drawn ++ x ∷ []
drawn_one before v w x same draws =
    ap (λ (u : View). u.drawn) draws.0 ∙ ap (λ (u : View). u.drawn ++ x ∷ []) same

pub drawn_by : (v w : View) (popped : Option Placed)
    → MatchOption popped ((w ≡ v) × IsFresh v []) (λ placed. Draws v placed w)
    → w.drawn ≡ v.drawn ++ popped_list popped
drawn_by v w None same = ap (λ (u : View). u.drawn) same.0 ∙ sym (append-nil v.drawn)
drawn_by v w (Some x) draws = ap (λ (u : View). u.drawn) draws.0

-- ---- what the owner knows then

-- how many signals one entry is
pub signals_one : (x : Placed) (more : ℕ) → more ≡ (if is_signal_entry x.entry then 1 else 0)
    → more ≡ count_by is_signal (x ∷ [])
signals_one x more is = is ∙ omega arith

-- an entry is drawn
pub owner_on : (before v w : View) (x : Placed) (gathered signals more : ℕ) → v ≡ before → Draws v x w
    → IsOfOwner before gathered signals → more ≡ count_by is_signal (x ∷ []) → IsOfOwner w gathered (signals + more)
owner_on before v w x gathered signals more same draws was counted = record {
  takes = ap (λ (u : View). u.takes) draws.0;
  gathered_is = ap (λ (u : View). length u.gathered) draws.0 ∙ ap (λ (u : View). length u.gathered) same
      ∙ was.gathered_is;
  signals_are = counted_more before.drawn w.drawn (x ∷ []) signals more (drawn_one before v w x same draws)
      was.signals_are counted;
  begins = draws.2;
  there = draws.4;
  apart = draws.7;
}

-- a pop may find one
pub owner_after : (v w : View) (popped : Option Placed) (gathered signals more : ℕ)
    → MatchOption popped ((w ≡ v) × IsFresh v []) (λ placed. Draws v placed w) → IsOfOwner v gathered signals
    → more ≡ count_by is_signal (popped_list popped) → IsOfOwner w gathered (signals + more)
owner_after v w None gathered signals more same was counted = record {
  takes = ap (λ (u : View). u.takes) same.0 ∙ was.takes;
  gathered_is = ap (λ (u : View). length u.gathered) same.0 ∙ was.gathered_is;
  signals_are = counted_more v.drawn w.drawn [] signals more
      (ap (λ (u : View). u.drawn) same.0 ∙ sym (append-nil v.drawn)) was.signals_are counted;
  begins = subst (λ (u : View). StartsWith u.seen u.drawn) (sym same.0) was.begins;
  there = subst (λ (u : View). AllThere u.seen u.gathered) (sym same.0) was.there;
  apart = subst (λ (u : View). Apart u.gathered) (sym same.0) was.apart;
}
owner_after v w (Some x) gathered signals more draws was counted =
    owner_on v v w x gathered signals more refl draws was counted

-- a sender is taken in
pub owner_gathers : (v u w : View) (news : List Placed) (gathered signals more : ℕ) → TakesIn v u w news
    → IsOfOwner v gathered signals → more ≡ count_by is_signal news → IsOfOwner w (gathered + 1) (signals + more)
owner_gathers v u w news gathered signals more taken was counted =
    let grown = ap length taken.gathered in
    let one_more : length w.gathered ≡ length v.gathered + 1 = omega (arith, grown) in
    record {
      takes = taken.takes;
      gathered_is = one_more ∙ ap (λ n. n + 1) was.gathered_is;
      signals_are = counted_more v.drawn w.drawn news signals more taken.drawn was.signals_are counted;
      begins = taken.begins;
      there = taken.there;
      apart = taken.apart;
    }
