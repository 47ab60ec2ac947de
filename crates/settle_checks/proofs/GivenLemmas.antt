-- The senders that a port has gathered, one place after the other.
use Rattle.std.proofs.Common.{◌≡◌, ◌∙◌, ◌<◌, ◌≤◌, ◌+◌, ap, append_assoc, arith, length, refl, subst, sym, ⊎_elim, ℕ, List, [], ◌∷◌, ◌++◌, count_by}
use Rattle.std.proofs.lemmas.Bool.{cases_lt}
use Rattle.input_port.specs.Counts.{signals_in}
use Rattle.port_model.specs.Ends.{OwnerState, is_signal}
use Rattle.port_model.specs.Put.{Apart, StartsWith, of}
use Rattle.port_model.specs.declared.inbox.placed.Gone.{Gone}
use Rattle.port_model.specs.declared.inbox.placed.Placed.{Placed}
use Rattle.input_port.proofs.PutLists.{of-append}
use Rattle.input_port.specs.QueueEnds.{SenderState, signals_by}
use Rattle.port_model.specs.declared.values.item.Item.{Item}
use Rattle.threads_ports.proofs.Signals.{count_by-signals, signals_in-append}
use Rattle.threads_ports.specs.Peers.{put_by}
use Rattle.settle_checks.proofs.DrawLemmas.{DrawsMore, TakesIn, draws_more, draws_none}
use Rattle.settle_checks.specs.Gathering.{AreHeld, Given, IsCounted, IsFirst, IsGathering, PutNothing, numbers_of, put_by_all}

-- ---- what is known grows

first_more : (put : ℕ → List Item) (known more : List Placed) (given : Given) → StartsWith more known
    → IsFirst put known given → IsFirst put more given
first_more put known more given starts first =
    let rest : List Item = signals_in (of given.number starts.0) in
    record {
      more = first.more ++ rest;
      first = ap (λ l. signals_in (of given.number l)) starts.1
          ∙ ap signals_in (of-append given.number known starts.0)
          ∙ signals_in-append (of given.number known) (of given.number starts.0)
          ∙ ap (λ l. l ++ rest) first.first
          ∙ append_assoc (put given.place) first.more rest;
    }

pub held_more : (put : ℕ → List Item) (known more : List Placed) (next : ℕ) (given : List Given) → StartsWith more known
    → AreHeld put known next given → AreHeld put more next given
held_more put known more next [] starts held = held
held_more put known more next (given ∷ before) starts held = (
  held.0,
  held.1,
  first_more put known more given starts held.2,
  held_more put known more given.place before starts held.3,
)

-- ---- further places

-- they have put nothing
pub held_nothing : (put : ℕ → List Item) (known : List Placed) (next to : ℕ) (given : List Given) → next ≤ to
    → PutNothing put next to → AreHeld put known next given → AreHeld put known to given
held_nothing put known next to [] past none held = λ place within.
    ⊎_elim (λ (less : place < next). held place less) (λ (from : next ≤ place). none place from within)
    (cases_lt place next)
held_nothing put known next to (given ∷ before) past none held = (
  omega (arith, held.0, past),
  λ place over within.
      ⊎_elim (λ (less : place < next). held.1 place over less) (λ (from : next ≤ place). none place from within)
      (cases_lt place next),
  held.2,
  held.3,
)

-- the sender of the next one was gathered
pub held_one : (put : ℕ → List Item) (known : List Placed) (next number : ℕ) (given : List Given)
    → IsFirst put known (record { place = next; number = number }) → AreHeld put known next given
    → AreHeld put known (next + 1) (record { place = next; number = number } ∷ given)
held_one put known next number given first held = (
  omega arith,
  λ place past within. let wrong : ⊥ = omega (arith, past, within) in absurd wrong,
  first,
  held,
)

first_of : (put : ℕ → List Item) (known : List Placed) (next : ℕ) (sender : SenderState) → put_by sender ≡ put next
    → StartsWith known sender.seen → IsFirst put known (record { place = next; number = sender.number })
first_of put known next sender is told = record {
  more = signals_in (of sender.number told.0);
  first = ap (λ l. signals_in (of sender.number l)) told.1
      ∙ ap signals_in (of-append sender.number sender.seen told.0)
      ∙ signals_in-append (of sender.number sender.seen) (of sender.number told.0)
      ∙ ap (λ l. l ++ signals_in (of sender.number told.0)) is;
}

-- ---- a port that gathers

module _ (put : ℕ → List Item) where
  pub gathers_nobody : (owner : OwnerState) → owner.gathered ≡ [] → IsGathering put 0 0 owner owner
  gathers_nobody owner none = record {
    given = [];
    held = λ place within. let wrong : ⊥ = omega (arith, within) in absurd wrong;
    sent_is = refl;
    gathered = ap numbers_of none;
    draws = draws_none owner;
  }

  pub gathers_one : (next place now sent more total : ℕ) (first old new : OwnerState) (sender : SenderState)
      → next ≤ place → now ≡ place + 1 → PutNothing put next place → put_by sender ≡ put place
      → more ≡ signals_by sender → total ≡ sent + more → TakesIn old new sender
      → IsGathering put next sent first old → IsGathering put now total first new
  gathers_one next place now sent more total first old new sender past is none puts many sum takes gathers =
      let one : Given = record { place = place; number = sender.number } in
      let long : more ≡ length (put place) =
      many ∙ count_by-signals (of sender.number sender.seen) ∙ ap length puts in
      record {
        given = one ∷ gathers.given;
        held = subst (λ n. AreHeld put new.known n (one ∷ gathers.given)) (sym is)
            (held_one put new.known place sender.number gathers.given
            (first_of put new.known place sender puts takes.told)
            (held_nothing put new.known next place gathers.given past none
            (held_more put old.known new.known next gathers.given takes.draws.known gathers.held)));
        sent_is = sum ∙ ap (λ n. n + more) gathers.sent_is ∙ ap (λ n. put_by_all put gathers.given + n) long ∙ omega arith;
        gathered = ap numbers_of takes.gathered ∙ ap (λ l. sender.number ∷ l) gathers.gathered;
        draws = draws_more first old new gathers.draws takes.draws;
      }

  -- all is drawn, and as many signals as they have put
  pub are_counted : (next places sent : ℕ) (first old new : OwnerState) → next ≤ places → PutNothing put next places
      → DrawsMore old new → new.gathered ≡ old.gathered → new.known ≡ new.drawn → Apart new.gathered
      → count_by is_signal new.drawn ≡ sent → IsGathering put next sent first old → IsCounted put places first new
  are_counted next places sent first old new past none draws same fresh apart many gathers = record {
    given = gathers.given;
    held = subst (λ l. AreHeld put l places gathers.given) fresh
        (held_nothing put new.known next places gathers.given past none
        (held_more put old.known new.known next gathers.given draws.known gathers.held));
    as_many = many ∙ gathers.sent_is;
    gathered = ap numbers_of same ∙ gathers.gathered;
    apart = apart;
    draws = draws_more first old new gathers.draws draws;
  }

none_gathered : (gathered : List Gone) → length gathered ≡ 0 → gathered ≡ []
none_gathered [] none = refl
none_gathered (g ∷ gs) none = let wrong : ⊥ = omega (arith, none) in absurd wrong

-- an owner that has gathered nobody
pub gathers_first : (put : ℕ → List Item) (first owner : OwnerState) → owner ≡ first → length owner.gathered ≡ 0
    → IsGathering put 0 0 first owner
gathers_first put first owner same none =
    subst (λ (o : OwnerState). IsGathering put 0 0 o owner) same
    (gathers_nobody put owner (none_gathered owner.gathered none))
