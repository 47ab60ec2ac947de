-- What is on its way, sender by sender.
use Rattle.std.proofs.Common.{◌≡◌, ◌∙◌, ◌<◌, ◌≤◌, ◌+◌, ◌==◌, ◌&&◌, ap, arith, cond, get_or, length, refl, subst, sym, ⊎_elim, ℕ, Bool, true, false, List, [], ◌∷◌, ◌++◌, All, count_by}
use Rattle.std.specs.Prelude.{map, nat_le}
use Rattle.std.specs.List.{flat_map}
use Rattle.std.proofs.lemmas.Bool.{cases_eq}
use Rattle.std.proofs.lemmas.List.{get_or_default}
use Rattle.std.proofs.lemmas.List.Sums.{sum_by-append, sum_by-cons}
use Rattle.port_model.specs.Same.{same_pid}
use Rattle.port_model.specs.declared.values.item.SignalId.{SignalId}
use Rattle.port_model.specs.declared.values.pid.Pid.{Pid}
use Rattle.port_model.specs.declared.values.pid.Pid.TheVariants.{Env, Null, Of}
use Rattle.run_record.specs.Record.{RecordValue}
use Rattle.sdl_script.specs.declared.script.ScriptLine.{ScriptLine}
use Rattle.settle_checks.proofs.MatchLemmas.{sends_matched}
use Rattle.settle_checks.proofs.AccountPutLemmas.{rising_apart}
use Rattle.settle_checks.proofs.SendLemmas.{IsPutOf, put_of}
use Rattle.settle_checks.specs.Account.{AreOrdered}
use Rattle.settle_checks.specs.Crossed.{AreCrossed, AreHeardAlone, AreTakenIn, IsCrossed, IsHeardCrossed, IsSentBy}
use Rattle.settle_meaning.specs.Identities.{AreRising}
use Rattle.settle_meaning.specs.Order.{IsOneInOrder, heard_from, times_heard}
use Rattle.settle_meaning.specs.OrderLaws.{by_time}
use Rattle.settle_meaning.specs.Puts.{Heard}
use Rattle.settle_meaning.specs.Times.{AreRisingFrom, Timed, last_of, sends, times_of}
use Rattle.settle_checks.specs.Covered.{CoveredAreInOrder, SendsAreInTurn, is_by}
use Rattle.settle_checks.specs.Crossings.{Covers, crossed, crossing_in, crossing_out, is_on, out_to}
use Rattle.settle_checks.specs.Flows.{AreFlows, counted, sent_passes, taken_passes}
use Rattle.settle_checks.specs.Summary.{AreSummaries}
use Rattle.settle_checks.specs.declared.summing.crossings.Crossing.{Crossing}
use Rattle.settle_checks.specs.declared.summing.crossings.Way.{Way}
use Rattle.settle_checks.specs.declared.summing.flows.Flow.{Flow}
use Rattle.settle_checks.specs.declared.summing.flows.Pass.{Pass}
use Rattle.settle_checks.specs.declared.summing.summary.Summary.{Summary}
use Rattle.threads_ports.specs.Peers.{PeersState, put_to}

-- ---- counts

crossed-append : (P : Way → Bool) (xs ys : List Crossing) → crossed P (xs ++ ys) ≡ crossed P xs + crossed P ys
crossed-append P xs ys = sum_by-append (λ (one : Crossing). cond (P one.way) one.count 0) xs ys

crossed-cons : (P : Way → Bool) (x : Crossing) (xs : List Crossing)
    → crossed P (x ∷ xs) ≡ cond (P x.way) x.count 0 + crossed P xs
crossed-cons P x xs = sum_by-cons (λ (one : Crossing). cond (P one.way) one.count 0) x xs

counted-cons : (P : Pass → Bool) (x : Flow) (xs : List Flow) → counted P (x ∷ xs) ≡ cond (P x.pass) x.count 0 + counted P xs
counted-cons P x xs = sum_by-cons (λ (f : Flow). cond (P f.pass) f.count 0) x xs

plus_zero : (n : ℕ) → n + 0 ≡ n
plus_zero n = omega arith

zero_plus : (n : ℕ) → 0 + n ≡ n
zero_plus n = omega arith

-- what a sender sends, by its flows: of this sender, or of another one
module _ (a b : Pid) (number : ℕ) (name : SignalId) (until : ℕ) where
  abbrev on : Way → Bool
  on way = is_on a number name until way

  abbrev by : Pass → Bool
  by pass = is_by (Of number) name until pass

  cond_and : (m x : Bool) (c : ℕ) → cond (m && x) c 0 ≡ cond m (cond x c 0) 0
  cond_and true x c = refl
  cond_and false x c = refl

  cond_sum : (m : Bool) (x y : ℕ) → cond m x 0 + cond m y 0 ≡ cond m (x + y) 0
  cond_sum true x y = refl
  cond_sum false x y = refl

  none_by : (m : Bool) → ◌≡◌ {A = ℕ} 0 (cond m 0 0)
  none_by true = refl
  none_by false = refl

  -- how much it counts, by whom the flow leads to
  abbrev weight_to : Flow → Pid → ℕ
  weight_to flow p =
      cond (same_pid b a)
      (cond (same_pid p (Of number) && ((flow.pass.name.0 == name.0) && nat_le flow.pass.at until)) flow.count 0) 0

  -- one flow
  out_one : (flow : Flow) (peer : Pid) → flow.pass.peer ≡ peer
      → crossed on (out_to b flow peer) ≡ cond (same_pid b a) (cond (by flow.pass) flow.count 0) 0
  out_one flow (Of to) is =
      crossed-cons on (record {
        way = record { to = to; from = b; name = flow.pass.name; at = flow.pass.at };
        count = flow.count;
      }) []
      ∙ plus_zero (cond (same_pid b a && ((to == number) && ((flow.pass.name.0 == name.0)
      && nat_le flow.pass.at until))) flow.count 0)
      ∙ cond_and (same_pid b a) ((to == number) && ((flow.pass.name.0 == name.0) && nat_le flow.pass.at until))
      flow.count
      ∙ ap (weight_to flow) (sym is)
  out_one flow Env is = none_by (same_pid b a) ∙ ap (weight_to flow) (sym is)
  out_one flow Null is = none_by (same_pid b a) ∙ ap (weight_to flow) (sym is)

  pub out_counts : (flows : List Flow)
      → crossed on (flat_map (crossing_out b) flows) ≡ cond (same_pid b a) (counted by flows) 0
  out_counts [] = none_by (same_pid b a)
  out_counts (flow ∷ rest) =
      crossed-append on (crossing_out b flow) (flat_map (crossing_out b) rest)
      ∙ ap (λ n. n + crossed on (flat_map (crossing_out b) rest)) (out_one flow flow.pass.peer refl)
      ∙ ap (λ n. cond (same_pid b a) (cond (by flow.pass) flow.count 0) 0 + n) (out_counts rest)
      ∙ cond_sum (same_pid b a) (cond (by flow.pass) flow.count 0) (counted by rest)
      ∙ ap (λ n. cond (same_pid b a) n 0) (sym (counted-cons by flow rest))

-- what an instance takes, by its flows
module _ (origin : Pid) (number : ℕ) (name : SignalId) (until to : ℕ) where
  abbrev into : Way → Bool
  into way = is_on origin number name until way

  abbrev from : Pass → Bool
  from pass = is_by origin name until pass

  turn_and : (p m x : Bool) (c : ℕ) → m ≡ true → cond (p && (m && x)) c 0 ≡ cond (p && x) c 0
  turn_and true true x c is = refl
  turn_and true false x c is = let wrong : ⊥ = cc in absurd wrong
  turn_and false m x c is = refl

  in_counts : (to == number) ≡ true → (flows : List Flow)
      → crossed into (map (crossing_in to) flows) ≡ counted from flows
  in_counts is [] = refl
  in_counts is (flow ∷ rest) =
      crossed-cons into (crossing_in to flow) (map (crossing_in to) rest)
      ∙ ap (λ n. n + crossed into (map (crossing_in to) rest))
      (turn_and (same_pid flow.pass.peer origin) (to == number)
      ((flow.pass.name.0 == name.0) && nat_le flow.pass.at until) flow.count is)
      ∙ ap (λ n. cond (from flow.pass) flow.count 0 + n) (in_counts is rest)
      ∙ sym (counted-cons from flow rest)

-- ---- numbers

itself : (n : ℕ) → (n == n) ≡ true
itself n = grind arith

differ : (b a : ℕ) → (b ≡ a → ⊥) → (b == a) ≡ false
differ b a apart = grind (arith, apart)

pub same_less : (a b : ℕ) → a ≡ b → a ≤ b
same_less a b same = omega (arith, same)

-- ---- one sender more

-- the signals of so many of the first records are on their way, and of no others
pub record AreSentSoFar (lines : List ScriptLine) (heard : List Heard) (records : List RecordValue)
    (places : List PeersState) (count : ℕ) (all : List Crossing) : Type 0 where
  pub environment : All (IsHeardCrossed lines heard records (get_or places 0 []) all) records
  pub done : (j : ℕ) (d : RecordValue) → j < count → All (λ (to : RecordValue).
      IsCrossed records to (Of (get_or records j d).pid) (sends (get_or records j d) to.pid)
      (length (put_to (get_or places (j + 1) []) to.pid)) all) records
  pub fresh : (j : ℕ) (d : RecordValue) → count ≤ j → j < length records → (to : ℕ) (name : SignalId) (until : ℕ)
      → crossed (is_on (Of (get_or records j d).pid) to name until) all ≡ 0

module _ (lines : List ScriptLine) (heard : List Heard) (records : List RecordValue) (places : List PeersState)
    (sums : List Summary) (are : AreSummaries records sums) (rising : AreRising 0 records) (in_turn : SendsAreInTurn)
    (rises : All (λ (trace : RecordValue). AreRisingFrom 0 trace.events) records) where
  pub sent_none : (all : List Crossing) → AreHeardAlone lines heard records (get_or places 0 []) all
      → AreSentSoFar lines heard records places 0 all
  sent_none all alone = record {
    environment = alone.heard_put;
    done = λ j d below. let wrong : ⊥ = omega (arith, below) in absurd wrong;
    fresh = λ j d from within to name until. alone.no_other (get_or records j d).pid to name until;
  }

  module _ (k : ℕ) (e : RecordValue) (within : k < length records) (old new : List Crossing)
      (is : IsSentBy records sums (Of (get_or records k e).pid) (sent_passes 0 (get_or records k e).events)
      (get_or places (k + 1) []) old new)
      (far : AreSentSoFar lines heard records places k old) where
    abbrev flows : List Flow
    flows = is.flows

    added : new ≡ old ++ flat_map (crossing_out (Of (get_or records k e).pid)) flows
    added = is.added

    -- by signals
    put : (t : ℕ) (c : RecordValue) → t < length records
        → IsPutOf records (get_or records t c).pid (sends (get_or records k e) (get_or records t c).pid)
        (length (put_to (get_or places (k + 1) []) (get_or records t c).pid)) flows
    put t c t_within =
        let number : ℕ = (get_or records t c).pid in
        put_of records sums are number (sends (get_or records k e) number)
        (sent_passes 0 (get_or records k e).events) (length (put_to (get_or places (k + 1) []) number)) flows
        (sends_matched (get_or records k e) number) (is.put t c t_within)

    abbrev pid : ℕ
    pid = (get_or records k e).pid

    abbrev more : List Crossing
    more = flat_map (crossing_out (Of (get_or records k e).pid)) flows

    -- of another sender nothing is added
    other_same : (a to : ℕ) (name : SignalId) (until : ℕ) → (pid ≡ a → ⊥)
        → crossed (is_on (Of a) to name until) new ≡ crossed (is_on (Of a) to name until) old
    other_same a to name until apart =
        ap (crossed (is_on (Of a) to name until)) added
        ∙ crossed-append (is_on (Of a) to name until) old more
        ∙ ap (λ n. crossed (is_on (Of a) to name until) old + n)
        (out_counts (Of a) (Of pid) to name until flows
        ∙ ap (λ m. cond m (counted (is_by (Of to) name until) flows) 0) (differ pid a apart))
        ∙ plus_zero (crossed (is_on (Of a) to name until) old)

    env_same : (to : ℕ) (name : SignalId) (until : ℕ)
        → crossed (is_on Env to name until) new ≡ crossed (is_on Env to name until) old
    env_same to name until =
        ap (crossed (is_on Env to name until)) added
        ∙ crossed-append (is_on Env to name until) old more
        ∙ ap (λ n. crossed (is_on Env to name until) old + n) (out_counts Env (Of pid) to name until flows)
        ∙ plus_zero (crossed (is_on Env to name until) old)

    -- of this one just its flows are
    own_is : (to : ℕ) (name : SignalId) (until : ℕ)
        → crossed (is_on (Of pid) to name until) new ≡ counted (is_by (Of to) name until) flows
    own_is to name until =
        ap (crossed (is_on (Of pid) to name until)) added
        ∙ crossed-append (is_on (Of pid) to name until) old more
        ∙ ap (λ n. n + crossed (is_on (Of pid) to name until) more) (far.fresh k e (omega arith) within to name until)
        ∙ ap (λ n. 0 + n)
        (out_counts (Of pid) (Of pid) to name until flows
        ∙ ap (λ m. cond m (counted (is_by (Of to) name until) flows) 0) (itself pid))
        ∙ zero_plus (counted (is_by (Of to) name until) flows)

    apart_from : (j : ℕ) (d : RecordValue) → j < length records → (j ≡ k → ⊥) → pid ≡ (get_or records j d).pid → ⊥
    apart_from j d j_within other same =
        other (sym (rising_apart records k j e d rising within j_within same))

    crossed_same : (to : RecordValue) (origin : Pid) (signals : List Timed) (count : ℕ)
        → ((name : SignalId) (until : ℕ) → crossed (is_on origin to.pid name until) new
        ≡ crossed (is_on origin to.pid name until) old)
        → IsCrossed records to origin signals count old → IsCrossed records to origin signals count new
    crossed_same to origin signals count same is = record {
      missing = is.missing;
      in_turn = is.in_turn;
      sent = λ name until.
          subst (λ n. n ≤ by_time until (times_of name (last_of count signals))) (sym (same name until))
          (is.sent name until);
    }

    crossed_own : (t : ℕ) (c : RecordValue) → t < length records
        → IsCrossed records (get_or records t c) (Of pid) (sends (get_or records k e) (get_or records t c).pid)
        (length (put_to (get_or places (k + 1) []) (get_or records t c).pid)) new
    crossed_own t c t_within =
        let to : RecordValue = get_or records t c in
        let one = put t c t_within in
        record {
          missing = one.missing;
          in_turn = in_turn (get_or records k e) to.pid (length (put_to (get_or places (k + 1) []) to.pid))
              (rises k e within);
          sent = λ name until.
              same_less (crossed (is_on (Of pid) to.pid name until) new)
              (by_time until (times_of name
              (last_of (length (put_to (get_or places (k + 1) []) to.pid)) (sends (get_or records k e) to.pid))))
              (own_is to.pid name until ∙ one.sent name until);
        }

    pub sent_more : AreSentSoFar lines heard records places (k + 1) new
    sent_more = record {
      environment = λ t c t_within.
          crossed_same (get_or records t c) Env (heard_from (times_heard lines) heard (get_or records t c).pid)
          (length (put_to (get_or places 0 []) (get_or records t c).pid))
          (λ name until. env_same (get_or records t c).pid name until) (far.environment t c t_within);
      done = λ j d below t c t_within.
          ⊎_elim
          (λ (equal : j ≡ k).
          subst (λ n. IsCrossed records (get_or records t c) (Of (get_or records n d).pid)
          (sends (get_or records n d) (get_or records t c).pid)
          (length (put_to (get_or places (n + 1) []) (get_or records t c).pid)) new) (sym equal)
          (subst (λ (from : RecordValue). IsCrossed records (get_or records t c) (Of from.pid)
          (sends from (get_or records t c).pid)
          (length (put_to (get_or places (k + 1) []) (get_or records t c).pid)) new)
          (get_or_default records k e d within) (crossed_own t c t_within)))
          (λ (other : j ≡ k → ⊥).
          let less : j < k = grind (arith, below, other) in
          let j_within : j < length records = omega (arith, less, within) in
          crossed_same (get_or records t c) (Of (get_or records j d).pid)
          (sends (get_or records j d) (get_or records t c).pid)
          (length (put_to (get_or places (j + 1) []) (get_or records t c).pid))
          (λ name until. other_same (get_or records j d).pid (get_or records t c).pid name until
          (apart_from j d j_within other)) (far.done j d less t c t_within))
          (cases_eq j k);
      fresh = λ j d from j_within to name until.
          let later : k ≤ j = omega (arith, from) in
          other_same (get_or records j d).pid to name until
          (apart_from j d j_within (λ equal. let wrong : ⊥ = omega (arith, from, equal) in wrong))
          ∙ far.fresh j d later j_within to name until;
    }

  pub sent_all : (all : List Crossing) (count : ℕ) → length records ≤ count
      → AreSentSoFar lines heard records places count all → AreCrossed lines heard records places all
  sent_all all count past far = record {
    environment = far.environment;
    instances = λ t c t_within j d j_within. far.done j d (omega (arith, past, j_within)) t c t_within;
  }

-- ---- what was taken

-- what this record takes of each sender is among these
abbrev pub IsTakenIn : RecordValue → List Crossing → Type 0
IsTakenIn to all =
    (origin : Pid) (name : SignalId) (until : ℕ)
    → count_by (is_by origin name until) (taken_passes to.events) ≤ crossed (is_on origin to.pid name until) all

module _ (to : RecordValue) (flows : List Flow) (all new : List Crossing)
    (added : new ≡ all ++ map (crossing_in to.pid) flows) where
  new_is : (P : Way → Bool) → crossed P new ≡ crossed P all + crossed P (map (crossing_in to.pid) flows)
  new_is P = ap (crossed P) added ∙ crossed-append P all (map (crossing_in to.pid) flows)

  pub taken_still : (other : RecordValue) → IsTakenIn other all → IsTakenIn other new
  taken_still other is origin name until =
      let more = new_is (is_on origin other.pid name until) in
      let less = is origin name until in
      omega (arith, more, less)

  pub taken_own : AreFlows (taken_passes to.events) flows → IsTakenIn to new
  taken_own are origin name until =
      let more = new_is (is_on origin to.pid name until) in
      let here = in_counts origin to.pid name until to.pid (itself to.pid) flows in
      let all_are = are (is_by origin name until) in
      omega (arith, more, here, all_are)

-- one sender, by counts
one_ordered : (records : List RecordValue) (sent taken : List Crossing) (to : RecordValue) (origin : Pid)
    (signals : List Timed) (put : ℕ) → CoveredAreInOrder → AreRisingFrom 0 to.events → IsTakenIn to taken
    → Covers sent taken → IsCrossed records to origin signals put sent → IsOneInOrder records to origin signals put
one_ordered records sent taken to origin signals put law rises taken_in covers is = record {
  missing = is.missing;
  taken = law (last_of put signals) to origin is.in_turn rises
      (λ name until.
      let first = taken_in origin name until in
      let second = covers origin to.pid name until in
      let third = is.sent name until in
      omega (arith, first, second, third));
}

pub all_ordered : (lines : List ScriptLine) (heard : List Heard) (records : List RecordValue) (places : List PeersState)
    (sent taken : List Crossing) → CoveredAreInOrder
    → All (λ (trace : RecordValue). AreRisingFrom 0 trace.events) records
    → AreCrossed lines heard records places sent → AreTakenIn records taken → Covers sent taken
    → AreOrdered lines heard records places
all_ordered lines heard records places sent taken law rises crossed_all taken_in covers t c t_within = record {
  instances = λ j d j_within.
      one_ordered records sent taken (get_or records t c) (Of (get_or records j d).pid)
      (sends (get_or records j d) (get_or records t c).pid)
      (length (put_to (get_or places (j + 1) []) (get_or records t c).pid)) law (rises t c t_within)
      (taken_in t c t_within) covers (crossed_all.instances t c t_within j d j_within);
  environment = one_ordered records sent taken (get_or records t c) Env
      (heard_from (times_heard lines) heard (get_or records t c).pid)
      (length (put_to (get_or places 0 []) (get_or records t c).pid)) law (rises t c t_within)
      (taken_in t c t_within) covers (crossed_all.environment t c t_within);
}
