-- What a sender sends and has put, by flows.
use Rattle.std.proofs.Common.{◌≡◌, ◌∙◌, ◌<◌, ◌≤◌, ◌+◌, ◌-◌, ◌==◌, ◌&&◌, ap, append-nil, append_assoc, arith, cond, drop, get_or, length, refl, subst, sym, take, ⊎_elim, ℕ, zero, suc, Bool, true, false, List, [], ◌∷◌, ◌++◌, All, Some, count_by}
use Rattle.std.specs.Prelude.{Contains, filter, nat_le}
use Rattle.std.specs.List.{AllZip, flat_map}
use Rattle.std.proofs.lemmas.Bool.{cases_eq}
use Rattle.std.proofs.lemmas.List.{get_or_default, take_more}
use Rattle.std.proofs.lemmas.List.Concat.{flat_map-append}
use Rattle.std.proofs.lemmas.List.Elements.{All-cons, All-contains, All-head, All-nil, All-push, All-tail, All-weaker}
use Rattle.std.proofs.lemmas.List.Sums.{sum_by-append, sum_by-cons}
use Rattle.port_model.specs.Same.{same_pid, same_pid-Decides}
use Rattle.port_model.specs.declared.values.item.SignalId.{SignalId}
use Rattle.port_model.specs.declared.values.pid.Pid.{Pid}
use Rattle.port_model.specs.declared.values.pid.Pid.TheVariants.{Of}
use Rattle.run_record.specs.Event as event
use Rattle.run_record.specs.Event.{Event}
use Rattle.run_record.specs.Record.{RecordValue}
use Rattle.sdl_system.specs.declared.id.ProcessId.{ProcessId}
use Rattle.settle_checks.proofs.AccountEnoughLemmas.{IsFlowTo, some_flow}
use Rattle.settle_checks.proofs.MatchLemmas.{AreMatched, Matches, matched_count, matched_early, zip_drop, zip_long, zip_take}
use Rattle.settle_checks.proofs.AccountPutLemmas.{rising_apart}
use Rattle.settle_checks.specs.Crossed.{AreTotalsOf, IsBornAfter, IsFlowPut, IsRestSent, IsSentBy, missing_of}
use Rattle.settle_meaning.specs.Identities.{AreRising}
use Rattle.settle_meaning.specs.Order.{AreBeforeCreate}
use Rattle.settle_meaning.specs.OrderLaws.{by_time}
use Rattle.settle_meaning.specs.Times.{Timed, all_but, last_of, time_by, times_of}
use Rattle.settle_checks.specs.Covered.{is_by}
use Rattle.settle_checks.specs.Crossings.{crossing_out}
use Rattle.settle_checks.specs.Flows.{AreFlows, counted, is_with}
use Rattle.settle_checks.specs.Late.{IsLate, passes_with}
use Rattle.settle_checks.specs.Summary.{AreSummaries, HasBirthAfter, IsSummary}
use Rattle.settle_checks.specs.Totals.{AreTotals, Table, total}
use Rattle.settle_checks.specs.declared.summing.creating.Birth.{Birth}
use Rattle.settle_checks.specs.declared.summing.crossings.Crossing.{Crossing}
use Rattle.settle_checks.specs.declared.summing.flows.Flow.{Flow}
use Rattle.settle_checks.specs.declared.summing.flows.Pass.{Pass}
use Rattle.settle_checks.specs.declared.summing.summary.Summary.{Summary}
use Rattle.threads_ports.specs.Peers.{PeersState, put_to}

-- ---- counts

counted-append : (P : Pass → Bool) (xs ys : List Flow) → counted P (xs ++ ys) ≡ counted P xs + counted P ys
counted-append P xs ys = sum_by-append (λ (f : Flow). cond (P f.pass) f.count 0) xs ys

no_truth : false ≡ true → ⊥
no_truth e = cc

none_more : (n : ℕ) → n ≡ 0 + n
none_more n = omega arith

-- those that pass a test, counted by a test that is stronger, and by the same one
module _ (P Q : Pass → Bool) (stronger : (pass : Pass) → P pass ≡ true → Q pass ≡ true) where
  count_filter : (passes : List Pass) → count_by P (filter Q passes) ≡ count_by P passes
  count_filter [] = refl
  count_filter (pass ∷ rest) =
      by_test (count_filter rest) (Q pass) (P pass) refl refl
      ∙ sym (sum_by-cons (λ (p : Pass). cond (P p) 1 0) pass rest) where
        by_test : count_by P (filter Q rest) ≡ count_by P rest → (q p : Bool) → Q pass ≡ q → P pass ≡ p
            → count_by P (cond q (pass ∷ filter Q rest) (filter Q rest)) ≡ cond (P pass) 1 0 + count_by P rest
        by_test more true p q_is p_is =
            sum_by-cons (λ (x : Pass). cond (P x) 1 0) pass (filter Q rest) ∙ ap (λ n. cond (P pass) 1 0 + n) more
        by_test more false true q_is p_is = absurd (no_truth (sym q_is ∙ stronger pass p_is))
        by_test more false false q_is p_is =
            more ∙ none_more (count_by P rest) ∙ ap (λ (b : Bool). cond b 1 0 + count_by P rest) (sym p_is)

count_length : (Q : Pass → Bool) (passes : List Pass) → length (filter Q passes) ≡ count_by Q passes
count_length Q [] = refl
count_length Q (pass ∷ rest) =
    by_test (count_length Q rest) (Q pass) refl ∙ sym (sum_by-cons (λ (p : Pass). cond (Q p) 1 0) pass rest) where
      by_test : length (filter Q rest) ≡ count_by Q rest → (q : Bool) → Q pass ≡ q
          → length (cond q (pass ∷ filter Q rest) (filter Q rest)) ≡ cond (Q pass) 1 0 + count_by Q rest
      by_test more true is =
          let one : ◌≡◌ {A = ℕ} (cond (Q pass) 1 0) 1 = ap (λ (b : Bool). cond b 1 0) is in
          let long : length (pass ∷ filter Q rest) ≡ length (filter Q rest) + 1 = omega arith in
          omega (arith, more, one, long)
      by_test more false is =
          let none : ◌≡◌ {A = ℕ} (cond (Q pass) 1 0) 0 = ap (λ (b : Bool). cond b 1 0) is in
          omega (arith, more, none)

-- what passes by a time passes to the number
by_is_with : (number : ℕ) (name : SignalId) (until : ℕ) (pass : Pass) → is_by (Of number) name until pass ≡ true
    → is_with number pass ≡ true
by_is_with number name until pass is =
    first (same_pid pass.peer (Of number)) ((pass.name.0 == name.0) && nat_le pass.at until) is where
      first : (a b : Bool) → (a && b) ≡ true → a ≡ true
      first true b is_both = refl
      first false b is_both = absurd (no_truth is_both)

-- ---- what goes to one number goes to no other

all_filtered : (Q : Pass → Bool) (passes : List Pass) → All (λ (pass : Pass). Q pass ≡ true) (filter Q passes)
all_filtered Q [] = All-nil (λ (pass : Pass). Q pass ≡ true)
all_filtered Q (pass ∷ rest) = by_test (all_filtered Q rest) (Q pass) refl where
  by_test : All (λ (p : Pass). Q p ≡ true) (filter Q rest) → (q : Bool) → Q pass ≡ q
      → All (λ (p : Pass). Q p ≡ true) (cond q (pass ∷ filter Q rest) (filter Q rest))
  by_test more true is = All-cons (λ (p : Pass). Q p ≡ true) pass (filter Q rest) is more
  by_test more false is = more

all_dropped : (Q : Pass → Bool) (n : ℕ) (passes : List Pass) → All (λ (pass : Pass). Q pass ≡ true) passes
    → All (λ (pass : Pass). Q pass ≡ true) (drop n passes)
all_dropped Q zero passes all = all
all_dropped Q (suc n) [] all = all
all_dropped Q (suc n) (pass ∷ rest) all =
    all_dropped Q n rest (All-tail (λ (p : Pass). Q p ≡ true) pass rest all)

module _ (number other : ℕ) (name : SignalId) (until : ℕ) (apart : number ≡ other → ⊥) where
  abbrev by : Pass → Bool
  by pass = is_by (Of other) name until pass

  same_one : {a b : ℕ} → Of a ≡ Of b → a ≡ b
  same_one e = cc

  not_by : (pass : Pass) → is_with number pass ≡ true → (b : Bool) → is_by (Of other) name until pass ≡ b → b ≡ false
  not_by pass is true by_it =
      absurd (apart (same_one (sym ((same_pid-Decides pass.peer (Of number)).0 is)
      ∙ (same_pid-Decides pass.peer (Of other)).0 (by_is_with other name until pass by_it))))
  not_by pass is false by_it = refl

  none_by : (passes : List Pass) → All (λ (pass : Pass). is_with number pass ≡ true) passes → count_by by passes ≡ 0
  none_by [] all = refl
  none_by (pass ∷ rest) all =
      sum_by-cons (λ (p : Pass). cond (by p) 1 0) pass rest
      ∙ ap (λ (b : Bool). cond b 1 0 + count_by by rest)
      (not_by pass (All-head (λ (p : Pass). is_with number p ≡ true) pass rest all) (by pass) refl)
      ∙ ap (λ n. 0 + n) (none_by rest (All-tail (λ (p : Pass). is_with number p ≡ true) pass rest all))

  other_none : (passes : List Pass) (missing born : ℕ) (flows : List Flow)
      → IsLate passes number missing born flows → counted by flows ≡ 0
  other_none passes missing born flows late =
      late.rest by
      ∙ none_by (drop missing (passes_with number passes))
      (all_dropped (is_with number) missing (passes_with number passes) (all_filtered (is_with number) passes))

-- ---- to one number

-- all was put
whole_put : (sums : List Summary) (passes : List Pass) (flows : List Flow) (number put : ℕ) → AreFlows passes flows
    → counted (is_with number) flows ≤ put → IsFlowPut sums passes number put flows
whole_put sums passes flows number put are enough = record {
  born = 0;
  is_born = λ k s within i d inside same. omega arith;
  early = subst (λ n. All (λ (pass : Pass). pass.at ≤ 0) (take n (passes_with number passes))) (sym none)
      (All-nil (λ (pass : Pass). pass.at ≤ 0));
  rest = λ name until.
      are (is_by (Of number) name until)
      ∙ sym (count_filter (is_by (Of number) name until) (is_with number) (by_is_with number name until) passes)
      ∙ ap (λ n. count_by (is_by (Of number) name until) (drop n (passes_with number passes))) (sym none);
} where
  none : missing_of number put passes ≡ 0
  none =
      let all = are (is_with number) in
      let long = count_length (is_with number) passes in
      omega (arith, all, long, enough)

-- the first signals are missing
late_put : (sums : List Summary) (passes : List Pass) (number missing put born : ℕ) (flows : List Flow)
    → missing ≡ count_by (is_with number) passes - put → IsLate passes number missing born flows
    → All (IsBornAfter number born) sums → IsFlowPut sums passes number put flows
late_put sums passes number missing put born flows missing_is late is_born = record {
  born = born;
  is_born = is_born;
  early = subst (λ n. All (λ (pass : Pass). pass.at ≤ born) (take n (passes_with number passes))) count_is late.early;
  rest = λ name until.
      late.rest (is_by (Of number) name until)
      ∙ ap (λ n. count_by (is_by (Of number) name until) (drop n (passes_with number passes))) count_is;
} where
  count_is : missing ≡ missing_of number put passes
  count_is = missing_is ∙ ap (λ n. n - put) (sym (count_length (is_with number) passes))

pub totals_of : (passes : List Pass) (flows : List Flow) (totals : Table) → AreFlows passes flows
    → AreTotals flows totals → AreTotalsOf passes totals
totals_of passes flows totals are total number = total number ∙ are (is_with number)

-- all was put to all
pub sent_whole : (records : List RecordValue) (sums : List Summary) (origin : Pid) (passes : List Pass)
    (flows : List Flow) (peers : PeersState) (old new : List Crossing) → AreFlows passes flows
    → ((number : ℕ) → counted (is_with number) flows ≤ length (put_to peers number))
    → new ≡ old ++ flat_map (crossing_out origin) flows → IsSentBy records sums origin passes peers old new
sent_whole records sums origin passes flows peers old new are enough added = record {
  flows = flows;
  put = λ t c within.
      whole_put sums passes flows (get_or records t c).pid (length (put_to peers (get_or records t c).pid)) are
      (enough (get_or records t c).pid);
  added = added;
}

-- the flows lead to all that something is sent to
pub all_put_to : (flows : List Flow) (i : ℕ) (totals : Table) (peers : PeersState) → AreTotals flows totals
    → length flows ≤ i
    → ((k : ℕ) (d : Flow) (number : ℕ) → k < i → (get_or flows k d).pass.peer ≡ Of number
    → total totals number ≤ length (put_to peers number))
    → (number : ℕ) → counted (is_with number) flows ≤ length (put_to peers number)
all_put_to flows i totals peers are past each number =
    ⊎_elim
    (λ (none : counted (is_with number) flows ≡ 0). omega (arith, none))
    (λ (there : IsFlowTo number flows).
    let no_flow : Flow = record { pass = record { peer = Of 0; name = record { 0 = 0 }; at = 0 }; count = 0 } in
    let enough : total totals number ≤ length (put_to peers number) =
    each there.place no_flow number (omega (arith, there.within, past)) (there.is no_flow) in
    let counts : total totals number ≡ counted (is_with number) flows = are number in
    omega (arith, enough, counts))
    (some_flow number flows)

-- ---- one receiver after the other

-- what is sent to so many of the first records is added, except what is missing
pub record AreRestsSent (records : List RecordValue) (sums : List Summary) (origin : Pid) (passes : List Pass)
    (peers : PeersState) (count : ℕ) (old new : List Crossing) : Type 0 where
  pub flows : List Flow
  pub added : new ≡ old ++ flat_map (crossing_out origin) flows
  pub done : (t : ℕ) (c : RecordValue) → t < count
      → IsFlowPut sums passes (get_or records t c).pid (length (put_to peers (get_or records t c).pid)) flows
  pub fresh : (t : ℕ) (c : RecordValue) → count ≤ t → t < length records → (name : SignalId) (until : ℕ)
      → counted (is_by (Of (get_or records t c).pid) name until) flows ≡ 0

module _ (records : List RecordValue) (sums : List Summary) (rising : AreRising 0 records) (origin : Pid)
    (passes : List Pass) (peers : PeersState) where
  pub rests_none : (old : List Crossing) → AreRestsSent records sums origin passes peers 0 old old
  rests_none old = record {
    flows = [];
    added = sym (append-nil old);
    done = λ t c below. let wrong : ⊥ = omega (arith, below) in absurd wrong;
    fresh = λ t c past within name until. refl;
  }

  pub rests_all : (count : ℕ) (old new : List Crossing) → length records ≤ count
      → AreRestsSent records sums origin passes peers count old new → IsSentBy records sums origin passes peers old new
  rests_all count old new past far = record {
    flows = far.flows;
    put = λ t c within. far.done t c (omega (arith, past, within));
    added = far.added;
  }

  module _ (k : ℕ) (e : RecordValue) (within : k < length records) (missing : ℕ) (base old new : List Crossing)
      (missing_is : missing ≡ count_by (is_with (get_or records k e).pid) passes
      - length (put_to peers (get_or records k e).pid))
      (far : AreRestsSent records sums origin passes peers k base old)
      (rest : IsRestSent origin passes (get_or records k e).pid missing sums old new) where
    abbrev pid : ℕ
    pid = (get_or records k e).pid

    abbrev all : List Flow
    all = far.flows ++ rest.flows

    apart_from : (t : ℕ) (c : RecordValue) → t < length records → (t ≡ k → ⊥) → pid ≡ (get_or records t c).pid → ⊥
    apart_from t c t_within other same = other (sym (rising_apart records k t e c rising within t_within same))

    plus_zero : (n m : ℕ) → m ≡ 0 → n + m ≡ n
    plus_zero n m none = omega (arith, none)

    zero_plus : (n m : ℕ) → n ≡ 0 → n + m ≡ m
    zero_plus n m none = omega (arith, none)

    -- to others nothing more
    other_same : (t : ℕ) (c : RecordValue) → t < length records → (t ≡ k → ⊥) → (name : SignalId) (until : ℕ)
        → counted (is_by (Of (get_or records t c).pid) name until) all
        ≡ counted (is_by (Of (get_or records t c).pid) name until) far.flows
    other_same t c t_within other name until =
        counted-append (is_by (Of (get_or records t c).pid) name until) far.flows rest.flows
        ∙ plus_zero (counted (is_by (Of (get_or records t c).pid) name until) far.flows)
        (counted (is_by (Of (get_or records t c).pid) name until) rest.flows)
        (other_none pid (get_or records t c).pid name until (apart_from t c t_within other) passes missing rest.born
        rest.flows rest.late)

    -- to this one just what isn't missing
    own_is : (name : SignalId) (until : ℕ)
        → counted (is_by (Of pid) name until) all ≡ counted (is_by (Of pid) name until) rest.flows
    own_is name until =
        counted-append (is_by (Of pid) name until) far.flows rest.flows
        ∙ zero_plus (counted (is_by (Of pid) name until) far.flows) (counted (is_by (Of pid) name until) rest.flows)
        (far.fresh k e (omega arith) within name until)

    with_counts : (number put : ℕ) (flows more : List Flow)
        → ((name : SignalId) (until : ℕ) → counted (is_by (Of number) name until) more
        ≡ counted (is_by (Of number) name until) flows)
        → IsFlowPut sums passes number put flows → IsFlowPut sums passes number put more
    with_counts number put flows more same put_is = record {
      born = put_is.born;
      is_born = put_is.is_born;
      early = put_is.early;
      rest = λ name until. same name until ∙ put_is.rest name until;
    }

    own_put : IsFlowPut sums passes pid (length (put_to peers pid)) all
    own_put =
        with_counts pid (length (put_to peers pid)) rest.flows all own_is
        (late_put sums passes pid missing (length (put_to peers pid)) rest.born rest.flows missing_is rest.late
        rest.is_born)

    pub rests_more : AreRestsSent records sums origin passes peers (k + 1) base new
    rests_more = record {
      flows = all;
      added =
          rest.added
          ∙ ap (λ (l : List Crossing). l ++ flat_map (crossing_out origin) rest.flows) far.added
          ∙ append_assoc base (flat_map (crossing_out origin) far.flows) (flat_map (crossing_out origin) rest.flows)
          ∙ ap (λ (l : List Crossing). base ++ l)
          (sym (flat_map-append (crossing_out origin) far.flows rest.flows));
      done = λ t c below.
          ⊎_elim
          (λ (equal : t ≡ k).
          subst (λ n. IsFlowPut sums passes (get_or records n c).pid (length (put_to peers (get_or records n c).pid)) all)
          (sym equal)
          (subst (λ (to : RecordValue). IsFlowPut sums passes to.pid (length (put_to peers to.pid)) all)
          (get_or_default records k e c within) own_put))
          (λ (other : t ≡ k → ⊥).
          let less : t < k = grind (arith, below, other) in
          let t_within : t < length records = omega (arith, less, within) in
          with_counts (get_or records t c).pid (length (put_to peers (get_or records t c).pid)) far.flows all
          (λ name until. other_same t c t_within other name until) (far.done t c less))
          (cases_eq t k);
      fresh = λ t c past t_within name until.
          let later : k ≤ t = omega (arith, past) in
          other_same t c t_within (λ equal. let wrong : ⊥ = omega (arith, past, equal) in wrong) name until
          ∙ far.fresh t c later t_within name until;
    }

-- ---- the time of the create

-- one birth more
pub birth_more : (number : ℕ) (births : List Birth) (i : ℕ) (d : Birth) (old new : ℕ) → i < length births
    → new ≤ old → ((get_or births i d).number ≡ number → new ≤ (get_or births i d).at)
    → All (λ (birth : Birth). birth.number ≡ number → old ≤ birth.at) (take i births)
    → All (λ (birth : Birth). birth.number ≡ number → new ≤ birth.at) (take (i + 1) births)
birth_more number births i d old new within less here are =
    subst (λ (l : List Birth). All (λ (birth : Birth). birth.number ≡ number → new ≤ birth.at) l)
    (sym (take_more births i d within))
    (All-push (λ (birth : Birth). birth.number ≡ number → new ≤ birth.at) (take i births) (get_or births i d)
    (All-weaker (λ (birth : Birth). birth.number ≡ number → old ≤ birth.at)
    (λ (birth : Birth). birth.number ≡ number → new ≤ birth.at)
    (λ birth is same. let at = is same in omega (arith, less, at)) (take i births) are)
    here)

-- the births of one record more
pub births_more : (number : ℕ) (sums : List Summary) (i : ℕ) (d : Summary) (old new : ℕ) → i < length sums → new ≤ old
    → IsBornAfter number new (get_or sums i d) → All (IsBornAfter number old) (take i sums)
    → All (IsBornAfter number new) (take (i + 1) sums)
births_more number sums i d old new within less here are =
    subst (λ (l : List Summary). All (IsBornAfter number new) l) (sym (take_more sums i d within))
    (All-push (IsBornAfter number new) (take i sums) (get_or sums i d)
    (All-weaker (IsBornAfter number old) (IsBornAfter number new)
    (λ sum is.
    All-weaker (λ (birth : Birth). birth.number ≡ number → old ≤ birth.at)
    (λ (birth : Birth). birth.number ≡ number → new ≤ birth.at)
    (λ birth born same. let at = born same in omega (arith, less, at)) sum.creating.births.items is)
    (take i sums) are)
    here)

-- ---- the create isn't before the least of all births

-- the summary of a record is among them
some_summary : (records : List RecordValue) (sums : List Summary) (k : ℕ) (d : RecordValue) → AreSummaries records sums
    → k < length records → (s : Summary) × (Contains sums s) × IsSummary (get_or records k d) s
some_summary [] sums k d zip within = let wrong : ⊥ = omega (arith, within) in absurd wrong
some_summary (r ∷ rs) [] k d zip within = absurd zip
some_summary (r ∷ rs) (s ∷ ss) zero d zip within = (s, (0, omega arith, refl), zip.0)
some_summary (r ∷ rs) (s ∷ ss) (suc k) d zip within =
    let rest = some_summary rs ss k d zip.1 (omega (arith, within)) in
    (rest.0, (suc rest.1.0, omega (arith, rest.1.1), rest.1.2), rest.2)

module _ (records : List RecordValue) (sums : List Summary) (are : AreSummaries records sums) (number born : ℕ)
    (is_born : All (IsBornAfter number born) sums) where
  born_by : (creator : RecordValue) (before later : List Event) (process : ProcessId) (sum : Summary)
      → Contains sums sum → IsSummary creator sum
      → creator.events ≡ before ++ event.Create process (Some number) ∷ later → born ≤ time_by 0 before
  born_by creator before later process sum among is split =
      let has : HasBirthAfter before process number sum.creating.births.items =
      is.creating.each before later process number split in
      let after : IsBornAfter number born sum = All-contains (IsBornAfter number born) sums sum is_born among in
      let at : born ≤ has.birth.at =
      All-contains (λ (b : Birth). b.number ≡ number → born ≤ b.at) sum.creating.births.items has.birth after
      has.among has.tells.number_is in
      subst (λ t. born ≤ t) has.tells.at at

  born_before : (creator : RecordValue) (before later : List Event) (process : ProcessId) → Contains records creator
      → creator.events ≡ before ++ event.Create process (Some number) ∷ later → born ≤ time_by 0 before
  born_before creator before later process among split =
      let has = some_summary records sums among.0 creator are among.1 in
      born_by creator before later process has.0 has.1
      (subst (λ (t : RecordValue). IsSummary t has.0) among.2 has.2) split

  before_create : (signals : List Timed) → All (λ (one : Timed). one.at ≤ born) signals
      → AreBeforeCreate records number signals
  before_create signals early creator before later process among split =
      All-weaker (λ (one : Timed). one.at ≤ born) (λ (one : Timed). one.at ≤ time_by 0 before)
      (λ one less.
      let after : born ≤ time_by 0 before = born_before creator before later process among split in
      omega (arith, less, after))
      signals early

-- ---- by signals

-- what is missing is older than the instance, and the flows have the last of the signals
pub record IsPutOf (records : List RecordValue) (number : ℕ) (signals : List Timed) (put : ℕ) (flows : List Flow)
    : Type 0 where
  pub missing : AreBeforeCreate records number (all_but put signals)
  pub sent : (name : SignalId) (until : ℕ)
      → counted (is_by (Of number) name until) flows ≡ by_time until (times_of name (last_of put signals))

pub put_of : (records : List RecordValue) (sums : List Summary) → AreSummaries records sums → (number : ℕ)
    (signals : List Timed) (passes : List Pass) (put : ℕ) (flows : List Flow) → AreMatched number signals passes
    → IsFlowPut sums passes number put flows → IsPutOf records number signals put flows
put_of records sums are number signals passes put flows zip is = record {
  missing = before_create records sums are number is.born is.is_born (all_but put signals)
      (matched_early number is.born (all_but put signals)
      (take (missing_of number put passes) (passes_with number passes))
      (subst (λ n. AllZip (Matches number) (take n signals)
      (take (missing_of number put passes) (passes_with number passes))) (sym count_is)
      (zip_take (Matches number) (missing_of number put passes) signals (passes_with number passes) zip))
      is.early);
  sent = λ name until.
      is.rest name until
      ∙ sym (matched_count number name until (drop (missing_of number put passes) signals)
      (drop (missing_of number put passes) (passes_with number passes))
      (zip_drop (Matches number) (missing_of number put passes) signals (passes_with number passes) zip))
      ∙ ap (λ n. by_time until (times_of name (drop n signals))) (sym count_is);
} where
  count_is : length signals - put ≡ missing_of number put passes
  count_is = ap (λ n. n - put) (zip_long (Matches number) signals (passes_with number passes) zip)
