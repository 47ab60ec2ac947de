-- What was put into a port from all places, by the law of counts.
use Rattle.std.proofs.Common.{◌≡◌, ◌∙◌, ◌<◌, ◌≤◌, ◌+◌, add-one, ap, arith, get_or, inl, inr, length, refl, subst, sym, ⊎_elim, ℕ, zero, suc, List, [], ◌∷◌, All}
use Rattle.std.specs.Prelude.{Contains, map}
use Rattle.std.proofs.lemmas.Bool.{cases_eq, cases_lt}
use Rattle.std.proofs.lemmas.List.{get_or-map, get_or_default, length-map}
use Rattle.std.proofs.lemmas.List.Elements.{All-contains, All-weaker}
use Rattle.input_port.specs.Counts.{signals_in}
use Rattle.port_model.specs.declared.values.item.Item.{Item}
use Rattle.port_model.specs.declared.values.pid.Pid.{Pid}
use Rattle.port_model.specs.declared.values.pid.Pid.TheVariants.{Env, Null, Of}
use Rattle.run_record.specs.Record.{RecordValue}
use Rattle.run_semantics.specs.Sent.{sent_to}
use Rattle.sdl_script.specs.declared.script.ScriptLine.{ScriptLine}
use Rattle.settle_checks.specs.Account.{AreAllPut, AreOrdered, AreOrderedTo, ArePlaces, CountedHavePut, IsAllHeard, put_at}
use Rattle.settle_checks.specs.Outputs.{EnoughIsHeard, EnoughIsPut, IsEnough, IsEnoughHeard}
use Rattle.settle_checks.specs.Gathering.{AllIsPut, AllOfAll, AreOwn, IsOfPlace}
use Rattle.settle_meaning.specs.Identities.{AreRising}
use Rattle.settle_meaning.specs.Order.{AreInOrder, IsOneInOrder, heard_from, times_heard}
use Rattle.settle_meaning.specs.Times.{sends}
use Rattle.settle_meaning.specs.Puts.{ArePut, EndsWith, Heard, IsNamed, IsOfOne, IsPutBy, IsPutByEnv, heard_by, sent_by}
use Rattle.threads_ports.specs.Peers.{PeersState, put_to}

-- ---- numbers that rise

rising_above : (records : List RecordValue) (last k : ℕ) (d : RecordValue) → AreRising last records
    → k < length records → last < (get_or records k d).pid
rising_above [] last k d rising within = let wrong : ⊥ = omega (arith, within) in absurd wrong
rising_above (t ∷ ts) last zero d rising within = rising.0
rising_above (t ∷ ts) last (suc k) d rising within =
    let next : t.pid < (get_or ts k d).pid = rising_above ts t.pid k d rising.1 (omega (arith, within)) in
    omega (arith, next, rising.0)

rising_less : (records : List RecordValue) (last j k : ℕ) (d e : RecordValue) → AreRising last records → j < k
    → k < length records → (get_or records j d).pid < (get_or records k e).pid
rising_less [] last j k d e rising less within = let wrong : ⊥ = omega (arith, within) in absurd wrong
rising_less (t ∷ ts) last j zero d e rising less within = let wrong : ⊥ = omega (arith, less) in absurd wrong
rising_less (t ∷ ts) last zero (suc k) d e rising less within =
    rising_above ts t.pid k e rising.1 (omega (arith, within))
rising_less (t ∷ ts) last (suc j) (suc k) d e rising less within =
    rising_less ts t.pid j k d e rising.1 (omega (arith, less)) (omega (arith, within))

pub rising_apart : (records : List RecordValue) (j k : ℕ) (d e : RecordValue) → AreRising 0 records → j < length records
    → k < length records → (get_or records j d).pid ≡ (get_or records k e).pid → j ≡ k
rising_apart records j k d e rising within_j within_k same =
    ⊎_elim (λ (is : j ≡ k). is)
    (λ (apart : j ≡ k → ⊥).
    ⊎_elim
    (λ (less : j < k).
    let wrong : ⊥ = omega (arith, rising_less records 0 j k d e rising less within_k, same) in absurd wrong)
    (λ (more : k ≤ j).
    let less : k < j = grind (arith, more, apart) in
    let wrong : ⊥ = omega (arith, rising_less records 0 k j e d rising less within_j, same) in absurd wrong)
    (cases_lt j k))
    (cases_eq j k)

-- ---- origins

abbrev pids_of : List RecordValue → List Pid
pids_of records = map (λ (trace : RecordValue). Of trace.pid) records

-- of each place whose signals it puts
abbrev origin_of : List RecordValue → ℕ → Pid
origin_of records zero = Env
origin_of records (suc k) = get_or (pids_of records) k Null

origin_at : (records : List RecordValue) (k : ℕ) (d : RecordValue) → k < length records
    → origin_of records (suc k) ≡ Of (get_or records k d).pid
origin_at records k d within = get_or-map (λ (trace : RecordValue). Of trace.pid) records k d Null within

same_number : (a b : ℕ) → Of a ≡ Of b → a ≡ b
same_number a b same = cc

not_env : (a : ℕ) → Env ≡ Of a → ⊥
not_env a same = cc

-- ---- one port

module _ (heard : List Heard) (records : List RecordValue) (places : List PeersState) (trace : RecordValue)
    (rising : AreRising 0 records) (are : ArePlaces heard records places) where
  abbrev put : ℕ → List Item
  put = put_at places trace.pid

  within_records : (k : ℕ) → suc k < length places → k < length records
  within_records k within = omega (arith, within, are.long)

  within_places : (k : ℕ) → k < length records → suc k < length places
  within_places k within = omega (arith, within, are.long)

  -- what the place of a record has put
  put_next : (k : ℕ) → put_to (get_or places (k + 1) []) trace.pid ≡ put (suc k)
  put_next k = ap put (add-one k)

  own : (place : ℕ) → place < length places → All (λ item. item.sender ≡ origin_of records place) (put place)
  own zero within = (are.environment trace.pid).own
  own (suc k) within =
      let here : k < length records = within_records k within in
      let t : RecordValue = get_or records k trace in
      subst (λ (origin : Pid). All (λ (item : Item). item.sender ≡ origin) (put (suc k)))
      (sym (origin_at records k trace here))
      (subst (λ (items : List Item). All (λ (item : Item). item.sender ≡ Of t.pid) items) (put_next k)
      (are.instances k trace here trace.pid).own)

  apart : (one other : ℕ) → one < length places → other < length places
      → origin_of records one ≡ origin_of records other → one ≡ other
  apart zero zero within_one within_other same = refl
  apart zero (suc k) within_one within_other same =
      absurd (not_env (get_or records k trace).pid
      (same ∙ origin_at records k trace (within_records k within_other)))
  apart (suc j) zero within_one within_other same =
      absurd (not_env (get_or records j trace).pid
      (sym same ∙ origin_at records j trace (within_records j within_one)))
  apart (suc j) (suc k) within_one within_other same =
      ap suc (rising_apart records j k trace trace rising (within_records j within_one) (within_records k within_other)
      (same_number (get_or records j trace).pid (get_or records k trace).pid
      (sym (origin_at records j trace (within_records j within_one)) ∙ same
      ∙ origin_at records k trace (within_records k within_other))))

  are_own : AreOwn (origin_of records) put (length places)
  are_own = record { own = own; apart = apart }

  -- each signal is of one that has a record, or of the environment
  of_one : (item : Item) → IsOfPlace (origin_of records) (length places) item → IsOfOne records item
  of_one item is = by_place is.place is.within is.sender where
    by_place : (place : ℕ) → place < length places → item.sender ≡ origin_of records place → IsOfOne records item
    by_place zero within sender = inl sender
    by_place (suc k) within sender =
        let here : k < length (pids_of records) =
        omega (arith, within_records k within, length-map records (λ (t : RecordValue). Of t.pid)) in
        inr (k, here, get_or_default (pids_of records) k item.sender Null here ∙ sym sender)

  module _ (enough_is_put : EnoughIsPut) (enough_is_heard : EnoughIsHeard) (all_put : AreAllPut heard records places)
      (all_heard : IsAllHeard heard records (get_or places 0 [])) (among : Contains records trace) (signals : List Item)
      (all : AllOfAll (origin_of records) put (length places) signals) where
    -- what another instance has put
    put_by : (k : ℕ) (d : RecordValue) → k < length records
        → IsPutBy (IsNamed heard) (get_or records k d) trace (sent_by (Of (get_or records k d).pid) signals)
    put_by k d within =
        let from : RecordValue = get_or records k d in
        let each : sent_by (Of from.pid) signals ≡ put (suc k) =
        ap (λ (origin : Pid). sent_by origin signals) (sym (origin_at records k d within))
        ∙ all.each (suc k) (within_places k within) in
        let ends : EndsWith (sent_to from.pid from.events trace.pid) (put (suc k)) =
        subst (λ (items : List Item). EndsWith (sent_to from.pid from.events trace.pid) items) (put_next k)
        (are.instances k d within trace.pid).end in
        let enough : IsEnough (IsNamed heard) from trace (length (put (suc k))) =
        subst (λ (items : List Item). IsEnough (IsNamed heard) from trace (length items)) (put_next k)
        (All-contains
        (λ (to : RecordValue). IsEnough (IsNamed heard) from to (length (put_to (get_or places (k + 1) []) to.pid)))
        records trace (all_put k d within) among) in
        subst (λ (items : List Item). IsPutBy (IsNamed heard) from trace items) (sym each)
        (enough_is_put heard from trace (put (suc k)) ends enough)

    -- what the environment has put
    put_by_env : IsPutByEnv (IsNamed heard) heard trace (sent_by Env signals)
    put_by_env =
        let ends : EndsWith (heard_by heard trace.pid) (put 0) = (are.environment trace.pid).end in
        let enough : IsEnoughHeard (IsNamed heard) heard trace (length (put 0)) =
        All-contains
        (λ (to : RecordValue). IsEnoughHeard (IsNamed heard) heard to (length (put_to (get_or places 0 []) to.pid)))
        records trace all_heard among in
        subst (λ (items : List Item). IsPutByEnv (IsNamed heard) heard trace items)
        (sym (all.each 0 (omega (arith, are.long)))) (enough_is_heard heard trace (put 0) ends enough)

    are_put : ArePut (IsNamed heard) heard records trace signals
    are_put = record {
      instances = put_by;
      environment = put_by_env;
      no_other = All-weaker (IsOfPlace (origin_of records) (length places)) (IsOfOne records) of_one signals all.no_other;
    }

-- what was put is taken in time: as many signals of each sender were drawn as its place has put
module _ (lines : List ScriptLine) (heard : List Heard) (records : List RecordValue) (places : List PeersState)
    (trace : RecordValue) (rising : AreRising 0 records) (are : ArePlaces heard records places)
    (ordered : AreOrdered lines heard records places)
    (among : Contains records trace) (signals : List Item)
    (all : AllOfAll (origin_of records) (put_at places trace.pid) (length places) signals) where
  ordered_to : AreOrderedTo lines heard records places trace
  ordered_to = All-contains (AreOrderedTo lines heard records places) records trace ordered among

  are_in_order : AreInOrder lines heard records trace signals
  are_in_order = record {
    instances = λ k d within.
        let from : RecordValue = get_or records k d in
        let each : sent_by (Of from.pid) signals ≡ put_to (get_or places (k + 1) []) trace.pid =
        ap (λ (origin : Pid). sent_by origin signals) (sym (origin_at records k d within))
        ∙ all.each (suc k) (within_places heard records places trace rising are k within)
        ∙ sym (put_next heard records places trace rising are k) in
        subst (λ n. IsOneInOrder records trace (Of from.pid) (sends from trace.pid) n)
        (sym (ap (λ (l : List Item). length l) each)) (ordered_to.instances k d within);
    environment = subst (λ n. IsOneInOrder records trace Env (heard_from (times_heard lines) heard trace.pid) n)
        (sym (ap (λ (l : List Item). length l) (all.each 0 (omega (arith, are.long))))) ordered_to.environment;
  }

pub counted_have_put : AllIsPut → EnoughIsPut → EnoughIsHeard → CountedHavePut
counted_have_put all_is_put enough_is_put enough_is_heard lines heard records places trace first owner rising are all_put
    all_heard ordered among counted =
    let all : AllOfAll (origin_of records) (put_at places trace.pid) (length places) (signals_in owner.drawn) =
    all_is_put (put_at places trace.pid) (length places) first owner (origin_of records) counted
    (are_own heard records places trace rising are) in
    record {
      put = are_put heard records places trace rising are enough_is_put enough_is_heard all_put all_heard among
          (signals_in owner.drawn) all;
      in_order = are_in_order lines heard records places trace rising are ordered among (signals_in owner.drawn) all;
    }
