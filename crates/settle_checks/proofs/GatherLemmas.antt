-- Ports that gather their senders, while one place after the other is gathered.
use Rattle.std.proofs.Common.{◌≡◌, ◌∙◌, ◌<◌, ◌≤◌, ◌+◌, All, ap, arith, cond, eq-eqb, get_or, is_some, length, nat_eq, refl, set, subst, sym, ⊎_elim}
use Rattle.std.proofs.Common.{ℕ, zero, suc, Bool, true, false, List, [], ◌∷◌, ◌++◌, Option, None, Some}
use Rattle.std.proofs.lemmas.Bool.{cases_eq, ne_eqb, true≢false}
use Rattle.std.proofs.lemmas.List.{get_or-set_other, get_or-set_same, get_or_default, length-set}
use Rattle.std.specs.declared.alloc.Global.{Global}
use Rattle.crossbeam_queue.specs.SegTies.{SegId}
use Rattle.input_port.specs.QueueEnds.{SenderState}
use Rattle.port_model.specs.declared.values.item.Item.{Item}
use Rattle.run_record.specs.Record.{RecordValue}
use Rattle.settle_checks.proofs.AccountPutLemmas.{rising_apart}
use Rattle.settle_checks.specs.Account.{AllAt, AreCountsOf, HavePut, IsCountOf}
use Rattle.settle_checks.specs.Gatherings.{AreGatheringsOf, HasGathered, IsGatheredBut, IsGatheringOf}
use Rattle.settle_checks.specs.Gathering.{CountedState, GatheringState, PutNothing}
use Rattle.settle_meaning.specs.Identities.{AreRising}
use Rattle.threads_ports.proofs.SenderLemmas.{put_in}
use Rattle.threads_ports.specs.Peers.{PeersState, is_known, put_by, put_to, sender_to}

-- ---- lists

-- an item at a place
some_at : {X : Type 0} (xs : List X) (k : ℕ) → k < length xs → (x : X) × (x ≡ get_or xs k x)
some_at [] k within = let wrong : ⊥ = omega (arith, within) in absurd wrong
some_at (x ∷ xs) zero within = (x, refl)
some_at (x ∷ xs) (suc k) within = some_at xs k (omega (arith, within))

-- what holds of each at its place holds where one of them was changed
at_set : {X : Type 0} (P : ℕ → X → Type 0) (xs : List X) (i : ℕ) (x : X) → i < length xs → AllAt P xs → P i x
    → AllAt P (set xs i x)
at_set P xs i x inside all here k d within =
    ⊎_elim
    (λ (same : k ≡ i).
    subst (λ n. P n (get_or (set xs i x) n d)) (sym same) (subst (P i) (sym (get_or-set_same xs i x d inside)) here))
    (λ (apart : k ≡ i → ⊥).
    subst (P k) (sym (get_or-set_other xs i k x d apart)) (all k d (subst (λ n. k < n) (length-set xs i x) within)))
    (cases_eq k i)

-- ---- the senders of a place, and one of them

sender_past : (b : Bool) (one : SenderState) (there all last : Option SenderState) → is_some (cond b (Some one) there) ≡ false
    → (is_some there ≡ false → all ≡ last) → cond b (Some one) all ≡ last
sender_past true one there all last unknown rest = absurd (true≢false unknown)
sender_past false one there all last unknown rest = rest unknown

sender_after : (rest more : PeersState) (n : ℕ) → is_known rest n ≡ false → sender_to (rest ++ more) n ≡ sender_to more n
sender_after [] more n unknown = refl
sender_after (e ∷ es) more n unknown =
    sender_past (nat_eq n e.0) e.1 (sender_to es n) (sender_to (es ++ more) n) (sender_to more n) unknown
    (λ there. sender_after es more n there)

sender_before : (rest : PeersState) (number : ℕ) (sender : SenderState) (n : ℕ) → nat_eq n number ≡ false
    → sender_to (rest ++ (number, sender) ∷ []) n ≡ sender_to rest n
sender_before [] number sender n apart = ap (λ b. cond b (Some sender) None) apart
sender_before (e ∷ es) number sender n apart =
    ap (λ (o : Option SenderState). cond (nat_eq n e.0) (Some e.1) o) (sender_before es number sender n apart)

-- ---- what is left of the senders of a place

module _ (puts : ℕ → ℕ → List Item) (place : ℕ) where
  -- in the beginning all
  pub none_gathered : (peers : PeersState) (all : List GatheringState) → HavePut puts place peers
      → All (HasGathered puts place) all → All (IsGatheredBut puts place peers) all
  none_gathered peers all have before k d within = record {
    before = before k d within;
    rest = λ past. have (get_or all k d).number;
  }

  -- in the end none
  pub all_gathered : (peers : PeersState) (all : List GatheringState) → peers ≡ []
      → All (IsGatheredBut puts place peers) all → All (HasGathered puts (place + 1)) all
  all_gathered peers all none but k d within p from below =
      let one = but k d within in
      ⊎_elim
      (λ (same : p ≡ place).
      ap (puts (get_or all k d).number) same ∙ sym (one.rest (subst (λ n. (get_or all k d).next ≤ n) same from))
      ∙ ap (λ (l : PeersState). put_to l (get_or all k d).number) none)
      (λ (apart : p ≡ place → ⊥). one.before p from (grind (arith, below, apart)))
      (cases_eq p place)

-- nothing is before the first place
pub nothing_gathered : (puts : ℕ → ℕ → List Item) (all : List GatheringState) → All (HasGathered puts 0) all
nothing_gathered puts all k d within p from below = let wrong : ⊥ = omega (arith, below) in absurd wrong

-- ---- the port of a sender

module _ (records : List RecordValue) (all : List GatheringState) (of : AreGatheringsOf records all) where
  number_at : (k : ℕ) (d : GatheringState) (trace : RecordValue) → k < length all → trace ≡ get_or records k trace
      → (get_or all k d).number ≡ trace.pid
  number_at k d trace within is = (of.each k d within trace (subst (λ n. k < n) of.long within) is).number

  module _ (at number : ℕ) (is : (d : RecordValue) → (get_or records at d).pid ≡ number) (inside : at < length all) where
    -- it has the number
    pub number_is : (one : GatheringState) → one ≡ get_or all at one → one.number ≡ number
    number_is one one_is =
        let t = some_at records at (subst (λ n. at < n) of.long inside) in
        ap (λ (o : GatheringState). o.number) one_is ∙ number_at at one t.0 inside t.1
        ∙ ap (λ (r : RecordValue). r.pid) t.1 ∙ is t.0

    -- no other has it
    others_apart : AreRising 0 records → (k : ℕ) (d : GatheringState) → k < length all → (k ≡ at → ⊥)
        → number ≡ (get_or all k d).number → ⊥
    others_apart rising k d within apart same =
        let within_k = subst (λ n. k < n) of.long within in
        let t = some_at records k within_k in
        apart
        (rising_apart records k at t.0 t.0 rising within_k (subst (λ n. at < n) of.long inside)
        (ap (λ (r : RecordValue). r.pid) (sym t.1) ∙ sym (number_at k d t.0 within t.1) ∙ sym same ∙ sym (is t.0)))

    -- once it has changed, the ports are those of the records
    pub gatherings_set : (old new : GatheringState) → old ≡ get_or all at old → new.at ≡ old.at → new.number ≡ old.number
        → AreGatheringsOf records (set all at new)
    gatherings_set old new old_is same_at same_number = record {
      long = length-set all at new ∙ of.long;
      each = at_set
          (λ k (one : GatheringState). (trace : RecordValue) → k < length records → trace ≡ get_or records k trace
          → IsGatheringOf k trace one)
          all at new inside of.each
          (λ trace below trace_is.
          let here = of.each at old inside trace below trace_is in
          let is_old : get_or all at old ≡ old = sym old_is in
          record {
            at = same_at ∙ sym (ap (λ (o : GatheringState). o.at) is_old) ∙ here.at;
            number = same_number ∙ sym (ap (λ (o : GatheringState). o.number) is_old) ∙ here.number;
          });
    }

    -- it gathers the sender
    module _ (puts : ℕ → ℕ → List Item) (place : ℕ) (rest : PeersState) (sender : SenderState)
        (but : All (IsGatheredBut puts place (rest ++ (number, sender) ∷ [])) all) where
      but_at : (one : GatheringState) → one ≡ get_or all at one
          → IsGatheredBut puts place (rest ++ (number, sender) ∷ []) one
      but_at one one_is =
          subst (IsGatheredBut puts place (rest ++ (number, sender) ∷ [])) (sym one_is) (but at one inside)

      -- it has put what the place has put
      pub has_put : (one : GatheringState) → one ≡ get_or all at one → is_known rest number ≡ false → one.next ≤ place
          → put_by sender ≡ puts one.number place
      has_put one one_is unknown past =
          let last : sender_to (rest ++ (number, sender) ∷ []) number ≡ Some sender =
          sender_after rest ((number, sender) ∷ []) number unknown
          ∙ ap (λ b. cond b (Some sender) None) (eq-eqb number number refl) in
          sym (ap put_in last) ∙ ap (put_to (rest ++ (number, sender) ∷ [])) (sym (number_is one one_is))
          ∙ (but_at one one_is).rest past

      pub between : (one : GatheringState) → one ≡ get_or all at one → PutNothing (puts one.number) one.next place
      between one one_is = (but_at one one_is).before

      -- then the rest is left
      pub gathered_one : AreRising 0 records → (new : GatheringState) → new.next ≡ place + 1
          → All (IsGatheredBut puts place rest) (set all at new)
      gathered_one rising new next k d within =
          let within_k : k < length all = subst (λ n. k < n) (length-set all at new) within in
          ⊎_elim
          (λ (same : k ≡ at).
          let it : get_or (set all at new) k d ≡ new =
          ap (λ n. get_or (set all at new) n d) same ∙ get_or-set_same all at new d inside in
          subst (IsGatheredBut puts place rest) (sym it)
          (record {
            before = λ p from below. let wrong : ⊥ = omega (arith, next, from, below) in absurd wrong;
            rest = λ past. let wrong : ⊥ = omega (arith, next, past) in absurd wrong;
          }))
          (λ (apart : k ≡ at → ⊥).
          let one = but k d within_k in
          let other : nat_eq (get_or all k d).number number ≡ false =
          ne_eqb (get_or all k d).number number (λ same. others_apart rising k d within_k apart (sym same)) in
          subst (IsGatheredBut puts place rest) (sym (get_or-set_other all at k new d apart))
          (record {
            before = one.before;
            rest = λ past. sym (ap put_in (sender_before rest number sender (get_or all k d).number other))
                ∙ one.rest past;
          }))
          (cases_eq k at)

-- ---- the counts

-- the count of a port that has gathered
pub record IsCountOfOne (places : ℕ) (gathering : GatheringState) (counted : CountedState) : Type 0 where
  pub at : counted.at ≡ gathering.at
  pub number : counted.number ≡ gathering.number
  pub places_are : counted.places ≡ places

abbrev pub AreCountsOfAll : ℕ → List GatheringState → List CountedState → Type 0
AreCountsOfAll places all counted =
    AllAt (λ k (one : CountedState). (gathering : GatheringState) → k < length all
    → gathering ≡ get_or all k gathering → IsCountOfOne places gathering one) counted

-- one count more
pub count_more : (places : ℕ) (all : List GatheringState) (n m : ℕ) (gathering : GatheringState) (one : CountedState)
    → n ≡ m → gathering ≡ get_or all m gathering → IsCountOfOne places gathering one
    → (other : GatheringState) → n < length all → other ≡ get_or all n other → IsCountOfOne places other one
count_more places all n m gathering one same is count other within other_is =
    let equal : gathering ≡ other =
    is ∙ ap (λ k. get_or all k gathering) (sym same) ∙ get_or_default all n gathering other within ∙ sym other_is in
    subst (λ (g : GatheringState). IsCountOfOne places g one) equal count

pub counts_are : (places : ℕ) (all : List GatheringState) (counted : List CountedState) → length counted ≡ length all
    → AreCountsOfAll places all counted → (records : List RecordValue) → AreGatheringsOf records all
    → AreCountsOf places records counted
counts_are places all counted long counts records of = record {
  long = long ∙ of.long;
  each = λ k d within trace below trace_is.
      let within_k : k < length all = subst (λ n. k < n) long within in
      let g = some_at all k within_k in
      let one = counts k d within g.0 within_k g.1 in
      let its = of.each k g.0 within_k trace below trace_is in
      record {
        at = one.at ∙ ap (λ (o : GatheringState). o.at) g.1 ∙ its.at;
        number = one.number ∙ ap (λ (o : GatheringState). o.number) g.1 ∙ its.number;
        places_are = one.places_are;
      };
}

-- the next port
pub gathering_next : (records : List RecordValue) (all : List GatheringState) (at pid : ℕ) (item : RecordValue)
    (one : GatheringState) → at ≡ length all → item ≡ get_or records at item → pid ≡ item.pid → one.at ≡ at
    → one.number ≡ pid → (trace : RecordValue) → length all < length records
    → trace ≡ get_or records (length all) trace → IsGatheringOf (length all) trace one
gathering_next records all at pid item one same is pid_is at_is number_is trace below trace_is =
    let item_is : item ≡ trace =
    is ∙ ap (λ k. get_or records k item) same ∙ get_or_default records (length all) item trace below ∙ sym trace_is in
    record {
      at = at_is ∙ same;
      number = number_is ∙ pid_is ∙ ap (λ (t : RecordValue). t.pid) item_is;
    }
