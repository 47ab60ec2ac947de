-- Enough was put to all, if it was to whom something is sent and to whom it creates.
use Rattle.std.proofs.Common.{◌≡◌, ◌∙◌, ◌⊎◌, ◌<◌, ◌+◌, ap, arith, cond, get_or, inl, inr, length, refl, sym, ⊎_elim, ℕ, suc, Bool, true, false, List, [], ◌∷◌}
use Rattle.std.proofs.lemmas.List.Elements.{All-contains}
use Rattle.std.proofs.lemmas.List.Sums.{sum_by-cons}
use Rattle.port_model.specs.Same.{same_pid, same_pid-Decides}
use Rattle.port_model.specs.declared.values.pid.Pid.TheVariants.{Of}
use Rattle.run_record.specs.Record.{RecordValue}
use Rattle.run_semantics.specs.Sent.{sent_to}
use Rattle.settle_checks.specs.Account.{ArePutAlong, ArePutToBorn, IsAllPut, IsPutToOne}
use Rattle.settle_checks.specs.Outputs.{IsEnough}
use Rattle.settle_meaning.specs.Puts.{Heard, IsNamed}
use Rattle.settle_checks.proofs.SummingEnoughLemmas.{sent_length}
use Rattle.settle_checks.specs.Flows.{counted, is_with}
use Rattle.settle_checks.specs.Summary.{HasBirthAfter, IsSummary}
use Rattle.settle_checks.specs.declared.summing.creating.Birth.{Birth}
use Rattle.settle_checks.specs.declared.summing.flows.Flow.{Flow}
use Rattle.settle_checks.specs.declared.summing.summary.Summary.{Summary}
use Rattle.threads_ports.specs.Peers.{PeersState, put_to}

-- places past the end of a list have these
pub no_flow : Flow
no_flow = record { pass = record { peer = Of 0; name = record { 0 = 0 }; at = 0 }; count = 0 }

pub no_birth : Birth
no_birth = record { process = record { 0 = 0 }; number = 0; at = 0; sent = 0 }

-- if something was sent to a number, a flow is to it
pub record IsFlowTo (number : ℕ) (flows : List Flow) : Type 0 where
  pub place : ℕ
  pub within : place < length flows
  pub is : (d : Flow) → (get_or flows place d).pass.peer ≡ Of number

pub some_flow : (number : ℕ) (flows : List Flow) → (counted (is_with number) flows ≡ 0) ⊎ IsFlowTo number flows
some_flow number [] = inl refl
some_flow number (flow ∷ rest) = by_test (some_flow number rest) (same_pid flow.pass.peer (Of number)) refl where
  later : IsFlowTo number rest → IsFlowTo number (flow ∷ rest)
  later there = record { place = suc there.place; within = omega (arith, there.within); is = there.is }

  by_test : (counted (is_with number) rest ≡ 0) ⊎ IsFlowTo number rest → (b : Bool)
      → same_pid flow.pass.peer (Of number) ≡ b
      → (counted (is_with number) (flow ∷ rest) ≡ 0) ⊎ IsFlowTo number (flow ∷ rest)
  by_test in_rest true is = inr (record {
    place = 0;
    within = omega arith;
    is = λ d. (same_pid-Decides flow.pass.peer (Of number)).0 is;
  })
  by_test in_rest false is =
      ⊎_elim
      (λ (none : counted (is_with number) rest ≡ 0).
      inl (sum_by-cons (λ (f : Flow). cond (is_with number f.pass) f.count 0) flow rest
      ∙ ap (λ (m : Bool). cond m flow.count 0 + counted (is_with number) rest) is
      ∙ ap (λ n. 0 + n) none))
      (λ (there : IsFlowTo number rest). inr (later there))
      in_rest

pub enough_all : (heard : List Heard) (records : List RecordValue) (from : RecordValue) (sum : Summary)
    (peers : PeersState) → IsSummary from sum → ArePutAlong heard records from peers sum.sending.flows
    → ArePutToBorn heard records from peers sum.creating.births.items → IsAllPut heard records from peers
enough_all heard records from sum peers is along born k d within =
    let to : RecordValue = get_or records k d in
    let flows : List Flow = sum.sending.flows in
    let births : List Birth = sum.creating.births.items in
    ⊎_elim
    (λ (none : counted (is_with to.pid) flows ≡ 0).
    let nothing : length (sent_to from.pid from.events to.pid) ≡ 0 =
    sent_length from.pid to.pid 0 from.events ∙ sym (is.sending.flows (is_with to.pid)) ∙ none in
    let enough : IsEnough (IsNamed heard) from to (length (put_to peers to.pid)) = record {
      allowed = inl (omega (arith, nothing));
      since = λ before later process split.
          let has : HasBirthAfter before process to.pid births = is.creating.each before later process to.pid split in
          let one : IsPutToOne heard records from peers has.birth.number =
          All-contains (λ (birth : Birth). IsPutToOne heard records from peers birth.number) births has.birth born
          has.among in
          (one k d within (sym has.tells.number_is)).since before later process split;
    } in
    enough)
    (λ (there : IsFlowTo to.pid flows).
    along there.place no_flow there.within to.pid (there.is no_flow) k d within refl)
    (some_flow to.pid flows)
