-- As many were put as were sent, by counts.
use Rattle.std.proofs.Common.{◌≡◌, ◌∙◌, ◌⊎◌, ◌≤◌, ◌+◌, ◌-◌, ◌==◌, ap, arith, cond, inl, inr, length, refl, suc, sym, ℕ, Bool, true, false, List, [], ◌∷◌, ◌++◌, Some, count_by}
use Rattle.std.proofs.lemmas.List.{length-append}
use Rattle.std.proofs.lemmas.List.Elements.{All-contains}
use Rattle.std.proofs.lemmas.List.Sums.{sum_by-append, sum_by-cons}
use Rattle.port_model.specs.declared.values.item.Item.{Item}
use Rattle.port_model.specs.declared.values.pid.Pid.TheVariants.{Of}
use Rattle.run_record.specs.Event as event
use Rattle.run_record.specs.Event.{Event}
use Rattle.run_record.specs.Record.{RecordValue}
use Rattle.run_semantics.specs.Sent.{sent_by_one, sent_to}
use Rattle.run_semantics.specs.World.{time_after_one}
use Rattle.sdl_system.specs.declared.id.ProcessId.{ProcessId}
use Rattle.sdl_system.specs.declared.route.Target.TheVariants as target
use Rattle.settle_checks.specs.Outputs.{IsEnough}
use Rattle.settle_meaning.specs.Puts.{MayMiss}
use Rattle.settle_meaning.specs.Times.{sent_from, timed}
use Rattle.settle_checks.specs.Enough.{IsEnoughSince}
use Rattle.settle_checks.specs.Flows.{is_with, passes_out, sent_passes}
use Rattle.settle_checks.specs.Summary.{HasBirthAfter, IsSummary}
use Rattle.settle_checks.specs.Totals.{AreTotals, Table, total}
use Rattle.settle_checks.specs.declared.summing.creating.Birth.{Birth}
use Rattle.settle_checks.specs.declared.summing.flows.Pass.{Pass}
use Rattle.settle_checks.specs.declared.summing.summary.Summary.{Summary}

module _ (who number : ℕ) where
  -- an output to the instance is one that passes to it
  if_to : (m : Bool) (item : Item) → length (cond m (item ∷ []) []) ≡ cond m 1 0 + 0
  if_to true item = refl
  if_to false item = refl

  out_length : (earlier : ℕ) (e : Event)
      → length (sent_by_one who number e) ≡ count_by (is_with number) (passes_out earlier e)
  out_length earlier (event.Output signal to values (target.Instance n)) =
      if_to (n == number) (record { name = signal; values = values; sender = Of who })
      ∙ sym (sum_by-cons (λ (p : Pass). cond (is_with number p) 1 0)
      (record { peer = Of n; name = signal; at = earlier }) [])
  out_length earlier (event.Output signal to values target.Env) = refl
  out_length earlier (event.Output signal to values target.Null) = refl
  out_length earlier (event.Output signal to values target.Nobody) = refl
  out_length earlier e = refl

  pub sent_length : (earlier : ℕ) (events : List Event)
      → length (sent_to who events number) ≡ count_by (is_with number) (sent_passes earlier events)
  sent_length earlier [] = refl
  sent_length earlier (e ∷ es) =
      length-append (sent_by_one who number e) (sent_to who es number)
      ∙ ap (λ n. n + length (sent_to who es number)) (out_length earlier e)
      ∙ ap (λ n. count_by (is_with number) (passes_out earlier e) + n) (sent_length (time_after_one earlier e) es)
      ∙ sym (sum_by-append (λ (p : Pass). cond (is_with number p) 1 0) (passes_out earlier e)
      (sent_passes (time_after_one earlier e) es))

  length_timed : (at : ℕ) (items : List Item) → length (timed at items) ≡ length items
  length_timed at [] = refl
  length_timed at (item ∷ items) = ap suc (length_timed at items)

  pub length_sends : (earlier : ℕ) (events : List Event)
      → length (sent_from earlier who events number) ≡ count_by (is_with number) (sent_passes earlier events)
  length_sends earlier [] = refl
  length_sends earlier (e ∷ es) =
      length-append (timed earlier (sent_by_one who number e)) (sent_from (time_after_one earlier e) who es number)
      ∙ ap (λ n. n + length (sent_from (time_after_one earlier e) who es number))
      (length_timed earlier (sent_by_one who number e) ∙ out_length earlier e)
      ∙ ap (λ n. count_by (is_with number) (passes_out earlier e) + n) (length_sends (time_after_one earlier e) es)
      ∙ sym (sum_by-append (λ (p : Pass). cond (is_with number p) 1 0) (passes_out earlier e)
      (sent_passes (time_after_one earlier e) es))

  -- what is sent before and after a create is all that is sent
  pub sent_parts : (before later : List Event) (process : ProcessId) (n : ℕ)
      → length (sent_to who (before ++ event.Create process (Some n) ∷ later) number)
      ≡ length (sent_to who before number) + length (sent_to who later number)
  sent_parts [] later process n = zero_plus (length (sent_to who later number)) where
    zero_plus : (k : ℕ) → k ≡ 0 + k
    zero_plus k = omega arith
  sent_parts (e ∷ es) later process n =
      length-append (sent_by_one who number e) (sent_to who (es ++ event.Create process (Some n) ∷ later) number)
      ∙ ap (λ k. length (sent_by_one who number e) + k) (sent_parts es later process n)
      ∙ plus_assoc (length (sent_by_one who number e)) (length (sent_to who es number)) (length (sent_to who later number))
      ∙ ap (λ k. k + length (sent_to who later number))
      (sym (length-append (sent_by_one who number e) (sent_to who es number))) where
        plus_assoc : (a b c : ℕ) → a + (b + c) ≡ a + b + c
        plus_assoc a b c = omega arith

module _ (from to : RecordValue) (sum : Summary) (totals : Table) (is : IsSummary from sum)
    (are : AreTotals sum.sending.flows totals) where
  all_is : total totals to.pid ≡ length (sent_to from.pid from.events to.pid)
  all_is =
      are to.pid ∙ is.sending.flows (is_with to.pid) ∙ sym (sent_length from.pid to.pid 0 from.events)

  pub enough : (Known : ℕ → Type 0) (put : ℕ) → (total totals to.pid ≤ put) ⊎ MayMiss Known from to
      → IsEnoughSince sum.creating.births.items to.pid (total totals to.pid) put → IsEnough Known from to put
  enough Known put allowed since = record {
    allowed = elim allowed [
      | inl less ↦ inl (omega (arith, less, all_is))
      | inr may ↦ inr may
    ];
    since = λ before later process split.
        let has : HasBirthAfter before process to.pid sum.creating.births.items =
        is.creating.each before later process to.pid split in
        let enough_here : total totals to.pid - has.birth.sent ≤ put =
        All-contains (λ (birth : Birth). birth.number ≡ to.pid → total totals to.pid - birth.sent ≤ put)
        sum.creating.births.items has.birth since has.among has.tells.number_is in
        let sent_is : has.birth.sent ≡ length (sent_to from.pid before to.pid) =
        has.tells.sent ∙ sym (sent_length from.pid to.pid 0 before) in
        let parts : length (sent_to from.pid from.events to.pid)
        ≡ length (sent_to from.pid before to.pid) + length (sent_to from.pid later to.pid) =
        ap (λ (l : List Event). length (sent_to from.pid l to.pid)) split
        ∙ sent_parts from.pid to.pid before later process to.pid in
        omega (arith, enough_here, sent_is, parts, all_is);
  }
