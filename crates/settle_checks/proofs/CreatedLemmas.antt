-- Who is made, one instance after the other.
use Rattle.std.proofs.Common.{◌≡◌, ◌∙◌, ◌<◌, ◌+◌, ◌-◌, ap, append_assoc, arith, length, refl, subst, sym, ℕ, zero, suc, List, [], ◌∷◌, ◌++◌}
use Rattle.std.specs.Prelude.{IsPermutation}
use Rattle.std.proofs.lemmas.List.{length-append, length_push}
use Rattle.port_model.specs.declared.values.pid.Pid.TheVariants.{Null}
use Rattle.run_record.specs.declared.evaluation.identity.Identity.{Identity}
use Rattle.run_record.specs.Record.{RecordValue}
use Rattle.sdl_system.specs.System.{SystemValue}
use Rattle.sdl_system.specs.declared.id.ProcessId.{ProcessId}
use Rattle.sdl_system.specs.declared.process.Process.{Process}
use Rattle.settle_meaning.specs.Identities.{AreMade, AreRising, all_made, first_identities, first_of, identities_of}

length-first_of : (number : ℕ) (process : ProcessId) (count : ℕ) → length (first_of number process count) ≡ count
length-first_of number process zero = refl
length-first_of number process (suc count) = ap suc (length-first_of (number + 1) process count)

-- one instance more of a process
pub instance_more : (made : List Identity) (process : ProcessId) (count turn : ℕ) → turn < count
    → (let who : Identity = record { process = process; pid = length made + 1; parent = Null } in
    (made ++ who ∷ []) ++ first_of (length (made ++ who ∷ []) + 1) process (count - (turn + 1)))
    ≡ made ++ first_of (length made + 1) process (count - turn)
instance_more made process count turn within =
    let who : Identity = record { process = process; pid = length made + 1; parent = Null } in
    let left : count - turn ≡ suc (count - (turn + 1)) = omega (arith, within) in
    append_assoc made (who ∷ []) (first_of (length (made ++ who ∷ []) + 1) process (count - (turn + 1)))
    ∙ ap (λ n. made ++ who ∷ first_of (n + 1) process (count - (turn + 1))) (length_push made who)
    ∙ ap (λ n. made ++ first_of (length made + 1) process n) (sym left)

-- the instances of one process more
pub process_more : (made : List Identity) (id : ℕ) (process : Process) (rest : List Process)
    → (let now : List Identity = made ++ first_of (length made + 1) (record { 0 = id }) process.initial in
    now ++ first_identities (length now + 1) (id + 1) rest)
    ≡ made ++ first_identities (length made + 1) id (process ∷ rest)
process_more made id process rest =
    let own : List Identity = first_of (length made + 1) (record { 0 = id }) process.initial in
    let long : length (made ++ own) + 1 ≡ length made + 1 + process.initial =
    ap (λ n. n + 1) (length-append made own ∙ ap (λ n. length made + n)
    (length-first_of (length made + 1) (record { 0 = id }) process.initial)) ∙ omega arith in
    append_assoc made own (first_identities (length (made ++ own) + 1) (id + 1) rest)
    ∙ ap (λ n. made ++ (own ++ first_identities n (id + 1) rest)) long

-- ---- in the end

pub are_made : (system : SystemValue) (records : List RecordValue) (made sorted : List Identity)
    → made ≡ all_made system records → IsPermutation made sorted → identities_of records ≡ sorted
    → AreRising 0 records → AreMade system records
are_made system records made sorted all sorts same rising = record {
  each = subst (λ l. IsPermutation (all_made system records) l) (sym same)
      (subst (λ l. IsPermutation l sorted) all sorts);
  rising = rising;
}
