-- The least numbers of the instances of each process, with one instance more.
use Rattle.std.proofs.Common.{◌≡◌, ◌∙◌, ◌<◌, ◌≤◌, ap, append-nil, arith, cond, get_or, length, min, nat_eq, nat_le, refl, subst, sym, ℕ, zero, suc, Bool, true, false, List, [], ◌∷◌, ◌++◌, All, Option, None, Some}
use Rattle.std.specs.Prelude.{Contains, filter, map, slice_get, slice_set, unwrap_or}
use Rattle.std.proofs.lemmas.List.{map-append}
use Rattle.std.proofs.lemmas.List.Elements.{All-nil, All-push, All-same, All-weaker, Contains-append_left, Contains-push, filter-append}
use Rattle.port_model.specs.Timers.{IsLeast, earlier}
use Rattle.run_record.specs.declared.evaluation.identity.Identity.{Identity}
use Rattle.sdl_system.specs.declared.id.ProcessId.{ProcessId}
use Rattle.settle_checks.specs.Least.{Adds, HasLeast}
use Rattle.settle_meaning.specs.Living.{is_instance_of, numbers_of}

-- ---- the least of some numbers

least_of_two : (numbers : List ℕ) (m k : ℕ) (b : Bool) → nat_le m k ≡ b → Contains numbers m
    → All (λ other. m ≤ other) numbers → IsLeast (numbers ++ k ∷ []) (Some (min m k))
least_of_two numbers m k true less has all =
    let is : min m k ≡ m = grind (arith, less) in
    subst (λ n. Contains (numbers ++ k ∷ []) n × All (λ other. n ≤ other) (numbers ++ k ∷ [])) (sym is) (
      Contains-append_left numbers (k ∷ []) m has,
      All-push (λ other. m ≤ other) numbers k all (grind (arith, less)),
    )
least_of_two numbers m k false more has all =
    let is : min m k ≡ k = grind (arith, more) in
    let less : k ≤ m = grind (arith, more) in
    subst (λ n. Contains (numbers ++ k ∷ []) n × All (λ other. n ≤ other) (numbers ++ k ∷ [])) (sym is) (
      Contains-push numbers k,
      All-push (λ other. k ≤ other) numbers k
          (All-weaker (λ other. m ≤ other) (λ other. k ≤ other) (λ other is. omega (arith, less, is)) numbers all)
          (omega arith),
    )

least_push : (numbers : List ℕ) (least : Option ℕ) (k : ℕ) → IsLeast numbers least
    → IsLeast (numbers ++ k ∷ []) (earlier least (Some k))
least_push numbers None k none = (
  Contains-push numbers k,
  All-push (λ other. k ≤ other) numbers k (All-same (λ other. k ≤ other) numbers [] none (All-nil (λ other. k ≤ other)))
      (omega arith),
)
least_push numbers (Some m) k is = least_of_two numbers m k (nat_le m k) refl is.0 is.1

-- ---- a table

abbrev at : List (Option ℕ) → ℕ → Option ℕ
at least n = unwrap_or (slice_get least n) None

set_here : (least : List (Option ℕ)) (n : ℕ) (x : Option ℕ) → n < length least → at (slice_set least n x) n ≡ x
set_here [] n x within = let wrong : ⊥ = omega (arith, within) in absurd wrong
set_here (y ∷ ys) zero x within = refl
set_here (y ∷ ys) (suc n) x within = set_here ys n x (omega (arith, within))

set_there : (least : List (Option ℕ)) (n m : ℕ) (x : Option ℕ) → (n ≡ m → ⊥) → at (slice_set least n x) m ≡ at least m
set_there [] n m x apart = refl
set_there (y ∷ ys) zero zero x apart = absurd (apart refl)
set_there (y ∷ ys) zero (suc m) x apart = refl
set_there (y ∷ ys) (suc n) zero x apart = refl
set_there (y ∷ ys) (suc n) (suc m) x apart = set_there ys n m x (λ same. apart (ap suc same))

-- what is read at a place
read_at : (least : List (Option ℕ)) (n : ℕ) → at least n ≡ get_or least n None
read_at [] n = refl
read_at (y ∷ ys) zero = refl
read_at (y ∷ ys) (suc n) = read_at ys n

pub adds_is : (old new : List (Option ℕ)) (process : ProcessId) (number : ℕ) (now : Option ℕ) → process.0 < length old
    → now ≡ earlier (get_or old process.0 None) (Some number) → new ≡ slice_set old process.0 now
    → Adds old process number new
adds_is old new process number now within least set = record {
  within = within;
  now = set ∙ ap (λ x. slice_set old process.0 x)
      (least ∙ ap (λ x. earlier x (Some number)) (sym (read_at old process.0)));
}

-- ---- one instance more

numbers_push : (process : ProcessId) (living : List Identity) (who : Identity)
    → numbers_of process (living ++ who ∷ [])
    ≡ numbers_of process living ++ cond (nat_eq who.process.0 process.0) (who.pid ∷ []) []
numbers_push process living who =
    ap (λ (l : List Identity). map (λ (w : Identity). w.pid) l) (filter-append (is_instance_of process) living (who ∷ []))
    ∙ map-append (λ (w : Identity). w.pid) (filter (is_instance_of process) living)
    (filter (is_instance_of process) (who ∷ []))
    ∙ ap (λ l. numbers_of process living ++ l) (one (nat_eq who.process.0 process.0)) where
      one : (b : Bool) → map (λ (w : Identity). w.pid) (cond b (who ∷ []) []) ≡ cond b (who.pid ∷ []) []
      one true = refl
      one false = refl

pub least_add : (living : List Identity) (who : Identity) (old new : List (Option ℕ))
    → Adds old who.process who.pid new → HasLeast living old → HasLeast (living ++ who ∷ []) new
least_add living who old new adds has process =
    subst (λ numbers. IsLeast numbers (at new process.0)) (sym (numbers_push process living who))
    (by_test (nat_eq who.process.0 process.0) refl) where
      by_test : (b : Bool) → nat_eq who.process.0 process.0 ≡ b
          → IsLeast (numbers_of process living ++ cond b (who.pid ∷ []) []) (at new process.0)
      by_test true same =
          let is : who.process.0 ≡ process.0 = grind (arith, same) in
          let now : at new process.0 ≡ earlier (at old process.0) (Some who.pid) =
          ap (λ (l : List (Option ℕ)). at l process.0) adds.now
          ∙ ap (λ n. at (slice_set old who.process.0 (earlier (at old who.process.0) (Some who.pid))) n) (sym is)
          ∙ set_here old who.process.0 (earlier (at old who.process.0) (Some who.pid)) adds.within
          ∙ ap (λ n. earlier (at old n) (Some who.pid)) is in
          subst (λ least. IsLeast (numbers_of process living ++ who.pid ∷ []) least) (sym now)
          (least_push (numbers_of process living) (at old process.0) who.pid (has process))
      by_test false other =
          let apart : who.process.0 ≡ process.0 → ⊥ = λ same. grind (arith, same, other) in
          let now : at new process.0 ≡ at old process.0 =
          ap (λ (l : List (Option ℕ)). at l process.0) adds.now
          ∙ set_there old who.process.0 process.0 (earlier (at old who.process.0) (Some who.pid)) apart in
          subst (λ numbers. IsLeast numbers (at new process.0)) (sym (append-nil (numbers_of process living)))
          (subst (λ least. IsLeast (numbers_of process living) least) (sym now) (has process))

-- ---- nobody

nobody_push : (first : List (Option ℕ)) (n : ℕ) → at (first ++ None ∷ []) n ≡ at first n
nobody_push [] zero = refl
nobody_push [] (suc n) = refl
nobody_push (x ∷ xs) zero = refl
nobody_push (x ∷ xs) (suc n) = nobody_push xs n

pub none_push : (first : List (Option ℕ)) → HasLeast [] first → HasLeast [] (first ++ None ∷ [])
none_push first has process = subst (λ least. IsLeast [] least) (sym (nobody_push first process.0)) (has process)

pub none_first : HasLeast [] []
none_first process = refl
