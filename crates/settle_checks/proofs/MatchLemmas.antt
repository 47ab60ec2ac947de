-- What is sent to an instance, told by signals and by what passes.
use Rattle.std.proofs.Common.{◌≡◌, ◌∙◌, ◌≤◌, ◌+◌, ◌==◌, ◌&&◌, ap, cond, drop, length, refl, subst, sym, take, ℕ, zero, suc, Bool, true, false, List, [], ◌∷◌, ◌++◌, All, count_by}
use Rattle.std.specs.Prelude.{nat_le}
use Rattle.std.specs.List.{AllZip}
use Rattle.std.proofs.lemmas.List.Elements.{All-cons, All-head, All-nil, All-tail, filter-append}
use Rattle.std.proofs.lemmas.List.Sums.{sum_by-cons}
use Rattle.port_model.specs.declared.values.item.Item.{Item}
use Rattle.port_model.specs.declared.values.item.SignalId.{SignalId}
use Rattle.port_model.specs.declared.values.pid.Pid.TheVariants.{Of}
use Rattle.run_record.specs.Event as event
use Rattle.run_record.specs.Event.{Event}
use Rattle.run_record.specs.Record.{RecordValue}
use Rattle.run_semantics.specs.Sent.{sent_by_one}
use Rattle.run_semantics.specs.World.{time_after_one}
use Rattle.sdl_script.specs.declared.script.ScriptSignal.{ScriptSignal}
use Rattle.sdl_system.specs.declared.route.Target.{Target}
use Rattle.sdl_system.specs.declared.route.Target.TheVariants as target
use Rattle.settle_checks.specs.Crossed.{heard_passes}
use Rattle.settle_meaning.specs.Order.{heard_from}
use Rattle.settle_meaning.specs.OrderLaws.{by_time}
use Rattle.settle_meaning.specs.Puts.{Heard, heard_by_one}
use Rattle.settle_meaning.specs.Times.{Timed, sends, sent_from, timed, times_of}
use Rattle.settle_checks.proofs.PassLemmas.{many-append, one_by}
use Rattle.settle_checks.specs.Covered.{is_by}
use Rattle.settle_checks.specs.Flows.{is_with, passes_out, passes_to, sent_passes}
use Rattle.settle_checks.specs.Late.{passes_with}
use Rattle.settle_checks.specs.declared.summing.flows.Pass.{Pass}

-- the signal to the number is the one that passes
pub record Matches (number : ℕ) (one : Timed) (pass : Pass) : Type 0 where
  pub to_it : is_with number pass ≡ true
  pub at : one.at ≡ pass.at
  pub name : one.item.name.0 ≡ pass.name.0

abbrev pub AreMatched : ℕ → List Timed → List Pass → Type 0
AreMatched number signals passes = AllZip (Matches number) signals (passes_with number passes)

-- ---- two lists

module _ {X Y : Type 0} (R : X → Y → Type 0) where
  pub zip_append : (xs us : List X) (ys vs : List Y) → AllZip R xs ys → AllZip R us vs
      → AllZip R (xs ++ us) (ys ++ vs)
  zip_append [] us [] vs first second = second
  zip_append [] us (y ∷ ys) vs first second = absurd first
  zip_append (x ∷ xs) us [] vs first second = absurd first
  zip_append (x ∷ xs) us (y ∷ ys) vs first second = (first.0, zip_append xs us ys vs first.1 second)

  pub zip_drop : (n : ℕ) (xs : List X) (ys : List Y) → AllZip R xs ys → AllZip R (drop n xs) (drop n ys)
  zip_drop zero xs ys zip = zip
  zip_drop (suc n) [] [] zip = tt
  zip_drop (suc n) [] (y ∷ ys) zip = absurd zip
  zip_drop (suc n) (x ∷ xs) [] zip = absurd zip
  zip_drop (suc n) (x ∷ xs) (y ∷ ys) zip = zip_drop n xs ys zip.1

  pub zip_take : (n : ℕ) (xs : List X) (ys : List Y) → AllZip R xs ys → AllZip R (take n xs) (take n ys)
  zip_take zero xs ys zip = tt
  zip_take (suc n) [] [] zip = tt
  zip_take (suc n) [] (y ∷ ys) zip = absurd zip
  zip_take (suc n) (x ∷ xs) [] zip = absurd zip
  zip_take (suc n) (x ∷ xs) (y ∷ ys) zip = (zip.0, zip_take n xs ys zip.1)

  pub zip_long : (xs : List X) (ys : List Y) → AllZip R xs ys → length xs ≡ length ys
  zip_long [] [] zip = refl
  zip_long [] (y ∷ ys) zip = absurd zip
  zip_long (x ∷ xs) [] zip = absurd zip
  zip_long (x ∷ xs) (y ∷ ys) zip = ap suc (zip_long xs ys zip.1)

-- ---- counts and times

module _ (number : ℕ) where
  pub matched_early : (born : ℕ) (signals : List Timed) (passes : List Pass)
      → AllZip (Matches number) signals passes → All (λ (pass : Pass). pass.at ≤ born) passes
      → All (λ (one : Timed). one.at ≤ born) signals
  matched_early born [] [] zip early = All-nil (λ (one : Timed). one.at ≤ born)
  matched_early born [] (pass ∷ passes) zip early = absurd zip
  matched_early born (one ∷ signals) [] zip early = absurd zip
  matched_early born (one ∷ signals) (pass ∷ passes) zip early =
      All-cons (λ (o : Timed). o.at ≤ born) one signals
      (subst (λ t. t ≤ born) (sym zip.0.at) (All-head (λ (p : Pass). p.at ≤ born) pass passes early))
      (matched_early born signals passes zip.1 (All-tail (λ (p : Pass). p.at ≤ born) pass passes early))

  module _ (name : SignalId) (until : ℕ) where
    abbrev by : Pass → Bool
    by pass = is_by (Of number) name until pass

    one_same : (one : Timed) (pass : Pass) → Matches number one pass
        → by_time until (times_of name (one ∷ [])) ≡ cond (by pass) 1 0
    one_same one pass is =
        one_by name until one.at one (one.item.name.0 == name.0) refl
        ∙ ap (λ n. cond ((n == name.0) && nat_le one.at until) 1 0) is.name
        ∙ ap (λ t. cond ((pass.name.0 == name.0) && nat_le t until) 1 0) is.at
        ∙ ap (λ (b : Bool). cond (b && ((pass.name.0 == name.0) && nat_le pass.at until)) 1 0) (sym is.to_it)

    pub matched_count : (signals : List Timed) (passes : List Pass) → AllZip (Matches number) signals passes
        → by_time until (times_of name signals) ≡ count_by by passes
    matched_count [] [] zip = refl
    matched_count [] (pass ∷ passes) zip = absurd zip
    matched_count (one ∷ signals) [] zip = absurd zip
    matched_count (one ∷ signals) (pass ∷ passes) zip =
        many-append name until (one ∷ []) signals
        ∙ ap (λ n. n + by_time until (times_of name signals)) (one_same one pass zip.0)
        ∙ ap (λ n. cond (by pass) 1 0 + n) (matched_count signals passes zip.1)
        ∙ sym (sum_by-cons (λ (p : Pass). cond (by p) 1 0) pass passes)

-- ---- one signal

no_truth : false ≡ true → ⊥
no_truth e = cc

-- a signal goes to the number or elsewhere
module _ (number at n : ℕ) (item : Item) where
  abbrev here : Pass
  here = record { peer = Of n; name = item.name; at = at }

  if_same : (b : Bool) → (n == number) ≡ b
      → AllZip (Matches number) (timed at (cond b (item ∷ []) [])) (cond b (here ∷ []) [])
  if_same true is = (record { to_it = is; at = refl; name = refl }, tt)
  if_same false is = tt

-- ---- records

module _ (who number : ℕ) where
  out_matched : (earlier : ℕ) (e : Event)
      → AreMatched number (timed earlier (sent_by_one who number e)) (passes_out earlier e)
  out_matched earlier (event.Output signal to values (target.Instance n)) =
      if_same number earlier n (record { name = signal; values = values; sender = Of who }) (n == number) refl
  out_matched earlier (event.Output signal to values target.Env) = tt
  out_matched earlier (event.Output signal to values target.Null) = tt
  out_matched earlier (event.Output signal to values target.Nobody) = tt
  out_matched earlier e = tt

  from_matched : (earlier : ℕ) (events : List Event)
      → AreMatched number (sent_from earlier who events number) (sent_passes earlier events)
  from_matched earlier [] = tt
  from_matched earlier (e ∷ es) =
      subst (λ (l : List Pass). AllZip (Matches number) (sent_from earlier who (e ∷ es) number) l)
      (sym (filter-append (is_with number) (passes_out earlier e) (sent_passes (time_after_one earlier e) es)))
      (zip_append (Matches number) (timed earlier (sent_by_one who number e))
      (sent_from (time_after_one earlier e) who es number) (passes_with number (passes_out earlier e))
      (passes_with number (sent_passes (time_after_one earlier e) es)) (out_matched earlier e)
      (from_matched (time_after_one earlier e) es))

pub sends_matched : (trace : RecordValue) (number : ℕ)
    → AreMatched number (sends trace number) (sent_passes 0 trace.events)
sends_matched trace number = from_matched trace.pid number 0 trace.events

-- ---- the environment

module _ (number : ℕ) where
  target_matched : (at : ℕ) (signal : ScriptSignal) (to : Target)
      → AreMatched number (timed at (heard_by_one number signal to)) (passes_to at signal.item.name to)
  target_matched at signal (target.Instance n) = if_same number at n signal.item (n == number) refl
  target_matched at signal target.Env = tt
  target_matched at signal target.Null = tt
  target_matched at signal target.Nobody = tt

  pub heard_matched : (times : List ℕ) (heard : List Heard)
      → AreMatched number (heard_from times heard number) (heard_passes times heard)
  heard_matched [] heard = tt
  heard_matched (at ∷ times) [] = tt
  heard_matched (at ∷ times) (one ∷ heard) =
      subst (λ (l : List Pass). AllZip (Matches number) (heard_from (at ∷ times) (one ∷ heard) number) l)
      (sym (filter-append (is_with number) (passes_to at one.signal.item.name one.target) (heard_passes times heard)))
      (zip_append (Matches number) (timed at (heard_by_one number one.signal one.target))
      (heard_from times heard number) (passes_with number (passes_to at one.signal.item.name one.target))
      (passes_with number (heard_passes times heard)) (target_matched at one.signal one.target)
      (heard_matched times heard))
