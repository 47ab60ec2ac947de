-- What the environment sends and has put, line by line.
use Rattle.std.proofs.Common.{◌≡◌, ◌∙◌, ◌<◌, ◌≤◌, ◌+◌, ◌-◌, ap, append-nil, append_assoc, arith, drop, get_or, length, map, refl, subst, sym, take, ℕ, zero, suc, List, [], ◌∷◌, ◌++◌, None, Option, Some}
use Rattle.std.specs.Prelude.{option_to_list}
use Rattle.std.proofs.lemmas.List.{drop_all, drop_more, length-map}
use Rattle.port_model.specs.declared.values.item.SignalId.{SignalId}
use Rattle.port_model.specs.declared.values.pid.Pid.TheVariants.{Env, Of}
use Rattle.run_record.specs.Record.{RecordValue}
use Rattle.sdl_script.specs.declared.script.ScriptLine.{ScriptLine}
use Rattle.sdl_script.specs.declared.script.ScriptSignal.{ScriptSignal}
use Rattle.sdl_system.specs.declared.route.Target.{Target}
use Rattle.settle_checks.proofs.CrossedLemmas.{out_counts, same_less}
use Rattle.settle_checks.proofs.MatchLemmas.{heard_matched}
use Rattle.settle_checks.proofs.SendLemmas.{IsPutOf, put_of}
use Rattle.settle_checks.specs.Account.{HaveSignals}
use Rattle.settle_checks.specs.Crossed.{AreHeardAlone, IsFlowPut, IsHeardRest, IsSentBy, heard_passes}
use Rattle.settle_checks.specs.Outputs.{targets_of}
use Rattle.settle_meaning.specs.Order.{heard_from, times_heard}
use Rattle.settle_meaning.specs.OrderLaws.{AreTimesFrom, by_time}
use Rattle.settle_meaning.specs.Puts.{Heard, heard_by_one, signals_heard, signals_of}
use Rattle.settle_meaning.specs.Times.{Timed, last_of, times_of}
use Rattle.settle_checks.proofs.PassLemmas.{drop_rises, times_first}
use Rattle.settle_checks.specs.Covered.{AreInTurn}
use Rattle.settle_checks.specs.Crossings.{crossed, is_on}
use Rattle.settle_checks.specs.Flows.{passes_to}
use Rattle.settle_checks.specs.Summary.{AreSummaries}
use Rattle.settle_checks.specs.declared.summing.crossings.Crossing.{Crossing}
use Rattle.settle_checks.specs.declared.summing.flows.Pass.{Pass}
use Rattle.settle_checks.specs.declared.summing.summary.Summary.{Summary}
use Rattle.threads_ports.specs.Peers.{PeersState, put_to}

-- ---- no line is before an earlier one

-- a time less is before all of them too
less_times : (low at : ℕ) (times : List ℕ) → low ≤ at → AreTimesFrom at times → AreTimesFrom low times
less_times low at [] less are = tt
less_times low at (time ∷ rest) less are = (omega (arith, less, are.0), are.1)

pub turn_first : (lines : List ScriptLine) → AreTimesFrom 0 (times_heard (drop 0 lines))
    → AreTimesFrom 0 (times_heard lines)
turn_first lines are = are

one_line : (line : ScriptLine) (rest : List ScriptLine) (last : ℕ) (signal : Option ScriptSignal)
    → line.signal ≡ signal → last ≤ line.at → AreTimesFrom line.at (times_heard rest)
    → AreTimesFrom last (map (λ (s : ScriptSignal). line.at) (option_to_list signal) ++ times_heard rest)
one_line line rest last None is less are = less_times last line.at (times_heard rest) less are
one_line line rest last (Some signal) is less are = (less, are)

pub turn_more : (lines : List ScriptLine) (i : ℕ) (d : ScriptLine) (last : ℕ) → i < length lines
    → last ≤ (get_or lines i d).at
    → (AreTimesFrom last (times_heard (drop i lines)) → AreTimesFrom 0 (times_heard lines))
    → AreTimesFrom (get_or lines i d).at (times_heard (drop (i + 1) lines)) → AreTimesFrom 0 (times_heard lines)
turn_more lines i d last within less before are =
    before
    (subst (λ (l : List ScriptLine). AreTimesFrom last (times_heard l)) (sym (drop_more lines i d within))
    (one_line (get_or lines i d) (drop (i + 1) lines) last (get_or lines i d).signal refl less are))

pub turn_all : (lines : List ScriptLine) (i last : ℕ) → length lines ≤ i
    → (AreTimesFrom last (times_heard (drop i lines)) → AreTimesFrom 0 (times_heard lines))
    → AreTimesFrom 0 (times_heard lines)
turn_all lines i last past before =
    before (subst (λ (l : List ScriptLine). AreTimesFrom last (times_heard l)) (sym (drop_all i lines past)) tt)

-- so what it sends is in turn
heard_rises : (low : ℕ) (times : List ℕ) (heard : List Heard) (number : ℕ) (name : SignalId) → AreTimesFrom low times
    → AreTimesFrom low (times_of name (heard_from times heard number))
heard_rises low [] heard number name are = tt
heard_rises low (at ∷ times) [] number name are = tt
heard_rises low (at ∷ times) (one ∷ heard) number name are =
    times_first name low at (heard_by_one number one.signal one.target) (heard_from times heard number) are.0
    (heard_rises at times heard number name are.1)

heard_in_turn : (lines : List ScriptLine) (heard : List Heard) (number put : ℕ)
    → AreTimesFrom 0 (times_heard lines) → AreInTurn (last_of put (heard_from (times_heard lines) heard number))
heard_in_turn lines heard number put are name =
    drop_rises name 0 (length (heard_from (times_heard lines) heard number) - put)
    (heard_from (times_heard lines) heard number) (heard_rises 0 (times_heard lines) heard number name are)

-- ---- the signals of the lines

none_heard : (times : List ℕ) → heard_passes times [] ≡ []
none_heard [] = refl
none_heard (at ∷ times) = refl

pub heard_first : (lines : List ScriptLine) (heard : List Heard) → HaveSignals heard lines
    → IsHeardRest (drop 0 lines) heard (heard_passes (times_heard lines) heard) 0 []
heard_first lines heard have = record { signals = have; rest = refl }

pub heard_all : (lines : List ScriptLine) (i : ℕ) (heard : List Heard) (all : List Pass) (place : ℕ)
    (passes : List Pass) → length lines ≤ i → IsHeardRest (drop i lines) heard all place passes → passes ≡ all
heard_all lines i heard all place passes past is =
    sym (is.rest
    ∙ ap (λ (l : List ScriptLine). passes ++ heard_passes (times_heard l) (drop place heard)) (drop_all i lines past)
    ∙ append-nil passes)

-- a line that says no signal
module _ (line : ScriptLine) (rest : List ScriptLine) (heard : List Heard) (all : List Pass) (place : ℕ)
    (passes : List Pass) (is : IsHeardRest (line ∷ rest) heard all place passes) where
  times_none : line.signal ≡ None → times_heard (line ∷ rest) ≡ times_heard rest
  times_none none =
      ap (λ (o : Option ScriptSignal). map (λ (s : ScriptSignal). line.at) (option_to_list o) ++ times_heard rest) none

  times_some : (signal : ScriptSignal) → line.signal ≡ Some signal
      → times_heard (line ∷ rest) ≡ line.at ∷ times_heard rest
  times_some signal some =
      ap (λ (o : Option ScriptSignal). map (λ (s : ScriptSignal). line.at) (option_to_list o) ++ times_heard rest) some

  signals_none : (n : ℕ) → line.signal ≡ None → signals_heard (drop place heard) ≡ signals_of (take n (line ∷ rest))
      → HaveSignals (drop place heard) rest
  signals_none zero none same = (0, same)
  signals_none (suc n) none same =
      (n, same ∙ ap (λ (o : Option ScriptSignal). option_to_list o ++ signals_of (take n rest)) none)

  pub note_none : line.signal ≡ None → IsHeardRest rest heard all place passes
  note_none none = record {
    signals = signals_none is.signals.0 none is.signals.1;
    rest = is.rest ∙ ap (λ (t : List ℕ). passes ++ heard_passes t (drop place heard)) (times_none none);
  }

  -- all that was heard was looked at
  none_left : (targets : List Target) → targets_of heard ≡ targets → length targets ≤ place → drop place heard ≡ []
  none_left targets are past =
      let long = length-map heard (λ (one : Heard). one.target) in
      let same = ap (λ (l : List Target). length l) are in
      drop_all place heard (omega (arith, past, long, same))

  pub note_past : (targets : List Target) → targets_of heard ≡ targets → length targets ≤ place
      → IsHeardRest rest heard all place passes
  note_past targets are past =
      let none : drop place heard ≡ [] = none_left targets are past in
      record {
        signals = (0, ap signals_heard none);
        rest = is.rest
            ∙ ap (λ (l : List Heard). passes ++ heard_passes (times_heard (line ∷ rest)) l) none
            ∙ ap (λ (l : List Pass). passes ++ l) (none_heard (times_heard (line ∷ rest)) ∙ sym (none_heard (times_heard rest)))
            ∙ ap (λ (l : List Heard). passes ++ heard_passes (times_heard rest) l) (sym none);
      }

  -- the next signal that was heard is that of the line
  module _ (signal : ScriptSignal) (some : line.signal ≡ Some signal) (targets : List Target)
      (are : targets_of heard ≡ targets) (within : place < length targets) (d : Target) where
    inside : place < length heard
    inside =
        let long = length-map heard (λ (one : Heard). one.target) in
        let same = ap (λ (l : List Target). length l) are in
        omega (arith, within, long, same)

    abbrev no_heard : Heard
    no_heard = record { signal = signal; target = d }

    abbrev next : Heard
    next = get_or heard place no_heard

    split : drop place heard ≡ next ∷ drop (place + 1) heard
    split = drop_more heard place no_heard inside

    target_of : (hs : List Heard) (k : ℕ) → k < length hs
        → get_or (map (λ (one : Heard). one.target) hs) k d ≡ (get_or hs k no_heard).target
    target_of [] k k_within = let wrong : ⊥ = omega (arith, k_within) in absurd wrong
    target_of (h ∷ hs) zero k_within = refl
    target_of (h ∷ hs) (suc k) k_within = target_of hs k (omega (arith, k_within))

    target_is : (get_or targets place d) ≡ next.target
    target_is = ap (λ (l : List Target). get_or l place d) (sym are) ∙ target_of heard place inside

    head_is : {a b : ScriptSignal} {xs ys : List ScriptSignal} → a ∷ xs ≡ b ∷ ys → a ≡ b
    head_is e = cc

    tail_is : {a b : ScriptSignal} {xs ys : List ScriptSignal} → a ∷ xs ≡ b ∷ ys → xs ≡ ys
    tail_is e = cc

    both : (n : ℕ) → signals_heard (next ∷ drop (place + 1) heard) ≡ signals_of (take n (line ∷ rest))
        → (next.signal ≡ signal) × HaveSignals (drop (place + 1) heard) rest
    both zero same = let wrong : ⊥ = cc in absurd wrong
    both (suc n) same =
        let more : next.signal ∷ signals_heard (drop (place + 1) heard) ≡ signal ∷ signals_of (take n rest) =
        same ∙ ap (λ (o : Option ScriptSignal). option_to_list o ++ signals_of (take n rest)) some in
        (head_is more, (n, tail_is more))

    parts : (next.signal ≡ signal) × HaveSignals (drop (place + 1) heard) rest
    parts = both is.signals.0 (ap signals_heard (sym split) ∙ is.signals.1)

    abbrev more : List Pass
    more = passes_to line.at signal.item.name (get_or targets place d)

    noted : all ≡ (passes ++ more) ++ heard_passes (times_heard rest) (drop (place + 1) heard)
    noted =
        is.rest
        ∙ ap (λ (l : List Heard). passes ++ heard_passes (times_heard (line ∷ rest)) l) split
        ∙ ap (λ (t : List ℕ). passes ++ heard_passes t (next ∷ drop (place + 1) heard)) (times_some signal some)
        ∙ ap (λ (s : ScriptSignal). passes ++ (passes_to line.at s.item.name next.target
        ++ heard_passes (times_heard rest) (drop (place + 1) heard))) parts.0
        ∙ ap (λ (to : Target). passes ++ (passes_to line.at signal.item.name to
        ++ heard_passes (times_heard rest) (drop (place + 1) heard))) (sym target_is)
        ∙ sym (append_assoc passes more (heard_passes (times_heard rest) (drop (place + 1) heard)))

    -- it went to an instance, or not
    pub note_pass : (pass : Pass) (new : List Pass) → pass ∷ [] ≡ passes_to line.at signal.item.name (get_or targets place d)
        → new ≡ passes ++ pass ∷ [] → IsHeardRest rest heard all (place + 1) new
    note_pass pass new one pushed = record {
      signals = parts.1;
      rest = noted
          ∙ ap (λ (l : List Pass). l ++ heard_passes (times_heard rest) (drop (place + 1) heard))
          (ap (λ (l : List Pass). passes ++ l) (sym one) ∙ sym pushed);
    }

    pub note_other : [] ≡ passes_to line.at signal.item.name (get_or targets place d)
        → IsHeardRest rest heard all (place + 1) passes
    note_other none = record {
      signals = parts.1;
      rest = noted
          ∙ ap (λ (l : List Pass). l ++ heard_passes (times_heard rest) (drop (place + 1) heard))
          (ap (λ (l : List Pass). passes ++ l) (sym none) ∙ append-nil passes);
    }

-- ---- all of it is on its way, and nobody else's

pub heard_alone : (lines : List ScriptLine) (heard : List Heard) (records : List RecordValue) (sums : List Summary)
    (peers : PeersState) (passes : List Pass) (sent : List Crossing) → AreSummaries records sums
    → AreTimesFrom 0 (times_heard lines) → passes ≡ heard_passes (times_heard lines) heard
    → IsSentBy records sums Env passes peers [] sent → AreHeardAlone lines heard records peers sent
heard_alone lines heard records sums peers passes sent are in_turn passes_are is = record {
  heard_put = λ t c within.
      let to : RecordValue = get_or records t c in
      let signals : List Timed = heard_from (times_heard lines) heard to.pid in
      let put : ℕ = length (put_to peers to.pid) in
      let one : IsPutOf records to.pid signals put is.flows =
      put_of records sums are to.pid signals (heard_passes (times_heard lines) heard) put is.flows
      (heard_matched to.pid (times_heard lines) heard)
      (subst (λ (l : List Pass). IsFlowPut sums l to.pid put is.flows) passes_are (is.put t c within)) in
      record {
        missing = one.missing;
        in_turn = heard_in_turn lines heard to.pid put in_turn;
        sent = λ name until.
            same_less (crossed (is_on Env to.pid name until) sent) (by_time until (times_of name (last_of put signals)))
            (ap (crossed (is_on Env to.pid name until)) is.added
            ∙ out_counts Env Env to.pid name until is.flows ∙ one.sent name until);
      };
  no_other = λ number to name until.
      ap (crossed (is_on (Of number) to name until)) is.added
      ∙ out_counts (Of number) Env to name until is.flows;
}
