-- What the script sends to an instance, and what of that comes into its port.
use Rattle.std.proofs.Common.{◌≡◌, ◌∙◌, ◌⊎◌, ◌++◌, ◌+◌, ◌<◌, ◌≤◌, ap, append_assoc, arith, if◌then◌else◌, inl, inr, refl, sym, ℕ, Bool, All, List, [], ◌∷◌, None, Option, Some, nat_eq, subst, true, false}
use Rattle.std.proofs.lemmas.Bool.{cases_lt}
use Rattle.std.proofs.lemmas.List.Concat.{flat_map-append}
use Rattle.std.proofs.lemmas.List.Elements.{All-head, All-tail, Contains-append_left, Contains-append_right}
use Rattle.laws_whole.proofs.Cuts.{AreOrderly, IsOrderly}
use Rattle.laws_whole.proofs.Hearing.{SendsItsSignal, heard_from, heard_of, heard_of_one, line_effects}
use Rattle.laws_whole.proofs.Naming.{IsLineByPid}
use Rattle.laws_whole.proofs.Sending.{all_comes, given_more, not_there_is, sends_to}
use Rattle.port_model.specs.declared.values.item.Item.{Item}
use Rattle.port_model.specs.declared.values.pid.Pid.TheVariants as pid
use Rattle.port_model.specs.declared.values.pid.Pid.TheVariants.{Of}
use Rattle.run_semantics.specs.Effect.{Effect, effects_of}
use Rattle.sdl_script.specs.declared.script.ScriptLine.{ScriptLine}
use Rattle.sdl_script.specs.declared.script.ScriptSignal.{ScriptSignal}
use Rattle.sdl_system.specs.System.{SystemValue}
use Rattle.sdl_system.specs.declared.route.Dest.TheVariants as dest
use Rattle.sdl_system.specs.declared.route.Target.{Target}
use Rattle.sdl_system.specs.declared.route.Target.TheVariants as target
use Rattle.serial_order.specs.Execution.{Expired, Happening, Heard, Moved, Ticked}
use Rattle.serial_order.specs.Told as told
use Rattle.serial_order.specs.Told.{Moment, comes_by, given_after, moment_after, put_by, sends_from}
use Rattle.settle_meaning.specs.Puts as puts
use Rattle.settle_meaning.specs.Puts.{EndsWith, IsNamed, heard_by, heard_by_one}

eq_of : (m n : ℕ) → nat_eq m n ≡ true → m ≡ n
eq_of m n same = grind (arith, same)

module _ (n : ℕ) (first : 0 < n) where
  line_heard : (o : Option ScriptSignal) (to : Target)
      → sends_to n (line_effects o to) ≡ heard_by (heard_from o (line_effects o to)) n
  line_heard None to = refl
  line_heard (Some signal) (target.Instance number) = refl
  line_heard (Some signal) target.Env = refl
  line_heard (Some signal) target.Null = refl
  line_heard (Some signal) target.Nobody = refl

  one_heard : (line : ScriptLine) (effects : List Effect) → SendsItsSignal (Heard line effects)
      → sends_to n effects ≡ heard_by (heard_of_one (Heard line effects)) n
  one_heard line effects sends =
      ap (λ (l : List Effect). sends_to n l) sends.1
      ∙ line_heard line.signal sends.0
      ∙ ap (λ (l : List Effect). heard_by (heard_from line.signal l) n) (sym sends.1)

  heard-append : (one later : List puts.Heard) → heard_by (one ++ later) n ≡ heard_by one n ++ heard_by later n
  heard-append one later =
      flat_map-append (λ (heard : puts.Heard). heard_by_one n heard.signal heard.target) one later

  -- all comes where it is there
  pub env_there : (now : Moment) (happenings : List Happening) → All SendsItsSignal happenings → n < now.given + 1
      → sends_from pid.Env n now happenings ≡ heard_by (heard_of happenings) n
  env_there now [] all within = refl
  env_there now (Moved who deeds ∷ rest) all within =
      env_there (moment_after now (Moved who deeds)) rest (All-tail SendsItsSignal (Moved who deeds) rest all)
      (let kept : now.given ≤ given_after now.given (effects_of deeds) = given_more now.given (effects_of deeds) in
      omega (arith, within, kept))
  env_there now (Expired fuse ∷ rest) all within =
      env_there now rest (All-tail SendsItsSignal (Expired fuse) rest all) within
  env_there now (Heard line effects ∷ rest) all within =
      let next : Moment = moment_after now (Heard line effects) in
      let sends : SendsItsSignal (Heard line effects) = All-head SendsItsSignal (Heard line effects) rest all in
      let kept : now.given ≤ given_after now.given effects = given_more now.given effects in
      ap (λ (l : List Item). l ++ sends_from pid.Env n next rest)
      (all_comes n now effects first within ∙ one_heard line effects sends)
      ∙ ap (λ (l : List Item). heard_by (heard_of_one (Heard line effects)) n ++ l)
      (env_there next rest (All-tail SendsItsSignal (Heard line effects) rest all) (omega (arith, within, kept)))
      ∙ sym (heard-append (heard_of_one (Heard line effects)) (heard_of rest))
  env_there now (Ticked time ∷ rest) all within =
      env_there (moment_after now (Ticked time)) rest (All-tail SendsItsSignal (Ticked time) rest all) within

  -- nothing comes where it is not there yet
  none_comes : (now : Moment) → now.given < n → (o : Option ScriptSignal) (to : Target)
      → told.puts_of (comes_by n now (line_effects o to)) ≡ []
  none_comes now beyond None to = refl
  none_comes now beyond (Some signal) to =
      ap (λ (b : Bool). told.puts_of ((if b then put_by n to signal.item else []) ++ [])) (not_there_is n now beyond)

  -- what is missing of what the script sends: the first of it, and only where the script names the number
  pub record EnvEnd (now : Moment) (happenings : List Happening) : Type 0 where
    pub missing : List Item
    pub all : heard_by (heard_of happenings) n ≡ missing ++ sends_from pid.Env n now happenings
    pub named : (missing ≡ []) ⊎ IsNamed (heard_of happenings) n

  abbrev NoneOr : List puts.Heard → Type 0
  NoneOr heard = (heard_by heard n ≡ []) ⊎ IsNamed heard n

  line_none : (now : Moment) → now.given < n → (o : Option ScriptSignal) (to : Target) → IsLineByPid now.given o to
      → NoneOr (heard_from o (line_effects o to))
  line_none now beyond None to by_pid = inl refl
  line_none now beyond (Some signal) (target.Instance number) by_pid = by_test (nat_eq number n) refl where
    by_test : (b : Bool) → nat_eq number n ≡ b
        → NoneOr (record { signal = signal; target = target.Instance number } ∷ [])
    by_test true own =
        let same : number ≡ n = eq_of number n own in
        let one : puts.Heard = record { signal = signal; target = target.Instance number } in
        inr (record {
          one = one;
          among = (0, omega arith, refl);
          names = record {
            named = inl (by_pid (omega (arith, beyond, same)) ∙ ap (λ k. dest.Pid (Of k)) same);
          };
        })
    by_test false other = inl (ap (λ (b : Bool). (if b then signal.item ∷ [] else []) ++ []) other)
  line_none now beyond (Some signal) target.Env by_pid = inl refl
  line_none now beyond (Some signal) target.Null by_pid = inl refl
  line_none now beyond (Some signal) target.Nobody by_pid = inl refl

  module _ (system : SystemValue) (now : Moment) (line : ScriptLine) (effects : List Effect)
      (rest : List Happening) where
    abbrev behind : Moment
    behind = moment_after now (Heard line effects)

    abbrev first_heard : List puts.Heard
    first_heard = heard_of_one (Heard line effects)

    -- what is missing of both, where it is not there yet
    both_missing : told.puts_of (comes_by n now effects) ≡ [] → NoneOr first_heard → EnvEnd behind rest
        → EnvEnd now (Heard line effects ∷ rest)
    both_missing none here later = record {
      missing = heard_by first_heard n ++ later.missing;
      all = heard-append first_heard (heard_of rest)
          ∙ ap (λ (l : List Item). heard_by first_heard n ++ l) later.all
          ∙ sym (append_assoc (heard_by first_heard n) later.missing (sends_from pid.Env n behind rest))
          ∙ ap (λ (l : List Item). (heard_by first_heard n ++ later.missing) ++ (l ++ sends_from pid.Env n behind rest))
          (sym none);
      named = by_both here later.named;
    } where
      by_both : NoneOr first_heard → (later.missing ≡ []) ⊎ IsNamed (heard_of rest) n
          → (heard_by first_heard n ++ later.missing ≡ []) ⊎ IsNamed (first_heard ++ heard_of rest) n
      by_both (inl nothing) (inl more) =
          inl (ap (λ (l : List Item). l ++ later.missing) nothing ∙ more)
      by_both (inl nothing) (inr named) =
          inr (record {
            one = named.one;
            among = Contains-append_right first_heard (heard_of rest) named.one named.among;
            names = named.names;
          })
      by_both (inr named) more =
          inr (record {
            one = named.one;
            among = Contains-append_left first_heard (heard_of rest) named.one named.among;
            names = named.names;
          })

    line_end : IsOrderly system now (Heard line effects) → (now.given < n) ⊎ (n ≤ now.given)
        → (n < now.given + 1
        → sends_from pid.Env n now (Heard line effects ∷ rest) ≡ heard_by (heard_of (Heard line effects ∷ rest)) n)
        → EnvEnd behind rest → EnvEnd now (Heard line effects ∷ rest)
    line_end orderly (inl beyond) all later =
        both_missing
        (ap (λ (l : List Effect). told.puts_of (comes_by n now l)) orderly.1
        ∙ none_comes now beyond line.signal orderly.0)
        (subst (λ (l : List Effect). NoneOr (heard_from line.signal l)) (sym orderly.1)
        (line_none now beyond line.signal orderly.0 orderly.2)) later
    line_end orderly (inr within) all later =
        record { missing = []; all = sym (all (omega (arith, within))); named = inl refl }

  -- what comes is the end of what is sent
  pub env_end : (system : SystemValue) (now : Moment) (happenings : List Happening) → AreOrderly system now happenings
      → All SendsItsSignal happenings → EnvEnd now happenings
  env_end system now [] are all = record { missing = []; all = refl; named = inl refl }
  env_end system now (Moved who deeds ∷ rest) are all =
      let later : EnvEnd (moment_after now (Moved who deeds)) rest =
      env_end system (moment_after now (Moved who deeds)) rest are.1
      (All-tail SendsItsSignal (Moved who deeds) rest all) in
      record { missing = later.missing; all = later.all; named = later.named }
  env_end system now (Expired fuse ∷ rest) are all =
      let later : EnvEnd now rest =
      env_end system now rest are.1 (All-tail SendsItsSignal (Expired fuse) rest all) in
      record { missing = later.missing; all = later.all; named = later.named }
  env_end system now (Heard line effects ∷ rest) are all =
      line_end system now line effects rest are.0 (cases_lt now.given n)
      (λ within. env_there now (Heard line effects ∷ rest) all within)
      (env_end system (moment_after now (Heard line effects)) rest are.1
      (All-tail SendsItsSignal (Heard line effects) rest all))
  env_end system now (Ticked time ∷ rest) are all =
      let later : EnvEnd (moment_after now (Ticked time)) rest =
      env_end system (moment_after now (Ticked time)) rest are.1
      (All-tail SendsItsSignal (Ticked time) rest all) in
      record { missing = later.missing; all = later.all; named = later.named }
