-- What was sent and what was taken, by counts of signals that passed.
use Rattle.std.proofs.Common.{◌≡◌, ◌∙◌, ◌≤◌, ◌+◌, ◌-◌, ◌==◌, ◌&&◌, ◌++◌, ap, arith, cond, drop, length, refl, subst, sym, ℕ, zero, suc, Bool, true, false, List, [], ◌∷◌, count_by}
use Rattle.std.specs.Prelude.{filter, map, nat_le}
use Rattle.std.specs.List.{flat_map}
use Rattle.std.proofs.lemmas.List.{map-append}
use Rattle.std.proofs.lemmas.List.Elements.{filter-append}
use Rattle.std.proofs.lemmas.List.Sums.{sum_by-append, sum_by-cons}
use Rattle.port_model.specs.declared.got.Got as got
use Rattle.port_model.specs.declared.got.Got.TheVariants as came
use Rattle.port_model.specs.Same.{same_pid}
use Rattle.port_model.specs.declared.values.item.Item.{Item}
use Rattle.port_model.specs.declared.values.item.SignalId.{SignalId}
use Rattle.port_model.specs.declared.values.pid.Pid.{Pid}
use Rattle.port_model.specs.declared.values.pid.Pid.TheVariants.{Of}
use Rattle.run_record.specs.Event as event
use Rattle.run_record.specs.Event.{Event}
use Rattle.run_semantics.specs.Sent.{sent_by_one}
use Rattle.run_semantics.specs.World.{time_after_one}
use Rattle.sdl_system.specs.declared.route.Target.TheVariants as target
use Rattle.settle_meaning.specs.OrderLaws.{AreTimesFrom, CountsKeepOrder, by_time}
use Rattle.settle_meaning.specs.Times.{AreRisingFrom, Timed, got_at, of_sender, sends, sent_from, taken_by, takes, timed, times_of}
use Rattle.settle_checks.specs.Covered.{CoveredAreInOrder, SendsAreInTurn, is_by}
use Rattle.settle_checks.specs.Flows.{pass_of_got, passes_in, passes_out, sent_passes, taken_passes}
use Rattle.settle_checks.specs.declared.summing.flows.Pass.{Pass}

plus_zero : (n : ℕ) → n + 0 ≡ n
plus_zero n = omega arith

-- ---- counts

module _ (name : SignalId) (until : ℕ) where
  -- how many signals of the name are not later
  abbrev many : List Timed → ℕ
  many signals = by_time until (times_of name signals)

  abbrev named : Timed → Bool
  named one = one.item.name.0 == name.0

  pub many-append : (xs ys : List Timed) → many (xs ++ ys) ≡ many xs + many ys
  many-append xs ys =
      ap (λ (l : List Timed). by_time until (map (λ (one : Timed). one.at) l)) (filter-append named xs ys)
      ∙ ap (by_time until) (map-append (λ (one : Timed). one.at) (filter named xs) (filter named ys))
      ∙ sum_by-append (λ t. cond (nat_le t until) 1 0) (times_of name xs) (times_of name ys)

  -- one signal
  pub one_by : (at : ℕ) (one : Timed) (b : Bool) → one.at ≡ at
      → by_time until (map (λ (o : Timed). o.at) (cond b (one ∷ []) [])) ≡ cond (b && nat_le at until) 1 0
  one_by at one true is =
      sum_by-cons (λ t. cond (nat_le t until) 1 0) one.at [] ∙ plus_zero (cond (nat_le one.at until) 1 0)
      ∙ ap (λ t. cond (nat_le t until) 1 0) is
  one_by at one false is = refl

  many_one : (at : ℕ) (item : Item)
      → many (timed at (item ∷ [])) ≡ cond ((item.name.0 == name.0) && nat_le at until) 1 0
  many_one at item = one_by at (record { at = at; item = item }) (item.name.0 == name.0) refl

  module _ (peer : Pid) where
    abbrev P : Pass → Bool
    P pass = is_by peer name until pass

    count_one : (pass : Pass) → count_by P (pass ∷ []) ≡ cond (P pass) 1 0
    count_one pass = sum_by-cons (λ (p : Pass). cond (P p) 1 0) pass [] ∙ plus_zero (cond (P pass) 1 0)

    count-append : (xs ys : List Pass) → count_by P (xs ++ ys) ≡ count_by P xs + count_by P ys
    count-append xs ys = sum_by-append (λ (p : Pass). cond (P p) 1 0) xs ys

    -- one signal, of this peer or not
    if_of : (at : ℕ) (item : Item) (m : Bool)
        → many (timed at (cond m (item ∷ []) [])) ≡ cond (m && ((item.name.0 == name.0) && nat_le at until)) 1 0
    if_of at item true = many_one at item
    if_of at item false = refl

  -- ---- what was sent

  module _ (who number : ℕ) where
    out_one : (earlier : ℕ) (e : Event)
        → many (timed earlier (sent_by_one who number e)) ≡ count_by (P (Of number)) (passes_out earlier e)
    out_one earlier (event.Output signal to values (target.Instance n)) =
        if_of (Of number) earlier (record { name = signal; values = values; sender = Of who }) (n == number)
        ∙ sym (count_one (Of number) (record { peer = Of n; name = signal; at = earlier }))
    out_one earlier (event.Output signal to values target.Env) = refl
    out_one earlier (event.Output signal to values target.Null) = refl
    out_one earlier (event.Output signal to values target.Nobody) = refl
    out_one earlier e = refl

    pub sent_count : (earlier : ℕ) (events : List Event)
        → many (sent_from earlier who events number) ≡ count_by (P (Of number)) (sent_passes earlier events)
    sent_count earlier [] = refl
    sent_count earlier (e ∷ es) =
        many-append (timed earlier (sent_by_one who number e)) (sent_from (time_after_one earlier e) who es number)
        ∙ ap (λ n. n + many (sent_from (time_after_one earlier e) who es number)) (out_one earlier e)
        ∙ ap (λ n. count_by (P (Of number)) (passes_out earlier e) + n) (sent_count (time_after_one earlier e) es)
        ∙ sym (count-append (Of number) (passes_out earlier e) (sent_passes (time_after_one earlier e) es))

  -- ---- what was taken

  module _ (origin : Pid) where
    abbrev from : Timed → Bool
    from one = same_pid one.item.sender origin

    of_if : (at : ℕ) (item : Item) (m : Bool)
        → many (cond m (record { at = at; item = item } ∷ []) [])
        ≡ cond (m && ((item.name.0 == name.0) && nat_le at until)) 1 0
    of_if at item true = many_one at item
    of_if at item false = refl

    got_one : (at : ℕ) (g : got.Got)
        → many (of_sender origin (got_at at g)) ≡ count_by (P origin) (pass_of_got at g)
    got_one at (came.Signal item) =
        of_if at item (same_pid item.sender origin)
        ∙ sym (count_one origin (record { peer = item.sender; name = item.name; at = at }))
    got_one at (came.Timer key) = refl

    in_one : (e : Event) → many (of_sender origin (taken_by e)) ≡ count_by (P origin) (passes_in e)
    in_one (event.Consumed at g) = got_one at g
    in_one (event.Prior at g) = got_one at g
    in_one (event.Discarded at g) = got_one at g
    in_one e = refl

    pub taken_count : (events : List Event)
        → many (of_sender origin (flat_map taken_by events)) ≡ count_by (P origin) (taken_passes events)
    taken_count [] = refl
    taken_count (e ∷ es) =
        ap many (filter-append from (taken_by e) (flat_map taken_by es))
        ∙ many-append (of_sender origin (taken_by e)) (of_sender origin (flat_map taken_by es))
        ∙ ap (λ n. n + many (of_sender origin (flat_map taken_by es))) (in_one e)
        ∙ ap (λ n. count_by (P origin) (passes_in e) + n) (taken_count es)
        ∙ sym (count-append origin (passes_in e) (taken_passes es))

-- ---- times never fall

module _ (name : SignalId) where
  lower : (low at : ℕ) (times : List ℕ) → low ≤ at → AreTimesFrom at times → AreTimesFrom low times
  lower low at [] less are = tt
  lower low at (time ∷ rest) less are = (omega (arith, less, are.0), are.1)

  -- some signals of one time come first
  pub times_first : (low at : ℕ) (items : List Item) (rest : List Timed) → low ≤ at
      → AreTimesFrom at (times_of name rest) → AreTimesFrom low (times_of name (timed at items ++ rest))
  times_first low at [] rest less are = lower low at (times_of name rest) less are
  times_first low at (item ∷ items) rest less are =
      by_test (item.name.0 == name.0) (times_first at at items rest (omega arith) are)
      (times_first low at items rest less are) where
        by_test : (b : Bool) → AreTimesFrom at (times_of name (timed at items ++ rest))
            → AreTimesFrom low (times_of name (timed at items ++ rest))
            → AreTimesFrom low (map (λ (one : Timed). one.at)
            (cond b (record { at = at; item = item } ∷ filter (λ (one : Timed). one.item.name.0 == name.0)
            (timed at items ++ rest)) (filter (λ (one : Timed). one.item.name.0 == name.0) (timed at items ++ rest))))
        by_test true all others = (less, all)
        by_test false all others = others

  sent_rises : (low earlier who number : ℕ) (events : List Event) → low ≤ earlier → AreRisingFrom earlier events
      → AreTimesFrom low (times_of name (sent_from earlier who events number))
  sent_rises low earlier who number [] less rising = tt
  sent_rises low earlier who number (e ∷ es) less rising =
      times_first low earlier (sent_by_one who number e) (sent_from (time_after_one earlier e) who es number) less
      (sent_rises earlier (time_after_one earlier e) who number es rising.0 rising.1)

  module _ (origin : Pid) where
    -- one signal that is taken comes first
    taken_first : (low at : ℕ) (item : Item) (rest : List Timed) → low ≤ at
        → AreTimesFrom at (times_of name (of_sender origin rest))
        → AreTimesFrom low (times_of name (of_sender origin (timed at (item ∷ []) ++ rest)))
    taken_first low at item rest less are = by_sender (same_pid item.sender origin) where
      by_sender : (m : Bool)
          → AreTimesFrom low (times_of name (cond m (record { at = at; item = item } ∷ of_sender origin rest)
          (of_sender origin rest)))
      by_sender true = times_first low at (item ∷ []) (of_sender origin rest) less are
      by_sender false = lower low at (times_of name (of_sender origin rest)) less are

    got_first : (low at : ℕ) (g : got.Got) (rest : List Timed) → low ≤ at
        → AreTimesFrom at (times_of name (of_sender origin rest))
        → AreTimesFrom low (times_of name (of_sender origin (got_at at g ++ rest)))
    got_first low at (came.Signal item) rest less are = taken_first low at item rest less are
    got_first low at (came.Timer key) rest less are =
        lower low at (times_of name (of_sender origin rest)) less are

    -- what an event takes, it takes at its time
    took_first : (low : ℕ) (e : Event) (rest : List Timed) → low ≤ time_after_one low e
        → AreTimesFrom (time_after_one low e) (times_of name (of_sender origin rest))
        → AreTimesFrom low (times_of name (of_sender origin (taken_by e ++ rest)))
    took_first low (event.Consumed at g) rest less are = got_first low at g rest less are
    took_first low (event.Prior at g) rest less are = got_first low at g rest less are
    took_first low (event.Discarded at g) rest less are = got_first low at g rest less are
    took_first low e rest less are =
        lower low (time_after_one low e) (times_of name (of_sender origin rest)) less are

    taken_rises : (earlier : ℕ) (events : List Event) → AreRisingFrom earlier events
        → AreTimesFrom earlier (times_of name (of_sender origin (flat_map taken_by events)))
    taken_rises earlier [] rising = tt
    taken_rises earlier (e ∷ es) rising =
        took_first earlier e (flat_map taken_by es) rising.0 (taken_rises (time_after_one earlier e) es rising.1)

-- ---- what is left of what was sent

-- the last of signals in turn are in turn
pub drop_rises : (name : SignalId) (low m : ℕ) (signals : List Timed) → AreTimesFrom low (times_of name signals)
    → AreTimesFrom low (times_of name (drop m signals))
drop_rises name low zero signals are = are
drop_rises name low (suc m) [] are = are
drop_rises name low (suc m) (one ∷ rest) are =
    drop_rises name low m rest (tail_rises (one.item.name.0 == name.0) are) where
      tail_rises : (b : Bool)
          → AreTimesFrom low (map (λ (o : Timed). o.at)
          (cond b (one ∷ filter (λ (o : Timed). o.item.name.0 == name.0) rest)
          (filter (λ (o : Timed). o.item.name.0 == name.0) rest)))
          → AreTimesFrom low (times_of name rest)
      tail_rises true all = lower name low one.at (times_of name rest) all.0 all.1
      tail_rises false all = all

pub sends_are_in_turn : SendsAreInTurn
sends_are_in_turn from number put rises name =
    drop_rises name 0 (length (sends from number) - put) (sends from number)
    (sent_rises name 0 0 from.pid number from.events (omega arith) rises)

-- ---- the law

pub covered_are_in_order : CountsKeepOrder → CoveredAreInOrder
covered_are_in_order keep signals to origin in_turn rises fewer name =
    keep (times_of name signals) (times_of name (of_sender origin (takes to))) (in_turn name)
    (taken_rises name origin 0 to.events rises)
    (λ until.
    subst (λ n. n ≤ by_time until (times_of name signals)) (sym (taken_count name until origin to.events))
    (fewer name until))
