-- How many signals are sent to each instance, as one event more is noted.
use Rattle.std.proofs.Common.{◌≡◌, ◌∙◌, ◌⊎◌, ◌<◌, ◌≤◌, ◌+◌, ap, append-nil, arith, cond, drop, get_or, inl, inr, length, nat_eq, nat_lt, refl, take, subst, sym, ⊎_elim, ℕ, zero, suc, Bool, true, false, List, [], ◌∷◌, ◌++◌, Option, None, Some}
use Rattle.std.specs.Prelude.{IfSome, IsSomeAnd, is_some, map, slice_set}
use Rattle.std.proofs.lemmas.Grind.{flat_map-append}
use Rattle.std.specs.Option.{option_map}
use Rattle.std.proofs.lemmas.Bool.{cases_eq}
use Rattle.std.proofs.lemmas.List.{drop_all, length-append, map-append, take_all}
use Rattle.port_model.specs.declared.values.item.Item.{Item}
use Rattle.port_model.specs.declared.values.pid.Pid.TheVariants.{Of}
use Rattle.run_record.specs.Event as event
use Rattle.run_record.specs.Event.{Event}
use Rattle.run_record.specs.Record.{RecordValue}
use Rattle.run_semantics.specs.Sent.{sent_by_one, sent_to}
use Rattle.sdl_system.specs.declared.id.ProcessId.{ProcessId}
use Rattle.sdl_system.specs.declared.route.Target.TheVariants as target
use Rattle.settle_checks.specs.Outputs.{AreTallied, EnoughIsPut, IsEnough, IsTallied, no_tally, outline_in, sends_one, sends_to}
use Rattle.settle_checks.specs.declared.outputs.Outline.{Outline}
use Rattle.settle_checks.specs.declared.outputs.Outline.TheVariants.{Creates, Other, Sends}
use Rattle.settle_checks.specs.declared.outputs.Tally.{Tally}
use Rattle.settle_meaning.specs.Puts.{EndsWith, IsNamed, MayMiss}

-- ---- lists

-- in a list with one item more this stands at its end, or in the list
record StandsIn {X : Type 0} (xs : List X) (last x : X) (before later : List X) : Type 0 where
  rest : List X
  later_is : later ≡ rest ++ last ∷ []
  stands : xs ≡ before ++ x ∷ rest

module _ {X : Type 0} (last x : X) where
  not_empty : (before later : List X) → before ++ x ∷ later ≡ [] → ⊥
  not_empty [] later is = cc
  not_empty (b ∷ bs) later is = cc

  same_tail : {a b : X} {xs ys : List X} → a ∷ xs ≡ b ∷ ys → xs ≡ ys
  same_tail e = cc

  same_head : {a b : X} {xs ys : List X} → a ∷ xs ≡ b ∷ ys → a ≡ b
  same_head e = cc

  last_or : (xs before later : List X) → xs ++ last ∷ [] ≡ before ++ x ∷ later
      → ((later ≡ []) × (last ≡ x)) ⊎ StandsIn xs last x before later
  last_or [] [] later is = inl (sym (same_tail is), same_head is)
  last_or [] (b ∷ bs) later is = absurd (not_empty bs later (sym (same_tail is)))
  last_or (v ∷ vs) [] later is = inr (record {
    rest = vs;
    later_is = sym (same_tail is);
    stands = ap (λ y. y ∷ vs) (same_head is);
  })
  last_or (v ∷ vs) (b ∷ bs) later is =
      ⊎_elim (λ (end : (later ≡ []) × (last ≡ x)). inl end)
      (λ (stands : StandsIn vs last x bs later).
      inr (record {
        rest = stands.rest;
        later_is = stands.later_is;
        stands = ap (λ y. y ∷ vs) (same_head is) ∙ ap (λ l. b ∷ l) stands.stands;
      }))
      (last_or vs bs later (same_tail is))

-- ---- how many are sent

sends_to-append : (n : ℕ) (first later : List Outline) → sends_to n (first ++ later) ≡ sends_to n first + sends_to n later
sends_to-append n [] later = omega arith
sends_to-append n (o ∷ rest) later =
    ap (λ k. sends_one n o + k) (sends_to-append n rest later) ∙ omega arith

sends_to-more : (n : ℕ) (outlines : List Outline) (o : Outline) (count : ℕ) → sends_one n o ≡ count
    → sends_to n (outlines ++ o ∷ []) ≡ sends_to n outlines + count
sends_to-more n outlines o count is =
    sends_to-append n outlines (o ∷ []) ∙ ap (λ k. sends_to n outlines + (k + 0)) is ∙ omega arith

-- ---- one tally

module _ (outlines : List Outline) (n : ℕ) (old new : Tally) (is : IsTallied outlines n old) where
  -- an event that neither sends to the instance nor creates it
  tallied_same : (o : Outline) → new ≡ old → sends_one n o ≡ 0 → (o ≡ Creates n → ⊥)
      → IsTallied (outlines ++ o ∷ []) n new
  tallied_same o same none apart = record {
    all = ap (λ (t : Tally). t.all) same ∙ is.all ∙ sym (sends_to-more n outlines o 0 none ∙ omega arith);
    since = λ before later split.
        ⊎_elim (λ (end : (later ≡ []) × (o ≡ Creates n)). absurd (apart end.1))
        (λ (stands : StandsIn outlines o (Creates n) before later).
        let few : sends_to n later ≡ sends_to n stands.rest =
        ap (sends_to n) stands.later_is ∙ sends_to-more n stands.rest o 0 none ∙ omega arith in
        subst (λ (t : Tally). IsSomeAnd t.since (λ count. sends_to n later ≤ count)) (sym same)
        (subst (λ k. IsSomeAnd old.since (λ count. k ≤ count)) (sym few)
        (is.since before stands.rest stands.stands)))
        (last_or o (Creates n) outlines before later split);
  }

  -- one signal more
  one_since : (old_since new_since : Option ℕ) (k : ℕ) → new_since ≡ option_map (λ count. count + 1) old_since
      → IsSomeAnd old_since (λ count. k ≤ count) → IsSomeAnd new_since (λ count. k + 1 ≤ count)
  one_since None new_since k more some = absurd some
  one_since (Some count) new_since k more some =
      subst (λ o. IsSomeAnd o (λ count. k + 1 ≤ count)) (sym more) (omega (arith, some))

  tallied_output : new.all ≡ old.all + 1 → new.since ≡ option_map (λ count. count + 1) old.since
      → IsTallied (outlines ++ Sends n ∷ []) n new
  tallied_output all since =
      let one : sends_one n (Sends n) ≡ 1 = ap (λ b. cond b 1 0) (self n) in
      record {
        all = all ∙ ap (λ k. k + 1) is.all ∙ sym (sends_to-more n outlines (Sends n) 1 one);
        since = λ before later split.
            ⊎_elim (λ (end : (later ≡ []) × (Sends n ≡ Creates n)). let wrong : ⊥ = other end.1 in absurd wrong)
            (λ (stands : StandsIn outlines (Sends n) (Creates n) before later).
            let more : sends_to n later ≡ sends_to n stands.rest + 1 =
            ap (sends_to n) stands.later_is ∙ sends_to-more n stands.rest (Sends n) 1 one in
            subst (λ k. IsSomeAnd new.since (λ count. k ≤ count)) (sym more)
            (one_since old.since new.since (sends_to n stands.rest) since (is.since before stands.rest stands.stands)))
            (last_or (Sends n) (Creates n) outlines before later split);
      } where
        self : (n : ℕ) → nat_eq n n ≡ true
        self n = grind arith

        other : {a b : ℕ} → Sends a ≡ Creates b → ⊥
        other e = cc

  -- the instance is created, for the first time or not
  tallied_create : new.all ≡ old.all → ((old.since ≡ None) × (new.since ≡ Some 0)) ⊎ (new.since ≡ old.since)
      → ((k : ℕ) → IsSomeAnd new.since (λ count. 0 ≤ count))
      → IsTallied (outlines ++ Creates n ∷ []) n new
  tallied_create all since some = record {
    all = all ∙ is.all ∙ sym (sends_to-more n outlines (Creates n) 0 refl ∙ omega arith);
    since = λ before later split.
        ⊎_elim
        (λ (end : (later ≡ []) × (Creates n ≡ Creates n)).
        subst (λ l. IsSomeAnd new.since (λ count. sends_to n l ≤ count)) (sym end.0) (some 0))
        (λ (stands : StandsIn outlines (Creates n) (Creates n) before later).
        let few : sends_to n later ≡ sends_to n stands.rest =
        ap (sends_to n) stands.later_is ∙ sends_to-more n stands.rest (Creates n) 0 refl ∙ omega arith in
        subst (λ k. IsSomeAnd new.since (λ count. k ≤ count)) (sym few)
        (⊎_elim
        (λ (first : (old.since ≡ None) × (new.since ≡ Some 0)).
        absurd (subst (λ o. IsSomeAnd o (λ count. sends_to n stands.rest ≤ count)) first.0
        (is.since before stands.rest stands.stands)))
        (λ (same : new.since ≡ old.since).
        subst (λ o. IsSomeAnd o (λ count. sends_to n stands.rest ≤ count)) (sym same)
        (is.since before stands.rest stands.stands))
        since))
        (last_or (Creates n) (Creates n) outlines before later split);
  }

-- ---- a row

set_same : (row : List Tally) (k : ℕ) (t : Tally) → k < length row → get_or (slice_set row k t) k no_tally ≡ t
set_same [] k t within = let wrong : ⊥ = omega (arith, within) in absurd wrong
set_same (x ∷ xs) zero t within = refl
set_same (x ∷ xs) (suc k) t within = set_same xs k t (omega (arith, within))

set_other : (row : List Tally) (k n : ℕ) (t : Tally) → (n ≡ k → ⊥)
    → get_or (slice_set row k t) n no_tally ≡ get_or row n no_tally
set_other [] k n t apart = refl
set_other (x ∷ xs) zero zero t apart = absurd (apart refl)
set_other (x ∷ xs) zero (suc n) t apart = refl
set_other (x ∷ xs) (suc k) zero t apart = refl
set_other (x ∷ xs) (suc k) (suc n) t apart = set_other xs k n t (λ same. apart (ap suc same))

length_set : (row : List Tally) (k : ℕ) (t : Tally) → length (slice_set row k t) ≡ length row
length_set [] k t = refl
length_set (x ∷ xs) zero t = refl
length_set (x ∷ xs) (suc k) t = ap suc (length_set xs k t)

module _ (outlines : List Outline) (row : List Tally) (are : AreTallied outlines row) where
  -- an event that concerns no number in the row
  pub row_same : (o : Outline) → ((n : ℕ) → n < length row → (sends_one n o ≡ 0) × (o ≡ Creates n → ⊥))
      → AreTallied (outlines ++ o ∷ []) row
  row_same o apart n within =
      tallied_same outlines n (get_or row n no_tally) (get_or row n no_tally) (are n within) o refl (apart n within).0
      (apart n within).1

  -- an event that concerns one of them
  pub row_set : (o : Outline) (k : ℕ) (t : Tally) → k < length row
      → ((n : ℕ) → (n ≡ k → ⊥) → (sends_one n o ≡ 0) × (o ≡ Creates n → ⊥))
      → IsTallied (outlines ++ o ∷ []) k t → AreTallied (outlines ++ o ∷ []) (slice_set row k t)
  row_set o k t there apart is n within =
      ⊎_elim
      (λ (same : n ≡ k).
      subst (λ m. IsTallied (outlines ++ o ∷ []) m (get_or (slice_set row k t) m no_tally)) (sym same)
      (subst (λ v. IsTallied (outlines ++ o ∷ []) k v) (sym (set_same row k t there)) is))
      (λ (other : n ≡ k → ⊥).
      let long : n < length row = subst (λ m. n < m) (length_set row k t) within in
      tallied_same outlines n (get_or row n no_tally) (get_or (slice_set row k t) n no_tally) (are n long) o
      (set_other row k n t other) (apart n other).0 (apart n other).1)
      (cases_eq n k)

sends_apart : (k n : ℕ) → (n ≡ k → ⊥) → (sends_one n (Sends k) ≡ 0) × (Sends k ≡ Creates n → ⊥)
sends_apart k n apart =
    (ap (λ b. cond b 1 0) (differ k n apart), λ same. let wrong : ⊥ = cc in wrong) where
      differ : (k n : ℕ) → (n ≡ k → ⊥) → nat_eq k n ≡ false
      differ k n apart = grind (arith, apart)

same_created : {a b : ℕ} → Creates a ≡ Creates b → a ≡ b
same_created e = cc

creates_apart : (k n : ℕ) → (n ≡ k → ⊥) → (sends_one n (Creates k) ≡ 0) × (Creates k ≡ Creates n → ⊥)
creates_apart k n apart = (refl, λ same. apart (sym (same_created same)))

past_row : (k n long : ℕ) → long ≤ k → n < long → n ≡ k → ⊥
past_row k n long past within same = omega (arith, past, within, same)

some_of : (o : Option ℕ) → is_some o ≡ true → (count : ℕ) × (o ≡ Some count)
some_of None is = let wrong : ⊥ = cc in absurd wrong
some_of (Some count) is = (count, refl)

module _ (outlines : List Outline) (old : List Tally) (k : ℕ) (are : AreTallied outlines old) where
  -- an output, to a number in the row or to none
  pub output_past : length old ≤ k → AreTallied (outlines ++ Sends k ∷ []) old
  output_past past =
      row_same outlines old are (Sends k) (λ n within. sends_apart k n (past_row k n (length old) past within))

  pub output_noted : (before t : Tally) (new : List Tally) → k < length old → before ≡ get_or old k no_tally
      → t.all ≡ before.all + 1 → t.since ≡ option_map (λ count. count + 1) before.since → new ≡ slice_set old k t
      → AreTallied (outlines ++ Sends k ∷ []) new
  output_noted before t new within is all since set =
      subst (AreTallied (outlines ++ Sends k ∷ [])) (sym set)
      (row_set outlines old are (Sends k) k t within (sends_apart k)
      (tallied_output outlines k before t
      (subst (IsTallied outlines k) (sym is) (are k within)) all since))

  pub create_past : length old ≤ k → AreTallied (outlines ++ Creates k ∷ []) old
  create_past past =
      row_same outlines old are (Creates k) (λ n within. creates_apart k n (past_row k n (length old) past within))

  pub create_noted : (before t : Tally) (new : List Tally) → k < length old → before ≡ get_or old k no_tally
      → t.all ≡ before.all → before.since ≡ None → t.since ≡ Some 0 → new ≡ slice_set old k t
      → AreTallied (outlines ++ Creates k ∷ []) new
  create_noted before t new within is all none first set =
      subst (AreTallied (outlines ++ Creates k ∷ [])) (sym set)
      (row_set outlines old are (Creates k) k t within (creates_apart k)
      (tallied_create outlines k before t (subst (IsTallied outlines k) (sym is) (are k within)) all (inl (none, first))
      (λ m. subst (λ o. IsSomeAnd o (λ count. 0 ≤ count)) (sym first) (omega arith))))

  -- it was created before
  pub create_again : (before : Tally) (count : ℕ) → k < length old → before ≡ get_or old k no_tally
      → before.since ≡ Some count → AreTallied (outlines ++ Creates k ∷ []) old
  create_again before count within is some n long =
      ⊎_elim
      (λ (same : n ≡ k).
      let here : get_or old n no_tally ≡ before = ap (λ m. get_or old m no_tally) same ∙ sym is in
      subst (λ m. IsTallied (outlines ++ Creates m ∷ []) n (get_or old n no_tally)) same
      (tallied_create outlines n (get_or old n no_tally) (get_or old n no_tally) (are n long) refl (inr refl)
      (λ m. subst (λ (t : Tally). IsSomeAnd t.since (λ count. 0 ≤ count)) (sym here)
      (subst (λ o. IsSomeAnd o (λ count. 0 ≤ count)) (sym some) (omega arith)))))
      (λ (other : n ≡ k → ⊥).
      tallied_same outlines n (get_or old n no_tally) (get_or old n no_tally) (are n long) (Creates k) refl
      (creates_apart k n other).0 (creates_apart k n other).1)
      (cases_eq n k)

  pub create_kept : k < length old → is_some (get_or old k no_tally).since ≡ true
      → AreTallied (outlines ++ Creates k ∷ []) old
  create_kept within some =
      let count = some_of (get_or old k no_tally).since some in
      create_again (get_or old k no_tally) count.0 within refl count.1

  pub other_noted : AreTallied (outlines ++ Other ∷ []) old
  other_noted = row_same outlines old are Other (λ n within. (refl, λ same. let wrong : ⊥ = cc in wrong))

-- a row in which nothing is sent
pub none_tallied : (n : ℕ) → IsTallied [] n no_tally
none_tallied n = record {
  all = refl;
  since = λ before later split. absurd (not_empty Other (Creates n) before later (sym split));
}

pub row_none : (row : List Tally) → AreTallied [] row → AreTallied [] (row ++ no_tally ∷ [])
row_none row are n within =
    subst (IsTallied [] n) (sym (read row n)) (by_length (cases_lt n)) where
      read : (row : List Tally) (n : ℕ) → get_or (row ++ no_tally ∷ []) n no_tally ≡ get_or row n no_tally
      read [] zero = refl
      read [] (suc n) = refl
      read (x ∷ xs) zero = refl
      read (x ∷ xs) (suc n) = read xs n

      past : (row : List Tally) (n : ℕ) → length row ≤ n → get_or row n no_tally ≡ no_tally
      past [] n within = refl
      past (x ∷ xs) zero within = let wrong : ⊥ = omega (arith, within) in absurd wrong
      past (x ∷ xs) (suc n) within = past xs n (omega (arith, within))

      cases_lt : (n : ℕ) → (n < length row) ⊎ (length row ≤ n)
      cases_lt n = by_test (nat_lt n (length row)) refl where
        by_test : (b : Bool) → nat_lt n (length row) ≡ b → (n < length row) ⊎ (length row ≤ n)
        by_test true less = inl (grind (arith, less))
        by_test false more = inr (grind (arith, more))

      by_length : (n < length row) ⊎ (length row ≤ n) → IsTallied [] n (get_or row n no_tally)
      by_length (inl less) = are n less
      by_length (inr more) = subst (IsTallied [] n) (sym (past row n more)) (none_tallied n)

-- a row that is lent as a slice and given back with its length
pub lent_back : (old new : List Tally) (long : ℕ) → long ≡ length old → length new ≡ length old
    → take long (new ++ drop (length new) old) ≡ new
lent_back old new long is same =
    ap (λ l. take long (new ++ l)) (drop_all (length new) old (omega (arith, same)))
    ∙ ap (λ l. take long l) (append-nil new)
    ∙ take_all long new (omega (arith, is, same))

-- ---- the events of a record

sent_one : (who n : ℕ) (e : Event) → length (sent_by_one who n e) ≡ sends_one n (outline_in e)
sent_one who n (event.Output signal named values (target.Instance to)) = by_test (nat_eq to n) where
  by_test : (b : Bool)
      → length {A = Item} (cond b (record { name = signal; values = values; sender = Of who } ∷ []) []) ≡ cond b 1 0
  by_test true = refl
  by_test false = refl
sent_one who n (event.Output signal named values t) = refl
sent_one who n (event.Create process (Some number)) = refl
sent_one who n (event.Create process None) = refl
sent_one who n e = refl

pub sent_many : (who n : ℕ) (events : List Event) → length (sent_to who events n) ≡ sends_to n (map outline_in events)
sent_many who n [] = refl
sent_many who n (e ∷ rest) =
    length-append (sent_by_one who n e) (sent_to who rest n)
    ∙ ap (λ k. k + length (sent_to who rest n)) (sent_one who n e)
    ∙ ap (λ k. sends_one n (outline_in e) + k) (sent_many who n rest)

-- what the tally of a record tells of an instance
pub since_put : (who n put : ℕ) (events : List Event) (t : Tally) → IsTallied (map outline_in events) n t
    → IfSome t.since (λ count. count ≤ put)
    → (before later : List Event) (process : ProcessId) → events ≡ before ++ event.Create process (Some n) ∷ later
    → length (sent_to who later n) ≤ put
since_put who n put events t is few before later process split =
    let outlines : map outline_in events ≡ map outline_in before ++ Creates n ∷ map outline_in later =
    ap (map outline_in) split ∙ map-append outline_in before (event.Create process (Some n) ∷ later) in
    let least = is.since (map outline_in before) (map outline_in later) outlines in
    by_since t.since few least where
      by_since : (since : Option ℕ) → IfSome since (λ count. count ≤ put)
          → IsSomeAnd since (λ count. sends_to n (map outline_in later) ≤ count) → length (sent_to who later n) ≤ put
      by_since None few least = absurd least
      by_since (Some count) few least = let many = sent_many who n later in omega (arith, few, least, many)

pub enough : (Known : ℕ → Type 0) (from to : RecordValue) (put : ℕ) (t : Tally)
    → IsTallied (map outline_in from.events) to.pid t → IfSome t.since (λ count. count ≤ put)
    → (t.all ≤ put) ⊎ MayMiss Known from to → IsEnough Known from to put
enough Known from to put t is since all = record {
  allowed = ⊎_elim
      (λ (few : t.all ≤ put).
      let many = sent_many from.pid to.pid from.events in
      inl (omega (arith, few, many, is.all)))
      (λ (may : MayMiss Known from to). inr may) all;
  since = since_put from.pid to.pid put from.events t is since;
}

-- ---- what was put

pub none_missing : (xs missing put : List Item) → xs ≡ missing ++ put → length xs ≤ length put → missing ≡ []
none_missing xs [] put is few = refl
none_missing xs (m ∷ missing) put is few =
    let long : length xs ≡ length (m ∷ missing) + length put = ap length is ∙ length-append (m ∷ missing) put in
    let wrong : ⊥ = omega (arith, long, few) in absurd wrong

-- the longer of two ends ends with the shorter
end_of_end : (first xs missing put : List Item) → first ++ xs ≡ missing ++ put → length xs ≤ length put
    → EndsWith put xs
end_of_end first xs [] put is few = (first, sym is)
end_of_end [] xs (m ∷ missing) put is few =
    let long : length xs ≡ length (m ∷ missing) + length put = ap length is ∙ length-append (m ∷ missing) put in
    let wrong : ⊥ = omega (arith, long, few) in absurd wrong
end_of_end (f ∷ first) xs (m ∷ missing) put is few =
    end_of_end first xs missing put (same_tail f f is) few

sent_since : (who n : ℕ) (events before later : List Event) (process : ProcessId)
    → events ≡ before ++ event.Create process (Some n) ∷ later
    → sent_to who events n ≡ sent_to who before n ++ sent_to who later n
sent_since who n events before later process split =
    ap (λ l. sent_to who l n) split
    ∙ flat_map-append (sent_by_one who n) before (event.Create process (Some n) ∷ later)

pub enough_is_put : EnoughIsPut
enough_is_put heard from to put ends enough = record {
  missing = ends.0;
  all = ends.1;
  allowed = ⊎_elim
      (λ (few : length (sent_to from.pid from.events to.pid) ≤ length put).
      inl (none_missing (sent_to from.pid from.events to.pid) ends.0 put ends.1 few))
      (λ (may : MayMiss (IsNamed heard) from to). inr may) enough.allowed;
  since = λ before later process split.
      end_of_end (sent_to from.pid before to.pid) (sent_to from.pid later to.pid) ends.0 put
      (sym (sent_since from.pid to.pid from.events before later process split) ∙ ends.1)
      (enough.since before later process split);
}
