-- Reading entries, from the first on or the last one alone.
use Rattle.std.proofs.Common.{◌≡◌, ℕ, ◌+◌, ◌-◌, ◌≤◌, true, List, [], ◌∷◌, ◌++◌, Option, Some, None, length, take, drop, sym, ◌∙◌, ap, arith, append-nil, take-append-drop}
use Rattle.std.proofs.lemmas.List.{length-drop, length-take, take_all}
use Rattle.port_model.specs.declared.values.value.Value.{Value}
use Rattle.run_record.specs.Entry.{event_of}
use Rattle.run_record.specs.Packed.{count_of, counted, ends_in_event, entry_at, is_event, time_after, time_in, told, told_at, told_by}
use Rattle.run_record.specs.declared.entry.Entry.{Entry}
use Rattle.run_record.specs.declared.packed.Packed as packed
use Rattle.run_record.specs.declared.packed.Packed.TheVariants as pack
use Rattle.run_record.proofs.PackedLemmas.{counted-append, ends-push, time_after-event, time_in-append, told-append}

-- ---- the first entry

module _ (time : ℕ) (entries rest : List packed.Packed) (first : packed.Packed) (values own more : List Value)
    (count after : ℕ) (is : entries ≡ first ∷ rest) (counts : count ≡ count_of first) where
  -- it has the values that it counts, and leaves the others
  pub count-within : counted entries ≤ length values → count ≤ length values
  count-within fits = let all = ap counted is in omega (arith, all, fits, counts)

  pub counted-left : counted entries ≤ length values → more ≡ drop count values → counted rest ≤ length more
  counted-left fits back =
      let all = ap counted is in
      let many : length more ≡ length (drop count values) = ap length back in
      let some = length-drop count values in
      omega (arith, all, fits, counts, many, some)

  told-first : own ≡ take count values → more ≡ drop count values → after ≡ time_after time first
      → told time entries values
      ≡ told_by (entry_at time first) own ++ told after rest more
  told-first front back moves =
      ap (λ l. told time l values) is
      ∙ ap
      (λ n. told_at time first (take n values) ++ told (time_after time first) rest (drop n values))
      (sym counts)
      ∙ ap (λ t. told_at time first (take count values) ++ told t rest (drop count values))
      (sym moves)
      ∙ ap (λ l. told_at time first (take count values) ++ told after rest l) (sym back)
      ∙ ap (λ l. told_at time first l ++ told after rest more) (sym front)

  -- a time tells nothing
  pub told-time : own ≡ take count values → more ≡ drop count values → after ≡ time_after time first
      → entry_at time first ≡ None → told after rest more ≡ told time entries values
  told-time front back moves none =
      sym (told-first front back moves
      ∙ ap (λ (o : Option Entry). told_by o own ++ told after rest more)
      none)

  -- an event is told first
  pub told-event : (entry : Entry) → own ≡ take count values → more ≡ drop count values → after ≡ time_after time first
      → entry_at time first ≡ Some entry → told time entries values ≡ event_of entry own ∷ told after rest more
  told-event entry front back moves some =
      told-first front back moves
      ∙ ap (λ (o : Option Entry). told_by o own ++ told after rest more)
      some

-- ---- the last entry

-- an event says something
pub entry-there : (time : ℕ) (one : packed.Packed) → is_event one ≡ true → entry_at time one ≡ None → ⊥
entry-there time (pack.Time at) is none = cc
entry-there time one is none = cc

-- it's an event
pub last-event : (entries before : List packed.Packed) (last : packed.Packed) → entries ≡ before ++ last ∷ []
    → ends_in_event entries ≡ true → is_event last ≡ true
last-event entries before last is ends = sym (ends-push before last) ∙ sym (ap ends_in_event is) ∙ ends

module _ (entries before : List packed.Packed) (last : packed.Packed) (values : List Value)
    (is : entries ≡ before ++ last ∷ []) (counts : counted entries ≡ length values) where
  last_counts : counted before + count_of last ≡ length values
  last_counts =
      let all = ap counted is in
      let both = counted-append before (last ∷ []) in
      omega (arith, all, both, counts)

  -- its values are the last ones
  pub last-within : count_of last ≤ length values
  last-within = let all = last_counts in omega (arith, all)

  -- it's told last
  pub told-last : (time place : ℕ) (entry : Entry) (own : List Value) → place ≡ length values - count_of last
      → time_in 0 entries ≡ time → is_event last ≡ true → own ≡ drop place values → entry_at time last ≡ Some entry
      → told 0 entries values ≡ told 0 before (take place values) ++ event_of entry own ∷ []
  told-last time place entry own place_is moves event own_is some =
      let all = last_counts in
      let front : counted before ≡ length (take place values) =
      omega (arith, all, place_is, length-take place values) in
      let short : length own ≤ count_of last =
      (let long : length own ≡ length (drop place values) = ap length own_is in
      omega (arith, all, place_is, long, length-drop place values)) in
      let there : time_in 0 before ≡ time =
      sym (time_after-event (time_in 0 before) last event)
      ∙ sym (time_in-append 0 before (last ∷ [])) ∙ sym (ap (time_in 0) is) ∙ moves in
      ap (λ l. told 0 l values) is
      ∙ ap (told 0 (before ++ last ∷ [])) (sym (take-append-drop place values))
      ∙ told-append 0 before (last ∷ []) (take place values) (drop place values) front
      ∙ ap (λ l. told 0 before (take place values) ++ told (time_in 0 before) (last ∷ []) l) (sym own_is)
      ∙ ap (λ t. told 0 before (take place values) ++ told t (last ∷ []) own) there
      ∙ ap (λ l. told 0 before (take place values) ++ l)
      (append-nil (told_at time last (take (count_of last) own)))
      ∙ ap (λ l. told 0 before (take place values) ++ told_at time last l)
      (take_all (count_of last) own short)
      ∙ ap (λ (o : Option Entry). told 0 before (take place values)
      ++ told_by o own) some
