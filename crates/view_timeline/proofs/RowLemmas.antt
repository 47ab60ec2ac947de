-- Rows in their table, where one of them changes.
use Rattle.std.proofs.Common.{◌≡◌, Bool, true, false, cond, not, List, [], ◌∷◌, ◌++◌, map, get_or, slice_get, None, Some, refl, sym, ◌∙◌, ap, subst, append-nil, if◌then◌else◌}
use Rattle.std.specs.Option.{IsSome, option_map_or}
use Rattle.std.proofs.lemmas.List.{map-append}
use Rattle.std.specs.Map.{lookup}
use Rattle.indexmap.specs.IndexMap.{IndexMap, UpdatesBy, get}
use Rattle.port_model.specs.Same.{same_values, same_values-Decides}
use Rattle.port_model.specs.declared.values.value.Value.{Value}
use Rattle.view_timeline.specs.Did.{same_channel}
use Rattle.view_timeline.specs.Rows.{IsFirst, RowsState, Waiting, all_waiting, letter, row_of, waiting_of}
use Rattle.view_timeline.proofs.Channels.{same-apart, same-true, same_itself}
use Rattle.view_timeline.specs.declared.channel.Channel.{Channel}
use Rattle.view_timeline.specs.declared.rows.Row.{Row}
use Rattle.view_timeline.specs.declared.rows.Sent.{Sent}

module _ {S : Type 0} (old new : IndexMap Channel Row S) (channel : Channel) (row : Row)
    (updates : (q : Channel) → get same_channel new q
    ≡ cond (same_channel channel q) (Some row) (get same_channel old q)) where
  updated : (q : Channel) (b : Bool) → same_channel channel q ≡ b
      → row_of new q ≡ (if b then all_waiting row else row_of old q)
  updated q true same =
      ap (λ o. option_map_or all_waiting o []) (updates q ∙ ap (λ b. cond b (Some row) (get same_channel old q)) same)
  updated q false other =
      ap (λ o. option_map_or all_waiting o []) (updates q ∙ ap (λ b. cond b (Some row) (get same_channel old q)) other)

  -- the row itself
  pub row-own : row_of new channel ≡ all_waiting row
  row-own = updated channel true (same_itself channel)

  -- another one
  pub row-other : (q : Channel) → (q ≡ channel → ⊥) → row_of new q ≡ row_of old q
  row-other q apart = by (same_channel channel q) refl
    where
      by : (b : Bool) → same_channel channel q ≡ b → row_of new q ≡ row_of old q
      by true same = absurd (apart (sym (same-true channel q same)))
      by false other = updated q false other

  -- one more signal in it
  pub row-grown : (one : Waiting) → all_waiting row ≡ row_of old channel ++ one ∷ [] → (q : Channel)
      → row_of new q ≡ row_of old q ++ (if same_channel channel q then one ∷ [] else [])
  row-grown one grows q = by (same_channel channel q) refl
    where
      by : (b : Bool) → same_channel channel q ≡ b
          → row_of new q ≡ row_of old q ++ (if same_channel channel q then one ∷ [] else [])
      by true same =
          updated q true same ∙ grows
          ∙ ap (λ c. row_of old c ++ one ∷ []) (same-true channel q same)
          ∙ ap (λ b. row_of old q ++ (if b then one ∷ [] else [])) (sym same)
      by false other =
          updated q false other ∙ sym (append-nil (row_of old q))
          ∙ ap (λ b. row_of old q ++ (if b then one ∷ [] else [])) (sym other)

-- what waits in a row with one more
pub all_waiting-more : (row : Row) (items : List Sent) (one : Sent) → row.signals.items ≡ items ++ one ∷ []
    → all_waiting row ≡ map waiting_of items ++ waiting_of one ∷ []
all_waiting-more row items one is = ap (map waiting_of) is ∙ map-append waiting_of items (one ∷ [])

-- ---- what the calls on a table leave

-- a table in which the row of a channel changes, if there is one
abbrev pub Changes : {S : Type 0} → Channel → Row → IndexMap Channel Row S → IndexMap Channel Row S → Type 0
Changes channel row old new =
    IsSome (get same_channel old channel) → UpdatesBy same_channel (same_channel channel) old new (Some row)

module _ {S : Type 0} (old new : IndexMap Channel Row S) (channel : Channel) (row now : Row)
    (there : Some row ≡ get same_channel old channel) (changes : Changes channel now old new) where
  changed : (q : Channel) → get same_channel new q
      ≡ cond (same_channel channel q) (Some now) (get same_channel old q)
  changed = (changes (subst IsSome there refl)).0

  was : row_of old channel ≡ all_waiting row
  was = ap (λ o. option_map_or all_waiting o []) (sym there)

  pub row-others : (q : Channel) → (q ≡ channel → ⊥) → row_of new q ≡ row_of old q
  row-others = row-other old new channel now changed

  -- a signal more is in it
  pub row-pushed : (one : Sent) → now.signals.items ≡ row.signals.items ++ one ∷ [] → (q : Channel)
      → row_of new q ≡ row_of old q
      ++ letter q one.event.0 (Some (record { channel = channel; values = one.values.now }))
  row-pushed one grows q =
      row-grown old new channel now changed (waiting_of one)
      (all_waiting-more now row.signals.items one grows ∙ ap (λ l. l ++ waiting_of one ∷ []) (sym was)) q

  -- the first one is taken out of it
  pub row-popped : (one : Sent) (values : List Value) → row.signals.items ≡ one ∷ now.signals.items
      → one.values.now ≡ values
      → row_of old channel ≡ (record { place = one.event.0; values = values }) ∷ row_of new channel
  row-popped one values shrinks same =
      was ∙ ap (map waiting_of) shrinks
      ∙ ap (λ vs. (record { place = one.event.0; values = vs }) ∷ all_waiting now) same
      ∙ ap (λ l. (record { place = one.event.0; values = values }) ∷ l) (sym (row-own old new channel now changed))

  -- nothing waits in it
  pub row-empty : slice_get row.signals.items 0 ≡ None → (values : List Value) → IsFirst values (row_of old channel) → ⊥
  row-empty none values first =
      no_first row.signals.items none (subst (IsFirst values) was first)
    where
      no_first : (items : List Sent) → slice_get items 0 ≡ None → IsFirst values (map waiting_of items) → ⊥
      no_first [] none first = first
      no_first (one ∷ items) none first = let no : ⊥ = cc in no

  -- what waits first in it has other values
  pub row-differs : (front : Sent) → front ≡ get_or row.signals.items 0 front → (values : List Value)
      → (front.values.now ≡ values → ⊥) → IsFirst values (row_of old channel) → ⊥
  row-differs front seen values differ first = by row.signals.items seen (subst (IsFirst values) was first)
    where
      by : (items : List Sent) → front ≡ get_or items 0 front → IsFirst values (map waiting_of items) → ⊥
      by [] seen first = first
      by (one ∷ items) seen first = differ (ap (λ (s : Sent). s.values.now) seen ∙ first)

-- where no row is, nothing waits
pub row-none : {S : Type 0} (rows : IndexMap Channel Row S) (channel : Channel) → get same_channel rows channel ≡ None
    → (values : List Value) → IsFirst values (row_of rows channel) → ⊥
row-none rows channel none values first =
    subst (IsFirst values) (ap (λ o. option_map_or all_waiting o []) none) first

-- a row of its own begins, once none was found
pub row-begins : {S : Type 0} (old seen new : IndexMap Channel Row S) (channel : Channel) (row : Row) (one : Sent)
    → get same_channel old channel ≡ None → seen ≡ old
    → ((q : Channel) → get same_channel new q ≡ cond (same_channel channel q) (Some row) (get same_channel seen q))
    → row.signals.items ≡ one ∷ [] → (q : Channel)
    → row_of new q ≡ row_of old q
    ++ letter q one.event.0 (Some (record { channel = channel; values = one.values.now }))
row-begins old seen new channel row one none same changed is q =
    row-grown old new channel row
    (λ k. changed k ∙ ap (λ rows. cond (same_channel channel k) (Some row) (get same_channel rows k)) same)
    (waiting_of one)
    (ap (map waiting_of) is
    ∙ ap (λ l. l ++ waiting_of one ∷ []) (sym (ap (λ o. option_map_or all_waiting o []) none))) q

-- no row is there
pub no-rows : {S : Type 0} (rows : IndexMap Channel Row S) → rows.entries ≡ [] → (channel : Channel)
    → row_of rows channel ≡ []
no-rows rows none channel =
    ap (λ entries. option_map_or all_waiting (lookup (same_channel channel) entries) []) none

-- what is seen first is what is taken first
pub same-front : (items rest : List Sent) (front popped : Sent) → front ≡ get_or items 0 front
    → items ≡ popped ∷ rest → front ≡ popped
same-front items rest front popped seen is = seen ∙ ap (λ l. get_or l 0 front) is

not-false : (b : Bool) → not b ≡ false → b ≡ true
not-false true e = refl
not-false false e = sym e

not-true : (b : Bool) → not b ≡ true → b ≡ false
not-true true e = sym e
not-true false e = refl

-- values that don't differ are the same
pub values-same : (xs ys : List Value) (differ : Bool) → differ ≡ not (same_values xs ys) → differ ≡ false → xs ≡ ys
values-same xs ys differ is same = (same_values-Decides xs ys).0 (not-false (same_values xs ys) (sym is ∙ same))

-- values that differ aren't the same
pub values-differ : (xs ys : List Value) (differ : Bool) → differ ≡ not (same_values xs ys) → differ ≡ true → xs ≡ ys
    → ⊥
values-differ xs ys differ is true_is same =
    let e : true ≡ false = sym ((same_values-Decides xs ys).1 same) ∙ not-true (same_values xs ys) (sym is ∙ true_is) in
    let no : ⊥ = cc in
    no

-- rows that are the same on a channel and on all others
pub rows-same : (old new : RowsState) (channel : Channel) → new channel ≡ old channel
    → ((q : Channel) → (q ≡ channel → ⊥) → new q ≡ old q) → (q : Channel) → new q ≡ old q
rows-same old new channel own others q = by (same_channel q channel) refl
  where
    by : (b : Bool) → same_channel q channel ≡ b → new q ≡ old q
    by true same = subst (λ (k : Channel). new k ≡ old k) (sym (same-true q channel same)) own
    by false apart = others q (λ same. same-apart q channel apart (sym same))
