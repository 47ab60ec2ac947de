-- The masks of lists, and what flows between lists.
use Rattle.std.proofs.Common.{◌≡◌, ℕ, zero, suc, ◌+◌, ◌*◌, ◌/◌, ◌%◌, ◌<◌, ◌≤◌, ◌++◌, ◌↔◌, List, [], ◌∷◌, None, Some, slice_get, length, get_or, arith, inl, inr, sym, subst, refl, ◌∙◌, ap}
use Rattle.port_model.specs.declared.values.item.SignalId.{SignalId}
use Rattle.std.proofs.lemmas.Bool.{cases_eq}
use Rattle.std.proofs.lemmas.List.{get_or_push, get_or_append_left}
use Rattle.std.proofs.lemmas.Option.{slice_get_within}
use Rattle.build_routes.specs.Each.{ForSome}
use Rattle.build_routes.specs.Graph.{Flows, Leads}
use Rattle.build_routes.specs.Mask.{Bit, Has}
use Rattle.build_routes.specs.SignalLists.{EntryStep, IsSignalAt, ListSteps, NamesIn, StandsFor, column}
use Rattle.build_routes.specs.declared.network.graph.Row.{Row}
use Rattle.build_routes.specs.declared.network.graph.Step.{Step}
use Rattle.build_routes.specs.declared.network.list.Item as entry
use Rattle.build_routes.specs.declared.network.list.Item.TheVariants as item
use Rattle.build_routes.specs.declared.network.list.ListId.{ListId}
use Rattle.build_routes.specs.declared.network.list.SignalList.{SignalList}
use Rattle.build_routes.specs.declared.network.signal_sets.Column.{Column}
use Rattle.build_routes.proofs.EachLemmas.{same_element}
use Rattle.build_routes.proofs.PassLemmas.{has_within}

pub column-read : (columns : List Column) (n : ℕ) (read : Column) → n < length columns → read ≡ get_or columns n read → read.masks.items ≡ column columns n
column-read [] n read within is = absurd (omega arith)
column-read (first ∷ columns) zero read within is = ap (λ x. x.masks.items) is
column-read (first ∷ columns) (suc n) read within is = column-read columns n read (omega arith) is

pub column-past : (columns : List Column) (n : ℕ) → length columns ≤ n → column columns n ≡ []
column-past [] n past = refl
column-past (first ∷ columns) zero past = absurd (omega arith)
column-past (first ∷ columns) (suc n) past = column-past columns n (omega arith)

column-push_other : (columns : List Column) (new : Column) (n : ℕ) → n < length columns → column (columns ++ new ∷ []) n ≡ column columns n
column-push_other [] new n within = absurd (omega arith)
column-push_other (first ∷ columns) new zero within = refl
column-push_other (first ∷ columns) new (suc n) within = column-push_other columns new n (omega arith)

column-push_last : (columns : List Column) (new : Column) → column (columns ++ new ∷ []) (length columns) ≡ new.masks.items
column-push_last [] new = refl
column-push_last (first ∷ columns) new = column-push_last columns new

-- one more list
pub own_more : (lists : List SignalList) (word : ℕ) (masks new : List ℕ) (i : ℕ) (named : SignalList) (mask : ℕ) → length masks ≡ i
    → slice_get lists i ≡ Some named → ((k : ℕ) → Bit mask k ↔ ForSome named.items.items (λ j entry. IsSignalAt word k entry))
    → ((list k : ℕ) → list < i → Has masks list k ↔ NamesIn lists word list k) → new ≡ masks ++ mask ∷ []
    → (list k : ℕ) → list < i + 1 → Has new list k ↔ NamesIn lists word list k
own_more lists word masks new i named mask size here own before pushed list k below = elim (cases_eq list i) [
  | inl same ↦
      let at : get_or new list 0 ≡ mask = ap (λ x. get_or x list 0) pushed ∙ get_or_push masks mask 0 list (size ∙ sym same) in (
        λ has. (named, ap (λ n. slice_get lists n) same ∙ here, (own k).0 (subst (λ x. Bit x k) at has)),
        λ names. subst (λ x. Bit x k) (sym at) ((own k).1 (subst (λ x. ForSome x.items.items (λ j entry. IsSignalAt word k entry))
            (same_element lists i list names.0 named here names.1 same) names.2)),
      )
  | inr other ↦
      let within : list < length masks = omega arith in
      let at : get_or new list 0 ≡ get_or masks list 0 = ap (λ x. get_or x list 0) pushed ∙ get_or_append_left masks (mask ∷ []) 0 list within in (
        λ has. (before list k (omega arith)).0 (subst (λ x. Bit x k) at has),
        λ names. subst (λ x. Bit x k) (sym at) ((before list k (omega arith)).1 names),
      )
]

pub own_all : (lists : List SignalList) (word : ℕ) (masks : List ℕ) (i : ℕ) → length masks ≡ i → length lists ≤ i
    → ((list k : ℕ) → list < i → Has masks list k ↔ NamesIn lists word list k)
    → (list k : ℕ) → Has masks list k ↔ NamesIn lists word list k
own_all lists word masks i size all own list k = (
  λ has. (own list k (let within = has_within masks list k has in omega arith)).0 has,
  λ names. (own list k (let within = slice_get_within lists list names.0 names.1 in omega arith)).1 names,
)

signal_at : (word k n : ℕ) → n / 64 ≡ word → n % 64 ≡ k → n ≡ 64 * word + k
signal_at word k n q r = omega arith

entry_stands : (lists : List SignalList) (word k list : ℕ) (named : SignalList) (j : ℕ) (entry : entry.Item) → slice_get lists list ≡ Some named
    → slice_get named.items.items j ≡ Some entry → IsSignalAt word k entry → StandsFor lists (record { 0 = 64 * word + k }) (record { 0 = list })
entry_stands lists word k list named j (item.Signal signal) here at is =
    let f : ℕ → SignalId = λ n. record { 0 = n } in
    let same : signal ≡ f (64 * word + k) = ap f (signal_at word k signal.0 is.0 is.1) in
    StandsFor.names named j here (at ∙ ap (λ s. Some (item.Signal s)) same)
entry_stands lists word k list named j (item.List other) here at is = absurd is

step_stands : (lists : List SignalList) (signal : SignalId) (list from : ℕ) (named : SignalList) (j : ℕ) (entry : entry.Item) (step : Step)
    → slice_get lists list ≡ Some named → slice_get named.items.items j ≡ Some entry → EntryStep list entry from step
    → StandsFor lists signal (record { 0 = from }) → StandsFor lists signal (record { 0 = step.to })
step_stands lists signal list from named j (item.Signal other) step here at is stands = absurd is
step_stands lists signal list from named j (item.List other) step here at is stands =
    let f : ℕ → ListId = λ n. record { 0 = n } in
    subst (λ x. StandsFor lists signal (record { 0 = x.to })) (sym is.1)
    (StandsFor.goes_on named j other here at (subst (λ x. StandsFor lists signal x) (ap f is.0) stands))

flow_stands : (lists : List SignalList) (rows : List Row) (start : List ℕ) (word k : ℕ)
    → ((list k : ℕ) → Has start list k → NamesIn lists word list k)
    → ((from : ℕ) (step : Step) → Leads rows from step → ListSteps lists from step)
    → {n : ℕ} → Flows rows [] start k n → StandsFor lists (record { 0 = 64 * word + k }) (record { 0 = n })
flow_stands lists rows start word k starts leads (Flows.begins {n} has) =
    let names : NamesIn lists word n k = starts n k has in
    entry_stands lists word k n names.0 names.2.0 names.2.1 names.1 names.2.2 names.2.3
flow_stands lists rows start word k starts leads (Flows.goes_on {n} {m} step flows goes lets to) =
    let is : ListSteps lists n step = leads n step goes in
    subst (λ x. StandsFor lists (record { 0 = 64 * word + k }) (record { 0 = x })) to
    (step_stands lists (record { 0 = 64 * word + k }) is.0 n is.1 is.3.0 is.3.1 step is.2 is.3.2 is.3.3
    (flow_stands lists rows start word k starts leads flows))

stands_flow : (lists : List SignalList) (rows : List Row) (start : List ℕ) (word k : ℕ) (signal : SignalId)
    → ((list k : ℕ) → NamesIn lists word list k → Has start list k)
    → ((from : ℕ) (step : Step) → ListSteps lists from step → Leads rows from step)
    → signal.0 / 64 ≡ word → signal.0 % 64 ≡ k
    → {list : ListId} → StandsFor lists signal list → Flows rows [] start k list.0
stands_flow lists rows start word k signal starts leads q r (StandsFor.names {list} named n here at) =
    Flows.begins (starts list.0 k (named, here, (n, item.Signal signal, at, (q, r))))
stands_flow lists rows start word k signal starts leads q r (StandsFor.goes_on {list} named n other here at stands) =
    Flows.goes_on (record { to = list.0; only = None }) (stands_flow lists rows start word k signal starts leads q r stands)
    (leads other.0 (record { to = list.0; only = None }) (list.0, named, here, (n, item.List other, at, (refl, refl)))) tt refl

pub word_of : (n k : ℕ) → k < 64 → (64 * n + k) / 64 ≡ n
word_of n k small = omega arith

pub place_of : (n k : ℕ) → k < 64 → (64 * n + k) % 64 ≡ k
place_of n k small = omega arith

-- the masks of one more word
pub column_more : (lists : List SignalList) (rows : List Row) (start : List ℕ) (columns new : List Column) (made : Column) (word : ℕ)
    → length columns ≡ word → ((list k : ℕ) → Has start list k ↔ NamesIn lists word list k)
    → ((from : ℕ) (step : Step) → Leads rows from step ↔ ListSteps lists from step)
    → ((n k : ℕ) → Has made.masks.items n k ↔ Flows rows [] start k n)
    → ((n list k : ℕ) → n < word → k < 64 → Has (column columns n) list k ↔ StandsFor lists (record { 0 = 64 * n + k }) (record { 0 = list }))
    → new ≡ columns ++ made ∷ []
    → (n list k : ℕ) → n < word + 1 → k < 64 → Has (column new n) list k ↔ StandsFor lists (record { 0 = 64 * n + k }) (record { 0 = list })
column_more lists rows start columns new made word size starts leads flows before pushed n list k below small = elim (cases_eq n word) [
  | inl same ↦
      let at : column new n ≡ made.masks.items = ap (λ x. column x n) pushed ∙ ap (λ x. column (columns ++ made ∷ []) x) (same ∙ sym size) ∙ column-push_last columns made in (
        λ has. subst (λ x. StandsFor lists (record { 0 = 64 * x + k }) (record { 0 = list })) (sym same)
            (flow_stands lists rows start word k (λ l j. (starts l j).0) (λ from step. (leads from step).0)
            ((flows list k).0 (subst (λ x. Has x list k) at has))),
        λ stands. subst (λ x. Has x list k) (sym at) ((flows list k).1
            (stands_flow lists rows start word k (record { 0 = 64 * n + k }) (λ l j. (starts l j).1) (λ from step. (leads from step).1)
            (word_of n k small ∙ same) (place_of n k small) stands)),
      )
  | inr other ↦
      let at : column new n ≡ column columns n = ap (λ x. column x n) pushed ∙ column-push_other columns made n (omega arith) in (
        λ has. (before n list k (omega arith) small).0 (subst (λ x. Has x list k) at has),
        λ stands. subst (λ x. Has x list k) (sym at) ((before n list k (omega arith) small).1 stands),
      )
]
