-- Entries, rows and the whole table.
use Rattle.std.proofs.Common.{◌≡◌, ◌⊎◌, ◌<◌, ◌↔◌, ◌+◌, ℕ, zero, suc, false, true, List, [], ◌∷◌, ◌++◌, None, Option, Some, ap, arith, filter, get_or, inl, inr, length, map, option_and_then, option_map, refl, slice_get, subst, sym, ◌∙◌}
use Rattle.std.specs.Option.{option_map_or}
use Rattle.std.proofs.lemmas.Option.{none-some, same_Some, slice_get-get_or, slice_get-map, slice_get_within}
use Rattle.port_model.specs.declared.values.item.SignalId.{SignalId}
use Rattle.sdl_system.specs.Route.{is_receiver, list_of, reach_of, reaches_env, receivers}
use Rattle.sdl_system.specs.declared.id.ProcessId.{ProcessId}
use Rattle.sdl_system.specs.declared.route.Reach.{Reach}
use Rattle.sdl_system.specs.declared.route.Routes.{Routes}
use Rattle.sdl_system.specs.declared.route.Source as sender
use Rattle.sdl_system.specs.declared.route.Source.TheVariants as from
use Rattle.build_routes.specs.Entries.{AreRows, IsEntry, IsRow, Keeps, sender_at}
use Rattle.build_routes.specs.Paths.{Path}
use Rattle.build_routes.specs.Table.{AreDistinct, AreReceivers, AreRoutes, SendsFrom}
use Rattle.build_routes.specs.declared.network.joined.End.TheVariants as at
use Rattle.build_routes.specs.declared.network.joined.Network.{Network}
use Rattle.build_routes.specs.declared.network.joined.Process.{Process}
use Rattle.build_routes.specs.declared.network.joined.Scope.TheVariants as its
use Rattle.build_routes.specs.declared.network.joined.Source.{Source}
use Rattle.build_routes.proofs.EachLemmas.{same_element}

-- what stands in a list with one element more
pub get_push : {X : Type 0} (xs : List X) (x : X) (n : ℕ) (y : X) → slice_get (xs ++ x ∷ []) n ≡ Some y
    → (slice_get xs n ≡ Some y) ⊎ ((n ≡ length xs) × (x ≡ y))
get_push [] x zero y is = inr (refl, same_Some x y is)
get_push [] x (suc n) y is = absurd (none-some y is)
get_push (z ∷ zs) x zero y is = inl is
get_push (z ∷ zs) x (suc n) y is = elim (get_push zs x n y is) [ inl was ↦ inl was | inr last ↦ inr (ap suc last.0, last.1) ]

pub get_kept : {X : Type 0} (xs : List X) (x : X) (n : ℕ) (y : X) → slice_get xs n ≡ Some y → slice_get (xs ++ x ∷ []) n ≡ Some y
get_kept [] x n y is = absurd (none-some y is)
get_kept (z ∷ zs) x zero y is = is
get_kept (z ∷ zs) x (suc n) y is = get_kept zs x n y is

pub get_last : {X : Type 0} (xs : List X) (x : X) → slice_get (xs ++ x ∷ []) (length xs) ≡ Some x
get_last [] x = refl
get_last (z ∷ zs) x = get_last zs x

-- ---- lists that keep their numbers

pub keeps_same : (lists : List (List ProcessId)) → Keeps lists lists
keeps_same lists = λ n list is. is

pub keeps_on : (a b c : List (List ProcessId)) → Keeps a b → Keeps b c → Keeps a c
keeps_on a b c before after = λ n list is. after n list (before n list is)

pub entry_kept : (network : Network) (source : Source) (a b : List (List ProcessId)) (signal : SignalId) (reach : Reach) → Keeps a b
    → IsEntry network source a signal reach → IsEntry network source b signal reach
entry_kept network source a b signal reach keeps is = record {
  list = is.list;
  stands = keeps reach.receivers.0 is.list is.stands;
  receivers = is.receivers;
  env = is.env;
}

pub row_kept : (network : Network) (source : Source) (a b : List (List ProcessId)) (count : ℕ) (row : List Reach) → Keeps a b
    → IsRow network source a count row → IsRow network source b count row
row_kept network source a b count row keeps is = record {
  size = is.size;
  each = λ n reach stands. entry_kept network source a b (record { 0 = n }) reach keeps (is.each n reach stands);
}

-- ---- rows

pub row_first : (network : Network) (source : Source) (lists : List (List ProcessId)) (row : List Reach) → row ≡ [] → IsRow network source lists 0 row
row_first network source lists row none = subst (λ x. IsRow network source lists 0 x) (sym none) (record {
  size = refl;
  each = λ n reach stands. absurd (none-some reach stands);
})

pub row_more : (network : Network) (source : Source) (a b : List (List ProcessId)) (count : ℕ) (row new : List Reach) (reach : Reach) → Keeps a b
    → IsRow network source a count row → IsEntry network source b (record { 0 = count }) reach → new ≡ row ++ reach ∷ []
    → length new ≡ count + 1 → IsRow network source b (count + 1) new
row_more network source a b count row new reach keeps is entry pushed size = record {
  size = size;
  each = λ n r stands. elim (get_push row reach n r (subst (λ x. slice_get x n ≡ Some r) pushed stands)) [
    | inl was ↦ entry_kept network source a b (record { 0 = n }) r keeps (is.each n r was)
    | inr last ↦
        let same : count ≡ n = sym (last.0 ∙ is.size) in
        subst (λ k. IsEntry network source b (record { 0 = k }) r) same
        (subst (λ x. IsEntry network source b (record { 0 = count }) x) last.1 entry)
  ];
}

pub rows_first : (network : Network) (lists : List (List ProcessId)) (rows : List (List Reach)) → rows ≡ [] → AreRows network lists 0 rows
rows_first network lists rows none = subst (λ x. AreRows network lists 0 x) (sym none) (record {
  size = refl;
  each = λ n is row here stands. absurd (none-some row stands);
})

pub rows_more : (network : Network) (a b : List (List ProcessId)) (count : ℕ) (rows new : List (List Reach)) (row : List Reach) (process : Process)
    → Keeps a b → AreRows network a count rows → slice_get network.processes.items count ≡ Some process
    → IsRow network (record { end = at.Process (record { 0 = count }); scope = process.scope }) b network.signals row → new ≡ rows ++ row ∷ []
    → length new ≡ count + 1 → AreRows network b (count + 1) new
rows_more network a b count rows new row process keeps are here is pushed size = record {
  size = size;
  each = λ n other r there stands. elim (get_push rows row n r (subst (λ x. slice_get x n ≡ Some r) pushed stands)) [
    | inl was ↦ row_kept network (record { end = at.Process (record { 0 = n }); scope = other.scope }) a b network.signals r keeps (are.each n other r there was)
    | inr last ↦
        let same : count ≡ n = sym (last.0 ∙ are.size) in
        let scope : process ≡ other = sym (same_element network.processes.items count n other process here there (sym same)) in
        subst (λ x. IsRow network (record { end = at.Process (record { 0 = n }); scope = x.scope }) b network.signals r) scope
        (subst (λ k. IsRow network (record { end = at.Process (record { 0 = k }); scope = process.scope }) b network.signals r) same
        (subst (λ x. IsRow network (record { end = at.Process (record { 0 = count }); scope = process.scope }) b network.signals x) last.1 is))
  ];
}

-- ---- the table

option_read : {V : Type 0} (f : V → List ProcessId) (o : Option V) (list : List ProcessId) → option_map f o ≡ Some list → option_map_or f o [] ≡ list
option_read f None list is = absurd (none-some list is)
option_read f (Some v) list is = same_Some (f v) list is

row_read : {V : Type 0} (f : V → List Reach) (o : Option V) (row : List Reach) (n : ℕ) → option_map f o ≡ Some row
    → option_and_then (λ v. slice_get (f v) n) o ≡ slice_get row n
row_read f None row n is = absurd (none-some row is)
row_read f (Some v) row n is = ap (λ r. slice_get r n) (same_Some (f v) row is)

nowhere : Reach
nowhere = record { receivers = record { 0 = 0 }; itself = false; env = false }

entry_at : (network : Network) (source : Source) (lists : List (List ProcessId)) (row : List Reach) (signal : SignalId)
    → IsRow network source lists network.signals row → signal.0 < network.signals
    → (reach : Reach) × (slice_get row signal.0 ≡ Some reach) × IsEntry network source lists signal reach
entry_at network source lists row signal is below =
    let there : slice_get row signal.0 ≡ Some (get_or row signal.0 nowhere) = slice_get-get_or row signal.0 nowhere (omega (arith, below, is.size)) in
    (get_or row signal.0 nowhere, there, is.each signal.0 (get_or row signal.0 nowhere) there)

record AtEntry (network : Network) (routes : Routes) (from : sender.Source) (source : Source) (signal : SignalId) : Type 0 where
  processes : AreReceivers network signal source (receivers routes from signal)
  env : (reaches_env routes from signal ≡ true) ↔ Path network signal source at.Env

by_entry : (network : Network) (routes : Routes) (lists : List (List ProcessId)) (from : sender.Source) (source : Source) (signal : SignalId) (reach : Reach)
    → map (λ list. list.items) routes.lists.items ≡ lists → sender_at source.end ≡ from → reach_of routes from signal ≡ Some reach
    → IsEntry network source lists signal reach → AtEntry network routes from source signal
by_entry network routes lists from source signal reach kept sends there is =
    let read : list_of routes reach ≡ is.list =
    option_read (λ list. list.items) (slice_get routes.lists.items reach.receivers.0) is.list
    (sym (slice_get-map (λ list. list.items) routes.lists.items reach.receivers.0) ∙ ap (λ x. slice_get x reach.receivers.0) kept ∙ is.stands) in
    record {
      processes =
          subst (λ o. AreReceivers network signal source (option_map_or (λ r. filter (is_receiver r.itself from) (list_of routes r)) o [])) (sym there)
          (subst (λ x. AreReceivers network signal source (filter (is_receiver reach.itself from) x)) (sym read)
          (subst (λ f. AreReceivers network signal source (filter (is_receiver reach.itself f) is.list)) sends is.receivers));
      env = subst (λ o. (option_map_or (λ r. r.env) o false ≡ true) ↔ Path network signal source at.Env) (sym there) is.env;
    }

at_sender : (network : Network) (routes : Routes) (lists : List (List ProcessId)) → map (λ list. list.items) routes.lists.items ≡ lists
    → IsRow network (record { end = at.Env; scope = its.System }) lists network.signals routes.env.items
    → AreRows network lists (length network.processes.items) (map (λ row. row.items) routes.processes.items)
    → (from : sender.Source) (source : Source) (signal : SignalId) → SendsFrom network from source → signal.0 < network.signals
    → AtEntry network routes from source signal
at_sender network routes lists kept env rows from.Env source signal sends below =
    let e = entry_at network (record { end = at.Env; scope = its.System }) lists routes.env.items signal env below in
    subst (λ s. AtEntry network routes from.Env s signal) (sym sends)
    (by_entry network routes lists from.Env (record { end = at.Env; scope = its.System }) signal e.0 kept refl e.1 e.2)
at_sender network routes lists kept env rows (from.Process p) source signal sends below =
    let all = map (λ row. row.items) routes.processes.items in
    let within : p.0 < length all = omega (arith, slice_get_within network.processes.items p.0 sends.0 sends.1, rows.size) in
    let there : slice_get all p.0 ≡ Some (get_or all p.0 []) = slice_get-get_or all p.0 [] within in
    let e = entry_at network (record { end = at.Process p; scope = sends.0.scope }) lists (get_or all p.0 []) signal
    (rows.each p.0 sends.0 (get_or all p.0 []) sends.1 there) below in
    subst (λ s. AtEntry network routes (from.Process p) s signal) (sym sends.2)
    (by_entry network routes lists (from.Process p) (record { end = at.Process p; scope = sends.0.scope }) signal e.0 kept refl
    (row_read (λ row. row.items) (slice_get routes.processes.items p.0) (get_or all p.0 []) signal.0
    (sym (slice_get-map (λ row. row.items) routes.processes.items p.0) ∙ there) ∙ e.1) e.2)

pub routes_are : (network : Network) (routes : Routes) (lists : List (List ProcessId)) → map (λ list. list.items) routes.lists.items ≡ lists → AreDistinct lists
    → IsRow network (record { end = at.Env; scope = its.System }) lists network.signals routes.env.items
    → AreRows network lists (length network.processes.items) (map (λ row. row.items) routes.processes.items) → AreRoutes network routes
routes_are network routes lists kept distinct env rows = record {
  processes = λ from source signal sends below. (at_sender network routes lists kept env rows from source signal sends below).processes;
  env = λ from source signal sends below. (at_sender network routes lists kept env rows from source signal sends below).env;
  shared = subst AreDistinct (sym kept) distinct;
}
