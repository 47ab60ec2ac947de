-- What comes from outside into a port, and the calls of its owner; and what an owner draws, as a run hears it.
use Rattle.std.proofs.Common.{◌≡◌, ◌∙◌, ◌==◌, ap, refl, ℕ, Bool, true, false, not, cond, List, [], ◌∷◌, ◌++◌, All, append-nil, append_assoc}
use Rattle.std.proofs.lemmas.Grind.{flat_map-append}
use Rattle.std.proofs.lemmas.List.Elements.{All-head, All-tail, filter-append}
use Rattle.port_model.specs.Calls.{after_draw, after_draws, after_entry}
use Rattle.port_model.specs.declared.inbox.entry.Entry.{Entry}
use Rattle.port_model.specs.declared.inbox.entry.Entry.TheVariants.{Signal, Timer}
use Rattle.port_model.specs.declared.inbox.entry.Fuse.{Fuse}
use Rattle.port_model.specs.declared.inbox.placed.Placed.{Placed}
use Rattle.port_model.specs.History.{Expire, PortEvent, Put}
use Rattle.port_model.specs.Laws.{IsFromOutside}
use Rattle.port_model.specs.Port.{PortState, expire_in}
use Rattle.run_record.specs.declared.evaluation.identity.Identity.{Identity}
use Rattle.run_record.specs.declared.evaluation.store.Store.{Store}
use Rattle.run_semantics.specs.Effect.{Deed}
use Rattle.run_semantics.specs.Goes.{drawn_as, entry_as}
use Rattle.run_semantics.specs.ControlPoint.{Definition, ControlPoint}
use Rattle.run_semantics.specs.Runs.{Runs, hears, is_outside, outside_of, own_of}

pub outside_of-append : (first later : List PortEvent)
    → outside_of (first ++ later) ≡ outside_of first ++ outside_of later
outside_of-append first later = filter-append is_outside first later

pub own_of-append : (first later : List PortEvent) → own_of (first ++ later) ≡ own_of first ++ own_of later
own_of-append first later = filter-append (λ event. not (is_outside event)) first later

pub drawn_as-append : (pid : ℕ) (first later : List Placed)
    → drawn_as pid (first ++ later) ≡ drawn_as pid first ++ drawn_as pid later
drawn_as-append pid first later = flat_map-append (λ (placed : Placed). entry_as pid placed.at placed.entry) first later

-- what an entry is as an event: that alone comes from outside
outside_of-fuse : (own : Bool) (event : PortEvent) → IsFromOutside event
    → outside_of (cond own (event ∷ []) []) ≡ cond own (event ∷ []) []
outside_of-fuse true (Put item) outside = refl
outside_of-fuse true (Expire key arm due at) outside = refl
outside_of-fuse true event outside = absurd outside
outside_of-fuse false event outside = refl

own_of-fuse : (own : Bool) (event : PortEvent) → IsFromOutside event → own_of (cond own (event ∷ []) []) ≡ []
own_of-fuse true (Put item) outside = refl
own_of-fuse true (Expire key arm due at) outside = refl
own_of-fuse true event outside = absurd outside
own_of-fuse false event outside = refl

outside_of-entry : (pid at : ℕ) (entry : Entry) → outside_of (entry_as pid at entry) ≡ entry_as pid at entry
outside_of-entry pid at (Signal item) = refl
outside_of-entry pid at (Timer fuse) = outside_of-fuse (fuse.pid == pid) (Expire fuse.key fuse.arm fuse.due at) tt

own_of-entry : (pid at : ℕ) (entry : Entry) → own_of (entry_as pid at entry) ≡ []
own_of-entry pid at (Signal item) = refl
own_of-entry pid at (Timer fuse) = own_of-fuse (fuse.pid == pid) (Expire fuse.key fuse.arm fuse.due at) tt

-- all that is drawn comes from outside
pub outside_of-drawn : (pid : ℕ) (news : List Placed) → outside_of (drawn_as pid news) ≡ drawn_as pid news
outside_of-drawn pid [] = refl
outside_of-drawn pid (placed ∷ more) =
    outside_of-append (entry_as pid placed.at placed.entry) (drawn_as pid more)
    ∙ ap (λ (events : List PortEvent). events ++ outside_of (drawn_as pid more))
    (outside_of-entry pid placed.at placed.entry)
    ∙ ap (λ (events : List PortEvent). entry_as pid placed.at placed.entry ++ events) (outside_of-drawn pid more)

pub own_of-drawn : (pid : ℕ) (news : List Placed) → own_of (drawn_as pid news) ≡ []
own_of-drawn pid [] = refl
own_of-drawn pid (placed ∷ more) =
    own_of-append (entry_as pid placed.at placed.entry) (drawn_as pid more)
    ∙ ap (λ (events : List PortEvent). events ++ own_of (drawn_as pid more)) (own_of-entry pid placed.at placed.entry)
    ∙ own_of-drawn pid more

-- what is drawn, and then calls of the owner
pub outside_of-drawn_calls : (pid : ℕ) (news : List Placed) (calls : List PortEvent) → outside_of calls ≡ []
    → outside_of (drawn_as pid news ++ calls) ≡ drawn_as pid news
outside_of-drawn_calls pid news calls none =
    outside_of-append (drawn_as pid news) calls
    ∙ ap (λ (events : List PortEvent). outside_of (drawn_as pid news) ++ events) none
    ∙ append-nil (outside_of (drawn_as pid news))
    ∙ outside_of-drawn pid news

pub own_of-drawn_calls : (pid : ℕ) (news : List Placed) (calls : List PortEvent) → own_of calls ≡ calls
    → own_of (drawn_as pid news ++ calls) ≡ calls
own_of-drawn_calls pid news calls all =
    own_of-append (drawn_as pid news) calls
    ∙ ap (λ (events : List PortEvent). events ++ own_of calls) (own_of-drawn pid news)
    ∙ all

-- ---- calls

-- a call of the owner
abbrev pub IsCall : PortEvent → Type 0
IsCall event = is_outside event ≡ false

pub own_of-calls : (calls : List PortEvent) → All IsCall calls → own_of calls ≡ calls
own_of-calls [] all = refl
own_of-calls (event ∷ rest) all =
    let first : is_outside event ≡ false = All-head IsCall event rest all in
    ap (λ b. cond (not b) (event ∷ own_of rest) (own_of rest)) first
    ∙ ap (λ (events : List PortEvent). event ∷ events) (own_of-calls rest (All-tail IsCall event rest all))

pub outside_of-calls : (calls : List PortEvent) → All IsCall calls → outside_of calls ≡ []
outside_of-calls [] all = refl
outside_of-calls (event ∷ rest) all =
    let first : is_outside event ≡ false = All-head IsCall event rest all in
    ap (λ b. cond b (event ∷ outside_of rest) (outside_of rest)) first
    ∙ outside_of-calls rest (All-tail IsCall event rest all)

-- ---- what is drawn is heard

module _ (d : Definition) (who : Identity) (from : ControlPoint) (s : Store) (q : PortState) where
  -- one entry
  hears_fuse : (deeds : List Deed) (history : List PortEvent) (mid : ControlPoint) (t : Store) (r : PortState) (own : Bool)
      (fuse : Fuse) (at : ℕ) → Runs d who from s q deeds history mid t r
      → Runs d who from s q deeds (history ++ cond own (Expire fuse.key fuse.arm fuse.due at ∷ []) []) mid t
      (cond own (expire_in r fuse.key fuse.arm fuse.due at) r)
  hears_fuse deeds history mid t r true fuse at runs =
      hears runs (Expire fuse.key fuse.arm fuse.due at) (expire_in r fuse.key fuse.arm fuse.due at) tt refl
  hears_fuse deeds history mid t r false fuse at runs = rw (append-nil history) runs

  hears_entry : (deeds : List Deed) (history : List PortEvent) (mid : ControlPoint) (t : Store) (r : PortState) (pid at : ℕ)
      (entry : Entry) → Runs d who from s q deeds history mid t r
      → Runs d who from s q deeds (history ++ entry_as pid at entry) mid t (after_entry pid r at entry)
  hears_entry deeds history mid t r pid at (Signal item) runs =
      hears runs (Put item) (after_entry pid r at (Signal item)) tt refl
  hears_entry deeds history mid t r pid at (Timer fuse) runs =
      hears_fuse deeds history mid t r (fuse.pid == pid) fuse at runs

  -- Where a run has come to, what its owner draws is heard: it makes of the port what a draw makes.
  pub Runs-drawn : (deeds : List Deed) (history : List PortEvent) (mid : ControlPoint) (t : Store) (r : PortState) (pid : ℕ)
      (news : List Placed) → Runs d who from s q deeds history mid t r
      → Runs d who from s q deeds (history ++ drawn_as pid news) mid t (after_draws pid r news)
  Runs-drawn deeds history mid t r pid [] runs = rw (append-nil history) runs
  Runs-drawn deeds history mid t r pid (placed ∷ more) runs =
      rw (← append_assoc history (entry_as pid placed.at placed.entry) (drawn_as pid more))
      (Runs-drawn deeds (history ++ entry_as pid placed.at placed.entry) mid t (after_draw pid r placed) pid more
      (hears_entry deeds history mid t r pid placed.at placed.entry runs))
