-- The ports of a run are made one by one: there are desks and owners of all of them, at each moment.
use Rattle.std.proofs.Common.{◌≡◌, ◌∙◌, ℕ, ◌+◌, ◌<◌, Bool, true, false, List, [], ◌∷◌, ◌++◌, length, Option, Some, IfSome, get_or, ltb, sym, refl, ap, subst, arith}
use Rattle.std.proofs.lemmas.List.{get_or_append_left, get_or_push, length-append}
use Rattle.std.proofs.lemmas.Bool.{ltb-true, ltb-false}
use Rattle.std.specs.Option.{ForSome}
use Rattle.std.specs.declared.alloc.Global.{Global}
use Rattle.crossbeam_queue.specs.SegTies.{SegId}
use Rattle.port_model.specs.Ends.{OwnerState, no_port}
use Rattle.input_port.specs.QueueEnds.{DeskState, newborn}
use Rattle.input_port.specs.declared.queue.shared.Port.{Port}
use Rattle.threads_ports.specs.Named.{AreMade, HaveDesks, HaveOwners, name_of}

-- what is so of each of a list at its place, and of one more at the next, is so of each with that one
at_push : {X : Type 0} (P : ℕ → X → Type 0) (xs : List X) (x : X)
    → ((k : ℕ) (d : X) → k < length xs → P k (get_or xs k d)) → P (length xs) x
    → (k : ℕ) (d : X) → k < length (xs ++ x ∷ []) → P k (get_or (xs ++ x ∷ []) k d)
at_push P xs x each last k d below = by (ltb k (length xs)) refl
  where
    by : (less : Bool) → ltb k (length xs) ≡ less → P k (get_or (xs ++ x ∷ []) k d)
    by true is =
        let within : k < length xs = ltb-true k (length xs) is in
        subst (P k) (sym (get_or_append_left xs (x ∷ []) d k within)) (each k d within)
    by false is =
        let at : length xs ≡ k = omega (arith, ltb-false k (length xs) is, below, length-append xs (x ∷ [])) in
        subst (P k) (sym (get_or_push xs x d k at)) (subst (λ n. P n x) at last)

abbrev pub nobody : Port
nobody = record { queue = no_port; pid = 0 }

abbrev pub queue_at : List Port → ℕ → SegId Global
queue_at ports k = (get_or ports k nobody).queue

name_at : (ports : List Port) (k : ℕ) → name_of ports (k + 1) ≡ queue_at ports k
name_at ports k = ap (queue_at ports) (omega arith)

name_before : (ports : List Port) (p : Port) (k : ℕ) → k < length ports
    → name_of (ports ++ p ∷ []) (k + 1) ≡ name_of ports (k + 1)
name_before ports p k below =
    name_at (ports ++ p ∷ []) k
    ∙ ap (λ (q : Port). q.queue) (get_or_append_left ports (p ∷ []) nobody k below)
    ∙ sym (name_at ports k)

name_last : (ports : List Port) (p : Port) (k : ℕ) → length ports ≡ k → name_of (ports ++ p ∷ []) (k + 1) ≡ p.queue
name_last ports p k at =
    name_at (ports ++ p ∷ []) k ∙ ap (λ (q : Port). q.queue) (get_or_push ports p nobody k at)

module _ (ports : List Port) (p : Port) where
  abbrev pub names : ℕ → SegId Global
  names = name_of (ports ++ p ∷ [])

  desks_more : (desks : List DeskState) (d : DeskState) → length desks ≡ length ports
      → HaveDesks (name_of ports) desks → d.port ≡ p.queue → HaveDesks names (desks ++ d ∷ [])
  desks_more desks d long have is =
      at_push (λ k (e : DeskState). e.port ≡ names (k + 1)) desks d
      (λ k e below. have k e below ∙ sym (name_before ports p k (omega (arith, below, long))))
      (is ∙ sym (name_last ports p (length desks) (sym long)))

  -- the owner that comes next, as it is made
  abbrev pub next : List (Option OwnerState) → OwnerState
  next owners = newborn (names (length owners + 1)) (length owners + 1)

  owners_more : (owners : List (Option OwnerState)) (o : OwnerState) → length owners ≡ length ports
      → HaveOwners (name_of ports) owners → o ≡ newborn p.queue (length ports + 1)
      → HaveOwners names (owners ++ Some o ∷ [])
  owners_more owners o long have is =
      at_push (λ k (owner : Option OwnerState). ForSome owner (λ x. x ≡ newborn (names (k + 1)) (k + 1)))
      owners (Some o)
      (λ k e below x there.
      have k e below x there
      ∙ ap (λ name. newborn name (k + 1)) (sym (name_before ports p k (omega (arith, below, long)))))
      (λ x there. subst (λ (owner : Option OwnerState). IfSome owner (λ y. y ≡ next owners)) there new)
    where
      new : o ≡ next owners
      new =
          is
          ∙ ap (λ name. newborn name (length ports + 1)) (sym (name_last ports p (length owners) (sym long)))
          ∙ ap (λ n. newborn (names (length owners + 1)) (n + 1)) (sym long)

  made_one : (desks : List DeskState) (d : DeskState) (owners : List (Option OwnerState)) (o : OwnerState)
      → AreMade ports desks owners → d.port ≡ p.queue → o ≡ newborn p.queue (length ports + 1)
      → AreMade (ports ++ p ∷ []) (desks ++ d ∷ []) (owners ++ Some o ∷ [])
  made_one desks d owners o made desk owner = record {
    desks_long =
        length-append desks (d ∷ []) ∙ ap (λ n. n + 1) made.desks_long ∙ sym (length-append ports (p ∷ []));
    owners_long =
        length-append owners (Some o ∷ []) ∙ ap (λ n. n + 1) made.owners_long ∙ sym (length-append ports (p ∷ []));
    desks_of = desks_more desks d made.desks_long made.desks_of desk;
    owners_of = owners_more owners o made.owners_long made.owners_of owner;
  }

-- with one port more, its desk and its owner
pub made_more : (ports more : List Port) (desks more_desks : List DeskState)
    (owners more_owners : List (Option OwnerState)) (p : Port) (d : DeskState) (o : OwnerState) (count : ℕ)
    → length ports ≡ count → AreMade ports desks owners → d.port ≡ p.queue → o ≡ newborn p.queue (count + 1)
    → more ≡ ports ++ p ∷ [] → more_desks ≡ desks ++ d ∷ [] → more_owners ≡ owners ++ Some o ∷ []
    → (length more ≡ count + 1) × AreMade more more_desks more_owners
made_more ports more desks more_desks owners more_owners p d o count long made desk owner rows_are desks_are
    owners_are =
    rw (rows_are, desks_are, owners_are) (
      length-append ports (p ∷ []) ∙ ap (λ n. n + 1) long,
      made_one ports p desks d owners o made desk (owner ∙ ap (λ n. newborn p.queue (n + 1)) (sym long)),
    )
