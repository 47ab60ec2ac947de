-- What is left of a run, instance by instance.
use mathlib.Core.Bool.{beq, not}
use Rattle.std.proofs.Common.{◌≡◌, ◌∙◌, ◌<◌, ◌+◌, ap, arith, get_or, length, map, refl, subst, sym, ⊎_elim, ℕ, Bool, true, false, List, [], ◌∷◌, ◌++◌, Option}
use Rattle.std.specs.declared.alloc.Global.{Global}
use Rattle.std.proofs.lemmas.Bool.{cases_eq}
use Rattle.std.proofs.lemmas.List.{get_or_append_left, get_or_default, get_or_push, length_push, length-map, map-append}
use Rattle.crossbeam_queue.specs.SegTies.{SegId}
use Rattle.input_port.specs.Ends.{HeldState}
use Rattle.port_model.specs.Ends.{OwnerState, no_port}
use Rattle.input_port.specs.QueueEnds.{newborn}
use Rattle.port_model.specs.declared.course.course_log.CourseLog.{CourseLog}
use Rattle.run_record.specs.Record.{RecordValue}
use Rattle.sdl_system.specs.System.{SystemValue}
use Rattle.settle_checks.specs.Account.{AllAt, AreOwnersOf, HavePut, put_at}
use Rattle.settle_closing.specs.Left.{ClosingState, IsLeftOfOne}
use Rattle.settle_closing.specs.PortThen.{then_of}
use Rattle.settle_closing.specs.declared.ending.PortThen.{PortThen}
use Rattle.port_model.specs.declared.values.value.Value.{Value}
use Rattle.settle_run.specs.Gifts.{children_at, given_at}
use Rattle.settle_run.specs.Parts.{AreColumnsOf, AreParts, AreThensOf, logs_of, owner_at, owners_in, owners_of, peers_of, records_of}
use Rattle.threads_instance.specs.declared.doings.Child.{Child}
use Rattle.threads_instance.specs.declared.doings.Gifts.{Gifts}
use Rattle.threads_ports.specs.Peers.{PeersState, put_to}

-- two answers that a test finds to be the same
pub same_flags : (x y : Bool) → not (beq x y) ≡ false → x ≡ y
same_flags true true e = refl
same_flags true false e = e
same_flags false true e = sym e
same_flags false false e = refl

abbrev none : HeldState
none = record { owner = newborn no_port 0; since = [] }

owner_before : (inboxes : List HeldState) (inbox : HeldState) (k : ℕ) → k < length inboxes
    → owner_at (inboxes ++ inbox ∷ []) k ≡ owner_at inboxes k
owner_before inboxes inbox k within =
    ap (λ (h : HeldState). h.owner) (get_or_append_left inboxes (inbox ∷ []) none k within)

owner_last : (inboxes : List HeldState) (inbox : HeldState) (k : ℕ) → length inboxes ≡ k
    → owner_at (inboxes ++ inbox ∷ []) k ≡ inbox.owner
owner_last inboxes inbox k at = ap (λ (h : HeldState). h.owner) (get_or_push inboxes inbox none k at)

-- what is kept of each, with one more at the end
module _ {X : Type 0} (f : Gifts → X) (none : X) (gifts : List Gifts) (one : Gifts) (k : ℕ) where
  abbrev kept : List Gifts → X
  kept all = get_or (map f all) k none

  kept_before : k < length gifts → kept (gifts ++ one ∷ []) ≡ kept gifts
  kept_before within =
      ap (λ (l : List X). get_or l k none) (map-append f gifts (one ∷ []))
      ∙ get_or_append_left (map f gifts) (f one ∷ []) none k (omega (arith, within, length-map gifts f))

  kept_last : length gifts ≡ k → kept (gifts ++ one ∷ []) ≡ f one
  kept_last at =
      ap (λ (l : List X). get_or l k none) (map-append f gifts (one ∷ []))
      ∙ get_or_push (map f gifts) (f one) none k (length-map gifts f ∙ at)

abbrev given_of : Gifts → List Value
given_of one = one.given

abbrev children_of : Gifts → List Child
children_of one = one.children.items

module _ (named : Option SystemValue) (ports : ℕ → SegId Global) (whole : Bool) (environment : PeersState) where
  left_same : (trace t : RecordValue) (owner o : OwnerState) (peers p : PeersState) (given v : List Value)
      (children c : List Child) → trace ≡ t → owner ≡ o → peers ≡ p → given ≡ v → children ≡ c
      → IsLeftOfOne named ports whole t o p v c → IsLeftOfOne named ports whole trace owner peers given children
  left_same trace t owner o peers p given v children c trace_is owner_is peers_are given_is children_are left =
      subst (λ (x : RecordValue). IsLeftOfOne named ports whole x owner peers given children) (sym trace_is)
      (subst (λ (x : OwnerState). IsLeftOfOne named ports whole t x peers given children) (sym owner_is)
      (subst (λ (x : PeersState). IsLeftOfOne named ports whole t o x given children) (sym peers_are)
      (subst (λ (x : List Value). IsLeftOfOne named ports whole t o p x children) (sym given_is)
      (subst (λ (x : List Child). IsLeftOfOne named ports whole t o p v x) (sym children_are) left))))

  -- no instance so far
  pub parts_none : (records : List RecordValue) (gifts : List Gifts) (inboxes : List HeldState) (thens : List PortThen)
      (places : List PeersState) → records ≡ [] → gifts ≡ [] → inboxes ≡ [] → thens ≡ [] → places ≡ environment ∷ []
      → AreParts named ports whole environment records gifts inboxes thens places
  parts_none records gifts inboxes thens places records_are gifts_are inboxes_are thens_are places_are = record {
    gifts_long = ap length gifts_are ∙ sym (ap length records_are);
    inboxes_long = ap length inboxes_are ∙ sym (ap length records_are);
    thens_long = ap length thens_are ∙ sym (ap length records_are);
    places_long = ap length places_are ∙ sym (ap (λ (l : List RecordValue). length l + 1) records_are);
    environment_is = ap (λ (l : List PeersState). get_or l 0 []) places_are;
    left = λ k d within.
        let few : length records ≡ 0 = ap length records_are in
        let wrong : ⊥ = omega (arith, within, few) in absurd wrong;
    thens_are = λ k d within.
        let few : length thens ≡ 0 = ap length thens_are in
        let wrong : ⊥ = omega (arith, within, few) in absurd wrong;
  }

  module _ (records : List RecordValue) (gifts : List Gifts) (inboxes : List HeldState) (thens : List PortThen)
      (places : List PeersState) (are : AreParts named ports whole environment records gifts inboxes thens places)
      (trace : RecordValue) (gift : Gifts) (inbox : HeldState) (then : PortThen) (peers : PeersState)
      (here : IsLeftOfOne named ports whole trace inbox.owner peers gift.given gift.children.items)
      (then_is : then ≡ then_of inbox.owner) where
    left_more : (k : ℕ) (d : RecordValue) → k < length (records ++ trace ∷ [])
        → IsLeftOfOne named ports whole (get_or (records ++ trace ∷ []) k d) (owner_at (inboxes ++ inbox ∷ []) k)
        (get_or (places ++ peers ∷ []) (k + 1) []) (given_at (gifts ++ gift ∷ []) k) (children_at (gifts ++ gift ∷ []) k)
    left_more k d within =
        ⊎_elim
        (λ (same : k ≡ length records).
        let gift_at : length gifts ≡ k = are.gifts_long ∙ sym same in
        left_same (get_or (records ++ trace ∷ []) k d) trace (owner_at (inboxes ++ inbox ∷ []) k) inbox.owner
        (get_or (places ++ peers ∷ []) (k + 1) []) peers (given_at (gifts ++ gift ∷ []) k) gift.given
        (children_at (gifts ++ gift ∷ []) k) gift.children.items (get_or_push records trace d k (sym same))
        (owner_last inboxes inbox k (are.inboxes_long ∙ sym same))
        (get_or_push places peers [] (k + 1) (are.places_long ∙ ap (λ n. n + 1) (sym same)))
        (kept_last given_of [] gifts gift k gift_at) (kept_last children_of [] gifts gift k gift_at) here)
        (λ (apart : k ≡ length records → ⊥).
        let less : k < length records = grind (arith, within, apart, length_push records trace) in
        let there : k < length inboxes = omega (arith, less, are.inboxes_long) in
        let at_place : k + 1 < length places = omega (arith, less, are.places_long) in
        let at_gift : k < length gifts = omega (arith, less, are.gifts_long) in
        left_same (get_or (records ++ trace ∷ []) k d) (get_or records k d) (owner_at (inboxes ++ inbox ∷ []) k)
        (owner_at inboxes k) (get_or (places ++ peers ∷ []) (k + 1) []) (get_or places (k + 1) [])
        (given_at (gifts ++ gift ∷ []) k) (given_at gifts k) (children_at (gifts ++ gift ∷ []) k) (children_at gifts k)
        (get_or_append_left records (trace ∷ []) d k less) (owner_before inboxes inbox k there)
        (get_or_append_left places (peers ∷ []) [] (k + 1) at_place)
        (kept_before given_of [] gifts gift k at_gift) (kept_before children_of [] gifts gift k at_gift)
        (are.left k d less))
        (cases_eq k (length records))

    thens_more : AreThensOf (owner_at (inboxes ++ inbox ∷ [])) (thens ++ then ∷ [])
    thens_more k d within =
        ⊎_elim
        (λ (same : k ≡ length thens).
        get_or_push thens then d k (sym same) ∙ then_is
        ∙ ap then_of (sym (owner_last inboxes inbox k (are.inboxes_long ∙ sym are.thens_long ∙ sym same))))
        (λ (apart : k ≡ length thens → ⊥).
        let less : k < length thens = grind (arith, within, apart, length_push thens then) in
        let there : k < length inboxes = omega (arith, less, are.inboxes_long, are.thens_long) in
        get_or_append_left thens (then ∷ []) d k less ∙ are.thens_are k d less
        ∙ ap then_of (sym (owner_before inboxes inbox k there)))
        (cases_eq k (length thens))

    parts_one : AreParts named ports whole environment (records ++ trace ∷ []) (gifts ++ gift ∷ []) (inboxes ++ inbox ∷ [])
        (thens ++ then ∷ []) (places ++ peers ∷ [])
    parts_one = record {
      gifts_long = length_push gifts gift ∙ ap (λ n. n + 1) are.gifts_long ∙ sym (length_push records trace);
      inboxes_long = length_push inboxes inbox ∙ ap (λ n. n + 1) are.inboxes_long ∙ sym (length_push records trace);
      thens_long = length_push thens then ∙ ap (λ n. n + 1) are.thens_long ∙ sym (length_push records trace);
      places_long = length_push places peers ∙ ap (λ n. n + 1) are.places_long
          ∙ ap (λ n. n + 1) (sym (length_push records trace));
      environment_is = get_or_append_left places (peers ∷ []) [] 0 (omega (arith, are.places_long))
          ∙ are.environment_is;
      left = left_more;
      thens_are = thens_more;
    }

    -- one instance more
    pub parts_more : (more_records : List RecordValue) (more_gifts : List Gifts) (more_inboxes : List HeldState)
        (more_thens : List PortThen) (more_places : List PeersState) → more_records ≡ records ++ trace ∷ []
        → more_gifts ≡ gifts ++ gift ∷ [] → more_inboxes ≡ inboxes ++ inbox ∷ [] → more_thens ≡ thens ++ then ∷ []
        → more_places ≡ places ++ peers ∷ []
        → AreParts named ports whole environment more_records more_gifts more_inboxes more_thens more_places
    parts_more more_records more_gifts more_inboxes more_thens more_places records_are gifts_are inboxes_are thens_are
        places_are =
        rw (records_are, gifts_are, inboxes_are, thens_are, places_are) parts_one

  -- the owners and the ports, and what was put
  pub are_owners : (records : List RecordValue) (gifts : List Gifts) (inboxes : List HeldState) (thens : List PortThen)
      (places : List PeersState) → AreParts named ports whole environment records gifts inboxes thens places
      → AreOwnersOf (owner_at inboxes) ports records inboxes
  are_owners records gifts inboxes thens places are k d within trace below is =
      let owner : (get_or inboxes k d).owner ≡ owner_at inboxes k =
      ap (λ (h : HeldState). h.owner) (get_or_default inboxes k d none within) in
      let left : IsLeftOfOne named ports whole (get_or records k trace) (owner_at inboxes k) (get_or places (k + 1) [])
      (given_at gifts k) (children_at gifts k) = are.left k trace below in
      record {
        owner = owner;
        port = ap (λ (o : OwnerState). o.port) (owner ∙ left.left.owner_is) ∙ left.left.seated.port
            ∙ ap ports (sym left.left.closed.pid ∙ ap (λ (t : RecordValue). t.pid) (sym is));
      }

-- ---- of which instances the columns are

pub columns_none : (environment : PeersState) (records : List RecordValue) (logs : List CourseLog)
    (inboxes : List HeldState) (places : List PeersState) → records ≡ [] → logs ≡ [] → inboxes ≡ []
    → places ≡ environment ∷ [] → AreColumnsOf environment [] records logs inboxes places
columns_none environment records logs inboxes places records_are logs_are inboxes_are places_are = record {
  records_are = records_are;
  logs_are = logs_are;
  owners_are = ap owners_in inboxes_are;
  places_are = places_are;
}

-- one instance more
pub columns_more : (environment : PeersState) (closings : List ClosingState) (closing : ClosingState)
    (records more_records : List RecordValue) (logs more_logs : List CourseLog) (inboxes more_inboxes : List HeldState)
    (places more_places : List PeersState) (trace : RecordValue) (log : CourseLog) (inbox : HeldState)
    (peers : PeersState) → AreColumnsOf environment closings records logs inboxes places → trace ≡ closing.trace
    → log ≡ closing.course → inbox.owner ≡ closing.owner → peers ≡ closing.peers → more_records ≡ records ++ trace ∷ []
    → more_logs ≡ logs ++ log ∷ [] → more_inboxes ≡ inboxes ++ inbox ∷ [] → more_places ≡ places ++ peers ∷ []
    → AreColumnsOf environment (closings ++ closing ∷ []) more_records more_logs more_inboxes more_places
columns_more environment closings closing records more_records logs more_logs inboxes more_inboxes places more_places
    trace log inbox peers are trace_is log_is owner_is peers_are records_more logs_more inboxes_more places_more = record {
      records_are = records_more ∙ ap (λ l. l ++ trace ∷ []) are.records_are
          ∙ ap (λ (t : RecordValue). records_of closings ++ t ∷ []) trace_is
          ∙ sym (map-append (λ (c : ClosingState). c.trace) closings (closing ∷ []));
      logs_are = logs_more ∙ ap (λ l. l ++ log ∷ []) are.logs_are
          ∙ ap (λ (x : CourseLog). logs_of closings ++ x ∷ []) log_is
          ∙ sym (map-append (λ (c : ClosingState). c.course) closings (closing ∷ []));
      owners_are = ap owners_in inboxes_more ∙ map-append (λ (h : HeldState). h.owner) inboxes (inbox ∷ [])
          ∙ ap (λ l. l ++ inbox.owner ∷ []) are.owners_are
          ∙ ap (λ (o : OwnerState). owners_of closings ++ o ∷ []) owner_is
          ∙ sym (map-append (λ (c : ClosingState). c.owner) closings (closing ∷ []));
      places_are = places_more ∙ ap (λ l. l ++ peers ∷ []) are.places_are
          ∙ ap (λ (p : PeersState). environment ∷ (peers_of closings ++ p ∷ [])) peers_are
          ∙ ap (λ l. environment ∷ l) (sym (map-append (λ (c : ClosingState). c.peers) closings (closing ∷ [])));
    }

pub have_put : (places : List PeersState) → AllAt (HavePut (put_at places)) places
have_put places k d within number =
    ap (λ (peers : PeersState). put_to peers number) (get_or_default places k d [] within)
