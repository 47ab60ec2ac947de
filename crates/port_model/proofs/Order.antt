use Rattle.std.proofs.Common.{◌≡◌, false, List, [], ◌∷◌, ◌++◌, Option, Some, None, subst, sym, ap, ◌∙◌, refl, ◌⊎◌, inl, inr, arith, ⊎_elim}
use Rattle.std.specs.Prelude.{option_to_list}
use Rattle.std.specs.List.{cons_option}
use Rattle.std.proofs.lemmas.List.{append-nil, append_assoc}
use Rattle.std.proofs.lemmas.List.Elements.{filter_map-append}
use Rattle.port_model.specs.declared.values.pid.Pid.{Pid}
use Rattle.port_model.specs.declared.values.item.Item.{Item}
use Rattle.port_model.specs.declared.values.timer_key.TimerKey.{TimerKey}
use Rattle.port_model.specs.declared.selection.Class.{Class}
use Rattle.port_model.specs.declared.selection.Class.TheVariants as class
use Rattle.port_model.specs.declared.got.Got.{Got}
use Rattle.port_model.specs.declared.got.Got.TheVariants.{Signal, Timer}
use Rattle.port_model.specs.declared.taken.Taken.TheVariants.{Consumed, Discarded, Nothing}
use Rattle.port_model.specs.History.{PortEvent, Put, Expire, Take, Set, Reset, Stop, PortStep}
use Rattle.port_model.specs.Laws.{IsSublist, signal_from, signals_from, put_by, puts_by, KeepsOrder, is_saved, saved_of, KeepsSaved}
use Rattle.port_model.specs.Port.{PortState}
use Rattle.port_model.specs.Selection.{class_of}
use Rattle.port_model.specs.Take.{name_of, HasClass, IsOrdinary, IsSaved, TakesFirst}
use Rattle.port_model.specs.Timers.{without_signal}
use Rattle.port_model.proofs.Lists.{With, first, later, middle, none_lost}

pub sublist_nil : {X : Type 0} (ys : List X) → IsSublist [] ys
sublist_nil [] = refl
sublist_nil (y ∷ ys) = inl (sublist_nil ys)

pub sublist_refl : {X : Type 0} (xs : List X) → IsSublist xs xs
sublist_refl [] = refl
sublist_refl (x ∷ xs) = inr (xs, refl, sublist_refl xs)

pub sublist-append : {X : Type 0} (xs ys us vs : List X) → IsSublist xs ys → IsSublist us vs → IsSublist (xs ++ us) (ys ++ vs)
sublist-append xs [] us vs one other = subst (λ l. IsSublist (l ++ us) vs) (sym one) other
sublist-append xs (y ∷ ys) us vs one other =
    ⊎_elim
    (λ skips. inl (sublist-append xs ys us vs skips other))
    (λ keeps. inr (keeps.0 ++ us, ap (λ l. l ++ us) keeps.1, sublist-append keeps.0 ys us vs keeps.2 other))
    one

pub sublist_trans : {X : Type 0} (xs ys zs : List X) → IsSublist xs ys → IsSublist ys zs → IsSublist xs zs
sublist_trans xs ys [] one other = subst (λ l. IsSublist xs l) other one
sublist_trans xs ys (z ∷ zs) one other =
    ⊎_elim
    (λ skips. inl (sublist_trans xs ys zs one skips))
    (λ keeps. ⊎_elim
    (λ skips. inl (sublist_trans xs keeps.0 zs skips keeps.2))
    (λ both. inr (both.0, both.1, sublist_trans both.0 keeps.0 zs both.2 keeps.2))
    (subst (λ l. IsSublist xs l) keeps.1 one))
    other

pub sublist_grows : {X : Type 0} (xs ys zs : List X) → IsSublist xs ys → IsSublist xs (ys ++ zs)
sublist_grows xs ys zs h =
    subst (λ l. IsSublist l (ys ++ zs)) (append-nil xs) (sublist-append xs ys [] zs h (sublist_nil zs))

module _ (sender : Pid) where
  abbrev sent : PortState → List Item
  sent port = signals_from sender port.waiting

  -- a take leaves a sublist
  sublist_taken : {got : Got} {rest all : List Got} → With got rest all → IsSublist (signals_from sender rest) (signals_from sender all)
  sublist_taken {got} (first rest) =
      elim (signal_from sender got) as (λ s. IsSublist (signals_from sender rest) (cons_option s (signals_from sender rest)))
      [ None ↦ sublist_refl (signals_from sender rest) | Some item ↦ inl (sublist_refl (signals_from sender rest)) ]
  sublist_taken (later e rest all w) =
      let less = sublist_taken w in
      elim (signal_from sender e) as (λ s. IsSublist (cons_option s (signals_from sender rest)) (cons_option s (signals_from sender all)))
      [ None ↦ less | Some item ↦ inr (signals_from sender rest, refl, less) ]

  -- a reset takes no signal out
  signals_from-without : (key : TimerKey) (waiting : List Got) → signals_from sender (without_signal key waiting) ≡ signals_from sender waiting
  signals_from-without key [] = refl
  signals_from-without key (Signal item ∷ waiting) = ap (cons_option (signal_from sender (Signal item))) (signals_from-without key waiting)
  signals_from-without key (Timer expired ∷ waiting) = grind (arith, signals_from-without key waiting)

  -- what the step of one event leaves of the signals of one sender
  abbrev IsInOrder : PortState → Option Item → PortState → Type 0
  IsInOrder old put new = IsSublist (sent new) (sent old ++ option_to_list put)

  same_in_order : (old new : PortState) (put : Option Item) → sent new ≡ sent old → IsInOrder old put new
  same_in_order old new put same =
      sublist_grows (sent new) (sent old) (option_to_list put) (subst (IsSublist (sent new)) same (sublist_refl (sent new)))

  taken_in_order : (Passed : Got → Type 0) (old new : PortState) (got : Got) → TakesFirst Passed old got new → IsInOrder old None new
  taken_in_order Passed old new got t =
      sublist_grows (sent new) (sent old) [] (subst (λ l. IsSublist (sent new) (signals_from sender l)) (sym t.was)
      (subst (λ p. IsSublist (sent p) (signals_from sender (t.before ++ got ∷ t.after))) (sym t.now) (sublist_taken (middle t.before t.after got))))

  order_step : (old new : PortState) (event : PortEvent) → PortStep old event new → IsInOrder old (put_by sender event) new
  order_step old new (Put item) step =
      let put : Option Item = signal_from sender (Signal item) in
      let more = filter_map-append (signal_from sender) old.waiting (Signal item ∷ []) in
      let either : (sent new ≡ sent old ++ option_to_list put) ⊎ (sent new ≡ sent old) = grind arith in
      ⊎_elim (λ e. subst (IsSublist (sent new)) e (sublist_refl (sent new))) (same_in_order old new put) either
  order_step old new (Expire key arm due at) step =
      same_in_order old new None (let more = filter_map-append (signal_from sender) old.waiting (Timer key ∷ []) in let none = append-nil (sent old) in grind arith)
  order_step old new (Take classes (Consumed got)) step =
      ⊎_elim
      (λ urgent. taken_in_order (IsOrdinary classes) old new got urgent.0)
      (λ first. taken_in_order (IsSaved classes) old new got first.1)
      step.1
  order_step old new (Take classes (Discarded got)) step = taken_in_order (IsSaved classes) old new got step.1.1
  order_step old new (Take classes Nothing) step = same_in_order old new None (ap sent step.1.1)
  order_step old new (Set key due arm) step = same_in_order old new None (ap sent step.2 ∙ signals_from-without key old.waiting)
  order_step old new (Reset key) step = same_in_order old new None (ap sent step.1 ∙ signals_from-without key old.waiting)
  order_step old new Stop step = subst (IsInOrder old None) (sym step.1) (sublist_nil (sent old ++ []))

pub keeps_order : KeepsOrder
keeps_order sender old new [] legal = same_in_order sender old new None (ap (sent sender) legal)
keeps_order sender old new (event ∷ events) legal =
    let put : Option Item = put_by sender event in
    let puts : List Item = puts_by sender events in
    let both : (sent sender old ++ option_to_list put) ++ puts ≡ sent sender old ++ cons_option put puts =
    append_assoc (sent sender old) (option_to_list put) puts ∙ ap (λ l. sent sender old ++ l) (grind arith) in
    subst (IsSublist (sent sender new)) both
    (sublist_trans (sent sender new) (sent sender legal.0 ++ puts) ((sent sender old ++ option_to_list put) ++ puts)
    (keeps_order sender legal.0 new events legal.2)
    (sublist-append (sent sender legal.0) (sent sender old ++ option_to_list put) puts puts
    (order_step sender old legal.0 event legal.1) (sublist_refl puts)))

-- what is taken is no saved entry
saved_kept : (classes : List Class) (Passed : Got → Type 0) (c : Class) (old new : PortState) (got : Got)
    → TakesFirst Passed old got new → HasClass c classes got → is_saved c ≡ false
    → saved_of classes new.waiting ≡ saved_of classes old.waiting
saved_kept classes Passed c old new got t is unsaved =
    let left = none_lost (λ x. is_saved (class_of classes (name_of x))) (middle t.before t.after got) (ap is_saved is ∙ unsaved) in
    ap (λ p. saved_of classes p.waiting) t.now ∙ sym left ∙ ap (saved_of classes) (sym t.was)

pub keeps_saved : KeepsSaved
keeps_saved classes old new (Consumed got) takes =
    ⊎_elim
    (λ urgent. saved_kept classes (IsOrdinary classes) class.Priority old new got urgent.0 urgent.1 refl)
    (λ first. saved_kept classes (IsSaved classes) class.Input old new got first.1 first.2 refl)
    takes
keeps_saved classes old new (Discarded got) takes =
    saved_kept classes (IsSaved classes) class.Discard old new got takes.1 takes.2 refl
keeps_saved classes old new Nothing takes = ap (λ p. saved_of classes p.waiting) takes.1
