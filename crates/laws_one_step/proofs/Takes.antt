-- A take can go one way only.
use Rattle.std.proofs.Common.{◌≡◌, ◌∙◌, All, List, [], ◌∷◌, ◌++◌, ap, inl, inr, refl, subst, sym}
use Rattle.std.proofs.lemmas.List.Elements.{All-head, All-tail, All-weaker}
use Rattle.port_model.specs.Port.{PortState}
use Rattle.port_model.specs.Selection.{class_of}
use Rattle.port_model.specs.Take.{HasClass, IsOrdinary, IsSaved, Takes, TakesFirst, name_of}
use Rattle.port_model.specs.Timers.{after_taking}
use Rattle.port_model.specs.declared.got.Got.{Got}
use Rattle.port_model.specs.declared.values.item.SignalId.{SignalId}
use Rattle.port_model.specs.declared.selection.Class.{Class}
use Rattle.port_model.specs.declared.selection.Class.TheVariants as class
use Rattle.port_model.specs.declared.taken.Taken.{Taken}
use Rattle.port_model.specs.declared.taken.Taken.TheVariants.{Consumed, Discarded, Nothing}

-- ---- the first that isn't passed over

record Parted (before before' : List Got) (got got' : Got) (after after' : List Got) : Type 0 where
  same_before : before ≡ before'
  same : got ≡ got'
  same_after : after ≡ after'

module _ (Passed : Got → Type 0) where
  parted : (before before' : List Got) (got got' : Got) (after after' : List Got) → All Passed before
      → All Passed before' → (Passed got → ⊥) → (Passed got' → ⊥)
      → before ++ got ∷ after ≡ before' ++ got' ∷ after' → Parted before before' got got' after after'
  parted [] [] got got' after after' first second stops halts same =
      record { same_before = refl; same = cc; same_after = cc }
  parted [] (x ∷ xs) got got' after after' first second stops halts same =
      let is : x ≡ got = cc in absurd (stops (subst Passed is (All-head Passed x xs second)))
  parted (x ∷ xs) [] got got' after after' first second stops halts same =
      let is : x ≡ got' = cc in absurd (halts (subst Passed is (All-head Passed x xs first)))
  parted (x ∷ xs) (y ∷ ys) got got' after after' first second stops halts same =
      let is : x ≡ y = cc in
      let tail : xs ++ got ∷ after ≡ ys ++ got' ∷ after' = cc in
      let later : Parted xs ys got got' after after' =
      parted xs ys got got' after after' (All-tail Passed x xs first) (All-tail Passed y ys second) stops halts tail in
      let rest : xs ≡ ys = later.same_before in
      record { same_before = cc; same = later.same; same_after = later.same_after }

  all_mid : (before : List Got) (got : Got) (after : List Got) → All Passed (before ++ got ∷ after) → Passed got
  all_mid [] got after all = All-head Passed got after all
  all_mid (x ∷ xs) got after all = all_mid xs got after (All-tail Passed x (xs ++ got ∷ after) all)

  firsts : (old new new' : PortState) (got got' : Got) → TakesFirst Passed old got new → TakesFirst Passed old got' new'
      → (Passed got → ⊥) → (Passed got' → ⊥) → (got ≡ got') × (new ≡ new')
  firsts old new new' got got' first second stops halts =
      let left : List Got → List Got → Got → PortState =
      λ before after taken. record old { waiting = before ++ after; timers = after_taking taken old.timers } in
      let lists : first.before ++ got ∷ first.after ≡ second.before ++ got' ∷ second.after =
      sym first.was ∙ second.was in
      let same : Parted first.before second.before got got' first.after second.after =
      parted first.before second.before got got' first.after second.after first.passed second.passed stops halts lists
      in (same.same, first.now ∙ (λ k. left (same.same_before k) (same.same_after k) (same.same k)) ∙ sym second.now)

-- what holds of all that waits holds of what is taken
of_taken : (P Passed : Got → Type 0) (old new : PortState) (got : Got) → All P old.waiting
    → TakesFirst Passed old got new → P got
of_taken P Passed old new got all first =
    all_mid P first.before got first.after (subst (λ list. All P list) first.was all)

-- ---- by one selection

module _ (classes : List Class) (old new new' : PortState) where
  not_ordinary : (got : Got) → HasClass class.Priority classes got → IsOrdinary classes got → ⊥
  not_ordinary got has ordinary = ordinary has

  not_saved : (got : Got) (c : Class) → HasClass c classes got → (class.Saved ≡ c → ⊥) → IsSaved classes got → ⊥
  not_saved got c has other saved = other (sym saved ∙ has)

  input_saved : class.Saved ≡ class.Input → ⊥
  input_saved same = cc

  discard_saved : class.Saved ≡ class.Discard → ⊥
  discard_saved same = cc

  priority_saved : class.Saved ≡ class.Priority → ⊥
  priority_saved same = cc

  abbrev Same : Taken → Taken → Type 0
  Same taken taken' = (taken ≡ taken') × (new ≡ new')

  -- what both consume is the same
  consumed_same : (got got' : Got) → (got ≡ got') × (new ≡ new') → Same (Consumed got) (Consumed got')
  consumed_same got got' same = (ap Consumed same.0, same.1)

  discarded_same : (got got' : Got) → (got ≡ got') × (new ≡ new') → Same (Discarded got) (Discarded got')
  discarded_same got got' same = (ap Discarded same.0, same.1)

  -- an entry has one class
  one_class : (got got' : Got) (c c' : Class) → got ≡ got' → HasClass c classes got → HasClass c' classes got' → c ≡ c'
  one_class got got' c c' same has has' =
      sym has ∙ ap (λ g. class_of classes (name_of g)) same ∙ has'

  input_discard : class.Input ≡ class.Discard → ⊥
  input_discard same = cc

  pub takes_one : (taken taken' : Taken) → Takes classes old taken new → Takes classes old taken' new'
      → (taken ≡ taken') × (new ≡ new')
  takes_one (Consumed got) (Consumed got') (inl first) (inl second) =
      consumed_same got got' (firsts (IsOrdinary classes) old new new' got got' first.0 second.0
      (not_ordinary got first.1) (not_ordinary got' second.1))
  takes_one (Consumed got) (Consumed got') (inl first) (inr second) =
      absurd (not_ordinary got first.1
      (of_taken (IsOrdinary classes) (IsOrdinary classes) old new got second.0 first.0))
  takes_one (Consumed got) (Consumed got') (inr first) (inl second) =
      absurd (not_ordinary got' second.1
      (of_taken (IsOrdinary classes) (IsOrdinary classes) old new' got' first.0 second.0))
  takes_one (Consumed got) (Consumed got') (inr first) (inr second) =
      consumed_same got got' (firsts (IsSaved classes) old new new' got got' first.1 second.1
      (not_saved got class.Input first.2 input_saved) (not_saved got' class.Input second.2 input_saved))
  takes_one (Consumed got) (Discarded got') (inl first) second =
      absurd (not_ordinary got first.1
      (of_taken (IsOrdinary classes) (IsOrdinary classes) old new got second.0 first.0))
  takes_one (Consumed got) (Discarded got') (inr first) second =
      let same = firsts (IsSaved classes) old new new' got got' first.1 second.1
      (not_saved got class.Input first.2 input_saved) (not_saved got' class.Discard second.2 discard_saved) in
      absurd (input_discard (one_class got got' class.Input class.Discard same.0 first.2 second.2))
  takes_one (Consumed got) Nothing (inl first) second =
      absurd (not_saved got class.Priority first.1 priority_saved
      (of_taken (IsSaved classes) (IsOrdinary classes) old new got second.0 first.0))
  takes_one (Consumed got) Nothing (inr first) second =
      absurd (not_saved got class.Input first.2 input_saved
      (of_taken (IsSaved classes) (IsSaved classes) old new got second.0 first.1))
  takes_one (Discarded got) (Consumed got') first (inl second) =
      absurd (not_ordinary got' second.1
      (of_taken (IsOrdinary classes) (IsOrdinary classes) old new' got' first.0 second.0))
  takes_one (Discarded got) (Consumed got') first (inr second) =
      let same = firsts (IsSaved classes) old new new' got got' first.1 second.1
      (not_saved got class.Discard first.2 discard_saved) (not_saved got' class.Input second.2 input_saved) in
      absurd (input_discard (sym (one_class got got' class.Discard class.Input same.0 first.2 second.2)))
  takes_one (Discarded got) (Discarded got') first second =
      discarded_same got got' (firsts (IsSaved classes) old new new' got got' first.1 second.1
      (not_saved got class.Discard first.2 discard_saved) (not_saved got' class.Discard second.2 discard_saved))
  takes_one (Discarded got) Nothing first second =
      absurd (not_saved got class.Discard first.2 discard_saved
      (of_taken (IsSaved classes) (IsSaved classes) old new got second.0 first.1))
  takes_one Nothing (Consumed got') first (inl second) =
      absurd (not_saved got' class.Priority second.1 priority_saved
      (of_taken (IsSaved classes) (IsOrdinary classes) old new' got' first.0 second.0))
  takes_one Nothing (Consumed got') first (inr second) =
      absurd (not_saved got' class.Input second.2 input_saved
      (of_taken (IsSaved classes) (IsSaved classes) old new' got' first.0 second.1))
  takes_one Nothing (Discarded got') first second =
      absurd (not_saved got' class.Discard second.2 discard_saved
      (of_taken (IsSaved classes) (IsSaved classes) old new' got' first.0 second.1))
  takes_one Nothing Nothing first second = (refl, first.1 ∙ sym second.1)

-- ---- by two selections that give each name the same class

module _ (one other : List Class) (same : (name : SignalId) → class_of one name ≡ class_of other name) where
  all_so : (P Q : Got → Type 0) → ((got : Got) → P got → Q got) → (list : List Got) → All P list → All Q list
  all_so P Q so list all = All-weaker P Q so list all

  ordinary_so : (got : Got) → IsOrdinary one got → IsOrdinary other got
  ordinary_so got is = λ has. is (same (name_of got) ∙ has)

  saved_so : (got : Got) → IsSaved one got → IsSaved other got
  saved_so got is = sym (same (name_of got)) ∙ is

  class_so : (c : Class) (got : Got) → HasClass c one got → HasClass c other got
  class_so c got has = sym (same (name_of got)) ∙ has

  first_so : (P Q : Got → Type 0) (old new : PortState) (got : Got) → ((g : Got) → P g → Q g)
      → TakesFirst P old got new → TakesFirst Q old got new
  first_so P Q old new got so first = record {
    before = first.before;
    after = first.after;
    was = first.was;
    passed = all_so P Q so first.before first.passed;
    now = first.now;
  }

  pub takes_so : (old new : PortState) (taken : Taken) → Takes one old taken new → Takes other old taken new
  takes_so old new (Consumed got) (inl first) =
      inl (
        first_so (IsOrdinary one) (IsOrdinary other) old new got ordinary_so first.0,
        class_so class.Priority got first.1,
      )
  takes_so old new (Consumed got) (inr first) =
      inr (
        all_so (IsOrdinary one) (IsOrdinary other) ordinary_so old.waiting first.0,
        first_so (IsSaved one) (IsSaved other) old new got saved_so first.1,
        class_so class.Input got first.2,
      )
  takes_so old new (Discarded got) first = (
    all_so (IsOrdinary one) (IsOrdinary other) ordinary_so old.waiting first.0,
    first_so (IsSaved one) (IsSaved other) old new got saved_so first.1,
    class_so class.Discard got first.2,
  )
  takes_so old new Nothing first = (all_so (IsSaved one) (IsSaved other) saved_so old.waiting first.0, first.1)
