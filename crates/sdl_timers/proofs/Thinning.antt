-- Lists of fuses without spent ones, as fuses are armed in both.
use Rattle.std.proofs.Common.{◌≡◌, ◌∙◌, ℕ, zero, suc, ◌<◌, ◌%◌, Bool, true, false, filter, if◌then◌else◌, inl, inr, not, List, [], ◌∷◌, ◌++◌, Option, ap, arith, get_or, length, refl, set, subst, sym}
use Rattle.std.specs.List.{All}
use Rattle.std.proofs.lemmas.List.{get_or_default}
use Rattle.std.proofs.lemmas.List.Elements.{All-cons, All-head, All-nil, All-tail}
use Rattle.port_model.specs.declared.inbox.entry.Fuse.{Fuse}
use Rattle.sdl_timers.specs.declared.due.Due.{Due}
use Rattle.sdl_timers.specs.DueOrder.{first_of, is_before, with_fuse, IsInOrder}
use Rattle.sdl_timers.specs.Slots.{armed, all_fuses, IsWheel}
use Rattle.sdl_timers.specs.Thinned.{Thins}
use Rattle.sdl_timers.proofs.Arming.{AllAfter, IsInOrder-with_fuse, armed_by, before_along, behind, stands_first, together}
use Rattle.sdl_timers.proofs.Firing.{changed, of_slot}
use Rattle.sdl_timers.proofs.Turning.{Kept, fuses_in}

module _ (spent : Fuse → Bool) where
  -- none is taken out
  pub thins_none : (fuses : List Fuse) → Thins spent fuses fuses
  thins_none [] = refl
  thins_none (fuse ∷ more) = inr (more, refl, thins_none more)

  -- what holds of all holds of those that are left
  pub thins_all : (P : Fuse → Type 0) (fuses left : List Fuse) → Thins spent fuses left → All P fuses → All P left
  thins_all P [] left none all = subst (All P) (sym none) (All-nil P)
  thins_all P (fuse ∷ more) left (inl (gone, thins)) all = thins_all P more left thins (All-tail P fuse more all)
  thins_all P (fuse ∷ more) left (inr (rest, is, thins)) all =
      subst (All P) (sym is)
      (All-cons P fuse rest (All-head P fuse more all) (thins_all P more rest thins (All-tail P fuse more all)))

  pub thins_in_order : (fuses left : List Fuse) → Thins spent fuses left → IsInOrder fuses → IsInOrder left
  thins_in_order [] left none ordered = subst IsInOrder (sym none) tt
  thins_in_order (fuse ∷ more) left (inl (gone, thins)) ordered = thins_in_order more left thins ordered.1
  thins_in_order (fuse ∷ more) left (inr (rest, is, thins)) ordered =
      subst IsInOrder (sym is) (
        thins_all (λ other. is_before other fuse ≡ false) more rest thins ordered.0,
        thins_in_order more rest thins ordered.1,
      )

  pub thins_append : (fuses left others kept : List Fuse) → Thins spent fuses left → Thins spent others kept
      → Thins spent (fuses ++ others) (left ++ kept)
  thins_append [] left others kept none later =
      subst (λ (list : List Fuse). Thins spent others (list ++ kept)) (sym none) later
  thins_append (fuse ∷ more) left others kept (inl (gone, thins)) later =
      inl (gone, thins_append more left others kept thins later)
  thins_append (fuse ∷ more) left others kept (inr (rest, is, thins)) later =
      inr (rest ++ kept, ap (λ (list : List Fuse). list ++ kept) is, thins_append more rest others kept thins later)

  on_left : (fuse : Fuse) (more rest fewer : List Fuse)
      → ((list : List Fuse) → Thins spent rest list → Thins spent more list) → Thins spent (fuse ∷ rest) fewer
      → Thins spent (fuse ∷ more) fewer
  on_left fuse more rest fewer on (inl (gone, thins)) = inl (gone, on fewer thins)
  on_left fuse more rest fewer on (inr (list, is, thins)) = inr (list, is, on list thins)

  -- some are taken out, and then some more
  pub thins_on : (fuses left fewer : List Fuse) → Thins spent fuses left → Thins spent left fewer
      → Thins spent fuses fewer
  thins_on [] left fewer none again = subst (λ (list : List Fuse). Thins spent list fewer) none again
  thins_on (fuse ∷ more) left fewer (inl (gone, thins)) again = inl (gone, thins_on more left fewer thins again)
  thins_on (fuse ∷ more) left fewer (inr (rest, is, thins)) again =
      on_left fuse more rest fewer (λ list later. thins_on more rest list thins later)
      (subst (λ (list : List Fuse). Thins spent list fewer) is again)

  -- those are taken out that a test names, and all of them are spent
  pub thins_filter : (named : Fuse → Bool) → ((fuse : Fuse) → named fuse ≡ true → spent fuse ≡ true)
      → (fuses left : List Fuse) → Thins spent fuses left
      → Thins spent fuses (filter (λ fuse. not (named fuse)) left)
  thins_filter named are [] left none = ap (filter (λ fuse. not (named fuse))) none
  thins_filter named are (fuse ∷ more) left (inl (gone, thins)) = inl (gone, thins_filter named are more left thins)
  thins_filter named are (fuse ∷ more) left (inr (rest, is, thins)) =
      subst (λ (list : List Fuse). Thins spent (fuse ∷ more) (filter (λ fuse. not (named fuse)) list)) (sym is)
      (by_test (named fuse) refl (thins_filter named are more rest thins)) where
        others : List Fuse
        others = filter (λ fuse. not (named fuse)) rest

        by_test : (b : Bool) → named fuse ≡ b → Thins spent more others
            → Thins spent (fuse ∷ more) (if not b then fuse ∷ others else others)
        by_test true is_named kept = inl (are fuse is_named, kept)
        by_test false other kept = inr (others, refl, kept)

  -- ---- a fuse is armed

  -- it is spent, and not among those that are left
  pub thins_without : (fuse : Fuse) → spent fuse ≡ true → (fuses left : List Fuse) → Thins spent fuses left
      → Thins spent (with_fuse fuse fuses) left
  thins_without fuse gone [] left none = inl (gone, none)
  thins_without fuse gone (first ∷ more) left (inl (other, is)) =
      armed_by (λ list. Thins spent list left) fuse first more (λ e. inl (gone, inl (other, is)))
      (λ e. inl (other, thins_without fuse gone more left is))
  thins_without fuse gone (first ∷ more) left (inr (rest, is, kept)) =
      armed_by (λ list. Thins spent list left) fuse first more (λ e. inl (gone, inr (rest, is, kept)))
      (λ e. inr (rest, is, thins_without fuse gone more rest kept))

  -- what is due before the first of some fuses is due before all that are left of them
  front_left : (fuse first : Fuse) (more left : List Fuse) → IsInOrder (first ∷ more) → Thins spent (first ∷ more) left
      → is_before fuse first ≡ true → with_fuse fuse left ≡ fuse ∷ left
  front_left fuse first more left ordered thins before =
      let after : AllAfter fuse (first ∷ more) =
      All-cons (λ other. is_before fuse other ≡ true) first more before
      (λ k d lt. before_along fuse first (get_or more k d) before (ordered.0 k d lt)) in
      stands_first fuse left (thins_all (λ other. is_before fuse other ≡ true) (first ∷ more) left thins after)

  -- it is armed in both
  pub thins_with : (fuse : Fuse) (fuses left : List Fuse) → IsInOrder fuses → Thins spent fuses left
      → Thins spent (with_fuse fuse fuses) (with_fuse fuse left)
  thins_with fuse [] left ordered none = inr ([], ap (with_fuse fuse) none, refl)
  thins_with fuse (first ∷ more) left ordered (inl (gone, is)) =
      armed_by (λ list. Thins spent list (with_fuse fuse left)) fuse first more
      (λ before. inr (left, front_left fuse first more left ordered (inl (gone, is)) before, inl (gone, is)))
      (λ late. inl (gone, thins_with fuse more left ordered.1 is))
  thins_with fuse (first ∷ more) left ordered (inr (rest, is, kept)) =
      armed_by (λ list. Thins spent list (with_fuse fuse left)) fuse first more
      (λ before.
      inr (left, front_left fuse first more left ordered (inr (rest, is, kept)) before, inr (rest, is, kept)))
      (λ late.
      inr (
        with_fuse fuse rest,
        ap (with_fuse fuse) is ∙ behind fuse first rest late,
        thins_with fuse more rest ordered.1 kept,
      ))

  -- so are several
  pub thins_armed : (fuses left waiting kept : List Fuse) → IsInOrder waiting → Thins spent waiting kept
      → Thins spent fuses left → Thins spent (armed waiting fuses) (armed kept left)
  thins_armed [] left waiting kept ordered first none =
      subst (λ (list : List Fuse). Thins spent waiting (armed kept list)) (sym none) first
  thins_armed (fuse ∷ more) left waiting kept ordered first (inl (gone, thins)) =
      thins_armed more left (with_fuse fuse waiting) kept (IsInOrder-with_fuse fuse waiting ordered)
      (thins_without fuse gone waiting kept first) thins
  thins_armed (fuse ∷ more) left waiting kept ordered first (inr (rest, is, thins)) =
      subst (λ (list : List Fuse). Thins spent (armed waiting (fuse ∷ more)) (armed kept list)) (sym is)
      (thins_armed more rest (with_fuse fuse waiting) (with_fuse fuse kept)
      (IsInOrder-with_fuse fuse waiting ordered) (thins_with fuse waiting kept ordered first) thins)

  -- ---- a wheel

  thins_together : (slots : List (List Fuse)) (k : ℕ) (left : List Fuse) → Thins spent (get_or slots k []) left
      → k < length slots → Thins spent (together slots) (together (set slots k left))
  thins_together [] k left thins within = absurd (omega arith)
  thins_together (slot ∷ slots) zero left thins within =
      thins_append slot left (together slots) (together slots) thins (thins_none (together slots))
  thins_together (slot ∷ slots) (suc k) left thins within =
      thins_append slot slot (together slots) (together (set slots k left)) (thins_none slot)
      (thins_together slots k left thins (omega arith))

  -- the wheel after the slot n was thinned, with what the code knows of it
  pub thins_in : (slots : List (List Fuse)) (entrants entered : List (Option Due)) (k n : ℕ) (slot new : List Fuse)
      (first : Option Due) → IsWheel slots entrants → k < 256 → n ≡ k
      → new ≡ filter (λ fuse. not (spent fuse)) (get_or slots n slot) → first ≡ first_of new
      → entered ≡ set entrants k first
      → IsWheel (set slots n new) entered × Thins spent (all_fuses slots) (all_fuses (set slots n new))
  thins_in slots entrants entered k n slot new first wheel small here new_is first_is entered_is =
      let long = wheel.long in
      let within : k < length slots = omega arith in
      let old = of_slot slots entrants k wheel small in
      let is : get_or slots n slot ≡ get_or slots k [] =
      ap (λ (j : ℕ). get_or slots j slot) here ∙ get_or_default slots k slot [] within in
      let thins : Thins spent (get_or slots k []) new =
      subst (Thins spent (get_or slots k [])) (sym (new_is ∙ ap (filter (λ fuse. not (spent fuse))) is))
      (thins_filter spent (λ fuse gone. gone) (get_or slots k []) (get_or slots k []) (thins_none (get_or slots k []))) in
      let sorted = thins_all (λ fuse. fuse.due % 256 ≡ k) (get_or slots k []) new thins old.0 in
      let ordered = thins_in_order (get_or slots k []) new thins old.1 in
      rw (entered_is, first_is, here) (
        changed slots entrants k new wheel sorted ordered,
        thins_armed (together slots) (together (set slots k new)) [] [] tt refl
            (thins_together slots k new thins within),
      )

-- ---- a slot

-- the fuses of a tree without the spent ones
pub values_filter : (spent : Fuse → Bool) (entries : List Kept)
    → fuses_in (filter (λ entry. not (spent entry.1)) entries) ≡ filter (λ fuse. not (spent fuse)) (fuses_in entries)
values_filter spent [] = refl
values_filter spent (entry ∷ more) = by_test (spent entry.1) (values_filter spent more) where
  kept : List Kept
  kept = filter (λ entry. not (spent entry.1)) more

  others : List Fuse
  others = filter (λ fuse. not (spent fuse)) (fuses_in more)

  by_test : (b : Bool) → fuses_in kept ≡ others
      → fuses_in (if not b then entry ∷ kept else kept) ≡ (if not b then entry.1 ∷ others else others)
  by_test true later = later
  by_test false later = ap (λ (list : List Fuse). entry.1 ∷ list) later
