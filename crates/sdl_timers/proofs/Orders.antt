use Rattle.std.proofs.Common.{◌≡◌, ◌⊎◌, Bool, false, Option, Some, None, refl, sym, ◌∙◌, inl, inr}
use Rattle.std.proofs.lemmas.Bool.{cond_both, false_from_ne_true, false≢true}
use Rattle.std.specs.Cmp.{IsStrictWeakOrder, IsTotalOrder}
use Rattle.std.specs.Ordering.{is_lt}
use Rattle.std.proofs.lemmas.Cmp.{then_total, on_total, nat_cmp_total}
use Rattle.std.proofs.lemmas.List.Sorted.{ranks_by}
use Rattle.sdl_timers.specs.declared.due.Due.{Due}
use Rattle.sdl_timers.specs.DueOrder.{due_cmp, due_of, is_before, earlier, IsUpTo}

pub due_total : IsTotalOrder due_cmp
due_total =
    then_total (on_total (λ (d : Due). d.time) nat_cmp_total)
    (then_total (on_total (λ (d : Due). d.pid) nat_cmp_total) (on_total (λ (d : Due). d.arm) nat_cmp_total))

-- Due order is an order, of places and of fuses.
abbrev pub is_earlier : Due → Due → Bool
is_earlier a b = is_lt (due_cmp a b)

pub earlier_order : IsStrictWeakOrder is_earlier
earlier_order = ranks_by due_total (λ (d : Due). d)

pub before_order : IsStrictWeakOrder is_before
before_order = ranks_by due_total due_of

same_place : (d : Due) → is_earlier d d ≡ false
same_place d = false_from_ne_true (is_earlier d d) (λ e. false≢true (sym (earlier_order.one_way d d e) ∙ e))

pub up_to_itself : (a : Option Due) → IsUpTo a a
up_to_itself None = tt
up_to_itself (Some d) = same_place d

pub up_to_along : (a b c : Option Due) → IsUpTo a b → IsUpTo b c → IsUpTo a c
up_to_along a b None h g = tt
up_to_along a None (Some z) h g = absurd g
up_to_along None (Some y) (Some z) h g = absurd h
up_to_along (Some x) (Some y) (Some z) h g = earlier_order.chain z y x g h

-- of two the earlier one is no later than either, and is one of them
pub earlier_left : (a b : Option Due) → IsUpTo (earlier a b) a
earlier_left None b = tt
earlier_left (Some a) None = same_place a
earlier_left (Some a) (Some b) =
    cond_both (is_earlier b a) b a (λ d. is_earlier a d ≡ false) (earlier_order.one_way b a) (λ e. same_place a)

pub earlier_right : (a b : Option Due) → IsUpTo (earlier a b) b
earlier_right None b = up_to_itself b
earlier_right (Some a) None = tt
earlier_right (Some a) (Some b) =
    cond_both (is_earlier b a) b a (λ d. is_earlier b d ≡ false) (λ e. same_place b) (λ e. e)

pub earlier_one : (a b : Option Due) → (earlier a b ≡ a) ⊎ (earlier a b ≡ b)
earlier_one None b = inr refl
earlier_one (Some a) None = inl refl
earlier_one (Some a) (Some b) =
    cond_both (is_earlier b a) b a (λ d. (Some d ≡ Some a) ⊎ (Some d ≡ Some b)) (λ e. inr refl) (λ e. inl refl)
