-- The entries of a table in the order of their sets: what stands there, and where one entry more goes.
use Rattle.std.proofs.Common.{◌≡◌, ℕ, nat_lt, Bool, true, false, ◌||◌, cond, List, [], ◌∷◌, ◌++◌, map, subst, sym, ap, ◌∙◌, refl, arith}
use Rattle.std.specs.Prelude.{nat_le}
use Rattle.std.specs.List.{list_any}
use Rattle.std.proofs.lemmas.Bool.Decides.{nat_tests}
use Rattle.port_model.specs.Table.{Kept, put_in, in_order, is_set_by}
use Rattle.port_model.proofs.Lists.{With, first, later, any-map, none_implied}

any_put : (p : Kept → Bool) (e : Kept) (es : List Kept) → list_any p (put_in e es) ≡ (p e || list_any p es)
any_put p e [] = refl
any_put p e (f ∷ fs) = grind (arith, any_put p e fs)

pub any_in_order : (p : Kept → Bool) (es : List Kept) → list_any p (in_order es) ≡ list_any p es
any_in_order p [] = refl
any_in_order p (e ∷ es) = any_put p e (in_order es) ∙ ap (λ b. p e || b) (any_in_order p es)

pub any_viewed : {Y : Type 0} (view : Kept → Y) (p : Y → Bool) (es : List Kept) → list_any p (map view (in_order es)) ≡ list_any (λ e. p (view e)) es
any_viewed view p es = any-map view p (in_order es) ∙ any_in_order (λ e. p (view e)) es

-- two of different sets go in one after the other, whichever is the first
put_both : (e f : Kept) (es : List Kept) → is_set_by f.1.arm e ≡ false → put_in e (put_in f es) ≡ put_in f (put_in e es)
put_both e f [] differ = grind (arith, nat_tests)
put_both e f (g ∷ es) differ = grind (arith, nat_tests, put_both e f es)

put_within : (e : Kept) (es : List Kept) → With e es (put_in e es)
put_within e [] = first []
put_within e (f ∷ es) =
    elim (nat_lt e.1.arm f.1.arm) as (λ b. With e (f ∷ es) (cond b (e ∷ f ∷ es) (f ∷ put_in e es)))
    [ true ↦ first (f ∷ es) | false ↦ later f es (put_in e es) (put_within e es) ]

-- all sets of the list come before this one
abbrev pub late : ℕ → Kept → Bool
late n e = nat_le n e.1.arm

abbrev pub Below : ℕ → List Kept → Type 0
Below n es = list_any (late n) es ≡ false

pub no_set_yet : (n : ℕ) (es : List Kept) → Below n es → list_any (is_set_by n) es ≡ false
no_set_yet n es = none_implied (is_set_by n) (late n) (λ e is. grind (arith, nat_tests)) es

put_end : (e : Kept) (es : List Kept) → Below e.1.arm es → put_in e es ≡ es ++ e ∷ []
put_end e [] below = refl
put_end e (f ∷ es) below = grind (arith, nat_tests, put_end e es)

-- one entry more, of a set of its own
pub order_is : {e : Kept} {rest all : List Kept} → With e rest all → list_any (is_set_by e.1.arm) rest ≡ false
    → in_order all ≡ put_in e (in_order rest)
order_is (first rest) none = refl
order_is {e} (later f rest all w) none = grind (arith, order_is w, put_both f e (in_order rest))

pub with_order : {e : Kept} {rest all : List Kept} → With e rest all → list_any (is_set_by e.1.arm) rest ≡ false
    → With e (in_order rest) (in_order all)
with_order {e} {rest} w none = subst (With e (in_order rest)) (sym (order_is w none)) (put_within e (in_order rest))

-- the last set goes last
pub last_in_order : {e : Kept} {rest all : List Kept} → With e rest all → Below e.1.arm rest → in_order all ≡ in_order rest ++ e ∷ []
last_in_order {e} {rest} w below =
    order_is w (no_set_yet e.1.arm rest below) ∙ put_end e (in_order rest) (any_in_order (late e.1.arm) rest ∙ below)
