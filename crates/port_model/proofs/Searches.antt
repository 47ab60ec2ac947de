use Rattle.std.proofs.Common.{◌≡◌, ℕ, ◌+◌, ◌-◌, ◌<◌, ◌≤◌, List, [], ◌∷◌, ◌++◌, length, get_or, take, drop, All, Contains, sym, ap, subst, ◌∙◌, ⊎_elim, arith}
use Rattle.std.specs.List.{remove}
use Rattle.std.proofs.lemmas.List.{take-append-drop, drop_more, length-take-le, get_or_default, get_or_past, take_all}
use Rattle.std.proofs.lemmas.List.Edits.{remove-append_right}
use Rattle.std.proofs.lemmas.List.Elements.{All-more}
use Rattle.std.proofs.lemmas.Bool.{cases_lt}
use Rattle.port_model.specs.declared.selection.Class.{Class}
use Rattle.port_model.specs.declared.selection.Class.TheVariants as class
use Rattle.port_model.specs.declared.got.Got.{Got}
use Rattle.port_model.specs.Search.{IsFirst}
use Rattle.port_model.specs.Take.{name_of, IsOrdinary}

-- a search that has passed over all before `place` has found the first that is wanted
pub first_found : (Passed Wanted : Got → Type 0) (waiting : List Got) (place : ℕ) (got : Got)
    → place < length waiting → All Passed (take place waiting) → got ≡ get_or waiting place got → Wanted got
    → IsFirst Passed Wanted waiting place
first_found Passed Wanted waiting place got within passed is wanted = record {
  before = take place waiting;
  got = got;
  after = drop (place + 1) waiting;
  was = sym (take-append-drop place waiting)
      ∙ ap (λ l. take place waiting ++ l) (drop_more waiting place got within ∙ ap (λ x. x ∷ drop (place + 1) waiting) (sym is));
  at = length-take-le place waiting (omega arith);
  passed = passed;
  wanted = wanted;
}

-- a search that passes over one more
pub passes_one : (Passed : Got → Type 0) (waiting : List Got) (place : ℕ) (got : Got)
    → place < length waiting → All Passed (take place waiting) → got ≡ get_or waiting place got → Passed got
    → All Passed (take (place + 1) waiting)
passes_one Passed waiting place got within passed is here =
    All-more Passed waiting place got within passed (subst (λ x. Passed x) is here)

-- a search that has come to the end has passed over all
pub all_passed : (Passed : Got → Type 0) (waiting : List Got) (place : ℕ)
    → length waiting ≤ place → All Passed (take place waiting) → All Passed waiting
all_passed Passed waiting place past passed = subst (λ l. All Passed l) (take_all place waiting past) passed

-- where no name has the class Priority, all that waits is ordinary
pub all_ordinary : (classes : List Class) (waiting : List Got)
    → (Contains classes class.Priority → ⊥) → All (IsOrdinary classes) waiting
all_ordinary classes waiting none k d within e =
    let n : ℕ = (name_of (get_or waiting k d)).0 in
    ⊎_elim
    (λ lt. none (n, lt, get_or_default classes n class.Priority class.Discard lt ∙ e))
    (λ past. let is : get_or classes n class.Discard ≡ class.Discard = get_or_past classes n class.Discard past in cc)
    (cases_lt n (length classes))

-- what `remove` leaves of a list that is known in three parts
pub remove-append : (before : List Got) (entry : Got) (after : List Got) (place : ℕ)
    → length before ≡ place → remove (before ++ entry ∷ after) place ≡ before ++ after
remove-append before entry after place at =
    let none : place - place ≡ 0 = omega arith in
    remove-append_right before (entry ∷ after) place place at (omega arith) ∙ ap (λ n. before ++ remove (entry ∷ after) n) none

-- the first of a list that isn't empty, and those behind it
pub head_is : (waiting : List Got) (got : Got) → 0 < length waiting → got ≡ get_or waiting 0 got → waiting ≡ got ∷ drop 1 waiting
head_is [] got some is = absurd (omega (arith, some))
head_is (first ∷ rest) got some is = ap (λ g. g ∷ rest) (sym is)
