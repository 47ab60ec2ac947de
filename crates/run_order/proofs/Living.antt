-- Who lives, where the list of one process is written.
use Rattle.std.proofs.Common.{◌≡◌, ◌<◌, ◌≤◌, ◌∙◌, ◌+◌, ◌++◌, ◌==◌, not, false, if◌then◌else◌, ℕ, zero, suc, List, [], ◌∷◌, Option, None, Some, arith, ap, filter, le-leb, length, map, nat_le, refl, replicate, set, slice_get, sym, unwrap_or}
use Rattle.std.specs.Global.{Vec}
use Rattle.std.proofs.lemmas.Bool.Decides.{nat_tests}
use Rattle.std.proofs.lemmas.List.{length-map}
use Rattle.run_order.specs.Roster.{AreLeast, RosterValue, first_of, living_in_all, lists_of, numbers_of, with_entered, with_left}
use Rattle.run_semantics.specs.World.{count_in, most_instances}
use Rattle.sdl_system.specs.declared.id.ProcessId.{ProcessId}

pub map-set : {X Y : Type 0} (f : X → Y) (xs : List X) (place : ℕ) (x : X)
    → map f (set xs place x) ≡ set (map f xs) place (f x)
map-set f [] place x = refl
map-set f (first ∷ xs) zero x = refl
map-set f (first ∷ xs) (suc place) x = ap (λ all. f first ∷ all) (map-set f xs place x)

pub get-map : {X Y : Type 0} (f : X → Y) (xs : List X) (place : ℕ) (x : X) → slice_get xs place ≡ Some x
    → slice_get (map f xs) place ≡ Some (f x)
get-map f [] place x there = let no : ⊥ = cc in absurd no
get-map f (first ∷ xs) zero x there = let is : first ≡ x = cc in ap (λ y. Some (f y)) is
get-map f (first ∷ xs) (suc place) x there = get-map f xs place x there

pub set-past : {X : Type 0} (xs : List X) (place : ℕ) (x : X) → length xs ≤ place → set xs place x ≡ xs
set-past [] place x past = refl
set-past (first ∷ xs) zero x past = absurd (omega (arith, past))
set-past (first ∷ xs) (suc place) x past = ap (λ all. first ∷ all) (set-past xs place x (omega (arith, past)))

pub numbers_at : (lists : List (Vec ℕ)) (process : ProcessId) (old : Vec ℕ) → slice_get lists process.0 ≡ Some old
    → numbers_of (lists_of lists) process ≡ old.items
numbers_at lists process old there =
    ap (λ o. unwrap_or o []) (get-map (λ (list : Vec ℕ). list.items) lists process.0 old there)

-- ---- one list is changed

lists_set : (lists : List (Vec ℕ)) (place : ℕ) (new : Vec ℕ)
    → lists_of (set lists place new) ≡ set (lists_of lists) place new.items
lists_set lists place new = map-set (λ (list : Vec ℕ). list.items) lists place new

pub least_inside : (least : List (Option ℕ)) (lists : List (Vec ℕ)) (place : ℕ) → AreLeast least (lists_of lists)
    → place < length lists → place < length least
least_inside least lists place are inside =
    let counted : length least ≡ length lists =
    ap (λ (all : List (Option ℕ)). length all) are ∙ length-map (lists_of lists) first_of
    ∙ length-map lists (λ (list : Vec ℕ). list.items) in
    omega (arith, inside, counted)

-- a list with the same numbers
same_lists : (lists : List (Vec ℕ)) (place : ℕ) (old new : Vec ℕ) → slice_get lists place ≡ Some old
    → new.items ≡ old.items → lists_of (set lists place new) ≡ lists_of lists
same_lists [] place old new there same = let no : ⊥ = cc in absurd no
same_lists (first ∷ rest) zero old new there same =
    let is : old ≡ first = cc in
    ap (λ numbers. numbers ∷ lists_of rest) (same ∙ ap (λ (list : Vec ℕ). list.items) is)
same_lists (first ∷ rest) (suc place) old new there same =
    ap (λ all. first.items ∷ all) (same_lists rest place old new there same)

pub least_same : (least : List (Option ℕ)) (lists : List (Vec ℕ)) (place : ℕ) (old new : Vec ℕ)
    → AreLeast least (lists_of lists) → slice_get lists place ≡ Some old → new.items ≡ old.items
    → AreLeast least (lists_of (set lists place new))
least_same least lists place old new are there same =
    are ∙ ap (map first_of) (sym (same_lists lists place old new there same))

-- the least ones are those of the lists still
pub least_set : (least : List (Option ℕ)) (lists : List (Vec ℕ)) (place : ℕ) (new : Vec ℕ) (first : Option ℕ)
    → AreLeast least (lists_of lists) → first ≡ first_of new.items
    → AreLeast (set least place first) (lists_of (set lists place new))
least_set least lists place new first are is =
    (λ i. set (are i) place (is i)) ∙ sym (map-set first_of (lists_of lists) place new.items)
    ∙ ap (map first_of) (sym (lists_set lists place new))

pub entered_set : (lists : List (Vec ℕ)) (process : ProcessId) (number : ℕ) (old new : Vec ℕ)
    → slice_get lists process.0 ≡ Some old → new.items ≡ old.items ++ number ∷ []
    → lists_of (set lists process.0 new) ≡ with_entered (lists_of lists) process number
entered_set lists process number old new there more =
    lists_set lists process.0 new
    ∙ ap (set (lists_of lists) process.0)
    (more ∙ ap (λ numbers. numbers ++ number ∷ []) (sym (numbers_at lists process old there)))

pub left_set : (lists : List (Vec ℕ)) (process : ProcessId) (number : ℕ) (old new : Vec ℕ)
    → slice_get lists process.0 ≡ Some old → new.items ≡ filter (λ n. not (n == number)) old.items
    → lists_of (set lists process.0 new) ≡ with_left (lists_of lists) process number
left_set lists process number old new there fewer =
    lists_set lists process.0 new
    ∙ ap (set (lists_of lists) process.0)
    (fewer ∙ ap (filter (λ n. not (n == number))) (sym (numbers_at lists process old there)))

-- of a process that there isn't nobody enters or leaves
past_lists : (lists : List (Vec ℕ)) (place : ℕ) (numbers : List ℕ) → length lists ≤ place
    → lists_of lists ≡ set (lists_of lists) place numbers
past_lists lists place numbers past =
    sym (set-past (lists_of lists) place numbers (omega (arith, past, length-map lists (λ (list : Vec ℕ). list.items))))

pub entered_past : (lists : List (Vec ℕ)) (process : ProcessId) (number : ℕ) → length lists ≤ process.0
    → lists_of lists ≡ with_entered (lists_of lists) process number
entered_past lists process number past =
    past_lists lists process.0 (numbers_of (lists_of lists) process ++ number ∷ []) past

pub left_past : (lists : List (Vec ℕ)) (process : ProcessId) (number : ℕ) → length lists ≤ process.0
    → lists_of lists ≡ with_left (lists_of lists) process number
left_past lists process number past =
    past_lists lists process.0 (filter (λ n. not (n == number)) (numbers_of (lists_of lists) process)) past

-- one list more
pub replicate_push : (count : ℕ) (numbers : List ℕ) → replicate count numbers ++ numbers ∷ [] ≡ replicate
    (count + 1) numbers
replicate_push zero numbers = refl
replicate_push (suc count) numbers =
    let next : suc (count + 1) ≡ suc count + 1 = omega arith in
    ap (λ all. numbers ∷ all) (replicate_push count numbers) ∙ ap (λ n. replicate n numbers) next

pub lists_push : (lists : List (Vec ℕ)) (new : Vec ℕ) → new.items ≡ []
    → lists_of (lists ++ new ∷ []) ≡ lists_of lists ++ [] ∷ []
lists_push [] new none = ap (λ numbers. numbers ∷ []) none
lists_push (first ∷ rest) new none = ap (λ all. first.items ∷ all) (lists_push rest new none)

pub least_push : (least : List (Option ℕ)) (lists : List (Vec ℕ)) (new : Vec ℕ) → AreLeast least (lists_of lists)
    → new.items ≡ [] → AreLeast (least ++ None ∷ []) (lists_of (lists ++ new ∷ []))
least_push least lists new are none =
    ap (λ all. all ++ None ∷ []) are ∙ sym (map_push (lists_of lists))
    ∙ ap (map first_of) (sym (lists_push lists new none)) where
      map_push : (roster : RosterValue) → map first_of (roster ++ [] ∷ []) ≡ map first_of roster ++ None ∷ []
      map_push [] = refl
      map_push (first ∷ rest) = ap (λ all. first_of first ∷ all) (map_push rest)

-- how many live of a process
count_in_lists : (lists : List (List ℕ)) (place : ℕ)
    → unwrap_or (slice_get (map (λ (numbers : List ℕ). length numbers) lists) place) 0
    ≡ length (unwrap_or (slice_get lists place) [])
count_in_lists [] place = refl
count_in_lists (first ∷ rest) zero = refl
count_in_lists (first ∷ rest) (suc place) = count_in_lists rest place

pub count_is : (roster : RosterValue) (given : ℕ) (process : ProcessId)
    → count_in (living_in_all roster given) process ≡ length (numbers_of roster process)
count_is roster given process = count_in_lists roster process.0

-- whether a number is left
below_most : (a b : ℕ) → b < a → nat_le a b ≡ false
below_most a b less = grind (arith, nat_tests)

pub none_given : (given : ℕ) → most_instances ≤ given
    → None ≡ (if nat_le most_instances given then None else Some (given + 1))
none_given given most = ap (λ b. if b then None else Some (given + 1)) (sym (le-leb most_instances given most))

pub some_given : (given : ℕ) → given < most_instances
    → Some (given + 1) ≡ (if nat_le most_instances given then None else Some (given + 1))
some_given given less = ap (λ b. if b then None else Some (given + 1)) (sym (below_most most_instances given less))

pub ruleset numbering = (none_given, some_given)

pub ruleset adding = (least_push, lists_push)

pub ruleset entering = (least_inside, least_set, entered_set, entered_past)

pub ruleset leaving = (least_inside, least_set, left_set, left_past)
