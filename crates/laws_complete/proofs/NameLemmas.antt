-- What is so of all that rows declare is so of all that is seen at a place.
use Rattle.std.proofs.Common.{◌≡◌, ◌++◌, ℕ, Bool, true, false, cond, List, [], ◌∷◌, Option, None, Some, map, sym, subst}
use Rattle.std.specs.Str.{bytes_eq}
use Rattle.build_definitions.specs.Entries.{Entry, Has, HasMeant, entries_in, entry_in}
use Rattle.build_names.specs.FaultLaws.{Each}
use Rattle.build_names.specs.Names.{first_of}
use Rattle.build_expressions.specs.Scope.{meaning}
use Rattle.build_names.specs.Spaces.{block_names, entry_if, is_same_scope, names_of, process_names, seen_in}
use Rattle.build_names.specs.declared.scopes.scope.ScopeId.{ScopeId}
use Rattle.build_names.specs.declared.scopes.scope.ScopeId.TheVariants as scope
use Rattle.build_names.specs.declared.scopes.scope.ScopePath.{ScopePath}
use Rattle.build_names.specs.declared.scopes.spaces.Spaces.{Spaces}
use Rattle.sdl_system.specs.declared.id.BlockId.{BlockId}
use Rattle.sdl_system.specs.declared.id.ProcessId.{ProcessId}

pub each-map : {A B : Type 0} (P : A → Type 0) (Q : B → Type 0) (g : A → B) → ((x : A) → P x → Q (g x)) →
    (xs : List A) →
    Each P xs → Each Q (map g xs)
each-map P Q g to [] each = tt
each-map P Q g to (x ∷ xs) each = (to x each.0, each-map P Q g to xs each.1)

pub each-and : {A : Type 0} (P Q : A → Type 0) (xs : List A) → Each P xs → Each Q xs → Each (λ x. P x × Q x) xs
each-and P Q [] left right = tt
each-and P Q (x ∷ xs) left right = ((left.0, right.0), each-and P Q xs left.1 right.1)

-- each name stands for such a thing
abbrev pub EachMeans : {A : Type 0} → (A → Type 0) → List (List ℕ × A) → Type 0
EachMeans P [] = Unit {0}
EachMeans P (name ∷ names) = P name.1 × EachMeans P names

means-both : {A : Type 0} (P : A → Type 0) (xs ys : List (List ℕ × A)) → EachMeans P xs → EachMeans P ys →
    EachMeans P (xs ++ ys)
means-both P [] ys left right = right
means-both P (x ∷ xs) ys left right = (left.0, means-both P xs ys left.1 right)

-- ---- what a scope declares

entry-means : {A : Type 0} (P : A → Type 0) (is : Bool) (text : List ℕ) (what : A) → P what →
    EachMeans P (entry_if is text what)
entry-means P true text what so = (so, tt)
entry-means P false text what so = tt

pub entries-mean : {A : Type 0} (P : A → Type 0) (place : ScopeId) (entries : List (Entry A)) →
    Each (λ (entry : Entry A). P entry.what) entries → EachMeans P (entries_in place entries)
entries-mean P place [] each = tt
entries-mean P place (entry ∷ entries) each =
    means-both P (entry_in place entry) (entries_in place entries)
    (entry-means P (is_same_scope entry.scope place) entry.name.text entry.what each.0)
    (entries-mean P place entries each.1)

unmeant : {A B : Type 0} (f : A → B) (P : B → Type 0) (names : List (List ℕ × A)) → EachMeans P (meaning f names) →
    EachMeans (λ a. P (f a)) names
unmeant f P [] each = tt
unmeant f P (name ∷ names) each = (each.0, unmeant f P names each.1)

abbrev pub AllMean : {A : Type 0} → (A → Type 0) → Spaces A → Type 0
AllMean P spaces = (place : ScopeId) → EachMeans P (names_of spaces place)

pub has-mean : {A : Type 0} (P : A → Type 0) (spaces : Spaces A) (entries : List (Entry A)) → Has spaces entries →
    Each (λ (entry : Entry A). P entry.what) entries → AllMean P spaces
has-mean P spaces entries has each place = subst (EachMeans P) (sym (has place)) (entries-mean P place entries each)

pub meant-mean : {A B : Type 0} (f : A → B) (P : B → Type 0) (spaces : Spaces A) (entries : List (Entry B)) →
    HasMeant f spaces entries → Each (λ (entry : Entry B). P entry.what) entries → AllMean (λ a. P (f a)) spaces
meant-mean f P spaces entries has each place =
    unmeant f P (names_of spaces place) (subst (EachMeans P) (sym (has place)) (entries-mean P place entries each))

-- ---- what is seen

process-mean : {A : Type 0} (P : A → Type 0) (spaces : Spaces A) (number : Option ProcessId) → AllMean P spaces →
    EachMeans P (process_names spaces number)
process-mean P spaces None all = tt
process-mean P spaces (Some number) all = all (scope.Process number)

block-mean : {A : Type 0} (P : A → Type 0) (spaces : Spaces A) (number : Option BlockId) → AllMean P spaces →
    EachMeans P (block_names spaces number)
block-mean P spaces None all = tt
block-mean P spaces (Some number) all = all (scope.Block number)

seen-mean : {A : Type 0} (P : A → Type 0) (spaces : Spaces A) (path : ScopePath) → AllMean P spaces →
    EachMeans P (seen_in spaces path)
seen-mean P spaces path all =
    means-both P (process_names spaces path.process) (block_names spaces path.block ++ names_of spaces scope.System)
    (process-mean P spaces path.process all)
    (means-both P (block_names spaces path.block) (names_of spaces scope.System) (block-mean P spaces path.block all)
    (all scope.System))

found-one : {B : Type 0} (P : B → Type 0) (same : Bool) (what meaning : B) (later : Option B) → P what →
    (later ≡ Some meaning → P meaning) → cond same (Some what) later ≡ Some meaning → P meaning
found-one P true what meaning later here there is = let same : what ≡ meaning = cc in subst P same here
found-one P false what meaning later here there is = there is

found-mean : {A B : Type 0} (f : A → B) (P : B → Type 0) (names : List (List ℕ × A)) (text : List ℕ) (found : B) →
    EachMeans (λ a. P (f a)) names → first_of (meaning f names) text ≡ Some found → P found
found-mean f P [] text found each is = cc
found-mean f P (name ∷ names) text found each is =
    found-one P (bytes_eq text name.0) (f name.1) found (first_of (meaning f names) text) each.0
    (λ later. found-mean f P names text found each.1 later) is

-- what a name that is seen stands for
pub seen-is : {A B : Type 0} (f : A → B) (P : B → Type 0) (spaces : Spaces A) (path : ScopePath) →
    AllMean (λ a. P (f a)) spaces → (text : List ℕ) (found : B) →
    first_of (meaning f (seen_in spaces path)) text ≡ Some found → P found
seen-is f P spaces path all text found is =
    found-mean f P (seen_in spaces path) text found (seen-mean (λ a. P (f a)) spaces path all) is
