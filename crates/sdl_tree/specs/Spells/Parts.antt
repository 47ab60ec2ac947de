-- The ways in which productions are put together, and the productions that stand in many others. A production relates a
-- node to the words `i` that spell it, up to the rest `j`. A node keeps the spelling and the place of some marks, and drops
-- the others.
use Rattle.std.specs.Prelude.{◌≡◌, ℕ, ◌⊎◌, if◌then◌else◌, Option, Some, None, List, [], ◌∷◌, codes}
use Rattle.std.specs.Str.{bytes_eq}
use Rattle.sdl_tree.specs.declared.mark.Mark.{Mark}
use Rattle.sdl_tree.specs.declared.mark.Mark.TheVariants as mark
use Rattle.sdl_tree.specs.declared.name.Spelling.{Spelling}
use Rattle.sdl_tree.specs.Tree.{SignalListItem, SignalItem, ListItem, Number}
use Rattle.sdl_tree.specs.Words.{Spot, Words, Fixed}
use Rattle.sdl_tree.specs.Words as word

-- ---- ways

-- the mark, which the node keeps
abbrev pub IsMark : Mark → Spelling → Words → Words → Type 0
IsMark m s i j = i ≡ Fixed m s ∷ j

-- x y
abbrev pub Both : {A B : Type 0} → (A → Words → Words → Type 0) → (B → Words → Words → Type 0) → A × B → Words → Words → Type 0
Both P Q p i j = (m : Words) × P p.0 i m × Q p.1 m j

-- MARK x
abbrev pub Behind : {A : Type 0} → Mark → (A → Words → Words → Type 0) → A → Words → Words → Type 0
Behind m P x i j = (s : Spelling) × (k : Words) × (i ≡ Fixed m s ∷ k) × P x k j

-- x MARK
abbrev pub Before : {A : Type 0} → (A → Words → Words → Type 0) → Mark → A → Words → Words → Type 0
Before P m x i j = (s : Spelling) × P x i (Fixed m s ∷ j)

-- x and words that the node drops
abbrev pub Followed : {A : Type 0} → (A → Words → Words → Type 0) → (Words → Words → Type 0) → A → Words → Words → Type 0
Followed P Dropped x i j = (m : Words) × P x i m × Dropped m j

-- [x]
abbrev pub Optional : {A : Type 0} → (A → Words → Words → Type 0) → Option A → Words → Words → Type 0
Optional P None i j = i ≡ j
Optional P (Some x) i j = P x i j

-- x {"," x}
abbrev pub Separated : {A : Type 0} → (A → Words → Words → Type 0) → List A → Words → Words → Type 0
Separated P [] i j = ⊥
Separated P (x ∷ []) i j = P x i j
Separated P (x ∷ y ∷ xs) i j = (s : Spelling) × (m : Words) × P x i (Fixed mark.Comma s ∷ m) × Separated P (y ∷ xs) m j

-- {x}
abbrev pub Repeated : {A : Type 0} → (A → Words → Words → Type 0) → List A → Words → Words → Type 0
Repeated P [] i j = i ≡ j
Repeated P (x ∷ xs) i j = (m : Words) × P x i m × Repeated P xs m j

-- x {x}
abbrev pub RepeatedOnce : {A : Type 0} → (A → Words → Words → Type 0) → List A → Words → Words → Type 0
RepeatedOnce P [] i j = ⊥
RepeatedOnce P (x ∷ xs) i j = Repeated P (x ∷ xs) i j

-- "(" x {"," x} ")"
abbrev pub Enclosed : {A : Type 0} → (A → Words → Words → Type 0) → List A → Words → Words → Type 0
Enclosed P xs i j = Behind mark.Open (Before (Separated P) mark.Close) xs i j

-- ["(" x {"," x} ")"], where no parentheses stand round an empty list
abbrev pub InParentheses : {A : Type 0} → (A → Words → Words → Type 0) → List A → Words → Words → Type 0
InParentheses P [] i j = i ≡ j
InParentheses P (x ∷ xs) i j = Enclosed P (x ∷ xs) i j

abbrev pub Begins : Mark → Words → Type 0
Begins first i = (s : Spelling) × (m : Words) × (i ≡ Fixed first s ∷ m)

-- x, which doesn't begin with this mark
abbrev pub Unless : {A : Type 0} → Mark → (A → Words → Words → Type 0) → A → Words → Words → Type 0
Unless first P x i j = ¬ Begins first i × P x i j

-- [x], which stands wherever its first mark does
abbrev pub Wherever : {A : Type 0} → Mark → (A → Words → Words → Type 0) → Option A → Words → Words → Type 0
Wherever first P None i j = (i ≡ j) × ¬ Begins first i
Wherever first P (Some x) i j = P x i j

-- ---- productions

-- NAME
abbrev pub SpellsName : Spot → Words → Words → Type 0
SpellsName x i j = i ≡ word.Name x ∷ j

-- NUMBER
abbrev pub SpellsNumber : Number → Words → Words → Type 0
SpellsNumber n i j = i ≡ word.Number n.value n.digits ∷ j

-- end = ["comment" TEXT] ";"
abbrev pub SpellsEnd : Words → Words → Type 0
SpellsEnd i j = ((s : Spelling) × (i ≡ Fixed mark.Semicolon s ∷ j))
    ⊎ ((r s : Spelling) × (x : Spot) × (i ≡ Fixed mark.Comment r ∷ word.Text x ∷ Fixed mark.Semicolon s ∷ j))

-- x end
abbrev pub Ended : {A : Type 0} → (A → Words → Words → Type 0) → A → Words → Words → Type 0
Ended P x i j = Followed P SpellsEnd x i j

-- [NAME] after the word that ends what has this name
abbrev pub SpellsEndName : List ℕ → Words → Words → Type 0
SpellsEndName name i j = (i ≡ j) ⊎ ((x : Spot) × (x.text ≡ name) × (i ≡ word.Name x ∷ j))

-- MARK [NAME] end, which closes what has this name
abbrev pub SpellsClosing : Mark → List ℕ → Words → Words → Type 0
SpellsClosing closing name i j = (s : Spelling) × (m k : Words)
    × (i ≡ Fixed closing s ∷ m) × SpellsEndName name m k × SpellsEnd k j

-- The name of a sort: `PId` is `Pid`. A sort is spelled as a name.
abbrev pub sort_of : List ℕ → List ℕ
sort_of x = if bytes_eq x (codes "PId") then codes "Pid" else x

-- sig = NAME | "(" NAME ")"
abbrev pub SpellsSig : SignalListItem → Words → Words → Type 0
SpellsSig (SignalItem x) i j = SpellsName x i j
SpellsSig (ListItem x) i j = Behind mark.Open (Before SpellsName mark.Close) x i j

-- sigs = sig {"," sig}
abbrev pub SpellsSigs : List SignalListItem → Words → Words → Type 0
SpellsSigs items i j = Separated SpellsSig items i j
