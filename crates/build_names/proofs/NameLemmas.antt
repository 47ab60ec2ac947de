-- Look-ups of names.
use Rattle.std.proofs.Common.{◌≡◌, ◌∙◌, ℕ, ◌++◌, Bool, true, false, cond, List, [], ◌∷◌, Option, None, Some, is_some, map, refl, ap, subst, sym}
use Rattle.std.specs.Borrow.{Bor}
use Rattle.std.specs.Map.{lookup}
use Rattle.std.specs.Option.{option_or}
use Rattle.std.specs.Str.{bytes_eq}
use Rattle.std.proofs.lemmas.List.{map-append}
use Rattle.std.proofs.lemmas.Slice.Eq.{bytes_eq-Decides}
use Rattle.build_names.specs.Names.{first_of}

found-or : {X : Type 0} (b : Bool) (x : X) (rest left right : Option X) → rest ≡ option_or left right →
    cond b (Some x) rest ≡ option_or (cond b (Some x) left) right
found-or true x rest left right h = refl
found-or false x rest left right h = h

pub lookup-append : {K X : Type 0} (test : K → Bool) (xs ys : List (K × X)) →
    lookup test (xs ++ ys) ≡ option_or (lookup test xs) (lookup test ys)
lookup-append test [] ys = refl
lookup-append test (x ∷ xs) ys =
    found-or (test x.0) x.1 (lookup test (xs ++ ys)) (lookup test xs) (lookup test ys) (lookup-append test xs ys)

or-known : {T : Type 0} (found : Option T) (same : Bool) (what : T) → (same ≡ true → is_some found ≡ true) →
    option_or found (cond same (Some what) None) ≡ found
or-known None true what known = let no : false ≡ true = known refl in cc
or-known None false what known = refl
or-known (Some x) same what known = refl

-- a name that is there already is shifted by no later one
pub first_of-known : {T : Type 0} (names : List (List ℕ × T)) (name : List ℕ) (what : T) →
    is_some (first_of names name) ≡ true → (text : List ℕ) →
    first_of (names ++ (name, what) ∷ []) text ≡ first_of names text
first_of-known names name what known text =
    lookup-append (bytes_eq text) names ((name, what) ∷ [])
    ∙ or-known (first_of names text) (bytes_eq text name) what
    (λ same. subst (λ t. is_some (first_of names t) ≡ true) (sym ((bytes_eq-Decides text name).0 same)) known)

-- a new entry of the table stands for the new entry of the list
pub first_of-new : {T : Type 0} (entries : List (Bor (List ℕ) × T)) (names : List (List ℕ × T))
    (name : Bor (List ℕ)) (what : T) →
    ((text : List ℕ) → lookup (λ key. bytes_eq text key.now) entries ≡ first_of names text) → (text : List ℕ) →
    lookup (λ key. bytes_eq text key.now) (entries ++ (name, what) ∷ [])
    ≡ first_of (names ++ (name.now, what) ∷ []) text
first_of-new entries names name what same text =
    lookup-append (λ key. bytes_eq text key.now) entries ((name, what) ∷ [])
    ∙ ap (λ found. option_or found (cond (bytes_eq text name.now) (Some what) None)) (same text)
    ∙ sym (lookup-append (bytes_eq text) names ((name.now, what) ∷ []))

-- an entry as contracts see it
abbrev seen : {T : Type 0} → Bor (List ℕ) × T → List ℕ × T
seen entry = (entry.0.now, entry.1)

first_of-pushed : {T : Type 0} (entries pushed : List (Bor (List ℕ) × T)) (name : Bor (List ℕ)) (what : T) →
    pushed ≡ entries ++ (name, what) ∷ [] → (text : List ℕ) →
    first_of (map seen entries ++ (name.now, what) ∷ []) text ≡ first_of (map seen pushed) text
first_of-pushed entries pushed name what is text =
    ap (λ names. first_of names text) (sym (ap (map seen) is ∙ map-append seen entries ((name, what) ∷ [])))

-- the table stays as it was where the name is known
pub known-pushed : {T : Type 0} (find : List ℕ → Option T) (entries pushed : List (Bor (List ℕ) × T))
    (name : Bor (List ℕ)) (what : T) →
    pushed ≡ entries ++ (name, what) ∷ [] → ((text : List ℕ) → find text ≡ first_of (map seen entries) text) →
    is_some (find name.now) ≡ true → (text : List ℕ) → find text ≡ first_of (map seen pushed) text
known-pushed find entries pushed name what is same known text =
    same text
    ∙ sym (first_of-known (map seen entries) name.now what (ap is_some (sym (same name.now)) ∙ known) text)
    ∙ first_of-pushed entries pushed name what is text

-- the table takes the name where it is new
pub new-pushed : {T : Type 0} (table more entries pushed : List (Bor (List ℕ) × T)) (name : Bor (List ℕ)) (what : T) →
    more ≡ table ++ (name, what) ∷ [] → pushed ≡ entries ++ (name, what) ∷ [] →
    ((text : List ℕ) → lookup (λ key. bytes_eq text key.now) table ≡ first_of (map seen entries) text) →
    (text : List ℕ) → lookup (λ key. bytes_eq text key.now) more ≡ first_of (map seen pushed) text
new-pushed table more entries pushed name what taken is same text =
    ap (lookup (λ key. bytes_eq text key.now)) taken
    ∙ first_of-new table (map seen entries) name what same text
    ∙ first_of-pushed entries pushed name what is text

pub none-of : {X : Type 0} (found : Option X) → is_some found ≡ false → found ≡ None
none-of None h = refl
none-of (Some x) h = cc
