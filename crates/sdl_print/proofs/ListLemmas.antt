-- Lists of words, item by item.
use Rattle.std.proofs.Common.{◌≡◌, refl, sym, ap, ◌∙◌, ◌-◌, ◌≤◌, List, [], ◌∷◌, take, drop, get_or, length, Ok, Err, Result, OnOk, arith}
use Rattle.std.proofs.lemmas.List.{take_all}
use Rattle.sdl_tree.specs.declared.mark.Mark.TheVariants as mark
use Rattle.sdl_tree.specs.Canonical.{fixed, repeated, separated, in_parentheses}
use Rattle.sdl_tree.specs.Words.{Words}
use Rattle.sdl_print.specs.Form.{Form, node, nodes}
use Rattle.sdl_print.specs.Wrote.{after_comma}

-- what follows from a fact of a call follows where the call went well
pub on_ok : {T E : Type 0} {P Q : Type 0} (r : Result T E) → (P → Q) → OnOk r P → OnOk r Q
on_ok (Ok x) f p = f p
on_ok (Err e) f p = tt

-- a list is its first item and the others
first_and_rest : {A : Type 0} (xs : List A) (x : A) → 1 ≤ length xs → x ≡ get_or xs 0 x → xs ≡ x ∷ take (length xs - 1) (drop 1 xs)
first_and_rest [] x h e = absurd (omega arith)
first_and_rest (y ∷ ys) x h e =
    ap (λ z. z ∷ ys) (sym e) ∙ ap (λ zs. x ∷ zs) (sym (take_all (length (y ∷ ys) - 1) ys (omega arith)))

-- the first item, and each later one with a comma before it
separated_after : {A : Type 0} (words : A → Words → Words) (x : A) (xs : List A) (j : Words) →
    separated words (x ∷ xs) j ≡ words x (repeated (after_comma words) xs j)
separated_after words x [] j = refl
separated_after words x (y ∷ xs) j = ap (λ rest. words x (fixed mark.Comma ∷ rest)) (separated_after words y xs j)

pub separated_at : {A : Type 0} (f : Form A) (xs : List A) (x : A) → 1 ≤ length xs → x ≡ get_or xs 0 x → (j : Words) →
    f.words (node f x) (repeated (after_comma f.words) (nodes f (take (length xs - 1) (drop 1 xs))) j) ≡ separated f.words (nodes f xs) j
separated_at f xs x h e j =
    let rest = take (length xs - 1) (drop 1 xs) in
    sym (ap (λ ys. separated f.words (nodes f ys) j) (first_and_rest xs x h e) ∙ separated_after f.words (node f x) (nodes f rest) j)

-- a list with an item stands in parentheses
pub parenthesized : {A : Type 0} (f : Form A) (xs : List A) → 1 ≤ length xs → (j : Words) →
    fixed mark.Open ∷ separated f.words (nodes f xs) (fixed mark.Close ∷ j) ≡ in_parentheses f.words (nodes f xs) j
parenthesized f [] h j = absurd (omega arith)
parenthesized f (x ∷ xs) h j = refl
