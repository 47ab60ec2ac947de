-- Labels that are numbered in the order of the text.
use Rattle.std.proofs.Common.{◌≡◌, ◌∙◌, inl, inr, ℕ, zero, suc, ◌+◌, ◌≤◌, ◌<◌, ◌==◌, ◌++◌, Bool, true, false, List, [], ◌∷◌, Option, Some, arith, cond, flat_map, slice_get, refl, ap, sym, subst}
use Rattle.std.proofs.lemmas.Bool.{eqb-true}
use Rattle.std.proofs.lemmas.Slice.Eq.{bytes_eq-Decides}
use Rattle.std.specs.Str.{bytes_eq}
use Rattle.build_process.proofs.EndLemmas.{some-same}
use Rattle.build_process.proofs.MentionLemmas.{for_some, number_of}
use Rattle.build_process.specs.Numbered.{AreNumbered, numbered}
use Rattle.build_names.specs.Labels.{process_labels}
use Rattle.build_statements.specs.Contexts.{Context, label_in}
use Rattle.build_statements.specs.Labels.{times}
use Rattle.build_names.specs.FaultLaws.{In}
use Rattle.build_names.specs.Names.{first_of}
use Rattle.sdl_system.specs.declared.id.LabelId.{LabelId}
use Rattle.sdl_tree.specs.Tree.{ProcessDefinition}
use Rattle.sdl_tree.specs.Words.{Spot}

abbrev the_label : ℕ → LabelId
the_label n = record { 0 = n }

-- ---- where a name is found

record FoundAt (k : ℕ) (labels : List Spot) (text : List ℕ) (l : LabelId) : Type 0 where
  place : ℕ
  word : Spot
  listed : slice_get labels place ≡ Some word
  text_is : word.text ≡ text
  number_is : l.0 ≡ k + place

next-number : (k n m : ℕ) → n ≡ (k + 1) + m → n ≡ k + suc m
next-number k n m is = omega (arith, is)

found-later : (k : ℕ) (x : Spot) (labels : List Spot) (text : List ℕ) (l : LabelId) → FoundAt (k + 1) labels text l →
    FoundAt k (x ∷ labels) text l
found-later k x labels text l at = record {
  place = suc at.place;
  word = at.word;
  listed = at.listed;
  text_is = at.text_is;
  number_is = next-number k l.0 at.place at.number_is;
}

found-first : (k : ℕ) (x : Spot) (labels : List Spot) (text : List ℕ) (l : LabelId) (same : Bool) →
    bytes_eq text x.text ≡ same → cond same (Some (the_label k)) (first_of (numbered (k + 1) labels) text) ≡ Some l →
    (first_of (numbered (k + 1) labels) text ≡ Some l → FoundAt (k + 1) labels text l) → FoundAt k (x ∷ labels) text l
found-first k x labels text l true same is rest = record {
  place = 0;
  word = x;
  listed = refl;
  text_is = sym ((bytes_eq-Decides text x.text).0 same);
  number_is = let e : the_label k ≡ l = some-same (the_label k) l is in
      let n : k ≡ l.0 = ap (λ (i : LabelId). i.0) e in omega (arith, n);
}
found-first k x labels text l false same is rest = found-later k x labels text l (rest is)

found-at : (k : ℕ) (labels : List Spot) (text : List ℕ) (l : LabelId) → first_of (numbered k labels) text ≡ Some l →
    FoundAt k labels text l
found-at k [] text l is = cc
found-at k (x ∷ labels) text l is =
    found-first k x labels text l (bytes_eq text x.text) refl is (found-at (k + 1) labels text l)

is-or-later : (same : Bool) (one : LabelId) (later : Option LabelId) → (l : LabelId) × (later ≡ Some l) →
    (l : LabelId) × (cond same (Some one) later ≡ Some l)
is-or-later true one later found = (one, refl)
is-or-later false one later found = found

is-first : (one : LabelId) (later : Option LabelId) (same : Bool) → same ≡ true →
    (l : LabelId) × (cond same (Some one) later ≡ Some l)
is-first one later true is = (one, refl)
is-first one later false is = cc

-- each label's name is found
is-found : (k : ℕ) (labels : List Spot) (n : ℕ) (word : Spot) → slice_get labels n ≡ Some word →
    (l : LabelId) × (first_of (numbered k labels) word.text ≡ Some l)
is-found k [] zero word at = cc
is-found k [] (suc n) word at = cc
is-found k (x ∷ labels) zero word at =
    is-first (the_label k) (first_of (numbered (k + 1) labels) word.text) (bytes_eq word.text x.text)
    ((bytes_eq-Decides word.text x.text).1 (ap (λ (w : Spot). w.text) (sym (some-same x word at))))
is-found k (x ∷ labels) (suc n) word at =
    is-or-later (bytes_eq word.text x.text) (the_label k) (first_of (numbered (k + 1) labels) word.text)
    (is-found (k + 1) labels n word at)

-- ---- numbers in the order of the text

abbrev pub counted : ℕ → List Spot → List LabelId
counted k [] = []
counted k (x ∷ labels) = the_label k ∷ counted (k + 1) labels

-- each label of the list has the number that comes next
abbrev Numbers : (Spot → Option LabelId) → ℕ → List Spot → Type 0
Numbers f k labels = (n : ℕ) (word : Spot) → slice_get labels n ≡ Some word → f word ≡ Some (the_label (k + n))

plus-zero : (k : ℕ) → k + 0 ≡ k
plus-zero k = omega arith

plus-next : (k n : ℕ) → k + suc n ≡ (k + 1) + n
plus-next k n = omega arith

all-counted : (context : Context) (k : ℕ) (labels : List Spot) → Numbers (λ word. label_in context word.text) k labels →
    flat_map (number_of context) labels ≡ counted k labels
all-counted context k [] are = refl
all-counted context k (x ∷ labels) are =
    ap (λ (o : Option LabelId). for_some (λ l. l ∷ []) o ++ flat_map (number_of context) labels)
    (are 0 x refl ∙ ap (λ n. Some (the_label n)) (plus-zero k))
    ∙ ap (λ list. the_label k ∷ list)
    (all-counted context (k + 1) labels
    (λ n word at. are (suc n) word at ∙ ap (λ m. Some (the_label m)) (plus-next k n)))

not-first : (l : LabelId) (k : ℕ) (labels : List Spot) (b : Bool) → (k == l.0) ≡ b → l.0 < k →
    times l (counted (k + 1) labels) ≡ 0 → cond b 1 0 + times l (counted (k + 1) labels) ≡ 0
not-first l k labels true same below rest =
    absurd (let e : k ≡ l.0 = eqb-true k l.0 same in omega (arith, e, below))
not-first l k labels false same below rest = omega (arith, rest)

-- a smaller number isn't among them
none-below : (l : LabelId) (k : ℕ) (labels : List Spot) → l.0 < k → times l (counted k labels) ≡ 0
none-below l k [] below = refl
none-below l k (x ∷ labels) below =
    not-first l k labels (k == l.0) refl below (none-below l (k + 1) labels (omega (arith, below)))

once-first : (l : LabelId) (k : ℕ) (labels : List Spot) (b : Bool) → (k == l.0) ≡ b →
    times l (counted (k + 1) labels) ≤ 1 → cond b 1 0 + times l (counted (k + 1) labels) ≤ 1
once-first l k labels true same rest =
    let e : k ≡ l.0 = eqb-true k l.0 same in
    let none : times l (counted (k + 1) labels) ≡ 0 = none-below l (k + 1) labels (omega (arith, e)) in
    omega (arith, none)
once-first l k labels false same rest = omega (arith, rest)

pub counted-once : (l : LabelId) (k : ℕ) (labels : List Spot) → times l (counted k labels) ≤ 1
counted-once l k [] = omega arith
counted-once l k (x ∷ labels) = once-first l k labels (k == l.0) refl (counted-once l (k + 1) labels)

counted-in : (k : ℕ) (labels : List Spot) (n : ℕ) (word : Spot) → slice_get labels n ≡ Some word →
    In (the_label (k + n)) (counted k labels)
counted-in k [] zero word at = cc
counted-in k [] (suc n) word at = cc
counted-in k (x ∷ labels) zero word at = inl (ap the_label (plus-zero k))
counted-in k (x ∷ labels) (suc n) word at =
    inr (subst (λ (m : ℕ). In (the_label m) (counted (k + 1) labels)) (sym (plus-next k n))
    (counted-in (k + 1) labels n word at))

-- ---- the labels of a process

module _ (context : Context) (process : ProcessDefinition) (are : AreNumbered context process) where
  abbrev labels : List Spot
  labels = process_labels process

  place-of : (text : List ℕ) (l : LabelId) → label_in context text ≡ Some l → FoundAt 0 labels text l
  place-of text l is =
      found-at 0 labels text l (ap (λ names. first_of names text) (sym are.numbers) ∙ is)

  -- a number is that of one name
  pub same-text : (one other : List ℕ) (l : LabelId) → label_in context one ≡ Some l → label_in context other ≡ Some l →
      one ≡ other
  same-text one other l is other_is =
      let a = place-of one l is in
      let b = place-of other l other_is in
      let an = a.number_is in
      let bn = b.number_is in
      let same : a.place ≡ b.place = omega (arith, an, bn) in
      let word : a.word ≡ b.word =
      some-same a.word b.word (sym a.listed ∙ ap (λ n. slice_get labels n) same ∙ b.listed) in
      sym a.text_is ∙ ap (λ (w : Spot). w.text) word ∙ b.text_is

  numbers : Numbers (λ word. label_in context word.text) 0 labels
  numbers n word at =
      let found = is-found 0 labels n word at in
      let here : label_in context word.text ≡ Some found.0 =
      ap (λ names. first_of names word.text) are.numbers ∙ found.1 in
      let p = place-of word.text found.0 here in
      let same : p.place ≡ n = are.different p.place n p.word word p.listed at p.text_is in
      let number : found.0.0 ≡ 0 + n = p.number_is ∙ ap (λ m. 0 + m) same in
      here ∙ ap (λ m. Some (the_label m)) number

  pub numbers-are : flat_map (number_of context) labels ≡ counted 0 labels
  numbers-are = all-counted context 0 labels numbers

  -- the label of a name is one of them
  pub number-in : (text : List ℕ) (l : LabelId) → label_in context text ≡ Some l → In l (counted 0 labels)
  number-in text l is =
      let p = place-of text l is in
      subst (λ (i : LabelId). In i (counted 0 labels)) (ap the_label (sym p.number_is))
      (counted-in 0 labels p.place p.word p.listed)
