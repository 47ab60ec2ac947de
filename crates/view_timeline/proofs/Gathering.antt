-- What is read off events with their links, where events are added behind them.
use Rattle.std.proofs.Common.{◌≡◌, ℕ, suc, ◌+◌, List, [], ◌∷◌, ◌++◌, length, refl, sym, ◌∙◌, ap, subst, arith, append-nil, append_assoc, set}
use Rattle.std.specs.List.{AllByRecursion}
use Rattle.view_timeline.specs.Did.{Did}
use Rattle.view_timeline.specs.Linked.{Each, gather}
use Rattle.view_timeline.specs.declared.moves.Link.{Link}

-- ---- lists

pub all-append : {X : Type 0} (P : X → Type 0) (xs ys : List X) → AllByRecursion P xs → AllByRecursion P ys
    → AllByRecursion P (xs ++ ys)
all-append P [] ys all more = more
all-append P (x ∷ xs) ys all more = (all.0, all-append P xs ys all.1 more)

pub all-left : {X : Type 0} (P : X → Type 0) (xs ys : List X) → AllByRecursion P (xs ++ ys) → AllByRecursion P xs
all-left P [] ys all = tt
all-left P (x ∷ xs) ys all = (all.0, all-left P xs ys all.1)

pub all-right : {X : Type 0} (P : X → Type 0) (xs ys : List X) → AllByRecursion P (xs ++ ys) → AllByRecursion P ys
all-right P [] ys all = all
all-right P (x ∷ xs) ys all = all-right P xs ys all.1

pub all-map : {X : Type 0} (P Q : X → Type 0) → ((x : X) → P x → Q x) → (xs : List X) → AllByRecursion P xs
    → AllByRecursion Q xs
all-map P Q so [] all = tt
all-map P Q so (x ∷ xs) all = (so x all.0, all-map P Q so xs all.1)

pub set-middle : {X : Type 0} (xs : List X) (x : X) (ys : List X) (y : X)
    → set (xs ++ x ∷ ys) (length xs) y ≡ xs ++ y ∷ ys
set-middle [] x ys y = refl
set-middle (z ∷ xs) x ys y = ap (λ l. z ∷ l) (set-middle xs x ys y)

-- ---- what is read off

module _ {A : Type 0} (read : ℕ → Did → Link → List A) where
  pub gather-append : (place : ℕ) (xs ys : List Did) (ls ks : List Link) → length xs ≡ length ls
      → gather read place (xs ++ ys) (ls ++ ks) ≡ gather read place xs ls ++ gather read (place + length xs) ys ks
  gather-append place [] ys [] ks same =
      let e : place ≡ place + 0 = omega arith in ap (λ p. gather read p ys ks) e
  gather-append place [] ys (l ∷ ls) ks same = let no : ⊥ = omega (arith, same) in absurd no
  gather-append place (x ∷ xs) ys [] ks same = let no : ⊥ = omega (arith, same) in absurd no
  gather-append place (x ∷ xs) ys (l ∷ ls) ks same =
      let e : place + 1 + length xs ≡ place + suc (length xs) = omega arith in
      ap (λ r. read place x l ++ r) (gather-append (place + 1) xs ys ls ks (omega (arith, same)))
      ∙ sym (append_assoc (read place x l) (gather read (place + 1) xs ls) (gather read (place + 1 + length xs) ys ks))
      ∙ ap (λ p. (read place x l ++ gather read (place + 1) xs ls) ++ gather read p ys ks) e

  -- with one event more
  pub gather-last : (xs : List Did) (d : Did) (ls : List Link) (l : Link) → length xs ≡ length ls
      → gather read 0 (xs ++ d ∷ []) (ls ++ l ∷ []) ≡ gather read 0 xs ls ++ read (length xs) d l
  gather-last xs d ls l same =
      let e : 0 + length xs ≡ length xs = omega arith in
      gather-append 0 xs (d ∷ []) ls (l ∷ []) same
      ∙ ap (λ r. gather read 0 xs ls ++ r) (append-nil (read (0 + length xs) d l) ∙ ap (λ p. read p d l) e)

  -- with one event amid others
  pub gather-middle : (place : ℕ) (xs : List Did) (d : Did) (ys : List Did) (ls : List Link) (l : Link) (ks : List Link)
      → length xs ≡ length ls
      → gather read place (xs ++ d ∷ ys) (ls ++ l ∷ ks)
      ≡ gather read place xs ls ++ (read (place + length xs) d l ++ gather read (place + length xs + 1) ys ks)
  gather-middle place xs d ys ls l ks same = gather-append place xs (d ∷ ys) ls (l ∷ ks) same

-- ---- what holds of each

module _ (P : List Did → Did → Link → Type 0) where
  pub each-append : (before xs ys : List Did) (ls ks : List Link) → Each P before xs ls → Each P (before ++ xs) ys ks
      → Each P before (xs ++ ys) (ls ++ ks)
  each-append before [] ys [] ks all more = subst (λ b. Each P b ys ks) (append-nil before) more
  each-append before [] ys (l ∷ ls) ks all more = absurd all
  each-append before (x ∷ xs) ys [] ks all more = absurd all
  each-append before (x ∷ xs) ys (l ∷ ls) ks all more = (
    all.0,
    each-append (before ++ x ∷ []) xs ys ls ks all.1
        (subst (λ b. Each P b ys ks) (sym (append_assoc before (x ∷ []) xs)) more),
  )

  pub each-left : (before xs ys : List Did) (ls ks : List Link) → length xs ≡ length ls
      → Each P before (xs ++ ys) (ls ++ ks) → Each P before xs ls
  each-left before [] ys [] ks same all = tt
  each-left before [] ys (l ∷ ls) ks same all = let no : ⊥ = omega (arith, same) in absurd no
  each-left before (x ∷ xs) ys [] ks same all = let no : ⊥ = omega (arith, same) in absurd no
  each-left before (x ∷ xs) ys (l ∷ ls) ks same all =
      (all.0, each-left (before ++ x ∷ []) xs ys ls ks (omega (arith, same)) all.1)

  pub each-right : (before xs ys : List Did) (ls ks : List Link) → length xs ≡ length ls
      → Each P before (xs ++ ys) (ls ++ ks) → Each P (before ++ xs) ys ks
  each-right before [] ys [] ks same all = subst (λ b. Each P b ys ks) (sym (append-nil before)) all
  each-right before [] ys (l ∷ ls) ks same all = let no : ⊥ = omega (arith, same) in absurd no
  each-right before (x ∷ xs) ys [] ks same all = let no : ⊥ = omega (arith, same) in absurd no
  each-right before (x ∷ xs) ys (l ∷ ls) ks same all =
      subst (λ b. Each P b ys ks) (append_assoc before (x ∷ []) xs)
      (each-right (before ++ x ∷ []) xs ys ls ks (omega (arith, same)) all.1)

  pub each-length : (before xs : List Did) (ls : List Link) → Each P before xs ls → length xs ≡ length ls
  each-length before [] [] all = refl
  each-length before [] (l ∷ ls) all = absurd all
  each-length before (x ∷ xs) [] all = absurd all
  each-length before (x ∷ xs) (l ∷ ls) all = ap suc (each-length (before ++ x ∷ []) xs ls all.1)

  pub each-map : (Q : List Did → Did → Link → Type 0) → ((b : List Did) (d : Did) (l : Link) → P b d l → Q b d l)
      → (before xs : List Did) (ls : List Link) → Each P before xs ls → Each Q before xs ls
  each-map Q so before [] [] all = tt
  each-map Q so before [] (l ∷ ls) all = absurd all
  each-map Q so before (x ∷ xs) [] all = absurd all
  each-map Q so before (x ∷ xs) (l ∷ ls) all = (so before x l all.0, each-map Q so (before ++ x ∷ []) xs ls all.1)
