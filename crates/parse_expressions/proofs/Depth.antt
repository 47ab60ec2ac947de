-- Where a reading finds one too many inside each other: what is passed can go on, and the word there goes on only with
-- one more.
use Rattle.sdl_tree.specs.declared.mark.Mark.TheVariants as mark
use Rattle.parse_expressions.proofs.Grammar.{Spelling, Word, Words, Fixed, IsOpening, front, behind, ◌≡◌, ◌⊎◌, inl, inr, [], ◌∷◌, ◌++◌, refl, sym, ap, ◌∙◌, subst, append_assoc, append-nil}
use Rattle.parse_expressions.proofs.Steps.{IsRest}

-- the same stands next
abbrev pub SameFront : Words → Words → Type 0
SameFront k m = front k ≡ front m

-- the words that stand between what can go on and what is behind: the opening word, or `active` and its parenthesis
abbrev pub IsHead : Words → Word → Type 0
IsHead head w = (head ≡ w ∷ []) ⊎ ((r : Spelling) × (head ≡ Fixed mark.Active r ∷ w ∷ []))

-- before words that may stand behind it, and some of its own, what is spelled reaches so far
abbrev pub Reaches : {A : Type 0} → (A → Words → Words → Type 0) → (Words → Type 0) → (Words → Words) → Type 0
Reaches {A} P S before = (x : A) × (u : Words) × ((j : Words) → S j → P x (before (u ++ j)) j)

-- words that begin so spell a node
abbrev pub GoesOn : {A : Type 0} → (A → Words → Words → Type 0) → (Words → Type 0) → Words → Type 0
GoesOn P S passed = Reaches P S (λ k. passed ++ k)

-- something is spelled so
abbrev pub HasOne : {A : Type 0} → (A → Words → Words → Type 0) → (Words → Type 0) → Type 0
HasOne P S = GoesOn P S []

-- the word that opens one too many, and the words round it
pub record Opening : Type 0 where
  pub passed : Words
  pub head : Words
  pub opening : Word
  pub back : Words
  pub opens : IsOpening opening
  pub heads : IsHead head opening

-- `More` spells what `P` does with one more inside each other
pub record TooMany {A : Type 0} (P More : A → Words → Words → Type 0) (S : Words → Type 0) (i left : Words) : Type 0 where
  pub place : Opening
  pub open place use *
  pub at : i ≡ passed ++ (head ++ back)
  pub here : left ≡ opening ∷ back
  pub goes : (passed ≡ []) ⊎ GoesOn P S passed
  pub more : Reaches More S (λ k. passed ++ (head ++ k))
  pub barred : (k : Words) (x : A) (j : Words) → P x (passed ++ (head ++ k)) j → S j → ⊥

-- it stands in these words
pub deep_rest : {A : Type 0} {P M : A → Words → Words → Type 0} {S : Words → Type 0} (i left : Words) → TooMany P M S i left → IsRest i left
deep_rest i left t = by t.heads
  where
    by : IsHead t.head t.opening → IsRest i left
    by (inl e) = (t.passed, t.at ∙ ap (λ h. t.passed ++ (h ++ t.back)) e ∙ ap (λ k. t.passed ++ k) (sym t.here))
    by (inr e) =
        let active : Words = Fixed mark.Active e.0 ∷ [] in
        (t.passed ++ active, t.at ∙ ap (λ h. t.passed ++ (h ++ t.back)) e.1 ∙ ap (λ k. t.passed ++ (active ++ k)) (sym t.here) ∙ sym (append_assoc t.passed active left))

-- none opens where the same is spelled with one more
pub no_deeper : {A : Type 0} {P : A → Words → Words → Type 0} {S : Words → Type 0} (i left : Words) → S [] → TooMany P P S i left → ⊥
no_deeper i left last t = t.barred (t.more.1 ++ []) t.more.0 [] (t.more.2 [] last) last

-- what stands next is not changed by what stands behind the opening word
pub passed_front : (passed head : Words) (w : Word) → IsHead head w → (k m : Words) → SameFront (passed ++ (head ++ k)) (passed ++ (head ++ m))
unfolding front
passed_front [] head w (inl e) k m = let F : Words → Type 0 = λ h. front (h ++ k) ≡ front (h ++ m) in subst F (sym e) refl
passed_front [] head w (inr e) k m = let F : Words → Type 0 = λ h. front (h ++ k) ≡ front (h ++ m) in subst F (sym e.1) refl
passed_front (v ∷ passed) head w h k m = refl

-- nor by what stands behind other words
pub same_behind : (u k m : Words) → SameFront k m → SameFront (u ++ k) (u ++ m)
unfolding front
same_behind [] k m e = e
same_behind (v ∷ u) k m e = refl

pub front_behind : (v : Word) (u k m : Words) → SameFront (v ∷ u ++ k) (v ∷ u ++ m)
unfolding front
front_behind v u k m = refl

-- ---- nodes with words behind them

-- Each node is that of one with such words behind it.
longer : {A B : Type 0} (P : A → Words → Words → Type 0) (R : B → Words → Words → Type 0) (S U : Words → Type 0) (before : Words → Words)
    → ((x : A) → (y : B) × (v : Words) × ((k j : Words) → U j → S (v ++ j) × (P x k (v ++ j) → R y k j))) → Reaches P S before → Reaches R U before
longer P R S U before behind g =
    let b = behind g.0 in (
      b.0,
      g.1 ++ b.1,
      λ j u.
          let c = b.2 (before (g.1 ++ (b.1 ++ j))) j u in
          let F : Words → Type 0 = λ k. R b.0 (before k) j in subst F (sym (append_assoc g.1 b.1 j)) (c.1 (g.2 (b.1 ++ j) c.0)),
    )

or_on : {X Y Z : Type 0} → (Y → Z) → X ⊎ Y → X ⊎ Z
or_on f (inl x) = inl x
or_on f (inr y) = inr (f y)

-- ---- what stands within a larger node, with words behind it, or is spelled by another name

module _ {A B : Type 0} {P M : A → Words → Words → Type 0} {S : Words → Type 0} {R O : B → Words → Words → Type 0} {U : Words → Type 0} (i left : Words) where
  -- Each node is that of one with such words behind it, and with the word nothing else is spelled either.
  pub larger : (t : TooMany P M S i left)
      → ((x : A) → (y : B) × (v : Words) × ((k j : Words) → U j → S (v ++ j) × (P x k (v ++ j) → R y k j)))
      → ((x : A) → (y : B) × (v : Words) × ((k j : Words) → U j → S (v ++ j) × (M x k (v ++ j) → O y k j)))
      → ((k : Words) (y : B) (j : Words) → R y (t.passed ++ (t.head ++ k)) j → U j → ⊥) → TooMany R O U i left
  larger t behind behind_more barred = record {
    place = t.place;
    at = t.at;
    here = t.here;
    goes = or_on (longer P R S U (λ k. t.passed ++ k) behind) t.goes;
    more = longer M O S U (λ k. t.passed ++ (t.head ++ k)) behind_more t.more;
    barred = barred;
  }

  -- whatever is spelled as the larger node has one
  pub within : TooMany P M S i left
      → ((x : A) → (y : B) × (v : Words) × ((k j : Words) → U j → S (v ++ j) × (P x k (v ++ j) → R y k j)))
      → ((x : A) → (y : B) × (v : Words) × ((k j : Words) → U j → S (v ++ j) × (M x k (v ++ j) → O y k j)))
      → ((y : B) (k j : Words) → SameFront k i → R y k j → U j → (x : A) × (l : Words) × P x k l × S l)
      → TooMany R O U i left
  within t behind behind_more has =
      larger t behind behind_more
      (λ k y j s u.
      let e : SameFront (t.passed ++ (t.head ++ k)) i = passed_front t.passed t.head t.opening t.heads k t.back ∙ ap front (sym t.at) in
      let c = has y (t.passed ++ (t.head ++ k)) j e s u in t.barred k c.0 c.1 c.2 c.3)

-- where with the word nothing else is spelled either
pub renamed : {A B : Type 0} {P M : A → Words → Words → Type 0} {S : Words → Type 0} {U : Words → Type 0} (i left : Words) (R O : B → Words → Words → Type 0) (f : A → B)
    → ((j : Words) → U j → S j) → ((x : A) (k j : Words) → P x k j → R (f x) k j) → ((x : A) (k j : Words) → M x k j → O (f x) k j)
    → (t : TooMany P M S i left) → ((k : Words) (y : B) (j : Words) → R y (t.passed ++ (t.head ++ k)) j → U j → ⊥) → TooMany R O U i left
renamed i left R O f fewer to to_more t barred =
    larger i left t (λ x. (f x, [], λ k j u. (fewer j u, to x k j))) (λ x. (f x, [], λ k j u. (fewer j u, to_more x k j))) barred

-- ---- what stands behind words that were passed

module _ {A B : Type 0} {Q N : A → Words → Words → Type 0} {T : Words → Type 0} {R O : B → Words → Words → Type 0} {U : Words → Type 0} (u i m left : Words) where
  -- Behind these words each node makes the larger one, one stands there, and whatever is spelled so as the larger node has one.
  pub onward : i ≡ u ++ m → TooMany Q N T m left → (f : A → B) → ((j : Words) → U j → T j)
      → ((y : A) (k j : Words) → SameFront k m → Q y k j → U j → R (f y) (u ++ k) j)
      → ((y : A) (k j : Words) → SameFront k m → N y k j → U j → O (f y) (u ++ k) j)
      → GoesOn R U u
      → ((x : B) (k j : Words) → SameFront k m → R x (u ++ k) j → U j → (y : A) × (l : Words) × Q y k l × T l)
      → TooMany R O U i left
  onward e t f fewer makes makes_more one has = record {
    place = record t.place { passed = u ++ t.passed };
    at = e ∙ ap (λ k. u ++ k) t.at ∙ sym (append_assoc u t.passed (t.head ++ t.back));
    here = t.here;
    goes = goes_on t.passed t.at t.goes;
    more = (
      f t.more.0,
      t.more.1,
      λ j s.
          let F : Words → Type 0 = λ k. O (f t.more.0) k j in
          subst F (sym (append_assoc u t.passed (t.head ++ (t.more.1 ++ j))))
          (makes_more t.more.0 (t.passed ++ (t.head ++ (t.more.1 ++ j))) j (same (t.more.1 ++ j)) (t.more.2 j (fewer j s)) s),
    );
    barred = λ k x j s n.
        let F : Words → Type 0 = λ l. R x l j in
        let c = has x (t.passed ++ (t.head ++ k)) j (same k) (subst F (append_assoc u t.passed (t.head ++ k)) s) n in t.barred k c.0 c.1 c.2 c.3;
  }
    where
      same : (k : Words) → SameFront (t.passed ++ (t.head ++ k)) m
      same k = passed_front t.passed t.head t.opening t.heads k t.back ∙ ap front (sym t.at)

      goes_on : (passed : Words) → m ≡ passed ++ (t.head ++ t.back) → (passed ≡ []) ⊎ GoesOn Q T passed → (u ++ passed ≡ []) ⊎ GoesOn R U (u ++ passed)
      goes_on [] at g = let F : Words → Type 0 = λ k. GoesOn R U k in inr (subst F (sym (append-nil u)) one)
      goes_on (v ∷ passed) at (inl none) = absurd cc
      goes_on (v ∷ passed) at (inr g) =
          inr (
            f g.0,
            g.1,
            λ j s.
                let F : Words → Type 0 = λ k. R (f g.0) k j in
                let e : SameFront (v ∷ passed ++ (g.1 ++ j)) m = front_behind v passed (g.1 ++ j) (t.head ++ t.back) ∙ ap front (sym at) in
                subst F (sym (append_assoc u (v ∷ passed) (g.1 ++ j))) (makes g.0 (v ∷ passed ++ (g.1 ++ j)) j e (g.2 j (fewer j s)) s),
          )

-- ---- where nothing more may stand

-- the opening word itself, or `active` and its parenthesis
pub closed : {A : Type 0} {P M : A → Words → Words → Type 0} {S : Words → Type 0} (i left head back : Words) (w : Word) → i ≡ head ++ back → left ≡ w ∷ back
    → IsOpening w → IsHead head w → Reaches M S (λ k. head ++ k)
    → ((k : Words) (x : A) (j : Words) → P x (head ++ k) j → S j → ⊥)
    → TooMany P M S i left
closed i left head back w at here opens heads more barred = record {
  place = record { passed = []; head = head; opening = w; back = back; opens = opens; heads = heads };
  at = at;
  here = here;
  goes = inl refl;
  more = more;
  barred = barred;
}
