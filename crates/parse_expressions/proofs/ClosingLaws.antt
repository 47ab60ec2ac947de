-- The laws of what is followed by words that the node drops: ends, and what closes a construct.
use Rattle.std.specs.Str.{bytes_eq}
use Rattle.std.proofs.lemmas.Slice.Eq.{bytes_eq-Decides}
use Rattle.parse_expressions.proofs.Grammar.{Mark, Spelling, AreAlike, Both, Behind, Followed, SpellsEnd, Ended, SpellsEndName, SpellsClosing, Words, Spot, Fixed, followed_by, followed, ended, end_name, closing_by, closing, closed, Repeated, repeated, Parser, Outcome, Refused, pure, front, rest, sees, sees_name, ◌≡◌, ℕ, ◌⊎◌, inl, inr, Bool, true, false, true≢false, if◌then◌else◌, List, [], ◌∷◌, map, Option, Ok, Err, refl, sym, ap, ◌∙◌, subst, named, erased_name}
use Rattle.sdl_tree.specs.declared.mark.Mark.TheVariants as mark
use Rattle.sdl_tree.specs.Words as word
use Rattle.parse_expressions.proofs.Laws.{Form, Gives, Law, MaybeLaw, Anywhere, GoodAfter, Made, Tied, as_law, same_law, stops_law, nothing_law, tied_law, both_law, behind_law, first_alone, formed_law, made_law, either_law, read_as, rest_here, if_true, sees_front, sees_at, swapped, alike_name, alike_from}
use Rattle.parse_expressions.proofs.ListLaws.{repeated_law}
use Rattle.parse_expressions.proofs.PartLaws.{name_front, no_name, end_law, end_begins, whole}

-- ---- x and words that the node drops

-- x and words that the node drops, which may depend on x
abbrev pub Drops : {A : Type 0} → Form A → Form A → Form A
Drops R D x i j = (m : Words) × R x i m × D x m j

module _ {A : Type 0} {p : Parser A} {q : A → Parser (Unit {0})} {P M : Form A} {D : Form A} {S T : Words → Type 0} {e : A → A} where
  -- where the second begins the first stops, and what differs in places alone is followed by the same
  pub drops_law : Law p P M S e → ((x : A) → Law (q x) (λ _. D x) (λ _. D x) T whole) → ((x : A) (m j : Words) → D x m j → T j → S m)
      → ((x y : A) → e x ≡ e y → (i j : Words) → D x i j → D y i j) → Law (followed_by p q) (Drops P D) (Drops M D) T e
  drops_law a b ends same =
      same_law (λ i. first_alone (p i) q)
      (formed_law (λ (x : A × Unit {0}). x.0) (λ j t. t) (λ x i j (s : Tied P (λ y _. D y) x i j). s) (λ x i j s. ((x, tt), refl, s))
      (λ x i j (s : Tied M (λ y _. D y) x i j). s) (λ x. refl)
      (tied_law a b (λ x u m j s t. ends x m j s t) (λ x y n u i j s. same x y n i j s)))

module _ {A : Type 0} {p : Parser A} {q : Parser (Unit {0})} {P M : Form A} {D : Words → Words → Type 0} {S T : Words → Type 0} {e : A → A} where
  pub followed_law : Law p P M S e → Law q (λ _. D) (λ _. D) T whole → ((m j : Words) → D m j → T j → S m) → Law (followed p q) (Followed P D) (Followed M D) T e
  followed_law a d ends = drops_law a (λ x. d) (λ x. ends) (λ x y n i j s. s)

-- x end, where x stops at an end
pub ended_law : {A : Type 0} {p : Parser A} {P M : Form A} {S : Words → Type 0} {e : A → A} → Law p P M S e
    → ((i j : Words) → SpellsEnd i j → S i) → Law (ended p) (Ended P) (Ended M) Anywhere e
ended_law a at_end = followed_law a end_law (λ m j s t. at_end m j s)

pub ended_at_law : {A : Type 0} {p : Parser A} {P M : Form A} {S : Words → Type 0} {e : A → A} → Law p P M S e
    → ((s : Spelling) (m : Words) → S (Fixed mark.Semicolon s ∷ m)) → ((s : Spelling) (m : Words) → S (Fixed mark.Comment s ∷ m)) → Law (ended p) (Ended P) (Ended M) Anywhere e
ended_at_law {S = S} a at_semicolon at_comment = ended_law a (end_begins S at_semicolon at_comment)

-- ---- [NAME], where a name is a good one

abbrev pub Named : (List ℕ → Bool) → Words → Words → Type 0
Named good i j = (i ≡ j) ⊎ ((y : Spot) × (good y.text ≡ true) × (i ≡ word.Name y ∷ j))

module _ (good : List ℕ → Bool) where
  abbrev Unnamed : Words → Type 0
  Unnamed j = sees_name j ≡ false

  abbrev Tries : Words → Outcome (Unit {0}) → Type 0
  Tries = Gives (named good) (λ _. Named good) (λ _. Named good) Unnamed

  at_name : (y : Spot) (i : Words) → good y.text ≡ true → named good (word.Name y ∷ i) ≡ read_as tt i
  unfolding named front rest
  at_name y i e = if_true (good y.text) (Ok (tt, i)) (Err (Refused (word.Name y ∷ i))) e

  elsewhere : (i : Words) → sees_name i ≡ false → named good i ≡ read_as tt i
  unfolding named sees_name front
  elsewhere (word.Name y ∷ i) e = absurd (true≢false e)
  elsewhere i e = refl

  unnamed_after : (j k : Words) → sees_name j ≡ false → GoodAfter Unnamed j k → sees_name k ≡ false
  unnamed_after j k none (inl same) = name_front k j same ∙ none
  unnamed_after j k none (inr t) = t

  named_try : (y : Spot) (i : Words) (b : Bool) → good y.text ≡ b → Tries (word.Name y ∷ i) (if b then Ok (tt, i) else Err (Refused (word.Name y ∷ i)))
  named_try y i true e = record { taken = word.Name y ∷ []; at = refl; again = λ k g. at_name y k e; spelled = inr (y, e, refl) }
  named_try y i false e = rest_here (word.Name y ∷ i)

  named_tells : (i : Words) → Tries i (named good i)
  unfolding named sees_name front rest
  named_tells (word.Name y ∷ i) = named_try y i (good y.text) refl
  named_tells i = record { taken = []; at = refl; again = λ k g. elsewhere k (unnamed_after i k refl g); spelled = inl refl }

  named_complete : (u : Unit {0}) (i j : Words) → Named good i j → Unnamed j → named good i ≡ read_as u j
  named_complete u i j (inl e) t = ap (named good) e ∙ elsewhere j t
  named_complete u i j (inr c) t = ap (named good) c.2 ∙ at_name c.0 j c.1

  named_moves : (u : Unit {0}) (i j k : Words) → Named good i j → AreAlike i k → (v : Unit {0}) × (l : Words) × Named good k l × AreAlike j l × (whole v ≡ whole u)
  named_moves u i j k (inl e) t = (tt, k, inl refl, alike_from i j k e t, refl)
  named_moves u i j k (inr c) t =
      let a = alike_name c.0 j k (alike_from i (word.Name c.0 ∷ j) k c.2 t) in (tt, a.1, inr (a.0, ap good a.4 ∙ c.1, a.2), a.3, refl)

  pub named_law : Law (named good) (λ _. Named good) (λ _. Named good) (λ j. sees_name j ≡ false) whole
  named_law = record {
    rules = record { tells = named_tells; complete = named_complete; moves = named_moves; more = λ u i j s. s };
    one = (tt, [], λ j t. inl refl);
  }

-- ---- [NAME] behind a closing word

abbrev is_text : List ℕ → List ℕ → Bool
is_text x y = bytes_eq y x

called_to : (x : List ℕ) (u : Unit {0}) (i j : Words) → Named (is_text x) i j → SpellsEndName x i j
called_to x u i j (inl e) = inl e
called_to x u i j (inr c) = inr (c.0, (bytes_eq-Decides c.0.text x).0 c.1, c.2)

called_from : (x : List ℕ) (u : Unit {0}) (i j : Words) → SpellsEndName x i j → Named (is_text x) i j
called_from x u i j (inl e) = inl e
called_from x u i j (inr c) = inr (c.0, (bytes_eq-Decides c.0.text x).1 c.1, c.2)

-- and not before a name
pub end_name_law : (x : List ℕ) → Law (end_name x) (λ _. SpellsEndName x) (λ _. SpellsEndName x) (λ j. sees_name j ≡ false) whole
end_name_law x = as_law (called_to x) (called_from x) (called_to x) (named_law (is_text x))

-- ---- MARK .. end

abbrev pub Nowhere : Unit {0} → Words → Words → Type 0
Nowhere u i j = i ≡ j

pub nowhere_law : (S : Words → Type 0) → Law (pure tt) Nowhere Nowhere S whole
nowhere_law S = as_law (λ u i j s. s.1) (λ u i j s. (refl, s)) (λ u i j s. s.1) (nothing_law tt)

-- what stands between the mark and the end
abbrev pub Closes : Mark → (Words → Words → Type 0) → Words → Words → Type 0
Closes m D i j = (s : Spelling) × (k l : Words) × (i ≡ Fixed m s ∷ k) × D k l × SpellsEnd l j

module _ (m : Mark) {p : Parser (Unit {0})} {D : Words → Words → Type 0} (a : Law p (λ _. D) (λ _. D) (λ j. sees_name j ≡ false) whole) where
  pub closing_by_law : Law (closing_by m p) (λ _. Closes m D) (λ _. Closes m D) Anywhere whole
  closing_by_law =
      as_law closing_to (λ u i j s. (s.0, s.1, s.3, ((tt, tt), refl, (s.2, s.4, s.5)))) closing_to
      (behind_law m (made_law (λ _. tt) (λ x. refl) (both_law a end_law (λ u k j s t. end_begins (λ i. sees_name i ≡ false) (no_name mark.Semicolon) (no_name mark.Comment) k j s))))
    where
      closing_to : (u : Unit {0}) (i j : Words) → Behind m (Made (λ _. tt) (Both (λ (_ : Unit {0}). D) (λ (_ : Unit {0}). SpellsEnd))) u i j → Closes m D i j
      closing_to u i j s = (s.0, s.1, s.3.2.0, s.2, s.3.2.1, s.3.2.2)

  -- [MARK .. end]
  pub closed_law : Law (closed m p) (λ _ i j. (i ≡ j) ⊎ Closes m D i j) (λ _ i j. (i ≡ j) ⊎ Closes m D i j) (λ j. sees m j ≡ false) whole
  closed_law =
      as_law (λ u i j s. swapped s) (λ u i j s. swapped s) (λ u i j s. swapped s)
      (either_law (sees m) (sees_front m) (stops_law (λ j t. tt) closing_by_law) (nowhere_law (λ j. sees m j ≡ false)) (λ u i j s. sees_at m s.0 i s.1 s.3) (λ u i j s t. ap (sees m) s ∙ t))

-- MARK [NAME] end
pub closing_law : (m : Mark) (x : List ℕ) → Law (closing m x) (λ _. SpellsClosing m x) (λ _. SpellsClosing m x) Anywhere whole
unfolding closing
closing_law m x = closing_by_law m (end_name_law x)

-- what is closed by its mark stops there
pub closing_begins : (P : Words → Type 0) (m : Mark) → ((s : Spelling) (k : Words) → P (Fixed m s ∷ k)) → (x : List ℕ) (i j : Words) → SpellsClosing m x i j → P i
closing_begins P m at x i j s = subst P (sym s.3) (at s.0 s.1)

-- {x} MARK [NAME] end, where no x begins at the mark
pub closed_list_law : {A : Type 0} (m : Mark) {begins : Words → Bool} {p : Parser (Option A)} {P M : Form A} {S : Words → Type 0} {e : A → A} → MaybeLaw p P M S begins e
    → ((i : Words) → begins i ≡ true → S i) → S [] → ((s : Spelling) (k : Words) → S (Fixed m s ∷ k) × (begins (Fixed m s ∷ k) ≡ false)) → (x : List ℕ)
    → Law (followed (repeated p) (closing m x)) (Followed (Repeated P) (SpellsClosing m x)) (Followed (Repeated M) (SpellsClosing m x)) Anywhere (map e)
closed_list_law m {begins = begins} {S = S} a at_start last ends x =
    followed_law (repeated_law a at_start last) (closing_law m x) (λ k j s t. closing_begins (λ l. S l × (begins l ≡ false)) m ends x k j s)

-- what is closed by a name is closed by another that differs in places alone
pub closed_same : {B : Type 0} (P : Form B) (m : Mark) (x y : Spot) → erased_name x ≡ erased_name y
    → (z : B) (i j : Words) → Followed P (SpellsClosing m x.text) z i j → Followed P (SpellsClosing m y.text) z i j
closed_same P m x y e z i j s = let R : Spot → Type 0 = λ w. Followed P (SpellsClosing m w.text) z i j in subst R e s
