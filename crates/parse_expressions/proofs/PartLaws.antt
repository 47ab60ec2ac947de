-- The laws of the productions that stand in many others.
use Rattle.sdl_tree.specs.declared.mark.Mark.TheVariants as mark
use Rattle.parse_expressions.proofs.Grammar.{Mark, Spelling, plain, erased_name, erased_number, erased_item, IsMark, Both, Behind, Before, Enclosed, InParentheses, SpellsName, SpellsNumber, SpellsEnd, SpellsSig, SignalListItem, SignalItem, ListItem, Words, Spot, Fixed, Parser, front, rest, sees, same_mark, is_name, sees_name, name, number, text, enclosed, in_parentheses, end, sig, ◌≡◌, ◌⊎◌, inl, inr, true, false, List, [], ◌∷◌, map, pos, refl, sym, ap, ◌∙◌, subst, separated, Separated}
use Rattle.sdl_tree.specs.Words as word
use Rattle.parse_expressions.proofs.Laws.{Form, Gives, Law, Anywhere, Made, Nothing, as_law, stops_law, single_law, mark_law, nothing_law, behind_law, before_law, made_law, either_law, either_as, made_as, then_law, rest_here, sees_front, sees_at, sees_other, alike_name, alike_number, alike_text, alike_from, SameFront}
use Rattle.parse_expressions.proofs.ListLaws.{no_comma_at_close, separated_law}

-- ---- single words

-- some name
abbrev pub nameless : Spot
nameless = record { text = []; place = plain.place }

name_tells : (i : Words) → Gives name SpellsName SpellsName Anywhere i (name i)
unfolding name front rest
name_tells (word.Name x ∷ i) = record { taken = word.Name x ∷ []; at = refl; again = λ k g. refl; spelled = refl }
name_tells i = rest_here i

-- a name, of which what is kept depends on its text alone
pub name_as : (erased : Spot → Spot) → ((x y : Spot) → x.text ≡ y.text → erased x ≡ erased y) → Law name SpellsName SpellsName Anywhere erased
unfolding name front rest
name_as erased same = single_law
    name_tells
    (λ x i j e. ap name e)
    (λ x i j k e t. let a = alike_name x j k (alike_from i (word.Name x ∷ j) k e t) in (a.0, a.1, a.2, a.3, same a.0 x a.4))
    (nameless, word.Name nameless ∷ [], λ j t. refl)

pub name_law : Law name SpellsName SpellsName Anywhere erased_name
name_law = name_as erased_name (λ x y e n. record { text = e n; place = (erased_name x).place })

number_tells : (i : Words) → Gives number SpellsNumber SpellsNumber Anywhere i (number i)
unfolding number front rest
number_tells (word.Number n x ∷ i) = record { taken = word.Number n x ∷ []; at = refl; again = λ k g. refl; spelled = refl }
number_tells i = rest_here i

pub number_law : Law number SpellsNumber SpellsNumber Anywhere erased_number
unfolding number front rest
number_law = single_law
    number_tells
    (λ x i j e. ap number e)
    (λ x i j k e t.
    let a = alike_number x j k (alike_from i (word.Number x.value x.digits ∷ j) k e t) in
    (a.0, a.1, a.2, a.3, λ n. erased_number (record { value = a.4 n; digits = x.digits })))
    (record { value = pos 0; digits = nameless }, word.Number (pos 0) nameless ∷ [], λ j t. refl)

-- a character string, which the tree drops
abbrev pub SpellsText : Unit {0} → Words → Words → Type 0
SpellsText u i j = (x : Spot) × (i ≡ word.Text x ∷ j)

abbrev pub whole : Unit {0} → Unit {0}
whole u = u

text_tells : (i : Words) → Gives text SpellsText SpellsText Anywhere i (text i)
unfolding text front rest
text_tells (word.Text x ∷ i) = record { taken = word.Text x ∷ []; at = refl; again = λ k g. refl; spelled = (x, refl) }
text_tells i = rest_here i

text_law : Law text SpellsText SpellsText Anywhere whole
unfolding text front rest
text_law = single_law
    text_tells
    (λ u i j e. ap text e.1)
    (λ u i j k e t. let a = alike_text e.0 j k (alike_from i (word.Text e.0 ∷ j) k e.1 t) in (tt, a.1, (a.0, a.2), a.3, refl))
    (tt, word.Text nameless ∷ [], λ j t. (nameless, refl))

pub name_front : (i k : Words) → SameFront i k → sees_name i ≡ sees_name k
unfolding sees_name
name_front i k e = ap is_name e

pub name_begins : (x : Spot) (i j : Words) → i ≡ word.Name x ∷ j → sees_name i ≡ true
unfolding sees_name front
name_begins x i j e = ap sees_name e

pub name_last : sees_name [] ≡ false
unfolding sees_name front
name_last = refl

pub no_name : (m : Mark) (s : Spelling) (j : Words) → sees_name (Fixed m s ∷ j) ≡ false
unfolding sees_name front
no_name m s j = refl

-- ---- end

abbrev DropsComment : (Spelling × (Unit {0} × Spelling)) → Words → Words → Type 0
DropsComment = Both (IsMark mark.Comment) (Both SpellsText (IsMark mark.Semicolon))

end_to : (u : Unit {0}) (i j : Words) → Made (λ _. tt) DropsComment u i j ⊎ Made (λ _. tt) (IsMark mark.Semicolon) u i j → SpellsEnd i j
end_to u i j (inl s) =
    let c = s.2 in let x = c.2 in
    inr (s.0.0, s.0.1.1, x.1.0, c.1 ∙ ap (λ k. Fixed mark.Comment s.0.0 ∷ k) (x.1.1 ∙ ap (λ k. word.Text x.1.0 ∷ k) x.2))
end_to u i j (inr s) = inl (s.0, s.2)

end_from : (u : Unit {0}) (i j : Words) → SpellsEnd i j → Made (λ _. tt) DropsComment u i j ⊎ Made (λ _. tt) (IsMark mark.Semicolon) u i j
end_from u i j (inl s) = inr (s.0, refl, s.1)
end_from u i j (inr s) = inl ((s.0, (tt, s.1)), refl, (word.Text s.2 ∷ Fixed mark.Semicolon s.1 ∷ j, s.3, (Fixed mark.Semicolon s.1 ∷ j, (s.2, refl), refl)))

pub end_law : Law end (λ _. SpellsEnd) (λ _. SpellsEnd) Anywhere whole
unfolding end sees front same_mark
end_law =
    as_law end_to end_from end_to
    (either_law (sees mark.Comment) (sees_front mark.Comment)
    (made_law (λ _. tt) (λ x. refl) (then_law (mark_law mark.Comment) (then_law text_law (mark_law mark.Semicolon))))
    (made_law (λ _. tt) (λ x. refl) (mark_law mark.Semicolon))
    (λ u i j s. sees_at mark.Comment s.0.0 i s.2.0 s.2.1) (λ u i j s t. ap (sees mark.Comment) s.2))

-- what an end begins with goes on with no list and no expression
pub end_begins : (P : Words → Type 0) → ((s : Spelling) (m : Words) → P (Fixed mark.Semicolon s ∷ m)) → ((s : Spelling) (m : Words) → P (Fixed mark.Comment s ∷ m))
    → (i j : Words) → SpellsEnd i j → P i
end_begins P at_semicolon at_comment i j (inl s) = subst P (sym s.1) (at_semicolon s.0 j)
end_begins P at_semicolon at_comment i j (inr s) = subst P (sym s.3) (at_comment s.0 (word.Text s.2 ∷ Fixed mark.Semicolon s.1 ∷ j))

pub end_other : (m : Mark) → same_mark mark.Semicolon m ≡ false → same_mark mark.Comment m ≡ false → (i j : Words) → SpellsEnd i j → sees m i ≡ false
end_other m a b = end_begins (λ i. sees m i ≡ false) (sees_other m mark.Semicolon a) (sees_other m mark.Comment b)

-- ---- "(" x {"," x} ")"

module _ {A : Type 0} (P : A → Words → Words → Type 0) where
  pub opens_list : (xs : List A) (i j : Words) → Enclosed P xs i j → sees mark.Open i ≡ true
  opens_list xs i j s = sees_at mark.Open s.0 i s.1 s.2

  pub listed_to : (xs : List A) (i j : Words) → Enclosed P xs i j ⊎ Nothing [] xs i j → InParentheses P xs i j
  listed_to [] i j (inl s) = absurd s.3.1
  listed_to (x ∷ xs) i j (inl s) = s
  listed_to [] i j (inr s) = s.1
  listed_to (x ∷ xs) i j (inr s) = absurd (let apart : x ∷ xs ≡ [] = s.0 in cc)

  pub listed_from : (xs : List A) (i j : Words) → InParentheses P xs i j → Enclosed P xs i j ⊎ Nothing [] xs i j
  listed_from [] i j s = inr (refl, s)
  listed_from (x ∷ xs) i j s = inl s

-- no list stands where none begins
pub maybe_enclosed : {A : Type 0} (item : Parser A) {P M : Form A} {e : A → A} → Law (enclosed item) (Enclosed P) (Enclosed M) Anywhere (map e)
    → Law (in_parentheses item) (InParentheses P) (InParentheses M) (λ j. sees mark.Open j ≡ false) (map e)
maybe_enclosed item {P = P} {M = M} a =
    as_law (listed_to P) (listed_from P) (listed_to M)
    (either_law (sees mark.Open) (sees_front mark.Open) (stops_law (λ j t. tt) a) (nothing_law []) (opens_list P) (λ xs i j s t. ap (sees mark.Open) s.1 ∙ t))

module _ {A : Type 0} {item : Parser A} {P M : Form A} {S : Words → Type 0} {e : A → A} (a : Law item P M S e)
    (at_comma : (s : Spelling) (m : Words) → S (Fixed mark.Comma s ∷ m)) (at_close : (s : Spelling) (m : Words) → S (Fixed mark.Close s ∷ m)) (last : S []) where
  pub enclosed_law : Law (enclosed item) (Enclosed P) (Enclosed M) Anywhere (map e)
  enclosed_law = behind_law mark.Open (before_law mark.Close (separated_law a at_comma last) (λ s j. (at_close s j, no_comma_at_close s j)))

  -- and not at a parenthesis
  pub in_parentheses_law : Law (in_parentheses item) (InParentheses P) (InParentheses M) (λ j. sees mark.Open j ≡ false) (map e)
  in_parentheses_law = maybe_enclosed item enclosed_law

pub names_law : Law (separated name) (Separated SpellsName) (Separated SpellsName) (λ j. Anywhere j × (sees mark.Comma j ≡ false)) (map erased_name)
names_law = separated_law name_law (λ s m. tt) tt

-- ---- sig

pub sig_law : Law sig SpellsSig SpellsSig Anywhere erased_item
unfolding sig sees front same_mark
sig_law =
    as_law (either_as (made_as SpellsSig ListItem) (made_as SpellsSig SignalItem)) sig_from (either_as (made_as SpellsSig ListItem) (made_as SpellsSig SignalItem))
    (either_law (sees mark.Open) (sees_front mark.Open)
    (made_law ListItem (λ x. refl) (behind_law mark.Open (before_law mark.Close name_law (λ s j. tt))))
    (made_law SignalItem (λ x. refl) name_law)
    (λ x i j s. sees_at mark.Open s.2.0 i s.2.1 s.2.2)
    (λ x i j s t. ap (sees mark.Open) s.2))
  where
    sig_from : (x : SignalListItem) (i j : Words) → SpellsSig x i j → Made ListItem (Behind mark.Open (Before SpellsName mark.Close)) x i j ⊎ Made SignalItem SpellsName x i j
    sig_from (SignalItem x) i j s = inr (x, refl, s)
    sig_from (ListItem x) i j s = inl (x, refl, s)
