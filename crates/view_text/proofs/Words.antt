-- Names as words of Z.120.
use Rattle.std.proofs.Common.{◌≡◌, ◌∙◌, ◌==◌, ◌||◌, ℕ, Bool, true, false, List, [], ◌∷◌, ◌++◌, ap, codes, refl, sym, if◌then◌else◌}
use Rattle.std.proofs.lemmas.List.{append_cancel_right}
use Rattle.view_text.specs.EventText.{ends_with_mark, gets_mark, word}
use Rattle.view_text.specs.Keyword.{is_keyword}

pub word-marked : (name : List ℕ) → gets_mark name ≡ true → word name ≡ name ++ codes "_"
unfolding word
word-marked name is = ap (λ (b : Bool). if b then name ++ codes "_" else name) is

pub word-other : (name : List ℕ) → gets_mark name ≡ false → word name ≡ name
unfolding word
word-other name is = ap (λ (b : Bool). if b then name ++ codes "_" else name) is

-- ---- ends

-- the last byte says it
pub last_says : (front : List ℕ) (last : ℕ) → ends_with_mark (front ++ last ∷ []) ≡ (last == 95)
last_says [] last = refl
last_says (byte ∷ []) last = refl
last_says (byte ∷ next ∷ rest) last = last_says (next ∷ rest) last

-- what is marked ends with the mark, and what isn't doesn't
ends-apart : (marked other : List ℕ) → gets_mark other ≡ false → marked ++ codes "_" ≡ other → ⊥
ends-apart marked other isnt same =
    let ends : ends_with_mark other ≡ true = ap ends_with_mark (sym same) ∙ last_says marked 95 in
    by-ends (is_keyword other) (ends_with_mark other) isnt ends
  where
    by-ends : (one two : Bool) → (one || two) ≡ false → two ≡ true → ⊥
    by-ends one false isnt is = cc
    by-ends true true isnt is = cc
    by-ends false true isnt is = cc

-- ---- no two names become one

front-same : (one other : List ℕ) → one ++ codes "_" ≡ other ++ codes "_" → one ≡ other
front-same one other same = append_cancel_right one other (codes "_") same

apart-by : (one other : List ℕ) (marked-one marked-other : Bool) → gets_mark one ≡ marked-one
    → gets_mark other ≡ marked-other → word one ≡ word other → one ≡ other
apart-by one other true true is-one is-other same =
    front-same one other (sym (word-marked one is-one) ∙ same ∙ word-marked other is-other)
apart-by one other true false is-one is-other same =
    absurd (ends-apart one other is-other (sym (word-marked one is-one) ∙ same ∙ word-other other is-other))
apart-by one other false true is-one is-other same =
    absurd (ends-apart other one is-one (sym (word-marked other is-other) ∙ sym same ∙ word-other one is-one))
apart-by one other false false is-one is-other same =
    sym (word-other one is-one) ∙ same ∙ word-other other is-other

pub words-apart : (one other : List ℕ) → word one ≡ word other → one ≡ other
words-apart one other same = apart-by one other (gets_mark one) (gets_mark other) refl refl same
