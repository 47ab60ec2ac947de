-- Names of joins that are added one after the other, until none is new.
use Rattle.std.proofs.Common.{◌≡◌, ◌∙◌, ◌||◌, ◌++◌, ◌⊎◌, ◌<◌, ◌≤◌, ℕ, inl, inr, Bool, true, false, not, List, [], ◌∷◌, if◌then◌else◌, refl, ap, sym, subst, arith}
use Rattle.std.proofs.lemmas.List.Folds.{list_any-append}
use Rattle.std.proofs.lemmas.Slice.Eq.{bytes_eq-Decides}
use Rattle.std.specs.Str.{bytes_eq}
use Rattle.build_names.specs.FaultLaws.{In}
use Rattle.sdl_tree.specs.Tree.{Join, Next, Stop, Terminator}
use Rattle.sdl_tree.specs.Words.{Spot}
use Rattle.sdl_tree.specs.declared.name.Spelling.{Spelling}
use Rattle.build_flow.specs.Joins.{any_new, count_open, one_if, with_join, with_joins, with_name}
use Rattle.build_flow.specs.Mentions.{is_named}
use Rattle.build_flow.proofs.PathLaws.{never, or-cases, or-left, or-right}

-- ---- names behind others

named-append : (names more : List (List ℕ)) (text : List ℕ) →
    is_named (names ++ more) text ≡ (is_named names text || is_named more text)
named-append names more text = list_any-append (bytes_eq text) names more

named-last : (names : List (List ℕ)) (text : List ℕ) → is_named (names ++ text ∷ []) text ≡ true
named-last names text =
    named-append names (text ∷ []) text
    ∙ or-right (is_named names text) (bytes_eq text text || false)
    (or-left (bytes_eq text text) false ((bytes_eq-Decides text text).1 refl))

kept-if : (b : Bool) (names : List (List ℕ)) (other text : List ℕ) → is_named names text ≡ true →
    is_named (if b then names else names ++ other ∷ []) text ≡ true
kept-if true names other text is = is
kept-if false names other text is =
    named-append names (other ∷ []) text ∙ or-left (is_named names text) (is_named (other ∷ []) text) is

kept-one : (names : List (List ℕ)) (one : Terminator) (text : List ℕ) → is_named names text ≡ true →
    is_named (with_join names one) text ≡ true
kept-one names (Next word state) text is = is
kept-one names (Stop word) text is = is
kept-one names (Join word label) text is = kept-if (is_named names label.text) names label.text text is

-- a name stays
pub kept-named : (terminators : List Terminator) (names : List (List ℕ)) (text : List ℕ) → is_named names text ≡ true →
    is_named (with_joins names terminators) text ≡ true
kept-named [] names text is = is
kept-named (one ∷ rest) names text is = kept-named rest (with_join names one) text (kept-one names one text is)

-- ---- none is new

pub record NoneNew (terminators : List Terminator) (names : List (List ℕ)) : Type 0 where
  pub same : with_joins names terminators ≡ names
  pub named : (word : Spelling) (name : Spot) → In (Join word name) terminators → is_named names name.text ≡ true

no-join : {A : Type 0} (word : Spelling) (name : Spot) (one : Terminator) (rest : List Terminator) →
    (Join word name ≡ one → ⊥) → In (Join word name) (one ∷ rest) → (In (Join word name) rest → A) → A
no-join word name one rest apart at later = elim at [ inl e ↦ absurd (apart e) | inr i ↦ later i ]

none-new-join : (join : Spelling) (label : Spot) (rest : List Terminator) (names : List (List ℕ)) (b : Bool) →
    is_named names label.text ≡ b →
    (not b || any_new (if b then names else names ++ label.text ∷ []) rest) ≡ false →
    (any_new names rest ≡ false → NoneNew rest names) →
    NoneNew (Join join label ∷ rest) names
none-new-join join label rest names true known is later =
    let f = later is in
    record {
      same = ap (λ (b : Bool). with_joins (if b then names else names ++ label.text ∷ []) rest) known ∙ f.same;
      named = λ word name at. elim at [
        | inl e ↦ let same : name ≡ label = cc in subst (λ (spot : Spot). is_named names spot.text ≡ true) (sym same) known
        | inr i ↦ f.named word name i
      ];
    }
none-new-join join label rest names false known is later = never (sym is)

pub none-new : (terminators : List Terminator) (names : List (List ℕ)) → any_new names terminators ≡ false →
    NoneNew terminators names
none-new [] names is = record { same = refl; named = λ word name at. absurd at }
none-new (Next next state ∷ rest) names is =
    let f = none-new rest names is in
    record {
      same = f.same;
      named = λ word name at. no-join word name (Next next state) rest (λ e. cc) at (f.named word name);
    }
none-new (Stop stop ∷ rest) names is =
    let f = none-new rest names is in
    record {
      same = f.same;
      named = λ word name at. no-join word name (Stop stop) rest (λ e. cc) at (f.named word name);
    }
none-new (Join join label ∷ rest) names is =
    none-new-join join label rest names (is_named names label.text) refl is (none-new rest names)

-- ---- one is new

pub record OneNew (terminators : List Terminator) (names : List (List ℕ)) : Type 0 where
  pub word : Spelling
  pub name : Spot
  pub met : In (Join word name) terminators
  pub is_open : is_named names name.text ≡ false
  pub added : is_named (with_joins names terminators) name.text ≡ true

one-behind : (one : Terminator) (rest : List Terminator) (names : List (List ℕ)) → with_join names one ≡ names →
    OneNew rest names → OneNew (one ∷ rest) names
one-behind one rest names same f = record {
  word = f.word;
  name = f.name;
  met = inr f.met;
  is_open = f.is_open;
  added = ap (λ found. is_named (with_joins found rest) f.name.text) same ∙ f.added;
}

one-new-join : (join : Spelling) (label : Spot) (rest : List Terminator) (names : List (List ℕ)) (b : Bool) →
    is_named names label.text ≡ b →
    (not b || any_new (if b then names else names ++ label.text ∷ []) rest) ≡ true →
    (any_new names rest ≡ true → OneNew rest names) →
    OneNew (Join join label ∷ rest) names
one-new-join join label rest names true known is later =
    one-behind (Join join label) rest names
    (ap (λ (b : Bool). if b then names else names ++ label.text ∷ []) known) (later is)
one-new-join join label rest names false known is later = record {
  word = join;
  name = label;
  met = inl refl;
  is_open = known;
  added = ap (λ (b : Bool). is_named (with_joins (if b then names else names ++ label.text ∷ []) rest) label.text) known
      ∙ kept-named rest (names ++ label.text ∷ []) label.text (named-last names label.text);
}

pub one-new : (terminators : List Terminator) (names : List (List ℕ)) → any_new names terminators ≡ true →
    OneNew terminators names
one-new [] names is = never is
one-new (Next next state ∷ rest) names is = one-behind (Next next state) rest names refl (one-new rest names is)
one-new (Stop stop ∷ rest) names is = one-behind (Stop stop) rest names refl (one-new rest names is)
one-new (Join join label ∷ rest) names is =
    one-new-join join label rest names (is_named names label.text) refl is (one-new rest names)

-- ---- where names come from

abbrev pub ComesFrom : List Terminator → List (List ℕ) → List ℕ → Type 0
ComesFrom terminators names text =
    (is_named names text ≡ true)
    ⊎ ((word : Spelling) × (name : Spot) × In (Join word name) terminators × (name.text ≡ text))

from-if : (join : Spelling) (label : Spot) (b : Bool) (names : List (List ℕ)) (text : List ℕ) →
    is_named (if b then names else names ++ label.text ∷ []) text ≡ true →
    (is_named names text ≡ true) ⊎ (label.text ≡ text)
from-if join label true names text is = inl is
from-if join label false names text is =
    elim (or-cases (is_named names text) (bytes_eq text label.text || false)
    (sym (named-append names (label.text ∷ []) text) ∙ is)) [
      | inl known ↦ inl known
      | inr last ↦ elim (or-cases (bytes_eq text label.text) false last) [
        | inl same ↦ inr (sym ((bytes_eq-Decides text label.text).0 same))
        | inr impossible ↦ never impossible
      ]
    ]

later-from : (one : Terminator) (rest : List Terminator) (names : List (List ℕ)) (text : List ℕ) →
    ComesFrom rest names text → ComesFrom (one ∷ rest) names text
later-from one rest names text from =
    elim from [ inl known ↦ inl known | inr f ↦ inr (f.0, f.1, inr f.2, f.3) ]

pub comes-from : (terminators : List Terminator) (names : List (List ℕ)) (text : List ℕ) →
    is_named (with_joins names terminators) text ≡ true → ComesFrom terminators names text
comes-from [] names text is = inl is
comes-from (Next next state ∷ rest) names text is =
    later-from (Next next state) rest names text (comes-from rest names text is)
comes-from (Stop stop ∷ rest) names text is = later-from (Stop stop) rest names text (comes-from rest names text is)
comes-from (Join join label ∷ rest) names text is =
    elim (comes-from rest (with_name names label.text) text is) [
      | inl known ↦ elim (from-if join label (is_named names label.text) names text known) [
        | inl old ↦ inl old
        | inr same ↦ inr (join, label, inl refl, same)
      ]
      | inr f ↦ inr (f.0, f.1, inr f.2, f.3)
    ]

-- ---- how many joins have none of the names

not-more-one : (old new : Bool) → (old ≡ true → new ≡ true) → one_if new ≤ one_if old
not-more-one true new kept = subst (λ b. one_if b ≤ 0) (sym (kept refl)) (omega arith)
not-more-one false true kept = omega arith
not-more-one false false kept = omega arith

not-more : (joins old new : List (List ℕ)) →
    ((text : List ℕ) → is_named old text ≡ true → is_named new text ≡ true) → count_open joins new ≤ count_open joins old
not-more [] old new kept = omega arith
not-more (join ∷ rest) old new kept =
    let later : count_open rest new ≤ count_open rest old = not-more rest old new kept in
    let here : one_if (is_named new join) ≤ one_if (is_named old join) =
    not-more-one (is_named old join) (is_named new join) (kept join) in
    omega (arith, later, here)

fewer-one : (old new : Bool) → old ≡ false → new ≡ true → one_if new < one_if old
fewer-one true new is also = never (sym is)
fewer-one false true is also = omega arith
fewer-one false false is also = never also

pub fewer-open : (joins old new : List (List ℕ)) →
    ((text : List ℕ) → is_named old text ≡ true → is_named new text ≡ true) → (text : List ℕ) → In text joins →
    is_named old text ≡ false → is_named new text ≡ true → count_open joins new < count_open joins old
fewer-open [] old new kept text at is also = absurd at
fewer-open (join ∷ rest) old new kept text at is also =
    elim at [
      | inl same ↦
          let later : count_open rest new ≤ count_open rest old = not-more rest old new kept in
          let here : one_if (is_named new join) < one_if (is_named old join) =
          fewer-one (is_named old join) (is_named new join) (ap (is_named old) (sym same) ∙ is)
          (ap (is_named new) (sym same) ∙ also) in
          omega (arith, later, here)
      | inr i ↦
          let later : count_open rest new < count_open rest old = fewer-open rest old new kept text i is also in
          let here : one_if (is_named new join) ≤ one_if (is_named old join) =
          not-more-one (is_named old join) (is_named new join) (kept join) in
          omega (arith, later, here)
    ]
