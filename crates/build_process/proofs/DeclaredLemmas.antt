-- Labels that are declared one after the other.
use Rattle.std.proofs.Common.{◌≡◌, ◌∙◌, ℕ, zero, suc, ◌+◌, ◌++◌, Bool, true, false, List, [], ◌∷◌, Option, None, Some, cond, is_some, slice_get, refl, ap, sym}
use Rattle.std.proofs.lemmas.Slice.Eq.{bytes_eq-Decides}
use Rattle.std.specs.Str.{bytes_eq}
use Rattle.build_process.proofs.CloseLemmas.{no-fault}
use Rattle.build_process.proofs.EndLemmas.{some-same}
use Rattle.build_process.specs.Numbered.{AreDifferent, declared_faults}
use Rattle.build_names.specs.Names.{first_of}
use Rattle.build_names.specs.declared.faults.fault.Rule.TheVariants.{Duplicate}
use Rattle.sdl_system.specs.declared.id.LabelId.{LabelId}
use Rattle.sdl_tree.specs.Words.{Spot}

cond-none : (same : Bool) (l : LabelId) (later : Option LabelId) → cond same (Some l) later ≡ None →
    (same ≡ false) × (later ≡ None)
cond-none true l later is = cc
cond-none false l later is = (refl, is)

-- what isn't found among names with one behind them isn't found without it, and isn't that one
behind-none : (names : List (List ℕ × LabelId)) (name : List ℕ) (l : LabelId) (text : List ℕ) →
    first_of (names ++ (name, l) ∷ []) text ≡ None → (first_of names text ≡ None) × (bytes_eq text name ≡ false)
behind-none [] name l text is = (refl, (cond-none (bytes_eq text name) l None is).0)
behind-none (k ∷ names) name l text is =
    let r = cond-none (bytes_eq text k.0) k.1 (first_of (names ++ (name, l) ∷ []) text) is in
    let s = behind-none names name l text r.1 in
    (ap (λ (b : Bool). cond b (Some k.1) (first_of names text)) r.0 ∙ s.0, s.1)

none-is : (o : Option LabelId) → is_some o ≡ false → o ≡ None
none-is None is = refl
none-is (Some l) is = cc

false-true : false ≡ true → ⊥
false-true e = cc

abbrev the_label : ℕ → LabelId
the_label n = record { 0 = n }

-- no label has a name that was declared before
unknown : (names : List (List ℕ × LabelId)) (number : ℕ) (labels : List Spot) →
    declared_faults names number labels ≡ [] → (n : ℕ) (word : Spot) → slice_get labels n ≡ Some word →
    first_of names word.text ≡ None
unknown names number [] none zero word at = cc
unknown names number [] none (suc n) word at = cc
unknown names number (x ∷ labels) none zero word at =
    let f = no-fault (is_some (first_of names x.text)) Duplicate x
    (declared_faults (names ++ (x.text, the_label number) ∷ []) (number + 1) labels) none in
    ap (λ (w : Spot). first_of names w.text) (sym (some-same x word at)) ∙ none-is (first_of names x.text) f.0
unknown names number (x ∷ labels) none (suc n) word at =
    let f = no-fault (is_some (first_of names x.text)) Duplicate x
    (declared_faults (names ++ (x.text, the_label number) ∷ []) (number + 1) labels) none in
    (behind-none names x.text (the_label number) word.text
    (unknown (names ++ (x.text, the_label number) ∷ []) (number + 1) labels f.1 n word at)).0

-- nor that of the label that is declared now
new-name : (names : List (List ℕ × LabelId)) (number : ℕ) (x : Spot) (labels : List Spot) →
    declared_faults names number (x ∷ labels) ≡ [] → (n : ℕ) (word : Spot) → slice_get labels n ≡ Some word →
    word.text ≡ x.text → ⊥
new-name names number x labels none n word at same =
    let f = no-fault (is_some (first_of names x.text)) Duplicate x
    (declared_faults (names ++ (x.text, the_label number) ∷ []) (number + 1) labels) none in
    let not = (behind-none names x.text (the_label number) word.text
    (unknown (names ++ (x.text, the_label number) ∷ []) (number + 1) labels f.1 n word at)).1 in
    false-true (sym not ∙ (bytes_eq-Decides word.text x.text).1 same)

different : (names : List (List ℕ × LabelId)) (number : ℕ) (labels : List Spot) →
    declared_faults names number labels ≡ [] → AreDifferent labels
different names number [] none zero m one other at other_at same = cc
different names number [] none (suc n) m one other at other_at same = cc
different names number (x ∷ labels) none zero zero one other at other_at same = refl
different names number (x ∷ labels) none zero (suc m) one other at other_at same =
    absurd (new-name names number x labels none m other other_at
    (sym same ∙ ap (λ (w : Spot). w.text) (sym (some-same x one at))))
different names number (x ∷ labels) none (suc n) zero one other at other_at same =
    absurd (new-name names number x labels none n one at
    (same ∙ ap (λ (w : Spot). w.text) (sym (some-same x other other_at))))
different names number (x ∷ labels) none (suc n) (suc m) one other at other_at same =
    let f = no-fault (is_some (first_of names x.text)) Duplicate x
    (declared_faults (names ++ (x.text, the_label number) ∷ []) (number + 1) labels) none in
    ap suc (different (names ++ (x.text, the_label number) ∷ []) (number + 1) labels f.1 n m one other at other_at same)

pub declared-differ : (labels : List Spot) → declared_faults [] 0 labels ≡ [] → AreDifferent labels
declared-differ labels none = different [] 0 labels none
