-- The lines of a text.
use Rattle.std.proofs.Common.{◌≡◌, ◌≢◌, ◌∙◌, ℕ, ◌+◌, ◌<◌, ◌≤◌, ◌∷◌, [], ◌++◌, List, All, ap, append-nil, append_assoc, arith, drop, eq-eqb, get_or, length, ltb, not, refl, suc, sym, take, true≢false}
use Rattle.std.proofs.lemmas.Bool.{eqb-false, eqb-true, ltb-false, ne_eqb}
use Rattle.std.proofs.lemmas.List.{drop_all, drop_more, get_or-take, length-take, map_push, nil_from_length, take-append-drop, take_all, take_more}
use Rattle.std.proofs.lemmas.List.Sums.{prefix_len_passes}
use Rattle.std.proofs.lemmas.List.Quantifiers.{position-Some}
use Rattle.std.specs.Borrow.{Bor}
use Rattle.std.specs.Prelude.{◌==◌, Bool, true, false, cond, Some, None, if◌then◌else◌, position}
use Rattle.std.specs.List.{flat_map, position_or_len, prefix_len}
use Rattle.sdl_command_line.specs.Lines.{lines, put_before, texts_of}

-- the bytes up to a line end are the first line of what begins with them
line_begins : (front rest : List ℕ) → All (λ b. b ≢ 10) front →
    lines (front ++ 10 ∷ rest) ≡ (front ++ 10 ∷ []) ∷ lines rest
line_begins [] rest none = refl
line_begins (b ∷ front) rest none =
    rw (ne_eqb b 10 (none 0 0 (omega arith)))
    (ap (put_before b) (line_begins front rest (λ k d inside. none (suc k) d (omega (arith, inside)))))

-- bytes without a line end are one line
line_alone : (byte : ℕ) (text : List ℕ) → All (λ b. b ≢ 10) (byte ∷ text) →
    lines (byte ∷ text) ≡ (byte ∷ text) ∷ []
line_alone byte [] none = rw (ne_eqb byte 10 (none 0 0 (omega arith))) refl
line_alone byte (next ∷ text) none =
    rw (ne_eqb byte 10 (none 0 0 (omega arith)))
    (ap (put_before byte) (line_alone next text (λ k d inside. none (suc k) d (omega (arith, inside)))))

-- the line that a first line end ends
line_here : (text : List ℕ) (at : ℕ) → at < length text → All (λ b. b ≢ 10) (take at text) →
    get_or text at 0 ≡ 10 → lines text ≡ take (at + 1) text ∷ lines (drop (at + 1) text)
line_here text at inside none is =
    let front : take (at + 1) text ≡ take at text ++ 10 ∷ [] =
    take_more text at 0 inside ∙ ap (λ b. take at text ++ b ∷ []) is in
    let whole : text ≡ take at text ++ 10 ∷ drop (at + 1) text =
    sym (take-append-drop at text)
    ∙ ap (λ l. take at text ++ l) (drop_more text at 0 inside ∙ ap (λ b. b ∷ drop (at + 1) text) is) in
    ap lines whole
    ∙ line_begins (take at text) (drop (at + 1) text) none
    ∙ ap (λ l. l ∷ lines (drop (at + 1) text)) (sym front)

no_end : (text : List ℕ) (at : ℕ) → ((k : ℕ) (d : ℕ) → k < at → (get_or text k d == 10) ≡ false) →
    All (λ b. b ≢ 10) (take at text)
no_end text at before k d inside =
    let within : k < at = omega (arith, inside, length-take at text) in
    λ is. eqb-false (get_or text k d) 10 (before k d within) (sym (get_or-take at text k d within) ∙ is)

-- the first line of a text, up to its first line end
pub found_line : (text first rest : List ℕ) (at : ℕ) → Some at ≡ position (λ b. b == 10) text →
    first ≡ take (at + 1) text → rest ≡ drop (at + 1) text → lines text ≡ first ∷ lines rest
found_line text first rest at place front back =
    let found = position-Some (λ (b : ℕ). b == 10) text at 0 (sym place) in
    let before : (k : ℕ) (d : ℕ) → k < at → (get_or text k d == 10) ≡ false =
    λ k d below. (position-Some (λ (b : ℕ). b == 10) text at d (sym place)).2 k below in
    line_here text at found.0 (no_end text at before) (eqb-true (get_or text at 0) 10 found.1)
    ∙ ap (λ l. l ∷ lines (drop (at + 1) text)) (sym front)
    ∙ ap (λ l. first ∷ lines l) (sym back)

-- how far a search for a line end goes, if there is none
past_all : (end len : ℕ) (below : Bool) → None ≡ cond below (Some end) None → ltb end len ≡ below → len ≤ end
past_all end len true none is = let wrong : None ≡ Some end = none in absurd (cc)
past_all end len false none is = ltb-false end len is

none_ends : (text : List ℕ) → None ≡ position (λ b. b == 10) text → All (λ b. b ≢ 10) text
none_ends text none k d inside =
    let past : length text ≤ prefix_len (λ (b : ℕ). not (b == 10)) text =
    past_all (position_or_len (λ (b : ℕ). b == 10) text) (length text)
    (ltb (position_or_len (λ (b : ℕ). b == 10) text) (length text)) none refl in
    let within : k < prefix_len (λ (b : ℕ). not (b == 10)) text = omega (arith, past, inside) in
    let passes : not (get_or text k d == 10) ≡ true = prefix_len_passes (λ (b : ℕ). not (b == 10)) text k d within in
    λ is. true≢false (sym passes ∙ ap not (eq-eqb (get_or text k d) 10 is))

lone : (text : List ℕ) → 0 < length text → All (λ b. b ≢ 10) text → lines text ≡ text ∷ []
lone [] some none = absurd (omega (arith, some))
lone (byte ∷ text) some none = line_alone byte text none

-- a text without a line end is one line
pub only_line : (text first rest : List ℕ) (len : ℕ) → 0 < length text → None ≡ position (λ b. b == 10) text →
    len ≡ length text → first ≡ take len text → rest ≡ drop len text → lines text ≡ first ∷ lines rest
only_line text first rest len some place whole front back =
    lone text some (none_ends text place)
    ∙ ap (λ l. l ∷ []) (sym (front ∙ take_all len text (omega (arith, whole))))
    ∙ ap (λ l. first ∷ lines l) (sym (back ∙ drop_all len text (omega (arith, whole))))

-- one more line of a text, of which the rest is still to come
pub line_more : (made grown : List (Bor (List ℕ))) (line : Bor (List ℕ)) (rest after : List ℕ)
    (all : List (List ℕ)) → grown ≡ made ++ line ∷ [] → texts_of made ++ lines rest ≡ all →
    lines rest ≡ line.now ∷ lines after → texts_of grown ++ lines after ≡ all
line_more made grown line rest after all is was first =
    ap (λ l. texts_of l ++ lines after) is
    ∙ ap (λ l. l ++ lines after) (map_push (λ (l : Bor (List ℕ)). l.now) made line)
    ∙ append_assoc (texts_of made) (line.now ∷ []) (lines after)
    ∙ ap (λ l. texts_of made ++ l) (sym first)
    ∙ was

-- a byte before some lines is the first one of their text
put_joined : (byte : ℕ) (more : List (List ℕ)) →
    flat_map (λ line. line) (put_before byte more) ≡ byte ∷ flat_map (λ line. line) more
put_joined byte [] = refl
put_joined byte (line ∷ more) = refl

joined_by : (byte : ℕ) (text : List ℕ) (is_end : Bool) → flat_map (λ line. line) (lines text) ≡ text →
    flat_map (λ line. line) (if is_end then (byte ∷ []) ∷ lines text else put_before byte (lines text)) ≡ byte ∷ text
joined_by byte text true more = ap (λ l. byte ∷ l) more
joined_by byte text false more = put_joined byte (lines text) ∙ ap (λ l. byte ∷ l) more

-- a text is its lines
pub lines_joined : (text : List ℕ) → flat_map (λ line. line) (lines text) ≡ text
lines_joined [] = refl
lines_joined (byte ∷ text) = joined_by byte text (byte == 10) (lines_joined text)

-- the lines that are made of a text are the text, once nothing is left of it
pub all_made : (made : List (Bor (List ℕ))) (rest text : List ℕ) (is_empty : Bool) → is_empty ≡ (length rest == 0) →
    is_empty ≡ true → texts_of made ++ lines rest ≡ lines text → flat_map (λ line. line) (texts_of made) ≡ text
all_made made rest text is_empty tests empty was =
    let none : rest ≡ [] = nil_from_length rest (eqb-true (length rest) 0 (sym tests ∙ empty)) in
    ap (flat_map (λ (line : List ℕ). line))
    (sym (append-nil (texts_of made)) ∙ ap (λ l. texts_of made ++ lines l) (sym none) ∙ was)
    ∙ lines_joined text
