-- The parts of a line are one: a number and a word take as many bytes as they can.
use Rattle.std.proofs.Common.{◌≡◌, ℕ, Bool, true, false, eqb, List, [], ◌∷◌, ◌++◌, sym, refl, ap, ◌∙◌, subst, arith}
use Rattle.std.proofs.lemmas.Bool.{and_from, and_parts, both_ways}
use Rattle.std.proofs.lemmas.Bool.Decides.{nat_tests}
use Rattle.std.specs.Char.{is_ascii_alphabetic, is_ascii_digit}
use Rattle.std.specs.List.{list_all}
use Rattle.sdl_lex.specs.Byte.{is_word_byte}
use Rattle.sdl_lex.specs.Kind.{IsDigits, IsWord, decimal}
use Rattle.sdl_script.specs.Part.{SpellsMark, SpellsNumber, SpellsWord, Stops, past_spaces}

-- ---- runs of bytes

-- two fronts that pass, behind which the test stops, are the same
pub one_run : (p : ℕ → Bool) (front after other behind : List ℕ) → front ++ after ≡ other ++ behind
    → list_all p front ≡ true → Stops p after → list_all p other ≡ true → Stops p behind
    → (front ≡ other) × (after ≡ behind)
one_run p [] after [] behind joined all stops all' stops' = (refl, joined)
one_run p [] after (c ∷ other) behind joined all stops all' stops' =
    absurd (both_ways (p c) (subst (Stops p) joined stops) (and_parts (p c) (list_all p other) all').0)
one_run p (b ∷ front) after [] behind joined all stops all' stops' =
    absurd (both_ways (p b) (subst (Stops p) (sym joined) stops') (and_parts (p b) (list_all p front) all).0)
one_run p (b ∷ front) after (c ∷ other) behind joined all stops all' stops' =
    let first : b ≡ c = cc in
    let rest : front ++ after ≡ other ++ behind = cc in
    let more = one_run p front after other behind rest (and_parts (p b) (list_all p front) all).1 stops
    (and_parts (p c) (list_all p other) all').1 stops' in
    ((λ i. first i ∷ more.0 i), more.1)

-- ---- marks, numbers and words

pub one_mark : (mark : ℕ) (bytes rest other : List ℕ) → SpellsMark mark bytes rest → SpellsMark mark bytes other
    → rest ≡ other
one_mark mark bytes rest other s t =
    let joined : mark ∷ s.0 ≡ mark ∷ t.0 = sym s.1 ∙ t.1 in
    let after : s.0 ≡ t.0 = cc in
    s.2 ∙ ap past_spaces after ∙ sym t.2

all_digits : (digits : List ℕ) → IsDigits digits → list_all is_ascii_digit digits ≡ true
all_digits [] are = absurd are
all_digits (b ∷ digits) are = are

pub one_number : (n m : ℕ) (bytes rest other : List ℕ) → SpellsNumber n bytes rest → SpellsNumber m bytes other
    → (n ≡ m) × (rest ≡ other)
one_number n m bytes rest other s t =
    let run = one_run is_ascii_digit s.0 s.1 t.0 t.1 (sym s.2 ∙ t.2) (all_digits s.0 s.3) s.4
    (all_digits t.0 t.3) t.4 in
    (s.5 ∙ ap decimal run.0 ∙ sym t.5, s.6 ∙ ap past_spaces run.1 ∙ sym t.6)

letter_word_byte : (b : ℕ) → is_ascii_alphabetic b ≡ true → is_word_byte b ≡ true
letter_word_byte b h = grind (arith, nat_tests)

all_word_bytes : (word : List ℕ) → IsWord word → list_all is_word_byte word ≡ true
all_word_bytes [] is = absurd is
all_word_bytes (b ∷ word) is = and_from (is_word_byte b) (list_all is_word_byte word) (letter_word_byte b is.0) is.1

pub one_word : (word other bytes rest behind : List ℕ) → SpellsWord word bytes rest → SpellsWord other bytes behind
    → (word ≡ other) × (rest ≡ behind)
one_word word other bytes rest behind s t =
    let run = one_run is_word_byte word s.0 other t.0 (sym s.1 ∙ t.1) (all_word_bytes word s.2) s.3
    (all_word_bytes other t.2) t.3 in
    (run.0, s.4 ∙ ap past_spaces run.1 ∙ sym t.4)

-- ---- which part it is tells the first byte

-- the first byte, 0 for none
abbrev pub lead : List ℕ → ℕ
lead [] = 0
lead (b ∷ bytes) = b

pub mark_leads : (mark : ℕ) (bytes rest : List ℕ) → SpellsMark mark bytes rest → lead bytes ≡ mark
mark_leads mark bytes rest s = ap lead s.1

pub digit_leads : (n : ℕ) (bytes rest : List ℕ) → SpellsNumber n bytes rest → is_ascii_digit (lead bytes) ≡ true
digit_leads n bytes rest ([], after, joined, are, stops, is, rest_is) = absurd are
digit_leads n bytes rest (b ∷ digits, after, joined, are, stops, is, rest_is) =
    ap (λ l. is_ascii_digit (lead l)) joined ∙ (and_parts (is_ascii_digit b) (list_all is_ascii_digit digits) are).0

pub letter_leads : (word bytes rest : List ℕ) → SpellsWord word bytes rest → is_ascii_alphabetic (lead bytes) ≡ true
letter_leads [] bytes rest s = absurd s.2
letter_leads (b ∷ word) bytes rest s = ap (λ l. is_ascii_alphabetic (lead l)) s.1 ∙ s.2.0

-- a mark doesn't pass, and the first byte does
pub no_mark : (p : ℕ → Bool) (mark : ℕ) (bytes rest : List ℕ) → p mark ≡ false → p (lead bytes) ≡ true
    → SpellsMark mark bytes rest → ⊥
no_mark p mark bytes rest fails passes s =
    both_ways (p (lead bytes)) (ap p (mark_leads mark bytes rest s) ∙ fails) passes

-- no mark is another
pub other_mark : (a b : ℕ) (bytes rest behind : List ℕ) → eqb a b ≡ false → eqb b b ≡ true
    → SpellsMark a bytes rest → SpellsMark b bytes behind → ⊥
other_mark a b bytes rest behind apart same s t =
    no_mark (λ c. eqb c b) a bytes rest apart (ap (λ c. eqb c b) (mark_leads b bytes behind t) ∙ same) s

letter_no_digit : (b : ℕ) → is_ascii_alphabetic b ≡ true → is_ascii_digit b ≡ false
letter_no_digit b h = grind (arith, nat_tests)

-- no number is a word
pub no_word : (n : ℕ) (word bytes rest behind : List ℕ) → SpellsNumber n bytes rest → SpellsWord word bytes behind → ⊥
no_word n word bytes rest behind s t =
    both_ways (is_ascii_digit (lead bytes)) (letter_no_digit (lead bytes) (letter_leads word bytes behind t))
    (digit_leads n bytes rest s)

-- where nothing stands, no part does

pub no_mark_of_nothing : (mark : ℕ) (bytes rest : List ℕ) → bytes ≡ [] → eqb mark 0 ≡ false → SpellsMark mark bytes rest
    → ⊥
no_mark_of_nothing mark bytes rest nothing some s =
    no_mark (λ c. eqb c 0) mark bytes rest some (ap (λ l. eqb (lead l) 0) nothing) s

pub no_word_of_nothing : (word bytes rest : List ℕ) → bytes ≡ [] → SpellsWord word bytes rest → ⊥
no_word_of_nothing word bytes rest nothing s =
    both_ways (is_ascii_alphabetic (lead bytes)) (ap (λ l. is_ascii_alphabetic (lead l)) nothing)
    (letter_leads word bytes rest s)
