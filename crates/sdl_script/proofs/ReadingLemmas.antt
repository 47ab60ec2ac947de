-- What the cursor reads is what is spelled.
use Rattle.std.proofs.Common.{◌≡◌, ◌≢◌, ℕ, suc, ◌+◌, ◌<◌, ◌≤◌, ◌^◌, Bool, true, false, cond, eqb, Option, None, Some, ◌⊎◌, inl, inr, List, [], ◌∷◌, ◌++◌, length, take, drop, sym, refl, ap, ◌∙◌, subst, ⊎_elim, arith, lit≤, take-append-drop, length-take-le}
use Rattle.std.specs.Prelude.{min, nat_lt, nat_le, pos, ◌-◌, ◌-ℤ◌}
use Rattle.std.specs.Char.{is_ascii_alphabetic, is_ascii_digit}
use Rattle.std.specs.List.{prefix_len, list_all}
use Rattle.std.proofs.lemmas.Bool.{cases_Bool, cases_lt, and_from, and_parts, both_ways, eqb-true, eq-eqb, false_from_ne_true}
use Rattle.std.proofs.lemmas.Bool.Decides.{nat_tests}
use Rattle.std.proofs.lemmas.List.{take_at, drop_at}
use Rattle.std.proofs.lemmas.List.Sums.{prefix_len-le-length}
use Rattle.sdl_lex.specs.Byte.{is_word_byte}
use Rattle.sdl_lex.specs.Kind.{IsDigits, IsWord, decimal}
use Rattle.sdl_tree.specs.Keyword.{is_reserved}
use Rattle.sdl_script.specs.declared.value.SpelledValue.{SpelledValue}
use Rattle.sdl_script.specs.declared.value.SpelledValue.TheVariants.{Number, Instance}
use Rattle.sdl_script.specs.Part.{past_spaces, SpellsMark, SpellsNumber, SpellsWord}
use Rattle.sdl_script.specs.Reading.{on, mark, number, number_as, word, literal_in, value, name, receiver}
use Rattle.sdl_script.specs.Spelling.{positive, negative, numbered, instance_number, literal, Receiver, Named, Numbered, SpellsLiteral, SpellsValue, SpellsName, SpellsReceiver}
use Rattle.sdl_script.proofs.RunLemmas.{run_is, run_len}

-- a step that was read, and what it gave
cases_on : {A : Type 0} (o : Option A) → (o ≡ None) ⊎ ((x : A) × (o ≡ Some x))
cases_on None = inl refl
cases_on (Some x) = inr (x, refl)

-- two steps that were read, and what the first gave
on_some : {A B : Type 0} (o : Option A) (f : A → Option B) (y : B) → on o None f ≡ Some y → (x : A) × (o ≡ Some x) × (f x ≡ Some y)
on_some None f y e = cc
on_some (Some x) f y e = (x, refl, e)

-- ---- marks

pub mark_sound : (b : ℕ) (bytes rest : List ℕ) → mark b bytes ≡ Some rest → SpellsMark b bytes rest
mark_sound b [] rest e = cc
mark_sound b (first ∷ behind) rest e =
    ⊎_elim
    (λ same.
    let here : first ≡ b = eqb-true first b same in
    let read : Some (past_spaces behind) ≡ Some rest = ap (λ t. cond t (Some (past_spaces behind)) None) (sym same) ∙ e in
    (behind, ap (λ x. x ∷ behind) here, cc))
    (λ other. let read : None ≡ Some rest = ap (λ t. cond t (Some (past_spaces behind)) None) (sym other) ∙ e in cc)
    (cases_Bool (eqb first b))

pub mark_complete : (b : ℕ) (bytes rest : List ℕ) → SpellsMark b bytes rest → mark b bytes ≡ Some rest
mark_complete b bytes rest s =
    ap (mark b) s.1 ∙ ap (λ t. cond t (Some (past_spaces s.0)) None) (eq-eqb b b refl) ∙ ap Some (sym s.2)

-- where a byte that isn't the mark comes first, the mark isn't read
pub mark_other : (b : ℕ) (bytes : List ℕ) (first : ℕ) (behind : List ℕ) → bytes ≡ first ∷ behind → eqb first b ≡ false → mark b bytes ≡ None
mark_other b bytes first behind e other = ap (mark b) e ∙ ap (λ t. cond t (Some (past_spaces behind)) None) other

-- one mark is not another
pub mark_not : (a b : ℕ) (bytes rest : List ℕ) → eqb a b ≡ false → mark a bytes ≡ Some rest → mark b bytes ≡ None
mark_not a b bytes rest other e = let s = mark_sound a bytes rest e in mark_other b bytes a s.0 s.1 other

-- ---- numbers

pub number_complete : (n : ℕ) (bytes rest : List ℕ) → SpellsNumber n bytes rest → number bytes ≡ Some (min n (2 ^ 64 - 1), rest)
number_complete n bytes rest ([], after, joined, are, stops, is, rest_is) = absurd are
number_complete n bytes rest (b ∷ digits, after, joined, are, stops, is, rest_is) =
    let len : prefix_len is_ascii_digit bytes ≡ suc (length digits) = ap (prefix_len is_ascii_digit) joined ∙ run_len is_ascii_digit (b ∷ digits) after are stops in
    let some : eqb (prefix_len is_ascii_digit bytes) 0 ≡ false = false_from_ne_true (eqb (prefix_len is_ascii_digit bytes) 0) (λ zero_len. let none = eqb-true (prefix_len is_ascii_digit bytes) 0 zero_len in absurd (omega (arith, len, none))) in
    let front : take (prefix_len is_ascii_digit bytes) bytes ≡ b ∷ digits = (λ i. take (len i) (joined i)) ∙ take_at (b ∷ digits) after (suc (length digits)) refl in
    let back : drop (prefix_len is_ascii_digit bytes) bytes ≡ after = (λ i. drop (len i) (joined i)) ∙ drop_at (b ∷ digits) after (suc (length digits)) refl in
    ap (λ t. cond t None (Some (min (decimal (take (prefix_len is_ascii_digit bytes) bytes)) (2 ^ 64 - 1), past_spaces (drop (prefix_len is_ascii_digit bytes) bytes)))) some
    ∙ (λ i. Some (min (decimal (front i)) (2 ^ 64 - 1), past_spaces (back i)))
    ∙ (λ i. Some (min (sym is i) (2 ^ 64 - 1), sym rest_is i))

are_digits : (digits : List ℕ) → list_all is_ascii_digit digits ≡ true → length digits ≢ 0 → IsDigits digits
are_digits [] all some = absurd (some refl)
are_digits (b ∷ digits) all some = all

pub number_sound : (n : ℕ) (bytes rest : List ℕ) → number bytes ≡ Some (n, rest) → (m : ℕ) × SpellsNumber m bytes rest × (n ≡ min m (2 ^ 64 - 1))
number_sound n bytes rest e =
    ⊎_elim
    (λ none. let read : None ≡ Some (n, rest) = ap (λ t. cond t None (Some (min (decimal (take (prefix_len is_ascii_digit bytes) bytes)) (2 ^ 64 - 1), past_spaces (drop (prefix_len is_ascii_digit bytes) bytes)))) (sym none) ∙ e in cc)
    (λ some.
    let k = prefix_len is_ascii_digit bytes in
    let read : Some (min (decimal (take k bytes)) (2 ^ 64 - 1), past_spaces (drop k bytes)) ≡ Some (n, rest) =
    ap (λ t. cond t None (Some (min (decimal (take k bytes)) (2 ^ 64 - 1), past_spaces (drop k bytes)))) (sym some) ∙ e in
    let pair : ◌≡◌ {A = ℕ × List ℕ} (min (decimal (take k bytes)) (2 ^ 64 - 1), past_spaces (drop k bytes)) (n, rest) = cc in
    let run = run_is is_ascii_digit bytes in
    let len : length (take k bytes) ≡ k = length-take-le k bytes (prefix_len-le-length is_ascii_digit bytes) in
    (decimal (take k bytes), (take k bytes, drop k bytes, sym (take-append-drop k bytes), are_digits (take k bytes) run.0 (λ zero_len. both_ways (eqb k 0) some (eq-eqb k 0 (sym len ∙ zero_len))), run.1, refl, sym (ap (λ p. p.1) pair)), sym (ap (λ p. p.0) pair)))
    (cases_Bool (eqb (prefix_len is_ascii_digit bytes) 0))

-- ---- words

letter_word_byte : (b : ℕ) → is_ascii_alphabetic b ≡ true → is_word_byte b ≡ true
letter_word_byte b h = grind (arith, nat_tests)

abbrev word_read : List ℕ → Option (List ℕ × List ℕ)
word_read bytes = Some (take (prefix_len is_word_byte bytes) bytes, past_spaces (drop (prefix_len is_word_byte bytes) bytes))

pub word_complete : (w bytes rest : List ℕ) → SpellsWord w bytes rest → word bytes ≡ Some (w, rest)
word_complete [] bytes rest s = absurd s.2
word_complete (b ∷ w) bytes rest (after, joined, (letter, more), stops, rest_is) =
    let all : list_all is_word_byte (b ∷ w) ≡ true = and_from (is_word_byte b) (list_all is_word_byte w) (letter_word_byte b letter) more in
    let len = run_len is_word_byte (b ∷ w) after all stops in
    let front : take (prefix_len is_word_byte ((b ∷ w) ++ after)) ((b ∷ w) ++ after) ≡ b ∷ w = take_at (b ∷ w) after (prefix_len is_word_byte ((b ∷ w) ++ after)) (sym len) in
    let back : drop (prefix_len is_word_byte ((b ∷ w) ++ after)) ((b ∷ w) ++ after) ≡ after = drop_at (b ∷ w) after (prefix_len is_word_byte ((b ∷ w) ++ after)) (sym len) in
    ap word joined
    ∙ ap (λ t. cond t (word_read ((b ∷ w) ++ after)) None) letter
    ∙ (λ i. Some (front i, past_spaces (back i)))
    ∙ (λ i. Some (b ∷ w, sym rest_is i))

is_word : (b : ℕ) (bytes : List ℕ) → is_ascii_alphabetic b ≡ true → IsWord (take (prefix_len is_word_byte (b ∷ bytes)) (b ∷ bytes))
is_word b bytes letter =
    let n : prefix_len is_word_byte (b ∷ bytes) ≡ suc (prefix_len is_word_byte bytes) =
    ap (λ t. cond t (1 + prefix_len is_word_byte bytes) 0) (letter_word_byte b letter) ∙ (let e : 1 + prefix_len is_word_byte bytes ≡ suc (prefix_len is_word_byte bytes) = omega arith in e) in
    subst (λ k. IsWord (take k (b ∷ bytes))) (sym n) (letter, (run_is is_word_byte bytes).0)

pub word_sound : (w bytes rest : List ℕ) → word bytes ≡ Some (w, rest) → SpellsWord w bytes rest
word_sound w [] rest e = cc
word_sound w (b ∷ bytes) rest e =
    ⊎_elim
    (λ letter.
    let k = prefix_len is_word_byte (b ∷ bytes) in
    let read : word_read (b ∷ bytes) ≡ Some (w, rest) = ap (λ t. cond t (word_read (b ∷ bytes)) None) (sym letter) ∙ e in
    let pair : ◌≡◌ {A = List ℕ × List ℕ} (take k (b ∷ bytes), past_spaces (drop k (b ∷ bytes))) (w, rest) = cc in
    let same : take k (b ∷ bytes) ≡ w = ap (λ p. p.0) pair in
    (drop k (b ∷ bytes), sym (take-append-drop k (b ∷ bytes)) ∙ ap (λ l. l ++ drop k (b ∷ bytes)) same, subst IsWord same (is_word b bytes letter), (run_is is_word_byte (b ∷ bytes)).1, sym (ap (λ p. p.1) pair)))
    (λ other. let read : None ≡ Some (w, rest) = ap (λ t. cond t (word_read (b ∷ bytes)) None) (sym other) ∙ e in cc)
    (cases_Bool (is_ascii_alphabetic b))

-- ---- what begins a number, a word or a mark begins neither of the others

pub no_mark_at : (b : ℕ) (bytes : List ℕ) (p : ℕ → Bool) (first : ℕ) (behind : List ℕ) → bytes ≡ first ∷ behind → p first ≡ true → p b ≡ false → mark b bytes ≡ None
no_mark_at b bytes p first behind e passes fails =
    mark_other b bytes first behind e (false_from_ne_true (eqb first b) (λ same. both_ways (p first) (ap p (eqb-true first b same) ∙ fails) passes))

first_digit : (n : ℕ) (bytes rest : List ℕ) → SpellsNumber n bytes rest → (b : ℕ) × (behind : List ℕ) × (bytes ≡ b ∷ behind) × (is_ascii_digit b ≡ true)
first_digit n bytes rest ([], after, joined, are, stops, is, rest_is) = absurd are
first_digit n bytes rest (b ∷ digits, after, joined, are, stops, is, rest_is) =
    (b, digits ++ after, joined, (and_parts (is_ascii_digit b) (list_all is_ascii_digit digits) are).0)

pub first_letter : (w bytes rest : List ℕ) → SpellsWord w bytes rest → (b : ℕ) × (behind : List ℕ) × (bytes ≡ b ∷ behind) × (is_ascii_alphabetic b ≡ true)
first_letter [] bytes rest s = absurd s.2
first_letter (b ∷ w) bytes rest s = (b, w ++ s.0, s.1, s.2.0)

letter_no_digit : (b : ℕ) → is_ascii_alphabetic b ≡ true → is_ascii_digit b ≡ false
letter_no_digit b h = grind (arith, nat_tests)

no_number_at : (b : ℕ) (behind : List ℕ) → is_ascii_digit b ≡ false → number (b ∷ behind) ≡ None
no_number_at b behind other =
    let none : prefix_len is_ascii_digit (b ∷ behind) ≡ 0 = ap (λ t. cond t (1 + prefix_len is_ascii_digit behind) 0) other in
    ap (λ k. cond (eqb k 0) None (Some (min (decimal (take k (b ∷ behind))) (2 ^ 64 - 1), past_spaces (drop k (b ∷ behind))))) none

-- ---- values

-- a number that doesn't fit, whether it is cut or not

not_positive : (n : ℕ) → 2 ^ 63 ≤ n → positive n ≡ Number None
not_positive n big = let test : nat_lt n (2 ^ 63) ≡ false = grind (arith, nat_tests) in ap (λ t. Number (cond t (Some (pos n)) None)) test

not_negative : (n : ℕ) → 2 ^ 63 < n → negative n ≡ Number None
not_negative n big = let test : nat_le n (2 ^ 63) ≡ false = grind (arith, nat_tests) in ap (λ t. Number (cond t (Some (pos 0 -ℤ pos n)) None)) test

no_instance : (n : ℕ) → 2 ^ 32 ≤ n → instance_number n ≡ None
no_instance n big = let test : nat_lt n (2 ^ 32) ≡ false = grind (arith, nat_tests) in ap (λ t. cond t (Some n) None) test

-- what is the same past some bound below the cut
cut_by : {A : Type 0} (f : ℕ → A) (none : A) (bound : ℕ) → bound ≤ 2 ^ 64 - 1 → ((n : ℕ) → bound ≤ n → f n ≡ none) → (n : ℕ) → f (min n (2 ^ 64 - 1)) ≡ f n
cut_by f none bound within past n =
    ⊎_elim
    (λ (big : 2 ^ 64 - 1 < n). let e : min n (2 ^ 64 - 1) ≡ 2 ^ 64 - 1 = omega arith in ap f e ∙ past (2 ^ 64 - 1) within ∙ sym (past n (omega arith)))
    (λ (small : n ≤ 2 ^ 64 - 1). let e : min n (2 ^ 64 - 1) ≡ n = omega arith in ap f e)
    (cases_lt (2 ^ 64 - 1) n)

positive_cut : (n : ℕ) → positive (min n (2 ^ 64 - 1)) ≡ positive n
positive_cut n = cut_by positive (Number None) (2 ^ 63) (lit≤ tt) not_positive n

negative_cut : (n : ℕ) → negative (min n (2 ^ 64 - 1)) ≡ negative n
negative_cut n = cut_by negative (Number None) (2 ^ 63 + 1) (lit≤ tt) (λ m big. not_negative m (omega arith)) n

instance_cut : (n : ℕ) → instance_number (min n (2 ^ 64 - 1)) ≡ instance_number n
instance_cut n = cut_by instance_number None (2 ^ 32) (lit≤ tt) no_instance n

numbered_cut : (n : ℕ) → numbered (min n (2 ^ 64 - 1)) ≡ numbered n
numbered_cut n = ap Instance (instance_cut n)

module _ {A : Type 0} (f : ℕ → A) (cut : (n : ℕ) → f (min n (2 ^ 64 - 1)) ≡ f n) where
  number_as_complete : (n : ℕ) (v : A) (bytes rest : List ℕ) → SpellsNumber n bytes rest → v ≡ f n → number_as f bytes ≡ Some (v, rest)
  number_as_complete n v bytes rest s is =
      ap (λ o. on {B = Option (A × List ℕ)} o None (λ n. Some (f n.0, n.1))) (number_complete n bytes rest s) ∙ (λ i. Some ((cut n ∙ sym is) i, rest))

  number_as_read : (n : ℕ) (v : A) (bytes rest after : List ℕ) → number bytes ≡ Some (n, after) → ◌≡◌ {A = Option (A × List ℕ)} (Some (f n, after)) (Some (v, rest))
      → (m : ℕ) × SpellsNumber m bytes rest × (v ≡ f m)
  number_as_read n v bytes rest after e is =
      let pair : ◌≡◌ {A = A × List ℕ} (f n, after) (v, rest) = cc in
      let s = number_sound n bytes after e in
      (s.0, subst (SpellsNumber s.0 bytes) (ap (λ p. p.1) pair) s.1, sym (ap (λ p. p.0) pair) ∙ ap f s.2 ∙ cut s.0)

  number_as_sound : (v : A) (bytes rest : List ℕ) → number_as f bytes ≡ Some (v, rest) → (n : ℕ) × SpellsNumber n bytes rest × (v ≡ f n)
  number_as_sound v bytes rest e =
      let s = on_some (number bytes) (λ n. Some (f n.0, n.1)) (v, rest) e in
      number_as_read s.0.0 v bytes rest s.0.1 s.1 s.2

literal_complete : (v : SpelledValue) (bytes rest : List ℕ) → SpellsLiteral v bytes rest → literal_in bytes ≡ Some (v, rest)
literal_complete v bytes rest s =
    ap (λ o. on {B = Option (SpelledValue × List ℕ)} o None (λ w. on (literal w.0) None (λ l. Some (l, w.1)))) (word_complete s.0 bytes rest s.1)
    ∙ ap (λ o. on {B = Option (SpelledValue × List ℕ)} o None (λ l. Some (l, rest))) s.2

literal_sound : (v : SpelledValue) (bytes rest : List ℕ) → literal_in bytes ≡ Some (v, rest) → SpellsLiteral v bytes rest
literal_sound v bytes rest e =
    let w = on_some (word bytes) (λ w. on (literal w.0) None (λ l. Some (l, w.1))) (v, rest) e in
    let l = on_some (literal w.0.0) (λ l. Some (l, w.0.1)) (v, rest) w.2 in
    let pair : ◌≡◌ {A = SpelledValue × List ℕ} (l.0, w.0.1) (v, rest) = let both = l.2 in cc in
    (w.0.0, word_sound w.0.0 bytes rest (w.1 ∙ (λ i. Some (w.0.0, (pair i).1))), l.1 ∙ (λ i. Some (pair i).0))

pub value_complete : (v : SpelledValue) (bytes rest : List ℕ) → SpellsValue v bytes rest → value bytes ≡ Some (v, rest)
value_complete v bytes rest (inl s) =
    let first = first_digit s.0 bytes rest s.1 in
    let no_hash = no_mark_at 35 bytes is_ascii_digit first.0 first.1 first.2 first.3 refl in
    let no_minus = no_mark_at 45 bytes is_ascii_digit first.0 first.1 first.2 first.3 refl in
    rw (no_hash, no_minus, number_complete s.0 bytes rest s.1) (λ i. Some ((positive_cut s.0 ∙ sym s.2) i, rest))
value_complete v bytes rest (inr (inl s)) =
    let minus = mark_complete 45 bytes s.1 s.2 in
    let no_hash = mark_not 45 35 bytes s.1 refl minus in
    rw (no_hash, minus) (number_as_complete negative negative_cut s.0 v s.1 rest s.3 s.4)
value_complete v bytes rest (inr (inr (inl s))) =
    rw (mark_complete 35 bytes s.1 s.2) (number_as_complete numbered numbered_cut s.0 v s.1 rest s.3 s.4)
value_complete v bytes rest (inr (inr (inr s))) =
    let first = first_letter s.0 bytes rest s.1 in
    let no_hash = no_mark_at 35 bytes is_ascii_alphabetic first.0 first.1 first.2 first.3 refl in
    let no_minus = no_mark_at 45 bytes is_ascii_alphabetic first.0 first.1 first.2 first.3 refl in
    let no_number : number bytes ≡ None = ap number first.2 ∙ no_number_at first.0 first.1 (letter_no_digit first.0 first.3) in
    rw (no_hash, no_minus, no_number) (literal_complete v bytes rest s)

value_sound_unmarked : (v : SpelledValue) (bytes rest : List ℕ) → on (number bytes) (literal_in bytes) (λ n. Some (positive n.0, n.1)) ≡ Some (v, rest) → SpellsValue v bytes rest
value_sound_unmarked v bytes rest e =
    ⊎_elim
    (λ (none : number bytes ≡ None). inr (inr (inr (literal_sound v bytes rest (ap (λ o. on o (literal_in bytes) (λ n. Some (positive n.0, n.1))) (sym none) ∙ e)))))
    (λ (s : (x : ℕ × List ℕ) × (number bytes ≡ Some x)).
    inl (number_as_read positive positive_cut s.0.0 v bytes rest s.0.1 s.1 (ap (λ o. on o (literal_in bytes) (λ n. Some (positive n.0, n.1))) (sym s.1) ∙ e)))
    (cases_on (number bytes))

value_sound_unnumbered : (v : SpelledValue) (bytes rest : List ℕ) → on (mark 45 bytes) (on (number bytes) (literal_in bytes) (λ n. Some (positive n.0, n.1))) (number_as negative) ≡ Some (v, rest) → SpellsValue v bytes rest
value_sound_unnumbered v bytes rest e =
    let plain = on (number bytes) (literal_in bytes) (λ n. Some (positive n.0, n.1)) in
    ⊎_elim
    (λ (none : mark 45 bytes ≡ None). value_sound_unmarked v bytes rest (ap (λ o. on o plain (number_as negative)) (sym none) ∙ e))
    (λ (s : (m : List ℕ) × (mark 45 bytes ≡ Some m)).
    let n = number_as_sound negative negative_cut v s.0 rest (ap (λ o. on o plain (number_as negative)) (sym s.1) ∙ e) in
    inr (inl (n.0, s.0, mark_sound 45 bytes s.0 s.1, n.1, n.2)))
    (cases_on (mark 45 bytes))

pub value_sound : (v : SpelledValue) (bytes rest : List ℕ) → value bytes ≡ Some (v, rest) → SpellsValue v bytes rest
value_sound v bytes rest e =
    let other = on (mark 45 bytes) (on (number bytes) (literal_in bytes) (λ n. Some (positive n.0, n.1))) (number_as negative) in
    ⊎_elim
    (λ (none : mark 35 bytes ≡ None). value_sound_unnumbered v bytes rest (ap (λ o. on o other (number_as numbered)) (sym none) ∙ e))
    (λ (s : (m : List ℕ) × (mark 35 bytes ≡ Some m)).
    let n = number_as_sound numbered numbered_cut v s.0 rest (ap (λ o. on o other (number_as numbered)) (sym s.1) ∙ e) in
    inr (inr (inl (n.0, s.0, mark_sound 35 bytes s.0 s.1, n.1, n.2))))
    (cases_on (mark 35 bytes))

-- ---- names and receivers

abbrev unreserved : List ℕ × List ℕ → Option (List ℕ × List ℕ)
unreserved w = cond (is_reserved w.0) None (Some w)

pub name_complete : (w bytes rest : List ℕ) → SpellsName w bytes rest → name bytes ≡ Some (w, rest)
name_complete w bytes rest s =
    ap (λ o. on {B = Option (List ℕ × List ℕ)} o None unreserved) (word_complete w bytes rest s.0) ∙ ap (λ t. cond t None (Some (w, rest))) s.1

pub name_sound : (w bytes rest : List ℕ) → name bytes ≡ Some (w, rest) → SpellsName w bytes rest
name_sound w bytes rest e =
    let s = on_some (word bytes) unreserved (w, rest) e in
    ⊎_elim
    (λ (taken : is_reserved s.0.0 ≡ true). let none : ◌≡◌ {A = Option (List ℕ × List ℕ)} None (Some (w, rest)) = ap (λ t. cond t None (Some s.0)) (sym taken) ∙ s.2 in cc)
    (λ (free : is_reserved s.0.0 ≡ false).
    let found : Some s.0 ≡ Some (w, rest) = ap (λ t. cond t None (Some s.0)) (sym free) ∙ s.2 in
    let pair : s.0 ≡ (w, rest) = cc in
    (word_sound w bytes rest (s.1 ∙ found), ap (λ p. is_reserved p.0) (sym pair) ∙ free))
    (cases_Bool (is_reserved s.0.0))

abbrev receiver_of : ℕ → Receiver
receiver_of n = Numbered (instance_number n)

receiver_cut : (n : ℕ) → receiver_of (min n (2 ^ 64 - 1)) ≡ receiver_of n
receiver_cut n = ap Numbered (instance_cut n)

pub receiver_complete : (r : Receiver) (bytes rest : List ℕ) → SpellsReceiver r bytes rest → receiver bytes ≡ Some (r, rest)
receiver_complete (Named w) bytes rest s =
    let first = first_letter w bytes rest s.0 in
    let no_hash = no_mark_at 35 bytes is_ascii_alphabetic first.0 first.1 first.2 first.3 refl in
    rw (no_hash, name_complete w bytes rest s) refl
receiver_complete (Numbered number) bytes rest s =
    rw (mark_complete 35 bytes s.1 s.2) (number_as_complete receiver_of receiver_cut s.0 (Numbered number) s.1 rest s.3 (ap Numbered s.4))

numbered_receiver : (r : Receiver) (n : ℕ) (bytes m rest : List ℕ) → SpellsMark 35 bytes m → SpellsNumber n m rest → r ≡ receiver_of n → SpellsReceiver r bytes rest
numbered_receiver r n bytes m rest hash number is =
    subst (λ r. SpellsReceiver r bytes rest) (sym is) (n, m, hash, number, refl)

pub receiver_sound : (r : Receiver) (bytes rest : List ℕ) → receiver bytes ≡ Some (r, rest) → SpellsReceiver r bytes rest
receiver_sound r bytes rest e =
    let named = on (name bytes) None (λ w. Some (Named w.0, w.1)) in
    ⊎_elim
    (λ (none : mark 35 bytes ≡ None).
    let s = on_some (name bytes) (λ w. Some (Named w.0, w.1)) (r, rest) (ap (λ o. on o named (number_as receiver_of)) (sym none) ∙ e) in
    let pair : ◌≡◌ {A = Receiver × List ℕ} (Named s.0.0, s.0.1) (r, rest) = let both = s.2 in cc in
    subst (λ r. SpellsReceiver r bytes rest) (ap (λ p. p.0) pair) (name_sound s.0.0 bytes rest (s.1 ∙ (λ i. Some (s.0.0, (pair i).1)))))
    (λ (s : (m : List ℕ) × (mark 35 bytes ≡ Some m)).
    let n = number_as_sound receiver_of receiver_cut r s.0 rest (ap (λ o. on o named (number_as receiver_of)) (sym s.1) ∙ e) in
    numbered_receiver r n.0 bytes s.0 rest (mark_sound 35 bytes s.0 s.1) n.1 n.2)
    (cases_on (mark 35 bytes))
