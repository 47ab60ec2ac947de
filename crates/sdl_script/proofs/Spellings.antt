-- A value, a receiver, a signal and a line are spelled in one way.
use Rattle.std.proofs.Common.{◌≡◌, ℕ, Option, None, Some, inl, inr, List, [], ◌∷◌, sym, refl, ap, ◌∙◌, subst}
use Rattle.std.proofs.lemmas.Option.{same_Some}
use Rattle.std.specs.Char.{is_ascii_alphabetic, is_ascii_digit}
use Rattle.sdl_script.specs.declared.value.SpelledValue.{SpelledValue}
use Rattle.sdl_script.specs.Part.{SpellsMark, SpellsNumber, past_spaces}
use Rattle.sdl_script.specs.Spelling.{Named, Numbered, Receiver, Spelled, SpellsMore, SpellsReceiver, SpellsSignal, SpellsValue, SpellsValues, SpellsWhither, instance_number, literal, negative, numbered, positive}
use Rattle.sdl_script.specs.One.{OneSpelling}
use Rattle.sdl_script.proofs.Parts.{digit_leads, letter_leads, no_mark, no_mark_of_nothing, no_word, no_word_of_nothing, one_mark, one_number, one_word, other_mark}

-- ---- values

-- two numbers, each behind this mark
marked : {A : Type 0} (f : ℕ → A) (mark : ℕ) (n m : ℕ) (k l : List ℕ) (x y : A) (bytes rest other : List ℕ)
    → SpellsMark mark bytes k → SpellsNumber n k rest → x ≡ f n → SpellsMark mark bytes l → SpellsNumber m l other
    → y ≡ f m → (x ≡ y) × (rest ≡ other)
marked f mark n m k l x y bytes rest other opens s is opened t be =
    let same : k ≡ l = one_mark mark bytes k l opens opened in
    let both = one_number n m k rest other s (subst (λ b. SpellsNumber m b other) (sym same) t) in
    (is ∙ ap f both.0 ∙ sym be, both.1)

pub one_value : (v w : SpelledValue) (bytes rest other : List ℕ) → SpellsValue v bytes rest
    → SpellsValue w bytes other → (v ≡ w) × (rest ≡ other)
one_value v w bytes rest other (inl s) (inl t) =
    let both = one_number s.0 t.0 bytes rest other s.1 t.1 in
    (s.2 ∙ ap positive both.0 ∙ sym t.2, both.1)
one_value v w bytes rest other (inl s) (inr (inl t)) =
    absurd (no_mark is_ascii_digit 45 bytes t.1 refl (digit_leads s.0 bytes rest s.1) t.2)
one_value v w bytes rest other (inl s) (inr (inr (inl t))) =
    absurd (no_mark is_ascii_digit 35 bytes t.1 refl (digit_leads s.0 bytes rest s.1) t.2)
one_value v w bytes rest other (inl s) (inr (inr (inr t))) =
    absurd (no_word s.0 t.0 bytes rest other s.1 t.1)
one_value v w bytes rest other (inr (inl s)) (inl t) =
    absurd (no_mark is_ascii_digit 45 bytes s.1 refl (digit_leads t.0 bytes other t.1) s.2)
one_value v w bytes rest other (inr (inl s)) (inr (inl t)) =
    marked negative 45 s.0 t.0 s.1 t.1 v w bytes rest other s.2 s.3 s.4 t.2 t.3 t.4
one_value v w bytes rest other (inr (inl s)) (inr (inr (inl t))) =
    absurd (other_mark 45 35 bytes s.1 t.1 refl refl s.2 t.2)
one_value v w bytes rest other (inr (inl s)) (inr (inr (inr t))) =
    absurd (no_mark is_ascii_alphabetic 45 bytes s.1 refl (letter_leads t.0 bytes other t.1) s.2)
one_value v w bytes rest other (inr (inr (inl s))) (inl t) =
    absurd (no_mark is_ascii_digit 35 bytes s.1 refl (digit_leads t.0 bytes other t.1) s.2)
one_value v w bytes rest other (inr (inr (inl s))) (inr (inl t)) =
    absurd (other_mark 35 45 bytes s.1 t.1 refl refl s.2 t.2)
one_value v w bytes rest other (inr (inr (inl s))) (inr (inr (inl t))) =
    marked numbered 35 s.0 t.0 s.1 t.1 v w bytes rest other s.2 s.3 s.4 t.2 t.3 t.4
one_value v w bytes rest other (inr (inr (inl s))) (inr (inr (inr t))) =
    absurd (no_mark is_ascii_alphabetic 35 bytes s.1 refl (letter_leads t.0 bytes other t.1) s.2)
one_value v w bytes rest other (inr (inr (inr s))) (inl t) =
    absurd (no_word t.0 s.0 bytes other rest t.1 s.1)
one_value v w bytes rest other (inr (inr (inr s))) (inr (inl t)) =
    absurd (no_mark is_ascii_alphabetic 45 bytes t.1 refl (letter_leads s.0 bytes rest s.1) t.2)
one_value v w bytes rest other (inr (inr (inr s))) (inr (inr (inl t))) =
    absurd (no_mark is_ascii_alphabetic 35 bytes t.1 refl (letter_leads s.0 bytes rest s.1) t.2)
one_value v w bytes rest other (inr (inr (inr s))) (inr (inr (inr t))) =
    let both = one_word s.0 t.0 bytes rest other s.1 t.1 in
    (same_Some v w (sym s.2 ∙ ap literal both.0 ∙ t.2), both.1)

-- values behind commas, up to the parenthesis that closes
one_more : (vs ws : List SpelledValue) (bytes rest other end out : List ℕ) → SpellsMore vs bytes rest
    → SpellsMark 41 rest end → SpellsMore ws bytes other → SpellsMark 41 other out → (vs ≡ ws) × (end ≡ out)
one_more [] [] bytes rest other end out s closes t closed =
    (refl, one_mark 41 rest end out closes (subst (λ l. SpellsMark 41 l out) (sym t ∙ s) closed))
one_more [] (w ∷ ws) bytes rest other end out s closes t closed =
    absurd (other_mark 41 44 bytes end t.0 refl refl (subst (λ l. SpellsMark 41 l end) (sym s) closes) t.2)
one_more (v ∷ vs) [] bytes rest other end out s closes t closed =
    absurd (other_mark 41 44 bytes out s.0 refl refl (subst (λ l. SpellsMark 41 l out) (sym t) closed) s.2)
one_more (v ∷ vs) (w ∷ ws) bytes rest other end out s closes t closed =
    let behind : t.0 ≡ s.0 = one_mark 44 bytes t.0 s.0 t.2 s.2 in
    let first = one_value v w s.0 s.1 t.1 s.3 (subst (λ l. SpellsValue w l t.1) behind t.3) in
    let more = one_more vs ws s.1 rest other end out s.4 closes
    (subst (λ l. SpellsMore ws l other) (sym first.1) t.4) closed in
    ((λ i. first.0 i ∷ more.0 i), more.1)

-- no parenthesis opens what may follow values
unopened : (to : Option Receiver) (bytes rest : List ℕ) → SpellsWhither to bytes → SpellsMark 40 bytes rest → ⊥
unopened None bytes rest nothing opens = no_mark_of_nothing 40 bytes rest nothing refl opens
unopened (Some receiver) bytes rest s opens =
    no_mark is_ascii_alphabetic 40 bytes rest refl (letter_leads s.1.0 bytes s.0 s.1.1) opens

one_values : (vs ws : List SpelledValue) (to whither : Option Receiver) (bytes rest other : List ℕ)
    → SpellsValues vs bytes rest → SpellsWhither to rest → SpellsValues ws bytes other → SpellsWhither whither other
    → (vs ≡ ws) × (rest ≡ other)
one_values [] [] to whither bytes rest other s goes t leads = (refl, sym s ∙ t)
one_values [] (w ∷ ws) to whither bytes rest other s goes t leads =
    absurd (unopened to bytes t.0 (subst (SpellsWhither to) (sym s) goes) t.3)
one_values (v ∷ vs) [] to whither bytes rest other s goes t leads =
    absurd (unopened whither bytes s.0 (subst (SpellsWhither whither) (sym t) leads) s.3)
one_values (v ∷ vs) (w ∷ ws) to whither bytes rest other s goes t leads =
    let behind : t.0 ≡ s.0 = one_mark 40 bytes t.0 s.0 t.3 s.3 in
    let first = one_value v w s.0 s.1 t.1 s.4 (subst (λ l. SpellsValue w l t.1) behind t.4) in
    let more = one_more vs ws s.1 s.2 t.2 rest other s.5 s.6
    (subst (λ l. SpellsMore ws l t.2) (sym first.1) t.5) t.6 in
    ((λ i. first.0 i ∷ more.0 i), more.1)

-- ---- receivers

one_receiver : (r q : Receiver) (bytes rest other : List ℕ) → SpellsReceiver r bytes rest
    → SpellsReceiver q bytes other → r ≡ q
one_receiver (Named name) (Named called) bytes rest other s t =
    ap Named (one_word name called bytes rest other s.0 t.0).0
one_receiver (Named name) (Numbered number) bytes rest other s t =
    absurd (no_mark is_ascii_alphabetic 35 bytes t.1 refl (letter_leads name bytes rest s.0) t.2)
one_receiver (Numbered number) (Named called) bytes rest other s t =
    absurd (no_mark is_ascii_alphabetic 35 bytes s.1 refl (letter_leads called bytes other t.0) s.2)
one_receiver (Numbered number) (Numbered n) bytes rest other s t =
    ap Numbered (marked instance_number 35 s.0 t.0 s.1 t.1 number n bytes rest other s.2 s.3 s.4 t.2 t.3 t.4).0

one_whither : (to whither : Option Receiver) (bytes : List ℕ) → SpellsWhither to bytes → SpellsWhither whither bytes
    → to ≡ whither
one_whither None None bytes s t = refl
one_whither None (Some q) bytes s t = absurd (no_word_of_nothing t.1.0 bytes t.0 s t.1.1)
one_whither (Some r) None bytes s t = absurd (no_word_of_nothing s.1.0 bytes s.0 t s.1.1)
one_whither (Some r) (Some q) bytes s t =
    let behind : t.0 ≡ s.0 = sym (one_word s.1.0 t.1.0 bytes s.0 t.0 s.1.1 t.1.1).1 in
    ap Some (one_receiver r q s.0 [] [] s.2 (subst (λ l. SpellsReceiver q l []) behind t.2))

-- ---- signals and lines

one_signal : (signal other : Option Spelled) (bytes : List ℕ) → SpellsSignal signal bytes → SpellsSignal other bytes
    → signal ≡ other
one_signal None None bytes s t = refl
one_signal None (Some other) bytes s t = absurd (no_word_of_nothing other.name bytes t.0 s t.2.0)
one_signal (Some signal) None bytes s t = absurd (no_word_of_nothing signal.name bytes s.0 t s.2.0)
one_signal (Some signal) (Some other) bytes s t =
    let name = one_word signal.name other.name bytes s.0 t.0 s.2.0 t.2.0 in
    let values = one_values signal.values other.values signal.to other.to s.0 s.1 t.1 s.3 s.4
    (subst (λ l. SpellsValues other.values l t.1) (sym name.1) t.3) t.4 in
    let to = one_whither signal.to other.to s.1 s.4 (subst (SpellsWhither other.to) (sym values.1) t.4) in
    λ i. Some (record { name = name.0 i; values = values.0 i; to = to i })

pub one_spelling : OneSpelling
one_spelling line at other_at signal other s t =
    let time = one_number at other_at (past_spaces line) s.0 t.0 s.1 t.1 in
    (time.0, one_signal signal other s.0 s.3 (subst (SpellsSignal other) (sym time.1) t.3))
