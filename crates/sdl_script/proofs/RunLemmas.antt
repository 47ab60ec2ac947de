-- The longest run of bytes that pass a test.
use Rattle.std.proofs.Common.{◌≡◌, ℕ, zero, suc, ◌+◌, ◌<◌, Bool, true, cond, List, [], ◌∷◌, ◌++◌, length, get_or, take, drop, sym, refl, ap, ◌∙◌, ⊎_elim, arith, take-append-drop, length-take-le}
use Rattle.std.specs.List.{prefix_len, list_all}
use Rattle.std.specs.Str.{IsAscii, IsUtf8}
use Rattle.std.proofs.lemmas.Bool.{cases_Bool, and_parts, and_from}
use Rattle.std.proofs.lemmas.Bool.Decides.{nat_tests}
use Rattle.std.proofs.lemmas.List.{get_or-take}
use Rattle.std.proofs.lemmas.List.Sums.{prefix_len-le-length, prefix_len_passes}
use Rattle.std.proofs.lemmas.Str.{IsUtf8-from_ascii}
use Rattle.std.proofs.lemmas.Str.Ascii.{IsAscii-from_reads}
use Rattle.sdl_lex.specs.Byte.{is_word_byte}
use Rattle.sdl_script.specs.Part.{Stops}

word_byte_ascii : (b : ℕ) → is_word_byte b ≡ true → b < 128
word_byte_ascii b h = grind (arith, nat_tests)

pub word_ascii : (bytes : List ℕ) → IsAscii (take (prefix_len is_word_byte bytes) bytes)
word_ascii bytes =
    IsAscii-from_reads (take (prefix_len is_word_byte bytes) bytes) (prefix_len is_word_byte bytes)
    (let le = prefix_len-le-length is_word_byte bytes in let len = length-take-le (prefix_len is_word_byte bytes) bytes le in omega arith)
    (λ k below. rw (get_or-take (prefix_len is_word_byte bytes) bytes k 0 below) (word_byte_ascii (get_or bytes k 0) (prefix_len_passes is_word_byte bytes k 0 below)))

pub ascii_is_text : (bytes : List ℕ) → IsAscii bytes → IsUtf8 bytes
ascii_is_text bytes ascii = IsUtf8-from_ascii bytes ascii

stops_first : (p : ℕ → Bool) (after : List ℕ) → zero ≡ prefix_len p after → Stops p after
stops_first p [] e = tt
stops_first p (b ∷ after) e =
    ⊎_elim (λ pass. absurd (let n : zero ≡ 1 + prefix_len p after = e ∙ ap (λ t. cond t (1 + prefix_len p after) 0) pass in omega arith)) (λ fail. fail) (cases_Bool (p b))

-- a front as long as the longest one that passes is that one
stops_at : (p : ℕ → Bool) (front after : List ℕ) → length front ≡ prefix_len p (front ++ after) → (list_all p front ≡ true) × Stops p after
stops_at p [] after e = (refl, stops_first p after e)
stops_at p (b ∷ front) after e =
    ⊎_elim
    (λ pass.
    let n : suc (length front) ≡ 1 + prefix_len p (front ++ after) = e ∙ ap (λ t. cond t (1 + prefix_len p (front ++ after)) 0) pass in
    let rest = stops_at p front after (omega arith) in
    (and_from (p b) (list_all p front) pass rest.0, rest.1))
    (λ fail. absurd (let n : suc (length front) ≡ 0 = e ∙ ap (λ t. cond t (1 + prefix_len p (front ++ after)) 0) fail in omega arith))
    (cases_Bool (p b))

-- the longest front that passes, and what follows it
pub run_is : (p : ℕ → Bool) (bytes : List ℕ) → (list_all p (take (prefix_len p bytes) bytes) ≡ true) × Stops p (drop (prefix_len p bytes) bytes)
run_is p bytes =
    stops_at p (take (prefix_len p bytes) bytes) (drop (prefix_len p bytes) bytes)
    (length-take-le (prefix_len p bytes) bytes (prefix_len-le-length p bytes) ∙ ap (prefix_len p) (sym (take-append-drop (prefix_len p bytes) bytes)))

none_stops : (p : ℕ → Bool) (after : List ℕ) → Stops p after → prefix_len p after ≡ zero
none_stops p [] stops = refl
none_stops p (b ∷ after) stops = ap (λ t. cond t (1 + prefix_len p after) 0) stops

-- a front that passes and ends where the test stops is the longest one
pub run_len : (p : ℕ → Bool) (front after : List ℕ) → list_all p front ≡ true → Stops p after → prefix_len p (front ++ after) ≡ length front
run_len p [] after all stops = none_stops p after stops
run_len p (b ∷ front) after all stops =
    let parts = and_parts (p b) (list_all p front) all in
    ap (λ t. cond t (1 + prefix_len p (front ++ after)) 0) parts.0
    ∙ (let more = run_len p front after parts.1 stops in let n : 1 + prefix_len p (front ++ after) ≡ suc (length front) = omega arith in n)
