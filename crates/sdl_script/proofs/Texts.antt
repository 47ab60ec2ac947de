-- A text parts into lines in one way, a line says one thing or nothing, and a text says one script.
use Rattle.std.proofs.Common.{◌≡◌, ℕ, suc, ◌+◌, Bool, true, false, cond, Option, None, Some, inl, inr, List, [], ◌∷◌, ◌++◌, length, drop, sym, refl, ap, ◌∙◌, subst, arith, append_assoc, append-nil}
use Rattle.std.specs.List.{list_all, prefix_len}
use Rattle.std.proofs.Math.Seq.{drop-length}
use Rattle.std.proofs.lemmas.Bool.{and_from, and_parts, both_ways}
use Rattle.std.proofs.lemmas.List.{append_cancel_right}
use Rattle.std.proofs.lemmas.List.Elements.{All-head, All-tail}
use Rattle.std.proofs.lemmas.Option.{same_Some}
use Rattle.std.specs.Char.{is_ascii_digit}
use Rattle.std.specs.Prelude.{All}
use Rattle.sdl_system.specs.System.{SystemValue}
use Rattle.sdl_script.specs.Part.{Stops, is_space, past_spaces}
use Rattle.sdl_script.specs.ScriptText.{AreLines, BeginsWith, IsInOneLine, IsRead, Means, Reading, Says, SaysNothing, all_said, is_line_byte}
use Rattle.sdl_script.specs.Spelling.{Spelled, SpellsLine}
use Rattle.sdl_script.specs.One.{OneLine, OneSaying, OneScript}
use Rattle.sdl_script.proofs.Meanings.{one_meaning}
use Rattle.sdl_script.proofs.Parts.{digit_leads, lead, one_run}
use Rattle.sdl_script.proofs.Spellings.{one_spelling}

-- ---- lines

-- a line with its CR
all_with_return : (line : List ℕ) → IsInOneLine line → IsInOneLine (line ++ 13 ∷ [])
all_with_return [] all = refl
all_with_return (b ∷ line) all =
    let parts = and_parts (is_line_byte b) (list_all is_line_byte line) all in
    and_from (is_line_byte b) (list_all is_line_byte (line ++ 13 ∷ [])) parts.0 (all_with_return line parts.1)

-- two fronts of a text without LF, each before LF or at the end, are the same
one_front : (text front after other behind : List ℕ) → text ≡ front ++ after → text ≡ other ++ behind
    → IsInOneLine front → Stops is_line_byte after → IsInOneLine other → Stops is_line_byte behind
    → (front ≡ other) × (after ≡ behind)
one_front text front after other behind s t all stops all' stops' =
    one_run is_line_byte front after other behind (sym s ∙ t) all stops all' stops'

with_return : (text line rest : List ℕ) → text ≡ line ++ 13 ∷ 10 ∷ rest → text ≡ (line ++ 13 ∷ []) ++ 10 ∷ rest
with_return text line rest s = s ∙ sym (append_assoc line (13 ∷ []) (10 ∷ rest))

at_end : (text line : List ℕ) → text ≡ line → text ≡ line ++ []
at_end text line s = s ∙ sym (append-nil line)

same_rest : (rest behind : List ℕ) → 10 ∷ rest ≡ 10 ∷ behind → rest ≡ behind
same_rest rest behind e = cc

no_end : (rest : List ℕ) → 10 ∷ rest ≡ [] → ⊥
no_end rest e = cc

pub one_line : OneLine
one_line text line rest other behind (all, inl s) (all', inl t) =
    let front = one_front text line (10 ∷ rest) other (10 ∷ behind) s.0 t.0 all refl all' refl in
    (front.0, same_rest rest behind front.1)
one_line text line rest other behind (all, inl s) (all', inr (inl t)) =
    let front = one_front text line (10 ∷ rest) (other ++ 13 ∷ []) (10 ∷ behind) s.0 (with_return text other behind t)
    all refl (all_with_return other all') refl in
    absurd (s.1 (other, front.0))
one_line text line rest other behind (all, inl s) (all', inr (inr t)) =
    absurd (no_end rest (one_front text line (10 ∷ rest) other [] s.0 (at_end text other t.0) all refl all' tt).1)
one_line text line rest other behind (all, inr (inl s)) (all', inl t) =
    let front = one_front text other (10 ∷ behind) (line ++ 13 ∷ []) (10 ∷ rest) t.0 (with_return text line rest s)
    all' refl (all_with_return line all) refl in
    absurd (t.1 (line, front.0))
one_line text line rest other behind (all, inr (inl s)) (all', inr (inl t)) =
    let front = one_front text (line ++ 13 ∷ []) (10 ∷ rest) (other ++ 13 ∷ []) (10 ∷ behind)
    (with_return text line rest s) (with_return text other behind t)
    (all_with_return line all) refl (all_with_return other all') refl in
    (append_cancel_right line other (13 ∷ []) front.0, same_rest rest behind front.1)
one_line text line rest other behind (all, inr (inl s)) (all', inr (inr t)) =
    absurd (no_end rest (one_front text (line ++ 13 ∷ []) (10 ∷ rest) other [] (with_return text line rest s)
    (at_end text other t.0) (all_with_return line all) refl all' tt).1)
one_line text line rest other behind (all, inr (inr s)) (all', inl t) =
    absurd (no_end behind (one_front text other (10 ∷ behind) line [] t.0 (at_end text line s.0) all' refl all tt).1)
one_line text line rest other behind (all, inr (inr s)) (all', inr (inl t)) =
    absurd (no_end behind (one_front text (other ++ 13 ∷ []) (10 ∷ behind) line [] (with_return text other behind t)
    (at_end text line s.0) (all_with_return other all') refl all tt).1)
one_line text line rest other behind (all, inr (inr s)) (all', inr (inr t)) = (sym s.0 ∙ t.0, s.2 ∙ sym t.2)

-- no line stands in an empty text
pub no_line : (text line rest : List ℕ) → text ≡ [] → BeginsWith line text rest → ⊥
no_line text line rest nothing (all, inl s) =
    no_end rest (one_front text line (10 ∷ rest) [] [] s.0 nothing all refl refl tt).1
no_line text line rest nothing (all, inr (inl s)) =
    no_end rest (one_front text (line ++ 13 ∷ []) (10 ∷ rest) [] [] (with_return text line rest s) nothing
    (all_with_return line all) refl refl tt).1
no_line text line rest nothing (all, inr (inr s)) = s.1 (sym s.0 ∙ nothing)

-- ---- what a line says

-- a line whose first byte is no space has none to pass
kept : (b : ℕ) (line : List ℕ) → is_space b ≡ false → past_spaces (b ∷ line) ≡ b ∷ line
kept b line stops =
    let none : prefix_len is_space (b ∷ line) ≡ 0 = ap (λ t. cond t (1 + prefix_len is_space line) 0) stops in
    ap (λ n. drop n (b ∷ line)) none

all_pass : (p : ℕ → Bool) (bytes : List ℕ) → list_all p bytes ≡ true → prefix_len p bytes ≡ length bytes
all_pass p [] all = refl
all_pass p (b ∷ bytes) all =
    let parts = and_parts (p b) (list_all p bytes) all in
    let more = all_pass p bytes parts.1 in
    ap (λ t. cond t (1 + prefix_len p bytes) 0) parts.0
    ∙ (let n : 1 + prefix_len p bytes ≡ suc (length bytes) = omega (arith, more) in n)

-- what says nothing begins with no digit
no_digit : (line : List ℕ) → SaysNothing line → is_ascii_digit (lead (past_spaces line)) ≡ false
no_digit [] nothing = refl
no_digit (b ∷ line) (inl hash) =
    let is : b ≡ 35 = same_Some b 35 hash in
    ap (λ l. is_ascii_digit (lead l)) (kept b line (ap is_space is)) ∙ ap is_ascii_digit is
no_digit (b ∷ line) (inr spaces) =
    ap (λ l. is_ascii_digit (lead l))
    (ap (λ n. drop n (b ∷ line)) (all_pass is_space (b ∷ line) spaces) ∙ drop-length (b ∷ line))

-- so nothing is spelled there
pub unspelled : (line : List ℕ) (at : ℕ) (signal : Option Spelled) → SaysNothing line → SpellsLine at signal line → ⊥
unspelled line at signal nothing s =
    both_ways (is_ascii_digit (lead (past_spaces line))) (no_digit line nothing)
    (digit_leads at (past_spaces line) s.0 s.1)

pub one_saying : OneSaying
one_saying system line None None s t = refl
one_saying system line None (Some other) s t = absurd (unspelled line other.at t.0 s t.1)
one_saying system line (Some said) None s t = absurd (unspelled line said.at s.0 t s.1)
one_saying system line (Some said) (Some other) s t =
    let spelled = one_spelling line said.at other.at s.0 t.0 s.1 t.1 in
    let signal = one_meaning system s.0 said.signal other.signal s.2
    (subst (λ o. Means system o other.signal) (sym spelled.1) t.2) in
    λ i. Some (record { at = spelled.0 i; signal = signal i })

-- ---- what a text says

pub one_reading : (system : SystemValue) (reading other : Reading) → reading.line ≡ other.line → IsRead system reading
    → IsRead system other → reading ≡ other
one_reading system reading other line s t =
    let said = one_saying system reading.line reading.said other.said s
    (subst (λ l. Says system l other.said) (sym line) t) in
    λ i. record { line = line i; said = said i }

one_row : (system : SystemValue) (readings others : List Reading) (text : List ℕ) → AreLines readings text []
    → All (IsRead system) readings → AreLines others text [] → All (IsRead system) others → readings ≡ others
one_row system [] [] text s said t told = refl
one_row system [] (other ∷ others) text s said t told = absurd (no_line text other.line t.0 s t.1)
one_row system (reading ∷ readings) [] text s said t told = absurd (no_line text reading.line s.0 t s.1)
one_row system (reading ∷ readings) (other ∷ others) text s said t told =
    let line = one_line text reading.line s.0 other.line t.0 s.1 t.1 in
    let first = one_reading system reading other line.0 (All-head (IsRead system) reading readings said)
    (All-head (IsRead system) other others told) in
    let more = one_row system readings others s.0 s.2 (All-tail (IsRead system) reading readings said)
    (subst (λ m. AreLines others m []) (sym line.1) t.2) (All-tail (IsRead system) other others told) in
    λ i. first i ∷ more i

pub one_script : OneScript
one_script system text lines others s t =
    let row = one_row system s.0 t.0 text s.1.are_lines s.1.are_read t.1.are_lines t.1.are_read in
    s.1.are_said ∙ ap all_said row ∙ sym t.1.are_said
