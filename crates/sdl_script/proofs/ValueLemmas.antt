-- The values of a line, and why there are none.
use Rattle.std.proofs.Common.{◌≡◌, ℕ, Option, None, Some, ◌⊎◌, inl, inr, List, [], ◌∷◌, ◌++◌, sym, refl, ap, ◌∙◌, subst}
use Rattle.std.specs.Char.{is_ascii_alphabetic}
use Rattle.sdl_script.specs.declared.value.SpelledValue.{SpelledValue}
use Rattle.sdl_script.specs.Reading.{mark, value, IsTail, IsNoTail}
use Rattle.sdl_script.specs.Spelling.{Receiver, SpellsMore, SpellsValues, SpellsWhither}
use Rattle.sdl_script.proofs.ReadingLemmas.{mark_sound, mark_complete, mark_not, no_mark_at, first_letter, value_sound, value_complete}

-- reading these values, each behind a comma, leads from the bytes to the rest
abbrev pub Follows : List SpelledValue → List ℕ → List ℕ → Type 0
Follows [] bytes rest = bytes ≡ rest
Follows (v ∷ values) bytes rest = (m n : List ℕ) × (mark 44 bytes ≡ Some m) × (value m ≡ Some (v, n)) × Follows values n rest

-- behind an opening parenthesis these values were read
pub record ReadSoFar (start : List ℕ) (items : List SpelledValue) (rest : List ℕ) : Type 0 where
  pub opened : List ℕ
  pub behind : List ℕ
  pub first : SpelledValue
  pub more : List SpelledValue
  pub opens : mark 40 start ≡ Some opened
  pub read : value opened ≡ Some (first, behind)
  pub are : items ≡ first ∷ more
  pub follow : Follows more behind rest

-- nothing that may follow values stands there
abbrev pub IsStuck : List ℕ → Type 0
IsStuck rest = ((m : List ℕ) × (mark 44 rest ≡ Some m) × (value m ≡ None)) ⊎ ((mark 44 rest ≡ None) × (mark 41 rest ≡ None))

pub first_read : (start opened rest : List ℕ) (items : List SpelledValue) (v : SpelledValue) → mark 40 start ≡ Some opened → value opened ≡ Some (v, rest) → items ≡ v ∷ []
    → ReadSoFar start items rest
first_read start opened rest items v opens read are =
    record { opened = opened; behind = rest; first = v; more = []; opens = opens; read = read; are = are; follow = refl }

Follows-push : (values : List SpelledValue) (bytes rest m n : List ℕ) (v : SpelledValue) → Follows values bytes rest → mark 44 rest ≡ Some m → value m ≡ Some (v, n)
    → Follows (values ++ v ∷ []) bytes n
Follows-push [] bytes rest m n v f comma read = (m, n, ap (mark 44) f ∙ comma, read, refl)
Follows-push (w ∷ values) bytes rest m n v f comma read = (f.0, f.1, f.2, f.3, Follows-push values f.1 rest m n v f.4 comma read)

pub more_read : (start rest m n : List ℕ) (items : List SpelledValue) (v : SpelledValue) → ReadSoFar start items rest → mark 44 rest ≡ Some m → value m ≡ Some (v, n)
    → ReadSoFar start (items ++ v ∷ []) n
more_read start rest m n items v s comma read = record {
  opened = s.opened;
  behind = s.behind;
  first = s.first;
  more = s.more ++ v ∷ [];
  opens = s.opens;
  read = s.read;
  are = ap (λ l. l ++ v ∷ []) s.are;
  follow = Follows-push s.more s.behind rest m n v s.follow comma read;
}

more_sound : (values : List SpelledValue) (bytes rest : List ℕ) → Follows values bytes rest → SpellsMore values bytes rest
more_sound [] bytes rest f = f
more_sound (v ∷ values) bytes rest f = (f.0, f.1, mark_sound 44 bytes f.0 f.2, value_sound v f.0 f.1 f.3, more_sound values f.1 rest f.4)

more_complete : (values : List SpelledValue) (bytes rest : List ℕ) → SpellsMore values bytes rest → Follows values bytes rest
more_complete [] bytes rest s = s
more_complete (v ∷ values) bytes rest s = (s.0, s.1, mark_complete 44 bytes s.0 s.2, value_complete v s.0 s.1 s.3, more_complete values s.1 rest s.4)

pub all_read : (start rest end : List ℕ) (items : List SpelledValue) → ReadSoFar start items rest → mark 41 rest ≡ Some end → SpellsValues items start end
all_read start rest end items s closes =
    subst (λ l. SpellsValues l start end) (sym s.are)
    (s.opened, s.behind, rest, mark_sound 40 start s.opened s.opens, value_sound s.first s.opened s.behind s.read, more_sound s.more s.behind rest s.follow, mark_sound 41 rest end closes)

stuck_more : (values others : List SpelledValue) (bytes rest end out : List ℕ) → Follows values bytes rest → Follows others bytes end → mark 41 end ≡ Some out → IsStuck rest → ⊥
stuck_more [] [] bytes rest end out f g closes (inl s) =
    let no_comma = mark_not 41 44 end out refl closes in
    let both : Some s.0 ≡ None = sym s.1 ∙ ap (mark 44) (sym f ∙ g) ∙ no_comma in cc
stuck_more [] [] bytes rest end out f g closes (inr s) =
    let both : None ≡ Some out = sym s.1 ∙ ap (mark 41) (sym f ∙ g) ∙ closes in cc
stuck_more [] (w ∷ others) bytes rest end out f g closes (inl s) =
    let comma : Some s.0 ≡ Some g.0 = sym s.1 ∙ ap (mark 44) (sym f) ∙ g.2 in
    let same : s.0 ≡ g.0 = cc in
    let both : ◌≡◌ {A = Option (SpelledValue × List ℕ)} None (Some (w, g.1)) = sym s.2 ∙ ap value same ∙ g.3 in cc
stuck_more [] (w ∷ others) bytes rest end out f g closes (inr s) =
    let both : None ≡ Some g.0 = sym s.0 ∙ ap (mark 44) (sym f) ∙ g.2 in cc
stuck_more (v ∷ values) [] bytes rest end out f g closes s =
    let no_comma = mark_not 41 44 end out refl closes in
    let both : Some f.0 ≡ None = sym f.2 ∙ ap (mark 44) g ∙ no_comma in cc
stuck_more (v ∷ values) (w ∷ others) bytes rest end out f g closes s =
    let comma : Some f.0 ≡ Some g.0 = sym f.2 ∙ g.2 in
    let same : f.0 ≡ g.0 = cc in
    let read : ◌≡◌ {A = Option (SpelledValue × List ℕ)} (Some (v, f.1)) (Some (w, g.1)) = sym f.3 ∙ ap value same ∙ g.3 in
    let pair : ◌≡◌ {A = SpelledValue × List ℕ} (v, f.1) (w, g.1) = cc in
    stuck_more values others f.1 rest end out f.4 (subst (λ l. Follows others l end) (sym (ap (λ p. p.1) pair)) g.4) closes s

-- two readings of values come to one end
same_end : (values others : List SpelledValue) (bytes rest end out other : List ℕ) → Follows values bytes rest → Follows others bytes end → mark 41 rest ≡ Some out → mark 41 end ≡ Some other → other ≡ out
same_end [] [] bytes rest end out other f g closes ends =
    let both : Some other ≡ Some out = sym ends ∙ ap (mark 41) (sym g ∙ f) ∙ closes in cc
same_end [] (w ∷ others) bytes rest end out other f g closes ends =
    let both : Some g.0 ≡ None = sym g.2 ∙ ap (mark 44) f ∙ mark_not 41 44 rest out refl closes in cc
same_end (v ∷ values) [] bytes rest end out other f g closes ends =
    let both : Some f.0 ≡ None = sym f.2 ∙ ap (mark 44) g ∙ mark_not 41 44 end other refl ends in cc
same_end (v ∷ values) (w ∷ others) bytes rest end out other f g closes ends =
    let comma : Some f.0 ≡ Some g.0 = sym f.2 ∙ g.2 in
    let same : f.0 ≡ g.0 = cc in
    let read : ◌≡◌ {A = Option (SpelledValue × List ℕ)} (Some (v, f.1)) (Some (w, g.1)) = sym f.3 ∙ ap value same ∙ g.3 in
    let pair : ◌≡◌ {A = SpelledValue × List ℕ} (v, f.1) (w, g.1) = cc in
    same_end values others f.1 rest end out other f.4 (subst (λ l. Follows others l end) (sym (ap (λ p. p.1) pair)) g.4) closes ends

-- no parenthesis opens what may follow values
not_opened : (to : Option Receiver) (bytes rest : List ℕ) → SpellsWhither to bytes → mark 40 bytes ≡ Some rest → ⊥
not_opened None bytes rest s opens = let both : None ≡ Some rest = ap (mark 40) (sym s) ∙ opens in cc
not_opened (Some receiver) bytes rest s opens =
    let first = first_letter s.1.0 bytes s.0 s.1.1 in
    let both : Some rest ≡ None = sym opens ∙ no_mark_at 40 bytes is_ascii_alphabetic first.0 first.1 first.2 first.3 refl in cc

pub no_values : (start : List ℕ) → mark 40 start ≡ None → IsTail start start
no_values start none [] to other s whither = sym s
no_values start none (v ∷ values) to other s whither = let both : None ≡ Some s.0 = sym none ∙ mark_complete 40 start s.0 s.3 in cc

pub no_first : (start opened : List ℕ) → mark 40 start ≡ Some opened → value opened ≡ None → IsNoTail start
no_first start opened opens none [] to rest s whither = not_opened to rest opened whither (ap (mark 40) (sym s) ∙ opens)
no_first start opened opens none (v ∷ values) to rest s whither =
    let comma : Some opened ≡ Some s.0 = sym opens ∙ mark_complete 40 start s.0 s.3 in
    let same : opened ≡ s.0 = cc in
    let both : ◌≡◌ {A = Option (SpelledValue × List ℕ)} None (Some (v, s.1)) = sym none ∙ ap value same ∙ value_complete v s.0 s.1 s.4 in cc

-- what is spelled behind the first value that was read
same_first : (start rest other : List ℕ) (items : List SpelledValue) (v : SpelledValue) (values : List SpelledValue) (r : ReadSoFar start items rest) → SpellsValues (v ∷ values) start other
    → (end : List ℕ) × Follows values r.behind end × (mark 41 end ≡ Some other)
same_first start rest other items v values r s =
    let opens : Some r.opened ≡ Some s.0 = sym r.opens ∙ mark_complete 40 start s.0 s.3 in
    let same : r.opened ≡ s.0 = cc in
    let read : ◌≡◌ {A = Option (SpelledValue × List ℕ)} (Some (r.first, r.behind)) (Some (v, s.1)) = sym r.read ∙ ap value same ∙ value_complete v s.0 s.1 s.4 in
    let pair : ◌≡◌ {A = SpelledValue × List ℕ} (r.first, r.behind) (v, s.1) = cc in
    (s.2, subst (λ l. Follows values l s.2) (sym (ap (λ p. p.1) pair)) (more_complete values s.1 s.2 s.5), mark_complete 41 s.2 other s.6)

pub stuck : (start rest : List ℕ) (items : List SpelledValue) → ReadSoFar start items rest → IsStuck rest → IsNoTail start
stuck start rest items r is [] to other s whither = not_opened to other r.opened whither (ap (mark 40) (sym s) ∙ r.opens)
stuck start rest items r is (v ∷ values) to other s whither =
    let f = same_first start rest other items v values r s in
    stuck_more r.more values r.behind rest f.0 other r.follow f.1 f.2 is

pub only_end : (start rest end : List ℕ) (items : List SpelledValue) → ReadSoFar start items rest → mark 41 rest ≡ Some end → IsTail start end
only_end start rest end items r closes [] to other s whither = absurd (not_opened to other r.opened whither (ap (mark 40) (sym s) ∙ r.opens))
only_end start rest end items r closes (v ∷ values) to other s whither =
    let f = same_first start rest other items v values r s in
    same_end r.more values r.behind rest f.0 end other r.follow f.1 closes f.2
