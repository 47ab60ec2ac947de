-- Where a fault stands, no part does.
use Rattle.std.proofs.Common.{◌≡◌, ◌≢◌, ℕ, ◌≤◌, inl, inr, Some, List, [], ◌∷◌, ◌++◌, length, sym, refl, ap, ◌∙◌, subst, arith, append_assoc}
use Rattle.std.specs.Prelude.{codes, pos}
use Rattle.std.proofs.lemmas.Bool.{both_ways, false≢true}
use Rattle.std.proofs.lemmas.List.{append-nil}
use Rattle.sdl_lex.specs.declared.place.Place.{Place}
use Rattle.sdl_lex.specs.declared.token.Kind.{Kind}
use Rattle.sdl_lex.specs.declared.token.Kind.TheVariants.{Word, Number, Text, Mark}
use Rattle.sdl_lex.specs.declared.token.Token.{Token}
use Rattle.sdl_lex.specs.declared.error.LexError.{LexError}
use Rattle.sdl_lex.specs.declared.error.LexError.TheVariants.{TooLong, BadByte, OpenComment, OpenString, NumberTooBig, NameTooLong, Memory}
use Rattle.sdl_lex.specs.Byte.{is_blank}
use Rattle.sdl_lex.specs.Kind.{Is, IsLongest, IsAllowed, decimal}
use Rattle.sdl_lex.specs.LexError.{HasBadByte, HasOpenComment, HasOpenString, HasBigNumber, HasLongName, StandsAt, IsInText, Refuses, place}
use Rattle.sdl_lex.specs.Part.{Part, Gap, Lexeme, BeginsComment, joined, AreParts, Lexes}
use Rattle.sdl_lex.specs.Place.{place_after}
use Rattle.sdl_lex.proofs.ByteLemmas.{class}
use Rattle.sdl_lex.proofs.KindLemmas.{class_of, Is-class, Is-nil, one_kind}
use Rattle.sdl_lex.proofs.PartLemmas.{IsStuck, IsStuck-nil, no_gap_token, one_token, one_way}
use Rattle.sdl_lex.proofs.RunLemmas.{no_comment}

-- ---- numbers and words that are too long

begins_token : (k : Kind) (bytes after : List ℕ) → class_of k ≢ 4 → Is k bytes after → ¬ BeginsComment (bytes ++ after)
begins_token k [] after other is = absurd (Is-nil k after is)
begins_token k (b ∷ bytes) after other is = no_comment b (bytes ++ after) (λ e. other (sym (Is-class k b bytes after is) ∙ e))

stuck_token : (rest bytes others : List ℕ) (k : Kind) → rest ≡ bytes ++ others → class_of k ≢ 4 → Is k bytes others → IsLongest bytes others → ¬ IsAllowed k bytes → IsStuck rest
stuck_token rest bytes others k cut other is long bad (Gap f) after e part =
    no_gap_token f after bytes others k part is (begins_token k bytes others other is) (sym e ∙ cut)
stuck_token rest bytes others k cut other is long bad (Lexeme m f) after e part =
    let same = one_token f after bytes others m k part.0 part.2 is long (sym e ∙ cut) in
    let kinds = one_kind m k bytes after others (subst (λ l. Is m l after) same.0 part.0) is in
    bad (subst (λ x. IsAllowed x bytes) kinds (subst (λ l. IsAllowed m l) same.0 part.3))

stuck_number : (rest : List ℕ) → HasBigNumber rest → IsStuck rest
stuck_number rest h =
    stuck_token rest h.0 h.1 (Number (pos (decimal h.0))) h.2 (λ (e : ◌≡◌ {A = ℕ} 2 4). omega arith) h.3 h.4 (λ (small : decimal h.0 ≤ 9223372036854775807). let big = h.5 in omega arith)

stuck_name : (rest : List ℕ) → HasLongName rest → IsStuck rest
stuck_name rest h =
    stuck_token rest h.0 h.1 Word h.2 (λ (e : ◌≡◌ {A = ℕ} 1 4). omega arith) h.3 h.4 (λ (few : length h.0 ≤ 255). let many = h.5 in omega arith)

some_token : (rest bytes others : List ℕ) (k : Kind) → rest ≡ bytes ++ others → Is k bytes others → rest ≢ []
some_token rest [] others k cut is nil = Is-nil k others is
some_token rest (b ∷ bytes) others k cut is nil = let both : [] ≡ b ∷ (bytes ++ others) = sym nil ∙ cut in cc

-- ---- what is not closed

stuck_string : (rest : List ℕ) → HasOpenString rest → IsStuck rest
stuck_string rest h (Gap f) after e (inl x) =
    let whole : 39 ∷ h.0 ≡ x.0 ∷ after = sym h.1 ∙ e ∙ ap (λ l. l ++ after) x.1 in
    let quote : 39 ≡ x.0 = cc in
    false≢true (ap is_blank quote ∙ x.2)
stuck_string rest h (Gap f) after e (inr x) =
    let whole : 39 ∷ h.0 ≡ 47 ∷ 42 ∷ ((x.0 ++ codes "*/") ++ after) = sym h.1 ∙ e ∙ ap (λ l. l ++ after) x.1 in
    let same : ◌≡◌ {A = ℕ} 39 47 = cc in
    omega arith
stuck_string rest h (Lexeme m []) after e part = Is-nil m after part.0
stuck_string rest h (Lexeme m (b ∷ f)) after e part =
    let whole : 39 ∷ h.0 ≡ b ∷ (f ++ after) = sym h.1 ∙ e in
    let quote : 39 ≡ b = cc in
    quoted m (ap class quote ∙ Is-class m b f after part.0) part.0
  where
    quoted : (m : Kind) → 3 ≡ class_of m → Is m (b ∷ f) after → ⊥
    quoted Text same is = h.2 (b ∷ f) after e is
    quoted Word same is = omega arith
    quoted (Number n) same is = omega arith
    quoted Mark same is = omega arith

stuck_comment : (rest : List ℕ) → HasOpenComment rest → IsStuck rest
stuck_comment rest h (Gap f) after e (inl x) =
    let whole : 47 ∷ 42 ∷ h.0 ≡ x.0 ∷ after = sym h.1 ∙ e ∙ ap (λ l. l ++ after) x.1 in
    let slash : 47 ≡ x.0 = cc in
    false≢true (ap is_blank slash ∙ x.2)
stuck_comment rest h (Gap f) after e (inr x) =
    let whole : 47 ∷ 42 ∷ h.0 ≡ 47 ∷ 42 ∷ ((x.0 ++ codes "*/") ++ after) = sym h.1 ∙ e ∙ ap (λ l. l ++ after) x.1 in
    let body : h.0 ≡ (x.0 ++ codes "*/") ++ after = cc in
    h.2 x.0 after (body ∙ append_assoc x.0 (codes "*/") after)
stuck_comment rest h (Lexeme m f) after e part = part.1 (h.0, sym e ∙ h.1)

stuck_byte : (rest : List ℕ) → HasBadByte rest → IsStuck rest
stuck_byte [] h p after e part = h
stuck_byte (b ∷ bytes) h (Gap f) after e (inl x) =
    let whole : b ∷ bytes ≡ x.0 ∷ after = e ∙ ap (λ l. l ++ after) x.1 in
    let same : b ≡ x.0 = cc in
    both_ways (is_blank b) h.0 (ap is_blank same ∙ x.2)
stuck_byte (b ∷ bytes) h (Gap f) after e (inr x) =
    let whole : b ∷ bytes ≡ 47 ∷ 42 ∷ ((x.0 ++ codes "*/") ++ after) = e ∙ ap (λ l. l ++ after) x.1 in
    let slash : 47 ≡ b = cc in
    h.1 Mark [] [] (subst (λ s. Is Mark (s ∷ []) []) slash refl)
stuck_byte (b ∷ bytes) h (Lexeme m []) after e part = Is-nil m after part.0
stuck_byte (b ∷ bytes) h (Lexeme m (c ∷ f)) after e part =
    let same : c ≡ b = cc in
    h.1 m f after (subst (λ s. Is m (s ∷ f) after) same part.0)

-- ---- a text with a fault

-- the text is parts up to this place, and no part follows
record Stops (text : List ℕ) (p : Place) : Type 0 where
  parts : List Part
  rest : List ℕ
  cut : text ≡ joined parts ++ rest
  are_parts : AreParts parts rest
  stuck : IsStuck rest
  some : rest ≢ []
  at : p ≡ place_after (joined parts)

stops_by : (Has : List ℕ → Type 0) → ((rest : List ℕ) → Has rest → IsStuck rest) → ((rest : List ℕ) → Has rest → rest ≢ []) → (text : List ℕ) (p : Place) → StandsAt p Has text → Stops text p
stops_by Has stuck some text p h = record {
  parts = h.0;
  rest = h.1;
  cut = h.2;
  are_parts = h.3;
  stuck = stuck h.1 h.4;
  some = some h.1 h.4;
  at = h.5;
}

some_byte : (rest : List ℕ) → HasBadByte rest → rest ≢ []
some_byte rest h nil = subst HasBadByte nil h

some_comment : (rest : List ℕ) → HasOpenComment rest → rest ≢ []
some_comment rest h nil = let both : [] ≡ 47 ∷ 42 ∷ h.0 = sym nil ∙ h.1 in cc

some_string : (rest : List ℕ) → HasOpenString rest → rest ≢ []
some_string rest h nil = let both : [] ≡ 39 ∷ h.0 = sym nil ∙ h.1 in cc

stops : (text : List ℕ) (error : LexError) → IsInText error → Refuses error text → (p : Place) × (place error ≡ Some p) × Stops text p
stops text (BadByte p) inside h = (p, refl, stops_by HasBadByte stuck_byte some_byte text p h)
stops text (OpenComment p) inside h = (p, refl, stops_by HasOpenComment stuck_comment some_comment text p h)
stops text (OpenString p) inside h = (p, refl, stops_by HasOpenString stuck_string some_string text p h)
stops text (NumberTooBig p) inside h = (p, refl, stops_by HasBigNumber stuck_number (λ rest x. some_token rest x.0 x.1 (Number (pos (decimal x.0))) x.2 x.3) text p h)
stops text (NameTooLong p) inside h = (p, refl, stops_by HasLongName stuck_name (λ rest x. some_token rest x.0 x.1 Word x.2 x.3) text p h)
stops text TooLong inside h = absurd inside
stops text Memory inside h = absurd inside

pub no_list : (text : List ℕ) (error : LexError) (tokens : List Token) → IsInText error → Refuses error text → ¬ Lexes text tokens
no_list text error tokens inside h lexes =
    let s = (stops text error inside h).2 in
    s.some (one_way s.parts lexes.0 s.rest [] s.are_parts lexes.2 (sym s.cut ∙ lexes.1 ∙ sym (append-nil (joined lexes.0))) s.stuck IsStuck-nil).1

pub one_place : (text : List ℕ) (error other : LexError) → IsInText error → IsInText other → Refuses error text → Refuses other text → place error ≡ place other
one_place text error other inside within h g =
    let x = stops text error inside h in
    let y = stops text other within g in
    let s = x.2 in
    let t = y.2 in
    let same = one_way s.parts t.parts s.rest t.rest s.are_parts t.are_parts (sym s.cut ∙ t.cut) s.stuck t.stuck in
    x.1 ∙ ap Some (s.at ∙ ap (λ l. place_after (joined l)) same.0 ∙ sym t.at) ∙ sym y.1
