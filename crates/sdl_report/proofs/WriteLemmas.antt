-- What has gone out of a text.
use Rattle.std.proofs.Common.{◌≡◌, ℕ, false, ◌<◌, nat_eq, List, [], ◌∷◌, ◌++◌, length, take, drop, Option, None, Some, refl, sym, ap, ◌∙◌, subst, append_assoc, append-nil, length-append, take-append-drop, arith}
use Rattle.std.proofs.lemmas.Bool.{false≢true}
use Rattle.std.proofs.lemmas.List.{take_at}
use Rattle.std.specs.Io.KnownBytes.{Appends, Keeps}
use Rattle.std.proofs.KnownBytes.{Appends-nil, Appends-trans}
use Rattle.sdl_report.specs.Gathered.{BreaksOff}

-- the writer has taken the text up to the rest
pub record SentUpTo (held held' : Option (List ℕ)) (text rest : List ℕ) : Type 0 where
  pub sent : List ℕ
  pub joined : text ≡ sent ++ rest
  pub out : Appends held held' sent

pub sent_none : (held : Option (List ℕ)) (text : List ℕ) → SentUpTo held held text text
sent_none held text = record { sent = []; joined = refl; out = Appends-nil held }

pub sent_more : (a b c : Option (List ℕ)) (text rest : List ℕ) (n : ℕ) → SentUpTo a b text rest → Appends b c (take n rest)
    → SentUpTo a c text (drop n rest)
sent_more a b c text rest n s more = record {
  sent = s.sent ++ take n rest;
  joined = s.joined ∙ ap (λ l. s.sent ++ l) (sym (take-append-drop n rest)) ∙ sym (append_assoc s.sent (take n rest) (drop n rest));
  out = Appends-trans a b c s.sent (take n rest) s.out more;
}

Appends-kept : (a b c : Option (List ℕ)) (bytes : List ℕ) → Appends a b bytes → Keeps b c → Appends a c bytes
Appends-kept None b c bytes out same = tt
Appends-kept (Some x) None c bytes out same = absurd out
Appends-kept (Some x) (Some y) None bytes out same = absurd same
Appends-kept (Some x) (Some y) (Some z) bytes out same = same ∙ out

pub sent_kept : (a b c : Option (List ℕ)) (text rest : List ℕ) → SentUpTo a b text rest → Keeps b c → SentUpTo a c text rest
sent_kept a b c text rest s same = record { sent = s.sent; joined = s.joined; out = Appends-kept a b c s.sent s.out same }

pub sent_all : (a b : Option (List ℕ)) (text rest : List ℕ) → SentUpTo a b text rest → rest ≡ [] → Appends a b text
sent_all a b text rest s nil =
    subst (Appends a b) (sym (s.joined ∙ ap (λ l. s.sent ++ l) nil ∙ append-nil s.sent)) s.out

-- what isn't empty has a length
pub some_left : (rest : List ℕ) → false ≡ nat_eq (length rest) 0 → 0 < length rest
some_left [] e = absurd (false≢true e)
some_left (x ∷ rest) e = omega arith

-- where a rest is left, not all is out
pub sent_part : (a b : Option (List ℕ)) (text rest : List ℕ) → SentUpTo a b text rest → 0 < length rest
    → BreaksOff a b text
sent_part a b text rest s some = (
  length s.sent,
  let all = ap length s.joined in omega (arith, some, length-append s.sent rest),
  subst (Appends a b) (sym (ap (take (length s.sent)) s.joined ∙ take_at s.sent rest (length s.sent) refl)) s.out,
)
