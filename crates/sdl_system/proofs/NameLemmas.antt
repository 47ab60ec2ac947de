-- Names of a table.
use Rattle.std.proofs.Common.{◌≡◌, ℕ, List, [], ◌∷◌, Some, String, cond, map, refl, ap, string_bytes}
use Rattle.std.specs.Map.{lookup}
use Rattle.std.specs.Str.{bytes_eq}

-- a name means what its text does
pub lookup-named : {Y V : Type 0} (entries : List (String Y × V)) (text : List ℕ)
    → lookup (λ own. bytes_eq text (string_bytes own)) entries ≡ lookup (bytes_eq text)
    (map (λ entry. (string_bytes entry.0, entry.1)) entries)
lookup-named [] text = refl
lookup-named (entry ∷ rest) text =
    ap (λ found. cond (bytes_eq text (string_bytes entry.0)) (Some entry.1) found) (lookup-named rest text)
