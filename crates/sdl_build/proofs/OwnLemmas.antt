-- Names with what they stand for first.
use Rattle.std.proofs.Common.{◌≡◌, ◌∙◌, ℕ, Bool, true, false, List, [], ◌∷◌, Option, None, Some, String, ap, bytes_eq, cond, is_some, refl, string_bytes, string_eq, sym, true≢false}
use Rattle.std.specs.Option.{option_or}
use Rattle.std.proofs.lemmas.Cmp.{nat_list_eq_equiv}
use Rattle.std.proofs.lemmas.Map.Text.{hash_map_updates_text}
use Rattle.std.proofs.lemmas.Slice.Eq.{bytes_eq-Decides}
use Rattle.indexmap.specs.IndexMap.{IndexMap, Updates, get_by_text}
use Rattle.build_names.specs.Names.{first_of}
use Rattle.sdl_system.proofs.NameLemmas.{lookup-named}
use Rattle.sdl_system.specs.System.{meaning_of, named}

new-or-old : {T : Type 0} (same : Bool) (what : T) (old : Option T) → (same ≡ true → old ≡ None) →
    cond same (Some what) old ≡ option_or old (cond same (Some what) None)
new-or-old true what old new = ap (λ found. option_or found (Some what)) (sym (new refl))
new-or-old false what None new = refl
new-or-old false what (Some x) new = refl

not-some : {T : Type 0} (found : Option T) → is_some found ≡ false → found ≡ None
not-some None is = refl
not-some (Some x) is = absurd (true≢false is)

-- a name that is new, behind those that are there
pub inserted : {Y S T : Type 0} (old new : IndexMap (String Y) T S) (name : String Y) (text : List ℕ) (what : T) →
    string_bytes name ≡ text → Updates string_eq old new name (Some what) →
    is_some (get_by_text old text) ≡ false → (other : List ℕ) →
    meaning_of (named new) other ≡ option_or (meaning_of (named old) other) (first_of ((text, what) ∷ []) other)
inserted old new name text what spelled updates fresh other =
    sym (lookup-named new.entries other)
    ∙ hash_map_updates_text (string_bytes name) old new (Some what) updates other
    ∙ ap (λ bytes. cond (bytes_eq bytes other) (Some what) (get_by_text old other)) spelled
    ∙ ap (λ same. cond same (Some what) (get_by_text old other)) (nat_list_eq_equiv.symm text other)
    ∙ new-or-old (bytes_eq other text) what (get_by_text old other)
    (λ same. ap (get_by_text old) ((bytes_eq-Decides other text).0 same) ∙ not-some (get_by_text old text) fresh)
    ∙ ap (λ found. option_or found (first_of ((text, what) ∷ []) other)) (lookup-named old.entries other)

known : {T : Type 0} (same : Bool) (what : T) (found : Option T) → (same ≡ true → is_some found ≡ true) →
    found ≡ option_or found (cond same (Some what) None)
known same what (Some x) is = refl
known true what None is = absurd (true≢false (sym (is refl)))
known false what None is = refl

-- a name that is there already
pub kept : {Y S T : Type 0} (old : IndexMap (String Y) T S) (text : List ℕ) (what : T) →
    is_some (get_by_text old text) ≡ true → (other : List ℕ) →
    meaning_of (named old) other ≡ option_or (meaning_of (named old) other) (first_of ((text, what) ∷ []) other)
kept old text what there other =
    known (bytes_eq other text) what (meaning_of (named old) other)
    (λ same. ap is_some (sym (lookup-named old.entries other)
    ∙ ap (get_by_text old) ((bytes_eq-Decides other text).0 same)) ∙ there)
