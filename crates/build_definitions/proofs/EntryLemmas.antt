-- Names that are declared one after the other.
use Rattle.std.proofs.Common.{◌≡◌, ◌∙◌, ◌++◌, ◌&&◌, ◌||◌, ℕ, Bool, true, false, List, [], ◌∷◌, Option, Some, cond, is_some, map, refl, ap, sym}
use Rattle.std.specs.List.{list_any}
use Rattle.std.specs.Str.{bytes_eq}
use Rattle.std.proofs.lemmas.Grind.{flat_map-append}
use Rattle.std.proofs.lemmas.List.{append-nil, append_assoc, map-append}
use Rattle.build_definitions.specs.Entries.{Entry, Standing, duplicates_behind, entries_in, entries_of, entry_in, entry_of, entry_seen, is_same_name, standing, standings}
use Rattle.build_definitions.specs.declared.symbols.declaration.Declaration.{Declaration}
use Rattle.build_names.proofs.FaultLemmas.{both_noted}
use Rattle.build_names.specs.Faults.{Diagnostic, fault_if, least_of}
use Rattle.build_names.specs.Names.{first_of}
use Rattle.build_names.specs.declared.faults.fault.Rule.TheVariants.{Duplicate}
use Rattle.build_expressions.specs.Scope.{meaning}
use Rattle.build_names.specs.Spaces.{entry_if, is_same_scope}
use Rattle.build_names.specs.declared.scopes.scope.ScopeId.{ScopeId}

-- ---- what is noted

-- one part of the checks, and then another
pub noted-then : (old mid new : Option Diagnostic) (xs ys : List Diagnostic) → mid ≡ least_of old xs →
    new ≡ least_of mid ys →
    new ≡ least_of old (xs ++ ys)
noted-then old mid new xs ys first second = second ∙ ap (λ m. least_of m ys) first ∙ both_noted old xs ys

-- and then two others
pub noted-both : (old mid new : Option Diagnostic) (xs ys zs : List Diagnostic) → mid ≡ least_of old xs →
    new ≡ least_of mid (ys ++ zs) → new ≡ least_of old (xs ++ ys ++ zs)
noted-both old mid new xs ys zs first second =
    noted-then old mid new xs (ys ++ zs) first second ∙ ap (λ faults. least_of old faults) (sym (append_assoc xs ys zs))

-- ---- the names of a scope

found-known : {T : Type 0} (is : Bool) (what : T) (found : Option T) (any : Bool) → is_some found ≡ any →
    is_some (cond is (Some what) found) ≡ (is || any)
found-known true what found any h = refl
found-known false what found any h = h

either-known : {T : Type 0} (same : Bool) (text name : List ℕ) (what : T) (rest : List (List ℕ × T)) (any : Bool) →
    is_some (first_of rest text) ≡ any →
    is_some (first_of (entry_if same name what ++ rest) text) ≡ ((same && bytes_eq text name) || any)
either-known true text name what rest any h = found-known (bytes_eq text name) what (first_of rest text) any h
either-known false text name what rest any h = h

-- a scope has the name where it stands among those before
known-stands : {T : Type 0} (name : Standing) (entries : List (Entry T)) →
    is_some (first_of (entries_in name.scope entries) name.name.text)
    ≡ list_any (is_same_name name) (standings entries)
known-stands name [] = refl
known-stands name (entry ∷ entries) =
    either-known (is_same_scope entry.scope name.scope) name.name.text entry.name.text entry.what
    (entries_in name.scope entries) (list_any (is_same_name name) (standings entries)) (known-stands name entries)

-- one more name
pub entries_in-more : {T : Type 0} (place : ScopeId) (entries : List (Entry T)) (entry : Entry T) →
    entries_in place (entries ++ entry ∷ []) ≡ entries_in place entries ++ entry_in place entry
entries_in-more place entries entry =
    flat_map-append (entry_in place) entries (entry ∷ [])
    ∙ ap (λ names. entries_in place entries ++ names) (append-nil (entry_in place entry))

pub noted-more : {T : Type 0} (old new : Option Diagnostic) (before : List (Entry T)) (entry : Entry T)
    (after : List Standing) (names : List (List ℕ × T)) → names ≡ entries_in entry.scope before →
    new ≡ least_of old (fault_if (is_some (first_of names entry.name.text)) Duplicate entry.name) →
    least_of new (duplicates_behind (standings (before ++ entry ∷ [])) after)
    ≡ least_of old (duplicates_behind (standings before) (standing entry ∷ after))
noted-more old new before entry after names has noted =
    let known = list_any (is_same_name (standing entry)) (standings before) in
    let rest = duplicates_behind (standings before ++ standing entry ∷ []) after in
    ap (λ names. least_of new (duplicates_behind names after)) (map-append standing before (entry ∷ []))
    ∙ ap (λ m. least_of m rest)
    (noted
    ∙ ap (λ names. least_of old (fault_if (is_some (first_of names entry.name.text)) Duplicate entry.name)) has
    ∙ ap (λ is. least_of old (fault_if is Duplicate entry.name)) (known-stands (standing entry) before))
    ∙ both_noted old (fault_if known Duplicate entry.name) rest

-- ---- what names stand for

meant-one : {A B : Type 0} (meant : A → B) (same : Bool) (name : List ℕ) (what : A) (rest : List (List ℕ × A))
    (more : List (List ℕ × B)) → meaning meant rest ≡ more →
    meaning meant (entry_if same name what ++ rest) ≡ entry_if same name (meant what) ++ more
meant-one meant true name what rest more h = ap (λ names. (name, meant what) ∷ names) h
meant-one meant false name what rest more h = h

pub entries_in-meant : {A B : Type 0} (meant : A → B) (place : ScopeId) (declarations : List (Declaration A)) →
    meaning meant (entries_in place (entries_of declarations))
    ≡ entries_in place (map (entry_seen meant) declarations)
entries_in-meant meant place [] = refl
entries_in-meant meant place (d ∷ declarations) =
    meant-one meant (is_same_scope d.scope place) (entry_of d).name.text d.what
    (entries_in place (entries_of declarations)) (entries_in place (map (entry_seen meant) declarations))
    (entries_in-meant meant place declarations)

pub standings-meant : {A B : Type 0} (meant : A → B) (declarations : List (Declaration A)) →
    standings (entries_of declarations) ≡ standings (map (entry_seen meant) declarations)
standings-meant meant [] = refl
standings-meant meant (d ∷ declarations) =
    ap (λ names. standing (entry_of d) ∷ names) (standings-meant meant declarations)
