-- Names with what they stand for in the scopes that declare them, and names that a scope declares twice.
use Rattle.std.specs.Prelude.{◌≡◌, ◌&&◌, ◌++◌, ℕ, Bool, List, [], ◌∷◌, flat_map, map}
use Rattle.std.specs.List.{list_any}
use Rattle.std.specs.Str.{bytes_eq}
use Rattle.build_definitions.specs.declared.symbols.declaration.Declaration.{Declaration}
use Rattle.build_names.specs.Faults.{Diagnostic, fault_if}
use Rattle.build_names.specs.declared.faults.fault.Rule.TheVariants.{Duplicate}
use Rattle.build_expressions.specs.Scope.{meaning}
use Rattle.build_names.specs.Spaces.{entry_if, is_same_scope, names_of}
use Rattle.build_names.specs.declared.scopes.scope.ScopeId.{ScopeId}
use Rattle.build_names.specs.declared.scopes.spaces.Spaces.{Spaces}
use Rattle.sdl_tree.specs.Views.{name_value}
use Rattle.sdl_tree.specs.Words.{Spot}

-- a name that a scope declares, with what it stands for
pub record Entry (T : Type 0) : Type 0 where
  pub scope : ScopeId
  pub name : Spot
  pub what : T

-- the names of a scope, in the order of the entries
abbrev pub entry_in : {T : Type 0} → ScopeId → Entry T → List (List ℕ × T)
entry_in place entry = entry_if (is_same_scope entry.scope place) entry.name.text entry.what

abbrev pub entries_in : {T : Type 0} → ScopeId → List (Entry T) → List (List ℕ × T)
entries_in place entries = flat_map (entry_in place) entries

-- each scope has just the names that these entries give it
abbrev pub Has : {T : Type 0} → Spaces T → List (Entry T) → Type 0
Has spaces entries = (place : ScopeId) → names_of spaces place ≡ entries_in place entries

-- so, with what this makes of what the names stand for
abbrev pub HasMeant : {A B : Type 0} → (A → B) → Spaces A → List (Entry B) → Type 0
HasMeant meant spaces entries = (place : ScopeId) → meaning meant (names_of spaces place) ≡ entries_in place entries

-- ---- names that a scope declares twice

-- a name that a scope declares
pub record Standing : Type 0 where
  pub scope : ScopeId
  pub name : Spot

abbrev pub standing : {T : Type 0} → Entry T → Standing
standing entry = record { scope = entry.scope; name = entry.name }

abbrev pub standings : {T : Type 0} → List (Entry T) → List Standing
standings entries = map standing entries

-- whether the other stands in the same scope and is spelled the same
abbrev pub is_same_name : Standing → Standing → Bool
is_same_name name other = is_same_scope other.scope name.scope && bytes_eq name.name.text other.name.text

-- Duplicate at each name that stands in its scope already, with the names that stand before
abbrev pub duplicates_behind : List Standing → List Standing → List Diagnostic
duplicates_behind before [] = []
duplicates_behind before (name ∷ names) =
    fault_if (list_any (is_same_name name) before) Duplicate name.name
    ++ duplicates_behind (before ++ name ∷ []) names

abbrev pub duplicates : List Standing → List Diagnostic
duplicates names = duplicates_behind [] names

-- ---- what the code keeps

abbrev pub entry_seen : {A B : Type 0} → (A → B) → Declaration A → Entry B
entry_seen meant declaration =
    record { scope = declaration.scope; name = name_value declaration.name.now; what = meant declaration.what }

abbrev pub entry_of : {T : Type 0} → Declaration T → Entry T
entry_of declaration =
    record { scope = declaration.scope; name = name_value declaration.name.now; what = declaration.what }

abbrev pub entries_of : {T : Type 0} → List (Declaration T) → List (Entry T)
entries_of declarations = map entry_of declarations
