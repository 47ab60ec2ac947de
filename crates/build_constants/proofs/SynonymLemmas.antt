-- The synonyms that are made of the rows of a specification.
use Rattle.std.proofs.Common.{◌≡◌, ◌∙◌, ◌+◌, ◌<◌, ◌++◌, ℕ, List, [], ◌∷◌, Option, Result, Ok, Err, IfOk, flat_map, get_or, length, map, take, refl, ap, subst, sym}
use Rattle.std.specs.Global.{Vec}
use Rattle.std.specs.List.{AllZip}
use Rattle.std.proofs.lemmas.List.{map-append, take_more}
use Rattle.std.proofs.lemmas.Slice.Zip.{all_zipped_more}
use Rattle.build_definitions.specs.Rows.{SynonymRow}
use Rattle.build_definitions.specs.Definitions.{Rows}
use Rattle.build_definitions.specs.declared.symbols.symbol_table.SymbolTable.{SymbolTable}
use Rattle.build_names.specs.Faults.{Diagnostic, least_of}
use Rattle.build_expressions.specs.declared.scope.Constant.{Constant}
use Rattle.build_constants.specs.SettledSynonyms.{synonym_faults}
use Rattle.build_constants.specs.declared.synonyms.synonym.Synonym.{Synonym}
use Rattle.build_constants.specs.Synonyms.{AreSynonyms, IsSynonym, faults_in_row}

taken-more : {A B : Type 0} (view : A → B) (xs : List A) (i : ℕ) (x : A) → i < length xs → x ≡ get_or xs i x
    → map view (take (i + 1) xs) ≡ map view (take i xs) ++ view x ∷ []
taken-more view xs i x below is =
    ap (map view) (take_more xs i x below ∙ ap (λ y. take i xs ++ y ∷ []) (sym is))
    ∙ map-append view (take i xs) (x ∷ [])

-- one more of what is made of a list
pub made-more :
    {A B C : Type 0} (Made : B → C → Type 0) (view : A → B) (items xs : List A) → items ≡ xs → (i : ℕ) (x : A)
    → i < length items → x ≡ get_or items i x → (ys : List C) (y : C) → AllZip Made (map view (take i xs)) ys
    → Made (view x) y → AllZip Made (map view (take (i + 1) xs)) (ys ++ y ∷ [])
made-more Made view items xs same i x below is ys y before one =
    subst (λ zs. AllZip Made (map view (take (i + 1) zs)) (ys ++ y ∷ [])) same
    (rw (taken-more view items i x below is)
    (all_zipped_more Made _ ys (view x) y (subst (λ zs. AllZip Made (map view (take i zs)) ys) (sym same) before) one))

faults-in :
    (rows : Rows) (symbols : SymbolTable) (constants : List Constant) (row : SynonymRow) (synonym : Synonym)
    → IsSynonym symbols rows.processes row synonym
    → synonym_faults constants synonym ≡ faults_in_row rows symbols constants row
faults-in rows symbols constants row synonym is =
    rw (is.values, is.signals, is.agents, is.sort, is.expression) refl

-- their faults are those of the rows
pub faults-of :
    (rows : Rows) (symbols : SymbolTable) (constants : List Constant) (list : List SynonymRow) (synonyms : List Synonym)
    → AllZip (IsSynonym symbols rows.processes) list synonyms
    → flat_map (synonym_faults constants) synonyms ≡ flat_map (faults_in_row rows symbols constants) list
faults-of rows symbols constants [] [] all = refl
faults-of rows symbols constants [] (synonym ∷ synonyms) all = absurd all
faults-of rows symbols constants (row ∷ list) [] all = absurd all
faults-of rows symbols constants (row ∷ list) (synonym ∷ synonyms) all =
    rw (faults-in rows symbols constants row synonym all.0, faults-of rows symbols constants list synonyms all.1) refl

-- what is noted of them is what is noted of the rows
pub noted-of :
    {E : Type 0} (rows : Rows) (symbols : SymbolTable) (synonyms items : List Synonym) (old new : Option Diagnostic)
    (result : Result (Vec Constant) E) → items ≡ synonyms → AreSynonyms rows symbols synonyms
    → IfOk result (λ constants. new ≡ least_of old (flat_map (synonym_faults constants.items) items))
    → IfOk result (λ constants. new
    ≡ least_of old (flat_map (faults_in_row rows symbols constants.items) rows.synonyms))
noted-of rows symbols synonyms items old new (Ok constants) same are noted =
    noted ∙ ap (λ list. least_of old (flat_map (synonym_faults constants.items) list)) same
    ∙ ap (least_of old) (faults-of rows symbols constants.items rows.synonyms synonyms are)
noted-of rows symbols synonyms items old new (Err error) same are noted = noted
