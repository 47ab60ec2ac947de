-- What holds of synonyms and of what they come to.
use Rattle.std.specs.Prelude.{◌≡◌, ℕ, false, List, Some, flat_map}
use Rattle.build_names.specs.FaultLaws.{Each, In}
use Rattle.build_names.specs.Faults.{Diagnostic, diagnostic_at}
use Rattle.build_names.specs.declared.faults.fault.Rule.TheVariants.{BadCount}
use Rattle.build_expressions.specs.Broken.{TakesKind, Within}
use Rattle.build_expressions.specs.Scope.{Scope, signal_in, value_in, visible}
use Rattle.build_expressions.specs.Typing.{Typed, typed_in}
use Rattle.build_expressions.specs.Words.{first_word}
use Rattle.build_expressions.specs.declared.context.Context.{Context}
use Rattle.build_expressions.specs.declared.context.Context.TheVariants as context
use Rattle.build_expressions.specs.declared.scope.Constant.{Constant}
use Rattle.build_expressions.specs.declared.scope.ValueEntry.{ValueEntry}
use Rattle.build_constants.specs.SynonymsBroken.{IsBrokenSynonym, LeadsTo, Names}
use Rattle.build_constants.specs.Named.{named_in}
use Rattle.build_constants.specs.SettledSynonyms.{AreConstants, Settles, constant_of, scope_with, synonym_faults}
use Rattle.build_constants.specs.declared.synonyms.synonym.Synonym.{Synonym}
use Rattle.sdl_tree.specs.Tree.{Expr, Named}
use Rattle.sdl_tree.specs.Views.{expr_value}
use Rattle.sdl_tree.specs.Words.{Spot}

-- The kind and the term of an expression rest on what signals and the names within it stand for, and on nothing else of
-- the scope.
abbrev pub TypedByNames : Type 0
TypedByNames = (context : Context) (one other : Scope) (whole : Expr) →
    ((text : List ℕ) → signal_in one text ≡ signal_in other text) →
    ((name : Spot) → Within (Named name) whole → value_in one name.text ≡ value_in other name.text) →
    typed_in context one whole ≡ typed_in context other whole

-- All tables of what the synonyms come to agree on each that settles, and have no value for the others.
abbrev pub SettledOnce : Type 0
SettledOnce = (synonyms : List Synonym) (one other : List Constant) → AreConstants synonyms one →
    AreConstants synonyms other →
    (number : ℕ) → Settles synonyms number → constant_of one number ≡ constant_of other number

-- The list of synonyms that an expression names has those that a name within it stands for.
abbrev pub ListedNamed : Type 0
ListedNamed = (values : List (List ℕ × ValueEntry)) (whole : Expr) (number : ℕ) → In number (named_in values whole) →
    Names values whole number

abbrev pub NamedListed : Type 0
NamedListed = (values : List (List ℕ × ValueEntry)) (whole : Expr) (number : ℕ) → Names values whole number →
    In number (named_in values whole)

-- What is defined by itself, directly or by others, doesn't settle, nor does what leads to it.
abbrev pub CircleUnsettled : Type 0
CircleUnsettled = (synonyms : List Synonym) (circle number : ℕ) → LeadsTo synonyms circle number →
    LeadsTo synonyms circle circle → Settles synonyms number → ⊥

-- Each fault of the list is broken in a definition, and each that is broken is in the list.
abbrev pub ListedBroken : Type 0
ListedBroken = (synonyms : List Synonym) (table : List Constant) →
    Each (IsBrokenSynonym synonyms table) (flat_map (synonym_faults table) synonyms)

abbrev pub BrokenListed : Type 0
BrokenListed = (synonyms : List Synonym) (table : List Constant) (fault : Diagnostic) →
    IsBrokenSynonym synonyms table fault → In fault (flat_map (synonym_faults table) synonyms)

-- One that names a synonym that doesn't settle is BadCount at its first word, unless it breaks another rule or rests on
-- a refused synonym.
abbrev pub UnvaluedNoted : Type 0
UnvaluedNoted = (synonyms : List Synonym) (table : List Constant) → AreConstants synonyms table →
    (synonym : Synonym) (named : ℕ) → Names (visible synonym.values) (expr_value synonym.expression.now) named →
    (Settles synonyms named → ⊥) → (typed : Typed) →
    typed_in context.Constant (scope_with table synonym) (expr_value synonym.expression.now) ≡ Some typed →
    TakesKind synonym.sort typed.kind → typed.is_refused ≡ false →
    In (diagnostic_at BadCount (first_word (expr_value synonym.expression.now))) (synonym_faults table synonym)
