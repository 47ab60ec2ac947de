-- How synonyms are read: a device of the proofs, which say that it reads what the grammar spells and nothing else.
use Rattle.std.specs.Prelude.{ℕ, List}
use Rattle.sdl_tree.specs.declared.mark.Mark.TheVariants as mark
use Rattle.sdl_tree.specs.declared.name.Spelling.{Spelling}
use Rattle.sdl_tree.specs.Tree.{Expr, SynonymDefinition, SynonymDefinitions}
use Rattle.sdl_tree.specs.Words.{Spot}
use Rattle.parse_expressions.specs.Expressions.{expr}
use Rattle.parse_expressions.specs.Parts.{ended}
use Rattle.parse_expressions.specs.Reading.{Parser, ◌⊗◌, behind, made, expect, name, separated}

abbrev pub synonym_with : Spot × (Spot × Expr) → SynonymDefinition
synonym_with p = record { name = p.0; sort = p.1.0; value = p.1.1 }

-- NAME NAME "=" expr
unfoldable pub synonym_name : ℕ → Parser SynonymDefinition
synonym_name depth = made synonym_with (name ⊗ (name ⊗ behind mark.Equal (expr depth)))

abbrev pub synonyms_with : Spelling × List SynonymDefinition → SynonymDefinitions
synonyms_with p = record { word = p.0; synonyms = p.1 }

-- synonym = "synonym" NAME NAME "=" expr {"," NAME NAME "=" expr} end
unfoldable pub synonym : ℕ → Parser SynonymDefinitions
synonym depth = made synonyms_with (expect mark.Synonym ⊗ ended (separated (synonym_name depth)))
