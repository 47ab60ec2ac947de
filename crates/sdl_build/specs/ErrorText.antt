-- The line of a refusal, `build L:C Name token` with the token at fault as the text has it, without its end.
use Rattle.std.specs.Prelude.{ℕ, List, ◌++◌, codes}
use Rattle.std.specs.String.{string_bytes}
use Rattle.sdl_build.specs.declared.error.BuildError.{BuildError}
use Rattle.sdl_build.specs.declared.error.BuildError.TheVariants as error
use Rattle.sdl_lex.specs.Place.{place_text}
use Rattle.build_names.specs.declared.faults.fault.Rule.{Rule}
use Rattle.build_names.specs.declared.faults.fault.Rule.TheVariants.{Unknown, Duplicate, Sort, TwiceInState, NoState, NoLabel, NoRoute, BadCount, NoEnd, Limit}

-- the name of the rule that is broken
abbrev pub rule_text : Rule → List ℕ
rule_text Unknown = codes "Unknown"
rule_text Duplicate = codes "Duplicate"
rule_text Sort = codes "Sort"
rule_text TwiceInState = codes "TwiceInState"
rule_text NoState = codes "NoState"
rule_text NoLabel = codes "NoLabel"
rule_text NoRoute = codes "NoRoute"
rule_text BadCount = codes "BadCount"
rule_text NoEnd = codes "NoEnd"
rule_text Limit = codes "Limit"

abbrev pub build_text : BuildError → List ℕ
build_text (error.Broken rule word) =
    codes "build " ++ place_text word.place ++ codes " " ++ rule_text rule ++ codes " " ++ string_bytes word.text
build_text error.Memory = codes "build Memory"
