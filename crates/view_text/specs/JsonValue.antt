-- Keys and values of JSON (RFC 8259).
use Rattle.std.specs.Prelude.{ℕ, ◌+◌, ◌∷◌, ◌++◌, Bool, true, false, List, [], Option, None, Some, codes}
use Rattle.std.specs.List.{flat_map}
use Rattle.std.specs.Fmt.{decimal, signed_decimal}
use Rattle.port_model.specs.declared.values.pid.Pid as pid
use Rattle.port_model.specs.declared.values.pid.Pid.TheVariants as who
use Rattle.port_model.specs.declared.values.value.Value.{Value}
use Rattle.port_model.specs.declared.values.value.Value.TheVariants as sort
use Rattle.sdl_system.specs.declared.route.Target as target
use Rattle.sdl_system.specs.declared.route.Target.TheVariants as reached
use Rattle.view_text.specs.Fate.{fate_word}
use Rattle.view_text.specs.declared.fate.Fate.{Fate}
use Rattle.view_timeline.specs.declared.moves.Link.{Link}
use Rattle.view_timeline.specs.declared.moves.Link.TheVariants as is

-- A text in quotes. None needs an escape: it is a word, a name of SDL (letters, digits and underscores), or `#` and a
-- number.
abbrev pub quoted : List ℕ → List ℕ
quoted text = codes "\"" ++ text ++ codes "\""

-- `,"name":`
abbrev pub key : List ℕ → List ℕ
key name = codes "," ++ quoted name ++ codes ":"

-- `{"name":`, with more after it
abbrev pub object : List ℕ → List ℕ → List ℕ
object name rest = codes "{" ++ quoted name ++ codes ":" ++ rest ++ codes "}"

-- `"#7"`
abbrev pub number_json : ℕ → List ℕ
number_json number = quoted (codes "#" ++ decimal number)

abbrev pub pid_json : pid.Pid → List ℕ
pid_json who.Null = codes "null"
pid_json who.Env = quoted (codes "env")
pid_json (who.Of number) = number_json number

abbrev pub target_json : target.Target → List ℕ
target_json (reached.Instance number) = number_json number
target_json reached.Env = quoted (codes "env")
target_json reached.Null = codes "null"
target_json reached.Nobody = quoted (codes "nobody")

abbrev pub truth_json : Bool → List ℕ
truth_json true = codes "true"
truth_json false = codes "false"

-- numbers and truth values as those of JSON
abbrev pub value_json : Value → List ℕ
value_json (sort.Int number) = signed_decimal number
value_json (sort.Bool truth) = truth_json truth
value_json (sort.Pid pid) = pid_json pid
value_json (sort.Time ticks) = signed_decimal ticks
value_json (sort.Duration ticks) = signed_decimal ticks

-- each value with a comma before it
abbrev pub more_json : List Value → List ℕ
more_json values = flat_map (λ value. codes "," ++ value_json value) values

abbrev pub values_json : List Value → List ℕ
values_json [] = codes "[]"
values_json (value ∷ values) = codes "[" ++ value_json value ++ more_json values ++ codes "]"

-- the number of an arrow, from 1
abbrev pub arrow_json : Link → List ℕ
arrow_json is.Plain = []
arrow_json (is.Arrow arrow) = key (codes "arrow") ++ decimal (arrow.0 + 1)
arrow_json is.Gone = []
arrow_json is.Waits = []

-- what became of what was sent, if nobody took it
abbrev pub fate_json : Option Fate → List ℕ
fate_json None = []
fate_json (Some fate) = key (fate_word fate) ++ codes "true"
