-- How Pids and values are written.
use Rattle.std.specs.Prelude.{ℕ, List, [], ◌∷◌, ◌++◌, codes, true, false}
use Rattle.std.specs.List.{flat_map}
use Rattle.std.specs.Fmt.{decimal, signed_decimal}
use Rattle.port_model.specs.declared.values.pid.Pid.{Pid}
use Rattle.port_model.specs.declared.values.pid.Pid.TheVariants.{Null, Env, Of}
use Rattle.port_model.specs.declared.values.value.Value.{Value}
use Rattle.port_model.specs.declared.values.value.Value.TheVariants as sort

-- `null`, `env` or `#7`
abbrev pub pid_text : Pid → List ℕ
pid_text Null = codes "null"
pid_text Env = codes "env"
pid_text (Of number) = codes "#" ++ decimal number

-- a number in decimal, with `-` before a negative one, or `true`, `false` or a Pid's text
abbrev pub value_text : Value → List ℕ
value_text (sort.Int number) = signed_decimal number
value_text (sort.Bool true) = codes "true"
value_text (sort.Bool false) = codes "false"
value_text (sort.Pid pid) = pid_text pid
value_text (sort.Time ticks) = signed_decimal ticks
value_text (sort.Duration ticks) = signed_decimal ticks

-- each value with a comma before it
abbrev pub more_text : List Value → List ℕ
more_text values = flat_map (λ value. codes "," ++ value_text value) values

-- the values in parentheses, with commas between them, or nothing where there are none
abbrev pub values_text : List Value → List ℕ
values_text [] = []
values_text (value ∷ values) = codes "(" ++ value_text value ++ more_text values ++ codes ")"
