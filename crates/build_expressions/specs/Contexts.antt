-- Which operands may stand in an expression, by where it stands.
use Rattle.std.specs.Prelude.{Bool, true, false}
use Rattle.build_expressions.specs.declared.context.Context.{Context}
use Rattle.build_expressions.specs.declared.context.Context.TheVariants.{Transition, Condition, Constant}
use Rattle.sdl_tree.specs.declared.expressions.KeywordValue.{KeywordValue}
use Rattle.sdl_tree.specs.declared.expressions.KeywordValue.TheVariants as keyword

-- what an instance holds: variables, formal parameters, timers and the processes that it knows of
abbrev pub allows_instance : Context → Bool
allows_instance Transition = true
allows_instance Condition = true
allows_instance Constant = false

-- the time of a transition
abbrev pub allows_now : Context → Bool
allows_now Transition = true
allows_now Condition = false
allows_now Constant = false

-- an operand that is one keyword
abbrev pub allows_word : Context → KeywordValue → Bool
allows_word context keyword.True = true
allows_word context keyword.False = true
allows_word context keyword.Null = true
allows_word context keyword.Now = allows_now context
allows_word context keyword.SelfPid = allows_instance context
allows_word context keyword.Parent = allows_instance context
allows_word context keyword.Offspring = allows_instance context
allows_word context keyword.Sender = allows_instance context
