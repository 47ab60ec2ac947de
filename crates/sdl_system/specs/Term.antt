-- An expression as plain data (Z.104: expressions), with its names and sorts resolved.
use Rattle.std.specs.Prelude.{List, [], ◌∷◌}
use Rattle.port_model.specs.declared.values.item.SignalId.{SignalId}
use Rattle.port_model.specs.declared.values.value.Value.{Value}
use Rattle.sdl_system.specs.declared.expression.Chain.{Chain}
use Rattle.sdl_system.specs.declared.expression.Expression.{Expression}
use Rattle.sdl_system.specs.declared.expression.Expression.TheOpen.{Expression-F, Chain-F, Link-F}
use Rattle.sdl_system.specs.declared.expression.Expression.TheFolds.{fold-Expression, fold-Chain, fold-Link}
use Rattle.sdl_system.specs.declared.expression.Link.{Link}
use Rattle.sdl_system.specs.declared.expression.PidExpression.{PidExpression}
use Rattle.sdl_system.specs.declared.id.VariableId.{VariableId}
use Rattle.sdl_system.specs.declared.operation.Operation.{Operation}
use Rattle.sdl_system.specs.declared.operation.UnaryOperation.{UnaryOperation}

mutual
  pub data Term : Type 0 where
    constant : (value : Value) → Term
    variable : (number : VariableId) → Term
    now : Term
    pid : (who : PidExpression) → Term
    -- whether the timer is active that was set with these values
    active : (timer : SignalId) (values : Terms) → Term
    unary : (operation : UnaryOperation) (operand : Term) → Term
    binary : (operation : Operation) (left right : Term) → Term

  pub data Terms : Type 0 where
    no_term : Terms
    and_term : (first : Term) (rest : Terms) → Terms

abbrev pub terms_of : List Term → Terms
terms_of [] = no_term
terms_of (t ∷ ts) = and_term t (terms_of ts)

-- an operation with the operand behind it
pub record Operand : Type 0 where
  pub operation : Operation
  pub term : Term

-- operations of one level group to the left
abbrev pub chained : Term → List Operand → Term
chained left [] = left
chained left (right ∷ rest) = chained (binary right.operation left right.term) rest

-- the term of an expression, by recursion on its tree
abbrev pub expression_step : Expression-F Term Term Operand → Term
expression_step (Expression-F.Value value) = constant value
expression_step (Expression-F.Variable number) = variable number
expression_step Expression-F.Now = now
expression_step (Expression-F.Pid who) = pid who
expression_step (Expression-F.Active timer values) = active timer (terms_of values.items)
expression_step (Expression-F.Unary operation operand) = unary operation operand.value
expression_step (Expression-F.Chain chain) = chain.value

abbrev pub chain_step : Chain-F Term Term Operand → Term
chain_step chain = chained chain.first chain.rest.items

abbrev pub link_step : Link-F Term Term Operand → Operand
link_step link = record { operation = link.operation; term = link.operand }

abbrev pub term_of : Expression → Term
term_of expression = fold-Expression Term Term Operand expression_step chain_step link_step expression

abbrev pub term_of_chain : Chain → Term
term_of_chain chain = fold-Chain Term Term Operand expression_step chain_step link_step chain

abbrev pub operand_of : Link → Operand
operand_of link = fold-Link Term Term Operand expression_step chain_step link_step link
