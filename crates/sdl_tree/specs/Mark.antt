-- What the grammar fixes: keywords, literals and marks of other characters.
use Rattle.std.specs.Prelude.{ℕ, List, [], ◌∷◌, map, codes}
use Rattle.std.specs.Char.{to_ascii_uppercase}
use Rattle.sdl_tree.specs.declared.mark.Case.{Case}
use Rattle.sdl_tree.specs.declared.mark.Case.TheVariants.{Lower, Upper, Capital}
use Rattle.sdl_tree.specs.declared.mark.Mark.{Mark}
use Rattle.sdl_tree.specs.declared.mark.Mark.TheVariants.{Active, And, Block, Channel, Comment, Connect, Connection, Create, Dcl, Decision, Else, EndBlock, EndChannel, EndConnection, EndDecision, EndProcess, EndState, EndSystem, Env, Fpar, From, Input, Join, Mod, NextState, NoDelay, Not, Now, Offspring, Or, Output, Parent, Priority, Process, Provided, Rem, Reset, Save, SelfPid, Sender, Set, Signal, SignalList, SignalSet, Start, State, Stop, Synonym, System, Task, Timer, To, With, Xor, True, False, Null, Assign, NotEqual, LessOrEqual, GreaterOrEqual, Implies, Open, Close, Comma, Semicolon, Colon, Equal, Less, Greater, Plus, Minus, Asterisk, Slash}

abbrev pub keywords : List Mark
keywords =
    Active ∷ And ∷ Block ∷ Channel ∷ Comment ∷ Connect ∷ Connection ∷ Create ∷ Dcl ∷ Decision ∷ Else ∷
    EndBlock ∷ EndChannel ∷ EndConnection ∷ EndDecision ∷ EndProcess ∷ EndState ∷ EndSystem ∷ Env ∷ Fpar ∷
    From ∷ Input ∷ Join ∷ Mod ∷ NextState ∷ NoDelay ∷ Not ∷ Now ∷ Offspring ∷ Or ∷ Output ∷ Parent ∷ Priority ∷
    Process ∷ Provided ∷ Rem ∷ Reset ∷ Save ∷ SelfPid ∷ Sender ∷ Set ∷ Signal ∷ SignalList ∷ SignalSet ∷
    Start ∷ State ∷ Stop ∷ Synonym ∷ System ∷ Task ∷ Timer ∷ To ∷ With ∷ Xor ∷ []

abbrev pub literals : List Mark
literals = True ∷ False ∷ Null ∷ []

-- the marks of other characters, of which the longest come first
abbrev pub signs : List Mark
signs =
    Assign ∷ NotEqual ∷ LessOrEqual ∷ GreaterOrEqual ∷ Implies ∷ Open ∷ Close ∷ Comma ∷ Semicolon ∷ Colon ∷
    Equal ∷ Less ∷ Greater ∷ Plus ∷ Minus ∷ Asterisk ∷ Slash ∷ []

-- the mark as it is written, a word in lower case
abbrev pub text : Mark → List ℕ
text Active = codes "active"
text And = codes "and"
text Block = codes "block"
text Channel = codes "channel"
text Comment = codes "comment"
text Connect = codes "connect"
text Connection = codes "connection"
text Create = codes "create"
text Dcl = codes "dcl"
text Decision = codes "decision"
text Else = codes "else"
text EndBlock = codes "endblock"
text EndChannel = codes "endchannel"
text EndConnection = codes "endconnection"
text EndDecision = codes "enddecision"
text EndProcess = codes "endprocess"
text EndState = codes "endstate"
text EndSystem = codes "endsystem"
text Env = codes "env"
text Fpar = codes "fpar"
text From = codes "from"
text Input = codes "input"
text Join = codes "join"
text Mod = codes "mod"
text NextState = codes "nextstate"
text NoDelay = codes "nodelay"
text Not = codes "not"
text Now = codes "now"
text Offspring = codes "offspring"
text Or = codes "or"
text Output = codes "output"
text Parent = codes "parent"
text Priority = codes "priority"
text Process = codes "process"
text Provided = codes "provided"
text Rem = codes "rem"
text Reset = codes "reset"
text Save = codes "save"
text SelfPid = codes "self"
text Sender = codes "sender"
text Set = codes "set"
text Signal = codes "signal"
text SignalList = codes "signallist"
text SignalSet = codes "signalset"
text Start = codes "start"
text State = codes "state"
text Stop = codes "stop"
text Synonym = codes "synonym"
text System = codes "system"
text Task = codes "task"
text Timer = codes "timer"
text To = codes "to"
text With = codes "with"
text Xor = codes "xor"
text True = codes "true"
text False = codes "false"
text Null = codes "null"
text Assign = codes ":="
text NotEqual = codes "/="
text LessOrEqual = codes "<="
text GreaterOrEqual = codes ">="
text Implies = codes "=>"
text Open = codes "("
text Close = codes ")"
text Comma = codes ","
text Semicolon = codes ";"
text Colon = codes ":"
text Equal = codes "="
text Less = codes "<"
text Greater = codes ">"
text Plus = codes "+"
text Minus = codes "-"
text Asterisk = codes "*"
text Slash = codes "/"

abbrev pub in_upper_case : List ℕ → List ℕ
in_upper_case word = map to_ascii_uppercase word

-- a literal with a capital first letter, and every other mark as it is
abbrev pub with_capital : Mark → List ℕ
with_capital True = codes "True"
with_capital False = codes "False"
with_capital Null = codes "Null"
with_capital m = text m

-- the mark as it is written in this spelling
abbrev pub spelled : Mark → Case → List ℕ
spelled m Lower = text m
spelled m Upper = in_upper_case (text m)
spelled m Capital = with_capital m
