use denote.Text.{Utf8}
use denote.Shadow.{shadow}
use Rattle.sdl_command_line.proofs.misuse.push_tips.Given as goal

-- what ends a line before the next one is text
abbrev pub invariant-loop-line : goal.invariant-loop-line
invariant-loop-line l =
    (goal.iterator-loop-line).can_next l.line-iterator ×
    (goal.iterator-loop-line).is_finite l.line-iterator ×
    shadow (Utf8 l.end)
