use Rattle.std.proofs.Common.{◌≡◌, ◌≤◌, take}
use Rattle.std.specs.List.{count_by}
use Rattle.sdl_lex.specs.Place.{is_line_end}
use Rattle.explain_syntax.specs.Line.{byte_of_line}
use Rattle.explain_syntax.proofs.ChangeLemmas.{IsChanged}
use Rattle.explain_syntax.proofs.rests.filled.leave_out_line.Given as goal

abbrev pub invariant-loop-at : goal.invariant-loop-at
invariant-loop-at l = record {
  changed : IsChanged (byte_of_line l.number l.fn.text.items) l.at l.fn.text.items l.text.items;
  counted : l.ended ≡ count_by is_line_end (take l.at l.fn.text.items);
  few : l.ended ≤ l.at;
}
