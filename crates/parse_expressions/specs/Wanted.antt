-- The word that tells what must stand at a place.
use Rattle.std.specs.Prelude.{ℕ, List, codes}
use Rattle.std.specs.String.{string_bytes}
use Rattle.parse_expressions.specs.declared.fault.Wanted.{Wanted}
use Rattle.parse_expressions.specs.declared.fault.Wanted.TheVariants as wanted
use Rattle.sdl_tree.specs.Mark as mark

abbrev pub wanted_text : Wanted → List ℕ
wanted_text (wanted.Mark next) = mark.text next
wanted_text wanted.Name = codes "name"
wanted_text wanted.Number = codes "number"
wanted_text wanted.Text = codes "text"
wanted_text wanted.Expression = codes "expression"
wanted_text wanted.Action = codes "action"
wanted_text wanted.Point = codes "point"
wanted_text wanted.End = codes "end"
wanted_text (wanted.ThisName name) = string_bytes name
