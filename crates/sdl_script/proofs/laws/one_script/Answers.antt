-- One line, one saying and one script: lemmas say so.
use Rattle.sdl_script.proofs.Texts.{one_line, one_saying, one_script}
use Rattle.sdl_script.proofs.laws.one_script.Goals as goal

pub returns : goal.returns
returns c = record { line = one_line; saying = one_saying; script = one_script }
