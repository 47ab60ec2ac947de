use Rattle.std.proofs.Common.{◌≡◌, false}
use Rattle.sdl_explain.proofs.OthersLemmas.{LinesSearched}
use Rattle.sdl_explain.proofs.others.search_lines.Given as goal

abbrev pub invariant-loop-turn : goal.invariant-loop-turn
invariant-loop-turn l = record {
  searched : LinesSearched l.fn.system l.fn.script l.fn.first l._turn l.rest.items l.last l.others;
  not_all : l.others.is_all ≡ false;
}
