use Rattle.std.proofs.Common.{◌≡◌, false}
use Rattle.sdl_explain.proofs.OthersLemmas.{Searched}
use Rattle.sdl_explain.proofs.others.search_faults.Given as goal

abbrev pub invariant-loop-turn : goal.invariant-loop-turn
invariant-loop-turn l = record {
  searched : Searched l.fn.specification l.fn.first l._turn l.rest l.place l.others;
  not_all : l.others.is_all ≡ false;
}
