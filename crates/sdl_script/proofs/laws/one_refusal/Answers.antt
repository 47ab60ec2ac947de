-- One refusal: a lemma says so.
use Rattle.sdl_script.proofs.Refusals.{one_refusal}
use Rattle.sdl_script.proofs.laws.one_refusal.Goals as goal

pub returns : goal.returns
returns c = one_refusal
