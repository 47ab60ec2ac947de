-- Each target is meant: lemmas say so.
use Rattle.laws_creates.proofs.Steps.{each_is_counted, each_is_counted_amid, outputs_are_meant, signals_are_meant}
use Rattle.laws_creates.proofs.laws.targets_are_meant.Goals as goal

pub returns : goal.returns
returns c = record {
  outputs = outputs_are_meant;
  signals = signals_are_meant;
  counted = each_is_counted;
  counted_amid = each_is_counted_amid;
}
