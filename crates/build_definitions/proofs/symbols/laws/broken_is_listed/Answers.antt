use Rattle.build_definitions.proofs.SymbolsBrokenLaws.{broken-listed}
use Rattle.build_definitions.proofs.symbols.laws.broken_is_listed.Goals as goal

pub returns : goal.returns
returns c = broken-listed
