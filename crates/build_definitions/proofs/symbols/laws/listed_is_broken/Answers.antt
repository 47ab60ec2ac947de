use Rattle.build_definitions.proofs.SymbolsBrokenLaws.{listed-broken}
use Rattle.build_definitions.proofs.symbols.laws.listed_is_broken.Goals as goal

pub returns : goal.returns
returns c = listed-broken
