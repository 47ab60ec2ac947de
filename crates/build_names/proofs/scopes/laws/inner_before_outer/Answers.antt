use Rattle.std.specs.Str.{bytes_eq}
use Rattle.build_names.proofs.NameLemmas.{lookup-append}
use Rattle.build_names.proofs.scopes.laws.inner_before_outer.Goals as goal

pub returns : goal.returns
returns g c = λ inner outer text. lookup-append (bytes_eq text) inner outer
