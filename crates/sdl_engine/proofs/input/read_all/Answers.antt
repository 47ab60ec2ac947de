use Rattle.std.proofs.Common.{◌≤◌, sym, subst, length, arith}
use Rattle.std.proofs.KnownBytes.{Consumes-nil}
use Rattle.std.specs.Io.KnownBytes.{Consumes}
use Rattle.sdl_engine.proofs.input.read_all.Goals as goal

pub loop-turn-init : goal.loop-turn-init
loop-turn-init g c = (subst (Consumes (g.R.Read.remaining c.args.reader.now) (g.R.Read.remaining c.args.reader.now)) (sym c.new-bytes.ensures.items) (Consumes-nil _), c.in_ok-piece.ensures.ok, subst (λ items. length items ≤ 2097152) (sym c.new-bytes.ensures.items) (omega arith))
