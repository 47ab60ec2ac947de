-- It goes where the decision leads.
use Rattle.std.proofs.Common.{refl}
use Rattle.sdl_failures.proofs.CameLemmas.{came_along}
use Rattle.sdl_failures.proofs.GoneLemmas.{follows_gone}
use Rattle.sdl_failures.proofs.replayed.replay.Replay.decide.Goals as goal

pub returns-in-Some-clause-on : goal.returns-in-Some-clause-on
returns-in-Some-clause-on c = λ on.
    let r = c.args.self.now in
    let to = c.in-Some.to in
    let node = c.args.node.now in
    let chosen = c.in-Some.ensures to refl in
    follows_gone r c.go_to.new.self to (λ variables all new came counts port.
    came_along r.system.now r.process.now r.who variables all r.spot r.known new r.left.left came counts port
    c.args.number c.args.part node.statement c.args.asked.now node.next chosen.0 to c.requires.spot
    c.if-part-ne0.false c.requires.node c.requires.statement chosen.1 chosen.2)
    (c.go_to.ensures.on on)
