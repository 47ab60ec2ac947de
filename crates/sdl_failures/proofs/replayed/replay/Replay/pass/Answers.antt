-- It goes to the next statement.
use Rattle.sdl_failures.proofs.CameLemmas.{came_past}
use Rattle.sdl_failures.proofs.GoneLemmas.{follows_gone}
use Rattle.sdl_failures.proofs.replayed.replay.Replay.pass.Goals as goal

pub returns-in-Some-clause-on : goal.returns-in-Some-clause-on
returns-in-Some-clause-on c = λ on.
    let r = c.args.self.now in
    let to = c.in-Some.to in
    let node = c.args.node.now in
    follows_gone r c.go_to.new.self to (λ variables all new came counts port.
    came_past r.system.now r.process.now r.who variables all r.spot r.known new r.left.left came counts port
    c.args.number c.args.part node.statement node.next to c.requires.spot c.requires.node c.in-Some.ensures.next
    c.in-Some.ensures.parts)
    (c.go_to.ensures.on on)
