use Rattle.sdl_build.proofs.ListLemmas.{members-more}
use Rattle.sdl_build.proofs.context.lists.members.Goals as goal

pub loop-list-preserved : goal.loop-list-preserved
loop-list-preserved c =
    members-more c.args.network.now c.loop-list.list c.loop-list.members.items c.push.new.self.items _
    c.loop-list.invariant c.in_ok-push.ensures.items c.in_ok-signals_of.ensures
