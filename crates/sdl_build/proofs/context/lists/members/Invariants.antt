use Rattle.build_states.specs.Context.{listed_members}
use Rattle.sdl_build.specs.Lists.{AreMembers}
use Rattle.sdl_build.proofs.context.lists.members.Given as goal

abbrev pub invariant-loop-list : goal.invariant-loop-list
invariant-loop-list l = AreMembers l.network l.list (listed_members l.members.items)
