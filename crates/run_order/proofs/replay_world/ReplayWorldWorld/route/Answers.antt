-- The target is one to which the routes lead, by the list that was asked for.
use Rattle.run_order.proofs.replay_world.ReplayWorldWorld.route.Goals as goal

pub returns-clause-route : goal.returns-clause-route
returns-clause-route c = (c.living_for-living.result.now, c.route.ensures)
