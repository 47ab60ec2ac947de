use Rattle.std.proofs.Common.{◌≡◌, ◌∙◌, Option, Some, [], ap, filter, sym}
use Rattle.std.specs.List.{list_any}
use Rattle.std.specs.Option.{option_map_or}
use Rattle.sdl_system.specs.Route.{is_any, is_receiver, list_of, reach_of}
use Rattle.sdl_system.specs.declared.route.Reach.{Reach}
use Rattle.sdl_system.proofs.RouteLemmas.{is_any-filter}
use Rattle.sdl_system.proofs.route.Routes.reaches_process.Goals as goal

pub returns-in-Some : goal.returns-in-Some
returns-in-Some c =
    let reached : reach_of c.args.self.now c.args.from c.args.signal ≡ Some c.in-Some.reach = sym c.reach.ensures ∙ c.in-Some.is in
    c.has_receiver.ensures
    ∙ ap (list_any (is_receiver c.in-Some.reach.itself c.args.from)) c.list.ensures
    ∙ is_any-filter (is_receiver c.in-Some.reach.itself c.args.from) (list_of c.args.self.now c.in-Some.reach)
    ∙ ap (λ (r : Option Reach). is_any (option_map_or (λ reach. filter (is_receiver reach.itself c.args.from) (list_of c.args.self.now reach)) r [])) (sym reached)
