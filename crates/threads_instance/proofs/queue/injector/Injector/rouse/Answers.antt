-- All but the worker are kept.
use Rattle.std.proofs.Common.{◌≡◌, ◌==◌, not, rules}
use Rattle.std.proofs.lemmas.Fn.{filter_same}
use Rattle.threads_instance.specs.Injector.{without}
use Rattle.threads_instance.proofs.queue.injector.Injector.rouse.Goals as goal

pub returns : goal.returns
returns c =
    let kept : c.retain.new.self.items ≡ without c.args.me c.self.inside.asleep.items =
    filter_same _ (λ other. not (other == c.args.me)) _ (λ x b f' k. search rules) _ _ c.retain.ensures.filtered in
    search (rules, kept)
