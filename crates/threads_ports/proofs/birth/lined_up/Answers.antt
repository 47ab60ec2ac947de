-- The next site has the next number.
use Rattle.std.proofs.Common.{◌≡◌, ◌∙◌, ◌+◌, length, rules, sym}
use Rattle.std.proofs.lemmas.Iterator.Adapters.{YieldsList-from_vec}
use Rattle.std.proofs.lemmas.Iterator.Consumers.{YieldsList-turn}
use Rattle.std.proofs.lemmas.List.{length_push}
use Rattle.threads_ports.proofs.Making.{made_more}
use Rattle.threads_ports.proofs.birth.lined_up.Goals as goal

pub loop-site-preserved : goal.loop-site-preserved
loop-site-preserved c =
    let sites = c.args.sites.items in
    let yielded = c.loop-site.yielded in
    let started = c.into_iter-site-iterator.ensures.into_iter_gives in
    let turn = YieldsList-turn (YieldsList-from_vec sites started.0 (started.1 ∙ c.args.sites.ok.0)) yielded
    c.loop-site.site-iterator c.loop-site.yielded_by c.next.result c.next.new.self c.in-Some.site c.in-Some.is
    c.next.ensures.steps in
    let number : c.in-Some.site ≡ length yielded + 1 =
    turn.1 ∙ c.requires.1 (length yielded) c.in-Some.site turn.0 in
    let made = c.in-Some-into_port.made in
    let more =
    made_more c.loop-site.rows.items _ c.loop-site.desks.items _ c.loop-site.owners.items _ made.port made.desk
    made.owner (length yielded) c.loop-site.invariant.0 c.loop-site.invariant.1 (search rules)
    (search (rules, number)) c.in_ok-push.ensures.items c.in_ok-push-2.ensures.items c.in_ok-push-3.ensures.items in
    (more.0 ∙ sym (length_push yielded c.in-Some.site), more.1)
