use Rattle.std.proofs.Common.{◌∙◌, ◌++◌, ◌∷◌, [], ap, map, sym}
use Rattle.std.proofs.lemmas.List.{map-append}
use Rattle.view_text.proofs.Sent.{line-sends}
use Rattle.view_text.specs.Sending.{sending_value}
use Rattle.view_text.proofs.lost.send.Goals as goal

pub returns : goal.returns
returns c = λ told left now.
    let system = c.args.system.now in
    let report = c.args.report.now in
    let sent = c.args.sent.now.items in
    ap (map sending_value) c.in_ok-push.ensures.items ∙ map-append sending_value sent (c.sending.result ∷ [])
    ∙ ap (λ one. map sending_value sent ++ one ∷ []) (c.sending.ensures report.records.items told left now)
    ∙ ap (λ l. map sending_value sent ++ l)
    (sym (line-sends system report told left c.args.line.now c.in-Some.signal
    (sym (c.sends.ensures system report.records.items told left now) ∙ c.if-not-sends.false) c.in-Some.is))
