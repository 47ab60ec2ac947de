use Rattle.std.proofs.Common.{◌≡◌, ◌++◌, ◌∙◌, ap, append-nil, subst, sym}
use Rattle.std.specs.Prelude.{OnOk}
use Rattle.std.specs.String.{string_bytes}
use Rattle.sdl_command_line.proofs.expected.environment.push_sent.Goals as goal

pub returns-in-Some : goal.returns-in-Some
returns-in-Some c =
    subst (λ l. OnOk c.push_output.result (string_bytes c.push_output.new.text ≡ string_bytes c.args.text.now ++ l))
    (sym (c.in-Some.ensures c.args.system.now c.args.now c.args.who c.args.values.now)) c.push_output.ensures

pub returns-in-None : goal.returns-in-None
returns-in-None c =
    sym (ap (λ l. string_bytes c.args.text.now ++ l)
    (c.in-None.ensures c.args.system.now c.args.now c.args.who c.args.values.now)
    ∙ append-nil (string_bytes c.args.text.now))
