use Rattle.std.proofs.Common.{◌++◌}
use Rattle.port_model.specs.Text.{values_text}
use Rattle.view_text.specs.EventText.{message_name, word}
use Rattle.std.specs.String.{string_bytes}
use Rattle.view_text.proofs.Pushed.{grown, said}
use Rattle.view_text.proofs.msc.names.push_message.Goals as goal

pub returns : goal.returns
returns c =
    let text = string_bytes c.args.text.now in
    let named = word c.signal_name.result.now in
    let message = message_name c.args.link in
    rw (← c.signal_name.ensures)
    (said c.push_values.result _ text (named ++ message) (values_text c.args.values.now)
    (grown text named message c.in_ok-push_word.ensures c.in_ok-push_message_name.ensures) c.push_values.ensures)
