use Rattle.sdl_command_line.proofs.views.sending.sent_in_order.Goals as goal

pub returns-in-Ok-clause-ok : goal.returns-in-Ok-clause-ok
returns-in-Ok-clause-ok c = record {
  told = c.in_ok-order.order.told;
  is_order = c.in_ok-order.ensures.told;
  says = c.in-Ok.ensures;
}
