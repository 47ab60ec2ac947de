-- A take that is made again: together with what the refused one drew it does what one take does.
use Rattle.std.proofs.Common.{List, ◌++◌, refl, ap, ◌∙◌, subst}
use Rattle.port_model.specs.Calls.{after_draws, HasDrawn, TakesHere}
use Rattle.port_model.specs.Ends.{OwnerState}
use Rattle.port_model.specs.PlainPort.{armed_left}
use Rattle.port_model.specs.Take as take
use Rattle.port_model.specs.declared.selection.Class.{Class}
use Rattle.port_model.specs.declared.taken.Taken.{Taken}
use Rattle.input_port.proofs.QueueDrawing.{drawn_more}

pub takes_later : (classes : List Class) (old mid new : OwnerState) (taken : Taken) → HasDrawn old mid
    → TakesHere classes mid new taken → TakesHere classes old new taken
takes_later classes old mid new taken h t =
    let last : OwnerState = record new { state = after_draws mid.pid mid.state t.news; armed = mid.armed } in
    let all = drawn_more old mid last h.0 t.news h.1 t.draws in
    record {
      news = h.0 ++ t.news;
      draws = record {
        port = all.port;
        pid = all.pid;
        gathered = all.gathered;
        drawn = all.drawn;
        next = all.next;
        known = all.known;
        kept = all.kept;
        state = refl;
        armed = refl;
      };
      take = subst (λ s. take.Takes classes s taken new.state) all.state t.take;
      armed = t.armed ∙ ap (armed_left taken) h.1.armed;
      fresh = t.fresh;
      passed = t.passed;
    }
