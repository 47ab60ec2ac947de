use Rattle.std.proofs.Common.{List, ap}
use Rattle.std.proofs.lemmas.Result.{on_ok_weaker}
use Rattle.build_states.specs.Listed.{numbering_value, part_value}
use Rattle.build_states.specs.Mentions.{Mention}
use Rattle.build_states.specs.Reading.{Begun}
use Rattle.build_states.proofs.stimuli.reading.add_stimulus.Goals as goal

pub returns-in-Input-clause-read : goal.returns-in-Input-clause-read
returns-in-Input-clause-read c = rw c.in-Input.is c.add_input.ensures.read

pub returns-in-Input-clause-noted : goal.returns-in-Input-clause-noted
returns-in-Input-clause-noted c = rw c.in-Input.is c.add_input.ensures.noted

pub returns-in-Priority-clause-read : goal.returns-in-Priority-clause-read
returns-in-Priority-clause-read c = rw c.in-Priority.is c.add_priority.ensures.read

pub returns-in-Priority-clause-noted : goal.returns-in-Priority-clause-noted
returns-in-Priority-clause-noted c = rw c.in-Priority.is c.add_priority.ensures.noted

pub returns-in-Save-clause-noted : goal.returns-in-Save-clause-noted
returns-in-Save-clause-noted c = rw c.in-Save.is c.add_saved.ensures.noted

pub returns-in-Continuous-clause-read : goal.returns-in-Continuous-clause-read
returns-in-Continuous-clause-read c = rw c.in-Continuous.is c.add_continuous.ensures.read

pub returns-in-Continuous-clause-noted : goal.returns-in-Continuous-clause-noted
returns-in-Continuous-clause-noted c = rw c.in-Continuous.is c.add_continuous.ensures.noted

pub returns-in-Save-clause-read : goal.returns-in-Save-clause-read
returns-in-Save-clause-read c =
    let part = part_value c.args.part.now in
    let with_mentions : List Mention → Begun = λ list. record {
      numbering = numbering_value c.args.numbering.now;
      part = record { states = part.states; mentions = list; enabling = part.enabling; continuous = part.continuous };
    } in
    rw c.in-Save.is (on_ok_weaker c.add_saved.result (λ is. ap with_mentions is) c.add_saved.ensures.read)
