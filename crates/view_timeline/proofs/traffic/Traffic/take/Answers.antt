-- What waits first is taken, or nothing changes.
use Rattle.std.proofs.Common.{◌∙◌, ◌++◌, ◌∷◌, [], ap, arith, refl, set}
use Rattle.view_timeline.proofs.NoteLemmas.{takes-first, written_back}
use Rattle.view_timeline.proofs.RowLemmas.{rows-same}
use Rattle.view_timeline.specs.Rows.{row_of}
use Rattle.view_timeline.specs.Traffic.{arrow, ledger_of}
use Rattle.view_timeline.proofs.traffic.Traffic.take.Goals as goal

pub returns-in_default-clause-not_taken : goal.returns-in_default-clause-not_taken
returns-in_default-clause-not_taken c = λ _. record {
  links = refl;
  arrows = refl;
  living = λ number. refl;
  begun = λ number. refl;
  rows = rows-same (row_of c.args.self.now.rows.rows) (row_of c.take.new.self.rows) c.args.channel
      c.in_default.ensures.none c.take.ensures.others;
}

pub returns-clause-taken : goal.returns-clause-taken
returns-clause-taken c = λ _.
    let old = c.args.self.now in
    let place = c.in-Some.event.0 in
    takes-first (record { channel = c.args.channel; values = c.args.values.now }) (ledger_of old)
    (ledger_of (record old { links = c.push.new.self; arrows = c.in_ok-arrows.arrows; rows = c.take.new.self })) place
    c.in-Some.ensures.first c.take.ensures.others
    (c.in_ok-push.ensures.items ∙ ap (λ links. links ++ arrow old.arrows ∷ [])
    (written_back old.links.items c.mark.new.links old.links.len (omega (arith, old.links.ok))
    (omega (arith, c.mark.auto.links, c.deref_mut.ensures.len))
    ∙ c.mark.ensures ∙ ap (λ links. set links place (arrow old.arrows)) c.deref_mut.ensures.value))
    c.in_ok-arrows.ensures

pub returns-in_default-clause-missing : goal.returns-in_default-clause-missing
returns-in_default-clause-missing c = λ _. c.in_default.ensures.missing
