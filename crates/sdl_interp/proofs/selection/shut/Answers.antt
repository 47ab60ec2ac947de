use Rattle.std.proofs.Common.{◌∙◌, Global, List, Vec, ap, arith, refl, subst, sym, take, true≢false}
use Rattle.std.proofs.lemmas.List.{take_all}
use Rattle.std.specs.List.{Contains}
use Rattle.port_model.specs.declared.values.item.SignalId.{SignalId}
use Rattle.port_model.specs.declared.selection.Class.{Class}
use Rattle.sdl_interp.proofs.SelectionLemmas.{named_none, named_some, passes_rest, saves_listed, saves_none, saves_rest}
use Rattle.sdl_system.specs.Soundness.{IsEnabled}
use Rattle.sdl_system.specs.State.{named_reaction}
use Rattle.sdl_system.specs.declared.state.Enabled as enabled
use Rattle.sdl_interp.proofs.selection.shut.Goals as goal
use Rattle.sdl_interp.proofs.selection.shut.Goals.{else-contains, else-contains-via-else-contains, else-contains-via-then-contains+else-is_none, then-contains+then-is_none}

pub loop-signal-init : goal.loop-signal-init
loop-signal-init c =
    saves_none c.args.classes.now.items
    (λ (signal : SignalId). Contains (take 0 c.deref-signal-items.result.now) signal)
    (λ signal there. absurd (omega (arith, there.1)))

pub loop-signal-preserved : goal.loop-signal-preserved
loop-signal-preserved c =
    saves_listed c.args.classes.now.items c.loop-signal.classes.items c.save.new.classes.items
    c.deref-signal-items.result.now c.loop-signal.signal-index (record { 0 = 0 }) c.loop-signal-test.true
    c.loop-signal.invariant c.save.ensures

pub returns-after-loop-signal-clause-saved : goal.returns-after-loop-signal-clause-saved
returns-after-loop-signal-clause-saved c = λ signal within enables.
    let items = c.deref-signal-items.result.now in
    let i = c.loop-signal.signal-index in
    let named : Contains c.in-Named.list.items signal =
    subst (λ (e : enabled.Enabled). IsEnabled c.args.process.now c.args.table.now e signal) c.in-Named.is enables in
    c.loop-signal.invariant.saved signal within
    (subst (λ (xs : List SignalId). Contains xs signal)
    (sym (take_all i items c.loop-signal-test.false ∙ c.deref-signal-items.ensures.value)) named)

pub loop-number-preserved : goal.loop-number-preserved
loop-number-preserved c =
    let process = c.args.process.now in
    let table = c.args.table.now in
    let number = c.loop-number.number in
    let one : SignalId = record { 0 = number } in
    let old = c.args.classes.now.items in
    let mid = c.loop-number.classes.items in
    let new = c.if-contains.classes.items in
    elim c.if-contains.branch [
      | then-contains+then-is_none w ↦
          saves_rest process table number one old mid new refl (
            named_none w.get.result (named_reaction table.reactions one) w.is_none.result w.get.ensures
                w.is_none.ensures w.if-is_none.true,
            sym c.contains.ensures ∙ w.if-contains.true,
          )
          c.loop-number.invariant
          (ap (λ (v : Vec Class Global). v.items) w.classes-is ∙ w.save-then-is_none.ensures)
      | else-contains w ↦
          elim w.else-contains.branch [
            | else-contains-via-then-contains+else-is_none v ↦
                passes_rest process table number one old mid new refl
                (λ rest. named_some v.get.result (named_reaction table.reactions one) v.is_none.result v.get.ensures
                v.is_none.ensures v.if-is_none.false rest.0)
                c.loop-number.invariant (ap (λ (v : Vec Class Global). v.items) w.classes-is)
            | else-contains-via-else-contains v ↦
                passes_rest process table number one old mid new refl
                (λ rest. true≢false (sym rest.1 ∙ sym c.contains.ensures ∙ v.if-contains.false))
                c.loop-number.invariant (ap (λ (v : Vec Class Global). v.items) w.classes-is)
          ]
    ]
