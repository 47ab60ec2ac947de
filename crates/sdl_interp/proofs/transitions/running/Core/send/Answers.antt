use Rattle.std.proofs.Common.{◌≡◌, ◌≤◌, ◌<◌, ◌∙◌, ◌∷◌, [], List, ap, arith, get_or, inl, inr, length, map}
use Rattle.std.proofs.lemmas.Result.{err_from_is_err_and}
use Rattle.std.specs.Option.{option_copied, option_map}
use Rattle.sdl_interp.proofs.Meanings.{by_known, sent_ok, unnamed, unsent}
use Rattle.run_record.specs.Value.{values_at}
use Rattle.run_semantics.specs.Fails.{named_by}
use Rattle.sdl_interp.proofs.Outputs.{amid_sent, goes_out}
use Rattle.sdl_interp.specs.Running.{seen}
use Rattle.sdl_system.specs.Table.{sending, whither_of}
use Rattle.sdl_system.specs.Term.{term_of}
use Rattle.sdl_system.specs.declared.expression.Expression.{Expression}
use Rattle.sdl_interp.proofs.transitions.running.Core.send.Goals as goal

pub returns-in_err-named-clause-err : goal.returns-in_err-named-clause-err
returns-in_err-named-clause-err g c =
    let q = err_from_is_err_and c.from_residual.result c.from_residual.ensures.1 in
    let k = seen g.P.Inbox.owning g.P.Inbox.since c.args.self.now in
    let whom = option_map whither_of (option_copied c.args.to) in
    rw (q.1, q.2) (λ more d is origin rest. elim c.in_err-named.ensures.err [
      | inl memory ↦ inl (memory, tt)
      | inr meant ↦ inr (unnamed k d is whom c.args.one.now _
          (by_known k (λ x. named_by x whom) c.knowledge.result c.knowledge.ensures _ meant))
    ])

pub returns-in_err-values-clause-err : goal.returns-in_err-values-clause-err
returns-in_err-values-clause-err g c =
    let q = err_from_is_err_and c.from_residual-in_err-values.result c.from_residual-in_err-values.ensures.1 in
    let k = seen g.P.Inbox.owning g.P.Inbox.since c.args.self.now in
    let whom = option_map whither_of (option_copied c.args.to) in
    rw (q.1, q.2) (λ more d is origin rest. elim c.in_err-values.ensures.err [
      | inl meant ↦ inr (unsent k d is whom c.args.one.now _ c.sorts_of-sorts.ensures _ c.deref.ensures.value
          c.in_ok-named.named _
          (by_known k (λ x. named_by x whom) c.knowledge.result c.knowledge.ensures _ c.in_ok-named.ensures.ok)
          (by_known k (λ x. values_at x c.sorts_of-sorts.result.now (map term_of c.deref.result.now))
          c.knowledge-2.result c.knowledge-2.ensures _ meant))
      | inr memory ↦ inl (memory.1, tt)
    ])

pub returns-clause-ok : goal.returns-clause-ok
returns-clause-ok g c = λ more d is origin rest.
    let owning = g.P.Inbox.owning in
    let since = g.P.Inbox.since in
    let k = seen owning since c.args.self.now in
    let whom = option_map whither_of (option_copied c.args.to) in
    let named = c.in_ok-named.named in
    let values = c.in_ok-values.values in
    goes_out owning since c.args.self.now c.make_room-2.new.machine _ _ c.make_room-2.ensures.same named values
    c.in_ok-send_values.field-0 (g.W.World.value c.args.world.now) (seen owning since c.send_values.new.self)
    (g.W.World.value c.send_values.new.world) d is origin rest whom (sending c.args.one.now) more
    (sent_ok k d is whom c.args.one.now _ c.sorts_of-sorts.ensures _ c.deref.ensures.value named values
    (by_known k (λ x. named_by x whom) c.knowledge.result c.knowledge.ensures _ c.in_ok-named.ensures.ok)
    (by_known k (λ x. values_at x c.sorts_of-sorts.result.now (map term_of c.deref.result.now)) c.knowledge-2.result
    c.knowledge-2.ensures _ c.in_ok-values.ensures.ok))
    c.in_ok-send_values.ensures.sent

pub returns-clause-amid : goal.returns-clause-amid
returns-clause-amid g c =
    let owning = g.P.Inbox.owning in
    let since = g.P.Inbox.since in
    amid_sent owning since c.args.self.now c.make_room-2.new.machine _ _ c.make_room-2.ensures.same
    c.in_ok-named.named c.in_ok-values.values c.in_ok-send_values.field-0 (g.W.World.value c.args.world.now)
    (seen owning since c.send_values.new.self) (g.W.World.value c.send_values.new.world) _
    c.in_ok-send_values.ensures.sent.is_recorded c.make_room-2.ensures.kept c.in_ok-make_room-2.ensures.room c.requires

-- of one value

only_is : (list : List Expression) (one : Expression) → 1 ≤ length list → length list < 2 → one ≡ get_or list 0 one
    → one ∷ [] ≡ list
only_is [] one some few is = absurd (omega (arith, some))
only_is (first ∷ []) one some few is = ap (λ e. e ∷ []) is
only_is (first ∷ second ∷ rest) one some few is = absurd (omega (arith, few))

pub returns-in-len1-clause-ok : goal.returns-in-len1-clause-ok
returns-in-len1-clause-ok g c = λ more d is origin rest.
    let owning = g.P.Inbox.owning in
    let since = g.P.Inbox.since in
    let k = seen owning since c.args.self.now in
    let whom = option_map whither_of (option_copied c.args.to) in
    let named = c.in_ok-named.named in
    let values = c.in_ok-value.value ∷ [] in
    goes_out owning since c.args.self.now c.make_room.new.machine _ _ c.make_room.ensures.same named values
    c.in_ok-send_value.field-0 (g.W.World.value c.args.world.now) (seen owning since c.send_value.new.self)
    (g.W.World.value c.send_value.new.world) d is origin rest whom (sending c.args.one.now) more
    (sent_ok k d is whom c.args.one.now _ c.sorts_of-sorts.ensures _
    (only_is _ _ c.in-len1.len_at_least c.in-len1.len_below c.expression-item.is ∙ c.as_slice.ensures.value)
    named values (by_known k (λ x. named_by x whom) c.knowledge.result c.knowledge.ensures _ c.in_ok-named.ensures.ok)
    (by_known k (λ x. values_at x c.sorts_of-sorts.result.now (term_of c.expression-item.result ∷ []))
    c.knowledge-in-len1.result c.knowledge-in-len1.ensures _ c.in_ok-value.ensures.ok))
    c.in_ok-send_value.ensures.sent

pub returns-in-len1-clause-amid : goal.returns-in-len1-clause-amid
returns-in-len1-clause-amid g c =
    let owning = g.P.Inbox.owning in
    let since = g.P.Inbox.since in
    amid_sent owning since c.args.self.now c.make_room.new.machine _ _ c.make_room.ensures.same c.in_ok-named.named
    (c.in_ok-value.value ∷ []) c.in_ok-send_value.field-0 (g.W.World.value c.args.world.now)
    (seen owning since c.send_value.new.self) (g.W.World.value c.send_value.new.world) _
    c.in_ok-send_value.ensures.sent.is_recorded c.make_room.ensures.kept c.in_ok-make_room.ensures.room c.requires
