use Rattle.std.proofs.Common.{◌≡◌, ◌∙◌, ◌+◌, Some, ap, length, refl, slice_get, subst, sym}
use Rattle.std.proofs.lemmas.Iterator.Adapters.{YieldsList-from_vec}
use Rattle.std.proofs.lemmas.Iterator.Consumers.{YieldsList-end, YieldsList-turn}
use Rattle.std.proofs.lemmas.Option.{none-some, slice_get_read}
use Rattle.sdl_build.proofs.ListLemmas.{length-more}
use Rattle.sdl_build.proofs.MadeLemmas.{as-many, below-at, bodies-next, less-than, made-next, valid-at}
use Rattle.sdl_build.specs.Around.{context_of}
use Rattle.sdl_build.specs.Faulty.{NotesBodies}
use Rattle.sdl_build.specs.Faulty as notes
use Rattle.build_definitions.specs.Definitions.{rows_of}
use Rattle.sdl_build.proofs.system.each_process.Goals as goal

pub loop-set-init : goal.loop-set-init
loop-set-init c = record {
  size = ap length c.new-made.ensures.items;
  made = λ number row process listed stands.
      absurd (none-some process (subst (λ items. slice_get items number.0 ≡ Some process) c.new-made.ensures.items
      stands));
  noted = subst (λ items. NotesBodies (context_of c.args.definitions.now c.args.symbols.now c.args.constant_table.now
      c.args.connections.now) c.args.faults.now (length items) c.args.faults.now)
      (sym c.new-made.ensures.items) notes.none;
}

pub process_in-requires-clause-within : goal.process_in-requires-clause-within
process_in-requires-clause-within c =
    let valid = c.args.valid.items in
    let started = c.into_iter-set-iterator.ensures.into_iter_gives in
    let turn = YieldsList-turn (YieldsList-from_vec valid started.0 (started.1 ∙ c.args.valid.ok.0)) c.loop-set.yielded
    c.loop-set.set-iterator c.loop-set.yielded_by c.next.result c.next.new.self c.in-Some.set c.in-Some.is
    c.next.ensures.steps in
    less-than c.len-place.result _ _ _
    (below-at _ _ _ (c.len-place.ensures ∙ c.loop-set.made.ok.0 ∙ c.loop-set.invariant.size) turn.0)
    (as-many (rows_of c.args.definitions.now) c.args.symbols.now c.args.connections.now.network valid
    c.requires.known.is_network c.requires.valid)
    refl

pub process_in-requires-clause-valid : goal.process_in-requires-clause-valid
process_in-requires-clause-valid c =
    let valid = c.args.valid.items in
    let started = c.into_iter-set-iterator.ensures.into_iter_gives in
    let turn = YieldsList-turn (YieldsList-from_vec valid started.0 (started.1 ∙ c.args.valid.ok.0)) c.loop-set.yielded
    c.loop-set.set-iterator c.loop-set.yielded_by c.next.result c.next.new.self c.in-Some.set c.in-Some.is
    c.next.ensures.steps in
    valid-at (context_of c.args.definitions.now c.args.symbols.now c.args.constant_table.now c.args.connections.now)
    valid
    (length c.loop-set.yielded) c.len-place.result c.in-Some.set c.requires.valid c.requires.known.is_network.signals
    (c.len-place.ensures ∙ c.loop-set.made.ok.0 ∙ c.loop-set.invariant.size)
    (slice_get_read valid (length valid) (length c.loop-set.yielded) c.in-Some.set refl turn.0 turn.1)

pub loop-set-preserved : goal.loop-set-preserved
loop-set-preserved c =
    let context = context_of c.args.definitions.now c.args.symbols.now c.args.constant_table.now
    c.args.connections.now in
    let at : c.len-place.result ≡ length c.loop-set.made.items = c.len-place.ensures ∙ c.loop-set.made.ok.0 in
    let grown : length c.push.new.self.items ≡ length c.loop-set.made.items + 1 =
    ap length c.in_ok-push.ensures.items ∙ length-more c.loop-set.made.items c.in_ok-process.process in
    record {
      size = grown ∙ ap (λ n. n + 1) c.loop-set.invariant.size
          ∙ sym (length-more c.loop-set.yielded c.in-Some.set);
      made = made-next context c.loop-set.made.items c.push.new.self.items c.len-place.result c.in_ok-process.process
          c.loop-set.invariant.made c.in_ok-push.ensures.items at c.in_ok-process.ensures.made;
      noted = bodies-next context c.args.faults.now c.loop-set.faults c.process_in.new.faults
          c.len-place.result (length c.loop-set.made.items) (length c.push.new.self.items) c.loop-set.invariant.noted at
          grown c.in_ok-process.ensures.noted;
    }

pub returns-clause-size : goal.returns-clause-size
returns-clause-size c =
    let valid = c.args.valid.items in
    let started = c.into_iter-set-iterator.ensures.into_iter_gives in
    let end = YieldsList-end (YieldsList-from_vec valid started.0 (started.1 ∙ c.args.valid.ok.0)) c.loop-set.yielded
    c.loop-set.set-iterator c.loop-set.yielded_by c.next.result c.next.new.self c.in-None.is c.next.ensures.steps in
    c.loop-set.invariant.size ∙ end.1
    ∙ as-many (rows_of c.args.definitions.now) c.args.symbols.now c.args.connections.now.network valid
    c.requires.known.is_network c.requires.valid

pub returns-clause-noted : goal.returns-clause-noted
returns-clause-noted c =
    let valid = c.args.valid.items in
    let started = c.into_iter-set-iterator.ensures.into_iter_gives in
    let end = YieldsList-end (YieldsList-from_vec valid started.0 (started.1 ∙ c.args.valid.ok.0)) c.loop-set.yielded
    c.loop-set.set-iterator c.loop-set.yielded_by c.next.result c.next.new.self c.in-None.is c.next.ensures.steps in
    subst (λ n. NotesBodies (context_of c.args.definitions.now c.args.symbols.now c.args.constant_table.now
    c.args.connections.now)
    c.args.faults.now n c.loop-set.faults)
    (c.loop-set.invariant.size ∙ end.1
    ∙ as-many (rows_of c.args.definitions.now) c.args.symbols.now c.args.connections.now.network valid
    c.requires.known.is_network c.requires.valid)
    c.loop-set.invariant.noted
