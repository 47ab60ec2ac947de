use Rattle.std.proofs.Common.{◌≡◌, ◌≢◌, ◌+◌, ◌/◌, ◌%◌, ℕ, arith, subst}
use Rattle.std.proofs.lemmas.Option.{slice_get_within}
use Rattle.port_model.specs.declared.values.item.SignalId.{SignalId}
use Rattle.build_routes.specs.Entries.{WordTells}
use Rattle.build_routes.proofs.ReceiverLemmas.{entry_of_word}
use Rattle.build_routes.proofs.TableLemmas.{keeps_on, row_more}
use Rattle.build_routes.proofs.table.row_from.Goals as goal

same_word : (n : ℕ) → (n + 1) % 64 ≢ 0 → n / 64 ≡ (n + 1) / 64
same_word n within = omega (arith, within)

pub word_at-requires-clause-graph : goal.word_at-requires-clause-graph
word_at-requires-clause-graph c = record { flags = c.args.named.now; are = c.requires.flags; leads = c.in_ok-graph.ensures }

pub entry-requires : goal.entry-requires
entry-requires c =
    let place = c.loop-number.number % 64 in
    let h = c.in_ok-word.ensures.word.numbers place (omega arith) in
    omega (arith, slice_get_within c.in_ok-word.word.numbers.items place h.0 h.2)

pub loop-number-preserved : goal.loop-number-preserved
loop-number-preserved c =
    let signal : SignalId = record { 0 = c.loop-number.number } in
    record {
      kept = keeps_on c.args.lists.now c.loop-number.lists c.word_at.new.lists c.loop-number.invariant.kept c.in_ok-word.ensures.kept;
      known = c.in_ok-word.ensures.known;
      row = row_more c.args.network.now c.args.source c.loop-number.lists c.word_at.new.lists c.loop-number.number c.loop-number.row.items c.push.new.self.items
          c.entry.result c.in_ok-word.ensures.kept c.loop-number.invariant.row
          (entry_of_word c.args.network.now c.args.source c.in_ok-word.word signal c.word_at.new.lists c.entry.result (omega arith) c.in_ok-word.ensures.word
          c.entry.ensures.receivers c.entry.ensures.itself c.entry.ensures.env)
          c.in_ok-push.ensures.items
          (omega (arith, c.in_ok-push.ensures.len, c.loop-number.invariant.row.size));
      before = λ within. subst (λ word. WordTells c.args.network.now c.args.source word c.word_at.new.lists c.in_ok-word.word)
          (same_word c.loop-number.number within) c.in_ok-word.ensures.word;
    }

pub returns-in_err-word-clause-kept : goal.returns-in_err-word-clause-kept
returns-in_err-word-clause-kept c =
    keeps_on c.args.lists.now c.loop-number.lists c.word_at.new.lists c.loop-number.invariant.kept
    c.in_err-word.ensures.kept

pub returns-in_err-word-clause-known : goal.returns-in_err-word-clause-known
returns-in_err-word-clause-known c = c.in_err-word.ensures.known

pub returns-in_err-push-clause-kept : goal.returns-in_err-push-clause-kept
returns-in_err-push-clause-kept c =
    keeps_on c.args.lists.now c.loop-number.lists c.word_at.new.lists c.loop-number.invariant.kept
    c.in_ok-word.ensures.kept

pub returns-in_err-push-clause-known : goal.returns-in_err-push-clause-known
returns-in_err-push-clause-known c = c.in_ok-word.ensures.known

pub returns-clause-kept : goal.returns-clause-kept
returns-clause-kept c = c.loop-number.invariant.kept

pub returns-clause-known : goal.returns-clause-known
returns-clause-known c = c.loop-number.invariant.known
