use Rattle.std.proofs.Common.{◌≡◌, Some, ap, slice_get, sym, ◌∙◌}
use Rattle.build_routes.proofs.KnownLemmas.{known_kept, known_more, numbers_of-same, numbers_same}
use Rattle.build_routes.proofs.known.numbers_of.Goals as goal

pub returns-in_err-numbers-clause-known : goal.returns-in_err-numbers-clause-known
returns-in_err-numbers-clause-known c = known_kept c.args.lists.now c.numbered.new.lists c.args.known.now.items c.in_err-numbers.ensures.kept c.requires

pub returns-in_err-copy-clause-known : goal.returns-in_err-copy-clause-known
returns-in_err-copy-clause-known c = known_kept c.args.lists.now c.numbered.new.lists c.args.known.now.items c.in_ok-numbers.ensures.kept c.requires

pub returns-then-is_known-clause-numbers : goal.returns-then-is_known-clause-numbers
returns-then-is_known-clause-numbers c =
    let one = c.is_known.ensures c.if-is_known.true in
    let last = one.0 in
    let here : slice_get c.args.known.now.items c.args.word ≡ Some last = ap (λ xs. slice_get xs c.args.word) (sym c.deref.ensures.value) ∙ one.1 in
    let lists = c.args.lists.now in
    numbers_of-same lists last.receivers.items c.args.receivers.items c.in_ok-same.same.items (one.2 ∙ c.deref-2.ensures.value)
    (numbers_same lists last.receivers.items last.numbers.items c.in_ok-same.same.items
    (c.in_ok-same.ensures last (ap (λ xs. slice_get xs c.args.word) c.deref-then-is_known.ensures.value ∙ here))
    (c.requires c.args.word last here))

pub returns-in_err-remember-clause-known : goal.returns-in_err-remember-clause-known
returns-in_err-remember-clause-known c =
    let lists = c.numbered.new.lists in
    let numbers = c.in_ok-numbers.numbers.items in
    known_more c.args.lists.now lists c.args.known.now.items c.remember.new.known.items
    (record { receivers = c.args.receivers; numbers = c.in_ok-copy.copy }) c.in_ok-numbers.ensures.kept c.requires c.remember.ensures
    (numbers_same lists c.args.receivers.items numbers c.in_ok-copy.copy.items (c.in_ok-copy.ensures.items ∙ c.deref-4.ensures.value)
    (numbers_of-same lists c.deref-3.result.now c.args.receivers.items numbers c.deref-3.ensures.value c.in_ok-numbers.ensures.numbers))

pub returns-clause-known : goal.returns-clause-known
returns-clause-known c =
    let lists = c.numbered.new.lists in
    let numbers = c.in_ok-numbers.numbers.items in
    known_more c.args.lists.now lists c.args.known.now.items c.remember.new.known.items
    (record { receivers = c.args.receivers; numbers = c.in_ok-copy.copy }) c.in_ok-numbers.ensures.kept c.requires c.remember.ensures
    (numbers_same lists c.args.receivers.items numbers c.in_ok-copy.copy.items (c.in_ok-copy.ensures.items ∙ c.deref-4.ensures.value)
    (numbers_of-same lists c.deref-3.result.now c.args.receivers.items numbers c.deref-3.ensures.value c.in_ok-numbers.ensures.numbers))

pub returns-clause-numbers : goal.returns-clause-numbers
returns-clause-numbers c =
    numbers_of-same c.numbered.new.lists c.deref-3.result.now c.args.receivers.items c.in_ok-numbers.numbers.items c.deref-3.ensures.value
    c.in_ok-numbers.ensures.numbers
