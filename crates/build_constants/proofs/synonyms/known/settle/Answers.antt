use Rattle.std.proofs.Common.{◌≡◌, ◌<◌, ◌∙◌, ap, arith, false, length, refl, set, slice_get, Some, subst, sym, true}
use Rattle.std.proofs.lemmas.Option.{slice_get_read}
use Rattle.build_constants.proofs.KnownLemmas.{fewer-open, named-here, never, one-more}
use Rattle.build_constants.specs.Known.{IsKnown, are_settled, count_open, is_settled_at}
use Rattle.build_constants.specs.SettledSynonyms.{constant_with, named_by}
use Rattle.build_constants.proofs.synonyms.known.settle.Goals as goal
use Rattle.build_constants.proofs.synonyms.known.settle.Goals.{then-is_settled-via-then-is_settled, then-is_settled-via-else-is_settled+then-not-are_settled}

pub returns-then-is_settled-clause-stuck : goal.returns-then-is_settled-clause-stuck
returns-then-is_settled-clause-stuck c = λ done synonym at is.
    let list = c.args.synonyms.now in
    let settled = c.args.known.now.settled.items in
    let number = c.args.number in
    let among : number < length c.args.named.now = omega (arith, c.if-number-named.false) in
    elim c.then-is_settled.branch [
      | then-is_settled-via-then-is_settled w ↦ never (w.if-is_settled.ensures ∙ is)
      | then-is_settled-via-else-is_settled+then-not-are_settled w ↦
          ap (are_settled settled)
          (sym (named-here list c.args.named.now (λ numbers. numbers.items) number w.index-named-number.result synonym
          c.requires.named (slice_get_read c.args.named.now (length c.args.named.now) number
          w.index-named-number.result refl among w.index-named-number.is) at)
          ∙ sym w.deref.ensures.value)
          ∙ sym w.if-not-are_settled.ensures
    ]

pub returns-clause-known : goal.returns-clause-known
returns-clause-known c =
    let list = c.args.synonyms.now in
    let table = c.args.known.now.constants.items in
    let settled = c.args.known.now.settled.items in
    let number = c.args.number in
    let synonym = c.index-synonyms-number.result in
    let within : number < length list = omega (arith, c.if-number-synonyms.false) in
    let among : number < length c.args.named.now = omega (arith, c.if-number-named.false) in
    let at : slice_get list number ≡ Some synonym =
    slice_get_read list (length list) number synonym refl within c.index-synonyms-number.is in
    let is_open : is_settled_at settled number ≡ false = sym c.if-is_settled.ensures in
    let ready : are_settled settled (named_by synonym) ≡ true =
    ap (are_settled settled)
    (sym (named-here list c.args.named.now (λ numbers. numbers.items) number c.index-named-number.result synonym
    c.requires.named (slice_get_read c.args.named.now (length c.args.named.now) number
    c.index-named-number.result refl among c.index-named-number.is) at)
    ∙ sym c.deref.ensures.value)
    ∙ sym c.if-not-are_settled.ensures in
    subst (λ t. IsKnown list t c.put.new.self.settled.items)
    (sym (c.put.ensures.constants
    ∙ ap (set table number) (c.in_ok-constant.ensures.constant ∙ ap (λ t. constant_with t synonym) c.deref-2.ensures.value)))
    (subst (λ s. IsKnown list (set table number (constant_with table synonym)) s) (sym c.put.ensures.settled)
    (one-more list table settled c.requires.known number synonym at is_open ready))

pub returns-clause-fewer : goal.returns-clause-fewer
returns-clause-fewer c = λ done.
    let settled = c.args.known.now.settled.items in
    let number = c.args.number in
    let within : number < length settled = omega (arith, c.if-number-synonyms.false, c.requires.known.each) in
    subst (λ s. count_open s < count_open settled) (sym c.put.ensures.settled)
    (fewer-open settled number within (sym c.if-is_settled.ensures))
