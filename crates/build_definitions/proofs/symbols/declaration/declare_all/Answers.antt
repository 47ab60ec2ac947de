use Rattle.std.proofs.Common.{◌≡◌, ◌∙◌, ◌+◌, ◌++◌, [], ◌∷◌, ap, drop, sym, take}
use Rattle.std.proofs.lemmas.List.{drop_more, map-append, take_more}
use Rattle.build_definitions.proofs.EntryLemmas.{entries_in-more, noted-more}
use Rattle.build_definitions.specs.Entries.{duplicates_behind, entries_in, entries_of, entry_in, entry_of, standings}
use Rattle.build_names.specs.Faults.{least_of}
use Rattle.build_names.specs.Spaces.{names_of}
use Rattle.build_definitions.proofs.symbols.declaration.declare_all.Goals as goal

pub loop-declaration-preserved : goal.loop-declaration-preserved
loop-declaration-preserved g c =
    let all = c.args.declarations.now in
    let i = c.loop-declaration.declaration-index in
    let x = c.declaration-item.result in
    let within = c.loop-declaration-test.true in
    let before = entries_of (take i all) in
    let after = standings (entries_of (drop (i + 1) all)) in
    let old = c.loop-declaration.faults in
    let new = c.declare.new.faults in
    let taken : entries_of (take (i + 1) all) ≡ before ++ entry_of x ∷ [] =
    ap entries_of (take_more all i x within ∙ ap (λ y. take i all ++ y ∷ []) (sym c.declaration-item.is))
    ∙ map-append entry_of (take i all) (x ∷ []) in
    let left : drop i all ≡ x ∷ drop (i + 1) all =
    drop_more all i x within ∙ ap (λ y. y ∷ drop (i + 1) all) (sym c.declaration-item.is) in
    record {
      spaces = λ place.
          c.in_ok-declare.ensures.declared place
          ∙ ap (λ names. names ++ entry_in place (entry_of x)) (c.loop-declaration.invariant.spaces place)
          ∙ sym (entries_in-more place before (entry_of x))
          ∙ ap (entries_in place) (sym taken);
      noted =
          ap (λ entries. least_of new (duplicates_behind (standings entries) after)) taken
          ∙ noted-more old new before (entry_of x) after (names_of c.loop-declaration.spaces x.scope)
          (c.loop-declaration.invariant.spaces x.scope) c.in_ok-declare.ensures.noted
          ∙ ap (λ rest. least_of old (duplicates_behind (standings before) (standings (entries_of rest)))) (sym left)
          ∙ c.loop-declaration.invariant.noted;
    }
