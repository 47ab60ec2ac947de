use Rattle.std.proofs.Common.{◌≡◌, ◌∙◌, ◌++◌, ◌∷◌, [], Some, ap, flat_map, map, rules, subst, sym, take}
use Rattle.std.proofs.lemmas.List.{take_all}
use Rattle.build_names.specs.Faults.{least_of}
use Rattle.sdl_tree.specs.Views.{name_value}
use Rattle.build_states.specs.Listed.{part_value}
use Rattle.build_states.specs.Outlined.{seen_in}
use Rattle.build_states.specs.Shared.{IsKnown, faults_by, known_in, states_listed, table_at, table_by}
use Rattle.build_states.specs.States.{named_faults, tables_of}
use Rattle.build_states.specs.Tabled.{names_listed, table_value}
use Rattle.build_states.specs.Turned.{turns_of}
use Rattle.build_states.proofs.AnswerLemmas.{taken-more}
use Rattle.build_states.proofs.ShareLemmas.{HaveTables, as-many, own-faults, own-table, states-more, states-noted, tables-had, tables-shared}
use Rattle.build_states.proofs.shared.share.Goals as goal

pub loop-name-preserved : goal.loop-name-preserved
loop-name-preserved c =
    let parts = map part_value c.args.parts.now in
    let outline = c.args.outline.now in
    let stars = outline.stars.items in
    let turns = c.get-turns.result.now in
    let names = c.args.names.now in
    let i = c.loop-name.name-index in
    let item = c.name-item.result in
    let name = name_value item.now in
    let done = names_listed (take i names) in
    let seen : record { stars = stars; turns = turns } ≡ seen_in name.text (states_listed parts) =
    ap (λ ts. record { stars = stars; turns = ts }) (c.get-turns.ensures ∙ ap (turns_of outline.turns) c.deref.ensures)
    ∙ c.requires name.text in
    let lent = c.deref-in-loop-name.ensures.value in
    let old = map table_value c.loop-name.tables.items in
    let new = map table_value c.table_of.new.tables.items in
    let next = taken-more (λ one. name_value one.now) names i item c.loop-name-test.true c.name-item.is in
    record {
      known = subst (λ list. IsKnown parts list c.table_of.new.known new c.table_of.new.faults) lent
          c.in_ok-table.ensures.known;
      read =
          ap (map (table_at new)) c.in_ok-push.ensures.items
          ∙ states-more parts done name old new c.loop-name.of_states.items c.in_ok-table.table
          c.in_ok-table.ensures.kept c.loop-name.invariant.read
          (c.in_ok-table.ensures.read ∙ ap (λ list. Some (table_by parts list turns)) lent
          ∙ ap (λ t. Some t) (own-table parts stars turns name seen))
          ∙ ap (λ list. map (λ t. Some t) (tables_of parts list)) (sym next);
      each =
          c.in_ok-table.ensures.each (record {
            name = name;
            is = ap (λ list. table_by parts list turns) lent ∙ own-table parts stars turns name seen;
          }) c.loop-name.invariant.each;
      had =
          subst (HaveTables parts c.table_of.new.known c.push.new.self.items) (sym next)
          (subst (λ list. HaveTables parts c.table_of.new.known list (done ++ name ∷ []))
          (sym c.in_ok-push.ensures.items)
          (tables-had parts c.loop-name.known c.table_of.new.known c.loop-name.of_states.items c.in_ok-table.table done
          name c.in_ok-table.ensures.stays
          (as-many parts done old c.loop-name.of_states.items c.loop-name.invariant.read)
          c.loop-name.invariant.had
          (subst (λ ts. known_in c.table_of.new.known ts ≡ Some c.in_ok-table.table) (ap (λ s. s.turns) seen)
          c.in_ok-table.ensures.found)));
      noted =
          states-noted parts done name c.args.faults.now c.loop-name.faults c.table_of.new.faults
          c.loop-name.invariant.noted
          (c.in_ok-table.ensures.noted ∙ ap (λ list. least_of c.loop-name.faults (faults_by parts list turns)) lent
          ∙ ap (least_of c.loop-name.faults) (own-faults parts stars turns name seen))
          ∙ ap (λ list. least_of c.args.faults.now (flat_map (named_faults parts) list)) (sym next);
    }

pub returns-clause-shared : goal.returns-clause-shared
returns-clause-shared c =
    let parts = map part_value c.args.parts.now in
    let known = c.loop-name.known in
    let numbers = c.loop-name.of_states.items in
    let names = c.args.names.now in
    let all : take c.loop-name.name-index names ≡ names = take_all c.loop-name.name-index names (search rules) in
    tables-shared parts known numbers (names_listed names)
    (subst (λ list. HaveTables parts known numbers (names_listed list)) all c.loop-name.invariant.had)
