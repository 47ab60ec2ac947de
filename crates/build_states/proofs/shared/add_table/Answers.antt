use Rattle.std.proofs.Common.{◌≡◌, ◌∙◌, ◌++◌, ◌∷◌, All, [], Some, ap, length, map, subst, sym}
use Rattle.std.proofs.lemmas.List.{length-map, map-append}
use Rattle.std.proofs.lemmas.List.Elements.{All-push}
use Rattle.build_names.specs.Faults.{least_of}
use Rattle.build_states.specs.Listed.{part_value}
use Rattle.build_states.specs.Outlined.{parts_at}
use Rattle.build_states.specs.Shared.{IsKnown, IsOfName, Keeps, KeepsKnown, faults_by, known_in, table_at, table_by}
use Rattle.build_states.specs.States.{state_faults, table_of}
use Rattle.build_states.specs.Tabled.{table_value}
use Rattle.build_states.proofs.ShareLemmas.{added-read, known-found, known-more, known-stays, tables-kept}
use Rattle.build_states.proofs.shared.add_table.Goals as goal

pub returns-clause-read : goal.returns-clause-read
returns-clause-read c =
    let parts = map part_value c.args.parts.now in
    let tables = map table_value c.args.tables.now.items in
    let table = table_value c.in_ok-table.table in
    let at : c.in_ok-number.number.0 ≡ length tables =
    ap (λ number. number.0) c.in_ok-number.ensures.same ∙ ap (λ list. length list) c.deref-2.ensures.value
    ∙ sym (length-map c.args.tables.now.items table_value) in
    let is : table ≡ table_by parts c.args.stars.now c.args.turns.now =
    c.in_ok-table.ensures.read
    ∙ ap (λ numbers. table_of (parts_at parts numbers)) (c.deref.ensures.value ∙ c.in_ok-numbers.ensures) in
    ap (λ list. table_at list c.in_ok-number.number)
    (ap (map table_value) c.in_ok-push.ensures.items
    ∙ map-append table_value c.args.tables.now.items (c.in_ok-table.table ∷ []))
    ∙ added-read parts c.args.stars.now c.args.turns.now c.args.known.now tables c.args.faults.now
    c.in_ok-number.number at c.requires.before table is

pub returns-clause-known : goal.returns-clause-known
returns-clause-known c =
    let parts = map part_value c.args.parts.now in
    let stars = c.args.stars.now in
    let turns = c.args.turns.now in
    let tables = map table_value c.args.tables.now.items in
    let table = table_value c.in_ok-table.table in
    let numbers = c.deref.ensures.value ∙ c.in_ok-numbers.ensures in
    let at : c.in_ok-number.number.0 ≡ length tables =
    ap (λ number. number.0) c.in_ok-number.ensures.same ∙ ap (λ list. length list) c.deref-2.ensures.value
    ∙ sym (length-map c.args.tables.now.items table_value) in
    let is : table ≡ table_by parts stars turns =
    c.in_ok-table.ensures.read ∙ ap (λ list. table_of (parts_at parts list)) numbers in
    let noted : c.read_table.new.faults ≡ least_of c.args.faults.now (faults_by parts stars turns) =
    c.in_ok-table.ensures.noted
    ∙ ap (λ list. least_of c.args.faults.now (state_faults (parts_at parts list))) numbers in
    subst (λ list. IsKnown parts stars c.add.new.self list c.read_table.new.faults)
    (sym (ap (map table_value) c.in_ok-push.ensures.items
    ∙ map-append table_value c.args.tables.now.items (c.in_ok-table.table ∷ [])))
    (subst (λ known. IsKnown parts stars known (tables ++ table ∷ []) c.read_table.new.faults)
    (sym c.in_ok-add.ensures)
    (known-more parts stars turns c.args.known.now tables c.args.faults.now c.in_ok-number.number at
    c.requires.before table c.read_table.new.faults is noted))

pub returns-clause-found : goal.returns-clause-found
returns-clause-found c =
    subst (λ known. known_in known c.args.turns.now ≡ Some c.in_ok-number.number) (sym c.in_ok-add.ensures)
    (known-found c.args.known.now c.args.turns.now c.in_ok-number.number c.requires.is_new)

pub returns-clause-stays : goal.returns-clause-stays
returns-clause-stays c =
    subst (KeepsKnown c.args.known.now) (sym c.in_ok-add.ensures)
    (known-stays c.args.known.now c.args.turns.now c.in_ok-number.number)

pub returns-clause-kept : goal.returns-clause-kept
returns-clause-kept c =
    let tables = map table_value c.args.tables.now.items in
    let table = table_value c.in_ok-table.table in
    subst (Keeps tables)
    (sym (ap (map table_value) c.in_ok-push.ensures.items
    ∙ map-append table_value c.args.tables.now.items (c.in_ok-table.table ∷ [])))
    (tables-kept tables table)

pub returns-clause-each : goal.returns-clause-each
returns-clause-each c =
    let parts = map part_value c.args.parts.now in
    let tables = map table_value c.args.tables.now.items in
    let table = table_value c.in_ok-table.table in
    let is : table ≡ table_by parts c.args.stars.now c.args.turns.now =
    c.in_ok-table.ensures.read
    ∙ ap (λ numbers. table_of (parts_at parts numbers)) (c.deref.ensures.value ∙ c.in_ok-numbers.ensures) in
    λ one each.
    subst (All (IsOfName parts))
    (sym (ap (map table_value) c.in_ok-push.ensures.items
    ∙ map-append table_value c.args.tables.now.items (c.in_ok-table.table ∷ [])))
    (All-push (IsOfName parts) tables table each (subst (IsOfName parts) (sym is) one))
