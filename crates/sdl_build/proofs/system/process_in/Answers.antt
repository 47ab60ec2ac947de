use Rattle.std.proofs.Common.{◌∙◌, ap, length, map, refl, slice_get, subst, sym}
use Rattle.std.proofs.lemmas.Option.{slice_get_read}
use Rattle.sdl_build.proofs.MadeLemmas.{less-than, made-at-if, mapped-get, noted-at}
use Rattle.sdl_build.proofs.ProcessLemmas.{length-map}
use Rattle.sdl_build.specs.Around.{context_of}
use Rattle.sdl_build.specs.Headings.{IsValidSet}
use Rattle.build_definitions.specs.Seen.{process_seen}
use Rattle.sdl_build.proofs.system.process_in.Goals as goal

pub index-entry-requires : goal.index-entry-requires
index-entry-requires c =
    less-than c.args.place _ _ _ c.requires.within (length-map process_seen c.args.definitions.now.processes.items)
    c.args.definitions.now.processes.ok.0

pub process_at-requires-clause-listed : goal.process_at-requires-clause-listed
process_at-requires-clause-listed c =
    let entries = c.args.definitions.now.processes.items in
    ap (slice_get (map process_seen entries)) c.in_ok-number.ensures.same
    ∙ mapped-get process_seen entries c.args.place c.index-entry.result.now
    (slice_get_read entries (length entries) c.args.place c.index-entry.result.now refl
    (less-than c.args.place _ _ (length entries) c.requires.within (length-map process_seen entries) refl)
    c.index-entry.ensures)

pub process_at-requires-clause-valid : goal.process_at-requires-clause-valid
process_at-requires-clause-valid c =
    subst (λ n. IsValidSet (context_of c.args.definitions.now c.args.symbols.now c.args.constant_table.now
    c.args.connections.now)
    (record { 0 = n }) c.args.valid) (sym c.in_ok-number.ensures.same) c.requires.valid

pub returns-clause-made : goal.returns-clause-made
returns-clause-made c =
    let entries = c.args.definitions.now.processes.items in
    made-at-if (context_of c.args.definitions.now c.args.symbols.now c.args.constant_table.now c.args.connections.now)
    c.in_ok-number.number c.args.place (process_seen c.index-entry.result.now) c.process_at.result
    c.in_ok-number.ensures.same
    (mapped-get process_seen entries c.args.place c.index-entry.result.now
    (slice_get_read entries (length entries) c.args.place c.index-entry.result.now refl
    (less-than c.args.place _ _ (length entries) c.requires.within (length-map process_seen entries) refl)
    c.index-entry.ensures))
    c.process_at.ensures.made

pub returns-clause-noted : goal.returns-clause-noted
returns-clause-noted c =
    let entries = c.args.definitions.now.processes.items in
    noted-at (context_of c.args.definitions.now c.args.symbols.now c.args.constant_table.now c.args.connections.now)
    c.in_ok-number.number c.args.place (process_seen c.index-entry.result.now) _ _ c.process_at.result
    c.in_ok-number.ensures.same
    (mapped-get process_seen entries c.args.place c.index-entry.result.now
    (slice_get_read entries (length entries) c.args.place c.index-entry.result.now refl
    (less-than c.args.place _ _ (length entries) c.requires.within (length-map process_seen entries) refl)
    c.index-entry.ensures))
    c.process_at.ensures.noted
