use Rattle.std.proofs.Common.{◌∙◌, ap, arith, map, sym, take}
use Rattle.build_definitions.specs.Seen.{process_seen}
use Rattle.build_network.proofs.NumberLemmas.{joined-map-step}
use Rattle.build_network.specs.Processes.{faults_of, processes_faults}
use Rattle.build_names.proofs.FaultLemmas.{both_noted}
use Rattle.build_names.specs.Faults.{least_of}
use Rattle.build_network.proofs.processes.note_processes.Goals as goal

pub loop-index-preserved : goal.loop-index-preserved
loop-index-preserved c =
    let symbols = c.args.symbols.now in
    let entries = c.args.entries.now in
    let i = c.loop-index.index in
    let entry = c.index-entries-index.result in
    let old = c.args.faults.now in
    c.in_ok-note_process.ensures.noted
    ∙ ap (λ before. least_of before (faults_of symbols i (process_seen entry))) c.loop-index.invariant
    ∙ both_noted old (processes_faults symbols (map process_seen (take i entries)))
    (faults_of symbols i (process_seen entry))
    ∙ ap (least_of old)
    (sym (joined-map-step entries i entry c.loop-index-test.true c.index-entries-index.is process_seen
    (faults_of symbols) 0 i
    (omega arith)))
