use Rattle.std.proofs.Common.{◌≡◌, ◌∙◌, ap, map}
use Rattle.std.proofs.lemmas.Result.{IfOk-weaker}
use Rattle.build_definitions.specs.Seen.{signal_seen}
use Rattle.build_definitions.specs.Definitions.{rows_of}
use Rattle.build_definitions.proofs.EntryLemmas.{entries_in-meant, standings-meant}
use Rattle.build_definitions.specs.Entries.{Has, HasMeant, duplicates, entries_in, entries_of, entry_seen, standings}
use Rattle.build_definitions.specs.Meanings.{signal_entries, signals_from}
use Rattle.build_names.specs.Faults.{least_of}
use Rattle.build_expressions.specs.Scope.{meaning, signal_meaning}
use Rattle.build_definitions.proofs.symbols.signals.declare_signals.Goals as goal

-- the declarations are those of the table
all : (c : goal.After-drop-declarations) →
    map (entry_seen signal_meaning) c.deref-2.result.now ≡ signal_entries (rows_of c.args.definitions.now)
all c =
    ap (map (entry_seen signal_meaning)) c.deref-2.ensures.value
    ∙ c.in_ok-declarations.ensures
    ∙ ap (λ table. signals_from 0 (map signal_seen table)) c.deref.ensures.value

pub returns-clause-spaces : goal.returns-clause-spaces
returns-clause-spaces c =
    IfOk-weaker c.declare_all.result (λ spaces. Has spaces (entries_of c.deref-2.result.now))
    (λ spaces. HasMeant signal_meaning spaces (signal_entries (rows_of c.args.definitions.now))) (λ spaces has place.
    ap (meaning signal_meaning) (has place)
    ∙ entries_in-meant signal_meaning place c.deref-2.result.now
    ∙ ap (entries_in place) (all c)) c.declare_all.ensures.spaces

pub returns-clause-noted : goal.returns-clause-noted
returns-clause-noted c =
    IfOk-weaker c.declare_all.result
    (λ spaces. c.declare_all.new.faults
    ≡ least_of c.args.faults.now (duplicates (standings (entries_of c.deref-2.result.now))))
    (λ spaces. c.declare_all.new.faults
    ≡ least_of c.args.faults.now (duplicates (standings (signal_entries (rows_of c.args.definitions.now)))))
    (λ spaces is.
    is
    ∙ ap (λ names. least_of c.args.faults.now (duplicates names))
    (standings-meant signal_meaning c.deref-2.result.now ∙ ap standings (all c))) c.declare_all.ensures.noted
