-- The tables of a process that is made agree with one another.
use Rattle.std.proofs.Common.{◌≡◌, ◌∙◌, ◌≤◌, ℕ, Bool, All, IfSome, List, [], ◌∷◌, Option, None, Some, length, subst, sym}
use Rattle.std.specs.List.{AllZip}
use Rattle.std.proofs.lemmas.List.Elements.{All-cons, All-head, All-nil, All-tail, All-weaker}
use Rattle.build_process.specs.declared.transitions.Transitions.{Transitions}
use Rattle.build_states.specs.Shared.{IsOfName}
use Rattle.build_states.specs.States.{Table}
use Rattle.build_states.specs.Context.{Context}
use Rattle.build_states.specs.Reading.{body_read}
use Rattle.sdl_system.specs.Soundness.{Keeps}
use Rattle.sdl_system.specs.declared.id.NodeId.{NodeId}
use Rattle.sdl_system.specs.declared.process.Process.{Process}
use Rattle.sdl_system.specs.declared.state.StateTable.{StateTable}
use Rattle.build_tables.specs.Agreeing.{AreEnabling}
use Rattle.build_tables.specs.Linked.{IsTable}
use Rattle.build_tables.proofs.AgreeingLemmas.{table-agrees}
use Rattle.build_tables.proofs.EnablingLemmas.{are-enabling}
use Rattle.sdl_tree.specs.Tree.{BodyPart}
use Rattle.build_process.specs.Made.{MadeOf, Said}
use Rattle.build_process.specs.declared.heading.Heading.{Heading}

-- so it is with what each state of the text says
pub named-enabling : (context : Context) (body : List BodyPart) (said : List Table) →
    All (IsOfName (body_read context body).parts) said → All AreEnabling said
named-enabling context body said of =
    All-weaker (IsOfName (body_read context body).parts) AreEnabling
    (λ one is. subst AreEnabling (sym is.is) (are-enabling context body is.name)) said of

module _ (entries : List NodeId) (valid : List Bool) (count : ℕ) (long : length valid ≤ count) (process : Process)
    (is : process.valid ≡ valid) where
  table-keeps : (said : Table) (table : StateTable) → IsTable entries valid count said table → AreEnabling said →
      Keeps count process table
  table-keeps said table holds are =
      let agrees = table-agrees entries valid count process is long said table holds in
      record {
        selects = agrees.selects;
        past = λ signal past. sym (agrees.selects signal) ∙ holds.classes.past signal past;
        waits = agrees.waits are;
      }

  tables-keep : (said : List Table) (tables : List StateTable) → AllZip (IsTable entries valid count) said tables →
      All AreEnabling said → All (Keeps count process) tables
  tables-keep [] [] hold are = All-nil (Keeps count process)
  tables-keep [] (table ∷ tables) hold are = absurd hold
  tables-keep (one ∷ said) [] hold are = absurd hold
  tables-keep (one ∷ said) (table ∷ tables) hold are =
      All-cons (Keeps count process) table tables (table-keeps one table hold.0 (All-head AreEnabling one said are))
      (tables-keep said tables hold.1 (All-tail AreEnabling one said are))

pub made-keeps : (count : ℕ) (said : Said) (transitions : Transitions) (heading : Heading) →
    All AreEnabling said.tables → (made : Option Process) → MadeOf count said transitions heading made →
    IfSome made (λ process. length heading.valid ≤ count → All (Keeps count process) process.tables.items)
made-keeps count said transitions heading are None missing = tt
made-keeps count said transitions heading are (Some process) made = λ long.
    tables-keep transitions.entries.items heading.valid count long process made.headed.valid said.tables
    process.tables.items made.tables are
