use Rattle.std.proofs.Common.{◌∙◌}
use Rattle.sdl_tree.specs.Views.{tree_value}
use Rattle.sdl_engine.specs.Answer.{workers_by}
use Rattle.sdl_engine.specs.declared.options.Command.TheVariants as command
use Rattle.sdl_engine.proofs.AnswerLaws.{run_allows}
use Rattle.sdl_engine.proofs.BehaviourLemmas.{behaviours_of_text, some_behaviours}
use Rattle.sdl_engine.proofs.pipeline.run_texts.Goals as goal

pub returns-in-Ok-clause-ok : goal.returns-in-Ok-clause-ok
returns-in-Ok-clause-ok g c =
    let taken = c.in_ok-accepted.accepted in
    let accepted = c.in_ok-accepted.ensures.ok in
    rw (c.into_run.ensures.system, c.into_run.ensures.report, c.into_run.ensures.script, c.into_run.ensures.log) (record {
      tree = tree_value taken.tree;
      accepted = accepted;
      behaves = some_behaviours (tree_value taken.tree) taken.system accepted.built;
      ran = λ ps of.
          c.in-Ok.ensures.report ps (behaviours_of_text (tree_value taken.tree) taken.system accepted.built ps of);
      kept = λ ps of.
          c.in-Ok.ensures.log ps (behaviours_of_text (tree_value taken.tree) taken.system accepted.built ps of);
    })

pub returns-in-Err-clause-err : goal.returns-in-Err-clause-err
returns-in-Err-clause-err g c =
    let taken = c.in_ok-accepted.accepted in
    run_allows (workers_by g.E.Runner.threaded command.Run c.args.options.now.workers) c.args.texts.now c.in-Err.error
    c.in-Err.ensures.err (record {
      tree = tree_value taken.tree;
      system = taken.system;
      lines = taken.script.lines.items;
      accepted = c.in_ok-accepted.ensures.ok;
    })

pub returns-in-Ok-clause-off : goal.returns-in-Ok-clause-off
returns-in-Ok-clause-off g c = λ none. c.into_run.ensures.log ∙ c.in-Ok.ensures.off none

pub returns-in-Ok-clause-log : goal.returns-in-Ok-clause-log
returns-in-Ok-clause-log g c =
    rw (c.into_run.ensures.system, c.into_run.ensures.report, c.into_run.ensures.script, c.into_run.ensures.log)
    c.in-Ok.ensures.log
