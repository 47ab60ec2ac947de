use Rattle.std.proofs.Common.{◌∙◌, ap, sym}
use Rattle.sdl_build.proofs.ResolveLemmas.{to-the-end-if}
use Rattle.sdl_build.proofs.ProcessLemmas.{not-made}
use Rattle.sdl_build.specs.Around.{resolved_with}
use Rattle.sdl_build.specs.Outcome as outcome
use Rattle.build_definitions.specs.Definitions.{rows_of}
use Rattle.build_constants.specs.ConstantTable.{constant_table_faults}
use Rattle.build_names.specs.Faults.{least_of}
use Rattle.sdl_build.proofs.resolve.look_behind_names.Goals as goal

pub returns-then-is_past_limit : goal.returns-then-is_past_limit
returns-then-is_past_limit c = λ old was.
    outcome.up_to_limit c.args.symbols.now c.in_ok-constant_table.constant_table.constants.items c.requires
    c.in_ok-constant_table.ensures.constants
    (c.in_ok-constant_table.ensures.noted
    ∙ ap (λ begun. least_of begun (constant_table_faults (rows_of c.args.definitions.now) c.args.symbols.now
    c.in_ok-constant_table.constant_table.constants.items)) was)
    (sym c.if-is_past_limit.ensures)

pub look_on-requires : goal.look_on-requires
look_on-requires c = record {
  counts = c.in_ok-constant_table.ensures.counts;
  initials = c.in_ok-constant_table.ensures.initials;
  durations = c.in_ok-constant_table.ensures.durations;
}

pub returns : goal.returns
returns c =
    to-the-end-if (resolved_with c.args.definitions.now c.args.symbols.now c.in_ok-constant_table.constant_table) _
    c.of.new.faults _ c.look_on.result c.requires c.in_ok-constant_table.ensures.constants
    c.in_ok-constant_table.ensures.noted
    c.look_on.ensures

pub returns-in_err-constant_table : goal.returns-in_err-constant_table
returns-in_err-constant_table c = not-made c.from_residual.result _ _ c.from_residual.ensures.1
