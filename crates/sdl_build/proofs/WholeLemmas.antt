-- Where no rule is broken, no process is missing.
use Rattle.std.proofs.Common.{◌≡◌, ◌∙◌, ◌⊎◌, ◌<◌, ◌++◌, ◌==◌, ℕ, Bool, true, false, suc, List, [], ◌∷◌, Option, None, Some, ap, arith, inl, inr, length, refl, slice_get, subst, sym}
use Rattle.std.proofs.lemmas.Bool.{eqb-true, eqb-false}
use Rattle.std.proofs.lemmas.Option.{slice_get_within}
use Rattle.sdl_build.specs.Built.{IsMissing, IsTold}
use Rattle.sdl_build.specs.Faulty.{NotesBodies, definition_faults}
use Rattle.sdl_build.specs.Faulty as notes
use Rattle.sdl_build.specs.ProcessScope.{process_scope}
use Rattle.sdl_build.specs.Context.{IsResolved, Context, resolved_of}
use Rattle.sdl_build.proofs.MadeLemmas.{same-one}
use Rattle.laws_complete.proofs.LabelLemmas.{labels-given}
use Rattle.laws_complete.proofs.ProcessLemmas.{process-given}
use Rattle.laws_complete.proofs.SeenLemmas.{durations-given, scopes-complete}
use Rattle.laws_complete.specs.Complete.{IsComplete}
use Rattle.laws_complete.specs.Names.{IsFaultless}
use Rattle.laws_complete.specs.Processes.{IsGiven}
use Rattle.build_definitions.specs.Parts.{all_sort_faults}
use Rattle.build_definitions.specs.Rows.{ProcessRow}
use Rattle.build_definitions.specs.Definitions.{Rows}
use Rattle.build_constants.specs.ConstantTable.{all_durations, constant_table_faults}
use Rattle.build_constants.specs.Scopes.{scope_in}
use Rattle.build_constants.specs.Synonyms.{AreSynonymConstants}
use Rattle.build_definitions.specs.Meanings.{duplicate_faults}
use Rattle.build_definitions.specs.Spaces.{AreNamesOf}
use Rattle.build_network.specs.Network.{network_faults}
use Rattle.build_process.specs.Faulty.{body_faults}
use Rattle.build_process.specs.ProcessScope.{for_transitions}
use Rattle.build_names.proofs.FaultLemmas.{none_noted}
use Rattle.build_names.specs.Faults.{Diagnostic, least_of}
use Rattle.build_limits.specs.Limits.{limit_faults}
use Rattle.build_names.specs.declared.scopes.scope.ScopeId.TheVariants as scope
use Rattle.sdl_tree.specs.Tree.{Tree}

-- ---- nothing is told

pub told-none : (old : Option Diagnostic) (faults : List Diagnostic) → least_of old faults ≡ None →
    (old ≡ None) × (faults ≡ [])
told-none None faults is = (refl, none_noted faults is)
told-none (Some fault) faults is = absurd (omega (arith, ap length (none_noted (fault ∷ faults) is)))

pub none-left : {A : Type 0} (xs ys : List A) → xs ++ ys ≡ [] → xs ≡ []
none-left [] ys is = refl
none-left (x ∷ xs) ys is = absurd (omega (arith, ap length is))

pub none-right : {A : Type 0} (xs ys : List A) → xs ++ ys ≡ [] → ys ≡ []
none-right [] ys is = is
none-right (x ∷ xs) ys is = absurd (omega (arith, ap length is))

-- ---- of the processes

-- no rule is broken in the body of the process
record Unbroken (context : Context) (number : ℕ) (row : ProcessRow) : Type 0 where
  names : List (List ℕ)
  none : body_faults (process_scope context (record { 0 = number }) row.definition) row.definition names ≡ []

below-or-last : (n count : ℕ) → n < suc count → (n < count) ⊎ (n ≡ count)
below-or-last n count below = by (n == count) refl
  where
    by : (same : Bool) → (n == count) ≡ same → (n < count) ⊎ (n ≡ count)
    by true is = inr (eqb-true n count is)
    by false is = inl (omega (arith, below, eqb-false n count is))

unbroken-at : (context : Context) (old : Option Diagnostic) (count : ℕ) (new : Option Diagnostic) →
    NotesBodies context old count new →
    new ≡ None → (number : ℕ) (row : ProcessRow) → number < count →
    slice_get context.rows.processes number ≡ Some row → Unbroken context number row
unbroken-at context old count new notes.none is number row below listed = absurd (omega (arith, below))
unbroken-at context old count new (notes.more before mid last other stands there body) is number row below listed =
    let both = told-none mid (body_faults (process_scope context (record { 0 = before }) other.definition)
    other.definition body.names) (sym body.noted ∙ is) in
    elim (below-or-last number before below) [
      | inl less ↦ unbroken-at context old before mid stands both.0 number row less listed
      | inr same ↦
          let rows : other ≡ row =
          same-one other row (sym there ∙ ap (slice_get context.rows.processes) (sym same) ∙ listed) in
          subst (Unbroken context number) rows
          (subst (λ n. Unbroken context n other) (sym same) (record { names = body.names; none = both.1 }))
    ]

old-none : (context : Context) (old : Option Diagnostic) (count : ℕ) (new : Option Diagnostic) →
    NotesBodies context old count new →
    new ≡ None → old ≡ None
old-none context old count new notes.none is = is
old-none context old count new (notes.more before mid last other stands there body) is =
    old-none context old before mid stands
    (told-none mid (body_faults (process_scope context (record { 0 = before }) other.definition)
    other.definition body.names) (sym body.noted ∙ is)).0

-- ---- of the whole

module _ (tree : Tree) (context : Context) (defined : IsResolved tree (resolved_of context))
    (unbroken : IsTold tree context None) where
  mid-none : unbroken.mid ≡ None
  mid-none =
      (told-none unbroken.mid (network_faults context.rows context.symbols)
      (sym unbroken.of_rest.connections ∙ old-none context unbroken.of_rest.mid _ None unbroken.of_rest.bodies refl)).0

  no-definition : definition_faults tree (resolved_of context) ≡ []
  no-definition = none_noted _ (sym unbroken.of_definitions ∙ mid-none)

  behind-limits : all_sort_faults tree
      ++ (duplicate_faults context.rows ++ constant_table_faults context.rows context.symbols context.constants) ≡ []
  behind-limits = none-right (limit_faults tree) _ no-definition

  behind-sorts : duplicate_faults context.rows ++ constant_table_faults context.rows context.symbols context.constants
      ≡ []
  behind-sorts = none-right (all_sort_faults tree) _ behind-limits

  pub faultless : IsFaultless tree context.symbols context.constants
  faultless = record {
    named = subst (λ rows. AreNamesOf rows context.symbols) defined.rows defined.names;
    valued = subst (λ rows. AreSynonymConstants rows context.symbols context.constants) defined.rows defined.constants;
    sorts = none-left (all_sort_faults tree) _ behind-limits;
    constant_table = subst (λ rows. constant_table_faults rows context.symbols context.constants ≡ []) defined.rows
        (none-right (duplicate_faults context.rows) _ behind-sorts);
    duplicates = subst (λ rows. duplicate_faults rows ≡ []) defined.rows
        (none-left (duplicate_faults context.rows) _ behind-sorts);
  }

  -- what stands around a process lacks nothing
  pub is-given : (number : ℕ) (row : ProcessRow) → slice_get context.rows.processes number ≡ Some row →
      (names : List (List ℕ)) × IsGiven (process_scope context (record { 0 = number }) row.definition) row.definition
      names
  is-given number row listed =
      let own = unbroken-at context unbroken.of_rest.mid _ None unbroken.of_rest.bodies refl number row
      (slice_get_within context.rows.processes number row listed) listed in (
        own.names,
        record {
          complete = subst (λ rows. IsComplete (scope_in rows context.symbols context.constants
              (scope.Process (record { 0 = number })))) (sym defined.rows)
              (scopes-complete tree context.symbols context.constants faultless
              (scope.Process (record { 0 = number })));
          durations = durations-given tree context.symbols context.constants faultless
              (scope.Process (record { 0 = number }))
              (for_transitions (process_scope context (record { 0 = number }) row.definition))
              (ap (λ rows. scope_in rows context.symbols context.constants (scope.Process (record { 0 = number })))
              defined.rows)
              (ap (λ rows. all_durations rows context.symbols context.constants) defined.rows);
          labels = record {
            numbers = refl;
            different = (labels-given tree context.symbols context.constants faultless number row
                (subst (λ (rows : Rows). slice_get rows.processes number ≡ Some row) defined.rows listed)).different;
          };
          no_fault = own.none;
        },
      )

  -- so each is there
  pub none-missing : IsMissing context → ⊥
  none-missing missing =
      let given = is-given missing.number.0 missing.row missing.listed in
      process-given (process_scope context missing.number missing.row.definition) missing.row.definition given.0 given.1
      missing.refused
