-- NoEnd is listed where a path runs off the end, and nowhere else.
use Rattle.std.proofs.Common.{◌≡◌, ℕ, inl, inr, true, List, [], ◌∷◌, flat_map, refl, ap, sym, subst}
use Rattle.std.proofs.lemmas.Slice.Eq.{bytes_eq-Decides}
use Rattle.std.specs.Str.{bytes_eq}
use Rattle.build_names.proofs.FaultLemmas.{each-if, each-of, in-each, in-if}
use Rattle.build_names.specs.FaultLaws.{Each, In}
use Rattle.build_names.specs.Faults.{Diagnostic, diagnostic_at}
use Rattle.build_names.specs.declared.faults.fault.Rule.TheVariants.{NoEnd}
use Rattle.sdl_tree.specs.Tree.{ProcessDefinition}
use Rattle.sdl_tree.specs.Words.{Spot}
use Rattle.build_flow.specs.Beginnings.{Beginning, beginnings}
use Rattle.build_flow.specs.Broken.{Begins, IsEndless}
use Rattle.build_flow.specs.Broken as broken
use Rattle.build_flow.specs.Ends.{beginning_faults, ends_faults, enters_named}
use Rattle.build_flow.specs.Laws.{begins}
use Rattle.build_flow.specs.Mentions.{Joined, Mention, Standing, is_named, join_names, process_joins, process_mentions}
use Rattle.build_flow.specs.Passing.{transition_passed}
use Rattle.build_flow.specs.Paths.{AtFirst, AtLabel, Origin}
use Rattle.build_flow.proofs.PathLaws.{or-cases, or-left, or-right, passed, runs}

pub joined-by : (mentions : List Mention) (text : List ℕ) → is_named (flat_map join_names mentions) text ≡ true →
    (name : Spot) × In (Joined name) mentions × (name.text ≡ text)
joined-by [] text is = absurd (let wrong : ⊥ = cc in wrong)
joined-by (Standing label ∷ rest) text is = let f = joined-by rest text is in (f.0, inr f.1, f.2)
joined-by (Joined name ∷ rest) text is =
    elim (or-cases (bytes_eq text name.text) (is_named (flat_map join_names rest) text) is) [
      | inl same ↦ (name, inl refl, sym ((bytes_eq-Decides text name.text).0 same))
      | inr later ↦ let f = joined-by rest text later in (f.0, inr f.1, f.2)
    ]

pub named-by : (mentions : List Mention) (name : Spot) → In (Joined name) mentions →
    is_named (flat_map join_names mentions) name.text ≡ true
named-by [] name at = absurd at
named-by (Standing label ∷ rest) name at =
    elim at [ inl e ↦ absurd (let wrong : ⊥ = cc in wrong) | inr i ↦ named-by rest name i ]
named-by (Joined other ∷ rest) name at =
    elim at [
      | inl e ↦ or-left (bytes_eq name.text other.text) (is_named (flat_map join_names rest) name.text)
          ((bytes_eq-Decides name.text other.text).1
          (let same : name ≡ other = cc in ap (λ (spot : Spot). spot.text) same))
      | inr i ↦ or-right (bytes_eq name.text other.text) (is_named (flat_map join_names rest) name.text)
          (named-by rest name i)
    ]

begins-there : (process : ProcessDefinition) (from : Origin) →
    begins (enters_named (process_joins process)) true from ≡ true → Begins process from
begins-there process AtFirst is = broken.at_first
begins-there process (AtLabel label) is =
    let f = joined-by (process_mentions process) label.text is in broken.joined label f.0 f.1 f.2

there-begins : (process : ProcessDefinition) (from : Origin) → Begins process from →
    begins (enters_named (process_joins process)) true from ≡ true
there-begins process from broken.at_first = refl
there-begins process from (broken.joined label name at same) =
    subst (λ text. is_named (process_joins process) text ≡ true) same (named-by (process_mentions process) name at)

endless : (process : ProcessDefinition) (beginning : Beginning) → In beginning (beginnings process) →
    transition_passed (enters_named (process_joins process)) beginning.transition true ≡ true →
    IsEndless process (diagnostic_at NoEnd beginning.word)
endless process beginning at is =
    let f = runs (enters_named (process_joins process)) beginning.transition true is in
    record {
      beginning = beginning;
      of_process = at;
      from = f.0;
      begins = begins-there process f.0 f.1;
      runs_off = f.2;
      told_is = refl;
    }

pub listed-endless : (process : ProcessDefinition) → Each (IsEndless process) (ends_faults process)
listed-endless process =
    each-of (IsEndless process) (beginning_faults (process_joins process)) (beginnings process)
    (λ beginning at. each-if (IsEndless process)
    (transition_passed (enters_named (process_joins process)) beginning.transition true) NoEnd beginning.word
    (endless process beginning at))

pub endless-listed : (process : ProcessDefinition) (fault : Diagnostic) → IsEndless process fault →
    In fault (ends_faults process)
endless-listed process fault at =
    let enters = enters_named (process_joins process) in
    in-each fault (beginning_faults (process_joins process)) (beginnings process) at.beginning at.of_process
    (subst (λ told. In told (beginning_faults (process_joins process) at.beginning)) (sym at.told_is)
    (in-if (transition_passed enters at.beginning.transition true) NoEnd at.beginning.word
    (passed enters at.runs_off true (there-begins process at.from at.begins))))
