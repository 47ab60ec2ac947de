-- What a state says, one part behind others.
use Rattle.std.proofs.Common.{◌≡◌, ◌∙◌, ◌+◌, ◌<◌, ◌++◌, ℕ, Bool, List, [], ◌∷◌, Option, ap, get_or, if◌then◌else◌, length, map, sym, take}
use Rattle.std.proofs.lemmas.Grind.{flat_map-append}
use Rattle.std.proofs.lemmas.List.Elements.{filter-append}
use Rattle.std.proofs.lemmas.List.Sums.{fold-append}
use Rattle.build_names.proofs.FaultLemmas.{both_noted}
use Rattle.build_names.specs.Faults.{Diagnostic, least_of}
use Rattle.build_states.specs.Listed.{part_value}
use Rattle.build_states.specs.Reading as plain
use Rattle.build_states.specs.States.{Table, answers_in, continuous_in, enabling_in, is_part_of, mentions_in, no_answers, parts_of, state_faults, table_of, twice_faults, with_mention, with_parts}
use Rattle.build_states.specs.declared.stimuli.reading.Part.{Part}
use Rattle.build_states.proofs.AnswerLemmas.{taken-more, twice-append}

mentions-append : (xs ys : List plain.Part) → mentions_in (xs ++ ys) ≡ mentions_in xs ++ mentions_in ys
mentions-append xs ys = flat_map-append (λ part. part.mentions) xs ys

pub with_parts-append : (xs ys : List plain.Part) → with_parts (table_of xs) ys ≡ table_of (xs ++ ys)
with_parts-append xs ys =
    let answers =
    sym (ap answers_in (mentions-append xs ys) ∙ fold-append with_mention no_answers (mentions_in xs)
    (mentions_in ys)) in
    let enabling = sym (flat_map-append (λ part. part.enabling) xs ys) in
    let continuous = sym (flat_map-append (λ part. part.continuous) xs ys) in
    ap (λ a. record {
      answers = a;
      enabling = enabling_in xs ++ enabling_in ys;
      continuous = continuous_in xs
          ++ continuous_in ys;
    })
    answers
    ∙ ap (λ e. record {
      answers = answers_in (mentions_in (xs ++ ys));
      enabling = e;
      continuous = continuous_in xs
          ++ continuous_in ys;
    })
    enabling
    ∙ ap (λ s. record {
      answers = answers_in (mentions_in (xs ++ ys));
      enabling = enabling_in (xs ++ ys);
      continuous = s;
    })
    continuous

pub state_faults-append : (xs ys : List plain.Part) →
    state_faults (xs ++ ys) ≡ state_faults xs ++ twice_faults (table_of xs).answers (mentions_in ys)
state_faults-append xs ys =
    ap (twice_faults no_answers) (mentions-append xs ys) ∙ twice-append no_answers (mentions_in xs) (mentions_in ys)

-- one more part, where it belongs to the state of this name
module _ (name : List ℕ) (xs : List Part) (i : ℕ) (x : Part) (below : i < length xs) (is : x ≡ get_or xs i x)
    (test : Bool) (tested : test ≡ is_part_of name (part_value x).states)
    (table : Table) (before : table ≡ table_of (parts_of name (map part_value (take i xs)))) where
  parts-more : parts_of name (map part_value (take (i + 1) xs))
      ≡ parts_of name (map part_value (take i xs)) ++ (if test then part_value x ∷ [] else [])
  parts-more =
      let done = map part_value (take i xs) in
      ap (parts_of name) (taken-more part_value xs i x below is)
      ∙ filter-append (λ part. is_part_of name part.states) done (part_value x ∷ [])
      ∙ ap (λ b. parts_of name done ++ (if b then part_value x ∷ [] else [])) (sym tested)

  pub part-added : (new : Table) → new ≡ with_parts table (if test then part_value x ∷ [] else []) →
      new ≡ table_of (parts_of name (map part_value (take (i + 1) xs)))
  part-added new added =
      let here = if test then part_value x ∷ [] else [] in
      added ∙ ap (λ t. with_parts t here) before
      ∙ with_parts-append (parts_of name (map part_value (take i xs))) here
      ∙ ap table_of (sym parts-more)

  pub part-noted : (old now new : Option Diagnostic) →
      now ≡ least_of old (state_faults (parts_of name (map part_value (take i xs)))) →
      new ≡ least_of now (twice_faults table.answers (mentions_in (if test then part_value x ∷ [] else []))) →
      new ≡ least_of old (state_faults (parts_of name (map part_value (take (i + 1) xs))))
  part-noted old now new noted added =
      let done = parts_of name (map part_value (take i xs)) in
      let here = if test then part_value x ∷ [] else [] in
      added
      ∙ ap (λ t. least_of now (twice_faults t.answers (mentions_in here))) before
      ∙ ap (λ told. least_of told (twice_faults (table_of done).answers (mentions_in here))) noted
      ∙ both_noted old (state_faults done) (twice_faults (table_of done).answers (mentions_in here))
      ∙ ap (least_of old) (sym (ap state_faults parts-more ∙ state_faults-append done here))
