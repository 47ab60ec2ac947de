-- A roster as it is made, process by process.
use Rattle.std.proofs.Common.{◌≡◌, ℕ, ◌+◌, ◌<◌, ◌≤◌, List, [], ◌∷◌, ◌++◌, length, take, Some, None, Option, All, get_or, sym, refl, ap, subst, ◌∙◌, arith}
use Rattle.std.proofs.lemmas.List.{map_more, map_push, take_all}
use Rattle.std.proofs.lemmas.List.Elements.{All-nil, All-push}
use Rattle.sdl_system.specs.declared.process.Process.{Process}
use Rattle.threads_ports.specs.Instances.{InstancesValue, AreAscending, AreWithinLimit, least, none_of}
use Rattle.threads_ports.specs.NumberSets.{IsAscending}
use Rattle.threads_ports.specs.Roster.{IsKept, least_living, none_living}

-- it has the first i of these processes, in none of which somebody lives
pub record IsMade (processes : List Process) (i : ℕ) (roster : List InstancesValue) (at_hand : List (Option ℕ))
    : Type 0 where
  pub roster_is : roster ≡ none_living (take i processes)
  pub kept : IsKept roster at_hand

none_within : (maximum : Option ℕ) → AreWithinLimit (none_of maximum)
none_within None = tt
none_within (Some most) = omega arith

none_ascends : IsAscending []
none_ascends i j d lt bound = absurd (omega arith)

pub made_none : (processes : List Process) (roster : List InstancesValue) (at_hand : List (Option ℕ))
    → roster ≡ [] → at_hand ≡ [] → IsMade processes 0 roster at_hand
made_none processes roster at_hand none first =
    rw (none, first) record {
      roster_is = refl;
      kept = record { least_is = refl; within = All-nil AreWithinLimit; ascending = All-nil AreAscending };
    }

pub made_more : (processes : List Process) (i : ℕ) (roster more : List InstancesValue)
    (at_hand firsts : List (Option ℕ)) (p : Process) (new : InstancesValue)
    → IsMade processes i roster at_hand → i < length processes → p ≡ get_or processes i p → new ≡ none_of p.maximum
    → more ≡ roster ++ new ∷ [] → firsts ≡ at_hand ++ None ∷ [] → IsMade processes (i + 1) more firsts
made_more processes i roster more at_hand firsts p new made lt p_is new_is more_is firsts_is = record {
  roster_is =
      more_is ∙ ap (λ r. r ++ new ∷ []) made.roster_is
      ∙ ap (λ x. none_living (take i processes) ++ x ∷ []) (new_is ∙ ap (λ (q : Process). none_of q.maximum) p_is)
      ∙ sym (map_more (λ (q : Process). none_of q.maximum) processes i p lt);
  kept = record {
    least_is =
        firsts_is ∙ ap (λ l. l ++ None ∷ []) made.kept.least_is
        ∙ ap (λ n. least_living roster ++ n ∷ []) (sym (ap least new_is))
        ∙ sym (map_push least roster new) ∙ ap least_living (sym more_is);
    within =
        subst (All AreWithinLimit) (sym more_is)
        (All-push AreWithinLimit roster new made.kept.within
        (subst AreWithinLimit (sym new_is) (none_within p.maximum)));
    ascending =
        subst (All AreAscending) (sym more_is)
        (All-push AreAscending roster new made.kept.ascending (subst AreAscending (sym new_is) none_ascends));
  };
}

pub made_all : (processes : List Process) (i : ℕ) (roster : List InstancesValue) (at_hand : List (Option ℕ))
    → IsMade processes i roster at_hand → length processes ≤ i → roster ≡ none_living processes
made_all processes i roster at_hand made past = made.roster_is ∙ ap none_living (take_all i processes past)
