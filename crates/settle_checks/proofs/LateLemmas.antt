-- What is left of what a sender sends to an instance, with one signal more.
use Rattle.std.proofs.Common.{◌≡◌, ◌∙◌, ◌<◌, ◌≤◌, ◌+◌, ◌-◌, ap, append-nil, arith, cond, drop, get_or, length, refl, subst, sym, take, ℕ, Bool, true, false, List, [], ◌∷◌, ◌++◌, All}
use Rattle.std.proofs.lemmas.List.{drop-append-le, drop_all, length-append, take-append-le, take_all, take_more}
use Rattle.std.proofs.lemmas.List.Elements.{All-nil, All-push, filter-append}
use Rattle.run_record.specs.Event.{Event}
use Rattle.run_semantics.specs.World.{time_after_one}
use Rattle.settle_meaning.specs.Times.{time_by}
use Rattle.settle_checks.proofs.CourseLemmas.{time_more}
use Rattle.settle_checks.proofs.SendingLemmas.{sent_more}
use Rattle.settle_checks.specs.Flows.{AreFlows, is_with, passes_out, sent_passes}
use Rattle.settle_checks.specs.Late.{IsLate, IsRestOf, IsSightOf, passes_with}
use Rattle.settle_checks.specs.declared.summing.flows.Flow.{Flow}
use Rattle.settle_checks.specs.declared.summing.flows.Pass.{Pass}

module _ (done : List Pass) (pass : Pass) (number missing born : ℕ) where
  abbrev now : List Pass
  now = passes_with number done

  abbrev then : List Pass
  then = passes_with number (done ++ pass ∷ [])

  then_is : (b : Bool) → is_with number pass ≡ b → then ≡ now ++ cond b (pass ∷ []) []
  then_is b is =
      filter-append (is_with number) done (pass ∷ []) ∙ ap (λ (c : Bool). now ++ cond c (pass ∷ []) []) is

  -- a signal to another
  pub rest_other : (left left_then : ℕ) (flows flows_then : List Flow) → is_with number pass ≡ false
      → left_then ≡ left → flows_then ≡ flows → IsRestOf done number missing born left flows
      → IsRestOf (done ++ pass ∷ []) number missing born left_then flows_then
  rest_other left left_then flows flows_then other left_same flows_same is = record {
    left_are = left_same ∙ is.left_are ∙ ap (λ (l : List Pass). missing - length l) (sym same);
    late = record {
      early = subst (λ (l : List Pass). All (λ (p : Pass). p.at ≤ born) (take missing l)) (sym same) is.late.early;
      rest = subst (λ (f : List Flow). AreFlows (drop missing then) f) (sym flows_same)
          (subst (λ (l : List Pass). AreFlows (drop missing l) flows) (sym same) is.late.rest);
    };
  } where
    same : then ≡ now
    same = then_is false other ∙ append-nil now

  module _ (to_it : is_with number pass ≡ true) where
    then_more : then ≡ now ++ pass ∷ []
    then_more = then_is true to_it

    then_long : length then ≡ length now + 1
    then_long = ap (λ (l : List Pass). length l) then_more ∙ length-append now (pass ∷ [])

    -- none is missing any more
    pub rest_more : (left left_then : ℕ) (flows flows_then : List Flow) → left ≡ 0 → left_then ≡ left
        → ((passes : List Pass) → AreFlows passes flows → AreFlows (passes ++ pass ∷ []) flows_then)
        → IsRestOf done number missing born left flows
        → IsRestOf (done ++ pass ∷ []) number missing born left_then flows_then
    rest_more left left_then flows flows_then none left_same added is = record {
      left_are = let less = is.left_are in omega (arith, none, left_same, less, then_long);
      late = record {
        early = subst (λ (l : List Pass). All (λ (p : Pass). p.at ≤ born) l) (sym taken) is.late.early;
        rest = subst (λ (l : List Pass). AreFlows l flows_then) (sym dropped) (added (drop missing now) is.late.rest);
      };
    } where
      over : missing ≤ length now
      over = let less = is.left_are in omega (arith, none, less)

      taken : take missing then ≡ take missing now
      taken = ap (take missing) then_more ∙ take-append-le missing now (pass ∷ []) over

      dropped : drop missing then ≡ drop missing now ++ pass ∷ []
      dropped = ap (drop missing) then_more ∙ drop-append-le missing now (pass ∷ []) over

    -- this one is missing
    pub rest_less : (left left_then : ℕ) (flows flows_then : List Flow) → left_then + 1 ≡ left → flows_then ≡ flows
        → pass.at ≤ born → IsRestOf done number missing born left flows
        → IsRestOf (done ++ pass ∷ []) number missing born left_then flows_then
    rest_less left left_then flows flows_then less flows_same early is = record {
      left_are = let was = is.left_are in omega (arith, less, was, then_long);
      late = record {
        early = subst (λ (l : List Pass). All (λ (p : Pass). p.at ≤ born) l) (sym taken)
            (All-push (λ (p : Pass). p.at ≤ born) now pass
            (subst (λ (l : List Pass). All (λ (p : Pass). p.at ≤ born) l) all_now is.late.early) early);
        rest = subst (λ (f : List Flow). AreFlows (drop missing then) f) (sym flows_same)
            (subst (λ (l : List Pass). AreFlows l flows) (none_now ∙ sym none_then) is.late.rest);
      };
    } where
      under : length now + 1 ≤ missing
      under = let was = is.left_are in omega (arith, less, was)

      long : length (now ++ pass ∷ []) ≤ missing
      long = let is_long = length-append now (pass ∷ []) in omega (arith, under, is_long)

      taken : take missing then ≡ now ++ pass ∷ []
      taken = ap (take missing) then_more ∙ take_all missing (now ++ pass ∷ []) long

      all_now : take missing now ≡ now
      all_now = take_all missing now (omega (arith, under))

      none_now : drop missing now ≡ []
      none_now = drop_all missing now (omega (arith, under))

      none_then : drop missing then ≡ []
      none_then = ap (drop missing) then_more ∙ drop_all missing (now ++ pass ∷ []) long

-- ---- all signals

pub rest_none : (passes : List Pass) (number missing born : ℕ) → IsRestOf (take 0 passes) number missing born missing []
rest_none passes number missing born = record {
  left_are = omega arith;
  late = record {
    early = subst (λ (l : List Pass). All (λ (p : Pass). p.at ≤ born) l) (sym (take_all missing [] (omega arith)))
        (All-nil (λ (p : Pass). p.at ≤ born));
    rest = subst (λ (l : List Pass). AreFlows l []) (sym (drop_all missing [] (omega arith))) (λ P. refl);
  };
}

pub rest_next : (passes : List Pass) (i : ℕ) (d : Pass) (number missing born left : ℕ) (flows : List Flow)
    → i < length passes
    → IsRestOf (take i passes ++ get_or passes i d ∷ []) number missing born left flows
    → IsRestOf (take (i + 1) passes) number missing born left flows
rest_next passes i d number missing born left flows within is =
    subst (λ (l : List Pass). IsRestOf l number missing born left flows) (sym (take_more passes i d within)) is

pub rest_all : (passes : List Pass) (i number missing born left : ℕ) (flows : List Flow) → length passes ≤ i
    → IsRestOf (take i passes) number missing born left flows → IsLate passes number missing born flows
rest_all passes i number missing born left flows past is =
    subst (λ (l : List Pass). IsLate l number missing born flows) (take_all i passes past) is.late

-- ---- the signals of a record

pub sight_none : IsSightOf [] 0 []
sight_none = record { time_is = refl; passes_are = refl }

module _ (done : List Event) (e : Event) (time time_then : ℕ) (passes : List Pass)
    (is : IsSightOf done time passes) (time_is : time_then ≡ time_after_one time e) where
  then_time : time_then ≡ time_by 0 (done ++ e ∷ [])
  then_time = time_is ∙ ap (λ t. time_after_one t e) is.time_is ∙ sym (time_more 0 done e)

  then_sent : (more : List Pass) → more ≡ passes_out time e → sent_passes 0 (done ++ e ∷ []) ≡ passes ++ more
  then_sent more same =
      sent_more 0 done e
      ∙ ap (λ t. sent_passes 0 done ++ passes_out t e) (sym is.time_is)
      ∙ ap (λ (l : List Pass). sent_passes 0 done ++ l) (sym same)
      ∙ ap (λ (l : List Pass). l ++ more) (sym is.passes_are)

  pub sight_nothing : [] ≡ passes_out time e → IsSightOf (done ++ e ∷ []) time_then passes
  sight_nothing none = record {
    time_is = then_time;
    passes_are = sym (then_sent [] none ∙ append-nil passes);
  }

  pub sight_more : (pass : Pass) (new : List Pass) → pass ∷ [] ≡ passes_out time e → new ≡ passes ++ pass ∷ []
      → IsSightOf (done ++ e ∷ []) time_then new
  sight_more pass new one pushed = record {
    time_is = then_time;
    passes_are = pushed ∙ sym (then_sent (pass ∷ []) one);
  }
