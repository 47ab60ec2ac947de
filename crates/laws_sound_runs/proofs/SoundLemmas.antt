-- What is of a kind names variables and timers that are there.
use Rattle.std.proofs.Common.{◌≡◌, List, length, refl, ap, sym, suc}
use Rattle.std.proofs.lemmas.Option.{slice_get_within}
use Rattle.laws_sound_runs.specs.Kinds.{FitPlaces, HasKind, and_place, no_place, of_binary, of_now, of_pid, of_timer, of_unary, of_value, of_variable}
use Rattle.laws_sound_runs.specs.TermLaws.{FittingTermsAreSound, KindedTermsAreSound}
use Rattle.build_expressions.specs.declared.operand_sort.OperandSort.{OperandSort}
use Rattle.sdl_system.specs.Soundness.{AreSoundTerms, IsSoundTerm, count_terms}
use Rattle.sdl_system.specs.System.{SystemValue}
use Rattle.sdl_system.specs.Term.{Term, Terms}
use Rattle.sdl_system.specs.declared.process.Process.{Process}
use Rattle.sdl_system.specs.declared.sort.Sort.{Sort}

module _ (system : SystemValue) (process : Process) where
  mutual
    pub kinded-sound : (kind : OperandSort) (term : Term) → HasKind system process kind term →
        IsSoundTerm system process term
    kinded-sound _ _ (of_value kind v is) = tt
    kinded-sound _ _ (of_variable number v listed) = slice_get_within process.variables.items number.0 v listed
    kinded-sound _ _ of_now = tt
    kinded-sound _ _ (of_pid who) = tt
    kinded-sound _ _ (of_timer number signal timer values listed is fit) = (
      record {
        signal = signal;
        listed = listed;
        takes = sym (fitting-many signal.sorts.items values fit);
        timer = timer;
        some = is;
      },
      fitting-sound signal.sorts.items values fit,
    )
    kinded-sound _ _ (of_unary operator kind operand result is has) = kinded-sound kind operand has
    kinded-sound _ _ (of_binary operator one other left right result is has also) =
        (kinded-sound one left has, kinded-sound other right also)

    pub fitting-sound : (sorts : List Sort) (terms : Terms) → FitPlaces system process sorts terms →
        AreSoundTerms system process terms
    fitting-sound _ _ no_place = tt
    fitting-sound _ _ (and_place kind sort sorts first rest fitting has also) =
        (kinded-sound kind first has, fitting-sound sorts rest also)

    pub fitting-many : (sorts : List Sort) (terms : Terms) → FitPlaces system process sorts terms →
        count_terms terms ≡ length sorts
    fitting-many _ _ no_place = refl
    fitting-many _ _ (and_place kind sort sorts first rest fitting has also) = ap suc (fitting-many sorts rest also)

pub kinded-terms-are-sound : KindedTermsAreSound
kinded-terms-are-sound = kinded-sound

pub fitting-terms-are-sound : FittingTermsAreSound
fitting-terms-are-sound system process sorts terms fit =
    (fitting-sound system process sorts terms fit, fitting-many system process sorts terms fit)
