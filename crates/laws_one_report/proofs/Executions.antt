-- Two executions as long as each other are the same; an execution in two parts.
use Rattle.std.proofs.Common.{◌≡◌, ◌⊎◌, ◌∙◌, ◌+◌, ◌++◌, ◌<◌, ◌≤◌, ap, append_assoc, append-nil, arith, inl, inr, length, length-append, nat_le, refl, sym, ℕ, Bool, true, false, List, [], ◌∷◌}
use Rattle.std.proofs.lemmas.List.{map-append}
use Rattle.serial_order.specs.Execution.{Execution, Follows, Happening, begins, goes}
use Rattle.serial_order.specs.RunState.{RunState}
use Rattle.sdl_system.specs.Behaviour.{Behaviour}
use Rattle.laws_one_report.proofs.Follows.{follows_same}
use Rattle.laws_one_report.proofs.Lacking.{ByNumber, before_next, by_number}
use Rattle.laws_one_report.specs.Same.{AreSame, ExecutionsAgree, bare_whole, uncalled_one}

one_more : (happenings : List Happening) (next : Happening)
    → length (happenings ++ next ∷ []) ≡ length happenings + 1
one_more happenings next = length-append happenings (next ∷ [])

module _ (ps : List Behaviour) (time : ℕ) (from : RunState) where
  pub agree : {happenings others : List Happening} {last end : RunState} → Execution ps time from happenings last
      → Execution ps time from others end → ByNumber last.instances → ByNumber end.instances
      → length happenings ≡ length others → AreSame happenings others last end
  agree begins begins lack lack' long = record { happened = refl; whole = refl }
  agree begins (goes {happenings = others} execution next to follows) lack lack' long =
      let more = one_more others next in
      let none : 0 ≡ length others + 1 = long ∙ more in absurd (omega (arith, none))
  agree (goes {happenings = happenings} execution next to follows) begins lack lack' long =
      let more = one_more happenings next in
      let none : length happenings + 1 ≡ 0 = sym more ∙ long in absurd (omega (arith, none))
  agree (goes {happenings = happenings} {at = at} execution next to follows)
      (goes {happenings = others} {at = up} course' other end follows') lack lack' long =
      let both : length happenings + 1 ≡ length others + 1 = sym (one_more happenings next) ∙ long ∙ one_more others
      other in
      let before : AreSame happenings others at up =
      agree execution course' (before_next ps time at next to follows lack)
      (before_next ps time up other end follows' lack') (omega (arith, both)) in
      let both_on : (uncalled_one next ≡ uncalled_one other) × (bare_whole to ≡ bare_whole end) =
      follows_same ps time at up next other to end before.whole follows follows' lack lack' in
      record {
        happened = map-append uncalled_one happenings (next ∷ [])
            ∙ (λ k. before.happened k ++ both_on.0 k ∷ [])
            ∙ sym (map-append uncalled_one others (other ∷ []));
        whole = both_on.1;
      }

pub executions_agree : ExecutionsAgree
executions_agree ps time from happenings others last end first second lack lack' long =
    agree ps time from first second (by_number last.instances lack) (by_number end.instances lack') long

-- ---- two parts

-- so many happenings, and the rest
pub record Parted (ps : List Behaviour) (time : ℕ) (from : RunState) (happenings : List Happening) (to : RunState)
    (m : ℕ) : Type 0 where
  pub before : List Happening
  pub after : List Happening
  pub mid : RunState
  pub is : happenings ≡ before ++ after
  pub many : length before ≡ m
  pub first : Execution ps time from before mid
  pub second : Execution ps time mid after to

-- the next happening, and the rest
pub record Headed (ps : List Behaviour) (time : ℕ) (from to : RunState) : Type 0 where
  pub next : Happening
  pub state : RunState
  pub later : List Happening
  pub follows : Follows ps time from next state
  pub rest : Execution ps time state later to

module _ (ps : List Behaviour) (time : ℕ) where
  up_to : (m n : ℕ) → m ≤ n + 1 → (m ≤ n) ⊎ (m ≡ n + 1)
  up_to m n within = by_test (nat_le m n) refl where
    by_test : (b : Bool) → nat_le m n ≡ b → (m ≤ n) ⊎ (m ≡ n + 1)
    by_test true is = inl (grind (arith, is))
    by_test false is = let above : n < m = grind (arith, is) in inr (omega (arith, above, within))

  pub parted : {from : RunState} {happenings : List Happening} {to : RunState} → Execution ps time from happenings to → (m : ℕ)
      → m ≤ length happenings → Parted ps time from happenings to m
  parted {from = from} begins m within = record {
    before = [];
    after = [];
    mid = from;
    is = refl;
    many = omega (arith, within);
    first = begins;
    second = begins;
  }
  parted (goes {happenings = happenings} {at = at} execution next to follows) m within =
      let more = one_more happenings next in
      let least : m ≤ length happenings + 1 = omega (arith, within, more) in
      elim (up_to m (length happenings) least) [
        | inl less ↦
            let before = parted execution m less in record {
              before = before.before;
              after = before.after ++ next ∷ [];
              mid = before.mid;
              is = ap (λ list. list ++ next ∷ []) before.is ∙ append_assoc before.before before.after (next ∷ []);
              many = before.many;
              first = before.first;
              second = goes before.second next to follows;
            }
        | inr all ↦ record {
          before = happenings ++ next ∷ [];
          after = [];
          mid = to;
          is = sym (append-nil (happenings ++ next ∷ []));
          many = more ∙ sym all;
          first = goes execution next to follows;
          second = begins;
        }
      ]

  pub headed : {from : RunState} {happenings : List Happening} {to : RunState} → Execution ps time from happenings to
      → 0 < length happenings → Headed ps time from to
  headed begins some = absurd (omega (arith, some))
  headed (goes begins next to follows) some =
      record { next = next; state = to; later = []; follows = follows; rest = begins }
  headed (goes (goes {happenings = happenings} execution first at leads) next to follows) some =
      let more = one_more happenings first in
      let before = headed (goes execution first at leads) (omega (arith, more)) in
      record {
        next = before.next;
        state = before.state;
        later = before.later ++ next ∷ [];
        follows = before.follows;
        rest = goes before.rest next to follows;
      }
