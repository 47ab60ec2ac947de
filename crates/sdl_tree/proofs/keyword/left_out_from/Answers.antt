use Rattle.std.proofs.Common.{refl, inl, inr, rules}
use Rattle.std.proofs.lemmas.Bool.{ne_eqb}
use Rattle.sdl_tree.proofs.keyword.left_out_from.Goals as goal
use Rattle.sdl_tree.specs.Keyword.{left_out_found}

pub returns-in-97 : goal.returns-in-97
unfolding left_out_found
returns-in-97 c = elim c.in-97.is [
  | inl upper ↦ rw upper (λ rest. refl)
  | inr lower ↦ rw lower (λ rest. refl)
]

pub returns-in-99 : goal.returns-in-99
unfolding left_out_found
returns-in-99 c = elim c.in-99.is [
  | inl upper ↦ rw upper (λ rest. refl)
  | inr lower ↦ rw lower (λ rest. refl)
]

pub returns-in-101 : goal.returns-in-101
unfolding left_out_found
returns-in-101 c = elim c.in-101.is [
  | inl upper ↦ rw upper (λ rest. refl)
  | inr lower ↦ rw lower (λ rest. refl)
]

pub returns-in-103 : goal.returns-in-103
unfolding left_out_found
returns-in-103 c = elim c.in-103.is [
  | inl upper ↦ rw upper (λ rest. refl)
  | inr lower ↦ rw lower (λ rest. refl)
]

pub returns-in-105 : goal.returns-in-105
unfolding left_out_found
returns-in-105 c = elim c.in-105.is [
  | inl upper ↦ rw upper (λ rest. refl)
  | inr lower ↦ rw lower (λ rest. refl)
]

pub returns-in-109 : goal.returns-in-109
unfolding left_out_found
returns-in-109 c = elim c.in-109.is [
  | inl upper ↦ rw upper (λ rest. refl)
  | inr lower ↦ rw lower (λ rest. refl)
]

pub returns-in-110 : goal.returns-in-110
unfolding left_out_found
returns-in-110 c = elim c.in-110.is [
  | inl upper ↦ rw upper (λ rest. refl)
  | inr lower ↦ rw lower (λ rest. refl)
]

pub returns-in-112 : goal.returns-in-112
unfolding left_out_found
returns-in-112 c = elim c.in-112.is [
  | inl upper ↦ rw upper (λ rest. refl)
  | inr lower ↦ rw lower (λ rest. refl)
]

pub returns-in-114 : goal.returns-in-114
unfolding left_out_found
returns-in-114 c = elim c.in-114.is [
  | inl upper ↦ rw upper (λ rest. refl)
  | inr lower ↦ rw lower (λ rest. refl)
]

pub returns-in-115 : goal.returns-in-115
unfolding left_out_found
returns-in-115 c = elim c.in-115.is [
  | inl upper ↦ rw upper (λ rest. refl)
  | inr lower ↦ rw lower (λ rest. refl)
]

pub returns-in-116 : goal.returns-in-116
unfolding left_out_found
returns-in-116 c = elim c.in-116.is [
  | inl upper ↦ rw upper (λ rest. refl)
  | inr lower ↦ rw lower (λ rest. refl)
]

pub returns-in-118 : goal.returns-in-118
unfolding left_out_found
returns-in-118 c = elim c.in-118.is [
  | inl upper ↦ rw upper (λ rest. refl)
  | inr lower ↦ rw lower (λ rest. refl)
]

pub returns-in_default : goal.returns-in_default
unfolding left_out_found
returns-in_default c = λ rest. simp (
  ne_eqb 97 c.args.first (λ e. search rules),
  ne_eqb 65 c.args.first (λ e. search rules),
  ne_eqb 99 c.args.first (λ e. search rules),
  ne_eqb 67 c.args.first (λ e. search rules),
  ne_eqb 101 c.args.first (λ e. search rules),
  ne_eqb 69 c.args.first (λ e. search rules),
  ne_eqb 103 c.args.first (λ e. search rules),
  ne_eqb 71 c.args.first (λ e. search rules),
  ne_eqb 105 c.args.first (λ e. search rules),
  ne_eqb 73 c.args.first (λ e. search rules),
  ne_eqb 109 c.args.first (λ e. search rules),
  ne_eqb 77 c.args.first (λ e. search rules),
  ne_eqb 110 c.args.first (λ e. search rules),
  ne_eqb 78 c.args.first (λ e. search rules),
  ne_eqb 112 c.args.first (λ e. search rules),
  ne_eqb 80 c.args.first (λ e. search rules),
  ne_eqb 114 c.args.first (λ e. search rules),
  ne_eqb 82 c.args.first (λ e. search rules),
  ne_eqb 115 c.args.first (λ e. search rules),
  ne_eqb 83 c.args.first (λ e. search rules),
  ne_eqb 116 c.args.first (λ e. search rules),
  ne_eqb 84 c.args.first (λ e. search rules),
  ne_eqb 118 c.args.first (λ e. search rules),
  ne_eqb 86 c.args.first (λ e. search rules),
)
