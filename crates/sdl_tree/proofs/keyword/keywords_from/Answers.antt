use Rattle.std.proofs.Common.{refl}
use Rattle.sdl_tree.proofs.keyword.keywords_from.Goals as goal
use Rattle.sdl_tree.specs.Keyword.{keyword_found}

pub returns-in-99 : goal.returns-in-99
unfolding keyword_found
returns-in-99 c = rw c.in-99.is (λ rest. refl)

pub returns-in-67 : goal.returns-in-67
unfolding keyword_found
returns-in-67 c = rw c.in-67.is (λ rest. refl)

pub returns-in-101 : goal.returns-in-101
unfolding keyword_found
returns-in-101 c = rw c.in-101.is (λ rest. refl)

pub returns-in-69 : goal.returns-in-69
unfolding keyword_found
returns-in-69 c = rw c.in-69.is (λ rest. refl)

pub returns-in-110 : goal.returns-in-110
unfolding keyword_found
returns-in-110 c = rw c.in-110.is (λ rest. refl)

pub returns-in-78 : goal.returns-in-78
unfolding keyword_found
returns-in-78 c = rw c.in-78.is (λ rest. refl)

pub returns-in-111 : goal.returns-in-111
unfolding keyword_found
returns-in-111 c = rw c.in-111.is (λ rest. refl)

pub returns-in-79 : goal.returns-in-79
unfolding keyword_found
returns-in-79 c = rw c.in-79.is (λ rest. refl)

pub returns-in-112 : goal.returns-in-112
unfolding keyword_found
returns-in-112 c = rw c.in-112.is (λ rest. refl)

pub returns-in-80 : goal.returns-in-80
unfolding keyword_found
returns-in-80 c = rw c.in-80.is (λ rest. refl)

pub returns-in-115 : goal.returns-in-115
unfolding keyword_found
returns-in-115 c = rw c.in-115.is (λ rest. refl)

pub returns-in-83 : goal.returns-in-83
unfolding keyword_found
returns-in-83 c = rw c.in-83.is (λ rest. refl)
