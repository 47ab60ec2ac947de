-- What each kind of atomic step tells the seat that makes it.
use Rattle.std.specs.Prelude.{◌≡◌, ℕ, suc, ◌<◌, ◌≤◌, [], ◌∷◌, ◌++◌}
use Rattle.threads_ports.specs.declared.instances.rule.View.{View}
use Rattle.threads_ports.specs.Numbers.{times, EachOnce, AreOneTo}
use Rattle.threads_ports.specs.Rule.{given}
use Rattle.threads_ports.specs.Views.{view}

-- What is so of a seat after each of its steps: it has drawn no number twice, and with the whole right just 1, 2, .. up to as
-- many numbers as it has seen drawn.
pub record Knows (v : View) : Type 0 where
  pub right : v.parts ≤ 64
  pub most : v.seen ≤ 1000
  pub once : EachOnce v.drawn
  pub whole : v.parts ≡ 64 → AreOneTo v.seen v.drawn

-- A draw, after n others. The first 1,000 give the next number each, which the seat had not drawn and is past all that it had
-- seen drawn. Any other gives none.
pub record Draws (v : View) (n : ℕ) (w : View) : Type 0 where
  pub next : n < 1000 → w ≡ view v.parts (v.drawn ++ suc n ∷ []) (suc n)
  pub new : n < 1000 → (v.seen ≤ n) × (times (suc n) v.drawn ≡ 0)
  pub none : 1000 ≤ n → w ≡ view v.parts v.drawn 1000
  pub knows : Knows w

-- A look, after n draws.
pub record Looks (v : View) (n : ℕ) (w : View) : Type 0 where
  pub sees : w ≡ view v.parts v.drawn (given n)
  pub further : v.seen ≤ given n
  pub knows : Knows w
