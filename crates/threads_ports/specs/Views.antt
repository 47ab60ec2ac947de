-- What each seat knows as it is made, and as others come back.
use Rattle.std.specs.Prelude.{ℕ, ◌+◌, ◌-◌, max, List, [], ◌++◌}
use Rattle.threads_ports.specs.declared.instances.rule.View.{View}

-- a seat with its parts of the right to draw, what it has drawn, and how many numbers it has seen drawn
abbrev pub view : ℕ → List ℕ → ℕ → View
view parts drawn seen = record { parts = parts; drawn = drawn; seen = seen }

-- the first seat, with the whole right
abbrev pub whole : View
whole = view 64 [] 0

-- a seat that has given one part away, and the new seat, which has drawn nothing and has seen as much
abbrev pub without_part : View → View
without_part v = view (v.parts - 1) v.drawn v.seen

abbrev pub one_part : View → View
one_part v = view 1 [] v.seen

-- a seat that has taken another back, with all that it drew, and what is left of the other
abbrev pub together : View → View → View
together v u = view (v.parts + u.parts) (v.drawn ++ u.drawn) (max v.seen u.seen)

abbrev pub spent : View
spent = view 0 [] 0
