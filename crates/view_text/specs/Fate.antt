-- What became of the signals that nobody took.
use Rattle.std.specs.Prelude.{ℕ, nat_eq, Bool, false, List, Option, None, Some, codes, if◌then◌else◌}
use Rattle.indexmap.specs.IndexSet.{contains}
use Rattle.sdl_system.specs.declared.route.Target.{Target}
use Rattle.sdl_system.specs.declared.route.Target.TheVariants as reached
use Rattle.view_text.specs.declared.fate.Fate.{Fate}
use Rattle.view_text.specs.declared.fate.Fate.TheVariants as became
use Rattle.view_timeline.specs.declared.moves.Link.{Link}
use Rattle.view_timeline.specs.declared.moves.Link.TheVariants as is
use Rattle.view_timeline.specs.declared.moves.Timeline.{Timeline}

-- whether an output went to an instance that lives on
abbrev pub is_living : Timeline → Target → Bool
is_living told (reached.Instance number) = contains nat_eq told.living number
is_living told reached.Env = false
is_living told reached.Null = false
is_living told reached.Nobody = false

-- What became of an output that nobody took: it waits for an instance that lives on, and for another one it's gone.
abbrev pub fate_of : Timeline → Target → Link → Option Fate
fate_of told target is.Plain = None
fate_of told target (is.Arrow arrow) = None
fate_of told target is.Gone = Some became.Gone
fate_of told target is.Waits = Some (if is_living told target then became.Waits else became.Gone)

-- the word for it in all texts
abbrev pub fate_word : Fate → List ℕ
fate_word became.Waits = codes "waits"
fate_word became.Gone = codes "gone"
