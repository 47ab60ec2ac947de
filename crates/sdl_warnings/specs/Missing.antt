-- Names that are missing among others.
use Rattle.std.specs.Prelude.{ℕ, Bool, List, [], ◌∷◌, ◌++◌, None, if◌then◌else◌}
use Rattle.parse_expressions.specs.declared.word.PlacedWord.{PlacedWord}
use Rattle.sdl_tree.specs.declared.mark.Mark.TheVariants as mark
use Rattle.sdl_warnings.specs.Colons.{labels}
use Rattle.sdl_warnings.specs.Heads.{HeadValue, heads}
use Rattle.sdl_warnings.specs.Sets.{among}
use Rattle.sdl_warnings.specs.Unused.{is_again}
use Rattle.sdl_warnings.specs.declared.suspicion.Suspicion.{Suspicion}
use Rattle.sdl_warnings.specs.declared.suspicion.Suspicion.TheVariants.{UnreachedState, UnusedLabel, UnusedVariable, UnusedTimer}
use Rattle.sdl_warnings.specs.declared.suspicion.Warning.{Warning}

-- a warning for each of these names that isn't there
abbrev pub missing : Suspicion → (List ℕ → Bool) → List HeadValue → List Warning
missing suspicion is_there [] = []
missing suspicion is_there (head ∷ more) =
    (if is_there head.name then [] else record { suspicion = suspicion; place = head.place } ∷ [])
    ++ missing suspicion is_there more

-- the states in the words of a process that no `nextstate` there names
abbrev pub unreached : List PlacedWord → List Warning
unreached words = missing UnreachedState (among (heads mark.NextState words)) (heads mark.State words)

-- the labels in the words of a process that no `join` there names
abbrev pub unjoined : List PlacedWord → List Warning
unjoined words = missing UnusedLabel (among (heads mark.Join words)) (labels 0 None words)

-- the variables in the words of a process that are once there
abbrev pub unused_variables : List PlacedWord → List Warning
unused_variables words = missing UnusedVariable (is_again words) (heads mark.Dcl words)

-- the timers in the words of a process that are once there
abbrev pub unused_timers : List PlacedWord → List Warning
unused_timers words = missing UnusedTimer (is_again words) (heads mark.Timer words)
