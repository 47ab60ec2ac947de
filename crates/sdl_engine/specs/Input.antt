-- What is held of the readers of an input.
use Rattle.std.specs.Prelude.{◌≡◌, ◌⊎◌, ◌<◌, ◌≤◌, ℕ, List, Option, None, Some, IfSome, length}
use Rattle.std.specs.Global.{Vec}
use Rattle.sdl_engine.specs.declared.input.Input.{Input}
use Rattle.sdl_engine.specs.declared.input.Input.TheVariants.{Held, TooLong}
use Rattle.sdl_engine.specs.declared.input.Own.{Own}
use Rattle.sdl_engine.specs.declared.input.Own.TheVariants as own

-- these are all bytes that a reader had, 2,097,152 at most
abbrev pub IsAll : Option (List ℕ) → List ℕ → Type 0
IsAll remaining bytes = (length bytes ≤ 2097152) × IfSome remaining (λ all. bytes ≡ all)

-- a reader had more bytes than that
abbrev pub IsTooLong : Option (List ℕ) → Type 0
IsTooLong remaining = IfSome remaining (λ all. 2097152 < length all)

-- this is all that the reader of a script of its own had, and nothing if there is none
abbrev pub IsScript : Option (Option (List ℕ)) → Option (Vec ℕ) → Type 0
IsScript None None = Unit {0}
IsScript None (Some bytes) = ⊥
IsScript (Some remaining) None = ⊥
IsScript (Some remaining) (Some bytes) = IsAll remaining bytes.items

-- there is a reader of a script of its own, which had more
abbrev pub IsScriptTooLong : Option (Option (List ℕ)) → Type 0
IsScriptTooLong None = ⊥
IsScriptTooLong (Some remaining) = IsTooLong remaining

-- either of the script of its own
abbrev pub IsScriptRead : Option (Option (List ℕ)) → Own → Type 0
IsScriptRead script (own.Held held) = IsScript script held
IsScriptRead script own.TooLong = IsScriptTooLong script

-- All that the reader of the text had is held, and all that the reader of a script of its own had, if there is one; or
-- one of them had more.
abbrev pub IsRead : Option (List ℕ) → Option (Option (List ℕ)) → Input → Type 0
IsRead text script (Held texts) = IsAll text texts.text.items × IsScript script texts.script
IsRead text script TooLong = IsTooLong text ⊎ IsScriptTooLong script
