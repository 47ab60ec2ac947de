-- Names as the code keeps them.
use Rattle.std.proofs.Common.{◌≡◌, ◌||◌, ℕ, List, [], ◌∷◌, ap, refl}
use Rattle.std.specs.List.{list_any}
use Rattle.std.specs.Str.{bytes_eq}
use Rattle.std.specs.String.{string_bytes}
use Rattle.build_states.specs.States.{is_named}
use Rattle.sdl_tree.specs.Views.{names_value}
use Rattle.sdl_tree.specs.declared.name.Name.{Name}

pub named-listed : (names : List Name) (text : List ℕ) →
    list_any (λ name. bytes_eq text (string_bytes name.text)) names ≡ is_named (names_value names) text
named-listed [] text = refl
named-listed (name ∷ names) text = ap (λ b. bytes_eq text (string_bytes name.text) || b) (named-listed names text)
