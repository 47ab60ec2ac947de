-- Words that differ in places and spellings alone.
use Rattle.std.specs.Prelude.{◌≡◌, [], ◌∷◌}
use Rattle.sdl_tree.specs.Words.{Word, Words, Fixed, Name, Number, Text, LeftOut}

abbrev pub IsAlike : Word → Word → Type 0
IsAlike (Fixed m s) (Fixed n t) = m ≡ n
IsAlike (Name x) (Name y) = x.text ≡ y.text
IsAlike (Number n x) (Number k y) = n ≡ k
IsAlike (Text x) (Text y) = Unit {0}
IsAlike (LeftOut l x) (LeftOut k y) = l ≡ k
IsAlike _ _ = ⊥

abbrev pub AreAlike : Words → Words → Type 0
AreAlike [] [] = Unit {0}
AreAlike (v ∷ i) (w ∷ j) = IsAlike v w × AreAlike i j
AreAlike _ _ = ⊥
