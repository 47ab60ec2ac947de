-- Reading of the productions that stand in many others.
use Rattle.std.specs.Prelude.{ℕ, Bool, false, ◌||◌, if◌then◌else◌, List, [], ◌∷◌, Option, Some, None, Ok, Err}
use Rattle.std.specs.Str.{bytes_eq}
use Rattle.sdl_tree.specs.declared.mark.Mark.{Mark}
use Rattle.sdl_tree.specs.declared.mark.Mark.TheVariants as mark
use Rattle.sdl_tree.specs.declared.name.Spelling.{Spelling}
use Rattle.sdl_tree.specs.Tree.{SignalListItem, SignalItem, ListItem, SignalDefinition, SignalListDefinition, SignalSet}
use Rattle.sdl_tree.specs.Words.{Word, Words, Spot, Fixed}
use Rattle.sdl_tree.specs.Words as word
use Rattle.parse_expressions.specs.Reading.{Parser, Refused, and_then, ◌⊗◌, behind, before, made, either, front, rest, sees, expect, name, text, separated, in_parentheses}

-- "comment" TEXT ";"
abbrev pub commented : Parser (Unit {0})
commented = made (λ _. tt) (expect mark.Comment ⊗ (text ⊗ expect mark.Semicolon))

-- end = ["comment" TEXT] ";"
unfoldable pub end : Parser (Unit {0})
end = either (sees mark.Comment) commented (made (λ _. tt) (expect mark.Semicolon))

-- x and words that the node drops, which may depend on x
abbrev pub followed_by : {A : Type 0} → Parser A → (A → Parser (Unit {0})) → Parser A
followed_by p dropped = λ i. and_then (p i) (λ x m. and_then (dropped x m) (λ _ j. Ok (x, j)))

abbrev pub followed : {A : Type 0} → Parser A → Parser (Unit {0}) → Parser A
followed p dropped = followed_by p (λ _. dropped)

-- x, and a y that depends on it
abbrev pub tied : {A B : Type 0} → Parser A → (A → Parser B) → Parser (A × B)
tied p q = λ i. and_then (p i) (λ x m. and_then (q x m) (λ y j. Ok ((x, y), j)))

-- whether one of these marks stands next
abbrev pub sees_one : List Mark → Words → Bool
sees_one [] i = false
sees_one (m ∷ ms) i = sees m i || sees_one ms i

-- x end
abbrev pub ended : {A : Type 0} → Parser A → Parser A
ended p = followed p end

abbrev pub named_by : (List ℕ → Bool) → Option Word → Parser (Unit {0})
named_by good None i = Ok (tt, i)
named_by good (Some (Fixed m s)) i = Ok (tt, i)
named_by good (Some (word.Name y)) i = if good y.text then Ok (tt, rest i) else Err (Refused i)
named_by good (Some (word.Number n y)) i = Ok (tt, i)
named_by good (Some (word.Text y)) i = Ok (tt, i)
named_by good (Some (word.LeftOut lower y)) i = Ok (tt, i)

-- [NAME], where a name passes a test
unfoldable pub named : (List ℕ → Bool) → Parser (Unit {0})
named good = λ i. named_by good (front i) i

-- [NAME], where a name is this one
abbrev pub end_name : List ℕ → Parser (Unit {0})
end_name x = named (λ y. bytes_eq y x)

-- MARK .. end
abbrev pub closing_by : Mark → Parser (Unit {0}) → Parser (Unit {0})
closing_by m called = behind m (made (λ _. tt) (called ⊗ end))

-- MARK [NAME] end, which closes what has this name
unfoldable pub closing : Mark → List ℕ → Parser (Unit {0})
closing m x = closing_by m (end_name x)

-- [MARK .. end]
abbrev pub closed : Mark → Parser (Unit {0}) → Parser (Unit {0})
closed m called = either (sees m) (closing_by m called) (λ i. Ok (tt, i))

-- ---- signals

abbrev pub signal_with : Spot × List Spot → SignalDefinition
signal_with p = record { name = p.0; sorts = p.1 }

-- NAME [sorts]
unfoldable pub signal_name : Parser SignalDefinition
signal_name = made signal_with (name ⊗ in_parentheses name)

-- signal = "signal" NAME [sorts] {"," NAME [sorts]} end
unfoldable pub signal : Parser (List SignalDefinition)
signal = behind mark.Signal (ended (separated signal_name))

-- sig = NAME | "(" NAME ")"
unfoldable pub sig : Parser SignalListItem
sig = either (sees mark.Open) (made ListItem (behind mark.Open (before name mark.Close))) (made SignalItem name)

abbrev pub signal_list_with : Spelling × (Spot × List SignalListItem) → SignalListDefinition
signal_list_with p = record { word = p.0; name = p.1.0; items = p.1.1 }

-- signallist = "signallist" NAME "=" sigs end
unfoldable pub signal_list : Parser SignalListDefinition
signal_list = made signal_list_with (expect mark.SignalList ⊗ (name ⊗ behind mark.Equal (ended (separated sig))))

abbrev pub signal_set_with : Spelling × List SignalListItem → SignalSet
signal_set_with p = record { word = p.0; items = p.1 }

-- "signalset" sigs end
unfoldable pub signal_set : Parser SignalSet
signal_set = made signal_set_with (expect mark.SignalSet ⊗ ended (separated sig))
