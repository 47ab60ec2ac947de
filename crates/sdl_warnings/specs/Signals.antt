-- Signals that are sent and never taken, or taken and never sent.
use Rattle.std.specs.Prelude.{ℕ, ◌&&◌, ◌||◌, Bool, true, false, not, List, [], ◌∷◌, ◌++◌, Option, None, if◌then◌else◌}
use Rattle.std.specs.List.{list_any}
use Rattle.parse_expressions.specs.declared.word.PlacedWord.{PlacedWord}
use Rattle.sdl_tree.specs.Tree as tree
use Rattle.sdl_tree.specs.declared.mark.Mark.{Mark}
use Rattle.sdl_tree.specs.declared.mark.Mark.TheVariants as mark
use Rattle.sdl_warnings.specs.Heads.{HeadValue, after, head_at, heads, named_at, nowhere}
use Rattle.sdl_warnings.specs.Sets.{among}
use Rattle.sdl_warnings.specs.Words.{is_mark, is_mark_by, mark_in, name_in}
use Rattle.sdl_warnings.specs.declared.elsewhere.Lists.{Lists}
use Rattle.sdl_warnings.specs.declared.heads.Spot.{Spot}
use Rattle.sdl_warnings.specs.declared.suspicion.Behaviour.{Behaviour}
use Rattle.sdl_warnings.specs.declared.suspicion.Behaviour.TheVariants.{UnheardSignal, UnsentSignal}
use Rattle.sdl_warnings.specs.declared.suspicion.Oddity.{Oddity}

-- ---- in which places names stand

-- outside of each list of signals, outputs, paths, inputs and saves
abbrev pub outside : Lists
outside = record { signals = nowhere; outputs = nowhere; paths = nowhere; inputs = nowhere; saves = nowhere }

abbrev pub lists_after : Lists → PlacedWord → Lists
lists_after lists word = record {
  signals = after mark.Signal lists.signals word;
  outputs = after mark.Output lists.outputs word;
  paths = after mark.With lists.paths word;
  inputs = after mark.Input lists.inputs word;
  saves = after mark.Save lists.saves word;
}

-- whether an element of one of them begins
abbrev pub is_head : Lists → Bool
is_head lists =
    lists.signals.begins || (lists.outputs.begins || (lists.paths.begins || (lists.inputs.begins || lists.saves.begins)))

-- the names with which no element of such a list begins
abbrev pub elsewhere : Lists → List PlacedWord → List HeadValue
elsewhere lists [] = []
elsewhere lists (word ∷ more) =
    named_at (not (is_head lists)) word.place (name_in word) ++ elsewhere (lists_after lists word) more

-- whether an end of a path is the environment after a word; its name comes after this keyword
abbrev pub outside_after : Mark → Option Mark → Bool → PlacedWord → Bool
outside_after keyword before is_outside word = if is_mark_by keyword before then is_mark mark.Env word else is_outside

-- the signal of a path that a word is
abbrev pub carried_at : Bool → Spot → PlacedWord → List HeadValue
carried_at is_outside spot word = if is_outside then head_at spot word else []

-- The signals of paths that have the environment behind this keyword, `from` or `to`; that is so of the path so far, and
-- this keyword comes before the words.
abbrev pub carried : Mark → Bool → Option Mark → Spot → List PlacedWord → List HeadValue
carried keyword is_outside before spot [] = []
carried keyword is_outside before spot (word ∷ more) =
    carried_at is_outside spot word
    ++ carried keyword (outside_after keyword before is_outside word) (mark_in word) (after mark.With spot word) more

-- these signals, if a word says to whom they are sent
abbrev pub addressed_at : Spot → List HeadValue → PlacedWord → List HeadValue
addressed_at spot own word = if spot.is_within && is_mark mark.To word then own else []

-- the signals of an output so far, of which nothing is said yet to whom it sends them
abbrev pub own_after : Spot → List HeadValue → PlacedWord → List HeadValue
own_after spot own word = if spot.is_within && not (is_mark mark.To word) then own ++ head_at spot word else []

-- the signals of outputs with `to`
abbrev pub addressed : Spot → List HeadValue → List PlacedWord → List HeadValue
addressed spot own [] = []
addressed spot own (word ∷ more) =
    addressed_at spot own word ++ addressed (after mark.Output spot word) (own_after spot own word) more

-- whether an asterisk takes the place of the names in a list that this mark begins
abbrev pub has_asterisk : Mark → Spot → List PlacedWord → Bool
has_asterisk list spot [] = false
has_asterisk list spot (word ∷ more) =
    (spot.begins && is_mark mark.Asterisk word) || has_asterisk list (after list spot word) more

-- ---- what is suspicious of them

-- the names in inputs and in saves
abbrev pub taken : List PlacedWord → List HeadValue
taken words = heads mark.Input words ++ heads mark.Save words

-- Signals that somebody takes or may take, by their names: those that inputs and saves have, those of outputs with `to`, and
-- those of paths to the environment. A name that stands elsewhere may be one in a list.
abbrev pub heard : List PlacedWord → List HeadValue
heard words =
    elsewhere outside words ++ heads mark.Input words ++ heads mark.Save words ++ addressed nowhere [] words
    ++ carried mark.To false None nowhere words

-- the same of those that somebody sends or may send
abbrev pub fed : List PlacedWord → List HeadValue
fed words = elsewhere outside words ++ heads mark.Output words ++ carried mark.From false None nowhere words

-- whether an asterisk takes what isn't named
abbrev pub takes_unnamed : List PlacedWord → Bool
takes_unnamed words = has_asterisk mark.Input nowhere words || has_asterisk mark.Save nowhere words

abbrev pub told_at : Behaviour → Bool → HeadValue → List Oddity
told_at behaviour true head = record { behaviour = behaviour; place = head.place } ∷ []
told_at behaviour false head = []

-- this of each name that is there and isn't settled
abbrev pub unsettled : Behaviour → (List ℕ → Bool) → (List ℕ → Bool) → List HeadValue → List Oddity
unsettled behaviour is_there is_settled [] = []
unsettled behaviour is_there is_settled (head ∷ more) =
    told_at behaviour (is_there head.name && not (is_settled head.name)) head
    ++ unsettled behaviour is_there is_settled more

-- the signals that outputs send and nobody takes by their names
abbrev pub unnamed : List PlacedWord → List Oddity
unnamed words = unsettled UnheardSignal (among (heads mark.Output words)) (among (heard words)) (heads mark.Signal words)

-- the signals that outputs send and nobody takes
abbrev pub unheard : List PlacedWord → List Oddity
unheard words = if takes_unnamed words then [] else unnamed words

-- the signals that inputs or saves have and nobody sends
abbrev pub unsent : List PlacedWord → List Oddity
unsent words = unsettled UnsentSignal (among (taken words)) (among (fed words)) (heads mark.Signal words)

abbrev pub is_channel_by : tree.Definition → Bool
is_channel_by (tree.Channel channel) = true
is_channel_by (tree.Signals signals) = false
is_channel_by (tree.SignalList list) = false
is_channel_by (tree.Synonyms synonyms) = false
is_channel_by (tree.Process process) = false

abbrev pub is_channel : tree.SystemDefinition → Bool
is_channel (tree.InSystem definition) = is_channel_by definition
is_channel (tree.Block block) = false

-- whether the system has a channel of its own
abbrev pub has_channels : tree.Tree → Bool
has_channels text = list_any is_channel text.definitions

-- the signals that these words define; without channels the environment sends and takes each
abbrev pub of_signals : tree.Tree → List PlacedWord → List Oddity
of_signals text words = if has_channels text then unheard words ++ unsent words else []
