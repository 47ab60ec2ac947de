-- The labels of a body, and those to which its joins lead (Z.102: join).
use Rattle.std.specs.Prelude.{◌++◌, ◌+◌, ◌==◌, ℕ, List, [], ◌∷◌, cond}
use Rattle.sdl_system.specs.Body as body
use Rattle.sdl_system.specs.Body.{Body, Parts, Terminator}
use Rattle.sdl_system.specs.declared.id.LabelId.{LabelId}

-- what the labels and the terminators of a body give, in the order of the text
abbrev mutual
  pub gathered : (LabelId → List LabelId) → (Terminator → List LabelId) → Body → List LabelId
  gathered f g body.nothing = []
  gathered f g (body.action first rest) = gathered f g rest
  gathered f g (body.decision question parts rest) = gathered_in f g parts ++ gathered f g rest
  gathered f g (body.label number rest) = f number ++ gathered f g rest
  gathered f g (body.ending terminator) = g terminator

  pub gathered_in : (LabelId → List LabelId) → (Terminator → List LabelId) → Parts → List LabelId
  gathered_in f g body.no_part = []
  gathered_in f g (body.otherwise b) = gathered f g b
  gathered_in f g (body.part answers b rest) = gathered f g b ++ gathered_in f g rest

abbrev pub itself : LabelId → List LabelId
itself number = number ∷ []

abbrev pub no_label : LabelId → List LabelId
no_label number = []

abbrev pub joined : Terminator → List LabelId
joined (body.join number) = number ∷ []
joined (body.to_state state) = []
joined body.to_same = []
joined body.stop = []

abbrev pub not_joined : Terminator → List LabelId
not_joined terminator = []

-- the labels of a body
abbrev pub labels_of : Body → List LabelId
labels_of b = gathered itself not_joined b

-- the labels to which its joins lead
abbrev pub joins_of : Body → List LabelId
joins_of b = gathered no_label joined b

-- how often a label stands in a list
abbrev pub times : LabelId → List LabelId → ℕ
times number [] = 0
times number (first ∷ rest) = cond (first.0 == number.0) 1 0 + times number rest
