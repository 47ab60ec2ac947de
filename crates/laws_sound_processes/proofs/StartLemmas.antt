-- Where no `nextstate -` is told that the start reaches, no path from the start comes to one.
use Rattle.std.proofs.Common.{◌≡◌, ◌∙◌, ◌++◌, ◌&&◌, ◌==◌, inl, inr, ℕ, zero, suc, Bool, true, false, List, [], ◌∷◌, Option, None, Some, arith, cond, flat_map, map, refl, ap, slice_get, sym, subst}
use Rattle.std.proofs.lemmas.Bool.{eq-eqb}
use Rattle.std.proofs.lemmas.Slice.Eq.{bytes_eq-Decides}
use Rattle.std.specs.Str.{bytes_eq}
use Rattle.build_process.proofs.EndLemmas.{both-some, map-some, some-same, standing}
use Rattle.build_process.proofs.MentionLemmas.{process-spots}
use Rattle.build_process.proofs.NumberLemmas.{same-text}
use Rattle.build_process.specs.Bodies.{beginning_body, bodies_among, bodies_of}
use Rattle.build_process.specs.Numbered.{AreDifferent, AreNumbered}
use Rattle.build_flow.proofs.ReachLaws.{reached-listed}
use Rattle.build_flow.specs.Beginnings.{Beginning, beginnings, beginnings_behind, start_beginning}
use Rattle.build_flow.specs.Mentions as mention
use Rattle.build_flow.specs.Mentions.{Mention, beginning_mentions, label_entries, label_mentions, process_mentions, transition_mentions}
use Rattle.build_flow.specs.Paths.{AtFirst, AtLabel}
use Rattle.build_flow.specs.Reach as reach
use Rattle.build_flow.specs.Reach.{AreReached, LeadsOn, StartReaches, is_first, is_place, labels_in, met_from}
use Rattle.build_flow.specs.Stays.{stay_fault, stay_faults}
use Rattle.sdl_lex.specs.declared.place.Place.{Place}
use Rattle.build_statements.specs.Contexts.{Context, label_in, state_in}
use Rattle.build_statements.specs.Statements.{terminator_in}
use Rattle.build_statements.specs.Transitions.{body_in, labelled}
use Rattle.build_names.proofs.FaultLemmas.{in-each, in-right}
use Rattle.build_names.specs.FaultLaws.{In}
use Rattle.build_names.specs.Faults.{Diagnostic, diagnostic_at, mark_word}
use Rattle.build_names.specs.Names.{first_of}
use Rattle.build_names.specs.declared.faults.fault.Rule.TheVariants.{NoState}
use Rattle.laws_sound_processes.proofs.LabelLemmas.{FromTransition, from-transition}
use Rattle.laws_sound_processes.proofs.MeetLemmas.{Leaves, meeting, meets-transition}
use Rattle.laws_sound_processes.specs.BodyLaws.{StartLeadsOn}
use Rattle.laws_sound_runs.specs.Paths as paths
use Rattle.laws_sound_runs.specs.Paths.{Meets, Reaches}
use Rattle.sdl_system.specs.Body as body
use Rattle.sdl_system.specs.Body.{Body, FromLabel, followed}
use Rattle.sdl_system.specs.Table.{LabelOf}
use Rattle.sdl_system.specs.declared.id.LabelId.{LabelId}
use Rattle.sdl_tree.specs.Tree as tree
use Rattle.sdl_tree.specs.Tree.{ProcessDefinition, Terminator}
use Rattle.sdl_tree.specs.Words.{Spot}
use Rattle.sdl_tree.specs.declared.mark.Mark.TheVariants as mark
use Rattle.sdl_tree.specs.declared.name.Spelling.{Spelling}

-- ---- the first label of a name

abbrev spot_of : Mention → List Spot
spot_of (mention.Standing word) = word ∷ []
spot_of (mention.Joined word) = []

abbrev spots_of : List Mention → List Spot
spots_of mentions = flat_map spot_of mentions

abbrev entry_of : Spot → List ℕ × Place
entry_of word = (word.text, word.place)

entries-are : (mentions : List Mention) → flat_map label_entries mentions ≡ map entry_of (spots_of mentions)
entries-are [] = refl
entries-are (mention.Standing word ∷ rest) = ap (λ list. entry_of word ∷ list) (entries-are rest)
entries-are (mention.Joined word ∷ rest) = entries-are rest

in-spots : (mentions : List Mention) (word : Spot) → In (mention.Standing word) mentions →
    (n : ℕ) × (slice_get (spots_of mentions) n ≡ Some word)
in-spots [] word at = absurd at
in-spots (mention.Standing other ∷ rest) word (inl same) = (0, let e : Some other ≡ Some word = cc in e)
in-spots (mention.Standing other ∷ rest) word (inr later) =
    let found = in-spots rest word later in (suc found.0, found.1)
in-spots (mention.Joined other ∷ rest) word (inl same) = absurd (let never : ⊥ = cc in never)
in-spots (mention.Joined other ∷ rest) word (inr later) = in-spots rest word later

others-differ : (x : Spot) (words : List Spot) → AreDifferent (x ∷ words) → AreDifferent words
others-differ x words different n m one other at also same =
    let e : suc n ≡ suc m = different (suc n) (suc m) one other at also same in omega (arith, e)

first-entry : (x word : Spot) (rest : Option Place) (b : Bool) → x ≡ word → b ≡ true →
    cond b (Some x.place) rest ≡ Some word.place
first-entry x word rest true same is = ap (λ (w : Spot). Some w.place) same
first-entry x word rest false same is = absurd (let never : ⊥ = cc in never)

later-entry : (x word : Spot) (words : List Spot) (n : ℕ) (b : Bool) → AreDifferent (x ∷ words) →
    bytes_eq word.text x.text ≡ b → slice_get words n ≡ Some word →
    first_of (map entry_of words) word.text ≡ Some word.place →
    cond b (Some x.place) (first_of (map entry_of words) word.text) ≡ Some word.place
later-entry x word words n true different same at by_rest =
    let text = (bytes_eq-Decides word.text x.text).0 same in
    let e : zero ≡ suc n = different zero (suc n) x word refl at (sym text) in
    absurd (omega (arith, e))
later-entry x word words n false different same at by_rest = by_rest

first-found : (words : List Spot) (n : ℕ) (word : Spot) → AreDifferent words → slice_get words n ≡ Some word →
    first_of (map entry_of words) word.text ≡ Some word.place
first-found [] zero word different at = absurd (let never : ⊥ = cc in never)
first-found [] (suc n) word different at = absurd (let never : ⊥ = cc in never)
first-found (x ∷ words) zero word different at =
    let same : x ≡ word = some-same x word at in
    first-entry x word (first_of (map entry_of words) word.text) (bytes_eq word.text x.text) same
    ((bytes_eq-Decides word.text x.text).1 (ap (λ (w : Spot). w.text) (sym same)))
first-found (x ∷ words) (suc n) word different at =
    later-entry x word words n (bytes_eq word.text x.text) different refl at
    (first-found words n word (others-differ x words different) at)

and-true : (a b : Bool) → a ≡ true → b ≡ true → (a && b) ≡ true
and-true true b is also = also
and-true false b is also = is

at-place : (place : Place) → is_place place (Some place) ≡ true
at-place place =
    and-true (place.line == place.line) (place.column == place.column) (eq-eqb place.line place.line refl)
    (eq-eqb place.column place.column refl)

-- ---- nothing behind a body

followed-nothing : (b : Body) → followed b body.nothing ≡ b
followed-nothing body.nothing = refl
followed-nothing (body.action first rest) = ap (body.action first) (followed-nothing rest)
followed-nothing (body.decision question parts rest) = ap (body.decision question parts) (followed-nothing rest)
followed-nothing (body.label number rest) = ap (body.label number) (followed-nothing rest)
followed-nothing (body.ending terminator) = refl

alone : (x : body.Terminator) (b : Body) → Meets x b → Meets x (followed b body.nothing)
alone x b meets = subst (Meets x) (sym (followed-nothing b)) meets

-- ---- what terminators are in the text

record IsJoin (context : Context) (l : LabelId) (term : Terminator) : Type 0 where
  word : Spelling
  name : Spot
  is : term ≡ tree.Join word name
  found : label_in context name.text ≡ Some l

join-of : (context : Context) (l : LabelId) (term : Terminator) → terminator_in context term ≡ Some (body.join l) →
    IsJoin context l term
join-of context l (tree.Next word (tree.Same dash)) is = absurd (let never : ⊥ = cc in never)
join-of context l (tree.Next word (tree.To state)) is =
    let r = map-some body.to_state (state_in context state.text) (body.join l) is in
    let same : body.join l ≡ body.to_state r.0 = r.2 in
    absurd (let never : ⊥ = cc in never)
join-of context l (tree.Stop word) is = absurd (let never : ⊥ = cc in never)
join-of context l (tree.Join word name) is =
    let r = map-some body.join (label_in context name.text) (body.join l) is in
    let both : body.join l ≡ body.join r.0 = r.2 in
    let same : r.0 ≡ l = cc in
    record { word = word; name = name; is = refl; found = r.1 ∙ ap (λ (n : LabelId). Some n) same }

stay-of : (context : Context) (term : Terminator) → terminator_in context term ≡ Some body.to_same →
    (fault : Diagnostic) × In fault (stay_fault term)
stay-of context (tree.Next word (tree.Same dash)) is = (diagnostic_at NoState (mark_word mark.Minus dash), inl refl)
stay-of context (tree.Next word (tree.To state)) is =
    let r = map-some body.to_state (state_in context state.text) body.to_same is in
    let same : body.to_same ≡ body.to_state r.0 = r.2 in
    absurd (let never : ⊥ = cc in never)
stay-of context (tree.Stop word) is = absurd (let never : ⊥ = cc in never)
stay-of context (tree.Join word name) is =
    let r = map-some body.join (label_in context name.text) body.to_same is in
    let same : body.to_same ≡ body.join r.0 = r.2 in
    absurd (let never : ⊥ = cc in never)

-- ---- the bodies of a process

-- the beginning to which a body belongs
record BegunBy (context : Context) (list : List Beginning) (whole : Body) : Type 0 where
  beginning : Beginning
  among : In beginning list
  is : beginning_body context beginning ≡ Some whole

begun-by : (context : Context) (list : List Beginning) (bodies : List Body) →
    bodies_among context list ≡ map Some bodies → (number : ℕ) (whole : Body) → slice_get bodies number ≡ Some whole →
    BegunBy context list whole
begun-by context [] [] is zero whole at = absurd (let never : ⊥ = cc in never)
begun-by context [] [] is (suc number) whole at = absurd (let never : ⊥ = cc in never)
begun-by context [] (x ∷ bodies) is number whole at = absurd (let never : ⊥ = cc in never)
begun-by context (b ∷ list) [] is number whole at = absurd (let never : ⊥ = cc in never)
begun-by context (b ∷ list) (x ∷ bodies) is zero whole at =
    let same : beginning_body context b ≡ Some whole = cc in
    record { beginning = b; among = inl refl; is = same }
begun-by context (b ∷ list) (x ∷ bodies) is (suc number) whole at =
    let rest : bodies_among context list ≡ map Some bodies = cc in
    let r = begun-by context list bodies rest number whole at in
    record { beginning = r.beginning; among = inr r.among; is = r.is }

head-of : (context : Context) (b : Beginning) (list : List Beginning) (bodies : List Body) (first : Body) →
    bodies_among context (b ∷ list) ≡ map Some bodies → slice_get bodies 0 ≡ Some first →
    beginning_body context b ≡ Some first
head-of context b list [] first is at = absurd (let never : ⊥ = cc in never)
head-of context b list (x ∷ bodies) first is at = cc

module _ (context : Context) (definition : ProcessDefinition) (bodies : List Body)
    (are_bodies : bodies_of context definition ≡ map Some bodies) (are : AreNumbered context definition) where
  abbrev all : List Beginning
  all = beginnings definition

  -- a terminator of the text to which the start comes
  record Reached (x : body.Terminator) : Type 0 where
    term : Terminator
    is : terminator_in context term ≡ Some x
    reaches : StartReaches all term

  -- the terminators to which paths from a label come
  record LeadsFrom (l : LabelId) (on : Body) : Type 0 where
    word : Spot
    is : label_in context word.text ≡ Some l
    first : is_first (labels_in all) word ≡ true
    leads : (x : body.Terminator) → Meets x on
        → (term : Terminator) × (terminator_in context term ≡ Some x) × LeadsOn all word term

  -- a label of the text is the first of its name
  is-first : (word : Spot) → In (mention.Standing word) (process_mentions definition) →
      is_first (labels_in all) word ≡ true
  is-first word at =
      let found = in-spots (process_mentions definition) word at in
      let different = subst AreDifferent (process-spots definition) are.different in
      let here = first-found (spots_of (process_mentions definition)) found.0 word different found.1 in
      let entry : first_of (labels_in all) word.text ≡ Some word.place =
      ap (λ entries. first_of entries word.text) (entries-are (process_mentions definition)) ∙ here in
      subst (λ (o : Option Place). is_place word.place o ≡ true) (sym entry) (at-place word.place)

  never-met : {A : Type 0} (x : body.Terminator) → Meets x body.nothing → A
  never-met x meets = absurd (meeting x body.nothing meets)

  -- from the start
  from-start : (first : Body) → body_in context definition.start.transition ≡ Some first → (x : body.Terminator) →
      Meets x first → Reached x
  from-start first is x meets =
      by-path (meets-transition context x definition.start.transition first body.nothing is (alone x first meets))
    where
      by-path : Leaves context x AtFirst definition.start.transition body.nothing → Reached x
      by-path (inl comes) = record {
        term = comes.term;
        is = comes.is;
        reaches = reach.at_once comes.term (start_beginning definition) (inl refl) refl comes.comes;
      }
      by-path (inr runs) = never-met x runs.1

  -- from a label before a statement
  statement-leads : (b : Beginning) (l : LabelId) (on : Body) → In b all →
      FromTransition context l on b.transition → LeadsFrom l on
  statement-leads b l on among f = record {
    word = f.word;
    is = f.is;
    first = is-first f.word (in-each (mention.Standing f.word) beginning_mentions all b among
        (in-right (mention.Standing f.word) (label_mentions b.label) (transition_mentions b.transition) f.among));
    leads = λ x meets. by-path x (f.leaves x body.nothing (alone x on meets));
  }
    where
      by-path : (x : body.Terminator) → Leaves context x (AtLabel f.word) b.transition body.nothing →
          (term : Terminator) × (terminator_in context term ≡ Some x) × LeadsOn all f.word term
      by-path x (inl comes) = (comes.term, comes.is, reach.of_statement b among comes.comes)
      by-path x (inr runs) = never-met x runs.1

  -- from that of a connection
  connection-leads : (b : Beginning) (l : LabelId) (word : Spot) (inner on : Body) → In b all → b.label ≡ Some word →
      label_in context word.text ≡ Some l → body_in context b.transition ≡ Some inner → on ≡ inner → LeadsFrom l on
  connection-leads b l word inner on among labelled found is same = record {
    word = word;
    is = found;
    first = is-first word (in-each (mention.Standing word) beginning_mentions all b among
        (subst (λ (o : Option Spot).
        In (mention.Standing word) (label_mentions o ++ transition_mentions b.transition)) (sym labelled) (inl refl)));
    leads = λ x meets. by-path x (meets-transition context x b.transition inner body.nothing is
        (alone x inner (subst (Meets x) same meets)));
  }
    where
      by-path : (x : body.Terminator) → Leaves context x AtFirst b.transition body.nothing →
          (term : Terminator) × (terminator_in context term ≡ Some x) × LeadsOn all word term
      by-path x (inl comes) = (comes.term, comes.is, reach.of_connection b among labelled comes.comes)
      by-path x (inr runs) = never-met x runs.1

  named-leads : (b : Beginning) (l : LabelId) (name : Option Spot) (whole on : Body) → In b all → b.label ≡ name →
      labelled context name (body_in context b.transition) ≡ Some whole → FromLabel l whole on → LeadsFrom l on
  named-leads b l None whole on among same is from =
      statement-leads b l on among (from-transition context l b.transition whole on is from)
  named-leads b l (Some word) whole on among same is from =
      let r = both-some body.label (label_in context word.text) (body_in context b.transition) whole is in
      elim (standing l (body.label r.0 r.1) on (subst (λ (y : Body). FromLabel l y on) r.4 from)) [
        | inl e ↦ connection-leads b l word r.1 on among same (r.2 ∙ ap (λ (n : LabelId). Some n) e.0) r.3 e.1
        | inr later ↦ statement-leads b l on among (from-transition context l b.transition r.1 on r.3 later)
      ]

  leads-from : (l : LabelId) (on : Body) → LabelOf bodies l on → LeadsFrom l on
  leads-from l on label =
      let b = begun-by context all bodies are_bodies label.number label.whole label.body in
      named-leads b.beginning l b.beginning.label label.whole on b.among refl b.is label.from

  -- over a join
  joined-reached : (l : LabelId) (on : Body) → LeadsFrom l on → Reached (body.join l) → (x : body.Terminator) →
      Meets x on → Reached x
  joined-reached l on from join x meets =
      let j = join-of context l join.term join.is in
      let led = from.leads x meets in
      let start = subst (StartReaches all) j.is join.reaches in
      record {
        term = led.0;
        is = led.1;
        reaches = reach.by_join led.0 j.word j.name from.word start
            (same-text context definition are j.name.text from.word.text l j.found from.is) from.first led.2;
      }

  all-reached : (x : body.Terminator) (b : Body) → ((y : body.Terminator) → Meets y b → Reached y) →
      Reaches bodies x b → Reached x
  all-reached x b each (paths.at_once _ meets) = each x meets
  all-reached x b each (paths.by_join _ on l meets label onward) =
      all-reached x on (joined-reached l on (leads-from l on label) (each (body.join l) meets)) onward

  none-in : (faults : List Diagnostic) (fault : Diagnostic) → In fault faults → faults ≡ [] → ⊥
  none-in [] fault at none = at
  none-in (x ∷ faults) fault at none = cc

  leads-on : (names : List (List ℕ)) (first : Body) → AreReached all names → stay_faults all names ≡ [] →
      slice_get bodies 0 ≡ Some first → Reaches bodies body.to_same first → ⊥
  leads-on names first reached none at reaches =
      let is = head-of context (start_beginning definition) (beginnings_behind definition) bodies first are_bodies at in
      let r = all-reached body.to_same first (from-start first is) reaches in
      let stay = stay-of context r.term r.is in
      let met = reached-listed all names reached r.term r.reaches in
      none-in (stay_faults all names) stay.0 (in-each stay.0 stay_fault (met_from all names) r.term met stay.1) none

pub start-leads-on : StartLeadsOn
start-leads-on context definition names bodies first are_bodies are reached none at reaches =
    leads-on context definition bodies are_bodies are names first reached none at reaches
