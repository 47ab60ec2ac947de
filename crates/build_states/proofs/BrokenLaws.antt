-- The faults of the states of a process are the rules that they break.
use Rattle.std.proofs.Common.{◌≡◌, ◌∙◌, ◌⊎◌, inl, inr, ◌||◌, ◌++◌, ℕ, Bool, true, false, not, List, [], ◌∷◌, ap, flat_map, fold, if◌then◌else◌, refl, subst, sym}
use Rattle.std.specs.List.{list_any}
use Rattle.std.proofs.lemmas.Slice.Eq.{bytes_eq-Decides}
use Rattle.build_names.proofs.FaultLemmas.{each-both, each-if, each-of, in-each, in-if, in-left, in-right}
use Rattle.build_names.specs.FaultLaws.{Each, In}
use Rattle.build_names.specs.Faults.{Diagnostic, diagnostic_at}
use Rattle.build_names.specs.States.{different, is_same_text, with_new}
use Rattle.build_names.specs.declared.faults.fault.Rule.TheVariants.{NoState, TwiceInState}
use Rattle.sdl_tree.specs.Tree.{BodyPart, FreeAction, StateAll, StateList, StatePart}
use Rattle.sdl_tree.specs.Words.{Spot}
use Rattle.build_states.specs.Context.{Context}
use Rattle.build_states.specs.Reading.{Part, body_read}
use Rattle.build_states.specs.Broken.{BrokenListed, IsBroken, ListedBroken, no_state, twice}
use Rattle.build_states.specs.States.{is_named, left_out_faults, mentions_in, named_faults, names_in, parts_of, states_faults, unnamed_faults}
use Rattle.build_states.proofs.TwiceLemmas.{listed-twice, twice-listed}

-- ---- different names

new-in : (words : List Spot) (word other : Spot) (b : Bool) →
    In other (if b then words else words ++ word ∷ []) → In other words ⊎ (other ≡ word)
new-in words word other true at = inl at
new-in words word other false at = last words at
  where
    last : (xs : List Spot) → In other (xs ++ word ∷ []) → In other xs ⊎ (other ≡ word)
    last [] at = elim at [ inl e ↦ inr e | inr i ↦ absurd i ]
    last (x ∷ xs) at =
        elim at [
          | inl e ↦ inl (inl e)
          | inr i ↦ elim (last xs i) [ inl h ↦ inl (inr h) | inr e ↦ inr e ]
        ]

different-in : (words rest : List Spot) (other : Spot) → In other (fold with_new words rest) →
    In other words ⊎ In other rest
different-in words [] other at = inl at
different-in words (word ∷ rest) other at =
    elim (different-in (with_new words word) rest other at) [
      | inl h ↦ elim (new-in words word other (list_any (is_same_text word) words) h) [
        | inl i ↦ inl i
        | inr e ↦ inr (inl e)
      ]
      | inr i ↦ inr (inr i)
    ]

record HasText (words : List Spot) (text : List ℕ) : Type 0 where
  word : Spot
  among : In word words
  same : word.text ≡ text

stays : (words rest : List Spot) (text : List ℕ) → HasText words text → HasText (fold with_new words rest) text
stays words [] text has = has
stays words (word ∷ rest) text has = stays (with_new words word) rest text (one (list_any (is_same_text word) words))
  where
    one : (b : Bool) → HasText (if b then words else words ++ word ∷ []) text
    one true = has
    one false = record { word = has.word; among = in-left has.word words (word ∷ []) has.among; same = has.same }

any-text : (words : List Spot) (word : Spot) → list_any (is_same_text word) words ≡ true → HasText words word.text
any-text [] word h = let never : false ≡ true = h in cc
any-text (x ∷ words) word h = by (is_same_text word x) refl (λ later. any-text words word later)
  where
    by : (b : Bool) → is_same_text word x ≡ b →
        (list_any (is_same_text word) words ≡ true → HasText words word.text) → HasText (x ∷ words) word.text
    by true is rest = record { word = x; among = inl refl; same = sym ((bytes_eq-Decides word.text x.text).0 is) }
    by false isnt rest =
        let has = rest (ap (λ b. b || list_any (is_same_text word) words) (sym isnt) ∙ h) in
        record { word = has.word; among = inr has.among; same = has.same }

has-new : (words : List Spot) (word : Spot) → HasText (with_new words word) word.text
has-new words word = by (list_any (is_same_text word) words) refl
  where
    by : (b : Bool) → list_any (is_same_text word) words ≡ b →
        HasText (if b then words else words ++ word ∷ []) word.text
    by true is = any-text words word is
    by false isnt = record { word = word; among = in-right word words (word ∷ []) (inl refl); same = refl }

in-different : (words rest : List Spot) (word : Spot) → In word rest → HasText (fold with_new words rest) word.text
in-different words [] word at = absurd at
in-different words (first ∷ rest) word at =
    elim at [
      | inl e ↦ stays (with_new words first) rest word.text
          (subst (λ w. HasText (with_new words first) w.text) (sym e) (has-new words first))
      | inr i ↦ in-different (with_new words first) rest word i
    ]

-- ---- names behind asterisks

not-true : (b : Bool) → not b ≡ true → b ≡ false
not-true true h = let never : false ≡ true = h in cc
not-true false h = refl

module _ (context : Context) (body : List BodyPart) where
  abbrev parts : List Part
  parts = (body_read context body).parts

  part-broken : (part : BodyPart) → In part body →
      Each (IsBroken context body) (left_out_faults (is_named (names_in body)) part)
  part-broken (StatePart (StateList names) stimuli) at = tt
  part-broken (StatePart (StateAll asterisk except) stimuli) at =
      each-of (IsBroken context body) (unnamed_faults (is_named (names_in body))) except (λ name among.
      each-if (IsBroken context body) (not (is_named (names_in body) name.text)) NoState name (λ isnt.
      no_state asterisk except stimuli name at among (not-true (is_named (names_in body) name.text) isnt)))
  part-broken (FreeAction word label transition) at = tt

  name-broken : (name : Spot) → In name (different (names_in body)) →
      Each (IsBroken context body) (named_faults parts name)
  name-broken name at =
      elim (different-in [] (names_in body) name at) [
        | inl none ↦ absurd none
        | inr among ↦ twice-listed (IsBroken context body) (mentions_in (parts_of name.text parts))
            (λ word is. twice name word among is)
      ]

  all-broken : Each (IsBroken context body) (states_faults context body)
  all-broken =
      each-both (IsBroken context body) (flat_map (left_out_faults (is_named (names_in body))) body)
      (flat_map (named_faults parts) (different (names_in body)))
      (each-of (IsBroken context body) (left_out_faults (is_named (names_in body))) body part-broken)
      (each-of (IsBroken context body) (named_faults parts) (different (names_in body)) name-broken)

  all-listed : (fault : Diagnostic) → IsBroken context body fault → In fault (states_faults context body)
  all-listed fault (twice name word among is) =
      let has = in-different [] (names_in body) name among in
      let here = listed-twice (mentions_in (parts_of name.text parts)) word is in
      in-right (diagnostic_at TwiceInState word) (flat_map (left_out_faults (is_named (names_in body))) body)
      (flat_map (named_faults parts) (different (names_in body)))
      (in-each (diagnostic_at TwiceInState word) (named_faults parts) (different (names_in body)) has.word has.among
      (subst (λ text. In (diagnostic_at TwiceInState word)
      (named_faults parts (record { text = text; place = has.word.place })))
      (sym has.same) here))
  all-listed fault (no_state asterisk except stimuli name at among isnt) =
      in-left (diagnostic_at NoState name) (flat_map (left_out_faults (is_named (names_in body))) body)
      (flat_map (named_faults parts) (different (names_in body)))
      (in-each (diagnostic_at NoState name) (left_out_faults (is_named (names_in body))) body
      (StatePart (StateAll asterisk except) stimuli) at
      (in-each (diagnostic_at NoState name) (unnamed_faults (is_named (names_in body))) except name among
      (in-if (not (is_named (names_in body) name.text)) NoState name (ap not isnt))))

pub listed-broken : ListedBroken
listed-broken context body = all-broken context body

pub broken-listed : BrokenListed
broken-listed context body fault is = all-listed context body fault is
