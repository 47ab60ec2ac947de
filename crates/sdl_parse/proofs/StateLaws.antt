-- The laws of a state and of a connection, which stand in the body of a process.
use Rattle.sdl_parse.proofs.Words.{As, BeginsOne, BodyPart, Both, Choice, Fixed, FreeAction, InParentheses, IsMark, Law, List, Made, Mark, MaybeLaw, Separated, Spelling, SpellsBodyPart, SpellsEndConnection, SpellsEndState, SpellsEndStateName, SpellsName, SpellsStates, Spot, StateAll, StateList, StatePart, States, Stimulus, Transition, Words, [], action_marks, ap, as_choice, as_law, before_law, begins_action, begins_statement, begins_terminator, begins_unseen, behind_law, closed_law, drops_law, either, either_as, either_law, end_name_law, end_other, ended_law, erased_body_part, erased_name, erased_states, erased_stimulus, erased_transition, false, front, has_mark, have_mark, in_parentheses_law, inl, inr, made_as, made_law, map, mark_law, maybe_choice, name_law, named_law, nowhere_law, one_choice, or_choice, others_unseen, refl, same_mark, seen_begins, sees, sees_at, sees_front, sees_name, separated_begins, stops_law, suc, sym, terminator_marks, then_law, true, whole, ℕ, ◌∙◌, ◌∷◌, ◌≡◌, ◌⊎◌, names_law}
use Rattle.std.specs.List.{Contains}
use Rattle.std.specs.Str.{bytes_eq}
use Rattle.std.proofs.lemmas.List.Folds.{Any-from_list_any, list_any-from_Any}
use Rattle.std.proofs.lemmas.Slice.Eq.{bytes_eq-Decides}
use Rattle.sdl_parse.specs.States.{all_with, states, is_named, end_state_name, end_state, state_with, state_part, free_with, connection, begins_body_part, body_part, end_connection, body_part_marks}
use Rattle.sdl_parse.specs.Stimuli.{begins_stimulus, stimulus_marks}
use Rattle.parse_expressions.proofs.AllLaws.{Named}
use Rattle.sdl_parse.proofs.EndingLaws.{name_no_mark}
use Rattle.sdl_parse.proofs.ReceptionLaws.{Alone, alone_last, stimuli_law}
use Rattle.sdl_parse.proofs.StepLaws.{NoStatement, no_statement}
use Rattle.sdl_parse.proofs.TransitionLaws.{trans_law}
use Rattle.sdl_parse.proofs.TurnLemmas.{any_map}
use Rattle.sdl_tree.specs.declared.mark.Mark.TheVariants as mark

-- ---- states = "*" ["(" NAME {"," NAME} ")"] | NAME {"," NAME}

abbrev Unlisted : Words → Type 0
Unlisted j = (sees mark.Open j ≡ false) × (sees mark.Comma j ≡ false)

states_law : Law states SpellsStates SpellsStates Unlisted erased_states
unfolding states
states_law =
    as_law (either_as (made_as SpellsStates all_with) (made_as SpellsStates StateList)) from (either_as (made_as SpellsStates all_with) (made_as SpellsStates StateList))
    (either_law (sees mark.Asterisk) (sees_front mark.Asterisk)
    (stops_law (λ j t. t.0)
    (made_law all_with (λ x. refl) (then_law (mark_law mark.Asterisk) (in_parentheses_law name_law (λ s m. tt) (λ s m. tt) tt))))
    (stops_law (λ j t. (tt, t.1)) (made_law StateList (λ x. refl) names_law))
    (λ x i j s. sees_at mark.Asterisk s.0.0 i s.2.0 s.2.1)
    (λ x i j s t. separated_begins SpellsName (λ k. sees mark.Asterisk k ≡ false) (name_no_mark mark.Asterisk) s.0 i j s.2))
  where
    from : (x : States) (i j : Words) → SpellsStates x i j → Made all_with (Both (IsMark mark.Asterisk) (InParentheses SpellsName)) x i j ⊎ Made StateList (Separated SpellsName) x i j
    from (StateList names) i j s = inr (names, refl, s)
    from (StateAll asterisk except) i j s = inl ((asterisk, except), refl, s)

-- ---- [NAME] behind `endstate`

named_among : (xs : List Spot) (t : List ℕ) → is_named xs t ≡ true → (x : Spot) × Contains xs x × (t ≡ x.text)
named_among xs t e = let a = Any-from_list_any (λ (y : Spot). bytes_eq y.text t) xs e in (a.1, (a.0, a.2, a.3), sym ((bytes_eq-Decides a.1.text t).0 a.4))

among_named : (xs : List Spot) (t : List ℕ) (x : Spot) → Contains xs x → t ≡ x.text → is_named xs t ≡ true
among_named xs t x c e = list_any-from_Any (λ (y : Spot). bytes_eq y.text t) xs (c.0, x, c.1, c.2, (bytes_eq-Decides x.text t).1 (sym e))

one_to : (xs : List Spot) (i j : Words) → Named (is_named xs) i j → SpellsEndStateName (StateList xs) i j
one_to xs i j (inl e) = inl e
one_to xs i j (inr c) = let found = named_among xs c.0.text c.1 in inr (found.0, c.0, found.1, found.2, c.2)

one_from : (xs : List Spot) (i j : Words) → SpellsEndStateName (StateList xs) i j → Named (is_named xs) i j
one_from xs i j (inl e) = inl e
one_from xs i j (inr c) = inr (c.1, among_named xs c.1.text c.0 c.2 c.3, c.4)

end_state_name_law : (x : States) → Law (end_state_name x) (λ _. SpellsEndStateName x) (λ _. SpellsEndStateName x) (λ j. sees_name j ≡ false) whole
end_state_name_law (StateList xs) = as_law (λ u. one_to xs) (λ u. one_from xs) (λ u. one_to xs) (named_law (is_named xs))
end_state_name_law (StateAll asterisk except) = nowhere_law (λ j. sees_name j ≡ false)

-- names are found by their texts
same_named : (xs : List Spot) (t : List ℕ) → is_named xs t ≡ is_named (map erased_name xs) t
same_named xs t = sym (any_map (λ (y : Spot). bytes_eq y.text t) erased_name xs)

same_name_ended : (x y : States) → erased_states x ≡ erased_states y → (i j : Words) → SpellsEndStateName x i j → SpellsEndStateName y i j
same_name_ended (StateList xs) (StateList ys) e i j (inl s) = inl s
same_name_ended (StateList xs) (StateList ys) e i j (inr s) =
    let texts : map erased_name xs ≡ map erased_name ys = cc in
    let t : List ℕ = s.1.text in
    one_to ys i j (inr (s.1, same_named ys t ∙ ap (λ zs. is_named zs t) (sym texts) ∙ sym (same_named xs t) ∙ among_named xs t s.0 s.2 s.3, s.4))
same_name_ended (StateList xs) (StateAll a ys) e i j s = absurd cc
same_name_ended (StateAll a xs) (StateList ys) e i j s = absurd cc
same_name_ended (StateAll a xs) (StateAll b ys) e i j s = s

-- ---- ["endstate" [NAME] end]

-- where a state stops
abbrev pub Stated : Words → Type 0
Stated j = (Alone j × (begins_stimulus j ≡ false)) × (sees mark.EndState j ≡ false)

-- where a mark stands that begins no statement and no stimulus, a stimulus stops
alone_at : (ms : List Mark) (i : Words) → have_mark action_marks ms ≡ false → have_mark terminator_marks ms ≡ false → have_mark stimulus_marks ms ≡ false
    → has_mark mark.Provided ms ≡ false → has_mark mark.Priority ms ≡ false → BeginsOne ms i → Alone i × (begins_stimulus i ≡ false)
unfolding begins_stimulus
alone_at ms i a t s p q b = ((no_statement ms i a t b, begins_unseen mark.Provided ms i p b, begins_unseen mark.Priority ms i q b), others_unseen stimulus_marks ms i s b)

no_stimulus_before : (x : States × List Stimulus) (m j : Words) → SpellsEndState x.0 m j → Stated j → Alone m × (begins_stimulus m ≡ false)
unfolding same_mark
no_stimulus_before x m j (inl e) t = rw e t.0
no_stimulus_before x m j (inr c) t = alone_at (mark.EndState ∷ []) m refl refl refl refl refl (inl (c.0, c.1, c.3))

abbrev erased_stated : States × List Stimulus → States × List Stimulus
erased_stated x = (erased_states x.0, map erased_stimulus x.1)

same_state_ended : (x y : States × List Stimulus) → erased_stated x ≡ erased_stated y → (i j : Words) → SpellsEndState x.0 i j → SpellsEndState y.0 i j
same_state_ended x y e i j (inl s) = inl s
same_state_ended x y e i j (inr s) = inr (s.0, s.1, s.2, s.3, same_name_ended x.0 y.0 (ap (λ (p : States × List Stimulus). p.0) e) s.1 s.2 s.4, s.5)

-- ---- state = "state" states end {stimulus} ["endstate" [NAME] end]

state_law : (d : ℕ) → Law (state_part d) (As (SpellsBodyPart d) state_with) (As (SpellsBodyPart (suc d)) state_with) Stated erased_body_part
unfolding state_part end_state same_mark
state_law d = made_law state_with (λ x. refl)
    (behind_law mark.State
    (drops_law (then_law (ended_law states_law (λ i j s. (end_other mark.Open refl refl i j s, end_other mark.Comma refl refl i j s))) (stimuli_law d))
    (λ x. stops_law (λ j t. t.1) (closed_law mark.EndState (end_state_name_law x.0))) no_stimulus_before same_state_ended))

-- ---- "connection" NAME ":" trans ["endconnection" [NAME] end]

-- where a connection stops
abbrev pub Connected : Words → Type 0
Connected j = NoStatement j × (sees mark.EndConnection j ≡ false)

no_statement_before : (x : Spot × Transition) (m j : Words) → SpellsEndConnection x.0 m j → Connected j → NoStatement m
unfolding same_mark
no_statement_before x m j (inl e) t = rw e t.0
no_statement_before x m j (inr c) t = no_statement (mark.EndConnection ∷ []) m refl refl (inl (c.0, c.1, c.3))

same_end : (x y : Spot × Transition) → ◌≡◌ {A = Spot × Transition} (erased_name x.0, erased_transition x.1) (erased_name y.0, erased_transition y.1)
    → (i j : Words) → SpellsEndConnection x.0 i j → SpellsEndConnection y.0 i j
same_end x y e i j s = let texts : x.0.text ≡ y.0.text = ap (λ (p : Spot × Transition). p.0.text) e in rw texts at s

pub connection_law : (d : ℕ) → Law (connection d) (As (SpellsBodyPart d) free_with) (As (SpellsBodyPart (suc d)) free_with) Connected erased_body_part
unfolding connection end_connection
connection_law d = made_law free_with (λ x. refl)
    (then_law (mark_law mark.Connection)
    (drops_law (then_law (before_law mark.Colon name_law (λ s j. tt)) (trans_law d)) (λ x. stops_law (λ j t. t.1) (closed_law mark.EndConnection (end_name_law x.0.text))) no_statement_before same_end))

-- ---- state | connection

-- where a part stops
abbrev pub PartStops : Words → Type 0
PartStops j = Stated j × Connected j

part_from : (d : ℕ) (x : BodyPart) (i j : Words) → SpellsBodyPart d x i j → As (SpellsBodyPart d) state_with x i j ⊎ As (SpellsBodyPart d) free_with x i j
part_from d (StatePart names stimuli) i j s = inl ((names, stimuli), refl, s)
part_from d (FreeAction w label transition) i j s = inr ((w, (label, transition)), refl, s)

part_choice : (d : ℕ) → Choice (either (sees mark.State) (state_part d) (connection d)) (SpellsBodyPart d) (SpellsBodyPart (suc d)) PartStops body_part_marks erased_body_part
unfolding same_mark
part_choice d =
    as_choice (either_as (made_as (SpellsBodyPart d) state_with) (made_as (SpellsBodyPart d) free_with)) (part_from d)
    (either_as (made_as (SpellsBodyPart (suc d)) state_with) (made_as (SpellsBodyPart (suc d)) free_with))
    (or_choice mark.State _ refl (stops_law (λ j t. t.0) (state_law d)) (λ x i j s. (s.2.0, s.2.1, s.2.2))
    (one_choice mark.Connection (stops_law (λ j t. t.1) (connection_law d)) (λ x i j s. (s.0.0, s.2.0, s.2.1))))

pub body_part_law : (d : ℕ) → MaybeLaw (body_part d) (SpellsBodyPart d) (SpellsBodyPart (suc d)) PartStops begins_body_part erased_body_part
unfolding body_part begins_body_part
body_part_law d = maybe_choice body_part_marks (part_choice d)

-- ---- where a start and a part stop

pub part_last : PartStops []
unfolding begins_stimulus begins_statement begins_action begins_terminator sees_name sees front
part_last = (((alone_last, refl), refl), (refl, refl))

-- at another part, and at the end of the process
pub part_stops : (i : Words) → BeginsOne (mark.EndProcess ∷ body_part_marks) i → PartStops i
unfolding same_mark
part_stops i b =
    let ms : List Mark = mark.EndProcess ∷ body_part_marks in
    let alone = alone_at ms i refl refl refl refl refl b in
    ((alone, begins_unseen mark.EndState ms i refl b), (alone.0.0, begins_unseen mark.EndConnection ms i refl b))

pub part_at : (i : Words) → begins_body_part i ≡ true → PartStops i
unfolding begins_body_part
part_at i e = part_stops i (inr (seen_begins body_part_marks i e))

-- `endprocess` goes on with neither, and begins no part
pub part_ends : (s : Spelling) (j : Words) → PartStops (Fixed mark.EndProcess s ∷ j) × (begins_body_part (Fixed mark.EndProcess s ∷ j) ≡ false)
unfolding begins_body_part sees front same_mark
part_ends s j = (part_stops (Fixed mark.EndProcess s ∷ j) (inl (s, j, refl)), refl)
