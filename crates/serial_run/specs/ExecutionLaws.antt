-- Executions join, and so does how far a run goes: laws that the sweeps ask of instances.
use Rattle.std.proofs.Common.{◌≡◌, ◌+◌, ℕ, List, [], ◌∷◌, ◌++◌, None, Option, Some, refl, inl, inr, ap, ◌∙◌, sym, subst, append_assoc, append-nil, arith}
use Rattle.port_model.specs.KeptWords.{Notes, with_all}
use Rattle.run_semantics.specs.Behaves.{AreBehaviours}
use Rattle.serial_order.specs.Execution.{Execution, EndsInTransition, Follows, Happening, IsTransition, begins, goes, transitions_of, transitions_of_one}
use Rattle.serial_order.specs.RunState.{RunState}
use Rattle.serial_run.specs.Serial.{state_of}
use Rattle.serial_run.specs.Thinned.{IsThinned}
use Rattle.serial_run.specs.declared.instances.Instances.{Instances}
use Rattle.serial_run.specs.Advances.{Advances, Reaches}
use Rattle.serial_run.specs.Told.{NotesThese, teller_of, tellers_of}
use Rattle.serial_sweeps.specs.Sweeps.{Moment}
use Rattle.sdl_system.specs.Behaviour.{Behaviour}

pub execution_append : {ps : List Behaviour} {last : ℕ} {a b c : RunState} {before after : List Happening}
    → Execution ps last a before b → Execution ps last b after c → Execution ps last a (before ++ after) c
execution_append {ps = ps} {last = last} {a = a} {b = b} {before = before} first begins =
    subst (λ happenings. Execution ps last a happenings b) (sym (append-nil before)) first
execution_append {ps = ps} {last = last} {a = a} {before = before} first
    (goes {happenings = happenings} second next to follows) =
    subst (λ all. Execution ps last a all to) (append_assoc before happenings (next ∷ []))
    (goes (execution_append first second) next to follows)

pub transitions_of-append : (before after : List Happening)
    → transitions_of (before ++ after) ≡ transitions_of before + transitions_of after
transitions_of-append [] after = omega arith
transitions_of-append (first ∷ rest) after = omega (arith, transitions_of-append rest after)

-- of two executions the later one ends the whole, unless nothing happened in it
ends_on : (before after : List Happening) → EndsInTransition after → (after ≡ [] → EndsInTransition before)
    → EndsInTransition (before ++ after)
ends_on before after ends first =
    elim ends [
      | inl w ↦ subst EndsInTransition (sym (ap (λ all. before ++ all) w ∙ append-nil before)) (first w)
      | inr w ↦ inr (before ++ w.0, w.1, ap (λ all. before ++ all) w.2 ∙ sym (append_assoc before w.0 (w.1 ∷ [])), w.3)
    ]

-- ---- whose events are told

pub tellers_of-append : (before after : List Happening)
    → tellers_of (before ++ after) ≡ tellers_of before ++ tellers_of after
tellers_of-append [] after = refl
tellers_of-append (first ∷ rest) after =
    ap (λ tellers. teller_of first ++ tellers) (tellers_of-append rest after)
    ∙ sym (append_assoc (teller_of first) (tellers_of rest) (tellers_of after))

-- whose events one thing tells after others that tell none
pub tellers_one : (before : List Happening) (happened : Happening) → tellers_of before ≡ []
    → tellers_of (before ++ happened ∷ []) ≡ teller_of happened
tellers_one before happened none =
    tellers_of-append before (happened ∷ []) ∙ ap (λ tellers. tellers ++ (teller_of happened ++ [])) none
    ∙ append-nil (teller_of happened)

-- nobody is noted
pub notes_none : (kept : Option (List ℕ)) → NotesThese kept [] kept
notes_none None = inl refl
notes_none (Some list) = inl (ap Some (sym (append-nil list)))

pub notes_word : (kept : Option (List ℕ)) (word : ℕ) (now : Option (List ℕ)) → Notes kept word now
    → NotesThese kept (word ∷ []) now
notes_word kept word now (inr lost) = inr lost
notes_word None word now (inl is) = inl is
notes_word (Some list) word now (inl is) = inl is

abbrev pub behind : List ℕ → Option (List ℕ) → Option (List ℕ)
behind more kept = with_all kept (Some more)

-- first these are noted, and then those
pub notes_on : (k l n : Option (List ℕ)) (some more : List ℕ) → NotesThese k some l → NotesThese l more n
    → NotesThese k (some ++ more) n
notes_on k l n some more first (inr lost) = inr lost
notes_on k l n some more (inr lost) (inl second) = inr (second ∙ ap (behind more) lost)
notes_on None l n some more (inl first) (inl second) = inr (second ∙ ap (behind more) first)
notes_on (Some list) l n some more (inl first) (inl second) =
    inl (second ∙ ap (behind more) first ∙ ap Some (append_assoc list some more))

-- ---- how far a run goes

-- nothing happened
pub stays_noted : (last : ℕ) (m n : Moment) (a b : Instances) (k l : Option (List ℕ)) → state_of n b ≡ state_of m a
    → n.left ≡ m.left → b.system ≡ a.system → NotesThese k [] l → Reaches last m a k n b l
stays_noted last m n a b k l same left system noted = λ ps behaviours g thinned. record {
  happenings = [];
  to = g;
  execution = begins;
  thinned = subst (IsThinned g) (sym same) thinned;
  counted = omega (arith, left);
  in_transition = λ spent. inl refl;
  noted = noted;
  system = system;
}

pub stays : (last : ℕ) (m n : Moment) (a b : Instances) (kept : Option (List ℕ)) → state_of n b ≡ state_of m a
    → n.left ≡ m.left → b.system ≡ a.system → Reaches last m a kept n b kept
stays last m n a b kept same left system = stays_noted last m n a b kept kept same left system (notes_none kept)

pub reaches_same : (last : ℕ) (m : Moment) (a : Instances) (kept : Option (List ℕ)) → Reaches last m a kept m a kept
reaches_same last m a kept = stays last m m a a kept refl refl refl

-- first to one state, and then on
pub reaches_on : (last : ℕ) (m n o : Moment) (a b c : Instances) (k l j : Option (List ℕ)) → Reaches last m a k n b l
    → Reaches last n b l o c j → Reaches last m a k o c j
reaches_on last m n o a b c k l j first second = λ ps behaviours g thinned.
    let one = first ps behaviours g thinned in
    let two = second ps (subst (λ system. AreBehaviours system ps) (sym (ap (λ r. r.now) one.system)) behaviours)
    one.to one.thinned in
    let all = transitions_of-append one.happenings two.happenings in
    record {
      happenings = one.happenings ++ two.happenings;
      to = two.to;
      execution = execution_append one.execution two.execution;
      thinned = two.thinned;
      counted = omega (arith, all, one.counted, two.counted);
      in_transition = λ spent. ends_on one.happenings two.happenings (two.in_transition spent)
          (λ none. let made = ap transitions_of none in
          one.in_transition (omega (arith, two.counted, spent, made)));
      noted = subst (λ tellers. NotesThese k tellers j) (sym (tellers_of-append one.happenings two.happenings))
          (notes_on k l j (tellers_of one.happenings) (tellers_of two.happenings) one.noted two.noted);
      system = two.system ∙ one.system;
    }

-- one thing happened after others that nobody did, for these behaviours
pub advances_one : (ps : List Behaviour) (last : ℕ) (m n : Moment) (a b : Instances) (k l : Option (List ℕ))
    (g at to : RunState) (before : List Happening) → Execution ps last g before at → transitions_of before ≡ 0
    → tellers_of before ≡ [] → (happened : Happening) → Follows ps last at happened to → IsThinned to (state_of n b)
    → n.left + transitions_of_one happened ≡ m.left → (n.left ≡ 0 → IsTransition happened)
    → NotesThese k (teller_of happened) l → b.system ≡ a.system → Advances ps last m a k g n b l
advances_one ps last m n a b k l g at to before execution none nobody happened follows thinned counted reached noted
    same =
    let all = transitions_of-append before (happened ∷ []) in
    record {
      happenings = before ++ happened ∷ [];
      to = to;
      execution = goes execution happened to follows;
      thinned = thinned;
      counted = omega (arith, all, none, counted);
      in_transition = λ spent. inr (before, happened, refl, reached spent);
      noted = subst (λ tellers. NotesThese k tellers l) (sym (tellers_one before happened nobody)) noted;
      system = same;
    }
