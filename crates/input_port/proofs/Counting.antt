-- The law of counts, by induction on the senders: the signals of one number, and of all others, merge to the signals of all.
use Rattle.std.proofs.Common.{◌≡◌, ◌≢◌, ℕ, ◌+◌, ◌≤◌, true, false, cond, nat_eq, List, [], ◌∷◌, ◌++◌, length, get_or, All, sym, refl, ap, ◌∙◌, inl, inr, ⊎_elim, arith, append-nil, length-append, eq-eqb, ne_eqb, count_by}
use Rattle.std.proofs.lemmas.Bool.{cases_eq, false_from_ne_true}
use Rattle.std.proofs.lemmas.List.{nil_from_length}
use Rattle.std.proofs.lemmas.List.Elements.{All-nil, All-cons, All-tail}
use Rattle.std.proofs.lemmas.List.Recursion.{is_count_by}
use Rattle.input_port.specs.Words.{is_signal, is_signal_entry, of, Entry, Placed, Signal, Timer}
use Rattle.input_port.specs.Counts.{Flow, FlowsInto, AreApart, IsOfOne, AllIsDrawn, NoFewerAreDrawn, CountsTell, signal_before, signals_in, sent_by, put_by_all}
use Rattle.port_model.specs.Same.{same_pid, same_pid-Decides}
use Rattle.port_model.specs.declared.values.item.Item.{Item}
use Rattle.port_model.specs.declared.values.pid.Pid.{Pid}

-- the entries of all other numbers
abbrev others : ℕ → List Placed → List Placed
others n [] = []
others n (p ∷ ps) = cond (nat_eq p.number n) (others n ps) (p ∷ others n ps)

of_others : (m n : ℕ) (ps : List Placed) → m ≢ n → of m (others n ps) ≡ of m ps
of_others m n [] other = refl
of_others m n (p ∷ ps) other =
    ⊎_elim (λ (e : p.number ≡ n). rw (eq-eqb p.number n e, ne_eqb p.number m (λ f. other (sym f ∙ e)))
    (of_others m n ps other))
    (λ (ne : p.number ≢ n). rw (ne_eqb p.number n ne)
    (ap (λ l. cond (nat_eq p.number m) (p ∷ l) l) (of_others m n ps other))) (cases_eq p.number n)

-- ---- a list that is merged of two others, each in its order

data Merged : List Item → List Item → List Item → Type 0 where
  none : Merged [] [] []
  left : (x : Item) (all xs ys : List Item) → Merged all xs ys → Merged (x ∷ all) (x ∷ xs) ys
  right : (x : Item) (all xs ys : List Item) → Merged all xs ys → Merged (x ∷ all) xs (x ∷ ys)

-- the signals of a number, and those of the others
merged : (n : ℕ) (ps : List Placed) → Merged (signals_in ps) (signals_in (of n ps)) (signals_in (others n ps))
merged n [] = none
merged n (p ∷ ps) =
    elim (nat_eq p.number n) as
    (λ b. Merged (signals_in (p ∷ ps)) (signals_in (cond b (p ∷ of n ps) (of n ps)))
    (signals_in (cond b (others n ps) (p ∷ others n ps))))
    [ true ↦ to_left p.entry (merged n ps) | false ↦ to_right p.entry (merged n ps) ]
  where
    to_left : (e : Entry) {all xs ys : List Item} → Merged all xs ys
        → Merged (signal_before e all) (signal_before e xs) ys
    to_left (Signal item) m = left item _ _ _ m
    to_left (Timer fuse) m = m

    to_right : (e : Entry) {all xs ys : List Item} → Merged all xs ys
        → Merged (signal_before e all) xs (signal_before e ys)
    to_right (Signal item) m = right item _ _ _ m
    to_right (Timer fuse) m = m

length-merged : (all xs ys : List Item) → Merged all xs ys → length all ≡ length xs + length ys
length-merged _ _ _ none = refl
length-merged _ _ _ (left x all xs ys m) = let rest = length-merged all xs ys m in omega arith
length-merged _ _ _ (right x all xs ys m) = let rest = length-merged all xs ys m in omega arith

All-merged : (P : Item → Type 0) (all xs ys : List Item) → Merged all xs ys → All P xs → All P ys → All P all
All-merged P _ _ _ none p q = p
All-merged P _ _ _ (left x all xs ys m) p q =
    All-cons P x all (p 0 x (omega arith)) (All-merged P all xs ys m (All-tail P x xs p) q)
All-merged P _ _ _ (right x all xs ys m) p q =
    All-cons P x all (q 0 x (omega arith)) (All-merged P all xs ys m p (All-tail P x ys q))

not_same : (o : Pid) (x : Item) → x.sender ≢ o → same_pid x.sender o ≡ false
not_same o x other = false_from_ne_true (same_pid x.sender o) (λ is. other ((same_pid-Decides x.sender o).0 is))

-- what one origin sent: all of the one list, where the other has nothing of it
sent_left : (o : Pid) (all xs ys : List Item) → Merged all xs ys → All (λ item. item.sender ≡ o) xs
    → All (λ item. item.sender ≢ o) ys → sent_by o all ≡ xs
sent_left o _ _ _ none mine else = refl
sent_left o _ _ _ (left x all xs ys m) mine else =
    rw ((same_pid-Decides x.sender o).1 (mine 0 x (omega arith)))
    (ap (λ l. x ∷ l) (sent_left o all xs ys m (All-tail (λ (i : Item). i.sender ≡ o) x xs mine) else))
sent_left o _ _ _ (right x all xs ys m) mine else =
    rw (not_same o x (else 0 x (omega arith)))
    (sent_left o all xs ys m mine (All-tail (λ (i : Item). i.sender ≢ o) x ys else))

-- and what it sent of the other, where the one has nothing of it
sent_right : (o : Pid) (all xs ys : List Item) → Merged all xs ys → All (λ item. item.sender ≢ o) xs
    → sent_by o all ≡ sent_by o ys
sent_right o _ _ _ none else = refl
sent_right o _ _ _ (left x all xs ys m) else =
    rw (not_same o x (else 0 x (omega arith)))
    (sent_right o all xs ys m (All-tail (λ (i : Item). i.sender ≢ o) x xs else))
sent_right o _ _ _ (right x all xs ys m) else =
    ap (λ l. cond (same_pid x.sender o) (x ∷ l) l) (sent_right o all xs ys m else)

-- ---- the law

count_signals : (ps : List Placed) → count_by is_signal ps ≡ length (signals_in ps)
count_signals ps =
    sym (is_count_by (λ qs. length (signals_in qs)) is_signal refl (λ p qs. step p.entry (signals_in qs)) ps)
  where
    step : (e : Entry) (rest : List Item)
        → length (signal_before e rest) ≡ cond (is_signal_entry e) (1 + length rest) (length rest)
    step (Signal item) rest = omega arith
    step (Timer fuse) rest = refl

abbrev IsApart : Flow → Flow → Type 0
IsApart f other = (other.number ≢ f.number) × (other.origin ≢ f.origin)

-- the rows of the other senders stand among the other entries
moved : (ps : List Placed) (f : Flow) (flows : List Flow) → All (IsApart f) flows → All (FlowsInto ps) flows
    → All (FlowsInto (others f.number ps)) flows
moved ps f flows apart all k d lt =
    let into = all k d lt in
    let same = of_others (get_or flows k d).number f.number ps (apart k d lt).0 in
    record { own = into.own; more = into.more; first = ap signals_in same ∙ into.first }

at_least : (flows : List Flow) (ps : List Placed) → All (FlowsInto ps) flows → AreApart flows
    → put_by_all flows ≤ length (signals_in ps)
at_least [] ps all apart = omega arith
at_least (f ∷ fs) ps all apart =
    let here : FlowsInto ps f = all 0 f (omega arith) in
    let rest = at_least fs (others f.number ps) (moved ps f fs apart.0 (All-tail (FlowsInto ps) f fs all)) apart.1 in
    let both = length-merged _ _ _ (merged f.number ps) in
    let first = ap length here.first ∙ length-append f.put here.more in omega arith

not_first : (f : Flow) (flows : List Flow) → All (IsApart f) flows → (item : Item) → IsOfOne flows item
    → item.sender ≢ f.origin
not_first f [] apart item of_one e = absurd of_one
not_first f (g ∷ gs) apart item of_one e =
    ⊎_elim (λ (is : item.sender ≡ g.origin). (apart 0 g (omega arith)).1 (sym is ∙ e))
    (λ (more : IsOfOne gs item). not_first f gs (All-tail (IsApart f) g gs apart) item more e) of_one

all_drawn : (flows : List Flow) (ps : List Placed) → All (FlowsInto ps) flows → AreApart flows
    → length (signals_in ps) ≤ put_by_all flows → AllIsDrawn ps flows
all_drawn [] ps all apart few =
    let each = All-nil (λ (flow : Flow). sent_by flow.origin (signals_in ps) ≡ flow.put) in
    record { each = each; no_other = λ k d lt. absurd (omega arith) }
all_drawn (f ∷ fs) ps all apart few =
    let here : FlowsInto ps f = all 0 f (omega arith) in
    let later = moved ps f fs apart.0 (All-tail (FlowsInto ps) f fs all) in
    let least = at_least fs (others f.number ps) later apart.1 in
    let parts = merged f.number ps in
    let both = length-merged _ _ _ parts in
    let long = ap length here.first ∙ length-append f.put here.more in
    let rest = all_drawn fs (others f.number ps) later apart.1 (omega arith) in
    let just : signals_in (of f.number ps) ≡ f.put =
    here.first ∙ ap (λ l. f.put ++ l) (nil_from_length here.more (omega arith)) ∙ append-nil f.put in
    let mine : All (λ item. item.sender ≡ f.origin) (signals_in (of f.number ps)) = rw just here.own in
    let else : All (λ item. item.sender ≢ f.origin) (signals_in (others f.number ps)) =
    λ k d lt. not_first f fs apart.0 _ (rest.no_other k d lt) in
    record {
      each = All-cons (λ (flow : Flow). sent_by flow.origin (signals_in ps) ≡ flow.put) f fs
          (sent_left f.origin _ _ _ parts mine else ∙ just)
          (λ k d lt. sent_right _ _ _ _ parts (λ j c less e. (apart.0 k d lt).1 (sym e ∙ mine j c less))
          ∙ rest.each k d lt);
      no_other = All-merged (IsOfOne (f ∷ fs)) _ _ _ parts (λ k d lt. inl (mine k d lt))
          (λ k d lt. inr (rest.no_other k d lt));
    }

pub no_fewer : NoFewerAreDrawn
no_fewer drawn flows all apart = let count = count_signals drawn in let least = at_least flows drawn all apart in omega arith

pub counts_tell : CountsTell
counts_tell drawn flows all apart few = let count = count_signals drawn in all_drawn flows drawn all apart (omega arith)
