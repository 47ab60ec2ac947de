use Rattle.std.proofs.Common.{◌≡◌, ◌+◌, ℕ, suc, count_by, List, [], ◌∷◌, ◌++◌, length, Option, Some, None, MatchOption, sym, refl, ap, ◌∙◌, subst, arith, length-append, append-nil}
use Rattle.std.proofs.lemmas.Grind.{common_steps}
use Rattle.std.proofs.lemmas.List.{nil_from_length}
use Rattle.input_port.specs.QueueWords.{gathers, is_signal, longer, of, popped_list, sent_by, without_first, without_last, AllThere, Apart, Draws, Gone, IsFresh, IsOfOwner, Placed, SenderState, StartsWith, TakesIn, View}
use Rattle.input_port.proofs.PutLists.{of-append, starts_all, starts_through, both_told}

-- the sender of this view, once it is gathered
abbrev gone : View → Gone
gone u = record { number = u.number; count = u.count }

-- a sender was taken in, and one entry was drawn
takes_in_one : (v u w : View) (x : Placed) → Draws (gathers v u) x w → TakesIn v u w (x ∷ [])
takes_in_one v u w x d =
    let both = both_told v.seen u.seen d.3 in
    let takes = ap (λ l. l.takes) d.0 in
    let drawn = ap (λ l. l.drawn) d.0 in
    let known = ap (λ l. l.seen) d.0 in
    let gathered = ap (λ l. l.gathered) d.0 in
    let kept = starts_through w.seen (longer v.seen u.seen) v.seen d.1 both.0 in
    let told = starts_through w.seen (longer v.seen u.seen) u.seen d.1 both.1 in
    let there : AllThere w.seen (gone u ∷ v.gathered) = rw gathered at d.4 in
    let all : length (of u.number w.seen) ≡ u.count = there 0 (gone u) (omega arith) in assumption

-- a sender was taken in, and the queue was empty
takes_in_none : (v u : View) → IsFresh (gathers v u) [] → TakesIn v u (gathers v u) []
takes_in_none v u f =
    let both = both_told v.seen u.seen f.1 in
    let drawn = sym (append-nil v.drawn) in
    let longest = starts_all (longer v.seen u.seen) in
    let begins : StartsWith (longer v.seen u.seen) v.drawn = rw (f.0 refl) (starts_all v.drawn) in
    let all : length (of u.number (longer v.seen u.seen)) ≡ u.count = f.2 0 (gone u) (omega arith) in assumption

-- what the pop after a gathering tells
pub takes_in : (v u m w : View) (r : Option Placed) → m ≡ gathers v u
    → MatchOption r ((w ≡ m) × IsFresh m []) (λ placed. Draws m placed w) → TakesIn v u w (popped_list r)
takes_in v u m w None is popped = rw (popped.0 ∙ is) (takes_in_none v u (rw is at popped.1))
takes_in v u m w (Some x) is popped = takes_in_one v u w x (rw is at popped)

-- where a list goes on and has no more entries of a number, it has the same ones
pub own_same : (n : ℕ) (long seen : List Placed) → StartsWith long seen → length (of n long) ≡ length (of n seen) → of n long ≡ of n seen
own_same n long seen s same =
    let split = ap (of n) s.1 ∙ of-append n seen s.0 in
    let lengths = ap length split in
    let none = nil_from_length (of n s.0) (omega (arith, length-append (of n seen) (of n s.0))) in
    split ∙ ap (λ l. of n seen ++ l) none ∙ append-nil (of n seen)

-- the sender that comes back has put what it had put
pub comes_back : (sender back : SenderState) (v u w : View) (news : List Placed) → TakesIn v u w news → u.number ≡ sender.number
    → u.seen ≡ sender.seen → u.count ≡ sent_by sender → back.number ≡ sender.number → back.seen ≡ w.seen
    → of back.number back.seen ≡ of sender.number sender.seen
comes_back sender back v u w news takes number seen count same all =
    let told = subst (StartsWith w.seen) seen takes.told in
    let long = ap (λ n. length (of n w.seen)) (sym number) ∙ takes.all ∙ count in
    ap (λ n. of n back.seen) same ∙ ap (of sender.number) all ∙ own_same sender.number w.seen sender.seen told long

-- what the owner knows without the sender that it gave back
pub given_back : (v u w z : View) (news : List Placed) (n signals : ℕ) → TakesIn v u w news → z ≡ without_last w → length v.gathered ≡ n
    → count_by is_signal w.drawn ≡ signals → IsOfOwner z n signals
given_back v u w z news n signals t is len counted =
    let tail : without_first w.gathered ≡ v.gathered = ap without_first t.gathered in
    let apart : Apart (gone u ∷ v.gathered) = rw t.gathered at t.apart in
    let there : AllThere w.seen (gone u ∷ v.gathered) = rw t.gathered at t.there in
    rw is record {
      takes = refl;
      gathered_is = ap length tail ∙ len;
      signals_are = counted;
      begins = t.begins;
      there = rw tail (λ k d lt. there (suc k) d (omega arith));
      apart = rw tail apart.1;
    }

-- the signals among what was drawn, and some more
pub counted_more : (drawn now news : List Placed) (signals more : ℕ) → now ≡ drawn ++ news → count_by is_signal drawn ≡ signals
    → more ≡ count_by is_signal news → count_by is_signal now ≡ signals + more
counted_more drawn now news signals more same counted few = let all = ap (count_by is_signal) same in grind (arith, common_steps)
