-- The laws of a reading, and of the ways in which readings are put together.
use Rattle.parse_expressions.proofs.Grammar.{AreAlike, Mark, Spelling, IsOpening, plain, erased_word, IsBarred, IsMark, Both, Behind, Before, Optional, Words, Fixed, tied, Parser, Refusal, Refused, Deep, Barred, Outcome, and_then, pure, too_deep, refuse, expect, same_mark, sees, front, rest, ◌⊗◌, behind, before, made, either, maybe, ◌≡◌, ◌⊎◌, inl, inr, Bool, true, false, true≢false, if◌then◌else◌, [], ◌∷◌, ◌++◌, Option, Some, None, option_map, Ok, Err, refl, sym, ap, ◌∙◌, subst, append_assoc}
pub use Rattle.parse_expressions.proofs.Depth.{HasOne, SameFront, TooMany, closed, deep_rest, front_behind, no_deeper, onward, passed_front, renamed, same_behind, within}
pub use Rattle.parse_expressions.proofs.Steps.{IsRest, StandsAt, alike_fixed, alike_from, alike_name, alike_number, alike_text, as_read, bind_is, chosen, expect_again, first_word, if_false, if_true, none_as, not_read, not_refused, not_some, read_as, rest_here, rest_on, same_mark_ok, same_rest, same_value, sees_at, sees_front, sees_last, sees_ok, sees_other, some_as, stands_on, swapped, true_or_false}

-- how words, up to a rest, spell a node
abbrev pub Form : Type 0 → Type 1
Form A = A → Words → Words → Type 0

-- spelled by no words
abbrev pub Never : {A : Type 0} → Form A
Never x i j = ⊥

-- wherever
abbrev pub Anywhere : Words → Type 0
Anywhere j = Unit {0}

-- From here on the same is read: the same stands next, or the reading stops there.
abbrev pub GoodAfter : (Words → Type 0) → Words → Words → Type 0
GoodAfter S m k = SameFront k m ⊎ S k

-- What the words `i` are read as, up to `m`: they spell it, and those that were taken are read so before others too.
pub record IsRead {A : Type 0} (p : Parser A) (P : Form A) (S : Words → Type 0) (i : Words) (x : A) (m : Words) : Type 0 where
  pub taken : Words
  pub at : i ≡ taken ++ m
  pub again : (k : Words) → GoodAfter S m k → p (taken ++ k) ≡ read_as x k
  pub spelled : P x i m

-- What a refusal says: it stands in the words, and where one too many is told, one too many opens.
abbrev pub Told : {A : Type 0} → Form A → Form A → (Words → Type 0) → Words → Refusal → Type 0
Told P M S i (Refused left) = IsRest i left
Told P M S i (Deep left) = TooMany P M S i left
Told P M S i (Barred left) = IsRest i left × IsBarred i left

abbrev pub Gives : {A : Type 0} → Parser A → Form A → Form A → (Words → Type 0) → Words → Outcome A → Type 0
Gives p P M S i (Ok r) = IsRead p P S i r.0 r.1
Gives p P M S i (Err r) = Told P M S i r

-- `P` spells what `p` reads; `M` spells the same with one more inside each other; `erased` is a node but for its places and
-- spellings.
pub record Rules {A : Type 0} (p : Parser A) (P M : Form A) (S : Words → Type 0) (erased : A → A) : Type 0 where
  -- what is read is spelled, and what is refused stands where it is told
  pub tells : (i : Words) → Gives p P M S i (p i)
  -- what is spelled, before words where it stops, is read
  pub complete : (x : A) (i j : Words) → P x i j → S j → p i ≡ read_as x j
  -- words that differ in places and spellings alone spell what differs in these alone
  pub moves : (x : A) (i j k : Words) → P x i j → AreAlike i k → (y : A) × (l : Words) × P y k l × AreAlike j l × (erased y ≡ erased x)
  -- what is spelled so is with one more inside each other
  pub more : (x : A) (i j : Words) → P x i j → M x i j

-- what is spelled, before words where it stops, is read
abbrev pub Complete : {A : Type 0} → Parser A → Form A → (Words → Type 0) → Type 0
Complete {A} p P S = (x : A) (i j : Words) → P x i j → S j → p i ≡ read_as x j

-- the rules of what is spelled by some words
pub record Law {A : Type 0} (p : Parser A) (P M : Form A) (S : Words → Type 0) (erased : A → A) : Type 0 where
  pub rules : Rules p P M S erased
  pub one : HasOne P S

-- the rules of what is read where it begins, and else isn't there
pub record MaybeLaw {A : Type 0} (p : Parser (Option A)) (P M : Form A) (S : Words → Type 0) (begins : Words → Bool) (erased : A → A) : Type 0 where
  pub item : Parser A
  pub is : maybe begins item ≡ p
  pub rules : Rules item P M S erased
  pub starts : (x : A) (i j : Words) → P x i j → begins i ≡ true
  pub looks : (i k : Words) → SameFront i k → begins i ≡ begins k
  pub ends : begins [] ≡ false

module _ {A : Type 0} {p : Parser A} {P M : Form A} {S : Words → Type 0} {e : A → A} (a : Rules p P M S e) where
  pub was_read : (i : Words) (x : A) (m : Words) → p i ≡ read_as x m → IsRead p P S i x m
  was_read i x m s = let F : Outcome A → Type 0 = λ o. Gives p P M S i o in subst F s (a.tells i)

  pub was_told : (i : Words) (r : Refusal) → p i ≡ Err r → Told P M S i r
  was_told i r s = let F : Outcome A → Type 0 = λ o. Gives p P M S i o in subst F s (a.tells i)

  pub sound : (i : Words) (x : A) (m : Words) → p i ≡ read_as x m → P x i m
  sound i x m s = (was_read i x m s).spelled

  -- the words before others
  pub spelled_again : (x : A) (i m k : Words) (r : IsRead p P S i x m) → GoodAfter S m k → P x (r.taken ++ k) k
  spelled_again x i m k r g = sound (r.taken ++ k) x k (r.again k g)

  -- a refusal stands at what is left
  stands_by : (i : Words) (r : Refusal) → Told P M S i r → StandsAt i r
  stands_by i (Deep left) t = deep_rest i left t
  stands_by i r t = t

  pub stands : (i : Words) (r : Refusal) → p i ≡ Err r → StandsAt i r
  stands i r s = stands_by i r (was_told i r s)

-- ---- refusals of a part

module _ {A B : Type 0} {P M : Form A} {S : Words → Type 0} {R O : Form B} {U : Words → Type 0} (i : Words) where
  -- of what stands behind some words
  pub later : (m : Words) (r : Refusal) → IsRest i m → ((left : Words) → TooMany P M S m left → TooMany R O U i left) → Told P M S m r → Told R O U i r
  later m (Refused left) behind deep t = rest_on i m left behind t
  later m (Deep left) behind deep t = deep left t
  later m (Barred left) behind deep t = stands_on i m (Barred left) behind t

  -- of what stands here
  pub still : (r : Refusal) → ((left : Words) → TooMany P M S i left → TooMany R O U i left) → Told P M S i r → Told R O U i r
  still r deep t = later i r (rest_here i) deep t

-- ---- nodes

-- a node that is made of what is spelled
abbrev pub Made : {A B : Type 0} → (A → B) → Form A → Form B
Made {A} f P y i j = (x : A) × (y ≡ f x) × P x i j

-- a node that is spelled as what it is made of
pub made_as : {A B : Type 0} (R : Form B) (f : A → B) (y : B) (i j : Words) → Made f (λ x. R (f x)) y i j → R y i j
made_as {B = B} R f y i j s = let F : B → Type 0 = λ z. R z i j in subst F (sym s.1) s.2

pub made_complete : {A B : Type 0} (f : A → B) {p : Parser A} {P : Form A} {S : Words → Type 0} → Complete p P S → Complete (made f p) (Made f P) S
made_complete f {p = p} a y i j s t = bind_is (p i) (λ x k. read_as (f x) k) s.0 j (a s.0 i j s.2 t) ∙ ap (λ z. read_as z j) (sym s.1)

good_stop : {S T : Words → Type 0} → ((j : Words) → T j → S j) → (m k : Words) → GoodAfter T m k → GoodAfter S m k
good_stop fewer m k (inl s) = inl s
good_stop fewer m k (inr t) = inr (fewer k t)

-- What is made of nodes, which has a name of its own, stops at fewer words; but for its places, it is made of what the
-- nodes are but for theirs.
module _ {A B : Type 0} (f : A → B) {p : Parser A} {P M : Form A} {R : Form B} (O : Form B) {S T : Words → Type 0} {e : A → A} (fewer : (j : Words) → T j → S j)
    (to : (x : A) (i j : Words) → P x i j → R (f x) i j) (from : (y : B) (i j : Words) → R y i j → Made f P y i j)
    (to_more : (x : A) (i j : Words) → M x i j → O (f x) i j) (a : Rules p P M S e) where
  formed_gives : (i : Words) (o : Outcome A) → Gives p P M S i o → Gives (made f p) R O T i (and_then o (λ x j. read_as (f x) j))
  formed_gives i (Ok z) t = record {
    taken = t.taken;
    at = t.at;
    again = λ k h. bind_is (p (t.taken ++ k)) (λ x l. read_as (f x) l) z.0 k (t.again k (good_stop fewer z.1 k h));
    spelled = to z.0 i z.1 t.spelled;
  }
  formed_gives i (Err r) t =
      still i r
      (λ left u. within i left u (λ x. (f x, [], λ k j v. (fewer j v, to x k j))) (λ x. (f x, [], λ k j v. (fewer j v, to_more x k j)))
      (λ y k j there n v. let c = from y k j n in (c.0, j, c.2, fewer j v)))
      t

module _ {A B : Type 0} (f : A → B) {p : Parser A} {P M : Form A} {R O : Form B} {S T : Words → Type 0} {e : A → A} {g : B → B} (fewer : (j : Words) → T j → S j)
    (to : (x : A) (i j : Words) → P x i j → R (f x) i j) (from : (y : B) (i j : Words) → R y i j → Made f P y i j)
    (to_more : (x : A) (i j : Words) → M x i j → O (f x) i j) (same : (x : A) → g (f x) ≡ f (e x)) where
  pub formed_rules : Rules p P M S e → Rules (made f p) R O T g
  formed_rules a = record {
    tells = λ i. formed_gives f O fewer to from to_more a i (p i) (a.tells i);
    complete = λ y i j s t. made_complete f (λ x k l n v. a.complete x k l n (fewer l v)) y i j (from y i j s) t;
    moves = λ y i j k s t.
        let b = from y i j s in
        let c = a.moves b.0 i j k b.2 t in
        (f c.0, c.1, to c.0 k c.1 c.2, c.3, same c.0 ∙ ap f c.4 ∙ sym (same b.0) ∙ sym (ap g b.1));
    more = λ y i j s. let b = from y i j s in made_as O f y i j (b.0, b.1, to_more b.0 i j (a.more b.0 i j b.2));
  }

  pub formed_law : Law p P M S e → Law (made f p) R O T g
  formed_law a = record { rules = formed_rules a.rules; one = let o = a.one in (f o.0, o.1, λ j t. to o.0 (o.1 ++ j) j (o.2 j (fewer j t))) }

module _ {A B : Type 0} (f : A → B) {p : Parser A} {P M : Form A} {S : Words → Type 0} {e : A → A} {g : B → B} where
  pub made_rules : ((x : A) → g (f x) ≡ f (e x)) → Rules p P M S e → Rules (made f p) (Made f P) (Made f M) S g
  made_rules same a = formed_rules f (λ j t. t) (λ x i j s. (x, refl, s)) (λ y i j s. s) (λ x i j s. (x, refl, s)) same a

  pub made_law : ((x : A) → g (f x) ≡ f (e x)) → Law p P M S e → Law (made f p) (Made f P) (Made f M) S g
  made_law same a = formed_law f (λ j t. t) (λ x i j s. (x, refl, s)) (λ y i j s. s) (λ x i j s. (x, refl, s)) same a

  -- the node is spelled as what it is made of, with one more inside each other too
  pub node_law : (R O : Form B) → ((x : A) → g (f x) ≡ f (e x)) → ((y : B) (i j : Words) → Made f P y i j → R y i j)
      → ((y : B) (i j : Words) → R y i j → Made f P y i j) → ((y : B) (i j : Words) → Made f M y i j → O y i j) → Law p P M S e → Law (made f p) R O S g
  node_law R O same to from to_more a = formed_law f (λ j t. t) (λ x i j s. to (f x) i j (x, refl, s)) from (λ x i j s. to_more (f x) i j (x, refl, s)) same a

-- ---- the same reading, another name, and fewer words to stop at

module _ {A : Type 0} {p q : Parser A} {P M : Form A} {S : Words → Type 0} {e : A → A} (same : (i : Words) → p i ≡ q i) where
  pub same_rules : Rules p P M S e → Rules q P M S e
  same_rules a =
      let F : Parser A → Type 0 = λ r. Rules r P M S e in
      let path : p ≡ q = λ n i. same i n in subst F path a

  pub same_law : Law p P M S e → Law q P M S e
  same_law a = record { rules = same_rules a.rules; one = a.one }

pub unchanged : {A : Type 0} (o : Outcome A) → and_then o (λ x j. read_as x j) ≡ o
unchanged (Ok z) = refl
unchanged (Err r) = refl

abbrev itself : {A : Type 0} → A → A
itself x = x

module _ {A : Type 0} {p : Parser A} {P M R O : Form A} {S : Words → Type 0} {e : A → A} (to : (x : A) (i j : Words) → P x i j → R x i j)
    (from : (x : A) (i j : Words) → R x i j → P x i j) (to_more : (x : A) (i j : Words) → M x i j → O x i j) where
  -- the same by another name
  pub as_law : Law p P M S e → Law p R O S e
  as_law a = same_law (λ i. unchanged (p i)) (formed_law itself (λ j t. t) to (λ x i j s. (x, refl, from x i j s)) to_more (λ x. refl) a)

module _ {A : Type 0} {p : Parser A} {P M : Form A} {S T : Words → Type 0} {e : A → A} (fewer : (j : Words) → T j → S j) where
  pub stops_rules : Rules p P M S e → Rules p P M T e
  stops_rules a = same_rules (λ i. unchanged (p i)) (formed_rules itself fewer (λ x i j s. s) (λ x i j s. (x, refl, s)) (λ x i j s. s) (λ x. refl) a)

  pub stops_law : Law p P M S e → Law p P M T e
  stops_law a = same_law (λ i. unchanged (p i)) (formed_law itself fewer (λ x i j s. s) (λ x i j s. (x, refl, s)) (λ x i j s. s) (λ x. refl) a)

-- ---- what is read or refused at once

-- what is never read and never spelled
pub never_rules : {A : Type 0} {p : Parser A} {P M : Form A} {S : Words → Type 0} {e : A → A} → ((i : Words) → Gives p P M S i (p i)) → ((x : A) (i j : Words) → P x i j → ⊥) → Rules p P M S e
never_rules tells unspelled = record {
  tells = tells;
  complete = λ x i j s t. absurd (unspelled x i j s);
  moves = λ x i j k s t. absurd (unspelled x i j s);
  more = λ x i j s. absurd (unspelled x i j s);
}

pub refuse_rules : {A : Type 0} {P M : Form A} {S : Words → Type 0} {e : A → A} → ((x : A) (i j : Words) → P x i j → ⊥) → Rules refuse P M S e
refuse_rules unspelled = never_rules (λ i. rest_here i) unspelled

-- one node, for no words
abbrev pub Nothing : {A : Type 0} → A → Form A
Nothing c x i j = (x ≡ c) × (i ≡ j)

pub nothing_law : {A : Type 0} {S : Words → Type 0} {e : A → A} (c : A) → Law (pure c) (Nothing c) (Nothing c) S e
nothing_law {e = e} c = record {
  rules = record {
    tells = λ i. record { taken = []; at = refl; again = λ k g. refl; spelled = (refl, refl) };
    complete = λ x i j s t. ap (λ k. read_as c k) s.1 ∙ ap (λ y. read_as y j) (sym s.0);
    moves = λ x i j k s t. (c, k, (refl, refl), alike_from i j k s.1 t, ap e (sym s.0));
    more = λ x i j s. s;
  };
  one = (c, [], λ j t. (refl, refl));
}

-- one word
pub single_law : {A : Type 0} {p : Parser A} {P : Form A} {e : A → A} → ((i : Words) → Gives p P P Anywhere i (p i)) → ((x : A) (i j : Words) → P x i j → p i ≡ read_as x j)
    → ((x : A) (i j k : Words) → P x i j → AreAlike i k → (y : A) × (l : Words) × P y k l × AreAlike j l × (e y ≡ e x))
    → HasOne P Anywhere → Law p P P Anywhere e
single_law tells complete moves one =
    record { rules = record { tells = tells; complete = λ x i j s t. complete x i j s; moves = moves; more = λ x i j s. s }; one = one }

module _ (m : Mark) where
  mark_by : (n : Mark) (t : Spelling) (i : Words) (b : Bool) → same_mark n m ≡ b
      → Gives (expect m) (IsMark m) (IsMark m) Anywhere (Fixed n t ∷ i) (if b then Ok (t, i) else Err (Refused (Fixed n t ∷ i)))
  mark_by n t i true e = let same = same_mark_ok n m e in record {
    taken = Fixed m t ∷ [];
    at = ap (λ o. Fixed o t ∷ i) same;
    again = λ k g. expect_again m t k;
    spelled = ap (λ o. Fixed o t ∷ i) same;
  }
  mark_by n t i false e = rest_here (Fixed n t ∷ i)

  mark_tells : (i : Words) → Gives (expect m) (IsMark m) (IsMark m) Anywhere i (expect m i)
  unfolding expect front rest
  mark_tells (Fixed n t ∷ i) = mark_by n t i (same_mark n m) refl
  mark_tells i = rest_here i

  pub mark_law : Law (expect m) (IsMark m) (IsMark m) Anywhere erased_word
  mark_law = single_law
      mark_tells
      (λ s i j e. ap (expect m) e ∙ expect_again m s j)
      (λ s i j k e t. let a = alike_fixed m s j k (alike_from i (Fixed m s ∷ j) k e t) in (a.0, a.1, a.2, a.3, refl))
      (plain, Fixed m plain ∷ [], λ j t. refl)

-- ---- x y, where y may depend on x

abbrev pub Tied : {A B : Type 0} → Form A → (A → Form B) → Form (A × B)
Tied P Q p i j = (m : Words) × P p.0 i m × Q p.0 p.1 m j

module _ {A B : Type 0} {p : Parser A} {q : A → Parser B} {P M : Form A} {Q N : A → Form B} {S T : Words → Type 0} {e : A → A} {f : B → B}
    (a : Rules p P M S e) (b : (x : A) → Law (q x) (Q x) (N x) T f) (ends : (x : A) (y : B) (m j : Words) → Q x y m j → T j → S m) where
  -- the second stands where the first stops, before others too
  tied_good : (x : A) (m k : Words) (y : B) (j : Words) (t : IsRead (q x) (Q x) T m y j) → GoodAfter T j k → GoodAfter S m (t.taken ++ k)
  tied_good x m k y j t (inl same) = inl (same_behind t.taken k j same ∙ ap front (sym t.at))
  tied_good x m k y j t (inr stop) = inr (ends x y (t.taken ++ k) k (spelled_again (b x).rules y m j k t (inr stop)) stop)

  tied_read : (i : Words) (x : A) (m : Words) (y : B) (j : Words) → IsRead p P S i x m → IsRead (q x) (Q x) T m y j → IsRead (tied p q) (Tied P Q) T i (x, y) j
  tied_read i x m y j r t = record {
    taken = r.taken ++ t.taken;
    at = r.at ∙ ap (λ k. r.taken ++ k) t.at ∙ sym (append_assoc r.taken t.taken j);
    again = λ k g.
        let behind : Words = t.taken ++ k in
        ap (tied p q) (append_assoc r.taken t.taken k)
        ∙ bind_is (p (r.taken ++ behind)) (λ z l. and_then (q z l) (λ w o. read_as (z, w) o)) x behind (r.again behind (tied_good x m k y j t g))
        ∙ bind_is (q x behind) (λ w o. read_as (x, w) o) y k (t.again k g);
    spelled = (m, r.spelled, t.spelled);
  }

  first_deep : (i left : Words) → TooMany P M S i left → TooMany (Tied P Q) (Tied M N) T i left
  first_deep i left t =
      within i left t
      (λ x.
      let o = (b x).one in ((x, o.0), o.1, λ k j u. let y = o.2 j u in (ends x o.0 (o.1 ++ j) j y u, λ s. (o.1 ++ j, s, y))))
      (λ x.
      let o = (b x).one in
      ((x, o.0), o.1, λ k j u. let y = o.2 j u in (ends x o.0 (o.1 ++ j) j y u, λ s. (o.1 ++ j, s, (b x).rules.more o.0 (o.1 ++ j) j y))))
      (λ z k j same s u. (z.0, s.0, s.1, ends z.0 z.1 s.0 j s.2 u))

  second_deep : (i : Words) (x : A) (m left : Words) → IsRead p P S i x m → TooMany (Q x) (N x) T m left → TooMany (Tied P Q) (Tied M N) T i left
  second_deep i x m left r t =
      let o = (b x).one in
      let first : (k : Words) → GoodAfter S m k → P x (r.taken ++ k) k = λ k g. spelled_again a x i m k r g in
      onward r.taken i m left r.at t (λ y. (x, y)) (λ j u. u)
      (λ y k j same n u. (k, first k (inl same), n))
      (λ y k j same n u. (k, a.more x (r.taken ++ k) k (first k (inl same)), n))
      ((x, o.0), o.1, λ j u. let y = o.2 j u in (o.1 ++ j, first (o.1 ++ j) (inr (ends x o.0 (o.1 ++ j) j y u)), y))
      (λ z k j same n u.
      let both = sym (r.again k (inl same)) ∙ a.complete z.0 (r.taken ++ k) n.0 n.1 (ends z.0 z.1 n.0 j n.2 u) in
      let F : A → Words → Type 0 = λ y l. Q y z.1 l j in
      (z.1, j, as_read F z.0 x n.0 k (sym both) n.2, u))

  tied_second : (i : Words) (x : A) (m : Words) → IsRead p P S i x m → (o : Outcome B) → Gives (q x) (Q x) (N x) T m o
      → Gives (tied p q) (Tied P Q) (Tied M N) T i (and_then o (λ y j. read_as (x, y) j))
  tied_second i x m r (Ok z) t = tied_read i x m z.0 z.1 r t
  tied_second i x m r (Err s) t = later i m s (r.taken, r.at) (λ left u. second_deep i x m left r u) t

  tied_first : (i : Words) (o : Outcome A) → Gives p P M S i o
      → Gives (tied p q) (Tied P Q) (Tied M N) T i (and_then o (λ x m. and_then (q x m) (λ y j. read_as (x, y) j)))
  tied_first i (Ok z) t = tied_second i z.0 z.1 t (q z.0 z.1) ((b z.0).rules.tells z.1)
  tied_first i (Err s) t = still i s (first_deep i) t

  -- what differs in places alone is followed by the same
  pub tied_rules : ((x y : A) → e x ≡ e y → (z : B) (i j : Words) → Q x z i j → Q y z i j) → Rules (tied p q) (Tied P Q) (Tied M N) T (λ x. (e x.0, f x.1))
  tied_rules same = record {
    tells = λ i. tied_first i (p i) (a.tells i);
    complete = λ x i j s t.
        bind_is (p i) (λ y m. and_then (q y m) (λ z k. read_as (y, z) k)) x.0 s.0 (a.complete x.0 i s.0 s.1 (ends x.0 x.1 s.0 j s.2 t))
        ∙ bind_is (q x.0 s.0) (λ z k. read_as (x.0, z) k) x.1 j ((b x.0).rules.complete x.1 s.0 j s.2 t);
    moves = λ x i j k s t.
        let c = a.moves x.0 i s.0 k s.1 t in
        let d = (b x.0).rules.moves x.1 s.0 j c.1 s.2 c.3 in
        ((c.0, d.0), d.1, (c.1, c.2, same x.0 c.0 (sym c.4) d.0 c.1 d.1 d.2), d.3, λ n. (c.4 n, d.4 n));
    more = λ x i j s. (s.0, a.more x.0 i s.0 s.1, (b x.0).rules.more x.1 s.0 j s.2);
  }

module _ {A B : Type 0} {p : Parser A} {q : A → Parser B} {P M : Form A} {Q N : A → Form B} {S T : Words → Type 0} {e : A → A} {f : B → B} where
  -- where the second begins the first stops
  pub tied_law : Law p P M S e → ((x : A) → Law (q x) (Q x) (N x) T f) → ((x : A) (y : B) (m j : Words) → Q x y m j → T j → S m)
      → ((x y : A) → e x ≡ e y → (z : B) (i j : Words) → Q x z i j → Q y z i j) → Law (tied p q) (Tied P Q) (Tied M N) T (λ x. (e x.0, f x.1))
  tied_law a b ends same = record {
    rules = tied_rules a.rules b ends same;
    one =
        let x = a.one in let y = (b x.0).one in (
          (x.0, y.0),
          x.1 ++ y.1,
          λ j t.
              let behind = y.2 j t in
              let R : Words → Type 0 = λ l. Tied P Q (x.0, y.0) l j in
              subst R (sym (append_assoc x.1 y.1 j)) (y.1 ++ j, x.2 (y.1 ++ j) (ends x.0 y.0 (y.1 ++ j) j behind t), behind),
        );
  }

module _ {A B : Type 0} {p : Parser A} {q : Parser B} {P M : Form A} {Q N : Form B} {S T : Words → Type 0} {e : A → A} {f : B → B} where
  pub both_rules : Rules p P M S e → Law q Q N T f → ((y : B) (m j : Words) → Q y m j → T j → S m) → Rules (p ⊗ q) (Both P Q) (Both M N) T (λ x. (e x.0, f x.1))
  both_rules a b ends = tied_rules a (λ x. b) (λ x. ends) (λ x y same z i j s. s)

  pub both_law : Law p P M S e → Law q Q N T f → ((y : B) (m j : Words) → Q y m j → T j → S m) → Law (p ⊗ q) (Both P Q) (Both M N) T (λ x. (e x.0, f x.1))
  both_law a b ends = tied_law a (λ x. b) (λ x. ends) (λ x y same z i j s. s)

pub then_complete : {A B : Type 0} {p : Parser A} {q : Parser B} {P : Form A} {Q : Form B} {T : Words → Type 0} → Complete p P Anywhere → Complete q Q T → Complete (p ⊗ q) (Both P Q) T
then_complete {p = p} {q = q} a b x i j s t =
    bind_is (p i) (λ y m. and_then (q m) (λ z k. read_as (y, z) k)) x.0 s.0 (a x.0 i s.0 s.1 tt) ∙ bind_is (q s.0) (λ z k. read_as (x.0, z) k) x.1 j (b x.1 s.0 j s.2 t)

module _ {A B : Type 0} {p : Parser A} {q : Parser B} {P M : Form A} {Q N : Form B} {T : Words → Type 0} {e : A → A} {f : B → B} where
  -- where the first stops anywhere
  pub then_law : Law p P M Anywhere e → Law q Q N T f → Law (p ⊗ q) (Both P Q) (Both M N) T (λ x. (e x.0, f x.1))
  then_law a b = both_law a b (λ y m j s t. tt)

-- ---- marks that the node drops

pub steps_in : {A B C : Type 0} (o : Outcome A) (f : A → Parser B) (g : B → Parser C) → and_then (and_then o f) g ≡ and_then o (λ x m. and_then (f x m) g)
steps_in (Ok z) f g = refl
steps_in (Err r) f g = refl

pub steps_if : {A B : Type 0} (b : Bool) (o p : Outcome A) (g : A → Parser B) → and_then (if b then o else p) g ≡ (if b then and_then o g else and_then p g)
steps_if true o p g = refl
steps_if false o p g = refl

second_alone : {A B : Type 0} (o : Outcome A) (q : Parser B)
    → and_then (and_then o (λ x m. and_then (q m) (λ y j. read_as (x, y) j))) (λ (z : A × B) j. read_as z.1 j) ≡ and_then o (λ _ m. q m)
second_alone o q = simp (steps_in, unchanged)

pub first_alone : {A B : Type 0} (o : Outcome A) (q : A → Parser B)
    → and_then (and_then o (λ x m. and_then (q x m) (λ y j. read_as (x, y) j))) (λ (z : A × B) j. read_as z.0 j) ≡ and_then o (λ x m. and_then (q x m) (λ _ j. read_as x j))
first_alone o q = simp steps_in

module _ {A : Type 0} (m : Mark) {p : Parser A} {P M : Form A} {S : Words → Type 0} {e : A → A} (a : Law p P M S e) where
  pub behind_law : Law (behind m p) (Behind m P) (Behind m M) S e
  behind_law =
      same_law (λ i. second_alone (expect m i) p)
      (formed_law (λ (z : Spelling × A). z.1) (λ j t. t) (λ z i j s. (z.0, s.0, s.1, s.2)) (λ x i j s. ((s.0, x), refl, (s.1, s.2, s.3)))
      (λ z i j s. (z.0, s.0, s.1, s.2)) (λ z. refl) (both_law (mark_law m) a (λ y k j s t. tt)))

  before_to : (R : Form A) (z : A × Spelling) (i j : Words) → Both R (IsMark m) z i j → Before R m z.0 i j
  before_to R z i j s = let G : Words → Type 0 = λ l. R z.0 i l in (z.1, subst G s.2 s.1)

  -- at that mark it stops
  pub before_law : ((s : Spelling) (j : Words) → S (Fixed m s ∷ j)) → Law (before p m) (Before P m) (Before M m) Anywhere e
  before_law at =
      same_law (λ i. first_alone (p i) (λ _. expect m))
      (formed_law (λ (z : A × Spelling). z.0) (λ j t. t) (before_to P) (λ x i j s. ((x, s.0), refl, (Fixed m s.0 ∷ j, s.1, refl))) (before_to M) (λ z. refl)
      (both_law a (mark_law m) (λ s k j n t. subst S (sym n) (at s j))))

-- ---- a choice

-- the one or the other
abbrev pub Or : {A : Type 0} → Form A → Form A → Form A
Or P Q x i j = P x i j ⊎ Q x i j

pub either_as : {A : Type 0} {P Q R : Form A} → ((x : A) (i j : Words) → P x i j → R x i j) → ((x : A) (i j : Words) → Q x i j → R x i j)
    → (x : A) (i j : Words) → Or P Q x i j → R x i j
either_as this that x i j (inl s) = this x i j s
either_as this that x i j (inr s) = that x i j s

-- the first where the test holds, and else the second, where it holds before other words too
module _ {A : Type 0} (begins : Words → Bool) {p q : Parser A} {P M Q N : Form A} {S : Words → Type 0} {e : A → A} (a : Rules p P M S e) (b : Rules q Q N S e)
    (first : (x : A) (i j : Words) → P x i j → begins i ≡ true) (other : (x : A) (i j : Words) → Q x i j → S j → begins i ≡ false)
    (apart : (i : Words) (x : A) (m k : Words) (r : IsRead q Q S i x m) → begins i ≡ false → GoodAfter S m k → begins (r.taken ++ k) ≡ false)
    (this_deep : (i left : Words) → begins i ≡ true → TooMany P M S i left → TooMany (Or P Q) (Or M N) S i left)
    (that_deep : (i left : Words) → begins i ≡ false → TooMany Q N S i left → TooMany (Or P Q) (Or M N) S i left) where
  -- what the one or the other reads, the choice does
  branch_gives : (r : Parser A) (R O : Form A) → ((x : A) (i j : Words) → R x i j → Or P Q x i j) → (i : Words)
      → ((x : A) (m : Words) (t : IsRead r R S i x m) (k : Words) → GoodAfter S m k → either begins p q (t.taken ++ k) ≡ r (t.taken ++ k))
      → ((left : Words) → TooMany R O S i left → TooMany (Or P Q) (Or M N) S i left)
      → (o : Outcome A) → Gives r R O S i o → Gives (either begins p q) (Or P Q) (Or M N) S i o
  branch_gives r R O to i same deep (Ok z) t =
      record { taken = t.taken; at = t.at; again = λ k g. same z.0 z.1 t k g ∙ t.again k g; spelled = to z.0 i z.1 t.spelled }
  branch_gives r R O to i same deep (Err s) t = still i s deep t

  either_gives : (i : Words) (t : Bool) → begins i ≡ t → Gives (either begins p q) (Or P Q) (Or M N) S i (if t then p i else q i)
  either_gives i true e =
      branch_gives p P M (λ x k j s. inl s) i
      (λ x m t k g. let l : Words = t.taken ++ k in if_true (begins l) (p l) (q l) (first x l k (spelled_again a x i m k t g)))
      (λ left u. this_deep i left e u) (p i) (a.tells i)
  either_gives i false e =
      branch_gives q Q N (λ x k j s. inr s) i (λ x m t k g. let l : Words = t.taken ++ k in if_false (begins l) (p l) (q l) (apart i x m k t e g))
      (λ left u. that_deep i left e u) (q i) (b.tells i)

  either_complete : (x : A) (i j : Words) → Or P Q x i j → S j → either begins p q i ≡ read_as x j
  either_complete x i j (inl s) t = if_true (begins i) (p i) (q i) (first x i j s) ∙ a.complete x i j s t
  either_complete x i j (inr s) t = if_false (begins i) (p i) (q i) (other x i j s t) ∙ b.complete x i j s t

  either_moves : (x : A) (i j k : Words) → Or P Q x i j → AreAlike i k → (y : A) × (l : Words) × Or P Q y k l × AreAlike j l × (e y ≡ e x)
  either_moves x i j k (inl s) t = let c = a.moves x i j k s t in (c.0, c.1, inl c.2, c.3, c.4)
  either_moves x i j k (inr s) t = let c = b.moves x i j k s t in (c.0, c.1, inr c.2, c.3, c.4)

  either_more : (x : A) (i j : Words) → Or P Q x i j → Or M N x i j
  either_more x i j (inl s) = inl (a.more x i j s)
  either_more x i j (inr s) = inr (b.more x i j s)

  pub far_rules : Rules (either begins p q) (Or P Q) (Or M N) S e
  far_rules = record { tells = λ i. either_gives i (begins i) refl; complete = either_complete; moves = either_moves; more = either_more }

-- where what stands next decides
module _ {A : Type 0} (begins : Words → Bool) (looks : (i k : Words) → SameFront i k → begins i ≡ begins k) {p q : Parser A} {P M Q N : Form A}
    {S : Words → Type 0} {e : A → A} where
  module _ (a : Rules p P M S e) (b : Rules q Q N S e) (first : (x : A) (i j : Words) → P x i j → begins i ≡ true) (other : (x : A) (i j : Words) → Q x i j → S j → begins i ≡ false) where
    that_apart : (i : Words) (x : A) (m k : Words) (r : IsRead q Q S i x m) → begins i ≡ false → GoodAfter S m k → begins (r.taken ++ k) ≡ false
    that_apart i x m k r t (inl same) = looks (r.taken ++ k) (r.taken ++ m) (same_behind r.taken k m same) ∙ ap begins (sym r.at) ∙ t
    that_apart i x m k r t (inr stop) = other x (r.taken ++ k) k (spelled_again b x i m k r (inr stop)) stop

    this_of_both : (i : Words) → begins i ≡ true → (x : A) (k j : Words) → SameFront k i → Or P Q x k j → S j → (y : A) × (l : Words) × P y k l × S l
    this_of_both i t x k j same (inl s) u = (x, j, s, u)
    this_of_both i t x k j same (inr s) u = absurd (true≢false (sym t ∙ sym (looks k i same) ∙ other x k j s u))

    that_of_both : (i : Words) → begins i ≡ false → (x : A) (k j : Words) → SameFront k i → Or P Q x k j → S j → (y : A) × (l : Words) × Q y k l × S l
    that_of_both i t x k j same (inl s) u = absurd (true≢false (sym (first x k j s) ∙ looks k i same ∙ t))
    that_of_both i t x k j same (inr s) u = (x, j, s, u)

    pub either_rules : Rules (either begins p q) (Or P Q) (Or M N) S e
    either_rules =
        far_rules begins a b first other that_apart
        (λ i left t u. within i left u (λ x. (x, [], λ k j v. (v, λ n. inl n))) (λ x. (x, [], λ k j v. (v, λ n. inl n))) (this_of_both i t))
        (λ i left t u. within i left u (λ x. (x, [], λ k j v. (v, λ n. inr n))) (λ x. (x, [], λ k j v. (v, λ n. inr n))) (that_of_both i t))

  -- where the second may be spelled by nothing
  pub first_law : Law p P M S e → Rules q Q N S e → ((x : A) (i j : Words) → P x i j → begins i ≡ true) → ((x : A) (i j : Words) → Q x i j → S j → begins i ≡ false)
      → Law (either begins p q) (Or P Q) (Or M N) S e
  first_law a b first other = record { rules = either_rules a.rules b first other; one = let o = a.one in (o.0, o.1, λ j t. inl (o.2 j t)) }

  pub either_law : Law p P M S e → Law q Q N S e → ((x : A) (i j : Words) → P x i j → begins i ≡ true) → ((x : A) (i j : Words) → Q x i j → S j → begins i ≡ false)
      → Law (either begins p q) (Or P Q) (Or M N) S e
  either_law a b first other = first_law a b.rules first other

-- ---- where a mark would open one too many

-- the mark, which may not stand here
abbrev pub shut : {A : Type 0} → Mark → Parser A
shut m = λ i. if sees m i then Err (Deep i) else Err (Refused i)

guarded : {X : Type 0} (b : Bool) (x y z : X) → (if b then (if b then x else y) else z) ≡ (if b then x else z)
guarded true x y z = refl
guarded false x y z = refl

pub shut_first : {A : Type 0} (m : Mark) (q : Parser A) (i : Words) → either (sees m) (shut m) q i ≡ either (sees m) too_deep q i
shut_first m q i = guarded (sees m i) (Err (Deep i)) (Err (Refused i)) (q i)

module _ {A : Type 0} (m : Mark) (opens : (s : Spelling) → IsOpening (Fixed m s)) (P M : Form A) (S : Words → Type 0) (unspelled : (x : A) (i j : Words) → P x i j → ⊥)
    (one : (s : Spelling) → (x : A) × (u : Words) × ((j : Words) → S j → M x (Fixed m s ∷ (u ++ j)) j)) where
  shut_by : (i : Words) (b : Bool) → sees m i ≡ b → Gives (shut m) P M S i (if b then Err (Deep i) else Err (Refused i))
  shut_by i true t =
      let at = sees_ok m i t in
      closed i i (Fixed m at.0 ∷ []) (rest i) (Fixed m at.0) at.1 at.1 (opens at.0) (inl refl) (one at.0) (λ k x j n u. unspelled x (Fixed m at.0 ∷ k) j n)
  shut_by i false t = rest_here i

  -- with one more inside each other it stands here
  pub shut_rules : {e : A → A} → Rules (shut m) P M S e
  shut_rules = never_rules (λ i. shut_by i (sees m i) refl) unspelled

-- ---- [x]

abbrev pub maybe_law : {A : Type 0} (begins : Words → Bool) (looks : (i k : Words) → SameFront i k → begins i ≡ begins k) {p : Parser A} {P M : Form A} {S : Words → Type 0} {e : A → A}
    → Rules p P M S e → begins [] ≡ false → ((x : A) (i j : Words) → P x i j → begins i ≡ true) → MaybeLaw (maybe begins p) P M S begins e
maybe_law begins looks {p = p} a ends starts = record { item = p; is = refl; rules = a; starts = starts; looks = looks; ends = ends }

module _ {A : Type 0} (R : Form A) where
  optional_to : (x : Option A) (i j : Words) → Or (Made Some R) (Nothing None) x i j → Optional R x i j
  optional_to x i j (inl s) = let F : Option A → Type 0 = λ y. Optional R y i j in subst F (sym s.1) s.2
  optional_to x i j (inr s) = let F : Option A → Type 0 = λ y. Optional R y i j in subst F (sym s.0) s.1

  optional_from : (x : Option A) (i j : Words) → Optional R x i j → Or (Made Some R) (Nothing None) x i j
  optional_from None i j s = inr (refl, s)
  optional_from (Some x) i j s = inl (x, refl, s)

module _ {A : Type 0} {begins : Words → Bool} {p : Parser (Option A)} {P M : Form A} {S : Words → Type 0} {e : A → A} (a : MaybeLaw p P M S begins e) where
  pub optional_law : Law p (Optional P) (Optional M) (λ j. S j × (begins j ≡ false)) (option_map e)
  optional_law =
      same_law (λ i. ap (λ q. q i) a.is)
      (as_law (optional_to P) (optional_from P) (optional_to M) (record {
        rules =
            either_rules begins a.looks (made_rules Some (λ x. refl) (stops_rules (λ j t. t.0) a.rules)) (nothing_law None).rules
            (λ x i j s. a.starts s.0 i j s.2) (λ x i j s t. ap begins s.1 ∙ t.1);
        one = (None, [], λ j t. inr (refl, refl));
      }))

  -- where none begins, none is read
  pub passes : (i : Words) → begins i ≡ false → p i ≡ read_as None i
  passes i none = ap (λ q. q i) (sym a.is) ∙ if_false (begins i) (and_then (a.item i) (λ x k. read_as (Some x) k)) (read_as None i) none

  pub some_read : (x : A) (i j : Words) → a.item i ≡ read_as x j → p i ≡ read_as (Some x) j
  some_read x i j s =
      ap (λ q. q i) (sym a.is)
      ∙ if_true (begins i) (and_then (a.item i) (λ y k. read_as (Some y) k)) (read_as None i) (a.starts x i j (sound a.rules i x j s))
      ∙ bind_is (a.item i) (λ y k. read_as (Some y) k) x j s
