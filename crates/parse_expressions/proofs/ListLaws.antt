-- The laws of lists, for any item: items up to one that is the last, if such a one stands there; `{x}`; `x {"," x}`.
use Rattle.parse_expressions.proofs.Grammar.{AreAlike, Spelling, Both, Behind, Optional, Separated, Repeated, Word, Words, Fixed, Parser, Outcome, Deep, front, rest, and_then, same_mark, sees, made, maybe, separated, repeated_by, repeated_from, repeated, another, ◌≡◌, ℕ, zero, suc, ◌<◌, ◌≤◌, ◌⊎◌, inl, inr, Bool, true, false, if◌then◌else◌, List, [], ◌∷◌, ◌++◌, length, map, Option, Some, None, option_map, Ok, Err, true≢false, refl, sym, ap, ◌∙◌, subst, arith, append_assoc, append-nil, length-append}
use Rattle.sdl_tree.specs.declared.mark.Mark.TheVariants as mark
use Rattle.parse_expressions.proofs.Laws.{Form, GoodAfter, IsRead, Told, Gives, Rules, Law, MaybeLaw, Made, was_read, sound, spelled_again, later, same_law, both_law, behind_law, made_rules, made_complete, formed_law, steps_in, steps_if, unchanged, maybe_law, passes, some_read, read_as, none_as, some_as, same_value, same_rest, not_read, not_refused, not_some, bind_is, sees_ok, sees_at, sees_front, sees_last, alike_from, first_word, SameFront, TooMany, passed_front, front_behind, renamed, onward}

split : (a b c d : Words) → a ++ b ≡ c ++ d
    → ((w : Words) × (c ≡ a ++ w) × (b ≡ w ++ d)) ⊎ ((v : Word) × (w : Words) × (a ≡ c ++ v ∷ w) × (d ≡ v ∷ (w ++ b)))
unfolding rest
split [] b c d e = inl (c, refl, e)
split (v ∷ a) b [] d e = inr (v, a, refl, sym e)
split (v ∷ a) b (z ∷ c) d e =
    let first : v ≡ z = ap (first_word v) e in
    let behind : a ++ b ≡ c ++ d = ap rest e in
    elim (split a b c d behind) as (λ _. ((w : Words) × (z ∷ c ≡ (v ∷ a) ++ w) × (b ≡ w ++ d)) ⊎ ((u : Word) × (w : Words) × (v ∷ a ≡ (z ∷ c) ++ u ∷ w) × (d ≡ u ∷ (w ++ b)))) [
      | inl t ↦ inl (t.0, (λ n. sym first n ∷ t.1 n), t.2)
      | inr t ↦ inr (t.0, t.1, (λ n. first n ∷ t.2 n), t.3)
    ]

-- ---- what reads a word, where nothing is spelled by none

module _ {A : Type 0} {p : Parser A} {P M : Form A} {S : Words → Type 0} {e : A → A} (a : Rules p P M S e) (takes : (x : A) (j : Words) → P x [] j → ⊥) (last : S []) where
  took : (i : Words) (x : A) (m u : Words) → i ≡ u ++ m → P x (u ++ []) [] → length m < length i
  took i x m [] at s = absurd (takes x [] s)
  took i x m (w ∷ u) at s = let same = ap length at ∙ length-append (w ∷ u) m in omega (arith, same)

  shorter : (i : Words) (x : A) (m : Words) → IsRead p P S i x m → length m < length i
  shorter i x m r = took i x m r.taken r.at (spelled_again a x i m [] r (inr last))

-- ---- items up to one that is the last

-- what goes on and what is the last, each but for its places
abbrev pub erased_both : {A B : Type 0} → (A → A) → (B → B) → A ⊎ B → A ⊎ B
erased_both f g (inl x) = inl (f x)
erased_both f g (inr y) = inr (g y)

abbrev pub until_by : {A B : Type 0} → List A → (List A → Parser (List A × Option B)) → Option (A ⊎ B) → Parser (List A × Option B)
until_by found more None i = Ok ((found, None), i)
until_by found more (Some (inl x)) i = more (found ++ x ∷ []) i
until_by found more (Some (inr y)) i = Ok ((found, Some y), i)

abbrev list_of : {A B : Type 0} → List A → Option B → List A × Option B
list_of xs o = (xs, o)

-- a list of one item, or with nothing before the last
abbrev single : {A B : Type 0} → A ⊎ B → List A × Option B
single (inl x) = list_of (x ∷ []) None
single (inr y) = list_of [] (Some y)

abbrev pub Until : {A B : Type 0} → Form (A ⊎ B) → Form (List A × Option B)
Until P = Both (Repeated (λ x. P (inl x))) (Optional (λ y. P (inr y)))

-- An item stops at some words (`S`), and can yet be followed by them where it has others of its own that say so: then what is
-- spelled is read before all words of a larger kind (`W`).
module _ {A B : Type 0} {begins : Words → Bool} {p : Parser (Option (A ⊎ B))} {P M : Form (A ⊎ B)} {S W : Words → Type 0} {f : A → A} {g : B → B}
    (a : MaybeLaw p P M S begins (erased_both f g)) (weak : (z : A ⊎ B) (i j : Words) → P z i j → W j → a.item i ≡ read_as z j)
    (at_start : (i : Words) → begins i ≡ true → W i) (weaker : (j : Words) → S j → W j) (last : S []) (from : ℕ → List A → Parser (List A × Option B))
    (none : (found : List A) (i : Words) → from zero found i ≡ read_as (list_of found None) i)
    (turn : (n : ℕ) (found : List A) (i : Words) → from (suc n) found i ≡ and_then (p i) (λ o m. until_by found (from n) o m)) where
  abbrev Ends : Words → Type 0
  Ends j = S j × (begins j ≡ false)

  no_item : (z : A ⊎ B) (j : Words) → P z [] j → ⊥
  no_item z j s = true≢false (sym (a.starts z [] j s) ∙ a.ends)

  -- ---- one turn

  -- where none begins nothing is read
  nothing_more : (n : ℕ) (found : List A) (i : Words) → begins i ≡ false → from n found i ≡ read_as (list_of found None) i
  nothing_more zero found i no_more = none found i
  nothing_more (suc n) found i no_more = turn n found i ∙ bind_is (p i) (λ o m. until_by found (from n) o m) None i (passes a i no_more)

  -- an item is read in a turn, where as many are left as there are words
  one_turn : (n : ℕ) (found : List A) (i : Words) (z : A ⊎ B) (m : Words) {o : Outcome (List A × Option B)} → a.item i ≡ read_as z m → length i ≤ n
      → ((l : ℕ) → length m ≤ l → until_by found (from l) (Some z) m ≡ o) → from n found i ≡ o
  one_turn zero found i z m s le known = let less = shorter a.rules no_item last i z m (was_read a.rules i z m s) in absurd (omega (arith, less, le))
  one_turn (suc l) found i z m s le known =
      let less = shorter a.rules no_item last i z m (was_read a.rules i z m s) in
      turn l found i ∙ bind_is (p i) (λ q k. until_by found (from l) q k) (Some z) m (some_read a z i m s) ∙ known l (omega (arith, less, le))

  -- ---- what is read

  record IsListed (found : List A) (i : Words) (r : List A × Option B) (j : Words) : Type 0 where
    taken : Words
    at : i ≡ taken ++ j
    again : (k : Words) → GoodAfter Ends j k → (n : ℕ) → length (taken ++ k) ≤ n → from n found (taken ++ k) ≡ read_as r k
    items : List A
    ending : Option B
    are : r ≡ list_of (found ++ items) ending
    spelled : Until P (list_of items ending) i j

  abbrev Lists : List A → Words → Outcome (List A × Option B) → Type 0
  Lists found i (Ok r) = IsListed found i r.0 r.1
  Lists found i (Err r) = Told (Until P) (Until M) Ends i r

  begins_after : (j k : Words) → begins j ≡ false → GoodAfter Ends j k → begins k ≡ false
  begins_after j k no_more (inl same) = a.looks k j same ∙ no_more
  begins_after j k no_more (inr t) = t.1

  lists_none : (found : List A) (i : Words) → begins i ≡ false → IsListed found i (list_of found None) i
  lists_none found i no_more = record {
    taken = [];
    at = refl;
    again = λ k h n le. nothing_more n found k (begins_after i k no_more h);
    items = [];
    ending = None;
    are = ap (λ ys. list_of ys None) (sym (append-nil found));
    spelled = (i, refl, refl);
  }

  good_part : (u m j k : Words) → m ≡ u ++ j → GoodAfter Ends j k → GoodAfter S m (u ++ k)
  good_part [] m j k at (inl same) = inl (same ∙ ap front (sym at))
  good_part [] m j k at (inr t) = inr t.0
  good_part (v ∷ u) m j k at h = inl (front_behind v u k j ∙ ap front (sym at))

  lists_last : (found : List A) (i : Words) (y : B) (m : Words) → IsRead a.item P S i (inr y) m → IsListed found i (list_of found (Some y)) m
  lists_last found i y m r = record {
    taken = r.taken;
    at = r.at;
    again = λ k h n le. one_turn n found (r.taken ++ k) (inr y) k (r.again k (good_part [] m m k refl h)) le (λ l fewer. refl);
    items = [];
    ending = Some y;
    are = ap (λ ys. list_of ys (Some y)) (sym (append-nil found));
    spelled = (i, refl, r.spelled);
  }

  lists_more : (found : List A) (i : Words) (x : A) (m : Words) (r : List A × Option B) (j : Words) → IsRead a.item P S i (inl x) m → IsListed (found ++ x ∷ []) m r j
      → IsListed found i r j
  lists_more found i x m r j q t = let b = t.spelled in record {
    taken = q.taken ++ t.taken;
    at = q.at ∙ ap (λ k. q.taken ++ k) t.at ∙ sym (append_assoc q.taken t.taken j);
    again = λ k h n le.
        let whole = append_assoc q.taken t.taken k in
        let same = ap length whole in
        ap (from n found) whole
        ∙ one_turn n found (q.taken ++ (t.taken ++ k)) (inl x) (t.taken ++ k) (q.again (t.taken ++ k) (good_part t.taken m j k t.at h)) (omega (arith, same, le)) (t.again k h);
    items = x ∷ t.items;
    ending = t.ending;
    are = t.are ∙ ap (λ ys. list_of ys t.ending) (append_assoc found (x ∷ []) t.items);
    spelled = (b.0, (m, q.spelled, b.1), b.2);
  }

  -- ---- complete

  stops_inside : (xs : List A) (o : Option B) (i j : Words) → Until P (list_of xs o) i j → W j → W i
  stops_inside [] None i j s stop = subst W (sym (s.1 ∙ s.2)) stop
  stops_inside [] (Some y) i j s stop = subst W (sym s.1) (at_start s.0 (a.starts (inr y) s.0 j s.2))
  stops_inside (x ∷ xs) o i j s stop = let b = s.1 in at_start i (a.starts (inl x) i b.0 b.1)

  from_complete : (xs : List A) (o : Option B) (n : ℕ) (found : List A) (i j : Words) → Until P (list_of xs o) i j → W j → begins j ≡ false → length i ≤ n
      → from n found i ≡ read_as (list_of (found ++ xs) o) j
  from_complete [] None n found i j s stop no_more le =
      ap (from n found) (s.1 ∙ s.2) ∙ nothing_more n found j no_more ∙ ap (λ ys. read_as (list_of ys None) j) (sym (append-nil found))
  from_complete [] (Some y) n found i j s stop no_more le =
      let F : Words → Type 0 = λ l. P (inr y) l j in
      one_turn n found i (inr y) j (weak (inr y) i j (subst F (sym s.1) s.2) stop) le (λ l fewer. ap (λ ys. read_as (list_of ys (Some y)) j) (sym (append-nil found)))
  from_complete (x ∷ xs) o n found i j s stop no_more le =
      let b = s.1 in
      let behind : Until P (list_of xs o) b.0 j = (s.0, b.2, s.2) in
      one_turn n found i (inl x) b.0 (weak (inl x) i b.0 b.1 (stops_inside xs o b.0 j behind stop)) le
      (λ l fewer. from_complete xs o l (found ++ x ∷ []) b.0 j behind stop no_more fewer ∙ ap (λ ys. read_as (list_of ys o) j) (append_assoc found (x ∷ []) xs))

  -- ---- words that differ in places alone

  is_item : (z : A ⊎ B) (x : A) (k l : Words) → P z k l → erased_both f g z ≡ inl (f x) → (y : A) × P (inl y) k l × (f y ≡ f x)
  is_item (inl y) x k l s e = (y, s, cc)
  is_item (inr y) x k l s e = absurd cc

  is_last : (z : A ⊎ B) (x : B) (k l : Words) → P z k l → erased_both f g z ≡ inr (g x) → (y : B) × P (inr y) k l × (g y ≡ g x)
  is_last (inl y) x k l s e = absurd cc
  is_last (inr y) x k l s e = (y, s, cc)

  abbrev erased_until : List A × Option B → List A × Option B
  erased_until r = (map f r.0, option_map g r.1)

  until_moves : (xs : List A) (o : Option B) (i j k : Words) → Until P (list_of xs o) i j → AreAlike i k
      → (r : List A × Option B) × (l : Words) × Until P r k l × AreAlike j l × (erased_until r ≡ erased_until (list_of xs o))
  until_moves [] None i j k s t = (list_of [] None, k, (k, refl, refl), alike_from i j k (s.1 ∙ s.2) t, refl)
  until_moves [] (Some y) i j k s t =
      let c = a.rules.moves (inr y) s.0 j k s.2 (alike_from i s.0 k s.1 t) in
      let b = is_last c.0 y k c.1 c.2 c.4 in
      (list_of [] (Some b.0), c.1, (k, refl, b.1), c.3, ap (λ z. list_of {A = A} [] (Some z)) b.2)
  until_moves (x ∷ xs) o i j k s t =
      let q = s.1 in
      let c = a.rules.moves (inl x) i q.0 k q.1 t in
      let b = is_item c.0 x k c.1 c.2 c.4 in
      let more = until_moves xs o q.0 j c.1 (s.0, q.2, s.2) c.3 in
      let v = more.2 in
      (list_of (b.0 ∷ more.0.0) more.0.1, more.1, (v.0, (c.1, b.1, v.1), v.2), more.3, λ n. list_of (b.2 n ∷ (more.4 n).0) (more.4 n).1)

  until_more : (xs : List A) (o : Option B) (i j : Words) → Until P (list_of xs o) i j → Until M (list_of xs o) i j
  until_more [] None i j s = s
  until_more [] (Some y) i j s = (s.0, s.1, a.rules.more (inr y) s.0 j s.2)
  until_more (x ∷ xs) o i j s =
      let b = s.1 in
      let more = until_more xs o b.0 j (s.0, b.2, s.2) in (more.0, (b.0, a.rules.more (inl x) i b.0 b.1, more.1), more.2)

  -- ---- one too many

  single_is : (R : Form (A ⊎ B)) (z : A ⊎ B) (k j : Words) → R z k j → Until R (single z) k j
  single_is R (inl x) k j s = (j, (j, s, refl), refl)
  single_is R (inr y) k j s = (k, refl, s)

  -- where an item opens one too many, none is spelled
  cut_off : (i left : Words) → a.item i ≡ Err (Deep left) → (t : TooMany P M S i left) → (k : Words) (z : A ⊎ B) (m : Words) → P z (t.passed ++ (t.head ++ k)) m → W m → ⊥
  cut_off i left s t k z m n w =
      let words : Words = t.passed ++ (t.head ++ k) in
      let r = was_read a.rules words z m (weak z words m n w) in
      let F : Words = t.passed ++ t.head in
      elim (split F k r.taken m (append_assoc t.passed t.head k ∙ r.at)) as (λ _. ⊥) [
        | inl c ↦
            let G : Words → Type 0 = λ l. P z l [] in
            let same : r.taken ++ [] ≡ t.passed ++ (t.head ++ (c.0 ++ [])) =
            ap (λ l. l ++ []) c.1 ∙ append_assoc F c.0 [] ∙ append_assoc t.passed t.head (c.0 ++ [])
            in
            t.barred (c.0 ++ []) z [] (subst G same (spelled_again a.rules z words m [] r (inr last))) last
        | inr c ↦
            let behind : Words = c.0 ∷ (c.1 ++ t.back) in
            let same : SameFront behind m = front_behind c.0 c.1 t.back k ∙ ap front (sym c.3) in
            let whole : i ≡ r.taken ++ behind =
            t.at ∙ sym (append_assoc t.passed t.head t.back) ∙ ap (λ l. l ++ t.back) c.2 ∙ append_assoc r.taken (c.0 ∷ c.1) t.back
            in
            not_refused z behind (Deep left) (sym (r.again behind (inl same)) ∙ ap a.item (sym whole) ∙ s)
      ]

  no_list : (i left : Words) → a.item i ≡ Err (Deep left) → begins i ≡ true → (t : TooMany P M S i left) → (k : Words) (xs : List A) (o : Option B) (j : Words)
      → Until P (list_of xs o) (t.passed ++ (t.head ++ k)) j → Ends j → ⊥
  no_list i left s here t k [] None j n v =
      let same : SameFront (t.passed ++ (t.head ++ k)) i = passed_front t.passed t.head t.opening t.heads k t.back ∙ ap front (sym t.at) in
      true≢false (sym here ∙ sym (a.looks (t.passed ++ (t.head ++ k)) i same) ∙ ap begins (n.1 ∙ n.2) ∙ v.1)
  no_list i left s here t k [] (Some y) j n v =
      let F : Words → Type 0 = λ l. P (inr y) l j in cut_off i left s t k (inr y) j (subst F (sym n.1) n.2) (weaker j v.0)
  no_list i left s here t k (x ∷ xs) o j n v =
      let b = n.1 in cut_off i left s t k (inl x) b.0 b.1 (stops_inside xs o b.0 j (n.0, b.2, n.2) (weaker j v.0))

  deep_here : (i left : Words) → a.item i ≡ Err (Deep left) → begins i ≡ true → TooMany P M S i left → TooMany (Until P) (Until M) Ends i left
  deep_here i left s here t = renamed i left (Until P) (Until M) single (λ j v. v.0) (single_is P) (single_is M) t (λ k r j n v. no_list i left s here t k r.0 r.1 j n v)

  other_items : (u : Words) (x : A) (k : Words) → a.item (u ++ k) ≡ read_as (inl x) k → (zs : List A) (o : Option B) (j : Words) → Until P (list_of zs o) (u ++ k) j → Ends j
      → (r : List A × Option B) × (l : Words) × Until P r k l × Ends l
  other_items u x k s [] None j n v =
      absurd (true≢false (sym (a.starts (inl x) (u ++ k) k (sound a.rules (u ++ k) (inl x) k s)) ∙ ap begins (n.1 ∙ n.2) ∙ v.1))
  other_items u x k s [] (Some y) j n v =
      let F : Words → Type 0 = λ l. P (inr y) l j in
      let apart : ◌≡◌ {A = A ⊎ B} (inl x) (inr y) =
      same_value {A = A ⊎ B} (inl x) (inr y) k j (sym s ∙ weak (inr y) (u ++ k) j (subst F (sym n.1) n.2) (weaker j v.0)) in
      absurd cc
  other_items u x k s (z ∷ zs) o j n v =
      let b = n.1 in
      let there : k ≡ b.0 =
      same_rest {A = A ⊎ B} (inl x) (inl z) k b.0 (sym s ∙ weak (inl z) (u ++ k) b.0 b.1 (stops_inside zs o b.0 j (n.0, b.2, n.2) (weaker j v.0)))
      in
      let F : Words → Type 0 = λ l. Until P (list_of zs o) l j in
      (list_of zs o, j, subst F (sym there) (n.0, b.2, n.2), v)

  deep_behind : (i : Words) (x : A) (m left : Words) → IsRead a.item P S i (inl x) m → TooMany (Until P) (Until M) Ends m left → TooMany (Until P) (Until M) Ends i left
  deep_behind i x m left r t =
      let first : (k : Words) → GoodAfter S m k → P (inl x) (r.taken ++ k) k = λ k h. spelled_again a.rules (inl x) i m k r h in
      onward r.taken i m left r.at t (λ q. list_of (x ∷ q.0) q.1) (λ j v. v)
      (λ q k j same n v. (n.0, (k, first k (inl same), n.1), n.2))
      (λ q k j same n v. (n.0, (k, a.rules.more (inl x) (r.taken ++ k) k (first k (inl same)), n.1), n.2))
      (list_of (x ∷ []) None, [], λ j v. (j, (j, first j (inr v.0), refl), refl))
      (λ q k j same n v. other_items r.taken x k (r.again k (inl same)) q.0 q.1 j n v)

  -- ---- the whole list

  gives_more : (found : List A) (i : Words) (x : A) (m : Words) → IsRead a.item P S i (inl x) m → (o : Outcome (List A × Option B)) → Lists (found ++ x ∷ []) m o → Lists found i o
  gives_more found i x m r (Ok q) t = lists_more found i x m q.0 q.1 r t
  gives_more found i x m r (Err s) t = later i m s (r.taken, r.at) (λ left u. deep_behind i x m left r u) t

  gives_item : (n : ℕ) (found : List A) (i : Words) → length i ≤ suc n → begins i ≡ true → ((done : List A) (m : Words) → length m ≤ n → Lists done m (from n done m))
      → (o : Outcome (A ⊎ B)) → a.item i ≡ o → Gives a.item P M S i o
      → Lists found i (and_then (and_then o (λ z k. some_as z k)) (λ q m. until_by found (from n) q m))
  gives_item n found i le here known (Ok (inl x, m)) s r =
      let less = shorter a.rules no_item last i (inl x) m r in gives_more found i x m r (from n (found ++ x ∷ []) m) (known (found ++ x ∷ []) m (omega (arith, less, le)))
  gives_item n found i le here known (Ok (inr y, m)) s r = lists_last found i y m r
  gives_item n found i le here known (Err (Deep left)) s r = deep_here i left s here r
  gives_item n found i le here known (Err q) s r = r

  gives_turn : (n : ℕ) (found : List A) (i : Words) → length i ≤ suc n → ((done : List A) (m : Words) → length m ≤ n → Lists done m (from n done m))
      → (b : Bool) → begins i ≡ b → Lists found i (and_then (if b then and_then (a.item i) (λ z k. some_as z k) else none_as i) (λ q m. until_by found (from n) q m))
  gives_turn n found i le known true here = gives_item n found i le here known (a.item i) refl (a.rules.tells i)
  gives_turn n found i le known false no_more = lists_none found i no_more

  no_more_words : (i : Words) → length i ≤ 0 → begins i ≡ false
  no_more_words [] le = a.ends
  no_more_words (w ∷ i) le = absurd (omega arith)

  gives_list : (n : ℕ) (found : List A) (i : Words) → length i ≤ n → Lists found i (from n found i)
  gives_list zero found i le =
      let F : Outcome (List A × Option B) → Type 0 = λ o. Lists found i o in subst F (sym (none found i)) (lists_none found i (no_more_words i le))
  gives_list (suc n) found i le =
      let F : Outcome (List A × Option B) → Type 0 = λ o. Lists found i o in
      let G : Parser (Option (A ⊎ B)) → Type 0 = λ q. Lists found i (and_then (q i) (λ o m. until_by found (from n) o m)) in
      subst F (sym (turn n found i)) (subst G a.is (gives_turn n found i le (λ done m fewer. gives_list n done m fewer) (begins i) refl))

  gives_whole : (i : Words) (o : Outcome (List A × Option B)) → Lists [] i o → Gives (λ l. from (length l) [] l) (Until P) (Until M) Ends i o
  gives_whole i (Ok r) t = record {
    taken = t.taken;
    at = t.at;
    again = λ k h. t.again k h (length (t.taken ++ k)) (omega arith);
    spelled = let F : List A × Option B → Type 0 = λ q. Until P q i r.1 in subst F (sym t.are) t.spelled;
  }
  gives_whole i (Err s) t = t

  pub until_law : Law (λ i. from (length i) [] i) (Until P) (Until M) (λ j. S j × (begins j ≡ false)) (λ r. (map f r.0, option_map g r.1))
  until_law = record {
    rules = record {
      tells = λ i. gives_whole i (from (length i) [] i) (gives_list (length i) [] i (omega arith));
      complete = λ r i j s t. from_complete r.0 r.1 (length i) [] i j s (weaker j t.0) t.1 (omega arith);
      moves = λ r i j k s t. until_moves r.0 r.1 i j k s t;
      more = λ r i j s. until_more r.0 r.1 i j s;
    };
    one = (list_of [] None, [], λ j t. (j, refl, refl));
  }

-- ---- {x}: items of which none is the last

item_by : {A : Type 0} (b : Bool) (i : Words) (o : Outcome A) (x : A) (j : Words) → (if b then and_then o (λ y k. some_as y k) else none_as i) ≡ some_as x j → o ≡ read_as x j
item_by {A} true i (Ok (y, k)) x j s =
    let some : ◌≡◌ {A = Option A} (Some y) (Some x) = same_value {A = Option A} (Some y) (Some x) k j s in
    let same : y ≡ x = cc in λ n. read_as (same n) (same_rest {A = Option A} (Some y) (Some x) k j s n)
item_by true i (Err r) x j s = not_read r (Some x) j s
item_by false i o x j s = not_some x i j s

abbrev goes_on : {A : Type 0} → A → A ⊎ ⊥
goes_on x = inl x

abbrev Alone : {A : Type 0} → Form A → Form (A ⊎ ⊥)
Alone R = Made goes_on R

all_to : {A : Type 0} (R : Form A) (xs : List A) (o : Option ⊥) (i m j : Words) → Repeated (λ x. Alone R (inl x)) xs i m → Optional (λ y. Alone R (inr y)) o m j → Repeated R xs i j
all_to R xs (Some y) i m j s t = absurd y
all_to R [] None i m j s t = s ∙ t
all_to R (x ∷ xs) None i m j s t = let b = s.1 in let same : x ≡ b.0 = cc in (s.0, rw same b.2, all_to R xs None s.0 m j s.2 t)

all_from : {A : Type 0} (R : Form A) (xs : List A) (i j : Words) → Repeated R xs i j → Repeated (λ x. Alone R (inl x)) xs i j
all_from R [] i j s = s
all_from R (x ∷ xs) i j s = (s.0, (x, refl, s.1), all_from R xs s.0 j s.2)

module _ {A : Type 0} {begins : Words → Bool} {p : Parser (Option A)} {P M : Form A} {S W : Words → Type 0} {e : A → A} (a : MaybeLaw p P M S begins e)
    (weak : (x : A) (i j : Words) → P x i j → W j → p i ≡ some_as x j) (at_start : (i : Words) → begins i ≡ true → W i) (weaker : (j : Words) → S j → W j) (last : S []) where
  abbrev alone : MaybeLaw (maybe begins (made goes_on a.item)) (Alone P) (Alone M) S begins (erased_both e (λ (y : ⊥). y))
  alone = maybe_law begins a.looks (made_rules goes_on (λ x. refl) a.rules) a.ends (λ z i j s. a.starts s.0 i j s.2)

  abbrev paired : List A → Parser (List A × Option ⊥)
  paired xs = λ j. read_as (list_of xs None) j

  abbrev from : ℕ → List A → Parser (List A × Option ⊥)
  from n found = λ i. and_then (repeated_from p n found i) paired

  -- and where none begins
  pub repeated_open_law : Law (repeated p) (Repeated P) (Repeated M) (λ j. S j × (begins j ≡ false)) (map e)
  unfolding repeated_from
  repeated_open_law =
      same_law (λ i. steps_in (repeated p i) paired (λ r j. read_as r.0 j) ∙ unchanged (repeated p i))
      (formed_law (λ (r : List A × Option ⊥). r.0) (λ j t. t) (λ r i j s. all_to P r.0 r.1 i s.0 j s.1 s.2) (λ xs i j s. (list_of xs None, refl, (j, all_from P xs i j s, refl)))
      (λ r i j s. all_to M r.0 r.1 i s.0 j s.1 s.2) (λ x. refl)
      (until_law alone (made_complete goes_on (λ x i j s t. item_by (begins i) i (a.item i) x j (ap (λ q. q i) a.is ∙ weak x i j s t))) at_start weaker last from (λ found i. refl)
      (λ n found i.
      ap (λ (r : Parser (Option A)). and_then (and_then (r i) (λ q m. repeated_by found (repeated_from p n) q m)) paired) (sym a.is) ∙ simp (steps_in, steps_if))))

-- an item stops where another begins
module _ {A : Type 0} {begins : Words → Bool} {p : Parser (Option A)} {P M : Form A} {S : Words → Type 0} {e : A → A} (a : MaybeLaw p P M S begins e)
    (at_start : (i : Words) → begins i ≡ true → S i) (last : S []) where
  -- and where none begins
  pub repeated_law : Law (repeated p) (Repeated P) (Repeated M) (λ j. S j × (begins j ≡ false)) (map e)
  repeated_law = repeated_open_law a (λ x i j s t. some_read a x i j (a.rules.complete x i j s t)) at_start (λ j t. t) last

  -- what stands before a list stands before its end, or before an item
  pub repeated_begins : (xs : List A) (i j : Words) → Repeated P xs i j → S j → S i
  repeated_begins [] i j s stop = subst S (sym s) stop
  repeated_begins (x ∷ xs) i j s stop = at_start i (a.starts x i s.0 s.1)

-- ---- x {"," x}: an item, and others that each stand behind a comma

pub no_comma_at_close : (s : Spelling) (j : Words) → sees mark.Comma (Fixed mark.Close s ∷ j) ≡ false
unfolding sees front same_mark
no_comma_at_close s j = refl

module _ {A : Type 0} (item : Parser A) where
  abbrev joined : A × List A → List A
  joined p = p.0 ∷ p.1

  cons_by : (k : ℕ) (x : A) (found : List A) → ((done : List A) (m : Words) → repeated_from (another item) k (x ∷ done) m ≡ and_then (repeated_from (another item) k done m) (λ ys j. read_as (x ∷ ys) j))
      → (o : Outcome (Option A)) → and_then o (λ q l. repeated_by (x ∷ found) (repeated_from (another item) k) q l)
      ≡ and_then (and_then o (λ q l. repeated_by found (repeated_from (another item) k) q l)) (λ ys j. read_as (x ∷ ys) j)
  cons_by k x found known (Ok (Some y, m)) = known (found ++ y ∷ []) m
  cons_by k x found known o = refl

  -- what was found before stands before what is found
  cons_others : (k : ℕ) (x : A) (found : List A) (m : Words)
      → repeated_from (another item) k (x ∷ found) m ≡ and_then (repeated_from (another item) k found m) (λ ys j. read_as (x ∷ ys) j)
  unfolding repeated_from
  cons_others zero x found m = refl
  cons_others (suc k) x found m = cons_by k x found (cons_others k x) (another item m)

  separated_by : (o : Outcome A) →
      and_then (and_then o (λ x m. and_then (repeated (another item) m) (λ ys j. read_as (x, ys) j))) (λ z j. read_as (joined z) j)
      ≡ and_then o (λ x m. repeated_from (another item) (length m) (x ∷ []) m)
  separated_by (Ok z) =
      steps_in {B = A × List A} (repeated (another item) z.1) (λ ys j. read_as (z.0, ys) j) (λ y j. read_as (joined y) j) ∙ sym (cons_others (length z.1) z.0 [] z.1)
  separated_by (Err r) = refl

module _ {A : Type 0} {item : Parser A} {P M : Form A} {S : Words → Type 0} {e : A → A} (a : Law item P M S e)
    (at_comma : (s : Spelling) (m : Words) → S (Fixed mark.Comma s ∷ m)) (last : S []) where
  abbrev Others : Form A → Form (List A)
  Others R = Repeated (Behind mark.Comma R)

  comma_stops : (i : Words) → sees mark.Comma i ≡ true → S i
  comma_stops i e = let at = sees_ok mark.Comma i e in subst S (sym at.1) (at_comma at.0 (rest i))

  another_law : MaybeLaw (another item) (Behind mark.Comma P) (Behind mark.Comma M) S (sees mark.Comma) e
  another_law = maybe_law (sees mark.Comma) (sees_front mark.Comma) (behind_law mark.Comma a).rules (sees_last mark.Comma) (λ x i j s. sees_at mark.Comma s.0 i s.1 s.2)

  others_stop : (ys : List A) (m j : Words) → Others P ys m j → S j × (sees mark.Comma j ≡ false) → S m
  others_stop [] m j s t = subst S (sym s) t.0
  others_stop (y ∷ ys) m j s t = let c = s.1 in subst S (sym c.2) (at_comma c.0 c.1)

  list_to : (R : Form A) (x : A) (ys : List A) (i m j : Words) → R x i m → Others R ys m j → Separated R (x ∷ ys) i j
  list_to R x [] i m j s t = let F : Words → Type 0 = λ l. R x i l in subst F t s
  list_to R x (y ∷ ys) i m j s t = let c = t.1 in let F : Words → Type 0 = λ l. R x i l in (c.0, c.1, subst F c.2 s, list_to R y ys c.1 t.0 j c.3 t.2)

  list_from : (x : A) (ys : List A) (i j : Words) → Separated P (x ∷ ys) i j → Both P (Others P) (x, ys) i j
  list_from x [] i j s = (j, s, refl)
  list_from x (y ∷ ys) i j s = let b = list_from y ys s.1 j s.3 in (Fixed mark.Comma s.0 ∷ s.1, s.2, (b.0, (s.0, s.1, refl, b.1), b.2))

  joined_from : (xs : List A) (i j : Words) → Separated P xs i j → Made (joined item) (Both P (Others P)) xs i j
  joined_from [] i j s = absurd s
  joined_from (x ∷ xs) i j s = ((x, xs), refl, list_from x xs i j s)

  -- and not at a comma
  pub separated_law : Law (separated item) (Separated P) (Separated M) (λ j. S j × (sees mark.Comma j ≡ false)) (map e)
  separated_law =
      same_law (λ i. separated_by item (item i))
      (formed_law (joined item) (λ j t. t) (λ x i j s. list_to P x.0 x.1 i s.0 j s.1 s.2) joined_from (λ x i j s. list_to M x.0 x.1 i s.0 j s.1 s.2) (λ x. refl)
      (both_law a (repeated_law another_law comma_stops last) others_stop))

-- a list begins as its first item does
pub separated_begins : {A : Type 0} (P : Form A) (Q : Words → Type 0) → ((x : A) (i j : Words) → P x i j → Q i) → (xs : List A) (i j : Words) → Separated P xs i j → Q i
separated_begins P Q first [] i j s = absurd s
separated_begins P Q first (x ∷ []) i j s = first x i j s
separated_begins P Q first (x ∷ y ∷ ys) i j s = first x i (Fixed mark.Comma s.0 ∷ s.1) s.2

-- what holds before a part that may be left out
pub optional_at : {A : Type 0} (P : Form A) (C : Words → Type 0) → ((x : A) (i j : Words) → P x i j → C i)
    → (x : Option A) (i j : Words) → Optional P x i j → C j → C i
optional_at P C some None i j s t = rw s t
optional_at P C some (Some x) i j s t = some x i j s

-- what holds before a list
pub repeated_at : {A : Type 0} (P : Form A) (C : Words → Type 0) → ((x : A) (i j : Words) → P x i j → C i)
    → (xs : List A) (i j : Words) → Repeated P xs i j → C j → C i
repeated_at P C some [] i j s t = rw s t
repeated_at P C some (x ∷ xs) i j s t = some x i s.0 s.1
