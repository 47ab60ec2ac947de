-- The laws of what a mark doesn't stand behind, and of what stands wherever its first mark does.
use Rattle.sdl_parse.proofs.Words.{Anywhere, AreAlike, Begins, Bool, Complete, Err, Fixed, Form, Gives, GoodAfter, Law, Made, Mark, MaybeLaw, None, Nothing, Ok, Option, Or, Outcome, Parser, Refusal, Refused, Some, Spelling, Wherever, Words, [], and_then, ap, as_law, bind_is, either_rules, false, if_false, if◌then◌else◌, inl, inr, nothing_law, option_map, passes, pure, read_as, refl, rest, same_law, sees, sees_again, sees_at, sees_front, sees_ok, some_read, still, stops_rules, sym, true, true_or_false, true≢false, ◌++◌, ◌∙◌, ◌∷◌, ◌≡◌}
use Rattle.parse_expressions.proofs.Depth.{no_deeper}
use Rattle.parse_expressions.proofs.Laws.{IsRead, Told, made_rules}

module _ (m : Mark) where
  -- what isn't seen begins nothing
  not_begun : (i : Words) → sees m i ≡ false → ¬ Begins m i
  not_begun i none b = true≢false (sym (sees_at m b.0 i b.1 b.2) ∙ none)

  not_seen : (i : Words) → ¬ Begins m i → sees m i ≡ false
  not_seen i none = elim (true_or_false (sees m i)) as (λ _. sees m i ≡ false) [
    | inl t ↦ let at = sees_ok m i t in absurd (none (at.0, _, at.1))
    | inr t ↦ t
  ]

  alike_begins : (i k : Words) (s : Spelling) → AreAlike i (Fixed m s ∷ k) → sees m i ≡ true
  alike_begins (Fixed n t ∷ i) k s a = ap (λ o. sees m (Fixed o t ∷ i)) a.0 ∙ sees_again m t i
  alike_begins [] k s a = absurd a
  alike_begins (w ∷ i) k s a = absurd a.0

  alike_not_begun : (i k : Words) → AreAlike i k → ¬ Begins m i → ¬ Begins m k
  alike_not_begun i k a none b = true≢false (sym (alike_begins i b.1 b.0 (rw b.2 at a)) ∙ not_seen i none)

-- ---- x, behind which this mark doesn't stand

module _ {A : Type 0} (told : Words → Refusal) (m : Mark) {p : Parser A} {P : Form A} {e : A → A} (a : Law p P P Anywhere e) where
  abbrev pub Free : Form A
  Free x i j = P x i j × ¬ Begins m j

  abbrev Unmarked : Words → Type 0
  Unmarked j = sees m j ≡ false

  abbrev barrier : A → Parser A
  barrier x k = if sees m k then Err (told k) else Ok (x, k)

  abbrev pub free : Parser A
  free = λ i. and_then (p i) barrier

  passed : (x : A) (k : Words) → sees m k ≡ false → barrier x k ≡ read_as x k
  passed x k none = if_false (sees m k) (Err (told k)) (Ok (x, k)) none

  pub free_complete : Complete free Free Anywhere
  free_complete x i j s t = bind_is (p i) barrier x j (a.rules.complete x i j s.0 tt) ∙ passed x j (not_seen m j s.1)

  unmarked_after : (k l : Words) → sees m k ≡ false → GoodAfter Unmarked k l → sees m l ≡ false
  unmarked_after k l none (inl same) = sees_front m l k same ∙ none
  unmarked_after k l none (inr t) = t

  -- where it does, that is told so
  module _ (tells : (i : Words) (x : A) (k : Words) → IsRead p P Anywhere i x k → Begins m k → Told Free Free Unmarked i (told k)) where
    free_at : (i : Words) (x : A) (k : Words) → IsRead p P Anywhere i x k → (b : Bool) → sees m k ≡ b
        → Gives free Free Free Unmarked i (if b then Err (told k) else Ok (x, k))
    free_at i x k r true s = let b = sees_ok m k s in tells i x k r (b.0, rest k, b.1)
    free_at i x k r false s = record {
      taken = r.taken;
      at = r.at;
      again = λ l g. bind_is (p (r.taken ++ l)) barrier x l (r.again l (inr tt)) ∙ passed x l (unmarked_after k l s g);
      spelled = (r.spelled, not_begun m k s);
    }

    free_gives : (i : Words) (o : Outcome A) → Gives p P P Anywhere i o → Gives free Free Free Unmarked i (and_then o barrier)
    free_gives i (Ok z) r = free_at i z.0 z.1 r (sees m z.1) refl
    free_gives i (Err r) t = still i r (λ left u. absurd (no_deeper i left tt u)) t

    pub free_law : Law free Free Free Unmarked e
    free_law = record {
      rules = record {
        tells = λ i. free_gives i (p i) (a.rules.tells i);
        complete = λ x i j s t. free_complete x i j s tt;
        moves = λ x i j k s t. let c = a.rules.moves x i j k s.0 t in (c.0, c.1, (c.2, alike_not_begun m j c.1 c.3 s.1), c.3, c.4);
        more = λ x i j s. s;
      };
      one = let o = a.one in (o.0, o.1, λ j t. (o.2 j tt, not_begun m j t));
    }

-- ---- [x], wherever its first mark stands

unbarred : {X : Type 0} (b : Bool) (x y z : X) → (if b then x else (if b then y else z)) ≡ (if b then x else z)
unbarred true x y z = refl
unbarred false x y z = refl

module _ {A : Type 0} (m : Mark) {p : Parser (Option A)} {P M : Form A} {S : Words → Type 0} {e : A → A} (a : MaybeLaw p P M S (sees m) e) where
  abbrev none_law : Law (pure None) (Nothing None) (Nothing None) Anywhere (option_map e)
  none_law = nothing_law None

  wherever_to : (R : Form A) (x : Option A) (i j : Words) → Or (Made Some R) (Free Refused m none_law) x i j → Wherever m R x i j
  wherever_to R x i j (inl s) = rw s.1 s.2
  wherever_to R x i j (inr s) = rw s.0.0 (s.0.1, rw s.0.1 s.1)

  wherever_from : (x : Option A) (i j : Words) → Wherever m P x i j → Or (Made Some P) (Free Refused m none_law) x i j
  wherever_from None i j s = inr ((refl, s.0), rw s.0 at s.1)
  wherever_from (Some x) i j s = inl (x, refl, s)

  pub wherever_law : Law p (Wherever m P) (Wherever m M) (λ j. S j × (sees m j ≡ false)) (option_map e)
  wherever_law =
      same_law (λ i. unbarred (sees m i) (and_then (a.item i) (λ x j. read_as (Some x) j)) (Err (Refused i)) (read_as None i) ∙ ap (λ q. q i) a.is)
      (as_law (wherever_to P) wherever_from (wherever_to M) (record {
        rules =
            either_rules (sees m) a.looks (made_rules Some (λ x. refl) (stops_rules (λ j t. t.0) a.rules))
            (stops_rules (λ j t. t.1) (free_law Refused m none_law (λ i x k r b. (r.taken, r.at))).rules)
            (λ x i j s. a.starts s.0 i j s.2) (λ x i j s t. rw s.0.1 t.1);
        one = (None, [], λ j t. inr ((refl, refl), not_begun m j t.1));
      }))

  -- and where the mark itself is allowed for, since the part says that it doesn't stand next
  pub wherever_read : Complete p (Wherever m P) S
  wherever_read None i j s t = ap p s.0 ∙ passes a j (not_seen m j (rw s.0 at s.1))
  wherever_read (Some x) i j s t = some_read a x i j (a.rules.complete x i j s t)
