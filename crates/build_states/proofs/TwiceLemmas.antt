-- What is mentioned twice in a state.
use Rattle.std.proofs.Common.{◌≡◌, ◌∙◌, inl, inr, ℕ, ◌==◌, ◌||◌, ◌++◌, Bool, true, false, List, [], ◌∷◌, Option, Some, ap, arith, if◌then◌else◌, is_some, refl, subst, sym}
use Rattle.std.specs.List.{list_any}
use Rattle.std.proofs.lemmas.List.{append_assoc}
use Rattle.std.proofs.lemmas.List.Sums.{fold-append}
use Rattle.build_names.proofs.FaultLemmas.{each-both, each-if, in-if, in-left, in-right}
use Rattle.build_names.specs.FaultLaws.{Each, In}
use Rattle.build_names.specs.Faults.{Diagnostic, fault_if, diagnostic_at}
use Rattle.build_names.specs.declared.faults.fault.Rule.TheVariants.{TwiceInState}
use Rattle.sdl_tree.specs.Words.{Spot}
use Rattle.build_states.specs.Mentions.{Mention, Response}
use Rattle.build_states.specs.declared.stimuli.subject.Subject.{Subject}
use Rattle.build_states.specs.declared.stimuli.subject.Subject.TheVariants.{Rest, Signal}
use Rattle.build_states.specs.Broken.{IsTwice}
use Rattle.build_states.specs.FirstMention.{first_said, said, same_subject, speaks_of}
use Rattle.build_states.specs.States.{Answers, answers_in, is_again, is_answered, no_answers, twice_faults, with_mention}
use Rattle.build_states.proofs.AnswerLemmas.{twice-append}
use Rattle.build_states.proofs.FirstLemmas.{first_mention}

-- ---- lists

record Found {A : Type 0} (test : A → Bool) (xs : List A) : Type 0 where
  item : A
  among : In item xs
  passes : test item ≡ true

found-in : {A : Type 0} (test : A → Bool) (xs : List A) → list_any test xs ≡ true → Found test xs
found-in test [] h = let never : false ≡ true = h in cc
found-in test (x ∷ xs) h = by (test x) refl (λ later. found-in test xs later)
  where
    by : (b : Bool) → test x ≡ b → (list_any test xs ≡ true → Found test xs) → Found test (x ∷ xs)
    by true is rest = record { item = x; among = inl refl; passes = is }
    by false isnt rest =
        let found = rest (ap (λ b. b || list_any test xs) (sym isnt) ∙ h) in
        record { item = found.item; among = inr found.among; passes = found.passes }

or-true : (b : Bool) → (b || true) ≡ true
or-true true = refl
or-true false = refl

pub any-in : {A : Type 0} (test : A → Bool) (xs : List A) (x : A) → In x xs → test x ≡ true → list_any test xs ≡ true
any-in test [] x at is = absurd at
any-in test (y ∷ xs) x at is =
    elim at [
      | inl e ↦ ap (λ b. b || list_any test xs) (ap test (sym e) ∙ is)
      | inr i ↦ ap (λ b. test y || b) (any-in test xs x i is) ∙ or-true (test y)
    ]

-- ---- subjects

subject-is : (one other : Subject) → same_subject one other ≡ true → one ≡ other
subject-is (Signal one) (Signal other) h =
    let same : one.0 ≡ other.0 = number-is one.0 other.0 h in ap (λ n. Signal (record { 0 = n })) same
  where
    number-is : (a b : ℕ) → (a == b) ≡ true → a ≡ b
    number-is a b h = grind arith
subject-is (Signal one) Rest h = let never : false ≡ true = h in cc
subject-is Rest (Signal other) h = let never : false ≡ true = h in cc
subject-is Rest Rest h = refl

same-itself : (subject : Subject) → same_subject subject subject ≡ true
same-itself (Signal number) = itself number.0
  where
    itself : (n : ℕ) → (n == n) ≡ true
    itself n = grind arith
same-itself Rest = refl

-- something is answered once a mention speaks of it
answered-said : (answers : Answers) (subject : Subject) → is_answered answers subject ≡ is_some (said answers subject)
answered-said answers (Signal number) = refl
answered-said answers Rest = refl

answered-first : (mentions : List Mention) (subject : Subject) →
    is_answered (answers_in mentions) subject ≡ is_some (first_said mentions subject)
answered-first mentions subject =
    answered-said (answers_in mentions) subject ∙ ap is_some (first_mention mentions subject)

first-found : (mentions : List Mention) (subject : Subject) → is_some (first_said mentions subject) ≡ true →
    Found (λ mention. speaks_of mention subject) mentions
first-found [] subject h = let never : false ≡ true = h in cc
first-found (mention ∷ mentions) subject h =
    by (speaks_of mention subject) refl (λ later. first-found mentions subject later)
  where
    by : (b : Bool) → speaks_of mention subject ≡ b →
        (is_some (first_said mentions subject) ≡ true → Found (λ one. speaks_of one subject) mentions) →
        Found (λ one. speaks_of one subject) (mention ∷ mentions)
    by true is rest = record { item = mention; among = inl refl; passes = is }
    by false isnt rest =
        let found = rest
        (ap (λ b. is_some (if b then Some mention.response else first_said mentions subject)) (sym isnt) ∙ h) in
        record { item = found.item; among = inr found.among; passes = found.passes }

found-first : (mentions : List Mention) (subject : Subject) (earlier : Mention) → In earlier mentions →
    speaks_of earlier subject ≡ true → is_some (first_said mentions subject) ≡ true
found-first [] subject earlier at spoken = absurd at
found-first (mention ∷ mentions) subject earlier at spoken =
    elim at [
      | inl e ↦ ap (λ b. is_some (if b then Some mention.response else first_said mentions subject))
          (ap (λ one. speaks_of one subject) (sym e) ∙ spoken)
      | inr i ↦ either (speaks_of mention subject) mention.response (first_said mentions subject)
          (found-first mentions subject earlier i spoken)
    ]
  where
    either : (b : Bool) (response : Response) (rest : Option Response) → is_some rest ≡ true →
        is_some (if b then Some response else rest) ≡ true
    either true response rest h = refl
    either false response rest h = h

-- ---- both directions

record IsTold (mentions : List Mention) (fault : Diagnostic) : Type 0 where
  word : Spot
  is : fault ≡ diagnostic_at TwiceInState word
  twice : IsTwice mentions word

twice-here : (mentions before after : List Mention) (mention : Mention) → mentions ≡ before ++ mention ∷ after →
    is_again (answers_in before) mention ≡ true → IsTwice mentions mention.word
twice-here mentions before after mention are again =
    let found = found-in (is_answered (answers_in before)) mention.subjects again in
    let first = first-found before found.item (sym (answered-first before found.item) ∙ found.passes) in
    record {
      before = before;
      mention = mention;
      after = after;
      mentions_are = are;
      at_word = refl;
      subject = found.item;
      again = any-in (same_subject found.item) mention.subjects found.item found.among (same-itself found.item);
      earlier = first.item;
      stands_before = first.among;
      spoken = first.passes;
    }

each-twice : (mentions before after : List Mention) → mentions ≡ before ++ after →
    Each (IsTold mentions) (twice_faults (answers_in before) after)
each-twice mentions before [] are = tt
each-twice mentions before (mention ∷ after) are =
    each-both (IsTold mentions)
    (fault_if (is_again (answers_in before) mention) TwiceInState mention.word)
    (twice_faults (with_mention (answers_in before) mention) after)
    (each-if (IsTold mentions) (is_again (answers_in before) mention) TwiceInState mention.word (λ again.
    record { word = mention.word; is = refl; twice = twice-here mentions before after mention are again }))
    (subst (λ answers. Each (IsTold mentions) (twice_faults answers after))
    (fold-append with_mention no_answers before (mention ∷ []))
    (each-twice mentions (before ++ mention ∷ []) after (are ∙ sym (append_assoc before (mention ∷ []) after))))

-- each fault of a state is something that is mentioned twice
pub twice-listed : (P : Diagnostic → Type 0) (mentions : List Mention) →
    ((word : Spot) → IsTwice mentions word → P (diagnostic_at TwiceInState word)) →
    Each P (twice_faults no_answers mentions)
twice-listed P mentions is = through (twice_faults no_answers mentions) (each-twice mentions [] mentions refl)
  where
    through : (faults : List Diagnostic) → Each (IsTold mentions) faults → Each P faults
    through [] each = tt
    through (fault ∷ faults) each =
        (subst P (sym each.0.is) (is each.0.word each.0.twice), through faults each.1)

-- and each of those is a fault
pub listed-twice : (mentions : List Mention) (word : Spot) → IsTwice mentions word →
    In (diagnostic_at TwiceInState word) (twice_faults no_answers mentions)
listed-twice mentions word is =
    let answers = answers_in is.before in
    let found = found-in (same_subject is.subject) is.mention.subjects is.again in
    let answered : is_answered answers found.item ≡ true =
    ap (is_answered answers) (sym (subject-is is.subject found.item found.passes))
    ∙ answered-first is.before is.subject
    ∙ found-first is.before is.subject is.earlier is.stands_before is.spoken in
    let again : is_again answers is.mention ≡ true =
    any-in (is_answered answers) is.mention.subjects found.item found.among answered in
    let here : In (diagnostic_at TwiceInState is.mention.word)
    (fault_if (is_again answers is.mention) TwiceInState is.mention.word) =
    in-if (is_again answers is.mention) TwiceInState is.mention.word again in
    subst (λ faults. In (diagnostic_at TwiceInState word) faults)
    (sym (ap (twice_faults no_answers) is.mentions_are ∙ twice-append no_answers is.before (is.mention ∷ is.after)))
    (subst (λ w. In (diagnostic_at TwiceInState w)
    (twice_faults no_answers is.before ++ twice_faults answers (is.mention ∷ is.after))) (sym is.at_word)
    (in-right (diagnostic_at TwiceInState is.mention.word) (twice_faults no_answers is.before)
    (twice_faults answers (is.mention ∷ is.after))
    (in-left (diagnostic_at TwiceInState is.mention.word)
    (fault_if (is_again answers is.mention) TwiceInState is.mention.word)
    (twice_faults (with_mention answers is.mention) is.after) here)))
