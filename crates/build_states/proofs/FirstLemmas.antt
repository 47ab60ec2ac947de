-- The first mention of a signal counts.
use Rattle.std.proofs.Common.{◌≡◌, ◌∙◌, ◌==◌, ◌||◌, ◌++◌, arith, Bool, true, false, List, [], ◌∷◌, Option, None, Some, if◌then◌else◌, is_some, refl, ap}
use Rattle.std.specs.List.{list_any}
use Rattle.std.specs.Option.{option_or}
use Rattle.port_model.specs.declared.values.item.SignalId.{SignalId}
use Rattle.build_names.proofs.NameLemmas.{lookup-append}
use Rattle.sdl_system.specs.State.{same_signal}
use Rattle.build_states.specs.FirstMention.{FirstMentionCounts, first_said, said, same_subject, speaks_of}
use Rattle.build_states.specs.Mentions.{Mention, Response}
use Rattle.build_states.specs.States.{Answers, named_in, no_answers, with_answer, with_mention, with_mentions, with_subjects}
use Rattle.build_states.specs.declared.stimuli.subject.Subject.{Subject}
use Rattle.build_states.specs.declared.stimuli.subject.Subject.TheVariants.{Rest, Signal}

or-none : {A : Type 0} (found : Option A) → found ≡ option_or found None
or-none None = refl
or-none (Some x) = refl

-- one more that says nothing new
or-known : {A : Type 0} (found : Option A) (same : Bool) (x : A) → (same ≡ true → is_some found ≡ true) →
    found ≡ option_or found (if same then Some x else None)
or-known None true x known = let never : false ≡ true = known refl in cc
or-known None false x known = refl
or-known (Some y) same x known = refl

same-named : (named : List (SignalId × Response)) (one other : SignalId) → (one.0 == other.0) ≡ true →
    is_some (named_in named other) ≡ true → is_some (named_in named one) ≡ true
same-named named one other same known =
    let is : one.0 ≡ other.0 = grind arith in
    ap (λ n. is_some (named_in named (record { 0 = n }))) is ∙ known

with_signal-by : (named : List (SignalId × Response)) (other one : SignalId) (response : Response) (b : Bool) →
    is_some (named_in named other) ≡ b →
    named_in (if b then named else named ++ (other, response) ∷ []) one
    ≡ option_or (named_in named one) (if same_signal one other then Some response else None)
with_signal-by named other one response true is =
    or-known (named_in named one) (same_signal one other) response (λ same. same-named named one other same is)
with_signal-by named other one response false is = lookup-append (same_signal one) named ((other, response) ∷ [])

-- one more subject of a mention
said-with : (answers : Answers) (response : Response) (one other : Subject) →
    said (with_answer answers response other) one
    ≡ option_or (said answers one) (if same_subject one other then Some response else None)
said-with answers response (Signal one) (Signal other) =
    with_signal-by answers.named other one response (is_some (named_in answers.named other)) refl
said-with answers response (Signal one) Rest = or-none (named_in answers.named one)
said-with answers response Rest (Signal other) = or-none answers.rest
said-with answers response Rest Rest = refl

or-again : {A : Type 0} (found : Option A) (first rest : Bool) (x : A) →
    option_or (option_or found (if first then Some x else None)) (if rest then Some x else None)
    ≡ option_or found (if first || rest then Some x else None)
or-again None true rest x = refl
or-again None false true x = refl
or-again None false false x = refl
or-again (Some y) true rest x = refl
or-again (Some y) false rest x = refl

said-all : (answers : Answers) (response : Response) (one : Subject) (subjects : List Subject) →
    said (with_subjects answers response subjects) one
    ≡ option_or (said answers one) (if list_any (same_subject one) subjects then Some response else None)
said-all answers response one [] = or-none (said answers one)
said-all answers response one (other ∷ subjects) =
    said-all (with_answer answers response other) response one subjects
    ∙ ap (λ found. option_or found (if list_any (same_subject one) subjects then Some response else None))
    (said-with answers response one other)
    ∙ or-again (said answers one) (same_subject one other) (list_any (same_subject one) subjects) response

or-first : {A : Type 0} (found rest : Option A) (first : Bool) (x : A) →
    option_or (option_or found (if first then Some x else None)) rest
    ≡ option_or found (if first then Some x else rest)
or-first None rest true x = refl
or-first None rest false x = refl
or-first (Some y) rest first x = refl

said-mentions : (answers : Answers) (mentions : List Mention) (one : Subject) →
    said (with_mentions answers mentions) one ≡ option_or (said answers one) (first_said mentions one)
said-mentions answers [] one = or-none (said answers one)
said-mentions answers (mention ∷ mentions) one =
    said-mentions (with_mention answers mention) mentions one
    ∙ ap (λ found. option_or found (first_said mentions one)) (said-all answers mention.response one mention.subjects)
    ∙ or-first (said answers one) (first_said mentions one) (speaks_of mention one) mention.response

nothing-said : (one : Subject) (found : Option Response) → option_or (said no_answers one) found ≡ found
nothing-said (Signal one) found = refl
nothing-said Rest found = refl

pub first_mention : FirstMentionCounts
first_mention mentions subject =
    said-mentions no_answers mentions subject ∙ nothing-said subject (first_said mentions subject)
