-- What a state says of a signal, in the words of the text: what stands where the signal is mentioned first.
use Rattle.std.specs.Prelude.{◌≡◌, ◌==◌, Bool, true, false, List, [], ◌∷◌, Option, None, Some, if◌then◌else◌}
use Rattle.std.specs.List.{list_any}
use Rattle.build_states.specs.Mentions.{Mention, Response}
use Rattle.build_states.specs.States.{Answers, answers_in, named_in}
use Rattle.build_states.specs.declared.stimuli.subject.Subject.{Subject}
use Rattle.build_states.specs.declared.stimuli.subject.Subject.TheVariants.{Rest, Signal}

abbrev pub same_subject : Subject → Subject → Bool
same_subject (Signal one) (Signal other) = one.0 == other.0
same_subject (Signal one) Rest = false
same_subject Rest (Signal other) = false
same_subject Rest Rest = true

abbrev pub speaks_of : Mention → Subject → Bool
speaks_of mention subject = list_any (same_subject subject) mention.subjects

-- what the first mention says that speaks of the subject
abbrev pub first_said : List Mention → Subject → Option Response
first_said [] subject = None
first_said (mention ∷ mentions) subject =
    if speaks_of mention subject then Some mention.response else first_said mentions subject

-- what the answers say of it
abbrev pub said : Answers → Subject → Option Response
said answers (Signal number) = named_in answers.named number
said answers Rest = answers.rest

-- A state says of each signal, and by an asterisk of the others, what its first mention says.
abbrev pub FirstMentionCounts : Type 0
FirstMentionCounts =
    (mentions : List Mention) (subject : Subject) → said (answers_in mentions) subject ≡ first_said mentions subject
