-- What is said of signals by one mention behind others.
use Rattle.std.proofs.Common.{◌≡◌, ◌∙◌, ◌+◌, ◌<◌, ◌++◌, ℕ, Bool, true, false, cond, List, [], ◌∷◌, Option, None, Some, if◌then◌else◌, is_some, get_or, length, map, option_map, take, refl, ap, sym}
use Rattle.std.specs.Borrow.{Bor}
use Rattle.std.specs.Map.{lookup}
use Rattle.std.proofs.lemmas.List.{append_assoc, map-append, take_more}
use Rattle.std.proofs.lemmas.List.Sums.{fold-append}
use Rattle.port_model.specs.declared.values.item.SignalId.{SignalId}
use Rattle.build_names.proofs.FaultLemmas.{both_noted}
use Rattle.build_names.specs.Faults.{Diagnostic, fault_if, least_of}
use Rattle.build_names.specs.declared.faults.fault.Rule.TheVariants.{TwiceInState}
use Rattle.sdl_system.specs.State.{same_signal}
use Rattle.build_states.specs.Listed.{mention_value, mentions_listed, named_value, rest_value}
use Rattle.build_states.specs.Mentions as plain
use Rattle.build_states.specs.States.{Answers, is_again, named_in, twice_faults, with_mention, with_mentions, with_signal}
use Rattle.build_states.specs.declared.stimuli.mention.Mention.{Mention}
use Rattle.build_states.specs.declared.stimuli.mention.Response.{Response}

-- ---- look-ups

pub mapped : {A B : Type 0} (f : A → B) (found : Bool) (x : A) (rest : Option A) (mapped_rest : Option B) →
    mapped_rest ≡ option_map f rest → cond found (Some (f x)) mapped_rest ≡ option_map f (cond found (Some x) rest)
mapped f true x rest mapped_rest h = refl
mapped f false x rest mapped_rest h = h

-- what is found among the answers is what the code finds
pub named-mapped : (entries : List (SignalId × Bor Response)) (signal : SignalId) →
    named_in (map named_value entries) signal ≡ option_map rest_value (lookup (same_signal signal) entries)
named-mapped [] signal = refl
named-mapped (entry ∷ entries) signal =
    mapped rest_value (same_signal signal entry.0) entry.1 (lookup (same_signal signal) entries)
    (named_in (map named_value entries) signal) (named-mapped entries signal)

some-mapped : {A B : Type 0} (f : A → B) (found : Option A) → is_some (option_map f found) ≡ is_some found
some-mapped f None = refl
some-mapped f (Some x) = refl

-- whether a signal is named, by what the code finds
pub is_named-found : (entries : List (SignalId × Bor Response)) (named : List (SignalId × plain.Response))
    (signal : SignalId) (found : Bool) → map named_value entries ≡ named →
    found ≡ is_some (lookup (same_signal signal) entries) → is_some (named_in named signal) ≡ found
is_named-found entries named signal found is by =
    ap (λ list. is_some (named_in list signal)) (sym is)
    ∙ ap is_some (named-mapped entries signal)
    ∙ some-mapped rest_value (lookup (same_signal signal) entries)
    ∙ sym by

pub with_signal-known : (named : List (SignalId × plain.Response)) (signal : SignalId) (response : plain.Response) →
    is_some (named_in named signal) ≡ true → named ≡ with_signal named signal response
with_signal-known named signal response known =
    ap (λ b. if b then named else named ++ (signal, response) ∷ []) (sym known)

pub with_signal-new : (named : List (SignalId × plain.Response)) (signal : SignalId) (response : plain.Response) →
    is_some (named_in named signal) ≡ false →
    named ++ (signal, response) ∷ [] ≡ with_signal named signal response
with_signal-new named signal response unknown =
    ap (λ b. if b then named else named ++ (signal, response) ∷ []) (sym unknown)

-- ---- lists

pub append-nil : {A : Type 0} (xs : List A) → xs ++ [] ≡ xs
append-nil [] = refl
append-nil (x ∷ xs) = ap (λ ys. x ∷ ys) (append-nil xs)

-- one more of those at the places of a list
pub taken-more : {C D : Type 0} (view : C → D) (xs : List C) (i : ℕ) (x : C) → i < length xs → x ≡ get_or xs i x →
    map view (take (i + 1) xs) ≡ map view (take i xs) ++ view x ∷ []
taken-more view xs i x below is =
    ap (map view) (take_more xs i x below ∙ ap (λ y. take i xs ++ y ∷ []) (sym is))
    ∙ map-append view (take i xs) (x ∷ [])

-- ---- faults

-- those of one list of mentions, and then those of the next
pub twice-append : (answers : Answers) (xs ys : List plain.Mention) →
    twice_faults answers (xs ++ ys) ≡ twice_faults answers xs ++ twice_faults (with_mentions answers xs) ys
twice-append answers [] ys = refl
twice-append answers (x ∷ xs) ys =
    ap (λ rest. fault_if (is_again answers x) TwiceInState x.word ++ rest) (twice-append (with_mention answers x) xs ys)
    ∙ sym (append_assoc (fault_if (is_again answers x) TwiceInState x.word) (twice_faults (with_mention answers x) xs)
    (twice_faults (with_mentions (with_mention answers x) xs) ys))

-- those of one mention behind others
pub twice-last : (answers : Answers) (xs : List plain.Mention) (last : plain.Mention) →
    twice_faults answers (xs ++ last ∷ [])
    ≡ twice_faults answers xs ++ fault_if (is_again (with_mentions answers xs) last) TwiceInState last.word
twice-last answers xs last =
    twice-append answers xs (last ∷ [])
    ∙ ap (λ faults. twice_faults answers xs ++ faults)
    (append-nil (fault_if (is_again (with_mentions answers xs) last) TwiceInState last.word))

-- ---- one more mention

module _ (first : Answers) (xs : List Mention) (i : ℕ) (x : Mention) (below : i < length xs) (is : x ≡ get_or xs i x)
    (self : Answers) (before : self ≡ with_mentions first (mentions_listed (take i xs))) where
  pub mention-added : (new : Answers) → new ≡ with_mention self (mention_value x) →
      new ≡ with_mentions first (mentions_listed (take (i + 1) xs))
  mention-added new added =
      added ∙ ap (λ answers. with_mention answers (mention_value x)) before
      ∙ sym (ap (with_mentions first) (taken-more mention_value xs i x below is)
      ∙ fold-append with_mention first (mentions_listed (take i xs)) (mention_value x ∷ []))

  pub mention-noted : (old now new : Option Diagnostic) →
      now ≡ least_of old (twice_faults first (mentions_listed (take i xs))) →
      new ≡ least_of now (fault_if (is_again self (mention_value x)) TwiceInState (mention_value x).word) →
      new ≡ least_of old (twice_faults first (mentions_listed (take (i + 1) xs)))
  mention-noted old now new noted here =
      let done = mentions_listed (take i xs) in
      let again = λ (answers : Answers). fault_if (is_again answers (mention_value x)) TwiceInState
      (mention_value x).word in
      here ∙ ap (λ answers. least_of now (again answers)) before
      ∙ ap (λ told. least_of told (again (with_mentions first done))) noted
      ∙ both_noted old (twice_faults first done) (again (with_mentions first done))
      ∙ ap (least_of old)
      (sym (ap (twice_faults first) (taken-more mention_value xs i x below is)
      ∙ twice-last first done (mention_value x)))
