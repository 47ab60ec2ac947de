-- What a line of a script spells, and why it spells nothing.
use Rattle.std.proofs.Common.{◌≡◌, ◌≢◌, ℕ, ◌-◌, ◌^◌, ◌≤◌, false, Option, None, Some, List, [], sym, ap, ◌∙◌, subst, arith}
use Rattle.std.specs.Prelude.{min}
use Rattle.std.proofs.lemmas.Bool.{both_ways}
use Rattle.sdl_script.specs.declared.fault.Fault.{Fault}
use Rattle.sdl_script.specs.declared.fault.Fault.TheVariants.{Syntax, BackInTime, UnknownSignal, Arguments, Memory}
use Rattle.sdl_script.specs.Part.{past_spaces, SpellsNumber}
use Rattle.sdl_script.specs.Reading.{number, word, name, receiver, HasNoTime, IsNoSignal, IsNoWhither, IsNoTail, IsTail}
use Rattle.sdl_script.specs.Spelled.{IsSyntaxFault}
use Rattle.sdl_script.specs.Spelling.{Receiver, Spelled, SpellsName, SpellsReceiver, SpellsSignal, SpellsValues, SpellsWhither, SpellsLine, IsNoSpelling, is_to, latest_time}
use Rattle.sdl_script.proofs.ReadingLemmas.{number_sound, number_complete, word_complete, name_complete, receiver_complete}

pub syntax_weaker : {P Q : Type 0} (fault : Fault) → (P → Q) → IsSyntaxFault fault P → IsSyntaxFault fault Q
syntax_weaker Memory f h = tt
syntax_weaker Syntax f h = f h
syntax_weaker BackInTime f h = h
syntax_weaker UnknownSignal f h = h
syntax_weaker Arguments f h = h

time_sound : (at : ℕ) (bytes rest : List ℕ) → number bytes ≡ Some (at, rest) → at ≤ latest_time → SpellsNumber at bytes rest
time_sound at bytes rest e within =
    let s = number_sound at bytes rest e in
    let cut = s.2 in
    let same : s.0 ≡ at = omega (arith, cut) in
    subst (λ n. SpellsNumber n bytes rest) same s.1

-- where a time in bounds was read, the line can spell only what stands behind it
same_rest : (at n : ℕ) (bytes rest after : List ℕ) → number bytes ≡ Some (at, rest) → SpellsNumber n bytes after → rest ≡ after
same_rest at n bytes rest after e s =
    let read : ◌≡◌ {A = Option (ℕ × List ℕ)} (Some (at, rest)) (Some (min n (2 ^ 64 - 1), after)) = sym e ∙ number_complete n bytes after s in
    let pair : ◌≡◌ {A = ℕ × List ℕ} (at, rest) (min n (2 ^ 64 - 1), after) = cc in
    ap (λ p. p.1) pair

module _ (line : List ℕ) where
  pub no_time : HasNoTime (past_spaces line) → IsNoSpelling line
  no_time none at signal s =
      let late = none (min at (2 ^ 64 - 1)) s.0 (number_complete at (past_spaces line) s.0 s.1) in
      let within = s.2 in
      omega (arith, late, within)

module _ (line : List ℕ) (at : ℕ) (rest : List ℕ) (read : number (past_spaces line) ≡ Some (at, rest)) where
  pub line_alone : at ≤ latest_time → rest ≡ [] → SpellsLine at None line
  line_alone within nil = (rest, time_sound at (past_spaces line) rest read within, within, nil)

  pub line_whole : at ≤ latest_time → (signal : Spelled) → SpellsSignal (Some signal) rest → SpellsLine at (Some signal) line
  line_whole within signal s = (rest, time_sound at (past_spaces line) rest read within, within, s)

  pub no_signal : rest ≢ [] → IsNoSignal rest → IsNoSpelling line
  no_signal some none n signal s = not_spelled signal (subst (SpellsSignal signal) (sym (same_rest at n (past_spaces line) rest s.0 read s.1)) s.3)
    where
      not_spelled : (signal : Option Spelled) → SpellsSignal signal rest → ⊥
      not_spelled None s = some s
      not_spelled (Some signal) s = none signal s

-- ---- signals

pub no_name : (bytes : List ℕ) → name bytes ≡ None → IsNoSignal bytes
no_name bytes none signal s =
    let both : ◌≡◌ {A = Option (List ℕ × List ℕ)} None (Some (signal.name, s.0)) = sym none ∙ name_complete signal.name bytes s.0 s.2 in cc

module _ (bytes name_text rest : List ℕ) (read : name bytes ≡ Some (name_text, rest)) where
  same_tail : (signal : Spelled) (m : List ℕ) → SpellsName signal.name bytes m → m ≡ rest
  same_tail signal m s =
      let both : ◌≡◌ {A = Option (List ℕ × List ℕ)} (Some (signal.name, m)) (Some (name_text, rest)) = sym (name_complete signal.name bytes m s) ∙ read in
      let pair : ◌≡◌ {A = List ℕ × List ℕ} (signal.name, m) (name_text, rest) = cc in
      ap (λ p. p.1) pair

  pub no_tail : IsNoTail rest → IsNoSignal bytes
  no_tail none signal s =
      none signal.values signal.to s.1 (subst (λ l. SpellsValues signal.values l s.1) (same_tail signal s.0 s.2) s.3) s.4

  pub no_end : (tail : List ℕ) → IsTail rest tail → IsNoWhither tail → IsNoSignal bytes
  no_end tail only none signal s =
      let same = only signal.values signal.to s.1 (subst (λ l. SpellsValues signal.values l s.1) (same_tail signal s.0 s.2) s.3) s.4 in
      none signal.to (subst (SpellsWhither signal.to) same s.4)

-- ---- receivers

pub no_to : (bytes : List ℕ) → bytes ≢ [] → word bytes ≡ None → IsNoWhither bytes
no_to bytes some none None s = some s
no_to bytes some none (Some receiver) s =
    let both : ◌≡◌ {A = Option (List ℕ × List ℕ)} None (Some (s.1.0, s.0)) = sym none ∙ word_complete s.1.0 bytes s.0 s.1.1 in cc

module _ (bytes to_text rest : List ℕ) (read : word bytes ≡ Some (to_text, rest)) where
  same_to : (receiver : Receiver) (s : SpellsWhither (Some receiver) bytes) → ◌≡◌ {A = List ℕ × List ℕ} (s.1.0, s.0) (to_text, rest)
  same_to receiver s =
      let both : ◌≡◌ {A = Option (List ℕ × List ℕ)} (Some (s.1.0, s.0)) (Some (to_text, rest)) = sym (word_complete s.1.0 bytes s.0 s.1.1) ∙ read in cc

  not_at_end : bytes ≡ [] → ⊥
  not_at_end nil = let both : ◌≡◌ {A = Option (List ℕ × List ℕ)} (Some (to_text, rest)) None = sym read ∙ ap word nil in cc

  pub other_word : is_to to_text ≡ false → IsNoWhither bytes
  other_word other None s = not_at_end s
  other_word other (Some receiver) s = both_ways (is_to to_text) other (ap (λ p. is_to p.0) (sym (same_to receiver s)) ∙ s.1.2)

  pub no_receiver : ((r : Receiver) → ¬ SpellsReceiver r rest []) → IsNoWhither bytes
  no_receiver none None s = not_at_end s
  no_receiver none (Some r) s = none r (subst (λ l. SpellsReceiver r l []) (ap (λ p. p.1) (same_to r s)) s.2)

pub not_received : (bytes : List ℕ) → receiver bytes ≡ None → (r : Receiver) → ¬ SpellsReceiver r bytes []
not_received bytes none r s = let both : ◌≡◌ {A = Option (Receiver × List ℕ)} None (Some (r, [])) = sym none ∙ receiver_complete r bytes [] s in cc

pub more_behind : (bytes rest : List ℕ) (read : Receiver) → receiver bytes ≡ Some (read, rest) → rest ≢ [] → (r : Receiver) → ¬ SpellsReceiver r bytes []
more_behind bytes rest read e some r s =
    let both : ◌≡◌ {A = Option (Receiver × List ℕ)} (Some (read, rest)) (Some (r, [])) = sym e ∙ receiver_complete r bytes [] s in
    let pair : ◌≡◌ {A = Receiver × List ℕ} (read, rest) (r, []) = cc in
    some (ap (λ p. p.1) pair)
