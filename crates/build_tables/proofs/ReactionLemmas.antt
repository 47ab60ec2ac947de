-- Reactions to signals, one signal after another.
use Rattle.std.proofs.Common.{◌≡◌, ◌∙◌, ◌==◌, ◌+◌, ◌<◌, ◌≤◌, ℕ, Bool, true, false, List, None, Some, ap, arith, if◌then◌else◌, refl, subst, sym}
use Rattle.port_model.specs.declared.values.item.SignalId.{SignalId}
use Rattle.build_states.specs.Mentions.{Response}
use Rattle.build_states.specs.States.{named_in}
use Rattle.sdl_system.specs.State.{named_reaction, same_signal}
use Rattle.sdl_system.specs.declared.id.NodeId.{NodeId}
use Rattle.sdl_system.specs.declared.state.Reaction.{Reaction}
use Rattle.build_tables.specs.Linked.{AreLinked, IsLinked}

signal-is : (n : ℕ) (signal : SignalId) → (n == signal.0) ≡ true → record { 0 = n } ≡ signal
signal-is n signal same =
    let numbers : n ≡ signal.0 = grind arith in
    ap (λ m. record { 0 = m }) numbers

module _ (entries : List NodeId) (n : ℕ) (named : List (SignalId × Response)) (old : List (SignalId × Reaction))
    (are : AreLinked entries n named old) where
  -- the signal of the next number isn't named
  pub linked-kept : named_in named (record { 0 = n }) ≡ None → AreLinked entries (n + 1) named old
  linked-kept none = record {
    within = λ signal below. by signal below (n == signal.0) refl;
    past = λ signal above. are.past signal (omega (arith, above));
  }
    where
      by : (signal : SignalId) → signal.0 < n + 1 → (b : Bool) → (n == signal.0) ≡ b →
          IsLinked entries (named_reaction old signal) (named_in named signal)
      by signal below true same =
          subst (λ s. IsLinked entries (named_reaction old s) (named_in named s)) (signal-is n signal same)
          (rw (are.past (record { 0 = n }) (omega arith), none) refl)
      by signal below false apart =
          let less : signal.0 < n = grind (arith, below, apart) in
          are.within signal less

  -- it is named, and its reaction added
  pub linked-added : (new : List (SignalId × Reaction)) (reaction : Reaction) →
      IsLinked entries (Some reaction) (named_in named (record { 0 = n })) →
      ((other : SignalId) → named_reaction new other
      ≡ (if same_signal (record { 0 = n }) other then Some reaction else named_reaction old other)) →
      AreLinked entries (n + 1) named new
  linked-added new reaction is added = record {
    within = λ signal below. by signal below (n == signal.0) refl;
    past = λ signal above. past signal above (n == signal.0) refl;
  }
    where
      found : (signal : SignalId) (b : Bool) → (n == signal.0) ≡ b →
          named_reaction new signal ≡ (if b then Some reaction else named_reaction old signal)
      found signal b is = added signal ∙ ap (λ t. if t then Some reaction else named_reaction old signal) is

      by : (signal : SignalId) → signal.0 < n + 1 → (b : Bool) → (n == signal.0) ≡ b →
          IsLinked entries (named_reaction new signal) (named_in named signal)
      by signal below true same =
          subst (λ found. IsLinked entries found (named_in named signal)) (sym (found signal true same))
          (subst (λ s. IsLinked entries (Some reaction) (named_in named s)) (signal-is n signal same) is)
      by signal below false apart =
          let less : signal.0 < n = grind (arith, below, apart) in
          subst (λ found. IsLinked entries found (named_in named signal)) (sym (found signal false apart))
          (are.within signal less)

      past : (signal : SignalId) → n + 1 ≤ signal.0 → (b : Bool) → (n == signal.0) ≡ b →
          named_reaction new signal ≡ None
      past signal above true same =
          let numbers : n ≡ signal.0 = grind arith in
          absurd (omega (arith, above, numbers))
      past signal above false apart = found signal false apart ∙ are.past signal (omega (arith, above))
