-- Where transitions begin; continuous signals, looked up by their numbers.
use Rattle.std.proofs.Common.{◌≡◌, ◌==◌, ◌∙◌, ℕ, zero, suc, ◌≤◌, List, [], ◌∷◌, Option, None, Some, ap, arith, drop, if◌then◌else◌, length, slice_get, sym}
use Rattle.std.proofs.Math.ListN.{drop_of_length-le}
use Rattle.std.proofs.lemmas.Bool.Decides.{nat_tests}
use Rattle.std.proofs.lemmas.Option.{same_Some}
use Rattle.sdl_system.specs.declared.state.Continuous.{Continuous}
use Rattle.std.specs.Option.{option_map}
use Rattle.port_model.specs.Take.{name_of}
use Rattle.port_model.specs.declared.values.item.SignalId.{SignalId}
use Rattle.port_model.specs.declared.values.value.Value.{Value}
use Rattle.run_record.specs.Entry.{got_of}
use Rattle.run_record.specs.declared.entry.Stimulus.{Stimulus}
use Rattle.sdl_system.specs.declared.id.StateId.{StateId}
use Rattle.sdl_system.specs.declared.process.Process.{Process}
use Rattle.sdl_system.specs.declared.state.Reception.{Reception}
use Rattle.sdl_failures.specs.Came.{numbered}
use Rattle.sdl_failures.specs.Received.{reception_in}
use Rattle.sdl_failures.proofs.GotLemmas.{name-got}

-- those from a place on begin with the one that stands there
numbered-next : (number : ℕ) (signals : List Continuous) (i : ℕ) (signal : Continuous)
    → slice_get signals i ≡ Some signal
    → numbered number (drop i signals)
    ≡ (if signal.number == number then Some signal else numbered number (drop (suc i) signals))
numbered-next number [] i signal is = absurd cc
numbered-next number (one ∷ rest) zero signal is =
    ap (λ (s : Continuous). if s.number == number then Some s else numbered number rest) (same_Some one signal is)
numbered-next number (one ∷ rest) (suc i) signal is = numbered-next number rest i signal is

chosen-there : (a b : ℕ) (x y : Option Continuous) → a ≡ b → (if a == b then x else y) ≡ x
chosen-there a b x y same = grind (arith, nat_tests)

chosen-later : (a b : ℕ) (x y : Option Continuous) → (a ≡ b → ⊥) → (if a == b then x else y) ≡ y
chosen-later a b x y other = grind (arith, nat_tests)

pub numbered-there : (number : ℕ) (signals : List Continuous) (i : ℕ) (signal : Continuous)
    → slice_get signals i ≡ Some signal → signal.number ≡ number → numbered number (drop i signals) ≡ Some signal
numbered-there number signals i signal is same =
    numbered-next number signals i signal is
    ∙ chosen-there signal.number number (Some signal) (numbered number (drop (suc i) signals)) same

pub numbered-later : (number : ℕ) (signals : List Continuous) (i : ℕ) (signal : Continuous)
    → slice_get signals i ≡ Some signal → (signal.number ≡ number → ⊥)
    → numbered number (drop i signals) ≡ numbered number (drop (suc i) signals)
numbered-later number signals i signal is other =
    numbered-next number signals i signal is
    ∙ chosen-later signal.number number (Some signal) (numbered number (drop (suc i) signals)) other

pub numbered-past : (number : ℕ) (signals : List Continuous) (i : ℕ) → length signals ≤ i
    → numbered number (drop i signals) ≡ None
numbered-past number signals i past = ap (numbered number) (drop_of_length-le signals past)

-- the transition of a stimulus begins where its reception does
pub begins-with : (process : Process) (state : Option StateId) (got : Stimulus) (values : List Value)
    (found : Option Reception) → found ≡ reception_in process state got.name
    → option_map (λ (r : Reception). r.begin) (reception_in process state (name_of (got_of got values)))
    ≡ option_map (λ (r : Reception). r.begin) found
begins-with process state got values found is =
    ap (λ (name : SignalId). option_map (λ (r : Reception). r.begin) (reception_in process state name))
    (name-got got.origin got.name values)
    ∙ ap (λ (o : Option Reception). option_map (λ (r : Reception). r.begin) o) (sym is)
