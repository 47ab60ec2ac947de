-- The signals of the script that were sent, each with where it went.
use Rattle.std.proofs.Common.{◌≡◌, ◌∙◌, ◌++◌, ap, refl, sym, ℕ, All, List, [], ◌∷◌, None, Option, Some, option_to_list}
use Rattle.std.proofs.lemmas.List.Concat.{flat_map-append}
use Rattle.std.proofs.lemmas.List.Elements.{All-head, All-tail, All-weaker}
use Rattle.std.proofs.lemmas.List.{map-append}
use Rattle.std.specs.List.{flat_map}
use Rattle.laws_whole.proofs.Occurs.{Occurs, all_occur}
use Rattle.run_semantics.specs.Effect.{Effect, Send}
use Rattle.sdl_script.specs.declared.script.ScriptLine.{ScriptLine}
use Rattle.sdl_script.specs.declared.script.ScriptSignal.{ScriptSignal}
use Rattle.sdl_system.specs.Behaviour.{Behaviour}
use Rattle.sdl_system.specs.Route.{target_in}
use Rattle.sdl_system.specs.System.{SystemValue}
use Rattle.sdl_system.specs.declared.route.Source.TheVariants as source
use Rattle.sdl_system.specs.declared.route.Target.{Target}
use Rattle.sdl_system.specs.declared.route.Target.TheVariants.{Nobody}
use Rattle.serial_order.specs.Execution.{Execution, Expired, Happening, Heard, Hears, Moved, Ticked}
use Rattle.serial_order.specs.RunState.{RunState, beginning, heard_effects, living_of}
use Rattle.serial_order.specs.Told.{lines_of, lines_of_one}
use Rattle.settle_meaning.specs.Puts as puts
use Rattle.settle_meaning.specs.Puts.{signals_heard, signals_of}

-- a signal that was sent, where there is one
abbrev pub heard_from : Option ScriptSignal → List Effect → List puts.Heard
heard_from (Some signal) (Send target item ∷ rest) = record { signal = signal; target = target } ∷ []
heard_from signal effects = []

abbrev pub heard_of_one : Happening → List puts.Heard
heard_of_one (Heard line effects) = heard_from line.signal effects
heard_of_one happened = []

abbrev pub heard_of : List Happening → List puts.Heard
heard_of happenings = flat_map heard_of_one happenings

-- what is done with a signal that goes there
abbrev pub line_effects : Option ScriptSignal → Target → List Effect
line_effects None target = []
line_effects (Some signal) target = Send target signal.item ∷ []

-- a line that is heard sends its signal, and nothing else is done
abbrev pub SendsItsSignal : Happening → Type 0
SendsItsSignal (Heard line effects) = (target : Target) × (effects ≡ line_effects line.signal target)
SendsItsSignal happened = Unit {0}

sent_by_line : (g : RunState) (o : Option ScriptSignal)
    → (target : Target) × (heard_effects g o ≡ line_effects o target)
sent_by_line g None = (Nobody, refl)
sent_by_line g (Some signal) =
    (target_in g.system.routes signal.item.name source.Env signal.to (living_of g.system g.instances).least, refl)

module _ (ps : List Behaviour) (system : SystemValue) (lines : List ScriptLine) (time : ℕ)
    (happenings : List Happening) where
  pub one_sends : (next : Happening) → Occurs ps system lines time happenings next → SendsItsSignal next
  one_sends (Heard line effects) occurs =
      let hears : Hears occurs.at line effects occurs.to = occurs.follows in
      let sent = sent_by_line occurs.at line.signal in
      (sent.0, hears.effects_are ∙ sent.1)
  one_sends (Moved who deeds) occurs = tt
  one_sends (Expired fuse) occurs = tt
  one_sends (Ticked at) occurs = tt

  pub all_send : {last : RunState} → Execution ps time (beginning system lines) happenings last
      → All SendsItsSignal happenings
  all_send execution =
      All-weaker (Occurs ps system lines time happenings) SendsItsSignal one_sends happenings
      (all_occur ps system lines time execution)

-- ---- they are those of the lines

signal_of : (o : Option ScriptSignal) (target : Target)
    → signals_heard (heard_from o (line_effects o target)) ≡ option_to_list o ++ []
signal_of None target = refl
signal_of (Some signal) target = refl

one_signal : (happened : Happening) → SendsItsSignal happened
    → signals_heard (heard_of_one happened) ≡ signals_of (lines_of_one happened)
one_signal (Heard line effects) sends =
    ap (λ (l : List Effect). signals_heard (heard_from line.signal l)) sends.1 ∙ signal_of line.signal sends.0
one_signal (Moved who deeds) sends = refl
one_signal (Expired fuse) sends = refl
one_signal (Ticked time) sends = refl

pub signals_are : (happenings : List Happening) → All SendsItsSignal happenings
    → signals_heard (heard_of happenings) ≡ signals_of (lines_of happenings)
signals_are [] all = refl
signals_are (first ∷ rest) all =
    map-append (λ (one : puts.Heard). one.signal) (heard_of_one first) (heard_of rest)
    ∙ ap (λ (l : List ScriptSignal). l ++ signals_heard (heard_of rest))
    (one_signal first (All-head SendsItsSignal first rest all))
    ∙ ap (λ (l : List ScriptSignal). signals_of (lines_of_one first) ++ l)
    (signals_are rest (All-tail SendsItsSignal first rest all))
    ∙ sym (flat_map-append (λ (line : ScriptLine). option_to_list line.signal) (lines_of_one first) (lines_of rest))
