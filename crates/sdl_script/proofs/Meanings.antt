-- What is spelled means one signal in a system.
use Rattle.std.proofs.Common.{◌≡◌, ℕ, Option, None, Some, List, [], ◌∷◌, sym, refl, ap, ◌∙◌, subst}
use Rattle.std.specs.Prelude.{slice_get}
use Rattle.std.proofs.lemmas.Option.{same_Some}
use Rattle.port_model.specs.declared.values.item.SignalId.{SignalId}
use Rattle.port_model.specs.declared.values.pid.Pid.TheVariants.{Of}
use Rattle.port_model.specs.declared.values.value.Value.{Value}
use Rattle.sdl_system.specs.System.{SystemValue}
use Rattle.sdl_system.specs.declared.route.Dest as dest
use Rattle.sdl_system.specs.declared.route.Dest.TheVariants as to
use Rattle.sdl_system.specs.declared.signal.Signal.{Signal}
use Rattle.sdl_system.specs.declared.sort.Sort.{Sort}
use Rattle.sdl_script.specs.declared.script.ScriptSignal.{ScriptSignal}
use Rattle.sdl_script.specs.declared.value.SpelledValue.{SpelledValue}
use Rattle.sdl_script.specs.ScriptText.{AreArguments, IsDestination, IsSent, NamesSignal}
use Rattle.sdl_script.specs.Spelling.{Named, Numbered, Receiver, Spelled}
use Rattle.sdl_script.specs.One.{OneMeaning}

-- a name is that of one signal
pub one_name : (system : SystemValue) (name : List ℕ) (signal other : SignalId) (declared known : Signal)
    → NamesSignal system name signal declared → NamesSignal system name other known
    → (signal ≡ other) × (declared ≡ known)
one_name system name signal other declared known s t =
    let same : signal ≡ other = same_Some signal other (sym s.0 ∙ t.0) in
    (same, same_Some declared known (sym s.1 ∙ ap (λ (id : SignalId). slice_get system.signals id.0) same ∙ t.1))

one_arguments : (spelled : List SpelledValue) (sorts : List Sort) (values others : List Value)
    → AreArguments spelled sorts values → AreArguments spelled sorts others → values ≡ others
one_arguments [] [] [] [] s t = refl
one_arguments [] [] [] (w ∷ others) s t = absurd t
one_arguments [] [] (v ∷ values) others s t = absurd s
one_arguments [] (sort ∷ sorts) [] others s t = absurd s
one_arguments [] (sort ∷ sorts) (v ∷ values) others s t = absurd s
one_arguments (one ∷ spelled) [] [] others s t = absurd s
one_arguments (one ∷ spelled) [] (v ∷ values) others s t = absurd s
one_arguments (one ∷ spelled) (sort ∷ sorts) [] others s t = absurd s
one_arguments (one ∷ spelled) (sort ∷ sorts) (v ∷ values) [] s t = absurd t
one_arguments (one ∷ spelled) (sort ∷ sorts) (v ∷ values) (w ∷ others) s t =
    let first : v ≡ w = same_Some v w (sym s.0 ∙ t.0) in
    let more = one_arguments spelled sorts values others s.1 t.1 in
    λ i. first i ∷ more i

one_destination : (system : SystemValue) (to : Option Receiver) (destination other : dest.Dest)
    → IsDestination system to destination → IsDestination system to other → destination ≡ other
one_destination system None destination other s t = s ∙ sym t
one_destination system (Some (Named name)) destination other s t =
    let same : s.0 ≡ t.0 = same_Some s.0 t.0 (sym s.1 ∙ t.1) in
    s.2 ∙ ap to.Process same ∙ sym t.2
one_destination system (Some (Numbered number)) destination other s t =
    let same : s.0 ≡ t.0 = same_Some s.0 t.0 (sym s.1 ∙ t.1) in
    s.2 ∙ ap (λ n. to.Pid (Of n)) same ∙ sym t.2

one_sent : (system : SystemValue) (spelled : Spelled) (signal other : ScriptSignal) → IsSent system spelled signal
    → IsSent system spelled other → signal ≡ other
one_sent system spelled signal other s t =
    let sender = s.0 ∙ sym t.0 in
    let name = one_name system spelled.name signal.item.name other.item.name s.1 t.1 s.2 t.2 in
    let to = one_destination system spelled.to signal.to other.to s.4 t.4 in
    let values = one_arguments spelled.values s.1.sorts.items signal.item.values other.item.values s.5
    (subst (λ (d : Signal). AreArguments spelled.values d.sorts.items other.item.values) (sym name.1) t.5) in
    λ i. record { item = record { name = name.0 i; values = values i; sender = sender i }; to = to i }

pub one_meaning : OneMeaning
one_meaning system None None None s t = refl
one_meaning system None None (Some other) s t = absurd t
one_meaning system None (Some signal) other s t = absurd s
one_meaning system (Some spelled) None other s t = absurd s
one_meaning system (Some spelled) (Some signal) None s t = absurd t
one_meaning system (Some spelled) (Some signal) (Some other) s t = ap Some (one_sent system spelled signal other s t)
