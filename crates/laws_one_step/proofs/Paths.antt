-- A step on what is in the port is a path of deeds and steps without an event, one after the other.
use Rattle.std.proofs.Common.{◌≡◌, ◌∙◌, ◌+◌, ◌≤◌, ℕ, Bool, true, false, List, [], ◌∷◌, ◌++◌, ap, append_assoc, arith, if◌then◌else◌, length, length-append, not, refl, subst, sym}
use Rattle.port_model.specs.History.{IsLegal, PortEvent, Take}
use Rattle.port_model.specs.Port.{PortState}
use Rattle.port_model.specs.declared.taken.Taken.TheVariants.{Nothing}
use Rattle.run_record.specs.declared.evaluation.identity.Identity.{Identity}
use Rattle.run_record.specs.declared.evaluation.store.Store.{Store}
use Rattle.run_semantics.proofs.Deeds.{calls_of-append}
use Rattle.run_semantics.specs.Effect.{Deed, calls_of}
use Rattle.run_semantics.specs.Leads.{Leads, LeadsSilently}
use Rattle.run_semantics.specs.ControlPoint.{Definition, ControlPoint}
use Rattle.run_semantics.specs.Runs.{Runs, acts, hears, is_outside, outside_of, own_of, still, turns, waits}

-- from a place, what is known there and a port, by these deeds
pub data Path (d : Definition) (who : Identity) (to : ControlPoint) (t : Store) (r : PortState)
    : ControlPoint → Store → PortState → List Deed → Type 0 where
  path_ends : Path d who to t r to t r []
  path_effects : (at mid : ControlPoint) (s u : Store) (q m : PortState) (deed : Deed) (rest : List Deed)
      → Leads d who q at s deed mid u → IsLegal q deed.calls m → Path d who to t r mid u m rest
      → Path d who to t r at s q (deed ∷ rest)
  path_turns : (at mid : ControlPoint) (s u : Store) (q : PortState) (deeds : List Deed) → LeadsSilently d who q at s mid u
      → Path d who to t r mid u q deeds → Path d who to t r at s q deeds

-- ---- nothing comes from outside, and nothing else is called

lengths : (history : List PortEvent) → length (own_of history) + length (outside_of history) ≡ length history
lengths [] = refl
lengths (event ∷ rest) = by_test (is_outside event) (own_of rest) (outside_of rest) (lengths rest) where
  by_test : (b : Bool) (own outside : List PortEvent) → length own + length outside ≡ length rest
      → length (if not b then event ∷ own else own) + length (if b then event ∷ outside else outside)
      ≡ length (event ∷ rest)
  by_test true own outside same = omega (arith, same)
  by_test false own outside same = omega (arith, same)

pub lone_calls : (history : List PortEvent) (deeds : List Deed) → outside_of history ≡ []
    → own_of history ≡ calls_of deeds → length history ≡ length (calls_of deeds)
lone_calls history deeds outside own =
    let none : length (outside_of history) ≡ 0 = ap length outside in
    let same : length (own_of history) ≡ length (calls_of deeds) = ap length own in
    omega (arith, none, same, lengths history)

-- how many calls there are, one deed later
calls_more : (deeds : List Deed) (deed : Deed)
    → length (calls_of (deeds ++ deed ∷ [])) ≡ length (calls_of deeds) + length deed.calls
calls_more deeds deed =
    ap length (calls_of-append deeds (deed ∷ []))
    ∙ length-append (calls_of deeds) (calls_of (deed ∷ []))
    ∙ ap (λ n. length (calls_of deeds) + n) (length-append deed.calls [] ∙ last (length deed.calls)) where
      last : (n : ℕ) → n + 0 ≡ n
      last n = omega arith

more_events : (history more : List PortEvent) → length (history ++ more) ≡ length history + length more
more_events history more = length-append history more

module _ (d : Definition) (who : Identity) (from : ControlPoint) (s : Store) (q : PortState) where
  -- the deeds' calls are among the history
  calls_within : {deeds : List Deed} {history : List PortEvent} {to : ControlPoint} {t : Store} {r : PortState}
      → Runs d who from s q deeds history to t r → length (calls_of deeds) ≤ length history
  calls_within still = omega arith
  calls_within (acts {deeds = deeds} {history = history} before deed to t r leads legal) =
      let more = calls_more deeds deed in
      let longer = more_events history deed.calls in
      let within = calls_within before in omega (arith, more, longer, within)
  calls_within (turns before to t turn) = calls_within before
  calls_within (hears {deeds = deeds} {history = history} before heard r outside step) =
      let longer = more_events history (heard ∷ []) in
      let within = calls_within before in omega (arith, longer, within)
  calls_within (waits {deeds = deeds} {history = history} before classes quiet step) =
      let longer = more_events history (Take classes Nothing ∷ []) in
      let within = calls_within before in omega (arith, longer, within)

  -- with a path behind them, they are a path
  pub path_from : {deeds : List Deed} {history : List PortEvent} {mid : ControlPoint} {u : Store} {m : PortState}
      → Runs d who from s q deeds history mid u m → length history ≡ length (calls_of deeds) → (later : List Deed)
      → (to : ControlPoint) (t : Store) (r : PortState) → Path d who to t r mid u m later
      → Path d who to t r from s q (deeds ++ later)
  path_from still same later to t r path = path
  path_from (acts {deeds = deeds} {history = history} {at = at} {mid = mid} {port = port} before deed after u m leads
      legal)
      same later to t r path =
      let more = calls_more deeds deed in
      let longer = more_events history deed.calls in
      let equal : length history ≡ length (calls_of deeds) = omega (arith, more, longer, same) in
      subst (λ list. Path d who to t r from s q list) (sym (append_assoc deeds (deed ∷ []) later))
      (path_from before equal (deed ∷ later) to t r
      (path_effects at after mid u port m deed later leads legal path))
  path_from (turns {at = at} {mid = mid} {port = port} before after u turn) same later to t r path =
      path_from before same later to t r (path_turns at after mid u port later turn path)
  path_from (hears {deeds = deeds} {history = history} before heard m outside step) same later to t r path =
      let longer = more_events history (heard ∷ []) in
      let within = calls_within before in absurd (omega (arith, longer, within, same))
  path_from (waits {deeds = deeds} {history = history} before classes quiet step) same later to t r path =
      let longer = more_events history (Take classes Nothing ∷ []) in
      let within = calls_within before in absurd (omega (arith, longer, within, same))
