-- What a state does with a signal, looked up by going along its entries.
use Rattle.std.proofs.Common.{◌≡◌, ◌∙◌, ℕ, suc, ◌+◌, ◌==◌, List, ◌∷◌, false, Some, arith, cond, drop, slice_get, ap, sym}
use Rattle.std.proofs.Math.Seq.{drop-cons}
use Rattle.std.proofs.lemmas.Option.{get_or_from_slice_get, slice_get_within}
use Rattle.port_model.specs.declared.values.item.SignalId.{SignalId}
use Rattle.sdl_system.specs.State.{named_reaction}
use Rattle.sdl_system.specs.declared.state.Reaction.{Reaction}

-- an entry of another signal is passed by
pub passed : (signal : SignalId) (entries : List (SignalId × Reaction)) (place : ℕ) (entry : SignalId × Reaction) →
    Some entry ≡ slice_get entries place → (signal.0 == entry.0.0) ≡ false →
    named_reaction (drop place entries) signal ≡ named_reaction (drop (place + 1) entries) signal
passed signal entries place entry is apart =
    ap (λ (rest : List (SignalId × Reaction)). named_reaction rest signal)
    (drop-cons entries place entry (slice_get_within entries place entry (sym is))
    ∙ ap (λ (one : SignalId × Reaction). one ∷ drop (suc place) entries) (get_or_from_slice_get entries place entry entry (sym is)))
    ∙ ap (λ b. cond b (Some entry.1) (named_reaction (drop (suc place) entries) signal)) apart
    ∙ ap (λ n. named_reaction (drop n entries) signal) {x = suc place} {y = place + 1} (omega arith)
