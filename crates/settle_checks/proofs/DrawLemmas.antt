-- What an owner has drawn since some moment, as it draws more.
use Rattle.std.proofs.Common.{◌≡◌, ◌∙◌, ◌+◌, ap, append-nil, append_assoc, arith, length, refl, sym, ℕ, Bool, true, false, List, [], ◌∷◌, ◌++◌, count_by}
use Rattle.std.proofs.lemmas.List.Sums.{sum_by-append}
use Rattle.std.proofs.Common.{cond}
use Rattle.input_port.specs.Counts.{signals_in}
use Rattle.input_port.specs.Calls.{HasDrawnSince}
use Rattle.input_port.specs.Ends.{HeldState}
use Rattle.input_port.specs.Held.{GatherHereIs, GathersHere, HasDrawnHere}
use Rattle.port_model.specs.declared.error.PortError.{PortError}
use Rattle.port_model.specs.declared.refused.Refused.{Refused}
use Rattle.input_port.specs.QueueCalls.{DrainIs}
use Rattle.std.proofs.Common.{Result, Ok, Err}
use Rattle.std.specs.Prelude.{is_err}
use Rattle.port_model.proofs.Alive.{after_draws-alive}
use Rattle.port_model.specs.Calls.{HasDrawn, after_draw, after_draws}
use Rattle.port_model.specs.Ends.{OwnerState, is_signal}
use Rattle.port_model.specs.Put.{StartsWith}
use Rattle.port_model.specs.declared.inbox.placed.Placed.{Placed}
use Rattle.port_model.specs.Port.{PortState}
use Rattle.input_port.specs.QueueCalls.{Gathers}
use Rattle.input_port.specs.QueueEnds.{SenderState, sent_by}
use Rattle.threads_ports.proofs.Signals.{count_by-signals}
use Rattle.settle_checks.specs.Gathering.{Draws, LateIsNothing}

draws_on : (pid : ℕ) (port : PortState) (first later : List Placed)
    → after_draws pid (after_draws pid port first) later ≡ after_draws pid port (first ++ later)
draws_on pid port [] later = refl
draws_on pid port (placed ∷ more) later = draws_on pid (after_draw pid port placed) more later

-- nothing is drawn so far
pub draws_none : (owner : OwnerState) → Draws owner owner
draws_none owner = record {
  news = [];
  port = refl;
  pid = refl;
  drawn = sym (append-nil owner.drawn);
  living = λ alive. refl;
  stopped = λ stopped. refl;
}

-- What one call draws: these entries, by which a port that lives changes.
pub record DrawsMore (old new : OwnerState) : Type 0 where
  pub news : List Placed
  pub port : new.port ≡ old.port
  pub pid : new.pid ≡ old.pid
  pub drawn : new.drawn ≡ old.drawn ++ news
  pub known : StartsWith new.known old.known
  pub living : old.state.alive ≡ true → new.state ≡ after_draws old.pid old.state news
  pub stopped : old.state.alive ≡ false → new.state ≡ old.state

pub draws_more : (first old new : OwnerState) → Draws first old → DrawsMore old new → Draws first new
draws_more first old new before more = record {
  news = before.news ++ more.news;
  port = more.port ∙ before.port;
  pid = more.pid ∙ before.pid;
  drawn = more.drawn ∙ ap (λ l. l ++ more.news) before.drawn ∙ append_assoc first.drawn before.news more.news;
  living = λ alive.
      let was : old.state ≡ after_draws first.pid first.state before.news = before.living alive in
      let lives : old.state.alive ≡ true =
      ap (λ (p : PortState). p.alive) was ∙ after_draws-alive first.pid first.state before.news ∙ alive in
      more.living lives ∙ ap (λ p. after_draws p old.state more.news) before.pid
      ∙ ap (λ (p : PortState). after_draws first.pid p more.news) was
      ∙ draws_on first.pid first.state before.news more.news;
  stopped = λ stopped.
      let was : old.state ≡ first.state = before.stopped stopped in
      more.stopped (ap (λ (p : PortState). p.alive) was ∙ stopped) ∙ was;
}

not_both : (b : Bool) → b ≡ true → b ≡ false → ⊥
not_both b is_true is_false = let wrong : true ≡ false = sym is_true ∙ is_false in cc

-- ---- a drain

drain_alive : (old new : HeldState) → old.owner.state.alive ≡ true → HasDrawn old.owner new.owner
    → DrawsMore old.owner new.owner
drain_alive old new alive has = record {
  news = has.0;
  port = has.1.port;
  pid = has.1.pid;
  drawn = has.1.drawn;
  known = has.1.kept;
  living = λ lives. has.1.state;
  stopped = λ stops. absurd (not_both old.owner.state.alive alive stops);
}

drain_stopped : (old new : HeldState) → old.owner.state.alive ≡ false
    → HasDrawnSince old.owner new.owner old.since new.since → DrawsMore old.owner new.owner
drain_stopped old new stopped has = record {
  news = has.0;
  port = has.1.draws.port;
  pid = has.1.draws.pid;
  drawn = has.1.draws.drawn;
  known = has.1.draws.kept;
  living = λ lives. absurd (not_both old.owner.state.alive lives stopped);
  stopped = λ stops. has.1.state;
}

pub drain_draws : (old new : HeldState) → HasDrawnHere old new → DrawsMore old.owner new.owner
drain_draws old new here = by_test old.owner.state.alive refl where
  by_test : (b : Bool) → old.owner.state.alive ≡ b → DrawsMore old.owner new.owner
  by_test true alive = drain_alive old new alive (here.living alive).0
  by_test false stopped = drain_stopped old new stopped (here.stopped stopped)

-- a drain gathers nobody
pub drain_gathered : (old new : HeldState) → HasDrawnHere old new → new.owner.gathered ≡ old.owner.gathered
drain_gathered old new here = by_test old.owner.state.alive refl where
  by_test : (b : Bool) → old.owner.state.alive ≡ b → new.owner.gathered ≡ old.owner.gathered
  by_test true alive = (here.living alive).0.1.gathered
  by_test false stopped = (here.stopped stopped).1.draws.gathered

-- ---- a gathering

-- the sender is gathered, and what it had seen is known
pub record TakesIn (old new : OwnerState) (sender : SenderState) : Type 0 where
  pub draws : DrawsMore old new
  pub gathered : new.gathered ≡ record { number = sender.number; count = sent_by sender } ∷ old.gathered
  pub told : StartsWith new.known sender.seen

pub gather_takes : (old new : HeldState) (sender : SenderState) → GathersHere old new sender
    → TakesIn old.owner new.owner sender
gather_takes old new sender here = by_test old.owner.state.alive refl where
  by_test : (b : Bool) → old.owner.state.alive ≡ b → TakesIn old.owner new.owner sender
  by_test true alive =
      let has : Gathers old.owner new.owner sender = (here.living alive).0 in
      record {
        draws = record {
          news = has.0;
          port = has.1.draws.port;
          pid = has.1.draws.pid;
          drawn = has.1.draws.drawn;
          known = has.1.kept;
          living = λ lives. has.1.draws.state;
          stopped = λ stops. absurd (not_both old.owner.state.alive alive stops);
        };
        gathered = has.1.draws.gathered;
        told = has.1.told;
      }
  by_test false stopped =
      let has = here.stopped stopped in
      record {
        draws = record {
          news = has.news;
          port = has.gathers.draws.port;
          pid = has.gathers.draws.pid;
          drawn = has.gathers.draws.drawn;
          known = has.gathers.kept;
          living = λ lives. absurd (not_both old.owner.state.alive lives stopped);
          stopped = λ stops. has.state;
        };
        gathered = has.gathers.draws.gathered;
        told = has.gathers.told;
      }

-- ---- nothing is drawn late

none_left : {X : Type 0} (xs : List X) → length xs ≡ 0 → xs ≡ []
none_left [] none = refl
none_left (x ∷ xs) none = let wrong : ⊥ = omega (arith, none) in absurd wrong

pub late_is_nothing : LateIsNothing
late_is_nothing first owner draws same =
    let split : count_by is_signal owner.drawn ≡ count_by is_signal first.drawn + count_by is_signal draws.news =
    ap (λ l. count_by is_signal l) draws.drawn
    ∙ sum_by-append (λ (p : Placed). cond (is_signal p) 1 0) first.drawn draws.news in
    let counts : count_by is_signal draws.news ≡ length (signals_in draws.news) = count_by-signals draws.news in
    none_left (signals_in draws.news) (omega (arith, split, counts, same))

-- ---- what a call answers

pub gathered_here : (result : Result (Unit {0}) (Refused SenderState)) (old new : HeldState) (sender : SenderState)
    → is_err result ≡ false → GatherHereIs old new sender result → GathersHere old new sender
gathered_here (Ok done) old new sender ok here = here
gathered_here (Err back) old new sender ok here = let wrong : ⊥ = cc in absurd wrong

pub drained_here : (result : Result (Unit {0}) PortError) (new : OwnerState) → is_err result ≡ false
    → DrainIs new result → new.known ≡ new.drawn
drained_here (Ok done) new ok here = here
drained_here (Err error) new ok here = let wrong : ⊥ = cc in absurd wrong
