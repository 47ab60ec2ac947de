use Rattle.std.proofs.Common.{◌≡◌, ℕ, ◌==◌, true, false, cond, List, [], ◌∷◌, ◌++◌, length, map, All, sym, ap, ◌∙◌, refl, append_assoc, append-nil, arith}
use Rattle.std.specs.List.{filter_map}
use Rattle.std.proofs.lemmas.List.Elements.{All-nil, All-append, filter_map-append}
use Rattle.std.proofs.lemmas.List.Concat.{flat_map-append}
use Rattle.port_model.specs.History.{Put, Expire, Take, Set, Reset, Stop, IsLegal}
use Rattle.input_port.specs.Words.{after_draw, after_draws, after_entry, expire_in, of, sent_by, AllThere, Entry, Gone, IsDrawn, IsTimely, OwnerState, Placed, PortState, Signal, Timer}
use Rattle.input_port.proofs.Drawing.{timely_next}
use Rattle.port_model.proofs.Histories.{IsLegal-one, IsLegal-append}
use Rattle.input_port.specs.Headline.{OwnerCall, Taking, Draining, Gathering, Meeting, Setting, Resetting, Stopping, IsCall, Step, Drawn, Called, AreCalls, entry_events, call_events, step_events, history_of, drawn_in, called_in, OwnersHaveHistories, NothingIsLeft}
use Rattle.port_model.proofs.Alive.{after_draws-alive}
use Rattle.input_port.proofs.Meeting.{own_same}
use Rattle.input_port.proofs.PutLists.{starts_through}

-- the entries that a call drew
entry_legal : (pid : ℕ) (port : PortState) (at : ℕ) (entry : Entry) → IsLegal port (entry_events pid at entry) (after_entry pid port at entry)
entry_legal pid port at (Signal item) = IsLegal-one port (after_entry pid port at (Signal item)) (Put item) refl
entry_legal pid port at (Timer fuse) =
    elim (fuse.pid == pid) as (λ b. IsLegal port (cond b (Expire fuse.key fuse.arm fuse.due at ∷ []) []) (cond b (expire_in port fuse.key fuse.arm fuse.due at) port))
    [ true ↦ IsLegal-one port (expire_in port fuse.key fuse.arm fuse.due at) (Expire fuse.key fuse.arm fuse.due at) refl | false ↦ refl ]

draws_legal : (pid : ℕ) (port : PortState) (news : List Placed) → IsLegal port (history_of pid (map Drawn news)) (after_draws pid port news)
draws_legal pid port [] = refl
draws_legal pid port (x ∷ xs) =
    IsLegal-append port (after_draw pid port x) (after_draws pid (after_draw pid port x) xs) (entry_events pid x.at x.entry) (history_of pid (map Drawn xs))
    (entry_legal pid port x.at x.entry) (draws_legal pid (after_draw pid port x) xs)

-- what a call makes of the port, what it draws, and that it leaves the port's number
record Does (old : OwnerState) (call : OwnerCall) (news : List Placed) (new : OwnerState) : Type 0 where
  legal : IsLegal (after_draws old.pid old.state news) (call_events call) new.state
  drawn : new.drawn ≡ old.drawn ++ news
  pid : new.pid ≡ old.pid
  timely : All IsTimely news

only_draws : (old like new : OwnerState) (call : OwnerCall) (news : List Placed) → call_events call ≡ [] → IsDrawn like new news
    → like.state ≡ old.state → like.drawn ≡ old.drawn → like.pid ≡ old.pid → Does old call news new
only_draws old like new call news none d state drawn pid =
    record { legal = rw none cc; drawn = cc; pid = cc; timely = timely_next like.drawn news d.next }

draws_nothing : (old new : OwnerState) (call : OwnerCall) (news : List Placed) → news ≡ []
    → IsLegal old.state (call_events call) new.state
    → new.drawn ≡ old.drawn → new.pid ≡ old.pid → Does old call news new
draws_nothing old new call news none legal drawn pid =
    rw none record { legal = legal; drawn = drawn ∙ sym (append-nil old.drawn); pid = pid; timely = All-nil IsTimely }

does : (old : OwnerState) (call : OwnerCall) (news : List Placed) (new : OwnerState) → old.state.alive ≡ true → IsCall old call news new → Does old call news new
does old (Taking classes taken) news new alive is =
    let t = is.0 in
    rw is.1 record {
      legal = IsLegal-one (after_draws old.pid old.state t.news) new.state (Take classes taken) (after_draws-alive old.pid old.state t.news ∙ alive, t.take);
      drawn = t.draws.drawn;
      pid = t.draws.pid;
      timely = timely_next old.drawn t.news t.draws.next;
    }
does old Draining news new alive is = only_draws old old new Draining news refl is refl refl refl
does old (Gathering sender) news new alive is = only_draws old _ new (Gathering sender) news refl is.draws refl refl refl
does old (Meeting sender back) news new alive is =
    rw is.1 (only_draws old _ new (Meeting sender back) is.0.news refl is.0.draws refl refl refl)
does old (Setting key due fuse) news new alive is =
    let owner = is.0.owner in
    let set = IsLegal-one old.state new.state (Set key due fuse.arm)
    (alive, ap (λ f. f.arm) is.0.fuse_is, ap (λ o. o.state) owner) in
    draws_nothing old new _ news is.1 set (ap (λ o. o.drawn) owner) (ap (λ o. o.pid) owner)
does old (Resetting key) news new alive is =
    let reset = IsLegal-one old.state new.state (Reset key) (alive, ap (λ o. o.state) is.0) in
    draws_nothing old new _ news is.1 reset (ap (λ o. o.drawn) is.0) (ap (λ o. o.pid) is.0)
does old Stopping news new alive is =
    let stop = IsLegal-one old.state new.state Stop (alive, ap (λ o. o.state) is.0) in
    draws_nothing old new _ news is.1 stop (ap (λ o. o.drawn) is.0) (ap (λ o. o.pid) is.0)

drawn_all : (news : List Placed) → filter_map drawn_in (map Drawn news) ≡ news
drawn_all [] = refl
drawn_all (x ∷ xs) = ap (λ l. x ∷ l) (drawn_all xs)

called_none : (news : List Placed) → filter_map called_in (map Drawn news) ≡ []
called_none [] = refl
called_none (x ∷ xs) = called_none xs

-- calls one after the other
history : (pid : ℕ) (old new : OwnerState) (calls : List OwnerCall) (steps : List Step) → old.pid ≡ pid → All IsTimely old.drawn → AreCalls old calls steps new
    → IsLegal old.state (history_of pid steps) new.state × (old.drawn ++ filter_map drawn_in steps ≡ new.drawn) × (filter_map called_in steps ≡ calls) × All IsTimely new.drawn
history pid old new [] steps mine timely are = rw (are.1, are.0) (refl, append-nil old.drawn, refl, timely)
history pid old new (call ∷ calls) steps mine timely are =
    let mid = are.0 in
    let news = are.1 in
    let rest = are.2 in
    let d = does old call news mid are.3 are.4 in
    let later = history pid mid new calls rest (d.pid ∙ mine)
    (rw d.drawn (All-append IsTimely old.drawn news timely d.timely)) are.5 in
    let drew : IsLegal old.state (history_of pid (map Drawn news)) (after_draws old.pid old.state news) =
    rw (← mine) (draws_legal old.pid old.state news) in
    let drawn = filter_map-append drawn_in (map Drawn news) (Called call ∷ rest) in
    let called = filter_map-append called_in (map Drawn news) (Called call ∷ rest) in
    rw are.6 (
      rw (flat_map-append (step_events pid) (map Drawn news) (Called call ∷ rest))
          (IsLegal-append old.state (after_draws old.pid old.state news) new.state (history_of pid (map Drawn news)) (call_events call ++ history_of pid rest) drew
          (IsLegal-append (after_draws old.pid old.state news) mid.state new.state (call_events call) (history_of pid rest) d.legal later.0)),
      rw (drawn, drawn_all news, ← append_assoc old.drawn news (filter_map drawn_in rest), ← d.drawn) later.1,
      rw (called, called_none news) (ap (λ l. call ∷ l) later.2),
      later.3,
    )

pub owners_have_histories : OwnersHaveHistories
owners_have_histories first last calls steps born none are =
    let h = history first.pid first last calls steps refl (rw none (All-nil IsTimely)) are in
    (rw born at h.0, rw none at h.1, h.2, h.3)

pub nothing_is_left : NothingIsLeft
nothing_is_left classes old mid new sender gathers takes knows =
    let g = gathers.1 in
    let fresh : new.known ≡ new.drawn = takes.fresh refl in
    let told = starts_through new.known mid.known sender.seen takes.draws.kept g.told in
    let gone : Gone = record { number = sender.number; count = sent_by sender } in
    let there : AllThere new.known (gone ∷ old.gathered) =
    rw (takes.draws.gathered ∙ g.draws.gathered) at knows.there in
    let all : length (of sender.number new.known) ≡ sent_by sender = there 0 gone (omega arith) in
    ap (of sender.number) (sym fresh) ∙ own_same sender.number new.known sender.seen told all
