-- What the senders have put and where they go, once one has come or has put something.
use Rattle.std.proofs.Common.{◌≡◌, ◌∙◌, ap, cond, eqb-true, is_some, nat_eq, refl, subst, sym, inl, inr, ⊎_elim, ◌⊎◌}
use Rattle.std.proofs.Common.{ℕ, Bool, true, false, [], ◌∷◌, ◌++◌, IfOk, Option, None, Some, Result, Ok, Err}
use Rattle.std.proofs.Common.{MatchResult}
use Rattle.port_model.specs.Calls.{ComesBack}
use Rattle.port_model.specs.declared.inbox.entry.Entry.TheVariants.{Signal}
use Rattle.port_model.specs.declared.refused.Refused.{Refused}
use Rattle.input_port.specs.QueueEnds.{SenderState}
use Rattle.port_model.specs.declared.values.item.Item.{Item}
use Rattle.run_semantics.specs.World.{has_port}
use Rattle.sdl_system.specs.declared.route.Target.{Target}
use Rattle.sdl_system.specs.declared.route.Target.TheVariants.{Instance}
use Rattle.threads_shared.specs.Sending.{ArePutAlike, HavePorts, IsGone, IsPutTo, IsSent}
use Rattle.threads_ports.proofs.SenderLemmas.{put_to-puts}
use Rattle.threads_ports.specs.Peers.{PeersState, PutsTo, is_known, put_to, sender_to}

-- ---- where senders go

known_by : (n number : ℕ) (first : SenderState) (rest old : Option SenderState) (b : Bool)
    → (is_some rest ≡ true → (is_some old ≡ true) ⊎ (n ≡ number)) → is_some (cond b (Some first) rest) ≡ true
    → (is_some (cond b (Some first) old) ≡ true) ⊎ (n ≡ number)
known_by n number first rest old true further known = inl refl
known_by n number first rest old false further known = further known

last_by : (n number : ℕ) (sender : SenderState) (b : Bool) → nat_eq n number ≡ b
    → is_some (cond b (Some sender) None) ≡ true → n ≡ number
last_by n number sender true here known = eqb-true n number here
last_by n number sender false here known = cc

known-open : (n number : ℕ) (peers : PeersState) (sender : SenderState)
    → is_known (peers ++ (number, sender) ∷ []) n ≡ true → (is_known peers n ≡ true) ⊎ (n ≡ number)
known-open n number [] sender known = inr (last_by n number sender (nat_eq n number) refl known)
known-open n number (e ∷ es) sender known =
    known_by n number e.1 (sender_to (es ++ (number, sender) ∷ []) n) (sender_to es n) (nat_eq n e.0)
    (known-open n number es sender) known

pub ports_none : HavePorts []
ports_none n known = cc

-- by what an opening answers
pub ports_opened : (number : ℕ) (result : Result (Unit {0}) (Refused SenderState)) (old new : PeersState)
    (sender : SenderState)
    → MatchResult result (λ _. new ≡ old ++ (number, sender) ∷ []) (λ back. ComesBack back sender × (new ≡ old))
    → has_port number ≡ true → HavePorts old → HavePorts new
ports_opened number (Ok done) old new sender is port ports n known =
    ⊎_elim (λ (was : is_known old n ≡ true). ports n was) (λ (here : n ≡ number). ap has_port here ∙ port)
    (known-open n number old sender (ap (λ (peers : PeersState). is_known peers n) (sym is) ∙ known))
ports_opened number (Err back) old new sender is port ports n known =
    ports n (ap (λ (peers : PeersState). is_known peers n) (sym is.1) ∙ known)

-- ---- signals

-- a copy is put
pub put_as : (target : Target) (number : ℕ) (item copy : Item) (old between new : PeersState) → target ≡ Instance number
    → copy ≡ item → ArePutAlike old between → PutsTo number 0 (Signal copy) between new
    → IsPutTo target item number old new
put_as target number item copy old between new to is same puts = record {
  target_is = to;
  put = λ n. put_to-puts number 0 (Signal copy) between new puts n
      ∙ ap (λ l. l ++ cond (nat_eq number n) (copy ∷ []) []) (same n)
      ∙ ap (λ (i : Item). put_to old n ++ cond (nat_eq number n) (i ∷ []) []) is;
}

-- the instance that is meant
which : (target : Target) (number n : ℕ) → target ≡ Instance number → target ≡ Instance n → number ≡ n
which target number n to is = let same : Instance number ≡ Instance n = sym to ∙ is in cc

-- a signal is gone to an instance into whose port there is no sender
pub gone_to : (target : Target) (number : ℕ) (peers : PeersState) → target ≡ Instance number
    → is_known peers number ≡ false → IsGone target peers peers
gone_to target number peers to unknown = record {
  unknown = λ n is. ap (λ m. is_known peers m) (sym (which target number n to is)) ∙ unknown;
  same = λ n. refl;
}

unknown_by : (known port : Bool) → (known ≡ true → port ≡ true) → port ≡ false → known ≡ false
unknown_by true port leads none = sym (leads refl) ∙ none
unknown_by false port leads none = refl

-- nobody can have the number
pub gone_nowhere : (target : Target) (number : ℕ) (peers : PeersState) → target ≡ Instance number
    → has_port number ≡ false → HavePorts peers → IsGone target peers peers
gone_nowhere target number peers to port ports =
    gone_to target number peers to (unknown_by (is_known peers number) (has_port number) (ports number) port)

-- what came back is sent by a later call
pub sent_later : {E : Type 0} (result : Result (Option ℕ) E) (target : Target) (number : ℕ) (item back : Item)
    (old between new : PeersState) → target ≡ Instance number → back ≡ item → between ≡ old
    → IfOk result (λ woken. IsSent (Instance number) back woken between new)
    → IfOk result (λ woken. IsSent target item woken old new)
sent_later result target number item back old between new to is same sent =
    subst (λ (t : Target). IfOk result (λ woken. IsSent t item woken old new)) (sym to)
    (subst (λ (i : Item). IfOk result (λ woken. IsSent (Instance number) i woken old new)) is
    (subst (λ (peers : PeersState). IfOk result (λ woken. IsSent (Instance number) back woken peers new)) same sent))
