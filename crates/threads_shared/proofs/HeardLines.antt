-- What was put stays the end of what was heard.
use Rattle.std.proofs.Common.{◌≡◌, ◌∙◌, ap, append-nil, arith, cond, eqb-true, nat_eq, refl, sym, subst, ℕ, ◌+◌, zero, suc, Bool, true, false}
use Rattle.std.proofs.Common.{List, [], ◌∷◌, ◌++◌, All, IfSome, Option, None, Some, option_to_list, slice_get, take}
use Rattle.std.proofs.lemmas.Grind.{flat_map-append}
use Rattle.std.proofs.lemmas.List.{map-append}
use Rattle.std.proofs.lemmas.List.Elements.{All-cons, All-nil, All-head, All-tail}
use Rattle.port_model.specs.declared.values.item.Item.{Item}
use Rattle.port_model.specs.declared.values.pid.Pid.TheVariants.{Env}
use Rattle.sdl_script.specs.declared.script.ScriptLine.{ScriptLine}
use Rattle.sdl_script.specs.declared.script.ScriptSignal.{ScriptSignal}
use Rattle.sdl_system.specs.System.{SystemValue}
use Rattle.sdl_system.specs.declared.route.Target.{Target}
use Rattle.sdl_system.specs.declared.route.Target.TheVariants as target
use Rattle.settle_meaning.specs.Puts.{Heard, heard_by, heard_by_one, signals_of}
use Rattle.threads_shared.specs.Environment.{EnvironmentState, HearsLine, HearsNext, HearsSignal, IsHeardBy, IsOfEnv}
use Rattle.threads_shared.specs.Sending.{ArePutAlike, IsSent}
use Rattle.threads_ports.proofs.SendersKept.{last_more, last_none, last_of_same}
use Rattle.threads_ports.proofs.SenderLemmas.{put_in, sender_to-unknown}
use Rattle.threads_ports.specs.Peers.{AreLast, PeersState, is_known, put_to, sender_to}

-- ---- lines

-- the line there is the last of the first ones
take-there : {X : Type 0} (xs : List X) (n : ℕ) (x : X) → slice_get xs n ≡ Some x
    → take (suc n) xs ≡ take n xs ++ x ∷ []
take-there [] n x there = let wrong : ⊥ = cc in absurd wrong
take-there (first ∷ rest) zero x there = let is : first ≡ x = cc in ap (λ y. y ∷ []) is
take-there (first ∷ rest) (suc n) x there = ap (λ ys. first ∷ ys) (take-there rest n x there)

take-next : {X : Type 0} (xs : List X) (n : ℕ) (x : X) → slice_get xs n ≡ Some x
    → take (n + 1) xs ≡ take n xs ++ x ∷ []
take-next xs n x there =
    let is : n + 1 ≡ suc n = omega arith in ap (λ k. take k xs) is ∙ take-there xs n x there

signals-next : (lines : List ScriptLine) (line : ℕ) (next : ScriptLine) → slice_get lines line ≡ Some next
    → signals_of (take (line + 1) lines) ≡ signals_of (take line lines) ++ option_to_list next.signal
signals-next lines line next there =
    ap signals_of (take-next lines line next there)
    ∙ flat_map-append (λ (l : ScriptLine). option_to_list l.signal) (take line lines) (next ∷ [])
    ∙ ap (λ l. signals_of (take line lines) ++ l) (append-nil (option_to_list next.signal))

All-there : {X : Type 0} (P : X → Type 0) (xs : List X) (n : ℕ) (x : X) → slice_get xs n ≡ Some x → All P xs → P x
All-there P [] n x there all = let wrong : ⊥ = cc in absurd wrong
All-there P (first ∷ rest) zero x there all = let is : first ≡ x = cc in subst P is (All-head P first rest all)
All-there P (first ∷ rest) (suc n) x there all = All-there P rest n x there (All-tail P first rest all)

-- the signal of a line has the environment as its sender
of_env : (lines : List ScriptLine) (line : ℕ) (next : ScriptLine) (signal : ScriptSignal) → All IsOfEnv lines
    → slice_get lines line ≡ Some next → next.signal ≡ Some signal → signal.item.sender ≡ Env
of_env lines line next signal all there is =
    subst (λ (s : Option ScriptSignal). IfSome s (λ (one : ScriptSignal). one.item.sender ≡ Env)) is
    (All-there IsOfEnv lines line next there all)

-- ---- what was heard

-- before the first line
pub heard_none : (lines : List ScriptLine) → IsHeardBy lines 0 [] []
heard_none lines = record {
  heard = [];
  signals = refl;
  targets_are = refl;
  put = λ n. last_none Env (heard_by [] n);
}

-- by senders that have put just as much
pub heard_alike : (lines : List ScriptLine) (line : ℕ) (targets : List Target) (old new : PeersState)
    → ArePutAlike old new → IsHeardBy lines line targets old → IsHeardBy lines line targets new
heard_alike lines line targets old new same was = record {
  heard = was.heard;
  signals = was.signals;
  targets_are = was.targets_are;
  put = λ n. subst (AreLast Env (heard_by was.heard n)) (sym (same n)) (was.put n);
}

-- where nothing is heard
pub heard_still : (lines : List ScriptLine) (line : ℕ) (before after : List Target) (old new : PeersState)
    → after ≡ before → ArePutAlike old new → IsHeardBy lines line before old → IsHeardBy lines line after new
heard_still lines line before after old new noted same was =
    subst (λ (targets : List Target). IsHeardBy lines line targets new) (sym noted)
    (heard_alike lines line before old new same was)

-- a line without a signal
heard_next : (lines : List ScriptLine) (line : ℕ) (targets : List Target) (peers : PeersState) (next : ScriptLine)
    → slice_get lines line ≡ Some next → next.signal ≡ None → IsHeardBy lines line targets peers
    → IsHeardBy lines (line + 1) targets peers
heard_next lines line targets peers next there none was = record {
  heard = was.heard;
  signals = was.signals ∙ sym (append-nil (signals_of (take line lines)))
      ∙ ap (λ s. signals_of (take line lines) ++ option_to_list s) (sym none)
      ∙ sym (signals-next lines line next there);
  targets_are = was.targets_are;
  put = was.put;
}

-- ---- a line with a signal

one_own : (item : Item) (b : Bool) → item.sender ≡ Env → All (λ (i : Item). i.sender ≡ Env) (cond b (item ∷ []) [])
one_own item true own = All-cons (λ (i : Item). i.sender ≡ Env) item [] own (All-nil (λ (i : Item). i.sender ≡ Env))
one_own item false own = All-nil (λ (i : Item). i.sender ≡ Env)

-- nothing is put of what goes to this instance
lost_by : (number n : ℕ) (item : Item) (sends : List Item) (peers : PeersState) (b : Bool) → nat_eq number n ≡ b
    → is_known peers number ≡ false → AreLast Env sends (put_to peers n)
    → AreLast Env (sends ++ cond b (item ∷ []) []) (put_to peers n)
lost_by number n item sends peers true here unknown last =
    let none : put_to peers n ≡ [] =
    ap (λ m. put_to peers m) (sym (eqb-true number n here))
    ∙ ap put_in (sender_to-unknown (sender_to peers number) unknown) in
    subst (AreLast Env (sends ++ item ∷ [])) (sym none) (last_none Env (sends ++ item ∷ []))
lost_by number n item sends peers false here unknown last =
    last_of_same Env sends (sends ++ []) (put_to peers n) (append-nil sends) last

gone_to : (signal : ScriptSignal) (to : Target) (n : ℕ) (sends : List Item) (peers : PeersState)
    → ((number : ℕ) → to ≡ target.Instance number → is_known peers number ≡ false)
    → AreLast Env sends (put_to peers n) → AreLast Env (sends ++ heard_by_one n signal to) (put_to peers n)
gone_to signal (target.Instance number) n sends peers unknown last =
    lost_by number n signal.item sends peers (nat_eq number n) refl (unknown number refl) last
gone_to signal target.Env n sends peers unknown last =
    last_of_same Env sends (sends ++ []) (put_to peers n) (append-nil sends) last
gone_to signal target.Null n sends peers unknown last =
    last_of_same Env sends (sends ++ []) (put_to peers n) (append-nil sends) last
gone_to signal target.Nobody n sends peers unknown last =
    last_of_same Env sends (sends ++ []) (put_to peers n) (append-nil sends) last

sent_one : (signal : ScriptSignal) (to : Target) (woken : Option ℕ) (old new : PeersState) (n : ℕ) (sends : List Item)
    → signal.item.sender ≡ Env → IsSent to signal.item woken old new → AreLast Env sends (put_to old n)
    → AreLast Env (sends ++ heard_by_one n signal to) (put_to new n)
sent_one signal to None old new n sends own sent last =
    subst (AreLast Env (sends ++ heard_by_one n signal to)) (sym (sent.same n))
    (gone_to signal to n sends old sent.unknown last)
sent_one signal to (Some number) old new n sends own sent last =
    let more = cond (nat_eq number n) (signal.item ∷ []) [] in
    subst (λ (t : Target). AreLast Env (sends ++ heard_by_one n signal t) (put_to new n)) (sym sent.target_is)
    (subst (AreLast Env (sends ++ more)) (sym (sent.put n))
    (last_more Env sends (put_to old n) more (one_own signal.item (nat_eq number n) own) last))

heard_by-append : (heard : List Heard) (one : Heard) (n : ℕ)
    → heard_by (heard ++ one ∷ []) n ≡ heard_by heard n ++ heard_by_one n one.signal one.target
heard_by-append heard one n =
    flat_map-append (λ (h : Heard). heard_by_one n h.signal h.target) heard (one ∷ [])
    ∙ ap (λ l. heard_by heard n ++ l) (append-nil (heard_by_one n one.signal one.target))

heard_sent : (lines : List ScriptLine) (line : ℕ) (before after : List Target) (old new : PeersState) (next : ScriptLine)
    (signal : ScriptSignal) (system : SystemValue) (woken : Option ℕ) → All IsOfEnv lines
    → slice_get lines line ≡ Some next → next.signal ≡ Some signal
    → HearsSignal system signal woken before after old new → IsHeardBy lines line before old
    → IsHeardBy lines (line + 1) after new
heard_sent lines line before after old new next signal system woken all there is hears was =
    let to = hears.target in let one : Heard = record { signal = signal; target = to } in record {
      heard = was.heard ++ one ∷ [];
      signals = map-append (λ (h : Heard). h.signal) was.heard (one ∷ [])
          ∙ ap (λ l. l ++ signal ∷ []) was.signals
          ∙ ap (λ s. signals_of (take line lines) ++ option_to_list s) (sym is)
          ∙ sym (signals-next lines line next there);
      targets_are = map-append (λ (h : Heard). h.target) was.heard (one ∷ []) ∙ ap (λ l. l ++ to ∷ []) was.targets_are
          ∙ sym hears.noted;
      put = λ n. last_of_same Env (heard_by was.heard n ++ heard_by_one n signal to)
          (heard_by (was.heard ++ one ∷ []) n) (put_to new n) (heard_by-append was.heard one n)
          (sent_one signal to woken old new n (heard_by was.heard n) (of_env lines line next signal all there is)
          hears.sent (was.put n));
    }

heard_line_by : (lines : List ScriptLine) (line : ℕ) (before after : List Target) (old new : PeersState)
    (next : ScriptLine) (signal : Option ScriptSignal) (system : SystemValue) (woken : Option ℕ) → All IsOfEnv lines
    → slice_get lines line ≡ Some next → next.signal ≡ signal → HearsLine system signal woken before after old new
    → IsHeardBy lines line before old → IsHeardBy lines (line + 1) after new
heard_line_by lines line before after old new next None system woken all there is hears was =
    heard_still lines (line + 1) before after old new hears.noted hears.same
    (heard_next lines line before old next there is was)
heard_line_by lines line before after old new next (Some signal) system woken all there is hears was =
    heard_sent lines line before after old new next signal system woken all there is hears was

-- a line more
pub heard_line : (lines : List ScriptLine) (line : ℕ) (before after : List Target) (old new : PeersState)
    (next : ScriptLine) (system : SystemValue) (woken : Option ℕ) → All IsOfEnv lines → slice_get lines line ≡ Some next
    → HearsLine system next.signal woken before after old new → IsHeardBy lines line before old
    → IsHeardBy lines (line + 1) after new
heard_line lines line before after old new next system woken all there hears was =
    heard_line_by lines line before after old new next next.signal system woken all there refl hears was

-- ---- what a call answers

pub hears : (system : SystemValue) (woken : Option ℕ) (old new : EnvironmentState) (next : ScriptLine)
    → slice_get old.lines old.line ≡ Some next
    → HearsLine system next.signal woken old.targets new.targets old.peers new.peers → HearsNext system woken old new
hears system woken old new next there says =
    subst (λ (l : Option ScriptLine). IfSome l
    (λ (line : ScriptLine). HearsLine system line.signal woken old.targets new.targets old.peers new.peers))
    (sym there) says
