-- The list of an action, done entry by entry.
use Rattle.std.proofs.Common.{◌≡◌, ◌∙◌, ◌<◌, ◌≤◌, ◌+◌, sym, ap, subst, ℕ, List, [], ◌∷◌, length, get_or, drop, map, Option}
use Rattle.std.proofs.lemmas.List.{at_drop_all, at_drop_more}
use Rattle.run_record.specs.declared.failure.Failure.{Failure}
use Rattle.run_semantics.proofs.Goes.{goes_on, goes_still, wrong_here, wrong_on}
use Rattle.run_semantics.specs.Goes.{AreInner, Goes, GoesWrong}
use Rattle.run_semantics.specs.ControlPoint.{Definition}
use Rattle.run_semantics.specs.World.{WorldValue}
use Rattle.sdl_interp.proofs.Staying.{kept_by}
use Rattle.sdl_interp.specs.Running.{CoreValue, IsSameInstance}
use Rattle.sdl_interp.specs.Work.{Does, DoesWrong, FailsAt, IsOf, Site, amid}
use Rattle.sdl_system.specs.Body as body
use Rattle.sdl_system.specs.Body.{Assigning, Whither}

-- before these assignments, signals, sets and resets
abbrev pub tasking : List Assigning → Site
tasking list = amid (body.task list)

abbrev pub sending_to : Option Whither → List body.Sending → Site
sending_to to list = amid (body.output list to)

abbrev pub timers_set : List body.Setting → Site
timers_set list = amid (body.set list)

abbrev pub timers_reset : List body.Timing → Site
timers_reset list = amid (body.reset list)

-- `mark` is what an entry stands for, `At` the place before such entries, and `k` the instance before the first.
module _ {X Y : Type 0} (mark : X → Y) (At : List Y → Site) (k : CoreValue) where
  abbrev Is : Definition → Type 0
  Is d = IsOf k.system k.process d

  -- the list is done up to the entry `i`
  abbrev pub DoneTo : List X → ℕ → WorldValue → CoreValue → WorldValue → Type 0
  DoneTo xs i w m v = Does Is (At (map mark xs)) k.work w (At (map mark (drop i xs))) m.work v

  abbrev pub before_entry : List X → ℕ → X → Site
  before_entry xs i x = At (mark x ∷ map mark (drop (i + 1) xs))

  abbrev pub behind_entry : List X → ℕ → Site
  behind_entry xs i = At (map mark (drop (i + 1) xs))

  opens : (xs : List X) (i : ℕ) (x : X) → i < length xs → x ≡ get_or xs i x
      → mark x ∷ map mark (drop (i + 1) xs) ≡ map mark (drop i xs)
  opens xs i x below is =
      sym (at_drop_more (λ (ys : List X). map mark ys) xs i x below
      ∙ ap (λ (y : X). mark y ∷ map mark (drop (i + 1) xs)) (sym is))

  pub pieces_begin : (xs : List X) (w : WorldValue) → DoneTo xs 0 w k w
  pieces_begin xs w = λ d of origin rest. goes_still d (At (map mark xs) origin rest) k.work w

  module _ (xs : List X) (i : ℕ) (x : X) (below : i < length xs) (is : x ≡ get_or xs i x) (m n : CoreValue)
      (same : IsSameInstance k m) (w v u : WorldValue) (first : DoneTo xs i w m v) where
    pub pieces_on : Does (IsOf m.system m.process) (before_entry xs i x) m.work v (behind_entry xs i) n.work u
        → DoneTo xs (i + 1) w n u
    pieces_on then = λ d of origin rest.
        goes_on d (At (map mark xs) origin rest) (At (map mark (drop i xs)) origin rest) (behind_entry xs i origin rest)
        k.work m.work n.work w v u (first d of origin rest)
        (subst (λ (ys : List Y). Goes AreInner d (At ys origin rest) m.work v (behind_entry xs i origin rest) n.work u)
        (opens xs i x below is)
        (kept_by (λ s p. Does (IsOf s p) (before_entry xs i x) m.work v (behind_entry xs i) n.work u) k m same then
        d of origin rest))

    pub pieces_wrong : (why : Failure) → FailsAt (IsOf m.system m.process) (before_entry xs i x) m.work why
        → n.work ≡ m.work → u ≡ v → DoesWrong Is (At (map mark xs)) k.work w n.work u why
    pieces_wrong why fails still quiet = λ d of origin rest.
        wrong_on d (At (map mark xs) origin rest) (At (map mark (drop i xs)) origin rest) k.work m.work n.work w v u why
        (first d of origin rest)
        (subst (λ (ys : List Y). GoesWrong d (At ys origin rest) m.work v n.work u why) (opens xs i x below is)
        (wrong_here d (before_entry xs i x origin rest) m.work n.work v u why
        (kept_by (λ s p. FailsAt (IsOf s p) (before_entry xs i x) m.work why) k m same fails d of origin rest)
        still quiet))

  pub pieces_done : (xs : List X) (i : ℕ) (m : CoreValue) (w v : WorldValue) → length xs ≤ i → DoneTo xs i w m v
      → Does Is (At (map mark xs)) k.work w (At []) m.work v
  pieces_done xs i m w v past first = λ d of origin rest.
      subst (λ (ys : List Y). Goes AreInner d (At (map mark xs) origin rest) k.work w (At ys origin rest) m.work v)
      (at_drop_all (λ (ys : List X). map mark ys) xs i past) (first d of origin rest)
