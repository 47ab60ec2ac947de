-- The clock of an execution stops at the times of spent fuses, which a run need not have any more. They expire to no
-- effect, and the clock goes on.
use Rattle.std.proofs.Common.{◌≡◌, ◌+◌, ◌<◌, ◌≤◌, Bool, true, false, ℕ, min, nat_le, List, [], ◌∷◌, ◌++◌, Some, All, ap, arith, inl, inr, leb-false, leb-true, length, map, refl, subst, sym}
use Rattle.std.proofs.lemmas.List.Elements.{All-head, All-map, All-nil, Contains-get_or}
use Rattle.std.specs.Prelude.{Contains}
use Rattle.port_model.specs.declared.inbox.entry.Fuse.{Fuse}
use Rattle.port_model.specs.Timers.{IsLeast, earlier}
use Rattle.sdl_script.specs.declared.script.ScriptLine.{ScriptLine}
use Rattle.sdl_timers.specs.DueOrder.{IsInOrder}
use Rattle.sdl_timers.specs.Thinned.{Thins}
use Rattle.serial_run.specs.Thinned.{is_spent_in}
use Rattle.serial_order.specs.Execution.{Execution, Expired, Expires, Happening, IsNoFuseBefore, IsNoLineBefore, Rests, Ticked, Ticks, begins, goes, next_line, transitions_of}
use Rattle.serial_order.specs.RunState.{RunState}
use Rattle.serial_run.specs.Clearing.{all_late, same_expired}
use Rattle.serial_run.specs.ExecutionLaws.{execution_append}
use Rattle.serial_run.specs.Told.{tellers_of}
use Rattle.sdl_system.specs.Behaviour.{Behaviour}

-- ---- times

no_line_sooner : (sooner time : ℕ) (lines : List ScriptLine) → sooner ≤ time → IsNoLineBefore time lines
    → IsNoLineBefore sooner lines
no_line_sooner sooner time [] before none = tt
no_line_sooner sooner time (line ∷ later) before none = omega (arith, before, none)

-- what is before a time, with no line before that, comes first
comes_first : (due time : ℕ) (lines : List ScriptLine) → due < time → IsNoLineBefore time lines
    → earlier (Some due) (next_line lines) ≡ Some due
comes_first due time [] before none = refl
comes_first due time (line ∷ later) before none =
    let is : min due line.at ≡ due = omega (arith, before, none) in ap Some is

pub least_first : (fuse : Fuse) (more : List Fuse) → IsInOrder (fuse ∷ more)
    → IsLeast (map (λ (one : Fuse). one.due) (fuse ∷ more)) (Some fuse.due)
least_first fuse more ordered =
    let here : Contains (fuse.due ∷ map (λ (one : Fuse). one.due) more) fuse.due =
    Contains-get_or (fuse.due ∷ map (λ (one : Fuse). one.due) more) 0 0 (omega arith) in
    let same : fuse.due ≤ fuse.due = omega arith in
    let late : IsNoFuseBefore fuse.due (fuse ∷ more) = all_late fuse.due fuse more ordered same in
    (here, All-map (λ (time : ℕ). fuse.due ≤ time) (λ (one : Fuse). one.due) (fuse ∷ more) late)

-- ---- the clock moves up to a time

-- From a state of the whole an execution leads to one that has no fuse before a time. Nothing else is done: the
-- instances and the script stay, and so do the fuses of the run, which are these.
pub record Wound (ps : List Behaviour) (last : ℕ) (g : RunState) (left : List Fuse) (time : ℕ) : Type 0 where
  pub clock : ℕ
  pub until : ℕ
  pub turn : ℕ
  pub bound : ℕ
  pub fuses : List Fuse
  pub happenings : List Happening
  pub execution : Execution ps last g happenings
      (record g { clock = clock; until = until; turn = turn; bound = bound; fuses = fuses })
  pub none : transitions_of happenings ≡ 0
  pub nobody : tellers_of happenings ≡ []
  pub in_order : IsInOrder fuses
  pub thins : Thins (is_spent_in g.instances) fuses left
  pub no_fuse : IsNoFuseBefore time fuses
  pub no_line : IsNoLineBefore until g.script
  pub within : g.until ≤ time → until ≤ time

-- what has to be so as the clock begins to move
pub record IsToWind (ps : List Behaviour) (last : ℕ) (g : RunState) (left : List Fuse) (time : ℕ) : Type 0 where
  pub rest : All (Rests ps) g.instances
  pub in_order : IsInOrder g.fuses
  pub thins : Thins (is_spent_in g.instances) g.fuses left
  pub no_fuse : IsNoFuseBefore time left
  pub no_line : IsNoLineBefore time g.script
  pub none_due : IsNoLineBefore g.until g.script
  pub within : g.script ≡ [] → time ≤ last + 1

module _ (ps : List Behaviour) (last : ℕ) (left : List Fuse) (time : ℕ) where
  -- the time is reached
  winds_none : (g : RunState) (fuses : List Fuse) → g.fuses ≡ fuses → IsToWind ps last g left time
      → IsNoFuseBefore time fuses → Wound ps last g left time
  winds_none g fuses is to late = record {
    clock = g.clock;
    until = g.until;
    turn = g.turn;
    bound = g.bound;
    fuses = g.fuses;
    happenings = [];
    execution = begins;
    none = refl;
    nobody = refl;
    in_order = to.in_order;
    thins = to.thins;
    no_fuse = subst (IsNoFuseBefore time) (sym is) late;
    no_line = to.none_due;
    within = λ before. before;
  }

  -- after some happenings in which only the clock moves and fuses go
  winds_after : (g : RunState) (before : List Happening) (clock until turn bound : ℕ) (fuses : List Fuse)
      → Execution ps last g before
      (record g { clock = clock; until = until; turn = turn; bound = bound; fuses = fuses })
      → Wound ps last (record g { clock = clock; until = until; turn = turn; bound = bound; fuses = fuses }) left time
      → ((rest : List Happening) → transitions_of rest ≡ 0 → transitions_of (before ++ rest) ≡ 0)
      → ((rest : List Happening) → tellers_of rest ≡ [] → tellers_of (before ++ rest) ≡ [])
      → (g.until ≤ time → until ≤ time) → Wound ps last g left time
  winds_after g before clock until turn bound fuses execution rest adds tells within = record {
    clock = rest.clock;
    until = rest.until;
    turn = rest.turn;
    bound = rest.bound;
    fuses = rest.fuses;
    happenings = before ++ rest.happenings;
    execution = execution_append execution rest.execution;
    none = adds rest.happenings rest.none;
    nobody = tells rest.happenings rest.nobody;
    in_order = rest.in_order;
    thins = rest.thins;
    no_fuse = rest.no_fuse;
    no_line = rest.no_line;
    within = λ low. rest.within (within low);
  }

  module _ (fuse : Fuse) (more : List Fuse) (g : RunState) (is : g.fuses ≡ fuse ∷ more)
      (to : IsToWind ps last g left time) (gone : is_spent_in g.instances fuse ≡ true)
      (thins : Thins (is_spent_in g.instances) more left) (early : fuse.due < time)
      (on : (mid : RunState) → mid.fuses ≡ more → IsToWind ps last mid left time → Wound ps last mid left time) where
    ordered : IsInOrder (fuse ∷ more)
    ordered = subst IsInOrder is to.in_order

    -- the first fuse is due, and expires
    winds_due : fuse.due < g.until → Wound ps last g left time
    winds_due due =
        let mid : RunState = record g { fuses = more } in
        let expires : Expires g fuse mid = record {
          later = more;
          first = is;
          due = due;
          now = sym (same_expired mid fuse gone);
        } in
        let rest : Wound ps last mid left time =
        on mid refl (record {
          rest = to.rest;
          in_order = ordered.1;
          thins = thins;
          no_fuse = to.no_fuse;
          no_line = to.no_line;
          none_due = to.none_due;
          within = to.within;
        }) in
        winds_after g (Expired fuse ∷ []) g.clock g.until g.turn g.bound more (goes begins (Expired fuse) mid expires)
        rest (λ later none. omega (arith, none)) (λ later nobody. nobody) (λ before. before)

    -- its time comes, and it expires
    winds_on : g.until ≤ fuse.due → Wound ps last g left time
    winds_on late =
        let at : RunState =
        record g { clock = fuse.due; until = fuse.due + 1; turn = 0; bound = length g.instances } in
        let mid : RunState = record at { fuses = more } in
        let ticks : Ticks ps last g fuse.due at = record {
          due = Some fuse.due;
          nothing_due = record {
            fuses = subst (IsNoFuseBefore g.until) (sym is) (all_late g.until fuse more ordered late);
            lines = to.none_due;
          };
          rest = to.rest;
          least = subst (λ (list : List Fuse). IsLeast (map (λ (one : Fuse). one.due) list) (Some fuse.due)) (sym is)
              (least_first fuse more ordered);
          is_next = comes_first fuse.due time g.script early to.no_line;
          within = λ none. let bound = to.within none in omega (arith, bound, early);
          now = refl;
        } in
        let expires : Expires at fuse mid = record {
          later = more;
          first = is;
          due = omega arith;
          now = sym (same_expired mid fuse gone);
        } in
        let rest : Wound ps last mid left time =
        on mid refl (record {
          rest = to.rest;
          in_order = ordered.1;
          thins = thins;
          no_fuse = to.no_fuse;
          no_line = to.no_line;
          none_due = no_line_sooner (fuse.due + 1) time g.script (omega (arith, early)) to.no_line;
          within = to.within;
        }) in
        winds_after g (Ticked fuse.due ∷ Expired fuse ∷ []) fuse.due (fuse.due + 1) 0 (length g.instances) more
        (goes (goes begins (Ticked fuse.due) at ticks) (Expired fuse) mid expires) rest
        (λ later none. omega (arith, none)) (λ later nobody. nobody) (λ before. omega (arith, early))

    winds_spent : Wound ps last g left time
    winds_spent = by_test (nat_le g.until fuse.due) refl where
      by_test : (b : Bool) → nat_le g.until fuse.due ≡ b → Wound ps last g left time
      by_test true late = winds_on (leb-true g.until fuse.due late)
      by_test false due = winds_due (leb-false g.until fuse.due due)

  winds_next : (fuse : Fuse) (more : List Fuse) (g : RunState) → g.fuses ≡ fuse ∷ more → IsToWind ps last g left time
      → ((mid : RunState) → mid.fuses ≡ more → IsToWind ps last mid left time → Wound ps last mid left time)
      → Wound ps last g left time
  winds_next fuse more g is to on = by_test (nat_le time fuse.due) refl where
    by_thins : fuse.due < time → Thins (is_spent_in g.instances) (fuse ∷ more) left → Wound ps last g left time
    by_thins early (inl (gone, thins)) = winds_spent fuse more g is to gone thins early on
    by_thins early (inr (rest, too, thins)) =
        let late : time ≤ fuse.due =
        All-head (λ (one : Fuse). time ≤ one.due) fuse rest (subst (IsNoFuseBefore time) too to.no_fuse) in
        absurd (omega (arith, early, late))

    by_test : (b : Bool) → nat_le time fuse.due ≡ b → Wound ps last g left time
    by_test true late =
        winds_none g (fuse ∷ more) is to
        (all_late time fuse more (subst IsInOrder is to.in_order) (leb-true time fuse.due late))
    by_test false early =
        by_thins (leb-false time fuse.due early)
        (subst (λ (list : List Fuse). Thins (is_spent_in g.instances) list left) is to.thins)

  wind : (fuses : List Fuse) (g : RunState) → g.fuses ≡ fuses → IsToWind ps last g left time
      → Wound ps last g left time
  wind [] g is to = winds_none g [] is to (All-nil (λ (one : Fuse). time ≤ one.due))
  wind (fuse ∷ more) g is to = winds_next fuse more g is to (λ mid same later. wind more mid same later)

  pub wound : (g : RunState) → IsToWind ps last g left time → Wound ps last g left time
  wound g to = wind g.fuses g refl to
