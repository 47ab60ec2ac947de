-- The parts of a table agree with one another.
use Rattle.std.proofs.Common.{◌≡◌, ◌∙◌, ◌<◌, ◌≤◌, ◌==◌, ◌++◌, ◌⊎◌, inl, inr, ℕ, zero, suc, Bool, true, false, Contains, List, [], ◌∷◌, Option, None, Some, ap, arith, get_or, if◌then◌else◌, length, map, option_map, refl, slice_get, subst, sym, unwrap_or}
use Rattle.std.specs.List.{AllZip}
use Rattle.std.proofs.lemmas.Option.{slice_get_past}
use Rattle.port_model.specs.Selection as selection
use Rattle.port_model.specs.declared.values.item.SignalId.{SignalId}
use Rattle.build_states.specs.Mentions.{Response, input, priority_input, save}
use Rattle.build_states.specs.States.{Table, named_in}
use Rattle.sdl_system.specs.Process.{choice_in}
use Rattle.sdl_system.specs.Signal.{is_member}
use Rattle.sdl_system.specs.Soundness.{IsEnabled, WaitsFor}
use Rattle.sdl_system.specs.State.{choice_of, named_reaction, or_rest}
use Rattle.sdl_system.specs.declared.id.ConditionId.{ConditionId}
use Rattle.sdl_system.specs.declared.id.NodeId.{NodeId}
use Rattle.sdl_system.specs.declared.process.Process.{Process}
use Rattle.sdl_system.specs.declared.state.Enabled as enabled
use Rattle.sdl_system.specs.declared.state.Enabled.TheVariants as whom
use Rattle.sdl_system.specs.declared.state.Enabling.{Enabling}
use Rattle.sdl_system.specs.declared.state.Reaction.{Reaction}
use Rattle.sdl_system.specs.declared.state.Reaction.TheVariants as react
use Rattle.sdl_system.specs.declared.state.StateTable.{StateTable}
use Rattle.build_tables.specs.Agreeing.{Agrees, AreEnabling, TablesAgree, said_condition}
use Rattle.build_tables.specs.Linked.{IsLinked, IsTable, Waiting, Waits, choice_by, condition_of, enabled_value, enabling_value, is_for, linked, others, preferred, reaction_value, received, these, waiting_for, waits_for}
use Rattle.build_tables.proofs.MeaningLemmas.{below-or-not, condition_in_doing, head-same, some-same, tail-same}

-- ---- classes

module _ (entries : List NodeId) (valid : List Bool) (count : ℕ) (says : Table) (table : StateTable)
    (holds : IsTable entries valid count says table) (process : Process) (is : process.valid ≡ valid)
    (long : length valid ≤ count) where
  not-member : (signal : SignalId) → count ≤ signal.0 → is_member process.valid signal ≡ false
  not-member signal past =
      ap (λ list. is_member list signal) is
      ∙ ap (λ found. unwrap_or found false) (slice_get_past valid signal.0 (omega (arith, long, past)))

  selected : (signal : SignalId) → (signal.0 < count) ⊎ (count ≤ signal.0) →
      selection.class_of table.selection signal ≡ (choice_in process table signal).class
  selected signal (inl less) =
      holds.classes.within signal less
      ∙ ap (λ list. (choice_by list table.reactions table.rest signal).class) (sym is)
  selected signal (inr past) =
      holds.classes.past signal past
      ∙ sym (ap (λ found. (choice_of (or_rest found (is_member process.valid signal) table.rest)).class)
      (holds.named.past signal past)
      ∙ ap (λ b. (choice_of (or_rest None b table.rest)).class) (not-member signal past))

-- ---- conditions

condition-linked : (entries : List NodeId) (reaction : Option Reaction) (said : Option Response) →
    IsLinked entries reaction said → condition_of reaction ≡ said_condition said
condition-linked entries None None is = refl
condition-linked entries None (Some response) is = cc
condition-linked entries (Some reaction) None is = cc
condition-linked entries (Some reaction) (Some response) is = by reaction response (some-same _ _ is)
  where
    by : (reaction : Reaction) (response : Response) → Some (reaction_value reaction) ≡ linked entries response →
        condition_of (Some reaction) ≡ said_condition (Some response)
    by reaction (input variables condition begin) same = at reaction (slice_get entries begin.0) same
      where
        at : (reaction : Reaction) (node : Option NodeId) →
            Some (reaction_value reaction) ≡ option_map (λ n. received variables condition n) node →
            condition_of (Some reaction) ≡ condition
        at reaction None same = cc
        at (react.Input reception own) (Some n) same = ap condition_in_doing (some-same _ _ same)
        at (react.Priority reception) (Some n) same = ap condition_in_doing (some-same _ _ same)
        at react.Save (Some n) same = ap condition_in_doing (some-same _ _ same)
    by reaction (priority_input variables begin) same = at reaction (slice_get entries begin.0) same
      where
        at : (reaction : Reaction) (node : Option NodeId) →
            Some (reaction_value reaction) ≡ option_map (λ n. preferred variables n) node →
            condition_of (Some reaction) ≡ None
        at reaction None same = cc
        at (react.Input reception own) (Some n) same = ap condition_in_doing (some-same _ _ same)
        at (react.Priority reception) (Some n) same = refl
        at react.Save (Some n) same = refl
    by (react.Input reception own) save same = ap condition_in_doing (some-same _ _ same)
    by (react.Priority reception) save same = refl
    by react.Save save same = refl

for-it : (condition : ConditionId) (own : Option ConditionId) → is_for condition own ≡ true → own ≡ Some condition
for-it condition None is = cc
for-it condition (Some one) is =
    let numbers : one.0 ≡ condition.0 = grind arith in
    ap (λ n. Some (record { 0 = n })) numbers

for-own : (condition : ConditionId) (own : Option ConditionId) → own ≡ Some condition → is_for condition own ≡ true
for-own condition own is = ap (is_for condition) is ∙ itself condition.0
  where
    itself : (n : ℕ) → (n == n) ≡ true
    itself n = grind arith

contains-left : {A : Type 0} (xs ys : List A) (x : A) → Contains xs x → Contains (xs ++ ys) x
contains-left [] ys x there = absurd (omega (arith, there.1))
contains-left (y ∷ xs) ys x (zero, below, is) = (zero, omega arith, is)
contains-left (y ∷ xs) ys x (suc k, below, is) =
    let rest = contains-left xs ys x (k, omega (arith, below), is) in
    (suc rest.0, omega (arith, rest.1), rest.2)

contains-behind : {A : Type 0} (xs ys : List A) (x : A) → Contains ys x → Contains (xs ++ ys) x
contains-behind [] ys x there = there
contains-behind (y ∷ xs) ys x there =
    let rest = contains-behind xs ys x there in
    (suc rest.0, omega (arith, rest.1), rest.2)

contains-either : {A : Type 0} (xs ys : List A) (x : A) → Contains (xs ++ ys) x → Contains xs x ⊎ Contains ys x
contains-either [] ys x there = inr there
contains-either (y ∷ xs) ys x (zero, below, is) = inl (zero, omega arith, is)
contains-either (y ∷ xs) ys x (suc k, below, is) = on (contains-either xs ys x (k, omega (arith, below), is))
  where
    on : Contains xs x ⊎ Contains ys x → Contains (y ∷ xs) x ⊎ Contains ys x
    on (inl there) = inl (suc there.0, omega (arith, there.1), there.2)
    on (inr there) = inr there

module _ (reactions : List (SignalId × Reaction)) (condition : ConditionId) where
  here : ℕ → List SignalId
  here n =
      if is_for condition (condition_of (named_reaction reactions (record { 0 = n }))) then record { 0 = n } ∷ [] else []

  -- a signal that waits is in the list
  waiting-in : (count : ℕ) (signal : SignalId) → signal.0 < count →
      condition_of (named_reaction reactions signal) ≡ Some condition →
      Contains (waiting_for reactions condition count) signal
  waiting-in zero signal below is = absurd (omega (arith, below))
  waiting-in (suc n) signal below is = by (below-or-not signal.0 n) (λ less. waiting-in n signal less is)
    where
      by : (signal.0 < n) ⊎ (n ≤ signal.0) →
          (signal.0 < n → Contains (waiting_for reactions condition n) signal) →
          Contains (waiting_for reactions condition (suc n)) signal
      by (inl less) before = contains-left (waiting_for reactions condition n) _ signal (before less)
      by (inr more) before =
          let numbers : signal.0 ≡ n = omega (arith, below, more) in
          let same : signal ≡ record { 0 = n } = ap (λ m. record { 0 = m }) numbers in
          let test : is_for condition (condition_of (named_reaction reactions (record { 0 = n }))) ≡ true =
          for-own condition _ (ap (λ s. condition_of (named_reaction reactions s)) (sym same) ∙ is) in
          contains-behind (waiting_for reactions condition n) _ signal
          (subst (λ b. Contains (if b then record { 0 = n } ∷ [] else []) signal) (sym test)
          (zero, omega arith, sym same))

  -- a signal in the list waits
  in-waiting : (count : ℕ) (signal : SignalId) → Contains (waiting_for reactions condition count) signal →
      condition_of (named_reaction reactions signal) ≡ Some condition
  in-waiting zero signal there = absurd (omega (arith, there.1))
  in-waiting (suc n) signal there =
      by (contains-either (waiting_for reactions condition n) _ signal there) (λ before. in-waiting n signal before)
    where
      at : (b : Bool) → is_for condition (condition_of (named_reaction reactions (record { 0 = n }))) ≡ b →
          Contains (if b then record { 0 = n } ∷ [] else []) signal →
          condition_of (named_reaction reactions signal) ≡ Some condition
      at true test (zero, below, is) =
          ap (λ s. condition_of (named_reaction reactions s)) (sym is)
          ∙ for-it condition (condition_of (named_reaction reactions (record { 0 = n }))) test
      at true test (suc k, below, is) = absurd (omega (arith, below))
      at false test there = absurd (omega (arith, there.1))

      by : Contains (waiting_for reactions condition n) signal
          ⊎ Contains (if is_for condition (condition_of (named_reaction reactions (record { 0 = n })))
          then record { 0 = n } ∷ [] else []) signal →
          (Contains (waiting_for reactions condition n) signal →
          condition_of (named_reaction reactions signal) ≡ Some condition) →
          condition_of (named_reaction reactions signal) ≡ Some condition
      by (inl there) before = before there
      by (inr there) before =
          at (is_for condition (condition_of (named_reaction reactions (record { 0 = n })))) refl there

-- an element of a list stands beside what it shows
pub record Beside (list : List Enabling) (waits : Waits) : Type 0 where
  pub one : Enabling
  pub listed : Contains list one
  pub shows : enabling_value one ≡ waits

module _ (f : ConditionId → Waits) where
  enabling-at : (list : List Enabling) (enabling : List ConditionId) (condition : ConditionId) (k : ℕ) →
      map enabling_value list ≡ map f enabling → k < length enabling → get_or enabling k condition ≡ condition →
      Beside list (f condition)
  enabling-at list [] condition k same below is = absurd (omega (arith, below))
  enabling-at [] (c ∷ enabling) condition k same below is = cc
  enabling-at (one ∷ list) (c ∷ enabling) condition zero same below is =
      record { one = one; listed = (zero, omega arith, refl); shows = head-same _ _ _ _ same ∙ ap f is }
  enabling-at (one ∷ list) (c ∷ enabling) condition (suc k) same below is =
      let rest = enabling-at list enabling condition k (tail-same _ _ _ _ same) (omega (arith, below)) is in
      record {
        one = rest.one;
        listed = (suc rest.listed.0, omega (arith, rest.listed.1), rest.listed.2);
        shows = rest.shows;
      }

  enabling-of : (list : List Enabling) (enabling : List ConditionId) (one : Enabling) (k : ℕ) →
      map enabling_value list ≡ map f enabling → k < length list → get_or list k one ≡ one →
      (condition : ConditionId) × (enabling_value one ≡ f condition)
  enabling-of [] enabling one k same below is = absurd (omega (arith, below))
  enabling-of (e ∷ list) [] one k same below is = cc
  enabling-of (e ∷ list) (c ∷ enabling) one zero same below is =
      (c, ap enabling_value (sym is) ∙ head-same _ _ _ _ same)
  enabling-of (e ∷ list) (c ∷ enabling) one (suc k) same below is =
      enabling-of list enabling one k (tail-same _ _ _ _ same) (omega (arith, below)) is

abbrev listed_in : Waiting → List SignalId
listed_in (these list) = list
listed_in others = []

module _ (entries : List NodeId) (valid : List Bool) (count : ℕ) (says : Table) (table : StateTable)
    (holds : IsTable entries valid count says table) (process : Process) where
  abbrev waits-as : ConditionId → Waits
  waits-as = waits_for table.reactions count table.rest

  -- what waits for a condition of a signal that is named
  enabled-named : (signal : SignalId) (condition : ConditionId) (who : enabled.Enabled) (b : Bool) →
      is_for condition (condition_of table.rest) ≡ b → b ≡ false →
      enabled_value who ≡ (if b then others else these (waiting_for table.reactions condition count)) →
      Contains (waiting_for table.reactions condition count) signal → IsEnabled process table who signal
  enabled-named signal condition (whom.Named list) true test apart same there = cc
  enabled-named signal condition (whom.Named list) false test apart same there =
      subst (λ l. Contains l signal) (sym (ap listed_in same)) there
  enabled-named signal condition whom.Rest true test apart same there = cc
  enabled-named signal condition whom.Rest false test apart same there = cc

  -- of one that isn't
  enabled-other : (signal : SignalId) (condition : ConditionId) (who : enabled.Enabled) (b : Bool) → b ≡ true →
      enabled_value who ≡ (if b then others else these (waiting_for table.reactions condition count)) →
      named_reaction table.reactions signal ≡ None → is_member process.valid signal ≡ true →
      IsEnabled process table who signal
  enabled-other signal condition (whom.Named list) true sure same none member = cc
  enabled-other signal condition (whom.Named list) false sure same none member = cc
  enabled-other signal condition whom.Rest b sure same none member = (none, member)

  module _ (are : AreEnabling says) where
    waits-when : (signal : SignalId) (condition : ConditionId) (named : Option Reaction) →
        named_reaction table.reactions signal ≡ named → (member : Bool) → is_member process.valid signal ≡ member →
        condition_of (or_rest named member table.rest) ≡ Some condition → WaitsFor process table signal condition
    waits-when signal condition (Some reaction) found member at is = by (below-or-not signal.0 count)
      where
        by : (signal.0 < count) ⊎ (count ≤ signal.0) → WaitsFor process table signal condition
        by (inr past) =
            let none = holds.named.past signal past in
            cc
        by (inl less) =
            let own : condition_of (named_reaction table.reactions signal) ≡ Some condition =
            ap condition_of found ∙ is in
            let said : said_condition (named_in says.answers.named signal) ≡ Some condition =
            sym (condition-linked entries _ _ (holds.named.within signal less)) ∙ own in
            let listed = are.named signal condition said in
            let beside = enabling-at waits-as table.conditions.items says.enabling condition listed.0
            holds.conditions listed.1 listed.2 in
            let apart : is_for condition (condition_of table.rest) ≡ false =
            not-rest (is_for condition (condition_of table.rest)) refl said in
            record {
              enabling = beside.one;
              listed = beside.listed;
              is = ap (λ w. w.condition) beside.shows;
              enables = enabled-named signal condition beside.one.signals
                  (is_for condition (condition_of table.rest)) refl apart (ap (λ w. w.signals) beside.shows)
                  (waiting-in table.reactions condition count signal less own);
            }
          where
            not-rest : (b : Bool) → is_for condition (condition_of table.rest) ≡ b →
                said_condition (named_in says.answers.named signal) ≡ Some condition → b ≡ false
            not-rest false test said = refl
            not-rest true test said =
                absurd (are.apart signal condition said
                (sym (condition-linked entries _ _ holds.rest) ∙ for-it condition (condition_of table.rest) test))
    waits-when signal condition None found true at is =
        let said : said_condition says.answers.rest ≡ Some condition =
        sym (condition-linked entries _ _ holds.rest) ∙ is in
        let listed = are.rest condition said in
        let beside = enabling-at waits-as table.conditions.items says.enabling condition listed.0
        holds.conditions listed.1 listed.2 in
        record {
          enabling = beside.one;
          listed = beside.listed;
          is = ap (λ w. w.condition) beside.shows;
          enables = enabled-other signal condition beside.one.signals (is_for condition (condition_of table.rest))
              (for-own condition (condition_of table.rest) is) (ap (λ w. w.signals) beside.shows) found at;
        }
    waits-when signal condition None found false at is = cc

  when-enabled : (signal : SignalId) (condition : ConditionId) (who : enabled.Enabled) (b : Bool) →
      is_for condition (condition_of table.rest) ≡ b →
      enabled_value who ≡ (if b then others else these (waiting_for table.reactions condition count)) →
      IsEnabled process table who signal →
      condition_of (or_rest (named_reaction table.reactions signal) (is_member process.valid signal) table.rest)
      ≡ Some condition
  when-enabled signal condition (whom.Named list) true test same there = cc
  when-enabled signal condition (whom.Named list) false test same there =
      by (named_reaction table.reactions signal) (in-waiting table.reactions condition count signal
      (subst (λ l. Contains l signal) (ap listed_in same) there))
    where
      by : (named : Option Reaction) → condition_of named ≡ Some condition →
          condition_of (or_rest named (is_member process.valid signal) table.rest) ≡ Some condition
      by None is = cc
      by (Some reaction) is = is
  when-enabled signal condition whom.Rest true test same there =
      ap (λ named. condition_of (or_rest named (is_member process.valid signal) table.rest)) there.0
      ∙ ap (λ b. condition_of (or_rest None b table.rest)) there.1
      ∙ for-it condition (condition_of table.rest) test
  when-enabled signal condition whom.Rest false test same there = cc

  waits-so : (signal : SignalId) (condition : ConditionId) → WaitsFor process table signal condition →
      (choice_in process table signal).condition ≡ Some condition
  waits-so signal condition waits =
      let found = enabling-of waits-as table.conditions.items says.enabling waits.enabling waits.listed.0
      holds.conditions waits.listed.1 waits.listed.2 in
      let same : found.0 ≡ condition = sym (ap (λ w. w.condition) found.1) ∙ waits.is in
      let shows = found.1 ∙ ap waits-as same in
      when-enabled signal condition waits.enabling.signals (is_for condition (condition_of table.rest)) refl
      (ap (λ w. w.signals) shows) waits.enables

pub table-agrees : (entries : List NodeId) (valid : List Bool) (count : ℕ) (process : Process) →
    process.valid ≡ valid → length valid ≤ count → (says : Table) (table : StateTable) →
    IsTable entries valid count says table → Agrees process says table
table-agrees entries valid count process is long says table holds = record {
  selects = λ signal.
      selected entries valid count says table holds process is long signal (below-or-not signal.0 count);
  waits = λ are signal condition. (
    waits-when entries valid count says table holds process are signal condition
        (named_reaction table.reactions signal) refl (is_member process.valid signal) refl,
    waits-so entries valid count says table holds process signal condition,
  );
}

pub tables-agree : (entries : List NodeId) (valid : List Bool) (count : ℕ) (said : List Table)
    (made : List StateTable) →
    AllZip (IsTable entries valid count) said made → TablesAgree valid count said made
tables-agree entries valid count said made hold process is long = by said made hold
  where
    by : (said : List Table) (made : List StateTable) → AllZip (IsTable entries valid count) said made →
        AllZip (Agrees process) said made
    by [] [] hold = tt
    by [] (table ∷ made) hold = absurd hold
    by (says ∷ said) [] hold = absurd hold
    by (says ∷ said) (table ∷ made) hold =
        (table-agrees entries valid count process is long says table hold.0, by said made hold.1)
