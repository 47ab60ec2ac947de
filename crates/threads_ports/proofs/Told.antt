-- What rows tell, by the law of counts of `input_port`: a row is a flow whose signals are known by their number alone.
use Rattle.std.proofs.Common.{◌≡◌, ◌≢◌, ◌≤◌, ◌+◌, ◌∙◌, sym, refl, ap, subst, inl, inr, ⊎_elim, arith, ℕ, Bool, true}
use Rattle.std.proofs.Common.{false, cond, List, [], ◌∷◌, ◌++◌, All, length, append-nil, append_assoc, length-append}
use Rattle.std.proofs.Common.{count_by}
use Rattle.std.proofs.lemmas.List.Elements.{All-nil, All-cons, All-head, All-tail, All-weaker}
use Rattle.port_model.specs.Ends.{is_signal}
use Rattle.port_model.specs.Put.{of}
use Rattle.port_model.specs.declared.inbox.placed.Placed.{Placed}
use Rattle.input_port.proofs.Counting.{counts_tell, no_fewer}
use Rattle.input_port.proofs.PutLists.{of-append}
use Rattle.input_port.specs.Counts as counts
use Rattle.input_port.specs.Counts.{AllIsDrawn as AreDrawn, Flow, FlowsInto, IsOfOne, put_by_all, sent_by, signals_in}
use Rattle.port_model.specs.Same.{same_pid, same_pid-Decides}
use Rattle.port_model.specs.declared.values.item.Item.{Item}
use Rattle.port_model.specs.declared.values.pid.Pid.{Pid}
use Rattle.threads_ports.proofs.Signals.{count_by-signals, signals_in-append}
use Rattle.threads_ports.specs.Rows.{AllIsDrawn, AreApart, EndsAreDrawn, EndsWith, Holds, IsOfRow, IsOther}
use Rattle.threads_ports.specs.Rows.{NoFewerAreDrawn, NoOtherIsDrawn, NothingMoreIsDrawn, Row, RowsStay, told_by_all}
use Rattle.threads_ports.specs.Rows.{told_of}

-- ---- rows as flows

module _ (sends : Pid → List Item) (drawn : List Placed) where
  abbrev flow_of : (row : Row) → Holds sends drawn row → Flow
  flow_of row holds = record { origin = row.origin; number = row.number; put = holds.put }

  abbrev flows_of : (rows : List Row) → All (Holds sends drawn) rows → List Flow
  flows_of [] all = []
  flows_of (row ∷ rows) all =
      flow_of row (All-head (Holds sends drawn) row rows all)
      ∷ flows_of rows (All-tail (Holds sends drawn) row rows all)

  flows_into : (rows : List Row) (all : All (Holds sends drawn) rows) → All (FlowsInto drawn) (flows_of rows all)
  flows_into [] all = All-nil (FlowsInto drawn)
  flows_into (row ∷ rows) all =
      let here = All-head (Holds sends drawn) row rows all in
      let rest = All-tail (Holds sends drawn) row rows all in
      All-cons (FlowsInto drawn) (flow_of row here) (flows_of rows rest) here.flows (flows_into rows rest)

  other_flows : (row : Row) (rows : List Row) (all : All (Holds sends drawn) rows) → All (IsOther row) rows
      → All (λ (other : Flow). (other.number ≢ row.number) × (other.origin ≢ row.origin)) (flows_of rows all)
  other_flows row [] all others = All-nil (λ (other : Flow). (other.number ≢ row.number) × (other.origin ≢ row.origin))
  other_flows row (next ∷ rows) all others =
      let here = All-head (Holds sends drawn) next rows all in
      let rest = All-tail (Holds sends drawn) next rows all in
      All-cons (λ (other : Flow). (other.number ≢ row.number) × (other.origin ≢ row.origin))
      (flow_of next here) (flows_of rows rest) (All-head (IsOther row) next rows others)
      (other_flows row rows rest (All-tail (IsOther row) next rows others))

  flows_apart : (rows : List Row) (all : All (Holds sends drawn) rows) → AreApart rows
      → counts.AreApart (flows_of rows all)
  flows_apart [] all apart = tt
  flows_apart (row ∷ rows) all apart =
      let rest = All-tail (Holds sends drawn) row rows all in
      (other_flows row rows rest apart.0, flows_apart rows rest apart.1)

  put_by_flows : (rows : List Row) (all : All (Holds sends drawn) rows)
      → put_by_all (flows_of rows all) ≡ told_by_all rows
  put_by_flows [] all = refl
  put_by_flows (row ∷ rows) all =
      let here = All-head (Holds sends drawn) row rows all in
      let rest = All-tail (Holds sends drawn) row rows all in
      ap (λ n. n + put_by_all (flows_of rows rest)) here.many ∙ ap (λ n. row.sent + n) (put_by_flows rows rest)

  flows_drawn : (rows : List Row) (all : All (Holds sends drawn) rows) → AreApart rows
      → count_by is_signal drawn ≤ told_by_all rows → AreDrawn drawn (flows_of rows all)
  flows_drawn rows all apart few =
      counts_tell drawn (flows_of rows all) (flows_into rows all) (flows_apart rows all apart)
      (subst (λ n. count_by is_signal drawn ≤ n) (sym (put_by_flows rows all)) few)

  row_of_flow : (rows : List Row) (all : All (Holds sends drawn) rows) (item : Item) → IsOfOne (flows_of rows all) item
      → IsOfRow rows item
  row_of_flow [] all item of_one = of_one
  row_of_flow (row ∷ rows) all item of_one =
      let rest = All-tail (Holds sends drawn) row rows all in
      ⊎_elim (λ (is : item.sender ≡ row.origin). inl is)
      (λ (more : IsOfOne (flows_of rows rest) item). inr (row_of_flow rows rest item more)) of_one

  of_rows : (rows : List Row) → All (Holds sends drawn) rows → AreApart rows
      → count_by is_signal drawn ≤ told_by_all rows → All (IsOfRow rows) (signals_in drawn)
  of_rows rows all apart few =
      All-weaker (IsOfOne (flows_of rows all)) (IsOfRow rows) (row_of_flow rows all) (signals_in drawn)
      (flows_drawn rows all apart few).no_other

-- ---- an origin without a row

abbrev HasNone : Pid → List Row → Type 0
HasNone origin [] = Unit {0}
HasNone origin (row ∷ rows) = (row.origin ≢ origin) × HasNone origin rows

of_another : (origin : Pid) (rows : List Row) → HasNone origin rows → (item : Item) → IsOfRow rows item
    → item.sender ≢ origin
of_another origin [] none item of_row = absurd of_row
of_another origin (row ∷ rows) none item of_row = λ e.
    ⊎_elim (λ (is : item.sender ≡ row.origin). none.0 (sym is ∙ e))
    (λ (more : IsOfRow rows item). of_another origin rows none.1 item more e) of_row

not_same : (a o : Pid) (b : Bool) → same_pid a o ≡ b → a ≢ o → b ≡ false
not_same a o true is other = absurd (other ((same_pid-Decides a o).0 is))
not_same a o false is other = refl

sent_by-none : (origin : Pid) (xs : List Item) → All (λ item. item.sender ≢ origin) xs → sent_by origin xs ≡ []
sent_by-none origin [] all = refl
sent_by-none origin (x ∷ xs) all =
    let here = All-head (λ (item : Item). item.sender ≢ origin) x xs all in
    ap (λ b. cond b (x ∷ sent_by origin xs) (sent_by origin xs))
    (not_same x.sender origin (same_pid x.sender origin) refl here)
    ∙ sent_by-none origin xs (All-tail (λ (item : Item). item.sender ≢ origin) x xs all)

-- ---- each origin

module _ (sends : Pid → List Item) (drawn : List Placed) where
  -- of this origin the end of what it sends was drawn, so many signals
  abbrev EndOf : Pid → ℕ → Type 0
  EndOf origin many =
      EndsWith (sends origin) (sent_by origin (signals_in drawn)) × (length (sent_by origin (signals_in drawn)) ≡ many)

  end_by : (origin : Pid) (row : Row) (many : ℕ) (holds : Holds sends drawn row) (b : Bool)
      → same_pid row.origin origin ≡ b → sent_by row.origin (signals_in drawn) ≡ holds.put → (row.origin ≢ origin → EndOf origin many)
      → EndOf origin (cond b row.sent many)
  end_by origin row many holds true is just elsewhere =
      let same = (same_pid-Decides row.origin origin).0 is in
      let mine = subst (λ (o : Pid). sent_by o (signals_in drawn) ≡ holds.put) same just in
      let whole = ap sends (sym same) ∙ holds.end.1 ∙ ap (λ l. holds.end.0 ++ l) (sym mine) in
      ((holds.end.0, whole), ap length mine ∙ holds.many)
  end_by origin row many holds false is just elsewhere =
      elsewhere (λ e. (let both : false ≡ true = sym is ∙ (same_pid-Decides row.origin origin).1 e in cc))

  end_of : (origin : Pid) (rows : List Row) (all : All (Holds sends drawn) rows)
      → All (λ flow. sent_by flow.origin (signals_in drawn) ≡ flow.put) (flows_of sends drawn rows all)
      → (HasNone origin rows → sent_by origin (signals_in drawn) ≡ []) → EndOf origin (told_of origin rows)
  end_of origin [] all each none = (
    (sends origin, sym (append-nil (sends origin)) ∙ ap (λ l. sends origin ++ l) (sym (none tt))),
    ap length (none tt),
  )
  end_of origin (row ∷ rows) all each none =
      let here = All-head (Holds sends drawn) row rows all in
      let rest = All-tail (Holds sends drawn) row rows all in
      let first = All-head (λ (flow : Flow). sent_by flow.origin (signals_in drawn) ≡ flow.put)
      (flow_of sends drawn row here) (flows_of sends drawn rows rest) each in
      let later = All-tail (λ (flow : Flow). sent_by flow.origin (signals_in drawn) ≡ flow.put)
      (flow_of sends drawn row here) (flows_of sends drawn rows rest) each in
      end_by origin row (told_of origin rows) here (same_pid row.origin origin) refl first
      (λ other. end_of origin rows rest later (λ more. none (other, more)))

-- ---- the laws

just_whole : (xs missing ys : List Item) → xs ≡ missing ++ ys → length ys ≡ length xs → ys ≡ xs
just_whole xs [] ys is many = sym is
just_whole xs (x ∷ missing) ys is many =
    let long = ap length is ∙ length-append (x ∷ missing) ys in absurd (omega arith)

none_left : (xs : List Item) → length xs ≤ 0 → xs ≡ []
none_left [] few = refl
none_left (x ∷ xs) few = absurd (omega arith)

pub no_other_is_drawn : NoOtherIsDrawn
no_other_is_drawn sends drawn rows all apart few = of_rows sends drawn rows all apart few

pub ends_are_drawn : EndsAreDrawn
ends_are_drawn sends drawn rows all apart few origin =
    let of_row = of_rows sends drawn rows all apart few in
    let none = λ (has : HasNone origin rows). sent_by-none origin (signals_in drawn)
    (All-weaker (IsOfRow rows) (λ (item : Item). item.sender ≢ origin) (of_another origin rows has)
    (signals_in drawn) of_row) in
    let end = end_of sends drawn origin rows all (flows_drawn sends drawn rows all apart few).each none in
    record { end = end.0; many = end.1 }

pub all_is_drawn : AllIsDrawn
all_is_drawn sends drawn rows all apart few origin told =
    let end = ends_are_drawn sends drawn rows all apart few origin in
    just_whole (sends origin) end.end.0 (sent_by origin (signals_in drawn)) end.end.1 (end.many ∙ told)

pub no_fewer_are_drawn : NoFewerAreDrawn
no_fewer_are_drawn sends drawn rows all apart =
    subst (λ n. n ≤ count_by is_signal drawn) (put_by_flows sends drawn rows all)
    (no_fewer drawn (flows_of sends drawn rows all) (flows_into sends drawn rows all)
    (flows_apart sends drawn rows all apart))

pub nothing_more_is_drawn : NothingMoreIsDrawn
nothing_more_is_drawn sends drawn rows all apart later few =
    let least = no_fewer_are_drawn sends drawn rows all apart in
    let before = count_by-signals drawn in
    let both = count_by-signals (drawn ++ later)
    ∙ ap length (signals_in-append drawn later) ∙ length-append (signals_in drawn) (signals_in later) in
    none_left (signals_in later) (omega arith)

pub rows_stay : RowsStay
rows_stay sends drawn more row starts holds =
    let rest = signals_in (of row.number starts.0) in
    let parts = ap (λ l. signals_in (of row.number l)) starts.1
    ∙ ap signals_in (of-append row.number drawn starts.0)
    ∙ signals_in-append (of row.number drawn) (of row.number starts.0) in
    record {
      put = holds.put;
      many = holds.many;
      flows = record {
        own = holds.flows.own;
        more = holds.flows.more ++ rest;
        first = parts ∙ ap (λ l. l ++ rest) holds.flows.first ∙ append_assoc holds.put holds.flows.more rest;
      };
      end = holds.end;
    }
