-- Entries of a record, and the events that they are.
use Rattle.std.proofs.Common.{◌≡◌, ℕ, ◌==◌, ◌+◌, ◌-◌, ◌*◌, ◌<◌, ◌≤◌, Bool, true, false, cond, List, [], ◌∷◌, ◌++◌, length, take, drop, refl, sym, ◌∙◌, ap, arith, append_assoc, append-nil, length-append, zero-add}
use Rattle.std.proofs.lemmas.Bool.{eq-eqb, eqb-true}
use Rattle.std.proofs.lemmas.List.{drop-append-le, length-drop, nil_from_length, take-append-le, take_all}
use Rattle.port_model.specs.declared.values.item.SignalId.{SignalId}
use Rattle.port_model.specs.declared.values.value.Value.{Value}
use Rattle.port_model.specs.declared.values.pid.Pid.{Pid}
use Rattle.sdl_system.specs.declared.id.ProcessId.{ProcessId}
use Rattle.run_record.specs.Entry.{got_from}
use Rattle.run_record.specs.Event as event
use Rattle.run_record.specs.Event.{values_got, values_of}
use Rattle.run_record.specs.Packed.{IsPacked, count_of, counted, ends_in_event, is_event, origin_of, time_after, time_in, time_to, told, told_at}
use Rattle.run_record.specs.Record.{RecordValue, noted}
use Rattle.run_record.specs.declared.entry.Origin as origin
use Rattle.run_record.specs.declared.entry.Origin.TheVariants as from
use Rattle.run_record.specs.declared.packed.Packed as packed
use Rattle.run_record.specs.declared.packed.Packed.TheVariants as pack

-- ---- one entry

-- what was got with some values has these
values_got-from : (where_from : origin.Origin) (name : SignalId) (values : List Value)
    → values_got (got_from where_from name values) ≡ values
values_got-from from.Timer name values = refl
values_got-from from.Null name values = refl
values_got-from from.Env name values = refl
values_got-from (from.Instance number) name values = refl

-- an entry that counts no values has none
none : (values : List Value) → 0 ≡ length values → [] ≡ values
none values counts = sym (nil_from_length values (sym counts))

same_values : (e one : event.Event) (values : List Value) → e ∷ [] ≡ one ∷ [] → values_of e ≡ values
    → values_of one ≡ values
same_values e one values is fact = let same : e ≡ one = cc in ap values_of (sym same) ∙ fact

-- an event has the values that its entry counts
pub values_of-event : (time : ℕ) (one : packed.Packed) (values : List Value) (e : event.Event)
    → told_at time one values ≡ e ∷ [] → count_of one ≡ length values → values_of e ≡ values
values_of-event time (pack.Time at) values e is counts = let wrong : ⊥ = cc in absurd wrong
values_of-event time (pack.Consumed origin count name number) values e is counts =
    same_values _ e values is (values_got-from (origin_of origin number) name values)
values_of-event time (pack.Prior origin count name number) values e is counts =
    same_values _ e values is (values_got-from (origin_of origin number) name values)
values_of-event time (pack.Discarded origin count name number) values e is counts =
    same_values _ e values is (values_got-from (origin_of origin number) name values)
values_of-event time (pack.OutputOnPath reached count signal number) values e is counts = same_values _ e values is refl
values_of-event time (pack.OutputToProcess reached count signal process number) values e is counts =
    same_values _ e values is refl
values_of-event time (pack.OutputToNull reached count signal number) values e is counts = same_values _ e values is refl
values_of-event time (pack.OutputToEnv reached count signal number) values e is counts = same_values _ e values is refl
values_of-event time (pack.OutputToInstance reached count signal pid number) values e is counts =
    same_values _ e values is refl
values_of-event time (pack.Set count timer due) values e is counts = same_values _ e values is refl
values_of-event time (pack.Reset count timer) values e is counts = same_values _ e values is refl
values_of-event time pack.Start values e is counts = same_values _ e values is (none values counts)
values_of-event time (pack.Provided number) values e is counts = same_values _ e values is (none values counts)
values_of-event time (pack.FailedAt why) values e is counts = same_values _ e values is (none values counts)
values_of-event time (pack.TaskInt variable value) values e is counts = same_values _ e values is (none values counts)
values_of-event time (pack.TaskTime variable value) values e is counts = same_values _ e values is (none values counts)
values_of-event time (pack.TaskDuration variable value) values e is counts =
    same_values _ e values is (none values counts)
values_of-event time (pack.TaskBool value variable) values e is counts = same_values _ e values is (none values counts)
values_of-event time (pack.TaskPid variable value) values e is counts = same_values _ e values is (none values counts)
values_of-event time (pack.Create process pid) values e is counts = same_values _ e values is (none values counts)
values_of-event time (pack.NextState state) values e is counts = same_values _ e values is (none values counts)
values_of-event time pack.Stop values e is counts = same_values _ e values is (none values counts)
values_of-event time (pack.Failed why) values e is counts = same_values _ e values is (none values counts)
values_of-event time (pack.Rest state) values e is counts = same_values _ e values is (none values counts)
values_of-event time (pack.Cut state) values e is counts = same_values _ e values is (none values counts)

-- an event leaves the time as it is
pub time_after-event : (time : ℕ) (one : packed.Packed) → is_event one ≡ true → time_after time one ≡ time
time_after-event time (pack.Time at) is = let wrong : ⊥ = cc in absurd wrong
time_after-event time one is = refl

-- an entry is one event at most
pub length-event : (time : ℕ) (one : packed.Packed) (values : List Value)
    → length (told_at time one values) ≡ cond (is_event one) 1 0
length-event time (pack.Time at) values = refl
length-event time one values = refl

-- ---- entries after others

pub counted-append : (front back : List packed.Packed) → counted (front ++ back) ≡ counted front + counted back
counted-append [] back = sym (zero-add (counted back))
counted-append (first ∷ rest) back = let more = counted-append rest back in omega arith

pub time_in-append : (time : ℕ) (front back : List packed.Packed)
    → time_in time (front ++ back) ≡ time_in (time_in time front) back
time_in-append time [] back = refl
time_in-append time (first ∷ rest) back = time_in-append (time_after time first) rest back

pub ends-push : (before : List packed.Packed) (last : packed.Packed)
    → ends_in_event (before ++ last ∷ []) ≡ is_event last
ends-push [] last = refl
ends-push (one ∷ []) last = refl
ends-push (one ∷ next ∷ rest) last = ends-push (next ∷ rest) last

-- their events come after those of the others
pub told-append : (time : ℕ) (front back : List packed.Packed) (values more : List Value)
    → counted front ≡ length values
    → told time (front ++ back) (values ++ more) ≡ told time front values ++ told (time_in time front) back more
told-append time [] back values more counts =
    ap (λ (l : List Value). told time back (l ++ more)) (nil_from_length values (sym counts))
told-append time (first ∷ rest) back values more counts =
    let count = count_of first in
    let after = time_after time first in
    let within : count ≤ length values = omega arith in
    let left : counted rest ≡ length (drop count values) = omega (arith, length-drop count values) in
    ap (λ l. told_at time first l ++ told after (rest ++ back) (drop count (values ++ more)))
    (take-append-le count values more within)
    ∙ ap (λ l. told_at time first (take count values) ++ told after (rest ++ back) l)
    (drop-append-le count values more within)
    ∙ ap (λ l. told_at time first (take count values) ++ l)
    (told-append after rest back (drop count values) more left)
    ∙ sym (append_assoc (told_at time first (take count values)) (told after rest (drop count values))
    (told (time_in after rest) back more))

pub length-told : (time : ℕ) (entries : List packed.Packed) (values : List Value)
    → length (told time entries values) ≤ length entries
length-told time [] values = omega arith
length-told time (first ∷ rest) values =
    let own = told_at time first (take (count_of first) values) in
    let later = told (time_after time first) rest (drop (count_of first) values) in
    let all : length (own ++ later) ≡ length own + length later = length-append own later in
    let one : length own ≤ 1 =
    at_most_one (is_event first) (length own) (length-event time first (take (count_of first) values)) in
    let more : length later ≤ length rest = length-told (time_after time first) rest (drop (count_of first) values) in
    omega (arith, all, one, more)
  where
    at_most_one : (b : Bool) (n : ℕ) → n ≡ cond b 1 0 → n ≤ 1
    at_most_one true n is = omega (arith, is)
    at_most_one false n is = omega (arith, is)

-- ---- the entry of a time

pub time_to-same : (time at : ℕ) → at ≡ time → time_to time at ≡ []
time_to-same time at is = ap (λ b. cond b [] (pack.Time at ∷ [])) (eq-eqb at time is)

pub time_to-other : (time at : ℕ) → (at ≡ time → ⊥) → time_to time at ≡ pack.Time at ∷ []
time_to-other time at is = by (at == time) refl
  where
    by : (b : Bool) → (at == time) ≡ b → cond b [] (pack.Time at ∷ []) ≡ pack.Time at ∷ []
    by true same = absurd (is (eqb-true at time same))
    by false other = refl

-- by whether it is the time from before
times-told : (same : Bool) (time at : ℕ) → told time (cond same [] (pack.Time at ∷ [])) [] ≡ []
times-told true time at = refl
times-told false time at = refl

times-counted : (same : Bool) (at : ℕ) → counted (cond same [] (pack.Time at ∷ [])) ≡ 0
times-counted true at = refl
times-counted false at = refl

times-length : (same : Bool) (at : ℕ) → length (cond same [] (pack.Time at ∷ [])) ≤ 1
times-length true at = omega arith
times-length false at = omega arith

times-time : (same : Bool) (time at : ℕ) → (at == time) ≡ same
    → time_in time (cond same [] (pack.Time at ∷ [])) ≡ at
times-time true time at is = sym (eqb-true at time is)
times-time false time at is = refl

-- ---- an event more

module _ (entries : List packed.Packed) (values own : List Value) (time len most values_room at : ℕ)
    (entries_capacity values_capacity : ℕ) (entry : packed.Packed)
    (are : IsPacked entries values time len most values_room entries_capacity values_capacity)
    (counts : count_of entry ≡ length own) (is_one : is_event entry ≡ true) where
  front_counts : counted (entries ++ time_to time at) ≡ length values
  front_counts =
      counted-append entries (time_to time at) ∙ ap (λ n. counted entries + n) (times-counted (at == time) at)
      ∙ (let all = are.counts in omega arith)

  front_time : time_in 0 (entries ++ time_to time at) ≡ at
  front_time =
      time_in-append 0 entries (time_to time at) ∙ ap (λ n. time_in n (time_to time at)) are.time_is
      ∙ times-time (at == time) time at refl

  front_told : told 0 (entries ++ time_to time at) values ≡ told 0 entries values
  front_told =
      ap (told 0 (entries ++ time_to time at)) (sym (append-nil values))
      ∙ told-append 0 entries (time_to time at) values [] are.counts
      ∙ ap (λ l. told 0 entries values ++ l) (times-told (at == time) (time_in 0 entries) at)
      ∙ append-nil (told 0 entries values)

  told-more : told 0 ((entries ++ time_to time at) ++ entry ∷ []) (values ++ own)
      ≡ told 0 entries values ++ told_at at entry own
  told-more =
      told-append 0 (entries ++ time_to time at) (entry ∷ []) values own front_counts
      ∙ ap (λ l. l ++ told (time_in 0 (entries ++ time_to time at)) (entry ∷ []) own) front_told
      ∙ ap (λ n. told 0 entries values ++ told n (entry ∷ []) own) front_time
      ∙ ap (λ l. told 0 entries values ++ l)
      (append-nil (told_at at entry (take (count_of entry) own)))
      ∙ ap (λ l. told 0 entries values ++ told_at at entry l)
      (take_all (count_of entry) own (omega (arith, counts)))

  -- it is told after the others
  pub told-noted : (one : event.Event) → told_at at entry own ≡ one ∷ []
      → told 0 ((entries ++ time_to time at) ++ entry ∷ []) (values ++ own) ≡ told 0 entries values ++ one ∷ []
  told-noted one is = told-more ∙ ap (λ l. told 0 entries values ++ l) is

  -- and the parts are as they are to be
  pub IsPacked-more : 0 < most - len → length own ≤ values_room
      → IsPacked ((entries ++ time_to time at) ++ entry ∷ []) (values ++ own) at (len + 1) most
      (values_room - length own) entries_capacity values_capacity
  IsPacked-more room fits = record {
    counts = counted-append (entries ++ time_to time at) (entry ∷ [])
        ∙ (let many = length-append values own in let before = front_counts in omega (arith, many, before, counts));
    time_is = time_in-append 0 (entries ++ time_to time at) (entry ∷ [])
        ∙ ap (λ n. time_after n entry) front_time ∙ time_after-event at entry is_one;
    ends = ends-push (entries ++ time_to time at) entry ∙ is_one;
    len_is = ap length told-more
        ∙ length-append (told 0 entries values) (told_at at entry own)
        ∙ ap (λ n. n + length (told_at at entry own)) are.len_is
        ∙ ap (λ n. len + n) (length-event at entry own ∙ ap (λ b. cond b 1 0) is_one);
    within = omega (arith, room);
    entries_fit =
        let all = length-append (entries ++ time_to time at) (entry ∷ []) in
        let before = length-append entries (time_to time at) in
        let one : length (time_to time at) ≤ 1 = times-length (at == time) at in
        let fit = are.entries_fit in omega (arith, all, before, one, fit, room);
    values_fit = let many = length-append values own in let fit = are.values_fit in omega (arith, many, fit, fits);
  }

-- ---- room

pub IsPacked-new : (entries : List packed.Packed) (values : List Value) (entries_capacity values_capacity : ℕ)
    → entries ≡ [] → values ≡ [] → IsPacked entries values 0 0 0 0 entries_capacity values_capacity
IsPacked-new entries values entries_capacity values_capacity no_entry no_value =
    rw (no_entry, no_value)
    (record {
      counts = refl;
      time_is = refl;
      ends = refl;
      len_is = refl;
      within = omega arith;
      entries_fit = omega arith;
      values_fit = omega arith;
    })

-- there is room for other events
pub IsPacked-room : (entries entries' : List packed.Packed) (values : List Value) (time len most most' values_room : ℕ)
    (entries_capacity entries_capacity' values_capacity : ℕ)
    → IsPacked entries values time len most values_room entries_capacity values_capacity → entries' ≡ entries
    → len ≤ most' → length entries + 2 * (most' - len) ≤ entries_capacity'
    → IsPacked entries' values time len most' values_room entries_capacity' values_capacity
IsPacked-room entries entries' values time len most most' values_room entries_capacity entries_capacity'
    values_capacity are same within fits =
    rw same
    (record {
      counts = are.counts;
      time_is = are.time_is;
      ends = are.ends;
      len_is = are.len_is;
      within = within;
      entries_fit = fits;
      values_fit = are.values_fit;
    })

-- ---- what callers see of an event more

pub noted-is : (process : ProcessId) (pid : ℕ) (parent : Pid) (events events' : List event.Event)
    (room room' values values' : ℕ) (one : event.Event) → events' ≡ events ++ one ∷ [] → room' ≡ room - 1
    → values' ≡ values - length (values_of one)
    → ◌≡◌ {A = RecordValue}
    (record { process = process; pid = pid; parent = parent; events = events'; room = room'; values_room = values' })
    (noted
    (record { process = process; pid = pid; parent = parent; events = events; room = room; values_room = values })
    one)
noted-is process pid parent events events' room room' values values' one e r v = rw (e, r, v) refl
