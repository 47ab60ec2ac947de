-- Whom the outputs of the last events reach.
use Rattle.std.proofs.Common.{◌≡◌, ℕ, ◌+◌, ◌-◌, ◌<◌, ◌≤◌, Bool, true, false, cond, List, [], ◌∷◌, ◌++◌, length, take, drop, min, refl, sym, ◌∙◌, ap, arith, append_assoc, append-nil, length-append, option_to_list, take-append-drop, inl, inr, ⊎_elim, ◌⊎◌, zero-add}
use Rattle.std.specs.Int.{from_bool}
use Rattle.std.proofs.lemmas.Bool.{cases_lt}
use Rattle.std.proofs.lemmas.List.{drop_all, drop_at, length-drop, length-take, nil_from_length, take_at}
use Rattle.port_model.specs.declared.values.item.SignalId.{SignalId}
use Rattle.port_model.specs.declared.values.value.Value.{Value}
use Rattle.port_model.specs.declared.values.pid.Pid.TheVariants as who
use Rattle.sdl_system.specs.declared.route.Dest.{Dest}
use Rattle.sdl_system.specs.declared.route.Dest.TheVariants as to
use Rattle.sdl_system.specs.declared.route.Target as reached
use Rattle.sdl_system.specs.declared.route.Target.TheVariants as target
use Rattle.run_record.specs.Event as event
use Rattle.run_record.specs.Event.{receiver_of, receivers}
use Rattle.run_record.specs.Packed.{IsOfOneTime, count_of, counted, events_in, instance_of, is_event, receiver_in, receivers_in, target_of, time_after, time_in, told, told_at}
use Rattle.run_record.specs.declared.packed.Packed as packed
use Rattle.run_record.specs.declared.packed.Packed.TheVariants as pack
use Rattle.run_record.proofs.PackedLemmas.{counted-append, length-event, time_in-append, told-append}

-- ---- whom entries reach, and their events

reached-by : (signal : SignalId) (named : Dest) (values : List Value) (to_whom : reached.Target)
    → receiver_of (event.Output signal named values to_whom) ≡ instance_of to_whom
reached-by signal named values (target.Instance number) = refl
reached-by signal named values target.Env = refl
reached-by signal named values target.Null = refl
reached-by signal named values target.Nobody = refl

one-output : (signal : SignalId) (named : Dest) (values : List Value) (to_whom : reached.Target)
    → receivers (event.Output signal named values to_whom ∷ []) ≡ option_to_list (instance_of to_whom)
one-output signal named values to_whom =
    append-nil (option_to_list (receiver_of (event.Output signal named values to_whom)))
    ∙ ap option_to_list (reached-by signal named values to_whom)

receivers-one : (time : ℕ) (one : packed.Packed) (own : List Value)
    → receivers (told_at time one own) ≡ option_to_list (receiver_in one)
receivers-one time (pack.Time at) own = refl
receivers-one time (pack.OutputOnPath kind count signal number) own =
    one-output signal to.Path own (target_of kind number)
receivers-one time (pack.OutputToProcess kind count signal process number) own =
    one-output signal (to.Process process) own (target_of kind number)
receivers-one time (pack.OutputToNull kind count signal number) own =
    one-output signal (to.Pid who.Null) own (target_of kind number)
receivers-one time (pack.OutputToEnv kind count signal number) own =
    one-output signal (to.Pid who.Env) own (target_of kind number)
receivers-one time (pack.OutputToInstance kind count signal pid number) own =
    one-output signal (to.Pid (who.Of pid)) own (target_of kind number)
receivers-one time one own = refl

receivers-append : (front back : List event.Event) → receivers (front ++ back) ≡ receivers front ++ receivers back
receivers-append [] back = refl
receivers-append (one ∷ rest) back =
    ap (λ l. option_to_list (receiver_of one) ++ l) (receivers-append rest back)
    ∙ sym (append_assoc (option_to_list (receiver_of one)) (receivers rest) (receivers back))

receivers-told : (time : ℕ) (entries : List packed.Packed) (values : List Value)
    → receivers (told time entries values) ≡ receivers_in entries
receivers-told time [] values = refl
receivers-told time (first ∷ rest) values =
    let own = take (count_of first) values in
    let later = drop (count_of first) values in
    let after = time_after time first in
    receivers-append (told_at time first own) (told after rest later)
    ∙ ap (λ l. l ++ receivers (told after rest later)) (receivers-one time first own)
    ∙ ap (λ l. option_to_list (receiver_in first) ++ l) (receivers-told after rest later)

-- ---- how many events there are

pub length-events : (time : ℕ) (entries : List packed.Packed) (values : List Value)
    → length (told time entries values) ≡ events_in entries
length-events time [] values = refl
length-events time (first ∷ rest) values =
    let own = take (count_of first) values in
    let later = drop (count_of first) values in
    let after = time_after time first in
    length-append (told_at time first own) (told after rest later)
    ∙ ap (λ n. n + length (told after rest later)) (length-event time first own)
    ∙ ap (λ n. cond (is_event first) 1 0 + n) (length-events after rest later)

events_in-append : (front back : List packed.Packed) → events_in (front ++ back) ≡ events_in front + events_in back
events_in-append [] back = sym (zero-add (events_in back))
events_in-append (first ∷ rest) back = let more = events_in-append rest back in omega (arith, more)

-- ---- back from the last entry

-- an entry is one event at most
pub one-within : (b : Bool) (n left : ℕ) → n ≡ from_bool b → 0 < left → n ≤ left
one-within true n left is some = omega (arith, is, some)
one-within false n left is some = omega (arith, is, some)

module _ (entries before others : List packed.Packed) (last : packed.Packed)
    (front : before ≡ take (length before) entries) (is : before ≡ others ++ last ∷ []) where
  whole : entries ≡ others ++ last ∷ drop (length before) entries
  whole =
      sym (take-append-drop (length before) entries)
      ∙ ap (λ l. l ++ drop (length before) entries) (sym front ∙ is)
      ∙ append_assoc others (last ∷ []) (drop (length before) entries)

  pub back-front : others ≡ take (length others) entries
  back-front =
      sym (take_at others (last ∷ drop (length before) entries) (length others) refl)
      ∙ ap (take (length others)) (sym whole)

  back-rest : drop (length others) entries ≡ last ∷ drop (length before) entries
  back-rest =
      ap (drop (length others)) whole ∙ drop_at others (last ∷ drop (length before) entries) (length others) refl

  -- one event less is to be found, if it's one
  pub back-events : (left count n : ℕ) → n ≡ from_bool (is_event last) → 0 < left
      → events_in (drop (length before) entries) + left ≡ count
      → events_in (drop (length others) entries) + (left - n) ≡ count
  back-events left count n some more was =
      ap (λ l. events_in l + (left - n)) back-rest
      ∙ by (is_event last) (events_in (drop (length before) entries)) some was where
        by : (b : Bool) (events : ℕ) → n ≡ from_bool b → events + left ≡ count
            → cond b 1 0 + events + (left - n) ≡ count
        by true events some was = omega (arith, some, was, more)
        by false events some was = omega (arith, some, was, more)

pub front-within : (entries before : List packed.Packed) → before ≡ take (length before) entries
    → length before ≤ length entries
front-within entries before front =
    let long : length before ≡ length (take (length before) entries) = ap length front in
    omega (arith, long, length-take (length before) entries)

-- what is left is the end of all
pub end-is : (entries before : List packed.Packed) → before ≡ take (length before) entries
    → drop (length before) entries ≡ drop (length entries - length (drop (length before) entries)) entries
end-is entries before front =
    let short = front-within entries before front in
    let place : length before ≡ length entries - length (drop (length before) entries) =
    omega (arith, short, length-drop (length before) entries) in
    ap (λ n. drop n entries) place

pub all-is : (entries : List packed.Packed) → entries ≡ drop (length entries - length entries) entries
all-is entries = let none : 0 ≡ length entries - length entries = omega arith in ap (λ n. drop n entries) none

pub end-events : (entries before : List packed.Packed) (left count : ℕ) → left ≡ 0
    → events_in (drop (length before) entries) + left ≡ count
    → events_in (drop (length before) entries) ≡ min count (events_in entries)
end-events entries before left count none was =
    let back = drop (length before) entries in
    let all : events_in entries ≡ events_in (take (length before) entries) + events_in back =
    ap events_in (sym (take-append-drop (length before) entries))
    ∙ events_in-append (take (length before) entries) back in
    omega (arith, none, was, all)

pub all-events : (entries before : List packed.Packed) (left count : ℕ) → length before ≡ 0
    → events_in (drop (length before) entries) + left ≡ count → events_in entries ≡ min count (events_in entries)
all-events entries before left count none was =
    let all : events_in entries + left ≡ count = ap (λ n. events_in (drop n entries) + left) (sym none) ∙ was in
    omega (arith, all)

-- ---- so of a record

drop-front : {X : Type 0} (front back : List X) (n : ℕ) → (length front ≡ n) ⊎ ((length back ≡ 0) × (length front ≤ n))
    → drop n (front ++ back) ≡ back
drop-front front back n =
    ⊎_elim (λ (here : length front ≡ n). drop_at front back n here)
    (λ (past : (length back ≡ 0) × (length front ≤ n)).
    let none = nil_from_length back past.0 in
    drop_all n (front ++ back) (omega (arith, past.0, past.1, length-append front back)) ∙ sym none)

-- the last entries, and the values before theirs
pub front-counted : (entries back : List packed.Packed) (values : List Value) → counted entries ≡ length values
    → back ≡ drop (length entries - length back) entries
    → counted (take (length entries - length back) entries) + counted back ≡ length values
front-counted entries back values counts back_is =
    let n = length entries - length back in
    let front = take n entries in
    let whole : entries ≡ front ++ back = sym (take-append-drop n entries) ∙ ap (λ l. front ++ l) (sym back_is) in
    sym (counted-append front back) ∙ sym (ap counted whole) ∙ counts

-- the last entries are of the time of all, if none of them is a time
pub front-time : (entries back : List packed.Packed) → back ≡ drop (length entries - length back) entries
    → IsOfOneTime back → time_in 0 (take (length entries - length back) entries) ≡ time_in 0 entries
front-time entries back back_is one =
    let n = length entries - length back in
    let front = take n entries in
    let whole : entries ≡ front ++ back = sym (take-append-drop n entries) ∙ ap (λ l. front ++ l) (sym back_is) in
    sym (ap (time_in 0) whole ∙ time_in-append 0 front back ∙ one (time_in 0 front))

-- what the last entries tell
pub told-from : (entries back : List packed.Packed) (values : List Value) (len begin count : ℕ)
    → counted entries ≡ length values → length (told 0 entries values) ≡ len → count ≡ len - begin
    → back ≡ drop (length entries - length back) entries → events_in back ≡ min count (events_in entries)
    → drop begin (told 0 entries values)
    ≡ told (time_in 0 (take (length entries - length back) entries)) back
    (drop (counted (take (length entries - length back) entries)) values)
told-from entries back values len begin count counts len_is count_is back_is events =
    let n = length entries - length back in
    let front = take n entries in
    let first = take (counted front) values in
    let later = drop (counted front) values in
    let whole : entries ≡ front ++ back = sym (take-append-drop n entries) ∙ ap (λ l. front ++ l) (sym back_is) in
    let many : counted entries ≡ counted front + counted back = ap counted whole ∙ counted-append front back in
    let fits : counted front ≡ length first = omega (arith, many, counts, length-take (counted front) values) in
    let split : told 0 entries values ≡ told 0 front first ++ told (time_in 0 front) back later =
    ap (λ l. told 0 l values) whole
    ∙ ap (told 0 (front ++ back)) (sym (take-append-drop (counted front) values))
    ∙ told-append 0 front back first later fits in
    let both : events_in entries ≡ events_in front + events_in back =
    ap events_in whole ∙ events_in-append front back in
    let all : len ≡ events_in entries = sym len_is ∙ length-events 0 entries values in
    let front_long = length-events 0 front first in
    let back_long = length-events (time_in 0 front) back later in
    ap (drop begin) split
    ∙ drop-front (told 0 front first) (told (time_in 0 front) back later) begin
    (⊎_elim
    (λ (past : len < begin).
    inr (omega (arith, back_long, events, count_is, past), omega (arith, front_long, both, all, past)))
    (λ (within : begin ≤ len). inl (omega (arith, front_long, both, all, events, count_is, within)))
    (cases_lt len begin))

pub receivers-from : (entries back : List packed.Packed) (values : List Value) (len begin count : ℕ)
    → counted entries ≡ length values → length (told 0 entries values) ≡ len → count ≡ len - begin
    → back ≡ drop (length entries - length back) entries → events_in back ≡ min count (events_in entries)
    → receivers_in back ≡ receivers (drop begin (told 0 entries values))
receivers-from entries back values len begin count counts len_is count_is back_is events =
    let front = take (length entries - length back) entries in
    sym (ap receivers (told-from entries back values len begin count counts len_is count_is back_is events)
    ∙ receivers-told (time_in 0 front) back (drop (counted front) values))
