-- What is told stays told where an instance takes what waits first.
use Rattle.std.proofs.Common.{◌≡◌, ℕ, ◌+◌, ◌<◌, ◌==◌, Bool, true, false, List, [], ◌∷◌, ◌++◌, length, map, set, Option, None, Some, refl, sym, ◌∙◌, ap, subst, arith, append-nil, append_assoc, ◌&&◌, if◌then◌else◌, IfSome, eqb-true}
use Rattle.std.proofs.lemmas.Bool.{eqb-false}
use Rattle.std.specs.List.{AllByRecursion}
use Rattle.run_record.specs.Record.{RecordValue}
use Rattle.view_timeline.specs.Did.{Did, Message, begins, same_channel, sent, taken}
use Rattle.view_timeline.specs.Linked.{Each, IsArrow, IsBelow, IsDrawn, IsLookedUp, IsSent, at_arrow, gather, has_number, is_on, put_on, taken_on}
use Rattle.view_timeline.specs.Lives.{begun_on, lives, lives_on}
use Rattle.view_timeline.specs.Rows.{RowsState, Waiting, letter, waiting_on, waits_at}
use Rattle.view_timeline.specs.Traffic.{IsToBegun, Ledger, Links, Notes, Takes, Tells, arrow}
use Rattle.view_timeline.proofs.Channels.{same-apart, same-true, same_itself}
use Rattle.view_timeline.proofs.Firsts.{IsFirst, first_waits}
use Rattle.view_timeline.proofs.Gathering.{all-append, all-left, all-map, all-right, each-append, each-left, each-length, each-right, gather-last, gather-middle, set-middle}
use Rattle.view_timeline.proofs.Lifetimes.{begun-last, lives-last}
use Rattle.view_timeline.proofs.Steps.{IsRightNow, looked_up-now, put_at, sends_takes-none, taken_at, tells-at, tells-passes, tells-puts, waits}
use Rattle.view_timeline.specs.declared.channel.Channel.{Channel}
use Rattle.view_timeline.specs.declared.moves.Link.{Link}
use Rattle.view_timeline.specs.declared.moves.Link.TheVariants as is

-- ---- where the first that waits is

abbrev pub IsNotWaits : Link → Type 0
IsNotWaits is.Waits = ⊥
IsNotWaits _ = Unit {0}

pub first_unique : (xs ys more rest : List Link) → AllByRecursion IsNotWaits xs → AllByRecursion IsNotWaits ys
    → xs ++ is.Waits ∷ more ≡ ys ++ is.Waits ∷ rest → (xs ≡ ys) × (more ≡ rest)
first_unique [] [] more rest nx ny e = (refl, cc)
first_unique [] (y ∷ ys) more rest nx ny e =
    let w : y ≡ is.Waits = cc in absurd (subst IsNotWaits w ny.0)
first_unique (x ∷ xs) [] more rest nx ny e =
    let w : x ≡ is.Waits = cc in absurd (subst IsNotWaits w nx.0)
first_unique (x ∷ xs) (y ∷ ys) more rest nx ny e =
    let head : x ≡ y = cc in
    let tails : xs ++ is.Waits ∷ more ≡ ys ++ is.Waits ∷ rest = cc in
    let same = first_unique xs ys more rest nx.1 ny.1 tails in
    ((λ i. head i ∷ same.0 i), same.1)

nil-left : {X : Type 0} (xs ys : List X) → xs ++ ys ≡ [] → xs ≡ []
nil-left [] ys e = refl
nil-left (x ∷ xs) ys e = let no : ⊥ = cc in absurd no

nil-right : {X : Type 0} (xs ys : List X) → xs ++ ys ≡ [] → ys ≡ []
nil-right [] ys e = e
nil-right (x ∷ xs) ys e = let no : ⊥ = cc in absurd no

all-if : (b : Bool) (l : Link) → IsNotWaits l → AllByRecursion IsNotWaits (if b then l ∷ [] else [])
all-if true l other = (other, tt)
all-if false l other = tt

not-on : (channel : Channel) (place : ℕ) (o : Option Message) → letter channel place o ≡ [] → is_on channel o ≡ false
not-on channel place None none = refl
not-on channel place (Some message) none = by (same_channel message.channel channel) refl
  where
    by : (b : Bool) → same_channel message.channel channel ≡ b → b ≡ false
    by true same =
        let one : Waiting = record { place = place; values = message.values } in
        let e : one ∷ [] ≡ [] = sym (ap (λ b. if b then one ∷ [] else []) same) ∙ none in
        let no : ⊥ = cc in absurd no
    by false same = refl

put-no_waits : (channel : Channel) (place : ℕ) (d : Did) (l : Link) → waits_at channel place d l ≡ []
    → AllByRecursion IsNotWaits (put_at channel d l)
put-no_waits channel place d is.Plain none = all-if (is_on channel (sent d) && true) is.Plain tt
put-no_waits channel place d (is.Arrow number) none = all-if (is_on channel (sent d) && true) (is.Arrow number) tt
put-no_waits channel place d is.Gone none = all-if (is_on channel (sent d) && false) is.Gone tt
put-no_waits channel place d is.Waits none =
    subst (λ b. AllByRecursion IsNotWaits (if b && true then is.Waits ∷ [] else []))
    (sym (not-on channel place (sent d) none)) tt

puts-no_waits : (channel : Channel) (place : ℕ) (done : List Did) (links : List Link)
    → gather (waits_at channel) place done links ≡ []
    → AllByRecursion IsNotWaits (gather (λ place one link. put_at channel one link) place done links)
puts-no_waits channel place [] links none = tt
puts-no_waits channel place (d ∷ done) [] none = tt
puts-no_waits channel place (d ∷ done) (l ∷ links) none =
    let rest = gather (waits_at channel) (place + 1) done links in
    all-append IsNotWaits (put_at channel d l) (gather (λ place one link. put_at channel one link)
    (place + 1) done links)
    (put-no_waits channel place d l (nil-left (waits_at channel place d l) rest none))
    (puts-no_waits channel (place + 1) done links (nil-right (waits_at channel place d l) rest none))

take-no_waits : (channel : Channel) (o : Option Message) (l : Link) → IfSome o (λ _. IsArrow l)
    → AllByRecursion IsNotWaits (if is_on channel o then l ∷ [] else [])
take-no_waits channel None l by_arrow = tt
take-no_waits channel (Some message) (is.Arrow number) by_arrow =
    all-if (same_channel message.channel channel) (is.Arrow number) tt
take-no_waits channel (Some message) is.Plain by_arrow = absurd by_arrow
take-no_waits channel (Some message) is.Gone by_arrow = absurd by_arrow
take-no_waits channel (Some message) is.Waits by_arrow = absurd by_arrow

takes-no_waits : (records : List RecordValue) (channel : Channel) (place : ℕ) (before done : List Did)
    (links : List Link)
    → Each (IsRightNow records) before done links
    → AllByRecursion IsNotWaits (gather (λ place one link. taken_at channel one link) place done links)
takes-no_waits records channel place before [] links all = tt
takes-no_waits records channel place before (d ∷ done) [] all = tt
takes-no_waits records channel place before (d ∷ done) (l ∷ links) all =
    all-append IsNotWaits (taken_at channel d l)
    (gather (λ place one link. taken_at channel one link) (place + 1) done links)
    (take-no_waits channel (taken d) l all.0.taken)
    (takes-no_waits records channel (place + 1) (before ++ d ∷ []) done links all.1)

-- ---- numbers that stand nowhere yet

none-at_arrow : (number : ℕ) (place : ℕ) (done : List Did) (links : List Link)
    → AllByRecursion (IsBelow number) links
    → gather (λ place one link. if has_number number link then one ∷ [] else []) place done links ≡ []
none-at_arrow number place [] links below = refl
none-at_arrow number place (d ∷ done) [] below = refl
none-at_arrow number place (d ∷ done) (is.Plain ∷ links) below = none-at_arrow number (place + 1) done links below.1
none-at_arrow number place (d ∷ done) (is.Gone ∷ links) below = none-at_arrow number (place + 1) done links below.1
none-at_arrow number place (d ∷ done) (is.Waits ∷ links) below = none-at_arrow number (place + 1) done links below.1
none-at_arrow number place (d ∷ done) (is.Arrow a ∷ links) below =
    by (a.0 == number) refl (none-at_arrow number (place + 1) done links below.1)
  where
    by : (b : Bool) → (a.0 == number) ≡ b
        → gather (λ place one link. if has_number number link then one ∷ [] else []) (place + 1) done links ≡ []
        → (if b then d ∷ [] else [])
        ++ gather (λ place one link. if has_number number link then one ∷ [] else []) (place + 1) done links ≡ []
    by true same rest =
        let e : a.0 ≡ number = eqb-true a.0 number same in
        let lt : a.0 < number = below.0 in
        let no : ⊥ = omega (arith, e, lt) in absurd no
    by false other rest = rest

below-more : (arrows : ℕ) (l : Link) → IsBelow arrows l → IsBelow (arrows + 1) l
below-more arrows is.Plain below = tt
below-more arrows is.Gone below = tt
below-more arrows is.Waits below = tt
below-more arrows (is.Arrow number) below = let lt : number.0 < arrows = below in omega (arith, lt)

-- ---- the take

module _ (records : List RecordValue) (before : List Did) (out : Did) (after : List Did)
    (links_before links_after : List Link) (arrows : ℕ) (living begun : ℕ → Bool) (rows : RowsState)
    (told : Tells records (before ++ out ∷ after) (record {
      links = links_before ++ is.Waits ∷ links_after;
      arrows = arrows;
      living = living;
      begun = begun;
      rows = rows;
    }))
    (as_long : length before ≡ length links_before) where
  -- what stands before and after
  split : {A : Type 0} (read : ℕ → Did → Link → List A) (l : Link)
      → gather read 0 (before ++ out ∷ after) (links_before ++ l ∷ links_after)
      ≡ gather read 0 before links_before
      ++ (read (0 + length before) out l ++ gather read (0 + length before + 1) after links_after)
  split read l = gather-middle read 0 before out after links_before l links_after as_long

  -- where nothing is read off the output, before and after
  unread : {A : Type 0} (read : ℕ → Did → Link → List A)
      → read (0 + length before) out is.Waits ≡ [] → read (0 + length before) out (arrow arrows) ≡ []
      → gather read 0 (before ++ out ∷ after) (links_before ++ arrow arrows ∷ links_after)
      ≡ gather read 0 (before ++ out ∷ after) (links_before ++ is.Waits ∷ links_after)
  unread read was now =
      split read (arrow arrows)
      ∙ ap (λ x. gather read 0 before links_before ++ (x ++ gather read (0 + length before + 1) after links_after))
      (now ∙ sym was)
      ∙ sym (split read is.Waits)

  module _ (sent_message : Message) (sends : sent out ≡ Some sent_message) where
    takes_none : taken out ≡ None
    takes_none = sends_takes-none out.by out.event sent_message sends

    right-tied : (b : List Did) → IsRightNow records b out is.Waits → IsRightNow records b out (arrow arrows)
    right-tied b one =
        let was : (lives records b sent_message.channel.receiver ≡ true) × (true ≡ true) =
        subst (λ o. IfSome o (λ (m : Message). IsSent
        (lives records b m.channel.receiver) true is.Waits)) sends one.sent in
        record {
          by_living = one.by_living;
          taken = subst (λ o. IfSome o (λ _. IsArrow (arrow arrows))) (sym takes_none) tt;
          sent = subst (λ o. IfSome o (λ (m : Message). IsSent (lives records b m.channel.receiver) true
              (arrow arrows)))
              (sym sends) was.0;
          begun = one.begun;
          else_plain = λ none _. let no : ⊥ = cc in absurd no;
        }

    right-middle : Each (IsRightNow records) [] (before ++ out ∷ after) (links_before ++ arrow arrows ∷ links_after)
    right-middle =
        let P = IsRightNow records in
        let left : Each P [] before links_before =
        each-left P [] before (out ∷ after) links_before (is.Waits ∷ links_after) as_long told.right in
        let right : Each P before (out ∷ after) (is.Waits ∷ links_after) =
        each-right P [] before (out ∷ after) links_before (is.Waits ∷ links_after) as_long told.right in
        each-append P [] before (out ∷ after) links_before (arrow arrows
        ∷ links_after) left (right-tied before right.0, right.1)

    whole_length : length (before ++ out ∷ after) ≡ length (links_before ++ arrow arrows ∷ links_after)
    whole_length = each-length (IsRightNow records) [] (before ++ out ∷ after) (links_before
        ++ arrow arrows ∷ links_after) right-middle

    below-middle : AllByRecursion (IsBelow (arrows + 1)) (links_before ++ arrow arrows ∷ links_after)
    below-middle =
        let left : AllByRecursion (IsBelow arrows) links_before =
        all-left (IsBelow arrows) links_before (is.Waits ∷ links_after) told.below in
        let right : AllByRecursion (IsBelow arrows) (is.Waits ∷ links_after) =
        all-right (IsBelow arrows) links_before (is.Waits ∷ links_after) told.below in
        let now : arrows < arrows + 1 = omega arith in
        all-append (IsBelow (arrows + 1)) links_before (arrow arrows ∷ links_after)
        (all-map (IsBelow arrows) (IsBelow (arrows + 1)) (below-more arrows) links_before left)
        (now, all-map (IsBelow arrows) (IsBelow (arrows + 1)) (below-more arrows) links_after right.1)

    taken-same : (channel : Channel)
        → taken_on channel (before ++ out ∷ after) (links_before ++ arrow arrows ∷ links_after)
        ≡ taken_on channel (before ++ out ∷ after) (links_before ++ is.Waits ∷ links_after)
    taken-same channel = unread (λ place one link. taken_at channel one link)
        (ap (λ o. if is_on channel o then is.Waits ∷ [] else []) takes_none)
        (ap (λ o. if is_on channel o then arrow arrows ∷ [] else []) takes_none)

    module _ (d : Did) (message : Message) (sends_none : sent d ≡ None) (takes : taken d ≡ Some message)
        (by_living : begins d.event ≡ true → lives records (before ++ out ∷ after) d.by ≡ true)
        (looks : IsLookedUp records (before ++ out ∷ after) d (arrow arrows))
        (same : sent_message ≡ message) where
      right-take : Each (IsRightNow records) [] ((before ++ out ∷ after) ++ d ∷ [])
          ((links_before ++ arrow arrows ∷ links_after) ++ arrow arrows ∷ [])
      right-take =
          each-append (IsRightNow records) [] (before ++ out ∷ after) (d ∷ [])
          (links_before ++ arrow arrows ∷ links_after) (arrow arrows ∷ []) right-middle (
            record {
              by_living = by_living;
              taken = subst (λ o. IfSome o (λ _. IsArrow (arrow arrows))) (sym takes) tt;
              sent = subst (λ o. IfSome o (λ (m : Message).
                  IsSent (lives records (before ++ out ∷ after) m.channel.receiver) true (arrow arrows)))
                  (sym sends_none) tt;
              begun = looks;
              else_plain = λ _ none. let no : ⊥ = cc in absurd no;
            },
            tt,
          )

      -- with the take behind all
      last : {A : Type 0} (read : ℕ → Did → Link → List A)
          → gather read 0 ((before ++ out ∷ after) ++ d ∷ []) ((links_before ++ arrow arrows ∷ links_after)
          ++ arrow arrows ∷ [])
          ≡ gather read 0 (before ++ out ∷ after) (links_before ++ arrow arrows ∷ links_after)
          ++ read (length (before ++ out ∷ after)) d (arrow arrows)
      last read = gather-last read (before ++ out ∷ after) d (links_before
          ++ arrow arrows ∷ links_after) (arrow arrows) whole_length

      drawn-take : (n : ℕ) → n < arrows + 1
          → IsDrawn ((before ++ out ∷ after) ++ d ∷ []) ((links_before ++ arrow arrows ∷ links_after)
          ++ arrow arrows ∷ []) n
      drawn-take n lt = by (arrows == n) refl
        where
          by : (b : Bool) → (arrows == n) ≡ b
              → IsDrawn ((before ++ out ∷ after) ++ d ∷ []) ((links_before ++ arrow arrows ∷ links_after)
              ++ arrow arrows ∷ []) n
          by true here =
              let e : arrows ≡ n = eqb-true arrows n here in
              let none : AllByRecursion (IsBelow n) (links_before ++ is.Waits ∷ links_after) =
              subst (λ k. AllByRecursion (IsBelow k) (links_before ++ is.Waits ∷ links_after)) e told.below in
              let left : gather (λ place one link. if has_number n link then one
              ∷ [] else []) 0 before links_before ≡ [] =
              none-at_arrow n 0 before links_before (all-left (IsBelow n) links_before (is.Waits ∷ links_after) none) in
              let right : AllByRecursion (IsBelow n) (is.Waits ∷ links_after) =
              all-right (IsBelow n) links_before (is.Waits ∷ links_after) none in
              let behind : gather (λ place one link. if has_number n link then one ∷ [] else [])
              (0 + length before + 1) after links_after ≡ [] =
              none-at_arrow n (0 + length before + 1) after links_after right.1 in
              record {
                out = out;
                take = d;
                ends = last (λ place one link. if has_number n link then one ∷ [] else [])
                    ∙ ap (λ b. at_arrow n (before ++ out ∷ after) (links_before ++ arrow arrows ∷ links_after)
                    ++ (if b then d ∷ [] else [])) here
                    ∙ ap (λ l. l ++ d ∷ [])
                    (split (λ place one link. if has_number n link then one ∷ [] else []) (arrow arrows)
                    ∙ (λ i. left i ++ ((if here i then out ∷ [] else []) ++ behind i)));
                pair = record { message = message; is_sent = sends ∙ ap Some same; is_taken = takes };
              }
          by false other =
              let apart = eqb-false arrows n other in
              let was = told.drawn n (omega (arith, lt, apart)) in
              record {
                out = was.out;
                take = was.take;
                ends = last (λ place one link. if has_number n link then one ∷ [] else [])
                    ∙ ap (λ b. at_arrow n (before ++ out ∷ after) (links_before ++ arrow arrows ∷ links_after)
                    ++ (if b then d ∷ [] else [])) other
                    ∙ append-nil (at_arrow n (before ++ out ∷ after) (links_before ++ arrow arrows ∷ links_after))
                    ∙ unread (λ place one link. if has_number n link then one ∷ [] else []) refl
                    (ap (λ b. if b then out ∷ [] else []) other)
                    ∙ was.ends;
                pair = was.pair;
              }

      module _ (first : Waiting) (rest : List Waiting) (rows_new : RowsState)
          (was : rows message.channel ≡ first ∷ rest) (left : rows_new message.channel ≡ rest)
          (others : (channel : Channel) → (channel ≡ message.channel → ⊥) → rows_new channel ≡ rows channel)
          (none_before : gather (waits_at message.channel) 0 before links_before ≡ [])
          (rest_is : gather (waits_at message.channel) (0 + length before + 1) after links_after ≡ rest) where
        -- the output is on this channel and on no other
        on-own : is_on message.channel (sent out) ≡ true
        on-own = ap (is_on message.channel) (sends ∙ ap Some same) ∙ same_itself message.channel

        on-other : (channel : Channel) → same_channel message.channel channel ≡ false → is_on channel (sent out) ≡ false
        on-other channel other = ap (is_on channel) (sends ∙ ap Some same) ∙ other

        letter-other : (channel : Channel) (place : ℕ) → same_channel message.channel channel ≡ false
            → letter channel place (sent out) ≡ []
        letter-other channel place other =
            ap (letter channel place) (sends ∙ ap Some same)
            ∙ ap (λ b. if b then (record { place = place; values = message.values }) ∷ [] else []) other

        waiting-own : waiting_on message.channel (before ++ out ∷ after) (links_before
            ++ arrow arrows ∷ links_after) ≡ rest
        waiting-own =
            split (waits_at message.channel) (arrow arrows)
            ∙ ap (λ l. l ++ ([] ++ gather (waits_at message.channel)
            (0 + length before + 1) after links_after)) none_before
            ∙ rest_is

        waiting-take : (channel : Channel)
            → waiting_on channel ((before ++ out ∷ after) ++ d ∷ []) ((links_before ++ arrow arrows ∷ links_after)
            ++ arrow arrows ∷ [])
            ≡ rows_new channel
        waiting-take channel =
            last (waits_at channel)
            ∙ append-nil (waiting_on channel (before ++ out ∷ after) (links_before ++ arrow arrows ∷ links_after))
            ∙ by (same_channel message.channel channel) refl
          where
            by : (b : Bool) → same_channel message.channel channel ≡ b
                → waiting_on channel (before ++ out ∷ after) (links_before
                ++ arrow arrows ∷ links_after) ≡ rows_new channel
            by true here =
                let e : message.channel ≡ channel = same-true message.channel channel here in
                subst (λ c. waiting_on c (before ++ out ∷ after) (links_before
                ++ arrow arrows ∷ links_after) ≡ rows_new c) e
                (waiting-own ∙ sym left)
            by false other =
                unread (waits_at channel) (letter-other channel (0 + length before) other) refl
                ∙ told.waiting channel ∙ sym (others channel (same-apart message.channel channel other))

        -- what was put before the output is what was taken, and what was put after it waits
        order-own : put_on message.channel (before ++ out ∷ after) (links_before ++ arrow arrows ∷ links_after)
            ≡ (taken_on message.channel (before ++ out ∷ after) (links_before ++ is.Waits ∷ links_after)
            ++ arrow arrows ∷ [])
            ++ map waits rest
        order-own =
            let P = gather (λ place one link. put_at message.channel one link) 0 before links_before in
            let Q = gather (λ place one link. put_at message.channel one link)
            (0 + length before + 1) after links_after in
            let T = taken_on message.channel (before ++ out ∷ after) (links_before ++ is.Waits ∷ links_after) in
            let old : P ++ is.Waits ∷ Q ≡ T ++ is.Waits ∷ map waits rest =
            ap (λ b. P ++ ((if b && true then is.Waits ∷ [] else []) ++ Q)) (sym on-own)
            ∙ sym (split (λ place one link. put_at message.channel one link) is.Waits)
            ∙ told.in_order message.channel ∙ ap (λ row. T ++ map waits row) was in
            let parts : (P ≡ T) × (Q ≡ map waits rest) =
            first_unique P T Q (map waits rest) (puts-no_waits message.channel 0 before links_before none_before)
            (takes-no_waits records message.channel 0 [] (before ++ out ∷ after) (links_before
            ++ is.Waits ∷ links_after) told.right)
            old in
            split (λ place one link. put_at message.channel one link) (arrow arrows)
            ∙ ap (λ b. P ++ ((if b && true then arrow arrows ∷ [] else []) ++ Q)) on-own
            ∙ (λ i. parts.0 i ++ arrow arrows ∷ parts.1 i)
            ∙ sym (append_assoc T (arrow arrows ∷ []) (map waits rest))

        order-take : (channel : Channel)
            → put_on channel ((before ++ out ∷ after) ++ d ∷ []) ((links_before ++ arrow arrows ∷ links_after)
            ++ arrow arrows ∷ [])
            ≡ taken_on channel ((before ++ out ∷ after) ++ d ∷ []) ((links_before ++ arrow arrows ∷ links_after)
            ++ arrow arrows ∷ [])
            ++ map waits (rows_new channel)
        order-take channel =
            last (λ place one link. put_at channel one link)
            ∙ ap (λ o. put_on channel (before ++ out ∷ after) (links_before ++ arrow arrows ∷ links_after)
            ++ (if is_on channel o && true then arrow arrows ∷ [] else [])) sends_none
            ∙ append-nil (put_on channel (before ++ out ∷ after) (links_before ++ arrow arrows ∷ links_after))
            ∙ by (same_channel message.channel channel) refl
            ∙ ap (λ t. t ++ map waits (rows_new channel)) (sym
            (last (λ place one link. taken_at channel one link)
            ∙ ap (λ t. t ++ taken_at channel d (arrow arrows)) (taken-same channel)
            ∙ ap (λ o. taken_on channel (before ++ out ∷ after) (links_before ++ is.Waits ∷ links_after)
            ++ (if is_on channel o then arrow arrows ∷ [] else [])) takes))
          where
            by : (b : Bool) → same_channel message.channel channel ≡ b
                → put_on channel (before ++ out ∷ after) (links_before ++ arrow arrows ∷ links_after)
                ≡ (taken_on channel (before ++ out ∷ after) (links_before ++ is.Waits ∷ links_after)
                ++ (if same_channel message.channel channel then arrow arrows ∷ [] else []))
                ++ map waits (rows_new channel)
            by true here =
                let e : message.channel ≡ channel = same-true message.channel channel here in
                subst (λ c. put_on c (before ++ out ∷ after) (links_before ++ arrow arrows ∷ links_after)
                ≡ (taken_on c (before ++ out ∷ after) (links_before ++ is.Waits ∷ links_after)
                ++ (if same_channel message.channel c then arrow arrows ∷ [] else [])) ++ map waits (rows_new c)) e
                (order-own
                ∙ ap (λ r. (taken_on message.channel (before ++ out ∷ after) (links_before ++ is.Waits ∷ links_after)
                ++ arrow arrows ∷ []) ++ map waits r) (sym left)
                ∙ ap (λ b. (taken_on message.channel (before ++ out ∷ after) (links_before ++ is.Waits ∷ links_after)
                ++ (if b then arrow arrows ∷ [] else [])) ++ map waits (rows_new message.channel))
                (sym (same_itself message.channel)))
            by false other =
                unread (λ place one link. put_at channel one link)
                (ap (λ b. if b && true then is.Waits ∷ [] else []) (on-other channel other))
                (ap (λ b. if b && true then arrow arrows ∷ [] else []) (on-other channel other))
                ∙ told.in_order channel
                ∙ ap (λ r. taken_on channel (before ++ out ∷ after) (links_before ++ is.Waits ∷ links_after)
                ++ map waits r)
                (sym (others channel (same-apart message.channel channel other)))
                ∙ ap (λ t. t ++ map waits (rows_new channel))
                (sym (append-nil (taken_on channel (before ++ out ∷ after) (links_before ++ is.Waits ∷ links_after))))
                ∙ ap (λ b. (taken_on channel (before ++ out ∷ after) (links_before ++ is.Waits ∷ links_after)
                ++ (if b then arrow arrows ∷ [] else [])) ++ map waits (rows_new channel)) (sym other)

        tells-tied : (living_new begun_new : ℕ → Bool) → ((n : ℕ) → living_new n ≡ lives_on n d (living n))
            → ((n : ℕ) → begun_new n ≡ begun_on n d.event (begun n))
            → Tells records ((before ++ out ∷ after) ++ d ∷ []) (record {
              links = (links_before ++ arrow arrows ∷ links_after) ++ arrow arrows ∷ [];
              arrows = arrows + 1;
              living = living_new;
              begun = begun_new;
              rows = rows_new;
            })
        tells-tied living_new begun_new lives_so begun_so = record {
          right = right-take;
          drawn = drawn-take;
          below =
              let now : arrows < arrows + 1 = omega arith in
              all-append (IsBelow (arrows + 1)) (links_before ++ arrow arrows ∷ links_after) (arrow arrows ∷ [])
              below-middle (now, tt);
          living = λ n. lives_so n ∙ ap (lives_on n d) (told.living n)
              ∙ sym (lives-last records (before ++ out ∷ after) d n);
          begun = λ n. begun_so n ∙ ap (begun_on n d.event) (told.begun n)
              ∙ sym (begun-last records (before ++ out ∷ after) d n);
          waiting = waiting-take;
          in_order = order-take;
        }

-- one more is told: an instance takes what waits first on a channel
pub tells-takes : (records : List RecordValue) (done : List Did) (old new : Ledger) (d : Did) (message : Message)
    → Tells records done old → (begins d.event ≡ true → lives records done d.by ≡ true)
    → ((n : ℕ) → new.living n ≡ lives_on n d (old.living n))
    → ((n : ℕ) → new.begun n ≡ begun_on n d.event (old.begun n)) → IsToBegun d.event old
    → sent d ≡ None → taken d ≡ Some message
    → Takes message old new → Tells records (done ++ d ∷ []) new
tells-takes records done old new d message told by_living living begun to_begun sends_none takes t =
    let f : IsFirst message.channel 0 done old.links t.first t.rest =
    first_waits message.channel t.first t.rest 0 done old.links (told.waiting message.channel ∙ t.was) in
    let told' : Tells records (f.before ++ f.out ∷ f.after) (record {
      links = f.links_before ++ is.Waits ∷ f.links_after;
      arrows = old.arrows;
      living = old.living;
      begun = old.begun;
      rows = old.rows;
    }) =
    subst (λ ds. Tells records ds (record {
      links = f.links_before
          ++ is.Waits ∷ f.links_after;
      arrows = old.arrows;
      living = old.living;
      begun = old.begun;
      rows = old.rows;
    })) f.done_is
    (subst (λ ls. Tells records done (record {
      links = ls;
      arrows = old.arrows;
      living = old.living;
      begun = old.begun;
      rows = old.rows;
    })) f.links_is told) in
    let by_living' : begins d.event ≡ true → lives records (f.before ++ f.out ∷ f.after) d.by ≡ true =
    subst (λ ds. begins d.event ≡ true → lives records ds d.by ≡ true) f.done_is by_living in
    let looks : IsLookedUp records (f.before ++ f.out ∷ f.after) d (arrow old.arrows) =
    subst (λ ds. IsLookedUp records ds d (arrow old.arrows)) f.done_is
    (looked_up-now records done old told d to_begun (arrow old.arrows)) in
    let c : f.message.channel ≡ message.channel = same-true f.message.channel message.channel f.channel_is in
    let v : f.message.values ≡ message.values = f.values_is ∙ t.values in
    let same : f.message ≡ message = λ i. record { channel = c i; values = v i } in
    let p : t.first.place ≡ length f.links_before = omega (arith, f.place_is, f.as_long) in
    let links : new.links ≡ (f.links_before ++ arrow old.arrows ∷ f.links_after) ++ arrow old.arrows ∷ [] =
    t.links
    ∙ ap (λ l. l ++ arrow old.arrows ∷ [])
    (ap (λ ls. set ls t.first.place (arrow old.arrows)) f.links_is
    ∙ ap (λ q. set (f.links_before ++ is.Waits ∷ f.links_after) q (arrow old.arrows)) p
    ∙ set-middle f.links_before is.Waits f.links_after (arrow old.arrows)) in
    tells-at records (done ++ d ∷ []) new ((f.links_before ++ arrow old.arrows ∷ f.links_after)
    ++ arrow old.arrows ∷ [])
    (old.arrows + 1) links t.arrows
    (subst (λ ds. Tells records (ds ++ d ∷ []) (record {
      links = (f.links_before ++ arrow old.arrows ∷ f.links_after) ++ arrow old.arrows ∷ [];
      arrows = old.arrows + 1;
      living = new.living;
      begun = new.begun;
      rows = new.rows;
    })) (sym f.done_is)
    (tells-tied records f.before f.out f.after f.links_before f.links_after old.arrows old.living old.begun old.rows told'
    f.as_long
    f.message f.sent_is d message sends_none takes by_living' looks same t.first t.rest new.rows t.was t.left t.others
    f.none_before f.rest_is new.living new.begun living begun))

-- one event more is told, by what it sends and what it takes
pub tells-notes : (records : List RecordValue) (done : List Did) (old new : Ledger) (d : Did)
    → Tells records done old → (begins d.event ≡ true → lives records done d.by ≡ true) → Notes d old new
    → Tells records (done ++ d ∷ []) new
tells-notes records done old new d told by_living notes = by_sent (sent d) refl (taken d) refl notes.links
  where
    by_sent : (s : Option Message) → sent d ≡ s → (t : Option Message) → taken d ≡ t → Links s t old new
        → Tells records (done ++ d ∷ []) new
    by_sent (Some message) sends t takes puts =
        tells-puts records done old told d new by_living notes.living notes.begun notes.to_begun message sends puts
    by_sent None sends (Some message) takes took =
        tells-takes records done old new d message told by_living notes.living notes.begun notes.to_begun sends takes
        took
    by_sent None sends None takes passes =
        tells-passes records done old told d new by_living notes.living notes.begun notes.to_begun sends takes passes
