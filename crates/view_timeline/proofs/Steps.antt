-- What is told stays told, and with one event more: one that links nothing, and an output.
use Rattle.std.proofs.Common.{◌≡◌, ℕ, ◌<◌, Bool, true, false, List, [], ◌∷◌, ◌++◌, length, map, None, Some, refl, sym, ◌∙◌, ap, subst, append-nil, append_assoc, not, ◌&&◌, if◌then◌else◌, IfSome, inl}
use Rattle.std.proofs.lemmas.List.{map-append}
use Rattle.run_record.specs.Event as event
use Rattle.run_record.specs.Record.{RecordValue}
use Rattle.view_timeline.specs.Did.{Did, Message, begins, looked_up, same_channel, sent, sent_by, taken, taken_by}
use Rattle.view_timeline.specs.Linked.{Each, IsArrow, IsBelow, IsDrawn, IsLookedUp, IsRight, IsSent, at_arrow, has_number, is_gone, is_on, put_on, taken_on}
use Rattle.view_timeline.specs.Lives.{begun_on, has_begun, lives, lives_on}
use Rattle.view_timeline.specs.Rows.{Waiting, letter, waiting_on, waits_at}
use Rattle.view_timeline.specs.Traffic.{IsSame, IsToBegun, Ledger, Passes, Puts, Tells}
use Rattle.view_timeline.proofs.Gathering.{all-append, each-append, each-length, gather-last}
use Rattle.view_timeline.proofs.Lifetimes.{begun-last, if_some-along, lives-last}
use Rattle.view_timeline.specs.declared.channel.Channel.{Channel}
use Rattle.view_timeline.specs.declared.moves.Link.{Link}
use Rattle.view_timeline.specs.declared.moves.Link.TheVariants as is

-- what an event adds to what is read off
abbrev pub put_at : Channel → Did → Link → List Link
put_at channel d l = if is_on channel (sent d) && not (is_gone l) then l ∷ [] else []

abbrev pub taken_at : Channel → Did → Link → List Link
taken_at channel d l = if is_on channel (taken d) then l ∷ [] else []

abbrev pub waits : Waiting → Link
waits _ = is.Waits

-- all that holds of each event during the telling, where all live on
abbrev pub IsRightNow : List RecordValue → List Did → Did → Link → Type 0
IsRightNow records = IsRight records (λ _. true)

-- what sends a signal takes none
pub sends_takes-none : (own : ℕ) (e : event.Event) (m : Message) → sent_by own e ≡ Some m → taken_by own e ≡ None
sends_takes-none own (event.Consumed at got) m sends = let no : ⊥ = cc in absurd no
sends_takes-none own (event.Prior at got) m sends = let no : ⊥ = cc in absurd no
sends_takes-none own (event.Discarded at got) m sends = let no : ⊥ = cc in absurd no
sends_takes-none own _ m sends = refl

-- what is told is told of the same ledger
pub tells-at : (records : List RecordValue) (done : List Did) (new : Ledger) (links : List Link) (arrows : ℕ)
    → new.links ≡ links → new.arrows ≡ arrows
    → Tells records done (record {
      links = links;
      arrows = arrows;
      living = new.living;
      begun = new.begun;
      rows = new.rows;
    })
    → Tells records done new
tells-at records done new links arrows l a told =
    subst (λ ls. Tells records done (record {
      links = ls;
      arrows = new.arrows;
      living = new.living;
      begun = new.begun;
      rows = new.rows;
    })) (sym l)
    (subst (λ n. Tells records done (record {
      links = links;
      arrows = n;
      living = new.living;
      begun = new.begun;
      rows = new.rows;
    })) (sym a) told)

pub tells-same : (records : List RecordValue) (done : List Did) (old new : Ledger) → IsSame old new
    → Tells records done old → Tells records done new
tells-same records done old new same told = tells-at records done new old.links old.arrows same.links same.arrows
    (record {
      right = told.right;
      drawn = told.drawn;
      below = told.below;
      living = λ number. same.living number ∙ told.living number;
      begun = λ number. same.begun number ∙ told.begun number;
      waiting = λ channel. told.waiting channel ∙ sym (same.rows channel);
      in_order = λ channel. told.in_order channel
          ∙ ap (λ row. taken_on channel done old.links ++ map waits row) (sym (same.rows channel));
    })

-- more behind what was put, and behind what waits
order-more : (put taken x : List Link) (row more : List Waiting) → put ≡ taken ++ map waits row → x ≡ map waits more
    → put ++ x ≡ taken ++ map waits (row ++ more)
order-more put taken x row more was is_more =
    ap (λ l. l ++ x) was ∙ append_assoc taken (map waits row) x
    ∙ ap (λ l. taken ++ (map waits row ++ l)) is_more ∙ ap (λ l. taken ++ l) (sym (map-append waits row more))

module _ (records : List RecordValue) (done : List Did) (old : Ledger) (told : Tells records done old) (d : Did) where
  pub as_long : length done ≡ length old.links
  as_long = each-length (IsRightNow records) [] done old.links told.right

  pub right-last : (l : Link) → IsRightNow records done d l
      → Each (IsRightNow records) [] (done ++ d ∷ []) (old.links ++ l ∷ [])
  right-last l one = each-append (IsRightNow records) [] done (d ∷ []) old.links (l ∷ []) told.right (one, tt)

  drawn-last : (l : Link) → ((n : ℕ) → has_number n l ≡ false) → (n : ℕ) → n < old.arrows
      → IsDrawn (done ++ d ∷ []) (old.links ++ l ∷ []) n
  drawn-last l none n lt =
      let was = told.drawn n lt in
      record {
        out = was.out;
        take = was.take;
        ends = gather-last (λ place one link. if has_number n link then one ∷ [] else []) done d old.links l as_long
            ∙ ap (λ b. at_arrow n done old.links ++ (if b then d ∷ [] else [])) (none n)
            ∙ append-nil (at_arrow n done old.links) ∙ was.ends;
        pair = was.pair;
      }

  waiting-last : (l : Link) (channel : Channel)
      → waiting_on channel (done ++ d ∷ []) (old.links ++ l ∷ []) ≡ old.rows channel
      ++ waits_at channel (length done) d l
  waiting-last l channel =
      gather-last (waits_at channel) done d old.links l as_long
      ∙ ap (λ row. row ++ waits_at channel (length done) d l) (told.waiting channel)

  order-last : (l : Link) (channel : Channel) (more row : List Waiting) → taken_at channel d l ≡ []
      → put_at channel d l ≡ map waits more → row ≡ old.rows channel ++ more
      → put_on channel (done ++ d ∷ []) (old.links ++ l ∷ [])
      ≡ taken_on channel (done ++ d ∷ []) (old.links ++ l ∷ []) ++ map waits row
  order-last l channel more row takes_none puts_more grows =
      let taken_is : taken_on channel (done ++ d ∷ []) (old.links ++ l ∷ []) ≡ taken_on channel done old.links =
      gather-last (λ place one link. taken_at channel one link) done d old.links l as_long
      ∙ ap (λ x. taken_on channel done old.links ++ x) takes_none ∙ append-nil (taken_on channel done old.links) in
      gather-last (λ place one link. put_at channel one link) done d old.links l as_long
      ∙ order-more (put_on channel done old.links) (taken_on channel done old.links) (put_at channel d l)
      (old.rows channel) more (told.in_order channel) puts_more
      ∙ ap (λ t. t ++ map waits (old.rows channel ++ more)) (sym taken_is)
      ∙ ap (λ r. taken_on channel (done ++ d ∷ []) (old.links ++ l ∷ []) ++ map waits r) (sym grows)

  living-last : (new : Ledger) → ((n : ℕ) → new.living n ≡ lives_on n d (old.living n)) → (n : ℕ)
      → new.living n ≡ lives records (done ++ d ∷ []) n
  living-last new lives_so n = lives_so n ∙ ap (lives_on n d) (told.living n) ∙ sym (lives-last records done d n)

  begun_so : (new : Ledger) → ((n : ℕ) → new.begun n ≡ begun_on n d.event (old.begun n)) → (n : ℕ)
      → new.begun n ≡ has_begun records (done ++ d ∷ []) n
  begun_so new begun n = begun n ∙ ap (begun_on n d.event) (told.begun n) ∙ sym (begun-last records done d n)

  -- what is looked up has begun
  pub looked_up-now : IsToBegun d.event old → (l : Link) → IsLookedUp records done d l
  looked_up-now to_begun l =
      if_some-along (looked_up d.event) old.begun (has_begun records done) (λ n. sym (told.begun n)) to_begun

  module _ (new : Ledger) (by_living : begins d.event ≡ true → lives records done d.by ≡ true)
      (living : (n : ℕ) → new.living n ≡ lives_on n d (old.living n))
      (begun : (n : ℕ) → new.begun n ≡ begun_on n d.event (old.begun n)) (to_begun : IsToBegun d.event old) where
    -- with an event whose link is no arrow
    tells-last : (l : Link) → new.links ≡ old.links ++ l ∷ [] → new.arrows ≡ old.arrows
        → ((n : ℕ) → has_number n l ≡ false) → IsBelow old.arrows l → IsRightNow records done d l
        → (more : Channel → List Waiting) → ((channel : Channel) → new.rows channel ≡ old.rows channel ++ more channel)
        → ((channel : Channel) → waits_at channel (length done) d l ≡ more channel)
        → ((channel : Channel) → taken_at channel d l ≡ [])
        → ((channel : Channel) → put_at channel d l ≡ map waits (more channel))
        → Tells records (done ++ d ∷ []) new
    tells-last l links arrows none below one more grows waits_more takes_none puts_more =
        tells-at records (done ++ d ∷ []) new (old.links ++ l ∷ []) old.arrows links arrows (record {
          right = right-last l one;
          drawn = drawn-last l none;
          below = all-append (IsBelow old.arrows) old.links (l ∷ []) told.below (below, tt);
          living = living-last new living;
          begun = begun_so new begun;
          waiting = λ channel. waiting-last l channel ∙ ap (λ m. old.rows channel ++ m) (waits_more channel)
              ∙ sym (grows channel);
          in_order = λ channel. order-last l channel (more channel) (new.rows channel) (takes_none channel)
              (puts_more channel) (grows channel);
        })

    pub tells-passes : sent d ≡ None → taken d ≡ None → Passes old new → Tells records (done ++ d ∷ []) new
    tells-passes sends_none takes_none passes =
        tells-last is.Plain passes.links passes.arrows (λ n. refl) tt
        (record {
          by_living = by_living;
          taken = subst (λ o. IfSome o (λ _. IsArrow is.Plain)) (sym takes_none) tt;
          sent = subst (λ o. IfSome o (λ (m : Message). IsSent (lives records done m.channel.receiver) true is.Plain))
              (sym sends_none) tt;
          begun = looked_up-now to_begun is.Plain;
          else_plain = λ _ _. refl;
        })
        (λ _. []) (λ channel. passes.rows channel ∙ sym (append-nil (old.rows channel))) (λ channel. refl)
        (λ channel. ap (λ o. if is_on channel o then is.Plain ∷ [] else []) takes_none)
        (λ channel. ap (λ o. if is_on channel o && true then is.Plain ∷ [] else []) sends_none)

    module _ (message : Message) (sends : sent d ≡ Some message) (puts : Puts message old new) where
      takes_none : taken d ≡ None
      takes_none = sends_takes-none d.by d.event message sends

      right-put : (l : Link) → IsSent (lives records done message.channel.receiver) true l → IsRightNow records done d l
      right-put l so = record {
        by_living = by_living;
        taken = subst (λ o. IfSome o (λ _. IsArrow l)) (sym takes_none) tt;
        sent = subst (λ o. IfSome o (λ (m : Message). IsSent (lives records done m.channel.receiver) true l))
            (sym sends) so;
        begun = looked_up-now to_begun l;
        else_plain = λ none _. let no : ⊥ = cc in absurd no;
      }

      letter-waits : (channel : Channel) (b : Bool) → same_channel message.channel channel ≡ b
          → (if b && true then is.Waits ∷ [] else [])
          ≡ map waits (if b then (record { place = length old.links; values = message.values }) ∷ [] else [])
      letter-waits channel true same = refl
      letter-waits channel false same = refl

      no-gone : (b : Bool) → (if b && false then is.Gone ∷ [] else []) ≡ []
      no-gone true = refl
      no-gone false = refl

      put-by : (b : Bool) → old.living message.channel.receiver ≡ b → Tells records (done ++ d ∷ []) new
      put-by true lives_then =
          tells-last is.Waits
          (puts.links ∙ ap (λ b. old.links ++ (if b then is.Waits else is.Gone) ∷ []) lives_then) puts.arrows
          (λ n. refl) tt (right-put is.Waits (sym (told.living message.channel.receiver) ∙ lives_then, refl))
          (λ channel. letter channel (length old.links) (Some message))
          (λ channel. puts.rows channel
          ∙ ap (λ b. old.rows channel ++ (if b then letter channel (length old.links)
          (Some message) else [])) lives_then)
          (λ channel. ap (letter channel (length done)) sends ∙ ap (λ p. letter channel p (Some message)) as_long)
          (λ channel. ap (λ o. if is_on channel o then is.Waits ∷ [] else []) takes_none)
          (λ channel. ap (λ o. if is_on channel o && true then is.Waits ∷ [] else []) sends
          ∙ letter-waits channel (same_channel message.channel channel) refl)
      put-by false lives_not =
          tells-last is.Gone
          (puts.links ∙ ap (λ b. old.links ++ (if b then is.Waits else is.Gone) ∷ []) lives_not) puts.arrows
          (λ n. refl) tt (right-put is.Gone (inl (sym (told.living message.channel.receiver) ∙ lives_not)))
          (λ channel. [])
          (λ channel. puts.rows channel
          ∙ ap (λ b. old.rows channel ++ (if b then letter channel (length old.links)
          (Some message) else [])) lives_not)
          (λ channel. refl)
          (λ channel. ap (λ o. if is_on channel o then is.Gone ∷ [] else []) takes_none)
          (λ channel. no-gone (is_on channel (sent d)))

      pub tells-puts : Tells records (done ++ d ∷ []) new
      tells-puts = put-by (old.living message.channel.receiver) refl
