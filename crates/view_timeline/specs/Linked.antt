-- Events with their links: what stands where.
use Rattle.std.specs.Prelude.{◌≡◌, ℕ, ◌+◌, ◌==◌, ◌&&◌, ◌⊎◌, Bool, true, false, not, List, [], ◌∷◌, ◌++◌, replicate, Option, None, Some, if◌then◌else◌, IfSome, ◌<◌}
use Rattle.run_record.specs.Record.{RecordValue}
use Rattle.view_timeline.specs.Did.{Did, Message, begins, looked_up, same_channel, sent, taken}
use Rattle.view_timeline.specs.Lives.{has_begun, lives}
use Rattle.view_timeline.specs.declared.channel.Channel.{Channel}
use Rattle.view_timeline.specs.declared.moves.Link.{Link}
use Rattle.view_timeline.specs.declared.moves.Link.TheVariants as is

-- what is read off each event, its link and its place, from this place on, in order
abbrev pub gather : {A : Type 0} → (ℕ → Did → Link → List A) → ℕ → List Did → List Link → List A
gather read place [] links = []
gather read place (d ∷ more) [] = []
gather read place (d ∷ more) (link ∷ links) = read place d link ++ gather read (place + 1) more links

-- each event has a link, of which this holds, and of the events before it
abbrev pub Each : (List Did → Did → Link → Type 0) → List Did → List Did → List Link → Type 0
Each P before [] [] = Unit {0}
Each P before [] (link ∷ links) = ⊥
Each P before (d ∷ more) [] = ⊥
Each P before (d ∷ more) (link ∷ links) = P before d link × Each P (before ++ d ∷ []) more links

-- ---- one event and its link

abbrev pub IsArrow : Link → Type 0
IsArrow (is.Arrow number) = Unit {0}
IsArrow _ = ⊥

-- A move is made by an instance that lives.
abbrev pub IsByLiving : List RecordValue → List Did → Did → Link → Type 0
IsByLiving records before d link = begins d.event ≡ true → lives records before d.by ≡ true

-- What an instance takes of an instance has an arrow.
abbrev pub IsTakenByArrow : Did → Link → Type 0
IsTakenByArrow d link = IfSome (taken d) (λ _. IsArrow link)

-- A signal that an instance sends to one that lives has an arrow, or it waits for as long as the receiver lives; and to
-- one that doesn't it's gone. By whether the receiver lives then, and whether it lives on.
abbrev pub IsSent : Bool → Bool → Link → Type 0
IsSent living on (is.Arrow number) = living ≡ true
IsSent living on is.Waits = (living ≡ true) × (on ≡ true)
IsSent living on is.Gone = (living ≡ false) ⊎ (on ≡ false)
IsSent living on is.Plain = ⊥

-- Its link tells where a signal to an instance went; `on` says who lives on.
abbrev pub IsSentSo : List RecordValue → (ℕ → Bool) → List Did → Did → Link → Type 0
IsSentSo records on before d link =
    IfSome (sent d) (λ (message : Message).
    IsSent (lives records before message.channel.receiver) (on message.channel.receiver) link)

-- An output that names no Pid goes to an instance that has begun.
abbrev pub IsLookedUp : List RecordValue → List Did → Did → Link → Type 0
IsLookedUp records before d link =
    IfSome (looked_up d.event) (λ (number : ℕ). has_begun records before number ≡ true)

-- No other event has a link.
abbrev pub IsElsePlain : Did → Link → Type 0
IsElsePlain d link = sent d ≡ None → taken d ≡ None → link ≡ is.Plain

-- all that
pub record IsRight (records : List RecordValue) (on : ℕ
    → Bool) (before : List Did) (d : Did) (link : Link) : Type 0 where
  pub by_living : IsByLiving records before d link
  pub taken : IsTakenByArrow d link
  pub sent : IsSentSo records on before d link
  pub begun : IsLookedUp records before d link
  pub else_plain : IsElsePlain d link

-- ---- arrows

abbrev pub has_number : ℕ → Link → Bool
has_number number (is.Arrow arrow) = arrow.0 == number
has_number number _ = false

-- the events at which the arrow of this number stands
abbrev pub at_arrow : ℕ → List Did → List Link → List Did
at_arrow number done links = gather (λ place d link. if has_number number link then d ∷ [] else []) 0 done links

-- one sends just what the other takes: of one name, with equal values, from the one's instance to the other's
pub record IsPair (out take : Did) : Type 0 where
  pub message : Message
  pub is_sent : sent out ≡ Some message
  pub is_taken : taken take ≡ Some message

-- The arrow stands at just two events: an output, and after it the take of what was sent.
pub record IsDrawn (done : List Did) (links : List Link) (number : ℕ) : Type 0 where
  pub out : Did
  pub take : Did
  pub ends : at_arrow number done links ≡ out ∷ take ∷ []
  pub pair : IsPair out take

abbrev pub IsBelow : ℕ → Link → Type 0
IsBelow arrows (is.Arrow number) = number.0 < arrows
IsBelow arrows _ = Unit {0}

-- ---- the order of arrows

abbrev pub is_on : Channel → Option Message → Bool
is_on channel (Some message) = same_channel message.channel channel
is_on channel None = false

abbrev pub is_gone : Link → Bool
is_gone is.Gone = true
is_gone _ = false

-- the links of what was sent on a channel, in order, without what is gone
abbrev pub put_on : Channel → List Did → List Link → List Link
put_on channel done links =
    gather (λ place d link. if is_on channel (sent d) && not (is_gone link) then link ∷ [] else []) 0 done links

-- the links of what was taken from it, in order
abbrev pub taken_on : Channel → List Did → List Link → List Link
taken_on channel done links = gather (λ place d link. if is_on channel (taken d) then link ∷ [] else []) 0 done links

-- What was put on a channel is, in this order, what was taken from it, in the order of the takes, and then what waits.
abbrev pub IsInOrder : List Did → List Link → Channel → Type 0
IsInOrder done links channel =
    (waiting : ℕ) × (put_on channel done links ≡ taken_on channel done links ++ replicate waiting is.Waits)
