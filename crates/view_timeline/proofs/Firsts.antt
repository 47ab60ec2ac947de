-- What waits first on a channel: where it stands, and what stands before it.
use Rattle.std.proofs.Common.{◌≡◌, ℕ, suc, ◌+◌, Bool, true, false, List, [], ◌∷◌, ◌++◌, length, Option, None, Some, refl, sym, ◌∙◌, ap, subst, arith, if◌then◌else◌}
use Rattle.view_timeline.specs.Did.{Did, Message, same_channel, sent}
use Rattle.view_timeline.specs.Linked.{gather}
use Rattle.view_timeline.specs.Rows.{Waiting, letter, waits_at}
use Rattle.view_timeline.specs.declared.channel.Channel.{Channel}
use Rattle.view_timeline.specs.declared.moves.Link.{Link}
use Rattle.view_timeline.specs.declared.moves.Link.TheVariants as is

-- the first that waits, with what stands before and after it
pub record IsFirst (channel : Channel) (place : ℕ) (done : List Did) (links : List Link) (first : Waiting)
    (rest : List Waiting) : Type 0 where
  pub before : List Did
  pub out : Did
  pub after : List Did
  pub links_before : List Link
  pub links_after : List Link
  pub done_is : done ≡ before ++ out ∷ after
  pub links_is : links ≡ links_before ++ is.Waits ∷ links_after
  pub as_long : length before ≡ length links_before
  pub place_is : first.place ≡ place + length before
  pub message : Message
  pub sent_is : sent out ≡ Some message
  pub channel_is : same_channel message.channel channel ≡ true
  pub values_is : message.values ≡ first.values
  pub none_before : gather (waits_at channel) place before links_before ≡ []
  pub rest_is : gather (waits_at channel) (place + length before + 1) after links_after ≡ rest

module _ (channel : Channel) (first : Waiting) (rest : List Waiting) where
  -- behind one that doesn't wait on the channel
  behind : (place : ℕ) (d : Did) (done : List Did) (l : Link) (links : List Link)
      → waits_at channel place d l ≡ [] → IsFirst channel (place + 1) done links first rest
      → IsFirst channel place (d ∷ done) (l ∷ links) first rest
  behind place d done l links none later = record {
    before = d ∷ later.before;
    out = later.out;
    after = later.after;
    links_before = l ∷ later.links_before;
    links_after = later.links_after;
    done_is = ap (λ xs. d ∷ xs) later.done_is;
    links_is = ap (λ xs. l ∷ xs) later.links_is;
    as_long = ap suc later.as_long;
    place_is = omega (arith, later.place_is);
    message = later.message;
    sent_is = later.sent_is;
    channel_is = later.channel_is;
    values_is = later.values_is;
    none_before = ap (λ xs. xs ++ gather (waits_at channel) (place + 1) later.before later.links_before) none
        ∙ later.none_before;
    rest_is =
        let e : place + suc (length later.before) + 1 ≡ place + 1 + length later.before + 1 = omega arith in
        ap (λ p. gather (waits_at channel) p later.after later.links_after) e ∙ later.rest_is;
  }

  -- the first event itself, if it waits on the channel
  here : (place : ℕ) (d : Did) (done : List Did) (links : List Link) (message : Message) → sent d ≡ Some message
      → same_channel message.channel channel ≡ true
      → letter channel place (Some message) ++ gather (waits_at channel) (place + 1) done links ≡ first ∷ rest
      → IsFirst channel place (d ∷ done) (is.Waits ∷ links) first rest
  here place d done links message sends same all =
      let one : Waiting = record { place = place; values = message.values } in
      let e : one ∷ gather (waits_at channel) (place + 1) done links ≡ first ∷ rest =
      subst (λ b. (if b then one ∷ [] else [])
      ++ gather (waits_at channel) (place + 1) done links ≡ first ∷ rest) same all in
      let is_first : one ≡ first = cc in
      let is_rest : gather (waits_at channel) (place + 1) done links ≡ rest = cc in
      record {
        before = [];
        out = d;
        after = done;
        links_before = [];
        links_after = links;
        done_is = refl;
        links_is = refl;
        as_long = refl;
        place_is = let p : place ≡ first.place = ap (λ (w : Waiting). w.place) is_first in omega (arith, p);
        message = message;
        sent_is = sends;
        channel_is = same;
        values_is = ap (λ (w : Waiting). w.values) is_first;
        none_before = refl;
        rest_is =
            let p : place + 0 + 1 ≡ place + 1 = omega arith in
            ap (λ q. gather (waits_at channel) q done links) p ∙ is_rest;
      }

  waiting_step : (place : ℕ) (d : Did) (done : List Did) (links : List Link) (o : Option Message) → sent d ≡ o
      → letter channel place o ++ gather (waits_at channel) (place + 1) done links ≡ first ∷ rest
      → (gather (waits_at channel) (place + 1) done links ≡ first ∷ rest
      → IsFirst channel (place + 1) done links first rest)
      → IsFirst channel place (d ∷ done) (is.Waits ∷ links) first rest
  waiting_step place d done links None sends all later =
      behind place d done is.Waits links (ap (letter channel place) sends) (later all)
  waiting_step place d done links (Some message) sends all later = by (same_channel message.channel channel) refl
    where
      by : (b : Bool) → same_channel message.channel channel ≡ b
          → IsFirst channel place (d ∷ done) (is.Waits ∷ links) first rest
      by true same = here place d done links message sends same all
      by false other =
          let none : letter channel place (Some message) ≡ [] =
          ap (λ b. if b then (record { place = place; values = message.values }) ∷ [] else []) other in
          behind place d done is.Waits links (ap (letter channel place) sends ∙ none)
          (later (sym (ap (λ xs. xs ++ gather (waits_at channel) (place + 1) done links) none) ∙ all))

  pub first_waits : (place : ℕ) (done : List Did) (links : List Link)
      → gather (waits_at channel) place done links ≡ first ∷ rest → IsFirst channel place done links first rest
  first_waits place [] links all = let no : ⊥ = cc in absurd no
  first_waits place (d ∷ done) [] all = let no : ⊥ = cc in absurd no
  first_waits place (d ∷ done) (is.Plain ∷ links) all =
      behind place d done is.Plain links refl (first_waits (place + 1) done links all)
  first_waits place (d ∷ done) (is.Arrow number ∷ links) all =
      behind place d done (is.Arrow number) links refl (first_waits (place + 1) done links all)
  first_waits place (d ∷ done) (is.Gone ∷ links) all =
      behind place d done is.Gone links refl (first_waits (place + 1) done links all)
  first_waits place (d ∷ done) (is.Waits ∷ links) all =
      waiting_step place d done links (sent d) refl all (first_waits (place + 1) done links)
