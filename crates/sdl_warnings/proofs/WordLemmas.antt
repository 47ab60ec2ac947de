-- Words, one by one.
use Rattle.std.proofs.Common.{◌≡◌, ◌==◌, ◌&&◌, not, Option, Some, ◌<◌, ◌≤◌, ◌+◌, ◌-◌, ◌++◌, ◌∷◌, [], ◌∙◌, ℕ, Bool, true, false, if◌then◌else◌, List, ap, append_assoc, arith, drop, get_or, length, length-drop, reverse, slice_range, sym, take}
use Rattle.std.proofs.lemmas.List.{drop_more, get_or-drop, reverse-append, take_more}
use Rattle.parse_expressions.specs.declared.word.PlacedWord.{PlacedWord}
use Rattle.sdl_warnings.specs.Colons.{depth_after}
use Rattle.sdl_warnings.specs.Decisions.{answered, closes, ended_at, listed, of_answer, of_answers, own_after, parts}
use Rattle.sdl_warnings.specs.Loops.{is_closed, is_label, leads_out, loop_at, loops, over}
use Rattle.sdl_warnings.specs.declared.back.Back.{Back}
use Rattle.sdl_warnings.specs.declared.answered.Answered.{Answered}
use Rattle.sdl_warnings.specs.declared.suspicion.Oddity.{Oddity}

pub range_more : {X : Type 0} (xs : List X) (begin at : ℕ) (d : X) → begin ≤ at → at < length xs
    → slice_range xs begin (at + 1) ≡ slice_range xs begin at ++ get_or xs at d ∷ []
range_more xs begin at d before within =
    let n : (at + 1) - begin ≡ (at - begin) + 1 = omega (arith, before) in
    let left = length-drop begin xs in
    let inside : at - begin < length (drop begin xs) = omega (arith, left, before, within) in
    let place : begin + (at - begin) ≡ at = omega (arith, before) in
    ap (λ k. take k (drop begin xs)) n
    ∙ take_more (drop begin xs) (at - begin) d inside
    ∙ ap (λ x. take (at - begin) (drop begin xs) ++ x ∷ []) (get_or-drop begin xs (at - begin) d ∙ ap (λ k. get_or xs k d) place)

pub reverse_more : {X : Type 0} (xs : List X) (at : ℕ) (d : X) → at < length xs
    → reverse (take (at + 1) xs) ≡ get_or xs at d ∷ reverse (take at xs)
reverse_more xs at d within =
    ap reverse (take_more xs at d within) ∙ reverse-append (take at xs) (get_or xs at d ∷ [])

module _ (words : List PlacedWord) (all : List Oddity) where
  pub looped : (at : ℕ) (d : PlacedWord) (found found' : List Oddity) → at < length words
      → found' ≡ found ++ loop_at (reverse (take at words)) (get_or words at d) (drop (at + 1) words)
      → found ++ loops (reverse (take at words)) (drop at words) ≡ all
      → found' ++ loops (reverse (take (at + 1) words)) (drop (at + 1) words) ≡ all
  looped at d found found' within grows so_far =
      let word = get_or words at d in
      let before = reverse (take at words) in
      let more = drop (at + 1) words in
      let one = loop_at before word more in
      let next : reverse (take (at + 1) words) ≡ word ∷ before = reverse_more words at d within in
      let here : drop at words ≡ word ∷ more = drop_more words at d within in
      ap (λ l. l ++ loops (reverse (take (at + 1) words)) more) grows
      ∙ ap (λ l. (found ++ one) ++ loops l more) next
      ∙ append_assoc found one (loops (word ∷ before) more)
      ∙ ap (λ l. found ++ loops before l) (sym here)
      ∙ so_far

module _ (answers : List Answered) (all : List Oddity) where
  pub answer_more : (at : ℕ) (d : Answered) (found found' : List Oddity) → at < length answers
      → found' ≡ found ++ of_answer (take at answers) (get_or answers at d)
      → found ++ of_answers (take at answers) (drop at answers) ≡ all
      → found' ++ of_answers (take (at + 1) answers) (drop (at + 1) answers) ≡ all
  answer_more at d found found' within grows so_far =
      let one = get_or answers at d in
      let before = take at answers in
      let more = drop (at + 1) answers in
      let told = of_answer before one in
      let next : take (at + 1) answers ≡ before ++ one ∷ [] = take_more answers at d within in
      let here : drop at answers ≡ one ∷ more = drop_more answers at d within in
      ap (λ l. l ++ of_answers (take (at + 1) answers) more) grows
      ∙ ap (λ l. (found ++ told) ++ of_answers l more) next
      ∙ append_assoc found told (of_answers (before ++ one ∷ []) more)
      ∙ ap (λ l. found ++ of_answers before l) (sym here)
      ∙ so_far

pub begin_within : (begin at : ℕ) (b : Bool) (begin' : ℕ) → begin ≤ at → begin' ≡ (if b then at + 1 else begin)
    → begin' ≤ at + 1
begin_within begin at true begin' before is = omega (arith, is)
begin_within begin at false begin' before is = omega (arith, is, before)

module _ (words : List PlacedWord) (begin at : ℕ) (d : PlacedWord) (before : begin ≤ at) where
  range_after : (b : Bool) (begin' : ℕ) → at < length words → begin' ≡ (if b then at + 1 else begin)
      → slice_range words begin' (at + 1) ≡ (if b then [] else slice_range words begin at ++ get_or words at d ∷ [])
  range_after true begin' within is =
      let none : (at + 1) - begin' ≡ 0 = omega (arith, is) in
      ap (λ k. take k (drop begin' words)) none
  range_after false begin' within is =
      ap (λ k. slice_range words k (at + 1)) is ∙ range_more words begin at d before within

  abbrev word : PlacedWord
  word = get_or words at d

  pub listed_more : (depth depth' begin' : ℕ) (found found' all : List Answered) → at < length words
      → closes depth word ≡ false → depth' ≡ depth_after depth word
      → begin' ≡ (if parts depth word then at + 1 else begin)
      → found' ≡ found ++ ended_at depth (slice_range words begin at) word
      → found ++ listed depth (slice_range words begin at) (drop at words) ≡ all
      → found' ++ listed depth' (slice_range words begin' (at + 1)) (drop (at + 1) words) ≡ all
  listed_more depth depth' begin' found found' all within is_open deep is grows so_far =
      let range = slice_range words begin at in
      let more = drop (at + 1) words in
      let ended = ended_at depth range word in
      let next = listed (depth_after depth word) (own_after depth range word) more in
      let own = range_after (parts depth word) begin' within is in
      let grown : found' ++ listed depth' (slice_range words begin' (at + 1)) more ≡ (found ++ ended) ++ next =
      λ i. grows i ++ listed (deep i) (own i) more in
      grown
      ∙ append_assoc found ended next
      ∙ ap (λ l. found ++ l) (sym (ap (λ b. if b then answered range else (ended ++ next)) is_open))
      ∙ ap (λ l. found ++ listed depth range l) (sym (drop_more words at d within))
      ∙ so_far

module _ (text : List ℕ) (words : List PlacedWord) (at : ℕ) (d : PlacedWord) (back : Back) (next : Option PlacedWord) where
  abbrev last : PlacedWord
  last = get_or words (at - 1) d

  abbrev front : List PlacedWord
  front = reverse (take (at - 1) words)

  parted : 0 < at → at ≤ length words → reverse (take at words) ≡ last ∷ front
  parted some within =
      let place : at ≡ (at - 1) + 1 = omega (arith, some) in
      let inside : at - 1 < length words = omega (arith, some, within) in
      ap (λ k. reverse (take k words)) place ∙ reverse_more words (at - 1) d inside

  module _ (result : Bool) (some : 0 < at) (within : at ≤ length words)
      (so_far : is_closed text back next (reverse (take at words)) ≡ result) where
    abbrev chosen : Bool → Bool → Bool
    chosen here out = if here then back.decisions == 0 else (not out && is_closed text (over back last) (Some last) front)

    whole : chosen (is_label text back next last) (leads_out text back next last) ≡ result
    whole = ap (is_closed text back next) (sym (parted some within)) ∙ so_far

    pub closed_here : is_label text back next last ≡ true → (back.decisions == 0) ≡ result
    closed_here here = sym (ap (λ b. chosen b (leads_out text back next last)) here) ∙ whole

    pub closed_out : is_label text back next last ≡ false → leads_out text back next last ≡ true → false ≡ result
    closed_out here out =
        let is : chosen (is_label text back next last) (leads_out text back next last) ≡ chosen false true =
        λ i. chosen (here i) (out i) in
        sym is ∙ whole

    pub closed_more : is_label text back next last ≡ false → leads_out text back next last ≡ false
        → is_closed text (over back last) (Some last) front ≡ result
    closed_more here out =
        let is : chosen (is_label text back next last) (leads_out text back next last) ≡ chosen false false =
        λ i. chosen (here i) (out i) in
        sym is ∙ whole
