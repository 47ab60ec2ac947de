-- A text of a timeline: its heading, its steps and its end go out.
use Rattle.std.proofs.Common.{◌≡◌, ℕ, ◌<◌, List, [], ◌∷◌, ◌++◌, length, Option, refl, sym, ap, ◌∙◌, subst, append_assoc, append-nil, length-append, arith}
use Rattle.std.proofs.lemmas.List.{flat_map_more}
use Rattle.std.proofs.lemmas.List.Concat.{flat_map-append}
use Rattle.std.specs.List.{flat_map}
use Rattle.std.specs.Io.KnownBytes.{Appends}
use Rattle.std.proofs.KnownBytes.{Appends-nil, Appends-trans}
use Rattle.sdl_report.specs.Gathered.{Breaks, BreaksOff, Grows}
use Rattle.sdl_report.proofs.GatheredLemmas.{Breaks-after, Breaks-before, Breaks-gathered, Breaks-prefix, Grows-gathered, Grows-trans}
use Rattle.view_text.specs.Written.{BreaksBefore}

-- nothing more has gone out
pub before-now : (held : Option (List ℕ)) (gathered bytes : List ℕ) → BreaksBefore held gathered held bytes
before-now held gathered bytes = λ after some. (
  [],
  gathered ++ (bytes ++ after),
  Appends-nil held,
  refl,
  omega (arith, some, length-append gathered (bytes ++ after), length-append bytes after),
)

-- a break while the bytes are gathered
pub before-gathered : (a c : Option (List ℕ)) (g h bytes : List ℕ) → h ≡ g ++ bytes → Breaks a h c []
    → BreaksBefore a g c bytes
before-gathered a c g h bytes e break = λ after some.
    Breaks-before a c g bytes after (Breaks-gathered a c g h bytes e break)

module _ {X : Type 0} (f : X → List ℕ) (passed : List X) (x : X) (a b c : Option (List ℕ)) (g h : List ℕ)
    (before : Grows a g b h (flat_map f passed)) where
  -- one step more
  pub grows-step : (j : List ℕ) → Grows b h c j (f x) → Grows a g c j (flat_map f (passed ++ x ∷ []))
  grows-step j more =
      subst (Grows a g c j) (flat_map_more f [] passed x)
      (Grows-trans a b c g h j (flat_map f passed) (f x) before more)

  -- a break inside a step
  pub breaks-step : (left all : List X) → passed ++ x ∷ left ≡ all → BreaksBefore b h c (f x)
      → BreaksBefore a g c (flat_map f all)
  breaks-step left all is break = λ after some.
      let rest : List ℕ = flat_map f left in
      let far : 0 < length (rest ++ after) = omega (arith, some, length-append rest after) in
      let path : flat_map f passed ++ (f x ++ (rest ++ after)) ≡ flat_map f all ++ after =
      ap (λ l. flat_map f passed ++ l) (sym (append_assoc (f x) rest after))
      ∙ sym (append_assoc (flat_map f passed) (f x ++ rest) after)
      ∙ ap (λ l. l ++ after) (sym (flat_map-append f passed (x ∷ left)) ∙ ap (flat_map f) is) in
      subst (Breaks a g c) path
      (Breaks-after a b c g h (flat_map f passed) (f x ++ (rest ++ after)) before (break (rest ++ after) far))

-- ---- the whole text: the heading, the steps, and the end

-- nothing has gone out
pub breaks-none : (held : Option (List ℕ)) (steps closing : List ℕ) → 0 < length closing
    → BreaksOff held held (steps ++ closing)
breaks-none held steps closing some = Breaks-prefix held held (steps ++ closing) (before-now held [] steps closing some)

module _ (held held' : Option (List ℕ)) (first heading headed written steps closing : List ℕ)
    (some : 0 < length closing) (empty : first ≡ []) (is_headed : headed ≡ first ++ heading) (are : written ≡ steps)
  where
    gathers_heading : Grows held [] held headed heading
    gathers_heading = Grows-gathered held [] headed heading (is_headed ∙ ap (λ l. l ++ heading) empty)

    -- a break inside the steps
    pub breaks-steps : BreaksBefore held headed held' written → BreaksOff held held' ((heading ++ steps) ++ closing)
    breaks-steps break =
        let b : BreaksBefore held headed held' steps =
        subst (λ (w : List ℕ). BreaksBefore held headed held' w) are break in
        Breaks-prefix held held' ((heading ++ steps) ++ closing)
        (subst (Breaks held [] held') (sym (append_assoc heading steps closing))
        (Breaks-after held held held' [] headed heading (steps ++ closing) gathers_heading (b closing some)))

    module _ (text : List ℕ) (grows : Grows held headed held' text written) where
      from_nothing : Grows held [] held' text (heading ++ steps)
      from_nothing =
          Grows-trans held held held' [] headed text heading steps gathers_heading
          (subst (λ (w : List ℕ). Grows held headed held' text w) are grows)

      -- the end can't be made
      pub breaks-closing : BreaksOff held held' ((heading ++ steps) ++ closing)
      breaks-closing =
          Breaks-prefix held held' ((heading ++ steps) ++ closing)
          (Breaks-after held held' held' [] text (heading ++ steps) closing from_nothing
          (before-now held' text [] closing some))

      module _ (sent : Option (List ℕ)) (whole : List ℕ) (is : whole ≡ text ++ closing) where
        -- a break while the rest goes out
        pub breaks-sent : Breaks held' whole sent [] → BreaksOff held sent ((heading ++ steps) ++ closing)
        breaks-sent break =
            let all : List ℕ = (heading ++ steps) ++ closing in
            let gathered : Grows held [] held' whole all =
            Grows-trans held held' held' [] text whole (heading ++ steps) closing from_nothing
            (Grows-gathered held' text whole closing is) in
            Breaks-prefix held sent all
            (subst (Breaks held [] sent) (append-nil all) (Breaks-after held held' sent [] whole all [] gathered break))

        -- all has gone out
        pub appends-sent : Appends held' sent whole → Appends held sent ((heading ++ steps) ++ closing)
        appends-sent out =
            let g : Grows held [] held' text (heading ++ steps) = from_nothing in
            let path : g.0 ++ whole ≡ (heading ++ steps) ++ closing =
            ap (λ l. g.0 ++ l) is ∙ sym (append_assoc g.0 text closing) ∙ ap (λ l. l ++ closing) g.2 in
            subst (Appends held sent) path (Appends-trans held held' sent g.0 whole g.1 out)
