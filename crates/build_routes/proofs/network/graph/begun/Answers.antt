use Rattle.std.proofs.Common.{◌≡◌, ◌∙◌, ℕ, ◌+◌, ◌<◌, ◌++◌, ◌∷◌, [], List, ap, arith, get_or, inl, inr, subst, sym}
use Rattle.std.specs.List.{Contains}
use Rattle.std.proofs.lemmas.Bool.{cases_eq}
use Rattle.std.proofs.lemmas.List.Elements.{Contains-append_left, Contains-push}
use Rattle.build_routes.specs.Mask.{Bit, Has}
use Rattle.build_routes.proofs.Bits.{no_bit}
use Rattle.build_routes.proofs.network.graph.begun.Goals as goal
use Rattle.build_routes.proofs.network.graph.begun.Goals.{then-mask-ne0+in_ok-push, else-mask-ne0}

begun_more : (start nodes more : List ℕ) (i : ℕ) → ((n k : ℕ) → n < i → Has start n k → Contains nodes n) →
    more ≡ nodes ++ i ∷ [] → (n k : ℕ) → n < i + 1 → Has start n k → Contains more n
begun_more start nodes more i before added n k below has =
    subst (λ l. Contains l n) (sym added) (elim (cases_eq n i) [
      | inl same ↦ subst (λ m. Contains (nodes ++ i ∷ []) m) (sym same) (Contains-push nodes i)
      | inr other ↦ Contains-append_left nodes (i ∷ []) n (before n k (omega arith) has)
    ])

begun_on : (start nodes : List ℕ) (i : ℕ) → ((n k : ℕ) → n < i → Has start n k → Contains nodes n) →
    get_or start i 0 ≡ 0 → (n k : ℕ) → n < i + 1 → Has start n k → Contains nodes n
begun_on start nodes i before none n k below has = elim (cases_eq n i) [
  | inl same ↦ absurd (no_bit k (subst (λ m. Bit m k) (ap (λ j. get_or start j 0) same ∙ none) has))
  | inr other ↦ before n k (omega arith) has
]

pub loop-node-preserved : goal.loop-node-preserved
loop-node-preserved c = λ n k below has.
    let start = c.args.start.now in
    let i = c.loop-node.node in
    elim c.if-mask-ne0.branch [
      | then-mask-ne0+in_ok-push w ↦
          begun_more start c.loop-node.nodes.items c.if-mask-ne0.nodes.items i c.loop-node.invariant
          (ap (λ x. x.items) w.nodes-is ∙ w.in_ok-push.ensures.items) n k below has
      | else-mask-ne0 w ↦
          subst (λ x. Contains x.items n) (sym w.nodes-is)
          (begun_on start c.loop-node.nodes.items i c.loop-node.invariant w.if-mask-ne0.false n k below has)
    ]
