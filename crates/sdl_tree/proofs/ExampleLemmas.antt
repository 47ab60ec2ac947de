-- The examples.
use Rattle.std.proofs.Common.{refl, inl, inr, ⊎_elim, arith, []}
use Rattle.sdl_tree.specs.declared.expressions.Operator.TheVariants as operator
use Rattle.sdl_tree.specs.Erased.{plain}
use Rattle.sdl_tree.specs.Spells.Expressions.{limit, SpellsAt, SpellsInner, SpellsTimer}
use Rattle.sdl_tree.specs.Tree.{Expr, Chain, AndLink, NoLink}
use Rattle.sdl_tree.specs.Examples.{c, difference, SystemSpelled, SystemWritten, TransitionSpelled, StateSpelled, ProcessSpelled, BlockSpelled, IsOneChain, NotInAnother, NegatesTheFirst, PlacesKept}
use Rattle.sdl_tree.specs.Keyword.{keyword_found, sign_found, left_out_found}
use Rattle.sdl_tree.specs.Words.{Words, word_of}

pub system_spelled : SystemSpelled
unfolding word_of keyword_found sign_found left_out_found
system_spelled = (_, _, refl, (_, (_, refl, inr (_, _, _, refl)), (_, (_, (_, _, refl, (_, (_, refl, refl), inl (_, refl))), (_, (_, refl, (_, refl, (_, (_, refl, (_, (_, _, refl, (_, refl, (_, _, refl, (_, refl, (_, _, refl, (_, refl, inl (_, refl))))))), refl)), (_, _, _, refl, inr (_, refl, refl), inl (_, refl))))), (_, (_, refl, (_, refl, (_, (_, refl, inl (_, refl)), (_, refl, (_, refl, (_, (_, (_, refl, inl (_, refl)), (_, refl, (_, refl, (_, refl, (_, refl, inl (_, refl)))))), (_, (_, (_, _, refl, (_, (_, (_, refl, inl (_, refl)), refl), inr (_, _, _, refl, inr (_, _, (0, omega arith, refl), refl, refl), inl (_, refl)))), refl), (_, _, _, refl, inl refl, inl (_, refl))))))))), refl))), (_, _, _, refl, inl refl, inl (_, refl)))))

pub system_written : SystemWritten
system_written = refl

pub transition_spelled : TransitionSpelled
unfolding word_of keyword_found sign_found left_out_found
transition_spelled = (_, (_, (_, (_, refl), (_, refl, (_, (_, _, (_, refl, (_, _, refl, inl (inl (inl (inl (inl (inl (inl refl)))))))), (_, refl, (_, _, refl, inl (inl (inl (inl (inl (inl (inl refl))))))))), inl (_, refl)))), (_, (_, refl, (_, refl, (_, (_, (_, _, (_, refl, refl), (_, refl, (_, _, refl, (_, (_, _, inl (inl (inl (inl (inl (inl (inl refl)))))), inl (inl (inl (inl (inl (inl (inl refl))))))))))), (_, refl, inl (inl (inl (inl (inl (inl (inl refl)))))))), inl (_, refl)))), (_, (_, refl, (_, refl, (_, (_, _, (_, _, refl, (_, (_, (_, inl (inl (inl (inl (inr (_, inl (inl refl), (_, (refl, (_, refl, inl (inl refl))), refl))))))), (_, refl, (_, _, refl, (_, inl (inl (inl (inl (inl (inl (inl refl)))))))))))), (_, _, refl, (_, (_, refl, (_, refl, refl))))), inl (_, refl)))), (_, (_, refl, (_, refl, (_, (_, _, (_, _, refl, (_, (_, _, (_, refl, (_, _, refl, (_, inl (inl (inl (inl (inl (inl (inl refl))))))))), (_, refl, refl)))), (_, _, refl, (_, (_, refl, refl)))), inl (_, refl)))), (_, (_, refl, (_, refl, (_, (_, refl, (_, _, refl, (_, inl (inl (inl (inl (inl (inl (inl refl))))))))), inl (_, refl)))), (_, (_, refl, (_, refl, (_, (_, inl (inl (inl (inl (inl (inl (inl refl)))))), inl (_, refl)), (_, (_, (_, (_, _, refl, (_, (_, _, inl (inl (inl (inl (inl (inl (inl refl)))))), (_, _, (refl, (_, refl, inl (inl (inl (inl (inl (inl (inl refl)))))))), (_, inl (inl (inl (inl (inl (inl (inl refl)))))), (_, _, refl, inl (inl (inl (inl (inl (inl (inl refl)))))))))))), (_, _, refl, (_, refl, (_, refl, (_, refl, inl (_, refl)))))), (_, (_, (_, _, refl, (_, inl (inl (inl (inl (inl (inl (inl refl)))))))), (_, _, refl, (_, refl, refl))), refl)), (_, (_, (_, _, refl, (_, _, refl, (_, refl, (_, refl, (_, refl, (_, refl, inl (_, refl)))))))), inr (_, _, _, refl)))))), refl)))))), (_, refl, (_, refl, (_, refl, inl (_, refl)))))

pub state_spelled : StateSpelled
unfolding word_of keyword_found sign_found left_out_found
state_spelled = (_, _, refl, (_, (_, (_, (_, refl, (_, _, refl, (_, (_, _, refl, refl)))), inl (_, refl)), (_, (_, refl, (_, refl, inl (_, refl))), (_, (_, refl, (_, (_, _, refl, (_, _, refl, (_, refl))), inl (_, refl))), (_, (_, refl, (_, _, refl, (_, (_, (_, _, (_, refl, refl), (_, refl, (_, _, refl, (_, (_, _, refl, refl))))), inl (_, refl)), (λ b. cc, (_, refl, (_, refl, (_, refl, inl (_, refl)))))))), (_, (_, refl, (_, (_, (_, refl, (_, _, refl, (_, refl))), inl (_, refl)), (_, (_, refl, (_, inl (inl (inl (inl (inl (inl (inr (_, refl, refl))))))), inl (_, refl))), (_, refl, refl)))), (_, (_, refl, (_, (_, inl (inl (inl (inl (inl (inl (inl ((_, refl, (_, _, refl, (_, (_, refl, (_, _, refl, (_, inl (inl (inl (inl (inl (inl (inl refl))))))))))))))))))), inl (_, refl)), (_, (_, _, refl, (_, refl, inl (_, refl))), (_, refl, (_, refl, (_, refl, inl (_, refl))))))), refl)))))), inr (_, _, _, refl, refl, inl (_, refl))))

pub process_spelled : ProcessSpelled
unfolding word_of keyword_found sign_found left_out_found
process_spelled = (_, refl, (_, refl, (_, (_, (_, refl, (_, (_, inl (inl (inl (inl (inl (inl (inl refl)))))), (_, _, refl, refl)))), inl (_, refl)), (_, (_, refl, (_, (_, _, (_, (_, _, refl, refl), refl), (_, refl, refl)), inl (_, refl))), (_, (_, (_, refl, (_, (_, _, refl, (_, _, refl, (_, refl))), inl (_, refl))), (_, (_, _, refl, (_, (_, _, (_, refl, (_, refl, (_, _, refl, inl (inl (inl (inl (inl (inl (inr (_, refl, refl)))))))))), (_, refl, (_, refl, refl))), inl (_, refl))), (_, (_, refl, (_, (_, _, (_, refl, (_, (_, _, refl, (_, refl)), (_, _, refl, inl (inl (inl (inl (inl (inl (inl refl))))))))), (_, refl, (_, refl, refl))), inl (_, refl))), refl))), (_, (_, (_, refl, inl (_, refl)), (_, refl, (_, refl, (_, refl, inl (_, refl))))), (_, (_, (_, refl, (_, (_, (_, refl), (_, refl, (_, refl, (_, refl, inl (_, refl))))), inl refl)), refl), (_, _, _, refl, inl refl, inl (_, refl)))))))))

pub block_spelled : BlockSpelled
unfolding word_of keyword_found sign_found left_out_found
block_spelled = (_, refl, (_, (_, refl, inl (_, refl)), (_, (_, (_, refl, (_, refl, (_, _, refl, (_, (_, _, refl, (_, _, refl, (_, refl))), inl (_, refl))))), (_, (_, refl, (_, (_, refl, (_, refl, (_, _, refl, inl (inl (inl (inl (inl (inl (inl refl))))))))), inl (_, refl))), (_, (_, refl, (_, refl, (_, (_, (_, refl), (_, (_, _, refl, (_, refl, (_, _, refl, (_, refl, (_, _, refl, (_, (_, _, refl, (_, refl)), inl (_, refl))))))), (_, _, refl, (_, refl, (_, _, refl, (_, refl, (_, _, refl, (_, refl, inl (_, refl))))))))), (_, _, _, refl, inl refl, inl (_, refl))))), (_, (_, refl, (_, refl, (_, _, refl, (_, (_, _, refl, refl), inl (_, refl))))), refl)))), (_, _, _, refl, inr (_, refl, refl), inl (_, refl)))))

pub one_chain : IsOneChain
unfolding word_of keyword_found sign_found left_out_found
one_chain = inl (inl (inl (inl (inr (_, inl (inl refl), (_, (refl, (_, refl, inl (inl refl))), (_, (refl, (_, refl, inl (inl refl))), refl)))))))

-- no chain of the looseness 3 spells at the looseness 2
too_tight : (first rest : Expr) (i j : Words) →
    ¬ SpellsAt (SpellsInner limit) (SpellsTimer limit) 2 (Chain first (AndLink operator.Minus plain rest NoLink)) i j
too_tight first rest i j s = ⊎_elim (λ t. ⊎_elim (λ p. p) (λ u. u) t) (λ chain. let e = chain.2.1.0 in omega arith) s

pub not_in_another : NotInAnother
not_in_another first rest s = ⊎_elim
    (λ s6. ⊎_elim
    (λ s5. ⊎_elim
    (λ s4. ⊎_elim
    (λ s3. ⊎_elim (λ s2. too_tight (Chain first (AndLink operator.Minus plain rest NoLink)) c difference [] s2) (λ chain. too_tight first rest _ _ chain.1) s3)
    (λ chain. let e = chain.2.1.0 in omega arith) s4)
    (λ chain. let e = chain.2.1.0 in omega arith) s5)
    (λ chain. let e = chain.2.1.0 in omega arith) s6)
    (λ chain. let e = chain.2.1.0 in omega arith) s

pub negates_first : NegatesTheFirst
unfolding word_of keyword_found sign_found left_out_found
negates_first = inl (inl (inl (inr (_, inl (inl (inr (_, refl, refl))), (_, (refl, (_, refl, inl (inl (inl refl)))), refl)))))

pub places_kept : PlacesKept
unfolding word_of keyword_found sign_found left_out_found
places_kept = (
  _,
  _,
  refl,
  (
    _,
    (_, refl, inl (_, refl)),
    (
      _,
      (_, (_, refl, (_, (_, refl, inl (_, refl)), (_, refl, (_, _, _, refl, inl refl, inl (_, refl))))), refl),
      (_, _, _, refl, inl refl, inl (_, refl)),
    ),
  ),
)
