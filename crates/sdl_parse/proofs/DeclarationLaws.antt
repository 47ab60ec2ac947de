-- The laws of synonyms, parameters, variables and timers.
use Rattle.sdl_parse.proofs.Words.{Anywhere, Behind, Expr, Law, Option, Optional, SpellsDcl, SpellsEnd, SpellsExpr, SpellsFpar, SpellsInitial, SpellsOne, SpellsParameters, SpellsSynonym, SpellsSynonymName, SpellsVariables, Stops, Words, ap, behind_law, both_law, end_other, ended_law, erased_expr, erased_fpar, erased_parameters, erased_synonym, erased_synonyms, erased_timer, erased_timers, erased_variables, expr_law, false, front, loosest, map, mark_law, maybe_mark, name_law, option_map, optional_law, record_law, refl, same_mark, sees, separated_law, sort_law, sorts_law, stops_at, stops_end, stops_last, stops_law, suc, then_law, ℕ, ◌≡◌, optional_at, names_law}
use Rattle.sdl_tree.specs.declared.mark.Mark.TheVariants as mark
use Rattle.sdl_tree.specs.Spells.{SpellsTimer}
use Rattle.sdl_parse.specs.Synonyms.{synonym_with, synonym_name, synonyms_with, synonym}
use Rattle.sdl_parse.specs.Declarations.{parameters_with, parameters, fpar_with, fpar, some_fpar, initial, variables_with, variables, dcl, timer_with, one, timers_with, timer}
use Rattle.sdl_parse.proofs.EndingLaws.{name_no_mark}

-- ---- synonyms

synonym_name_law : (d : ℕ) → Law (synonym_name d) (SpellsSynonymName d) (SpellsSynonymName (suc d)) (Stops loosest) erased_synonym
unfolding synonym_name
synonym_name_law d = record_law synonym_with (λ y. (y.name, (y.sort, y.value))) (λ x. refl) (λ x. refl) (λ y. refl)
    (then_law name_law (then_law sort_law (behind_law mark.Equal (expr_law d))))

pub synonym_law : (d : ℕ) → Law (synonym d) (SpellsSynonym d) (SpellsSynonym (suc d)) Anywhere erased_synonyms
unfolding synonym same_mark
synonym_law d = record_law synonyms_with (λ y. (y.word, y.synonyms)) (λ x. refl) (λ x. refl) (λ y. refl)
    (then_law (mark_law mark.Synonym)
    (ended_law (separated_law (synonym_name_law d) (stops_at mark.Comma refl loosest) (stops_last loosest))
    (λ i j s. (stops_end loosest i j s, end_other mark.Comma refl refl i j s))))

-- ---- ["fpar" vars end]

parameters_law : Law parameters SpellsParameters SpellsParameters Anywhere erased_parameters
unfolding parameters
parameters_law = record_law parameters_with (λ y. (y.names, y.sort)) (λ x. refl) (λ x. refl) (λ y. refl)
    (both_law names_law sort_law (λ y m j s t. (tt, name_no_mark mark.Comma y m j s)))

fpar_law : Law fpar SpellsFpar SpellsFpar Anywhere erased_fpar
unfolding fpar same_mark
fpar_law = record_law fpar_with (λ y. (y.word, y.groups)) (λ x. refl) (λ x. refl) (λ y. refl)
    (then_law (mark_law mark.Fpar)
    (ended_law (separated_law parameters_law (λ s m. tt) tt) (λ i j s. (tt, end_other mark.Comma refl refl i j s))))

pub some_fpar_law : Law some_fpar (Optional SpellsFpar) (Optional SpellsFpar) (λ j. Anywhere j × (sees mark.Fpar j ≡ false)) (option_map erased_fpar)
some_fpar_law = optional_law (maybe_mark mark.Fpar fpar_law (λ x i j s. (x.word, s.0, s.1)))

-- ---- "dcl" vars end

-- where an initial value stops, and none begins
abbrev pub BehindInitial : Words → Type 0
BehindInitial j = Stops loosest j × (sees mark.Assign j ≡ false)

-- [":=" expr]
initial_law : (d : ℕ) → Law (initial d) (SpellsInitial d) (SpellsInitial (suc d)) BehindInitial (option_map erased_expr)
initial_law d = optional_law (maybe_mark mark.Assign (behind_law mark.Assign (expr_law d)) (λ x i j s. (s.0, s.1, s.2)))

initial_end : (i j : Words) → SpellsEnd i j → BehindInitial i × (sees mark.Comma i ≡ false)
unfolding same_mark
initial_end i j s = ((stops_end loosest i j s, end_other mark.Assign refl refl i j s), end_other mark.Comma refl refl i j s)

variables_law : (d : ℕ) → Law (variables d) (SpellsVariables d) (SpellsVariables (suc d)) BehindInitial erased_variables
unfolding variables
variables_law d = record_law variables_with (λ y. (y.names, (y.sort, y.initial))) (λ x. refl) (λ x. refl) (λ y. refl)
    (both_law names_law (then_law sort_law (initial_law d)) (λ y m j s t. (tt, name_no_mark mark.Comma y.0 m s.0 s.1)))

pub dcl_law : (d : ℕ) → Law (dcl d) (SpellsDcl d) (SpellsDcl (suc d)) Anywhere (map erased_variables)
unfolding dcl sees front same_mark
dcl_law d = behind_law mark.Dcl
    (ended_law (separated_law (variables_law d) (λ s m. (stops_at mark.Comma refl loosest s m, refl)) (stops_last loosest, refl)) initial_end)

-- ---- timers

-- where a timer stops: neither sorts nor a duration begin
abbrev BehindTimer : Words → Type 0
BehindTimer j = BehindInitial j × (sees mark.Open j ≡ false)

-- no sorts stand before a duration
duration_unseen : (d : ℕ) (x : Option Expr) (i j : Words) → SpellsInitial d x i j → BehindTimer j → sees mark.Open i ≡ false
unfolding sees front same_mark
duration_unseen d x i j s t = optional_at (Behind mark.Assign (SpellsExpr d)) (λ k. sees mark.Open k ≡ false) (λ e k l r. ap (sees mark.Open) r.2) x i j s t.1

one_law : (d : ℕ) → Law (one d) (SpellsOne d) (SpellsOne (suc d)) BehindTimer erased_timer
unfolding one
one_law d = record_law timer_with (λ y. (y.name, (y.sorts, y.duration))) (λ x. refl) (λ x. refl) (λ y. refl)
    (then_law name_law (both_law sorts_law (stops_law (λ j t. t.0) (initial_law d)) (duration_unseen d)))

pub timer_law : (d : ℕ) → Law (timer d) (SpellsTimer d) (SpellsTimer (suc d)) Anywhere erased_timers
unfolding timer sees front same_mark
timer_law d = record_law timers_with (λ y. (y.word, y.timers)) (λ x. refl) (λ x. refl) (λ y. refl)
    (then_law (mark_law mark.Timer)
    (ended_law
    (separated_law (one_law d) (λ s m. ((stops_at mark.Comma refl loosest s m, refl), refl)) ((stops_last loosest, refl), refl))
    (λ i j s. let e = initial_end i j s in ((e.0, end_other mark.Open refl refl i j s), e.1))))
