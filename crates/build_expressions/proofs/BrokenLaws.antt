-- Each rule that is broken in an expression is among its faults.
use Rattle.std.proofs.Common.{◌≡◌, ◌∙◌, ◌++◌, ◌==◌, not, Bool, true, false, ℕ, List, [], ◌∷◌, Option, None, Some, flat_map, length, map, is_none, if◌then◌else◌, inl, refl, sym, ap, subst}
use Rattle.std.proofs.lemmas.Bool.{eqb-true, eqb-false}
use Rattle.std.proofs.lemmas.List.{length-map}
use Rattle.build_names.proofs.FaultLemmas.{in-each, in-if, in-left, in-right}
use Rattle.build_names.specs.FaultLaws.{In}
use Rattle.build_names.specs.Faults.{Diagnostic, diagnostic_at, mark_word}
use Rattle.build_names.specs.declared.faults.fault.Rule.TheVariants.{Unknown, Sort}
use Rattle.build_expressions.specs.Broken.{BreaksPlaces, InLinks, InValues, IsBroken, IsBrokenAt, IsBrokenIn, IsNoTimer, IsOperation, Within, append_links}
use Rattle.build_expressions.specs.Broken as broken
use Rattle.build_expressions.specs.Contexts.{allows_instance, allows_word}
use Rattle.build_expressions.specs.OperandSorts.{fits, result_of, unary_result_of}
use Rattle.build_expressions.specs.Misused.{active_faults, binary_faults, expression_faults, fault_of_place, links_faults, list_faults, misplaced, name_faults, place_faults, places_faults, timer_faults, unary_faults, values_faults}
use Rattle.build_expressions.specs.Scope.{Scope, SignalMeaning, signal_in}
use Rattle.build_expressions.specs.Typing.{Typed, argument_in, arguments_in, binary_typed, chain_typed, typed_in}
use Rattle.build_expressions.specs.Words.{first_word}
use Rattle.build_expressions.specs.declared.context.Context.{Context}
use Rattle.build_expressions.proofs.ListedLaws.{arguments_in-listed}
use Rattle.sdl_system.specs.declared.sort.Sort as sorts
use Rattle.sdl_tree.specs.Spells.Expressions.{operator_mark, unary_mark, value_mark}
use Rattle.sdl_tree.specs.Tree.{Expr, Exprs, Links, Active, NoLink, AndLink, exprs_in}
use Rattle.sdl_tree.specs.Words.{Spot}
use Rattle.sdl_tree.specs.declared.expressions.Operator.{Operator}
use Rattle.sdl_tree.specs.declared.mark.Mark.TheVariants as mark
use Rattle.sdl_tree.specs.declared.name.Spelling.{Spelling}

-- ---- values at places

in-misplaced : (context : Context) (scope : Scope) (before : List Expr) (value : Expr) (after : List Expr)
    (places_before : List (Option sorts.Sort)) (sort : sorts.Sort) (places_after : List (Option sorts.Sort)) →
    length before ≡ length places_before → (typed : Typed) → typed_in context scope value ≡ Some typed →
    fits typed.kind sort ≡ false →
    In (diagnostic_at Sort (first_word value)) (misplaced (places_before ++ Some sort ∷ places_after)
    (map (argument_in context scope) (before ++ value ∷ after)))
in-misplaced context scope [] value after [] sort places_after same typed is differs =
    subst (λ found. In (diagnostic_at Sort (first_word value)) (fault_of_place (Some sort) (first_word value) found
    ++ misplaced places_after (map (argument_in context scope) after))) (sym is)
    (in-left (diagnostic_at Sort (first_word value)) (fault_of_place (Some sort) (first_word value) (Some typed))
    (misplaced places_after (map (argument_in context scope) after))
    (in-if (not (fits typed.kind sort)) Sort (first_word value) (ap not differs)))
in-misplaced context scope [] value after (place ∷ places_before) sort places_after same typed is differs =
    absurd (let never : ⊥ = cc in never)
in-misplaced context scope (other ∷ before) value after [] sort places_after same typed is differs =
    absurd (let never : ⊥ = cc in never)
in-misplaced context scope (other ∷ before) value after (place ∷ places_before) sort places_after same typed is
    differs =
    in-right (diagnostic_at Sort (first_word value))
    (fault_of_place place (first_word other) (typed_in context scope other))
    (misplaced (places_before ++ Some sort ∷ places_after) (map (argument_in context scope) (before ++ value ∷ after)))
    (in-misplaced context scope before value after places_before sort places_after (let e : _ = cc in e) typed is
    differs)

-- which of the two the faults are
abbrev counted_faults : Bool → Spot → List Diagnostic → List Diagnostic
counted_faults counted name faults = if counted then faults else diagnostic_at Sort name ∷ []

in-uncounted : (counted : Bool) (name : Spot) (faults : List Diagnostic) → counted ≡ false →
    In (diagnostic_at Sort name) (counted_faults counted name faults)
in-uncounted true name faults is = cc
in-uncounted false name faults is = inl refl

in-counted : (counted : Bool) (name : Spot) (faults : List Diagnostic) (fault : Diagnostic) → counted ≡ true →
    In fault faults →
    In fault (counted_faults counted name faults)
in-counted true name faults fault is at = at
in-counted false name faults fault is at = cc

eqb-same : (n m : ℕ) (counted : Bool) → (n == m) ≡ counted → n ≡ m → counted ≡ true
eqb-same n m true is same = refl
eqb-same n m false is same = absurd (eqb-false n m is same)

eqb-other : (n m : ℕ) (counted : Bool) → (n == m) ≡ counted → (n ≡ m → ⊥) → counted ≡ false
eqb-other n m true is other = absurd (other (eqb-true n m is))
eqb-other n m false is other = refl

pub in-places : (context : Context) (scope : Scope) (name : Spot) (places : List (Option sorts.Sort))
    (values : List Expr)
    (fault : Diagnostic) → BreaksPlaces context scope name places values fault →
    In fault (places_faults name places (map (argument_in context scope) values))
in-places context scope name places values fault (broken.count other) =
    in-uncounted (length (map (argument_in context scope) values) == length places) name
    (misplaced places (map (argument_in context scope) values))
    (eqb-other _ _ (length (map (argument_in context scope) values) == length places) refl
    (λ same. other (sym (length-map values (argument_in context scope)) ∙ same)))
in-places context scope name places values fault (broken.misfit value same at) =
    in-counted (length (map (argument_in context scope) values) == length places) name
    (misplaced places (map (argument_in context scope) values)) (diagnostic_at Sort (first_word value))
    (eqb-same _ _ (length (map (argument_in context scope) values) == length places) refl
    (length-map values (argument_in context scope) ∙ same))
    (subst (λ list. In (diagnostic_at Sort (first_word value))
    (misplaced list (map (argument_in context scope) values)))
    (sym at.places_are)
    (subst (λ list. In (diagnostic_at Sort (first_word value))
    (misplaced (at.places_before ++ Some at.sort ∷ at.places_after) (map (argument_in context scope) list)))
    (sym at.values_are)
    (in-misplaced context scope at.before value at.after at.places_before at.sort at.places_after at.same_place
    at.misfit.typed at.misfit.typed_is at.misfit.misfit)))

-- ---- parts

module _ (context : Context) (scope : Scope) where
  mutual
    kept : {part whole : Expr} → Within part whole → (fault : Diagnostic) →
        In fault (expression_faults context scope part) →
        In fault (expression_faults context scope whole)
    kept broken.itself fault at = at
    kept (broken.in_parentheses inner) fault at = kept inner fault at
    kept (broken.behind_operator {part} {operand} {operator} {word} inner) fault at =
        in-left fault (expression_faults context scope operand)
        (unary_faults operator word (typed_in context scope operand)) (kept inner fault at)
    kept (broken.first_operand {part} {first} {rest} inner) fault at =
        in-left fault (expression_faults context scope first)
        (links_faults context scope (typed_in context scope first) rest) (kept inner fault at)
    kept (broken.later_operand {part} {first} {rest} inner) fault at =
        in-right fault (expression_faults context scope first)
        (links_faults context scope (typed_in context scope first) rest)
        (kept-links inner (typed_in context scope first) fault at)
    kept (broken.value_of_timer {part} {word} {name} {values} inner) fault at =
        let timers = timer_faults name (signal_in scope name.text) (arguments_in context scope values) in
        in-right fault (active_faults context word) (values_faults context scope values ++ timers)
        (in-left fault (values_faults context scope values) timers (kept-values inner fault at))

    kept-links : {part : Expr} {links : Links} → InLinks part links → (left : Option Typed) (fault : Diagnostic) →
        In fault (expression_faults context scope part) → In fault (links_faults context scope left links)
    kept-links (broken.this_operand {part} {operand} {operator} {word} {rest} inner) left fault at =
        let right = typed_in context scope operand in
        in-left fault (expression_faults context scope operand ++ binary_faults operator word left right)
        (links_faults context scope (binary_typed operator left right) rest)
        (in-left fault (expression_faults context scope operand) (binary_faults operator word left right)
        (kept inner fault at))
    kept-links (broken.behind_operand {part} {operand} {operator} {word} {rest} inner) left fault at =
        let right = typed_in context scope operand in
        in-right fault (expression_faults context scope operand ++ binary_faults operator word left right)
        (links_faults context scope (binary_typed operator left right) rest)
        (kept-links inner (binary_typed operator left right) fault at)

    kept-values : {part : Expr} {values : Exprs} → InValues part values → (fault : Diagnostic) →
        In fault (expression_faults context scope part) → In fault (values_faults context scope values)
    kept-values (broken.this_value {part} {value} {rest} inner) fault at =
        in-left fault (expression_faults context scope value) (values_faults context scope rest) (kept inner fault at)
    kept-values (broken.behind_value {part} {value} {rest} inner) fault at =
        in-right fault (expression_faults context scope value) (values_faults context scope rest)
        (kept-values inner fault at)

  in-link : (left : Option Typed) (before : Links) (operator : Operator) (word : Spelling) (right : Expr)
      (after : Links)
      (fault : Diagnostic) →
      In fault (binary_faults operator word (chain_typed context scope left before) (typed_in context scope right)) →
      In fault (links_faults context scope left (append_links before (AndLink operator word right after)))
  in-link left NoLink operator word right after fault at =
      let typed = typed_in context scope right in
      in-left fault (expression_faults context scope right ++ binary_faults operator word left typed)
      (links_faults context scope (binary_typed operator left typed) after)
      (in-right fault (expression_faults context scope right) (binary_faults operator word left typed) at)
  in-link left (AndLink o w e rest) operator word right after fault at =
      let typed = typed_in context scope e in
      in-right fault (expression_faults context scope e ++ binary_faults o w left typed)
      (links_faults context scope (binary_typed o left typed) (append_links rest (AndLink operator word right after)))
      (in-link (binary_typed o left typed) rest operator word right after fault at)

  -- ---- each rule

  in-no_timer : (name : Spot) (found : Option SignalMeaning) (values : Exprs) → IsNoTimer found →
      In (diagnostic_at Unknown name) (timer_faults name found (arguments_in context scope values))
  in-no_timer name found values broken.nothing = inl refl
  in-no_timer name found values (broken.a_signal number places) = inl refl

  in-active : (word : Spelling) (name : Spot) (values : Exprs) (fault : Diagnostic) →
      In fault (timer_faults name (signal_in scope name.text) (arguments_in context scope values)) →
      In fault (expression_faults context scope (Active word name values))
  in-active word name values fault at =
      let timers = timer_faults name (signal_in scope name.text) (arguments_in context scope values) in
      in-right fault (active_faults context word) (values_faults context scope values ++ timers)
      (in-right fault (values_faults context scope values) timers at)

  in-operation : (whole left : Expr) (operator : Operator) (word : Spelling) (right : Expr) →
      (at : IsOperation whole left operator word right) → (first second : Typed) →
      typed_in context scope left ≡ Some first → typed_in context scope right ≡ Some second →
      result_of operator first.kind second.kind ≡ None →
      In (diagnostic_at Sort (mark_word (operator_mark operator) word)) (expression_faults context scope whole)
  in-operation whole left operator word right at first second first_is second_is none =
      let fault = diagnostic_at Sort (mark_word (operator_mark operator) word) in
      let links = append_links at.before (AndLink operator word right at.after) in
      kept at.within fault
      (in-right fault (expression_faults context scope at.first)
      (links_faults context scope (typed_in context scope at.first) links)
      (in-link (typed_in context scope at.first) at.before operator word right at.after fault
      (subst (λ e. In fault (binary_faults operator word (typed_in context scope e) (typed_in context scope right)))
      at.left_is
      (subst (λ typed. In fault (binary_faults operator word typed (typed_in context scope right))) (sym first_is)
      (subst (λ typed. In fault (binary_faults operator word (Some first) typed)) (sym second_is)
      (in-if (is_none (result_of operator first.kind second.kind)) Sort (mark_word (operator_mark operator) word)
      (ap is_none none)))))))

  pub broken-listed : (whole : Expr) (fault : Diagnostic) → IsBroken context scope whole fault →
      In fault (expression_faults context scope whole)
  broken-listed whole fault (broken.unknown name at is) =
      kept at (diagnostic_at Unknown name)
      (subst (λ found. In (diagnostic_at Unknown name) (name_faults context name found)) (sym is) (inl refl))
  broken-listed whole fault (broken.variable name number sort at is differs) =
      kept at (diagnostic_at Sort name)
      (subst (λ found. In (diagnostic_at Sort name) (name_faults context name found)) (sym is)
      (in-if (not (allows_instance context)) Sort name (ap not differs)))
  broken-listed whole fault (broken.keyword value word at differs) =
      kept at (diagnostic_at Sort (mark_word (value_mark value) word))
      (in-if (not (allows_word context value)) Sort (mark_word (value_mark value) word) (ap not differs))
  broken-listed whole fault (broken.active word name values at differs) =
      let timers = timer_faults name (signal_in scope name.text) (arguments_in context scope values) in
      kept at (diagnostic_at Sort (mark_word mark.Active word))
      (in-left (diagnostic_at Sort (mark_word mark.Active word)) (active_faults context word)
      (values_faults context scope values ++ timers)
      (in-if (not (allows_instance context)) Sort (mark_word mark.Active word) (ap not differs)))
  broken-listed whole fault (broken.no_timer word name values at none) =
      kept at (diagnostic_at Unknown name)
      (in-active word name values (diagnostic_at Unknown name)
      (in-no_timer name (signal_in scope name.text) values none))
  broken-listed whole fault (broken.timer_values word name values at meaning told breaks) =
      kept at told (in-active word name values told
      (subst (λ found. In told (timer_faults name found (arguments_in context scope values))) (sym meaning.meant)
      (subst (λ arguments. In told (places_faults name meaning.places arguments))
      (sym (arguments_in-listed context scope values))
      (in-places context scope name meaning.places (exprs_in values) told breaks))))
  broken-listed whole fault (broken.unary operator word operand at typed is none) =
      let told = diagnostic_at Sort (mark_word (unary_mark operator) word) in
      kept at told
      (in-right told (expression_faults context scope operand)
      (unary_faults operator word (typed_in context scope operand))
      (subst (λ found. In told (unary_faults operator word found)) (sym is)
      (in-if (is_none (unary_result_of operator typed.kind)) Sort (mark_word (unary_mark operator) word)
      (ap is_none none))))
  broken-listed whole fault (broken.binary left operator word right at first second first_is second_is none) =
      in-operation whole left operator word right at first second first_is second_is none

pub broken-listed-at : (context : Context) (scope : Scope) (place : Option sorts.Sort) (whole : Expr)
    (fault : Diagnostic) →
    IsBrokenAt context scope place whole fault → In fault (place_faults context scope place whole)
broken-listed-at context scope place whole fault (broken.inside told is) =
    in-left told (expression_faults context scope whole)
    (fault_of_place place (first_word whole) (typed_in context scope whole)) (broken-listed context scope whole told is)
broken-listed-at context scope place whole fault (broken.misfit sort place_is at) =
    let told = diagnostic_at Sort (first_word whole) in
    in-right told (expression_faults context scope whole)
    (fault_of_place place (first_word whole) (typed_in context scope whole))
    (subst (λ p. In told (fault_of_place p (first_word whole) (typed_in context scope whole))) (sym place_is)
    (subst (λ found. In told (fault_of_place (Some sort) (first_word whole) found)) (sym at.typed_is)
    (in-if (not (fits at.typed.kind sort)) Sort (first_word whole) (ap not at.misfit))))

pub broken-listed-in : (context : Context) (scope : Scope) (name : Spot) (places : List (Option sorts.Sort))
    (values : List Expr) (fault : Diagnostic) → IsBrokenIn context scope name places values fault →
    In fault (list_faults context scope name places values)
broken-listed-in context scope name places values fault (broken.inside told value at is) =
    in-left told (flat_map (expression_faults context scope) values)
    (places_faults name places (map (argument_in context scope) values))
    (in-each told (expression_faults context scope) values value at (broken-listed context scope value told is))
broken-listed-in context scope name places values fault (broken.at_places told breaks) =
    in-right told (flat_map (expression_faults context scope) values)
    (places_faults name places (map (argument_in context scope) values))
    (in-places context scope name places values told breaks)
