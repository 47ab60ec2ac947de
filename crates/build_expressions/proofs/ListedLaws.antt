-- Each fault of an expression is a rule that is broken in it.
use Rattle.std.proofs.Common.{◌≡◌, ◌∙◌, ◌+◌, ◌++◌, ◌==◌, not, Bool, true, false, List, [], ◌∷◌, Option, None, Some, flat_map, length, map, is_none, if◌then◌else◌, refl, sym, ap, subst}
use Rattle.std.proofs.lemmas.Bool.{eqb-true, eqb-false}
use Rattle.std.proofs.lemmas.List.{append_assoc, length-append, length-map}
use Rattle.build_names.proofs.FaultLemmas.{each-both, each-if, each-of}
use Rattle.build_names.specs.FaultLaws.{Each}
use Rattle.build_names.specs.Faults.{Diagnostic, diagnostic_at, mark_word}
use Rattle.build_names.specs.declared.faults.fault.Rule.TheVariants.{Sort}
use Rattle.build_expressions.specs.Broken.{BreaksPlaces, InLinks, InValues, IsBroken, IsBrokenAt, IsBrokenIn, IsNoTimer, IsOperation, TimerMeaning, Within, append_links}
use Rattle.build_expressions.specs.Broken as broken
use Rattle.build_expressions.specs.Contexts.{allows_instance, allows_word}
use Rattle.build_expressions.specs.OperandSorts.{fits, result_of, unary_result_of}
use Rattle.build_expressions.specs.Misused.{active_faults, binary_faults, expression_faults, fault_of_place, links_faults, list_faults, misplaced, name_faults, place_faults, places_faults, timer_faults, unary_faults, values_faults}
use Rattle.build_expressions.specs.Scope.{Scope, SignalMeaning, signal, timer, signal_in, value_in}
use Rattle.build_expressions.specs.Typing.{Typed, argument_in, arguments_in, binary_typed, chain_typed, typed_in}
use Rattle.build_expressions.specs.Words.{first_word}
use Rattle.build_expressions.specs.declared.context.Context.{Context}
use Rattle.build_expressions.specs.declared.scope.ValueMeaning.{ValueMeaning}
use Rattle.build_expressions.specs.declared.scope.ValueMeaning.TheVariants as meant
use Rattle.sdl_system.specs.declared.sort.Sort as sorts
use Rattle.sdl_tree.specs.Spells.Expressions.{operator_mark, unary_mark, value_mark}
use Rattle.sdl_tree.specs.Tree.{Expr, Exprs, Links, Numeral, Named, Keyword, Active, Paren, Unary, Chain, NoExpr, AndExpr, NoLink, AndLink, exprs_in}
use Rattle.sdl_tree.specs.Words.{Spot}
use Rattle.sdl_tree.specs.declared.expressions.Operator.{Operator}
use Rattle.sdl_tree.specs.declared.expressions.UnaryOperator.{UnaryOperator}
use Rattle.sdl_tree.specs.declared.mark.Mark.TheVariants as mark
use Rattle.sdl_tree.specs.declared.name.Spelling.{Spelling}

pub not-true : (b : Bool) → not b ≡ true → b ≡ false
not-true true is = cc
not-true false is = refl

pub none-is : {A : Type 0} (found : Option A) → is_none found ≡ true → found ≡ None
none-is None is = refl
none-is (Some x) is = cc

-- ---- parts of parts

mutual
  pub within-then : {part middle whole : Expr} → Within part middle → Within middle whole → Within part whole
  within-then at broken.itself = at
  within-then at (broken.in_parentheses inner) = broken.in_parentheses (within-then at inner)
  within-then at (broken.behind_operator operand) = broken.behind_operator (within-then at operand)
  within-then at (broken.first_operand first) = broken.first_operand (within-then at first)
  within-then at (broken.later_operand rest) = broken.later_operand (links-then at rest)
  within-then at (broken.value_of_timer values) = broken.value_of_timer (values-then at values)

  links-then : {part middle : Expr} {links : Links} → Within part middle → InLinks middle links → InLinks part links
  links-then at (broken.this_operand operand) = broken.this_operand (within-then at operand)
  links-then at (broken.behind_operand rest) = broken.behind_operand (links-then at rest)

  values-then : {part middle : Expr} {values : Exprs} → Within part middle → InValues middle values →
      InValues part values
  values-then at (broken.this_value value) = broken.this_value (within-then at value)
  values-then at (broken.behind_value rest) = broken.behind_value (values-then at rest)

pub in-links : (before : Links) (operator : Operator) (word : Spelling) (operand : Expr) (after : Links) →
    InLinks operand (append_links before (AndLink operator word operand after))
in-links NoLink operator word operand after = broken.this_operand broken.itself
in-links (AndLink o w e rest) operator word operand after = broken.behind_operand
    (in-links rest operator word operand after)

pub append_links-last : (before : Links) (operator : Operator) (word : Spelling) (operand : Expr) (after : Links) →
    append_links (append_links before (AndLink operator word operand NoLink)) after
    ≡ append_links before (AndLink operator word operand after)
append_links-last NoLink operator word operand after = refl
append_links-last (AndLink o w e rest) operator word operand after =
    ap (AndLink o w e) (append_links-last rest operator word operand after)

-- what a chain comes to with one more operand
pub chain_typed-last : (context : Context) (scope : Scope) (left : Option Typed) (before : Links) (operator : Operator)
    (word : Spelling) (operand : Expr) →
    chain_typed context scope left (append_links before (AndLink operator word operand NoLink))
    ≡ binary_typed operator (chain_typed context scope left before) (typed_in context scope operand)
chain_typed-last context scope left NoLink operator word operand = refl
chain_typed-last context scope left (AndLink o w e rest) operator word operand =
    chain_typed-last context scope (binary_typed o left (typed_in context scope e)) rest operator word operand

pub arguments_in-listed : (context : Context) (scope : Scope) (values : Exprs) →
    arguments_in context scope values ≡ map (argument_in context scope) (exprs_in values)
arguments_in-listed context scope NoExpr = refl
arguments_in-listed context scope (AndExpr value values) =
    ap (λ rest. argument_in context scope value ∷ rest) (arguments_in-listed context scope values)

-- ---- values at places

each-place : (P : Diagnostic → Type 0) (place : Option sorts.Sort) (word : Spot) (typed : Option Typed) →
    ((sort : sorts.Sort) (found : Typed) → place ≡ Some sort → typed ≡ Some found → fits found.kind sort ≡ false →
    P (diagnostic_at Sort word)) →
    Each P (fault_of_place place word typed)
each-place P place word None is = tt
each-place P None word (Some typed) is = tt
each-place P (Some sort) word (Some typed) is =
    each-if P (not (fits typed.kind sort)) Sort word
    (λ no. is sort typed refl refl (not-true (fits typed.kind sort) no))

module _ (context : Context) (scope : Scope) (name : Spot) (all_places : List (Option sorts.Sort))
    (all : List Expr) where
  each-misplaced : (before : List Expr) (places_before : List (Option sorts.Sort)) (places : List (Option sorts.Sort))
      (values : List Expr) → length all ≡ length all_places → all ≡ before ++ values →
      all_places ≡ places_before ++ places → length before ≡ length places_before →
      Each (BreaksPlaces context scope name all_places all) (misplaced places (map (argument_in context scope) values))
  each-misplaced before places_before [] values count are places_are same = tt
  each-misplaced before places_before (place ∷ places) [] count are places_are same = tt
  each-misplaced before places_before (place ∷ places) (value ∷ values) count are places_are same =
      let P : Diagnostic → Type 0 = BreaksPlaces context scope name all_places all in
      each-both P (fault_of_place place (first_word value) (typed_in context scope value))
      (misplaced places (map (argument_in context scope) values))
      (each-place P place (first_word value) (typed_in context scope value) (λ sort found place_is typed_is no.
      broken.misfit value count (record {
        before = before;
        after = values;
        values_are = are;
        places_before = places_before;
        sort = sort;
        places_after = places;
        places_are = places_are ∙ ap (λ p. places_before ++ p ∷ places) place_is;
        same_place = same;
        misfit = record { typed = found; typed_is = typed_is; misfit = no };
      })))
      (each-misplaced (before ++ value ∷ []) (places_before ++ place ∷ []) places values count
      (are ∙ sym (append_assoc before (value ∷ []) values))
      (places_are ∙ sym (append_assoc places_before (place ∷ []) places))
      (length-append before (value ∷ []) ∙ ap (λ n. n + 1) same ∙ sym (length-append places_before (place ∷ []))))

  each-counted : (counted : Bool) → (length (map (argument_in context scope) all) == length all_places) ≡ counted →
      Each (BreaksPlaces context scope name all_places all) (if counted
      then misplaced all_places (map (argument_in context scope) all)
      else diagnostic_at Sort name ∷ [])
  each-counted true is =
      each-misplaced [] [] all_places all (sym (length-map all (argument_in context scope)) ∙ eqb-true _ _ is) refl refl
      refl
  each-counted false is =
      (broken.count (λ same. eqb-false _ _ is (length-map all (argument_in context scope) ∙ same)), tt)

  pub each-places : Each (BreaksPlaces context scope name all_places all)
      (places_faults name all_places (map (argument_in context scope) all))
  each-places = each-counted (length (map (argument_in context scope) all) == length all_places) refl

-- ---- expressions

pub each-weaker : (P Q : Diagnostic → Type 0) (faults : List Diagnostic) → ((fault : Diagnostic) → P fault → Q fault) →
    Each P faults →
    Each Q faults
each-weaker P Q [] so each = tt
each-weaker P Q (fault ∷ faults) so each = (so fault each.0, each-weaker P Q faults so each.1)

module _ (context : Context) (scope : Scope) (whole : Expr) where
  each-name : (name : Spot) → Within (Named name) whole → (found : Option ValueMeaning) →
      value_in scope name.text ≡ found → Each (IsBroken context scope whole) (name_faults context name found)
  each-name name at None is = (broken.unknown name at is, tt)
  each-name name at (Some (meant.Variable number sort)) is =
      each-if (IsBroken context scope whole) (not (allows_instance context)) Sort name
      (λ no. broken.variable name number sort at is (not-true (allows_instance context) no))
  each-name name at (Some (meant.Synonym sort value)) is = tt

  each-unary : (operator : UnaryOperator) (word : Spelling) (operand : Expr) →
      Within (Unary operator word operand) whole → (typed : Option Typed) → typed_in context scope operand ≡ typed →
      Each (IsBroken context scope whole) (unary_faults operator word typed)
  each-unary operator word operand at None is = tt
  each-unary operator word operand at (Some typed) is =
      each-if (IsBroken context scope whole) (is_none (unary_result_of operator typed.kind)) Sort
      (mark_word (unary_mark operator) word)
      (λ no. broken.unary operator word operand at typed is (none-is (unary_result_of operator typed.kind) no))

  each-binary : (left : Expr) (operator : Operator) (word : Spelling) (right : Expr) →
      IsOperation whole left operator word right → (first second : Option Typed) →
      typed_in context scope left ≡ first → typed_in context scope right ≡ second →
      Each (IsBroken context scope whole) (binary_faults operator word first second)
  each-binary left operator word right at None second first_is second_is = tt
  each-binary left operator word right at (Some first) None first_is second_is = tt
  each-binary left operator word right at (Some first) (Some second) first_is second_is =
      each-if (IsBroken context scope whole) (is_none (result_of operator first.kind second.kind)) Sort
      (mark_word (operator_mark operator) word)
      (λ no. broken.binary left operator word right at first second first_is second_is
      (none-is (result_of operator first.kind second.kind) no))

  each-timer : (word : Spelling) (name : Spot) (values : Exprs) → Within (Active word name values) whole →
      (found : Option SignalMeaning) → signal_in scope name.text ≡ found →
      Each (IsBroken context scope whole) (timer_faults name found (arguments_in context scope values))
  each-timer word name values at None is =
      (broken.no_timer word name values at (subst IsNoTimer (sym is) broken.nothing), tt)
  each-timer word name values at (Some (signal number places)) is =
      (broken.no_timer word name values at (subst IsNoTimer (sym is) (broken.a_signal number places)), tt)
  each-timer word name values at (Some (timer number places has_default)) is =
      let meaning : TimerMeaning scope name = record {
        number = number;
        places = places;
        has_default = has_default;
        meant = is;
      } in
      each-weaker (BreaksPlaces context scope name places (exprs_in values)) (IsBroken context scope whole)
      (places_faults name places (arguments_in context scope values))
      (λ fault breaks. broken.timer_values word name values at meaning fault breaks)
      (subst (λ arguments. Each (BreaksPlaces context scope name places (exprs_in values))
      (places_faults name places arguments)) (sym (arguments_in-listed context scope values))
      (each-places context scope name places (exprs_in values)))

  mutual
    listed : (part : Expr) → Within part whole → Each (IsBroken context scope whole)
        (expression_faults context scope part)
    listed (Numeral number) at = tt
    listed (Named name) at = each-name name at (value_in scope name.text) refl
    listed (Keyword value word) at =
        each-if (IsBroken context scope whole) (not (allows_word context value)) Sort
        (mark_word (value_mark value) word)
        (λ no. broken.keyword value word at (not-true (allows_word context value) no))
    listed (Active word name values) at =
        let P : Diagnostic → Type 0 = IsBroken context scope whole in
        let timers = timer_faults name (signal_in scope name.text) (arguments_in context scope values) in
        each-both P (active_faults context word) (values_faults context scope values ++ timers)
        (each-if P (not (allows_instance context)) Sort (mark_word mark.Active word)
        (λ no. broken.active word name values at (not-true (allows_instance context) no)))
        (each-both P (values_faults context scope values) timers
        (listed-values values (λ value is. within-then (broken.value_of_timer is) at))
        (each-timer word name values at (signal_in scope name.text) refl))
    listed (Paren word inner) at = listed inner (within-then (broken.in_parentheses broken.itself) at)
    listed (Unary operator word operand) at =
        each-both (IsBroken context scope whole) (expression_faults context scope operand)
        (unary_faults operator word (typed_in context scope operand))
        (listed operand (within-then (broken.behind_operator broken.itself) at))
        (each-unary operator word operand at (typed_in context scope operand) refl)
    listed (Chain first rest) at =
        each-both (IsBroken context scope whole) (expression_faults context scope first)
        (links_faults context scope (typed_in context scope first) rest)
        (listed first (within-then (broken.first_operand broken.itself) at))
        (listed-links first NoLink rest at)

    listed-links : (first : Expr) (before rest : Links) → Within (Chain first (append_links before rest)) whole →
        Each (IsBroken context scope whole)
        (links_faults context scope (chain_typed context scope (typed_in context scope first) before) rest)
    listed-links first before NoLink at = tt
    listed-links first before (AndLink operator word operand rest) at =
        let P : Diagnostic → Type 0 = IsBroken context scope whole in
        let left = chain_typed context scope (typed_in context scope first) before in
        let right = typed_in context scope operand in
        each-both P (expression_faults context scope operand ++ binary_faults operator word left right)
        (links_faults context scope (binary_typed operator left right) rest)
        (each-both P (expression_faults context scope operand) (binary_faults operator word left right)
        (listed operand (within-then (broken.later_operand (in-links before operator word operand rest)) at))
        (each-binary (Chain first before) operator word operand
        (record { first = first; before = before; after = rest; within = at; left_is = refl }) left right refl refl))
        (subst (λ typed. Each P (links_faults context scope typed rest))
        (chain_typed-last context scope (typed_in context scope first) before operator word operand)
        (listed-links first (append_links before (AndLink operator word operand NoLink)) rest
        (subst (λ links. Within (Chain first links) whole) (sym (append_links-last before operator word operand rest))
        at)))

    listed-values : (values : Exprs) → ((value : Expr) → InValues value values → Within value whole) →
        Each (IsBroken context scope whole) (values_faults context scope values)
    listed-values NoExpr within = tt
    listed-values (AndExpr value values) within =
        each-both (IsBroken context scope whole) (expression_faults context scope value)
        (values_faults context scope values) (listed value (within value (broken.this_value broken.itself)))
        (listed-values values (λ part is. within part (broken.behind_value is)))

pub listed-broken : (context : Context) (scope : Scope) (whole : Expr) →
    Each (IsBroken context scope whole) (expression_faults context scope whole)
listed-broken context scope whole = listed context scope whole whole broken.itself

pub listed-broken-at : (context : Context) (scope : Scope) (place : Option sorts.Sort) (whole : Expr) →
    Each (IsBrokenAt context scope place whole) (place_faults context scope place whole)
listed-broken-at context scope place whole =
    let P : Diagnostic → Type 0 = IsBrokenAt context scope place whole in
    each-both P (expression_faults context scope whole)
    (fault_of_place place (first_word whole) (typed_in context scope whole))
    (each-weaker (IsBroken context scope whole) P (expression_faults context scope whole)
    (λ fault is. broken.inside fault is) (listed-broken context scope whole))
    (each-place P place (first_word whole) (typed_in context scope whole) (λ sort found place_is typed_is no.
    broken.misfit sort place_is (record { typed = found; typed_is = typed_is; misfit = no })))

pub listed-broken-in : (context : Context) (scope : Scope) (name : Spot) (places : List (Option sorts.Sort))
    (values : List Expr) →
    Each (IsBrokenIn context scope name places values) (list_faults context scope name places values)
listed-broken-in context scope name places values =
    let P : Diagnostic → Type 0 = IsBrokenIn context scope name places values in
    each-both P (flat_map (expression_faults context scope) values)
    (places_faults name places (map (argument_in context scope) values))
    (each-of P (expression_faults context scope) values (λ value is.
    each-weaker (IsBroken context scope value) P (expression_faults context scope value)
    (λ fault inside. broken.inside fault value is inside) (listed-broken context scope value)))
    (each-weaker (BreaksPlaces context scope name places values) P
    (places_faults name places (map (argument_in context scope) values)) (λ fault is. broken.at_places fault is)
    (each-places context scope name places values))
