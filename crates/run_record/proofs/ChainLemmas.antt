-- The value of a chain, operand by operand.
use Rattle.std.proofs.Common.{◌≡◌, ◌∙◌, ◌<◌, ◌≤◌, ◌+◌, ◌++◌, ◌||◌, ℕ, Bool, true, false, arith, refl, sym, ap, subst, inl, inr, Err, IfErr, IfOk, Ok, Result, List, [], ◌∷◌, length, get_or, take, drop, map}
use Rattle.std.proofs.lemmas.Grind.{take_at_read}
use Rattle.std.proofs.lemmas.List.{map-append, take-append-drop, take_all}
use Rattle.port_model.specs.declared.values.value.Value.{Value}
use Rattle.sdl_system.specs.Term.{Operand, Term, binary, chain_step, chained, expression_step, link_step, operand_of, term_of, term_of_chain}
use Rattle.sdl_system.specs.declared.expression.Chain.{Chain, out-Chain}
use Rattle.sdl_system.specs.declared.expression.Expression.TheFolds.{fold_out-Chain, fold_out-Link}
use Rattle.sdl_system.specs.declared.expression.Link.{Link, out-Link}
use Rattle.run_record.specs.declared.failure.Failure.{Failure}
use Rattle.run_record.specs.Environment.{Environment}
use Rattle.run_record.specs.Memory.{FailsAs, wants_memory}
use Rattle.run_record.specs.Value.{given, operated, value_of}
use Rattle.sdl_system.specs.Operation.{applied}

-- the evaluation of a term may end in this failure
abbrev pub Fails : Environment → Term → Failure → Type 0
Fails here term why = FailsAs (wants_memory term) (value_of here term) why

or-true : (a b : Bool) → b ≡ true → (a || b) ≡ true
or-true true b e = refl
or-true false b e = e

true-or : (a b : Bool) → a ≡ true → (a || b) ≡ true
true-or true b e = refl
true-or false true e = refl
true-or false false e = e

-- an operation fails with its left operand
fails_left : (here : Environment) (left : Term) (right : Operand) (why : Failure) → Fails here left why →
    Fails here (binary right.operation left right.term) why
fails_left here left right why (inl e) =
    inl (ap (λ answer. operated right.operation answer (value_of here right.term)) e)
fails_left here left right why (inr (wants, is)) =
    inr (true-or (wants_memory left) (wants_memory right.term) wants, is)

-- and so does a chain
fails_chained : (here : Environment) (left : Term) (rest : List Operand) (why : Failure) → Fails here left why →
    Fails here (chained left rest) why
fails_chained here left [] why fails = fails
fails_chained here left (right ∷ rest) why fails =
    fails_chained here (binary right.operation left right.term) rest why (fails_left here left right why fails)

chained-append : (first : Term) (one other : List Operand) →
    chained first (one ++ other) ≡ chained (chained first one) other
chained-append first [] other = refl
chained-append first (right ∷ rest) other = chained-append (binary right.operation first right.term) rest other

-- the operands up to the one at a place
abbrev pub up_to : Term → ℕ → List Link → Term
up_to first count links = chained first (map operand_of (take count links))

-- one operand more
pub up_to-more : (first : Term) (links : List Link) (i : ℕ) (link : Link) → i < length links →
    link ≡ get_or links i link →
    up_to first (i + 1) links ≡ binary (operand_of link).operation (up_to first i links) (operand_of link).term
up_to-more first links i link below is =
    ap (λ list. chained first (map operand_of list))
    ((take_at_read links i link below).1 ∙ ap (λ x. take i links ++ x ∷ []) (sym is))
    ∙ ap (chained first) (map-append operand_of (take i links) (link ∷ []))
    ∙ chained-append first (map operand_of (take i links)) (operand_of link ∷ [])

-- a chain fails with the operands up to a place
fails_up_to : (here : Environment) (first : Term) (links : List Link) (count : ℕ) (why : Failure) →
    Fails here (up_to first count links) why → Fails here (chained first (map operand_of links)) why
fails_up_to here first links count why fails =
    let P : Term → Type 0 = λ term. Fails here term why in
    subst P
    (sym (chained-append first (map operand_of (take count links)) (map operand_of (drop count links)))
    ∙ ap (chained first) (sym (map-append operand_of (take count links) (drop count links)))
    ∙ ap (λ list. chained first (map operand_of list)) (take-append-drop count links))
    (fails_chained here (up_to first count links) (map operand_of (drop count links)) why fails)

-- the value up to the next operand
pub value_up_to : (here : Environment) (first : Term) (links : List Link) (i : ℕ) (link : Link) (left value : Value) →
    i < length links → link ≡ get_or links i link → value_of here (up_to first i links) ≡ Ok left →
    operated (operand_of link).operation (Ok left) (value_of here (operand_of link).term) ≡ Ok value →
    value_of here (up_to first (i + 1) links) ≡ Ok value
value_up_to here first links i link left value below is known gives =
    ap (value_of here) (up_to-more first links i link below is)
    ∙ ap (λ answer. operated (operand_of link).operation answer (value_of here (operand_of link).term)) known
    ∙ gives

fails_right : (here : Environment) (left : Term) (value : Value) (right : Operand) (why : Failure) →
    value_of here left ≡ Ok value →
    FailsAs (wants_memory right.term) (operated right.operation (Ok value) (value_of here right.term)) why →
    Fails here (binary right.operation left right.term) why
fails_right here left value right why known (inl e) =
    inl (ap (λ answer. operated right.operation answer (value_of here right.term)) known ∙ e)
fails_right here left value right why known (inr (wants, is)) =
    inr (or-true (wants_memory left) (wants_memory right.term) wants, is)

-- the term of a chain
chain_is : (chain : Chain) →
    term_of_chain chain ≡ chained (term_of (out-Chain chain).first) (map operand_of (out-Chain chain).rest.items)
chain_is chain = fold_out-Chain Term Term Operand expression_step chain_step link_step chain

-- a chain that fails at its first operand
pub chain_fails_first : (here : Environment) (chain : Chain) (why : Failure) →
    Fails here (term_of (out-Chain chain).first) why → Fails here (term_of_chain chain) why
chain_fails_first here chain why fails =
    let P : Term → Type 0 = λ term. Fails here term why in
    subst P (sym (chain_is chain))
    (fails_chained here (term_of (out-Chain chain).first) (map operand_of (out-Chain chain).rest.items) why fails)

-- a chain that fails at a later one
pub chain_fails_at : (here : Environment) (chain : Chain) (links : List Link) (i : ℕ) (link : Link) (left : Value)
    (why : Failure) → links ≡ (out-Chain chain).rest.items → i < length links → link ≡ get_or links i link →
    value_of here (up_to (term_of (out-Chain chain).first) i links) ≡ Ok left →
    FailsAs (wants_memory (operand_of link).term)
    (operated (operand_of link).operation (Ok left) (value_of here (operand_of link).term)) why →
    Fails here (term_of_chain chain) why
chain_fails_at here chain links i link left why are below is known fails =
    let first = term_of (out-Chain chain).first in
    let P : Term → Type 0 = λ term. Fails here term why in
    subst P (ap (λ list. chained first (map operand_of list)) are ∙ sym (chain_is chain))
    (fails_up_to here first links (i + 1) why
    (subst P (sym (up_to-more first links i link below is))
    (fails_right here (up_to first i links) left (operand_of link) why known fails)))

-- a chain all of whose operands have values
pub chain_value : (here : Environment) (chain : Chain) (links : List Link) (count : ℕ) (value : Value) →
    links ≡ (out-Chain chain).rest.items → length links ≤ count →
    value_of here (up_to (term_of (out-Chain chain).first) count links) ≡ Ok value →
    value_of here (term_of_chain chain) ≡ Ok value
chain_value here chain links count value are all known =
    let first = term_of (out-Chain chain).first in
    ap (value_of here) (chain_is chain)
    ∙ ap (λ list. value_of here (chained first (map operand_of list))) (sym (take_all count links all ∙ are))
    ∙ known

-- a link as an operand
link_is : (link : Link) →
    operand_of link ≡ record { operation = (out-Link link).operation; term = term_of (out-Link link).operand }
link_is link = fold_out-Link Term Term Operand expression_step chain_step link_step link

-- a chain of two operands that have values
pub pair_value : (here : Environment) (chain : Chain) (links : List Link) (link : Link) (left right : Value) →
    links ≡ (out-Chain chain).rest.items → length links ≡ 1 → link ≡ get_or links 0 link →
    value_of here (term_of (out-Chain chain).first) ≡ Ok left →
    value_of here (term_of (out-Link link).operand) ≡ Ok right →
    value_of here (term_of_chain chain) ≡ given (applied (out-Link link).operation left right)
pair_value here chain links link left right are one is knows_left knows_right =
    let first = term_of (out-Chain chain).first in
    ap (value_of here) (chain_is chain)
    ∙ ap (λ list. value_of here (chained first (map operand_of list)))
    (sym (take_all 1 links (omega (arith, one)) ∙ are))
    ∙ ap (value_of here) (up_to-more first links 0 link (omega (arith, one)) is)
    ∙ ap (λ (right : Operand). operated right.operation (value_of here first) (value_of here right.term)) (link_is link)
    ∙ ap (λ answer. operated (out-Link link).operation answer (value_of here (term_of (out-Link link).operand)))
    knows_left
    ∙ ap (operated (out-Link link).operation (Ok left)) knows_right

-- what is meant is the answer, so a value of it is meant, and so is a failure
pub answers_value : (meant answer : Result Value Failure) → meant ≡ answer → IfOk answer (λ value. meant ≡ Ok value)
answers_value meant (Ok value) is = is
answers_value meant (Err why) is = tt

pub answers_failure : (wants : Bool) (meant answer : Result Value Failure) → meant ≡ answer →
    IfErr answer (FailsAs wants meant)
answers_failure wants meant (Ok value) is = tt
answers_failure wants meant (Err why) is = inl is
