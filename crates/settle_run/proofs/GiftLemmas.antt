-- What instances were given, by what each keeps of it, and by what their runs have done.
use Rattle.std.proofs.Common.{◌≡◌, ◌∙◌, ◌<◌, ap, get_or, length, subst, sym, ℕ, List, [], ◌∷◌, All}
use Rattle.std.proofs.lemmas.List.{get_or-map}
use Rattle.std.proofs.lemmas.List.Elements.{All-cons, All-head, All-nil, All-tail}
use Rattle.port_model.specs.Same.{same_values, same_values-Decides}
use Rattle.port_model.specs.declared.values.value.Value.{Value}
use Rattle.run_record.specs.Record.{RecordValue}
use Rattle.run_semantics.specs.Effect.{Arm, Create, Deed, Effect, Send, effects_of}
use Rattle.settle_meaning.specs.Given.{AreGiven, GivesThese}
use Rattle.settle_run.specs.Gifts.{GetsThese, IsGivenOne, children_at, given_at, given_by}
use Rattle.std.specs.Prelude.{IsTrue}
use Rattle.threads_instance.specs.Doings.{children_of}
use Rattle.threads_instance.specs.declared.doings.Child.{Child}
use Rattle.threads_instance.specs.declared.doings.Gifts.{Gifts}

-- what stands at a place
pub given_there : (gifts : List Gifts) (k : ℕ) (one : Gifts) → k < length gifts → one ≡ get_or gifts k one
    → given_at gifts k ≡ one.given
given_there gifts k one within is =
    get_or-map (λ (g : Gifts). g.given) gifts k one [] within ∙ ap (λ (g : Gifts). g.given) (sym is)

pub children_there : (gifts : List Gifts) (k : ℕ) (one : Gifts) → k < length gifts → one ≡ get_or gifts k one
    → children_at gifts k ≡ one.children.items
children_there gifts k one within is =
    get_or-map (λ (g : Gifts). g.children.items) gifts k one [] within ∙ ap (λ (g : Gifts). g.children.items) (sym is)

-- what a comparison found
pub begins_so : (places : List ℕ) (gifts : List Gifts) (number place : ℕ) (one : Gifts) (values : List Value)
    → place ≡ get_or places number 0 → place < length gifts → one ≡ get_or gifts place one
    → IsTrue (same_values one.given values) → values ≡ given_by places gifts number
begins_so places gifts number place one values at below is same =
    sym ((same_values-Decides one.given values).0 same)
    ∙ sym (given_there gifts place one below is)
    ∙ ap (given_at gifts) at

pub given_one : (gifts : List Gifts) (given : ℕ → List Value) (trace : RecordValue) (k : ℕ) (one : Gifts)
    → k < length gifts → one ≡ get_or gifts k one → IsGivenOne given trace one.given one.children.items
    → IsGivenOne given trace (given_at gifts k) (children_at gifts k)
given_one gifts given trace k one within is so =
    subst (λ (own : List Value). IsGivenOne given trace own (children_at gifts k)) (sym (given_there gifts k one within is))
    (subst (λ (children : List Child). IsGivenOne given trace one.given children)
    (sym (children_there gifts k one within is)) so)

-- all that was created got the values of its number
gives_these : (given : ℕ → List Value) (effects : List Effect) → All (GetsThese given) (children_of effects)
    → All (GivesThese given) effects
gives_these given [] all = All-nil (GivesThese given)
gives_these given (Send target item ∷ rest) all =
    All-cons (GivesThese given) (Send target item) rest tt (gives_these given rest all)
gives_these given (Arm fuse ∷ rest) all =
    All-cons (GivesThese given) (Arm fuse) rest tt (gives_these given rest all)
gives_these given (Create process number parent values ∷ rest) all =
    let child : Child = record { number = number; values = values } in
    All-cons (GivesThese given) (Create process number parent values) rest
    (All-head (GetsThese given) child (children_of rest) all)
    (gives_these given rest (All-tail (GetsThese given) child (children_of rest) all))

pub are_given : (given : ℕ → List Value) (trace : RecordValue) (own : List Value) (children : List Child)
    (values : List Value) (deeds : List Deed) → values ≡ own → children ≡ children_of (effects_of deeds)
    → IsGivenOne given trace own children → AreGiven given trace values deeds
are_given given trace own children values deeds begins created one = record {
  begins = begins ∙ one.begins;
  first = λ null. begins ∙ one.first null;
  gives = gives_these given (effects_of deeds) (subst (All (GetsThese given)) created one.gives);
}
