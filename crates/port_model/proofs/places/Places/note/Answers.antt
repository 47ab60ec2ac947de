use Rattle.std.proofs.Common.{sym, ap, refl, ◌∙◌, rules}
use Rattle.std.specs.Prelude.{List}
use Rattle.std.specs.List.{list_any}
use Rattle.std.specs.BTreeMap.{is_at}
use Rattle.std.proofs.lemmas.Map.Views.{All-insert_key, All-remove_key}
use Rattle.port_model.specs.Places.{named_order, place_of, IsNamed, PlacesValue}
use Rattle.port_model.specs.declared.places.NamedPlace.{NamedPlace}
use Rattle.port_model.proofs.PlaceLemmas.{name_again, named_more}
use Rattle.port_model.proofs.places.Places.note.Goals as goal

pub invariant_of-self-2 : goal.invariant_of-self-2
invariant_of-self-2 c = rw c.in-Ok-true.ensures.keys (All-insert_key _ _ IsNamed _ c.self.invariant (search rules))

pub invariant_of-self-3 : goal.invariant_of-self-3
invariant_of-self-3 c = rw c.remove.ensures.keys (All-remove_key _ IsNamed _ c.self-2.invariant)

pub returns-then-note_timer-clause-noted : goal.returns-then-note_timer-clause-noted
returns-then-note_timer-clause-noted c =
    λ _. let timed = c.if-note_timer.ensures.noted refl in rw (sym c.self.view_is) (record {
      names = λ q. ap (λ (l : List NamedPlace). list_any (is_at (named_order q)) l) c.note_timer.ensures.names
          ∙ named_more c.name-name.result c.args.got.now c.args.place q _ c.name-name.ensures (c.in-Ok-true.ensures.updates.0 q);
      timed = record { timers = timed.timers; absent = timed.absent };
    })

pub returns-clause-refused : goal.returns-clause-refused
returns-clause-refused c =
    λ _. let again = c.if-note_timer.ensures.refused refl in rw (sym c.self.view_is) (record {
      names = λ q. name_again (record { names = c.self.inside.names.keys; timers = c.self.inside.timers.entries }) c.name-name.result c.args.place q
          (let added = c.in-Ok-true.ensures.added in let new = c.in-Ok-true.field-0-test in cc)
          (ap (λ (p : PlacesValue). list_any (is_at (named_order q)) p.names) c.self-2.view_is
          ∙ ap (λ (l : List NamedPlace). list_any (is_at (named_order q)) l) c.note_timer.ensures.names ∙ c.in-Ok-true.ensures.updates.0 q)
          (c.remove.ensures.updates.0 q);
      timers = λ key. ap (λ (p : PlacesValue). place_of p key) c.self-2.view_is ∙ again.timers key;
    })
