-- One port more.
use Rattle.std.proofs.Common.{◌≡◌, ◌∙◌, ℕ, List, ◌++◌, ◌∷◌, [], subst, sym}
use Rattle.std.specs.Global.{Vec}
use Rattle.std.specs.List.{AllZip}
use Rattle.std.proofs.lemmas.Iterator.Adapters.{YieldsList-from_vec}
use Rattle.std.proofs.lemmas.Iterator.Consumers.{YieldsList-end}
use Rattle.std.proofs.lemmas.Slice.Zip.{all_zipped_more}
use Rattle.port_model.specs.Ends.{OwnerState}
use Rattle.input_port.specs.Kept.{senders_of}
use Rattle.port_model.specs.declared.values.item.Item.{Item}
use Rattle.settle_checks.specs.Gathering.{CountedState, IsCounted}
use Rattle.settle_run.specs.Course.{HasPutsOf}
use Rattle.settle_run.proofs.CourseLemmas.{all_yielded}
use Rattle.settle_run.proofs.course.all_puts.Goals as goal

-- one row more
puts_more : (puts : ℕ → ℕ → List Item) (owners : ℕ → OwnerState) (counted : List CountedState) (one : CountedState)
    (rows more : List (Vec ℕ)) (row : Vec ℕ) → AllZip (HasPutsOf puts owners) counted rows
    → IsCounted (puts one.number) one.places (owners one.at) one.owner → row.items ≡ senders_of one.owner.drawn
    → more ≡ rows ++ row ∷ [] → AllZip (HasPutsOf puts owners) (counted ++ one ∷ []) more
puts_more puts owners counted one rows more row so_far is_counted row_is pushed =
    subst (λ (l : List (Vec ℕ)). AllZip (HasPutsOf puts owners) (counted ++ one ∷ []) l) (sym pushed)
    (all_zipped_more (HasPutsOf puts owners) counted rows one row so_far (record {
      owner = one.owner;
      counted = is_counted;
      row_is = row_is;
    }))

pub loop-one-preserved : goal.loop-one-preserved
loop-one-preserved g c =
    puts_more g.K.Fixed.puts g.K.Fixed.owners c.loop-one.yielded c.in-Some.one c.loop-one.rows.items c.push.new.self.items
    c.in-Some-into_puts.puts c.loop-one.invariant c.is_counted.ensures c.in-Some-into_puts.ensures
    c.in_ok-push.ensures.items

pub returns : goal.returns
returns g c =
    let counted = c.args.counted.items in
    let started = c.into_iter-one-iterator.ensures.into_iter_gives in
    let end = YieldsList-end (YieldsList-from_vec counted started.0 (started.1 ∙ c.args.counted.ok.0))
    c.loop-one.yielded
    c.loop-one.one-iterator c.loop-one.yielded_by c.next.result c.next.new.self c.in-None.is c.next.ensures.steps in
    subst (λ (l : List CountedState). AllZip (HasPutsOf g.K.Fixed.puts g.K.Fixed.owners) l c.loop-one.rows.items)
    (sym (all_yielded c.loop-one.yielded) ∙ end.0) c.loop-one.invariant
