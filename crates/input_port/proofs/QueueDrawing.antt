use Rattle.std.proofs.Common.{◌≡◌, ◌≢◌, ℕ, Bool, true, false, List, [], ◌∷◌, ◌++◌, Result, Ok, Err, refl, sym, ap, ◌∙◌, subst, append_assoc, append-nil, inl}
use Rattle.std.proofs.lemmas.List.Elements.{All-nil}
use Rattle.std.specs.Prelude.{Contains}
use Rattle.port_model.specs.declared.error.PortError.{PortError}
use Rattle.port_model.specs.declared.taken.Taken.{Taken}
use Rattle.port_model.specs.declared.taken.Taken.TheVariants.{Consumed, Nothing}
use Rattle.port_model.specs.declared.selection.Class.TheVariants as class
use Rattle.port_model.specs.declared.selection.Class.{Class}
use Rattle.input_port.specs.QueueWords.{after_draw, after_draws, armed_after, armed_left, known_after, longer, AreNext, Armed, HasDrawn, IsDrawn, OwnerState, Placed, PortState, PullIs, TakeIs, TakesHere, TakesNext}
use Rattle.port_model.specs.Take as take
use Rattle.port_model.specs.declared.got.Got.{Got}
use Rattle.input_port.proofs.PutLists.{starts_all, starts_through}

-- entries drawn one after the other
after_draws-append : (pid : ℕ) (port : PortState) (xs ys : List Placed)
    → after_draws pid port (xs ++ ys) ≡ after_draws pid (after_draws pid port xs) ys
after_draws-append pid port [] ys = refl
after_draws-append pid port (x ∷ xs) ys = after_draws-append pid (after_draw pid port x) xs ys

known_after-append : (known drawn xs ys : List Placed)
    → known_after known drawn (xs ++ ys) ≡ known_after (known_after known drawn xs) (drawn ++ xs) ys
known_after-append known drawn [] ys = ap (λ d. known_after known d ys) (sym (append-nil drawn))
known_after-append known drawn (x ∷ xs) ys =
    let long = longer known (drawn ++ x ∷ []) in
    known_after-append long (drawn ++ x ∷ []) xs ys
    ∙ ap (λ d. known_after (known_after long (drawn ++ x ∷ []) xs) d ys) (append_assoc drawn (x ∷ []) xs)

AreNext-append : (drawn xs ys : List Placed) → AreNext drawn xs → AreNext (drawn ++ xs) ys → AreNext drawn (xs ++ ys)
AreNext-append drawn [] ys a b = subst (λ d. AreNext d ys) (append-nil drawn) b
AreNext-append drawn (x ∷ xs) ys a b =
    (a.0, a.1, a.2, AreNext-append (drawn ++ x ∷ []) xs ys a.3 (subst (λ d. AreNext d ys) (sym (append_assoc drawn (x ∷ []) xs)) b))

pub drawn_none : (old : OwnerState) → IsDrawn old old []
drawn_none old = let drawn = sym (append-nil old.drawn) in let kept = starts_all old.known in assumption

pub drawn_more : (old mid new : OwnerState) (xs ys : List Placed) → IsDrawn old mid xs → IsDrawn mid new ys
    → IsDrawn old new (xs ++ ys)
drawn_more old mid new xs ys f s = record {
  port = cc;
  pid = cc;
  gathered = cc;
  drawn = cc (append_assoc old.drawn xs ys);
  next = AreNext-append old.drawn xs ys f.next (rw f.drawn at s.next);
  known = cc (known_after-append old.known old.drawn xs ys);
  kept = starts_through new.known mid.known old.known s.kept f.kept;
  state = cc (after_draws-append old.pid old.state xs ys);
  armed = cc;
}

-- some drawn, and then some more
pub draws_more : (old mid new : OwnerState) → HasDrawn old mid → HasDrawn mid new → HasDrawn old new
draws_more old mid new a b = (a.0 ++ b.0, drawn_more old mid new a.0 b.0 a.1 b.1)

-- a pull draws one entry or none
pub pull_draws : (old new : OwnerState) (r : Result Bool PortError)
    → PullIs old new r → HasDrawn old new
pull_draws old new (Ok true) pulled = (pulled.0 ∷ [], pulled.1)
pull_draws old new (Ok false) pulled = rw pulled.0 ([], drawn_none old)
pull_draws old new (Err error) pulled = rw pulled.1 ([], drawn_none old)

-- what is known where a take goes on: the port found nothing, and one entry more was drawn, or none
pub goes_on : (classes : List Class) (first old mid new : OwnerState) (r : Result Bool PortError) → HasDrawn first old
    → take.Takes classes old.state Nothing mid.state → mid ≡ record old { state = mid.state; armed = armed_left Nothing old.armed }
    → PullIs mid new r → HasDrawn first new
goes_on classes first old mid new r before takes same pulled =
    let nothing : mid ≡ old = same ∙ ap (λ s. record old { state = s }) takes.1 in
    draws_more first old new before (rw nothing at (pull_draws mid new r pulled))

-- an entry of a priority input that is drawn already
pub taken_urgent : (classes : List Class) (old : OwnerState) (state : PortState) (armed : List Armed) (g : Got)
    → take.TakesFirst (take.IsOrdinary classes) old.state g state → take.HasClass class.Priority classes g → armed ≡ armed_after g old.armed
    → TakesHere classes old (record old { state = state; armed = armed }) (Consumed g)
taken_urgent classes old state armed g first urgent left = record {
  news = [];
  draws = drawn_none old;
  take = inl (first, urgent);
  armed = left;
  fresh = λ e. absurd cc;
  passed = λ _ ordinary. absurd (ordinary urgent);
}

-- ---- a take where nothing waits

-- a take after some entries were drawn
pub takes_more : (classes : List Class) (old mid new : OwnerState) (xs : List Placed) (taken : Taken) → IsDrawn old mid xs
    → TakesHere classes mid new taken → TakesHere classes old new taken
takes_more classes old mid new xs taken first after =
    let port = ap (λ pid. after_draws pid mid.state after.news) first.pid ∙ ap (λ s. after_draws old.pid s after.news) first.state
    ∙ sym (after_draws-append old.pid old.state xs after.news) in
    record {
      news = xs ++ after.news;
      draws = subst (λ (s : PortState). IsDrawn old (record new { state = s; armed = old.armed }) (xs ++ after.news)) port
          (subst (λ (a : List Armed).
          IsDrawn old (record new { state = after_draws mid.pid mid.state after.news; armed = a }) (xs ++ after.news))
          first.armed (drawn_more old mid _ xs after.news first after.draws));
      take = subst (λ (s : PortState). take.Takes classes s taken new.state) port after.take;
      armed = after.armed ∙ ap (armed_left taken) first.armed;
      fresh = after.fresh;
      passed = after.passed;
    }

-- the queue had nothing
pub taken_none : (classes : List Class) (old new : OwnerState) → old.state.waiting ≡ [] → new ≡ old → new.known ≡ new.drawn
    → TakesHere classes old new Nothing
taken_none classes old new none same fresh = rw same (record {
  news = [];
  draws = drawn_none old;
  take = (rw none (All-nil (take.IsSaved classes)), refl);
  armed = refl;
  fresh = λ _. rw same at fresh;
  passed = λ _ _. rw same at fresh;
})

-- the entry that was drawn is taken
pub taken_next : (classes : List Class) (old new : OwnerState) (taken : Taken) → TakesNext classes old new taken
    → taken ≢ Nothing → (Contains classes class.Priority → ⊥) → TakesHere classes old new taken
taken_next classes old new taken next some ordinary = record {
  news = next.placed ∷ [];
  draws = next.draws;
  take = next.take;
  armed = next.armed;
  fresh = λ e. absurd (some e);
  passed = λ has _. absurd (ordinary has);
}

-- it is saved, and the take goes on
pub taken_on : (classes : List Class) (old mid new : OwnerState) (result : Result Taken PortError)
    → TakesNext classes old mid Nothing → TakeIs classes mid new result → TakeIs classes old new result
taken_on classes old mid new result next more = goes result more
  where
    same : record mid { state = after_draw old.pid old.state next.placed; armed = old.armed } ≡ mid
    same =
        ap (λ (s : PortState). record mid { state = s; armed = old.armed }) (sym next.take.1)
        ∙ ap (λ (a : List Armed). record mid { armed = a }) (sym next.armed)

    drawn : IsDrawn old mid (next.placed ∷ [])
    drawn = subst (λ (o : OwnerState). IsDrawn old o (next.placed ∷ [])) same next.draws

    goes : (r : Result Taken PortError) → TakeIs classes mid new r → TakeIs classes old new r
    goes (Ok taken) here = takes_more classes old mid new (next.placed ∷ []) taken drawn here
    goes (Err error) failed = (failed.0, draws_more old mid new (next.placed ∷ [], drawn) failed.1)

-- nothing was drawn
pub none_drawn : (old new : OwnerState) → new ≡ old → HasDrawn old new
none_drawn old new same = rw same ([], drawn_none old)
