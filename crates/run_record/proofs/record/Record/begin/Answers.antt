use Rattle.std.proofs.Common.{◌≡◌, ◌-◌, ◌<◌, ◌≤◌, ◌∷◌, ◌++◌, [], ◌∙◌, ap, arith, length, subst, sym}
use Rattle.run_record.proofs.PackedLemmas.{IsPacked-more, noted-is, told-noted, values_of-event}
use Rattle.run_record.specs.Packed.{time_to, told, told_at}
use Rattle.run_record.specs.Record.{RecordValue}
use Rattle.run_record.proofs.record.Record.begin.Goals as goal

pub invariant_of-self : goal.invariant_of-self
invariant_of-self c =
    let kept = c.self.inside in
    let own = c.args.values.now in
    let fits : length own ≤ kept.values_room =
    subst (λ (r : RecordValue). length own ≤ r.values_room) (sym c.self.view_is) c.requires.values_room in
    let room : 0 < kept.most - kept.len =
    subst (λ (r : RecordValue). 0 < r.room) (sym c.self.view_is) c.requires.room in
    rw (
      c.push_reserved.ensures.items,
      c.put_time.ensures.items,
      c.push_all.ensures.items,
      c.push_reserved.ensures.capacity,
      c.put_time.ensures.capacity,
      c.push_all.ensures.capacity,
    )
    (IsPacked-more kept.entries.items kept.values.items own kept.time kept.len kept.most kept.values_room
    c.get-at.result kept.entries.cap kept.values.cap c.args.entry c.self.invariant c.requires.counts
    c.requires.event room fits)

pub returns : goal.returns
returns c = λ one is.
    let kept = c.self.inside in
    let own = c.args.values.now in
    let at = c.get-at.result in
    let entry = c.args.entry in
    let table = c.push_all.new.table.items in
    let happens : told_at at entry own ≡ one ∷ [] = ap (λ t. told_at t entry own) c.get-at.ensures ∙ is in
    rw (← c.self.view_is)
    (noted-is _ _ _ _ _ _ _ _ _ one
    (ap (λ l. told 0 l table) c.push_reserved.ensures.items
    ∙ ap (λ l. told 0 (l ++ entry ∷ []) table) c.put_time.ensures.items
    ∙ ap (told 0 ((kept.entries.items ++ time_to kept.time at) ++ entry ∷ [])) c.push_all.ensures.items
    ∙ told-noted kept.entries.items kept.values.items own kept.time kept.len kept.most kept.values_room at
    kept.entries.cap kept.values.cap entry c.self.invariant c.requires.counts c.requires.event one happens)
    (omega arith)
    (sym (ap (λ l. kept.values_room - length l) (values_of-event c.args.at entry own one is c.requires.counts))))
