-- The columns of a course, one row more at a time.
use Rattle.std.proofs.Common.{◌≡◌, ◌∙◌, ◌<◌, ◌+◌, ap, arith, get_or, length, map, refl, subst, sym, take, zero, suc, ℕ, Bool, true, false, List, [], ◌∷◌, ◌++◌, Option, None, Some}
use Rattle.std.specs.Global.{Vec}
use Rattle.std.specs.List.{AllZip}
use Rattle.std.specs.Prelude.{IfSome, IsTrue}
use Rattle.std.proofs.lemmas.List.{get_or-map, length-map, map-append, map_more}
use Rattle.std.proofs.lemmas.Option.{none-some}
use Rattle.std.proofs.lemmas.Slice.Zip.{all_zipped_more, AllZip-long}
use Rattle.input_port.specs.Ends.{HeldState}
use Rattle.port_model.specs.Ends.{OwnerState, no_port}
use Rattle.input_port.specs.QueueEnds.{newborn}
use Rattle.port_model.specs.declared.values.item.Item.{Item}
use Rattle.port_model.specs.declared.course.course.Course.{Course}
use Rattle.port_model.specs.declared.course.course.SenderInto.{SenderInto}
use Rattle.port_model.specs.declared.course.course_log.CourseLog.{CourseLog}
use Rattle.run_record.specs.Record.{RecordValue}
use Rattle.settle_checks.specs.Account.{AreCountsOf, IsCountOf, put_at}
use Rattle.settle_closing.specs.Left.{ClosingState}
use Rattle.settle_checks.specs.Gathering.{CountedState}
use Rattle.settle_run.specs.Course.{ArePuts, AreRowsOf, HasDrawnOf, HasPuts, HasPutsInto, HasPutsOf, HasRows, HasVersionsOf, rows_of}
use Rattle.settle_run.specs.Parts.{AreColumnsOf, logs_of, owner_at, peers_of, records_of}
use Rattle.threads_ports.specs.Peers.{PeersState, senders_into}

-- ---- lists

-- what all of a list yields
pub all_yielded : {X : Type 0} (xs : List X) → map (λ (x : X). x) xs ≡ xs
all_yielded [] = refl
all_yielded (x ∷ xs) = ap (λ l. x ∷ l) (all_yielded xs)

-- what fits is at the same place
zip_get : {X Y : Type 0} (R : X → Y → Type 0) (xs : List X) (ys : List Y) (k : ℕ) (d : X) (e : Y) → AllZip R xs ys
    → k < length ys → R (get_or xs k d) (get_or ys k e)
zip_get R [] [] k d e zip within = absurd (omega (arith, within))
zip_get R [] (y ∷ ys) k d e zip within = absurd zip
zip_get R (x ∷ xs) [] k d e zip within = absurd zip
zip_get R (x ∷ xs) (y ∷ ys) zero d e zip within = zip.0
zip_get R (x ∷ xs) (y ∷ ys) (suc k) d e zip within = zip_get R xs ys k d e zip.1 (omega (arith, within))

-- all fit, if those at each place do
zip_each : {X Y : Type 0} (R : X → Y → Type 0) (xs : List X) (ys : List Y) → length ys ≡ length xs
    → ((k : ℕ) (x : X) (y : Y) → k < length xs → x ≡ get_or xs k x → y ≡ get_or ys k y → R x y) → AllZip R xs ys
zip_each R [] [] long each = tt
zip_each R [] (y ∷ ys) long each = absurd (omega (arith, long))
zip_each R (x ∷ xs) [] long each = absurd (omega (arith, long))
zip_each R (x ∷ xs) (y ∷ ys) long each = (
  each 0 x y (omega arith) refl refl,
  zip_each R xs ys (omega (arith, long)) (λ k a b within at_a at_b. each (suc k) a b (omega (arith, within)) at_a at_b),
)

-- what holds of each that is kept
some_more : {X : Type 0} (P Q : X → Type 0) (kept : Option X) → ((x : X) → P x → Q x) → IfSome kept P → IfSome kept Q
some_more P Q None more holds = tt
some_more P Q (Some x) more holds = more x holds

-- ---- senders

-- the senders of one place more
pub senders_more : (places : List PeersState) (k : ℕ) (peers : PeersState) (rows more : List (Vec SenderInto))
    (row : Vec SenderInto) → k < length places → peers ≡ get_or places k peers
    → rows_of rows ≡ map senders_into (take k places) → row.items ≡ senders_into peers → more ≡ rows ++ row ∷ []
    → rows_of more ≡ map senders_into (take (k + 1) places)
senders_more places k peers rows more row within here so_far is pushed =
    ap rows_of pushed
    ∙ map-append (λ (r : Vec SenderInto). r.items) rows (row ∷ [])
    ∙ ap (λ l. l ++ row.items ∷ []) so_far
    ∙ ap (λ s. map senders_into (take k places) ++ s ∷ []) (is ∙ ap senders_into here)
    ∙ sym (map_more senders_into places k peers within)

-- ---- what was noted

-- the rows of some records
pub record AreNoted (logs : List CourseLog) (drawn versions : List (Vec ℕ)) : Type 0 where
  pub drawn_are : AllZip HasDrawnOf logs drawn
  pub versions_are : AllZip HasVersionsOf logs versions

pub noted_none : (drawn versions : List (Vec ℕ)) → drawn ≡ [] → versions ≡ [] → AreNoted [] drawn versions
noted_none drawn versions none no_more = rw (none, no_more) (record { drawn_are = tt; versions_are = tt })

pub noted_more : (logs : List CourseLog) (log : CourseLog) (drawn versions longer later : List (Vec ℕ))
    (counts seen : Vec ℕ)
    → AreNoted logs drawn versions → HasDrawnOf log counts → HasVersionsOf log seen
    → longer ≡ drawn ++ counts ∷ [] → later ≡ versions ++ seen ∷ [] → AreNoted (logs ++ log ∷ []) longer later
noted_more logs log drawn versions longer later counts seen noted is_drawn is_seen more_drawn more_seen =
    rw (more_drawn, more_seen) (record {
      drawn_are = all_zipped_more HasDrawnOf logs drawn log counts noted.drawn_are is_drawn;
      versions_are = all_zipped_more HasVersionsOf logs versions log seen noted.versions_are is_seen;
    })

-- ---- who put what was drawn

abbrev nobody : CountedState
nobody = record { at = 0; number = 0; places = 0; owner = newborn no_port 0 }

-- the rows of the ports that were counted are those of the records
puts_are : (puts : ℕ → ℕ → List Item) (owners : ℕ → OwnerState) (places : ℕ) (records : List RecordValue)
    (counted : List CountedState) (rows : List (Vec ℕ)) → AreCountsOf places records counted
    → AllZip (HasPutsOf puts owners) counted rows → ArePuts puts owners places records rows
puts_are puts owners places records counted rows counts zip = record {
  long = AllZip-long (HasPutsOf puts owners) counted rows zip ∙ counts.long;
  each = λ k d within trace below is.
      let one : CountedState = get_or counted k nobody in
      let row : Vec ℕ = get_or rows k d in
      let count : IsCountOf places k trace one =
      counts.each k nobody (omega (arith, below, counts.long)) trace below is in
      subst (λ (n : ℕ). HasPuts (puts n) places (owners k) row) count.number
      (subst (λ (n : ℕ). HasPuts (puts one.number) n (owners k) row) count.places_are
      (subst (λ (n : ℕ). HasPuts (puts one.number) one.places (owners n) row) count.at
      (zip_get (HasPutsOf puts owners) counted rows k nobody d zip within)));
}

pub counted_puts : (puts : ℕ → ℕ → List Item) (owners : ℕ → OwnerState) (places : ℕ) (records : List RecordValue)
    (counted : List CountedState) (kept : Option (Vec (Vec ℕ))) → AreCountsOf places records counted
    → IfSome kept (λ rows. AllZip (HasPutsOf puts owners) counted rows.items)
    → IfSome kept (λ rows. ArePuts puts owners places records rows.items)
counted_puts puts owners places records counted kept counts =
    some_more (λ (rows : Vec (Vec ℕ)). AllZip (HasPutsOf puts owners) counted rows.items)
    (λ (rows : Vec (Vec ℕ)). ArePuts puts owners places records rows.items) kept
    (λ rows zip. puts_are puts owners places records counted rows.items counts zip)

abbrev none : HeldState
none = record { owner = newborn no_port 0; since = [] }

module _ (environment : PeersState) (closings : List ClosingState) (records : List RecordValue) (logs : List CourseLog)
    (inboxes : List HeldState) (places : List PeersState)
    (are : AreColumnsOf environment closings records logs inboxes places) where
  owner_of : (k : ℕ) (closing : ClosingState) → k < length closings → closing ≡ get_or closings k closing
      → owner_at inboxes k ≡ closing.owner
  owner_of k closing within here =
      let long : length inboxes ≡ length closings =
      sym (length-map inboxes (λ (h : HeldState). h.owner)) ∙ ap length are.owners_are
      ∙ length-map closings (λ (c : ClosingState). c.owner) in
      sym (get_or-map (λ (h : HeldState). h.owner) inboxes k none none.owner (omega (arith, within, long)))
      ∙ ap (λ (l : List OwnerState). get_or l k none.owner) are.owners_are
      ∙ get_or-map (λ (c : ClosingState). c.owner) closings k closing none.owner within
      ∙ ap (λ (c : ClosingState). c.owner) (sym here)

  record_of : (k : ℕ) (closing : ClosingState) → k < length closings → closing ≡ get_or closings k closing
      → closing.trace ≡ get_or records k closing.trace
  record_of k closing within here =
      sym (ap (λ (l : List RecordValue). get_or l k closing.trace) are.records_are
      ∙ get_or-map (λ (c : ClosingState). c.trace) closings k closing closing.trace within
      ∙ ap (λ (c : ClosingState). c.trace) (sym here))

  -- the rows of the records are those of the closed instances
  puts_into : (count : ℕ) (rows : List (Vec ℕ)) → count ≡ length places
      → ArePuts (put_at places) (owner_at inboxes) count records rows → AllZip (HasPutsInto places) closings rows
  puts_into count rows as_many puts =
      let long : length records ≡ length closings =
      ap length are.records_are ∙ length-map closings (λ (c : ClosingState). c.trace) in
      zip_each (HasPutsInto places) closings rows (puts.long ∙ long)
      (λ k closing row within closing_is row_is.
      let put : ℕ → List Item = put_at places closing.trace.pid in
      subst (λ (r : Vec ℕ). HasPuts put (length places) closing.owner r) (sym row_is)
      (subst (λ (o : OwnerState). HasPuts put (length places) o (get_or rows k row)) (owner_of k closing within closing_is)
      (subst (λ (n : ℕ). HasPuts put n (owner_at inboxes k) (get_or rows k row)) as_many
      (puts.each k row (omega (arith, within, long, puts.long)) closing.trace (omega (arith, within, long))
      (record_of k closing within closing_is)))))

  pub some_puts : (count : ℕ) (kept : Option (Vec (Vec ℕ))) → count ≡ length places
      → IfSome kept (λ rows. ArePuts (put_at places) (owner_at inboxes) count records rows.items)
      → IfSome kept (λ rows. AllZip (HasPutsInto places) closings rows.items)
  some_puts count kept as_many are_puts =
      some_more (λ (rows : Vec (Vec ℕ)). ArePuts (put_at places) (owner_at inboxes) count records rows.items)
      (λ (rows : Vec (Vec ℕ)). AllZip (HasPutsInto places) closings rows.items) kept
      (λ rows puts. puts_into count rows.items as_many puts) are_puts

-- ---- the course

-- the rows are those of these closed instances, where the course is kept
pub are_rows : (keeps : Bool) (environment : PeersState) (closings : List ClosingState) (logs : List CourseLog)
    (places : List PeersState) (puts : Option (Vec (Vec ℕ))) (senders : Vec (Vec SenderInto)) (kept : Option Course)
    → logs ≡ logs_of closings → places ≡ environment ∷ peers_of closings
    → (keeps ≡ false → puts ≡ None)
    → IfSome puts (λ rows. AllZip (HasPutsInto places) closings rows.items)
    → (IsTrue keeps → rows_of senders.items ≡ map senders_into places)
    → IfSome kept (λ course. puts ≡ Some course.puts)
    → IfSome kept (λ course. course.senders ≡ senders)
    → IfSome kept (λ course. AllZip HasDrawnOf logs course.drawn.items)
    → IfSome kept (λ course. AllZip HasVersionsOf logs course.versions.items)
    → IfSome kept (AreRowsOf environment closings)
are_rows keeps environment closings logs places puts senders None logs_are places_are off into rows put same drawn versions =
    tt
are_rows false environment closings logs places puts senders (Some course) logs_are places_are off into rows put same drawn
    versions =
    absurd (none-some course.puts (sym (off refl) ∙ put))
are_rows true environment closings logs places puts senders (Some course) logs_are places_are off into rows put same drawn
    versions =
    let all : AllZip (HasPutsInto places) closings course.puts.items =
    subst (λ (o : Option (Vec (Vec ℕ))). IfSome o (λ rows. AllZip (HasPutsInto places) closings rows.items)) put into in
    record {
      puts = subst (λ (p : List PeersState). AllZip (HasPutsInto p) closings course.puts.items) places_are all;
      drawn = subst (λ (l : List CourseLog). AllZip HasDrawnOf l course.drawn.items) logs_are drawn;
      versions = subst (λ (l : List CourseLog). AllZip HasVersionsOf l course.versions.items) logs_are versions;
      senders = ap (λ (v : Vec (Vec SenderInto)). rows_of v.items) same ∙ rows refl ∙ ap (map senders_into) places_are;
    }

-- a row for each record, and of the senders one more
long_rows : (environment : PeersState) (closings : List ClosingState) (count : ℕ) (course : Course)
    → length closings ≡ count → AreRowsOf environment closings course → HasRows count course
long_rows environment closings count course as_many are =
    let logs : length (logs_of closings) ≡ count =
    length-map closings (λ (c : ClosingState). c.course) ∙ as_many in
    let peers : length (peers_of closings) ≡ count = length-map closings (λ (c : ClosingState). c.peers) ∙ as_many in
    let rows = course.senders.items in
    let senders : length rows ≡ length (environment ∷ peers_of closings) =
    sym (length-map rows (λ (row : Vec SenderInto). row.items)) ∙ ap length are.senders
    ∙ length-map (environment ∷ peers_of closings) senders_into in
    record {
      puts_long = AllZip-long (HasPutsInto (environment ∷ peers_of closings)) closings course.puts.items are.puts ∙ as_many;
      drawn_long = AllZip-long HasDrawnOf (logs_of closings) course.drawn.items are.drawn ∙ logs;
      versions_long = AllZip-long HasVersionsOf (logs_of closings) course.versions.items are.versions ∙ logs;
      senders_long = omega (arith, senders, peers);
    }

pub has_rows : (environment : PeersState) (closings : List ClosingState) (records : List RecordValue)
    (kept : Option Course) → records ≡ records_of closings → IfSome kept (AreRowsOf environment closings)
    → IfSome kept (HasRows (length records))
has_rows environment closings records kept records_are =
    let as_many : length closings ≡ length records =
    sym (ap length records_are ∙ length-map closings (λ (c : ClosingState). c.trace)) in
    some_more (AreRowsOf environment closings) (HasRows (length records)) kept
    (λ course are. long_rows environment closings (length records) course as_many are)
