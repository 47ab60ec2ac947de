-- What a chronicle has told.
use Rattle.std.proofs.Common.{◌≡◌, ◌⊎◌, ◌∙◌, ◌+◌, ◌++◌, Bool, true, false, ℕ, List, [], ◌∷◌, Some, ap, append-nil, append_assoc, inl, inr, refl, slice_get, subst, sym}
use Rattle.std.specs.List.{AllZip}
use Rattle.run_order.specs.Chronicle.{ChronicleState, IsChronicle, IsToldBy}
use Rattle.run_order.specs.Comparing.{SaySame}
use Rattle.run_order.specs.Endings.{IsNotOf}
use Rattle.run_order.specs.Interleaving.{Around, EndsInTransition, Happening, Interleaving, Part, Transition, Within, begins, begins_nothing, begins_one, goes, goes_on, part_of, teller_of, tellers_of}
use Rattle.run_order.specs.Kept.{IsFixed, IsOver, Leads, LeadsBy, LeadsIf, OneMore, Stays, end_of_run, is_heard}
use Rattle.run_order.specs.OneOrder.{Ends, IsBegunOrder, IsOneOrder, instances_of}
use Rattle.run_order.specs.OrderState.{OrderState, beginning}
use Rattle.run_order.specs.declared.hearing.Heard.{Heard}
use Rattle.run_order.specs.declared.hearing.Heard.TheVariants as heard
use Rattle.run_order.specs.declared.member.Move.{Move}
use Rattle.run_order.specs.declared.member.Move.TheVariants as move
use Rattle.run_record.specs.Event.{Event}
use Rattle.run_record.specs.Record.{RecordValue}
use Rattle.run_record.specs.declared.record.Report.{Report}
use Rattle.run_semantics.specs.Behaves.{AreBehaviours}
use Rattle.run_semantics.specs.Instance.{HasRun}
use Rattle.sdl_interp.specs.Instance.{InstanceValue, IsClosed, closed}
use Rattle.sdl_script.specs.Script.{end_of}
use Rattle.sdl_script.specs.declared.script.ScriptLine.{ScriptLine}
use Rattle.sdl_system.specs.Behaviour.{Behaviour}
use Rattle.sdl_system.specs.System.{SystemValue}
use Rattle.sdl_system.specs.declared.id.ProcessId.{ProcessId}
use Rattle.serial_order.specs.Execution.{IsNoFuseBefore}
use Rattle.serial_order.specs.Report.{Closes}

-- ---- one thing more is told

pub tellers_of-push : (before : List Happening) (next : Happening)
    → tellers_of (before ++ next ∷ []) ≡ tellers_of before ++ teller_of next
tellers_of-push [] next = append-nil (teller_of next)
tellers_of-push (first ∷ rest) next =
    ap (λ more. teller_of first ++ more) (tellers_of-push rest next)
    ∙ sym (append_assoc (teller_of first) (tellers_of rest) (teller_of next))

-- whether the environment has done nothing since the last transition, once one thing more happened
abbrev pub is_in_transition : Part → Bool → Bool
is_in_transition Transition was = true
is_in_transition Within was = was
is_in_transition Around was = false

in_transition : (part : Part) (was : Bool) (before : List Happening) (next : Happening)
    → (was ≡ true → EndsInTransition before) → part_of next ≡ part → is_in_transition part was ≡ true
    → EndsInTransition (before ++ next ∷ [])
in_transition Transition was before next ends part is = begins_one before next part
in_transition Within was before next ends part is = goes_on before next (ends is) part
in_transition Around was before next ends part is = let no : ⊥ = cc in absurd no

none_ends : (before : List Happening) (next : Happening) → [] ≡ before ++ next ∷ [] → ⊥
none_ends [] next is = cc
none_ends (first ∷ rest) next is = cc

last_same : (xs ys : List Happening) (x y : Happening) → xs ++ x ∷ [] ≡ ys ++ y ∷ [] → (xs ≡ ys) × (x ≡ y)
last_same [] [] x y is = (refl, cc)
last_same [] (b ∷ ys) x y is =
    let none : [] ≡ ys ++ y ∷ [] = cc in
    absurd (none_ends ys y none)
last_same (a ∷ xs) [] x y is =
    let none : [] ≡ xs ++ x ∷ [] = cc in
    absurd (none_ends xs x none)
last_same (a ∷ xs) (b ∷ ys) x y is =
    let rest : xs ++ x ∷ [] ≡ ys ++ y ∷ [] = cc in
    let first : a ≡ b = cc in
    let same = last_same xs ys x y rest in
    ((λ i. first i ∷ same.0 i), same.1)

-- the last happening began a transition, or goes on in one
last_part : {all : List Happening} → EndsInTransition all → (before : List Happening) (next : Happening)
    → all ≡ before ++ next ∷ []
    → (part_of next ≡ Transition) ⊎ ((part_of next ≡ Within) × EndsInTransition before)
last_part begins_nothing before next is = absurd (none_ends before next is)
last_part (begins_one first one part) before next is =
    inl (ap part_of (sym (last_same first before one next is).1) ∙ part)
last_part (goes_on first one ends part) before next is =
    let same = last_same first before one next is in
    inr (ap part_of (sym same.1) ∙ part, subst EndsInTransition same.0 ends)

only_in_transition : (part : Part) (was : Bool) (before : List Happening) (next : Happening)
    → (EndsInTransition before → was ≡ true) → part_of next ≡ part → EndsInTransition (before ++ next ∷ [])
    → is_in_transition part was ≡ true
only_in_transition Transition was before next ends part is = refl
only_in_transition Within was before next ends part is =
    elim (last_part is before next refl) [
      | inl begun ↦ let no : ⊥ = cc in absurd no
      | inr on ↦ ends on.1
    ]
only_in_transition Around was before next ends part is =
    elim (last_part is before next refl) [
      | inl begun ↦ let no : ⊥ = cc in absurd no
      | inr on ↦ let within = on.0 in let no : ⊥ = cc in absurd no
    ]

pub told_more : (ps : List Behaviour) (c d : ChronicleState) (tellers : List ℕ) (part : Part) → d.system ≡ c.system
    → d.lines ≡ c.lines → d.tellers ≡ c.tellers ++ tellers
    → d.in_transition ≡ is_in_transition part c.in_transition → IsToldBy ps c → OneMore ps c.now tellers part d.now
    → IsToldBy ps d
told_more ps c d tellers part system lines more still told one = record {
  happenings = told.happenings ++ one.happening ∷ [];
  interleaving = subst (λ s. Interleaving ps (beginning s d.lines) (told.happenings ++ one.happening ∷ []) d.now)
      (sym system)
      (subst (λ l. Interleaving ps (beginning c.system l) (told.happenings ++ one.happening ∷ []) d.now)
      (sym lines) (goes told.interleaving one.happening d.now one.follows));
  told = more ∙ ap (λ all. all ++ tellers) told.told
      ∙ ap (λ last. tellers_of told.happenings ++ last) (sym one.tells)
      ∙ sym (tellers_of-push told.happenings one.happening);
  ends = (
    λ is. in_transition part c.in_transition told.happenings one.happening told.ends.0 one.part_is (sym still ∙ is),
    λ ended.
        still
        ∙ only_in_transition part c.in_transition told.happenings one.happening told.ends.1 one.part_is ended,
  );
}

-- ---- what a chronicle keeps

-- nothing has happened
pub chronicle_new : (system : SystemValue) (lines : List ScriptLine) (now : OrderState) (noted : List ℕ)
    → now ≡ beginning system lines
    → IsChronicle (record {
      system = system;
      lines = lines;
      now = now;
      noted = noted;
      tellers = [];
      in_transition = true;
      lost = false;
    })
chronicle_new system lines now noted is = record {
  told = λ known ps behaviours. record {
    happenings = [];
    interleaving = subst (Interleaving ps (beginning system lines) []) (sym is) begins;
    told = refl;
    ends = (λ still. begins_nothing, λ ended. refl);
  };
  system = ap (λ (g : OrderState). g.system) is;
  end = ap (λ (g : OrderState). g.end) is;
}

-- once nothing is known
pub chronicle_lost : (c d : ChronicleState) → d.lost ≡ true → d.system ≡ c.system → d.lines ≡ c.lines
    → IsFixed c.now d.now → IsChronicle c → IsChronicle d
chronicle_lost c d lost system lines fixed was = record {
  told = λ known ps behaviours. let no : ⊥ = cc (lost, known) in absurd no;
  system = fixed.system ∙ was.system ∙ sym system;
  end = fixed.end ∙ was.end ∙ ap end_of (sym lines);
}

-- once one thing more happened
pub chronicle_more : (c d : ChronicleState) (tellers : List ℕ) (part : Part) → d.system ≡ c.system
    → d.lines ≡ c.lines → d.lost ≡ c.lost → d.tellers ≡ c.tellers ++ tellers
    → d.in_transition ≡ is_in_transition part c.in_transition → IsFixed c.now d.now → Leads c.now tellers part d.now
    → IsChronicle c → IsChronicle d
chronicle_more c d tellers part system lines lost more still fixed leads was = record {
  told = λ known ps behaviours.
      let of_system : AreBehaviours c.system ps =
      subst (λ (s : SystemValue). AreBehaviours s ps) system behaviours in
      let of_now : AreBehaviours c.now.system ps =
      subst (λ (s : SystemValue). AreBehaviours s ps) (sym was.system) of_system in
      told_more ps c d tellers part system lines more still (was.told (sym lost ∙ known) ps of_system)
      (leads ps of_now);
  system = fixed.system ∙ was.system ∙ sym system;
  end = fixed.end ∙ was.end ∙ ap end_of (sym lines);
}

-- whoever is noted
renoted : (ps : List Behaviour) (c : ChronicleState) (noted : List ℕ) → IsToldBy ps c
    → IsToldBy ps (record c { noted = noted })
renoted ps c noted told = record {
  happenings = told.happenings;
  interleaving = told.interleaving;
  told = told.told;
  ends = told.ends;
}

-- where nothing happened
pub chronicle_stays : (c d : ChronicleState) → d.system ≡ c.system → d.lines ≡ c.lines → d.lost ≡ c.lost
    → d.tellers ≡ c.tellers → d.in_transition ≡ c.in_transition → IsFixed c.now d.now → Stays c.now d.now
    → IsChronicle c → IsChronicle d
chronicle_stays c d system lines lost same still fixed stays was = record {
  told = λ known ps behaviours.
      let of_system : AreBehaviours c.system ps =
      subst (λ (s : SystemValue). AreBehaviours s ps) system behaviours in
      let of_now : AreBehaviours c.now.system ps =
      subst (λ (s : SystemValue). AreBehaviours s ps) (sym was.system) of_system in
      let now : d.now ≡ c.now = stays ps of_now in
      let state : d ≡ record c { noted = d.noted } = λ i. record {
        system = system i;
        lines = lines i;
        now = now i;
        noted = d.noted;
        tellers = same i;
        in_transition = still i;
        lost = lost i;
      } in
      subst (IsToldBy ps) (sym state) (renoted ps c d.noted (was.told (sym lost ∙ known) ps of_system));
  system = fixed.system ∙ was.system ∙ sym system;
  end = fixed.end ∙ was.end ∙ ap end_of (sym lines);
}

-- where there are no behaviours
pub chronicle_never : (c d : ChronicleState) → d.system ≡ c.system → d.lines ≡ c.lines → IsFixed c.now d.now
    → ((ps : List Behaviour) → AreBehaviours c.now.system ps → ⊥) → IsChronicle c → IsChronicle d
chronicle_never c d system lines fixed never was = record {
  told = λ known ps behaviours.
      absurd (never ps (subst (λ (s : SystemValue). AreBehaviours s ps) (sym was.system)
      (subst (λ (s : SystemValue). AreBehaviours s ps) system behaviours)));
  system = fixed.system ∙ was.system ∙ sym system;
  end = fixed.end ∙ was.end ∙ ap end_of (sym lines);
}

-- a step that began nothing
pub chronicle_other : (made : Move) (number : ℕ) (c d : ChronicleState) → d.system ≡ c.system → d.lines ≡ c.lines
    → d.lost ≡ c.lost → d.tellers ≡ c.tellers → d.in_transition ≡ c.in_transition → IsFixed c.now d.now
    → (made ≡ move.Began → ⊥) → LeadsBy made c.now number d.now → IsChronicle c → IsChronicle d
chronicle_other move.Began number c d system lines lost same still fixed other leads was = absurd (other refl)
chronicle_other move.Failing number c d system lines lost same still fixed other leads was =
    chronicle_more c d [] Within system lines lost (same ∙ sym (append-nil c.tellers)) still fixed leads was
chronicle_other move.Nothing number c d system lines lost same still fixed other leads was =
    chronicle_stays c d system lines lost same still fixed leads was
chronicle_other move.Amiss number c d system lines lost same still fixed other never was =
    chronicle_never c d system lines fixed never was

-- something happened to an instance, or nothing
pub chronicle_if : (happened : Bool) (c d : ChronicleState) → d.system ≡ c.system → d.lines ≡ c.lines
    → d.lost ≡ c.lost → d.tellers ≡ c.tellers → d.in_transition ≡ c.in_transition → IsFixed c.now d.now
    → LeadsIf happened c.now [] Within d.now → IsChronicle c → IsChronicle d
chronicle_if true c d system lines lost same still fixed leads was =
    chronicle_more c d [] Within system lines lost (same ∙ sym (append-nil c.tellers)) still fixed leads was
chronicle_if false c d system lines lost same still fixed now was =
    chronicle_stays c d system lines lost same still fixed (λ ps behaviours. now) was

-- a line was heard
pub heard_is : (h : Heard) → (h ≡ heard.Nothing → ⊥) → is_heard h ≡ true
heard_is heard.Nothing some = absurd (some refl)
heard_is heard.Time some = refl
heard_is (heard.Signal target) some = refl

-- ---- the end

pub ends : (ps : List Behaviour) (whole : Bool) (happenings : List Happening) (g : OrderState)
    (lines : List ScriptLine) (end : ℕ) → g.end ≡ end_of lines → IsOver ps whole g
    → (whole ≡ false → EndsInTransition happenings) → end_of_run whole g ≡ end
    → Ends whole ps lines happenings g end
ends ps true happenings g lines end last over within is = record {
  rest = over.rest;
  heard = over.heard;
  no_fuse = subst (λ time. IsNoFuseBefore (time + 1) g.fuses) last over.no_fuse;
  is_end = sym is ∙ last;
}
ends ps false happenings g lines end last over within is = record {
  all_done = over;
  in_transition = within refl;
  is_end = sym is;
}

same_closed : (whole : Bool) (i : InstanceValue) (mine other : RecordValue) → IsClosed false whole i mine
    → SaySame mine other → IsClosed false whole i other
same_closed whole i mine other close same = record {
  process = sym same.process ∙ close.process;
  pid = sym same.pid ∙ close.pid;
  parent = sym same.parent ∙ close.parent;
  listed = subst (λ (process : ProcessId). slice_get i.system.processes process.0 ≡ Some i.process) same.process
      close.listed;
  events = sym same.events ∙ close.events;
  run = λ d is_run. subst (λ (events : List Event). HasRun false d i.who events (closed i.position) i.store i.owner)
      same.events (close.run d is_run);
}

-- records that say the same
pub closes_same : (ps : List Behaviour) (whole : Bool) (instances : List InstanceValue)
    (mine others : List RecordValue) → AllZip (Closes ps whole) instances mine → AllZip SaySame mine others
    → AllZip (Closes ps whole) instances others
closes_same ps whole [] [] [] closed same = tt
closes_same ps whole [] [] (other ∷ others) closed same = absurd same
closes_same ps whole [] (one ∷ mine) others closed same = absurd closed
closes_same ps whole (i ∷ is) [] others closed same = absurd closed
closes_same ps whole (i ∷ is) (one ∷ mine) [] closed same = absurd same
closes_same ps whole (i ∷ is) (one ∷ mine) (other ∷ others) closed same = (
  record {
    p = closed.0.p;
    meant = closed.0.meant;
    closed = same_closed whole i one other closed.0.closed same.0;
  },
  closes_same ps whole is mine others closed.1 same.1,
)

-- records of the same instances
same_of_one : (whole : Bool) (i : InstanceValue) (mine other : RecordValue) → IsClosed false whole i mine
    → IsClosed false whole i other → SaySame mine other
same_of_one whole i mine other one two = record {
  process = one.process ∙ sym two.process;
  pid = one.pid ∙ sym two.pid;
  parent = one.parent ∙ sym two.parent;
  events = one.events ∙ sym two.events;
}

pub same_of_all : (ps : List Behaviour) (whole : Bool) (instances : List InstanceValue)
    (mine others : List RecordValue) → AllZip (Closes ps whole) instances mine
    → AllZip (Closes ps whole) instances others → AllZip SaySame mine others
same_of_all ps whole [] [] [] one two = tt
same_of_all ps whole [] [] (other ∷ others) one two = absurd two
same_of_all ps whole [] (first ∷ mine) others one two = absurd one
same_of_all ps whole (i ∷ is) [] others one two = absurd one
same_of_all ps whole (i ∷ is) (first ∷ mine) [] one two = absurd two
same_of_all ps whole (i ∷ is) (first ∷ mine) (other ∷ others) one two =
    (same_of_one whole i first other one.0.closed two.0.closed, same_of_all ps whole is mine others one.1 two.1)

-- how a cut run may not end
pub not_well : (whole in_transition : Bool) → ((whole ≡ false → in_transition ≡ true) → ⊥)
    → (whole ≡ false) × (in_transition ≡ false)
not_well true still never = absurd (never (λ cut. let no : ⊥ = cc in absurd no))
not_well false true never = absurd (never (λ cut. refl))
not_well false false never = (refl, refl)

-- ---- one order

pub one_order : (c : ChronicleState) (report : Report) (mine : List RecordValue) → IsChronicle c → c.lost ≡ false
    → ((ps : List Behaviour) → AreBehaviours c.now.system ps → IsOver ps report.whole c.now)
    → (report.whole ≡ false → c.in_transition ≡ true) → end_of_run report.whole c.now ≡ report.end
    → ((ps : List Behaviour) → AreBehaviours c.now.system ps
    → AllZip (Closes ps report.whole) (instances_of c.now) mine) → AllZip SaySame mine report.records.items
    → (ps : List Behaviour) → AreBehaviours c.system ps → IsOneOrder ps c.system c.lines report c.tellers
one_order c report mine chronicle known over within end closes same ps behaviours =
    let of_now : AreBehaviours c.now.system ps =
    subst (λ (s : SystemValue). AreBehaviours s ps) (sym chronicle.system) behaviours in
    let told = chronicle.told known ps behaviours in
    record {
      happenings = told.happenings;
      last = c.now;
      interleaving = told.interleaving;
      records = closes_same ps report.whole (instances_of c.now) mine report.records.items (closes ps of_now) same;
      ends = ends ps report.whole told.happenings c.now c.lines report.end chronicle.end (over ps of_now)
          (λ cut. told.ends.0 (within cut)) end;
      told = told.told;
    }

-- where the report has other records
pub other_records : (c : ChronicleState) (report : Report) (mine : List RecordValue) → IsChronicle c
    → ((ps : List Behaviour) → AreBehaviours c.now.system ps
    → AllZip (Closes ps report.whole) (instances_of c.now) mine)
    → (AllZip SaySame mine report.records.items → ⊥) → (ps : List Behaviour) → AreBehaviours c.system ps
    → IsNotOf ps c report
other_records c report mine chronicle closes other ps behaviours =
    let of_now : AreBehaviours c.now.system ps =
    subst (λ (s : SystemValue). AreBehaviours s ps) (sym chronicle.system) behaviours in
    inr (inr (inr (λ all.
    other (same_of_all ps report.whole (instances_of c.now) mine report.records.items (closes ps of_now) all))))

-- as far as it goes
pub begun_order : (c : ChronicleState) → IsChronicle c → c.lost ≡ false → (ps : List Behaviour)
    → AreBehaviours c.system ps → IsBegunOrder ps c.system c.lines c.tellers
begun_order c chronicle known ps behaviours =
    let told = chronicle.told known ps behaviours in
    record {
      happenings = told.happenings;
      last = c.now;
      interleaving = told.interleaving;
      told = told.told;
    }
