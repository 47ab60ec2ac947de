-- The lines of a report and their text.
use Rattle.std.proofs.Common.{◌≡◌, ◌∙◌, ℕ, suc, ◌+◌, ◌<◌, ◌≤◌, List, [], ◌∷◌, ◌++◌, length, take, drop, Option, refl, sym, ap, append-nil, length-drop, take-append-drop, arith}
use Rattle.std.proofs.lemmas.List.{drop-drop, drop_all, take_all}
use Rattle.std.proofs.lemmas.List.Concat.{flat_map-append}
use Rattle.std.specs.List.{flat_map}
use Rattle.std.specs.Io.KnownBytes.{Appends}
use Rattle.run_record.specs.Event.{Event}
use Rattle.run_record.specs.Record.{RecordValue}
use Rattle.run_record.specs.declared.record.Report.{Report}
use Rattle.sdl_report.proofs.GatheredLemmas.{Breaks-after, Breaks-before, Breaks-now, Breaks-prefix}
use Rattle.sdl_report.specs.Gathered.{Breaks, BreaksOff}
use Rattle.sdl_report.specs.ReportText.{end_text, event_line, heading_text, line, record_text, report_text}
use Rattle.sdl_system.specs.System.{SystemValue}
use Rattle.sdl_report.specs.Lines.{LineValue, all_lines, event_lines, line_text, lines_text, record_lines}

-- ---- the text of lines is that of their records

event-lines-text : (system : SystemValue) (trace : RecordValue) (events : List Event) →
    lines_text system (event_lines trace events) ≡ flat_map (event_line system trace) events
event-lines-text system trace [] = refl
event-lines-text system trace (event ∷ events) =
    ap (λ l. event_line system trace event ++ l) (event-lines-text system trace events)

record-lines-text : (system : SystemValue) (trace : RecordValue) →
    lines_text system (record_lines trace) ≡ record_text system trace
record-lines-text system trace =
    ap (λ l. line (heading_text system trace) ++ l) (event-lines-text system trace trace.events)

all-lines-text : (system : SystemValue) (records : List RecordValue) →
    lines_text system (all_lines records) ≡ flat_map (record_text system) records
all-lines-text system [] = refl
all-lines-text system (trace ∷ records) =
    flat_map-append (line_text system) (record_lines trace) (all_lines records)
    ∙ ap (λ l. l ++ lines_text system (all_lines records)) (record-lines-text system trace)
    ∙ ap (λ l. record_text system trace ++ l) (all-lines-text system records)

-- the text of all lines, and the end, are the report
pub report-lines-text : (system : SystemValue) (report : Report) →
    lines_text system (all_lines report.records.items) ++ line (end_text report) ≡ report_text system report
report-lines-text system report =
    ap (λ l. l ++ line (end_text report)) (all-lines-text system report.records.items)

-- ---- a text that breaks off

breaks : (a b : Option (List ℕ)) (text : List ℕ) → BreaksOff a b text → Breaks a [] b text
breaks a b text off = (
  take off.0 text,
  drop off.0 text,
  off.2,
  take-append-drop off.0 text,
  let part = off.1 in omega (arith, length-drop off.0 text),
)

-- a break in the first of two texts
pub breaks-sooner : (a c : Option (List ℕ)) (xs ys : List ℕ) → BreaksOff a c xs → BreaksOff a c (xs ++ ys)
breaks-sooner a c xs ys off = Breaks-prefix a c (xs ++ ys) (Breaks-before a c [] xs ys (breaks a c xs off))

-- a break in the second, once the first went out
pub breaks-later : (a b c : Option (List ℕ)) (xs ys : List ℕ) → Appends a b xs → BreaksOff b c ys
    → BreaksOff a c (xs ++ ys)
breaks-later a b c xs ys out off =
    Breaks-prefix a c (xs ++ ys) (Breaks-after a b c [] [] xs ys (xs, out, append-nil xs) (breaks b c ys off))

-- where nothing went out, the last line is lost
pub breaks-now : (held : Option (List ℕ)) (text : List ℕ) → BreaksOff held held (line text)
breaks-now held text = Breaks-prefix held held (line text) (Breaks-now held [] text)

-- ---- the first of some lines

-- past the end there is nothing more
pub dropped : {X : Type 0} (xs left : List X) (at count : ℕ) → left ≡ drop at xs → left ≡ [] → at ≤ count →
    left ≡ drop count xs
dropped xs left at count is none within =
    let n = length-drop at xs in
    let e = ap length (sym is ∙ none) in
    none ∙ sym (drop_all count xs (omega (arith, n, e, within)))

-- the first of at most n, where some come
pub take-one : {X : Type 0} (n m : ℕ) (xs rest : List X) (x : X) → n ≡ m + 1 → xs ≡ x ∷ rest →
    take n xs ≡ x ∷ take m rest
take-one n m xs rest x more is =
    let next : n ≡ suc m = omega (arith, more) in ap (λ k. take k xs) next ∙ ap (take (suc m)) is

-- none of those that aren't there
pub take-none : {X : Type 0} (n : ℕ) (xs : List X) → xs ≡ [] → take n xs ≡ []
take-none n xs none = take_all n xs (let e = ap length none in omega (arith, e)) ∙ none

-- one more is dropped
pub drop-one : {X : Type 0} (xs before after : List X) (x : X) (n : ℕ) → before ≡ drop n xs → before ≡ x ∷ after →
    after ≡ drop (n + 1) xs
drop-one xs before after x n is next = ap (drop 1) (sym next ∙ is) ∙ drop-drop 1 n xs

-- the report by its lines and by the names of its system
pub shared-text : (names system : SystemValue) (lines : List LineValue) (report : Report) → names ≡ system →
    lines ≡ all_lines report.records.items →
    lines_text names lines ++ line (end_text report) ≡ report_text system report
shared-text names system lines report own all =
    ap (λ s. lines_text s lines ++ line (end_text report)) own
    ∙ ap (λ l. lines_text system l ++ line (end_text report)) all ∙ report-lines-text system report

-- what isn't empty has a length
pub some-left : {X : Type 0} (xs : List X) → (xs ≡ [] → ⊥) → 0 < length xs
some-left [] more = absurd (more refl)
some-left (x ∷ xs) more = omega arith
