-- A settled report has the headline: what it says of a history follows from its being legal.
use Rattle.std.proofs.Common.{◌≡◌, refl, subst, List, [], ◌∷◌, ◌++◌}
use Rattle.std.proofs.lemmas.List.Elements.{All-weaker}
use Rattle.port_model.proofs.Resets.{stops_for_good}
use Rattle.port_model.specs.History.{IsLegal, PortEvent, Stop, Take}
use Rattle.port_model.specs.Port.{PortState, empty_port}
use Rattle.port_model.specs.declared.selection.Class.{Class}
use Rattle.port_model.specs.declared.taken.Taken.TheVariants.{Nothing}
use Rattle.run_record.specs.Record.{RecordValue}
use Rattle.settle_meaning.specs.Headline.{FindNothingRightly, HasHeadline, AsksNoMore}
use Rattle.settle_meaning.specs.Settled.{IsSettledOne}
use Rattle.settle_meaning.specs.SettledLaws.{SettledReportsHaveHeadline}

-- a legal history in two parts, with the port between them
record Parted (old : PortState) (before later : List PortEvent) (new : PortState) : Type 0 where
  between : PortState
  first : IsLegal old before between
  rest : IsLegal between later new

parted : (before later : List PortEvent) (old new : PortState) → IsLegal old (before ++ later) new
    → Parted old before later new
parted [] later old new legal = record { between = old; first = refl; rest = legal }
parted (happened ∷ before) later old new legal =
    let tail = parted before later legal.0 new legal.2 in
    record { between = tail.between; first = (legal.0, legal.1, tail.first); rest = tail.rest }

find_nothing : (history : List PortEvent) (port : PortState) → IsLegal empty_port history port
    → FindNothingRightly history
find_nothing history port legal before later classes is =
    let parts = parted before (Take classes Nothing ∷ later) empty_port port
    (subst (λ (l : List PortEvent). IsLegal empty_port l port) is legal) in
    record {
      port = parts.between;
      legal = parts.first;
      lives = parts.rest.1.0;
      saved = parts.rest.1.1.0;
    }

stops : (history : List PortEvent) (port : PortState) → IsLegal empty_port history port → AsksNoMore history
stops history port legal before later is =
    let parts = parted before (Stop ∷ later) empty_port port
    (subst (λ (l : List PortEvent). IsLegal empty_port l port) is legal) in
    (stops_for_good parts.between port later parts.rest).0

pub settled_reports_have_headline : SettledReportsHaveHeadline
settled_reports_have_headline system lines limit report settled ps behaviours =
    All-weaker
    (IsSettledOne ps system lines settled.heard settled.given report.whole report.end report.records.items)
    (HasHeadline ps system)
    (λ trace one. record {
      history = one.has.history;
      port = one.has.port;
      legal = one.has.legal;
      run = one.has.run;
      nothing = find_nothing one.has.history one.has.port one.has.legal;
      stops = stops one.has.history one.has.port one.has.legal;
    })
    report.records.items (settled.each ps behaviours)
