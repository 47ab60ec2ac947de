-- How a run ends.
use Rattle.std.proofs.Common.{◌≡◌, ◌∙◌, ◌<◌, ◌≤◌, ap, arith, length, subst, sym, take, ℕ, Bool, true, false, List, [], ◌∷◌, All}
use Rattle.std.specs.Prelude.{map, max}
use Rattle.std.proofs.lemmas.List.{take_all}
use Rattle.std.proofs.lemmas.List.Elements.{All-cons, All-nil}
use Rattle.run_record.specs.Event.{Event}
use Rattle.run_record.specs.Record.{RecordValue}
use Rattle.run_semantics.specs.World.{time_after_one}
use Rattle.sdl_script.specs.Script.{end_of}
use Rattle.sdl_script.specs.declared.script.ScriptLine.{ScriptLine}
use Rattle.settle_checks.specs.Ending.{IsEnding}
use Rattle.settle_meaning.specs.Closed.{AreBy, IsBy, transitions}
use Rattle.settle_meaning.specs.Puts.{Heard, signals_heard, signals_of}
use Rattle.settle_meaning.specs.Times.{greatest, latest, latest_in}

-- no event is later than the latest time of all
events_by : (end : ℕ) (events : List Event) → greatest (map (time_after_one 0) events) ≤ end → All (IsBy end) events
events_by end [] less = All-nil (IsBy end)
events_by end (e ∷ es) less =
    let both : max (time_after_one 0 e) (greatest (map (time_after_one 0) es)) ≤ end = less in
    All-cons (IsBy end) e es (omega (arith, both)) (events_by end es (omega (arith, both)))

pub records_by : (end : ℕ) (records : List RecordValue) → latest records ≤ end → All (AreBy end) records
records_by end [] less = All-nil (AreBy end)
records_by end (t ∷ ts) less =
    let both : max (latest_in t) (latest ts) ≤ end = less in
    All-cons (AreBy end) t ts (events_by end t.events (omega (arith, both))) (records_by end ts (omega (arith, both)))

module _ (whole : Bool) (lines : List ScriptLine) (line limit : ℕ) (heard : List Heard) (records : List RecordValue)
    (end count : ℕ) (first : signals_heard heard ≡ signals_of (take line lines)) (counted : count ≡ transitions records)
  where
    pub ends_whole : whole ≡ true → count < limit → length lines ≤ line → end ≡ end_of lines → latest records ≤ end
        → IsEnding whole lines limit heard records end
    ends_whole is fewer past at by =
        subst (λ b. IsEnding b lines limit heard records end) (sym is)
        record {
          ends = record {
            fewer = omega (arith, fewer, counted);
            heard_all = first ∙ ap signals_of (take_all line lines past);
            is_end = at;
          };
          ended = records_by end records by;
          is_end = tt;
        }

    pub ends_cut : whole ≡ false → limit ≤ count → end ≡ latest records → IsEnding whole lines limit heard records end
    ends_cut is more at =
        let by : All (AreBy end) records = records_by end records (omega (arith, at)) in
        subst (λ b. IsEnding b lines limit heard records end) (sym is)
        record {
          ends = record {
            as_many = omega (arith, more, counted);
            line = line;
            heard_first = first;
            not_before = by;
          };
          ended = by;
          is_end = at;
        }
