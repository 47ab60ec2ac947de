-- A settled report is whole or cut: no number need be named.
use Rattle.std.proofs.Common.{◌≡◌, ◌⊎◌, inl, inr, ℕ, Bool, List, []}
use Rattle.std.proofs.lemmas.List.Elements.{All-weaker}
use Rattle.port_model.specs.declared.values.item.Item.{Item}
use Rattle.port_model.specs.declared.values.pid.Pid.TheVariants.{Env, Of}
use Rattle.run_record.specs.Record.{RecordValue}
use Rattle.sdl_system.specs.Behaviour.{Behaviour}
use Rattle.sdl_system.specs.System.{SystemValue}
use Rattle.settle_meaning.specs.Histories.{puts_of}
use Rattle.settle_meaning.specs.MeaningLaws.{SettledIsWholeOrCut}
use Rattle.settle_meaning.specs.Puts.{Heard, IsNamed, IsPutBy, IsPutByEnv, MayMiss, MayMissHeard, sent_by}
use Rattle.settle_meaning.specs.Report.{HasHistory}
use Rattle.settle_meaning.specs.Settled.{IsSettledOne}
use Rattle.settle_meaning.specs.SettledLaws.{SettledReportsAreSettled}

abbrev Any : ℕ → Type 0
Any number = Unit {0}

module _ (Known : ℕ → Type 0) where
  miss_any : (from to : RecordValue) (missing : List Item) → (missing ≡ []) ⊎ MayMiss Known from to
      → (missing ≡ []) ⊎ MayMiss Any from to
  miss_any from to missing (inl none) = inl none
  miss_any from to missing (inr may) = inr (record {
    created = may.created;
    other = may.other;
    no_parent = may.no_parent;
    known = tt;
  })

  heard_any : (to : RecordValue) (missing : List Item) → (missing ≡ []) ⊎ MayMissHeard Known to
      → (missing ≡ []) ⊎ MayMissHeard Any to
  heard_any to missing (inl none) = inl none
  heard_any to missing (inr may) = inr (record { created = may.created; known = tt })

  put_any : (from to : RecordValue) (put : List Item) → IsPutBy Known from to put → IsPutBy Any from to put
  put_any from to put is = record {
    missing = is.missing;
    all = is.all;
    allowed = miss_any from to is.missing is.allowed;
    since = is.since;
  }

  env_any : (heard : List Heard) (to : RecordValue) (put : List Item) → IsPutByEnv Known heard to put
      → IsPutByEnv Any heard to put
  env_any heard to put is = record {
    missing = is.missing;
    all = is.all;
    allowed = heard_any to is.missing is.allowed;
  }

  history_any : (ps : List Behaviour) (system : SystemValue) (heard : List Heard) (whole : Bool) (end : ℕ)
      (records : List RecordValue) (trace : RecordValue) → HasHistory Known ps system heard whole end records trace
      → HasHistory Any ps system heard whole end records trace
  history_any ps system heard whole end records trace has = record {
    history = has.history;
    port = has.port;
    legal = has.legal;
    run = has.run;
    put = record {
      instances = All-weaker
          (λ (from : RecordValue). IsPutBy Known from trace (sent_by (Of from.pid) (puts_of has.history)))
          (λ (from : RecordValue). IsPutBy Any from trace (sent_by (Of from.pid) (puts_of has.history)))
          (λ from is. put_any from trace (sent_by (Of from.pid) (puts_of has.history)) is) records has.put.instances;
      environment = env_any heard trace (sent_by Env (puts_of has.history)) has.put.environment;
      no_other = has.put.no_other;
    };
    in_time = has.in_time;
    sets = has.sets;
    closes = has.closes;
  }

pub settled_is_whole_or_cut : SettledIsWholeOrCut
settled_is_whole_or_cut ps system lines limit report settled = record {
  heard = settled.heard;
  made = settled.made;
  nulls = settled.nulls;
  each = All-weaker
      (HasHistory (IsNamed settled.heard) ps system settled.heard report.whole report.end report.records.items)
      (HasHistory Any ps system settled.heard report.whole report.end report.records.items)
      (λ trace has. history_any (IsNamed settled.heard) ps system settled.heard report.whole report.end
      report.records.items trace has)
      report.records.items settled.each;
  outputs = settled.outputs;
  signals = settled.signals;
  ends = settled.ends;
}

pub settled_reports_are_settled : SettledReportsAreSettled
settled_reports_are_settled ps system lines limit report behaviours settled = record {
  heard = settled.heard;
  made = settled.accounted.made;
  nulls = settled.accounted.nulls;
  each = All-weaker
      (IsSettledOne ps system lines settled.heard settled.given report.whole report.end report.records.items)
      (HasHistory (IsNamed settled.heard) ps system settled.heard report.whole report.end report.records.items)
      (λ trace one. one.has) report.records.items (settled.each ps behaviours);
  outputs = settled.accounted.outputs;
  signals = settled.accounted.signals;
  ends = settled.accounted.ends;
}
