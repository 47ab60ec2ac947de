-- What an entry does to other instances, or to the life of one.
use Rattle.std.specs.Prelude.{Some}
use Rattle.run_record.specs.declared.entry.Entry as entry
use Rattle.run_record.specs.declared.entry.Entry.TheVariants as kept
use Rattle.view_timeline.specs.declared.entries.Effect.{Effect}
use Rattle.view_timeline.specs.declared.entries.Effect.TheVariants.{Takes, Sends, Creates, Ends, Nothing}

abbrev pub effect_in : entry.Entry → Effect
effect_in (kept.Consumed at got) = Takes got
effect_in (kept.Prior at got) = Takes got
effect_in (kept.Discarded at got) = Takes got
effect_in (kept.Output signal to target) = Sends signal target
effect_in (kept.Create process (Some number)) = Creates number
effect_in (kept.FailedAt at why) = Ends
effect_in kept.Stop = Ends
effect_in (kept.Failed why) = Ends
effect_in _ = Nothing
