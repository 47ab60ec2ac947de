use Rattle.std.proofs.Common.{◌∙◌, ◌++◌, ◌∷◌, [], ap, flat_map, length, map, sym, take}
use Rattle.std.proofs.lemmas.List.{append-nil, length-map}
use Rattle.std.proofs.lemmas.List.Concat.{flat_map-append}
use Rattle.build_definitions.specs.Seen.{channel_seen}
use Rattle.build_network.proofs.PathLemmas.{numbers-step}
use Rattle.build_network.proofs.NumberLemmas.{mapped-step}
use Rattle.build_network.specs.Paths.{channel_paths, numbers_from, numbers_of, placed_value}
use Rattle.build_network.proofs.paths.all_paths.Goals as goal

pub loop-channel-preserved : goal.loop-channel-preserved
loop-channel-preserved c =
    let i = c.loop-channel.channel-index in
    let channels = c.args.channels.now in
    let before = map channel_seen (take i channels) in
    let channel = channel_seen c.channel-item.result in
    let step = mapped-step channels i c.channel-item.result c.loop-channel-test.true c.channel-item.is channel_seen in
    let entries = c.loop-channel.paths.entries.items in
    record {
      entries =
          c.in_ok-add_channel.ensures.entries
          ∙ ap (λ list. list ++ channel_paths channel) c.loop-channel.invariant.entries
          ∙ sym (ap (flat_map channel_paths) step
          ∙ flat_map-append channel_paths before (channel ∷ [])
          ∙ ap (λ list. flat_map channel_paths before ++ list) (append-nil (channel_paths channel)));
      numbers =
          c.in_ok-add_channel.ensures.numbers
          ∙ ap (λ list. list ++ numbers_of (length entries) channel ∷ []) c.loop-channel.invariant.numbers
          ∙ sym (ap (numbers_from 0) step ∙ numbers-step before channel (length entries)
          (sym (length-map entries placed_value) ∙ ap length c.loop-channel.invariant.entries));
    }
