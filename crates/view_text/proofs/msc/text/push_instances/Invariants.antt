use Rattle.std.proofs.Common.{◌≡◌, ◌++◌, take}
use Rattle.std.specs.List.{flat_map}
use Rattle.std.specs.String.{string_bytes}
use Rattle.view_text.specs.MscText.{next_text}
use Rattle.view_text.proofs.msc.text.push_instances.Given as goal

abbrev pub invariant-loop-record : goal.invariant-loop-record
invariant-loop-record l =
    string_bytes l.text ≡ string_bytes l.initial.text ++ flat_map (next_text l.system) (take l.record-index l.more)
