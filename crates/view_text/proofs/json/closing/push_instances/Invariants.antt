use Rattle.std.proofs.Common.{◌≡◌, ◌++◌, take}
use Rattle.std.specs.String.{string_bytes}
use Rattle.view_text.specs.JsonText.{more_instances}
use Rattle.view_text.proofs.json.closing.push_instances.Given as goal

abbrev pub invariant-loop-record : goal.invariant-loop-record
invariant-loop-record l =
    string_bytes l.text ≡ string_bytes l.initial.text ++ more_instances l.system (take l.record-index l.more)
