use Rattle.std.proofs.Common.{◌≡◌, ◌++◌, map}
use Rattle.std.specs.String.{string_bytes}
use Rattle.explain_syntax.specs.Rest.{IsRestOf}
use Rattle.explain_syntax.proofs.rests.rest.Rest.leave_out.Given as goal

abbrev pub invariant-loop-name : goal.invariant-loop-name
invariant-loop-name l = record {
  left : IsRestOf l.fn.self.text.items l.self.text.items;
  kept : l.self.text ≡ l.initial.self.text;
  named : map string_bytes l.self.names.items
      ≡ map string_bytes l.fn.self.names.items ++ map string_bytes l.yielded;
}
