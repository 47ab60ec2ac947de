use Rattle.std.proofs.Common.{◌≡◌, ◌<◌, [], length, rules, arith}
use Rattle.std.specs.List.{All}
use Rattle.sdl_timers.proofs.Firing.{empty_wheel}
use Rattle.sdl_timers.proofs.wheel.Wheel.new.Goals as goal

empty : (c : goal.After-new) → All (λ slot. slot ≡ []) c.from_fn.result
empty c place other b =
    let long : length c.from_fn.result ≡ 256 = c.from_fn.ensures.items.long in
    let below : place < 256 = omega arith in
    let call = c.from_fn.ensures.items.at place other below in
    let called = call.2 in
    search rules

pub invariant_of-result : goal.invariant_of-result
invariant_of-result c = (empty_wheel c.from_fn.result c.new.result c.from_fn.ensures.items.long c.new.ensures (empty c)).0

pub returns : goal.returns
returns c = (empty_wheel c.from_fn.result c.new.result c.from_fn.ensures.items.long c.new.ensures (empty c)).1
