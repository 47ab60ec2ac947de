use Rattle.std.proofs.Common.{◌≡◌, ℕ, zero, suc, length, get_or, replicate, refl, sym, ap}
use Rattle.threads_ports.proofs.Members.{members-none}
use Rattle.threads_ports.proofs.instances.numbers.Numbers.new.Goals as goal

zeros : (n j : ℕ) → get_or (replicate n zero) j zero ≡ zero
zeros zero j = refl
zeros (suc n) zero = refl
zeros (suc n) (suc j) = zeros n j

pub invariant_of-result : goal.invariant_of-result
invariant_of-result c = sym (ap length (members-none 1024 (replicate 16 zero) (zeros 16)))

pub returns : goal.returns
returns c = members-none 1024 (replicate 16 zero) (zeros 16)
