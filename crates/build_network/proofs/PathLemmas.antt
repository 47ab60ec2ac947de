-- The numbers of paths, as far as a loop over channels has come.
use Rattle.std.proofs.Common.{◌≡◌, ◌∙◌, ◌++◌, ◌+◌, ℕ, List, [], ◌∷◌, length, flat_map, ap, arith, length-append}
use Rattle.build_definitions.specs.Rows.{ChannelRow}
use Rattle.build_network.specs.Paths.{channel_paths, numbers_from, numbers_of}

-- the numbers of the paths of one channel more
numbers_from-more : (n : ℕ) (xs : List ChannelRow) (x : ChannelRow) →
    numbers_from n (xs ++ x ∷ []) ≡ numbers_from n xs ++ numbers_of (n + length (flat_map channel_paths xs)) x ∷ []
numbers_from-more n [] x = ap (λ k. numbers_of k x ∷ []) (omega arith)
numbers_from-more n (y ∷ ys) x =
    let here = length (channel_paths y) in
    let there = length (flat_map channel_paths ys) in
    let all : length (flat_map channel_paths (y ∷ ys)) ≡ here + there = length-append (channel_paths y) (flat_map channel_paths ys) in
    ap (λ rest. numbers_of n y ∷ rest) (numbers_from-more (n + here) ys x
    ∙ ap (λ k. numbers_from (n + here) ys ++ numbers_of k x ∷ []) (omega (arith, all)))

pub numbers-step : (channels : List ChannelRow) (channel : ChannelRow) (count : ℕ) →
    count ≡ length (flat_map channel_paths channels) →
    numbers_from 0 (channels ++ channel ∷ []) ≡ numbers_from 0 channels ++ numbers_of count channel ∷ []
numbers-step channels channel count counted =
    numbers_from-more 0 channels channel
    ∙ ap (λ k. numbers_from 0 channels ++ numbers_of k channel ∷ []) (omega (arith, counted))
