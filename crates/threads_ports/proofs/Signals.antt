-- The signals among entries: of two lists one after the other, and how many they are.
use Rattle.std.proofs.Common.{◌≡◌, ◌∙◌, ◌+◌, ap, arith, cond, length, refl, ℕ, List, [], ◌∷◌, ◌++◌, count_by}
use Rattle.std.proofs.lemmas.List.Sums.{sum_by-cons}
use Rattle.port_model.specs.Ends.{is_signal, is_signal_entry}
use Rattle.port_model.specs.declared.inbox.entry.Entry.{Entry}
use Rattle.port_model.specs.declared.inbox.entry.Entry.TheVariants.{Signal, Timer}
use Rattle.port_model.specs.declared.inbox.placed.Placed.{Placed}
use Rattle.input_port.specs.Counts.{signal_before, signals_in}
use Rattle.port_model.specs.declared.values.item.Item.{Item}

signal_before-append : (e : Entry) (xs ys : List Item) → signal_before e (xs ++ ys) ≡ signal_before e xs ++ ys
signal_before-append (Signal item) xs ys = refl
signal_before-append (Timer fuse) xs ys = refl

pub signals_in-append : (xs ys : List Placed) → signals_in (xs ++ ys) ≡ signals_in xs ++ signals_in ys
signals_in-append [] ys = refl
signals_in-append (x ∷ xs) ys =
    ap (signal_before x.entry) (signals_in-append xs ys)
    ∙ signal_before-append x.entry (signals_in xs) (signals_in ys)

count_step : (e : Entry) (k : ℕ) (rest : List Item) → k ≡ length rest
    → cond (is_signal_entry e) 1 0 + k ≡ length (signal_before e rest)
count_step (Signal item) k rest is = omega arith
count_step (Timer fuse) k rest is = omega arith

pub count_by-signals : (ps : List Placed) → count_by is_signal ps ≡ length (signals_in ps)
count_by-signals [] = refl
count_by-signals (p ∷ ps) =
    sum_by-cons (λ (q : Placed). cond (is_signal q) 1 0) p ps
    ∙ count_step p.entry (count_by is_signal ps) (signals_in ps) (count_by-signals ps)
