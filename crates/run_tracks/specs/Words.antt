-- What is kept of one instance.
use Rattle.std.specs.Prelude.{◌≡◌, ◌⊎◌, ◌+◌, ◌≤◌, ◌^◌, ℕ, List, Some, length, map, slice_get}
use Rattle.std.specs.Global.{Vec}
use Rattle.port_model.specs.declared.course.course.Course.{Course}
use Rattle.port_model.specs.declared.course.course.SenderInto.{SenderInto}
use Rattle.run_tracks.specs.declared.words.Words.{Words}

-- They stand in the rows of this place; the row of the environment comes before those of the senders.
pub record AreWordsOf (course : Course) (place : ℕ) (words : Words) : Type 0 where
  pub puts : slice_get (map (λ (row : Vec ℕ). row.items) course.puts.items) place ≡ Some words.puts.now
  pub drawn : slice_get (map (λ (row : Vec ℕ). row.items) course.drawn.items) place ≡ Some words.drawn.now
  pub versions : slice_get (map (λ (row : Vec ℕ). row.items) course.versions.items) place ≡ Some words.versions.now
  pub senders : slice_get (map (λ (row : Vec SenderInto). row.items) course.senders.items) (place + 1)
      ≡ Some words.senders.now

-- some column has no such row
abbrev pub IsWithout : Course → ℕ → Type 0
IsWithout course place =
    (2 ^ 64 ≤ place + 1) ⊎ (length course.puts.items ≤ place) ⊎ (length course.drawn.items ≤ place)
    ⊎ (length course.versions.items ≤ place) ⊎ (length course.senders.items ≤ place + 1)
