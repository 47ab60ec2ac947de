-- The pieces of a report, and their texts.
use Rattle.std.specs.Prelude.{◌≡◌, ℕ, ◌+◌, true, List, length}
use Rattle.std.specs.List.{flat_map}
use Rattle.run_record.specs.Record.{RecordValue}
use Rattle.sdl_system.specs.System.{SystemValue}
use Rattle.sdl_report.specs.Lines.{LineValue, lines_text}
use Rattle.sdl_report.specs.declared.workers.piece.Piece.{Piece}

-- the lines of a record: its heading, and one for each event
abbrev pub line_count : RecordValue → ℕ
line_count trace = length trace.events + 1

-- the lines of all pieces, one piece after the other
abbrev pub joined : List Piece → List LineValue
joined pieces = flat_map (λ piece. piece.lines) pieces

abbrev pub piece_text : SystemValue → Piece → List ℕ
piece_text system piece = lines_text system piece.lines

abbrev pub pieces_text : SystemValue → List Piece → List ℕ
pieces_text system pieces = flat_map (piece_text system) pieces

-- what is kept as the text of the piece is that text, if it is made
abbrev pub IsMade : SystemValue → Piece → Type 0
IsMade system piece = piece.is_made ≡ true → piece.text.items ≡ piece_text system piece
