-- What is told in words.
use Rattle.std.specs.Prelude.{ℕ, List, ◌++◌, codes}
use Rattle.std.specs.Option.{option_map_or}
use Rattle.std.specs.Fmt.{decimal}
use Rattle.sdl_system.specs.System.{SystemValue}
use Rattle.sdl_system.specs.declared.route.Target.{Target}
use Rattle.sdl_system.specs.declared.route.Target.TheVariants as reached
use Rattle.run_record.specs.Record.{RecordValue}
use Rattle.sdl_report.specs.Name.{process_name}
use Rattle.sdl_report.specs.Number.{record_of}

-- `Initiator #1`
abbrev pub instance_words : SystemValue → RecordValue → List ℕ
instance_words system trace = process_name system trace.process ++ codes " #" ++ decimal trace.pid

-- the instance of this number, by its record if it has one
abbrev pub number_words : SystemValue → List RecordValue → ℕ → List ℕ
number_words system records number =
    option_map_or (instance_words system) (record_of number records) (codes "#" ++ decimal number)

-- whom an output reached
abbrev pub target_words : SystemValue → List RecordValue → Target → List ℕ
target_words system records (reached.Instance number) = number_words system records number
target_words system records reached.Env = codes "env"
target_words system records reached.Null = codes "null"
target_words system records reached.Nobody = codes "nobody"
