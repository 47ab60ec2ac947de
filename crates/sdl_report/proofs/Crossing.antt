-- That several threads may read the names of a system at once.
use denote.Ref.{NamedLft}
use denote.Param.Send.{IsSync, sendable}
use denote.Param.SendFields.{declared_sync}
use Rattle.std.proofs.Crossing as owners
use Rattle.sdl_report.proofs.short_names.ProcessNames.TheSendSync as process-names
use Rattle.sdl_report.specs.contracts.short_names.ShortNames as ShortNames
use Rattle.sdl_report.specs.contracts.short_names.ShortNames.TheInside as Inside
use Rattle.sdl_system.proofs.Crossing.{system}

module _ (κ : NamedLft) where
  inside : IsSync (Inside.the_row κ)
  inside = declared_sync (Inside.the_type κ) (
    search (system, sendable),
    (
      search (sendable, owners.crosses) depth 20,
      (search (process-names.the_sync, sendable, owners.crosses) depth 20, tt),
    ),
  )

  pub names : IsSync (ShortNames.the_row κ)
  names = let i = inside in search sendable depth 20
