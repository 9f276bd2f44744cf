-- A DIMM's registers as a guest reads them; none is written, and the phases change nothing (a device of the profile).
use Rattle.std.specs.Prelude.{ℕ, ◌/◌, ◌%◌, ◌^◌, ◌==◌, if◌then◌else◌, Option, Some, None}

-- a DIMM: the address and the size of its range, in bytes
pub record DimmRegisters : Type 0 where
  pub address : ℕ
  pub size : ℕ

-- what a register reads, or none where it is absent: 0 and 1 the low and high half of the address, 2 and 3 of the size
abbrev pub dimm_read : DimmRegisters → ℕ → Option ℕ
dimm_read d reg =
    if reg == 0 then Some (d.address % 2 ^ 32)
    else if reg == 1 then Some (d.address / 2 ^ 32)
    else if reg == 2 then Some (d.size % 2 ^ 32)
    else if reg == 3 then Some (d.size / 2 ^ 32)
    else None
