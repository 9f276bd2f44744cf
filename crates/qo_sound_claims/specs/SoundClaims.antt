-- When the claims of realized devices are sound: rings (include/hw/qdev-properties.h), memory backends and ranges (include/hw/mem/memory-device.h).
use Rattle.std.specs.Prelude.{◌≡◌, ◌≢◌, ℕ, ◌%◌, ◌&&◌, Bool, true, false, List, [], codes, Some, option_map}
use Rattle.qo_values.specs.Placing.{is_in_window, overlap}
use Rattle.qo_values.specs.Registers.{dimm}
use Rattle.qo_values.specs.declared.limits.TheConstants.{DIMM_ALIGN}
use Rattle.qo_values.specs.declared.ranges.Range.{Range}
use Rattle.qo_model.specs.Board.{Board, Record, record_of}
use Rattle.qo_model.specs.Devices.{is_realized, number_at, text_at}
use Rattle.qo_model.specs.Paths.{is_of}
use Rattle.qo_model.specs.Plug.{backend_of, has_ring, size_of}

-- whether n is a UART, or a DIMM, that is realized
abbrev pub is_uart_on : Board → ℕ → Bool
is_uart_on b n = is_of b (codes "slot-uart") n && is_realized b n

abbrev pub is_dimm_on : Board → ℕ → Bool
is_dimm_on b n = is_of b (codes "mem-dimm") n && is_realized b n

-- a UART names no ring, by the empty text, or one that is there
pub record NamesRing (b : Board) (n : ℕ) : Type 0 where
  pub id : List ℕ
  pub chardev : text_at b n (codes "chardev") ≡ Some id
  pub there : id ≢ [] → has_ring b id ≡ true

-- the registers of a DIMM have this range
abbrev pub StandsOn : Board → ℕ → Range → Type 0
StandsOn b d r = option_map (λ (x : Record). x.registers) (record_of b d) ≡ Some (dimm (record { address = r.at; size = r.size }))

-- a DIMM stands on a range of the window, at its address and as long as its memory backend
pub record HasRange (b : Board) (d : ℕ) : Type 0 where
  pub range : Range
  pub backend : ℕ
  pub memdev : backend_of b d ≡ Some backend
  pub memory : is_of b (codes "memory-backend") backend ≡ true
  pub addr : number_at b d (codes "addr") ≡ Some range.at
  pub size : range.size ≡ size_of b backend
  pub aligned : range.at % DIMM_ALIGN ≡ 0
  pub window : is_in_window range ≡ true
  pub stands : StandsOn b d range

-- the claims are sound
pub record SoundClaims (b : Board) : Type 0 where
  -- each realized UART names a ring that is there, or none, and no two name the same
  pub rings : (n : ℕ) → is_uart_on b n ≡ true → NamesRing b n
  pub one_uart : (n m : ℕ) (id : List ℕ) → is_uart_on b n ≡ true → is_uart_on b m ≡ true → id ≢ [] → text_at b n (codes "chardev") ≡ Some id
      → text_at b m (codes "chardev") ≡ Some id → n ≡ m
  -- each realized DIMM has its range, no two stand on one backend, and no two ranges overlap
  pub ranges : (d : ℕ) → is_dimm_on b d ≡ true → HasRange b d
  pub one_dimm : (d e m : ℕ) → is_dimm_on b d ≡ true → is_dimm_on b e ≡ true → backend_of b d ≡ Some m → backend_of b e ≡ Some m → d ≡ e
  pub apart : (d e : ℕ) (r s : Range) → is_dimm_on b d ≡ true → is_dimm_on b e ≡ true → d ≢ e → StandsOn b d r → StandsOn b e s → overlap r s ≡ false
