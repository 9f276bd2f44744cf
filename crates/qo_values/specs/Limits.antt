-- For a law alone. The numbers of the limits (docs/PROFILE.md, limits): what the named constants of the code are.
use Rattle.std.specs.Prelude.{◌≡◌}
use Rattle.qo_values.specs.declared.limits.TheConstants.{ASK_AGAIN_AFTER, BACKEND_SIZE_AT_FIRST, BACKEND_SIZE_MAX, BUS_DEPTH_MAX, BUS_SLOTS, COUNT_MAX, DIMM_ALIGN, GUEST_LINE_MAX, HOLD_COUNT_MAX, ID_MAX, INPUTS_MAX, LIVE_OBJECTS_MAX, MESSAGE_MAX, NAME_MAX, NESTING_MAX, NOTES_KEPT, NOTES_PER_REPLY, NOTICES_MAX, RELOAD_AT_FIRST, RING_SIZE_MAX, SESSIONS, SYSTEM_PERIOD, TIME_MAX, UNITS_PER_NS}

pub record LimitsAre : Type 0 where
  -- of the board
  pub live_objects : LIVE_OBJECTS_MAX ≡ 65536
  pub bus_slots : BUS_SLOTS ≡ 8
  pub bus_depth : BUS_DEPTH_MAX ≡ 8
  pub notices : NOTICES_MAX ≡ 64
  pub hold_count : HOLD_COUNT_MAX ≡ 48
  pub ask_again_after : ASK_AGAIN_AFTER ≡ 5000000000
  pub time : TIME_MAX ≡ 9223372036854775807
  pub ring_size : RING_SIZE_MAX ≡ 1048576
  pub id : ID_MAX ≡ 128
  pub name : NAME_MAX ≡ 140
  -- of its devices and clocks
  pub count : COUNT_MAX ≡ 4294967295
  pub reload : RELOAD_AT_FIRST ≡ 4294967295
  pub units_per_ns : UNITS_PER_NS ≡ 4294967296
  pub system_period : SYSTEM_PERIOD ≡ 42949672960
  pub dimm_align : DIMM_ALIGN ≡ 4096
  pub backend_size : BACKEND_SIZE_MAX ≡ 1099511627776
  pub backend_size_at_first : BACKEND_SIZE_AT_FIRST ≡ 1048576
  -- of what is sent, and of a run
  pub sessions : SESSIONS ≡ 16
  pub message : MESSAGE_MAX ≡ 262144
  pub nesting : NESTING_MAX ≡ 64
  pub notes_kept : NOTES_KEPT ≡ 1048576
  pub notes_per_reply : NOTES_PER_REPLY ≡ 256
  pub guest_line : GUEST_LINE_MAX ≡ 256
  pub inputs : INPUTS_MAX ≡ 1000000000
