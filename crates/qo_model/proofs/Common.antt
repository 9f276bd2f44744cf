-- The names of values and of the model that most proofs cite, passed on from one place. Declares nothing.
pub use Rattle.std.specs.Bool.{⊤}
pub use Rattle.std.specs.Cmp.{nat_eq_equiv}
pub use Rattle.std.specs.List.{AllByRecursion, cons_option, list_any}
unfoldable pub use Rattle.std.specs.List.{IsDistinct}
pub use Rattle.std.specs.Option.{option_map_or, option_or}
pub use Rattle.std.specs.Prelude.{Contains, List, codes, count_by, drop, filter, get_or, if◌then◌else◌, nat_eq, nat_le, nat_lt, option_map, take, unwrap_or, ◌==◌, ◌||◌}
pub use Rattle.std.specs.Str.{bytes_eq}
pub use Rattle.qo_values.specs.Registers.{Effect, body_act, body_write, bridge_write, effect_of, nothing, BridgeRegisters, DimmRegisters, Registers, TimerRegisters, UartRegisters, bare, bridge, dimm, fresh_registers, timer, uart}
pub use Rattle.qo_values.specs.Dimm.{dimm_read}
pub use Rattle.qo_values.specs.Ids.{is_id}
pub use Rattle.qo_values.specs.Kinds.{type_name}
pub use Rattle.qo_values.specs.Placing.{fits_at, free_address, is_in_window, overlap, overlaps_any, range_at, window_end, window_size, window_start}
unfoldable pub use Rattle.qo_values.specs.Placing.{least}
pub use Rattle.qo_values.specs.Properties.{admits, is_multiple}
pub use Rattle.qo_values.specs.Rings.{is_ring_size}
pub use Rattle.qo_values.specs.Timer.{after_begin, after_end, control_write, reload_write, span_ticks, timer_enter, timer_halt, timer_hold, timer_update, timer_write}
pub use Rattle.qo_values.specs.Uart.{uart_write}
pub use Rattle.qo_values.specs.declared.births.TheConstants.{ANONYMOUS_BIRTH, MACHINE_BIRTH, MEMORY_BUS_BIRTH, OBJECTS_BIRTH, PERIPHERAL_BIRTH, ROOT_BIRTH, ROOT_BUS_BIRTH, SYSTEM_CLOCK_BIRTH}
pub use Rattle.qo_values.specs.declared.codes.Code.{Code}
pub use Rattle.qo_values.specs.declared.codes.Code.TheVariants.{E15, E16, E17, E18, E19, E20, E21, E22, E23, E24, E25, E26, E27, E28, E29, E30, E31, E33, E34, E35, E36, E37, E38, E39, E40, E41, E42, E43, E44, E45, E46, E47, E50}
pub use Rattle.qo_values.specs.declared.kinds.Act.{Act}
pub use Rattle.qo_values.specs.declared.kinds.Act.TheVariants.{Enter, Exit, Hold, Init, Pre, Realize, Unrealize, Update}
pub use Rattle.qo_values.specs.declared.kinds.TypeId.{TypeId}
pub use Rattle.qo_values.specs.declared.kinds.TypeId.TheVariants.{Bus, Clock, Container, Device, Machine, MemBus, MemDimm, MemoryBackend, MemoryBackendRam, Object, SlotBridge, SlotBus, SlotDevice, SlotTimer, SlotUart, Tag}
pub use Rattle.qo_values.specs.declared.limits.TheConstants.{BACKEND_SIZE_AT_FIRST, BACKEND_SIZE_MAX, BUS_DEPTH_MAX, BUS_SLOTS, DIMM_ALIGN, LIVE_OBJECTS_MAX, NOTICES_MAX, SYSTEM_PERIOD, TIME_MAX}
pub use Rattle.qo_values.specs.declared.properties.PropType.{PropType}
pub use Rattle.qo_values.specs.declared.properties.Val.{Val}
pub use Rattle.qo_values.specs.declared.ranges.Range.{Range}
pub use Rattle.qo_model.specs.Access.{write_at}
pub use Rattle.qo_model.specs.Board.{Board, DeviceEvent, Notice, Record, Ring, Slot, alias, child, is_live, kind_of, plain, record_of, slot_at, slot_named, slots_at, strong, target_of, weak}
pub use Rattle.qo_model.specs.ChangeScope.{Stays, StaysLaw}
pub use Rattle.qo_model.specs.Changes.{changed_at, fresh, pointed, with_added, with_changed, with_cut, with_fresh, with_val}
unfoldable pub use Rattle.qo_model.specs.Changes.{add, cut, make, point, set, with_fresh_slots}
pub use Rattle.qo_model.specs.ClockChanges.{clock_scaled, clock_set}
pub use Rattle.qo_model.specs.ClockProperties.{clock_property_written, in_slot, is_set, led_by, led_to, number_written, only_set, own_property, role_written, set_property, set_row, typed_written}
pub use Rattle.qo_model.specs.Clocks.{ClocksFit, called, called_all, child_period, clock_written, device_period, div_of, fed_by, fed_turn, is_source, mul_of, overflows, own_period, period_turn, scaled, scaled_by, source_of, spread, with_act_on}
unfoldable pub use Rattle.qo_model.specs.Clocks.{acted, clocks_below, period}
pub use Rattle.qo_model.specs.Depth.{IsLocal, IsTree, Leads, among, by_depth, by_objects, leads, more, one}
pub use Rattle.qo_model.specs.Devices.{anonymous_name, bridge_of, bus_above, bus_in, bus_of, bus_slot_of, buses_of, child_named, clock_name, clock_of, depth_turn, device_named, first_bus, found_at, going_turn, has_id, is_realized, is_true, kid_at, kid_name, kids_of, number_at, number_in, plain_at, plain_in, strong_at, strong_in, text_at, text_in}
unfoldable pub use Rattle.qo_model.specs.Devices.{depth_of, is_going}
pub use Rattle.qo_model.specs.FinalNotes.{FinalOnce, IsBorn, NotesInOrder, Story, beginning, ending, is_bound, is_final}
pub use Rattle.qo_model.specs.FinalNotesRuns.{Change, FinalOnceLaw, added, after_changes, after_write, changed, deleted, severed, with_act, wrote}
pub use Rattle.qo_model.specs.Holders.{HeldFrom, a_cycle, an_attached, held_by}
pub use Rattle.qo_model.specs.Hotplug.{all_completed, asked, asked_of, completed, device_at, refused, refused_event, with_asked}
unfoldable pub use Rattle.qo_model.specs.Hotplug.{reset_whole}
pub use Rattle.qo_model.specs.Laws.{CycleLaw, FinalNotesLaw, FrameLaw, LeavesLaw, OpeningLaw, PathsLaw, PeriodsLaw, ReleaseLaw, SparesLaw, StackLaw, WeakLinksLaw}
pub use Rattle.qo_model.specs.Listing.{listing}
pub use Rattle.qo_model.specs.Notes.{deed_type, deed_word}
pub use Rattle.qo_model.specs.Objects.{Given, added_as, added_by, attempted_as, barred, barred_by, code_of, detached, given_slots, given_to, has_slot, index_from, init_notes, is_object_named, may_add, misfit, object_add, object_del, refusal_by, refusal_of, sever, severed_from, slot_given, target_given, with_attempt, with_object}
pub use Rattle.qo_model.specs.Opening.{first_slot, first_value, fresh_record, fresh_slots, opening_records, slots_with, with_child, with_value}
unfoldable pub use Rattle.qo_model.specs.Opening.{opening_board}
pub use Rattle.qo_model.specs.Paths.{Resolution, attached_turn, births, canonical, child_of, children_in, children_of, components, ends, found, is_absolute, is_child, is_of, missing, only_of, path_turn, place_of, resolve, resolve_absolute, several, starts, the_one, walk}
unfoldable pub use Rattle.qo_model.specs.Paths.{attached, path_down_to}
pub use Rattle.qo_model.specs.Plug.{Plugged, Resources, Wanted, acted_all, addressed_at, aliased, at_stage, backend_of, barred_early, barred_late, begun_notes, born_from, bus_barred, bus_births, bus_for, bus_slot_for, bus_type, claims_ring, clocked, code_in, container_barred, counted, cut_attempt, cut_order, device_last, did, dimms, drafted, ended_notes, fitted, further_in, further_of, has_backend, has_ring, id_barred, id_refused, is_bus, is_dimm, is_free, joined, kind_barred, link_named, name_for, notice_barred, notified_plug, number_for, objects_in, ok_in, ok_or_zero, owned, parent_for, passed, passed_notes, place_barred, plug_as, plug_attempt, plug_by, plug_late, properties_made, property_made, range_barred, range_for, range_in, range_of, ranges_of, realize_barred, registers_on, resources_of, ring_barred, room_barred, size_of, source_for, started, stood, target_for, text_for, type_barred, types_in, valued, with_body_of, with_device, with_ended, with_given, with_kid, with_new, with_path, with_plugged, with_source}
unfoldable pub use Rattle.qo_model.specs.Plug.{plug}
pub use Rattle.qo_model.specs.Properties.{link_target, link_written, linked, may_set, object_at, pointed_at, property_named, relinked, value_of, write, written, written_by}
pub use Rattle.qo_model.specs.References.{holds_it, refs, refs_in}
pub use Rattle.qo_model.specs.Release.{after, deleted_event, edit, edited, emptied, final_notes, finalize_by, forgotten, forgotten_in, from_index, holding, next_index, put_in_order, width, with_dropped, without_first, without_hold, without_pin}
unfoldable pub use Rattle.qo_model.specs.Release.{drop_slot, finalize, finalize_within, finish, let_go, pin, unpin}
pub use Rattle.qo_model.specs.ReleaseBound.{BoundLaw, ended, is_lost, is_weak, left_in, left_of_all, lost_in, names_weakly, objects_and_slots, release_bound, slots_ended, weak_ended, weak_links, weak_names}
pub use Rattle.qo_model.specs.ReleaseInduction.{Keeps, KeepsRelease, Leaves, SeesOnly, WeakLinksLive, without_slots}
pub use Rattle.qo_model.specs.ReleaseNotes.{NotesEnds, finals_of, notes_on}
pub use Rattle.qo_model.specs.ReleaseRules.{Finalizes, SlotsFrom, all_slots, freed, kept, past}
pub use Rattle.qo_model.specs.ReleaseWork.{IsLinked, IsWork, StackTurn, Turns, rest, seen_in, thinned}
pub use Rattle.qo_model.specs.Reset.{below, count, exceeds_depth, is_not_in_reset, phased, post_turn}
unfoldable pub use Rattle.qo_model.specs.Reset.{plugged, post, pulse, released}
pub use Rattle.qo_model.specs.RowNames.{property_name}
pub use Rattle.qo_model.specs.SoundAliases.{PassesTo, is_clock_slot, is_open, lasting}
pub use Rattle.qo_model.specs.SoundGraph.{GraphFacts, NamesLive, Rises, SoundGraph, without_value, without_values}
unfoldable pub use Rattle.qo_model.specs.SoundGraph.{graph_of}
pub use Rattle.qo_model.specs.Types.{TypeInfo, chain, finals, inits, is_a, multiple_of, property, slots_of, type_line, type_named, uint64, up_to}
unfoldable pub use Rattle.qo_model.specs.Types.{types}
pub use Rattle.qo_model.specs.Unplug.{disconnected, drained, each, is_bus_child, is_child_slot, is_named, left_bus, left_parent, let_go_where, lost_bus, lost_buses, names_kid, set_named, take_slot, take_where, taken_by, unheld, unnoticed, unrealize_turn, unrealized_bus, unrealized_device, unseen, unseen_named, without_all}
unfoldable pub use Rattle.qo_model.specs.Unplug.{apart_within, detach, unrealize}
