-- Steps keep a board in order, and each object telling its type.
use Rattle.std.proofs.Common.{arith, ◌≡◌, refl, ap, sym, ◌∙◌, Bool, true, false, not, if◌then◌else◌, List, [], ◌∷◌, ◌++◌, map, Option, Some, None, option_map, ℕ, is_some}
use Rattle.std.specs.Option.{option_map_or}
use Rattle.std.specs.Str.{bytes_eq}
use Rattle.std.specs.Prelude.{codes}
use Rattle.qo_values.specs.Ids.{is_id}
use Rattle.qo_values.specs.Registers.{Effect, Registers, bare}
use Rattle.qo_values.specs.Rings.{RingBytes, is_ring_size, ring_add, ring_drop}
use Rattle.qo_values.specs.declared.births.TheConstants.{MACHINE_BIRTH}
use Rattle.qo_values.specs.declared.codes.Code.TheVariants.{E20, E23, E24, E51}
use Rattle.qo_values.specs.declared.kinds.ResetKind.TheVariants.{Cold, Wakeup}
use Rattle.qo_model.specs.Board.{Board, Record, Ring, record_of}
use Rattle.qo_model.specs.Clocks.{device_period, div_of, mul_of}
use Rattle.qo_model.specs.Reset.{pulse}
use Rattle.qo_model.specs.Plug.{has_ring}
use Rattle.qo_buses.specs.Rings.{claimed_ring}
use Rattle.qo_chardev.specs.Rings.{is_ring, new_ring, ring_changed, without_ring}
use Rattle.qo_commands.specs.Commands.{without_events}
use Rattle.qo_realize.specs.Chardevs.{with_rings}
use Rattle.qo_realize.specs.Guest.{polled}
use Rattle.qo_realize.specs.Registers.{pushed, registers_at, registers_written}
use Rattle.qo_realize.specs.SoundBoard.{SoundBoard}
use Rattle.qo_realize.specs.Time.{at_time, with_running}
use Rattle.qo_realize.proofs.GoodBoardLemmas.{opening-good}
use Rattle.qo_realize.proofs.RegisterWriteLemmas.{written-all}
use Rattle.qo_sound_clocks.specs.RegisterWrites.{registers_set}
use Rattle.qo_sound_clocks.proofs.RegisterLemmas.{registers_kept_lem}
use Rattle.qo_sound_devices.specs.SoundDevices.{SoundDevices}
use Rattle.qo_sound_devices.specs.SoundLists.{IsOn}
use Rattle.qo_sound_devices.proofs.DevicesLawLemmas.{devices_kept_lem, removal-all}
use Rattle.qo_sound_shapes.specs.SoundShape.{SoundShape, is_like}
use Rattle.qo_sound_shapes.proofs.LawLemmas.{shapes_kept_lem}
use Rattle.qo_sound_order.specs.SoundOrder.{SoundOrder}
use Rattle.qo_sound_order.proofs.OrderLawLemmas.{order_kept_lem}
use Rattle.qo_good.specs.GoodBoards.{IsWhole}
use Rattle.qo_alike.specs.AlikeBoards.{TellsTypes}
use Rattle.qo_rebuilt.proofs.TypesLawLemmas.{types_told_lem}
use Rattle.qo_rebuilt.proofs.RebuiltLemmas.{rebuilt_lem}
use Rattle.qo_reread.proofs.RereadLemmas.{reread_lem}
use Rattle.qo_save.specs.Described.{described}
use Rattle.qo_save.specs.Description.{Description, description_text}
use Rattle.qo_save.specs.Rebuilding.{rebuilt, rebuilt_from}
use Rattle.qo_sound_order.specs.SoundValues.{SoundValues}
use Rattle.qo_machine.specs.Machine.{opening}
use Rattle.qo_machine.specs.Runs.{Turn, state_after}
use Rattle.qo_machine.proofs.BoardLemmas.{board_commands}
use Rattle.qo_machine.proofs.PreservationLemmas.{ChangesBoard, ChangesCommands, KeepsCommands, changes_commands, run_keeps}
use Rattle.qo_rebuilt_runs.specs.DescribedRuns.{DescribedInRuns}

-- what a sound board is besides: in order, and its objects tell their types
pub record IsTold (b : Board) : Type 0 where
  pub order : SoundOrder b
  pub types : TellsTypes b

-- a change keeps that where the board is sound before
abbrev Keeps : Board → Board → Type 0
Keeps b c = SoundBoard b → IsTold b → IsTold c

-- rings

free_id : (ringbuf named taken fits : Bool)
    → (if not ringbuf then Some E20 else if not named then Some E23 else if taken then Some E24 else if not fits then Some E51 else None) ≡ None
    → named ≡ true
free_id true true taken fits e = refl
free_id true false taken fits e = absurd (let clash : Some E23 ≡ None = e in cc)
free_id false named taken fits e = absurd (let clash : Some E20 ≡ None = e in cc)

ids-changed : (f : RingBytes → RingBytes) (id : List ℕ) (rings : List Ring)
    → map (λ (r : Ring). r.id) (ring_changed f id rings) ≡ map (λ (r : Ring). r.id) rings
ids-changed f id [] = refl
ids-changed f id (r ∷ rings) = go (is_ring id r) refl (ids-changed f id rings)
  where
    go : (t : Bool) → is_ring id r ≡ t → map (λ (x : Ring). x.id) (ring_changed f id rings) ≡ map (λ (x : Ring). x.id) rings
        → map (λ (x : Ring). x.id) (ring_changed f id (r ∷ rings)) ≡ map (λ (x : Ring). x.id) (r ∷ rings)
    go true p rest = rw p (ap (λ (ids : List (List ℕ)). r.id ∷ ids) rest)
    go false p rest = rw p (ap (λ (ids : List (List ℕ)). r.id ∷ ids) rest)

-- rings are no matter to types
ringed-types : (b : Board) (rings : List Ring) → TellsTypes b → TellsTypes (with_rings rings b)
ringed-types b rings h = types_told_lem.beside b (with_rings rings b) refl h

-- registers that a guest writes

-- what a guest's write goes through
record Holds (b : Board) : Type 0 where
  devices : SoundDevices b
  shape : SoundShape b
  told : IsTold b

same-body : (b : Board) (d : ℕ) (registers : Registers) → is_like registers (registers_at b d) ≡ true → (r : Record) → record_of b d ≡ Some r
    → is_like registers r.registers ≡ true
same-body b d registers like r found =
    sym (ap (λ (o : Option Record). is_like registers (option_map_or (λ (x : Record). x.registers) o bare)) found) ∙ like

holds-registers : (b : Board) (d reg value : ℕ) (registers : Registers) (e : Effect) → registers_written b d reg value ≡ Some (registers, e) → Holds b
    → Holds (registers_set b d registers)
holds-registers b d reg value registers e is h =
    let like : is_like registers (registers_at b d) ≡ true =
    shapes_kept_lem.wrote (registers_at b d) registers e reg value (is_some (claimed_ring b d)) b.now (device_period b d) is in
    record {
      devices = registers_kept_lem.devices b d registers h.devices;
      shape = shapes_kept_lem.registers b d registers (same-body b d registers like) h.shape;
      told =
          record {
            order = order_kept_lem.registers b d registers h.told.order;
            types = types_told_lem.registers b d registers (same-body b d registers like) h.shape h.told.types;
          };
    }

holds-pushed : (b : Board) (n : ℕ) (id : List ℕ) → Holds b → Holds (pushed n b id)
holds-pushed b n id h =
    record {
      devices = devices_kept_lem.beside b (pushed n b id) refl refl refl refl refl refl (omega arith) h.devices;
      shape = shapes_kept_lem.beside b (pushed n b id) refl h.shape;
      told =
          record {
            order = order_kept_lem.ring_filled b (pushed n b id).rings (ids-changed (λ (m : RingBytes). ring_add m (n ∷ [])) id b.rings) h.told.order;
            types = ringed-types b (pushed n b id).rings h.told.types;
          };
    }

holds-pulsed : (b : Board) (m : ℕ) → Holds b → Holds (pulse b m Cold)
holds-pulsed b m h =
    record {
      devices = devices_kept_lem.pulsed b m Cold h.devices;
      shape = shapes_kept_lem.pulsed b m Cold h.shape;
      told =
          record { order = order_kept_lem.changes.pulsed b m Cold tt tt h.devices h.told.order; types = types_told_lem.pulsed b m Cold h.shape h.told.types };
    }

-- all changes

changes : ChangesBoard Keeps
changes =
    record {
      change = λ b change s h.
          record {
            order = order_kept_lem.changes.change b change s.run.devices h.order;
            types = types_told_lem.change b change s.run.devices s.shape h.types;
          };
      set = λ b d c period fits is s h.
          record {
            order = order_kept_lem.changes.set b d c period is s.run.devices h.order;
            types = types_told_lem.set b d c period fits is s.shape h.types;
          };
      multiplied = λ b d c mul fits is s h.
          record {
            order = order_kept_lem.changes.scaled b d c mul (div_of b c) is s.run.devices h.order;
            types = types_told_lem.scaled b d c mul (div_of b c) fits (s.run.numbers c).div is s.shape h.types;
          };
      divided = λ b d c div fits is s h.
          record {
            order = order_kept_lem.changes.scaled b d c (mul_of b c) div is s.run.devices h.order;
            types = types_told_lem.scaled b d c (mul_of b c) div (s.run.numbers c).mul fits is s.shape h.types;
          };
      attempt = λ b t s h. record { order = order_kept_lem.changes.attempt b t s.run.devices h.order; types = types_told_lem.attempt b t h.types };
      plugged = λ b a s h.
          record {
            order = order_kept_lem.changes.plugged b a tt s.run.devices h.order;
            types = types_told_lem.plugged b a s.run.devices s.shape h.types;
          };
      cut = λ b t i joined s h.
          record { order = order_kept_lem.changes.cut b t i joined s.run.devices h.order; types = types_told_lem.cut b t i joined h.types };
      asked = λ b id s h.
          record { order = order_kept_lem.changes.asked_for b id s.run.devices h.order; types = types_told_lem.asked_for b id s.shape h.types };
      completed = λ b at d is pending s h.
          record {
            order = order_kept_lem.changes.detached b d tt tt s.run.devices h.order;
            types = types_told_lem.detached b d s.run.devices (removal-all (IsOn b) b.pending s.run.devices.lists.pending d pending).0 s.shape h.types;
          };
      refused = λ b d s h. record { order = order_kept_lem.changes.refused_by b d s.run.devices h.order; types = types_told_lem.refused_by b d h.types };
      polled = λ b s h.
          record { order = order_kept_lem.beside b (polled b) refl refl h.order; types = types_told_lem.beside b (polled b) refl h.types };
      written = λ b d reg value c there is s h.
          (written-all Holds b d reg value (λ registers e so. holds-registers b d reg value registers e so (whole_of b s h)) (λ x n id q. holds-pushed x n id q)
          (λ x m on q. holds-pulsed x m q) c is).told;
      rings =
          record {
            added = λ b id kind size free s h.
                record {
                  order =
                      order_kept_lem.ring_added b (new_ring id size)
                      (free_id (bytes_eq kind (codes "ringbuf")) (is_id id) (has_ring b id) (is_ring_size size) free)
                      h.order;
                  types = ringed-types b (b.rings ++ new_ring id size ∷ []) h.types;
                };
            removed = λ b id free s h. record { order = order_kept_lem.ring_removed b id h.order; types = ringed-types b (without_ring id b.rings) h.types };
            read = λ b id most s h.
                record {
                  order = order_kept_lem.ring_filled b _ (ids-changed (λ (m : RingBytes). ring_drop m most) id b.rings) h.order;
                  types = ringed-types b (ring_changed (λ (m : RingBytes). ring_drop m most) id b.rings) h.types;
                };
            written = λ b id bytes s h.
                record {
                  order = order_kept_lem.ring_filled b _ (ids-changed (λ (m : RingBytes). ring_add m bytes) id b.rings) h.order;
                  types = ringed-types b (ring_changed (λ (m : RingBytes). ring_add m bytes) id b.rings) h.types;
                };
          };
      timed = λ b now on low s h.
          record { order = order_kept_lem.beside b (at_time now b) refl refl h.order; types = types_told_lem.beside b (at_time now b) refl h.types };
      switched = λ b on s h.
          record { order = order_kept_lem.beside b (with_running on b) refl refl h.order; types = types_told_lem.beside b (with_running on b) refl h.types };
      held_so = λ b n kind is home deep s h.
          record {
            order = order_kept_lem.changes.held_so b n kind tt tt s.run.devices h.order;
            types = types_told_lem.held_so b n kind s.shape h.types;
          };
      released_so = λ b n is held s h.
          record {
            order = order_kept_lem.changes.released_so b n tt tt s.run.devices h.order;
            types = types_told_lem.released_so b n s.shape h.types;
          };
      reset = λ b s h. record { order = order_kept_lem.changes.reset b tt s.run.devices h.order; types = types_told_lem.reset b s.run.devices s.shape h.types };
      wakes = λ b s h.
          record {
            order = order_kept_lem.changes.pulsed b MACHINE_BIRTH Wakeup tt tt s.run.devices h.order;
            types = types_told_lem.pulsed b MACHINE_BIRTH Wakeup s.shape h.types;
          };
    }
  where
    whole_of : (b : Board) → SoundBoard b → IsTold b → Holds b
    whole_of b s h = record { devices = s.run.devices; shape = s.shape; told = h }

-- events are no matter to it
freed : (b c : Board) → Keeps b c → Keeps b (without_events c)
freed b c keeps s h =
    let k : IsTold c = keeps s h in
    record { order = order_kept_lem.beside c (without_events c) refl refl k.order; types = types_told_lem.beside c (without_events c) refl k.types }

commands : ChangesCommands Keeps
commands = changes_commands Keeps (λ b s h. h) changes freed

-- a sound board that is in order, whose objects tell their types
record IsAll (b : Board) : Type 0 where
  board : SoundBoard b
  told : IsTold b

all_commands : KeepsCommands IsAll
all_commands =
    record {
      command = λ b r h. record { board = board_commands.command b r h.board; told = commands.command b r h.board h.told };
      attempt = λ b r i joined h. record { board = board_commands.attempt b r i joined h.board; told = commands.attempt b r i joined h.board h.told };
      advance = λ b ns h. record { board = board_commands.advance b ns h.board; told = commands.advance b ns h.board h.told };
    }

opening_all : IsAll opening.board
opening_all = record { board = opening-good; told = record { order = order_kept_lem.opening; types = types_told_lem.opening } }

all_runs : (turns : List Turn) → IsAll (state_after opening turns).board
all_runs turns = run_keeps IsAll all_commands opening turns opening_all

-- such a board is whole
whole : (b : Board) → IsAll b → IsWhole b
whole b h =
    let s : SoundBoard b = h.board in
    record {
      order = record { devices = s.run.devices; shape = s.shape; owners = s.owners; order = h.told.order };
      backends = s.backends;
      clocks = s.run.clocks;
      numbers = s.run.numbers;
      sources = s.sources;
      bounds = s.bounds;
    }

-- a description that is read back is rebuilt as it is
reread : (b : Board) (d : Description) → IsAll b → SoundValues b → described b ≡ Some d → rebuilt_from (description_text d) ≡ Some (rebuilt d)
reread b d h values says = ap (option_map rebuilt) (reread_lem b d (whole b h).order values h.board.backends.rings says)

pub described_in_runs : DescribedInRuns
described_in_runs =
    record {
      whole = λ turns. whole (state_after opening turns).board (all_runs turns);
      types = λ turns. (all_runs turns).told.types;
      again = λ turns d says.
          rebuilt_lem.again (state_after opening turns).board d (whole (state_after opening turns).board (all_runs turns)) (all_runs turns).told.types says;
      text = λ turns d values says. reread (state_after opening turns).board d (all_runs turns) values says;
    }
