-- What is done to the rings of a board by commands, and by bytes that come, keeps them sound, with what devices claim.
use Rattle.std.proofs.Common.{◌≡◌, refl, ap, ap₂, subst, ◌≤◌, ◌-◌, ℕ, Bool, true, false, not, if◌then◌else◌, List, [], ◌∷◌, ◌++◌, length, map, Option, None, Some, is_some, codes, arith}
use Rattle.std.specs.List.{AllByRecursion, list_any}
use Rattle.std.specs.Option.{option_map_or}
use Rattle.std.specs.Str.{bytes_eq}
use Rattle.std.proofs.lemmas.List.{length-drop}
use Rattle.qo_values.specs.Registers.{Effect, body_write, Registers, bare}
use Rattle.qo_values.specs.Ids.{is_id}
use Rattle.qo_values.specs.Rings.{RingBytes, is_ring_size, ring_add, ring_drop}
use Rattle.qo_values.specs.declared.codes.Code.TheVariants.{E20, E23, E24, E36, E37, E51}
use Rattle.qo_buses.specs.Rings.{claimed_ring}
use Rattle.qo_model.specs.Board.{Board, Record, Ring, record_of}
use Rattle.qo_model.specs.Clocks.{device_period}
use Rattle.qo_model.specs.Plug.{claims_ring, has_ring}
use Rattle.qo_realize.specs.Chardevs.{chardev_barred, removal_barred, with_rings}
use Rattle.qo_realize.specs.Registers.{registers_written}
use Rattle.qo_chardev.specs.Rings.{bytes_in, is_ring, new_ring, ring_changed, with_bytes, without_ring}
use Rattle.qo_sound_claims.specs.ClaimsKept.{ring_frame}
use Rattle.qo_sound_claims.specs.SoundBackends.{SoundBackends}
use Rattle.qo_sound_claims.specs.SoundRings.{IsGoodRing}
use Rattle.qo_sound_claims.proofs.LawLemmas.{claims_kept_lem}
use Rattle.qo_sound_clocks.specs.RegisterWrites.{registers_set}
use Rattle.qo_sound_devices.specs.SoundDevices.{SoundDevices}

-- a change of the bytes of one that leaves its size
frames : (f : RingBytes → RingBytes) → ((m : RingBytes) → (f m).size ≡ m.size) → (id : List ℕ) (rings : List Ring)
    → map ring_frame (ring_changed f id rings) ≡ map ring_frame rings
frames f same id [] = refl
frames f same id (r ∷ rs) = ap₂ (λ (x : List ℕ × ℕ) (xs : List (List ℕ × ℕ)). x ∷ xs) (by (is_ring id r)) (frames f same id rs)
  where
    by : (t : Bool) → ring_frame (if t then with_bytes f r else r) ≡ ring_frame r
    by true = ap (λ (n : ℕ). (r.id, n)) (same (bytes_in r))
    by false = refl

-- and that leaves no more bytes than it takes
abbrev HasRoom : Ring → Type 0
HasRoom r = length r.bytes ≤ r.size

rooms : (f : RingBytes → RingBytes) → ((m : RingBytes) → length m.bytes ≤ m.size → length (f m).bytes ≤ (f m).size) → (id : List ℕ) (rings : List Ring)
    → AllByRecursion IsGoodRing rings → AllByRecursion HasRoom (ring_changed f id rings)
rooms f keeps id [] h = tt
rooms f keeps id (r ∷ rs) h = (by (is_ring id r), rooms f keeps id rs h.1)
  where
    by : (t : Bool) → HasRoom (if t then with_bytes f r else r)
    by true = keeps (bytes_in r) h.0.room
    by false = h.0.room

filled : (f : RingBytes → RingBytes) → ((m : RingBytes) → (f m).size ≡ m.size) → ((m : RingBytes) → length m.bytes ≤ m.size → length (f m).bytes ≤ (f m).size)
    → (b : Board) (id : List ℕ) → SoundBackends b → SoundBackends (with_rings (ring_changed f id b.rings) b)
filled f same keeps b id h =
    claims_kept_lem.ring_filled b (ring_changed f id b.rings) (frames f same id b.rings) (rooms f keeps id b.rings h.rings.each) h

pub read_backends : (b : Board) (id : List ℕ) (most : ℕ) → SoundBackends b → SoundBackends (with_rings (ring_changed (λ m. ring_drop m most) id b.rings) b)
read_backends b id most h =
    filled (λ (m : RingBytes). ring_drop m most) (λ m. refl) (λ m room. let e = length-drop most m.bytes in omega (arith, e, room)) b id h

pub gained_backends : (b : Board) (id bytes : List ℕ) → SoundBackends b → SoundBackends (with_rings (ring_changed (λ m. ring_add m bytes) id b.rings) b)
gained_backends b id bytes h =
    filled (λ (m : RingBytes). ring_add m bytes) (λ m. refl)
    (λ m room. let e = length-drop (length (m.bytes ++ bytes) - m.size) (m.bytes ++ bytes) in omega (arith, e)) b id h

-- what bars a ring from being added, and one from being removed
free_for : (kind id taken fits : Bool)
    → (if not kind then Some E20 else if not id then Some E23 else if taken then Some E24 else if not fits then Some E51 else None) ≡ None
    → (taken ≡ false) × (fits ≡ true)
free_for true true false true e = (refl, refl)
free_for true true false false e = absurd (let clash : Some E51 ≡ None = e in cc)
free_for true true true fits e = absurd (let clash : Some E24 ≡ None = e in cc)
free_for true false taken fits e = absurd (let clash : Some E23 ≡ None = e in cc)
free_for false id taken fits e = absurd (let clash : Some E20 ≡ None = e in cc)

pub added_backends : (b : Board) (id kind : List ℕ) (size : ℕ) → chardev_barred b id kind size ≡ None → SoundBackends b
    → SoundBackends (with_rings (b.rings ++ new_ring id size ∷ []) b)
added_backends b id kind size free h =
    let open_ = free_for (bytes_eq kind (codes "ringbuf")) (is_id id) (has_ring b id) (is_ring_size size) free in
    claims_kept_lem.ring_added b (new_ring id size) open_.0 (record { size = open_.1; room = omega arith }) h

unclaimed : (there claimed : Bool) → (if not there then Some E36 else if claimed then Some E37 else None) ≡ None → claimed ≡ false
unclaimed true false e = refl
unclaimed true true e = absurd (let clash : Some E37 ≡ None = e in cc)
unclaimed false claimed e = absurd (let clash : Some E36 ≡ None = e in cc)

pub removed_backends : (b : Board) (id : List ℕ) → removal_barred b id ≡ None → SoundBackends b → SoundBackends (with_rings (without_ring id b.rings) b)
removed_backends b id free h = claims_kept_lem.ring_removed b id (unclaimed (has_ring b id) (list_any (claims_ring b id) b.records) free) h

-- a register of a device that is written; an object that is not there has none
pub registers_backends : (b : Board) (d reg value : ℕ) (registers : Registers) (e : Effect) → registers_written b d reg value ≡ Some (registers, e)
    → SoundDevices b → SoundBackends b → SoundBackends (registers_set b d registers)
registers_backends b d reg value registers e is devices h = by (record_of b d) refl
  where
    written : Option Record → Option (Registers × Effect)
    written o = body_write (option_map_or (λ (r : Record). r.registers) o bare) reg value (is_some (claimed_ring b d)) b.now (device_period b d)

    by : (o : Option Record) → record_of b d ≡ o → SoundBackends (registers_set b d registers)
    by None p = absurd (let clash : None ≡ Some (registers, e) = subst (λ (o : Option Record). written o ≡ Some (registers, e)) p is in cc)
    by (Some r) p =
        claims_kept_lem.wrote b d r registers e reg value (is_some (claimed_ring b d)) b.now (device_period b d) p
        (subst (λ (o : Option Record). written o ≡ Some (registers, e)) p is) devices h
