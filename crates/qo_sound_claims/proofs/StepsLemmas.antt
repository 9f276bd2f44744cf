-- Acts, holds, clocks that are written, registers that a guest writes, devices that go, and the reset of the whole board keep the backends sound.
use Rattle.std.proofs.Common.{◌≡◌, inl, refl, ap, sym, subst, ◌∙◌, ℕ, zero, suc, Bool, true, false, eqb, List, [], ◌∷◌, filter, length, codes, Option, Some, None, is_some, Ok, Err, rules, slice_get}
use Rattle.qo_model.proofs.Common.{AllByRecursion, Effect, body_write, Registers, MACHINE_BIRTH, E45, E46, Act, Hold, Exit, Board, Record, record_of, slots_at, set, clock_scaled, clock_set, acted, source_of, Change, changed, all_completed, asked, asked_of, completed, device_at, reset_whole, index_from, attached, notice_barred, range_in, without_first, is_not_in_reset, phased, post, pulse, released, is_a, detach, is_named, set_named}
use Rattle.std.proofs.lemmas.Option.{same_Some}
use Rattle.qo_values.specs.declared.properties.Val.TheVariants as val
use Rattle.qo_values.proofs.EachLemmas.{each_write}
use Rattle.qo_model.specs.Reset.{after_hold}
use Rattle.qo_model.specs.Board.{Removal}
use Rattle.qo_model.specs.Hotplug.{is_early}
use Rattle.qo_model.proofs.ChangeScopeLemmas.{stays_lem}
use Rattle.qo_sound.proofs.DeviceScopeLemmas.{devices_stay_lem}
use Rattle.qo_sound_devices.specs.SoundDevices.{SoundDevices}
use Rattle.qo_sound_devices.specs.SoundLists.{IsOn}
use Rattle.qo_sound_devices.specs.SoundPlaces.{stands}
use Rattle.qo_sound_devices.proofs.DevicesLawLemmas.{devices_kept_lem}
use Rattle.qo_sound_clocks.specs.RegisterWrites.{registers_set, with_registers}
use Rattle.qo_sound_clocks.proofs.WriteLawLemmas.{writes_keep_lem}
use Rattle.qo_sound_clocks.proofs.RegisterLemmas.{registers_kept_lem}
use Rattle.qo_sound_clocks.proofs.StepsLemmas.{kept-written, calls-kept}
use Rattle.qo_sound_claims.specs.SoundBackends.{SoundBackends}
use Rattle.qo_sound_claims.specs.SoundRings.{AreGoodRings}
use Rattle.qo_sound_claims.proofs.DependenceLemmas.{claims-beside}
use Rattle.qo_sound_claims.proofs.CommandLemmas.{changed-fewer}
use Rattle.qo_sound_claims.proofs.DetachmentLemmas.{detach-fewer}
use Rattle.qo_sound_claims.proofs.DecreaseLemmas.{Fewer, fewer-acted, fewer-edit, fewer-loose, fewer-none, fewer-phased, fewer-set}
use Rattle.qo_sound_claims.proofs.ClaimLemmas.{claims-fewer}
use Rattle.qo_sound_claims.proofs.SlotLemmas.{less-none, OtherName}
use Rattle.qo_values.specs.declared.kinds.ResetKind.{ResetKind}
use Rattle.qo_values.specs.declared.kinds.ResetKind.TheVariants.{Cold}
use Rattle.qo_values.specs.Kinds.{entering}

-- neither objects nor rings change
pub backends-beside : (b c : Board) → c.records ≡ b.records → c.rings ≡ b.rings → SoundBackends b → SoundBackends c
backends-beside b c objects same h =
    record { rings = subst AreGoodRings (sym same) h.rings; claims = claims-beside b c objects same h.claims }

-- objects claim no more, and the rings stay
pub backends-fewer : (b c : Board) → SoundDevices b → SoundDevices c → c.rings ≡ b.rings → Fewer false b c → SoundBackends b → SoundBackends c
backends-fewer b c before after same fewer h =
    record {
      rings = subst AreGoodRings (sym same) h.rings;
      claims = claims-fewer b c before.tree after.tree same h.claims fewer;
    }

-- removals that are asked for

asked_of-backends : (b : Board) (d : ℕ) → SoundBackends b → SoundBackends (asked_of b d).board
asked_of-backends b d h = go (attached b d) refl (is_early b d) refl (is_some (notice_barred b)) refl
  where
    go : (u : Bool) → attached b d ≡ u → (v : Bool) → is_early b d ≡ v → (w : Bool) → is_some (notice_barred b) ≡ w → SoundBackends (asked_of b d).board
    go false p v q w r = rw (asked_of, p) h
    go true p true q w r = rw (asked_of, p, q) h
    go true p false q true r = rw (asked_of, p, q, r) h
    go true p false q false r = rw (asked_of, p, q, r) (backends-beside b _ refl refl h)

pub asked-backends : (b : Board) (id : List ℕ) → SoundBackends b → SoundBackends (asked b id).board
asked-backends b id h = go (device_at b id) refl
  where
    go : (o : Option ℕ) → device_at b id ≡ o → SoundBackends (asked b id).board
    go None p = rw (asked, p) h
    go (Some d) p = rw (asked, p) (asked_of-backends b d h)

-- acts and holds

acted-rings : (act : Act) (n period : ℕ) (c : Board) → (acted act n period c).rings ≡ c.rings
unfolding acted
acted-rings act n period c = refl

pub acted-backends : (act : Act) (n period : ℕ) (b : Board) → SoundDevices b → SoundBackends b → SoundBackends (acted act n period b)
acted-backends act n period b d h =
    backends-fewer b (acted act n period b) d (devices_kept_lem.acts act n period b d) (acted-rings act n period b)
    (fewer-acted false b act n period b (fewer-none false b)) h

module _ (b : Board) where
  pub fewer-held : (c : Board) (n : ℕ) (kind : ResetKind) → Fewer false b c → Fewer false b (after_hold c n kind)
  unfolding after_hold
  fewer-held c n kind h =
      fewer-phased false b Hold (filter (is_not_in_reset c) (post c n)) (phased (entering kind) (filter (is_not_in_reset c) (post c n)) c)
      (fewer-phased false b (entering kind) (filter (is_not_in_reset c) (post c n)) c h)

  pub fewer-released : (c : Board) (n : ℕ) → Fewer false b c → Fewer false b (released c n)
  unfolding released
  fewer-released c n h =
      let x : Board = record c { holds = without_first n c.holds } in
      fewer-phased false b Exit (filter (is_not_in_reset x) (post x n)) x h

  pub fewer-pulse : (c : Board) (n : ℕ) (kind : ResetKind) → Fewer false b c → Fewer false b (pulse c n kind)
  unfolding pulse
  fewer-pulse c n kind h = fewer-released (after_hold c n kind) n (fewer-held c n kind h)

pub held-backends : (b : Board) (n : ℕ) (kind : ResetKind) → SoundDevices b → SoundBackends b → SoundBackends (after_hold b n kind)
held-backends b n kind d h =
    backends-fewer b (after_hold b n kind) d (devices_kept_lem.held_so b n kind d) (devices_stay_lem.held_so b n kind).rings
    (fewer-held b b n kind (fewer-none false b)) h

pub released-backends : (b : Board) (n : ℕ) → SoundDevices b → SoundBackends b → SoundBackends (released b n)
released-backends b n d h =
    backends-fewer b (released b n) d (devices_kept_lem.released_so b n d) (devices_stay_lem.released_so b n).rings
    (fewer-released b b n (fewer-none false b)) h

pub pulse-backends : (b : Board) (n : ℕ) (kind : ResetKind) → SoundDevices b → SoundBackends b → SoundBackends (pulse b n kind)
pulse-backends b n kind d h =
    backends-fewer b (pulse b n kind) d (devices_kept_lem.pulsed b n kind d) (devices_stay_lem.pulsed b n kind).rings
    (fewer-pulse b b n kind (fewer-none false b)) h

-- clocks that are written

pub record Goes (b c : Board) : Type 0 where
  pub fewer : Fewer false b c
  pub rings : c.rings ≡ b.rings

goes-acted : (b : Board) (act : Act) (n period : ℕ) (c : Board) → Goes b c → Goes b (acted act n period c)
goes-acted b act n period c h =
    record { fewer = fewer-acted false b act n period c h.fewer; rings = acted-rings act n period c ∙ h.rings }

goes-set : (b : Board) (n : ℕ) (name : List ℕ) (v : ℕ) → OtherName name → (c : Board) → Goes b c → Goes b (set_named n name (val.Uint v) c)
unfolding set
goes-set b n name v other c h =
    record { fewer = fewer-set false b n name (val.Uint v) other (inl refl) c h.fewer; rings = go (index_from (is_named name) 0 (slots_at c n)) refl }
  where
    go : (o : Option ℕ) → index_from (is_named name) 0 (slots_at c n) ≡ o → (set_named n name (val.Uint v) c).rings ≡ b.rings
    go None e = rw (set_named, e) h.rings
    go (Some i) e = rw (set_named, e) h.rings

goes-none : (b : Board) → Goes b b
goes-none b = record { fewer = fewer-none false b; rings = refl }

pub set-goes : (b d : Board) (c period : ℕ) → clock_set b c period ≡ Ok d → Goes b d
set-goes b d c period e = go (is_some (source_of b c)) refl
  where
    go : (t : Bool) → is_some (source_of b c) ≡ t → Goes b d
    go true p = absurd (let clash : Err E45 ≡ Ok d = rw (clock_set, p) at e in cc)
    go false p =
        kept-written (Goes b) (calls-kept (Goes b) (goes-acted b)) b (set_named c (codes "period") (val.Uint period) b) d c
        (goes-set b c (codes "period") period (record { chardev = refl; addr = refl; size = refl; slot = refl }) b (goes-none b)) (rw (clock_set, p) at e)

pub scaled-goes : (b d : Board) (c mul div : ℕ) → clock_scaled b c mul div ≡ Ok d → Goes b d
scaled-goes b d c mul div e = go (eqb div 0) refl
  where
    mid : Board
    mid = set_named c (codes "mul") (val.Uint mul) b

    go : (t : Bool) → eqb div 0 ≡ t → Goes b d
    go true p = absurd (let clash : Err E46 ≡ Ok d = rw (clock_scaled, p) at e in cc)
    go false p =
        kept-written (Goes b) (calls-kept (Goes b) (goes-acted b)) b (set_named c (codes "div") (val.Uint div) mid) d c
        (goes-set b c (codes "div") div (record { chardev = refl; addr = refl; size = refl; slot = refl }) mid
        (goes-set b c (codes "mul") mul (record { chardev = refl; addr = refl; size = refl; slot = refl }) b (goes-none b)))
        (rw (clock_scaled, p) at e)

pub set-backends : (b d : Board) (c period : ℕ) → clock_set b c period ≡ Ok d → SoundDevices b → SoundBackends b → SoundBackends d
set-backends b d c period e devices h =
    let k : Goes b d = set-goes b d c period e in
    backends-fewer b d devices (writes_keep_lem.set_devices b d c period e devices) k.rings k.fewer h

pub scaled-backends : (b d : Board) (c mul div : ℕ) → clock_scaled b c mul div ≡ Ok d → SoundDevices b → SoundBackends b → SoundBackends d
scaled-backends b d c mul div e devices h =
    let k : Goes b d = scaled-goes b d c mul div e in
    backends-fewer b d devices (writes_keep_lem.scaled_devices b d c mul div e devices) k.rings k.fewer h

-- registers that a guest writes

write-range : (r s : Registers) (effect : Effect) (reg value : ℕ) (ring : Bool) (now period : ℕ) → body_write r reg value ring now period ≡ Some (s, effect)
    → range_in s ≡ range_in r
write-range r s effect reg value ring now period =
    each_write (λ (x y : Registers). range_in y ≡ range_in x) reg value ring now period (search rules) r s effect

pub wrote-fewer : (b : Board) (n : ℕ) (r : Record) (s : Registers) (effect : Effect) (reg value : ℕ) (ring : Bool) (now period : ℕ) → record_of b n ≡ Some r
    → body_write r.registers reg value ring now period ≡ Some (s, effect) → Fewer false b (registers_set b n s)
wrote-fewer b n r s effect reg value ring now period there e =
    fewer-edit false b n (with_registers s) (λ x. refl) b
    (λ x q.
    record {
      kind = refl;
      range =
          write-range r.registers s effect reg value ring now period e
          ∙ ap (λ (y : Record). range_in y.registers) (same_Some r x (sym there ∙ q));
      slots = less-none (is_a x.kind (codes "mem-dimm")) false x.slots;
    }) (fewer-none false b)

pub wrote-backends : (b : Board) (n : ℕ) (r : Record) (s : Registers) (effect : Effect) (reg value : ℕ) (ring : Bool) (now period : ℕ) → record_of b n ≡ Some r
    → body_write r.registers reg value ring now period ≡ Some (s, effect) → SoundDevices b → SoundBackends b → SoundBackends (registers_set b n s)
wrote-backends b n r s effect reg value ring now period there e d h =
    backends-fewer b (registers_set b n s) d (registers_kept_lem.devices b n s d) refl
    (wrote-fewer b n r s effect reg value ring now period there e) h

-- commands on objects

pub changed-backends : (b : Board) (change : Change) → SoundDevices b → SoundBackends b → SoundBackends (changed b change)
changed-backends b change d h =
    backends-fewer b (changed b change) d (devices_kept_lem.change b change d) (stays_lem.change b change).rings (changed-fewer b d change) h

-- devices that go, and the reset of the whole board

pub detach-backends : (b : Board) (d : ℕ) → SoundDevices b → stands b d ≡ true → SoundBackends b → SoundBackends (detach b d)
detach-backends b d devices e h =
    backends-fewer b (detach b d) devices (devices_kept_lem.detached b d devices e) (devices_stay_lem.detached b d).rings
    (fewer-loose b (detach b d) (detach-fewer b devices.tree devices.places.0 devices.places.1 h.claims d e)) h

record Both (b : Board) : Type 0 where
  devices : SoundDevices b
  backends : SoundBackends b

pub first-on : (b : Board) → SoundDevices b → (d : Removal) → slice_get b.pending 0 ≡ Some d → stands b d.birth ≡ true
first-on b h d e = go b.pending h.lists.pending e
  where
    go : (rs : List Removal) → AllByRecursion (λ (r : Removal). IsOn b r.birth) rs → slice_get rs 0 ≡ Some d → stands b d.birth ≡ true
    go [] on k = cc
    go (r ∷ rs) on k = subst (λ (m : Removal). stands b m.birth ≡ true) (same_Some r d k) on.0.0

completed-both : (times : ℕ) (b : Board) → Both b → Both (all_completed times b)
completed-both zero b h = h
completed-both (suc times) b h = go (slice_get b.pending 0) refl (completed-both times)
  where
    go : (o : Option Removal) → slice_get b.pending 0 ≡ o → ((c : Board) → Both c → Both (all_completed times c)) → Both (all_completed (suc times) b)
    go None p rest = rw (all_completed, p) h
    go (Some d) p rest =
        let on : stands b d.birth ≡ true = first-on b h.devices d p in
        rw (all_completed, p)
        (rest (completed b d.birth)
        (record { devices = devices_kept_lem.detached b d.birth h.devices on; backends = detach-backends b d.birth h.devices on h.backends }))

pub reset-backends : (b : Board) → SoundDevices b → SoundBackends b → SoundBackends (reset_whole b)
unfolding reset_whole
reset-backends b d h =
    let k : Both (all_completed (length b.pending) b) = completed-both (length b.pending) b (record { devices = d; backends = h }) in
    pulse-backends (all_completed (length b.pending) b) MACHINE_BIRTH Cold k.devices k.backends
