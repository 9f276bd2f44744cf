-- The law: what changes leave of the claims of devices.
use Rattle.std.proofs.Common.{◌≡◌, refl, ap, sym, subst, ◌∙◌, ℕ, ◌+◌, zero, suc, Bool, true, false, List, [], ◌∷◌, ◌++◌, filter, length, codes, Option, Some, None, is_some, option_map, Ok, slice_get}
use Rattle.qo_model.proofs.Common.{option_map_or, Effect, body_write, Registers, MACHINE_BIRTH, Code, Act, Hold, Exit, TypeId, Board, Record, record_of, clock_scaled, clock_set, acted, is_realized, Change, changed, all_completed, asked, asked_of, completed, device_at, reset_whole, attached, Wanted, barred_early, barred_late, bus_for, notice_barred, plug, plug_as, plug_by, plug_late, resources_of, type_barred, with_plugged, without_first, is_not_in_reset, phased, post, pulse, released, TypeInfo, is_a, type_named, detach, set_named}
use Rattle.std.proofs.lemmas.Option.{same_Some}
use Rattle.qo_values.specs.declared.properties.Val.TheVariants as val
use Rattle.qo_model.specs.Reset.{after_hold}
use Rattle.qo_values.specs.declared.kinds.ResetKind.{ResetKind}
use Rattle.qo_values.specs.declared.kinds.ResetKind.TheVariants.{Cold}
use Rattle.qo_values.specs.Kinds.{entering}
use Rattle.qo_model.specs.Board.{Removal}
use Rattle.qo_model.specs.Hotplug.{is_early}
use Rattle.qo_model.proofs.FirstSlotLemmas.{slots_in}
use Rattle.qo_model.proofs.StepLemmas.{found-edited, slots-edited}
use Rattle.qo_sound.specs.PlugOutcomes.{Added, IsAttempted}
use Rattle.qo_sound.proofs.PlugLemmas.{device-of, place-of}
use Rattle.qo_sound.proofs.PlugOutcomesLemmas.{plug_comes_to_lem}
use Rattle.qo_sound.proofs.ViewLemmas.{rest-from_sound}
use Rattle.qo_sound_devices.specs.SoundDevices.{SoundDevices}
use Rattle.qo_sound_devices.specs.SoundPlaces.{IsHome, stands}
use Rattle.qo_sound_devices.proofs.DevicesLawLemmas.{devices_kept_lem}
use Rattle.qo_sound_devices.proofs.LawLemmas.{changed-keeps}
use Rattle.qo_sound_devices.proofs.LikenessLemmas.{alike-record, realized_in}
use Rattle.qo_sound_devices.proofs.PlugLemmas.{Accepted}
use Rattle.qo_sound_devices.proofs.UnrealizingLemmas.{Dims, dims-acted, dims-alike, dims-none, dims-set, dims-then}
use Rattle.qo_sound_clocks.specs.RegisterWrites.{registers_set, with_registers}
use Rattle.qo_sound_clocks.proofs.RegisterLemmas.{registers_kept_lem}
use Rattle.qo_sound_clocks.proofs.StepsLemmas.{calls-kept, kept-scaled, kept-set, KeepsNumbers}
use Rattle.qo_sound_clocks.proofs.WriteLawLemmas.{writes_keep_lem}
use Rattle.qo_sound_claims.specs.ClaimsStay.{ClaimsAdded, ClaimsAlike, ClaimsGiven, ClaimsKeep, ClaimsStay, ClaimsStayLaw}
use Rattle.qo_sound_claims.specs.SoundBackends.{SoundBackends}
use Rattle.qo_sound_claims.proofs.CommandLemmas.{changed-fewer}
use Rattle.qo_sound_claims.proofs.DecreaseLemmas.{Fewer, fewer-acted, fewer-loose, fewer-none}
use Rattle.qo_sound_claims.proofs.DetachmentLemmas.{detach-fewer}
use Rattle.qo_sound_claims.proofs.PlugLemmas.{added-given, added-same, added-stay}
use Rattle.qo_sound_claims.proofs.StayLemmas.{stay-at}
use Rattle.qo_sound_claims.proofs.StepsLemmas.{detach-backends, fewer-held, fewer-pulse, fewer-released, first-on, scaled-goes, set-goes, wrote-fewer}

-- neither board nor claims change

pub stay-same : (b : Board) → ClaimsStay b b
stay-same b n e = record { realized = e; kind = refl; bus = refl; slot = refl; ring = refl; backend = λ is. refl; range = refl }

stay-then : (b c d : Board) → ClaimsStay b c → ClaimsStay c d → ClaimsStay b d
stay-then b c d h k n e =
    let two : ClaimsAlike c d n = k n e in
    let one : ClaimsAlike b c n = h n two.realized in
    record {
      realized = one.realized;
      kind = two.kind ∙ one.kind;
      bus = two.bus ∙ one.bus;
      slot = two.slot ∙ one.slot;
      ring = two.ring ∙ one.ring;
      backend = λ is.
          two.backend (ap (λ (o : Option TypeId). option_map_or (λ (t : TypeId). is_a t (codes "mem-dimm")) o false) one.kind ∙ is) ∙ one.backend is;
      range = two.range ∙ one.range;
    }

keep-beside : (b c : Board) → c.records ≡ b.records → ClaimsKeep b c
keep-beside b c same =
    subst (λ (rs : List Record). ClaimsKeep b (record c { records = rs })) (sym same)
    (record {
      stay = λ n e. record { realized = e; kind = refl; bus = refl; slot = refl; ring = refl; backend = λ is. refl; range = refl };
      same = λ n. refl;
    })

-- objects claim no more
stay-fewer : (b c : Board) → SoundDevices b → SoundDevices c → Fewer false b c → ClaimsStay b c
stay-fewer b c before after fewer n e =
    let home : IsHome c n = after.places.1.home n (after.places.1.only n e) (λ z. cc) in
    stay-at b c before.tree after.tree n (fewer n) e home.bus home.on

-- and what places speak of is the same
keep-dims : (b c : Board) → SoundDevices b → SoundDevices c → Fewer false b c → Dims b c → ClaimsKeep b c
keep-dims b c before after fewer dims = record { stay = stay-fewer b c before after fewer; same = dims.same }

-- removals that are asked for

asked-records : (b : Board) (id : List ℕ) → (asked b id).board.records ≡ b.records
asked-records b id = go (device_at b id) refl
  where
    of : (d : ℕ) → (asked_of b d).board.records ≡ b.records
    of d = by (attached b d) refl (is_early b d) refl (is_some (notice_barred b)) refl
      where
        by : (u : Bool) → attached b d ≡ u → (v : Bool) → is_early b d ≡ v → (w : Bool) → is_some (notice_barred b) ≡ w
            → (asked_of b d).board.records ≡ b.records
        by false p v q w r = rw (asked_of, p) refl
        by true p true q w r = rw (asked_of, p, q) refl
        by true p false q true r = rw (asked_of, p, q, r) refl
        by true p false q false r = rw (asked_of, p, q, r) refl

    go : (o : Option ℕ) → device_at b id ≡ o → (asked b id).board.records ≡ b.records
    go None p = rw (asked, p) refl
    go (Some d) p = rw (asked, p) (of d)

-- holds

dims-phased : (act : Act) (ns : List ℕ) (b c : Board) → Dims b c → Dims b (phased act ns c)
dims-phased act [] b c h = h
dims-phased act (n ∷ ns) b c h = dims-phased act ns b (acted act n 0 c) (dims-then b c (acted act n 0 c) h (dims-acted act n 0 c))

dims-holds : (b c : Board) (holds : List ℕ) → Dims b c → Dims b (record c { holds = holds })
dims-holds b c holds h =
    dims-then b c (record c { holds = holds }) h
    (dims-alike c (record c { holds = holds }) refl (λ x. alike-record c (record c { holds = holds }) x refl))

dims-held : (b c : Board) (n : ℕ) (kind : ResetKind) → Dims b c → Dims b (after_hold c n kind)
unfolding after_hold
dims-held b c n kind h =
    dims-holds b _ (c.holds ++ n ∷ [])
    (dims-phased Hold (filter (is_not_in_reset c) (post c n)) b _ (dims-phased (entering kind) (filter (is_not_in_reset c) (post c n)) b c h))

dims-released : (b c : Board) (n : ℕ) → Dims b c → Dims b (released c n)
unfolding released
dims-released b c n h =
    let x : Board = record c { holds = without_first n c.holds } in
    dims-phased Exit (filter (is_not_in_reset x) (post x n)) b x (dims-holds b c (without_first n c.holds) h)

dims-pulse : (b c : Board) (n : ℕ) (kind : ResetKind) → Dims b c → Dims b (pulse c n kind)
unfolding pulse
dims-pulse b c n kind h = dims-released b (after_hold c n kind) n (dims-held b c n kind h)

keep-acted : (act : Act) (n period : ℕ) (b : Board) → SoundDevices b → ClaimsKeep b (acted act n period b)
keep-acted act n period b h =
    keep-dims b (acted act n period b) h (devices_kept_lem.acts act n period b h) (fewer-acted false b act n period b (fewer-none false b))
    (dims-acted act n period b)

keep-held : (b : Board) (n : ℕ) (kind : ResetKind) → SoundDevices b → ClaimsKeep b (after_hold b n kind)
keep-held b n kind h =
    keep-dims b (after_hold b n kind) h (devices_kept_lem.held_so b n kind h) (fewer-held b b n kind (fewer-none false b)) (dims-held b b n kind (dims-none b))

keep-released : (b : Board) (n : ℕ) → SoundDevices b → ClaimsKeep b (released b n)
keep-released b n h =
    keep-dims b (released b n) h (devices_kept_lem.released_so b n h) (fewer-released b b n (fewer-none false b)) (dims-released b b n (dims-none b))

keep-pulsed : (b : Board) (n : ℕ) (kind : ResetKind) → SoundDevices b → ClaimsKeep b (pulse b n kind)
keep-pulsed b n kind h =
    keep-dims b (pulse b n kind) h (devices_kept_lem.pulsed b n kind h) (fewer-pulse b b n kind (fewer-none false b)) (dims-pulse b b n kind (dims-none b))

-- registers that a guest writes

keep-wrote : (b : Board) (n : ℕ) (r : Record) (s : Registers) (effect : Effect) (reg value : ℕ) (ring : Bool) (now period : ℕ) → record_of b n ≡ Some r
    → body_write r.registers reg value ring now period ≡ Some (s, effect) → SoundDevices b → ClaimsKeep b (registers_set b n s)
keep-wrote b n r s effect reg value ring now period there e h =
    record {
      stay = stay-fewer b (registers_set b n s) h (registers_kept_lem.devices b n s h) (wrote-fewer b n r s effect reg value ring now period there e);
      same = λ x.
          ap realized_in
          (ap slots_in (found-edited n (with_registers s) (λ y. refl) x b.records) ∙ slots-edited n (with_registers s) (λ y. refl) (record_of b x));
    }

-- writes of clocks

module _ (b : Board) where
  dims-numbers : KeepsNumbers (Dims b)
  dims-numbers name no_slot no_mark n v c h = dims-then b c (set_named n name (val.Uint v) c) h (dims-set n name (val.Uint v) no_slot no_mark c)

  dims-acts : (act : Act) (n period : ℕ) (c : Board) → Dims b c → Dims b (acted act n period c)
  dims-acts act n period c h = dims-then b c (acted act n period c) h (dims-acted act n period c)

keep-set : (b d : Board) (c period : ℕ) → clock_set b c period ≡ Ok d → SoundDevices b → ClaimsKeep b d
keep-set b d c period e h =
    keep-dims b d h (writes_keep_lem.set_devices b d c period e h) (set-goes b d c period e).fewer
    (kept-set (Dims b) (calls-kept (Dims b) (dims-acts b)) (dims-numbers b) b d c period e (dims-none b))

keep-scaled : (b d : Board) (c mul div : ℕ) → clock_scaled b c mul div ≡ Ok d → SoundDevices b → ClaimsKeep b d
keep-scaled b d c mul div e h =
    keep-dims b d h (writes_keep_lem.scaled_devices b d c mul div e h) (scaled-goes b d c mul div e).fewer
    (kept-scaled (Dims b) (calls-kept (Dims b) (dims-acts b)) (dims-numbers b) b d c mul div e (dims-none b))

-- commands on objects: who stood stands

realized-stands : (b : Board) → SoundDevices b → (x : ℕ) → is_realized b x ≡ stands b x
realized-stands b h x = go (is_realized b x) refl (stands b x) refl
  where
    go : (t : Bool) → is_realized b x ≡ t → (u : Bool) → stands b x ≡ u → is_realized b x ≡ stands b x
    go true p u q = p ∙ sym (h.places.1.only x p)
    go false p true q = absurd (let clash : false ≡ true = sym p ∙ h.places.1.each x q refl in cc)
    go false p false q = p ∙ sym q

keep-changed : (b : Board) (change : Change) → SoundDevices b → ClaimsKeep b (changed b change)
keep-changed b change h =
    let after : SoundDevices (changed b change) = devices_kept_lem.change b change h in
    record {
      stay = stay-fewer b (changed b change) h after (changed-fewer b h change);
      same = λ n.
          realized-stands (changed b change) after n
          ∙ (changed-keeps h.places.0 b change (rest-from_sound b h.tree) h.places.1).stood n
          ∙ sym (realized-stands b h n);
    }

-- adding a device

-- one that is refused leaves the objects
module _ (b : Board) (a : Wanted) where
  late-same : (t : TypeId) (bus : ℕ) (o : Option (ℕ × Code)) (r : ℕ × Code) → (plug_late b t bus a o).refusal ≡ Some r
      → (plug_late b t bus a o).board.records ≡ b.records
  late-same t bus (Some refusal) r e = refl
  late-same t bus None r e = absurd (let clash : None ≡ Some r = e in cc)

  as-same : (t : TypeId) (o : Option (ℕ × Code)) (r : ℕ × Code) → (plug_as b t a o).refusal ≡ Some r → (plug_as b t a o).board.records ≡ b.records
  as-same t (Some refusal) r e = refl
  as-same t None r e = go (bus_for b t a.bus) refl
    where
      go : (m : Option ℕ) → bus_for b t a.bus ≡ m → (plug_as b t a None).board.records ≡ b.records
      go None p = rw (plug_as, p) refl
      go (Some bus) p = rw (plug_as, p) (late-same t bus (barred_late b t bus a.props) r (rw (plug_as, p) at e))

  by-same : (o : Option Code) (r : ℕ × Code) → (plug_by b a o).refusal ≡ Some r → (plug_by b a o).board.records ≡ b.records
  by-same (Some code) r e = refl
  by-same None r e = go (type_named a.driver) refl
    where
      go : (row : Option TypeInfo) → type_named a.driver ≡ row → (plug_by b a None).board.records ≡ b.records
      go None p = rw (plug_by, p) refl
      go (Some row) p = rw (plug_by, p) (as-same row.id (barred_early b row.id a) r (rw (plug_by, p) at e))

  pub refused-same : (r : ℕ × Code) → (plug b a).refusal ≡ Some r → (plug b a).board.records ≡ b.records
  unfolding plug
  refused-same r e = by-same (type_barred a.driver) r e

-- one that is taken
accepted-of : (b : Board) (a : Wanted) (row : TypeInfo) (bus : ℕ) → IsAttempted b a row bus → barred_late b row.id bus a.props ≡ None
    → Accepted b row.id bus a
accepted-of b a row bus h late =
    record { device = device; chosen = h.chosen; early = h.early; late = late; place = place-of b row.id bus a device h.chosen h.early late }
  where
    device : is_a row.id (codes "device") ≡ true
    device = device-of row (rw (type_barred, h.named) at h.fits)

added-claims : (b : Board) (a : Wanted) → SoundDevices b → SoundBackends b → (plug b a).refusal ≡ None → ClaimsAdded b a (plug b a).board
added-claims b a devices backends e = subst (ClaimsAdded b a) (sym x.board) claims
  where
    x : Added b a (plug b a).board
    x = plug_comes_to_lem.added b a e

    k : Accepted b x.row.id x.bus a
    k = accepted-of b a x.row x.bus x.attempted x.late

    given : (t : TypeId) (bus : ℕ) → option_map (λ (row : TypeInfo). row.id) (type_named a.driver) ≡ Some t → bus_for b t a.bus ≡ Some bus
        → ClaimsGiven b t bus a.props (with_plugged b x.row.id a (resources_of b x.row.id x.bus a.props)) (b.born + 1)
    given t bus named chosen =
        subst (λ (m : ℕ). ClaimsGiven b t m a.props (with_plugged b x.row.id a (resources_of b x.row.id x.bus a.props)) (b.born + 1)) (same_Some x.bus bus
        (sym x.attempted.chosen ∙ ap (λ (u : TypeId). bus_for b u a.bus) is ∙ chosen))
        (subst (λ (u : TypeId). ClaimsGiven b u x.bus a.props (with_plugged b x.row.id a (resources_of b x.row.id x.bus a.props)) (b.born + 1)) is
        (added-given b a devices backends x.row.id x.bus k))
      where
        is : x.row.id ≡ t
        is = same_Some x.row.id t (sym (ap (option_map (λ (row : TypeInfo). row.id)) x.attempted.named) ∙ named)

    claims : ClaimsAdded b a (with_plugged b x.row.id a (resources_of b x.row.id x.bus a.props))
    claims =
        record {
          given = given;
          stay = added-stay b a devices backends x.row.id x.bus k;
          same = added-same b a devices backends x.row.id x.bus k;
        }

-- devices that go, and the reset of the whole board

detach-stay : (b : Board) (d : ℕ) → SoundDevices b → stands b d ≡ true → SoundBackends b → ClaimsStay b (detach b d)
detach-stay b d devices e h =
    stay-fewer b (detach b d) devices (devices_kept_lem.detached b d devices e)
    (fewer-loose b (detach b d) (detach-fewer b devices.tree devices.places.0 devices.places.1 h.claims d e))

record After (b c : Board) : Type 0 where
  stay : ClaimsStay b c
  devices : SoundDevices c
  backends : SoundBackends c

completed-stay : (times : ℕ) (b c : Board) → After b c → After b (all_completed times c)
completed-stay zero b c h = h
completed-stay (suc times) b c h = go (slice_get c.pending 0) refl (completed-stay times b)
  where
    go : (o : Option Removal) → slice_get c.pending 0 ≡ o → ((d : Board) → After b d → After b (all_completed times d))
        → After b (all_completed (suc times) c)
    go None p rest = rw (all_completed, p) h
    go (Some r) p rest =
        let on : stands c r.birth ≡ true = first-on c h.devices r p in
        rw (all_completed, p)
        (rest (completed c r.birth) (record {
          stay = stay-then b c (completed c r.birth) h.stay (detach-stay c r.birth h.devices on h.backends);
          devices = devices_kept_lem.detached c r.birth h.devices on;
          backends = detach-backends c r.birth h.devices on h.backends;
        }))

reset-stay : (b : Board) → SoundDevices b → SoundBackends b → ClaimsStay b (reset_whole b)
unfolding reset_whole
reset-stay b devices backends =
    let c : Board = all_completed (length b.pending) b in
    let h : After b c = completed-stay (length b.pending) b b (record { stay = stay-same b; devices = devices; backends = backends }) in
    stay-then b c (pulse c MACHINE_BIRTH Cold) h.stay (keep-pulsed c MACHINE_BIRTH Cold h.devices).stay

pub claims_stay_lem : ClaimsStayLaw
claims_stay_lem =
    record {
      beside = keep-beside;
      asked_for = λ b id. keep-beside b (asked b id).board (asked-records b id);
      wrote = keep-wrote;
      acts = keep-acted;
      held_so = keep-held;
      released_so = keep-released;
      pulsed = keep-pulsed;
      set = keep-set;
      scaled = keep-scaled;
      change = keep-changed;
      refused = λ b a r e. keep-beside b (plug b a).board (refused-same b a r e);
      added = added-claims;
      detached = detach-stay;
      reset = reset-stay;
    }
