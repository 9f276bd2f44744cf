-- The law: what keeps a board in order, and sound in all that its description is of.
use Rattle.std.proofs.Common.{◌≡◌, refl, sym, ap, ◌∙◌, subst, ℕ, ◌<◌, ◌^◌, true, false, List, [], ◌∷◌, ◌++◌, Ok, arith}
use Rattle.qo_model.proofs.Common.{drop, is_id, Board, Notice, Ring, Change, changed, clock_scaled, clock_set, has_ring, opening_board, plug, Wanted}
use Rattle.qo_sound_bounds.proofs.BoundsLemmas.{bounds_kept_lem}
use Rattle.qo_sound_bounds.proofs.SourcesLawLemmas.{sources_kept_lem}
use Rattle.qo_sound_claims.specs.SoundRings.{IsGoodRing}
use Rattle.qo_sound_claims.proofs.LawLemmas.{claims_kept_lem}
use Rattle.qo_sound_clocks.proofs.LawLemmas.{clocks_kept_lem}
use Rattle.qo_sound_clocks.proofs.NumbersLemmas.{numbers_kept_lem}
use Rattle.qo_sound_clocks.proofs.WriteLawLemmas.{writes_keep_lem}
use Rattle.qo_sound_devices.specs.SoundDevices.{SoundDevices}
use Rattle.qo_sound_devices.proofs.DevicesLawLemmas.{devices_kept_lem}
use Rattle.qo_sound_order.proofs.OrderLawLemmas.{order_kept_lem}
use Rattle.qo_sound_shapes.proofs.LawLemmas.{shapes_kept_lem}
use Rattle.qo_sound_shapes.proofs.OwnersLawLemmas.{owners_kept_lem}
use Rattle.qo_good.specs.GoodBoards.{IsWhole}
use Rattle.qo_rebuilt.specs.WholeKept.{WholeKeptLaw}

opening-whole : IsWhole opening_board
opening-whole =
    record {
      order = record { devices = devices_kept_lem.opening; shape = shapes_kept_lem.opening; owners = owners_kept_lem.opening; order = order_kept_lem.opening };
      backends = claims_kept_lem.opening;
      clocks = clocks_kept_lem.opening;
      numbers = numbers_kept_lem.opening;
      sources = sources_kept_lem.opening;
      bounds = bounds_kept_lem.opening;
    }

ring-whole : (b : Board) (r : Ring) → is_id r.id ≡ true → has_ring b r.id ≡ false → IsGoodRing r → IsWhole b
    → IsWhole (record b { rings = b.rings ++ r ∷ [] })
ring-whole b r id free good h =
    record {
      order = record {
        devices = devices_kept_lem.beside b (record b { rings = b.rings ++ r ∷ [] }) refl refl refl refl refl refl (omega arith) h.order.devices;
        shape = shapes_kept_lem.beside b (record b { rings = b.rings ++ r ∷ [] }) refl h.order.shape;
        owners = owners_kept_lem.beside b (record b { rings = b.rings ++ r ∷ [] }) refl h.order.owners;
        order = order_kept_lem.ring_added b r id h.order.order;
      };
      backends = claims_kept_lem.ring_added b r free good h.backends;
      clocks = clocks_kept_lem.beside b (record b { rings = b.rings ++ r ∷ [] }) refl h.clocks;
      numbers = numbers_kept_lem.beside b (record b { rings = b.rings ++ r ∷ [] }) refl h.numbers;
      sources = sources_kept_lem.beside b (record b { rings = b.rings ++ r ∷ [] }) refl h.sources;
      bounds = bounds_kept_lem.beside b (record b { rings = b.rings ++ r ∷ [] }) refl h.bounds.time h.bounds;
    }

pub read-devices : (b : Board) → SoundDevices b → SoundDevices (record b { notices = drop 1 b.notices })
read-devices b h = go b.notices refl
  where
    go : (xs : List Notice) → b.notices ≡ xs → SoundDevices (record b { notices = drop 1 b.notices })
    go [] e =
        devices_kept_lem.beside b (record b { notices = drop 1 b.notices }) refl refl refl refl refl (ap (drop 1) e ∙ sym e) (omega arith) h
    go (x ∷ others) e =
        subst (λ (xs : List Notice). SoundDevices (record b { notices = xs })) (sym (ap (drop 1) e)) (devices_kept_lem.read b x others e h)

read-whole : (b : Board) → IsWhole b → IsWhole (record b { notices = drop 1 b.notices })
read-whole b h =
    record {
      order = record {
        devices = read-devices b h.order.devices;
        shape = shapes_kept_lem.beside b (record b { notices = drop 1 b.notices }) refl h.order.shape;
        owners = owners_kept_lem.beside b (record b { notices = drop 1 b.notices }) refl h.order.owners;
        order = order_kept_lem.beside b (record b { notices = drop 1 b.notices }) refl refl h.order.order;
      };
      backends = claims_kept_lem.beside b (record b { notices = drop 1 b.notices }) refl refl h.backends;
      clocks = clocks_kept_lem.beside b (record b { notices = drop 1 b.notices }) refl h.clocks;
      numbers = numbers_kept_lem.beside b (record b { notices = drop 1 b.notices }) refl h.numbers;
      sources = sources_kept_lem.beside b (record b { notices = drop 1 b.notices }) refl h.sources;
      bounds = bounds_kept_lem.beside b (record b { notices = drop 1 b.notices }) refl h.bounds.time h.bounds;
    }

change-whole : (b : Board) (change : Change) → IsWhole b → IsWhole (changed b change)
change-whole b change h =
    record {
      order = record {
        devices = devices_kept_lem.change b change h.order.devices;
        shape = shapes_kept_lem.change b change h.order.devices h.order.shape;
        owners = owners_kept_lem.change b change h.order.devices h.order.owners;
        order = order_kept_lem.changes.change b change h.order.devices h.order.order;
      };
      backends = claims_kept_lem.change b change h.order.devices h.backends;
      clocks = clocks_kept_lem.change b change h.order.devices.tree h.clocks;
      numbers = numbers_kept_lem.change b change h.order.devices.tree h.numbers;
      sources = sources_kept_lem.change b change h.order.devices h.sources;
      bounds = bounds_kept_lem.change b change h.bounds;
    }

plug-whole : (b : Board) (a : Wanted) → IsWhole b → IsWhole (plug b a).board
plug-whole b a h =
    record {
      order = record {
        devices = devices_kept_lem.plugged b a h.order.devices;
        shape = shapes_kept_lem.plugged b a h.order.devices h.order.shape;
        owners = owners_kept_lem.plugged b a h.order.devices h.order.owners;
        order = order_kept_lem.changes.plugged b a tt h.order.devices h.order.order;
      };
      backends = claims_kept_lem.plugged b a h.order.devices h.backends;
      clocks = clocks_kept_lem.plugged b a h.order.devices.tree h.clocks;
      numbers = numbers_kept_lem.plugged b a h.order.devices.tree h.numbers;
      sources = sources_kept_lem.plugged b a h.order.devices h.sources;
      bounds = bounds_kept_lem.plugged b a h.bounds;
    }

set-whole : (b d : Board) (c period : ℕ) → period < 2 ^ 64 → clock_set b c period ≡ Ok d → IsWhole b → IsWhole d
set-whole b d c period low e h =
    record {
      order = record {
        devices = writes_keep_lem.set_devices b d c period e h.order.devices;
        shape = shapes_kept_lem.set b d c period low e h.order.shape;
        owners = owners_kept_lem.set b d c period e h.order.owners;
        order = order_kept_lem.changes.set b d c period e h.order.devices h.order.order;
      };
      backends = claims_kept_lem.set b d c period e h.order.devices h.backends;
      clocks = clocks_kept_lem.set b d c period e h.clocks;
      numbers = numbers_kept_lem.set b d c period low e h.numbers;
      sources = sources_kept_lem.set b d c period e h.order.devices h.sources;
      bounds = bounds_kept_lem.set b d c period e h.bounds;
    }

scaled-whole : (b d : Board) (c mul div : ℕ) → mul < 2 ^ 32 → div < 2 ^ 32 → clock_scaled b c mul div ≡ Ok d → IsWhole b → IsWhole d
scaled-whole b d c mul div low short e h =
    record {
      order = record {
        devices = writes_keep_lem.scaled_devices b d c mul div e h.order.devices;
        shape = shapes_kept_lem.scaled b d c mul div low short e h.order.shape;
        owners = owners_kept_lem.scaled b d c mul div e h.order.owners;
        order = order_kept_lem.changes.scaled b d c mul div e h.order.devices h.order.order;
      };
      backends = claims_kept_lem.scaled b d c mul div e h.order.devices h.backends;
      clocks = clocks_kept_lem.scaled b d c mul div e h.clocks;
      numbers = numbers_kept_lem.scaled b d c mul div low short e h.numbers;
      sources = sources_kept_lem.scaled b d c mul div e h.order.devices h.sources;
      bounds = bounds_kept_lem.scaled b d c mul div e h.bounds;
    }

pub whole_kept_lem : WholeKeptLaw
whole_kept_lem =
    record {
      opening = opening-whole;
      ring_added = ring-whole;
      read = read-whole;
      change = change-whole;
      plugged = plug-whole;
      set = set-whole;
      scaled = scaled-whole;
    }
