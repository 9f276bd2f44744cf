-- The book of claims of a sound board says exactly who has what.
use Rattle.std.proofs.Common.{◌≡◌, ◌≢◌, refl, ◌∙◌, ℕ, ◌<◌, Bool, true, false, not, ◌==◌, nat_lt, List, [], Some}
use Rattle.std.specs.List.{AllByRecursion, list_any}
use Rattle.std.specs.Str.{bytes_eq}
use Rattle.qo_values.specs.Placing.{overlap, overlaps_any}
use Rattle.qo_values.specs.declared.kinds.TypeId.{TypeId}
use Rattle.qo_values.specs.declared.limits.TheConstants.{BUS_SLOTS}
use Rattle.qo_values.specs.declared.ranges.Range.{Range}
use Rattle.qo_values.proofs.ListLemmas.{all-imply}
use Rattle.qo_claims.specs.Book.{is_taken}
use Rattle.qo_claims.specs.Lists.{bus_slot, range_eq, slot_eq}
use Rattle.qo_claims.specs.declared.claims.Claimed.{Claimed}
use Rattle.qo_claims.specs.declared.claims.Claimed.TheVariants as on
use Rattle.qo_model.specs.Board.{Board, Record, record_of}
use Rattle.qo_model.specs.Devices.{device_named, has_id}
use Rattle.qo_model.specs.Paths.{births, is_of}
use Rattle.qo_model.specs.Plug.{bus_type, claims_ring, dimms, has_backend, is_free, ranges_of}
use Rattle.qo_model.specs.SoundGraph.{Rises}
use Rattle.qo_sound.proofs.ViewLemmas.{rest-from_sound}
use Rattle.qo_sound_devices.proofs.GoalLemmas.{fits-bus}
use Rattle.qo_buses.specs.Recount.{IsRecounted}
use Rattle.qo_heap.specs.Board.{Shows}
use Rattle.qo_heap.specs.Book.{IsBook, counted}
use Rattle.qo_heap.specs.Objects.{Objects}
use Rattle.qo_unplug.specs.RealizedClaims.{KeepsDue}
use Rattle.qo_realize.specs.BoardClaims.{KeepsClaims, claims_due}
use Rattle.qo_realize.specs.Parts.{Parts}
use Rattle.qo_realize.specs.Representation.{Stands, StandsForGood}
use Rattle.qo_realize.specs.SoundBoard.{SoundBoard}
use Rattle.qo_realize.proofs.GoodBoardLemmas.{good-of}
use Rattle.qo_realize.proofs.RecountedClaims.{backend-due, id-due, is_at_range, range-due, ring-due, slot-due, stands_on}
use Rattle.qo_realize.proofs.RecountedMemory.{backends-stand, ranges-stand, same-ranges}
use Rattle.qo_realize.proofs.RecountedRows.{any-counted, counted-due, found-each, is_due}
use Rattle.qo_realize.proofs.RecountedSlots.{has_place, places-taken}

not-twice : (t : Bool) → t ≡ not (not t)
not-twice true = refl
not-twice false = refl

module _ (b : Board) (v : Objects) (shows : Shows b v) (book : IsBook [] v) (kept : KeepsDue (claims_due b) b v) (sound : SoundBoard b) where
  rising : Rises (births b)
  rising = (rest-from_sound b sound.run.devices.tree).used.firm.rising

  -- each object is found by its birth
  found : AllByRecursion (λ (r : Record). record_of b r.birth ≡ Some r) b.records
  found = found-each (λ (r : Record). r.birth) b.records rising

  -- who has a claim, where a test says to which objects it is due
  held : (x : Claimed) (test : Record → Bool) → ((r : Record) → record_of b r.birth ≡ Some r → is_due (claims_due b) b x r ≡ test r)
      → nat_lt 0 (counted x v.claims) ≡ list_any test b.records
  held x test is =
      counted-due (claims_due b) b v shows rising kept book x test
      (all-imply (λ (r : Record). record_of b r.birth ≡ Some r) (λ (r : Record). is_due (claims_due b) b x r ≡ test r) is b.records found)

  ids : (id : List ℕ) → is_taken (on.Device id) v.claims ≡ device_named b id
  ids id = any-counted (bytes_eq id) v.claims.devices ∙ held (on.Device id) (has_id id) (λ r there. id-due b r id)

  slots : (t : TypeId) (bus slot : ℕ) → is_of b (bus_type t) bus ≡ true → slot < BUS_SLOTS
      → is_taken (on.Slot (bus_slot bus slot)) v.claims ≡ not (is_free b bus slot)
  slots t bus slot is low =
      any-counted (slot_eq (bus_slot bus slot)) v.claims.slots ∙ held (on.Slot (bus_slot bus slot)) (has_place b bus slot) (λ r there. slot-due b r bus slot)
      ∙ places-taken b sound.run.devices.places sound.shape bus slot (fits-bus b t bus is)
      ∙ not-twice _

  rings : (id : List ℕ) → id ≢ [] → is_taken (on.Ring id) v.claims ≡ list_any (claims_ring b id) b.records
  rings id some = any-counted (bytes_eq id) v.claims.rings ∙ held (on.Ring id) (claims_ring b id) (λ r there. ring-due b r there id some)

  backends : (birth : ℕ) → is_taken (on.Backend birth) v.claims ≡ list_any (has_backend b birth) (dimms b)
  backends birth =
      any-counted (λ n. birth == n) v.claims.backends ∙ held (on.Backend birth) (stands_on b birth) (λ r there. backend-due b r there birth)
      ∙ backends-stand b birth

  ranges : (r : Range) → is_taken (on.Range r) v.claims ≡ overlaps_any r (ranges_of b)
  ranges r = same-ranges v.claims.ranges (ranges_of b) same (overlap r)
    where
      same : (s : Range) → list_any (range_eq s) v.claims.ranges ≡ list_any (range_eq s) (ranges_of b)
      same s =
          any-counted (range_eq s) v.claims.ranges ∙ held (on.Range s) (is_at_range b s) (λ x there. range-due b x there s) ∙ ranges-stand b found s

  pub recounted : IsRecounted b v.claims
  recounted = record { ids = ids; slots = slots; rings = rings; backends = backends; ranges = ranges }

pub is-recounted : (b : Board) (v : Objects) → Shows b v → IsBook [] v → KeepsClaims v → SoundBoard b → IsRecounted b v.claims
is-recounted b v shows book kept sound = recounted b v shows book (kept b shows) sound

-- so it does of each board that a machine stands at
pub stands-recounted : (p : Parts) → StandsForGood p → KeepsClaims p.objects → (b : Board) → Stands b p → IsRecounted b p.objects.claims
stands-recounted p good kept b s = is-recounted b p.objects s.shows s.book kept (good-of p good b s)
