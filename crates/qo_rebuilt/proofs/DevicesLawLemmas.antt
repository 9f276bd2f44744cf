-- Good devices are added in order, and told.
use Rattle.std.proofs.Common.{false, ◌≡◌, refl, suc, ap, sym, subst, ◌∙◌, ℕ, ◌+◌, ◌≤◌, List, [], ◌∷◌, ◌++◌, length, map, sum_by, append-nil, append_assoc, codes, arith}
use Rattle.std.specs.List.{AllByRecursion, IsDistinct}
use Rattle.std.specs.Str.{bytes_eq}
use Rattle.std.proofs.lemmas.List.{map-append}
use Rattle.std.proofs.lemmas.List.Sums.{sum_by-append}
use Rattle.qo_model.proofs.Common.{type_name, LIVE_OBJECTS_MAX, TypeId, MemDimm, SlotBridge, SlotUart, Board}
use Rattle.qo_values.specs.declared.births.TheConstants.{OPENING_OBJECTS}
use Rattle.qo_save.specs.Description.{ClockItem, Description, DeviceItem, LinkItem}
use Rattle.qo_save.specs.Rebuilding.{add_device}
use Rattle.qo_good.specs.Good.{AreIds, bus_path, EachAfter, HasRange, IsGiven, IsGoodDevice, Layout, NamesRing, no_ring, objects_of, ring}
use Rattle.qo_rebuilt.specs.Made.{Makes, Tells}
use Rattle.qo_rebuilt.specs.DevicesMade.{AreLaid, DevicesMadeLaw, IsMade}
use Rattle.qo_rebuilt.proofs.DeviceLemmas.{plugged_made_lem}
use Rattle.qo_rebuilt.proofs.RingLemmas.{then_all}
use Rattle.qo_rebuilt.proofs.TakenLemmas.{next_plugged_lem}

-- ---- a device is good after those before it, whatever else is said of devices, clocks and links

module _ (d : Description) (ds : List DeviceItem) (cs : List ClockItem) (ls : List LinkItem) (l : Layout) where
  abbrev other : Description
  other = record d { devices = ds; clocks = cs; links = ls }

  ring-still : (before : List DeviceItem) (x : DeviceItem) → NamesRing d before x → NamesRing other before x
  ring-still before x (no_ring none) = no_ring none
  ring-still before x (ring id is there alone) = ring id is there alone

  range-still : (before : List DeviceItem) (x : DeviceItem) → HasRange d l before x → HasRange other l before x
  range-still before x h =
      record {
        backend = h.backend;
        props = h.props;
        memory = h.memory;
        alone = h.alone;
        aligned = h.aligned;
        window = h.window;
        apart = h.apart;
      }

  given-still : (before : List DeviceItem) (x : DeviceItem) (kind : TypeId) → IsGiven d l before x kind → IsGiven other l before x kind
  given-still before x SlotUart h = ring-still before x h
  given-still before x MemDimm h = range-still before x h
  given-still before x kind h = h

  pub device-still : (before : List DeviceItem) (x : DeviceItem) → IsGoodDevice d l before x → IsGoodDevice other l before x
  device-still before x h =
      record {
        kind = h.kind;
        driver = h.driver;
        concrete = h.concrete;
        device = h.device;
        id = h.id;
        bus = h.bus;
        slot = h.slot;
        free = h.free;
        shallow = h.shallow;
        props = given-still before x h.kind h.props;
        clock = h.clock;
      }

  pub devices-still : (before xs : List DeviceItem) → EachAfter (IsGoodDevice d l) before xs → EachAfter (IsGoodDevice other l) before xs
  devices-still before [] h = tt
  devices-still before (x ∷ xs) h = (device-still before x h.0, devices-still (before ++ x ∷ []) xs h.1)

-- ---- fronts

each-front : {X : Type 0} (P : List X → X → Type 0) (before xs ys : List X) → EachAfter P before (xs ++ ys) → EachAfter P before xs
each-front P before [] ys h = tt
each-front P before (x ∷ xs) ys h = (h.0, each-front P (before ++ x ∷ []) xs ys h.1)

each-next : {X : Type 0} (P : List X → X → Type 0) (before xs : List X) (y : X) (ys : List X) → EachAfter P before (xs ++ y ∷ ys) → P (before ++ xs) y
each-next {X = X} P before [] y ys h = subst (λ (zs : List X). P zs y) (sym (append-nil before)) h.0
each-next {X = X} P before (x ∷ xs) y ys h =
    subst (λ (zs : List X). P zs y) (append_assoc before (x ∷ []) xs) (each-next P (before ++ x ∷ []) xs y ys h.1)

all-front : {X : Type 0} (P : X → Type 0) (xs ys : List X) → AllByRecursion P (xs ++ ys) → AllByRecursion P xs
all-front P [] ys h = tt
all-front P (x ∷ xs) ys h = (h.0, all-front P xs ys h.1)

distinct-front : (xs ys : List (List ℕ)) → IsDistinct bytes_eq (xs ++ ys) → IsDistinct bytes_eq xs
unfolding IsDistinct
distinct-front [] ys h = tt
distinct-front (x ∷ xs) ys h = (all-front (λ (y : List ℕ). bytes_eq x y ≡ false) xs ys h.0, distinct-front xs ys h.1)

abbrev id_of : DeviceItem → List ℕ
id_of y = y.id

-- ---- one after another

module _ (d : Description) (l : Layout) (all : List DeviceItem) (clocks : d.clocks ≡ []) (links : d.links ≡ [])
    (laid : AreLaid (record d { devices = all }) l) (ids : AreIds (map id_of all))
    (room : OPENING_OBJECTS + length d.objects + sum_by objects_of all ≤ LIVE_OBJECTS_MAX) where
  -- what is so of all of them is so of a front
  laid-front : (front rest : List DeviceItem) → front ++ rest ≡ all → AreLaid (record d { devices = front }) l
  laid-front front rest whole =
      record {
        devices =
            devices-still (record d { devices = all }) front d.clocks d.links l [] front
            (each-front (IsGoodDevice (record d { devices = all }) l) [] front rest
            (subst (EachAfter (IsGoodDevice (record d { devices = all }) l) []) (sym whole) laid.devices));
        root = laid.root;
        bridges =
            all-front (λ (y : DeviceItem). y.driver ≡ type_name SlotBridge → l.depth (bus_path y.id) ≡ suc (l.depth y.bus)) front rest
            (subst (AllByRecursion (λ (y : DeviceItem). y.driver ≡ type_name SlotBridge → l.depth (bus_path y.id) ≡ suc (l.depth y.bus))) (sym whole)
            laid.bridges);
      }

  next-good : (front : List DeviceItem) (x : DeviceItem) (rest : List DeviceItem) → front ++ x ∷ rest ≡ all
      → IsGoodDevice (record d { devices = front }) l front x
  next-good front x rest whole =
      device-still (record d { devices = all }) front d.clocks d.links l front x
      (each-next (IsGoodDevice (record d { devices = all }) l) [] front x rest
      (subst (EachAfter (IsGoodDevice (record d { devices = all }) l) []) (sym whole) laid.devices))

  on : (front : List DeviceItem) (x : DeviceItem) (rest : List DeviceItem) → front ++ x ∷ rest ≡ all → (front ++ x ∷ []) ++ rest ≡ all
  on front x rest whole = append_assoc front (x ∷ []) rest ∙ whole

  ids-front : (front rest : List DeviceItem) → front ++ rest ≡ all → AreIds (map id_of front)
  ids-front front rest whole =
      distinct-front (codes "type" ∷ map id_of front) (map id_of rest)
      (subst AreIds (sym (ap (map id_of) whole) ∙ map-append id_of front rest) ids)

  room-front : (front rest : List DeviceItem) → front ++ rest ≡ all → OPENING_OBJECTS + length d.objects + sum_by objects_of front ≤ LIVE_OBJECTS_MAX
  room-front front rest whole =
      let same : sum_by objects_of (front ++ rest) ≡ sum_by objects_of all = ap (sum_by objects_of) whole in
      let parts : sum_by objects_of (front ++ rest) ≡ sum_by objects_of front + sum_by objects_of rest = sum_by-append objects_of front rest in
      omega (arith, parts, same, room)

  added-rest : (front rest : List DeviceItem) → front ++ rest ≡ all → (b : Board) → Tells b (record d { devices = front })
      → Makes (map add_device rest) b (record d { devices = all })
  added-rest front [] whole b tells =
      record {
        board = b;
        taken = refl;
        tells = subst (λ (ds : List DeviceItem). Tells b (record d { devices = ds })) (sym (append-nil front) ∙ whole) tells;
      }
  added-rest front (x ∷ rest) whole b tells =
      let more : (front ++ x ∷ []) ++ rest ≡ all = on front x rest whole in
      let good : IsGoodDevice (record d { devices = front }) l front x = next-good front x rest whole in
      let made : IsMade b (record d { devices = front }) x =
      plugged_made_lem.made b (record d { devices = front }) l x tells clocks links good
      (next_plugged_lem.next b (record d { devices = front }) l x tells clocks links (laid-front front (x ∷ rest) whole) good
      (ids-front (front ++ x ∷ []) rest more) (room-front (front ++ x ∷ []) rest more)) in
      let after : Makes (map add_device rest) made.after (record d { devices = all }) = added-rest (front ++ x ∷ []) rest more made.after made.tells in
      record { board = after.board; taken = ap (then_all (map add_device rest)) made.done ∙ after.taken; tells = after.tells }

pub devices_made_lem : DevicesMadeLaw
devices_made_lem =
    record {
      devices = λ b d l xs tells clocks links laid ids room.
          added-rest d l (d.devices ++ xs) clocks links laid ids room d.devices xs refl b tells;
    }
