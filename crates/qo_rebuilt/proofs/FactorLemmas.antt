-- What a board tells after the factors of a device's clock were written.
use Rattle.std.proofs.Common.{◌≡◌, refl, ap, ap₂, sym, ◌∙◌, ℕ, ◌<◌, ◌^◌, ◌==◌, ◌&&◌, true, false, eqb, List, ◌++◌, filter_map, map, Option, Some, None, option_map, option_and_then, unwrap_or, codes, Ok}
use Rattle.std.specs.List.{flat_map}
use Rattle.std.proofs.lemmas.Bool.{eqb-true}
use Rattle.std.proofs.lemmas.Option.{same_Some}
use Rattle.qo_model.proofs.Common.{AllByRecursion, if◌then◌else◌, OBJECTS_BIRTH, PERIPHERAL_BIRTH, SYSTEM_CLOCK_BIRTH, TypeId, Clock, Object, Board, Slot, is_live, kind_of, slots_at, clock_of, clock_scaled, div_of, mul_of, child_named, is_a, types}
use Rattle.qo_values.proofs.ListLemmas.{all-imply}
use Rattle.qo_model.proofs.ClockScopeLemmas.{clock_scaled-stays}
use Rattle.qo_model.proofs.FirstSlotLemmas.{named_in}
use Rattle.qo_model.specs.Properties.{path_text}
use Rattle.qo_save.specs.Described.{clock_item, clock_item_of, clock_numbers, description, device_item, device_of, is_describable, link_items, object_item, ring_item}
use Rattle.qo_save.specs.Description.{ClockItem, ClockNumbers, Description, DeviceItem, LinkItem, ObjectItem, RingItem}
use Rattle.qo_sound.proofs.TestLemmas.{clash-back, decide}
use Rattle.qo_sound_devices.specs.SoundPlaces.{child_entries}
use Rattle.qo_good.specs.GoodBoards.{IsWhole}
use Rattle.qo_good.proofs.BusLemmas.{Stood, stood-all}
use Rattle.qo_good.proofs.ItemLemmas.{all-append, filter_map-same}
use Rattle.qo_good.proofs.PartLemmas.{device_as, Here, users}
use Rattle.qo_rebuilt.proofs.FrameLemmas.{item_of}
use Rattle.qo_rebuilt.proofs.GrowthLemmas.{clock-kept, device-kept, kind-live, links-kept, object-kept, system-kept}
use Rattle.qo_rebuilt.proofs.ScaledLemmas.{div-written, mul-written, scaled-rewritten, slots-other}
use Rattle.qo_rebuilt.proofs.TellingLemmas.{flat-same}
use Rattle.qo_rebuilt.proofs.WholeLemmas.{whole_kept_lem}
use Rattle.qo_rebuilt.proofs.WrittenLemmas.{describable-written, IsRewritten, texts-written}

-- a board on which the numbers of a clock were written
pub record Scaled (b c : Board) (clk by over : ℕ) : Type 0 where
  pub whole : IsWhole c
  pub says : is_describable c ≡ true
  pub shape : IsRewritten b c
  pub slots : (n : ℕ) → eqb n clk ≡ false → slots_at c n ≡ slots_at b n
  pub texts : (n : ℕ) → is_live b n ≡ true → path_text c n ≡ path_text b n
  pub mul : mul_of c clk ≡ by
  pub div : div_of c clk ≡ over
  pub notices : c.notices ≡ b.notices
  pub rings : c.rings ≡ b.rings

pub scaled-so : (b c : Board) (clk mul div : ℕ) → IsWhole b → is_describable b ≡ true → kind_of b clk ≡ Some Clock → mul < 2 ^ 32 → div < 2 ^ 32
    → clock_scaled b clk mul div ≡ Ok c → Scaled b c clk mul div
scaled-so b c clk mul div h says kind short low taken =
    let whole : IsWhole c = whole_kept_lem.scaled b c clk mul div short low taken h in
    let shape : IsRewritten b c = scaled-rewritten b clk mul div c taken in
    let stays = clock_scaled-stays b c clk mul div taken in
    record {
      whole = whole;
      says = describable-written b c h.order whole.order says shape;
      shape = shape;
      slots = slots-other b clk mul div c taken;
      texts = texts-written b c h.order whole.order says shape;
      mul = mul-written b clk mul div c taken h kind;
      div = div-written b clk mul div c taken h kind;
      notices = stays.notices;
      rings = stays.rings;
    }

-- ---- types that are no clocks

clock-no_device : is_a Clock (codes "device") ≡ false
unfolding types
clock-no_device = refl

clock-no_user : is_a Clock (codes "user-creatable") ≡ false
unfolding types
clock-no_user = refl

module _ (b c : Board) (h : IsWhole b) (says : is_describable b ≡ true) (clk mul div : ℕ) (kind : kind_of b clk ≡ Some Clock) (s : Scaled b c clk mul div) where
  apart : (n : ℕ) (t : TypeId) (name : List ℕ) → kind_of b n ≡ Some t → is_a t name ≡ true → is_a Clock name ≡ false → eqb n clk ≡ false
  apart n t name its is other =
      decide (eqb n clk)
      (λ q.
      let same : t ≡ Clock = same_Some t Clock (sym its ∙ ap (kind_of b) (eqb-true n clk q) ∙ kind) in
      clash-back (sym other ∙ ap (λ (k : TypeId). is_a k name) (sym same) ∙ is))
      (λ q. q)

  pub device-slots : (e : List ℕ × ℕ) → Stood b e → slots_at c e.1 ≡ slots_at b e.1
  device-slots e k = s.slots e.1 (apart e.1 k.here.kind (codes "device") k.here.its k.here.wants clock-no_device)

  device-live : (e : List ℕ × ℕ) → Stood b e → is_live b e.1 ≡ true
  device-live e k = kind-live b e.1 k.here.kind k.here.its

  user-slots : (e : List ℕ × ℕ) → Here b OBJECTS_BIRTH (codes "user-creatable") e → slots_at c e.1 ≡ slots_at b e.1
  user-slots e k = s.slots e.1 (apart e.1 k.kind (codes "user-creatable") k.its k.wants clock-no_user)

  user-live : (e : List ℕ × ℕ) → Here b OBJECTS_BIRTH (codes "user-creatable") e → is_live b e.1 ≡ true
  user-live e k = kind-live b e.1 k.kind k.its

  each-device : {X : Type 0} (f g : List ℕ × ℕ → X) → ((e : List ℕ × ℕ) → Stood b e → f e ≡ g e)
      → AllByRecursion (λ (e : List ℕ × ℕ). f e ≡ g e) (child_entries b PERIPHERAL_BIRTH)
  each-device f to from =
      all-imply (Stood b) (λ (e : List ℕ × ℕ). f e ≡ to e) from (child_entries b PERIPHERAL_BIRTH) (stood-all b h.order says)

  each-user : {X : Type 0} (f g : List ℕ × ℕ → X) → ((e : List ℕ × ℕ) → Here b OBJECTS_BIRTH (codes "user-creatable") e → f e ≡ g e)
      → AllByRecursion (λ (e : List ℕ × ℕ). f e ≡ g e) (child_entries b OBJECTS_BIRTH)
  each-user f to from =
      all-imply (Here b OBJECTS_BIRTH (codes "user-creatable")) (λ (e : List ℕ × ℕ). f e ≡ to e) from (child_entries b OBJECTS_BIRTH) (users b h.order)

  item-same : (e : List ℕ × ℕ) → Stood b e → device_item c e ≡ device_item b e
  item-same e k = device-kept b c h.order s.texts e (device-live e k) (device-slots e k) (s.shape.kinds e.1)

  -- a device is told as before
  pub device-same : (e : List ℕ × ℕ) → Stood b e → device_as c e ≡ device_as b e
  device-same e k =
      same_Some (device_as c e) (device_as b e)
      (sym (told c (s.shape.kinds e.1 ∙ k.here.its)) ∙ item-same e k ∙ told b k.here.its)
    where
      told : (x : Board) → kind_of x e.1 ≡ Some k.here.kind → device_item x e ≡ Some (device_as x e)
      told x its =
          ap (option_map (device_of x e)) its
          ∙ ap (λ (o : Option TypeId). Some (device_of x e (unwrap_or o Object))) (sym its)

  -- and so is the clock of another
  pub clock-same : (e : List ℕ × ℕ) → Stood b e → ((n : ℕ) → clock_of b e.1 ≡ Some n → eqb n clk ≡ false) → clock_item_of c e ≡ clock_item_of b e
  clock-same e k other =
      clock-kept b c h.order s.texts e (device-live e k) (device-slots e k) (s.shape.kinds e.1)
      (λ n its. (kind-live b n Clock (h.sources.clocks e.1 n k.realized its), s.slots n (other n its)))

  -- its own is as it was written
  pub clock-new : (e : List ℕ × ℕ) → Stood b e → clock_of b e.1 ≡ Some clk
      → clock_item_of c e ≡ (if (mul == 1) && (div == 1) then None else Some (record { div = div; mul = mul; path = path_text b clk }))
  clock-new e k its =
      ap (λ (xs : List (List ℕ × Slot)). option_and_then (clock_item c) (option_and_then child_named (named_in (codes "clk") xs))) (device-slots e k)
      ∙ ap (option_and_then (clock_item c)) its
      ∙ ap (λ (m : ℕ). item_of m (div_of c clk) (path_text c clk)) s.mul ∙ ap (λ (v : ℕ). item_of mul v (path_text c clk)) s.div
      ∙ ap (item_of mul div) (s.texts clk (kind-live b clk Clock kind))

  system-apart : eqb SYSTEM_CLOCK_BIRTH clk ≡ false → clock_numbers c ≡ clock_numbers b
  system-apart other = system-kept b c h.order s.texts (s.slots SYSTEM_CLOCK_BIRTH other)

  abbrev all_told : ClockNumbers → List ClockItem → List DeviceItem → List LinkItem → List ObjectItem → List RingItem → Description
  all_told clock clocks devices links objects rings =
      record { clock = clock; clocks = clocks; devices = devices; links = links; objects = objects; rings = rings }

  objects-same : (description c).objects ≡ (description b).objects
  objects-same =
      ap (filter_map (object_item c)) (s.shape.children OBJECTS_BIRTH)
      ∙ filter_map-same (object_item c) (object_item b) (child_entries b OBJECTS_BIRTH)
      (each-user (object_item c) (object_item b)
      (λ e k. object-kept b c h.order s.texts e (user-live e k) (user-slots e k) (s.shape.kinds e.1)))

  devices-same : (description c).devices ≡ (description b).devices
  devices-same =
      ap (filter_map (device_item c)) (s.shape.children PERIPHERAL_BIRTH)
      ∙ filter_map-same (device_item c) (device_item b) (child_entries b PERIPHERAL_BIRTH) (each-device (device_item c) (device_item b) item-same)

  links-same : (description c).links ≡ (description b).links
  links-same =
      ap₂ (λ (us ds : List (List ℕ × ℕ)). flat_map (link_items c) (us ++ ds)) (s.shape.children OBJECTS_BIRTH) (s.shape.children PERIPHERAL_BIRTH)
      ∙ flat-same (link_items c) (link_items b) (child_entries b OBJECTS_BIRTH ++ child_entries b PERIPHERAL_BIRTH)
      (all-append (λ (e : List ℕ × ℕ). link_items c e ≡ link_items b e) (child_entries b OBJECTS_BIRTH) (child_entries b PERIPHERAL_BIRTH)
      (each-user (link_items c) (link_items b)
      (λ e k. links-kept b c h.order s.texts e (user-live e k) (user-slots e k) (s.shape.kinds e.1)))
      (each-device (link_items c) (link_items b)
      (λ e k. links-kept b c h.order s.texts e (device-live e k) (device-slots e k) (s.shape.kinds e.1))))

  -- all else is told as before
  pub description-scaled : eqb SYSTEM_CLOCK_BIRTH clk ≡ false
      → description c ≡ record (description b) { clocks = filter_map (clock_item_of c) (child_entries b PERIPHERAL_BIRTH) }
  description-scaled other =
      let d : Description = description c in
      let clocks : List ClockItem = filter_map (clock_item_of c) (child_entries b PERIPHERAL_BIRTH) in
      ap (λ (x : ClockNumbers). all_told x d.clocks d.devices d.links d.objects d.rings) (system-apart other)
      ∙ ap (λ (x : List ClockItem). all_told (description b).clock x d.devices d.links d.objects d.rings)
      (ap (filter_map (clock_item_of c)) (s.shape.children PERIPHERAL_BIRTH))
      ∙ ap (λ (x : List DeviceItem). all_told (description b).clock clocks x d.links d.objects d.rings) devices-same
      ∙ ap (λ (x : List LinkItem). all_told (description b).clock clocks (description b).devices x d.objects d.rings) links-same
      ∙ ap (λ (x : List ObjectItem). all_told (description b).clock clocks (description b).devices (description b).links x d.rings) objects-same
      ∙ ap (λ (x : List RingItem). all_told (description b).clock clocks (description b).devices (description b).links (description b).objects x)
      (ap (map ring_item) s.rings)
