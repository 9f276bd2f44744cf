-- A description is read back from its text.
use Rattle.std.proofs.Common.{◌≡◌, ◌≤◌, ℕ, suc, ℤ, true, List, [], ◌∷◌, map, Option, Some, option_and_then, codes, refl, sym, ap, ap₂, ◌∙◌, subst, arith, IsUtf8}
use Rattle.std.specs.Prelude.{max}
use Rattle.std.specs.List.{AllByRecursion}
use Rattle.std.specs.List.Sorted.{IsStrictlySortedBy}
use Rattle.std.proofs.lemmas.Str.{IsUtf8-from_ascii}
use Rattle.serde_json.specs.Data.{Data, depth, members_depth, object}
use Rattle.serde_json.specs.Read.{max_depth}
use Rattle.qo_json.specs.Order.{names_of, NamesRise}
use Rattle.qo_values.specs.PlainValues.{data_of, plain_of}
use Rattle.qo_values.specs.declared.properties.Val.{Val}
use Rattle.qo_values.specs.declared.properties.Val.TheVariants as val
use Rattle.qo_model.specs.Objects.{Given}
use Rattle.qo_replies.proofs.QuoteLemmas.{small, small-ascii}
use Rattle.qo_save.specs.Description.{clock_data, clock_item_data, clock_item_names, ClockItem, clock_names, ClockNumbers, Description, description_data, description_names, device_data, device_names, DeviceItem, link_data, link_names, LinkItem, listed, object_data, object_names, ObjectItem, props_members, ring_data, ring_names, RingItem}
use Rattle.qo_save.specs.Shape.{clock_item_in, description_in, device_in, link_in, list_in, object_in, props_of, ring_in}
use Rattle.qo_save.specs.Texts.{AreClockNumbers, ArePropsBack, DescriptionsReadBack, HaveExact, IsClockItem, IsDeviceItem, IsExact, IsGivenBack, IsLinkItem, IsObjectItem, IsPropBack, IsRingItem, IsWritable}
use Rattle.qo_save.proofs.ValueLemmas.{values_lem}

-- ---- of JSON as it is written

value_back : (v : Val) → IsGivenBack v → plain_of (data_of v) ≡ Some v
value_back (val.Bool b) h = refl
value_back (val.Uint n) h = refl
value_back (val.Int z) h = subst (λ (y : ℤ). plain_of (data_of (val.Int y)) ≡ Some (val.Int y)) (sym h.1.0) refl
value_back (val.Text text) h = refl
value_back val.Nothing h = absurd h

props_back : (props : List Given) → AllByRecursion IsPropBack props → props_of (props_members props) ≡ Some props
props_back [] h = refl
props_back ((name, v) ∷ props) h = rw (h.0.1, value_back v h.0.2, props_back props h.1) refl

list_back : {X : Type 0} (f : Data → Option X) (g : X → Data) (P : X → Type 0) → ((x : X) → P x → f (g x) ≡ Some x) → (xs : List X) → AllByRecursion P xs
    → list_in f (listed g xs) ≡ Some xs
list_back f g P back [] h = refl
list_back f g P back (x ∷ xs) h = rw (back x h.0, list_back f g P back xs h.1) refl

device_back : (d : DeviceItem) → IsDeviceItem d → device_in (device_data d) ≡ Some d
device_back d h = rw (props_back d.props h.3.1) refl

object_back : (o : ObjectItem) → IsObjectItem o → object_in (object_data o) ≡ Some o
object_back o h = rw (props_back o.props h.1.1) refl

description_back : (d : Description) → IsWritable d → description_in (description_data d) ≡ Some d
description_back d w =
    rw (
      list_back clock_item_in clock_item_data IsClockItem (λ c h. refl) d.clocks w.clocks,
      list_back device_in device_data IsDeviceItem device_back d.devices w.devices,
      list_back link_in link_data IsLinkItem (λ l h. refl) d.links w.links,
      list_back object_in object_data IsObjectItem object_back d.objects w.objects,
      list_back ring_in ring_data IsRingItem (λ r h. refl) d.rings w.rings,
    ) refl

-- ---- how deep it is

value_deep : (v : Val) → depth (data_of v) ≡ 0
value_deep (val.Bool b) = refl
value_deep (val.Uint n) = refl
value_deep (val.Int z) = refl
value_deep (val.Text text) = refl
value_deep val.Nothing = refl

props_deep : (props : List Given) → members_depth (props_members props) ≡ 0
props_deep [] = refl
props_deep (p ∷ props) = ap₂ max (value_deep p.1) (props_deep props)

list_deep : {X : Type 0} (g : X → Data) (n : ℕ) → ((x : X) → depth (g x) ≤ n) → (xs : List X) → depth (listed g xs) ≤ suc n
list_deep g n each [] = omega arith
list_deep g n each (x ∷ xs) = omega (arith, each x, list_deep g n each xs)

device_deep : (d : DeviceItem) → depth (device_data d) ≤ 2
device_deep d = rw (props_deep d.props) (omega arith)

object_deep : (o : ObjectItem) → depth (object_data o) ≤ 2
object_deep o = rw (props_deep o.props) (omega arith)

deeper : (a b n : ℕ) → a ≤ n → b ≤ n → max a b ≤ n
deeper a b n h k = omega (arith, h, k)

up : (a b : ℕ) → a ≤ b → suc a ≤ suc b
up a b h = omega arith

description_deep : (d : Description) → depth (description_data d) ≤ 4
description_deep d =
    let clocks : depth (listed clock_item_data d.clocks) ≤ 3 = omega (arith, list_deep clock_item_data 1 (λ c. omega arith) d.clocks) in
    let devices : depth (listed device_data d.devices) ≤ 3 = list_deep device_data 2 device_deep d.devices in
    let links : depth (listed link_data d.links) ≤ 3 = omega (arith, list_deep link_data 1 (λ l. omega arith) d.links) in
    let objects : depth (listed object_data d.objects) ≤ 3 = list_deep object_data 2 object_deep d.objects in
    let rings : depth (listed ring_data d.rings) ≤ 3 = omega (arith, list_deep ring_data 1 (λ r. omega arith) d.rings) in
    up _ 3
    (deeper (depth (clock_data d.clock)) _ 3 (omega arith)
    (deeper _ _ 3 clocks (deeper _ _ 3 devices (deeper _ _ 3 links (deeper _ _ 3 objects (deeper _ _ 3 rings (omega arith)))))))

shallow : (n : ℕ) → n ≤ 4 → n ≤ max_depth
shallow n h = omega arith

-- ---- that its text says it

literal : (text : List ℕ) → small text ≡ true → IsUtf8 text
literal text h = IsUtf8-from_ascii text (small-ascii text h)

value_exact : (v : Val) → IsGivenBack v → IsExact (data_of v)
value_exact (val.Bool b) h = tt
value_exact (val.Uint n) h = h
value_exact (val.Int z) h = subst (λ (y : ℤ). IsExact (data_of (val.Int y))) (sym h.1.0) (h.0, (refl, h.1.1))
value_exact (val.Text text) h = h
value_exact val.Nothing h = absurd h

props_names : (props : List Given) → names_of (props_members props) ≡ map (λ (p : Given). p.0) props
props_names [] = refl
props_names (p ∷ props) = ap (λ (ns : List (List ℕ)). p.0 ∷ ns) (props_names props)

props_values : (props : List Given) → AllByRecursion IsPropBack props → HaveExact (props_members props)
props_values [] h = tt
props_values (p ∷ props) h = (h.0.0, (value_exact p.1 h.0.2, props_values props h.1))

props_exact : (props : List Given) → ArePropsBack props → IsExact (object (props_members props))
props_exact props h = (subst NamesRise (sym (props_names props)) h.0, props_values props h.1)

list_exact : {X : Type 0} (g : X → Data) (P : X → Type 0) → ((x : X) → P x → IsExact (g x)) → (xs : List X) → AllByRecursion P xs → IsExact (listed g xs)
list_exact g P exact [] h = tt
list_exact g P exact (x ∷ xs) h = (exact x h.0, list_exact g P exact xs h.1)

clock_rise : NamesRise clock_names
unfolding IsStrictlySortedBy
clock_rise = ((refl, (refl, tt)), ((refl, tt), (tt, tt)))

clock_item_rise : NamesRise clock_item_names
unfolding IsStrictlySortedBy
clock_item_rise = ((refl, (refl, tt)), ((refl, tt), (tt, tt)))

device_rise : NamesRise device_names
unfolding IsStrictlySortedBy
device_rise = ((refl, (refl, (refl, (refl, tt)))), ((refl, (refl, (refl, tt))), ((refl, (refl, tt)), ((refl, tt), (tt, tt)))))

link_rise : NamesRise link_names
unfolding IsStrictlySortedBy
link_rise = ((refl, (refl, tt)), ((refl, tt), (tt, tt)))

object_rise : NamesRise object_names
unfolding IsStrictlySortedBy
object_rise = ((refl, (refl, tt)), ((refl, tt), (tt, tt)))

ring_rise : NamesRise ring_names
unfolding IsStrictlySortedBy
ring_rise = ((refl, tt), (tt, tt))

description_rise : NamesRise description_names
unfolding IsStrictlySortedBy
description_rise = (
  (refl, (refl, (refl, (refl, (refl, (refl, tt)))))),
  (
    (refl, (refl, (refl, (refl, (refl, tt))))),
    ((refl, (refl, (refl, (refl, tt)))), ((refl, (refl, (refl, tt))), ((refl, (refl, tt)), ((refl, tt), (tt, tt))))),
  ),
)

clock_exact : (c : ClockNumbers) → AreClockNumbers c → IsExact (clock_data c)
clock_exact c h =
    (clock_rise, (literal (codes "div") refl, (h.0, (literal (codes "mul") refl, (h.1, (literal (codes "period") refl, (h.2, tt)))))))

clock_item_exact : (c : ClockItem) → IsClockItem c → IsExact (clock_item_data c)
clock_item_exact c h =
    (clock_item_rise, (literal (codes "div") refl, (h.0, (literal (codes "mul") refl, (h.1, (literal (codes "path") refl, (h.2, tt)))))))

device_exact : (d : DeviceItem) → IsDeviceItem d → IsExact (device_data d)
device_exact d h = (
  device_rise,
  (
    literal (codes "bus") refl,
    (
      h.0,
      (
        literal (codes "driver") refl,
        (
          h.1,
          (
            literal (codes "id") refl,
            (
              h.2,
              (
                literal (codes "props") refl,
                (props_exact d.props h.3, (literal (codes "slot") refl, (h.4, tt))),
              ),
            ),
          ),
        ),
      ),
    ),
  ),
)

link_exact : (l : LinkItem) → IsLinkItem l → IsExact (link_data l)
link_exact l h =
    (link_rise, (literal (codes "path") refl, (h.0, (literal (codes "property") refl, (h.1, (literal (codes "value") refl, (h.2, tt)))))))

object_exact : (o : ObjectItem) → IsObjectItem o → IsExact (object_data o)
object_exact o h =
    (object_rise, (literal (codes "id") refl, (h.0, (literal (codes "props") refl, (props_exact o.props h.1, (literal (codes "type") refl, (h.2, tt)))))))

ring_exact : (r : RingItem) → IsRingItem r → IsExact (ring_data r)
ring_exact r h = (ring_rise, (literal (codes "id") refl, (h.0, (literal (codes "size") refl, (h.1, tt)))))

description_exact : (d : Description) → IsWritable d → IsExact (description_data d)
description_exact d w = (
  description_rise,
  (
    literal (codes "clock") refl,
    (
      clock_exact d.clock w.clock,
      (
        literal (codes "clocks") refl,
        (
          list_exact clock_item_data IsClockItem clock_item_exact d.clocks w.clocks,
          (
            literal (codes "devices") refl,
            (
              list_exact device_data IsDeviceItem device_exact d.devices w.devices,
              (
                literal (codes "links") refl,
                (
                  list_exact link_data IsLinkItem link_exact d.links w.links,
                  (
                    literal (codes "objects") refl,
                    (
                      list_exact object_data IsObjectItem object_exact d.objects w.objects,
                      (
                        literal (codes "rings") refl,
                        (list_exact ring_data IsRingItem ring_exact d.rings w.rings, (literal (codes "version") refl, (omega arith, tt))),
                      ),
                    ),
                  ),
                ),
              ),
            ),
          ),
        ),
      ),
    ),
  ),
)

pub descriptions_lem : DescriptionsReadBack
descriptions_lem d w =
    ap (option_and_then description_in) (values_lem (description_data d) (description_exact d w) (shallow (depth (description_data d)) (description_deep d)))
    ∙ description_back d w
