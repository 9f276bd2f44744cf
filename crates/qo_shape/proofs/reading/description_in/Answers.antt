-- Each part is read, or one of them is none.
use Rattle.std.proofs.Common.{◌≡◌, refl, ℕ, true, false, List, Err, ap, ◌∙◌, length, arith, rules}
use Rattle.std.specs.Prelude.{option_and_then}
use Rattle.std.proofs.lemmas.List.{length-map}
use Rattle.serde_json.specs.Data.{Data}
use Rattle.qo_json.proofs.MemberLemmas.{Member}
use Rattle.qo_json.specs.View.{view}
use Rattle.qo_save.specs.Description.{ClockItem, description_names, DeviceItem, LinkItem, ObjectItem, RingItem}
use Rattle.qo_save.specs.Shape as shape
use Rattle.qo_save.specs.Shape.{clock_in, clock_item_in, device_in, is_one, link_in, list_in, object_in, ring_in}
use Rattle.qo_shape.specs.Said.{numbers_said, said}
use Rattle.qo_shape.proofs.DescriptionLemmas.{of-parts, of-version}
use Rattle.qo_shape.proofs.ItemLemmas.{six-fifth, six-first, six-fourth, six-second, six-sixth, six-third}
use Rattle.qo_shape.proofs.ReadLemmas.{ordered-at, reads-err, values}
use Rattle.qo_shape.proofs.reading.description_in.Goals as goal

pub returns-in_err-members : goal.returns-in_err-members
returns-in_err-members c =
    let is : c.from_residual.result ≡ Err c.in_err-members.field-0.0 = search rules in
    reads-err said (λ (ms : List Data). ms) c.from_residual.result c.in_err-members.field-0.0 _ _ is c.in_err-members.ensures.values
    (λ none. ap (option_and_then shape.description_of) none)

pub returns-then-not-is_one : goal.returns-then-not-is_one
returns-then-not-is_one c =
    let many : length (values c.in_ok-members.members.now) ≡ 7 =
    length-map c.in_ok-members.members.now (λ (m : Member). view m.1) ∙ c.in_ok-members.ensures.many in
    let other : is_one (view c.value_at.result.now) ≡ false = search rules in
    of-version (view c.args.value.now) (values c.in_ok-members.members.now) (view c.value_at-clock.result.now) (view c.value_at-clocks.result.now)
    (view c.value_at-devices.result.now) (view c.value_at-links.result.now) (view c.value_at-objects.result.now) (view c.value_at-rings.result.now)
    (view c.value_at.result.now) c.in_ok-members.ensures.values many c.value_at-clock.ensures c.value_at-clocks.ensures c.value_at-devices.ensures
    c.value_at-links.ensures c.value_at-objects.ensures c.value_at-rings.ensures c.value_at.ensures other

pub returns-in_err-clock : goal.returns-in_err-clock
returns-in_err-clock c =
    let many : length (values c.in_ok-members.members.now) ≡ 7 =
    length-map c.in_ok-members.members.now (λ (m : Member). view m.1) ∙ c.in_ok-members.ensures.many in
    let one : is_one (view c.value_at.result.now) ≡ true = search rules in
    let is : c.from_residual-in_err-clock.result ≡ Err c.in_err-clock.field-0.0 = search rules in
    reads-err said numbers_said c.from_residual-in_err-clock.result c.in_err-clock.field-0.0 _ _ is c.in_err-clock.ensures
    (λ none. of-parts (view c.args.value.now) (values c.in_ok-members.members.now) (view c.value_at-clock.result.now) (view c.value_at-clocks.result.now)
    (view c.value_at-devices.result.now) (view c.value_at-links.result.now) (view c.value_at-objects.result.now) (view c.value_at-rings.result.now)
    (view c.value_at.result.now) c.in_ok-members.ensures.values many c.value_at-clock.ensures c.value_at-clocks.ensures c.value_at-devices.ensures
    c.value_at-links.ensures c.value_at-objects.ensures c.value_at-rings.ensures c.value_at.ensures one
    ∙ six-first shape.description (clock_in (view c.value_at-clock.result.now)) (list_in clock_item_in (view c.value_at-clocks.result.now))
    (list_in device_in (view c.value_at-devices.result.now)) (list_in link_in (view c.value_at-links.result.now))
    (list_in object_in (view c.value_at-objects.result.now)) (list_in ring_in (view c.value_at-rings.result.now)) none)

pub returns-in_err-clocks : goal.returns-in_err-clocks
returns-in_err-clocks c =
    let many : length (values c.in_ok-members.members.now) ≡ 7 =
    length-map c.in_ok-members.members.now (λ (m : Member). view m.1) ∙ c.in_ok-members.ensures.many in
    let one : is_one (view c.value_at.result.now) ≡ true = search rules in
    let is : c.from_residual-in_err-clocks.result ≡ Err c.in_err-clocks.field-0.0 = search rules in
    reads-err said (λ (items : List ClockItem). items) c.from_residual-in_err-clocks.result c.in_err-clocks.field-0.0 _ _ is c.in_err-clocks.ensures
    (λ none. of-parts (view c.args.value.now) (values c.in_ok-members.members.now) (view c.value_at-clock.result.now) (view c.value_at-clocks.result.now)
    (view c.value_at-devices.result.now) (view c.value_at-links.result.now) (view c.value_at-objects.result.now) (view c.value_at-rings.result.now)
    (view c.value_at.result.now) c.in_ok-members.ensures.values many c.value_at-clock.ensures c.value_at-clocks.ensures c.value_at-devices.ensures
    c.value_at-links.ensures c.value_at-objects.ensures c.value_at-rings.ensures c.value_at.ensures one
    ∙ six-second shape.description (clock_in (view c.value_at-clock.result.now)) (list_in clock_item_in (view c.value_at-clocks.result.now))
    (list_in device_in (view c.value_at-devices.result.now)) (list_in link_in (view c.value_at-links.result.now))
    (list_in object_in (view c.value_at-objects.result.now)) (list_in ring_in (view c.value_at-rings.result.now)) none)

pub returns-in_err-devices : goal.returns-in_err-devices
returns-in_err-devices c =
    let many : length (values c.in_ok-members.members.now) ≡ 7 =
    length-map c.in_ok-members.members.now (λ (m : Member). view m.1) ∙ c.in_ok-members.ensures.many in
    let one : is_one (view c.value_at.result.now) ≡ true = search rules in
    let is : c.from_residual-in_err-devices.result ≡ Err c.in_err-devices.field-0.0 = search rules in
    reads-err said (λ (items : List DeviceItem). items) c.from_residual-in_err-devices.result c.in_err-devices.field-0.0 _ _ is c.in_err-devices.ensures
    (λ none. of-parts (view c.args.value.now) (values c.in_ok-members.members.now) (view c.value_at-clock.result.now) (view c.value_at-clocks.result.now)
    (view c.value_at-devices.result.now) (view c.value_at-links.result.now) (view c.value_at-objects.result.now) (view c.value_at-rings.result.now)
    (view c.value_at.result.now) c.in_ok-members.ensures.values many c.value_at-clock.ensures c.value_at-clocks.ensures c.value_at-devices.ensures
    c.value_at-links.ensures c.value_at-objects.ensures c.value_at-rings.ensures c.value_at.ensures one
    ∙ six-third shape.description (clock_in (view c.value_at-clock.result.now)) (list_in clock_item_in (view c.value_at-clocks.result.now))
    (list_in device_in (view c.value_at-devices.result.now)) (list_in link_in (view c.value_at-links.result.now))
    (list_in object_in (view c.value_at-objects.result.now)) (list_in ring_in (view c.value_at-rings.result.now)) none)

pub returns-in_err-links : goal.returns-in_err-links
returns-in_err-links c =
    let many : length (values c.in_ok-members.members.now) ≡ 7 =
    length-map c.in_ok-members.members.now (λ (m : Member). view m.1) ∙ c.in_ok-members.ensures.many in
    let one : is_one (view c.value_at.result.now) ≡ true = search rules in
    let is : c.from_residual-in_err-links.result ≡ Err c.in_err-links.field-0.0 = search rules in
    reads-err said (λ (items : List LinkItem). items) c.from_residual-in_err-links.result c.in_err-links.field-0.0 _ _ is c.in_err-links.ensures
    (λ none. of-parts (view c.args.value.now) (values c.in_ok-members.members.now) (view c.value_at-clock.result.now) (view c.value_at-clocks.result.now)
    (view c.value_at-devices.result.now) (view c.value_at-links.result.now) (view c.value_at-objects.result.now) (view c.value_at-rings.result.now)
    (view c.value_at.result.now) c.in_ok-members.ensures.values many c.value_at-clock.ensures c.value_at-clocks.ensures c.value_at-devices.ensures
    c.value_at-links.ensures c.value_at-objects.ensures c.value_at-rings.ensures c.value_at.ensures one
    ∙ six-fourth shape.description (clock_in (view c.value_at-clock.result.now)) (list_in clock_item_in (view c.value_at-clocks.result.now))
    (list_in device_in (view c.value_at-devices.result.now)) (list_in link_in (view c.value_at-links.result.now))
    (list_in object_in (view c.value_at-objects.result.now)) (list_in ring_in (view c.value_at-rings.result.now)) none)

pub returns-in_err-objects : goal.returns-in_err-objects
returns-in_err-objects c =
    let many : length (values c.in_ok-members.members.now) ≡ 7 =
    length-map c.in_ok-members.members.now (λ (m : Member). view m.1) ∙ c.in_ok-members.ensures.many in
    let one : is_one (view c.value_at.result.now) ≡ true = search rules in
    let is : c.from_residual-in_err-objects.result ≡ Err c.in_err-objects.field-0.0 = search rules in
    reads-err said (λ (items : List ObjectItem). items) c.from_residual-in_err-objects.result c.in_err-objects.field-0.0 _ _ is c.in_err-objects.ensures
    (λ none. of-parts (view c.args.value.now) (values c.in_ok-members.members.now) (view c.value_at-clock.result.now) (view c.value_at-clocks.result.now)
    (view c.value_at-devices.result.now) (view c.value_at-links.result.now) (view c.value_at-objects.result.now) (view c.value_at-rings.result.now)
    (view c.value_at.result.now) c.in_ok-members.ensures.values many c.value_at-clock.ensures c.value_at-clocks.ensures c.value_at-devices.ensures
    c.value_at-links.ensures c.value_at-objects.ensures c.value_at-rings.ensures c.value_at.ensures one
    ∙ six-fifth shape.description (clock_in (view c.value_at-clock.result.now)) (list_in clock_item_in (view c.value_at-clocks.result.now))
    (list_in device_in (view c.value_at-devices.result.now)) (list_in link_in (view c.value_at-links.result.now))
    (list_in object_in (view c.value_at-objects.result.now)) (list_in ring_in (view c.value_at-rings.result.now)) none)

pub returns-in_err-rings : goal.returns-in_err-rings
returns-in_err-rings c =
    let many : length (values c.in_ok-members.members.now) ≡ 7 =
    length-map c.in_ok-members.members.now (λ (m : Member). view m.1) ∙ c.in_ok-members.ensures.many in
    let one : is_one (view c.value_at.result.now) ≡ true = search rules in
    let is : c.from_residual-in_err-rings.result ≡ Err c.in_err-rings.field-0.0 = search rules in
    reads-err said (λ (items : List RingItem). items) c.from_residual-in_err-rings.result c.in_err-rings.field-0.0 _ _ is c.in_err-rings.ensures
    (λ none. of-parts (view c.args.value.now) (values c.in_ok-members.members.now) (view c.value_at-clock.result.now) (view c.value_at-clocks.result.now)
    (view c.value_at-devices.result.now) (view c.value_at-links.result.now) (view c.value_at-objects.result.now) (view c.value_at-rings.result.now)
    (view c.value_at.result.now) c.in_ok-members.ensures.values many c.value_at-clock.ensures c.value_at-clocks.ensures c.value_at-devices.ensures
    c.value_at-links.ensures c.value_at-objects.ensures c.value_at-rings.ensures c.value_at.ensures one
    ∙ six-sixth shape.description (clock_in (view c.value_at-clock.result.now)) (list_in clock_item_in (view c.value_at-clocks.result.now))
    (list_in device_in (view c.value_at-devices.result.now)) (list_in link_in (view c.value_at-links.result.now))
    (list_in object_in (view c.value_at-objects.result.now)) (list_in ring_in (view c.value_at-rings.result.now)) none)

pub devices_in-requires : goal.devices_in-requires
devices_in-requires c =
    ordered-at description_names (view c.args.value.now) (values c.in_ok-members.members.now) 2 (view c.value_at-devices.result.now) c.requires c.in_ok-members.ensures.values
    c.value_at-devices.ensures

pub objects_in-requires : goal.objects_in-requires
objects_in-requires c =
    ordered-at description_names (view c.args.value.now) (values c.in_ok-members.members.now) 4 (view c.value_at-objects.result.now) c.requires c.in_ok-members.ensures.values
    c.value_at-objects.ensures

pub returns : goal.returns
returns c =
    let many : length (values c.in_ok-members.members.now) ≡ 7 =
    length-map c.in_ok-members.members.now (λ (m : Member). view m.1) ∙ c.in_ok-members.ensures.many in
    let one : is_one (view c.value_at.result.now) ≡ true = search rules in
    of-parts (view c.args.value.now) (values c.in_ok-members.members.now) (view c.value_at-clock.result.now) (view c.value_at-clocks.result.now)
    (view c.value_at-devices.result.now) (view c.value_at-links.result.now) (view c.value_at-objects.result.now) (view c.value_at-rings.result.now)
    (view c.value_at.result.now) c.in_ok-members.ensures.values many c.value_at-clock.ensures c.value_at-clocks.ensures c.value_at-devices.ensures
    c.value_at-links.ensures c.value_at-objects.ensures c.value_at-rings.ensures c.value_at.ensures one
    ∙ rw (c.in_ok-clock.ensures, c.in_ok-clocks.ensures, c.in_ok-devices.ensures, c.in_ok-links.ensures, c.in_ok-objects.ensures, c.in_ok-rings.ensures) refl
