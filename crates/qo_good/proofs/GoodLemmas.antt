-- The law: the description of a sound board in order is good.
use Rattle.std.proofs.Common.{◌≡◌, refl, subst, Bool, true, false, Some, None}
use Rattle.std.proofs.lemmas.Option.{same_Some}
use Rattle.qo_model.proofs.Common.{Board}
use Rattle.qo_save.specs.Described.{described, description, is_describable}
use Rattle.qo_save.specs.Description.{Description}
use Rattle.qo_good.specs.Good.{Good}
use Rattle.qo_good.specs.GoodBoards.{GoodLaw, IsWhole}
use Rattle.qo_good.proofs.DeviceLemmas.{laid-out}
use Rattle.qo_good.proofs.LayoutLemmas.{l}
use Rattle.qo_good.proofs.LinkLemmas.{device_ids-good, links-good, object_ids-good}
use Rattle.qo_good.proofs.RoomLemmas.{room-good}
use Rattle.qo_good.proofs.ObjectLemmas.{clock-good, objects-good, ring_ids-good, rings-good}

good : (b : Board) → IsWhole b → is_describable b ≡ true → Good (description b)
good b h says =
    record {
      clock = clock-good b h;
      rings = rings-good b h;
      ring_ids = ring_ids-good b h;
      objects = objects-good b h;
      object_ids = object_ids-good b h.order;
      device_ids = device_ids-good b h.order;
      layout = l b h says;
      laid = laid-out b h says;
      links = links-good b h.order says;
      room = room-good b h says;
    }

good-so : (b : Board) (d : Description) → IsWhole b → described b ≡ Some d → Good d
unfolding described
good-so b d h e = go (is_describable b) refl
  where
    go : (t : Bool) → is_describable b ≡ t → Good d
    go true q = subst Good (same_Some (description b) d (rw q at e)) (good b h q)
    go false q = absurd (let clash : None ≡ Some d = rw q at e in cc)

pub good_lem : GoodLaw
good_lem = record { good = good-so }
