use Rattle.std.proofs.Common.{◌≡◌, ◌+◌, ◌/◌, ◌++◌, pos, length, arith, rules, w32, ap₂, ◌∙◌}
use Rattle.std.proofs.lemmas.List.{take-append-drop}
use Rattle.std.proofs.lemmas.Int.{to_z-of_z}
use mir.Val.{SFits}
use Rattle.std.proofs.lemmas.Result.{IfOk-weaker}
use Rattle.qo_memmap.specs.Regions.{area_of, shows_at}
use Rattle.qo_memmap.specs.Windows.{areas_of}
use Rattle.qo_memmap.proofs.FlatLemmas.{alias-none, alias-part, child-none, child-layered, children-merged, region-joined, region-taken, region-blank, region-sound, region-named, region-ranged, region-places, region-size, window-limit, taken-falls}
use Rattle.qo_memmap.proofs.MergeLemmas.{are-higher}
use Rattle.qo_memmap.proofs.ShowLemmas.{places-take, places-drop}
use Rattle.qo_memmap.proofs.SpansLemmas.{layered-spans}
use Rattle.qo_memmap.proofs.flat.+flat.Goals as goal

-- an alias

pub alias_in-returns-in_default : goal.alias_in-returns-in_default
alias_in-returns-in_default t c =
    rw c.new.ensures.items (alias-none (shows_at (areas_of c.args.below.now)) c.args.window c.args.region c.args.offset c.index-below-region.result.size
    c.in_default.ensures (region-blank c.args.below.now c.args.region c.index-below-region.result c.requires.named c.index-below-region.is))

pub alias_in-region_in-requires : goal.alias_in-region_in-requires
alias_in-region_in-requires t c = (
  taken-falls c.args.below.now c.args.region t c.requires.named (omega (arith, c.decreases)),
  (
    region-sound c.args.below.now c.args.region c.requires.named c.requires.sound,
    (
      region-named c.args.below.now c.args.region c.index-below-region.result c.requires.named c.index-below-region.is c.requires.sound,
      (
        region-ranged c.args.below.now c.args.region c.index-below-region.result c.requires.named c.index-below-region.is c.requires.sound,
        c.in-Some.ensures.fits,
      ),
    ),
  ),
)

pub alias_in-returns : goal.alias_in-returns
alias_in-returns t c =
    IfOk-weaker c.region_in.result _ _
    (λ spans shows. alias-part (shows_at (areas_of c.args.below.now)) c.args.window c.in-Some.part c.args.region c.args.offset c.index-below-region.result.size spans.items
    c.in-Some.ensures (region-blank c.args.below.now c.args.region c.index-below-region.result c.requires.named c.index-below-region.is)
    (region-taken c.args.below.now c.args.region c.index-below-region.result c.in-Some.part (c.in-Some.part.at + c.in-Some.part.size) spans.items
    c.requires.sound c.requires.named c.index-below-region.is shows))
    c.region_in.ensures

-- a child

pub child_in-child_window-requires-clause-size : goal.child_in-child_window-requires-clause-size
child_in-child_window-requires-clause-size t c =
    region-size c.index-below-number.result
    (region-ranged c.args.below.now c.args.place.region c.index-below-number.result c.requires.named c.index-below-number.is c.requires.sound)

pub child_in-returns-in_default : goal.child_in-returns-in_default
child_in-returns-in_default t c =
    rw c.new.ensures.items (child-none (shows_at (areas_of c.args.below.now)) c.args.window c.args.place c.index-below-number.result.size
    c.in_default.ensures (region-blank c.args.below.now c.args.place.region c.index-below-number.result c.requires.named c.index-below-number.is))

pub child_in-region_in-requires : goal.child_in-region_in-requires
child_in-region_in-requires t c = (
  taken-falls c.args.below.now c.args.place.region t c.requires.named (omega (arith, c.decreases)),
  (
    region-sound c.args.below.now c.args.place.region c.requires.named c.requires.sound,
    (
      region-named c.args.below.now c.args.place.region c.index-below-number.result c.requires.named c.index-below-number.is c.requires.sound,
      (
        region-ranged c.args.below.now c.args.place.region c.index-below-number.result c.requires.named c.index-below-number.is c.requires.sound,
        c.in-Some.ensures.fits,
      ),
    ),
  ),
)

pub child_in-returns : goal.child_in-returns
child_in-returns t c =
    let fits : SFits w32 c.args.place.priority = search rules in
    IfOk-weaker c.layered.result _ _
    (λ layers is. child-layered (shows_at (areas_of c.args.below.now)) c.args.window c.in-Some.part c.args.place
    c.index-below-number.result.size c.in_ok-spans.spans.items c.deref.result.now layers.items c.in-Some.ensures
    (region-blank c.args.below.now c.args.place.region c.index-below-number.result c.requires.named c.index-below-number.is)
    (region-taken c.args.below.now c.args.place.region c.index-below-number.result c.in-Some.part (c.in-Some.part.at + c.in-Some.part.size)
    c.in_ok-spans.spans.items c.requires.sound c.requires.named c.index-below-number.is c.in_ok-spans.ensures) c.deref.ensures.value is)
    (simp to_z-of_z at c.layered.ensures)

-- children

pub children_in-children_in-requires : goal.children_in-children_in-requires
children_in-children_in-requires t c = (
  omega (arith, c.split_at.ensures.front_len, c.decreases),
  (c.requires.sound, (rw c.split_at.ensures.front (places-take (length c.args.below.now) (length c.args.places.now / 2) c.args.places.now c.requires.places), c.requires.window)),
)

pub children_in-children_in-requires-then-places-gt1 : goal.children_in-children_in-requires-then-places-gt1
children_in-children_in-requires-then-places-gt1 t c = (
  omega (arith, c.split_at.ensures.back_len, c.decreases),
  (c.requires.sound, (rw c.split_at.ensures.back (places-drop (length c.args.below.now) (length c.args.places.now / 2) c.args.places.now c.requires.places), c.requires.window)),
)

pub children_in-returns-then-places-gt1 : goal.children_in-returns-then-places-gt1
children_in-returns-then-places-gt1 t c =
    let whole : c.split_at.result.0.now ++ c.split_at.result.1.now ≡ c.args.places.now =
    ap₂ (λ xs ys. xs ++ ys) c.split_at.ensures.front c.split_at.ensures.back ∙ take-append-drop (length c.args.places.now / 2) c.args.places.now in
    IfOk-weaker c.merge.result _ _
    (λ layers is. rw (← whole) (children-merged (shows_at (areas_of c.args.below.now)) c.args.window c.split_at.result.0.now c.split_at.result.1.now
    c.in_ok-first.first.items c.in_ok-later.later.items layers.items c.in_ok-first.ensures c.in_ok-later.ensures is))
    c.merge.ensures

-- a region

pub region_in-children_in-requires : goal.region_in-children_in-requires
region_in-children_in-requires t c = (
  omega (arith, c.deref.type_inv, c.decreases),
  (
    c.requires.sound,
    (
      rw c.deref.ensures.value (region-places (length c.args.below.now) (area_of c.args.region.now) c.requires.named c.requires.ranged),
      window-limit c.args.window c.args.region.now.size (region-size c.args.region.now c.requires.ranged) c.requires.window,
    ),
  ),
)

pub region_in-merge-requires-clause-first : goal.region_in-merge-requires-clause-first
region_in-merge-requires-clause-first t c =
    rw (c.in_ok-itself-2.ensures, c.deref-2.ensures.value, layered-spans (pos 0) c.in_ok-itself.itself.items) c.in_ok-itself.ensures.are

pub region_in-joined-requires : goal.region_in-joined-requires
region_in-joined-requires t c =
    rw c.deref-3.ensures.value
    (are-higher (c.args.window.at + c.args.window.size) _ c.in_ok-merged.merged.items c.requires.window.below c.in_ok-merged.ensures.are)

pub region_in-returns : goal.region_in-returns
region_in-returns t c =
    IfOk-weaker c.joined.result _ _
    (λ spans joins. region-joined (shows_at (areas_of c.args.below.now)) c.args.window (area_of c.args.region.now) c.in_ok-itself.itself.items spans.items
    c.in_ok-children.children.items c.in_ok-merged.merged.items (pos 0) c.requires.window c.in_ok-itself.ensures
    (rw c.deref.ensures.value at c.in_ok-children.ensures)
    (rw (c.in_ok-itself-2.ensures, c.deref-2.ensures.value) at c.in_ok-merged.ensures)
    (rw c.deref-3.ensures.value at joins))
    c.joined.ensures
