use Rattle.std.proofs.Common.{◌<◌, ◌+◌, length}
use Rattle.std.proofs.lemmas.Result.{IfOk-weaker}
use Rattle.qo_memmap.proofs.FlatLemmas.{region-sound, region-named, region-ranged, region-taken}
use Rattle.qo_memmap.proofs.MapLemmas.{whole-fits, whole-flat, whole_window}
use Rattle.qo_memmap.proofs.ShowLemmas.{areas-length}
use Rattle.qo_memmap.proofs.map.Map.flat.Goals as goal

pub region_in-requires-clause-sound : goal.region_in-requires-clause-sound
region_in-requires-clause-sound c =
    let there : c.args.root < length c.self.inside.regions.items = rw (← areas-length c.self.inside.regions.items, c.self.view_is) c.requires in
    rw c.deref.ensures.value (region-sound c.self.inside.regions.items c.args.root there c.self.invariant.sound)

pub region_in-requires-clause-named : goal.region_in-requires-clause-named
region_in-requires-clause-named c =
    let there : c.args.root < length c.self.inside.regions.items = rw (← areas-length c.self.inside.regions.items, c.self.view_is) c.requires in
    rw c.deref.ensures.value
    (region-named c.self.inside.regions.items c.args.root c.index-region.result.now there c.index-region.ensures c.self.invariant.sound)

pub region_in-requires-clause-ranged : goal.region_in-requires-clause-ranged
region_in-requires-clause-ranged c =
    let there : c.args.root < length c.self.inside.regions.items = rw (← areas-length c.self.inside.regions.items, c.self.view_is) c.requires in
    region-ranged c.self.inside.regions.items c.args.root c.index-region.result.now there c.index-region.ensures c.self.invariant.sound

pub region_in-requires-clause-window : goal.region_in-requires-clause-window
region_in-requires-clause-window c =
    let there : c.args.root < length c.self.inside.regions.items = rw (← areas-length c.self.inside.regions.items, c.self.view_is) c.requires in
    whole-fits c.index-region.result.now
    (region-ranged c.self.inside.regions.items c.args.root c.index-region.result.now there c.index-region.ensures c.self.invariant.sound)

pub returns-clause-view : goal.returns-clause-view
returns-clause-view c =
    let there : c.args.root < length c.self.inside.regions.items = rw (← areas-length c.self.inside.regions.items, c.self.view_is) c.requires in
    rw (← c.self.view_is) (IfOk-weaker c.region_in.result _ _
    (λ spans shows. whole-flat c.self.inside.regions.items c.args.root c.index-region.result.now (0 + c.index-region.result.now.size) spans.items there c.index-region.ensures
    (region-taken c.self.inside.regions.items c.args.root c.index-region.result.now (whole_window c.index-region.result.now.size) (0 + c.index-region.result.now.size) spans.items
    c.self.invariant.sound there c.index-region.ensures shows))
    (rw c.deref.ensures.value at c.region_in.ensures))

pub returns-clause-fit : goal.returns-clause-fit
returns-clause-fit c = IfOk-weaker c.region_in.result _ _ (λ spans shows. shows.are.fit) c.region_in.ensures
