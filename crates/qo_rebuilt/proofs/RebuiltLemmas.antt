-- A good description is rebuilt: its clock, its rings, its users' objects, its devices, their clocks and the links, one after another.
use Rattle.std.proofs.Common.{◌≡◌, refl, suc, [], ap, ◌∙◌, List, ◌++◌, map, Some}
use Rattle.std.specs.List.{flat_map}
use Rattle.qo_model.proofs.Common.{type_name, SlotBridge, Board, opening_board}
use Rattle.qo_values.proofs.ListLemmas.{all-imply}
use Rattle.qo_save.specs.Described.{described}
use Rattle.qo_save.specs.Description.{Description, DeviceItem}
use Rattle.qo_save.specs.Rebuilding.{add_device, add_object, add_ring, clock_steps, factor_steps, rebuilt, set_link, Step, steps_of}
use Rattle.qo_save.specs.Rows.{opening_row}
use Rattle.qo_good.specs.Good.{bus_path, Good, IsBridgeLaid}
use Rattle.qo_good.specs.GoodBoards.{IsWhole}
use Rattle.qo_good.proofs.GoodLemmas.{good_lem}
use Rattle.qo_alike.specs.AlikeBoards.{TellsTypes}
use Rattle.qo_alike.proofs.AlikeLemmas.{alike_lem}
use Rattle.qo_rebuilt.specs.Made.{Makes}
use Rattle.qo_rebuilt.specs.Rebuilt.{DevicesMade, IsRebuilt, RebuiltLaw}
use Rattle.qo_rebuilt.proofs.ClockLemmas.{then-done}
use Rattle.qo_rebuilt.proofs.DevicesLawLemmas.{devices-still, devices_made_lem}
use Rattle.qo_rebuilt.proofs.FrontLemmas.{factors_made_lem}
use Rattle.qo_rebuilt.proofs.LinkLemmas.{links_made_lem}
use Rattle.qo_rebuilt.proofs.ObjectLemmas.{objects_made_lem}
use Rattle.qo_rebuilt.proofs.RingLemmas.{then_all}
use Rattle.qo_rebuilt.proofs.TypesLawLemmas.{types_told_lem}

-- commands after others
makes-then : (first more : List Step) (b : Board) (d e : Description) (m : Makes first b d) → Makes more m.board e → Makes (first ++ more) b e
makes-then first more b d e m n =
    record { board = n.board; taken = then-done first more b ∙ ap (then_all more) m.taken ∙ n.taken; tells = n.tells }

-- ---- the devices of a good description

-- they are good by their places, whatever is said of clocks and links, and so they are added
devices-made : DevicesMade
devices-made d good b h =
    devices_made_lem.devices b (record d { devices = []; clocks = []; links = [] }) good.layout d.devices h refl refl
    (record {
      devices = devices-still d d.devices [] [] good.layout [] d.devices good.laid.devices;
      root = good.laid.root_depth;
      bridges =
          all-imply (λ (y : DeviceItem). y.driver ≡ type_name SlotBridge → IsBridgeLaid good.layout y)
          (λ (y : DeviceItem). y.driver ≡ type_name SlotBridge → good.layout.depth (bus_path y.id) ≡ suc (good.layout.depth y.bus))
          (λ y laid named. (laid named).depth) d.devices good.laid.bridges;
    }) good.device_ids good.room

-- ---- all together

good-made : (d : Description) → Good d → Makes (steps_of d) opening_board d
good-made d good =
    let begun : List Step = clock_steps d.clock ++ map add_ring d.rings ++ map add_object d.objects in
    let first : Makes begun opening_board (record opening_row { clock = d.clock; rings = d.rings; objects = d.objects }) =
    objects_made_lem.after_rings d good in
    let second : Makes (map add_device d.devices) first.board (record d { clocks = []; links = [] }) =
    devices-made d good first.board first.tells in
    let joined : Makes (begun ++ map add_device d.devices) opening_board (record d { clocks = []; links = [] }) =
    makes-then begun (map add_device d.devices) opening_board (record opening_row { clock = d.clock; rings = d.rings; objects = d.objects })
    (record d { clocks = []; links = [] }) first second in
    let third : Makes (flat_map factor_steps d.clocks) joined.board (record d { links = [] }) = factors_made_lem.factors d good joined.board joined.tells in
    let scaled : Makes (begun ++ map add_device d.devices ++ flat_map factor_steps d.clocks) opening_board (record d { links = [] }) =
    makes-then (begun ++ map add_device d.devices) (flat_map factor_steps d.clocks) opening_board (record d { clocks = []; links = [] })
    (record d { links = [] }) joined third in
    makes-then (begun ++ map add_device d.devices ++ flat_map factor_steps d.clocks) (map set_link d.links) opening_board (record d { links = [] }) d
    scaled (links_made_lem.links d good scaled.board scaled.tells)

rebuilt-again : (b : Board) (d : Description) → IsWhole b → TellsTypes b → described b ≡ Some d → IsRebuilt b d
unfolding rebuilt
rebuilt-again b d h types says =
    let made : Makes (steps_of d) opening_board d = good-made d (good_lem.good b d h says) in
    let told : TellsTypes made.board = types_told_lem.rebuilt_so d made.board made.taken made.tells.whole in
    record {
      board = made.board;
      taken = made.taken;
      alike = alike_lem.alike b made.board d h types made.tells.whole told says made.tells.says;
      same = made.tells.says;
    }

pub rebuilt_lem : RebuiltLaw
rebuilt_lem = record { made = good-made; again = rebuilt-again }
