-- Worked rows: the lines of all types, as the profile has them.
use Rattle.std.proofs.Common.{◌≡◌, refl, [], ◌∷◌, ◌++◌, map, codes}
use Rattle.qo_model.specs.Types.{type_line, types}

-- the lines of the types
lines-of-types :
    map type_line types
    ≡ (codes "object - abstract -" ++ 10 ∷ [])
    ∷ (codes "container object plain -" ++ 10 ∷ [])
    ∷ (codes "machine object plain hotplug-handler,resettable" ++ 10 ∷ [])
    ∷ (codes "device object abstract resettable" ++ 10 ∷ [])
    ∷ (codes "slot-device device abstract -" ++ 10 ∷ [])
    ∷ (codes "slot-uart slot-device plain -" ++ 10 ∷ [])
    ∷ (codes "slot-timer slot-device plain -" ++ 10 ∷ [])
    ∷ (codes "slot-bridge slot-device plain hotplug-handler" ++ 10 ∷ [])
    ∷ (codes "mem-dimm device plain -" ++ 10 ∷ [])
    ∷ (codes "bus object abstract resettable" ++ 10 ∷ [])
    ∷ (codes "slot-bus bus plain -" ++ 10 ∷ [])
    ∷ (codes "mem-bus bus plain -" ++ 10 ∷ [])
    ∷ (codes "clock object plain -" ++ 10 ∷ [])
    ∷ (codes "memory-backend object abstract user-creatable" ++ 10 ∷ [])
    ∷ (codes "memory-backend-ram memory-backend plain -" ++ 10 ∷ [])
    ∷ (codes "tag object plain user-creatable" ++ 10 ∷ [])
    ∷ []
unfolding types
lines-of-types = refl
