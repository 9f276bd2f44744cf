-- The texts and classes of the error codes.
use Rattle.std.specs.Prelude.{ℕ, List, codes}
use Rattle.qo_values.specs.declared.codes.Code.{Code}
use Rattle.qo_values.specs.declared.codes.Code.TheVariants.{E1, E2, E3, E4, E5, E6, E7, E8, E9, E10, E11, E12, E13, E14, E15, E16, E17, E18, E19, E20, E21, E22, E23, E24, E25, E26, E27, E28, E29, E30, E31, E32, E33, E34, E35, E36, E37, E38, E39, E40, E41, E42, E43, E44, E45, E46, E47, E48, E49, E50, E51, E52, E53, E54, E99}
use Rattle.qo_values.specs.declared.codes.Class.{Class}
use Rattle.qo_values.specs.declared.codes.Class.TheVariants.{CommandNotFound, DeviceNotFound, GenericError}

-- the text of `desc` in an error reply
abbrev pub description_of : Code → List ℕ
description_of E1 = codes "E1 not JSON"
description_of E2 = codes "E2 input outside an object"
description_of E3 = codes "E3 object broken off"
description_of E4 = codes "E4 object too long"
description_of E5 = codes "E5 object nested too deep"
description_of E6 = codes "E6 not a command"
description_of E7 = codes "E7 number not whole in 64 bits"
description_of E8 = codes "E8 negotiation expected"
description_of E9 = codes "E9 negotiation already done"
description_of E10 = codes "E10 unknown command"
description_of E11 = codes "E11 capability not offered"
description_of E12 = codes "E12 argument missing"
description_of E13 = codes "E13 argument unexpected"
description_of E14 = codes "E14 argument of wrong type"
description_of E15 = codes "E15 path not found"
description_of E16 = codes "E16 path ambiguous"
description_of E17 = codes "E17 property not found"
description_of E18 = codes "E18 property not writable"
description_of E19 = codes "E19 value does not fit"
description_of E20 = codes "E20 type unknown"
description_of E21 = codes "E21 type abstract"
description_of E22 = codes "E22 type not creatable here"
description_of E23 = codes "E23 id malformed"
description_of E24 = codes "E24 id taken"
description_of E25 = codes "E25 bus not found"
description_of E26 = codes "E26 bus of another kind"
description_of E27 = codes "E27 bus not pluggable"
description_of E28 = codes "E28 slot out of range"
description_of E29 = codes "E29 slot taken"
description_of E30 = codes "E30 bus full"
description_of E31 = codes "E31 link target of wrong type"
description_of E32 = codes "E32 object in use"
description_of E33 = codes "E33 device not found"
description_of E34 = codes "E34 removal pending"
description_of E35 = codes "E35 device not removable"
description_of E36 = codes "E36 ring not found"
description_of E37 = codes "E37 ring claimed"
description_of E38 = codes "E38 memory backend missing"
description_of E39 = codes "E39 memory backend claimed"
description_of E40 = codes "E40 memory range taken or outside"
description_of E41 = codes "E41 no memory gap"
description_of E42 = codes "E42 bridge too deep"
description_of E43 = codes "E43 too many objects"
description_of E44 = codes "E44 notices full"
description_of E45 = codes "E45 clock has a source"
description_of E46 = codes "E46 divider is 0"
description_of E47 = codes "E47 period overflow"
description_of E48 = codes "E48 reset depth"
description_of E49 = codes "E49 no such hold"
description_of E50 = codes "E50 object not detached"
description_of E51 = codes "E51 ring size not a power of two"
description_of E52 = codes "E52 bytes not ASCII"
description_of E53 = codes "E53 virtual time too large"
description_of E54 = codes "E54 guest line unreadable"
description_of E99 = codes "E99 out of memory"

-- the class of an error reply
abbrev pub class_of : Code → Class
class_of E8 = CommandNotFound
class_of E9 = CommandNotFound
class_of E10 = CommandNotFound
class_of E15 = DeviceNotFound
class_of E33 = DeviceNotFound
class_of _ = GenericError

-- a class's name, as a reply spells it
abbrev pub class_name : Class → List ℕ
class_name CommandNotFound = codes "CommandNotFound"
class_name DeviceNotFound = codes "DeviceNotFound"
class_name GenericError = codes "GenericError"
