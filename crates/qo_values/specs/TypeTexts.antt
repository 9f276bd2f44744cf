-- What is told of the type of a property (QEMU's QAPI, `ObjectPropertyInfo`; the texts are the profile's).
use Rattle.std.specs.Prelude.{ℕ, List, [], ◌++◌, codes}
use Rattle.qo_values.specs.Kinds.{type_name}
use Rattle.qo_values.specs.declared.kinds.TypeId.{TypeId}
use Rattle.qo_values.specs.declared.properties.PropType.{PropType}
use Rattle.qo_values.specs.declared.properties.PropType.TheVariants as ty
use Rattle.qo_values.specs.declared.type_texts.TypeText.{TypeText}
use Rattle.qo_values.specs.declared.type_texts.TypeText.TheVariants.{Value, Child, Link, Nothing}

-- the word for the values of a type
abbrev pub value_word : PropType → List ℕ
value_word ty.Bool = codes "bool"
value_word (ty.Int lo hi) = codes "int64"
value_word (ty.Uint lo hi step) = codes "uint64"
value_word ty.Text = codes "string"

-- a word around a type's name, as `child<clock>`
abbrev pub around : List ℕ → TypeId → List ℕ
around word t = word ++ codes "<" ++ type_name t ++ codes ">"

-- the text itself
abbrev pub text_of : TypeText → List ℕ
text_of (Value type) = value_word type
text_of (Child t) = around (codes "child") t
text_of (Link t) = around (codes "link") t
text_of Nothing = []
