-- Which JSON values a property takes, and how a property's value is sent.
use Rattle.std.specs.Prelude.{◌≡◌, Option, Some, None, Result, Ok, Err, ⊤}
use Rattle.serde_json.specs.Data.{Num, unsigned, negative, float, Data, null, boolean, number, string, array, object}
use Rattle.serde_json.specs.Find.{of_integer}
use Rattle.qo_values.specs.declared.plain.FromJson.{FromJson}
use Rattle.qo_values.specs.declared.plain.FromJson.TheVariants.{NotPlain, Memory}
use Rattle.qo_values.specs.declared.properties.Val.{Val}
use Rattle.qo_values.specs.declared.properties.Val.TheVariants as val

-- a whole number of 64 bits: below 0 as Int, from 0 up as Uint
abbrev pub whole_of : Num → Option Val
whole_of (unsigned n) = Some (val.Uint n)
whole_of (negative z) = Some (val.Int z)
whole_of (float x) = None

-- a truth value, a whole number or a text; null, a list and an object are no plain value
abbrev pub plain_of : Data → Option Val
plain_of null = None
plain_of (boolean b) = Some (val.Bool b)
plain_of (number n) = whole_of n
plain_of (string s) = Some (val.Text s)
plain_of (array _) = None
plain_of (object _) = None

-- the value as JSON; no value yet is null
abbrev pub data_of : Val → Data
data_of (val.Bool b) = boolean b
data_of (val.Int z) = number (of_integer z)
data_of (val.Uint n) = number (unsigned n)
data_of (val.Text s) = string s
data_of val.Nothing = null

-- what reading a plain value comes to: the value, a refusal exactly where there is none, or want of memory
abbrev pub ReadsPlain : Result Val FromJson → Option Val → Type 0
ReadsPlain (Ok val) defined = defined ≡ Some val
ReadsPlain (Err NotPlain) defined = defined ≡ None
ReadsPlain (Err Memory) defined = ⊤
