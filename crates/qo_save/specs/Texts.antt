-- For laws alone. What is sent is read back (RFC 8259, "Strings", "Numbers", "Objects").
use Rattle.std.specs.Prelude.{◌≡◌, ℕ, ◌<◌, ◌≤◌, ◌^◌, negsuc, false, List, ◌∷◌, ◌++◌, map, codes, Some, IsUtf8, ⊤}
use Rattle.std.specs.List.{AllByRecursion}
use Rattle.std.specs.Str.{bytes_eq}
use Rattle.json.specs.Lex.{between, in_string, lex}
use Rattle.json.specs.Print.{escape}
use Rattle.json.specs.Text.{content, plain}
use Rattle.serde_json.specs.Data.{array, boolean, Data, depth, float, item, Items, member, Members, negative, no_items, no_members, null, Num, number, object, string, unsigned}
use Rattle.serde_json.specs.Read.{max_depth, read}
use Rattle.qo_json.specs.Order.{names_of, NamesRise}
use Rattle.qo_replies.specs.Json.{ascii, json}
use Rattle.qo_values.specs.declared.properties.Val.{Val}
use Rattle.qo_values.specs.declared.properties.Val.TheVariants as val
use Rattle.qo_model.specs.Objects.{Given}
use Rattle.qo_save.specs.Description.{ClockItem, ClockNumbers, Description, description_text, DeviceItem, LinkItem, ObjectItem, RingItem}
use Rattle.qo_save.specs.Shape.{description_from}

-- what is sent for a text, up to the quote that ends it: its content is the text, whatever follows, and a lexer passes over it
pub record IsReadBack (s : List ℕ) : Type 0 where
  pub said : (r : List ℕ) → content plain (ascii (escape s) ++ 34 ∷ r) ≡ Some s
  pub passed : (r : List ℕ) → lex in_string (ascii (escape s) ++ 34 ∷ r) ≡ lex between r

-- a text in UTF-8 is read back
abbrev pub TextsReadBack : Type 0
TextsReadBack = (s : List ℕ) → IsUtf8 s → IsReadBack s

-- a number that its digits say: whole and of 64 bits, with a sign where it is below 0 alone
abbrev pub IsExactNumber : Num → Type 0
IsExactNumber (unsigned n) = n < 2 ^ 64
IsExactNumber (negative z) = (n : ℕ) × ((z ≡ negsuc n) × (n < 2 ^ 63))
IsExactNumber (float x) = ⊥

-- a value that its text says: its numbers are such, its texts in UTF-8, and the names of each object rise
abbrev mutual
  pub IsExact : Data → Type 0
  IsExact null = ⊤
  IsExact (boolean b) = ⊤
  IsExact (number n) = IsExactNumber n
  IsExact (string s) = IsUtf8 s
  IsExact (array ds) = AreExact ds
  IsExact (object ms) = NamesRise (names_of ms) × HaveExact ms

  pub AreExact : Items → Type 0
  AreExact no_items = ⊤
  AreExact (item d ds) = IsExact d × AreExact ds

  pub HaveExact : Members → Type 0
  HaveExact no_members = ⊤
  HaveExact (member name d ms) = IsUtf8 name × (IsExact d × HaveExact ms)

-- such a value, no deeper than a text may be, is read back
abbrev pub ValuesReadBack : Type 0
ValuesReadBack = (d : Data) → IsExact d → depth d ≤ max_depth → read (json d) ≡ Some d

-- properties that a description says: each has a value that is told as it is, and none is the slot; their names rise
abbrev pub IsGivenBack : Val → Type 0
IsGivenBack (val.Bool b) = ⊤
IsGivenBack (val.Uint n) = n < 2 ^ 64
IsGivenBack (val.Int z) = (n : ℕ) × ((z ≡ negsuc n) × (n < 2 ^ 63))
IsGivenBack (val.Text text) = IsUtf8 text
IsGivenBack val.Nothing = ⊥

abbrev pub IsPropBack : Given → Type 0
IsPropBack p = IsUtf8 p.0 × (bytes_eq p.0 (codes "slot") ≡ false) × IsGivenBack p.1

abbrev pub ArePropsBack : List Given → Type 0
ArePropsBack props = NamesRise (map (λ (p : Given). p.0) props) × AllByRecursion IsPropBack props

-- a description whose numbers are of 64 bits, and whose texts are in UTF-8
abbrev pub AreClockNumbers : ClockNumbers → Type 0
AreClockNumbers c = (c.div < 2 ^ 64) × (c.mul < 2 ^ 64) × (c.period < 2 ^ 64)

abbrev pub IsClockItem : ClockItem → Type 0
IsClockItem c = (c.div < 2 ^ 64) × (c.mul < 2 ^ 64) × IsUtf8 c.path

abbrev pub IsDeviceItem : DeviceItem → Type 0
IsDeviceItem d = IsUtf8 d.bus × IsUtf8 d.driver × IsUtf8 d.id × ArePropsBack d.props × (d.slot < 2 ^ 64)

abbrev pub IsLinkItem : LinkItem → Type 0
IsLinkItem l = IsUtf8 l.path × IsUtf8 l.property × IsUtf8 l.value

abbrev pub IsObjectItem : ObjectItem → Type 0
IsObjectItem o = IsUtf8 o.id × ArePropsBack o.props × IsUtf8 o.kind

abbrev pub IsRingItem : RingItem → Type 0
IsRingItem r = IsUtf8 r.id × (r.size < 2 ^ 64)

pub record IsWritable (d : Description) : Type 0 where
  pub clock : AreClockNumbers d.clock
  pub clocks : AllByRecursion IsClockItem d.clocks
  pub devices : AllByRecursion IsDeviceItem d.devices
  pub links : AllByRecursion IsLinkItem d.links
  pub objects : AllByRecursion IsObjectItem d.objects
  pub rings : AllByRecursion IsRingItem d.rings

-- is read back
abbrev pub DescriptionsReadBack : Type 0
DescriptionsReadBack = (d : Description) → IsWritable d → description_from (description_text d) ≡ Some d
