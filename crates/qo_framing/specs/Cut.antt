-- The cut of a byte stream into items (QMP specification 2.3, Issuing Commands, and 2.6; the limits and the skipping of junk are the profile's own).
use Rattle.std.specs.Prelude.{ℕ, zero, suc, ◌+◌, ◌-◌, ◌*◌, ◌==◌, if◌then◌else◌, List, [], ◌∷◌, ◌++◌, length, take, drop, Option, Some, None, option_to_list}
use Rattle.qo_framing.specs.Classes.{is_passed, ends_skipping}
use Rattle.qo_framing.specs.Fronts.{End, end_after}
use Rattle.qo_framing.specs.declared.items.Item.{Item}
use Rattle.qo_framing.specs.declared.items.Item.TheVariants as item
use Rattle.qo_framing.specs.declared.scanner.Ending.{Ending}
use Rattle.qo_framing.specs.declared.scanner.Ending.TheVariants.{Whole, Broken, TooLong, TooDeep}

-- where a stream stands: between objects, inside one with these bytes so far, or skipping to the end of a line
pub data Framing : Type 0 where
  between : Framing
  inside : List ℕ → Framing
  skipping : Framing

-- the items of a stretch of bytes, and where the stream stands after it
pub record Cut : Type 0 where
  pub items : List Item
  pub state : Framing

-- the first part of a stretch: it stops in a state, or it has an item or none and goes on from a state with the rest
pub data Part : Type 0 where
  stops : Framing → Part
  goes_on : Option Item → Framing → List ℕ → Part

-- bytes without those in front that are passed over between objects
abbrev pub trimmed : List ℕ → List ℕ
trimmed [] = []
trimmed (b ∷ bytes) = if is_passed b then trimmed bytes else b ∷ bytes

-- the item of an object that ended with these bytes
abbrev pub item_of : Ending → List ℕ → Item
item_of Whole bytes = item.Object bytes
item_of Broken bytes = item.Broken
item_of TooLong bytes = item.TooLong
item_of TooDeep bytes = item.TooDeep

-- where the stream stands then
abbrev pub framing_after : Ending → Framing
framing_after Whole = between
framing_after Broken = between
framing_after TooLong = skipping
framing_after TooDeep = skipping

-- and what is left: the byte at which skipping begins is itself left
abbrev pub left_after : Ending → ℕ → List ℕ → List ℕ
left_after Whole n bytes = drop n bytes
left_after Broken n bytes = drop n bytes
left_after TooLong n bytes = drop (n - 1) bytes
left_after TooDeep n bytes = drop (n - 1) bytes

-- bytes that begin an object lead to its end, if it has one
abbrev pub object_part : List ℕ → Option End → Part
object_part bytes None = stops (inside bytes)
object_part bytes (Some e) =
    goes_on (Some (item_of e.how (take e.count bytes))) (framing_after e.how) (left_after e.how e.count bytes)

-- an object begins with {; any other byte is junk, and the stream skips from there
abbrev pub between_part : List ℕ → Part
between_part [] = stops between
between_part (b ∷ bytes) =
    if b == 123 then object_part (b ∷ bytes) (end_after [] (b ∷ bytes))
    else goes_on (Some item.Junk) skipping (b ∷ bytes)

-- the bytes after the first that ends the skipping
abbrev pub after_skipping : List ℕ → Option (List ℕ)
after_skipping [] = None
after_skipping (b ∷ bytes) = if ends_skipping b then Some bytes else after_skipping bytes

-- after it the stream is between objects
abbrev pub skipping_part : Option (List ℕ) → Part
skipping_part None = stops skipping
skipping_part (Some rest) = goes_on None between rest

-- the first part, by where the stream stands: bytes of an unfinished object stand before the others
abbrev pub first_part : Framing → List ℕ → Part
first_part between bytes = between_part (trimmed bytes)
first_part (inside front) bytes = between_part (trimmed (front ++ bytes))
first_part skipping bytes = skipping_part (after_skipping bytes)

-- items, and then those of a cut
abbrev pub followed : List Item → Cut → Cut
followed items c = record { items = items ++ c.items; state = c.state }

-- the cut of a part, where the rest is cut so
abbrev pub cut_of_part : Part → (Framing → List ℕ → Cut) → Cut
cut_of_part (stops state) rest_cut = record { items = []; state = state }
cut_of_part (goes_on item state rest) rest_cut = followed (option_to_list item) (rest_cut state rest)

-- the cut by at most so many parts
abbrev pub cut_within : ℕ → Framing → List ℕ → Cut
cut_within zero state bytes = record { items = []; state = state }
cut_within (suc parts) state bytes = cut_of_part (first_part state bytes) (cut_within parts)

-- the bytes that are held of an unfinished object
abbrev pub buffered : Framing → List ℕ
buffered between = []
buffered (inside front) = front
buffered skipping = []

-- the cut of a stretch: there are no more parts than this, since of two parts in turn one takes a byte
unfoldable pub cut : Framing → List ℕ → Cut
cut state bytes = cut_within (2 * (length (buffered state) + length bytes) + 2) state bytes
