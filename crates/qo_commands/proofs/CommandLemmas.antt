-- What commands return has a text: no number has a fraction.
use Rattle.std.proofs.Common.{◌≡◌, ℕ, pos, negsuc, Bool, true, false, List, [], ◌∷◌, map, refl, Option, None, Some, Result, Ok, Err}
use Rattle.std.specs.Prelude.{codes}
use Rattle.serde_json.specs.Data.{Data, string}
use Rattle.serde_json.specs.View.{items_of}
use Rattle.serde_json.specs.Written.{has_float, items_have_float, members_have_float}
use Rattle.qo_model.specs.Board.{Board}
use Rattle.qo_model.specs.Listing.{listing}
use Rattle.qo_model.specs.declared.notes.Note.{Note}
use Rattle.qo_values.specs.declared.codes.Code.{Code}
use Rattle.qo_values.specs.declared.kinds.TypeId.{TypeId}
use Rattle.qo_model.specs.Types.{TypeInfo}
use Rattle.qo_model.specs.declared.detached.Detached.{Detached}
use Rattle.std.specs.Str.{chars}
use Rattle.serde_json.proofs.OnLiterals.{serde_json_on_literals}
use Rattle.qo_replies.specs.Json.{ascii, json}
use Rattle.qo_memmap.specs.declared.span.Span.{Span}
use Rattle.qo_model.specs.Objects.{Given}
use Rattle.qo_save.specs.Description.{ClockItem, Description, DeviceItem, LinkItem, ObjectItem, RingItem, clock_item_data, device_data, link_data, object_data, props_members, ring_data}
use Rattle.qo_values.specs.PlainValues as plain
use Rattle.qo_values.specs.declared.properties.Val.{Val}
use Rattle.qo_values.specs.declared.properties.Val.TheVariants as val
use Rattle.qo_commands.specs.Commands.{detached_data, empty, note_data, property_data, shown_data, status_data, told_as, type_data}
use Rattle.qo_commands.specs.Views.{body_data, data_of, has_float_in}
use Rattle.qo_commands.specs.declared.commands.ReplyBody.{ReplyBody}
use Rattle.qo_commands.specs.declared.commands.ReplyBody.TheVariants.{Answer, Empty, Status, Listing, Time, Told, Value}

pub rows_no_float : (rows : List (List ℕ × List ℕ)) → items_have_float (items_of (map property_data rows)) ≡ false
rows_no_float [] = refl
rows_no_float (r ∷ rs) = rows_no_float rs

pub notes_no_float : (notes : List Note) → items_have_float (items_of (map note_data notes)) ≡ false
notes_no_float [] = refl
notes_no_float (n ∷ ns) = notes_no_float ns

pub detached_no_float : (ds : List Detached) → items_have_float (items_of (map detached_data ds)) ≡ false
detached_no_float [] = refl
detached_no_float (d ∷ ds) = detached_no_float ds

pub shown_no_float : (b : Board) (spans : List Span) → items_have_float (items_of (map (shown_data b) spans)) ≡ false
shown_no_float b [] = refl
shown_no_float b (span ∷ spans) = shown_no_float b spans

-- a description has no fraction
val_no_float : (v : Val) → has_float (plain.data_of v) ≡ false
val_no_float (val.Bool b) = refl
val_no_float (val.Int (pos n)) = refl
val_no_float (val.Int (negsuc n)) = refl
val_no_float (val.Uint n) = refl
val_no_float (val.Text text) = refl
val_no_float val.Nothing = refl

props_no_float : (props : List Given) → members_have_float (props_members props) ≡ false
props_no_float [] = refl
props_no_float (p ∷ props) = rw (val_no_float p.1, props_no_float props) refl

listed_no_float : {X : Type 0} (f : X → Data) → ((x : X) → has_float (f x) ≡ false) → (xs : List X) → items_have_float (items_of (map f xs)) ≡ false
listed_no_float f none [] = refl
listed_no_float f none (x ∷ xs) = rw (none x, listed_no_float f none xs) refl

clock_no_float : (c : ClockItem) → has_float (clock_item_data c) ≡ false
clock_no_float c = refl

device_no_float : (d : DeviceItem) → has_float (device_data d) ≡ false
device_no_float d = rw (props_no_float d.props) refl

link_no_float : (l : LinkItem) → has_float (link_data l) ≡ false
link_no_float l = refl

object_no_float : (o : ObjectItem) → has_float (object_data o) ≡ false
object_no_float o = rw (props_no_float o.props) refl

ring_no_float : (r : RingItem) → has_float (ring_data r) ≡ false
ring_no_float r = refl

pub described_no_float : (o : Option Description) → has_float (told_as o) ≡ false
described_no_float None = refl
described_no_float (Some d) =
    rw (
      listed_no_float clock_item_data clock_no_float d.clocks,
      listed_no_float device_data device_no_float d.devices,
      listed_no_float link_data link_no_float d.links,
      listed_no_float object_data object_no_float d.objects,
      listed_no_float ring_data ring_no_float d.rings,
    ) refl

pub types_no_float : (rows : List TypeInfo) → items_have_float (items_of (map type_data rows)) ≡ false
types_no_float [] = refl
types_no_float (r ∷ rs) = by r.is_abstract r.parent (types_no_float rs)
  where
    by : (a : Bool) (p : Option TypeId) → items_have_float (items_of (map type_data rs)) ≡ false
        → items_have_float (items_of (type_data (record r { is_abstract = a; parent = p }) ∷ map type_data rs)) ≡ false
    by true None rest = rest
    by true (Some parent) rest = rest
    by false None rest = rest
    by false (Some parent) rest = rest

-- what a command returns has no fraction, and so has a text
body_no_float : (b : Board) (body : ReplyBody) → has_float (body_data b body) ≡ false
body_no_float b Empty = refl
body_no_float b (Status running) = refl
body_no_float b (Listing n) = rows_no_float (listing b n)
body_no_float b (Answer answer) = refl
body_no_float b (Time now) = refl
body_no_float b (Told text) = refl
body_no_float b (Value whole) = whole.whole

pub no_float : (b : Board) (r : Result ReplyBody Code) → has_float_in (data_of b r) ≡ false
no_float b (Ok body) = body_no_float b body
no_float b (Err code) = refl

-- The texts that are written already.

pub empty_written : codes "{}" ≡ json empty
unfolding json ascii chars serde_json_on_literals
empty_written = refl

pub nothing_told_written : codes "\"\"" ≡ json (string [])
unfolding json ascii chars serde_json_on_literals
nothing_told_written = refl

pub running_written : codes "{\"running\":true,\"status\":\"running\"}" ≡ json (status_data true)
unfolding json ascii chars serde_json_on_literals
running_written = refl

pub paused_written : codes "{\"running\":false,\"status\":\"paused\"}" ≡ json (status_data false)
unfolding json ascii chars serde_json_on_literals
paused_written = refl
