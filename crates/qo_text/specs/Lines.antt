-- How a line of the text monitor is read (QEMU's hmp-commands.hx and hmp-commands-info.hx; which lines there are is the profile's).
use Rattle.std.specs.Prelude.{ℕ, Bool, not, ◌&&◌, ◌||◌, ◌==◌, if◌then◌else◌, List, [], ◌∷◌, length, take, drop, codes, Option, Some, None, option_map, option_and_then}
use Rattle.std.specs.Str.{bytes_eq}
use Rattle.qo_requests.specs.declared.calls.Addition.TheVariants as addition
use Rattle.qo_requests.specs.declared.calls.Alteration.TheVariants as alteration
use Rattle.qo_requests.specs.declared.calls.Change.{Change}
use Rattle.qo_requests.specs.declared.calls.Change.TheVariants as change
use Rattle.qo_text.specs.declared.lines.Line.{Line}
use Rattle.qo_text.specs.declared.lines.Line.TheVariants.{Do, Tree, Bus}
use Rattle.qo_text.specs.Options.{holds, options, parts, properties, text_of}

-- what stands behind a word
abbrev pub behind : List ℕ → List ℕ → Option (List ℕ)
behind word text = if bytes_eq (take (length word) text) word then Some (drop (length word) text) else None

-- `device_add` of a driver with options
abbrev pub adding : List ℕ → List (List ℕ × List ℕ) → Change
adding driver found = change.Add (addition.DeviceAdd driver (text_of (codes "id") found) (text_of (codes "bus") found) (properties found))

-- the driver is not empty and holds no `=`
abbrev pub is_driver : List ℕ → Bool
is_driver driver = not (length driver == 0) && not (holds 61 driver)

-- the first part is the driver, and each other one an option
abbrev pub addition_of : List (List ℕ) → Option Line
addition_of [] = None
addition_of (driver ∷ others) =
    if is_driver driver then option_map (λ (found : List (List ℕ × List ℕ)). Do (adding driver found)) (options others []) else None

-- parts are one word
abbrev pub addition_in : List ℕ → Option Line
addition_in args = if holds 32 args then None else addition_of (parts args)

-- `device_del` of an id, which is one word
abbrev pub deletion_in : List ℕ → Option Line
deletion_in id = if length id == 0 || holds 32 id then None else Some (Do (change.Alter (alteration.DeviceDel id)))

-- a line of a word with an argument
abbrev pub argued : List ℕ → Option Line
argued text =
    elim (behind (codes "device_add ") text) [
      | Some args ↦ addition_in args
      | None ↦ option_and_then deletion_in (behind (codes "device_del ") text)
    ]

-- what a text asks for, if it is a line
unfoldable pub line_of : List ℕ → Option Line
line_of text =
    if bytes_eq text (codes "info qom-tree") then Some Tree
    else if bytes_eq text (codes "info qtree") then Some Bus
    else if bytes_eq text (codes "system_reset") then Some (Do (change.Alter alteration.SystemReset))
    else argued text
