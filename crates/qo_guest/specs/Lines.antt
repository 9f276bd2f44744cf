-- How a guest line is read into an act (docs/PROFILE.md, guest lines).
use Rattle.std.specs.Prelude.{ℕ, ◌||◌, Bool, nat_le, codes, List, [], ◌∷◌, length, Option, Some, None, option_and_then, if◌then◌else◌}
use Rattle.std.specs.Str.{bytes_eq}
use Rattle.qo_values.specs.declared.limits.TheConstants.{GUEST_LINE_MAX}
use Rattle.qo_guest.specs.Addresses.{pieces, number_of, address_of, value_of, hwaddr_of}
use Rattle.qo_guest.specs.declared.addresses.Addr.{Addr}
use Rattle.qo_guest.specs.declared.lines.GuestAct.{GuestAct}
use Rattle.qo_guest.specs.declared.lines.GuestAct.TheVariants.{Ack, Nack, Poll, Read, Write, Peek, Poke, Irq, Reset, Shutdown}

-- the act of a lone word
abbrev pub lone_act : List ℕ → Option GuestAct
lone_act verb =
    if bytes_eq verb (codes "poll") then Some Poll
    else (if bytes_eq verb (codes "irq") then Some Irq
    else (if bytes_eq verb (codes "reset") then Some Reset
    else (if bytes_eq verb (codes "shutdown") then Some Shutdown else None)))

-- the act of a verb that takes an address
abbrev pub pending_act : List ℕ → Addr → Option GuestAct
pending_act verb at =
    if bytes_eq verb (codes "ack") then Some (Ack at)
    else (if bytes_eq verb (codes "nack") then Some (Nack at) else None)

-- the act of a verb that takes an address and a register, and for a write a value
abbrev pub register_act : List ℕ → Addr → ℕ → List (List ℕ) → Option GuestAct
register_act verb at register [] = if bytes_eq verb (codes "read") then Some (Read at register) else None
register_act verb at register (word ∷ []) =
    if bytes_eq verb (codes "write") then option_and_then (λ value. Some (Write at register value)) (value_of word)
    else None
register_act verb at register _ = None

-- the act of a verb with an address, and what words stand after it
abbrev pub aimed_act : List ℕ → Addr → List (List ℕ) → Option GuestAct
aimed_act verb at [] = pending_act verb at
aimed_act verb at (word ∷ words) = option_and_then (λ register. register_act verb at register words) (number_of word)

-- the verbs that take a hardware address
abbrev pub is_memory_verb : List ℕ → Bool
is_memory_verb verb = bytes_eq verb (codes "peek") || bytes_eq verb (codes "poke")

-- the act of a verb with a hardware address, and for a poke a value
abbrev pub memory_act : List ℕ → ℕ → List (List ℕ) → Option GuestAct
memory_act verb at [] = if bytes_eq verb (codes "peek") then Some (Peek at) else None
memory_act verb at (word ∷ []) =
    if bytes_eq verb (codes "poke") then option_and_then (λ value. Some (Poke at value)) (value_of word) else None
memory_act verb at _ = None

-- the act that the words of a line are
abbrev pub act_of : List (List ℕ) → Option GuestAct
act_of [] = None
act_of (verb ∷ []) = lone_act verb
act_of (verb ∷ word ∷ words) =
    if is_memory_verb verb then option_and_then (λ at. memory_act verb at words) (hwaddr_of word)
    else option_and_then (λ at. aimed_act verb at words) (address_of word)

-- the act of a line of at most GUEST_LINE_MAX bytes, whose words are separated by one space
abbrev pub guest_line : List ℕ → Option GuestAct
guest_line line = if nat_le (length line) GUEST_LINE_MAX then act_of (pieces 32 line) else None
