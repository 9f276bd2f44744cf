-- Lines from what they ask for, and back.
use Rattle.std.proofs.Common.{◌≡◌, ℕ, ◌≤◌, Bool, true, false, cond, nat_le, List, [], ◌∷◌, ◌++◌, length, Option, Some, None, refl, sym, ap, subst, ◌∙◌, arith, rules, ◌⊎◌, inl, inr, ⊎_elim}
use Rattle.std.specs.Prelude.{option_and_then, codes}
use Rattle.std.specs.Fmt.{decimal}
use Rattle.std.specs.List.{AllByRecursion, join_with_byte}
use Rattle.std.specs.Str.{bytes_eq}
use Rattle.std.specs.Str.Parse.{AllDigits}
use Rattle.std.proofs.lemmas.Bool.Decides.{nat_tests}
use Rattle.std.proofs.lemmas.Bool.{leb-true, le-leb}
use Rattle.std.proofs.lemmas.List.Splits.{join_with_byte-slice_split}
use Rattle.std.proofs.lemmas.Slice.Eq.{bytes_eq-Decides}
use Rattle.qo_guest.specs.declared.addresses.Addr.{Addr}
use Rattle.qo_guest.specs.declared.lines.GuestAct.{GuestAct}
use Rattle.qo_guest.specs.declared.lines.GuestAct.TheVariants.{Ack, Nack, Poll, Read, Write, Peek, Poke, Irq, Reset, Shutdown}
use Rattle.qo_guest.specs.Addresses.{pieces, number_of, address_of, value_of, hwaddr_of}
use Rattle.qo_guest.specs.Answers.{address_text}
use Rattle.qo_guest.specs.Lines.{lone_act, pending_act, register_act, aimed_act, is_memory_verb, memory_act, act_of, guest_line}
use Rattle.qo_guest.specs.Spellings.{IsAddress, IsHex, Spells, LinesAreSpelled}
use Rattle.qo_guest.proofs.Numbers.{guard_some, then_some, number_taken, number_given}
use Rattle.qo_guest.proofs.AddressSpellings.{IsFree, IsOther, pieces-join, decimal-IsFree, address-IsFree, address_taken, address_given}
use Rattle.qo_guest.proofs.HexSpellings.{guard_then, hex_taken, hex_given}

-- the first choice, or the others
chosen : {A : Type 0} (b : Bool) (x : A) (o : Option A) (y : A) → cond b (Some x) o ≡ Some y → ((b ≡ true) × (x ≡ y)) ⊎ (o ≡ Some y)
chosen true x o y e = let same : x ≡ y = cc in inl (refl, same)
chosen false x o y e = inr e

-- words and the line of them
abbrev line_of : List (List ℕ) → List ℕ
line_of words = join_with_byte 32 words

lone_taken : (verb : List ℕ) (act : GuestAct) → lone_act verb ≡ Some act → Spells verb act
lone_taken verb act e =
    let reset : Option GuestAct = cond (bytes_eq verb (codes "reset")) (Some Reset) (cond (bytes_eq verb (codes "shutdown")) (Some Shutdown) None) in
    let irq : Option GuestAct = cond (bytes_eq verb (codes "irq")) (Some Irq) reset in
    ⊎_elim (λ poll. subst (λ (a : GuestAct). Spells verb a) poll.1 ((bytes_eq-Decides verb (codes "poll")).0 poll.0))
    (λ after. ⊎_elim (λ irq. subst (λ (a : GuestAct). Spells verb a) irq.1 ((bytes_eq-Decides verb (codes "irq")).0 irq.0))
    (λ others. ⊎_elim (λ reset. subst (λ (a : GuestAct). Spells verb a) reset.1 ((bytes_eq-Decides verb (codes "reset")).0 reset.0))
    (λ last. let shutdown = guard_some (bytes_eq verb (codes "shutdown")) Shutdown act last in
    subst (λ (a : GuestAct). Spells verb a) shutdown.1 ((bytes_eq-Decides verb (codes "shutdown")).0 shutdown.0))
    (chosen (bytes_eq verb (codes "reset")) Reset (cond (bytes_eq verb (codes "shutdown")) (Some Shutdown) None) act others))
    (chosen (bytes_eq verb (codes "irq")) Irq reset act after))
    (chosen (bytes_eq verb (codes "poll")) Poll irq act e)

pending_taken : (verb : List ℕ) (at : Addr) (act : GuestAct) → IsAddress at → pending_act verb at ≡ Some act → Spells (verb ++ 32 ∷ address_text at) act
pending_taken verb at act is e =
    let after : List ℕ → List ℕ = λ word. word ++ 32 ∷ address_text at in
    ⊎_elim (λ ack. subst (λ (a : GuestAct). Spells (after verb) a) ack.1 (is, ap after ((bytes_eq-Decides verb (codes "ack")).0 ack.0)))
    (λ last. let nack = guard_some (bytes_eq verb (codes "nack")) (Nack at) act last in
    subst (λ (a : GuestAct). Spells (after verb) a) nack.1 (is, ap after ((bytes_eq-Decides verb (codes "nack")).0 nack.0)))
    (chosen (bytes_eq verb (codes "ack")) (Ack at) (cond (bytes_eq verb (codes "nack")) (Some (Nack at)) None) act e)

register_taken : (verb : List ℕ) (at : Addr) (register : ℕ) (words : List (List ℕ)) (act : GuestAct) → IsAddress at → register ≤ 255
    → register_act verb at register words ≡ Some act → Spells (line_of (verb ∷ address_text at ∷ decimal register ∷ words)) act
register_taken verb at register [] act is few e =
    let read = guard_some (bytes_eq verb (codes "read")) (Read at register) act e in
    let after : List ℕ → List ℕ = λ word. word ++ 32 ∷ (address_text at ++ 32 ∷ decimal register) in
    subst (λ (a : GuestAct). Spells (after verb) a) read.1 (is, few, ap after ((bytes_eq-Decides verb (codes "read")).0 read.0))
register_taken verb at register (word ∷ []) act is few e =
    let write = guard_then (bytes_eq verb (codes "write")) (option_and_then (λ value. Some (Write at register value)) (value_of word)) act e in
    let read = then_some (value_of word) (λ value. Some (Write at register value)) act write.1 in
    let value = hex_taken 8 word read.0 read.1 in
    let same : Write at register read.0 ≡ act = let whole = read.2 in cc in
    let line : List ℕ → List ℕ → List ℕ = λ front back. front ++ 32 ∷ (address_text at ++ (32 ∷ (decimal register ++ 32 ∷ back))) in
    subst (λ (a : GuestAct). Spells (line verb word) a) same (
      value.0,
      is,
      few,
      value.1,
      ap (λ (front : List ℕ). line front word) ((bytes_eq-Decides verb (codes "write")).0 write.0) ∙ ap (line (codes "write")) value.2,
    )
register_taken verb at register (word ∷ next ∷ words) act is few e = cc

aimed_taken : (verb : List ℕ) (at : Addr) (words : List (List ℕ)) (act : GuestAct) → IsAddress at → aimed_act verb at words ≡ Some act
    → Spells (line_of (verb ∷ address_text at ∷ words)) act
aimed_taken verb at [] act is e = pending_taken verb at act is e
aimed_taken verb at (word ∷ words) act is e =
    let read = then_some (number_of word) (λ register. register_act verb at register words) act e in
    let number = number_taken word read.0 read.1 in
    subst (λ (w : List ℕ). Spells (line_of (verb ∷ address_text at ∷ w ∷ words)) act) (sym number.1)
    (register_taken verb at read.0 words act is number.0 read.2)

memory_taken : (verb word : List ℕ) (words : List (List ℕ)) (act : GuestAct) → option_and_then (λ at. memory_act verb at words) (hwaddr_of word) ≡ Some act
    → Spells (line_of (verb ∷ word ∷ words)) act
memory_taken verb word [] act e =
    let read = then_some (hwaddr_of word) (λ at. memory_act verb at []) act e in
    let place = hex_taken 16 word read.0 read.1 in
    let peek = guard_some (bytes_eq verb (codes "peek")) (Peek read.0) act read.2 in
    let line : List ℕ → List ℕ → List ℕ = λ front back. front ++ 32 ∷ back in
    subst (λ (a : GuestAct). Spells (line verb word) a) peek.1 (
      place.0,
      place.1,
      ap (λ (front : List ℕ). line front word) ((bytes_eq-Decides verb (codes "peek")).0 peek.0) ∙ ap (line (codes "peek")) place.2,
    )
memory_taken verb word (given ∷ []) act e =
    let read = then_some (hwaddr_of word) (λ at. memory_act verb at (given ∷ [])) act e in
    let place = hex_taken 16 word read.0 read.1 in
    let poke = guard_then (bytes_eq verb (codes "poke")) (option_and_then (λ value. Some (Poke read.0 value)) (value_of given)) act read.2 in
    let number = then_some (value_of given) (λ value. Some (Poke read.0 value)) act poke.1 in
    let value = hex_taken 8 given number.0 number.1 in
    let same : Poke read.0 number.0 ≡ act = let whole = number.2 in cc in
    let line : List ℕ → List ℕ → List ℕ → List ℕ = λ front middle back. front ++ 32 ∷ (middle ++ 32 ∷ back) in
    subst (λ (a : GuestAct). Spells (line verb word given) a) same (
      place.0,
      value.0,
      place.1,
      value.1,
      ap (λ (front : List ℕ). line front word given) ((bytes_eq-Decides verb (codes "poke")).0 poke.0)
          ∙ (ap (λ (middle : List ℕ). line (codes "poke") middle given) place.2 ∙ ap (line (codes "poke") (codes "0x" ++ place.0)) value.2),
    )
memory_taken verb word (given ∷ next ∷ words) act e =
    let read = then_some (hwaddr_of word) (λ at. memory_act verb at (given ∷ next ∷ words)) act e in
    let none = read.2 in cc

-- two words or more
words_taken : (memory : Bool) (verb word : List ℕ) (words : List (List ℕ)) (act : GuestAct)
    → cond memory (option_and_then (λ at. memory_act verb at words) (hwaddr_of word)) (option_and_then (λ at. aimed_act verb at words) (address_of word))
    ≡ Some act → Spells (line_of (verb ∷ word ∷ words)) act
words_taken true verb word words act e = memory_taken verb word words act e
words_taken false verb word words act e =
    let read = then_some (address_of word) (λ at. aimed_act verb at words) act e in
    let address = address_taken word read.0 read.1 in
    subst (λ (w : List ℕ). Spells (line_of (verb ∷ w ∷ words)) act) (sym address.1) (aimed_taken verb read.0 words act address.0 read.2)

-- the words of an act spell it
act_taken : (words : List (List ℕ)) (act : GuestAct) → act_of words ≡ Some act → Spells (line_of words) act
act_taken [] act e = cc
act_taken (verb ∷ []) act e = lone_taken verb act e
act_taken (verb ∷ word ∷ words) act e = words_taken (is_memory_verb verb) verb word words act e

line_taken : (line : List ℕ) (act : GuestAct) → guest_line line ≡ Some act → (length line ≤ 256) × Spells line act
line_taken line act e =
    let g = guard_then (nat_le (length line) 256) (act_of (pieces 32 line)) act e in
    let spelled = act_taken (pieces 32 line) act g.1 in
    (leb-true (length line) 256 g.0, rw (join_with_byte-slice_split 32 line) at spelled)

-- no space among hexadecimal digits
digits-IsFree : (digits : List ℕ) → AllDigits 16 digits → IsFree 32 digits
digits-IsFree [] all = tt
digits-IsFree (byte ∷ digits) all = let digit = all.0 in ((let other : IsOther 32 byte = grind (arith, nat_tests) in other), digits-IsFree digits all.1)

-- a hardware address has no space
hex-IsFree : (most : ℕ) (digits : List ℕ) (n : ℕ) → IsHex most digits n → IsFree 32 (codes "0x" ++ digits)
hex-IsFree most digits n is = (refl, (refl, digits-IsFree digits is.all))

-- a line of two words or more
aimed_given : (verb : List ℕ) (at : Addr) (words : List (List ℕ)) → is_memory_verb verb ≡ false → IsFree 32 verb → IsAddress at
    → AllByRecursion (IsFree 32) words → act_of (pieces 32 (line_of (verb ∷ address_text at ∷ words))) ≡ aimed_act verb at words
aimed_given verb at words other free is others =
    let cut = pieces-join 32 verb (address_text at ∷ words) (free, (address-IsFree at is, others)) in
    rw (cut, other, address_given at is) refl

memory_given : (verb : List ℕ) (digits : List ℕ) (at : ℕ) (words : List (List ℕ)) → is_memory_verb verb ≡ true → IsFree 32 verb → IsHex 16 digits at
    → AllByRecursion (IsFree 32) words → act_of (pieces 32 (line_of (verb ∷ (codes "0x" ++ digits) ∷ words))) ≡ memory_act verb at words
memory_given verb digits at words its free is others =
    let cut = pieces-join 32 verb ((codes "0x" ++ digits) ∷ words) (free, (hex-IsFree 16 digits at is, others)) in
    rw (cut, its, hex_given 16 digits at is) refl

-- what is spelled is read
act_given : (line : List ℕ) (act : GuestAct) → Spells line act → act_of (pieces 32 line) ≡ Some act
act_given line (Ack at) h = rw h.1 (aimed_given (codes "ack") at [] refl (search rules) h.0 tt)
act_given line (Nack at) h = rw h.1 (aimed_given (codes "nack") at [] refl (search rules) h.0 tt)
act_given line Poll h = rw h refl
act_given line (Read at register) h =
    let number = number_given register h.1 in
    rw h.2 (aimed_given (codes "read") at (decimal register ∷ []) refl (search rules) h.0 (decimal-IsFree 32 register (omega arith) h.1, tt) ∙ rw number refl)
act_given line (Write at register value) h =
    let number = number_given register h.2 in
    let read = hex_given 8 h.0 value h.3 in
    rw h.4 (aimed_given (codes "write") at (decimal register ∷ (codes "0x" ++ h.0) ∷ []) refl (search rules) h.1
    (decimal-IsFree 32 register (omega arith) h.2, (hex-IsFree 8 h.0 value h.3, tt)) ∙ rw (number, read) refl)
act_given line (Peek at) h = rw h.2 (memory_given (codes "peek") h.0 at [] refl (search rules) h.1 tt)
act_given line (Poke at value) h =
    let read = hex_given 8 h.1 value h.3 in
    rw h.4 (memory_given (codes "poke") h.0 at ((codes "0x" ++ h.1) ∷ []) refl (search rules) h.2 (hex-IsFree 8 h.1 value h.3, tt) ∙ rw read refl)
act_given line Irq h = rw h refl
act_given line Reset h = rw h refl
act_given line Shutdown h = rw h refl

pub lines_are_spelled : LinesAreSpelled
lines_are_spelled line act =
    (line_taken line act, λ h. let short = le-leb (length line) 256 h.0 in rw short (act_given line act h.1))
