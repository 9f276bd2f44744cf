-- Commands on objects leave interrupt lines as they are made: the same devices stand below the buses of the machine.
use Rattle.std.proofs.Common.{◌≡◌, refl, ap, ap₂, sym, subst, ◌∙◌, ℕ, zero, suc, ◌+◌, ◌<◌, ◌≤◌, Bool, true, false, ◌&&◌, not, if◌then◌else◌, ◌==◌, List, [], ◌∷◌, ◌++◌, find, filter_map, length, map, Option, Some, None, option_map, option_and_then, Ok, arith, codes}
use Rattle.std.specs.List.{AllByRecursion, cons_option, flat_map}
use Rattle.std.specs.Option.{option_map_or}
use Rattle.std.specs.Str.{bytes_eq}
use Rattle.std.proofs.Math.Bool.{or-true}
use Rattle.std.proofs.Math.ListN.{length-append}
use Rattle.std.proofs.lemmas.Bool.{eq-eqb}
use Rattle.std.proofs.lemmas.Slice.Eq.{bytes_eq-Decides}
use Rattle.qo_values.specs.Registers.{fresh_registers}
use Rattle.qo_values.specs.declared.births.TheConstants.{MACHINE_BIRTH, MEMORY_BUS_BIRTH, ROOT_BUS_BIRTH}
use Rattle.qo_values.specs.declared.kinds.TypeId.{TypeId}
use Rattle.qo_values.specs.declared.properties.Val.{Val}
use Rattle.qo_model.proofs.Common.{IsDistinct, Board, Record, Slot, alias, child, plain, strong, weak, is_live, record_of, slots_at, write_at, Change, after_write, changed, wrote, among, bus_in, buses_of, clock_name, kid_at, kid_name, kids_of, strong_in, div_of, mul_of, is_of, write, below, post, is_a}
use Rattle.qo_model.proofs.ClockPropertyLemmas.{write_at-cases}
use Rattle.qo_model.proofs.FirstSlotLemmas.{named_in, slots_in}
use Rattle.qo_sound.proofs.FirmBoardLemmas.{WellFormed}
use Rattle.qo_sound.proofs.SlotLemmas.{names_in}
use Rattle.qo_sound.proofs.TestLemmas.{clash}
use Rattle.qo_sound_devices.specs.SoundDevices.{SoundDevices}
use Rattle.qo_sound_devices.specs.SoundPlaces.{child_entries, child_entry, kid_entries, kid_entry, listed, machines, stands}
use Rattle.qo_sound_devices.proofs.DropLemmas.{names-at}
use Rattle.qo_sound_devices.proofs.PlacesLemmas.{child-live, of-live}
use Rattle.qo_sound_phases.specs.SoundPhases.{IsReached, machine, device, bus}
use Rattle.qo_sound_phases.proofs.CommandLemmas.{frame, keeps, reached-on}
use Rattle.qo_sound_phases.proofs.FrameLemmas.{Frame}
use Rattle.qo_sound_phases.proofs.ListLemmas.{among-cases, among-right}
use Rattle.qo_sound_phases.proofs.ReachLemmas.{StaysReached, machine-no_bus, post-reached, reached-below, reached-live}
use Rattle.qo_sound_phases.proofs.ResetTreeLemmas.{Placed, placed, stands-no_bus}
use Rattle.qo_sound_shapes.specs.SoundShape.{SoundShape}
use Rattle.qo_layout.specs.Layout.{mapped}
use Rattle.qo_layout.specs.Registers.{registers_at}
use Rattle.qo_layout.specs.Rows.{AreLines, AreShaped, IsDriven, IsJoin, IsSlotLine, Wired, kept_line, objects_of, row_at, wiring}
use Rattle.qo_layout.specs.declared.wiring.Row.{Row}
use Rattle.qo_layout.specs.declared.wiring.Wiring.{Wiring}
use Rattle.qo_layout.specs.declared.wiring.Wiring.TheVariants.{Own, Masked, Joined}
use Rattle.qo_layout.proofs.LengthLemmas.{length-part, post-is}
use Rattle.qo_layout.proofs.MapLemmas.{memory-is, root-is}
use Rattle.qo_commands.specs.Touched.{KeepsLines}
use Rattle.qo_commands.proofs.BusKidLemmas.{IsOwned, KeepKids, kids-changed}
use Rattle.qo_commands.proofs.DeviceFrameLemmas.{driven-by, framed-lines}
use Rattle.qo_commands.proofs.FrameLemmas.{scaled-frame, set-frame}

-- Kids and buses by the entries of slots.

kids-entries : (slots : List (List ℕ × Slot))
    → filter_map (λ (s : List ℕ × Slot). strong_in s.1) slots ≡ map (λ (e : List ℕ × ℕ). e.1) (filter_map kid_entry slots)
kids-entries [] = refl
kids-entries ((name, plain v) ∷ slots) = kids-entries slots
kids-entries ((name, child m) ∷ slots) = kids-entries slots
kids-entries ((name, strong t None) ∷ slots) = kids-entries slots
kids-entries ((name, strong t (Some m)) ∷ slots) = ap (λ (ms : List ℕ). m ∷ ms) (kids-entries slots)
kids-entries ((name, weak t target) ∷ slots) = kids-entries slots
kids-entries ((name, alias m property) ∷ slots) = kids-entries slots

kids-same : (b c : Board) (q : ℕ) → kid_entries c q ≡ kid_entries b q → kids_of c q ≡ kids_of b q
kids-same b c q same =
    kids-entries (slots_at c q) ∙ ap (map (λ (e : List ℕ × ℕ). e.1)) same ∙ sym (kids-entries (slots_at b q))

abbrev bus_entry : Board → List ℕ × ℕ → Option ℕ
bus_entry b e = if is_of b (codes "bus") e.1 && not (bytes_eq e.0 clock_name) then Some e.1 else None

buses-entries : (b : Board) (slots : List (List ℕ × Slot)) → filter_map (bus_in b) slots ≡ filter_map (bus_entry b) (filter_map child_entry slots)
buses-entries b [] = refl
buses-entries b ((name, plain v) ∷ slots) = buses-entries b slots
buses-entries b ((name, child m) ∷ slots) = ap (cons_option (bus_entry b (name, m))) (buses-entries b slots)
buses-entries b ((name, strong t target) ∷ slots) = buses-entries b slots
buses-entries b ((name, weak t target) ∷ slots) = buses-entries b slots
buses-entries b ((name, alias m property) ∷ slots) = buses-entries b slots

-- where their children are of the same types
entries-same : (b c : Board) (es : List (List ℕ × ℕ)) → ((m : ℕ) → listed m es ≡ true → is_of c (codes "bus") m ≡ is_of b (codes "bus") m)
    → filter_map (bus_entry c) es ≡ filter_map (bus_entry b) es
entries-same b c [] alike = refl
entries-same b c (e ∷ es) alike =
    ap (λ (t : Bool). cons_option (if t && not (bytes_eq e.0 clock_name) then Some e.1 else None) (filter_map (bus_entry c) es))
    (alike e.1 (let own : (e.1 == e.1) ≡ true = eq-eqb e.1 e.1 refl in rw own refl))
    ∙ ap (cons_option (bus_entry b e)) (entries-same b c es (λ m i. alike m (rw i (or-true (e.1 == m)))))

-- the kid of a name, where no two slots have one name

abbrev entry_named : List ℕ → List (List ℕ × ℕ) → Option ℕ
entry_named name es = option_map (λ (e : List ℕ × ℕ). e.1) (find (λ (e : List ℕ × ℕ). bytes_eq e.0 name) es)

none-entry : (name own : List ℕ) → bytes_eq own name ≡ true → (slots : List (List ℕ × Slot))
    → AllByRecursion (λ other. bytes_eq own other ≡ false) (names_in slots) → entry_named name (filter_map kid_entry slots) ≡ None
none-entry name own is [] h = refl
none-entry name own is ((other, plain v) ∷ slots) h = none-entry name own is slots h.1
none-entry name own is ((other, child m) ∷ slots) h = none-entry name own is slots h.1
none-entry name own is ((other, weak t target) ∷ slots) h = none-entry name own is slots h.1
none-entry name own is ((other, alias m property) ∷ slots) h = none-entry name own is slots h.1
none-entry name own is ((other, strong t None) ∷ slots) h = none-entry name own is slots h.1
none-entry name own is ((other, strong t (Some m)) ∷ slots) h = go (bytes_eq other name) refl (none-entry name own is slots h.1)
  where
    go : (t : Bool) → bytes_eq other name ≡ t → entry_named name (filter_map kid_entry slots) ≡ None
        → entry_named name ((other, m) ∷ filter_map kid_entry slots) ≡ None
    go true p rest =
        let same : own ≡ other = (bytes_eq-Decides own name).0 is ∙ sym ((bytes_eq-Decides other name).0 p) in
        clash (sym ((bytes_eq-Decides own other).1 same) ∙ h.0)
    go false p rest = rw p rest

first-entry : (name : List ℕ) (s : List ℕ × Slot) → bytes_eq s.0 name ≡ true → (es : List (List ℕ × ℕ)) → entry_named name es ≡ None
    → strong_in s.1 ≡ entry_named name (cons_option (kid_entry s) es)
first-entry name (own, plain v) p es none = sym none
first-entry name (own, child m) p es none = sym none
first-entry name (own, weak t target) p es none = sym none
first-entry name (own, alias m property) p es none = sym none
first-entry name (own, strong t None) p es none = sym none
first-entry name (own, strong t (Some m)) p es none = rw p refl

other-entry : (name : List ℕ) (s : List ℕ × Slot) → bytes_eq s.0 name ≡ false → (es : List (List ℕ × ℕ))
    → entry_named name (cons_option (kid_entry s) es) ≡ entry_named name es
other-entry name (own, plain v) p es = refl
other-entry name (own, child m) p es = refl
other-entry name (own, weak t target) p es = refl
other-entry name (own, alias m property) p es = refl
other-entry name (own, strong t None) p es = refl
other-entry name (own, strong t (Some m)) p es = rw p refl

strong-entry : (name : List ℕ) (slots : List (List ℕ × Slot)) → IsDistinct bytes_eq (names_in slots)
    → option_and_then strong_in (named_in name slots) ≡ entry_named name (filter_map kid_entry slots)
unfolding IsDistinct
strong-entry name [] h = refl
strong-entry name (s ∷ slots) h = go (bytes_eq s.0 name) refl (strong-entry name slots h.1)
  where
    go : (t : Bool) → bytes_eq s.0 name ≡ t → option_and_then strong_in (named_in name slots) ≡ entry_named name (filter_map kid_entry slots)
        → option_and_then strong_in (named_in name (s ∷ slots)) ≡ entry_named name (cons_option (kid_entry s) (filter_map kid_entry slots))
    go true p rest = rw p (first-entry name s p (filter_map kid_entry slots) (none-entry name s.0 p slots h.0))
    go false p rest = rw p (rest ∙ sym (other-entry name s p (filter_map kid_entry slots)))

names-distinct : (b : Board) → WellFormed b → (q : ℕ) → IsDistinct bytes_eq (names_in (slots_at b q))
unfolding IsDistinct
names-distinct b firm q = go (record_of b q) refl
  where
    go : (o : Option Record) → record_of b q ≡ o → IsDistinct bytes_eq (names_in (slots_at b q))
    go None e = subst (λ (x : Option Record). IsDistinct bytes_eq (names_in (slots_in x))) (sym e) tt
    go (Some r) e = subst (λ (x : Option Record). IsDistinct bytes_eq (names_in (slots_in x))) (sym e) (names-at b firm q r e)

kid-same : (b c : Board) → WellFormed b → WellFormed c → (q : ℕ) → kid_entries c q ≡ kid_entries b q → (n : ℕ) → kid_at c q n ≡ kid_at b q n
kid-same b c firm firm_after q same n =
    strong-entry (kid_name n) (slots_at c q) (names-distinct c firm_after q)
    ∙ ap (entry_named (kid_name n)) same
    ∙ sym (strong-entry (kid_name n) (slots_at b q) (names-distinct b firm q))

-- What lines are made of.

flat-same : (f g : ℕ → List ℕ) (ms : List ℕ) → ((m : ℕ) → among ms m ≡ true → f m ≡ g m) → flat_map f ms ≡ flat_map g ms
flat-same f g [] same = refl
flat-same f g (m ∷ ms) same =
    let first : among (m ∷ ms) m ≡ true = rw (eq-eqb m m refl) refl in
    ap₂ (λ (xs ys : List ℕ). xs ++ ys) (same m first) (flat-same f g ms (λ x e. same x (among-right x (m ∷ []) ms e)))

-- the object of a row is among the objects of rows
row-among : (rows : List Row) (i : ℕ) → i < length rows → among (objects_of rows) (row_at rows i).object ≡ true
row-among [] i within = absurd (omega (arith, within))
row-among (row ∷ rows) zero within =
    let first : among (row.object ∷ objects_of rows) row.object ≡ true = rw (eq-eqb row.object row.object refl) refl in first
row-among (row ∷ rows) (suc i) within =
    among-right (row_at rows i).object (row.object ∷ []) (objects_of rows) (row-among rows i (omega (arith, within)))

module _ (b c : Board) (w : Wired) where
  join-kept : (o line : ℕ) → below b o ≡ below c o → IsJoin b w.rows w.wires o line → IsJoin c w.rows w.wires o line
  join-kept o line same j =
      record { lines = j.lines; wire = j.wire; below_it = subst (λ (os : List ℕ). AreLines w.rows os j.lines) same j.below_it }

  driven-kept : (by : Wiring) (row : Row) → below b row.object ≡ below c row.object → IsDriven by b w.rows w.wires row → IsDriven by c w.rows w.wires row
  driven-kept Own row same d = d
  driven-kept Masked row same d =
      record { join = d.join; mask = d.mask; wire = d.wire; input_is = d.input_is; joins = join-kept row.object d.join same d.joins }
  driven-kept Joined row same d = (d.0, join-kept row.object row.line same d.1)

bus-below : (b : Board) (o : ℕ) → is_of b (codes "bus") o ≡ true → below b o ≡ kids_of b o
bus-below b o is = ap (λ (t : Bool). if t then kids_of b o else buses_of b o) is

other-below : (b : Board) (o : ℕ) → is_of b (codes "bus") o ≡ false → below b o ≡ buses_of b o
other-below b o is = ap (λ (t : Bool). if t then kids_of b o else buses_of b o) is

-- where what a reset reaches stays, and each bus keeps its kids

module _
    (b c : Board) (d : SoundDevices b) (e : SoundDevices c) (f : Frame b c) (on : StaysReached b c)
    (stay : (x : ℕ) → stands b x ≡ true → stands c x ≡ true) (still : KeepKids (IsOwned b) b c) where
  k : Placed b
  k = placed b d

  l : Placed c
  l = placed c e

  of-same : (x : ℕ) → is_live b x ≡ true → is_live c x ≡ true → is_of c (codes "bus") x ≡ is_of b (codes "bus") x
  of-same x was now = ap (λ (o : Option TypeId). option_map_or (λ (t : TypeId). is_a t (codes "bus")) o false) (f.kind x was now)

  other-same : (x : ℕ) → is_of b (codes "bus") x ≡ false → is_of c (codes "bus") x ≡ false → child_entries c x ≡ child_entries b x → below c x ≡ below b x
  other-same x was now children =
      other-below c x now
      ∙ buses-entries c (slots_at c x)
      ∙ entries-same b c (child_entries c x)
      (λ m i. of-same m (child-live b k.firm x m (sym (ap (listed m) children) ∙ i)) (child-live c l.firm x m i))
      ∙ ap (filter_map (bus_entry b)) children
      ∙ sym (buses-entries b (slots_at b x))
      ∙ sym (other-below b x was)

  bus-same : (x : ℕ) → IsOwned b x → is_live c x ≡ true → below c x ≡ below b x
  bus-same x its now =
      bus-below c x (of-same x (of-live b (codes "bus") x its.is_bus) now ∙ its.is_bus)
      ∙ kids-same b c x (still x its now).kids
      ∙ sym (bus-below b x its.is_bus)

  below-same : (x : ℕ) → IsReached b x → below c x ≡ below b x
  below-same x (machine at) =
      subst (λ (y : ℕ). below c y ≡ below b y) (sym at) (other-same MACHINE_BIRTH (machine-no_bus b k) (machine-no_bus c l) f.machine)
  below-same x (device s) = other-same x (stands-no_bus b k x s) (stands-no_bus c l x (stay x s)) (f.children x (stay x s))
  below-same x (bus is its) = bus-same x (record { is_bus = is; owner = its }) (reached-live c l x (on x (bus is its)))

  post-length : (x : ℕ) → length (post b x) ≡ length (flat_map (post b) (below b x)) + 1
  post-length x = ap (λ (xs : List ℕ). length xs) (post-is b d x) ∙ length-append (flat_map (post b) (below b x)) (x ∷ [])

  post-within : (size x : ℕ) → length (post b x) ≤ size → IsReached b x → post c x ≡ post b x
  post-within zero x few i = absurd (omega (arith, few, post-length x))
  post-within (suc size) x few i =
      post-is c e x
      ∙ ap (λ (ms : List ℕ). flat_map (post c) ms ++ x ∷ []) (below-same x i)
      ∙ ap (λ (xs : List ℕ). xs ++ x ∷ [])
      (flat-same (post c) (post b) (below b x)
      (λ m under. post-within size m (omega (arith, few, post-length x, length-part (post b) m (below b x) under)) (reached-below b k x m under i)))
      ∙ sym (post-is b d x)

  post-same : (x : ℕ) → IsReached b x → post c x ≡ post b x
  post-same x i = post-within (length (post b x)) x (omega arith) i

  module _ (shape : SoundShape b) (shape_after : SoundShape c) where
    root : IsReached b ROOT_BUS_BIRTH
    root = bus (root-is b shape) (machines refl)

    memory : IsReached b MEMORY_BUS_BIRTH
    memory = bus (memory-is b shape) (machines refl)

    mapped-same : mapped c ≡ mapped b
    mapped-same = ap₂ (λ (xs ys : List ℕ). xs ++ ys) (post-same ROOT_BUS_BIRTH root) (post-same MEMORY_BUS_BIRTH memory)

    mapped-reached : (o : ℕ) → among (mapped b) o ≡ true → IsReached b o
    mapped-reached o i =
        among-cases o (post b ROOT_BUS_BIRTH) (post b MEMORY_BUS_BIRTH) i (post-reached b k ROOT_BUS_BIRTH o root)
        (post-reached b k MEMORY_BUS_BIRTH o memory)

    driven-same : (o : ℕ) → IsReached b o → wiring (registers_at b o) ≡ wiring (registers_at c o)
    driven-same o i =
        driven-by b shape o
        ∙ ap (λ (kind : Option TypeId). option_map_or (λ (t : TypeId). wiring (fresh_registers t)) kind Joined)
        (sym (f.kind o (reached-live b k o i) (reached-live c l o (on o i))))
        ∙ sym (driven-by c shape_after o)

    lines-kept : (w : Wired) → AreShaped b w → AreShaped c w
    lines-kept w are = record {
      objects = are.objects ∙ sym mapped-same;
      rows = are.rows;
      wired = λ i within.
          let row : Row = row_at w.rows i in
          let there : IsReached b row.object =
          mapped-reached row.object (subst (λ (os : List ℕ). among os row.object ≡ true) are.objects (row-among w.rows i within)) in
          subst (λ (by : Wiring). IsDriven by c w.rows w.wires row) (driven-same row.object there)
          (driven-kept b c w (wiring (registers_at b row.object)) row (sym (below-same row.object there)) (are.wired i within));
      slots = λ n low.
          subst (λ (o : Option ℕ). IsSlotLine w.rows o (kept_line w.slots n)) (sym (kid-same b c k.firm l.firm ROOT_BUS_BIRTH kids n)) (are.slots n low);
    }
      where
        kids : kid_entries c ROOT_BUS_BIRTH ≡ kid_entries b ROOT_BUS_BIRTH
        kids =
            (still ROOT_BUS_BIRTH (record { is_bus = root-is b shape; owner = machines refl })
            (reached-live c l ROOT_BUS_BIRTH (on ROOT_BUS_BIRTH root))).kids

-- Commands.

-- an object that is made, let go or written, and links that are cut
pub changed-lines : (b : Board) (change : Change) → KeepsLines b (changed b change)
changed-lines b change sound after w are =
    let d : SoundDevices b = sound.run.devices in
    lines-kept b (changed b change) d after.run.devices (frame b change d) (reached-on b change d) (λ x s. (keeps b change d).stood x ∙ s)
    (kids-changed b d change) sound.shape after.shape w are

-- `qom-set`, which writes the numbers of clocks too
pub write-lines : (b c : Board) (path name : List ℕ) (v : Val) → write_at b path name v ≡ Ok c → KeepsLines b c
write-lines b c path name v is =
    write_at-cases (KeepsLines b c) b c plainly
    (λ n period low e. framed-lines b c (set-frame b c n period e))
    (λ n mul low e. framed-lines b c (scaled-frame b c n mul (div_of b n) e))
    (λ n div low e. framed-lines b c (scaled-frame b c n (mul_of b n) div e))
    path name v is
  where
    plainly : (n : ℕ) (own : List ℕ) (x : Val) → write b n own x ≡ Ok c → KeepsLines b c
    plainly n own x e = subst (λ (y : Board). KeepsLines b y) (ap (after_write b) e) (changed-lines b (wrote n own x))
