-- The law: what keeps the notes of a board in order where devices come and go.
use Rattle.std.proofs.Common.{◌≡◌, refl, ap, sym, ◌∙◌, ℕ, ◌+◌, ◌<◌, ◌≤◌, Bool, true, false, ◌==◌, List, [], ◌∷◌, ◌++◌, filter, length, codes, Option, Some, None, is_some, option_map, append-nil, arith}
use Rattle.qo_model.proofs.Common.{⊤, AllByRecursion, option_or, Code, Init, Realize, Hold, Exit, TypeId, Board, Record, Slot, kind_of, add, fresh, acted, with_act_on, beginning, NotesInOrder, with_act, asked, asked_of, device_at, refused, with_asked, init_notes, attached, canonical, Resources, Wanted, acted_all, aliased, barred_early, barred_late, bus_births, bus_for, clocked, counted, drafted, notice_barred, owned, plug, plug_as, plug_by, plug_late, property_made, properties_made, source_for, resources_of, stood, type_barred, types_in, with_body_of, with_device, with_new, with_path, with_plugged, edit, pin, without_first, notes_on, is_not_in_reset, phased, plugged, post, pulse, released, property_name, is_open, TypeInfo, inits, is_a, type_named, slots_of, detach, unrealize}
use Rattle.qo_model.specs.declared.notes.Deed.TheVariants.{Did}
use Rattle.qo_model.specs.declared.notes.Note.{Note}
use Rattle.qo_model.specs.Hotplug.{is_early}
use Rattle.qo_model.specs.declared.properties.Property.{Property}
use Rattle.qo_model.specs.declared.properties.PropertyRole.{PropertyRole}
use Rattle.std.proofs.lemmas.List.Elements.{filter-append}
use Rattle.std.proofs.lemmas.List.Folds.{find-append}
use Rattle.qo_model.specs.Reset.{after_hold}
use Rattle.qo_model.specs.declared.properties.PropertyRole.TheVariants as row
use Rattle.qo_model.proofs.DraftEndsLemmas.{kinds_in}
use Rattle.qo_model.proofs.FinalNotesGrowthLemmas.{act-keeps, Grown, grown-keeps, next-absent, next-begins, last-other, last-own, unmapped}
use Rattle.qo_model.proofs.FinalNotesLemmas.{after-keeps, edit-keeps, edit-kind, kind-live, pins-keep, same-keep}
use Rattle.qo_model.proofs.StepLemmas.{found_at}
use Rattle.qo_sound.specs.TreeKept.{SoundTree}
use Rattle.qo_sound.specs.NotesKept.{NotesKeptLaw}
use Rattle.qo_sound.proofs.AttemptNotesLemmas.{buses-within, cut_attempt-keeps, noted-other, plug_attempt-keeps}
use Rattle.qo_sound.proofs.DetachmentStepsLemmas.{KeepsEnds, KeepsLists, KeepsPins, step-detach, step-pin, step-unrealize}
use Rattle.qo_sound.proofs.FirmBoardLemmas.{AllLinked}
use Rattle.qo_sound.proofs.KindsLemmas.{device-kinds}
use Rattle.qo_sound.proofs.PresenceLemmas.{buses-there, IsThere, kids-there, post-there}
use Rattle.qo_sound.proofs.AdditionStepsLemmas.{any-rows, KeepsActs, KeepsEdits, KeepsNew, LeavesAllButSlots, new_with, step-acted_all, step-drafted, step-phased, step-plugged, step-stood}
use Rattle.qo_sound.proofs.PlugLemmas.{device-of, held-all, held-phased, IsPlace, place-of, shut-above, sits-device}
use Rattle.qo_sound.proofs.RecordLemmas.{all-filter}
use Rattle.qo_values.proofs.ListLemmas.{all-imply}
use Rattle.qo_sound.proofs.UnplugLemmas.{HasPins}
use Rattle.qo_sound.proofs.ViewLemmas.{PinsRootAlone, rest-from_sound}
use Rattle.qo_values.specs.declared.kinds.ResetKind.{ResetKind}
use Rattle.qo_values.specs.Kinds.{entering}
use Rattle.qo_sound.proofs.PhaseActs.{entering-plain}

-- small steps

changed-birth : (change : Record → Record) → LeavesAllButSlots change → (r : Record) → (change r).birth ≡ r.birth
changed-birth change same r = ap (λ (x : Record). x.birth) (same r)

changed-kind : (change : Record → Record) → LeavesAllButSlots change → (r : Record) → (change r).kind ≡ r.kind
changed-kind change same r = ap (λ (x : Record). x.kind) (same r)

pub notes-edits : KeepsEdits NotesInOrder
notes-edits n change same c o = edit-keeps n change (changed-birth change same) (changed-kind change same) c o

notes-pins : KeepsPins NotesInOrder
notes-pins pins c o = pins-keep c pins o

notes-ends : KeepsEnds NotesInOrder
notes-ends m c o = after-keeps c m o

-- an object that is made

new-grows : (b : Board) (t : TypeId) (slots : List (List ℕ × Slot)) → NotesInOrder b → Grown b (with_new (new_with b t slots) b) t false
new-grows b t slots o =
    record {
      born = refl;
      others = λ x e. ap (option_map (λ (r : Record). r.kind)) (last-other b.records (new_with b t slots) x e);
      unnoted = λ x e.
          filter-append (λ (y : Note). y.birth == x) b.notes (init_notes (b.born + 1) t)
          ∙ ap (λ (xs : List Note). notes_on x b.notes ++ xs) (noted-other (b.born + 1) x e (λ k. Did (Init k)) (inits t))
          ∙ append-nil (notes_on x b.notes);
      kind = ap (option_map (λ (r : Record). r.kind)) (last-own b.records (new_with b t slots)
          (unmapped (found_at (b.born + 1) b.records) (next-absent b o (kind_of b (b.born + 1)) refl)));
      story =
          record {
            between = [];
            neither = refl;
            in_order = next-begins b t o ∙ sym (append-nil (beginning (b.born + 1) t)) ∙ sym (append-nil (beginning (b.born + 1) t ++ []));
          };
    }

notes-new : KeepsNew (λ k. ⊤) NotesInOrder
notes-new k slots made c o = grown-keeps c _ k false (new-grows c k slots o) o

-- acts of objects that were there, while nothing comes or goes
record Tells (b c : Board) : Type 0 where
  notes : NotesInOrder c
  kinds : (x : ℕ) → kind_of c x ≡ kind_of b x

tells-none : (b : Board) → NotesInOrder b → Tells b b
tells-none b o = record { notes = o; kinds = λ x. refl }

there-still : (b c : Board) → ((x : ℕ) → kind_of c x ≡ kind_of b x) → (n : ℕ) → IsThere b n → IsThere c n
there-still b c same n there = sym (kind-live c n) ∙ ap is_some (same n) ∙ kind-live b n ∙ there

tells-acts : (b : Board) → KeepsActs (IsThere b) (Tells b)
unfolding acted
tells-acts b act n period unbound there c h =
    record {
      notes = same-keep (with_act n act c) (acted act n period c) refl refl stay (act-keeps c n act (there-still b c h.kinds n there) unbound h.notes);
      kinds = λ x. stay x ∙ h.kinds x;
    }
  where
    stay : (x : ℕ) → kind_of (acted act n period c) x ≡ kind_of c x
    stay x = edit-kind n (with_act_on act c.now period) (λ r. refl) (λ r. refl) c x

tells-edits : (b : Board) → KeepsEdits (Tells b)
tells-edits b n change same c h =
    record {
      notes = notes-edits n change same c h.notes;
      kinds = λ x. edit-kind n change (changed-birth change same) (changed-kind change same) c x ∙ h.kinds x;
    }

tells-lists : (b : Board) → KeepsLists (Tells b)
tells-lists b holds pending notices c h =
    record { notes = same-keep c (record c { holds = holds; pending = pending; notices = notices }) refl refl (λ x. refl) h.notes; kinds = h.kinds }

-- the objects of a new device are there

-- each birth from the device's on
abbrev AllThere : ℕ → Board → Type 0
AllThere n c = (x : ℕ) → n ≤ x → x ≤ c.born → IsThere c x

there-edits : (n : ℕ) → KeepsEdits (AllThere n)
there-edits n m change same c h x low high =
    there-still c (edit m change c) (edit-kind m change (changed-birth change same) (changed-kind change same) c) x (h x low high)

first-some : (o p : Option Record) → is_some o ≡ true → is_some (option_or o p) ≡ true
first-some None p e = absurd (let clash : false ≡ true = e in cc)
first-some (Some r) p e = refl

last-some : (o : Option Record) (r : Record) → is_some (option_or o (Some r)) ≡ true
last-some None r = refl
last-some (Some x) r = refl

there-new : (n : ℕ) → KeepsNew (λ k. ⊤) (AllThere n)
there-new n k slots made c h x low high = ap is_some (find-append (λ (y : Record). y.birth == x) c.records (new_with c k slots ∷ []))
    ∙ go (c.born + 1 == x) refl
  where
    go : (u : Bool) → (c.born + 1 == x) ≡ u → is_some (option_or (found_at x c.records) (found_at x (new_with c k slots ∷ []))) ≡ true
    go true p = rw p (last-some (found_at x c.records) (new_with c k slots))
    go false p =
        let apart : (c.born + 1 == x) ≡ false = p in
        let most : x ≤ c.born + 1 = high in
        let few : x ≤ c.born = grind (arith, most, apart) in
        first-some (found_at x c.records) (found_at x (new_with c k slots ∷ [])) (h x low few)

drafted-there : (b : Board) (t : TypeId) → AllThere (b.born + 1) (drafted b t)
drafted-there b t =
    step-drafted (AllThere (b.born + 1)) (there-edits (b.born + 1)) (λ k. ⊤) (there-new (b.born + 1)) t tt (any-rows (slots_of t)) b
    (λ x low high. let clash : 0 < 0 = omega (arith, low, high) in absurd (omega (arith, clash)))

-- so many births are given to its objects
aliased-born : (n : ℕ) (name property : List ℕ) (o : Option ℕ) (c : Board) → (aliased n name property o c).born ≡ c.born
unfolding add
aliased-born n name property None c = refl
aliased-born n name property (Some m) c = refl

rows-born : (n : ℕ) (t : TypeId) (ps : List Property) (c : Board) → (properties_made n t ps c).born ≡ c.born + length (kinds_in ps)
unfolding add
rows-born n t [] c = omega arith
rows-born n t (p ∷ ps) c = go p.role refl (rows-born n t ps)
  where
    go : (kind : PropertyRole) → p.role ≡ kind → ((x : Board) → (properties_made n t ps x).born ≡ x.born + length (kinds_in ps))
        → (properties_made n t (p ∷ ps) c).born ≡ c.born + length (kinds_in (p ∷ ps))
    go (row.Plain type first) e rest = rw e (rest (property_made n t (property_name p.name) (row.Plain type first) c))
    go (row.Link target true) e rest = rw e (rest (property_made n t (property_name p.name) (row.Link target true) c))
    go (row.Link target false) e rest = rw e (rest (property_made n t (property_name p.name) (row.Link target false) c))
    go (row.Child k) e rest = rw e (rest (property_made n t (property_name p.name) (row.Child k) c) ∙ omega arith)
    go (row.Alias owner of) e rest =
        let m : Option ℕ = owned c n (property_name owner) in
        rw e (rest (aliased n (property_name p.name) (property_name of) m c)
        ∙ ap (λ (k : ℕ). k + length (kinds_in ps)) (aliased-born n (property_name p.name) (property_name of) m c))

drafted-born : (b : Board) (t : TypeId) → (drafted b t).born ≡ b.born + length (types_in t)
drafted-born b t = rows-born (b.born + 1) t (slots_of t) (with_new (fresh (b.born + 1) t) b) ∙ omega arith

counted-keeps : (id : Option (List ℕ)) (c : Board) → NotesInOrder c → NotesInOrder (counted id c)
counted-keeps None c o = same-keep c (counted None c) refl refl (λ x. refl) o
counted-keeps (Some id) c o = o

-- a device that is added

module _ (b : Board) (t : TypeId) (a : Wanted) (resources : Resources) (rest : PinsRootAlone b) (place : IsPlace b t a resources) (o : NotesInOrder b) where
  abbrev n : ℕ
  n = b.born + 1

  abbrev made : Board
  made = with_device b t a resources

  abbrev acted_on : Board
  acted_on = acted_all Realize (n ∷ bus_births n t) made

  shut : is_open n ≡ false
  shut = shut-above b.born rest.used.firm.begun

  made-notes : NotesInOrder made
  made-notes =
      counted-keeps a.id (clocked (source_for b resources.bus) n (stood b n a resources (drafted b t)))
      (step-stood NotesInOrder notes-edits b n a resources (λ c h. edit-keeps n (with_body_of a.id resources.range) (λ r. refl) (λ r. refl) c h) (drafted b t)
      (step-drafted NotesInOrder notes-edits (λ k. ⊤) notes-new t tt (any-rows (slots_of t)) b o))

  -- it and its further objects are there
  made-there : (x : ℕ) → b.born < x → x ≤ b.born + length (types_in t) → IsThere made x
  made-there x low high =
      there-still (drafted b t) made (λ y. ap (λ (kinds : ℕ → Option TypeId). kinds y) (device-kinds b t a resources)) x
      (drafted-there b t x (omega (arith, low)) (omega (arith, high, drafted-born b t)))

  own-there : IsThere made n
  own-there = made-there n (omega arith) (omega arith)

  all-there : AllByRecursion (IsThere made) (n ∷ bus_births n t)
  all-there = (
    own-there,
    all-imply (λ m. (b.born < m) × (m ≤ b.born + length (types_in t))) (IsThere made) (λ m h. made-there m h.0 h.1) (bus_births n t)
        (buses-within b.born n (types_in t) (b.born + length (types_in t)) (omega arith) (omega arith)),
  )

  acted-tells : Tells made acted_on
  acted-tells = step-acted_all (IsThere made) (Tells made) (tells-acts made) Realize refl (n ∷ bus_births n t) all-there made (tells-none made made-notes)

  acted-sits : HasPins (1 ∷ []) acted_on
  acted-sits = held-all (1 ∷ []) Realize (n ∷ bus_births n t) made (sits-device b t a resources rest shut place)

  passed-tells : Tells acted_on (plugged acted_on n)
  passed-tells =
      step-plugged (IsThere acted_on) (Tells acted_on) (tells-acts acted_on) n acted_on
      (post-there acted_on acted-sits.near.firm.linked n (there-still made acted_on acted-tells.kinds n own-there))
      (tells-none acted_on acted-tells.notes)

  plugged-notes : NotesInOrder (with_plugged b t a resources)
  plugged-notes =
      let c : Board = plugged acted_on n in
      let d : Board = edit n (with_path (canonical c n)) c in
      same-keep d (with_plugged b t a resources) refl refl (λ x. refl) (edit-keeps n (with_path (canonical c n)) (λ r. refl) (λ r. refl) c passed-tells.notes)

late-notes : (b : Board) (t : TypeId) (bus : ℕ) (a : Wanted) → PinsRootAlone b → NotesInOrder b
    → (barred_late b t bus a.props ≡ None → IsPlace b t a (resources_of b t bus a.props)) → (r : Option (ℕ × Code)) → barred_late b t bus a.props ≡ r
    → NotesInOrder (plug_late b t bus a r).board
late-notes b t bus a rest o place (Some refusal) e = plug_attempt-keeps b t bus refusal.0 o
late-notes b t bus a rest o place None e = plugged-notes b t a (resources_of b t bus a.props) rest (place e) o

as-notes : (b : Board) (t : TypeId) (a : Wanted) → is_a t (codes "device") ≡ true → PinsRootAlone b → NotesInOrder b → (r : Option (ℕ × Code))
    → barred_early b t a ≡ r → NotesInOrder (plug_as b t a r).board
as-notes b t a device rest o (Some refusal) e = o
as-notes b t a device rest o None e = go (bus_for b t a.bus) refl
  where
    go : (m : Option ℕ) → bus_for b t a.bus ≡ m → NotesInOrder (plug_as b t a None).board
    go None p = rw (plug_as, p) o
    go (Some bus) p = rw (plug_as, p) (late-notes b t bus a rest o (place-of b t bus a device p e) (barred_late b t bus a.props) refl)

by-notes : (b : Board) (a : Wanted) → PinsRootAlone b → NotesInOrder b → (r : Option Code) → type_barred a.driver ≡ r → NotesInOrder (plug_by b a r).board
by-notes b a rest o (Some code) e = o
by-notes b a rest o None e = go (type_named a.driver) refl
  where
    go : (row : Option TypeInfo) → type_named a.driver ≡ row → NotesInOrder (plug_by b a None).board
    go None p = rw (plug_by, p) o
    go (Some row) p = rw (plug_by, p) (as-notes b row.id a (device-of row (rw (type_barred, p) at e)) rest o (barred_early b row.id a) refl)

plug-notes : (b : Board) (a : Wanted) → SoundTree b → NotesInOrder b → NotesInOrder (plug b a).board
unfolding plug
plug-notes b a h o = by-notes b a (rest-from_sound b h) o (type_barred a.driver) refl

-- a device that is detached

pinned-linked : (b : Board) (d : ℕ) → AllLinked (kind_of b) b.records → AllLinked (kind_of (pin b d)) (pin b d).records
unfolding pin
pinned-linked b d h = h

pinned-there : (b : Board) (d : ℕ) → IsThere b d → IsThere (pin b d) d
unfolding pin
pinned-there b d h = h

detach-notes : (b : Board) (d : ℕ) → SoundTree b → IsThere b d → NotesInOrder b → NotesInOrder (detach b d)
detach-notes b d h there o = step-detach NotesInOrder notes-edits notes-pins notes-ends b d unrealized.notes
  where
    linked : AllLinked (kind_of (pin b d)) (pin b d).records
    linked = pinned-linked b d (rest-from_sound b h).used.firm.linked

    unrealized : Tells (pin b d) (unrealize (pin b d) d)
    unrealized =
        step-unrealize (IsThere (pin b d)) (Tells (pin b d)) (tells-edits (pin b d)) (tells-acts (pin b d)) (tells-lists (pin b d)) (pin b d)
        (buses-there (pin b d)) (kids-there (pin b d) linked) d (pinned-there b d there)
        (tells-none (pin b d) (step-pin NotesInOrder notes-edits notes-pins notes-ends d b o))

-- the phases of what is there

held-notes : (b : Board) (n : ℕ) (kind : ResetKind) → PinsRootAlone b → IsThere b n → NotesInOrder b → Tells b (after_hold b n kind)
unfolding after_hold
held-notes b n kind rest there o =
    let out : List ℕ = filter (is_not_in_reset b) (post b n) in
    let on : AllByRecursion (IsThere b) out = all-filter (IsThere b) (is_not_in_reset b) (post b n) (post-there b rest.used.firm.linked n there) in
    let entered : Tells b (phased (entering kind) out b) =
    step-phased (IsThere b) (Tells b) (tells-acts b) (entering kind) (entering-plain kind) out on b (tells-none b o) in
    let c : Board = phased Hold out (phased (entering kind) out b) in
    let h : Tells b c = step-phased (IsThere b) (Tells b) (tells-acts b) Hold refl out on (phased (entering kind) out b) entered in
    tells-lists b (b.holds ++ n ∷ []) c.pending c.notices c h

released-notes : (b : Board) (n : ℕ) → AllLinked (kind_of b) b.records → IsThere b n → NotesInOrder b → NotesInOrder (released b n)
unfolding released
released-notes b n linked there o =
    let c : Board = record b { holds = without_first n b.holds } in
    let on : AllByRecursion (IsThere c) (filter (is_not_in_reset c) (post c n)) =
    all-filter (IsThere c) (is_not_in_reset c) (post c n) (post-there c linked n there) in
    let h : Tells c (phased Exit (filter (is_not_in_reset c) (post c n)) c) =
    step-phased (IsThere c) (Tells c) (tells-acts c) Exit refl (filter (is_not_in_reset c) (post c n)) on c
    (tells-none c (same-keep b c refl refl (λ x. refl) o))
    in
    h.notes

held-linked : (b : Board) (n : ℕ) (kind : ResetKind) → PinsRootAlone b → AllLinked (kind_of (after_hold b n kind)) (after_hold b n kind).records
unfolding after_hold
held-linked b n kind rest =
    let out : List ℕ = filter (is_not_in_reset b) (post b n) in
    let entered : HasPins (1 ∷ []) (phased (entering kind) out b) =
    held-phased (1 ∷ []) (entering kind) out b (record { near = rest.used; pins = rest.pinned }) in
    let h : HasPins (1 ∷ []) (phased Hold out (phased (entering kind) out b)) = held-phased (1 ∷ []) Hold out (phased (entering kind) out b) entered in
    h.near.firm.linked

pulse-notes : (b : Board) (n : ℕ) (kind : ResetKind) → SoundTree b → IsThere b n → NotesInOrder b → NotesInOrder (pulse b n kind)
unfolding pulse
pulse-notes b n kind h there o =
    let rest : PinsRootAlone b = rest-from_sound b h in
    let k : Tells b (after_hold b n kind) = held-notes b n kind rest there o in
    released-notes (after_hold b n kind) n (held-linked b n kind rest) (there-still b (after_hold b n kind) k.kinds n there) k.notes

-- removals that are asked for

asked_of-notes : (b : Board) (d : ℕ) → NotesInOrder b → NotesInOrder (asked_of b d).board
asked_of-notes b d o = go (attached b d) refl (is_early b d) refl (is_some (notice_barred b)) refl
  where
    go : (u : Bool) → attached b d ≡ u → (v : Bool) → is_early b d ≡ v → (w : Bool) → is_some (notice_barred b) ≡ w → NotesInOrder (asked_of b d).board
    go false p v q w r = rw (asked_of, p) o
    go true p true q w r = rw (asked_of, p, q) o
    go true p false q true r = rw (asked_of, p, q, r) o
    go true p false q false r = rw (asked_of, p, q, r) (same-keep b (with_asked b d) refl refl (λ x. refl) o)

asked-notes : (b : Board) (id : List ℕ) → NotesInOrder b → NotesInOrder (asked b id).board
asked-notes b id o = go (device_at b id) refl
  where
    go : (d : Option ℕ) → device_at b id ≡ d → NotesInOrder (asked b id).board
    go None p = rw (asked, p) o
    go (Some d) p = rw (asked, p) (asked_of-notes b d o)

beside-notes : (b c : Board) → c.records ≡ b.records → c.born ≡ b.born → c.notes ≡ b.notes → NotesInOrder b → NotesInOrder c
beside-notes b c records born notes o = same-keep b c born notes (λ x. ap (λ (rs : List Record). option_map (λ (r : Record). r.kind) (found_at x rs)) records) o

pub notes_kept_lem : NotesKeptLaw
notes_kept_lem =
    record {
      plugged = plug-notes;
      cut = cut_attempt-keeps;
      detached = detach-notes;
      held_so = λ b n kind h there o. (held-notes b n kind (rest-from_sound b h) there o).notes;
      released_so = λ b n h there o. released-notes b n (rest-from_sound b h).used.firm.linked there o;
      pulsed = pulse-notes;
      asked_for = asked-notes;
      refused_by = λ b d o. same-keep b (refused b d) refl refl (λ x. refl) o;
      beside = beside-notes;
    }
