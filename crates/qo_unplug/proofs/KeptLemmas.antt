-- What bodies keep of claims, over the steps of a heap, and by whether each object is realized.
use Rattle.std.proofs.Common.{◌≡◌, refl, ap, sym, subst, ◌∙◌, ℕ, Bool, true, false, ◌==◌, codes, Option, Some, None, option_map, option_and_then}
use Rattle.std.specs.List.{AllByRecursion, IsDistinct}
use Rattle.std.specs.Option.{option_map_or}
use Rattle.std.specs.Str.{bytes_eq}
use Rattle.std.proofs.lemmas.Bool.{eqb-true}
use Rattle.std.proofs.lemmas.Option.{same_Some}
use Rattle.qo_values.specs.declared.kinds.Act.TheVariants.{Unrealize}
use Rattle.qo_values.specs.declared.properties.Val.{Val}
use Rattle.qo_values.specs.declared.properties.Val.TheVariants as val
use Rattle.qo_claims.specs.Book.{ClaimsTaken}
use Rattle.qo_kinds.specs.Bodies.{kept_of, none_kept, with_kept}
use Rattle.qo_kinds.specs.declared.kept_set.KeptSet.{KeptSet}
use Rattle.qo_model.specs.Board.{Board, Record, record_of}
use Rattle.qo_model.specs.Clocks.{acted, device_period}
use Rattle.qo_model.specs.Devices.{clock_of, is_realized, is_true, plain_in}
use Rattle.qo_model.specs.Unplug.{disconnected, set_named, unrealized_device}
use Rattle.qo_model.specs.declared.notes.Deed.TheVariants.{Did}
use Rattle.qo_model.proofs.FirstSlotLemmas.{named_in, slots_in}
use Rattle.qo_object.specs.Content.{Content, acted_at}
use Rattle.qo_object.specs.BoardObject.{shown}
use Rattle.qo_object.specs.Slots.{with_val}
use Rattle.qo_heap.specs.Board.{Shows}
use Rattle.qo_heap.specs.Objects.{Objects, content_of, with_edit, with_note}
use Rattle.qo_heap.proofs.BoardObjects.{content-other}
use Rattle.qo_heap.proofs.BoardReads.{shows-record}
use Rattle.qo_life.proofs.TreeLemmas.{read-content}
use Rattle.qo_clocks.specs.Links.{changed_named, unseen_on}
use Rattle.qo_properties.proofs.ActsKept.{changed-kept}
use Rattle.qo_sound.proofs.SearchLemmas.{all-found}
use Rattle.qo_sound.proofs.SlotLemmas.{names_in}
use Rattle.qo_sound_clocks.proofs.ReadLemmas.{plain-read}
use Rattle.qo_sound_claims.proofs.SlotLemmas.{lit_in}
use Rattle.qo_clocks.specs.Kept.{kept_afresh, kept_turn, with_periods}
use Rattle.qo_clocks.specs.Periods.{scaled_on}
use Rattle.qo_properties.specs.KeptClaims.{ClaimsBefore, KeptBefore, SameClaims, all_kept, kept_by, kept_with}
use Rattle.qo_properties.proofs.KeptLemmas.{claims-same}
use Rattle.qo_unplug.specs.RealizedClaims.{KeepsDue, due_if}
use Rattle.qo_unplug.proofs.RealizedLemmas.{LitAt, SameLit, dark-set, other-set, same_lit-acted, same_lit-disconnected, same_lit-then}

-- an object that is changed in what is no claim
pub kept-edited : (v : Objects) (n : ℕ) (f : Content → Content) → ((c : Content) → kept_of (f c).body ≡ kept_of c.body) → (m : ℕ)
    → kept_by (with_edit n f v) m ≡ kept_by v m
kept-edited v n f same m = read-content (λ (c : Content). kept_of c.body) n f same v m

all_kept-edited : (v : Objects) (n : ℕ) (f : Content → Content) → ((c : Content) → kept_with (f c) ≡ kept_with c) → (m : ℕ)
    → all_kept (with_edit n f v) m ≡ all_kept v m
all_kept-edited v n f same m = read-content kept_with n f same v m

pub kept-act : (v w : Objects) (n period : ℕ)
    → w ≡ with_note (record { birth = n; deed = Did Unrealize }) (with_edit n (acted_at Unrealize v.time period) v) → KeptBefore v w
kept-act v w n period is m k e =
    sym (all_kept-edited v n (acted_at Unrealize v.time period) (λ c. refl) m)
    ∙ (subst (λ (x : Objects). all_kept x m ≡ Some k) is e)

-- a clock that stands still
pub claims-disconnected : (v w : Objects) (n : ℕ)
    → w ≡ kept_afresh n (changed_named n (codes "period") (with_val (val.Uint 0)) (changed_named n (codes "source") unseen_on v)) → SameClaims v w
claims-disconnected v w n is m =
    let u : Objects = changed_named n (codes "source") unseen_on v in
    let x : Objects = changed_named n (codes "period") (with_val (val.Uint 0)) u in
    ap (λ (y : Objects). kept_by y m) is
    ∙ kept-edited x n (with_periods (kept_turn x n) (scaled_on x n (kept_turn x n))) (λ c. refl) m
    ∙ claims-same u x (changed-kept n (codes "period") (with_val (val.Uint 0)) u) m
    ∙ claims-same v u (changed-kept n (codes "source") unseen_on v) m

-- claims of one object are free
abbrev bared : Content → Content
bared c = record c { body = with_kept none_kept c.body }

pub kept-freed : (v u w : Objects) (n : ℕ) (claims : ClaimsTaken) → u ≡ with_edit n bared v → w ≡ record u { claims = claims } → (m : ℕ) (k : KeptSet)
    → (m == n) ≡ false → kept_by w m ≡ Some k → kept_by v m ≡ Some k
kept-freed v u w n claims bare is m k apart e =
    ap (option_map (λ (d : Content). kept_of d.body)) (sym (content-other v n m bared apart))
    ∙ ap (λ (x : Objects). kept_by x m) (sym bare)
    ∙ ap (λ (x : Objects). kept_by x m) (sym is)
    ∙ e

-- whether an object is realized, by its slots, where names differ

abbrev pub Named : Board → Type 0
Named b = AllByRecursion (λ (r : Record). IsDistinct bytes_eq (names_in r.slots)) b.records

pub real-lit : (b : Board) → Named b → (n : ℕ) (r : Record) → record_of b n ≡ Some r → is_realized b n ≡ lit_in r.slots
real-lit b named n r there =
    ap (λ (o : Option Record). option_map_or is_true (option_and_then plain_in (named_in (codes "realized") (slots_in o))) false) there
    ∙ ap (λ (o : Option Val). option_map_or is_true o false)
    (plain-read (codes "realized") r.slots (all-found (λ (x : Record). IsDistinct bytes_eq (names_in x.slots)) n b.records named r there))

-- who keeps claims is there
pub kept-there : (b : Board) (v : Objects) → Shows b v → (n : ℕ) (k : KeptSet) → kept_by v n ≡ Some k → (r : Record) × (record_of b n ≡ Some r)
kept-there b v s n k e = go (content_of v n) refl
  where
    go : (o : Option Content) → content_of v n ≡ o → (r : Record) × (record_of b n ≡ Some r)
    go None q = absurd (let clash : None ≡ Some k = sym (ap (option_map (λ (d : Content). kept_of d.body)) q) ∙ e in cc)
    go (Some c) q = (shown n c, shows-record b v s n ∙ ap (option_map (shown n)) q)

module _ (due : ℕ → KeptSet) (b c : Board) (v w : Objects) (before : Named b) (after : Named c) (s : Shows c w) (h : KeepsDue due b v) where
  pub due-at : (n : ℕ) (k : KeptSet) → LitAt (record_of b n) (record_of c n) → kept_by w n ≡ Some k → kept_by v n ≡ Some k
      → k ≡ due_if due (is_realized c n) n
  due-at n k lit now was =
      let (r, there) = kept-there c w s n k now in
      h n k was ∙ ap (λ (t : Bool). due_if due t n) (go r there (record_of b n) refl)
    where
      go : (r : Record) → record_of c n ≡ Some r → (o : Option Record) → record_of b n ≡ o → is_realized b n ≡ is_realized c n
      go r there None q = let clash : LitAt None (Some r) = rw (q, there) at lit in absurd clash
      go r there (Some x) q =
          let same : LitAt (Some x) (Some r) = rw (q, there) at lit in
          real-lit b before n x q ∙ sym same ∙ sym (real-lit c after n r there)

  -- bodies keep what they kept, and each object is as much realized as before
  pub due-stays : SameLit b c → ClaimsBefore v w → KeepsDue due c w
  due-stays lit kept n k now = due-at n k (lit n) now (kept n k now)

-- a device, that stood still and keeps no claim
module _ (d : ℕ) (c : Board) where
  abbrev stood_still : Board
  stood_still = disconnected (clock_of c d) (acted Unrealize d (device_period c d) c)

  same_lit-still : SameLit c stood_still
  same_lit-still =
      same_lit-then c (acted Unrealize d (device_period c d) c) stood_still (same_lit-acted d (device_period c d) c)
      (same_lit-disconnected (clock_of c d) (acted Unrealize d (device_period c d) c))

  pub due-device : (due : ℕ → KeptSet) (v u w : Objects) → Named c → Named stood_still → Named (unrealized_device d c) → Shows (unrealized_device d c) w
      → ClaimsBefore v u → kept_by w d ≡ Some none_kept
      → ((n : ℕ) (k : KeptSet) → (n == d) ≡ false → kept_by w n ≡ Some k → kept_by u n ≡ Some k) → KeepsDue due c v → KeepsDue due (unrealized_device d c) w
  due-device due v u w before mid after s kept bare others h n k now = go (n == d) refl
    where
      e : Board
      e = unrealized_device d c

      go : (t : Bool) → (n == d) ≡ t → k ≡ due_if due (is_realized e n) n
      go false p =
          let same : record_of e n ≡ record_of stood_still n = other-set d n (codes "realized") (val.Bool false) stood_still p in
          due-at due c e v w before after s h n k (subst (LitAt (record_of c n)) (sym same) (same_lit-still n)) now (kept n k (others n k p now))
      go true p =
          let is : n ≡ d = eqb-true n d p in
          let (r, there) = kept-there e w s n k now in
          let own : record_of (set_named d (codes "realized") (val.Bool false) stood_still) d ≡ Some r =
          subst (λ (m : ℕ). record_of e m ≡ Some r) is there in
          let dark : is_realized e n ≡ false = real-lit e after n r there ∙ dark-set d stood_still mid r own in
          let none : k ≡ none_kept = same_Some k none_kept (sym now ∙ ap (kept_by w) is ∙ bare) in
          none ∙ sym (ap (λ (t : Bool). due_if due t n) dark)
