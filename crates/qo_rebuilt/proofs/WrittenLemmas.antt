-- A board on which slots were written, and no object or child came or went, has a description where it had one, and the same ways.
use Rattle.std.proofs.Common.{◌≡◌, refl, ap, sym, ◌∙◌, ℕ, Bool, true, false, not, ◌==◌, ◌&&◌, List, [], length, is_some, is_none}
use Rattle.qo_model.proofs.Common.{AllByRecursion, ANONYMOUS_BIRTH, ROOT_BIRTH, Board, Record, is_live, kind_of, record_of, slots_at, children_of, detached, place_of}
use Rattle.qo_values.proofs.ListLemmas.{all-imply}
use Rattle.qo_model.proofs.StepLemmas.{is_some-map}
use Rattle.qo_model.specs.Board.{Removal}
use Rattle.qo_model.specs.Properties.{path_text}
use Rattle.qo_save.specs.Described.{is_describable}
use Rattle.qo_sound.proofs.TestLemmas.{decide}
use Rattle.qo_sound_devices.specs.SoundPlaces.{child_entries, has_entry}
use Rattle.qo_ways.specs.Ways.{IsInOrder}
use Rattle.qo_good.proofs.ItemLemmas.{births_in}
use Rattle.qo_good.proofs.PlaceLemmas.{entries-children, parts, settled}
use Rattle.qo_rebuilt.proofs.GrowthLemmas.{places-kept, texts-kept}
use Rattle.qo_rebuilt.proofs.TellingLemmas.{all-live, none-left}

-- the same objects are there, of the same types and with the same children, and no more removals are pending
pub record IsRewritten (b c : Board) : Type 0 where
  pub kinds : (n : ℕ) → kind_of c n ≡ kind_of b n
  pub children : (n : ℕ) → child_entries c n ≡ child_entries b n
  pub pending : c.pending ≡ b.pending

module _ (b c : Board) (h : IsInOrder b) (k : IsInOrder c) (says : is_describable b ≡ true) (w : IsRewritten b c) where
  grows : (p : ℕ) (e : List ℕ × ℕ) → has_entry e (child_entries b p) ≡ true → has_entry e (child_entries c p) ≡ true
  grows p e there = ap (has_entry e) (w.children p) ∙ there

  pub texts-written : (m : ℕ) → is_live b m ≡ true → path_text c m ≡ path_text b m
  texts-written = texts-kept b c h k grows says

  live-back : (n : ℕ) → is_live c n ≡ true → is_live b n ≡ true
  live-back n live =
      sym (is_some-map (λ (r : Record). r.kind) (record_of b n)) ∙ ap is_some (sym (w.kinds n)) ∙ is_some-map (λ (r : Record). r.kind) (record_of c n) ∙ live

  abbrev lost : Record → Bool
  lost r = not (r.birth == ROOT_BIRTH) && is_none (place_of c r.birth)

  placed-still : (n : ℕ) → is_live c n ≡ true → (n == ROOT_BIRTH) ≡ false → is_none (place_of c n) ≡ false
  placed-still n live other =
      let (u, place) = settled b h says n (live-back n live) other in
      ap is_none (places-kept b c h k grows n u place)

  kept : AllByRecursion (λ (r : Record). lost r ≡ false) c.records
  kept =
      all-imply (λ (r : Record). is_live c r.birth ≡ true) (λ (r : Record). lost r ≡ false)
      (λ r live. decide (r.birth == ROOT_BIRTH) (λ q. rw q refl) (λ q. rw (q, placed-still r.birth live q) refl))
      c.records (all-live c)

  pub describable-written : is_describable c ≡ true
  describable-written =
      let own = parts b h says in
      let none : detached c ≡ [] = none-left lost c.records kept in
      let first : (length (detached c) == 0) ≡ true = ap (λ (rs : List Record). length rs == 0) none in
      let second : (length c.pending == 0) ≡ true = ap (λ (rs : List Removal). length rs == 0) w.pending ∙ own.1 in
      let children : children_of c ANONYMOUS_BIRTH ≡ children_of b ANONYMOUS_BIRTH =
      sym (entries-children (slots_at c ANONYMOUS_BIRTH)) ∙ ap births_in (w.children ANONYMOUS_BIRTH) ∙ entries-children (slots_at b ANONYMOUS_BIRTH) in
      let third : (length (children_of c ANONYMOUS_BIRTH) == 0) ≡ true = ap (λ (ns : List ℕ). length ns == 0) children ∙ own.2 in
      rw (first, second, third) refl
