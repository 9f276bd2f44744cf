-- The parts of a description, of which the version comes first.
use Rattle.std.proofs.Common.{◌≡◌, refl, ℕ, IsUtf8, Bool, true, false, cond, List, [], ◌∷◌, length, ap, ◌∙◌, Option, None, Some, option_map}
use Rattle.std.proofs.lemmas.Str.{IsUtf8-from_is_utf8, is_utf8-from_IsUtf8}
use Rattle.std.specs.Str.{is_utf8}
use Rattle.serde_json.specs.Read.{read}
use Rattle.std.specs.Prelude.{option_and_then, slice_get}
use Rattle.serde_json.specs.Data.{Data}
use Rattle.qo_save.specs.Description.{Description, description_names}
use Rattle.qo_save.specs.Shape.{also, clock_in, clock_item_in, description, description_in, description_of, device_in, is_one, link_in, list_in, object_in, ring_in, values_in}
use Rattle.qo_shape.proofs.ReadLemmas.{seven-are}
use Rattle.qo_shape.specs.Texts.{description_of_text}

-- what is made of the parts
abbrev pub parts_said : Data → Data → Data → Data → Data → Data → Option Description
parts_said clock clocks devices links objects rings =
    also (also (also (also (also (option_map description (clock_in clock)) (list_in clock_item_in clocks)) (list_in device_in devices)) (list_in link_in links))
    (list_in object_in objects)) (list_in ring_in rings)

module _ (d : Data) (ds : List Data) (clock clocks devices links objects rings version : Data) (is : values_in description_names d ≡ Some ds)
    (many : length ds ≡ 7)
    (at0 : slice_get ds 0 ≡ Some clock) (at1 : slice_get ds 1 ≡ Some clocks) (at2 : slice_get ds 2 ≡ Some devices) (at3 : slice_get ds 3 ≡ Some links)
    (at4 : slice_get ds 4 ≡ Some objects) (at5 : slice_get ds 5 ≡ Some rings) (at6 : slice_get ds 6 ≡ Some version) where
  by-version : description_in d ≡ cond (is_one version) (parts_said clock clocks devices links objects rings) None
  by-version =
      ap (option_and_then description_of) is
      ∙ ap description_of (seven-are ds clock clocks devices links objects rings version many at0 at1 at2 at3 at4 at5 at6)

  pub of-parts : is_one version ≡ true → description_in d ≡ parts_said clock clocks devices links objects rings
  of-parts one = by-version ∙ ap (λ (t : Bool). cond t (parts_said clock clocks devices links objects rings) None) one

  pub of-version : is_one version ≡ false → description_in d ≡ None
  of-version other = by-version ∙ ap (λ (t : Bool). cond t (parts_said clock clocks devices links objects rings) None) other

-- a text that is read, and one that is not
pub text-read : (bytes : List ℕ) (d : Data) → IsUtf8 bytes → read bytes ≡ Some d → description_of_text bytes ≡ description_in d
text-read bytes d text is = rw (is_utf8-from_IsUtf8 bytes text, is) refl

refused-at : (bytes : List ℕ) (b : Bool) → is_utf8 bytes ≡ b → (IsUtf8 bytes → read bytes ≡ None) → description_of_text bytes ≡ None
refused-at bytes false e none = rw e refl
refused-at bytes true e none = rw (e, none (IsUtf8-from_is_utf8 bytes e)) refl

pub text-refused : (bytes : List ℕ) → (IsUtf8 bytes → read bytes ≡ None) → description_of_text bytes ≡ None
text-refused bytes none = refused-at bytes (is_utf8 bytes) refl none
