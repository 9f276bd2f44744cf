-- An id is a name.
use Rattle.std.proofs.Common.{◌≡◌, refl, ◌<◌, nat_lt, Bool, true, false, List, [], ◌∷◌, length, ℕ, arith}
use Rattle.std.specs.List.{list_all}
use Rattle.std.proofs.lemmas.Bool.{ltb-true}
use Rattle.std.proofs.lemmas.Bool.Decides.{nat_tests}
use Rattle.qo_values.specs.Ids.{is_id, is_id_byte, is_letter}
use Rattle.qo_values.specs.Names.{IsName, is_name_byte}
use Rattle.qo_values.specs.declared.limits.TheConstants.{ID_MAX}

id-byte : (b : ℕ) → is_id_byte b ≡ true → is_name_byte b ≡ true
id-byte b e = grind (arith, nat_tests, e)

id-first : (b : ℕ) → is_letter b ≡ true → is_name_byte b ≡ true
id-first b e = id-byte b (rw e refl)

ids-all : (bs : List ℕ) → list_all is_id_byte bs ≡ true → list_all is_name_byte bs ≡ true
ids-all [] e = refl
ids-all (b ∷ bs) e = go (is_id_byte b) refl (ids-all bs)
  where
    go : (t : Bool) → is_id_byte b ≡ t → (list_all is_id_byte bs ≡ true → list_all is_name_byte bs ≡ true) → list_all is_name_byte (b ∷ bs) ≡ true
    go true p rest = rw (id-byte b p) (rest (rw p at e))
    go false p rest = absurd (let clash : false ≡ true = rw p at e in cc)

pub id-named : (id : List ℕ) → is_id id ≡ true → IsName id
id-named [] e = cc
id-named (b ∷ bs) e = go (is_letter b) refl (list_all is_id_byte bs) refl (nat_lt (length bs) ID_MAX) refl
  where
    go : (t : Bool) → is_letter b ≡ t → (u : Bool) → list_all is_id_byte bs ≡ u → (w : Bool) → nat_lt (length bs) ID_MAX ≡ w → IsName (b ∷ bs)
    go true p true q true r = record {
      some = omega arith;
      short = (let few : length bs < ID_MAX = ltb-true (length bs) ID_MAX r in omega arith);
      printable = rw (id-first b p) (ids-all bs q);
    }
    go true p true q false r = absurd (let clash : false ≡ true = rw (p, q, r) at e in cc)
    go true p false q w r = absurd (let clash : false ≡ true = rw (p, q) at e in cc)
    go false p u q w r = absurd (let clash : false ≡ true = rw p at e in cc)
