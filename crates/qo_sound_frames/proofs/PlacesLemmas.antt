-- Places speak of the objects without their registers, and of the accepted adds of devices without an id.
use Rattle.std.proofs.Common.{◌≡◌, ap, sym, subst, ◌∙◌, ℕ, ◌<◌, true, false, List, [], ◌∷◌, None, codes, arith}
use Rattle.qo_model.proofs.Common.{AllByRecursion, list_any, ANONYMOUS_BIRTH, MACHINE_BIRTH, MEMORY_BUS_BIRTH, OBJECTS_BIRTH, PERIPHERAL_BIRTH, ROOT_BIRTH, ROOT_BUS_BIRTH, SYSTEM_CLOCK_BIRTH, Board, is_of}
use Rattle.qo_values.proofs.ListLemmas.{all-imply}
use Rattle.qo_sound_devices.specs.SoundLists.{SoundLists}
use Rattle.qo_sound_devices.specs.SoundPlaces.{child_entries, HasOwner, IsAnonymous, IsAtHome, IsHome, IsHosted, on_device, on_machine, IsKid, IsPeripheral, kid_entries, listed, owns, owns_it, PlacesBut, stands}
use Rattle.qo_sound_devices.proofs.LikenessLemmas.{Alike}
use Rattle.qo_sound_devices.proofs.ListsLemmas.{lists-same}
use Rattle.qo_sound_devices.proofs.PlacesLemmas.{id-alike, of-alike, owners-stay, path-alike, rooted-same, stands-same, suits-alike}

module _ (b c : Board) (alike : (x : ℕ) → Alike b c x) where
  is-same : (name : List ℕ) (x : ℕ) → is_of c name x ≡ is_of b name x
  is-same name x = of-alike b c x name (alike x).body

  pub stand-same : (d : ℕ) → stands c d ≡ stands b d
  stand-same = stands-same b c (alike PERIPHERAL_BIRTH).children (alike ANONYMOUS_BIRTH).children

  own-same : (p q : ℕ) → owns c p q ≡ owns b p q
  own-same p q = ap (list_any (owns_it q)) (alike p).children

  listed-same : (p q : ℕ) → listed q (child_entries c p) ≡ listed q (child_entries b p)
  listed-same p q = ap (listed q) (alike p).children

  owner-to : (q : ℕ) → HasOwner b q → HasOwner c q
  owner-to = owners-stay b c (λ p s. stand-same p ∙ s) (λ p q s o. own-same p q ∙ o)

  owner-from : (q : ℕ) → HasOwner c q → HasOwner b q
  owner-from = owners-stay c b (λ p s. sym (stand-same p) ∙ s) (λ p q s o. sym (own-same p q) ∙ o)

  hosted-to : (p : ℕ) (e : List ℕ × ℕ) → IsHosted b p e → IsHosted c p e
  hosted-to p e (on_machine u) = on_machine u
  hosted-to p e (on_device is apart) = on_device (is-same (codes "device") p ∙ is) apart

  home-to : (p : ℕ) (e : List ℕ × ℕ) → IsAtHome b p e → IsAtHome c p e
  home-to p e h =
      record {
        bus = λ is. hosted-to p e (h.bus (sym (is-same (codes "bus") e.1) ∙ is));
        device = λ is. h.device (sym (is-same (codes "device") e.1) ∙ is);
      }

  kid-to : (q : ℕ) (e : List ℕ × ℕ) → IsKid b q e → IsKid c q e
  kid-to q e h =
      record {
        there = stand-same e.1 ∙ h.there;
        on = (alike e.1).bus ∙ h.on;
        fits = suits-alike b c q e.1 (alike q).body (alike e.1).body ∙ h.fits;
        slot = (h.slot.0, (h.slot.1.0, ((alike e.1).place ∙ h.slot.1.1.0, h.slot.1.1.1)));
      }

  pub places-alike : c.anonymous ≡ b.anonymous → (depth : ℕ → ℕ) → PlacesBut depth None (λ x. false) b → PlacesBut depth None (λ x. false) c
  places-alike count depth h =
      record {
        machine = listed-same ROOT_BIRTH MACHINE_BIRTH ∙ h.machine;
        objects = listed-same ROOT_BIRTH OBJECTS_BIRTH ∙ h.objects;
        parts =
            all-imply (λ n. listed n (child_entries b MACHINE_BIRTH) ≡ true) (λ n. listed n (child_entries c MACHINE_BIRTH) ≡ true)
            (λ n k. listed-same MACHINE_BIRTH n ∙ k)
            (PERIPHERAL_BIRTH ∷ ANONYMOUS_BIRTH ∷ ROOT_BUS_BIRTH ∷ MEMORY_BUS_BIRTH ∷ SYSTEM_CLOCK_BIRTH ∷ []) h.parts;
        rooted = rooted-same b c (alike ROOT_BIRTH).body (alike ROOT_BIRTH).children (alike MACHINE_BIRTH).children h.rooted;
        children = λ p.
            subst (AllByRecursion (IsAtHome c p)) (sym (alike p).children)
            (all-imply (IsAtHome b p) (IsAtHome c p) (home-to p) (child_entries b p) (h.children p));
        aside =
            all-imply (λ n. stands b n ≡ false) (λ n. stands c n ≡ false) (λ n k. stand-same n ∙ k)
            (ROOT_BIRTH ∷ MACHINE_BIRTH ∷ PERIPHERAL_BIRTH ∷ ANONYMOUS_BIRTH ∷ ROOT_BUS_BIRTH ∷ MEMORY_BUS_BIRTH ∷ OBJECTS_BIRTH ∷ []) h.aside;
        peripheral =
            subst (AllByRecursion (IsPeripheral c)) (sym (alike PERIPHERAL_BIRTH).children)
            (all-imply (IsPeripheral b) (IsPeripheral c)
            (λ e k.
            record {
              device = is-same (codes "device") e.1 ∙ k.device;
              id = id-alike b c e.1 (alike e.1).body ∙ k.id;
              path = path-alike b c e.1 (alike e.1).body ∙ k.path;
            }) (child_entries b PERIPHERAL_BIRTH) h.peripheral);
        anonymous =
            subst (AllByRecursion (IsAnonymous c)) (sym (alike ANONYMOUS_BIRTH).children)
            (all-imply (IsAnonymous b) (IsAnonymous c)
            (λ e k.
            record {
              device = is-same (codes "device") e.1 ∙ k.device;
              id = id-alike b c e.1 (alike e.1).body ∙ k.id;
              path = path-alike b c e.1 (alike e.1).body ∙ k.path;
              numbered = (k.numbered.0, (subst (λ (n : ℕ). k.numbered.0 < n) (sym count) k.numbered.1.0, k.numbered.1.1));
            }) (child_entries b ANONYMOUS_BIRTH) h.anonymous);
        kids = λ q is.
            subst (AllByRecursion (IsKid c q)) (sym (alike q).kids)
            (all-imply (IsKid b q) (IsKid c q) (kid-to q) (kid_entries b q) (h.kids q (sym (is-same (codes "bus") q) ∙ is)));
        home = λ d s stays.
            let k : IsHome b d = h.home d (sym (stand-same d) ∙ s) stays in
            record {
              bus = k.bus;
              on = (alike d).bus ∙ k.on;
              is_bus = is-same (codes "bus") k.bus ∙ k.is_bus;
              kid = ap (listed d) (alike k.bus).kids ∙ k.kid;
            };
        owner = λ d q s on. owner-to q (h.owner d q (sym (stand-same d) ∙ s) (sym (alike d).bus ∙ on));
        shallow =
            record {
              top = h.shallow.top;
              below = λ p q m s on o. h.shallow.below p q m (sym (stand-same p) ∙ s) (sym (alike p).bus ∙ on) (sym (own-same p m) ∙ o);
              most = λ q o. h.shallow.most q (owner-from q o);
            };
        only = λ d e. stand-same d ∙ h.only d (sym (alike d).realized ∙ e);
        each = λ d s e. (alike d).realized ∙ h.each d (sym (stand-same d) ∙ s) e;
        ids = λ d id e. is-same (codes "device") d ∙ h.ids d id (sym (id-alike b c d (alike d).body) ∙ e);
        once = λ d e id p q. h.once d e id (sym (id-alike b c d (alike d).body) ∙ p) (sym (id-alike b c e (alike e).body) ∙ q);
      }

  pub lists-alike : c.pending ≡ b.pending → c.notices ≡ b.notices → c.now ≡ b.now → SoundLists b → SoundLists c
  lists-alike pending notices now h =
      lists-same b c pending notices (omega (arith, now)) (λ x on. (stand-same x ∙ on.0, (alike x).realized ∙ on.1)) h
