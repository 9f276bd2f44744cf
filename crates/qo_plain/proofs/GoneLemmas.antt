-- The law: who goes with a device that is taken out.
use Rattle.std.proofs.Common.{◌≡◌, refl, sym, ◌∙◌, nat_eq, ℕ, Bool, true, false, [], ◌∷◌, length, Some, None, arith}
use Rattle.qo_model.proofs.Common.{list_any, Board, bus_of, bus_slot_of, is_realized, births, after, finalize, pin, put_in_order, unpin, without_pin, apart_within, detach, taken_by, unrealize}
use Rattle.std.proofs.lemmas.Bool.{false_from_ne_true}
use Rattle.qo_model.proofs.PinLemmas.{put-up}
use Rattle.qo_sound.proofs.FirmBoardLemmas.{WellFormed}
use Rattle.qo_sound.proofs.TestLemmas.{clash, decide}
use Rattle.qo_sound.proofs.ViewLemmas.{PinsRootAlone, rest-from_sound}
use Rattle.qo_sound_devices.specs.SoundDevices.{SoundDevices}
use Rattle.qo_sound_devices.specs.SoundPlaces.{IsHome, stands}
use Rattle.qo_sound_devices.proofs.DepthLemmas.{faded_by, room, stands-dimmed, unrealize-only}
use Rattle.qo_sound_devices.proofs.DetachmentLemmas.{detach-lit, dims, stood-steps, taken, TakenOut, takes-apart}
use Rattle.qo_sound_devices.proofs.LikenessLemmas.{alike-record}
use Rattle.qo_sound_devices.proofs.PlacesLemmas.{stands-live}
use Rattle.qo_sound_devices.proofs.ResetLemmas.{detached-below}
use Rattle.qo_sound_devices.proofs.StepsLemmas.{Steps, steps-after, steps-alike, steps-none, steps-then}
use Rattle.qo_sound_devices.proofs.UnrealizingLemmas.{down, here, Under}
use Rattle.qo_plain.specs.Gone.{Below, further, GoneLaw, itself}
use Rattle.qo_plain.proofs.DetachingLemmas.{closed, dark, middle, pinned-bus, pinned-stands}

-- what is below it on the board that holds it, and on the board before
under-below : (b : Board) (d x y : ℕ) → Under (pin b d) x y → Below b x y
unfolding pin
under-below b d x y here = itself
under-below b d x y (down m k im ik u) = further m k im ik (under-below b d k y u)

below-under : (b : Board) (d x y : ℕ) → Below b x y → Under (pin b d) x y
unfolding pin
below-under b d x y itself = here
below-under b d x y (further m k im ik u) = down m k im ik (below-under b d k y u)

pinned-slot : (b : Board) (d y : ℕ) → bus_slot_of (pin b d) y ≡ bus_slot_of b y
unfolding pin
pinned-slot b d y = refl

pinned-lit : (b : Board) (d y : ℕ) → is_realized (pin b d) y ≡ is_realized b y
unfolding pin
pinned-lit b d y = refl

steps-unpin : (c : Board) (d : ℕ) → Steps c (unpin c d)
unfolding unpin
steps-unpin c d = go (list_any (nat_eq d) c.pins) refl
  where
    go : (t : Bool) → list_any (nat_eq d) c.pins ≡ t → Steps c (unpin c d)
    go true p =
        rw (unpin, p)
        (steps-then c (without_pin c d) (after finalize (without_pin c d) (Some d))
        (steps-alike c (without_pin c d) refl (λ x e. alike-record c (without_pin c d) x refl)) (steps-after (without_pin c d) (Some d)))
    go false p = rw (unpin, p) (steps-none c)

module _ (b : Board) (h : SoundDevices b) (d : ℕ) (e : stands b d ≡ true) where
  rest : PinsRootAlone b
  rest = rest-from_sound b h.tree

  home : IsHome b d
  home = h.places.1.home d e (λ z. cc)

  out : TakenOut h.places.0 (faded_by (pin b d) (unrealize (pin b d) d)) (put_in_order d (1 ∷ [])) d home.bus (unrealize (pin b d) d)
      (taken_by (apart_within (length (births b))) d (unrealize (pin b d) d))
  out =
      taken h.places.0 (faded_by (pin b d) (unrealize (pin b d) d)) (length (births b)) (apart_within (length (births b)))
      (takes-apart h.places.0 (faded_by (pin b d) (unrealize (pin b d) d)) (length (births b))) (put_in_order d (1 ∷ [])) (put-up d (1 ∷ []) (tt, tt)) d
      home.bus (unrealize (pin b d) d) (middle h.places.0 b d rest h.places.1 e) (closed h.places.0 b d rest h.places.1 e)
      (stands-dimmed (pin b d) (unrealize (pin b d) d) (dims b d) d ∙ pinned-stands b d d ∙ e) ((dims b d).bus d ∙ pinned-bus b d d ∙ home.on)
      (dark h.places.0 b d rest h.places.1 e d here)
      (omega (arith, room h.places.0 None (λ x. false) b rest.used.firm h.places.1))

  later : Steps (unrealize (pin b d) d) (detach b d)
  unfolding detach
  later =
      steps-then (unrealize (pin b d) d) (taken_by (apart_within (length (births b))) d (unrealize (pin b d) d))
      (unpin (taken_by (apart_within (length (births b))) d (unrealize (pin b d) d)) d) out.went.steps
      (steps-unpin (taken_by (apart_within (length (births b))) d (unrealize (pin b d) d)) d)

  sound : SoundDevices (detach b d)
  sound = detached-below b d h e

  firm : WellFormed (detach b d)
  firm = (rest-from_sound (detach b d) sound.tree).used.firm

  is-gone : (y : ℕ) → Below b d y → stands (detach b d) y ≡ false
  is-gone y below =
      false_from_ne_true (stands (detach b d) y)
      (λ k.
      clash (sym (sound.places.1.each y k refl) ∙ later.realized y (stands-live (detach b d) firm y k)
      ∙ dark h.places.0 b d rest h.places.1 e y (below-under b d d y below)))

  is-left : (y : ℕ) → stands b y ≡ true → (Below b d y → ⊥) → stands (detach b d) y ≡ true
  is-left y s apart =
      detach-lit h.places.0 b d rest h.places.1 e y s
      (decide (is_realized (unrealize (pin b d) d) y) (λ l. l) (λ l. absurd (apart (under-below b d d y (unrealize-only (pin b d) d y lit l)))))
    where
      lit : is_realized (pin b d) y ≡ true
      lit = pinned-lit b d y ∙ h.places.1.each y s refl

  none-comes : (y : ℕ) → stands (detach b d) y ≡ true → stands b y ≡ true
  none-comes y s =
      sym (pinned-stands b d y) ∙ sym (stands-dimmed (pin b d) (unrealize (pin b d) d) (dims b d) y)
      ∙ stood-steps (unrealize (pin b d) d) (detach b d) later y s

  bus-stays : (y : ℕ) → stands (detach b d) y ≡ true → bus_of (detach b d) y ≡ bus_of b y
  bus-stays y s =
      let its : IsHome (detach b d) y = sound.places.1.home y s (λ z. cc) in
      its.on ∙ sym (sym (pinned-bus b d y) ∙ sym ((dims b d).bus y) ∙ later.bus y its.bus its.on)

  slot-stays : (y : ℕ) → stands (detach b d) y ≡ true → bus_slot_of (detach b d) y ≡ bus_slot_of b y
  slot-stays y s = later.place y (stands-live (detach b d) firm y s) ∙ (dims b d).place y ∙ pinned-slot b d y

pub gone_lem : GoneLaw
gone_lem = record { gone = is-gone; left = is-left; bus = bus-stays; slot = slot-stays; none_comes = none-comes }
