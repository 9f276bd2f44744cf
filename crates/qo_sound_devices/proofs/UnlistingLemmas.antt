-- A device that is detached leaves the lists with all that is below it.
use Rattle.std.proofs.Common.{◌≡◌, refl, ap, sym, subst, ◌∙◌, ℕ, zero, suc, Bool, true, false, not, ◌||◌, ◌==◌, eqb, List, [], ◌∷◌, filter, length, Option, Some, None, codes, arith}
use Rattle.qo_model.proofs.Common.{Unrealize, Val, Board, Notice, slots_at, acted, device_period, among, by_depth, buses_of, clock_of, is_realized, kids_of, index_from, births, after, finalize, pin, detach, disconnected, each, is_named, set_named, unrealize, unrealize_turn, unrealized_bus, unrealized_device, unseen_named, without_all, refs}
use Rattle.std.specs.List.{list_any}
use Rattle.std.proofs.lemmas.Bool.{eqb-true}
use Rattle.qo_values.specs.declared.properties.Val.TheVariants as val
use Rattle.qo_model.specs.Board.{Removal, is_pending, is_of_device}
use Rattle.qo_model.specs.Unplug.{without_removal}
use Rattle.qo_model.proofs.ReleaseScopeLemmas.{release_leaves}
use Rattle.qo_sound.proofs.DetachmentStepsLemmas.{step-detach}
use Rattle.qo_sound.proofs.AdditionStepsLemmas.{step-set}
use Rattle.qo_sound.proofs.ViewLemmas.{PinsRootAlone}
use Rattle.qo_sound_devices.specs.SoundLists.{IsOn, SoundLists}
use Rattle.qo_sound_devices.specs.SoundPlaces.{PlacesBut, stands}
use Rattle.qo_sound_devices.proofs.DetachmentLemmas.{detach-lit, detach-places}
use Rattle.qo_sound_devices.proofs.ListsLemmas.{Fewer, fewer-same, lists-fewer, named, on-stands, told, within-filter}
use Rattle.qo_sound_devices.proofs.PlacesLemmas.{or-cases, Within, within-any}
use Rattle.qo_sound_devices.proofs.StepsLemmas.{within-then}
use Rattle.qo_sound_devices.proofs.UnrealizingLemmas.{dims-bus, fades-device}

-- the lists are as on another board
abbrev SameLists : Board → Board → Type 0
SameLists b c = (c.pending ≡ b.pending) × (c.notices ≡ b.notices) × (c.now ≡ b.now)

lists-set : (b : Board) (n : ℕ) (name : List ℕ) (v : Val) (c : Board) → SameLists b c → SameLists b (set_named n name v c)
lists-set b n name v c h = step-set (SameLists b) (λ m change leaves e k. k) n name v c h

lists-unseen : (b : Board) (n : ℕ) (name : List ℕ) (c : Board) → SameLists b c → SameLists b (unseen_named n name c)
lists-unseen b n name c h = go (index_from (is_named name) 0 (slots_at c n)) refl
  where
    go : (o : Option ℕ) → index_from (is_named name) 0 (slots_at c n) ≡ o → SameLists b (unseen_named n name c)
    go None e = rw (unseen_named, e) h
    go (Some i) e = rw (unseen_named, e) h

lists-disconnected : (b : Board) (o : Option ℕ) (c : Board) → SameLists b c → SameLists b (disconnected o c)
lists-disconnected b None c h = h
lists-disconnected b (Some n) c h = lists-set b n (codes "period") (val.Uint 0) _ (lists-unseen b n (codes "source") c h)

lists-acted : (n period : ℕ) (c : Board) → SameLists c (acted Unrealize n period c)
unfolding acted
lists-acted n period c = (refl, refl, refl)

-- fewer are in the lists, and who stays in them stays realized
record LeavesListed (b c : Board) : Type 0 where
  fewer : Fewer b c
  lit : (x : ℕ) → named c x ≡ true → is_realized b x ≡ true → is_realized c x ≡ true

still-named : (b c : Board) → Fewer b c → (x : ℕ) → named c x ≡ true → named b x ≡ true
still-named b c f x e =
    or-cases (is_pending c x) (told c.notices x) e
    (λ k. left (is_pending b x) (within-any (is_of_device x) f.pending k))
    (λ k. right (is_pending b x) (within-any (λ (n : Notice). n.birth == x) f.notices k))
  where
    left : (t : Bool) → t ≡ true → t || told b.notices x ≡ true
    left true k = refl
    left false k = absurd (let clash : false ≡ true = k in cc)

    right : (t : Bool) → told b.notices x ≡ true → t || told b.notices x ≡ true
    right true k = refl
    right false k = k

leaves-none : (b : Board) → LeavesListed b b
leaves-none b = record { fewer = fewer-same b b refl refl (omega arith); lit = λ x e lit. lit }

leaves-then : (b c d : Board) → LeavesListed b c → LeavesListed c d → LeavesListed b d
leaves-then b c d h k =
    record {
      fewer = record {
        pending = within-then k.fewer.pending h.fewer.pending;
        notices = within-then k.fewer.notices h.fewer.notices;
        later = omega (arith, h.fewer.later, k.fewer.later);
      };
      lit = λ x e lit. k.lit x e (h.lit x (still-named c d k.fewer x e) lit);
    }

-- who is taken from a list is not in it
pub without-own : (d : ℕ) (xs : List ℕ) → among (without_all d xs) d ≡ false
without-own d [] = refl
without-own d (x ∷ xs) = go (x == d) refl (without-own d xs)
  where
    go : (t : Bool) → (x == d) ≡ t → among (without_all d xs) d ≡ false → among (without_all d (x ∷ xs)) d ≡ false
    go true p rest = rw p rest
    go false p rest = let apart : eqb d x ≡ false = grind (arith, p) in rw (p, apart) rest

-- who is taken from a list is not in it
removed-own : (d : ℕ) (xs : List Removal) → list_any (is_of_device d) (without_removal d xs) ≡ false
removed-own d [] = refl
removed-own d (x ∷ xs) = go (x.birth == d) refl (removed-own d xs)
  where
    go : (t : Bool) → (x.birth == d) ≡ t → list_any (is_of_device d) (without_removal d xs) ≡ false
        → list_any (is_of_device d) (without_removal d (x ∷ xs)) ≡ false
    go true p rest = rw p rest
    go false p rest = rw (p, p) rest

gone-told : (d : ℕ) (xs : List Notice) → told (filter (λ (x : Notice). not (x.birth == d)) xs) d ≡ false
gone-told d [] = refl
gone-told d (x ∷ xs) = go (x.birth == d) refl (gone-told d xs)
  where
    go : (t : Bool) → (x.birth == d) ≡ t → told (filter (λ (y : Notice). not (y.birth == d)) xs) d ≡ false
        → told (filter (λ (y : Notice). not (y.birth == d)) (x ∷ xs)) d ≡ false
    go true p rest = rw p rest
    go false p rest = rw (p, p) rest

-- a bus, and a device
leaves-bus : (m : ℕ) (c : Board) → LeavesListed c (unrealized_bus m c)
unfolding acted
leaves-bus m c = record { fewer = fewer-same c (unrealized_bus m c) refl refl (omega arith); lit = λ x e lit. (dims-bus m c).same x ∙ lit }

leaves-device : (d : ℕ) (c : Board) → LeavesListed c (unrealized_device d c)
leaves-device d c = record { fewer = fewer; lit = lit }
  where
    one : Board
    one = acted Unrealize d (device_period c d) c

    two : Board
    two = set_named d (codes "realized") (val.Bool false) (disconnected (clock_of c d) one)

    acts : SameLists c one
    acts = lists-acted d (device_period c d) c

    same : SameLists c two
    same = lists-set c d (codes "realized") (val.Bool false) _ (lists-disconnected c (clock_of c d) one acts)

    pending : (unrealized_device d c).pending ≡ without_removal d c.pending
    pending = ap (without_removal d) same.0

    notices : (unrealized_device d c).notices ≡ filter (λ (x : Notice). not (x.birth == d)) c.notices
    notices = ap (filter (λ (x : Notice). not (x.birth == d))) same.1

    fewer : Fewer c (unrealized_device d c)
    fewer =
        record {
          pending = subst (λ (xs : List Removal). Within xs c.pending) (sym pending) (within-filter (λ (r : Removal). not (r.birth == d)) c.pending);
          notices = subst (λ (xs : List Notice). Within xs c.notices) (sym notices) (within-filter (λ (x : Notice). not (x.birth == d)) c.notices);
          later = omega (arith, same.2);
        }

    unnamed : named (unrealized_device d c) d ≡ false
    unnamed =
        rw (
          ap (λ (xs : List Removal). list_any (is_of_device d) xs) pending ∙ removed-own d c.pending,
          ap (λ (xs : List Notice). told xs d) notices ∙ gone-told d c.notices,
        ) refl

    lit : (x : ℕ) → named (unrealized_device d c) x ≡ true → is_realized c x ≡ true → is_realized (unrealized_device d c) x ≡ true
    lit x e was = go (x == d) refl
      where
        go : (t : Bool) → (x == d) ≡ t → is_realized (unrealized_device d c) x ≡ true
        go true p = absurd (let clash : true ≡ false = sym e ∙ ap (named (unrealized_device d c)) (eqb-true x d p) ∙ unnamed in cc)
        go false p = (fades-device d c).same x p ∙ was

leaves-each : (f : ℕ → Board → Board) → ((n : ℕ) (c : Board) → LeavesListed c (f n c)) → (ns : List ℕ) (c : Board) → LeavesListed c (each f ns c)
leaves-each f keeps [] c = leaves-none c
leaves-each f keeps (n ∷ ns) c = leaves-then c (f n c) (each f ns (f n c)) (keeps n c) (leaves-each f keeps ns (f n c))

leaves-turns : (b : Board) (depth d : ℕ) (c : Board) → LeavesListed c (by_depth (unrealize_turn b) (λ d c. c) depth d c)
leaves-turns b zero d c = leaves-none c
leaves-turns b (suc depth) d c = turn (leaves-turns b depth)
  where
    turn : ((k : ℕ) (e : Board) → LeavesListed e (by_depth (unrealize_turn b) (λ d c. c) depth k e))
        → LeavesListed c (by_depth (unrealize_turn b) (λ d c. c) (suc depth) d c)
    turn keeps =
        leaves-then c _ _
        (leaves-each _ (λ m e. leaves-then e _ _ (leaves-each _ keeps (kids_of b m) e) (leaves-bus m _)) (buses_of b d) c)
        (leaves-device d _)

leaves-unrealize : (b : Board) (d : ℕ) → LeavesListed b (unrealize b d)
unfolding unrealize
leaves-unrealize b d = leaves-turns b (suc (length (births b))) d b

-- what follows leaves the lists
ends-lists : (b : Board) (o : Option ℕ) (c : Board) → SameLists b c → SameLists b (after finalize c o)
ends-lists b None c h = h
ends-lists b (Some n) c h = go (refs c n == 0) refl
  where
    go : (t : Bool) → (refs c n == 0) ≡ t → SameLists b (after finalize c (Some n))
    go true e = rw (after, e) ((release_leaves c n).pending ∙ h.0, (release_leaves c n).notices ∙ h.1, (release_leaves c n).now ∙ h.2)
    go false e = rw (after, e) h

detach-same : (b : Board) (d : ℕ) → SameLists (unrealize (pin b d) d) (detach b d)
detach-same b d =
    step-detach (SameLists (unrealize (pin b d) d)) (λ n change leaves c h. h) (λ pins c h. h) (λ o c h. ends-lists (unrealize (pin b d) d) o c h) b d
    (refl, refl, refl)

pinned-same : (b : Board) (d : ℕ) → LeavesListed b (pin b d)
unfolding pin
pinned-same b d = record { fewer = fewer-same b (pin b d) refl refl (omega arith); lit = λ x e lit. lit }

pub detach-lists : (depth : ℕ → ℕ) (b : Board) (d : ℕ) → PinsRootAlone b → PlacesBut depth None (λ x. false) b → stands b d ≡ true → SoundLists b
    → SoundLists (detach b d)
detach-lists depth b d rest h e lists = lists-fewer b (detach b d) fewer stay lists
  where
    c : Board
    c = unrealize (pin b d) d

    leaves : LeavesListed b (unrealize (pin b d) d)
    leaves = leaves-then b (pin b d) (unrealize (pin b d) d) (pinned-same b d) (leaves-unrealize (pin b d) d)

    same : SameLists (unrealize (pin b d) d) (detach b d)
    same = detach-same b d

    fewer : Fewer b (detach b d)
    fewer =
        record {
          pending = subst (λ (xs : List Removal). Within xs b.pending) (sym same.0) leaves.fewer.pending;
          notices = subst (λ (xs : List Notice). Within xs b.notices) (sym same.1) leaves.fewer.notices;
          later = omega (arith, leaves.fewer.later, same.2);
        }

    stay : (x : ℕ) → named (detach b d) x ≡ true → IsOn b x → IsOn (detach b d) x
    stay x k on =
        let before : named (unrealize (pin b d) d) x ≡ true =
        sym
        (ap (λ (xs : List Removal). list_any (is_of_device x) xs || told (detach b d).notices x) same.0
        ∙ ap (λ (xs : List Notice). is_pending c x || told xs x) same.1)
        ∙ k in
        on-stands depth (detach b d) (detach-places depth b d rest h e) x (detach-lit depth b d rest h e x on.0 (leaves.lit x before on.1))
