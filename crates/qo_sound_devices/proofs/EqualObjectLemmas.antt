-- What changes no object keeps the tree, the places and the lists sound.
use Rattle.std.proofs.Common.{◌≡◌, refl, ap, sym, subst, ◌∙◌, ℕ, Bool, true, false, ◌==◌, List, [], ◌∷◌, find, map, Option, Some, None, is_some, arith, ◌≤◌}
use Rattle.qo_model.proofs.Common.{ANONYMOUS_BIRTH, PERIPHERAL_BIRTH, TypeId, Board, Notice, Record, asked, asked_of, device_at, refused, with_asked, with_attempt, attached, notice_barred, plug_attempt, GraphFacts, graph_of, without_values}
use Rattle.qo_model.specs.Hotplug.{is_early}
use Rattle.qo_model.proofs.TreeLemmas.{frame_lem}
use Rattle.qo_sound.specs.TreeKept.{SoundTree}
use Rattle.qo_sound.proofs.TreeKeptLemmas.{sound_kept_lem}
use Rattle.qo_sound.proofs.PlugLemmas.{plug_attempt-rest}
use Rattle.qo_sound.proofs.ViewLemmas.{rest-from_sound, sound-from_rest}
use Rattle.qo_sound_devices.proofs.PlacesLemmas.{stands-same}
use Rattle.qo_sound_devices.specs.SoundDevices.{SoundDevices}
use Rattle.qo_sound_devices.specs.SoundLists.{IsOn}
use Rattle.qo_sound_devices.proofs.AddLemmas.{attempt-places}
use Rattle.qo_sound_devices.proofs.LikenessLemmas.{Alike, alike-record}
use Rattle.qo_sound_devices.proofs.DependenceLemmas.{asked-places, beside-places, refused-places}
use Rattle.qo_sound_devices.proofs.ListsKeptLemmas.{asked-lists, attempt-lists, plug_attempt-lists, read-lists, refused-lists}
use Rattle.qo_sound_devices.proofs.ListsLemmas.{lists-same}
use Rattle.qo_sound_devices.proofs.PlugLemmas.{plug_attempt-places}

-- the tree speaks of objects, births and pins
abbrev viewed : List Record → ℕ → List ℕ → Board
viewed rs born pins =
    record {
      records = map without_values rs;
      born = born;
      anonymous = 0;
      now = 0;
      running = false;
      holds = [];
      pending = [];
      notices = [];
      rings = [];
      pins = pins;
      notes = [];
      events = [];
    }

tree-same : (b c : Board) → c.records ≡ b.records → c.born ≡ b.born → c.pins ≡ b.pins → SoundTree b → SoundTree c
unfolding graph_of
tree-same b c same born pins h = (
  subst (λ (ps : List ℕ). GraphFacts (viewed c.records c.born ps)) (sym pins)
      (subst (λ (n : ℕ). GraphFacts (viewed c.records n b.pins)) (sym born)
      (subst (λ (rs : List Record). GraphFacts (viewed rs b.born b.pins)) (sym same) h.0)),
  frame_lem.aliases b c (sym same) h.1,
)

-- who is on a board with the same objects
same-on : (b c : Board) → c.records ≡ b.records → (x : ℕ) → IsOn b x → IsOn c x
same-on b c same x on = (
  stands-same b c (alike PERIPHERAL_BIRTH).children (alike ANONYMOUS_BIRTH).children x ∙ on.0,
  (alike x).realized ∙ on.1,
)
  where
    alike : (y : ℕ) → Alike b c y
    alike y = alike-record b c y (ap (find (λ (r : Record). r.birth == y)) same)

pub same-below : (b c : Board) → c.records ≡ b.records → c.born ≡ b.born → c.anonymous ≡ b.anonymous → c.pins ≡ b.pins → c.pending ≡ b.pending
    → c.notices ≡ b.notices → b.now ≤ c.now → SoundDevices b → SoundDevices c
same-below b c same born anonymous pins pending notices later h =
    record {
      tree = tree-same b c same born pins h.tree;
      places = (
        h.places.0,
        beside-places h.places.0 None (λ x. false) b c (rest-from_sound b h.tree).used.firm same (omega (arith, born)) anonymous h.places.1,
      );
      lists = lists-same b c pending notices later (same-on b c same) h.lists;
    }

-- attempts that were given up
pub attempt-below : (b : Board) (t : TypeId) → SoundDevices b → SoundDevices (with_attempt b t)
attempt-below b t h =
    record {
      tree = (sound_kept_lem.attempt b t h.tree.0, sound_kept_lem.attempt_aliases b t h.tree.1);
      places = (h.places.0, attempt-places h.places.0 b t (rest-from_sound b h.tree) h.places.1);
      lists = attempt-lists b t h.lists;
    }

pub given_up-below : (b : Board) (t : TypeId) (bus stage : ℕ) → SoundDevices b → SoundDevices (plug_attempt b t bus stage)
given_up-below b t bus stage h =
    record {
      tree = sound-from_rest (plug_attempt b t bus stage) (plug_attempt-rest b t bus stage (rest-from_sound b h.tree));
      places = (h.places.0, plug_attempt-places h.places.0 b t bus stage (rest-from_sound b h.tree) h.places.1);
      lists = plug_attempt-lists b t bus stage h.lists;
    }

-- a removal that is asked for, or refused, and a notice that is read
pub asked-tree : (b : Board) (id : List ℕ) → SoundTree b → SoundTree (asked b id).board
asked-tree b id h = go (device_at b id) refl
  where
    of : (d : ℕ) → SoundTree (asked_of b d).board
    of d = pick (attached b d) refl (is_early b d) refl (is_some (notice_barred b)) refl
      where
        pick : (home : Bool) → attached b d ≡ home → (pending : Bool) → is_early b d ≡ pending → (full : Bool)
            → is_some (notice_barred b) ≡ full → SoundTree (asked_of b d).board
        pick false p pending q full r = rw (asked_of, p) h
        pick true p true q full r = rw (asked_of, p, q) h
        pick true p false q true r = rw (asked_of, p, q, r) h
        pick true p false q false r = rw (asked_of, p, q, r) (tree-same b (with_asked b d) refl refl refl h)

    go : (o : Option ℕ) → device_at b id ≡ o → SoundTree (asked b id).board
    go None e = rw (asked, e) h
    go (Some d) e = rw (asked, e) (of d)

pub asked-below : (b : Board) (id : List ℕ) → SoundDevices b → SoundDevices (asked b id).board
asked-below b id h =
    record {
      tree = asked-tree b id h.tree;
      places = (h.places.0, asked-places h.places.0 b (rest-from_sound b h.tree).used.firm h.places.1 id);
      lists = asked-lists h.places.0 b (rest-from_sound b h.tree) h.places.1 id h.lists;
    }

pub refused-below : (b : Board) (d : ℕ) → SoundDevices b → SoundDevices (refused b d)
refused-below b d h =
    record {
      tree = tree-same b (refused b d) refl refl refl h.tree;
      places = (h.places.0, refused-places h.places.0 b (rest-from_sound b h.tree).used.firm h.places.1 d);
      lists = refused-lists b d h.lists;
    }

pub read-below : (b : Board) (notice : Notice) (others : List Notice) → b.notices ≡ notice ∷ others → SoundDevices b
    → SoundDevices (record b { notices = others })
read-below b notice others e h =
    record {
      tree = tree-same b (record b { notices = others }) refl refl refl h.tree;
      places = (
        h.places.0,
        beside-places h.places.0 None (λ x. false) b (record b { notices = others }) (rest-from_sound b h.tree).used.firm refl (omega arith) refl h.places.1,
      );
      lists = read-lists b notice others e h.lists;
    }
