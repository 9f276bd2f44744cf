-- How a stream is read from a source: what is ahead, and what becomes of it.
use Rattle.std.specs.Prelude.{ℕ, ◌≡◌, ◌+◌, ◌-◌, ◌^◌, min, false, List, [], ◌∷◌, ◌++◌, length, Option, None, Some, option_map}
use Rattle.std.proofs.Common.{refl, sym, ◌∙◌, ap, append_assoc}
use Rattle.std.specs.Io.KnownBytes.{prepend_known}
use Rattle.qo_causes.specs.Names.{Given, Names, no_names}
use Rattle.qo_record.specs.PartialEntries.{is_wrong}
use Rattle.qo_record.specs.Record.{Read, bad_after, bad_place, entries_from, entry_at, headed, read_after}
use Rattle.qo_record.specs.Spelling.{Recorded, given_from, names_after, names_after_all}
use Rattle.qo_record.specs.declared.versions.Version.{Version}

-- a place as it is told: as 2^64 - 1 where it is further on
abbrev pub capped_offset : ℕ → ℕ
capped_offset n = min n (2 ^ 64 - 1)

-- the bad place of a whole stream, as it is told
abbrev pub told_bad : List ℕ → Option ℕ
told_bad bytes = option_map capped_offset (bad_place bytes)

-- how far a stream was read: the bytes that were taken and are not read yet, the version that its header told, once that was
-- read, the place of the first byte that was not read, as it is told, and the names of the sessions that are open there
pub record Progress : Type 0 where
  pub buffered : List ℕ
  pub version : Option Version
  pub place : ℕ
  pub names : Names

-- nothing was read
abbrev pub unread : Progress
unread = record { buffered = []; version = None; place = 0; names = no_names }

-- the bytes ahead of a stream whose source has so many left, where it tells them
abbrev pub ahead_of : List ℕ → Option (List ℕ) → Option (List ℕ)
ahead_of buffered left = option_map (λ more. buffered ++ more) left

-- neither a whole entry nor a wrong one is held
pub record NoneHeld (v : Version) (names : Names) (buffered : List ℕ) : Type 0 where
  pub whole : entry_at v names buffered ≡ None
  pub wrong : is_wrong v names buffered ≡ false

-- what was held where the source failed: no entry after the header, and before it no header; so nothing was asked for that was there
abbrev pub StarvedWith : Option Version → Names → List ℕ → Type 0
StarvedWith (Some v) names buffered = NoneHeld v names buffered
StarvedWith None names buffered = headed buffered ≡ None

abbrev pub IsStarved : Progress → Type 0
IsStarved p = StarvedWith p.version p.names p.buffered

-- a hub over a source and a sink, and how far its stream was read
pub record Replaying (S K : Type 0) : Type 0 where
  pub source : S
  pub sink : K
  pub read : Progress

-- the entries of the bytes that are ahead, after the header or with it, and what is left after them
abbrev pub read_from : Option Version → Names → List ℕ → Read
read_from (Some v) names bytes = entries_from v names bytes
read_from None names bytes = read_after names bytes (headed bytes)

-- their inputs, each with the names that stand with it
abbrev pub inputs_from : Option Version → Names → List ℕ → List Given
inputs_from version names bytes = given_from names (read_from version names bytes).entries

-- the bad place, where this is the place of the first byte ahead and these bytes are left of so many
abbrev pub offset_from : ℕ → ℕ → List ℕ → Option ℕ
offset_from place size [] = None
offset_from place size (b ∷ bytes) = Some (capped_offset (place + (size - length (b ∷ bytes))))

abbrev pub bad_from : Option Version → ℕ → Names → List ℕ → Option ℕ
bad_from (Some v) place names bytes = offset_from place (length bytes) ((entries_from v names bytes).left)
bad_from None place names bytes = option_map capped_offset (bad_after names (length bytes) (headed bytes))

-- the inputs and the bad place of a stream that was read so far, where its source has this left
abbrev pub inputs_ahead : Progress → Option (List ℕ) → Option (List Given)
inputs_ahead p left = option_map (inputs_from p.version p.names) (ahead_of p.buffered left)

abbrev pub bad_ahead : Progress → Option (List ℕ) → Option (Option ℕ)
bad_ahead p left = option_map (bad_from p.version p.place p.names) (ahead_of p.buffered left)

abbrev pub with_front : List Recorded → Read → Read
with_front entries r = record { entries = entries ++ r.entries; left = r.left }

-- these bytes of what was ahead were read as these entries, whatever comes after, and nothing else became of what was ahead
pub record Gave (old new : Progress) (left_old left_new : Option (List ℕ)) (bytes : List ℕ) (entries : List Recorded) : Type 0 where
  pub took : ahead_of old.buffered left_old ≡ prepend_known bytes (ahead_of new.buffered left_new)
  pub gave : (more : List ℕ) → read_from old.version old.names (bytes ++ more) ≡ with_front entries (read_from new.version new.names more)
  pub named : new.names ≡ names_after_all old.names entries

abbrev pub Went : Progress → Progress → Option (List ℕ) → Option (List ℕ) → Type 0
Went old new left_old left_new = (bytes : List ℕ) × (entries : List Recorded) × Gave old new left_old left_new bytes entries

-- What it means to go on: nothing has become of what is ahead, and what goes on twice goes on.

pub took_none : (a : Option (List ℕ)) → a ≡ prepend_known [] a
took_none None = refl
took_none (Some bytes) = refl

pub went_nowhere : (p : Progress) (left : Option (List ℕ)) → Went p p left left
went_nowhere p left = ([], [], record { took = took_none (ahead_of p.buffered left); gave = λ more. refl; named = refl })

took_twice : (a b c : Option (List ℕ)) (xs ys : List ℕ) → a ≡ prepend_known xs b → b ≡ prepend_known ys c → a ≡ prepend_known (xs ++ ys) c
took_twice a b None xs ys p q = p ∙ ap (prepend_known xs) q
took_twice a b (Some zs) xs ys p q = p ∙ ap (prepend_known xs) q ∙ ap (λ (l : List ℕ). Some l) (sym (append_assoc xs ys zs))

front_twice : (xs ys : List Recorded) (r : Read) → with_front xs (with_front ys r) ≡ with_front (xs ++ ys) r
front_twice xs ys r = ap (λ (l : List Recorded). record { entries = l; left = r.left }) (sym (append_assoc xs ys r.entries))

pub named_twice : (xs ys : List Recorded) (names : Names) → names_after_all (names_after_all names xs) ys ≡ names_after_all names (xs ++ ys)
named_twice [] ys names = refl
named_twice (x ∷ xs) ys names = named_twice xs ys (names_after names x)

pub went_then : (a b c : Progress) (la lb lc : Option (List ℕ)) → Went a b la lb → Went b c lb lc → Went a c la lc
went_then a b c la lb lc p q = (
  p.0 ++ q.0,
  p.1 ++ q.1,
  record {
    took = took_twice (ahead_of a.buffered la) (ahead_of b.buffered lb) (ahead_of c.buffered lc) p.0 q.0 p.2.took q.2.took;
    gave =
        λ more. ap (read_from a.version a.names) (append_assoc p.0 q.0 more) ∙ p.2.gave (q.0 ++ more) ∙ ap (with_front p.1) (q.2.gave more)
        ∙ front_twice p.1 q.1 (read_from c.version c.names more);
    named = q.2.named ∙ ap (λ (names : Names). names_after_all names q.1) p.2.named ∙ named_twice p.1 q.1 a.names;
  },
)
