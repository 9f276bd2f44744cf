-- Sending the messages of a step, one at a time.
use Rattle.std.proofs.Common.{◌≡◌, ℕ, zero, suc, ◌+◌, ◌<◌, ◌≤◌, ◌==◌, Bool, true, false, if◌then◌else◌, ◌||◌, List, [], ◌∷◌, ◌++◌, length, take, drop, add-one, refl, sym, ◌∙◌, ap, subst, arith, length-append, Err, Option, None, Some, slice_index_or, slice_set, replicate}
use Rattle.std.proofs.Math.Seq.{take-nil, take-append-add, take-suc}
use Rattle.std.proofs.lemmas.Bool.{eqb-true, eqb-false, true≢false}
use Rattle.std.proofs.lemmas.Grind.{flat_map-append}
use Rattle.std.proofs.lemmas.List.Folds.{list_any-append}
use Rattle.std.proofs.lemmas.List.{append-nil, take-append-le, take-append-drop, get_or-set_same, get_or-set_other, length-set}
use Rattle.std.specs.Io.KnownBytes.{append_known}
use Rattle.qo_values.specs.declared.limits.TheConstants.{SESSIONS}
use Rattle.qo_causes.proofs.BytesLemmas.{append_known_twice}
use Rattle.qo_causes.specs.Bytes.{AppendsPrefix, PutsAll}
use Rattle.qo_causes.specs.Hub.{GoneOnly, Loses, Sends, is_gone, line, part, same_lane}
use Rattle.qo_causes.specs.Names.{Given, Names}
use Rattle.qo_causes.specs.declared.hubs.Lane.{Lane}
use Rattle.qo_causes.specs.declared.hubs.Lane.TheVariants.{Session, Guest}
use Rattle.qo_causes.specs.declared.hubs.SendError.{SendError}
use Rattle.qo_causes.specs.declared.hubs.SendError.TheVariants.{Gone, Failed}
use Rattle.qo_machine.specs.Machine.{Message}
use Rattle.qo_machine.specs.Runs.{Told, known, cut_to, has_for, is_lost, lane_bytes, risen, transcript}
use Rattle.qo_machine.specs.Sending.{AreToLanes, IsLane, Sent, SentFront}
use Rattle.qo_machine.proofs.RunLemmas.{nothing_appended}

-- One lane, over its flags: was its session lost, and is it the lane of the message.

ok_at : (flag same : Bool) (cut : ℕ) (old mid new : Option (List ℕ)) (bytes more : List ℕ) → (same ≡ true → flag ≡ false) → cut ≤ length bytes
    → mid ≡ append_known old (cut_to flag cut bytes) → new ≡ append_known mid (if same then more else [])
    → new ≡ append_known old (cut_to flag cut (bytes ++ (if same then more else [])))
ok_at true true cut old mid new bytes more kept within is sent = absurd (true≢false (kept refl))
ok_at true false cut old mid new bytes more kept within is sent =
    sent ∙ ap (λ (m : Option (List ℕ)). append_known m []) is ∙ append_known_twice old (take cut bytes) []
    ∙ ap (append_known old) (append-nil (take cut bytes) ∙ sym (take-append-le cut bytes [] within))
ok_at false same cut old mid new bytes more kept within is sent =
    sent ∙ ap (λ (m : Option (List ℕ)). append_known m (if same then more else [])) is ∙ append_known_twice old bytes (if same then more else [])

gone_at : (flag same : Bool) (cut n : ℕ) (old mid new : Option (List ℕ)) (bytes more : List ℕ) → (same ≡ true → flag ≡ false) → cut ≤ length bytes
    → mid ≡ append_known old (cut_to flag cut bytes) → new ≡ append_known mid (take n (if same then more else []))
    → new ≡ append_known old (cut_to (if same then true else flag) (if same then length bytes + n else cut) (bytes ++ (if same then more else [])))
gone_at true true cut n old mid new bytes more kept within is sent = absurd (true≢false (kept refl))
gone_at false true cut n old mid new bytes more kept within is sent =
    sent ∙ ap (λ (m : Option (List ℕ)). append_known m (take n more)) is ∙ append_known_twice old bytes (take n more)
    ∙ ap (append_known old) (sym (take-append-add bytes more n))
gone_at flag false cut n old mid new bytes more kept within is sent =
    ok_at flag false cut old mid new bytes more kept within is (sent ∙ ap (append_known mid) (take-nil n))

failed_at : (flag same : Bool) (cut n : ℕ) (old mid new : Option (List ℕ)) (bytes more : List ℕ) → (same ≡ true → flag ≡ false) → cut ≤ length bytes
    → n ≤ length (if same then more else []) → mid ≡ append_known old (cut_to flag cut bytes) → new ≡ append_known mid (take n (if same then more else []))
    → AppendsPrefix old new (bytes ++ (if same then more else []))
failed_at true true cut n old mid new bytes more kept within few is sent = absurd (true≢false (kept refl))
failed_at true false cut n old mid new bytes more kept within few is sent =
    (cut, omega (arith, length-append bytes []), ok_at true false cut old mid new bytes more kept within is (sent ∙ ap (append_known mid) (take-nil n)))
failed_at false same cut n old mid new bytes more kept within few is sent = (
  length bytes + n,
  omega (arith, length-append bytes (if same then more else [])),
  sent ∙ ap (λ (m : Option (List ℕ)). append_known m (take n (if same then more else []))) is
      ∙ append_known_twice old bytes (take n (if same then more else []))
      ∙ ap (append_known old) (sym (take-append-add bytes (if same then more else []) n)),
)

-- a front of some bytes is one of more
pub front_more : (old new : Option (List ℕ)) (xs ys : List ℕ) → AppendsPrefix old new xs → AppendsPrefix old new (xs ++ ys)
front_more old new xs ys p =
    (p.0, omega (arith, p.1, length-append xs ys), p.2 ∙ ap (append_known old) (sym (take-append-le p.0 xs ys p.1)))

-- One message more.

pub lane_bytes_more : (l : Lane) (outs : List Message) (m : Message) → lane_bytes l (outs ++ m ∷ []) ≡ lane_bytes l outs ++ part l m.0 m.1
lane_bytes_more l outs m =
    flat_map-append (λ (x : Message). part l x.0 x.1) outs (m ∷ []) ∙ ap (λ (b : List ℕ). lane_bytes l outs ++ b) (append-nil (part l m.0 m.1))

pub transcript_more : (names : Names) (outs : List Message) (m : Message) → transcript names (outs ++ m ∷ []) ≡ transcript names outs ++ line names m.0 m.1
transcript_more names outs m =
    flat_map-append (λ (x : Message). line names x.0 x.1) outs (m ∷ []) ∙ ap (λ (b : List ℕ). transcript names outs ++ b) (append-nil (line names m.0 m.1))

-- what had a message still has; with a message of its own it has
had_at : (had same : Bool) → had ≡ true → (had || (same || false)) ≡ true
had_at true same h = refl
had_at false same h = absurd (true≢false (sym h))

had_more : (l : Lane) (outs : List Message) (m : Message) → has_for l outs ≡ true → has_for l (outs ++ m ∷ []) ≡ true
had_more l outs m h =
    list_any-append (λ (x : Message). same_lane l x.0) outs (m ∷ []) ∙ had_at (has_for l outs) (same_lane l m.0) h

gone_had_at : (had flag same : Bool) → (flag ≡ true → had ≡ true) → (if same then true else flag) ≡ true → (had || (same || false)) ≡ true
gone_had_at true flag same before lost = refl
gone_had_at false flag true before lost = refl
gone_had_at false flag false before lost = absurd (true≢false (sym (before lost)))

gone_had : (l : Lane) (outs : List Message) (m : Message) (flag : Bool) → (flag ≡ true → has_for l outs ≡ true)
    → (if same_lane l m.0 then true else flag) ≡ true → has_for l (outs ++ m ∷ []) ≡ true
gone_had l outs m flag before lost =
    list_any-append (λ (x : Message). same_lane l x.0) outs (m ∷ []) ∙ gone_had_at (has_for l outs) flag (same_lane l m.0) before lost

-- the same lane is lost or not
same_lost : (l k : Lane) (lost : List Bool) → same_lane l k ≡ true → is_lost lost l ≡ is_lost lost k
same_lost (Session s) (Session t) lost h = ap (λ (n : ℕ). slice_index_or lost n false) (eqb-true s t h)
same_lost (Session s) Guest lost h = absurd (true≢false (sym h))
same_lost Guest (Session t) lost h = absurd (true≢false (sym h))
same_lost Guest Guest lost h = refl

none_stays : (x : Option (List ℕ)) (a b : List ℕ) → append_known x a ≡ None → append_known x b ≡ None
none_stays None a b h = refl
none_stays (Some xs) a b h = cc

-- a flag more
set_flag : (lost : List Bool) (k : ℕ) (l : Lane) → k < length lost
    → is_lost (slice_set lost k true) l ≡ (if same_lane l (Session k) then true else is_lost lost l)
set_flag lost k Guest below = refl
set_flag lost k (Session n) below = go (n == k) refl
  where
    go : (t : Bool) → (n == k) ≡ t → is_lost (slice_set lost k true) (Session n) ≡ (if t then true else is_lost lost (Session n))
    go true h = ap (λ (i : ℕ). slice_index_or (slice_set lost k true) i false) (eqb-true n k h) ∙ get_or-set_same lost k true false below
    go false h = get_or-set_other lost k n true false (eqb-false n k h)

-- a count of losses rose, or is as before
loss_at : (flag gone : Bool) (start mid now : ℕ) → (gone ≡ true → flag ≡ false) → risen flag start ≤ mid → Loses gone mid now
    → risen (if gone then true else flag) start ≤ now
loss_at true true start mid now kept before rose = absurd (true≢false (kept refl))
loss_at false true start mid now kept before rose = omega (arith, rose.0, rose.1)
loss_at flag false start mid now kept before rose = omega (arith, before, rose)

gone_within : (same : Bool) (cut n : ℕ) (bytes more : List ℕ) → cut ≤ length bytes → n ≤ length (if same then more else [])
    → (if same then length bytes + n else cut) ≤ length (bytes ++ (if same then more else []))
gone_within true cut n bytes more within few = omega (arith, length-append bytes more)
gone_within false cut n bytes more within few = omega (arith, length-append bytes [])

-- its session is gone
pub sent_gone : (names : Names) (start : Told) (mi ni : Option (List Given)) (ms ns : Option (List ℕ)) (mg ng : Lane → Option (List ℕ)) (ml nl : ℕ → ℕ) (outs : List Message)
    (m : Message) (k : ℕ) (lost : List Bool)
    → is_lost lost m.0 ≡ false → m.0 ≡ Session k → k < SESSIONS → ni ≡ mi → (ms ≡ None) × (ns ≡ None)
    → ((l : Lane) → AppendsPrefix (mg l) (ng l) (part l m.0 m.1)) → ((n : ℕ) → Loses (n == k) (ml n) (nl n)) → Sent names start (known mi ms mg ml) outs lost
    → Sent names start (known ni ns ng nl) (outs ++ m ∷ []) (slice_set lost k true)
sent_gone names start mi ni ms ns mg ng ml nl outs m k lost flag lane below inputs sent got losses h =
    record {
      inputs = inputs ∙ h.inputs;
      sent = sent.1 ∙ sym (none_stays start.sent (transcript names outs) (transcript names (outs ++ m ∷ [])) (sym h.sent ∙ sent.0));
      lanes = (
        (λ l. if same_lane l m.0 then length (lane_bytes l outs) + (got l).0 else h.lanes.0 l),
        record {
          within =
              λ l. rw (lane_bytes_more l outs m) (gone_within (same_lane l m.0) (h.lanes.0 l) ((got l).0) (lane_bytes l outs) m.1 (h.lanes.1.within l)
              ((got l).1));
          lanes = λ l.
              rw (lane_bytes_more l outs m, set_flag lost k l (rw h.size below), ← lane)
              (gone_at (is_lost lost l) (same_lane l m.0) (h.lanes.0 l) ((got l).0) (start.got l) (mg l) (ng l) (lane_bytes l outs) m.1
              (λ s. same_lost l m.0 lost s ∙ flag) (h.lanes.1.within l) (h.lanes.1.lanes l) ((got l).2));
        },
      );
      losses =
          λ n. rw (set_flag lost k (Session n) (rw h.size below))
          (loss_at (is_lost lost (Session n)) (n == k) (start.losses n) (ml n) (nl n) (λ e. same_lost (Session n) (Session k) lost e ∙ (rw lane at flag))
          (h.losses n) (losses n));
      untold = λ l f. sent.1;
      had = λ l f. gone_had l outs m (is_lost lost l) (h.had l) (rw (set_flag lost k l (rw h.size below), ← lane) at f);
      size = length-set lost k true ∙ h.size;
    }

-- whole bytes, and then a front of more
pub front_after : (old mid new : Option (List ℕ)) (xs ys : List ℕ) → mid ≡ append_known old xs → AppendsPrefix mid new ys → AppendsPrefix old new (xs ++ ys)
front_after old mid new xs ys whole p = (
  length xs + p.0,
  omega (arith, p.1, length-append xs ys),
  p.2 ∙ ap (λ (m : Option (List ℕ)). append_known m (take p.0 ys)) whole ∙ append_known_twice old xs (take p.0 ys)
      ∙ ap (append_known old) (sym (take-append-add xs ys p.0)),
)

risen_up : (flag : Bool) (start now : ℕ) → risen flag start ≤ now → start ≤ now
risen_up true start now h = omega arith
risen_up false start now h = h

-- a message failed
pub front_failed : (names : Names) (start : Told) (mi ni : Option (List Given)) (ms ns : Option (List ℕ)) (mg ng : Lane → Option (List ℕ)) (ml nl : ℕ → ℕ) (outs : List Message)
    (m : Message) (lost : List Bool)
    → is_lost lost m.0 ≡ false → ni ≡ mi → AppendsPrefix ms ns (line names m.0 m.1) → ((l : Lane) → AppendsPrefix (mg l) (ng l) (part l m.0 m.1))
    → ((n : ℕ) → nl n ≡ ml n) → Sent names start (known mi ms mg ml) outs lost → SentFront names start (known ni ns ng nl) (outs ++ m ∷ [])
front_failed names start mi ni ms ns mg ng ml nl outs m lost flag inputs sent got losses h =
    record {
      inputs = inputs ∙ h.inputs;
      sent = rw (transcript_more names outs m) (front_after start.sent ms ns (transcript names outs) (line names m.0 m.1) h.sent sent);
      lanes = λ l.
          rw (lane_bytes_more l outs m)
          (failed_at (is_lost lost l) (same_lane l m.0) (h.lanes.0 l) ((got l).0) (start.got l) (mg l) (ng l) (lane_bytes l outs) m.1
          (λ s. same_lost l m.0 lost s ∙ flag) (h.lanes.1.within l) ((got l).1) (h.lanes.1.lanes l) ((got l).2));
      losses = λ n. rw (losses n) (risen_up (slice_index_or lost n false) (start.losses n) (ml n) (h.losses n));
    }

-- What `send` answers, by its error.

pub err_gone : (names : Names) (start : Told) (mi ni : Option (List Given)) (ms ns : Option (List ℕ)) (mg ng : Lane → Option (List ℕ)) (ml nl : ℕ → ℕ) (outs : List Message)
    (lane : Lane) (bytes text : List ℕ) (r : SendError) (s k : ℕ) (lost : List Bool)
    → r ≡ Gone s → k ≡ s → bytes ≡ text → is_lost lost lane ≡ false → IsLane lane → ni ≡ mi → Sends ms ns (line names lane bytes) (Err r)
    → ((l : Lane) → PutsAll {T = Unit {0}} {E = SendError} (mg l) (ng l) (Err r) (part l lane bytes)) → GoneOnly lane (Err r)
    → ((t : ℕ) → Loses (is_gone (Err r) t) (ml t) (nl t)) → Sent names start (known mi ms mg ml) outs lost
    → Sent names start (known ni ns ng nl) (outs ++ (lane, text) ∷ []) (slice_set lost k true)
err_gone names start mi ni ms ns mg ng ml nl outs lane bytes text (Gone j) s k lost is from same flag wide inputs sent got gone losses h =
    let j_is : j ≡ k = cc in
    let below : IsLane (Session j) = subst IsLane gone wide in
    let k_below : k < SESSIONS = omega arith in
    let to : lane ≡ Session k = gone ∙ ap Session j_is in
    sent_gone names start mi ni ms ns mg ng ml nl outs (lane, text) k lost flag to k_below inputs sent (λ l. rw same at (got l)) (λ n. rw j_is at (losses n)) h
err_gone names start mi ni ms ns mg ng ml nl outs lane bytes text Failed s k lost is from same flag wide inputs sent got gone losses h = cc

pub err_failed : (names : Names) (start : Told) (mi ni : Option (List Given)) (ms ns : Option (List ℕ)) (mg ng : Lane → Option (List ℕ)) (ml nl : ℕ → ℕ) (outs : List Message)
    (lane : Lane) (bytes text : List ℕ) (r : SendError) (lost : List Bool)
    → r ≡ Failed → bytes ≡ text → is_lost lost lane ≡ false → ni ≡ mi → Sends ms ns (line names lane bytes) (Err r)
    → ((l : Lane) → PutsAll {T = Unit {0}} {E = SendError} (mg l) (ng l) (Err r) (part l lane bytes)) → ((t : ℕ) → Loses (is_gone (Err r) t) (ml t) (nl t))
    → Sent names start (known mi ms mg ml) outs lost → SentFront names start (known ni ns ng nl) (outs ++ (lane, text) ∷ [])
err_failed names start mi ni ms ns mg ng ml nl outs lane bytes text (Gone j) lost is same flag inputs sent got losses h = cc
err_failed names start mi ni ms ns mg ng ml nl outs lane bytes text Failed lost is same flag inputs sent got losses h =
    front_failed names start mi ni ms ns mg ng ml nl outs (lane, text) lost flag inputs (rw same at sent) (λ l. rw same at (got l)) losses h

-- The messages of a step.

none_among : (k n : ℕ) → slice_index_or (replicate k false) n false ≡ false
none_among zero n = refl
none_among (suc k) zero = refl
none_among (suc k) (suc n) = none_among k n

none_lost : (n : ℕ) → slice_index_or (replicate SESSIONS false) n false ≡ false
none_lost n = none_among SESSIONS n

lane_not_lost : (l : Lane) → is_lost (replicate SESSIONS false) l ≡ false
lane_not_lost (Session n) = none_lost n
lane_not_lost Guest = refl

-- nothing was sent yet
pub sent_none : (names : Names) (i : Option (List Given)) (s : Option (List ℕ)) (g : Lane → Option (List ℕ)) (n : ℕ → ℕ)
    → Sent names (known i s g n) (known i s g n) [] (replicate SESSIONS false)
sent_none names i s g n =
    record {
      inputs = refl;
      sent = nothing_appended s;
      lanes = ((λ l. 0), record { within = λ l. omega arith; lanes = λ l. rw (lane_not_lost l) (nothing_appended (g l)) });
      losses = λ k. rw (none_lost k) (omega arith);
      untold = λ l f. absurd (true≢false (sym f ∙ lane_not_lost l));
      had = λ l f. absurd (true≢false (sym f ∙ lane_not_lost l));
      size = refl;
    }

-- a front of some messages is one of all
pub front_all : (names : Names) (start new : Told) (xs ys : List Message) → SentFront names start new xs → SentFront names start new (xs ++ ys)
front_all names start new xs ys h =
    record {
      inputs = h.inputs;
      sent = rw (flat_map-append (λ (x : Message). line names x.0 x.1) xs ys) (front_more start.sent new.sent (transcript names xs) (transcript names ys) h.sent);
      lanes = λ l.
          rw (flat_map-append (λ (x : Message). part l x.0 x.1) xs ys)
          (front_more (start.got l) (new.got l) (lane_bytes l xs) (lane_bytes l ys) (h.lanes l));
      losses = h.losses;
    }

-- the same, where the names are known by another name
pub sent_as : {a b : Names} (start new : Told) (outs : List Message) (lost : List Bool) → a ≡ b → Sent a start new outs lost → Sent b start new outs lost
sent_as start new outs lost is h = subst (λ (names : Names). Sent names start new outs lost) is h

pub front_as : {a b : Names} (start new : Told) (outs : List Message) → a ≡ b → SentFront a start new outs → SentFront b start new outs
front_as start new outs is h = subst (λ (names : Names). SentFront names start new outs) is h

-- the lane of each message is such a lane
lane_at : (outs : List Message) (i : ℕ) (d : Message) → AreToLanes outs → i < length outs → IsLane (slice_index_or outs i d).0
lane_at [] i d h below = absurd (omega arith)
lane_at (m ∷ outs) zero d h below = h.0
lane_at (m ∷ outs) (suc i) d h below = lane_at outs i d h.1 (omega arith)

pub lane_of_item : (outs : List Message) (i : ℕ) (m : Message) → AreToLanes outs → i < length outs → m ≡ slice_index_or outs i m → IsLane m.0
lane_of_item outs i m h below is = subst (λ (x : Message). IsLane x.0) (sym is) (lane_at outs i m h below)

-- one message more of a list
pub one_further : (outs : List Message) (i : ℕ) (m : Message) → i < length outs → m ≡ slice_index_or outs i m → take (i + 1) outs ≡ take i outs ++ m ∷ []
one_further outs i m below is = rw add-one (take-suc outs i m below ∙ ap (λ (x : Message). take i outs ++ x ∷ []) (sym is))

pub front_at : (names : Names) (start new : Told) (outs : List Message) (i : ℕ) (m : Message) → i < length outs → m ≡ slice_index_or outs i m
    → SentFront names start new (take i outs ++ m ∷ []) → SentFront names start new outs
front_at names start new outs i m below is h =
    subst (SentFront names start new) (take-append-drop (i + 1) outs)
    (front_all names start new (take (i + 1) outs) (drop (i + 1) outs) (subst (SentFront names start new) (sym (one_further outs i m below is)) h))
