-- What a run over the inputs of a stream did that listeners were told of.
use Rattle.std.proofs.Common.{◌≡◌, ℕ, ◌+◌, ◌-◌, ◌^◌, ◌<◌, ◌≤◌, min, arith, List, [], ◌∷◌, ◌++◌, length, refl, sym, ◌∙◌, ap, subst, inl, inr, Option, None, Some, IfSome, option_and_then, option_map}
use Rattle.qo_causes.specs.Cause.{Rose}
use Rattle.qo_causes.specs.declared.hubs.Lane.{Lane}
use Rattle.qo_model.specs.declared.notes.Note.{Note}
use Rattle.qo_listen.specs.Ears.{AllHeard, Ear, ears, texts_of}
use Rattle.qo_listen.specs.declared.listener.Listener.{Ghosts}
use Rattle.qo_listen.specs.Texts.{Form, TellsText, form_text}
use Rattle.qo_machine.proofs.RunLemmas.{run_met}
use Rattle.qo_machine.specs.Listening.{RunTold}
use Rattle.qo_machine.specs.Machine.{opening}
use Rattle.qo_machine.specs.Runs.{known, state_after}
use Rattle.qo_machine.specs.declared.running.Ending.{Ending}
use Rattle.qo_machine.specs.declared.running.Ending.TheVariants as ending
use Rattle.qo_record.proofs.CoverLemmas.{taken_is}
use Rattle.qo_record.specs.Replays.{IsStarved, Progress, Replaying, Went, bad_ahead, inputs_ahead, unread}
use Rattle.qo_record.specs.Spelling.{Recorded}
use Rattle.compose.specs.Replay.{offset_of}
use Rattle.compose.specs.Watch.{AllTell, AreReports, DidWatch, EndedWatch, EndedWith, PutReports, Watched, told_texts}
use Rattle.compose.specs.declared.statuses.Status.{Status}
use Rattle.compose.specs.declared.statuses.Status.TheVariants.{Done, Usage, BadRecord, Memory, ReadFault, WriteFault, HubFault, InputLimit, BadBoard}
use Rattle.compose.proofs.ReplayLemmas.{Read, did, none_lost, not_made, to_end}

-- each listener tells in the form that it says
pub all-tell : {X : Type 0} (is : Ghosts X) (all : List X) → AllTell (ears is all)
all-tell is [] = tt
all-tell is (x ∷ xs) = (is.tells x, all-tell is xs)

-- a count that stays at 0 did not rise
pub never_rose : Rose 0 0 → ⊥
never_rose rose = let risen : min (0 + 1) (2 ^ 64 - 1) ≤ 0 = rose in omega (arith, risen)

-- what listeners tell that heard some notes
reports-are : (notes : List Note) (xs ys : List Ear) → AllHeard notes xs ys → AllTell ys → IfSome (told_texts notes xs) (λ texts. texts_of ys ≡ texts)
reports-are notes [] [] h tells = refl
reports-are notes [] (y ∷ ys) h tells = absurd (let clash : y ∷ ys ≡ [] = h in cc)
reports-are notes (x ∷ xs) [] h tells = absurd h
reports-are notes (x ∷ xs) (y ∷ ys) h tells = by x.form refl (told_texts notes xs) (reports-are notes xs ys h.1 tells.1)
  where
    by : (form : Option Form) → x.form ≡ form → (rest : Option (List ℕ)) → IfSome rest (λ texts. texts_of ys ≡ texts)
        → IfSome
        (option_and_then (λ (text : List ℕ). option_map (λ (more : List ℕ). text ++ more) rest)
        (option_map (λ (f : Form). form_text f (x.heard ++ notes)) form)) (λ texts. y.text ++ texts_of ys ≡ texts)
    by None is rest q = tt
    by (Some form) is None q = tt
    by (Some form) is (Some more) q =
        let told : y.text ≡ form_text form y.heard = subst (λ (f : Option Form). TellsText f y.text y.heard) (h.0.form ∙ is) tells.0 in
        ap (λ (text : List ℕ). text ++ texts_of ys) (told ∙ ap (form_text form) h.0.heard)
        ∙ ap (λ (texts : List ℕ). form_text form (x.heard ++ notes) ++ texts) q

did_watch : (e : Ending) (status : Status) (p : Progress) (lo ln ho hn : Option (List ℕ)) (bytes : List ℕ) (given : List Recorded)
    (og ng : Lane → Option (List ℕ)) (xs ys : List Ear) → length p.buffered < 65700 → (e ≡ ending.NextFailed → IsStarved p) → Read p lo ln bytes given
    → RunTold e 1000000000 (known (inputs_ahead unread lo) None og (λ n. 0)) (known (inputs_ahead p ln) None ng (λ n. 0)) (bad_ahead unread lo) xs ys
    → AllTell ys → (e ≡ ending.SendFailed → ⊥) → EndedWith e status ho hn (texts_of ys)
    → DidWatch status lo (bytes ++ p.buffered) ho hn (offset_of e) xs
did_watch ending.Done status p lo ln ho hn bytes given og ng xs ys few starved read h tells sends put = by status put
  where
    ended : EndedWatch lo h.0
    ended = (
      record { last = h.2; few = h.3; lost = none_lost h.0 h.1.losses; put = h.1.sent },
      to_end p lo ln bytes given h.0 read h.1.took h.4,
    )

    reports : AreReports xs (state_after opening h.0).board (texts_of ys)
    reports counted = reports-are (state_after opening h.0).board.notes xs ys (h.5 counted) tells

    by : (s : Status) → PutReports s ho hn (texts_of ys) → DidWatch s lo (bytes ++ p.buffered) ho hn 0 xs
    by Done put = (h.0, ended, texts_of ys, reports, put)
    by WriteFault put = (h.0, ended, texts_of ys, reports, put)
    by Memory put = (put, inl (h.0, ended))
    by Usage put = absurd put
    by BadRecord put = absurd put
    by ReadFault put = absurd put
    by HubFault put = absurd put
    by InputLimit put = absurd put
    by BadBoard put = absurd put
did_watch (ending.Bad n) status p lo ln ho hn bytes given og ng xs ys few starved read h tells sends put =
    let d =
    did (ending.Bad n) p lo ln None None bytes given og ng few starved read
    (run_met (ending.Bad n) 1000000000 (known (inputs_ahead unread lo) None og (λ n. 0)) (known (inputs_ahead p ln) None ng (λ n. 0)) (bad_ahead unread lo) xs
    ys h) in
    subst (λ (s : Status). DidWatch s lo (bytes ++ p.buffered) ho hn n xs) (sym put.0) (put.1, d)
did_watch ending.Limit status p lo ln ho hn bytes given og ng xs ys few starved read h tells sends put =
    let d =
    did ending.Limit p lo ln None None bytes given og ng few starved read
    (run_met ending.Limit 1000000000 (known (inputs_ahead unread lo) None og (λ n. 0)) (known (inputs_ahead p ln) None ng (λ n. 0)) (bad_ahead unread lo) xs ys
    h) in
    subst (λ (s : Status). DidWatch s lo (bytes ++ p.buffered) ho hn 0 xs) (sym put.0) (put.1, d)
did_watch ending.NextFailed status p lo ln ho hn bytes given og ng xs ys few starved read h tells sends put =
    let d =
    did ending.NextFailed p lo ln None None bytes given og ng few starved read
    (run_met ending.NextFailed 1000000000 (known (inputs_ahead unread lo) None og (λ n. 0)) (known (inputs_ahead p ln) None ng (λ n. 0)) (bad_ahead unread lo)
    xs ys h) in
    subst (λ (s : Status). DidWatch s lo (bytes ++ p.buffered) ho hn 0 xs) (sym put.0) (put.1, d)
did_watch ending.SendFailed status p lo ln ho hn bytes given og ng xs ys few starved read h tells sends put = absurd (sends refl)
did_watch ending.Memory status p lo ln ho hn bytes given og ng xs ys few starved read h tells sends put =
    let d =
    did ending.Memory p lo ln None None bytes given og ng few starved read
    (run_met ending.Memory 1000000000 (known (inputs_ahead unread lo) None og (λ n. 0)) (known (inputs_ahead p ln) None ng (λ n. 0)) (bad_ahead unread lo) xs ys
    h) in
    subst (λ (s : Status). DidWatch s lo (bytes ++ p.buffered) ho hn 0 xs) (sym put.0) (put.1, inr d)

-- of a hub that was made and given up
pub hub_watched : {S K : Type 0} (left : S → Option (List ℕ)) (e : Ending) (status was : Status) (place : ℕ) (hub new : Replaying S K) (source source_new : S)
    (void : K) (ho hn held : Option (List ℕ)) (og ng : Lane → Option (List ℕ)) (xs ys : List Ear) → hub ≡ record { source = source; sink = void; read = unread }
    → status ≡ was → place ≡ offset_of e → source_new ≡ new.source → held ≡ hn → length new.read.buffered < 65700
    → (e ≡ ending.NextFailed → IsStarved new.read) → Went hub.read new.read (left hub.source) (left new.source)
    → RunTold e 1000000000 (known (inputs_ahead hub.read (left hub.source)) None og (λ n. 0))
    (known (inputs_ahead new.read (left new.source)) None ng (λ n. 0)) (bad_ahead hub.read (left hub.source)) xs ys
    → AllTell ys → (e ≡ ending.SendFailed → ⊥) → EndedWith e was ho hn (texts_of ys)
    → (taken : List ℕ) × Watched status (left source) (left source_new) ho held taken place xs
hub_watched {S} {K} left e status was place hub new source source_new void ho hn held og ng xs ys made st pl so hd few starved went told tells sends put =
    let fresh = ap (λ (h : Replaying S K). h.read) made in
    let lo = left hub.source in
    let ln = left new.source in
    let w : Went unread new.read lo ln = subst (λ (r : Progress). Went r new.read lo ln) fresh went in
    let m = subst (λ (r : Progress). RunTold e 1000000000 (known (inputs_ahead r lo) None og (λ n. 0)) (known (inputs_ahead new.read ln) None ng (λ n. 0))
    (bad_ahead r lo) xs ys) fresh told in
    rw (st, pl, so, hd, sym (ap (λ (h : Replaying S K). h.source) made)) (
      w.0 ++ new.read.buffered,
      record {
        took = taken_is new.read lo ln w.0 w.1 w.2;
        did = did_watch e was new.read lo ln ho hn w.0 w.1 og ng xs ys few starved w.2 m tells sends put;
      },
    )

-- nothing was done for want of memory
pub not_watched : (left held : Option (List ℕ)) (xs : List Ear) → Watched Memory left left held held [] 0 xs
not_watched left held xs =
    let d = not_made left None in
    record { took = d.took; did = (refl, inr d.did) }
