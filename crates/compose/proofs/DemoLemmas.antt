-- The transcript of a demo, where no reply and no line is refused for want of memory.
use Rattle.std.proofs.Common.{◌≡◌, ℕ, ◌+◌, ◌<◌, ◌^◌, List, [], ◌∷◌, ◌++◌, length, codes, refl, sym, ◌∙◌, ap, subst, arith, append_assoc, length-append}
use Rattle.std.proofs.Common.{Bool, true, false, Option, None, Some, is_some}
use Rattle.std.proofs.lemmas.Bool.{true≢false}
use Rattle.std.proofs.Math.ListN.{get_or-append}
use Rattle.std.proofs.lemmas.List.{get_or-append-add}
use Rattle.std.specs.Prelude.{slice_index}
use Rattle.memchr.specs.Find.{FindsNeedle, Nowhere, OccursAt}
use Rattle.qo_values.specs.declared.codes.Code.TheVariants.{E99}
use Rattle.qo_causes.specs.Hub.{lane_text, line}
use Rattle.qo_causes.specs.Names.{Names}
use Rattle.qo_replies.specs.Replies.{error_reply, id_member, line_end}
use Rattle.qo_machine.specs.Machine.{Message, State, opening}
use Rattle.qo_machine.specs.Runs.{Turn, after, outs_at, outs_of, transcript, transcript_at, transcript_of}
use Rattle.qo_record.proofs.DemoLemmas.{demos_are_read}
use Rattle.qo_record.proofs.ReadingLemmas.{some_is}
use Rattle.qo_record.specs.Demo.{demo_bytes, demo_given}
use Rattle.qo_record.specs.Record.{stream_given}
use Rattle.compose.proofs.MemoryLemmas.{NoneRefused, defined_run, none_both}
use Rattle.compose.specs.Demo.{Lacks, demo_transcript, refused_line, refused_reply}
use Rattle.compose.specs.Replay.{Replayed}
use Rattle.compose.specs.declared.statuses.Status.{Status}
use Rattle.compose.specs.declared.statuses.Status.TheVariants.{Done}

-- A reply that is refused for want of memory has its code.

record HasCode (text : List ℕ) : Type 0 where
  before : List ℕ
  after : List ℕ
  parts : text ≡ before ++ (refused_reply ++ after)

refused_parts : (id : Option (List ℕ)) → HasCode (error_reply id E99)
unfolding error_reply
refused_parts id =
    record {
      before = codes "{\"error\":{\"class\":\"GenericError\",";
      after = ((codes "out of memory\"}" ++ id_member id (codes ",") []) ++ codes "}") ++ line_end;
      parts = refl;
    }

regrouped : (lane before code after rest : List ℕ) → (lane ++ 32 ∷ (before ++ (code ++ after))) ++ rest ≡ (lane ++ 32 ∷ before) ++ (code ++ (after ++ rest))
regrouped lane before code after rest = simp append_assoc

-- what stands nowhere among some bytes stands nowhere in a part of them
lacks_first : (part xs ys : List ℕ) → Lacks part (xs ++ ys) → Lacks part xs
lacks_first part xs ys lacks before after e =
    let whole : (before ++ (part ++ after)) ++ ys ≡ before ++ (part ++ (after ++ ys)) = simp append_assoc in
    lacks before (after ++ ys) (ap (λ (l : List ℕ). l ++ ys) e ∙ whole)

lacks_second : (part xs ys : List ℕ) → Lacks part (xs ++ ys) → Lacks part ys
lacks_second part xs ys lacks before after e =
    lacks (xs ++ before) after (ap (λ (l : List ℕ). xs ++ l) e ∙ sym (append_assoc xs before (part ++ after)))

none_refused : (names : Names) (outs : List Message) → Lacks refused_reply (transcript names outs) → Lacks refused_line (transcript names outs) →
    NoneRefused outs
none_refused names [] replied told = tt
none_refused names (m ∷ outs) replied told =
    let lane : List ℕ = lane_text names m.0 in
    let first : List ℕ = line names m.0 m.1 in
    let rest : List ℕ = transcript names outs in (
      (
        λ id is.
            let h = refused_parts id in
            replied (lane ++ 32 ∷ h.before) (h.after ++ rest)
            (ap (λ (text : List ℕ). (lane ++ 32 ∷ text) ++ rest) (is ∙ h.parts) ∙ regrouped lane h.before refused_reply h.after rest),
        λ is. told [] (10 ∷ rest) (ap (λ (x : Message). line names x.0 x.1 ++ rest) is),
      ),
      none_refused names outs (lacks_second refused_reply first rest replied) (lacks_second refused_line first rest told),
    )

pub none_refused_in : (ts : List Turn) (s : State) → Lacks refused_reply (transcript_of s ts) → Lacks refused_line (transcript_of s ts) →
    NoneRefused (outs_of s ts)
none_refused_in [] s replied told = tt
none_refused_in (t ∷ ts) s replied told =
    let first : List ℕ = transcript_at s t in
    let rest : List ℕ = transcript_of (after s t) ts in
    none_both (outs_at s t) (outs_of (after s t) ts)
    (none_refused t.names (outs_at s t) (lacks_first refused_reply first rest replied) (lacks_first refused_line first rest told))
    (none_refused_in ts (after s t) (lacks_second refused_reply first rest replied) (lacks_second refused_line first rest told))

-- What is not found stands nowhere.
pub lacks_by : (part bytes : List ℕ) → Nowhere (OccursAt bytes part) 0 (length bytes + 1) → Lacks part bytes
lacks_by part bytes none before after parts =
    let size : length bytes ≡ length before + (length part + length after) =
    ap (length {A = ℕ}) parts ∙ length-append before (part ++ after) ∙ ap (λ (n : ℕ). length before + n) (length-append part after) in
    none (length before) (omega arith) (omega arith)
    (record {
      fits = omega arith;
      reads =
          λ j within. ap (λ (l : List ℕ). slice_index l (length before + j)) parts ∙ get_or-append-add before (part ++ after) j 0
          ∙ get_or-append part after 0 j within;
    })

pub not_found : (part bytes : List ℕ) (place : Option ℕ) (found : Bool) → found ≡ is_some place → FindsNeedle bytes part 0 place →
    found ≡ false → Lacks part bytes
not_found part bytes None found is none missed = lacks_by part bytes none
not_found part bytes (Some k) found is h missed = absurd (true≢false (sym is ∙ missed))

pub is_found : (part bytes : List ℕ) (place : Option ℕ) (found : Bool) → found ≡ is_some place → FindsNeedle bytes part 0 place →
    found ≡ true → (at : ℕ) × OccursAt bytes part at
is_found part bytes None found is none there = absurd (true≢false (sym there ∙ is))
is_found part bytes (Some k) found is h there = (k, h.1)

-- The kept transcript of a run over the record is that of the demo.
kept_is : (bytes kept taken : List ℕ) (left : Option (List ℕ)) (seed steps place : ℕ) → bytes ≡ demo_bytes seed steps → steps < 2 ^ 32 →
    Replayed Done (Some bytes) left (Some []) (Some kept) taken place → Lacks refused_reply kept → Lacks refused_line kept → kept ≡ demo_transcript seed steps
unfolding demo_transcript
kept_is bytes kept taken left seed steps place is few ran replied told =
    let d = ran.did in
    let put : kept ≡ transcript_of opening d.0 = some_is d.1.put in
    let read : stream_given bytes ≡ demo_given seed steps = ap stream_given is ∙ (demos_are_read seed steps few).given in
    let none = none_refused_in d.0 opening (subst (λ (l : List ℕ). Lacks refused_reply l) put replied)
    (subst (λ (l : List ℕ). Lacks refused_line l) put told) in
    put ∙ defined_run d.0 (demo_given seed steps) d.2.0 d.1.last d.1.lost (sym read ∙ d.2.1) (λ over. (d.2.2 over).0) none

pub demo_done : (status : Status) (bytes start kept taken : List ℕ) (left : Option (List ℕ)) (seed steps place : ℕ) → status ≡ Done →
    bytes ≡ demo_bytes seed steps → start ≡ [] → steps < 2 ^ 32 → Replayed status (Some bytes) left (Some start) (Some kept) taken place →
    Lacks refused_reply kept → Lacks refused_line kept → kept ≡ demo_transcript seed steps
demo_done status bytes start kept taken left seed steps place done is empty few ran replied told =
    let on = subst (λ (s : Status). Replayed s (Some bytes) left (Some start) (Some kept) taken place) done ran in
    kept_is bytes kept taken left seed steps place is few
    (subst (λ (l : List ℕ). Replayed Done (Some bytes) left (Some l) (Some kept) taken place) empty on) replied told
