-- One more is told, where it did not end.
use Rattle.std.proofs.Common.{◌≡◌, ◌++◌, ◌∷◌, ap, sym, ◌∙◌, false, true, ℕ, List, rules}
use Rattle.std.specs.Map.Iter.{deref}
use Rattle.std.proofs.lemmas.Map.Iter.{rest_more}
use Rattle.std.proofs.lemmas.List.{append_assoc}
use Rattle.qo_model.specs.Depth.{among}
use Rattle.qo_model.specs.FinalNotes.{is_final}
use Rattle.qo_listen.specs.Texts.{birth_text, births_of}
use Rattle.qo_listen.proofs.MirrorLemmas.{held-among, told, told-gone, told-there}
use Rattle.qo_listen.proofs.mirror.MirrorListener.report.Goals as goal

pub loop-birth-preserved-in-Continue-branch-4 : goal.loop-birth-preserved-in-Continue-branch-4
loop-birth-preserved-in-Continue-branch-4 c =
    let ended : List ℕ = births_of is_final c.args.self.now.notes.items in
    let rest : List ℕ = c.next.new.self in
    let here : c.loop-birth.birth-iterator ≡ c.in-Some.birth.now ∷ rest = rest_more deref c.loop-birth.birth-iterator c.next.new.self c.next.result c.in-Some.birth c.in-Some.is c.next.ensures.steps in
    let keys : c.in_ok-ended.ended.keys ≡ ended = c.in_ok-ended.ensures ∙ ap (births_of is_final) c.as_slice-2.ensures.value in
    let gone : c.contains.result ≡ false = search rules in
    let there : among ended c.in-Some.birth.now ≡ false =
    sym (held-among ended c.in-Some.birth.now) ∙ (rw (← keys) (sym c.contains.ensures ∙ gone)) in
    rw c.in_ok-put_birth.ensures (
    append_assoc c.loop-birth.bytes.items (birth_text c.in-Some.birth.now) (told ended rest)
    ∙ ap (λ (text : List ℕ). c.loop-birth.bytes.items ++ text) (sym (told-there ended c.in-Some.birth.now rest there))
    ∙ ap (λ (ns : List ℕ). c.loop-birth.bytes.items ++ told ended ns) (sym here)
    ∙ c.loop-birth.invariant)

pub loop-birth-preserved : goal.loop-birth-preserved
loop-birth-preserved c =
    let ended : List ℕ = births_of is_final c.args.self.now.notes.items in
    let rest : List ℕ = c.next.new.self in
    let here : c.loop-birth.birth-iterator ≡ c.in-Some.birth.now ∷ rest = rest_more deref c.loop-birth.birth-iterator c.next.new.self c.next.result c.in-Some.birth c.in-Some.is c.next.ensures.steps in
    let keys : c.in_ok-ended.ended.keys ≡ ended = c.in_ok-ended.ensures ∙ ap (births_of is_final) c.as_slice-2.ensures.value in
    let held : c.contains.result ≡ true = search rules in
    let gone : among ended c.in-Some.birth.now ≡ true =
    sym (held-among ended c.in-Some.birth.now) ∙ (rw (← keys) (sym c.contains.ensures ∙ held)) in
    ap (λ (text : List ℕ). c.loop-birth.bytes.items ++ text) (sym (told-gone ended c.in-Some.birth.now rest gone))
    ∙ ap (λ (ns : List ℕ). c.loop-birth.bytes.items ++ told ended ns) (sym here)
    ∙ c.loop-birth.invariant
