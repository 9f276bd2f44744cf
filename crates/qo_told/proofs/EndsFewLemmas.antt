-- A release notes no more than three things for each object that ends.
use Rattle.std.proofs.Common.{◌≡◌, refl, ap, sym, subst, rules, ℕ, ◌+◌, ◌*◌, ◌≤◌, Bool, true, false, not, ◌==◌, List, [], ◌∷◌, filter, length, Option, arith}
use Rattle.std.specs.Prelude.{find}
use Rattle.std.proofs.lemmas.List.{length-append, length-map}
use Rattle.qo_values.proofs.EachLemmas.{each}
use Rattle.qo_model.proofs.Common.{option_map_or, TypeId, Board, Record, record_of, after, drop_slot, edited, final_notes, finalize, finish, forgotten, let_go, unpin, with_dropped, KeepsRelease, finals, types}
use Rattle.qo_model.proofs.ReleaseInductionLemmas.{after_keeps, release_keeps}
use Rattle.qo_sound.proofs.AdditionStepsLemmas.{KeepsEdits}
use Rattle.qo_sound.proofs.DetachmentStepsLemmas.{KeepsEnds, KeepsPins, step-let_go, step-unpin}

-- the notes, and three for each object that is there: so many there can be by ends alone
abbrev pub weight : Board → ℕ
weight b = length b.notes + 3 * length b.records

-- a type has no more than three finalizers
few-finals : (t : TypeId) → length (finals t) ≤ 3
unfolding types
few-finals = each (λ (t : TypeId). length (finals t) ≤ 3) (search rules)

pub few-ends : (r : Record) → length (final_notes r) ≤ 3
few-ends r = subst (λ (k : ℕ). k ≤ 3) (sym (length-map (finals r.kind) _)) (few-finals r.kind)

-- without the objects of a birth there are no more
fewer : (n : ℕ) (rs : List Record) → length (filter (λ (r : Record). not (r.birth == n)) rs) ≤ length rs
fewer n [] = omega arith
fewer n (r ∷ rs) = go (fewer n rs) (r.birth == n) refl
  where
    go : length (filter (λ (r : Record). not (r.birth == n)) rs) ≤ length rs → (t : Bool) → (r.birth == n) ≡ t
        → length (filter (λ (r : Record). not (r.birth == n)) (r ∷ rs)) ≤ length (r ∷ rs)
    go rest true e = rw e (omega (arith, rest))
    go rest false e = rw e (omega (arith, rest))

-- what is noted at the end of a birth
abbrev ends : ℕ → List Record → ℕ
ends n rs = length (option_map_or final_notes (find (λ (r : Record). r.birth == n) rs) [])

one-ends : (n : ℕ) (rs : List Record) → ends n rs + 3 * length (filter (λ (r : Record). not (r.birth == n)) rs) ≤ 3 * length rs
one-ends n [] = omega arith
one-ends n (r ∷ rs) = go (one-ends n rs) (r.birth == n) refl
  where
    go : ends n rs + 3 * length (filter (λ (r : Record). not (r.birth == n)) rs) ≤ 3 * length rs → (t : Bool) → (r.birth == n) ≡ t
        → ends n (r ∷ rs) + 3 * length (filter (λ (r : Record). not (r.birth == n)) (r ∷ rs)) ≤ 3 * length (r ∷ rs)
    go rest true e = rw e (omega (arith, few-ends r, fewer n rs))
    go rest false e = rw e (omega (arith, rest))

-- the weight does not grow by an end, nor by a slot that is let go
finish-few : (b : Board) (n : ℕ) → weight (finish b n) ≤ weight b
unfolding finish
finish-few b n =
    rw (length-append b.notes (option_map_or final_notes (record_of b n) []), length-map (filter (λ (r : Record). not (r.birth == n)) b.records) (forgotten n))
    (omega (arith, one-ends n b.records))

drop-few : (b : Board) (n i : ℕ) → weight (drop_slot b n i) ≡ weight b
unfolding drop_slot
drop-few b n i = ap (λ (k : ℕ). length b.notes + 3 * k) (length-map b.records (edited n (with_dropped i)))

turns-few : (k : ℕ) → KeepsRelease (λ work b. weight b ≤ k)
turns-few k =
    record {
      ended = λ b n i work few none. omega (arith, finish-few b n, few);
      freed = λ b n i work s m few is holds free. omega (arith, drop-few b n i, few);
      kept = λ b n i work s few is held_on. omega (arith, drop-few b n i, few);
    }

pub finalize-few : (b : Board) (n : ℕ) → weight (finalize b n) ≤ weight b
finalize-few b n = release_keeps (λ work c. weight c ≤ weight b) (turns-few (weight b)) b n [] (omega arith)

after-few : (c : Board) (o : Option ℕ) → weight (after finalize c o) ≤ weight c
after-few c o =
    after_keeps (λ work b. weight b ≤ weight c) (turns-few (weight c)) c o [] (λ m e free. omega arith) (λ held_on. omega arith)

-- nor by the steps by which what a slot or a pin held ends
module _ (k : ℕ) where
  pub edits-few : KeepsEdits (λ (c : Board). weight c ≤ k)
  edits-few n change leaves c h = omega (arith, length-map c.records (edited n change), h)

  pub pins-few : KeepsPins (λ (c : Board). weight c ≤ k)
  pins-few pins c h = h

  pub ends-few : KeepsEnds (λ (c : Board). weight c ≤ k)
  ends-few o c h = omega (arith, after-few c o, h)

pub let_go-few : (b : Board) (owner i : ℕ) → weight (let_go b owner i) ≤ weight b
let_go-few b owner i =
    step-let_go (λ (c : Board). weight c ≤ weight b) (edits-few (weight b)) (pins-few (weight b)) (ends-few (weight b)) owner i b (omega arith)

pub unpin-few : (b : Board) (n : ℕ) → weight (unpin b n) ≤ weight b
unpin-few b n =
    step-unpin (λ (c : Board). weight c ≤ weight b) (edits-few (weight b)) (pins-few (weight b)) (ends-few (weight b)) n b (omega arith)
