-- A device that claims no more than before, and is realized, claims the same.
use Rattle.std.proofs.Common.{◌≡◌, refl, ap, sym, ◌∙◌, ℕ, true, Option, Some, None, option_map, codes}
use Rattle.qo_model.proofs.Common.{Board, Record, bus_of, is_realized, is_of, backend_of, range_in, is_a}
use Rattle.qo_sound.specs.TreeKept.{SoundTree}
use Rattle.qo_sound_claims.specs.ClaimsStay.{ClaimsAlike}
use Rattle.qo_sound_claims.proofs.ClaimLemmas.{backend-back, backend-on, home-back, Lit, Old, place-same, text-same, was-lit}
use Rattle.qo_sound_claims.proofs.ReadLemmas.{kind-at}

-- each is what the other is
both-ways : (o p : Option ℕ) → ((m : ℕ) → o ≡ Some m → p ≡ Some m) → ((m : ℕ) → p ≡ Some m → o ≡ Some m) → p ≡ o
both-ways (Some m) p on back = on m refl
both-ways None None on back = refl
both-ways None (Some m) on back = sym (back m refl)

-- one that is on a bus, as each is that is realized
pub stay-at : (b c : Board) (before : SoundTree b) (after : SoundTree c) (x : ℕ) → Old b c before after x → is_realized c x ≡ true → (q : ℕ)
    → bus_of c x ≡ Some q → ClaimsAlike b c x
stay-at b c before after x old e q on =
    record {
      realized = k.realized;
      kind = ap (option_map (λ (r : Record). r.kind)) k.now ∙ ap Some k.less.kind ∙ sym (ap (option_map (λ (r : Record). r.kind)) k.was);
      bus = on ∙ sym (home-back b c before after x k q on);
      slot = place-same b c before after x k;
      ring = text-same b c before after x k;
      backend = backend;
      range =
          ap (option_map (λ (r : Record). range_in r.registers)) k.now
          ∙ ap Some k.less.range
          ∙ sym (ap (option_map (λ (r : Record). range_in r.registers)) k.was);
    }
  where
    k : Lit b c x
    k = was-lit b c before after x old e

    backend : is_of b (codes "mem-dimm") x ≡ true → backend_of c x ≡ backend_of b x
    backend is =
        let its : is_a k.r.kind (codes "mem-dimm") ≡ true = sym (kind-at b x k.r k.was (codes "mem-dimm")) ∙ is in
        both-ways (backend_of b x) (backend_of c x) (backend-on b c before after x k its) (backend-back b c before after x k)
