-- The rings and the claims of a board speak of its objects and its rings alone.
use Rattle.std.proofs.Common.{◌≡◌, sym, subst, List, ◌≢◌, ℕ, true, [], Some, codes}
use Rattle.qo_model.proofs.Common.{list_any, bytes_eq, Board, Record, Ring, text_at, has_ring}
use Rattle.qo_sound_claims.specs.SoundClaims.{HasRange, NamesRing, SoundClaims, is_uart_on}

-- the claims of a board with the objects of another, and with rings among which those that are named are still there
pub moved-claims : (b c : Board) (rings : List Ring)
    → ((n : ℕ) (id : List ℕ) → is_uart_on b n ≡ true → text_at b n (codes "chardev") ≡ Some id → id ≢ [] → has_ring b id ≡ true
    → list_any (λ (r : Ring). bytes_eq r.id id) rings ≡ true) → SoundClaims b → SoundClaims (record c { records = b.records; rings = rings })
moved-claims b c rings still h =
    record {
      rings = λ n on.
          let k : NamesRing b n = h.rings n on in
          record { id = k.id; chardev = k.chardev; there = λ some. still n k.id on k.chardev some (k.there some) };
      one_uart = h.one_uart;
      ranges = λ d on.
          let k : HasRange b d = h.ranges d on in
          record {
            range = k.range;
            backend = k.backend;
            memdev = k.memdev;
            memory = k.memory;
            addr = k.addr;
            size = k.size;
            aligned = k.aligned;
            window = k.window;
            stands = k.stands;
          };
      one_dimm = h.one_dimm;
      apart = h.apart;
    }

pub claims-beside : (b c : Board) → c.records ≡ b.records → c.rings ≡ b.rings → SoundClaims b → SoundClaims c
claims-beside b c objects same h =
    subst (λ (rings : List Ring). SoundClaims (record c { rings = rings })) (sym same)
    (subst (λ (rs : List Record). SoundClaims (record c { records = rs; rings = b.rings })) (sym objects)
    (moved-claims b c b.rings (λ n id on e some k. k) h))
