-- Where objects claim no more than before, the claims stay sound.
use Rattle.std.proofs.Common.{◌≡◌, ◌≢◌, refl, ap, sym, ◌∙◌, ℕ, true, false, ◌&&◌, List, [], ◌∷◌, Option, Some, None, is_some, option_map, option_and_then, unwrap_or, codes, rules}
use Rattle.qo_model.proofs.Common.{list_any, bytes_eq, Registers, bare, dimm, TypeId, Val, Range, Board, Record, Ring, kind_of, record_of, bus_of, bus_slot_of, is_realized, number_at, number_in, text_at, text_in, is_of, backend_of, range_in, size_of, is_a, DimmRegisters}
use Rattle.std.proofs.lemmas.Bool.{and_parts, and_from}
use Rattle.std.proofs.lemmas.Option.{same_Some}
use Rattle.qo_values.proofs.EachLemmas.{each_body}
use Rattle.qo_sound.specs.TreeKept.{SoundTree}
use Rattle.qo_sound_clocks.proofs.SlotLemmas.{plain_of}
use Rattle.qo_sound_claims.specs.SoundClaims.{HasRange, is_dimm_on, is_uart_on, NamesRing, SoundClaims, StandsOn}
use Rattle.qo_sound_claims.proofs.DecreaseLemmas.{Fewer, LessRecord, NearAt}
use Rattle.qo_sound_claims.proofs.ReadLemmas.{at-backend, at-link, backend-at, kind-at, link-at, plain-at, realized-at, target-there}
use Rattle.qo_sound_claims.proofs.SlotLemmas.{is_memdev, lit_in}

-- registers by their range

head-dimm : List Range → Registers
head-dimm [] = bare
head-dimm (g ∷ gs) = dimm (record { address = g.at; size = g.size })

only-dimm : (d : DimmRegisters) (g : Range) → range_in (dimm d) ≡ g ∷ [] → dimm d ≡ dimm (record { address = g.at; size = g.size })
unfolding head-dimm
only-dimm d g e = ap head-dimm e

pub dimm-of : (x : Registers) (g : Range) → range_in x ≡ g ∷ [] → x ≡ dimm (record { address = g.at; size = g.size })
unfolding head-dimm
dimm-of x g = each_body (λ (r : Registers). range_in r ≡ g ∷ [] → r ≡ dimm (record { address = g.at; size = g.size })) (search (rules, only-dimm)) x

registers-at : (b : Board) (x : ℕ) (r : Record) → record_of b x ≡ Some r → (g : Range) → StandsOn b x g
    → r.registers ≡ dimm (record { address = g.at; size = g.size })
registers-at b x r there g e =
    same_Some r.registers (dimm (record { address = g.at; size = g.size }))
    (sym (ap (option_map (λ (y : Record). y.registers)) there) ∙ e)

moved-stands : (b c : Board) (x : ℕ) (r s : Record) → record_of b x ≡ Some r → record_of c x ≡ Some s → range_in s.registers ≡ range_in r.registers
    → (g : Range) → StandsOn b x g → StandsOn c x g
moved-stands b c x r s was now same g e =
    ap (option_map (λ (y : Record). y.registers)) now
    ∙ ap Some (dimm-of s.registers g (same ∙ ap range_in (registers-at b x r was g e)))

-- an object that is realized was so before
pub record Lit (b c : Board) (x : ℕ) : Type 0 where
  pub r : Record
  pub s : Record
  pub was : record_of b x ≡ Some r
  pub now : record_of c x ≡ Some s
  pub less : LessRecord false r s
  pub lit : lit_in s.slots ≡ true
  pub realized : is_realized b x ≡ true

-- one of a type
record Before (b c : Board) (name : List ℕ) (x : ℕ) : Type 0 where
  at : Lit b c x
  kind : is_a at.r.kind name ≡ true
  on : is_of b name x && is_realized b x ≡ true

module _ (b c : Board) (before : SoundTree b) (after : SoundTree c) where
  -- an object that is as it was, or claims less
  abbrev pub Old : ℕ → Type 0
  Old x = NearAt false (record_of b x) (record_of c x)

  pub was-lit : (x : ℕ) → Old x → is_realized c x ≡ true → Lit b c x
  was-lit x old e = go (record_of b x) refl (record_of c x) refl
    where
      go : (o : Option Record) → record_of b x ≡ o → (p : Option Record) → record_of c x ≡ p → Lit b c x
      go o q None k = absurd (let clash : false ≡ true = rw k at e in cc)
      go None q (Some s) k =
          let dark : lit_in s.slots ≡ false = rw (q, k) at old in
          absurd (let clash : true ≡ false = sym e ∙ realized-at c after x s k ∙ dark in cc)
      go (Some r) q (Some s) k =
          let less : LessRecord false r s = rw (q, k) at old in
          let lit : lit_in s.slots ≡ true = sym (realized-at c after x s k) ∙ e in
          record { r = r; s = s; was = q; now = k; less = less; lit = lit; realized = realized-at b before x r q ∙ less.slots.lit lit }

  was-on : (name : List ℕ) (x : ℕ) → Old x → is_of c name x && is_realized c x ≡ true → Before b c name x
  was-on name x old e =
      record { at = k; kind = kind; on = and_from (is_of b name x) (is_realized b x) (kind-at b x k.r k.was name ∙ kind) k.realized }
    where
      parts : (is_of c name x ≡ true) × (is_realized c x ≡ true)
      parts = and_parts (is_of c name x) (is_realized c x) e

      k : Lit b c x
      k = was-lit x old parts.1

      kind : is_a k.r.kind name ≡ true
      kind = ap (λ (t : TypeId). is_a t name) (sym k.less.kind) ∙ sym (kind-at c x k.s k.now name) ∙ parts.0

  -- what it claims is what it claimed

  pub text-same : (x : ℕ) → Lit b c x → text_at c x (codes "chardev") ≡ text_at b x (codes "chardev")
  text-same x k =
      ap (option_and_then text_in)
      (plain-at c after x k.s k.now (codes "chardev") ∙ k.less.slots.chardev ∙ sym (plain-at b before x k.r k.was (codes "chardev")))

  number-same : (name : List ℕ) (x : ℕ) (k : Lit b c x) → plain_of name k.s.slots ≡ plain_of name k.r.slots → number_at c x name ≡ number_at b x name
  number-same name x k same = ap (option_and_then number_in) (plain-at c after x k.s k.now name ∙ same ∙ sym (plain-at b before x k.r k.was name))

  pub place-same : (x : ℕ) → Lit b c x → bus_slot_of c x ≡ bus_slot_of b x
  place-same x k = number-same (codes "slot") x k k.less.slots.place

  pub home-back : (x : ℕ) → Lit b c x → (m : ℕ) → bus_of c x ≡ Some m → bus_of b x ≡ Some m
  home-back x k m e =
      link-at b before x k.r k.was (codes "parent_bus") m (k.less.slots.home m (at-link c after x k.s k.now (codes "parent_bus") m e))

  pub backend-back : (x : ℕ) → Lit b c x → (m : ℕ) → backend_of c x ≡ Some m → backend_of b x ≡ Some m
  backend-back x k m e = backend-at b before x k.r k.was m (k.less.slots.back m (at-backend c after x k.s k.now m e))

  pub backend-on : (x : ℕ) (k : Lit b c x) → is_a k.r.kind (codes "mem-dimm") ≡ true → (m : ℕ) → backend_of b x ≡ Some m → backend_of c x ≡ Some m
  backend-on x k is m e = backend-at c after x k.s k.now m (k.less.slots.on m is k.lit (at-backend b before x k.r k.was m e))

  stands-back : (x : ℕ) → Lit b c x → (g : Range) → StandsOn c x g → StandsOn b x g
  stands-back x k g e = moved-stands c b x k.s k.r k.now k.was (sym k.less.range) g e

  stands-on : (x : ℕ) → Lit b c x → (g : Range) → StandsOn b x g → StandsOn c x g
  stands-on x k g e = moved-stands b c x k.r k.s k.was k.now k.less.range g e

  -- a backend that is still there is as it was
  pub memory-same : (m : ℕ) → Old m → is_some (kind_of c m) ≡ true → is_of b (codes "memory-backend") m ≡ true
      → (is_of c (codes "memory-backend") m ≡ true) × (size_of c m ≡ size_of b m)
  memory-same m old there e = go (record_of b m) refl (record_of c m) refl
    where
      go : (o : Option Record) → record_of b m ≡ o → (p : Option Record) → record_of c m ≡ p
          → (is_of c (codes "memory-backend") m ≡ true) × (size_of c m ≡ size_of b m)
      go o q None k = absurd (let clash : false ≡ true = rw k at there in cc)
      go None q (Some s) k = absurd (let clash : false ≡ true = rw q at e in cc)
      go (Some r) q (Some s) k =
          let less : LessRecord false r s = rw (q, k) at old in (
            kind-at c m s k (codes "memory-backend")
                ∙ ap (λ (t : TypeId). is_a t (codes "memory-backend")) less.kind
                ∙ sym (kind-at b m r q (codes "memory-backend"))
                ∙ e,
            ap (λ (o : Option Val). unwrap_or (option_and_then number_in o) 0)
                (plain-at c after m s k (codes "size") ∙ less.slots.size ∙ sym (plain-at b before m r q (codes "size"))),
          )

  module _ (same : c.rings ≡ b.rings) (h : SoundClaims b) where
    pub rings-old : (x : ℕ) → Old x → is_uart_on c x ≡ true → NamesRing c x
    rings-old x old e =
        let k : Before b c (codes "slot-uart") x = was-on (codes "slot-uart") x old e in
        let was : NamesRing b x = h.rings x k.on in
        record {
          id = was.id;
          chardev = text-same x k.at ∙ was.chardev;
          there = λ some. ap (λ (rings : List Ring). list_any (λ (r : Ring). bytes_eq r.id was.id) rings) same ∙ was.there some;
        }

    pub one_uart-old : (x y : ℕ) (id : List ℕ) → Old x → Old y → is_uart_on c x ≡ true → is_uart_on c y ≡ true → id ≢ []
        → text_at c x (codes "chardev") ≡ Some id → text_at c y (codes "chardev") ≡ Some id → x ≡ y
    one_uart-old x y id old also e f some t u =
        let k : Before b c (codes "slot-uart") x = was-on (codes "slot-uart") x old e in
        let l : Before b c (codes "slot-uart") y = was-on (codes "slot-uart") y also f in
        h.one_uart x y id k.on l.on some (sym (text-same x k.at) ∙ t) (sym (text-same y l.at) ∙ u)

    -- a UART that names a ring named it before
    pub uart-before : (x : ℕ) (id : List ℕ) → Old x → is_uart_on c x ≡ true → text_at c x (codes "chardev") ≡ Some id
        → (is_uart_on b x ≡ true) × (text_at b x (codes "chardev") ≡ Some id)
    uart-before x id old e t =
        let k : Before b c (codes "slot-uart") x = was-on (codes "slot-uart") x old e in
        (k.on, sym (text-same x k.at) ∙ t)

    pub dimm-before : (x : ℕ) → Old x → is_dimm_on c x ≡ true → is_dimm_on b x ≡ true
    dimm-before x old e = (was-on (codes "mem-dimm") x old e).on

    pub backend-before : (x m : ℕ) → Old x → is_dimm_on c x ≡ true → backend_of c x ≡ Some m → backend_of b x ≡ Some m
    backend-before x m old e q = backend-back x (was-on (codes "mem-dimm") x old e).at m q

    pub stands-before : (x : ℕ) (g : Range) → Old x → is_dimm_on c x ≡ true → StandsOn c x g → StandsOn b x g
    stands-before x g old e q = stands-back x (was-on (codes "mem-dimm") x old e).at g q

    pub ranges-old : (x : ℕ) → Old x → ((m : ℕ) → is_of b (codes "memory-backend") m ≡ true → Old m) → is_dimm_on c x ≡ true → HasRange c x
    ranges-old x old all e =
        let k : Before b c (codes "mem-dimm") x = was-on (codes "mem-dimm") x old e in
        let was : HasRange b x = h.ranges x k.on in
        let memdev : backend_of c x ≡ Some was.backend = backend-on x k.at k.kind was.backend was.memdev in
        let there : is_some (kind_of c was.backend) ≡ true =
        target-there c after x k.at.s k.at.now is_memdev was.backend (at-backend c after x k.at.s k.at.now was.backend memdev) in
        let memory : (is_of c (codes "memory-backend") was.backend ≡ true) × (size_of c was.backend ≡ size_of b was.backend) =
        memory-same was.backend (all was.backend was.memory) there was.memory in
        record {
          range = was.range;
          backend = was.backend;
          memdev = memdev;
          memory = memory.0;
          addr = number-same (codes "addr") x k.at k.at.less.slots.addr ∙ was.addr;
          size = was.size ∙ sym memory.1;
          aligned = was.aligned;
          window = was.window;
          stands = stands-on x k.at was.range was.stands;
        }

    pub claims-fewer : Fewer false b c → SoundClaims c
    claims-fewer old =
        record {
          rings = λ n e. rings-old n (old n) e;
          one_uart = λ n m id e f some t u. one_uart-old n m id (old n) (old m) e f some t u;
          ranges = λ d e. ranges-old d (old d) (λ m is. old m) e;
          one_dimm = λ d e m on also q r.
              h.one_dimm d e m (dimm-before d (old d) on) (dimm-before e (old e) also) (backend-before d m (old d) on q) (backend-before e m (old e) also r);
          apart = λ d e g k on also differ q r.
              h.apart d e g k (dimm-before d (old d) on) (dimm-before e (old e) also) differ (stands-before d g (old d) on q)
              (stands-before e k (old e) also r);
        }
