-- Sound boards that differ in plain values and registers alone have the same devices below their buses, and so the same lines.
use Rattle.std.proofs.Common.{◌≡◌, refl, ap, ap₂, sym, ◌∙◌, ℕ, Bool, true, if◌then◌else◌, List, [], ◌++◌, map, codes, Option, None, Some}
use Rattle.std.specs.Option.{option_map_or}
use Rattle.std.proofs.Math.Path.{fun_ext}
use Rattle.qo_values.specs.Registers.{Registers, bare, bridge, dimm, fresh_registers, is_like, timer, uart}
use Rattle.qo_values.specs.declared.births.TheConstants.{MEMORY_BUS_BIRTH, ROOT_BUS_BIRTH}
use Rattle.qo_values.specs.declared.kinds.TypeId.{TypeId}
use Rattle.qo_model.specs.Board.{Board, Record, kind_of, plain, record_of, slots_at}
use Rattle.qo_model.specs.Depth.{by_objects}
use Rattle.qo_model.specs.Devices.{buses_of, kid_at, kid_name, kids_of}
use Rattle.qo_model.specs.Paths.{births, is_of}
use Rattle.qo_model.specs.Reset.{below, post}
use Rattle.qo_model.specs.SoundGraph.{without_values}
use Rattle.qo_layout.specs.LineLaws.{SameDevices}
use Rattle.qo_layout.proofs.SameLemmas.{same_lem}
use Rattle.qo_layout.specs.Registers.{registers_at}
use Rattle.qo_layout.specs.Rows.{wiring}
use Rattle.qo_layout.specs.declared.wiring.Wiring.TheVariants.{Joined}
use Rattle.qo_sound_phases.proofs.ForestLemmas.{turn}
use Rattle.qo_sound_shapes.specs.SoundShape.{SoundShape}
use Rattle.qo_commands.specs.Touched.{KeepsLines}
use Rattle.qo_layout.proofs.SameViewLemmas.{births-framed, buses-framed, framed, kids-framed, kind-framed, named-framed, of-framed, slots-framed, strong_named}

-- the objects of a board without their plain values and registers
abbrev pub frame_of : Board → List Record
frame_of b = map without_values b.records

-- the kids of a bus, and the kid in a slot

kid-framed : (b : Board) (bus n : ℕ) → kid_at (framed b) bus n ≡ kid_at b bus n
kid-framed b bus n = ap (strong_named (kid_name n)) (slots-framed b bus) ∙ named-framed (kid_name n) (slots_at b bus)

-- what is below an object

below-framed : (b : Board) (n : ℕ) → below (framed b) n ≡ below b n
below-framed b n =
    ap (λ (t : Bool). if t then kids_of (framed b) n else buses_of (framed b) n) (of-framed b (codes "bus") n)
    ∙ ap₂ (λ (kids buses : List ℕ). if is_of b (codes "bus") n then kids else buses) (kids-framed b n) (buses-framed b n)

-- the body of an object is that of its type

like-driven : (r s : Registers) → is_like r s ≡ true → wiring r ≡ wiring s
like-driven (uart u) (uart v) e = refl
like-driven (uart u) (timer v) e = refl
like-driven (uart u) (dimm v) e = refl
like-driven (uart u) (bridge v) e = cc
like-driven (uart u) bare e = cc
like-driven (timer u) (uart v) e = refl
like-driven (timer u) (timer v) e = refl
like-driven (timer u) (dimm v) e = refl
like-driven (timer u) (bridge v) e = cc
like-driven (timer u) bare e = cc
like-driven (dimm u) (uart v) e = refl
like-driven (dimm u) (timer v) e = refl
like-driven (dimm u) (dimm v) e = refl
like-driven (dimm u) (bridge v) e = cc
like-driven (dimm u) bare e = cc
like-driven (bridge u) (uart v) e = cc
like-driven (bridge u) (timer v) e = cc
like-driven (bridge u) (dimm v) e = cc
like-driven (bridge u) (bridge v) e = refl
like-driven (bridge u) bare e = cc
like-driven bare (uart v) e = cc
like-driven bare (timer v) e = cc
like-driven bare (dimm v) e = cc
like-driven bare (bridge v) e = cc
like-driven bare bare e = refl

pub driven-by : (b : Board) → SoundShape b → (n : ℕ)
    → wiring (registers_at b n) ≡ option_map_or (λ (t : TypeId). wiring (fresh_registers t)) (kind_of b n) Joined
driven-by b shape n = go (record_of b n) refl
  where
    go : (o : Option Record) → record_of b n ≡ o → wiring (registers_at b n) ≡ option_map_or (λ (t : TypeId). wiring (fresh_registers t)) (kind_of b n) Joined
    go None e = rw e refl
    go (Some r) e = rw e (like-driven r.registers (fresh_registers r.kind) (shape.shaped n r e).registers)

-- all that is below a bus, by what is below each object

module _ (b c : Board) (same : frame_of b ≡ frame_of c) where
  below-same : (n : ℕ) → below b n ≡ below c n
  below-same n = sym (below-framed b n) ∙ ap (λ (rs : List Record). below (record b { records = rs }) n) same ∙ below-framed c n

  births-same : births b ≡ births c
  births-same = sym (births-framed b.records) ∙ ap (map (λ (r : Record). r.birth)) same ∙ births-framed c.records

  kind-same : (n : ℕ) → kind_of b n ≡ kind_of c n
  kind-same n = sym (kind-framed b n) ∙ ap (λ (rs : List Record). kind_of (record b { records = rs }) n) same ∙ kind-framed c n

  kid-same : (bus n : ℕ) → kid_at b bus n ≡ kid_at c bus n
  kid-same bus n = sym (kid-framed b bus n) ∙ ap (λ (rs : List Record). kid_at (record b { records = rs }) bus n) same ∙ kid-framed c bus n

  post-same : (n : ℕ) → post b n ≡ post c n
  unfolding post
  post-same n =
      ap₂ (λ (next : ℕ → List ℕ) (all : List ℕ). by_objects (turn next) (λ _. []) all n) (fun_ext below-same) births-same

  frame-devices : SoundShape b → SoundShape c → SameDevices b c
  frame-devices shape shape_after = record {
    objects = ap₂ (λ (xs ys : List ℕ). xs ++ ys) (post-same ROOT_BUS_BIRTH) (post-same MEMORY_BUS_BIRTH);
    below_it = below-same;
    slots = kid-same ROOT_BUS_BIRTH;
    bodies = λ n.
        driven-by b shape n ∙ ap (λ (o : Option TypeId). option_map_or (λ (t : TypeId). wiring (fresh_registers t)) o Joined) (kind-same n) ∙ sym (driven-by c shape_after n);
  }

pub framed-lines : (b c : Board) → frame_of b ≡ frame_of c → KeepsLines b c
framed-lines b c same sound after l are = same_lem.made b c (frame-devices b c same sound.shape after.shape) l are
