-- What each command that rebuilds a board keeps, where it is taken, all of them keep.
use Rattle.std.proofs.Common.{◌≡◌, refl, subst, ℕ, List, [], ◌∷◌, ◌++◌, map, Result, Ok, Err, codes}
use Rattle.std.specs.List.{flat_map}
use Rattle.qo_model.proofs.Common.{AllByRecursion, Code, Val, Board, opening_board, write_at}
use Rattle.qo_values.specs.declared.properties.Val.TheVariants as val
use Rattle.qo_save.specs.Description.{ClockItem, ClockNumbers, Description, DeviceItem, ObjectItem, RingItem}
use Rattle.qo_save.specs.Rebuilding.{add_device, add_object, add_ring, all_done, clock_steps, factor_steps, rebuilt, set_link, Step, steps_of}
use Rattle.qo_sound_clocks.proofs.StepsLemmas.{same_ok}
use Rattle.qo_good.proofs.ItemLemmas.{all-append}

-- a command that is taken keeps P
abbrev pub KeepsStep : (Board → Type 0) → Step → Type 0
KeepsStep P step = (b c : Board) → P b → step b ≡ Ok c → P c

-- so does each kind of them: a write of any value at any path and name, a ring, a user's object and a device that are added
pub record KeepsSteps (P : Board → Type 0) : Type 0 where
  pub wrote : (path name : List ℕ) (v : Val) → KeepsStep P (λ b. write_at b path name v)
  pub ring_added : (r : RingItem) → KeepsStep P (add_ring r)
  pub object_added : (o : ObjectItem) → KeepsStep P (add_object o)
  pub device_added : (x : DeviceItem) → KeepsStep P (add_device x)

module _ (P : Board → Type 0) where
  all-kept : (steps : List Step) → AllByRecursion (KeepsStep P) steps → KeepsStep P (all_done steps)
  all-kept [] keeps b c h e = subst P (same_ok b c e) h
  all-kept (step ∷ steps) keeps b c h e = go (step b) refl (λ d k f. all-kept steps keeps.1 d c k f) e
    where
      go : (r : Result Board Code) → step b ≡ r → ((d : Board) → P d → all_done steps d ≡ Ok c → P c)
          → (elim r as (λ _. Result Board Code) [ Ok d ↦ all_done steps d | Err code ↦ Err code ]) ≡ Ok c → P c
      go (Ok d) q rest f = rest d (keeps.0 b d h q) f
      go (Err code) q rest f = absurd (let clash : Err code ≡ Ok c = f in cc)

  all-mapped : {X : Type 0} (f : X → Step) → ((x : X) → KeepsStep P (f x)) → (xs : List X) → AllByRecursion (KeepsStep P) (map f xs)
  all-mapped f keeps [] = tt
  all-mapped f keeps (x ∷ xs) = (keeps x, all-mapped f keeps xs)

  module _ (keeps : KeepsSteps P) where
    all-factors : (cs : List ClockItem) → AllByRecursion (KeepsStep P) (flat_map factor_steps cs)
    all-factors [] = tt
    all-factors (c ∷ cs) = (keeps.wrote c.path (codes "div") (val.Uint c.div), (keeps.wrote c.path (codes "mul") (val.Uint c.mul), all-factors cs))

    all-clock : (c : ClockNumbers) → AllByRecursion (KeepsStep P) (clock_steps c)
    all-clock c =
        let path : List ℕ = codes "/machine/sysclk" in (
          keeps.wrote path (codes "div") (val.Uint c.div),
          (keeps.wrote path (codes "period") (val.Uint c.period), (keeps.wrote path (codes "mul") (val.Uint c.mul), tt)),
        )

    steps-kept : (d : Description) → AllByRecursion (KeepsStep P) (steps_of d)
    steps-kept d =
        let rings : List Step = clock_steps d.clock ++ map add_ring d.rings in
        let objects : List Step = rings ++ map add_object d.objects in
        let devices : List Step = objects ++ map add_device d.devices in
        let clocks : List Step = devices ++ flat_map factor_steps d.clocks in
        all-append (KeepsStep P) clocks (map set_link d.links)
        (all-append (KeepsStep P) devices (flat_map factor_steps d.clocks)
        (all-append (KeepsStep P) objects (map add_device d.devices)
        (all-append (KeepsStep P) rings (map add_object d.objects)
        (all-append (KeepsStep P) (clock_steps d.clock) (map add_ring d.rings) (all-clock d.clock) (all-mapped add_ring keeps.ring_added d.rings))
        (all-mapped add_object keeps.object_added d.objects))
        (all-mapped add_device keeps.device_added d.devices))
        (all-factors d.clocks))
        (all-mapped set_link (λ l. keeps.wrote l.path l.property (val.Text l.value)) d.links)

    -- so it is of whatever is rebuilt of a description, where it is of the opening board
    pub rebuilt-kept : P opening_board → (d : Description) (c : Board) → rebuilt d ≡ Ok c → P c
    unfolding rebuilt
    rebuilt-kept opening d c e = all-kept (steps_of d) (steps-kept d) opening_board c opening e
