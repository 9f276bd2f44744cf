-- The law: what keeps each object of a board of a type that has objects. Each step does, where those that are made are of such a type.
use Rattle.std.proofs.Common.{◌≡◌, refl, ap, sym, subst, ◌∙◌, rules, ℕ, Bool, true, false, List, map, Option, Some, None, option_map}
use Rattle.qo_model.proofs.Common.{⊤, AllByRecursion, Pre, Update, TypeId, Board, Record, record_of, acted, Change, added, changed, deleted, severed, wrote, Given, barred, object_add, opening_board, Wanted, further_of, plug, type_barred, with_body_of, with_new, with_path, TypeInfo, type_named, types}
use Rattle.std.proofs.lemmas.Option.{same_Some}
use Rattle.qo_values.proofs.EachLemmas.{each}
use Rattle.qo_values.proofs.ListLemmas.{found-has}
use Rattle.qo_sound.proofs.SearchLemmas.{all-found}
use Rattle.qo_steps.specs.Changes.{Changes, ChangesOf, types_made, types_of}
use Rattle.qo_steps.specs.Steps.{new_with}
use Rattle.qo_steps.proofs.KeepsLemmas.{StepsKeep, beside-by, parts-by, slots-by}
use Rattle.qo_steps.proofs.ReachLemmas.{reach-any}
use Rattle.qo_steps.proofs.StepsLawLemmas.{Kept, changes-imply, changes-keep}
use Rattle.qo_sound_clocks.specs.RegisterWrites.{registers_set}
use Rattle.qo_sound_shapes.proofs.BoardLemmas.{AllOf, all-edit, all-new, all-same}
use Rattle.qo_sound_order.specs.SoundOrder.{AllConcrete, is_abstract}
use Rattle.qo_sound_order.specs.TypesKept.{TypesKeptLaw}
use Rattle.qo_sound_order.proofs.ObjectLemmas.{all-acted, all-finish, all-registers}

abbrev IsConcrete : TypeId → Type 0
IsConcrete t = is_abstract t ≡ false

abbrev Concrete : Record → Type 0
Concrete r = IsConcrete r.kind

abbrev Sound : Board → Type 0
Sound = AllOf Concrete

-- the types of a board's objects are those of its records
to-all : (b : Board) → AllConcrete b → Sound b
to-all b h x r e = h x r.kind (ap (option_map (λ (y : Record). y.kind)) e)

from-all : (b : Board) → Sound b → AllConcrete b
from-all b h n t e = go (record_of b n) refl
  where
    go : (o : Option Record) → record_of b n ≡ o → is_abstract t ≡ false
    go None p = absurd (let clash : None ≡ Some t = sym (ap (option_map (λ (y : Record). y.kind)) p) ∙ e in cc)
    go (Some r) p = subst IsConcrete (same_Some r.kind t (sym (ap (option_map (λ (y : Record). y.kind)) p) ∙ e)) (h n r p)

-- steps
concrete-steps : StepsKeep IsConcrete (λ c n. ⊤) Sound
concrete-steps =
    record {
      slots =
          slots-by Sound
          (λ n change same c h.
          all-edit Concrete n change (λ r. ap (λ (x : Record). x.birth) (same r)) c
          (λ r e own k. subst IsConcrete (sym (ap (λ (x : Record). x.kind) (same r))) k) h);
      objects = record {
        made = λ t slots c passes room h. all-new Concrete (new_with c t slots) c (with_new (new_with c t slots) c) refl passes h;
        attempted = λ count more c own h. h;
        acts = λ act n period c calm on h. all-acted Concrete (λ registers r k. k) act n period c h;
        calls = λ n old new c on h.
            all-acted Concrete (λ registers r k. k) Update n new (acted Pre n old c) (all-acted Concrete (λ registers r k. k) Pre n old c h);
        bodies = λ n id range c h. all-edit Concrete n (with_body_of id range) (λ r. refl) c (λ r e own k. k) h;
        keeps_path = λ n path c h. all-edit Concrete n (with_path path) (λ r. refl) c (λ r e own k. k) h;
      };
      beside = beside-by (λ c n. ⊤) Sound (λ c d k h. all-same Concrete c d k.records h);
      ends = λ n c free h. all-finish Concrete n c (λ r k. k) h;
    }

kept : ChangesOf (λ b. ⊤) (λ b n. ⊤) (Kept IsConcrete Sound)
kept = changes-keep (λ b. ⊤) (λ b n. ⊤) reach-any IsConcrete Sound (parts-by IsConcrete (λ c n. ⊤) Sound concrete-steps)

-- what nothing bars is of no abstract type, and neither are the further objects of a device
rows-abstract : AllByRecursion (λ (row : TypeInfo). is_abstract row.id ≡ row.is_abstract) types
unfolding types
rows-abstract = search rules

row-abstract : (name : List ℕ) (row : TypeInfo) → type_named name ≡ Some row → is_abstract row.id ≡ row.is_abstract
row-abstract name row e = found-has (λ (row : TypeInfo). is_abstract row.id ≡ row.is_abstract) _ types row rows-abstract e

further-concrete : (t : TypeId) → AllByRecursion IsConcrete (map (λ (f : List ℕ × TypeId). f.1) (further_of t))
unfolding types
further-concrete = each (λ (t : TypeId). AllByRecursion IsConcrete (map (λ (f : List ℕ × TypeId). f.1) (further_of t))) (search rules)

-- an object that is made by a command
added-concrete : (b : Board) (driver id : List ℕ) (props : List Given) → Sound b → Sound (object_add b driver id props).board
added-concrete b driver id props h = go (type_named driver) refl
  where
    by : (row : TypeInfo) → type_named driver ≡ Some row → (none : Bool) → row.is_abstract ≡ none → Sound (object_add b driver id props).board
    by row named true p = rw (object_add, named, barred, p) h
    by row named false p = kept.change b (added driver id props) (rw (types_made, named) (row-abstract driver row named ∙ p, tt)) h

    go : (o : Option TypeInfo) → type_named driver ≡ o → Sound (object_add b driver id props).board
    go None p = rw (object_add, p) h
    go (Some row) p = by row p row.is_abstract refl

changed-concrete : (b : Board) (change : Change) → Sound b → Sound (changed b change)
changed-concrete b (added driver id props) h = added-concrete b driver id props h
changed-concrete b (deleted id) h = kept.change b (deleted id) tt h
changed-concrete b (wrote n name v) h = kept.change b (wrote n name v) tt h
changed-concrete b (severed n) h = kept.change b (severed n) tt h

-- a device that is added
plugged-concrete : (b : Board) (a : Wanted) → Sound b → Sound (plug b a).board
unfolding plug
plugged-concrete b a h = go (type_named a.driver) refl
  where
    by : (row : TypeInfo) → type_named a.driver ≡ Some row → (none : Bool) → row.is_abstract ≡ none → Sound (plug b a).board
    by row named true p = rw (type_barred, named, p) h
    by row named false p =
        kept.plugged b a tt (rw (types_of, named) (row-abstract a.driver row named ∙ p, further-concrete row.id)) h

    go : (o : Option TypeInfo) → type_named a.driver ≡ o → Sound (plug b a).board
    go None p = rw (type_barred, p) h
    go (Some row) p = by row p row.is_abstract refl

opening-all : AllByRecursion Concrete opening_board.records
unfolding opening_board types
opening-all = search rules

sound-changes : Changes (λ types b c. Sound b → Sound c)
sound-changes =
    record {
      finalized = λ b n free. kept.finalized b n free tt;
      slot_let_go = λ b owner i. kept.slot_let_go b owner i tt;
      unpinned = λ b n. kept.unpinned b n tt;
      attempt = λ b t. kept.attempt b t tt;
      given_up = λ b t bus stage. kept.given_up b t bus stage tt;
      cut = λ b t i joins. kept.cut b t i joins tt;
      asked_for = λ b id. kept.asked_for b id tt;
      refused_by = λ b d. kept.refused_by b d tt;
      held_so = λ b n kind good on. kept.held_so b n kind good on tt;
      released_so = λ b n good on. kept.released_so b n good on tt;
      pulsed = λ b n kind good on. kept.pulsed b n kind good on tt;
      set = λ b d c period e. kept.set b d c period e tt;
      scaled = λ b d c mul div e. kept.scaled b d c mul div e tt;
      change = changed-concrete;
      plugged = λ b a good. plugged-concrete b a;
      detached = λ b d good on. kept.detached b d good on tt;
      reset = λ b good. kept.reset b good tt;
    }

pub types_kept_lem : TypesKeptLaw
types_kept_lem =
    record {
      opening = from-all opening_board (λ x r e. all-found Concrete x opening_board.records opening-all r e);
      beside = λ b c e h. from-all c (all-same Concrete b c e (to-all b h));
      acts = λ act n period b h. from-all (acted act n period b) (all-acted Concrete (λ registers r k. k) act n period b (to-all b h));
      registers = λ b n registers h.
          from-all (registers_set b n registers) (all-registers Concrete (λ registers r k. k) b n registers (to-all b h));
      changes =
          changes-imply (λ b. ⊤) (λ b n. ⊤) (λ types b c. Sound b → Sound c) (λ types b c. AllConcrete b → AllConcrete c)
          (λ types b c keeps h. from-all c (keeps (to-all b h))) sound-changes;
    }
