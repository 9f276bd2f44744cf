-- The law: what adding a device comes to.
use Rattle.std.proofs.Common.{◌≡◌, ◌≢◌, refl, ap, sym, subst, ◌∙◌, ℕ, ◌+◌, ◌≤◌, Bool, true, false, List, [], ◌∷◌, Option, Some, None, codes, length, arith}
use Rattle.qo_model.proofs.Common.{option_or, nat_le, type_name, admits, Code, E15, E16, E17, E18, E19, E20, E25, E31, E43, TypeId, LIVE_OBJECTS_MAX, Val, Board, Given, code_of, may_add, misfit, refusal_by, refusal_of, Resolution, found, missing, several, resolve, Plugged, Wanted, at_stage, barred_early, barred_late, bus_barred, bus_for, id_barred, notice_barred, objects_in, place_barred, plug, plug_as, plug_attempt, plug_by, plug_late, realize_barred, room_barred, type_barred, link_target, property_named, TypeInfo, type_named}
use Rattle.qo_model.specs.declared.properties.Property.{Property}
use Rattle.qo_model.specs.declared.properties.PropertyRole.{PropertyRole}
use Rattle.std.proofs.lemmas.Option.{same_Some}
use Rattle.qo_values.specs.declared.properties.Val.TheVariants as val
use Rattle.qo_model.specs.Plug.{first_of}
use Rattle.qo_model.specs.declared.properties.PropertyRole.TheVariants as row
use Rattle.qo_sound.proofs.PlugLemmas.{or-none}
use Rattle.qo_sound.specs.PlugOutcomes.{Added, GivenUp, IsAttempted, PlugComesToLaw}

-- no property is refused for the number of objects

abbrev NotFull : Option Code → Type 0
NotFull o = o ≡ Some E43 → ⊥

target-not_full : (b : Board) (t : TypeId) (path : List ℕ) → NotFull (code_of (link_target b t path))
target-not_full b t [] e = cc
target-not_full b t (c ∷ cs) e = go (resolve b (c ∷ cs) (type_name t)) refl (resolve b (c ∷ cs) (codes "object")) refl
  where
    go : (p : Resolution) → resolve b (c ∷ cs) (type_name t) ≡ p → (q : Resolution) → resolve b (c ∷ cs) (codes "object") ≡ q → ⊥
    go (found m) p any q = let clash : None ≡ Some E43 = rw (link_target, p) at e in cc
    go several p any q = let clash : Some E16 ≡ Some E43 = rw (link_target, p) at e in cc
    go missing p (found m) q = let clash : Some E31 ≡ Some E43 = rw (link_target, p, q) at e in cc
    go missing p several q = let clash : Some E31 ≡ Some E43 = rw (link_target, p, q) at e in cc
    go missing p missing q = let clash : Some E15 ≡ Some E43 = rw (link_target, p, q) at e in cc

misfit-not_full : (b : Board) (kind : PropertyRole) (v : Val) → NotFull (misfit b kind v)
misfit-not_full b (row.Plain type first) v e = go (admits type v) refl
  where
    go : (u : Bool) → admits type v ≡ u → ⊥
    go true p = let clash : None ≡ Some E43 = rw (misfit, p) at e in cc
    go false p = let clash : Some E19 ≡ Some E43 = rw (misfit, p) at e in cc
misfit-not_full b (row.Link t holds) (val.Text path) e = target-not_full b t path e
misfit-not_full b (row.Link t holds) (val.Bool v) e = let clash : Some E19 ≡ Some E43 = e in cc
misfit-not_full b (row.Link t holds) (val.Int v) e = let clash : Some E19 ≡ Some E43 = e in cc
misfit-not_full b (row.Link t holds) (val.Uint v) e = let clash : Some E19 ≡ Some E43 = e in cc
misfit-not_full b (row.Link t holds) val.Nothing e = let clash : Some E19 ≡ Some E43 = e in cc
misfit-not_full b (row.Child t) v e = let clash : Some E19 ≡ Some E43 = e in cc
misfit-not_full b (row.Alias owner property) v e = let clash : Some E19 ≡ Some E43 = e in cc

property-not_full : (b : Board) (o : Option Property) (v : Val) → NotFull (refusal_by b o v)
property-not_full b None v e = let clash : Some E17 ≡ Some E43 = e in cc
property-not_full b (Some p) v e = go (may_add p.access) refl
  where
    go : (u : Bool) → may_add p.access ≡ u → ⊥
    go true q = misfit-not_full b p.role v (rw (refusal_by, q) at e)
    go false q = let clash : Some E18 ≡ Some E43 = rw (refusal_by, q) at e in cc

props-not_full : (b : Board) (t : TypeId) (props : List Given) → NotFull (refusal_of b t props)
props-not_full b t [] e = let clash : None ≡ Some E43 = e in cc
props-not_full b t (p ∷ props) e = go (refusal_by b (property_named t p.0) p.1) refl (props-not_full b t props)
  where
    go : (o : Option Code) → refusal_by b (property_named t p.0) p.1 ≡ o → NotFull (refusal_of b t props) → ⊥
    go (Some code) q rest = property-not_full b (property_named t p.0) p.1 (q ∙ (rw (refusal_of, q) at e))
    go None q rest = rest (rw (refusal_of, q) at e)

-- which stages refuse before an attempt, and which after it

data IsEarly (r : ℕ × Code) : Type 0 where
  first : r.0 ≤ 3 → IsEarly r
  full : r ≡ (4, E43) → IsEarly r

data IsLate (r : ℕ × Code) : Type 0 where
  property : r.0 ≡ 4 → r.1 ≢ E43 → IsLate r
  later : 5 ≤ r.0 → IsLate r

stage-of : (stage : ℕ) (o : Option Code) (r : ℕ × Code) → at_stage stage o ≡ Some r → (stage ≡ r.0) × (o ≡ Some r.1)
stage-of stage None r e = absurd (let clash : None ≡ Some r = e in cc)
stage-of stage (Some code) r e =
    let is : (stage, code) ≡ r = same_Some (stage, code) r e in
    (ap (λ (x : ℕ × Code). x.0) is, ap (λ (x : ℕ × Code). Some x.1) is)

room-full : (b : Board) (t : TypeId) (code : Code) → room_barred b t ≡ Some code → code ≡ E43
room-full b t code e = go (nat_le (length b.records + objects_in t) LIVE_OBJECTS_MAX) refl
  where
    go : (u : Bool) → nat_le (length b.records + objects_in t) LIVE_OBJECTS_MAX ≡ u → code ≡ E43
    go true p = absurd (let clash : None ≡ Some code = rw (room_barred, p) at e in cc)
    go false p = sym (same_Some E43 code (rw (room_barred, p) at e))

-- the first of some refusals is one of them
either : {A : Type 0} (P : A → Type 0) (o p : Option A) (r : A) → option_or o p ≡ Some r → (o ≡ Some r → P r) → (p ≡ Some r → P r) → P r
either P None p r e left right = right e
either P (Some x) p r e left right = left e

early-stage : (b : Board) (t : TypeId) (a : Wanted) (r : ℕ × Code) → barred_early b t a ≡ Some r → IsEarly r
early-stage b t a r e =
    either IsEarly (at_stage 2 (id_barred b a.id)) _ r e
    (λ k. first (let is = (stage-of 2 (id_barred b a.id) r k).0 in omega (arith, is)))
    (λ rest. either IsEarly (at_stage 3 (bus_barred b t (bus_for b t a.bus))) _ r rest
    (λ k. first (let is = (stage-of 3 (bus_barred b t (bus_for b t a.bus)) r k).0 in omega (arith, is)))
    (λ last. either IsEarly (at_stage 4 (room_barred b t)) None r last
    (λ k. let is = stage-of 4 (room_barred b t) r k in full (λ i. (sym is.0 i, room-full b t r.1 is.1 i)))
    (λ none. absurd (let clash : None ≡ Some r = none in cc))))

late-stage : (b : Board) (t : TypeId) (bus : ℕ) (a : Wanted) (r : ℕ × Code) → barred_late b t bus a.props ≡ Some r → IsLate r
late-stage b t bus a r e =
    either IsLate (at_stage 4 (refusal_of b t a.props)) _ r e
    (λ k. let is = stage-of 4 (refusal_of b t a.props) r k in property (sym is.0) (λ same. props-not_full b t a.props (is.1 ∙ ap Some same)))
    (λ rest. either IsLate (at_stage 5 (place_barred b t bus a.props)) _ r rest
    (λ k. later (let is = (stage-of 5 (place_barred b t bus a.props) r k).0 in omega (arith, is)))
    (λ more. either IsLate (at_stage 6 (realize_barred b t a.props)) _ r more
    (λ k. later (let is = (stage-of 6 (realize_barred b t a.props) r k).0 in omega (arith, is)))
    (λ last. either IsLate (at_stage 8 (notice_barred b)) None r last
    (λ k. later (let is = (stage-of 8 (notice_barred b) r k).0 in omega (arith, is)))
    (λ none. absurd (let clash : None ≡ Some r = none in cc)))))

-- what it comes to

record ComesTo (b : Board) (a : Wanted) (x : Plugged) : Type 0 where
  early : (stage : ℕ) (code : Code) → x.refusal ≡ Some (stage, code) → stage ≤ 3 → x.board ≡ b
  full : x.refusal ≡ Some (4, E43) → x.board ≡ b
  property : (code : Code) → x.refusal ≡ Some (4, code) → code ≢ E43 → GivenUp b a (4, code) x.board
  late : (stage : ℕ) (code : Code) → x.refusal ≡ Some (stage, code) → 5 ≤ stage → GivenUp b a (stage, code) x.board
  added : x.refusal ≡ None → Added b a x.board

-- nothing was made
nothing-made : (b : Board) (a : Wanted) (r : ℕ × Code) → IsEarly r → ComesTo b a (record { refusal = Some r; board = b })
nothing-made b a r is =
    record {
      early = λ stage code e low. refl;
      full = λ e. refl;
      property = λ code e other. absurd (by is (4, code) (same_Some r (4, code) e) refl other);
      late = λ stage code e high. absurd (high-not is (stage, code) (same_Some r (stage, code) e) high);
      added = λ e. absurd (let clash : Some r ≡ None = e in cc);
    }
  where
    by : IsEarly r → (q : ℕ × Code) → r ≡ q → q.0 ≡ 4 → q.1 ≢ E43 → ⊥
    by (first low) q same four other = let is : r.0 ≡ q.0 = ap (λ (x : ℕ × Code). x.0) same in omega (arith, low, is, four)
    by (full e) q same four other = other (ap (λ (x : ℕ × Code). x.1) (sym same ∙ e))

    high-not : IsEarly r → (q : ℕ × Code) → r ≡ q → 5 ≤ q.0 → ⊥
    high-not (first low) q same high = let is : r.0 ≡ q.0 = ap (λ (x : ℕ × Code). x.0) same in omega (arith, low, is, high)
    high-not (full e) q same high = let is : q.0 ≡ 4 = ap (λ (x : ℕ × Code). x.0) (sym same ∙ e) in omega (arith, is, high)

-- it was given up
given-up : (b : Board) (a : Wanted) (r : ℕ × Code) (c : Board) → IsLate r → GivenUp b a r c → ComesTo b a (record { refusal = Some r; board = c })
given-up b a r c is h =
    record {
      early = λ stage code e low. absurd (low-not is (stage, code) (same_Some r (stage, code) e) low);
      full = λ e. absurd (full-not is (same_Some r (4, E43) e));
      property = λ code e other. subst (λ (q : ℕ × Code). GivenUp b a q c) (same_Some r (4, code) e) h;
      late = λ stage code e high. subst (λ (q : ℕ × Code). GivenUp b a q c) (same_Some r (stage, code) e) h;
      added = λ e. absurd (let clash : Some r ≡ None = e in cc);
    }
  where
    low-not : IsLate r → (q : ℕ × Code) → r ≡ q → q.0 ≤ 3 → ⊥
    low-not (property four other) q same low = let is : r.0 ≡ q.0 = ap (λ (x : ℕ × Code). x.0) same in omega (arith, low, is, four)
    low-not (later high) q same low = let is : r.0 ≡ q.0 = ap (λ (x : ℕ × Code). x.0) same in omega (arith, low, is, high)

    full-not : IsLate r → r ≡ (4, E43) → ⊥
    full-not (property four other) same = other (ap (λ (x : ℕ × Code). x.1) same)
    full-not (later high) same = let is : r.0 ≡ 4 = ap (λ (x : ℕ × Code). x.0) same in omega (arith, high, is)

late-comes : (b : Board) (a : Wanted) (row : TypeInfo) (bus : ℕ) → IsAttempted b a row bus → (o : Option (ℕ × Code))
    → barred_late b row.id bus a.props ≡ o → ComesTo b a (plug_late b row.id bus a o)
late-comes b a row bus h (Some refusal) e =
    given-up b a refusal (plug_attempt b row.id bus refusal.0) (late-stage b row.id bus a refusal e)
    (record { row = row; bus = bus; attempted = h; late = e; board = refl })
late-comes b a row bus h None e =
    record {
      early = λ stage code k low. absurd (let clash : None ≡ Some (stage, code) = k in cc);
      full = λ k. absurd (let clash : None ≡ Some (4, E43) = k in cc);
      property = λ code k other. absurd (let clash : None ≡ Some (4, code) = k in cc);
      late = λ stage code k high. absurd (let clash : None ≡ Some (stage, code) = k in cc);
      added = λ k. record { row = row; bus = bus; attempted = h; late = e; board = refl };
    }

-- where nothing bars it there is a bus
some-not : (r : ℕ × Code) → Some r ≡ None → ⊥
some-not r e = cc

no-bus : (b : Board) (t : TypeId) (a : Wanted) → bus_for b t a.bus ≡ None → barred_early b t a ≡ None → ⊥
no-bus b t a none e =
    let stages : Option ℕ → Option (ℕ × Code) = λ (m : Option ℕ). first_of (at_stage 3 (bus_barred b t m) ∷ at_stage 4 (room_barred b t) ∷ []) in
    let after : stages (bus_for b t a.bus) ≡ None = (or-none (at_stage 2 (id_barred b a.id)) (stages (bus_for b t a.bus)) e).1 in
    some-not (3, E25) (sym (ap stages none) ∙ after)

as-comes : (b : Board) (a : Wanted) (row : TypeInfo) → type_barred a.driver ≡ None → type_named a.driver ≡ Some row → (o : Option (ℕ × Code))
    → barred_early b row.id a ≡ o → ComesTo b a (plug_as b row.id a o)
as-comes b a row fits named (Some refusal) e = nothing-made b a refusal (early-stage b row.id a refusal e)
as-comes b a row fits named None e = go (bus_for b row.id a.bus) refl
  where
    go : (m : Option ℕ) → bus_for b row.id a.bus ≡ m → ComesTo b a (plug_as b row.id a None)
    go None p = absurd (no-bus b row.id a p e)
    go (Some bus) p =
        let h : IsAttempted b a row bus = record { fits = fits; named = named; early = e; chosen = p } in
        rw (plug_as, p) (late-comes b a row bus h (barred_late b row.id bus a.props) refl)

by-comes : (b : Board) (a : Wanted) (o : Option Code) → type_barred a.driver ≡ o → ComesTo b a (plug_by b a o)
by-comes b a (Some code) e = nothing-made b a (1, code) (first (omega arith))
by-comes b a None e = go (type_named a.driver) refl
  where
    go : (row : Option TypeInfo) → type_named a.driver ≡ row → ComesTo b a (plug_by b a None)
    go None p = absurd (let clash : Some E20 ≡ None = rw (type_barred, p) at e in cc)
    go (Some row) p = rw (plug_by, p) (as-comes b a row e p (barred_early b row.id a) refl)

comes : (b : Board) (a : Wanted) → ComesTo b a (plug b a)
unfolding plug
comes b a = by-comes b a (type_barred a.driver) refl

pub plug_comes_to_lem : PlugComesToLaw
plug_comes_to_lem =
    record {
      early = λ b a. (comes b a).early;
      full = λ b a. (comes b a).full;
      property = λ b a. (comes b a).property;
      late = λ b a. (comes b a).late;
      added = λ b a. (comes b a).added;
    }
