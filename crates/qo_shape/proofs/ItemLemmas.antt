-- A part of several is none where one of them is.
use Rattle.std.proofs.Common.{◌≡◌, ap, ◌∙◌, Option, None, option_map}
use Rattle.qo_save.specs.Shape.{also}
use Rattle.qo_shape.proofs.ReadLemmas.{also-none}

-- nothing is had further on
also-of : {A B : Type 0} (f : Option (A → B)) (o : Option A) → f ≡ None → also f o ≡ None
also-of f o is = ap (λ g. also g o) is

pub two-first : {T0 T1 R : Type 0} (f : T0 → T1 → R) (o0 : Option T0) (o1 : Option T1) → o0 ≡ None
    → also (option_map f o0) o1 ≡ None
two-first f o0 o1 none = also-of (option_map f o0) o1 (ap (option_map f) none)

pub two-second : {T0 T1 R : Type 0} (f : T0 → T1 → R) (o0 : Option T0) (o1 : Option T1) → o1 ≡ None
    → also (option_map f o0) o1 ≡ None
two-second f o0 o1 none = ap (λ x. also (option_map f o0) x) none ∙ also-none (option_map f o0)

pub three-first : {T0 T1 T2 R : Type 0} (f : T0 → T1 → T2 → R) (o0 : Option T0) (o1 : Option T1) (o2 : Option T2) → o0 ≡ None
    → also (also (option_map f o0) o1) o2 ≡ None
three-first f o0 o1 o2 none = also-of (also (option_map f o0) o1) o2 (also-of (option_map f o0) o1 (ap (option_map f) none))

pub three-second : {T0 T1 T2 R : Type 0} (f : T0 → T1 → T2 → R) (o0 : Option T0) (o1 : Option T1) (o2 : Option T2) → o1 ≡ None
    → also (also (option_map f o0) o1) o2 ≡ None
three-second f o0 o1 o2 none = also-of (also (option_map f o0) o1) o2 (ap (λ x. also (option_map f o0) x) none ∙ also-none (option_map f o0))

pub three-third : {T0 T1 T2 R : Type 0} (f : T0 → T1 → T2 → R) (o0 : Option T0) (o1 : Option T1) (o2 : Option T2) → o2 ≡ None
    → also (also (option_map f o0) o1) o2 ≡ None
three-third f o0 o1 o2 none = ap (λ x. also (also (option_map f o0) o1) x) none ∙ also-none (also (option_map f o0) o1)

pub five-first : {T0 T1 T2 T3 T4 R : Type 0} (f : T0 → T1 → T2 → T3 → T4 → R) (o0 : Option T0) (o1 : Option T1) (o2 : Option T2) (o3 : Option T3)
    (o4 : Option T4) → o0 ≡ None
    → also (also (also (also (option_map f o0) o1) o2) o3) o4 ≡ None
five-first f o0 o1 o2 o3 o4 none = also-of (also (also (also (option_map f o0) o1) o2) o3) o4
    (also-of (also (also (option_map f o0) o1) o2) o3 (also-of (also (option_map f o0) o1) o2 (also-of (option_map f o0) o1 (ap (option_map f) none))))

pub five-second : {T0 T1 T2 T3 T4 R : Type 0} (f : T0 → T1 → T2 → T3 → T4 → R) (o0 : Option T0) (o1 : Option T1) (o2 : Option T2) (o3 : Option T3)
    (o4 : Option T4) → o1 ≡ None
    → also (also (also (also (option_map f o0) o1) o2) o3) o4 ≡ None
five-second f o0 o1 o2 o3 o4 none = also-of (also (also (also (option_map f o0) o1) o2) o3) o4 (also-of (also (also (option_map f o0) o1) o2) o3
    (also-of (also (option_map f o0) o1) o2 (ap (λ x. also (option_map f o0) x) none ∙ also-none (option_map f o0))))

pub five-third : {T0 T1 T2 T3 T4 R : Type 0} (f : T0 → T1 → T2 → T3 → T4 → R) (o0 : Option T0) (o1 : Option T1) (o2 : Option T2) (o3 : Option T3)
    (o4 : Option T4) → o2 ≡ None
    → also (also (also (also (option_map f o0) o1) o2) o3) o4 ≡ None
five-third f o0 o1 o2 o3 o4 none = also-of (also (also (also (option_map f o0) o1) o2) o3) o4
    (also-of (also (also (option_map f o0) o1) o2) o3 (ap (λ x. also (also (option_map f o0) o1) x) none ∙ also-none (also (option_map f o0) o1)))

pub five-fourth : {T0 T1 T2 T3 T4 R : Type 0} (f : T0 → T1 → T2 → T3 → T4 → R) (o0 : Option T0) (o1 : Option T1) (o2 : Option T2) (o3 : Option T3)
    (o4 : Option T4) → o3 ≡ None
    → also (also (also (also (option_map f o0) o1) o2) o3) o4 ≡ None
five-fourth f o0 o1 o2 o3 o4 none = also-of (also (also (also (option_map f o0) o1) o2) o3) o4
    (ap (λ x. also (also (also (option_map f o0) o1) o2) x) none ∙ also-none (also (also (option_map f o0) o1) o2))

pub five-fifth : {T0 T1 T2 T3 T4 R : Type 0} (f : T0 → T1 → T2 → T3 → T4 → R) (o0 : Option T0) (o1 : Option T1) (o2 : Option T2) (o3 : Option T3)
    (o4 : Option T4) → o4 ≡ None
    → also (also (also (also (option_map f o0) o1) o2) o3) o4 ≡ None
five-fifth f o0 o1 o2 o3 o4 none = ap (λ x. also (also (also (also (option_map f o0) o1) o2) o3) x) none
    ∙ also-none (also (also (also (option_map f o0) o1) o2) o3)

pub six-first : {T0 T1 T2 T3 T4 T5 R : Type 0} (f : T0 → T1 → T2 → T3 → T4 → T5 → R) (o0 : Option T0) (o1 : Option T1) (o2 : Option T2) (o3 : Option T3)
    (o4 : Option T4) (o5 : Option T5) → o0 ≡ None
    → also (also (also (also (also (option_map f o0) o1) o2) o3) o4) o5 ≡ None
six-first f o0 o1 o2 o3 o4 o5 none =
    also-of (also (also (also (also (option_map f o0) o1) o2) o3) o4) o5 (also-of (also (also (also (option_map f o0) o1) o2) o3) o4
    (also-of (also (also (option_map f o0) o1) o2) o3 (also-of (also (option_map f o0) o1) o2 (also-of (option_map f o0) o1 (ap (option_map f) none)))))

pub six-second : {T0 T1 T2 T3 T4 T5 R : Type 0} (f : T0 → T1 → T2 → T3 → T4 → T5 → R) (o0 : Option T0) (o1 : Option T1) (o2 : Option T2) (o3 : Option T3)
    (o4 : Option T4) (o5 : Option T5) → o1 ≡ None
    → also (also (also (also (also (option_map f o0) o1) o2) o3) o4) o5 ≡ None
six-second f o0 o1 o2 o3 o4 o5 none =
    also-of (also (also (also (also (option_map f o0) o1) o2) o3) o4) o5 (also-of (also (also (also (option_map f o0) o1) o2) o3) o4 (also-of
    (also (also (option_map f o0) o1) o2) o3 (also-of (also (option_map f o0) o1) o2 (ap (λ x. also (option_map f o0) x) none ∙ also-none (option_map f o0)))))

pub six-third : {T0 T1 T2 T3 T4 T5 R : Type 0} (f : T0 → T1 → T2 → T3 → T4 → T5 → R) (o0 : Option T0) (o1 : Option T1) (o2 : Option T2) (o3 : Option T3)
    (o4 : Option T4) (o5 : Option T5) → o2 ≡ None
    → also (also (also (also (also (option_map f o0) o1) o2) o3) o4) o5 ≡ None
six-third f o0 o1 o2 o3 o4 o5 none =
    also-of (also (also (also (also (option_map f o0) o1) o2) o3) o4) o5 (also-of (also (also (also (option_map f o0) o1) o2) o3) o4
    (also-of (also (also (option_map f o0) o1) o2) o3 (ap (λ x. also (also (option_map f o0) o1) x) none ∙ also-none (also (option_map f o0) o1))))

pub six-fourth : {T0 T1 T2 T3 T4 T5 R : Type 0} (f : T0 → T1 → T2 → T3 → T4 → T5 → R) (o0 : Option T0) (o1 : Option T1) (o2 : Option T2) (o3 : Option T3)
    (o4 : Option T4) (o5 : Option T5) → o3 ≡ None
    → also (also (also (also (also (option_map f o0) o1) o2) o3) o4) o5 ≡ None
six-fourth f o0 o1 o2 o3 o4 o5 none =
    also-of (also (also (also (also (option_map f o0) o1) o2) o3) o4) o5 (also-of (also (also (also (option_map f o0) o1) o2) o3) o4
    (ap (λ x. also (also (also (option_map f o0) o1) o2) x) none ∙ also-none (also (also (option_map f o0) o1) o2)))

pub six-fifth : {T0 T1 T2 T3 T4 T5 R : Type 0} (f : T0 → T1 → T2 → T3 → T4 → T5 → R) (o0 : Option T0) (o1 : Option T1) (o2 : Option T2) (o3 : Option T3)
    (o4 : Option T4) (o5 : Option T5) → o4 ≡ None
    → also (also (also (also (also (option_map f o0) o1) o2) o3) o4) o5 ≡ None
six-fifth f o0 o1 o2 o3 o4 o5 none = also-of (also (also (also (also (option_map f o0) o1) o2) o3) o4) o5
    (ap (λ x. also (also (also (also (option_map f o0) o1) o2) o3) x) none ∙ also-none (also (also (also (option_map f o0) o1) o2) o3))

pub six-sixth : {T0 T1 T2 T3 T4 T5 R : Type 0} (f : T0 → T1 → T2 → T3 → T4 → T5 → R) (o0 : Option T0) (o1 : Option T1) (o2 : Option T2) (o3 : Option T3)
    (o4 : Option T4) (o5 : Option T5) → o5 ≡ None
    → also (also (also (also (also (option_map f o0) o1) o2) o3) o4) o5 ≡ None
six-sixth f o0 o1 o2 o3 o4 o5 none = ap (λ x. also (also (also (also (also (option_map f o0) o1) o2) o3) o4) x) none
    ∙ also-none (also (also (also (also (option_map f o0) o1) o2) o3) o4)
