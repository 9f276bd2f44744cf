-- Some listeners are told a note, one after another.
use Rattle.std.proofs.Common.{◌≡◌, refl, ℕ, zero, suc, ◌<◌, false, List, [], ◌∷◌, length, map, get_or, set, ap, ◌∙◌, subst, Result, Ok, Err, OnErr, arith}
use Rattle.qo_model.specs.declared.notes.Note.{Note}
use Rattle.qo_listen.specs.Ears.{Ear, Heard, HeardTo, AllOpen}

-- the one at a place is as before, while those before it were told
pub still_open : {X : Type 0} (f : X → Ear) (notes : List Note) (olds news : List X) (i : ℕ) (d : X) → i < length news → HeardTo i notes (map f olds) (map f news)
    → AllOpen (map f olds) → (f (get_or news i d)).closed ≡ false
still_open f notes olds [] i d lt heard all = absurd (omega arith)
still_open f notes [] (n ∷ news) zero d lt heard all = cc
still_open f notes [] (n ∷ news) (suc i) d lt heard all = cc
still_open f notes (o ∷ olds) (n ∷ news) zero d lt heard all =
    let same : f n ≡ f o = cc in
    ap (λ (e : Ear). e.closed) same ∙ all.0
still_open f notes (o ∷ olds) (n ∷ news) (suc i) d lt heard all = still_open f notes olds news i d (omega arith) heard.1 all.1

-- and then it is told too
pub one_more : {X : Type 0} (f : X → Ear) (notes : List Note) (olds news : List X) (i : ℕ) (x d : X) → i < length news → HeardTo i notes (map f olds) (map f news)
    → Heard notes (f (get_or news i d)) (f x) → HeardTo (suc i) notes (map f olds) (map f (set news i x))
one_more f notes olds [] i x d lt heard one = absurd (omega arith)
one_more f notes [] (n ∷ news) zero x d lt heard one = cc
one_more f notes [] (n ∷ news) (suc i) x d lt heard one = cc
one_more f notes (o ∷ olds) (n ∷ news) zero x d lt heard one =
    let same : f n ≡ f o = cc in let rest : map f news ≡ map f olds = cc in
    (subst (λ e. Heard notes e (f x)) same one, rest)
one_more f notes (o ∷ olds) (n ∷ news) (suc i) x d lt heard one = (heard.0, one_more f notes olds news i x d (omega arith) heard.1 one)

-- one that is put back as it was leaves all as they were
pub put_same : {X : Type 0} (f : X → Ear) (news : List X) (i : ℕ) (x d : X) → i < length news → f x ≡ f (get_or news i d) → map f (set news i x) ≡ map f news
put_same f [] i x d lt same = absurd (omega arith)
put_same f (n ∷ news) zero x d lt same = ap (λ (e : Ear). e ∷ map f news) same
put_same f (n ∷ news) (suc i) x d lt same = ap (λ (es : List Ear). f n ∷ es) (put_same f news i x d (omega arith) same)

-- listeners of whom contracts see the same
pub same_ear : (x y : Ear) → x.heard ≡ y.heard → x.text ≡ y.text → x.form ≡ y.form → x.closed ≡ y.closed → x ≡ y
same_ear x y p q r s = λ i. record { heard = p i; text = q i; form = r i; closed = s i }

-- what holds whatever is answered holds where that is an error
pub on_error : {T E P : Type 0} (r : Result T E) → P → OnErr r P
on_error (Ok x) p = tt
on_error (Err e) p = p
