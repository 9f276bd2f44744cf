-- The text of a tree tells the tree.
use Rattle.std.proofs.Common.{◌≡◌, ◌≢◌, ◌==◌, ◌*◌, ℕ, zero, suc, Bool, true, false, List, [], ◌∷◌, ◌++◌, length, Option, Some, None, option_map, refl, sym, ap, ap₂, ◌∙◌, arith, append_assoc, replicate}
use Rattle.std.specs.List.{AllByRecursion, list_any, find, flat_map, filter_map}
use Rattle.qo_model.specs.Depth.{by_depth}
use Rattle.qo_model.specs.Paths.{births}
use Rattle.std.proofs.lemmas.List.{length-replicate}
use Rattle.qo_values.specs.declared.births.TheConstants.{ROOT_BIRTH}
use Rattle.std.specs.Option.{option_map_or}
use Rattle.std.proofs.lemmas.Bool.{or_parts, eq-eqb}
use Rattle.qo_values.specs.declared.kinds.TypeId.{TypeId}
use Rattle.qo_values.specs.declared.kinds.TypeId.TheVariants.{Object, Container, Machine, Device, SlotDevice, SlotUart, SlotTimer, SlotBridge, MemDimm, Bus, SlotBus, MemBus, Clock, MemoryBackend, MemoryBackendRam, Tag}
use Rattle.qo_model.specs.Board.{Board, Record}
use Rattle.qo_model.specs.Types.{TypeInfo, type_named, types}
use Rattle.qo_text.specs.Trees.{Row, below_turn, child_entries, child_entry, kind_text, row_of, row_text, rows_below, tree_rows}
use Rattle.qo_text.specs.TreeLaw.{HasOneWordNames, IsOneWord, TextsTellTrees}

differ : (c d : ℕ) → (c == d) ≡ false → c ≢ d
differ c d apart same = let yes : (c == d) ≡ true = eq-eqb c d same in cc

-- what stands before the first separator
parted : (sep : ℕ) (s t x y : List ℕ) → list_any (λ (c : ℕ). c == sep) s ≡ false → list_any (λ (c : ℕ). c == sep) t ≡ false → s ++ sep ∷ x ≡ t ++ sep ∷ y
    → (s ≡ t) × (x ≡ y)
parted sep [] [] x y hs ht e = (refl, cc)
parted sep [] (c ∷ t) x y hs ht e =
    let p = or_parts (c == sep) _ ht in
    let same : sep ≡ c = cc in
    absurd (differ c sep p.0 (sym same))
parted sep (c ∷ s) [] x y hs ht e =
    let p = or_parts (c == sep) _ hs in
    let same : c ≡ sep = cc in
    absurd (differ c sep p.0 same)
parted sep (c ∷ s) (d ∷ t) x y hs ht e =
    let p = or_parts (c == sep) _ hs in
    let q = or_parts (d == sep) _ ht in
    let same : c ≡ d = cc in
    let rest : s ++ sep ∷ x ≡ t ++ sep ∷ y = cc in
    let r = parted sep s t x y p.1 q.1 rest in
    (ap₂ (λ (a : ℕ) (l : List ℕ). a ∷ l) same r.0, r.1)

no_slash : (p : ℕ) → list_any (λ (c : ℕ). c == 47) (replicate p 32) ≡ false
no_slash zero = refl
no_slash (suc p) = no_slash p

-- spaces, up to a slash
indented : (p q : ℕ) (x y : List ℕ) → replicate p 32 ++ 47 ∷ x ≡ replicate q 32 ++ 47 ∷ y → (p ≡ q) × (x ≡ y)
indented p q x y e =
    let r = parted 47 (replicate p 32) (replicate q 32) x y (no_slash p) (no_slash q) e in
    (sym (length-replicate p 32) ∙ ap length r.0 ∙ length-replicate q 32, r.1)

-- a type's name holds no bracket, and names the type
abbrev kind_named : List ℕ → Option TypeId
kind_named name = option_map (λ (r : TypeInfo). r.id) (type_named name)

no_bracket : (kind : Option TypeId) → list_any (λ (c : ℕ). c == 41) (kind_text kind) ≡ false
no_bracket None = refl
no_bracket (Some Object) = refl
no_bracket (Some Container) = refl
no_bracket (Some Machine) = refl
no_bracket (Some Device) = refl
no_bracket (Some SlotDevice) = refl
no_bracket (Some SlotUart) = refl
no_bracket (Some SlotTimer) = refl
no_bracket (Some SlotBridge) = refl
no_bracket (Some MemDimm) = refl
no_bracket (Some Bus) = refl
no_bracket (Some SlotBus) = refl
no_bracket (Some MemBus) = refl
no_bracket (Some Clock) = refl
no_bracket (Some MemoryBackend) = refl
no_bracket (Some MemoryBackendRam) = refl
no_bracket (Some Tag) = refl

named_back : (kind : Option TypeId) → kind_named (kind_text kind) ≡ kind
unfolding types
named_back None = refl
named_back (Some Object) = refl
named_back (Some Container) = refl
named_back (Some Machine) = refl
named_back (Some Device) = refl
named_back (Some SlotDevice) = refl
named_back (Some SlotUart) = refl
named_back (Some SlotTimer) = refl
named_back (Some SlotBridge) = refl
named_back (Some MemDimm) = refl
named_back (Some Bus) = refl
named_back (Some SlotBus) = refl
named_back (Some MemBus) = refl
named_back (Some Clock) = refl
named_back (Some MemoryBackend) = refl
named_back (Some MemoryBackendRam) = refl
named_back (Some Tag) = refl

same_kind : (k l : Option TypeId) → kind_text k ≡ kind_text l → k ≡ l
same_kind k l e = sym (named_back k) ∙ ap kind_named e ∙ named_back l

-- a line tells its row, and what follows it
abbrev tail_of : Row → List ℕ → List ℕ
tail_of r rest = r.name ++ 32 ∷ (40 ∷ (kind_text r.kind ++ 41 ∷ (10 ∷ rest)))

line_is : (r : Row) (rest : List ℕ) → row_text r ++ rest ≡ replicate (2 * r.depth) 32 ++ 47 ∷ tail_of r rest
line_is r rest = simp append_assoc

halves : (m n : ℕ) → 2 * m ≡ 2 * n → m ≡ n
halves m n e = omega arith

abbrev row : ℕ → List ℕ → Option TypeId → Row
row depth name kind = record { depth = depth; name = name; kind = kind }

same_row : (r s : Row) → r.depth ≡ s.depth → r.name ≡ s.name → r.kind ≡ s.kind → r ≡ s
same_row r s d n k =
    ap (λ (x : ℕ). row x r.name r.kind) d ∙ ap (λ (x : List ℕ). row s.depth x r.kind) n ∙ ap (row s.depth s.name) k

one_line : (r s : Row) (x y : List ℕ) → IsOneWord r.name → IsOneWord s.name → row_text r ++ x ≡ row_text s ++ y → (r ≡ s) × (x ≡ y)
one_line r s x y hr hs e =
    let e : replicate (2 * r.depth) 32 ++ 47 ∷ tail_of r x ≡ replicate (2 * s.depth) 32 ++ 47 ∷ tail_of s y = sym (line_is r x) ∙ e ∙ line_is s y in
    let deep = indented (2 * r.depth) (2 * s.depth) _ _ e in
    let names = parted 32 r.name s.name _ _ hr hs deep.1 in
    let bracket : kind_text r.kind ++ 41 ∷ (10 ∷ x) ≡ kind_text s.kind ++ 41 ∷ (10 ∷ y) = cc in
    let kinds = parted 41 (kind_text r.kind) (kind_text s.kind) _ _ (no_bracket r.kind) (no_bracket s.kind) bracket in
    let rest : x ≡ y = cc in
    (same_row r s (halves _ _ deep.0) names.0 (same_kind r.kind s.kind kinds.0), rest)

abbrev AreOneWord : List Row → Type 0
AreOneWord rs = AllByRecursion (λ (r : Row). IsOneWord r.name) rs

not_nil : (k : ℕ) (t : List ℕ) → replicate k 32 ++ 47 ∷ t ≢ []
not_nil zero t e = cc
not_nil (suc k) t e = cc

some_text : (r : Row) (x : List ℕ) → row_text r ++ x ≢ []
some_text r x e = not_nil (2 * r.depth) (tail_of r x) (sym (line_is r x) ∙ e)

same_rows : (rs ss : List Row) → AreOneWord rs → AreOneWord ss → flat_map row_text rs ≡ flat_map row_text ss → rs ≡ ss
same_rows [] [] hr hs e = refl
same_rows [] (s ∷ ss) hr hs e = absurd (some_text s (flat_map row_text ss) (sym e))
same_rows (r ∷ rs) [] hr hs e = absurd (some_text r (flat_map row_text rs) e)
same_rows (r ∷ rs) (s ∷ ss) hr hs e =
    let p = one_line r s _ _ hr.0 hs.0 e in
    ap₂ (λ (a : Row) (l : List Row). a ∷ l) p.0 (same_rows rs ss hr.1 hs.1 p.1)

-- names of children
abbrev AreWords : List (List ℕ × ℕ) → Type 0
AreWords es = AllByRecursion (λ (e : List ℕ × ℕ). IsOneWord e.0) es

words_in : (n : ℕ) (rs : List Record) → AllByRecursion (λ (r : Record). AreWords (filter_map child_entry r.slots)) rs
    → AreWords (filter_map child_entry (option_map_or (λ (r : Record). r.slots) (find (λ r. r.birth == n) rs) []))
words_in n [] h = tt
words_in n (r ∷ rs) h = go (words_in n rs h.1) (r.birth == n) refl where
  go : AreWords (filter_map child_entry (option_map_or (λ (r : Record). r.slots) (find (λ r. r.birth == n) rs) [])) → (t : Bool) → (r.birth == n) ≡ t
      → AreWords (filter_map child_entry (option_map_or (λ (r : Record). r.slots) (find (λ r. r.birth == n) (r ∷ rs)) []))
  go rest true e = rw e h.0
  go rest false e = rw e rest

both : (rs ss : List Row) → AreOneWord rs → AreOneWord ss → AreOneWord (rs ++ ss)
both [] ss hr hs = hs
both (r ∷ rs) ss hr hs = (hr.0, both rs ss hr.1 hs)

each_below : (b : Board) (f : ℕ → ℕ → List Row) (depth : ℕ) (es : List (List ℕ × ℕ)) → ((n d : ℕ) → AreOneWord (f n d)) → AreWords es
    → AreOneWord (flat_map (λ (e : List ℕ × ℕ). row_of b (suc depth) e ∷ f e.1 (suc depth)) es)
each_below b f depth [] hf h = tt
each_below b f depth (e ∷ es) hf h =
    both (row_of b (suc depth) e ∷ f e.1 (suc depth)) _ (h.0, hf e.1 (suc depth)) (each_below b f depth es hf h.1)

below_words : (b : Board) → HasOneWordNames b → (steps n depth : ℕ) → AreOneWord (by_depth (below_turn b) (λ _ _. []) steps n depth)
below_words b h zero n depth = tt
below_words b h (suc steps) n depth = each_below b _ depth (child_entries b n) (below_words b h steps) (words_in n b.records h)

rows_one_word : (b : Board) → HasOneWordNames b → AreOneWord (tree_rows b)
unfolding rows_below
rows_one_word b h = (refl, below_words b h (suc (length (births b))) ROOT_BIRTH 0)

pub texts_tell_trees : TextsTellTrees
texts_tell_trees b c hb hc e = same_rows (tree_rows b) (tree_rows c) (rows_one_word b hb) (rows_one_word c hc) e
