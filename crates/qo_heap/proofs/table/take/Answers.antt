use Rattle.std.proofs.Common.{◌∙◌, sym, ap, subst, ◌<◌, length, vec_len, List, ℕ, nat_lt, ◌≡◌, ◌+◌, arith}
use Rattle.std.specs.List.{remove}
use Rattle.qo_slots.specs.declared.keys.Key.{Key}
use Rattle.qo_heap.specs.Order.{front, rows_in}
use Rattle.qo_heap.proofs.RowsLemmas.{live-stored, object-found, taken, front-within}
use Rattle.qo_heap.proofs.ValueLemmas.{remove-length}
use Rattle.qo_slots.specs.Table.{live_count}
use Rattle.qo_heap.proofs.table.take.Goals as goal

pub remove-requires : goal.remove-requires
remove-requires g c =
    let within = front-within c.args.table.now c.args.order.now.items c.requires.ordered.stored c.args.key c.requires.live in
    let place = c.place_of-place.ensures ∙ ap (λ (l : List Key). front (λ (k : Key). nat_lt k.birth c.args.key.birth) l) c.as_slice.ensures.value in
    let size = sym (ap (λ (l : List Key). length l) c.as_slice.ensures.value) ∙ c.as_slice.ensures.len in
    subst (λ n. n < vec_len c.args.order.now) (sym place)
    (subst (λ n. front (λ (k : Key). nat_lt k.birth c.args.key.birth) c.args.order.now.items < n) size within)

pub take-requires : goal.take-requires
take-requires g c =
    live-stored c.args.table.now c.args.order.now.items c.requires.ordered.stored c.args.key c.requires.live

pub returns-clause-object : goal.returns-clause-object
returns-clause-object g c =
    object-found c.args.table.now c.args.order.now.items c.requires.ordered.stored c.args.key c.requires.live c.take.result c.take.ensures.value

pub returns-clause-ordered : goal.returns-clause-ordered
returns-clause-ordered g c =
    let gone = taken c.args.table.now c.take.new.self c.args.key c.take.result c.take.ensures.value c.take.ensures.updates c.args.order.now.items
    c.requires.ordered.stored 0 c.args.table.now.born c.requires.ordered.rising c.requires.live in
    let place = c.place_of-place.ensures ∙ ap (λ (l : List Key). front (λ (k : Key). nat_lt k.birth c.args.key.birth) l) c.as_slice.ensures.value in
    let left = c.remove.ensures.items ∙ ap (λ (n : ℕ). remove c.args.order.now.items n) place in
    let size : length c.args.order.now.items ≡ length c.remove.new.self.items + 1 =
    rw left (remove-length c.args.table.now c.args.order.now.items c.requires.ordered.stored c.args.key c.requires.live) in
    rw left (record {
      stored = gone.stored;
      rising = rw c.take.ensures.born gone.rising;
      all = rw left
          at (let less : live_count c.take.new.self ≡ length c.remove.new.self.items = omega (arith, c.take.ensures.count, c.requires.ordered.all, size) in less);
    })

pub returns-clause-rest : goal.returns-clause-rest
returns-clause-rest g c =
    let gone = taken c.args.table.now c.take.new.self c.args.key c.take.result c.take.ensures.value c.take.ensures.updates c.args.order.now.items
    c.requires.ordered.stored 0 c.args.table.now.born c.requires.ordered.rising c.requires.live in
    let place = c.place_of-place.ensures ∙ ap (λ (l : List Key). front (λ (k : Key). nat_lt k.birth c.args.key.birth) l) c.as_slice.ensures.value in
    let left = c.remove.ensures.items ∙ ap (λ (n : ℕ). remove c.args.order.now.items n) place in
    ap (λ (l : List Key). rows_in c.take.new.self l) left ∙ gone.rows
