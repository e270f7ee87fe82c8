-- `ccrrt_dense` does what rule 3 says, and changes no other part of the room. Assumes nothing.
use Rattle.std.proofs.Common.{rules, ◌≡◌, sym, ap, ◌∙◌, ℕ, List, replicate, arith}
use lib.ListN.{length-take}
use Rattle.lists.specs.Permutations.{table}
use Rattle.lists.proofs.Tables.{table_constant}
use Rattle.reduction.proofs.Stages.{rows_are, cleared, ready, ready_to_transfer, stage_ends, room_ends}
use Rattle.reduction.proofs.columns.ccrrt_dense.Goals as goal

-- a list that was filled
zeros : (n m : ℕ) {l : List ℕ} → l ≡ replicate m 0 → m ≡ n → l ≡ table n (λ i. 0)
zeros n m e size = e ∙ ap (λ (k : ℕ). replicate k 0) size ∙ sym (table_constant n 0)

pub claim_all-requires : goal.claim_all-requires
claim_all-requires c =
    let h = c.requires in
    let n = c.args.n in
    let cols = zeros n _ (c.fill.ensures.after (λ y e. search rules)) h.cols_size in
    let marks = zeros n _ (c.fill-2.ensures.after (λ y e. search rules)) (omega (arith, h.room_size, c.split_at_mut-front.ensures.back_len)) in
    (h.squared.small, ready h cols c.minima.ensures.0 marks)

pub transfers-requires : goal.transfers-requires
transfers-requires c =
    let h = c.requires in
    let n = c.args.n in
    let split = c.split_at_mut-front.ensures in
    let cols = zeros n _ (c.fill.ensures.after (λ y e. search rules)) h.cols_size in
    let marks = zeros n _ (c.fill-2.ensures.after (λ y e. search rules)) (omega (arith, h.room_size, split.back_len)) in
    let frees = zeros n _ (c.fill-3.ensures.after (λ y e. search rules)) (omega (arith, length-take n c.split_at_mut-front.result.0.now, split.front_len)) in
    ready_to_transfer h (cleared h cols c.minima.ensures.0 marks c.claim_all.ensures c.minima.ensures.1 frees)

pub returns : goal.returns
returns c =
    let h = c.requires in
    let n = c.args.n in
    let split = c.split_at_mut-front.ensures in
    let cols = zeros n _ (c.fill.ensures.after (λ y e. search rules)) h.cols_size in
    let marks = zeros n _ (c.fill-2.ensures.after (λ y e. search rules)) (omega (arith, h.room_size, split.back_len)) in
    let frees = zeros n _ (c.fill-3.ensures.after (λ y e. search rules)) (omega (arith, length-take n c.split_at_mut-front.result.0.now, split.front_len)) in
    let clear = cleared h cols c.minima.ensures.0 marks c.claim_all.ensures c.minima.ensures.1 frees in
    let rows = rows_are h cols c.minima.ensures.0 marks c.claim_all.ensures in
    (stage_ends h clear rows c.transfers.ensures _ split.front, room_ends h clear rows c.transfers.ensures _ split.front)
