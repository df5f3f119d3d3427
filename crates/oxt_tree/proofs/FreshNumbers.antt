-- The numbers of a copy follow one another.
use Rattle.std.proofs.Common.{ℕ, zero, suc, ◌+◌, ◌≡◌, refl, ap, ◌∙◌, arith, ◌∷◌, ◌++◌}
use Rattle.std.specs.List.{range_with_len}
use Rattle.oxt_tree.specs.Copies.{renumbered, each_renumbered, node_count, total_count, numbers_in, numbers_of_each}
use Rattle.oxt_tree.specs.Doc.{Doc, nil, flag, number, text, list, node, Docs, no_docs, doc}

range_append : (a m k : ℕ) → range_with_len a m ++ range_with_len (a + m) k ≡ range_with_len a (m + k)
range_append a zero k =
    let start : a + zero ≡ a = omega arith in
    let len : k ≡ zero + k = omega arith in
    ap (λ s. range_with_len s k) start ∙ ap (range_with_len a) len
range_append a (suc m) k =
    let start : a + suc m ≡ (a + 1) + m = omega arith in
    let len : suc (m + k) ≡ suc m + k = omega arith in
    ap (λ s. a ∷ (range_with_len (a + 1) m ++ range_with_len s k)) start
    ∙ ap (λ xs. a ∷ xs) (range_append (a + 1) m k)
    ∙ ap (range_with_len a) len

mutual
  numbers_renumbered : (d : Doc) (n : ℕ) → numbers_in (renumbered d n) ≡ range_with_len n (node_count d)
  numbers_renumbered nil n = refl
  numbers_renumbered (flag b) n = refl
  numbers_renumbered (number m) n = refl
  numbers_renumbered (text t) n = refl
  numbers_renumbered (list ds) n = numbers_each_renumbered ds n
  numbers_renumbered (node k i b e ds) n =
      let len : suc (total_count ds) ≡ 1 + total_count ds = omega arith in
      ap (λ xs. n ∷ xs) (numbers_each_renumbered ds (n + 1)) ∙ ap (range_with_len n) len

  numbers_each_renumbered : (ds : Docs) (n : ℕ) → numbers_of_each (each_renumbered ds n) ≡ range_with_len n (total_count ds)
  numbers_each_renumbered no_docs n = refl
  numbers_each_renumbered (doc d ds) n =
      ap (λ xs. xs ++ numbers_of_each (each_renumbered ds (n + node_count d))) (numbers_renumbered d n)
      ∙ ap (λ xs. range_with_len n (node_count d) ++ xs) (numbers_each_renumbered ds (n + node_count d))
      ∙ range_append n (node_count d) (total_count ds)

pub numbers_of_copy : (copy source : Doc) (n : ℕ) → copy ≡ renumbered source n → numbers_in copy ≡ range_with_len n (node_count source)
numbers_of_copy copy source n copied = ap numbers_in copied ∙ numbers_renumbered source n
