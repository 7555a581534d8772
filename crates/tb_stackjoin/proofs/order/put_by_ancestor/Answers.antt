-- The sort is std's, which is stable; pairs that rise already are left as they are.
use Rattle.std.proofs.Common.{rules, refl, sym}
use Rattle.std.proofs.lemmas.List.Sorted.{IsPermutation-refl, IsNonDecreasingBy-from_sort_by_key, answers_always}
use Rattle.tb_stackjoin.proofs.SortLaws.{by_stable_sort, rises-from_test}
use Rattle.tb_stackjoin.proofs.order.put_by_ancestor.Goals as goal

pub returns-then-is_sorted_by_key : goal.returns-then-is_sorted_by_key
returns-then-is_sorted_by_key c = record {
  moved = IsPermutation-refl c.args.pairs.now.items;
  rises = rises-from_test c.args.pairs.now.items c.is_sorted_by_key.result (rw (sym c.deref.ensures.value) (c.is_sorted_by_key.ensures.cases (λ p. p.a) (answers_always _ _ _ (λ f a r g k. search rules)))) c.if-is_sorted_by_key.true;
  kept = λ i. refl;
}

pub returns : goal.returns
returns c =
    by_stable_sort c.args.pairs.now.items c.sort_by_key.new.self.items c.sort_by_key.ensures.permutation
    (IsNonDecreasingBy-from_sort_by_key (λ p. p.a) _ c.in_ok-sort_by_key.ensures.sorted (λ a r q k. search rules))
    (c.sort_by_key.ensures.stable (λ p. p.a) (answers_always _ _ _ (λ f a r g k. search rules)))
