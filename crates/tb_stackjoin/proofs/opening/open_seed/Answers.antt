use Rattle.std.proofs.Common.{ℕ, ◌++◌, ◌∷◌, [], get_or, sym, ap, ◌∙◌, arith}
use Rattle.std.proofs.lemmas.List.{map_more}
use Rattle.tb_span.specs.Seeds.{range}
use Rattle.tb_stackjoin.specs.Reaches.{opened}
use Rattle.tb_stackjoin.proofs.PlaceLaws.{places-more}
use Rattle.tb_stackjoin.proofs.opening.open_seed.Goals as goal

pub seed-preserved : goal.seed-preserved
seed-preserved c =
    let seed = c.args.seed.now in
    let n = c.seed.number in
    let f = λ (i : ℕ). opened (range c.args.lo c.args.hi) i c.args.lo in
    record {
      reaches = c.in_ok-push-2.ensures.items ∙ ap (λ xs. xs ++ f (get_or seed n 0) ∷ []) c.seed.invariant.reaches ∙ sym (map_more f seed n 0 (omega arith));
      stack = c.in_ok-push.ensures.ok ∙ ap (λ ks. ks ++ n ∷ []) c.seed.invariant.stack ∙ sym (places-more n);
    }
