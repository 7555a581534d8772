-- Texts before nodes whose texts are joined.
use Rattle.std.proofs.Common.{◌≡◌, ℕ, List, [], ◌∷◌, ◌++◌, refl, sym, ap, append_assoc, append-nil}
use Rattle.tb_tree.specs.Plain.{elem, attr, text, Plains, no_kids, kid}
use Rattle.tb_pattern.specs.WitnessTree.{behind_text}

-- A text behind a text.
pub behind-behind : (v w : List ℕ) (ks : Plains) → behind_text v (behind_text w ks) ≡ behind_text (v ++ w) ks
behind-behind v w (kid (text more) rest) = ap (λ t. kid (text t) rest) (sym (append_assoc v w more))
behind-behind v [] no_kids = ap (λ t. behind_text t no_kids) (sym (append-nil v))
behind-behind [] (c ∷ cs) no_kids = refl
behind-behind (b ∷ bs) (c ∷ cs) no_kids = refl
behind-behind v [] (kid (elem name kids) rest) = ap (λ t. behind_text t (kid (elem name kids) rest)) (sym (append-nil v))
behind-behind [] (c ∷ cs) (kid (elem name kids) rest) = refl
behind-behind (b ∷ bs) (c ∷ cs) (kid (elem name kids) rest) = refl
behind-behind v [] (kid (attr name value) rest) = ap (λ t. behind_text t (kid (attr name value) rest)) (sym (append-nil v))
behind-behind [] (c ∷ cs) (kid (attr name value) rest) = refl
behind-behind (b ∷ bs) (c ∷ cs) (kid (attr name value) rest) = refl

-- A text without a byte.
pub behind_none : (ks : Plains) → behind_text [] ks ≡ ks
behind_none no_kids = refl
behind_none (kid (text more) rest) = refl
behind_none (kid (elem name kids) rest) = refl
behind_none (kid (attr name value) rest) = refl
