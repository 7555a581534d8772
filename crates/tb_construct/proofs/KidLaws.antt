-- Kids that are put in one after the other are what they all are with texts joined.
use Rattle.std.proofs.Common.{◌≡◌, ℕ, List, [], ◌∷◌, refl, sym, ap, ◌∙◌, append_assoc, append-nil}
use Rattle.tb_tree.specs.Plain.{Plain, elem, attr, text, Plains, no_kids, kid, one, joined_kids}
use Rattle.tb_tree.proofs.JoinedLaws.{joined-none}
use Rattle.tb_pattern.specs.WitnessTree.{behind_text, texts_joined}
use Rattle.tb_construct.proofs.WitnessTreeLaws.{behind_none}
use Rattle.tb_construct.specs.Kids.{with_last, with_kid, with_kids}

-- Behind an element or an attribute a node joins with nothing.
last-elem : (name : List ℕ) (kids rest : Plains) (next : Plain) → with_last (elem name kids) rest next ≡ kid (elem name kids) (with_kid rest next)
last-elem name kids no_kids next = refl
last-elem name kids (kid l rest) next = refl

last-attr : (name value : List ℕ) (rest : Plains) (next : Plain) → with_last (attr name value) rest next ≡ kid (attr name value) (with_kid rest next)
last-attr name value no_kids next = refl
last-attr name value (kid l rest) next = refl

-- One node more behind nodes that a text stands before.
first-text : (v : List ℕ) (next : Plain) → with_kid (behind_text v no_kids) next ≡ behind_text v (texts_joined (one next))
first-text [] next = sym (behind_none (texts_joined (one next)))
first-text (b ∷ bs) (text []) = ap (λ t. one (text t)) (append-nil (b ∷ bs))
first-text (b ∷ bs) (text (c ∷ cs)) = refl
first-text (b ∷ bs) (elem name kids) = refl
first-text (b ∷ bs) (attr name value) = refl

with_kid-behind : (v : List ℕ) (ks : Plains) (next : Plain) → with_kid (behind_text v ks) next ≡ behind_text v (with_kid ks next)
with_kid-behind v no_kids next = first-text v next
with_kid-behind v (kid (text m) no_kids) (text w) = ap (λ t. one (text t)) (append_assoc v m w)
with_kid-behind v (kid (text m) no_kids) (elem name kids) = refl
with_kid-behind v (kid (text m) no_kids) (attr name value) = refl
with_kid-behind v (kid (text m) (kid l rest)) next = refl
with_kid-behind [] (kid (elem name kids) rest) next = sym (behind_none (with_last (elem name kids) rest next))
with_kid-behind (b ∷ bs) (kid (elem name kids) rest) next =
    let e = last-elem name kids rest next in
    ap (kid (text (b ∷ bs))) e ∙ sym (ap (behind_text (b ∷ bs)) e)
with_kid-behind [] (kid (attr name value) rest) next = sym (behind_none (with_last (attr name value) rest next))
with_kid-behind (b ∷ bs) (kid (attr name value) rest) next =
    let e = last-attr name value rest next in
    ap (kid (text (b ∷ bs))) e ∙ sym (ap (behind_text (b ∷ bs)) e)

with_kid-joined : (ks : Plains) (next : Plain) → with_kid (texts_joined ks) next ≡ texts_joined (joined_kids ks (one next))
with_kid-joined no_kids next = refl
with_kid-joined (kid (text v) rest) next = with_kid-behind v (texts_joined rest) next ∙ ap (behind_text v) (with_kid-joined rest next)
with_kid-joined (kid (elem name kids) rest) next = last-elem name kids (texts_joined rest) next ∙ ap (kid (elem name kids)) (with_kid-joined rest next)
with_kid-joined (kid (attr name value) rest) next = last-attr name value (texts_joined rest) next ∙ ap (kid (attr name value)) (with_kid-joined rest next)

pub kid-joined : (ks : Plains) (k : Plain) (rest : Plains) → joined_kids (joined_kids ks (one k)) rest ≡ joined_kids ks (kid k rest)
kid-joined no_kids k rest = refl
kid-joined (kid l ks) k rest = ap (kid l) (kid-joined ks k rest)

-- Behind nodes whose texts are joined.
pub with_kids-joined : (ks more : Plains) → with_kids (texts_joined ks) more ≡ texts_joined (joined_kids ks more)
with_kids-joined ks no_kids = ap texts_joined (sym (joined-none ks))
with_kids-joined ks (kid k more) =
    ap (λ made. with_kids made more) (with_kid-joined ks k) ∙ with_kids-joined (joined_kids ks (one k)) more ∙ ap texts_joined (kid-joined ks k more)

pub with_kids-append : (made a b : Plains) → with_kids made (joined_kids a b) ≡ with_kids (with_kids made a) b
with_kids-append made no_kids b = refl
with_kids-append made (kid k a) b = with_kids-append (with_kid made k) a b
