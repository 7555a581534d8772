-- Labels of one document tell how the places stand, both ways.
use Rattle.std.proofs.Common.{◌≡◌, ◌↔◌, ℕ, ◌+◌, ◌*◌, ◌<◌, List, [], ◌∷◌, ◌++◌, length, get_or, sym, ap, ◌∙◌, arith, append_assoc, length-append}
use Rattle.std.specs.List.{AllByRecursion}
use Rattle.std.proofs.lemmas.List.{append_cancel_left}
use Rattle.tb_tree.specs.Plain.{Plain, one}
use Rattle.tb_tree.specs.Numbers.{count}
use Rattle.tb_span.specs.Span.{Encloses, IsParent, IsBefore}
use Rattle.tb_tree.specs.Places.{IsAncestor}
use Rattle.tb_tree.proofs.lists.Alls.{all-both, all-weaker}
use Rattle.tb_label.specs.Rows.{Row, rows_of, document_label, IsLeftOf, IsParentOf, Agree, Follows, inside, beside}
use Rattle.tb_label.proofs.RowLaws.{IsUnder, AllFollow, all_under, all_follow}

head-same : (prefix a b : List ℕ) (j k : ℕ) → prefix ++ j ∷ a ≡ prefix ++ k ∷ b → j ≡ k
head-same prefix a b j k is = ap (λ xs. get_or xs 0 0) (append_cancel_left prefix (j ∷ a) (k ∷ b) is)

below-self : (u v : List ℕ) → IsAncestor u v → length u < length v
below-self u v (k, rest, is) = omega (arith, ap length is, length-append u (k ∷ rest))

-- a place below another stands neither right of it nor left of it
below-left : (u v : List ℕ) → IsAncestor u v → IsLeftOf u v → ⊥
below-left u v (c, r, below) (prefix, j, k, a, b, first, second, less) =
    omega (arith, less, head-same prefix b (a ++ c ∷ r) k j (sym second ∙ below ∙ ap (λ x. x ++ c ∷ r) first ∙ append_assoc prefix (j ∷ a) (c ∷ r)))

below-right : (u v : List ℕ) → IsAncestor u v → IsLeftOf v u → ⊥
below-right u v (c, r, below) (prefix, j, k, a, b, first, second, less) =
    omega (arith, less, head-same prefix a (b ++ c ∷ r) j k (sym first ∙ below ∙ ap (λ x. x ++ c ∷ r) second ∙ append_assoc prefix (k ∷ b) (c ∷ r)))

left-self : (u : List ℕ) → IsLeftOf u u → ⊥
left-self u (prefix, j, k, a, b, first, second, less) = omega (arith, less, head-same prefix a b j k (sym first ∙ second))

-- two places can't each stand left of the other
left-apart : (prefix prefix' : List ℕ) (j k j' k' : ℕ) (a b a' b' : List ℕ)
    → prefix ++ j ∷ a ≡ prefix' ++ k' ∷ b' → prefix ++ k ∷ b ≡ prefix' ++ j' ∷ a' → j < k → j' < k' → ⊥
left-apart [] [] j k j' k' a b a' b' u v less less' = omega (arith, less, less', head-same [] a b' j k' u, head-same [] b a' k j' v)
left-apart [] (f ∷ fs) j k j' k' a b a' b' u v less less' =
    omega (arith, less, head-same [] a (fs ++ k' ∷ b') j f u, head-same [] b (fs ++ j' ∷ a') k f v)
left-apart (f ∷ fs) [] j k j' k' a b a' b' u v less less' =
    omega (arith, less', head-same [] (fs ++ j ∷ a) b' f k' u, head-same [] (fs ++ k ∷ b) a' f j' v)
left-apart (f ∷ fs) (g ∷ gs) j k j' k' a b a' b' u v less less' =
    let same : f ≡ g = head-same [] (fs ++ j ∷ a) (gs ++ k' ∷ b') f g u in
    left-apart fs gs j k j' k' a b a' b'
    (append_cancel_left (f ∷ []) (fs ++ j ∷ a) (gs ++ k' ∷ b') (u ∙ ap (λ h. h ∷ (gs ++ k' ∷ b')) (sym same)))
    (append_cancel_left (f ∷ []) (fs ++ k ∷ b) (gs ++ j' ∷ a') (v ∙ ap (λ h. h ∷ (gs ++ j' ∷ a')) (sym same))) less less'

left-right : (u v : List ℕ) → IsLeftOf u v → IsLeftOf v u → ⊥
left-right u v (prefix, j, k, a, b, first, second, less) (prefix', j', k', a', b', first', second', less') =
    left-apart prefix prefix' j k j' k' a b a' b' (sym first ∙ second') (sym second ∙ first') less less'

-- a label that ends behind its start, and whose level is the length of the place
abbrev IsLabelled : Row → Type 0
IsLabelled r = (r.label.start < r.label.end) × (r.label.level ≡ length r.place)

no-more : (x y : Row) → IsLabelled x → IsLabelled y → x.label.level + 1 ≡ y.label.level → IsAncestor x.place y.place → IsParentOf x.place y.place
no-more x y first second next (k, [], is) = (k, is)
no-more x y first second next (k, r ∷ rest, is) = absurd (omega (arith, next, first.1, second.1, ap length is, length-append x.place (k ∷ r ∷ rest)))

-- the parent's label is the enclosing one with a level less by one
parents : (x y : Row) → IsLabelled x → IsLabelled y → Encloses x.label y.label ↔ IsAncestor x.place y.place → IsParent x.label y.label ↔ IsParentOf x.place y.place
parents x y first second same = (
  λ p. no-more x y first second p.next_level (same.0 p.above),
  λ p. record { above = same.1 (p.0, [], p.1); next_level = omega (arith, first.1, second.1, ap length p.1, length-append x.place (p.0 ∷ [])) },
)

agree : (x y : Row) → IsLabelled x → IsLabelled y → Encloses x.label y.label ↔ IsAncestor x.place y.place → IsBefore x.label y.label ↔ IsLeftOf x.place y.place → Agree x y
agree x y first second encloses before = record { encloses = encloses; parent = parents x y first second encloses; before = before }

agree-self : (x : Row) → IsLabelled x → Agree x x
agree-self x is =
    agree x x is is
    (λ e. absurd (omega (arith, e.starts_before)), λ a. absurd (omega (arith, below-self x.place x.place a)))
    (λ b. absurd (omega (arith, b, is.0)), λ l. absurd (left-self x.place l))

agree-on : (x y : Row) → IsLabelled x → IsLabelled y → Follows x y → Agree x y
agree-on x y first second (inside at over) =
    agree x y first second
    (λ e. at, λ a. record { starts_before = over.starts_before; ends_after = over.ends_after })
    (λ b. absurd (omega (arith, b, second.0, over.ends_after)), λ l. absurd (below-left x.place y.place at l))
agree-on x y first second (beside at past) =
    agree x y first second
    (λ e. absurd (omega (arith, e.ends_after, second.0, past)), λ a. absurd (below-left x.place y.place a at))
    (λ b. at, λ l. past)

agree-back : (x y : Row) → IsLabelled x → IsLabelled y → Follows x y → Agree y x
agree-back x y first second (inside at over) =
    agree y x second first
    (λ e. absurd (omega (arith, e.starts_before, over.starts_before)), λ a. absurd (omega (arith, below-self x.place y.place at, below-self y.place x.place a)))
    (λ b. absurd (omega (arith, b, second.0, over.starts_before)), λ l. absurd (below-right x.place y.place at l))
agree-back x y first second (beside at past) =
    agree y x second first
    (λ e. absurd (omega (arith, e.starts_before, first.0, past)), λ a. absurd (below-right y.place x.place a at))
    (λ b. absurd (omega (arith, b, first.0, second.0, past)), λ l. absurd (left-right x.place y.place at l))

agree-all : (rs : List Row) → AllFollow rs → AllByRecursion IsLabelled rs → AllByRecursion (λ x. AllByRecursion (Agree x) rs) rs
agree-all [] follow labelled = tt
agree-all (x ∷ xs) follow labelled =
    let behind = all-both (Follows x) IsLabelled xs follow.0 labelled.1 in (
      (agree-self x labelled.0, all-weaker (λ y. Follows x y × IsLabelled y) (Agree x) xs (λ y f. agree-on x y labelled.0 f.1 f.0) behind),
      all-both (λ y. Agree y x) (λ y. AllByRecursion (Agree y) xs) xs
          (all-weaker (λ y. Follows x y × IsLabelled y) (λ y. Agree y x) xs (λ y f. agree-back x y labelled.0 f.1 f.0) behind) (agree-all xs follow.1 labelled.1),
    )

under_of : (root : Plain) → AllByRecursion (IsUnder [] 0 2 (2 + 2 * count root)) (rows_of root)
under_of root = all_under 2 1 0 [] 0 (one root)

-- In a document labels and places agree, for every two nodes.
pub all_agree : (root : Plain) → AllByRecursion (λ x. AllByRecursion (Agree x) (rows_of root)) (rows_of root)
all_agree root =
    agree-all (rows_of root) (all_follow 2 1 0 [] 0 (one root))
    (all-weaker (IsUnder [] 0 2 (2 + 2 * count root)) IsLabelled (rows_of root) (λ r u. (u.lasts, u.level)) (under_of root))

-- The document node, whose place is the empty one, encloses all others.
pub document_encloses : (root : Plain) → AllByRecursion (λ r. Encloses (document_label root) r.label × IsAncestor [] r.place) (rows_of root)
document_encloses root =
    all-weaker (IsUnder [] 0 2 (2 + 2 * count root)) (λ r. Encloses (document_label root) r.label × IsAncestor [] r.place) (rows_of root)
    (λ r u. (record { starts_before = omega (arith, u.starts); ends_after = omega (arith, u.ends) }, (u.turn, u.rest, u.is))) (under_of root)
