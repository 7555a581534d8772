-- The numbers in a document's extents are numbers of its nodes and of its names.
use Rattle.std.proofs.Common.{◌≡◌, ℕ, zero, suc, ◌+◌, ◌<◌, ◌≤◌, ◌^◌, List, [], ◌∷◌, ◌++◌, length, get_or, sym, ap, ◌∙◌, arith}
use Rattle.std.specs.List.{AllByRecursion}
use Rattle.std.proofs.lemmas.List.{length-map, get_or-map, get_or_default}
use Rattle.tb_tree.specs.Plain.{Plain, elem, attr, text, Plains, no_kids, kid, one}
use Rattle.tb_tree.specs.Numbers.{counts, count}
use Rattle.tb_tree.specs.Extents.{Extent, text_extent, extents, extents_of, name_in, named}
use Rattle.tb_tree.specs.FlatTrees.{IsPlaced}
use Rattle.tb_tree.specs.declared.extent.Extent as code
use Rattle.tb_tree.specs.declared.extent.Kind.{Kind}
use Rattle.tb_tree.specs.declared.extent.Kind.TheVariants as kind
use Rattle.tb_tree.proofs.lists.Alls.{all-append}
use Rattle.tb_tree.proofs.JoinedLaws.{length-extents}
use Rattle.tb_tree.proofs.NameLaws.{known-number}
use Rattle.tb_label.specs.Picked.{IsKnown, AreFit}

-- the last descendants are among the nodes

lasts : (most a c n level : ℕ) (ks : Plains) → n + counts ks ≤ most → AllByRecursion (λ e. e.last < most) (extents a c n level ks)
lasts most a c n level no_kids fits = tt
lasts most a c n level (kid (elem name kids) rest) fits = (
  omega (arith, fits),
  all-append (λ e. e.last < most) _ _ (lasts most c _ (n + 1) (level + 1) kids (omega (arith, fits))) (lasts most a _ (n + 1 + counts kids) level rest (omega (arith, fits))),
)
lasts most a c n level (kid (attr name value) rest) fits = (omega (arith, fits), lasts most _ c (n + 1) level rest (omega (arith, fits)))
lasts most a c n level (kid (text value) rest) fits = (omega (arith, fits), lasts most a _ (n + 1) level rest (omega (arith, fits)))

at-all : (P : Extent → Type 0) (es : List Extent) (i : ℕ) (d : Extent) → AllByRecursion P es → i < length es → P (get_or es i d)
at-all P [] i d all less = absurd (omega (arith, less))
at-all P (e ∷ es) zero d all less = all.0
at-all P (e ∷ es) (suc i) d all less = at-all P es i d all.1 (omega (arith, less))

known-as : (elements attributes : List (List ℕ)) (k : Kind) (n : ℕ) (name : List ℕ) → ((more others : List (List ℕ)) → name_in (elements ++ more) (attributes ++ others) k n ≡ name)
    → IsKnown (length elements) (length attributes) k n
known-as elements attributes kind.Element n name all = (known-number elements n name (λ more. all more [])).0
known-as elements attributes kind.Attribute n name all = (known-number attributes n name (λ others. all [] others)).0
known-as elements attributes kind.Text n name all = tt

no_place : Extent
no_place = text_extent 0 0 [] 0

pub placed-fit : (root : Plain) (es : List code.Extent) (elements attributes : List (List ℕ)) → IsPlaced root es elements attributes → count root < 2 ^ 30 → AreFit (length elements) (length attributes) es
placed-fit root es elements attributes p few i d less =
    let x = get_or es i d in
    let long : length es ≡ length (extents_of root) = sym (length-map es (named (elements ++ []) (attributes ++ []))) ∙ ap length (p.extents_are [] []) in
    let within : i < length (extents_of root) = omega (arith, less, long) in
    let seen : (more others : List (List ℕ)) → named (elements ++ more) (attributes ++ others) x ≡ get_or (extents_of root) i no_place = λ more others.
    sym (get_or-map (named (elements ++ more) (attributes ++ others)) es i d (named (elements ++ more) (attributes ++ others) d) less)
    ∙ ap (λ l. get_or l i (named (elements ++ more) (attributes ++ others) d)) (p.extents_are more others)
    ∙ get_or_default (extents_of root) i (named (elements ++ more) (attributes ++ others) d) no_place within in
    record {
      known = known-as elements attributes x.kind x.name (get_or (extents_of root) i no_place).name (λ more others. ap (λ (y : Extent). y.name) (seen more others));
      last_fits = omega (arith, few, ap (λ (y : Extent). y.last) (seen [] []), at-all (λ e. e.last < 1 + count root) (extents_of root) i no_place (lasts (1 + count root) 0 0 1 1 (one root) (omega arith)) within);
    }

pub placed-count : (root : Plain) (es : List code.Extent) (elements attributes : List (List ℕ)) → IsPlaced root es elements attributes → length es ≡ count root
placed-count root es elements attributes p =
    sym (length-map es (named (elements ++ []) (attributes ++ []))) ∙ ap length (p.extents_are [] []) ∙ length-extents 0 0 1 1 (one root)
