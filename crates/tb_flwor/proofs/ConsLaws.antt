-- Constructors are built from their attributes and their parts.
use Rattle.std.proofs.Common.{◌≡◌, ℕ, true, false, ◌-◌, ◌≤◌, List, [], ◌∷◌, ◌++◌, map, length, drop, refl, sym, ap, ◌∙◌, arith}
use Rattle.std.specs.Prelude.{codes}
use Rattle.tb_token.specs.grammar.Grammar.{Tok, Expression, both, either, many}
use Rattle.tb_token.specs.grammar.Sentences.{Tree, nothing, pair, second}
use Rattle.tb_token.specs.grammar.Terminals.{sign, name, string}
use Rattle.tb_token.specs.grammar.Paths.{path}
use Rattle.tb_token.specs.grammar.Results.{cons, braced, attr, piece, cons_rest, back}
use Rattle.tb_token.specs.tokens.TerminalNames as terminals
use Rattle.tb_pattern.specs.Value.{bytes_in}
use Rattle.tb_pattern.specs.Building.{next, Next, begins, Builds}
use Rattle.tb_pattern.proofs.BuildingLaws.{one-builds, Both, both-builds, builds-as, First, Second, first-builds, second-builds, Opened, rule-builds}
use Rattle.tb_query.specs.Parts.{PlainParts, no_parts, before, plain_parts, part_of, cons_of, inner, content, element, nodes_back, cons_back}
use Rattle.tb_query.specs.declared.back.AttrPart.{AttrPart}
use Rattle.tb_query.specs.declared.back.Back.TheVariants as back
use Rattle.tb_query.specs.declared.back.Content.{Content}
use Rattle.tb_query.specs.declared.back.Cons as cons
use Rattle.tb_query.specs.declared.back.Part as part
use Rattle.tb_query.specs.declared.back.Part.TheVariants as parts
use Rattle.tb_query.specs.declared.path.Path.{Path}
use Rattle.tb_flwor.specs.Value.{BoundNames}
use Rattle.tb_flwor.specs.Results.{attr_from, attrs_of, cons_in, cons_behind, parts_in, part_from, back_in}
use Rattle.tb_flwor.specs.Built.{Gives, IsPath, IsContent, AreAttrs, IsCons, inside, AreInside, IsPart, AreParts, IsBack}
use Rattle.tb_pattern.proofs.RunLaws.{SoFar, far-start, far-next, run-end, ListSoFar, list-start, list-end, item-next, many-none}
use Rattle.tb_flwor.proofs.OperandLaws.{path_terminals}
use Rattle.tb_flwor.proofs.Views.{cons_of-Cons, part_of-Cons, part_of-Content}

-- what was found, with one more and what is behind
abbrev parts_before : List part.Part → PlainParts → PlainParts
parts_before [] behind = behind
parts_before (p ∷ ps) behind = before (part_of p) (parts_before ps behind)

before-next : (found : List part.Part) (p : part.Part) (behind : PlainParts) → parts_before found (before (part_of p) behind) ≡ parts_before (found ++ p ∷ []) behind
before-next [] p behind = refl
before-next (f ∷ fs) p behind = ap (λ ps. before (part_of f) ps) (before-next fs p behind)

before-all : (found : List part.Part) → parts_before found no_parts ≡ plain_parts (map part_of found)
before-all [] = refl
before-all (f ∷ fs) = ap (λ ps. before (part_of f) ps) (before-all fs)

module _ (names : BoundNames) where
  -- Attributes.

  module _ (is : Content) (s left : List Tok) where
    abbrev attr_is : AttrPart
    attr_is = record { name = bytes_in (next s); from = is }

    abbrev From : Tree → Type 0
    From = Both (Next (drop 1 s)) (IsContent names is)

    pub attr-builds : Builds (either string braced) (IsContent names is) (drop 1 (drop 1 s)) left → Builds attr (Gives (attr_from names) attr_is) s left
    attr-builds content_is =
        builds-as attr (Both (Next s) From) (Gives (attr_from names) attr_is) s left
        (λ v b behind. ap (λ x. attr_from names x behind) (b.pair_is ∙ ap (λ x. pair b.one x) b.two_is.pair_is) ∙ rw (b.one_is, b.two_is.two_is) refl)
        (both-builds name (both (sign (codes "=")) (either string braced)) (Next s) From s (drop 1 s) left (one-builds terminals.NAMES s)
        (both-builds (sign (codes "=")) (either string braced) (Next (drop 1 s)) (IsContent names is) (drop 1 s) (drop 1 (drop 1 s)) left (one-builds (terminals.EQUAL ∷ []) (drop 1 s)) content_is))

  abbrev pub AttrsSoFar : List AttrPart → List Tok → List Tok → Type 0
  AttrsSoFar = ListSoFar attr (attrs_of names) []

  pub attrs-next : (found : List AttrPart) (is : AttrPart) (s mid left : List Tok) → begins terminals.NAMES mid ≡ true → AttrsSoFar found s mid
      → Builds attr (Gives (attr_from names) is) mid left → length left ≤ length mid - 1 → AttrsSoFar (found ++ is ∷ []) s left
  attrs-next found is s mid left e far gives shorter =
      item-next attr (attr_from names) (attrs_of names) [] found is s mid left (λ v w. refl) refl e far gives shorter

  pub attrs-first : (is : AttrPart) (s left : List Tok) → begins terminals.NAMES s ≡ true → Builds attr (Gives (attr_from names) is) s left → length left ≤ length s - 1
      → AttrsSoFar (is ∷ []) s left
  attrs-first is s left e gives shorter = attrs-next [] is s s left e (list-start attr (attrs_of names) [] s) gives shorter

  pub attrs-end : (found : List AttrPart) (s left : List Tok) → begins terminals.NAMES left ≡ false → AttrsSoFar found s left → Builds (many attr) (AreAttrs names found) s left
  attrs-end found s left e far = list-end attr (attrs_of names) [] found s left refl e far

  pub attrs-none : (s : List Tok) → begins terminals.NAMES s ≡ false → Builds (many attr) (AreAttrs names []) s s
  attrs-none s e = builds-as (many attr) (λ v. v ≡ nothing) (AreAttrs names []) s s (λ v f. ap (attrs_of names) f) (many-none attr s e)

  -- Parts.

  abbrev pub PartsSoFar : List part.Part → List Tok → List Tok → Type 0
  PartsSoFar found s left = SoFar piece parts_before (parts_in names) [] found s left

  abbrev piece_terminals : List ℕ
  piece_terminals = terminals.LESS ∷ terminals.QUOTED ∷ terminals.OPEN_BRACE ∷ []

  pub parts-next : (found : List part.Part) (is : part.Part) (s mid left : List Tok) → begins piece_terminals mid ≡ true → PartsSoFar found s mid
      → Builds piece (IsPart names is) mid left → length left ≤ length mid - 1 → PartsSoFar (found ++ is ∷ []) s left
  parts-next found is s mid left e far gives shorter =
      far-next piece parts_before (parts_in names) [] found (found ++ is ∷ []) s mid left refl e far
      (builds-as piece (IsPart names is) (λ v. (w : Tree) → parts_before found (parts_in names (pair v w)) ≡ parts_before (found ++ is ∷ []) (parts_in names w)) mid left
      (λ v g w. ap (parts_before found) (g (parts_in names w)) ∙ before-next found is (parts_in names w)) gives)
      (omega arith)

  pub parts-first : (is : part.Part) (s left : List Tok) → begins piece_terminals s ≡ true → Builds piece (IsPart names is) s left → length left ≤ length s - 1 → PartsSoFar (is ∷ []) s left
  parts-first is s left e gives shorter = parts-next [] is s s left e (far-start piece parts_before (parts_in names) [] s) gives shorter

  pub parts-end : (found : List part.Part) (s left : List Tok) → begins piece_terminals left ≡ false → PartsSoFar found s left → Builds (many piece) (AreParts names found) s left
  parts-end found s left e far =
      builds-as (many piece) (λ v. parts_in names v ≡ parts_before found no_parts) (AreParts names found) s left (λ v f. f ∙ before-all found)
      (run-end piece parts_before (parts_in names) [] found s left e far.built)

  pub parts-none : (s : List Tok) → begins piece_terminals s ≡ false → Builds (many piece) (AreParts names []) s s
  parts-none s e = builds-as (many piece) (λ v. v ≡ nothing) (AreParts names []) s s (λ v f. ap (parts_in names) f) (many-none piece s e)

  -- One part.

  -- a constructor and its `<`
  abbrev IsInner : cons.Cons → Tree → Type 0
  IsInner c v = cons_of c ≡ cons_in names v

  inner-builds : (c : cons.Cons) (s left : List Tok) → Builds cons_rest (IsCons names c) (drop 1 s) left → Builds cons (IsInner c) s left
  inner-builds c s left cons_is =
      builds-as cons (Opened (IsCons names c)) (IsInner c) s left (λ v o. o.inside_is ∙ sym (ap (cons_in names) o.pair_is))
      (rule-builds (terminals.LESS ∷ []) 1 (IsCons names c) s left cons_is)

  pub part-cons : (c : cons.Cons) (s left : List Tok) → begins (terminals.LESS ∷ []) s ≡ true → Builds cons_rest (IsCons names c) (drop 1 s) left → Builds piece (IsPart names (parts.Cons c)) s left
  part-cons c s left e cons_is =
      builds-as piece (First (IsInner c)) (IsPart names (parts.Cons c)) s left
      (λ v f behind.
      ap (λ x. part_from names x behind) f.first_is ∙ ap (λ x. inner x behind) (sym f.one_is) ∙ ap (λ x. before x behind) (sym (part_of-Cons c)))
      (first-builds cons (either string braced) (IsInner c) s left e (inner-builds c s left cons_is))

  pub part-content : (c : Content) (s left : List Tok) → begins (terminals.LESS ∷ []) s ≡ false → Builds (either string braced) (IsContent names c) s left
      → Builds piece (IsPart names (parts.Content c)) s left
  part-content c s left e content_is =
      builds-as piece (Second (IsContent names c)) (IsPart names (parts.Content c)) s left
      (λ v f behind.
      ap (λ x. part_from names x behind) f.second_is ∙ ap (λ x. content x behind) f.two_is ∙ ap (λ x. before x behind) (sym (part_of-Content c)))
      (second-builds cons (either string braced) (IsContent names c) s left refl e content_is)

  -- What stands behind the attributes.

  abbrev opened_tag : Expression
  opened_tag = both (sign (codes ">")) (both (many piece) (both (sign (codes "</")) (both name (sign (codes ">")))))

  pub inside-none : (s : List Tok) → begins (terminals.SELF_CLOSE ∷ []) s ≡ true → Builds inside (AreInside names []) s (drop 1 s)
  inside-none s e =
      builds-as inside (First (Next s)) (AreInside names []) s (drop 1 s) (λ v f n a. sym (ap (λ x. cons_behind names (pair n (pair a x))) f.first_is))
      (first-builds (sign (codes "/>")) opened_tag (Next s) s (drop 1 s) e (one-builds (terminals.SELF_CLOSE ∷ []) s))

  module _ (are : List part.Part) (s mid : List Tok) where
    abbrev m1 : List Tok
    m1 = drop 1 mid

    abbrev m2 : List Tok
    m2 = drop 1 m1

    abbrev Tag : Tree → Type 0
    Tag = Both (Next mid) (Both (Next m1) (Next m2))

    abbrev Behind : Tree → Type 0
    Behind = Both (AreParts names are) Tag

    pub inside-parts : begins (terminals.SELF_CLOSE ∷ []) s ≡ false → Builds (many piece) (AreParts names are) (drop 1 s) mid → Builds inside (AreInside names are) s (drop 1 m2)
    inside-parts e parts_are =
        builds-as inside (Second (Both (Next s) Behind)) (AreInside names are) s (drop 1 m2)
        (λ v f n a.
        let b = f.two_is in
        let p = b.two_is in
        sym (ap (λ x. cons_behind names (pair n (pair a x))) (f.second_is ∙ ap second (b.pair_is ∙ ap (λ x. pair b.one x) p.pair_is))
        ∙ ap (λ x. element (bytes_in n) (attrs_of names a) x) p.one_is))
        (second-builds (sign (codes "/>")) opened_tag (Both (Next s) Behind) s (drop 1 m2) refl e
        (both-builds (sign (codes ">")) (both (many piece) (both (sign (codes "</")) (both name (sign (codes ">"))))) (Next s) Behind s (drop 1 s) (drop 1 m2) (one-builds (terminals.GREATER ∷ []) s)
        (both-builds (many piece) (both (sign (codes "</")) (both name (sign (codes ">")))) (AreParts names are) Tag (drop 1 s) mid (drop 1 m2) parts_are
        (both-builds (sign (codes "</")) (both name (sign (codes ">"))) (Next mid) (Both (Next m1) (Next m2)) mid m1 (drop 1 m2) (one-builds (terminals.END_TAG ∷ []) mid)
        (both-builds name (sign (codes ">")) (Next m1) (Next m2) m1 m2 (drop 1 m2) (one-builds terminals.NAMES m1) (one-builds (terminals.GREATER ∷ []) m2))))))

  -- A whole constructor behind its `<`.

  module _ (attrs_are : List AttrPart) (parts_are : List part.Part) (s mid left : List Tok) where
    abbrev cons_is : cons.Cons
    cons_is = cons.roll-Cons (record { name = bytes_in (next s); attrs = attrs_are; parts = parts_are })

    abbrev Attrs : Tree → Type 0
    Attrs = Both (AreAttrs names attrs_are) (AreInside names parts_are)

    pub cons-builds : Builds (many attr) (AreAttrs names attrs_are) (drop 1 s) mid → Builds inside (AreInside names parts_are) mid left → Builds cons_rest (IsCons names cons_is) s left
    cons-builds attrs_is inside_is =
        builds-as cons_rest (Both (Next s) Attrs) (IsCons names cons_is) s left
        (λ v b.
        let a = b.two_is in
        cons_of-Cons (bytes_in (next s)) attrs_are parts_are ∙ rw (← b.one_is, ← a.one_is) refl ∙ a.two_is b.one a.one
        ∙ sym (ap (cons_behind names) (b.pair_is ∙ ap (λ x. pair b.one x) a.pair_is)))
        (both-builds name (both (many attr) inside) (Next s) Attrs s (drop 1 s) left (one-builds terminals.NAMES s)
        (both-builds (many attr) inside (AreAttrs names attrs_are) (AreInside names parts_are) (drop 1 s) mid left attrs_is inside_is))

  -- What stands behind RETURN.

  pub back-path : (is : Path) (s left : List Tok) → begins path_terminals s ≡ true → Builds path (IsPath names is) s left → Builds back (IsBack names (back.Nodes is)) s left
  back-path is s left e path_is =
      builds-as back (First (IsPath names is)) (IsBack names (back.Nodes is)) s left
      (λ v f. sym (ap (back_in names) f.first_is ∙ ap nodes_back f.one_is))
      (first-builds path cons (IsPath names is) s left e path_is)

  pub back-cons : (c : cons.Cons) (s left : List Tok) → begins path_terminals s ≡ false → Builds cons_rest (IsCons names c) (drop 1 s) left → Builds back (IsBack names (back.Cons c)) s left
  back-cons c s left e cons_is =
      builds-as back (Second (IsInner c)) (IsBack names (back.Cons c)) s left
      (λ v f. ap cons_back f.two_is ∙ sym (ap (back_in names) f.second_is))
      (second-builds path cons (IsInner c) s left refl e (inner-builds c s left cons_is))
