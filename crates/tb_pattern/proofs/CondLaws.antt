-- Literals and conditions are built by their next tokens.
use Rattle.std.proofs.Common.{◌≡◌, ℕ, Bool, true, false, cond, ◌≤◌, List, [], ◌∷◌, ◌++◌, length, drop, Option, Some, None, refl, sym, ap, ◌∙◌, append-nil, append_assoc, eqb-true, pos, arith, length-drop}
use Rattle.std.specs.Prelude.{ℤ, codes}
use Rattle.std.specs.Option.{unwrap_or}
use Rattle.tb_token.specs.grammar.Grammar.{Tok, Expression, both, maybe, many, has}
use Rattle.tb_token.specs.grammar.Sentences.{Tree, leaf, nothing, pair, second, by_one, by_both, by_second, left_out, put_in}
use Rattle.tb_token.proofs.grammar.PlaceLaws.{read-both, read-second, read-put_in, read-left_out, read-one}
use Rattle.tb_token.proofs.grammar.TerminalLaws.{none-true, has-only}
use Rattle.tb_number.specs.IntText.{signed, number_of}
use Rattle.tb_number.specs.Range.{is_in_range, within_range}
use Rattle.tb_token.specs.tokens.Kinds.{is_number}
use Rattle.tb_token.specs.grammar.Terminals.{keyword, sign, number, string}
use Rattle.tb_token.specs.grammar.Patterns.{cmp, literal, conds}
use Rattle.tb_token.specs.grammar.Queries.{rules}
use Rattle.tb_pattern.specs.Faults.{is_none, literal_in}
use Rattle.tb_token.specs.tokens.TerminalNames.{is_sign}
use Rattle.tb_token.specs.tokens.TerminalNames as terminals
use Rattle.tb_pattern.specs.Value.{bytes_in, inside, op_of, literal_of, conds_from, more_conds_of, conds_of}
use Rattle.tb_pattern.specs.Building.{next, Next, begins, Come, IsBuilt, Builds, BuildsApart}
use Rattle.tb_pattern.specs.BuiltParts.{number_or_zero, one_cond, IsLiteral, IsCond, AreConds}
use Rattle.tb_pattern.specs.declared.cond.Cond.{Cond}
use Rattle.tb_pattern.specs.declared.cond.Literal.{Literal}
use Rattle.tb_pattern.specs.declared.cond.Literal.TheVariants as a
use Rattle.tb_pattern.proofs.LiteralLaws.{literal-number}
use Rattle.tb_pattern.proofs.BuildingLaws.{some-none, false-true, numbers-next, come-next, come-as, wrong-terminal, one-builds, Both, both-builds, builds-as, First, first-builds, put_in-builds, left_out-builds}
use Rattle.tb_pattern.proofs.RunLaws.{ListSoFar, list-start, behind-next, behind-end}

-- A number is the one that its tree stands for, since it is within the range.

in-range : (z n : ℤ) → within_range z ≡ Some n → n ≡ z
in-range z n e = by (is_in_range z) e
  where
    by : (is : Bool) → cond is (Some z) None ≡ Some n → n ≡ z
    by true f = let g : ◌≡◌ {A = Option ℤ} (Some z) (Some n) = f in cc
    by false f = absurd (let g : ◌≡◌ {A = Option ℤ} None (Some n) = f in cc)

number-same : (minus : Bool) (digits : List ℕ) → is_number digits ≡ true → is_none (literal_in minus digits) ≡ false
    → a.Number (signed minus (number_of digits)) ≡ number_or_zero minus digits
number-same minus digits is some = by (literal_in minus digits) refl some
  where
    by : (o : Option ℤ) → literal_in minus digits ≡ o → is_none o ≡ false → a.Number (signed minus (number_of digits)) ≡ a.Number (unwrap_or o (pos 0))
    by None e f = none-true true f refl
    by (Some n) e f =
        let same = in-range (signed minus (number_of digits)) n (sym (literal-number minus digits is) ∙ e) in
        ap (λ z. a.Number z) (sym same)

-- whatever the tree of the sign
abbrev IsNumber : Bool → List Tok → Tree → Type 0
IsNumber minus s v = a.Number (signed minus (number_of (bytes_in v))) ≡ number_or_zero minus (bytes_in (next s))

number-built : (minus : Bool) (s : List Tok) (ps : List Expression) → Come minus (number ∷ ps) s → IsBuilt number (IsNumber minus s) ps s (drop 1 s)
number-built minus [] ps come = some-none come.parts
number-built minus (t ∷ u) ps come = by (has (terminals.NUMBER ∷ []) t.terminal) refl
  where
    by : (is : Bool) → has (terminals.NUMBER ∷ []) t.terminal ≡ is → IsBuilt number (IsNumber minus (t ∷ u)) ps (t ∷ u) u
    by true h =
        let terminal = has-only terminals.NUMBER t.terminal h in
        let fits : is_none (literal_in minus t.bytes) ≡ false = rw terminal at (numbers-next minus t u come.numbers).0 in
        record {
          minus = is_sign (codes "-") t.terminal;
          behind = come-next minus (number ∷ ps) ps t u come (read-one rules (terminals.NUMBER ∷ []) t u ps h);
          tree = leaf t;
          is = number-same minus t.bytes (come.digits.0 terminal) fits;
          derived = λ vs d. by_one h d;
        }
    by false h = wrong-terminal (terminals.NUMBER ∷ []) t u ps h come.parts

-- Literals.

abbrev quote_terminal : List ℕ
quote_terminal = terminals.QUOTED ∷ []

abbrev minus_terminal : List ℕ
minus_terminal = terminals.MINUS ∷ []

abbrev signed_part : Expression
signed_part = both (maybe (sign (codes "-"))) number

abbrev and_terminal : List ℕ
and_terminal = terminals.AND ∷ []

pub literal-text : (s : List Tok) → begins quote_terminal s ≡ true → Builds literal (IsLiteral (a.Text (inside (bytes_in (next s))))) s (drop 1 s)
literal-text s e =
    builds-as literal (First (Next s)) (IsLiteral (a.Text (inside (bytes_in (next s))))) s (drop 1 s)
    (λ v f. ap literal_of f.first_is ∙ ap (λ w. a.Text (inside (bytes_in w))) f.one_is)
    (first-builds string signed_part (Next s) s (drop 1 s) e (one-builds quote_terminal s))

pub literal-minus : (s : List Tok) → begins quote_terminal s ≡ false → begins minus_terminal s ≡ true
    → Builds literal (IsLiteral (number_or_zero true (bytes_in (next (drop 1 s))))) s (drop 1 (drop 1 s))
literal-minus [] e f ps minus come = false-true f
literal-minus (t ∷ u) e f ps minus come =
    let terminal = has-only terminals.MINUS t.terminal f in
    let reads = read-second rules string signed_part t u ps e ∙ read-both rules (maybe (sign (codes "-"))) number (t ∷ u) ps
    ∙ read-put_in rules (sign (codes "-")) t u (number ∷ ps) f ∙ read-one rules minus_terminal t u (number ∷ ps) f in
    let behind = come-next minus (literal ∷ ps) (number ∷ ps) t u come reads in
    let signed_come : Come true (number ∷ ps) u = rw terminal at behind in
    let b = number-built true u ps signed_come in
    record {
      minus = b.minus;
      behind = b.behind;
      tree = second (pair (leaf t) b.tree);
      is = b.is;
      derived = λ vs d. by_second (by_both (put_in (by_one f (b.derived vs d))));
    }

pub literal-plain : (s : List Tok) → begins quote_terminal s ≡ false → begins minus_terminal s ≡ false
    → BuildsApart literal (IsLiteral (number_or_zero false (bytes_in (next s)))) s (drop 1 s)
literal-plain [] e f ps come = some-none come.parts
literal-plain (t ∷ u) e f ps come =
    let reads = read-second rules string signed_part t u ps e ∙ read-both rules (maybe (sign (codes "-"))) number (t ∷ u) ps
    ∙ read-left_out rules (sign (codes "-")) t u (number ∷ ps) f in
    let b = number-built false (t ∷ u) ps (come-as false (literal ∷ ps) (number ∷ ps) (t ∷ u) reads come) in
    record {
      minus = b.minus;
      behind = b.behind;
      tree = second (pair nothing b.tree);
      is = b.is;
      derived = λ vs d. by_second (by_both (left_out (b.derived vs d)));
    }

-- Conditions.

-- no comparison is a `-`
pub cmp-minus : (x : ℕ) → has terminals.COMPARISONS x ≡ true → is_sign (codes "-") x ≡ false
cmp-minus x h = by (is_sign (codes "-") x) refl
  where
    by : (is : Bool) → is_sign (codes "-") x ≡ is → is ≡ false
    by true e =
        let same = eqb-true x terminals.MINUS e in
        let none : has terminals.COMPARISONS terminals.MINUS ≡ true = rw same at h in
        false-true none
    by false e = refl

pub cond-builds : (s left : List Tok) (with : Literal) → BuildsApart literal (IsLiteral with) (drop 1 s) left
    → Builds one_cond (IsCond (record { op = op_of (next s); with = with })) s left
cond-builds [] left with is ps minus come = some-none come.parts
cond-builds (t ∷ u) left with is ps minus come = by (has terminals.COMPARISONS t.terminal) refl
  where
    by : (here : Bool) → has terminals.COMPARISONS t.terminal ≡ here → IsBuilt one_cond (IsCond (record { op = op_of (leaf t); with = with })) ps (t ∷ u) left
    by true h =
        let reads = read-both rules cmp literal (t ∷ u) ps ∙ read-one rules terminals.COMPARISONS t u (literal ∷ ps) h in
        let behind = come-next minus (one_cond ∷ ps) (literal ∷ ps) t u come reads in
        let apart : Come false (literal ∷ ps) u = rw (cmp-minus t.terminal h) at behind in
        let b = is ps apart in
        record {
          minus = b.minus;
          behind = b.behind;
          tree = pair (leaf t) b.tree;
          is = λ others. ap (λ w. record { op = op_of (leaf t); with = w } ∷ others) b.is;
          derived = λ vs d. by_both (by_one h (b.derived vs d));
        }
    by false h = wrong-terminal terminals.COMPARISONS t u (literal ∷ ps) h (sym (read-both rules cmp literal (t ∷ u) ps) ∙ come.parts)

abbrev other_cond : Expression
other_cond = both (keyword (codes "AND")) one_cond

-- so much of the list behind the first token is built: a condition, and others behind it
pub record CondsSoFar (found : List Cond) (s left : List Tok) : Type 0 where
  pub first : Cond
  pub mid : List Tok
  pub one : Builds one_cond (IsCond first) (drop 1 s) mid
  pub others : ListSoFar other_cond more_conds_of (first ∷ []) found mid left
  pub shorter : length left ≤ length s

pub conds-first : (c : Cond) (s left : List Tok) → Builds one_cond (IsCond c) (drop 1 s) left → length left ≤ length (drop 1 s) → CondsSoFar (c ∷ []) s left
conds-first c s left is shorter =
    record { first = c; mid = left; one = is; others = list-start other_cond more_conds_of (c ∷ []) left; shorter = omega (arith, length-drop 1 s) }

pub conds-next : (found : List Cond) (c : Cond) (s mid left : List Tok) → begins and_terminal mid ≡ true → CondsSoFar found s mid → Builds one_cond (IsCond c) (drop 1 mid) left
    → length left ≤ length (drop 1 mid) → CondsSoFar (found ++ c ∷ []) s left
conds-next found c s mid left e so_far is shorter = record {
  first = so_far.first;
  mid = so_far.mid;
  one = so_far.one;
  others = behind-next one_cond conds_from more_conds_of and_terminal (so_far.first ∷ []) found c so_far.mid mid left (λ keyword v w. refl) e so_far.others is shorter;
  shorter = let before = so_far.shorter in omega (arith, length-drop 1 mid);
}

abbrev opening : List ℕ
opening = terminals.OPEN_CONDS ∷ []

abbrev closing : List ℕ
closing = terminals.CLOSE_CONDS ∷ []

abbrev inner : Expression
inner = both one_cond (many other_cond)

pub conds-end : (found : List Cond) (s left : List Tok) → begins opening s ≡ true → begins and_terminal left ≡ false → CondsSoFar found s left
    → Builds (maybe conds) (AreConds found) s (drop 1 left)
conds-end found s left e f so_far =
    let Listed : Tree → Type 0 = Both (IsCond so_far.first) (λ v. so_far.first ∷ more_conds_of v ≡ found) in
    put_in-builds conds (AreConds found) s (drop 1 left) e
    (builds-as conds (Both (Next s) (Both Listed (Next left))) (AreConds found) s (drop 1 left)
    (λ v b.
    let l = b.two_is.one_is in
    ap conds_of b.pair_is ∙ ap (λ w. conds_of (pair b.one w)) b.two_is.pair_is ∙ ap (λ w. conds_of (pair b.one (pair w b.two_is.two))) l.pair_is
    ∙ l.one_is (more_conds_of l.two) ∙ l.two_is)
    (both-builds (sign (codes "[")) (both inner (sign (codes "]"))) (Next s) (Both Listed (Next left)) s (drop 1 s) (drop 1 left) (one-builds opening s)
    (both-builds inner (sign (codes "]")) Listed (Next left) (drop 1 s) left (drop 1 left)
    (behind-end one_cond conds_from more_conds_of and_terminal so_far.first found (drop 1 s) so_far.mid left refl f so_far.one so_far.others) (one-builds closing left))))

pub conds-none : (s : List Tok) → begins opening s ≡ false → Builds (maybe conds) (AreConds []) s s
conds-none s e = builds-as (maybe conds) (λ v. v ≡ nothing) (AreConds []) s s (λ v f. ap conds_of f) (left_out-builds conds s e)
