-- What operators add to one row, and what can be read there of it afterwards.
use Rattle.std.proofs.Common.{◌≡◌, ℕ, ◌+◌, Bool, cond, if◌then◌else◌, List, [], ◌∷◌, ◌++◌, length, refl, sym, ap, ap₂, ◌∙◌, subst, Option, Some, None, option_map, option_and_then, append_assoc, append-nil, length-append}
use Rattle.std.proofs.lemmas.Option.{none-some, same_Some}
use Rattle.tb_tree.specs.Documents.{Docs}
use Rattle.tb_tree.specs.Rows.{Cell, Row}
use Rattle.tb_number.specs.declared.op.CmpOp.{CmpOp}
use Rattle.tb_tree.specs.declared.against.Against.{Against}
use Rattle.tb_query.specs.Operators.{stands_against, values_at}
use Rattle.tb_tlc.specs.declared.plan.Op.{Op}
use Rattle.tb_tlc.specs.declared.plan.Op.TheVariants.{Filter}
use Rattle.tb_tlc.proofs.RowLaws.{rows_after, rows-append}

-- To the row the operators add these cells, as many as w, unless what they take is past; and behind any more
-- cells what they took can be read.
pub record Takes {V : Type 0} (docs : Docs) (row : Row) (ops : List Op) (w : ℕ) (cells : List Cell) (taken : Option V) (read : Row → V) : Type 0 where
  pub wide : length cells ≡ w
  pub run : rows_after docs ops (row ∷ []) ≡ option_map (λ x. (row ++ cells) ∷ []) taken
  pub shows : (x : V) → taken ≡ Some x → (more : List Cell) → read (row ++ (cells ++ more)) ≡ x

const-map : {V W : Type 0} {Z : Type 0} (z : Z) (f : V → W) (o : Option V) → option_map (λ x. z) o ≡ option_map (λ y. z) (option_map f o)
const-map z f None = refl
const-map z f (Some x) = refl

module _ (docs : Docs) where
  pub takes-none : {V : Type 0} (row : Row) (x : V) → Takes docs row [] 0 [] (Some x) (λ r. x)
  takes-none row x = record {
    wide = refl;
    run = ap (λ r. Some (r ∷ [])) (sym (append-nil row));
    shows = λ y is more. same_Some x y is;
  }

  shown-map : {V W : Type 0} (f : V → W) (o : Option V) (seen : V) → ((x : V) → o ≡ Some x → seen ≡ x) → (y : W) → option_map f o ≡ Some y → f seen ≡ y
  shown-map f None seen shows y is = absurd (none-some y is)
  shown-map f (Some x) seen shows y is = ap f (shows x refl) ∙ same_Some (f x) y is

  pub takes-map : {V W : Type 0} (f : V → W) (row : Row) (ops : List Op) (w : ℕ) (cells : List Cell) (taken : Option V) (read : Row → V)
      → Takes docs row ops w cells taken read → Takes docs row ops w cells (option_map f taken) (λ r. f (read r))
  takes-map f row ops w cells taken read t = record {
    wide = t.wide;
    run = t.run ∙ const-map ((row ++ cells) ∷ []) f taken;
    shows = λ y is more. shown-map f taken (read (row ++ (cells ++ more))) (λ x was. t.shows x was more) y is;
  }

  -- the same by another name
  pub takes-is : {V : Type 0} (row : Row) (ops : List Op) (w : ℕ) (cells : List Cell) (taken other : Option V) (read : Row → V)
      → taken ≡ other → Takes docs row ops w cells taken read → Takes docs row ops w cells other read
  takes-is row ops w cells taken other read is t = subst (λ o. Takes docs row ops w cells o read) is t

  pub takes-read : {V : Type 0} (row : Row) (ops : List Op) (w : ℕ) (cells : List Cell) (taken : Option V) (read look : Row → V)
      → ((r : Row) → look r ≡ read r) → Takes docs row ops w cells taken read → Takes docs row ops w cells taken look
  takes-read row ops w cells taken read look same t = record {
    wide = t.wide;
    run = t.run;
    shows = λ x is more. same (row ++ (cells ++ more)) ∙ t.shows x is more;
  }

  run-both : {V W U : Type 0} (f : V → W → U) (a : Option V) (b : Option W) (then_rows : List Row → Option (List Row)) (one two : Row)
      → then_rows (one ∷ []) ≡ option_map (λ y. two ∷ []) b
      → option_and_then then_rows (option_map (λ x. one ∷ []) a) ≡ option_map (λ u. two ∷ []) (option_and_then (λ x. option_map (f x) b) a)
  run-both f None b then_rows one two next = refl
  run-both f (Some x) b then_rows one two next = next ∙ const-map (two ∷ []) (f x) b

  shown-both : {V W U : Type 0} (f : V → W → U) (a : Option V) (b : Option W) (seen : V) (also : W)
      → ((x : V) → a ≡ Some x → seen ≡ x) → ((y : W) → b ≡ Some y → also ≡ y)
      → (u : U) → option_and_then (λ x. option_map (f x) b) a ≡ Some u → f seen also ≡ u
  shown-both f None b seen also first second u is = absurd (none-some u is)
  shown-both f (Some x) None seen also first second u is = absurd (none-some u is)
  shown-both f (Some x) (Some y) seen also first second u is = ap₂ f (first x refl) (second y refl) ∙ same_Some (f x y) u is

  -- Some operators, and then others behind the cells that they added.
  pub takes-both : {V W U : Type 0} (f : V → W → U) (row : Row) (ops more : List Op) (w v : ℕ) (cells behind : List Cell) (a : Option V) (b : Option W) (read : Row → V) (look : Row → W)
      → Takes docs row ops w cells a read → Takes docs (row ++ cells) more v behind b look
      → Takes docs row (ops ++ more) (w + v) (cells ++ behind) (option_and_then (λ x. option_map (f x) b) a) (λ r. f (read r) (look r))
  takes-both f row ops more w v cells behind a b read look s t = record {
    wide = length-append cells behind ∙ ap₂ (λ m n. m + n) s.wide t.wide;
    run =
        rows-append docs ops more (row ∷ [])
        ∙ ap (option_and_then (rows_after docs more)) s.run
        ∙ run-both f a b (rows_after docs more) (row ++ cells) ((row ++ cells) ++ behind) t.run
        ∙ ap (λ r. option_map (λ u. r ∷ []) (option_and_then (λ x. option_map (f x) b) a)) (append_assoc row cells behind);
    shows = λ u is rest.
        let p : row ++ ((cells ++ behind) ++ rest) ≡ row ++ (cells ++ (behind ++ rest)) = ap (λ l. row ++ l) (append_assoc cells behind rest) in
        let q : (row ++ cells) ++ (behind ++ rest) ≡ row ++ (cells ++ (behind ++ rest)) = append_assoc row cells (behind ++ rest) in
        shown-both f a b (read (row ++ ((cells ++ behind) ++ rest))) (look (row ++ ((cells ++ behind) ++ rest)))
        (λ x was. ap read p ∙ s.shows x was (behind ++ rest)) (λ y was. ap look (p ∙ sym q) ∙ t.shows y was rest) u is;
  }

  -- A filter keeps the row with its cells where what was taken says so.
  filter-one : (row : Row) (cells : List Cell) (left : ℕ) (op : CmpOp) (right : Against) (taken : Option Bool)
      → ((held : Bool) → taken ≡ Some held → stands_against op (values_at left (row ++ cells)) right (row ++ cells) ≡ held)
      → option_and_then (rows_after docs (Filter left op right ∷ [])) (option_map (λ x. (row ++ cells) ∷ []) taken)
      ≡ option_map (λ held. if held then (row ++ cells) ∷ [] else []) taken
  filter-one row cells left op right None says = refl
  filter-one row cells left op right (Some held) says = ap (λ b. Some (cond b ((row ++ cells) ∷ []) [])) (says held refl)

  pub takes-filter : (row : Row) (ops : List Op) (w : ℕ) (cells : List Cell) (taken : Option Bool) (left : ℕ) (op : CmpOp) (right : Against)
      → Takes docs row ops w cells taken (λ r. stands_against op (values_at left r) right r)
      → rows_after docs (ops ++ Filter left op right ∷ []) (row ∷ []) ≡ option_map (λ held. if held then (row ++ cells) ∷ [] else []) taken
  takes-filter row ops w cells taken left op right t =
      rows-append docs ops (Filter left op right ∷ []) (row ∷ [])
      ∙ ap (option_and_then (rows_after docs (Filter left op right ∷ []))) t.run
      ∙ filter-one row cells left op right taken
      (λ held is. ap (λ r. stands_against op (values_at left r) right r) (ap (λ l. row ++ l) (sym (append-nil cells))) ∙ t.shows held is [])
