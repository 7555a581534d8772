-- The least and the greatest number are those that are kept one value after the other.
use Rattle.std.proofs.Common.{◌≡◌, ℕ, suc, ◌+◌, ◌<◌, ◌≤◌, Bool, true, false, List, [], ◌∷◌, ◌++◌, length, drop, get_or, Option, Some, None, ℤ, refl, sym, ap, ◌∙◌, Equal, add-one, drop-cons, append-nil}
use Rattle.std.specs.Prelude.{int_lt}
use Rattle.std.specs.List.{fold}
use Rattle.std.specs.Int.{int_min, int_max}
use Rattle.std.specs.Ordering.{int_cmp}
use Rattle.std.specs.Option.{option_map}
use Rattle.tb_number.specs.Canonical.{canonical_text}
use Rattle.tb_number.specs.Reading.{integer_of}
use Rattle.tb_number.specs.declared.op.CmpOp.{CmpOp}
use Rattle.tb_number.specs.declared.op.CmpOp.TheVariants.{Lt, Gt}
use Rattle.tb_number.proofs.CanonicalLaws.{integer_of-canonical_text}
use Rattle.tb_number.proofs.ValueLaws.{int_cmp-Equal}
use Rattle.tb_query.specs.Operands.{numbers_of, least, greatest}
use Rattle.std.proofs.lemmas.List.{drop_all}
use Rattle.tb_tree.specs.Documents.{Docs}
use Rattle.tb_tree.specs.Rows.{values_of}
use Rattle.tb_tree.specs.Value.{value_of}
use Rattle.tb_table.specs.declared.node_ref.NodeRef.{NodeRef}
use Rattle.tb_table.specs.declared.cell.Cell.TheVariants.{Nodes}
use Rattle.tb_table.specs.Seen.{cell_seen, node_seen}
use Rattle.tb_group.specs.Told.{text_behind}
use Rattle.tb_group.specs.Extremes.{beats, kept_with, best_of, kept_text, Keeps}

-- what is written of the number that is kept reads back
no-number : integer_of [] ≡ None
unfolding integer_of
no-number = refl

pub kept_text-read : (kept : Option ℤ) → integer_of (kept_text kept) ≡ kept
kept_text-read None = no-number
kept_text-read (Some n) = integer_of-canonical_text n

-- it has a byte just where there is one
pub kept_text-behind : (kept : Option ℤ) → text_behind (kept_text kept) ≡ option_map canonical_text kept
kept_text-behind None = refl
kept_text-behind (Some n) = some-text (canonical_text n) n (integer_of-canonical_text n)
  where
    some-text : (text : List ℕ) (m : ℤ) → integer_of text ≡ Some m → text_behind text ≡ Some text
    some-text [] m is = absurd (let d : ◌≡◌ {A = Option ℤ} None (Some m) = sym no-number ∙ is in cc)
    some-text (b ∷ bs) m is = refl

-- whether a number is to be kept, by what is written
pub beats-written : (op : CmpOp) (kept : Option ℤ) (written : List ℕ) (read : Option ℤ) (n : ℤ) (b : Bool) → written ≡ kept_text kept → read ≡ integer_of written → b ≡ beats op read n → b ≡ beats op kept n
beats-written op kept written read n b is read_is by =
    by ∙ ap (λ o. beats op o n) (read_is ∙ ap integer_of is ∙ kept_text-read kept)

-- the first value, and then the others
one-more : (op : CmpOp) (kept : Option ℤ) (o : Option ℤ) (v : List ℕ) (vs : List (List ℕ)) → integer_of v ≡ o
    → fold (kept_with op) (fold (kept_with op) kept (numbers_of (v ∷ []))) (numbers_of vs) ≡ fold (kept_with op) kept (numbers_of (v ∷ vs))
one-more op kept None v vs is = rw is refl
one-more op kept (Some n) v vs is = rw is refl

pub keeps-then : (op : CmpOp) (first : ℕ) (v : List ℕ) (vs : List (List ℕ)) (old mid new : List ℕ) → Keeps op first (v ∷ []) old mid → Keeps op first vs mid new → Keeps op first (v ∷ vs) old new
keeps-then op first v vs old mid new one others before kept long is =
    others before _ long (one before kept long is) ∙ ap (λ k. before ++ kept_text k) (one-more op kept (integer_of v) v vs refl)

pub keeps-none : (op : CmpOp) (first : ℕ) (old : List ℕ) → Keeps op first [] old old
keeps-none op first old before kept long is = is

-- a value without a number
pub keeps-other : (op : CmpOp) (first : ℕ) (v : List ℕ) (old : List ℕ) → None ≡ integer_of v → Keeps op first (v ∷ []) old old
keeps-other op first v old none before kept long is = rw (← none) is

pub keeps-number : (op : CmpOp) (first : ℕ) (v : List ℕ) (n : ℤ) (old new : List ℕ) → Some n ≡ integer_of v
    → ((before : List ℕ) (kept : Option ℤ) → length before ≡ first → old ≡ before ++ kept_text kept → new ≡ before ++ kept_text (kept_with op kept n))
    → Keeps op first (v ∷ []) old new
keeps-number op first v n old new is by before kept long at = rw (← is) (by before kept long at)

-- the better of two is the less, or the greater

least-step : (m n : ℤ) (b c : Bool) → int_lt n m ≡ b → int_lt m n ≡ c → kept_with Lt (Some m) n ≡ Some (int_min m n)
least-step m n true c p q = rw p refl
least-step m n false true p q = rw (p, q) refl
least-step m n false false p q = rw (p, q) refl

greatest-step : (m n : ℤ) (b c : Bool) → int_lt n m ≡ b → int_lt m n ≡ c → kept_with Gt (Some m) n ≡ Some (int_max m n)
greatest-step m n true c p q = rw p refl
greatest-step m n false true p q = rw (p, q) refl
greatest-step m n false false p q =
    let tied : int_cmp m n ≡ Equal = rw (p, q) refl in
    let same = int_cmp-Equal m n tied in
    rw (p, q) (ap Some same)

least-from : (m : ℤ) (ns : List ℤ) → fold (kept_with Lt) (Some m) ns ≡ Some (fold int_min m ns)
least-from m [] = refl
least-from m (n ∷ ns) = ap (λ k. fold (kept_with Lt) k ns) (least-step m n (int_lt n m) (int_lt m n) refl refl) ∙ least-from (int_min m n) ns

greatest-from : (m : ℤ) (ns : List ℤ) → fold (kept_with Gt) (Some m) ns ≡ Some (fold int_max m ns)
greatest-from m [] = refl
greatest-from m (n ∷ ns) = ap (λ k. fold (kept_with Gt) k ns) (greatest-step m n (int_lt n m) (int_lt m n) refl refl) ∙ greatest-from (int_max m n) ns

pub best-least : (ns : List ℤ) → best_of Lt ns ≡ least ns
best-least [] = refl
best-least (n ∷ ns) = least-from n ns

pub best-greatest : (ns : List ℤ) → best_of Gt ns ≡ greatest ns
best-greatest [] = refl
best-greatest (n ∷ ns) = greatest-from n ns

-- one node more
pub keeps-node : (docs : Docs) (op : CmpOp) (first : ℕ) (us : List NodeRef) (i : ℕ) (d : NodeRef) (old mid new : List ℕ) → i < length us
    → Keeps op first (value_of (node_seen docs (get_or us i d)).at.node ∷ []) old mid
    → Keeps op first (values_of (cell_seen docs (Nodes (drop (i + 1) us)))) mid new
    → Keeps op first (values_of (cell_seen docs (Nodes (drop i us)))) old new
keeps-node docs op first us i d old mid new lt one others =
    rw (drop-cons us i d lt) (keeps-then op first (value_of (node_seen docs (get_or us i d)).at.node) (values_of (cell_seen docs (Nodes (drop (suc i) us)))) old mid new one (rw (← add-one) others))

-- and where none is left
pub keeps-end : (docs : Docs) (op : CmpOp) (first : ℕ) (us : List NodeRef) (i : ℕ) (old : List ℕ) → length us ≤ i → Keeps op first (values_of (cell_seen docs (Nodes (drop i us)))) old old
keeps-end docs op first us i old le = rw (drop_all i us le) (keeps-none op first old)

-- of bytes before which nothing was kept
pub keeps-all : (op : CmpOp) (values : List (List ℕ)) (old new : List ℕ) → Keeps op (length old) values old new → new ≡ old ++ kept_text (best_of op (numbers_of values))
keeps-all op values old new keeps = keeps old None refl (sym (append-nil old))
