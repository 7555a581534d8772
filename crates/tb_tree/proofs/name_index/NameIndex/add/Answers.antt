-- A name whose hash is new is the first with it, and another one goes among the others.
use Rattle.std.proofs.Common.{◌≡◌, ℕ, None, Some, Bool, true, false, cond, is_some, Option, sym, ap, ◌∙◌, subst, refl}
use Rattle.std.specs.Ordering.{nat_cmp}
use Rattle.std.specs.BTreeMap.{get}
use Rattle.std.proofs.lemmas.Bool.{false≢true}
use Rattle.std.specs.Str.{bytes_eq}
use Rattle.tb_tree.specs.declared.name_index.NameIndex.{NameIndex}
use Rattle.tb_tree.specs.NameTables.{IsIndex, first_in, other_in, hash_of}
use Rattle.tb_tree.proofs.TextMaps.{updated}
use Rattle.tb_tree.proofs.IndexLaws.{first-more, other-more, index-kept, other-key, on-err}
use Rattle.tb_tree.proofs.name_index.NameIndex.add.Goals as goal

pub returns-in_err-insert-clause-kept : goal.returns-in_err-insert-clause-kept
returns-in_err-insert-clause-kept c = on-err c.from_residual-in_err-insert.result (λ names i. index-kept names c.args.self.now _ i refl c.in_err-insert.ensures.err)

pub returns-in_err-insert-2-clause-kept : goal.returns-in_err-insert-2-clause-kept
returns-in_err-insert-2-clause-kept c = on-err c.from_residual-in_err-insert-2.result (λ names i. index-kept names c.args.self.now _ i c.in_err-insert-2.ensures.err refl)

some_there : (x : Option ℕ) → is_some x ≡ true → x ≡ None → ⊥
some_there x some none = false≢true (sym (ap is_some none) ∙ some)

none_there : (x : Option ℕ) → is_some x ≡ false → x ≡ None
none_there None e = refl
none_there (Some n) e = absurd (false≢true (sym e))

pub returns-then-contains_key-clause-added : goal.returns-then-contains_key-clause-added
returns-then-contains_key-clause-added c = λ names i unknown next.
    let old = c.args.self.now in
    let key = c.in_ok-name.ensures.items_if_clones_equal (λ x y e. e) in
    let some : first_in old (hash_of c.args.name.now) ≡ None → ⊥ =
    λ none. some_there (first_in old (hash_of c.args.name.now)) (ap (λ h. is_some (first_in old h)) (sym c.hash_of-hash.ensures) ∙ sym c.contains_key.ensures ∙ c.if-contains_key.true) none in
    other-more names old (record { first = old.first; others = c.insert.new.self }) c.args.name.now c.args.number i unknown next some
    (λ q. updated old.others c.insert.new.self c.in_ok-name.name.items (Some c.args.number) c.in_ok-insert.ensures.updates q
    ∙ ap (λ k. cond (bytes_eq k q) (Some c.args.number) (other_in old q)) key) refl

pub returns-clause-added : goal.returns-clause-added
returns-clause-added c = λ names i unknown next.
    let old = c.args.self.now in
    let u = c.in_ok-insert-2.ensures.updates in
    let new : NameIndex = record { first = c.insert-2.new.self; others = old.others } in
    let none : first_in old c.hash_of-hash.result ≡ None = none_there _ (sym c.contains_key.ensures ∙ c.if-contains_key.false) in
    first-more names old new c.args.name.now c.args.number i unknown next
    (ap (first_in old) (sym c.hash_of-hash.ensures) ∙ none)
    (ap (get nat_cmp c.insert-2.new.self) (sym c.hash_of-hash.ensures) ∙ u.1)
    (λ hash apart. other-key old.first c.insert-2.new.self c.hash_of-hash.result _ u hash (λ same. apart (same ∙ c.hash_of-hash.ensures))) refl
