-- What is printed and read again is the same document. So documents that print the same bytes are the same.
use Rattle.std.proofs.Common.{◌≡◌, ℕ, ◌-◌, ◌≤◌, true, false, not, IsTrue, List, [], ◌∷◌, ◌++◌, None, refl, sym, ap, ◌∙◌, subst, arith, append-nil}
use Rattle.std.specs.List.{list_any}
use Rattle.std.specs.Str.{bytes_eq}
use Rattle.std.proofs.lemmas.Bool.{and_parts, and_from, not-true, not_from_false, or_parts, or_from, false≢true}
use Rattle.std.proofs.lemmas.List.Folds.{list_any-append}
use Rattle.tb_tree.specs.Plain.{Plain, elem, attr, text, Plains, no_kids, kid, one, is_element}
use Rattle.tb_tree.specs.Names.{is_name}
use Rattle.tb_tree.specs.Sound.{is_empty_list, attribute_names, are_different, has_no_attribute, attributes_first, begins_with_text, texts_apart, is_sound, are_sound, IsSound}
use Rattle.tb_tree.specs.Levels.{levels}
use Rattle.tb_tree.specs.Printed.{escaped, printed_node, content_lines}
use Rattle.tb_esis.specs.Lines.{Line, opens, closes, characters}
use Rattle.tb_esis.specs.Reading.{with_text, Attributes, no_more, next, Kids, over, goes_on, child, ended, IsReadAs}
use Rattle.tb_esis.specs.Faults.{fault_of}
use Rattle.tb_esis.proofs.CompleteLaws.{read-clean, read-unique}
use Rattle.tb_esis.proofs.ReadLaws.{are_new, bytes_eq-swap}
use Rattle.tb_tree.proofs.PrintedBytes.{unescaped-escaped}
use Rattle.tb_esis.proofs.PrintedLines.{kept_lines, attributes_said, content_said, element_parts, kept_lines-content}

-- the kids but for the attributes
abbrev content : Plains → Plains
content no_kids = no_kids
content (kid (elem name kids) rest) = kid (elem name kids) (content rest)
content (kid (attr name value) rest) = content rest
content (kid (text value) rest) = kid (text value) (content rest)

content-bare : (kids : Plains) → has_no_attribute kids ≡ true → content kids ≡ kids
content-bare no_kids e = refl
content-bare (kid (elem name ks) kids) e = ap (kid (elem name ks)) (content-bare kids e)
content-bare (kid (attr name value) kids) e = absurd (false≢true e)
content-bare (kid (text value) kids) e = ap (kid (text value)) (content-bare kids e)

attributes_said-bare : (kids : Plains) (more : List Line) → has_no_attribute kids ≡ true → attributes_said kids more ≡ more
attributes_said-bare no_kids more e = refl
attributes_said-bare (kid (elem name ks) kids) more e = attributes_said-bare kids more e
attributes_said-bare (kid (attr name value) kids) more e = absurd (false≢true e)
attributes_said-bare (kid (text value) kids) more e = attributes_said-bare kids more e

-- texts are apart also where the attributes before them are left out
content-apart : (kids : Plains) → attributes_first kids ≡ true → texts_apart kids ≡ true → texts_apart (content kids) ≡ true
content-apart no_kids first apart = refl
content-apart (kid (elem name ks) kids) first apart = rw (content-bare kids first) apart
content-apart (kid (attr name value) kids) first apart = content-apart kids first apart
content-apart (kid (text value) kids) first apart = rw (content-bare kids first) apart

-- names that differ from those before, and from one more
are_new-grown : (before : List (List ℕ)) (last : List ℕ) (names : List (List ℕ)) → are_new before names ≡ true → list_any (bytes_eq last) names ≡ false
    → are_new (before ++ last ∷ []) names ≡ true
are_new-grown before last [] new none = refl
are_new-grown before last (name ∷ names) new none =
    let parts = and_parts (not (list_any (bytes_eq name) before)) (are_new before names) new in
    let others = or_parts (bytes_eq last name) (list_any (bytes_eq last) names) none in
    let grown : list_any (bytes_eq name) (before ++ last ∷ []) ≡ false =
    list_any-append (bytes_eq name) before (last ∷ []) ∙ or_from _ _ (not-true (list_any (bytes_eq name) before) parts.0) (or_from _ _ (bytes_eq-swap last name others.0) refl) in
    and_from _ _ (not_from_false (list_any (bytes_eq name) (before ++ last ∷ [])) grown) (are_new-grown before last names parts.1 others.1)

attributes_bare : (before : List (List ℕ)) (kids : Plains) (rest : List Line) → has_no_attribute kids ≡ true → Attributes before kids (content kids) (attributes_said kids rest) rest
attributes_bare before kids rest bare = rw (content-bare kids bare, attributes_said-bare kids rest bare) no_more

-- What attributes say is read as they are.
attributes_read : (before : List (List ℕ)) (kids : Plains) (rest : List Line) → attributes_first kids ≡ true → are_sound kids ≡ true → are_different (attribute_names kids) ≡ true
    → are_new before (attribute_names kids) ≡ true → Attributes before kids (content kids) (attributes_said kids rest) rest
attributes_read before no_kids rest first sound different new = no_more
attributes_read before (kid (elem name ks) kids) rest first sound different new = attributes_bare before (kid (elem name ks) kids) rest first
attributes_read before (kid (attr name value) kids) rest first sound different new =
    let parts = and_parts (is_name name) (are_sound kids) sound in
    let others = and_parts (not (list_any (bytes_eq name) (attribute_names kids))) (are_different (attribute_names kids)) different in
    let fresh = and_parts (not (list_any (bytes_eq name) before)) (are_new before (attribute_names kids)) new in
    next parts.0 refl refl (not-true (list_any (bytes_eq name) before) fresh.0) (unescaped-escaped value) refl
    (attributes_read (before ++ name ∷ []) kids rest first parts.1 others.1 (are_new-grown before name (attribute_names kids) fresh.1 (not-true (list_any (bytes_eq name) (attribute_names kids)) others.0)))
attributes_read before (kid (text value) kids) rest first sound different new = attributes_bare before (kid (text value) kids) rest first

-- with no name before, all names are new
are_new-none : (names : List (List ℕ)) → are_new [] names ≡ true
are_new-none [] = refl
are_new-none (name ∷ names) = are_new-none names

-- a text that isn't empty is the text of its bytes
with_text-some : (value : List ℕ) (kids : Plains) → not (is_empty_list value) ≡ true → with_text value kids ≡ kid (text value) kids
with_text-some [] kids some = absurd (false≢true some)
with_text-some (b ∷ bs) kids some = refl

-- What kids say behind a text of the bytes given is read as they are behind that text.
kids_read : (kids : Plains) (room : ℕ) (given : List ℕ) (more : List Line) → texts_apart (content kids) ≡ true → are_sound kids ≡ true → levels kids ≤ room
    → (begins_with_text (content kids) ≡ true → given ≡ []) → Kids room given (with_text given (content kids)) (content_said kids more) more
kids_read no_kids room given more apart sound low first = over refl
kids_read (kid (elem name ks) kids) room given more apart sound low first =
    let parts = and_parts (is_sound (elem name ks)) (are_sound kids) sound in
    let node = element_parts name ks parts.0 in
    let behind = content_said kids more in
    let inside = content_said ks (closes name ∷ behind) in
    child (omega (arith, low)) node.named refl
    (attributes_read [] ks (opens name ∷ inside) node.first node.sound node.different (are_new-none (attribute_names ks)))
    (kids_read ks (room - 1) [] (closes name ∷ behind) (content-apart ks node.first node.apart) node.sound (omega (arith, low)) (λ e. refl))
    (kids_read kids room [] more apart parts.1 (omega (arith, low)) (λ e. refl))
kids_read (kid (attr name value) kids) room given more apart sound low first =
    kids_read kids room given more apart (and_parts (is_name name) (are_sound kids) sound).1 low first
kids_read (kid (text value) kids) room given more apart sound low first =
    let parts = and_parts (not (is_empty_list value)) (are_sound kids) sound in
    let alone = and_parts (not (begins_with_text (content kids))) (texts_apart (content kids)) apart in
    let later = kids_read kids room value more alone.1 parts.1 low (λ e. absurd (false≢true (sym (not-true (begins_with_text (content kids)) alone.0) ∙ e))) in
    let whole : Kids room [] (kid (text value) (content kids)) (characters (escaped value) ∷ content_said kids more) more =
    goes_on (unescaped-escaped value) (subst (λ ks. Kids room value ks (content_said kids more) more) (with_text-some value (content kids) parts.0) later) in
    subst (λ g. Kids room g (with_text g (kid (text value) (content kids))) (characters (escaped value) ∷ content_said kids more) more) (sym (first refl)) whole

content-element : (tree : Plain) → IsTrue (is_element tree) → content (one tree) ≡ one tree
content-element (elem name kids) e = refl
content-element (attr name value) e = absurd (false≢true e)
content-element (text value) e = absurd (false≢true e)

content_lines-element : (tree : Plain) → IsTrue (is_element tree) → content_lines (one tree) ++ [] ≡ printed_node tree
content_lines-element (elem name kids) e = append-nil (content_lines (one (elem name kids))) ∙ append-nil (printed_node (elem name kids))
content_lines-element (attr name value) e = absurd (false≢true e)
content_lines-element (text value) e = absurd (false≢true e)

apart-one : (tree : Plain) → texts_apart (one tree) ≡ true
apart-one (elem name kids) = refl
apart-one (attr name value) = refl
apart-one (text value) = refl

-- A document that is printed is read as itself.
pub printed-read : (tree : Plain) → IsSound tree → IsTrue (is_element tree) → levels (one tree) ≤ 512 → IsReadAs (printed_node tree) tree
printed-read tree sound element low =
    let all : are_sound (one tree) ≡ true = and_from _ _ sound refl in
    let is = content-element tree element in
    let said : kept_lines (printed_node tree) ≡ content_said (one tree) [] = ap kept_lines (sym (content_lines-element tree element)) ∙ kept_lines-content (one tree) [] all in
    let read = kids_read (one tree) 512 [] [] (ap texts_apart is ∙ apart-one tree) all low (λ e. refl) in
    record {
      behind = [];
      element = element;
      spelled = subst (λ lines. Kids 512 [] (one tree) lines []) (sym said) (subst (λ ks. Kids 512 [] ks (content_said (one tree) []) []) is read);
      end = ended;
    }

-- It has no fault.
pub printed-clean : (tree : Plain) → IsSound tree → IsTrue (is_element tree) → levels (one tree) ≤ 512 → fault_of (printed_node tree) ≡ None
printed-clean tree sound element low = (read-clean (printed_node tree) tree (printed-read tree sound element low)).0

-- Documents that print the same bytes are the same.
pub printed-unique : (tree other : Plain) → IsSound tree → IsTrue (is_element tree) → levels (one tree) ≤ 512 → IsSound other → IsTrue (is_element other) → levels (one other) ≤ 512
    → printed_node tree ≡ printed_node other → tree ≡ other
printed-unique tree other sound element low other_sound other_element other_low same =
    read-unique (printed_node tree) tree other (printed-read tree sound element low)
    (subst (λ bytes. IsReadAs bytes other) (sym same) (printed-read other other_sound other_element other_low))
