-- The lines of printed nodes: what each of them says, in order.
use Rattle.std.proofs.Common.{◌≡◌, ℕ, true, not, ◌==◌, List, [], ◌∷◌, ◌++◌, filter, codes, refl, ap, ◌∙◌, append_assoc}
use Rattle.std.specs.List.{list_all}
use Rattle.std.proofs.lemmas.Bool.{and_parts, and_from}
use Rattle.std.proofs.lemmas.List.Folds.{list_all-append}
use Rattle.tb_tree.specs.Plain.{elem, attr, text, Plains, no_kids, kid}
use Rattle.tb_tree.specs.Names.{is_name_byte, is_name}
use Rattle.tb_tree.specs.Sound.{attribute_names, are_different, attributes_first, texts_apart, is_sound, are_sound}
use Rattle.tb_tree.specs.Printed.{escaped, start_line, end_line, attribute_line, data_line, attribute_lines, content_lines}
use Rattle.tb_esis.specs.Lines.{Line, opens, closes, attribute, characters, before_space, behind_space, line_of, is_kept, document_lines}
use Rattle.tb_tree.proofs.LineLaws.{lines-behind}
use Rattle.tb_tree.proofs.PrintedBytes.{is_inner, escaped-inner, name_bytes-inner, name_byte-space}

-- the lines of a document but for those that are passed over
abbrev pub kept_lines : List ℕ → List Line
kept_lines bytes = filter is_kept (document_lines bytes)

-- what the attributes say, and behind it more
abbrev pub attributes_said : Plains → List Line → List Line
attributes_said no_kids more = more
attributes_said (kid (elem name kids) rest) more = attributes_said rest more
attributes_said (kid (attr name value) rest) more = attribute name (codes "CDATA") (escaped value) ∷ attributes_said rest more
attributes_said (kid (text value) rest) more = attributes_said rest more

-- what the kids but for the attributes say, and behind it more
abbrev pub content_said : Plains → List Line → List Line
content_said no_kids more = more
content_said (kid (elem name kids) rest) more =
    attributes_said kids (opens name ∷ content_said kids (closes name ∷ content_said rest more))
content_said (kid (attr name value) rest) more = content_said rest more
content_said (kid (text value) rest) more = characters (escaped value) ∷ content_said rest more

-- what it takes for an element to be sound
pub record SoundElement (name : List ℕ) (kids : Plains) : Type 0 where
  pub named : is_name name ≡ true
  pub first : attributes_first kids ≡ true
  pub different : are_different (attribute_names kids) ≡ true
  pub apart : texts_apart kids ≡ true
  pub sound : are_sound kids ≡ true

pub element_parts : (name : List ℕ) (kids : Plains) → is_sound (elem name kids) ≡ true → SoundElement name kids
element_parts name kids e =
    let a = and_parts _ (are_sound kids) e in
    let b = and_parts _ (texts_apart kids) a.0 in
    let c = and_parts _ (are_different (attribute_names kids)) b.0 in
    let d = and_parts (is_name name) (attributes_first kids) c.0 in
    record { named = d.0; first = d.1; different = c.1; apart = b.1; sound = a.1 }

kept_lines-line : (bytes line : List ℕ) (said : Line) (rest : List ℕ) → bytes ≡ line ++ 10 ∷ rest → list_all is_inner line ≡ true → line_of line ≡ said → is_kept said ≡ true
    → kept_lines bytes ≡ said ∷ kept_lines rest
kept_lines-line bytes line said rest is all says kept = rw (is, lines-behind line rest all, says, kept) refl

-- names have no line end and no space
pub name-all : (name : List ℕ) → is_name name ≡ true → list_all is_name_byte name ≡ true
name-all [] e = refl
name-all (b ∷ name) e = e

name-inner : (name : List ℕ) → is_name name ≡ true → list_all is_inner name ≡ true
name-inner name e = name_bytes-inner name (name-all name e)

before_space-name : (name rest : List ℕ) → list_all is_name_byte name ≡ true → before_space (name ++ 32 ∷ rest) ≡ name
before_space-name [] rest all = refl
before_space-name (b ∷ name) rest all =
    let parts = and_parts (is_name_byte b) (list_all is_name_byte name) all in
    rw (name_byte-space b parts.0, before_space-name name rest parts.1) refl

behind_space-name : (name rest : List ℕ) → list_all is_name_byte name ≡ true → behind_space (name ++ 32 ∷ rest) ≡ rest
behind_space-name [] rest all = refl
behind_space-name (b ∷ name) rest all =
    let parts = and_parts (is_name_byte b) (list_all is_name_byte name) all in
    rw (name_byte-space b parts.0) (behind_space-name name rest parts.1)

-- each kind of line
kept_lines-start : (name rest : List ℕ) → is_name name ≡ true → kept_lines (start_line name ++ rest) ≡ opens name ∷ kept_lines rest
kept_lines-start name rest named =
    kept_lines-line (start_line name ++ rest) (40 ∷ name) (opens name) rest (ap (λ l. 40 ∷ l) (append_assoc name (10 ∷ []) rest)) (name-inner name named) refl refl

kept_lines-end : (name rest : List ℕ) → is_name name ≡ true → kept_lines (end_line name ++ rest) ≡ closes name ∷ kept_lines rest
kept_lines-end name rest named =
    kept_lines-line (end_line name ++ rest) (41 ∷ name) (closes name) rest (ap (λ l. 41 ∷ l) (append_assoc name (10 ∷ []) rest)) (name-inner name named) refl refl

kept_lines-data : (value rest : List ℕ) → kept_lines (data_line value ++ rest) ≡ characters (escaped value) ∷ kept_lines rest
kept_lines-data value rest =
    kept_lines-line (data_line value ++ rest) (45 ∷ escaped value) (characters (escaped value)) rest (ap (λ l. 45 ∷ l) (append_assoc (escaped value) (10 ∷ []) rest)) (escaped-inner value) refl refl

attribute_said : (name value : List ℕ) → is_name name ≡ true → line_of (65 ∷ (name ++ (codes " CDATA " ++ escaped value))) ≡ attribute name (codes "CDATA") (escaped value)
attribute_said name value named =
    let all = name-all name named in
    let rest = codes "CDATA " ++ escaped value in
    rw (before_space-name name rest all, behind_space-name name rest all) refl

kept_lines-attribute : (name value rest : List ℕ) → is_name name ≡ true → kept_lines (attribute_line name value ++ rest) ≡ attribute name (codes "CDATA") (escaped value) ∷ kept_lines rest
kept_lines-attribute name value rest named =
    let line = name ++ (codes " CDATA " ++ escaped value) in
    let whole : attribute_line name value ++ rest ≡ (65 ∷ line) ++ 10 ∷ rest =
    ap (λ l. 65 ∷ ((l ++ 10 ∷ []) ++ rest)) (append_assoc name (codes " CDATA ") (escaped value)) ∙ ap (λ l. 65 ∷ l) (append_assoc line (10 ∷ []) rest) in
    let inner : list_all is_inner line ≡ true = list_all-append is_inner name (codes " CDATA " ++ escaped value) ∙ and_from _ _ (name-inner name named) (escaped-inner value) in
    kept_lines-line (attribute_line name value ++ rest) (65 ∷ line) (attribute name (codes "CDATA") (escaped value)) rest whole inner (attribute_said name value named) refl

-- the attributes of an element
kept_lines-attributes : (kids : Plains) (rest : List ℕ) → are_sound kids ≡ true → kept_lines (attribute_lines kids ++ rest) ≡ attributes_said kids (kept_lines rest)
kept_lines-attributes no_kids rest sound = refl
kept_lines-attributes (kid (elem name ks) kids) rest sound = kept_lines-attributes kids rest (and_parts (is_sound (elem name ks)) (are_sound kids) sound).1
kept_lines-attributes (kid (attr name value) kids) rest sound =
    let parts = and_parts (is_name name) (are_sound kids) sound in
    ap kept_lines (append_assoc (attribute_line name value) (attribute_lines kids) rest)
    ∙ kept_lines-attribute name value (attribute_lines kids ++ rest) parts.0
    ∙ ap (λ lines. attribute name (codes "CDATA") (escaped value) ∷ lines) (kept_lines-attributes kids rest parts.1)
kept_lines-attributes (kid (text value) kids) rest sound = kept_lines-attributes kids rest (and_parts (is_sound (text value)) (are_sound kids) sound).1

-- an element in four parts, and what follows it
regrouped : (a b c d e f : List ℕ) → ((((a ++ b) ++ c) ++ d) ++ e) ++ f ≡ a ++ (b ++ (c ++ (d ++ (e ++ f))))
regrouped a b c d e f =
    append_assoc (((a ++ b) ++ c) ++ d) e f ∙ append_assoc ((a ++ b) ++ c) d (e ++ f) ∙ append_assoc (a ++ b) c (d ++ (e ++ f)) ∙ append_assoc a b (c ++ (d ++ (e ++ f)))

-- The lines of sound kids say just this.
pub kept_lines-content : (kids : Plains) (rest : List ℕ) → are_sound kids ≡ true → kept_lines (content_lines kids ++ rest) ≡ content_said kids (kept_lines rest)
kept_lines-content no_kids rest sound = refl
kept_lines-content (kid (elem name ks) kids) rest sound =
    let parts = and_parts (is_sound (elem name ks)) (are_sound kids) sound in
    let node = element_parts name ks parts.0 in
    let behind = content_lines kids ++ rest in
    let ended = end_line name ++ behind in
    let begun = start_line name ++ (content_lines ks ++ ended) in
    let end_is : kept_lines ended ≡ closes name ∷ content_said kids (kept_lines rest) =
    kept_lines-end name behind node.named ∙ ap (λ lines. closes name ∷ lines) (kept_lines-content kids rest parts.1) in
    let inner_is : kept_lines begun ≡ opens name ∷ content_said ks (closes name ∷ content_said kids (kept_lines rest)) =
    kept_lines-start name (content_lines ks ++ ended) node.named
    ∙ ap (λ lines. opens name ∷ lines) (kept_lines-content ks ended node.sound ∙ ap (content_said ks) end_is) in
    ap kept_lines (regrouped (attribute_lines ks) (start_line name) (content_lines ks) (end_line name) (content_lines kids) rest)
    ∙ kept_lines-attributes ks begun node.sound ∙ ap (attributes_said ks) inner_is
kept_lines-content (kid (attr name value) kids) rest sound = kept_lines-content kids rest (and_parts (is_name name) (are_sound kids) sound).1
kept_lines-content (kid (text value) kids) rest sound =
    ap kept_lines (append_assoc (data_line value) (content_lines kids) rest) ∙ kept_lines-data value (content_lines kids ++ rest)
    ∙ ap (λ lines. characters (escaped value) ∷ lines) (kept_lines-content kids rest (and_parts (is_sound (text value)) (are_sound kids) sound).1)
