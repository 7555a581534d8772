-- What a line leaves open is what is open in what has been made of it.
use Rattle.std.proofs.Common.{◌≡◌, ℕ, Bool, true, false, List, [], ◌∷◌, ◌++◌, map, Option, refl}
use Rattle.std.proofs.lemmas.List.{map-append}
use Rattle.tb_tree.specs.Plain.{Plain, elem, attr, plains}
use Rattle.tb_esis.specs.Lines.{Line, opens, closes, attribute, characters, conforms, passed_over, is_implied}
use Rattle.tb_esis.specs.Faults.{after_line}
use Rattle.tb_tree.specs.Making.{Frame, Made, attribute_name, put, root_or, has_begun, text_of}
use Rattle.tb_esis.specs.Machine.{made_behind, open_of}

pub names-put : (nodes : List Plain) (fs : List Frame) → map (λ (f : Frame). f.name) (put nodes fs) ≡ map (λ (f : Frame). f.name) fs
names-put nodes [] = refl
names-put nodes (f ∷ fs) = refl

pub begun-closed : (nodes : List Plain) (fs : List Frame) (node : Plain) (root : Option Plain) → has_begun (put nodes fs) (root_or fs node root) ≡ true
begun-closed nodes [] node root = refl
begun-closed nodes (f ∷ fs) node root = refl

closes_open : (m : Made) (name : List ℕ) (fs : List Frame) → m.frames ≡ fs → after_line (open_of m) (closes name) ≡ open_of (made_behind m (closes name))
closes_open m name [] e = rw e refl
closes_open m name (f ∷ fs) e =
    let node = elem f.name (plains (f.kids ++ text_of m.running)) in
    rw (e, names-put (node ∷ []) fs, begun-closed (node ∷ []) fs node m.root) refl

attribute_open : (m : Made) (name type raw : List ℕ) (implied : Bool) → is_implied type ≡ implied
    → after_line (open_of m) (attribute name type raw) ≡ open_of (made_behind m (attribute name type raw))
attribute_open m name type raw true e = rw e refl
attribute_open m name type raw false e = rw (e, map-append attribute_name m.waiting (attr name _ ∷ [])) refl

pub open-behind : (m : Made) (line : Line) → after_line (open_of m) line ≡ open_of (made_behind m line)
open-behind m (opens name) = rw (names-put (text_of m.running) m.frames) refl
open-behind m (closes name) = closes_open m name m.frames refl
open-behind m (attribute name type raw) = attribute_open m name type raw (is_implied type) refl
open-behind m (characters raw) = refl
open-behind m conforms = refl
open-behind m passed_over = refl
