-- What the reader makes of each line. Words of private clauses: no public one cites them.
use Rattle.std.specs.Prelude.{ℕ, if◌then◌else◌, List, [], ◌∷◌, map, Option, Some, None}
use Rattle.tb_tree.specs.Escapes.{unescaped}
use Rattle.tb_tree.specs.Making.{Made, names_of, with_text_ended, with_more_text, with_element, with_element_ended, with_attribute, has_begun}
use Rattle.tb_esis.specs.Lines.{Line, opens, closes, attribute, characters, is_implied}
use Rattle.tb_esis.specs.Faults.{Open}

-- what data or a value gives, or no byte where its escapes are wrong
abbrev pub given_or_none : Option (List ℕ) → List ℕ
given_or_none None = []
given_or_none (Some given) = given

-- one line more
abbrev pub made_behind : Made → Line → Made
made_behind m (opens name) = with_element m name
made_behind m (closes name) = with_element_ended (with_text_ended m)
made_behind m (attribute name type raw) =
    if is_implied type then m
    else with_attribute m name (given_or_none (unescaped raw))
made_behind m (characters raw) = with_more_text m (given_or_none (unescaped raw))
made_behind m _ = m

-- what is made of all lines
abbrev pub made_of : Made → List Line → Made
made_of m [] = m
made_of m (line ∷ lines) = made_of (made_behind m line) lines

-- what it leaves open
abbrev pub open_of : Made → Open
open_of m = record {
  elements = map (λ f. f.name) m.frames;
  waiting = names_of m.waiting;
  begun = has_begun m.frames m.root;
}
