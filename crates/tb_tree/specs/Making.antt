-- A document that is being made: what of it is there, and what one step more makes of it.
use Rattle.std.specs.Prelude.{◌≡◌, ◌≢◌, ℕ, Bool, true, false, List, [], ◌∷◌, ◌++◌, map, Option, Some, None}
use Rattle.std.specs.Str.{bytes_eq}
use Rattle.tb_tree.specs.Plain.{Plain, elem, attr, text, plains}

-- an open element with its kids so far
pub record Frame : Type 0 where
  pub name : List ℕ
  pub kids : List Plain

-- the open elements, the innermost first; the bytes of the text that goes on; the attributes that
-- wait; and the root, where it has ended
pub record Made : Type 0 where
  pub frames : List Frame
  pub running : List ℕ
  pub waiting : List Plain
  pub root : Option Plain

abbrev pub nothing_made : Made
nothing_made = record { frames = []; running = []; waiting = []; root = None }

abbrev pub attribute_name : Plain → List ℕ
attribute_name (elem name kids) = []
attribute_name (attr name value) = name
attribute_name (text value) = []

-- the names of the attributes
abbrev pub names_of : List Plain → List (List ℕ)
names_of waiting = map attribute_name waiting

-- the text of these bytes, or none where there is no byte
abbrev pub text_of : List ℕ → List Plain
text_of [] = []
text_of (b ∷ bs) = text (b ∷ bs) ∷ []

-- nodes put behind the kids of the innermost element
abbrev pub put : List Plain → List Frame → List Frame
put nodes [] = []
put nodes (f ∷ fs) = record { name = f.name; kids = f.kids ++ nodes } ∷ fs

-- the root, where the element that ended is the outermost one
abbrev pub root_or : List Frame → Plain → Option Plain → Option Plain
root_or [] node root = Some node
root_or (f ∷ fs) node root = root

-- the text that went on is a node
abbrev pub with_text_ended : Made → Made
with_text_ended m = record {
  frames = put (text_of m.running) m.frames;
  running = [];
  waiting = m.waiting;
  root = m.root;
}

-- the text goes on, or begins
abbrev pub with_more_text : Made → List ℕ → Made
with_more_text m given = record {
  frames = m.frames;
  running = m.running ++ given;
  waiting = m.waiting;
  root = m.root;
}

-- an element begins, with the attributes that waited
abbrev pub with_element : Made → List ℕ → Made
with_element m name = record {
  frames = record { name = name; kids = m.waiting } ∷ put (text_of m.running) m.frames;
  running = [];
  waiting = [];
  root = m.root;
}

-- the innermost element of these ends
abbrev pub with_frames_ended : Made → List Frame → Made
with_frames_ended m [] =
    record { frames = []; running = m.running; waiting = m.waiting; root = m.root }
with_frames_ended m (f ∷ fs) = record {
  frames = put (elem f.name (plains f.kids) ∷ []) fs;
  running = m.running;
  waiting = m.waiting;
  root = root_or fs (elem f.name (plains f.kids)) m.root;
}

abbrev pub with_element_ended : Made → Made
with_element_ended m = with_frames_ended m m.frames

-- one attribute more waits
abbrev pub with_attribute : Made → List ℕ → List ℕ → Made
with_attribute m name value = record {
  frames = m.frames;
  running = m.running;
  waiting = m.waiting ++ attr name value ∷ [];
  root = m.root;
}

-- an element has begun
abbrev pub has_begun : List Frame → Option Plain → Bool
has_begun [] None = false
has_begun [] (Some root) = true
has_begun (f ∷ fs) root = true

-- the innermost open element has that name
abbrev pub is_innermost : List ℕ → List Frame → Bool
is_innermost name [] = false
is_innermost name (f ∷ fs) = bytes_eq f.name name

-- the name of the innermost open element
abbrev pub innermost_name : List Frame → Option (List ℕ)
innermost_name [] = None
innermost_name (f ∷ fs) = Some f.name

-- the innermost element's name, where its end tag stands first, and what follows; or none where another
-- line does
abbrev pub NextEnd : List Frame → List ℕ → Option (List ℕ × List ℕ) → Type 0
NextEnd frames bytes (Some found) =
    (innermost_name frames ≡ Some found.0) × (bytes ≡ 41 ∷ (found.0 ++ 10 ∷ found.1))
NextEnd frames bytes None =
    (name rest : List ℕ) → innermost_name frames ≡ Some name → bytes ≢ 41 ∷ (name ++ 10 ∷ rest)
