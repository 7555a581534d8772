-- What a draft of a document holds, for what has been made of it.
use Rattle.std.specs.Prelude.{◌≡◌, ◌↔◌, slice_index_or, IsTrue, ℕ, ◌+◌, ◌^◌, ◌<◌, ◌≤◌, Bool, true, false, ◌||◌, not, List, [], ◌∷◌, ◌++◌, map, length, Option, Some, None}
use Rattle.std.specs.List.{list_all, list_any}
use Rattle.std.specs.Str.{bytes_eq}
use Rattle.tb_tree.specs.Plain.{Plain, plains, one, is_element}
use Rattle.tb_tree.specs.Sound.{is_attribute, is_empty_list, IsSound}
use Rattle.tb_tree.specs.Levels.{levels}
use Rattle.tb_tree.specs.Printed.{printed_node, attribute_lines, start_line, content_lines}
use Rattle.tb_tree.specs.Making.{Frame, Made, put, text_of, has_begun, names_of}
use Rattle.tb_tree.specs.NameTables.{IsNumber}
use Rattle.tb_tree.specs.Extents.{Extent, element_extent, extents, named}
use Rattle.tb_tree.specs.declared.extent.Kind.TheVariants as kind
use Rattle.tb_tree.specs.declared.extent.Extent as code
use Rattle.tb_tree.specs.declared.draft.Draft.{Draft}

-- the lines of the root where it has ended, and of the elements that are open, up to where they go on
abbrev pub root_text : Option Plain → List ℕ
root_text None = []
root_text (Some root) = printed_node root

abbrev pub begun_text : Option Plain → List Frame → List ℕ
begun_text root [] = root_text root
begun_text root (f ∷ fs) =
    begun_text root fs
    ++ ((attribute_lines (plains f.kids) ++ start_line f.name) ++ content_lines (plains f.kids))

-- the extents of an open element, whose end isn't known, and of its kids
abbrev pub open_extents : ℕ → ℕ → ℕ → Frame → List Extent
open_extents at n level f =
    element_extent at 0 0 f.name level
    ∷ extents at (at + length (attribute_lines (plains f.kids) ++ start_line f.name)) (n + 1) (level + 1)
    (plains f.kids)

abbrev pub root_extents : Option Plain → List Extent
root_extents None = []
root_extents (Some root) = extents 0 0 1 1 (one root)

abbrev pub begun_extents : Option Plain → List Frame → List Extent
begun_extents root [] = root_extents root
begun_extents root (f ∷ fs) =
    begun_extents root fs
    ++ open_extents (length (begun_text root fs)) (length (begun_extents root fs) + 1) (length fs + 1) f

-- the text that goes on is a kid already
abbrev pub going : Made → List Frame
going m = put (text_of m.running) m.frames

-- the place that is kept for the element of the attributes that wait, and their extents
abbrev pub kept_extent : ℕ → ℕ → Extent
kept_extent at level = record {
  from = at;
  to = 0;
  last = 0;
  name = [];
  level = level;
  kind = kind.Text;
  escaped = false;
}

abbrev pub waiting_extents : ℕ → ℕ → ℕ → List Plain → List Extent
waiting_extents at n level [] = []
waiting_extents at n level (w ∷ ws) =
    kept_extent at level ∷ extents at 0 (n + 1) (level + 1) (plains (w ∷ ws))

-- all lines, and all extents
abbrev pub shown_text : Made → List ℕ
shown_text m = begun_text m.root (going m) ++ attribute_lines (plains m.waiting)

abbrev pub shown_extents : Made → List Extent
shown_extents m =
    begun_extents m.root (going m)
    ++ waiting_extents (length (begun_text m.root (going m))) (length (begun_extents m.root (going m)) + 1)
    (length m.frames + 1) m.waiting

-- where the extents of the open elements stand, the outermost first
abbrev pub open_numbers : Option Plain → List Frame → List ℕ
open_numbers root [] = []
open_numbers root (f ∷ fs) = open_numbers root fs ++ length (begun_extents root fs) ∷ []

abbrev pub is_none : List Plain → Bool
is_none [] = true
is_none (node ∷ nodes) = false

-- no root has ended where an element is open
abbrev pub IsSingle : List Frame → Option Plain → Type 0
IsSingle [] root = Unit {0}
IsSingle (f ∷ fs) root = root ≡ None

-- a name with that number waited last for the element with the number `here`
abbrev pub WaitsIn : List (List ℕ) → List ℕ → ℕ → List ℕ → Type 0
WaitsIn names waited here name =
    (n : ℕ) × IsNumber names name n × (slice_index_or waited n 0 ≡ here)

-- The draft notes for each name of attributes the number of the element that it last waited for. The next
-- element has a higher number than all before it.
pub record IsNoted (d : Draft) (m : Made) : Type 0 where
  pub noted :
      d.is_waiting ≡ true
      → (name : List ℕ)
      → (list_any (bytes_eq name) (names_of m.waiting) ≡ true) ↔ WaitsIn d.attributes d.waited.items (d.kept + 1) name
  pub risen : (n : ℕ) → slice_index_or d.waited.items n 0 ≤ length d.extents.items
  pub few_noted : length d.waited.items ≤ length d.attributes

-- The draft holds what has been made. Its names may become more.
pub record Shows (d : Draft) (m : Made) : Type 0 where
  pub text_is : d.text.items ≡ shown_text m
  pub extents_are :
      (es ns : List (List ℕ))
      → map (named (d.elements ++ es) (d.attributes ++ ns)) d.extents.items ≡ shown_extents m
  pub open_are : d.stack.items ≡ open_numbers m.root m.frames
  pub going_is : d.is_going ≡ not (is_empty_list m.running)
  pub waits_is : d.is_waiting ≡ not (is_none m.waiting)
  pub kept_is : d.is_waiting ≡ true → d.kept ≡ length (begun_extents m.root (going m))
  pub begun_is : d.has_begun ≡ has_begun m.frames m.root
  pub notes : IsNoted d m
  pub bare : list_all is_attribute m.waiting ≡ true
  pub single : IsSingle m.frames m.root
  pub few_elements : length d.elements ≤ length d.text.items
  pub few_attributes : length d.attributes ≤ length d.text.items

-- how many bytes its lines have, and how many elements are open
abbrev pub size_of : Draft → ℕ
size_of d = length d.text.items

abbrev pub depth_of : Draft → ℕ
depth_of d = length d.stack.items

-- the draft has room for so many bytes more, and for one element more inside each other
pub record HasRoom (d : Draft) (more : ℕ) : Type 0 where
  pub room : size_of d + more < 2 ^ 32
  pub few : length d.extents.items ≤ size_of d
  pub deep : depth_of d ≤ 512
  pub elements : length d.elements ≤ size_of d
  pub attributes : length d.attributes ≤ size_of d

-- the extent in which the number, the end or more of the text is known
abbrev pub begun_extent : code.Extent → ℕ → code.Extent
begun_extent e name = record e { name = name; kind = kind.Element }

abbrev pub ended_extent : code.Extent → ℕ → ℕ → code.Extent
ended_extent e to last = record e { to = to; last = last }

abbrev pub longer_extent : code.Extent → ℕ → Bool → code.Extent
longer_extent e to escaped = record e { to = to; escaped = e.escaped || escaped }

-- the place that is kept for an element, where none is kept yet
abbrev pub place_if : Bool → ℕ → ℕ → List code.Extent
place_if true at level = []
place_if false at level = record {
  from = at;
  to = 0;
  last = 0;
  name = 0;
  level = level;
  kind = kind.Text;
  escaped = false;
} ∷ []

-- the text goes on within an element, or there is no byte
abbrev pub IsInside : List Frame → List ℕ → Type 0
IsInside [] value = value ≡ []
IsInside (f ∷ fs) value = Unit {0}

-- no element is open, no attribute waits, and the root has ended
pub record IsDone (m : Made) (root : Plain) : Type 0 where
  pub none_open : m.frames ≡ []
  pub none_wait : m.waiting ≡ []
  pub root_is : m.root ≡ Some root
  pub element : IsTrue (is_element root)
  pub sound : IsSound root
  pub low : levels (one root) ≤ 512
