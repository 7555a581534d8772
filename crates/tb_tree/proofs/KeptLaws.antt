-- What a draft's extents are where a place is kept, and where one of them is written anew.
use Rattle.std.proofs.Common.{◌≡◌, ℕ, ◌+◌, ◌<◌, Bool, true, false, cond, not, List, [], ◌∷◌, ◌++◌, length, map, set, get_or, refl, sym, ap, ap₂, ◌∙◌, subst, arith, append_assoc, append-nil, length-append}
use Rattle.std.proofs.lemmas.Bool.{false≢true}
use Rattle.std.proofs.lemmas.List.{map-append, map-set, get_or-map, length-map, set_at, get_or_at, get_or_append_left}
use Rattle.tb_tree.specs.Plain.{Plain, plains}
use Rattle.tb_tree.specs.Printed.{attribute_lines}
use Rattle.tb_tree.specs.Making.{Made}
use Rattle.tb_tree.specs.NameTables.{IsMore, same, one_more, IsNumber}
use Rattle.tb_tree.specs.Extents.{Extent, extents, named}
use Rattle.tb_tree.specs.declared.extent.Extent as code
use Rattle.tb_tree.specs.declared.extent.Kind.{Kind}
use Rattle.tb_tree.specs.declared.extent.Kind.TheVariants as kind
use Rattle.tb_tree.specs.declared.draft.Draft.{Draft}
use Rattle.tb_tree.specs.Drafts.{begun_text, begun_extents, going, kept_extent, waiting_extents, is_none, place_if, Shows}
use Rattle.tb_tree.proofs.PutLaws.{length-open}

-- One extent is written anew, as g does in the program and h with names.
pub patched : (f : code.Extent → Extent) (g : code.Extent → code.Extent) (h : Extent → Extent) (xs : List code.Extent) (prefix back : List Extent) (here : Extent) (place : ℕ) (e : code.Extent)
    → ((x : code.Extent) → f (g x) ≡ h (f x)) → map f xs ≡ prefix ++ here ∷ back → place ≡ length prefix
    → map f (set xs place (g (get_or xs place e))) ≡ prefix ++ h here ∷ back
patched f g h xs prefix back here place e alike is at =
    let within : place < length xs = omega (arith, at, ap length is, length-append prefix (here ∷ back), length-map xs f) in
    let found : f (get_or xs place e) ≡ here =
    sym (get_or-map f xs place e (f e) within) ∙ ap (λ l. get_or l place (f e)) is ∙ get_or_at prefix here back (f e) place (sym at) in
    map-set f xs place (g (get_or xs place e))
    ∙ ap₂ (λ l x. set l place x) is (alike (get_or xs place e) ∙ ap h found)
    ∙ set_at prefix here back (h here) place (sym at)

pub written-at : (new xs ys : List code.Extent) (place : ℕ) (g : code.Extent → code.Extent) (e : code.Extent) → xs ≡ ys → new ≡ set xs place (g (get_or xs place e)) → new ≡ set ys place (g (get_or ys place e))
written-at new xs ys place g e alike is = subst (λ zs. new ≡ set zs place (g (get_or zs place e))) alike is

-- an extent where none stands
abbrev pub no_extent : code.Extent
no_extent = record { from = 0; to = 0; last = 0; name = 0; level = 0; kind = kind.Text; escaped = false }

-- extents that agree
pub same_extent : (from to to' last last' : ℕ) (name name' : List ℕ) (level level' : ℕ) (of_kind : Kind) (e e' : Bool) → to ≡ to' → last ≡ last' → name ≡ name' → level ≡ level' → e ≡ e'
    → ◌≡◌ {A = Extent} (record { from = from; to = to; last = last; name = name; level = level; kind = of_kind; escaped = e })
    (record { from = from; to = to'; last = last'; name = name'; level = level'; kind = of_kind; escaped = e' })
same_extent from to to' last last' name name' level level' of_kind e e' p q r s t = cc

-- Names may become more.
pub more-elements : (old new others : List (List ℕ)) (xs : List code.Extent) (all : List Extent) → IsMore old new
    → ((es ns : List (List ℕ)) → map (named (old ++ es) (others ++ ns)) xs ≡ all) → (es ns : List (List ℕ)) → map (named (new ++ es) (others ++ ns)) xs ≡ all
more-elements old new others xs all (same is) each es ns = ap (λ n. map (named (n ++ es) (others ++ ns)) xs) is ∙ each es ns
more-elements old new others xs all (one_more name is) each es ns =
    ap (λ n. map (named (n ++ es) (others ++ ns)) xs) is ∙ ap (λ n. map (named n (others ++ ns)) xs) (append_assoc old (name ∷ []) es) ∙ each (name ∷ es) ns

pub more-attributes : (old new others : List (List ℕ)) (xs : List code.Extent) (all : List Extent) → IsMore old new
    → ((es ns : List (List ℕ)) → map (named (others ++ es) (old ++ ns)) xs ≡ all) → (es ns : List (List ℕ)) → map (named (others ++ es) (new ++ ns)) xs ≡ all
more-attributes old new others xs all (same is) each es ns = ap (λ n. map (named (others ++ es) (n ++ ns)) xs) is ∙ each es ns
more-attributes old new others xs all (one_more name is) each es ns =
    ap (λ n. map (named (others ++ es) (n ++ ns)) xs) is ∙ ap (λ n. map (named (others ++ es) n) xs) (append_assoc old (name ∷ []) ns) ∙ each es (name ∷ ns)

pub number-stays : (names more : List (List ℕ)) (name : List ℕ) (n : ℕ) → IsNumber names name n → get_or (names ++ more) n [] ≡ name
number-stays names more name n is = get_or_append_left names more [] n is.0 ∙ is.1

-- what is open
pub stack-length : (d : Draft) (m : Made) → Shows d m → length d.stack.items ≡ length m.frames
stack-length d m s = ap length s.open_are ∙ length-open m.root m.frames

-- the place of the element that is kept or new
kept_if : Bool → ℕ → ℕ → List Extent
kept_if true at level = []
kept_if false at level = kept_extent at level ∷ []

kept-named : (es ns : List (List ℕ)) (b : Bool) (at level : ℕ) → map (named es ns) (place_if b at level) ≡ kept_if b at level
unfolding kept_if
kept-named es ns true at level = refl
kept-named es ns false at level = refl

kept-waiting : (a n level at : ℕ) (ws : List Plain) (b : Bool) → b ≡ not (is_none ws) → (ws ≡ [] → at ≡ a)
    → waiting_extents a n level ws ++ kept_if b at level ≡ kept_extent a level ∷ extents a 0 (n + 1) (level + 1) (plains ws)
unfolding kept_if
kept-waiting a n level at [] true is place = absurd (false≢true (sym is))
kept-waiting a n level at [] false is place = ap (λ x. kept_extent x level ∷ []) (place refl)
kept-waiting a n level at (w ∷ ws) true is place = append-nil _
kept-waiting a n level at (w ∷ ws) false is place = absurd (false≢true is)

none-waiting : (s : List ℕ) (ws : List Plain) → ws ≡ [] → length (s ++ attribute_lines (plains ws)) ≡ length s
none-waiting s ws is = ap (λ l. length (s ++ attribute_lines (plains l))) is ∙ ap length (append-nil s)

pub kept-extents : (d : Draft) (m : Made) (at level : ℕ) → Shows d m → at ≡ length d.text.items → level ≡ length d.stack.items + 1
    → (es ns : List (List ℕ))
    → map (named (d.elements ++ es) (d.attributes ++ ns)) (d.extents.items ++ place_if d.is_waiting at level)
    ≡ begun_extents m.root (going m) ++ (kept_extent (length (begun_text m.root (going m))) (length m.frames + 1)
    ∷ extents (length (begun_text m.root (going m))) 0 (length (begun_extents m.root (going m)) + 1 + 1) (length m.frames + 1 + 1) (plains m.waiting))
kept-extents d m at level s at_is level_is es ns =
    let text = begun_text m.root (going m) in
    let begun = begun_extents m.root (going m) in
    let deep : level ≡ length m.frames + 1 = omega (arith, level_is, stack-length d m s) in
    map-append (named (d.elements ++ es) (d.attributes ++ ns)) d.extents.items (place_if d.is_waiting at level)
    ∙ ap₂ (λ x y. x ++ y) (s.extents_are es ns) (kept-named (d.elements ++ es) (d.attributes ++ ns) d.is_waiting at level ∙ ap (kept_if d.is_waiting at) deep)
    ∙ append_assoc begun _ _
    ∙ ap (λ r. begun ++ r)
    (kept-waiting (length text) (length begun + 1) (length m.frames + 1) at m.waiting d.is_waiting s.waits_is
    (λ none. at_is ∙ ap length s.text_is ∙ none-waiting text m.waiting none))

nothing_waits : (ws : List Plain) → false ≡ not (is_none ws) → ws ≡ []
nothing_waits [] e = refl
nothing_waits (w ∷ ws) e = absurd (false≢true e)

place_case : (d : Draft) (m : Made) (b : Bool) → Shows d m → d.is_waiting ≡ b → cond b d.kept (length d.extents.items) ≡ length (begun_extents m.root (going m))
place_case d m true s is = s.kept_is is
place_case d m false s is =
    let none = nothing_waits m.waiting (sym is ∙ s.waits_is) in
    let begun = begun_extents m.root (going m) in
    sym (length-map d.extents.items (named (d.elements ++ []) (d.attributes ++ [])))
    ∙ ap length (s.extents_are [] [])
    ∙ ap (λ ws. length (begun ++ waiting_extents (length (begun_text m.root (going m))) (length begun + 1) (length m.frames + 1) ws)) none
    ∙ ap length (append-nil begun)

pub kept-place : (d : Draft) (m : Made) (place : ℕ) → Shows d m → place ≡ cond d.is_waiting d.kept (length d.extents.items) → place ≡ length (begun_extents m.root (going m))
kept-place d m place s is = is ∙ place_case d m d.is_waiting s refl
