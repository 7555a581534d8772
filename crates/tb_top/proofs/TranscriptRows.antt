-- Worked rows of transcripts, computed.
use Rattle.std.proofs.Common.{◌≡◌, ℕ, List, [], ◌∷◌, ◌++◌, refl, codes}
use Rattle.std.specs.Prelude.{Some, None, Option, false}
use Rattle.std.specs.Fmt.{digits}
use Rattle.tb_tree.specs.Plain.{Plain, elem, no_kids, kid}
use Rattle.tb_esis.specs.declared.fault.EsisFault.TheVariants as esis
use Rattle.tb_flwor.specs.declared.fault.QueryFault.TheVariants as query
use Rattle.tb_script.specs.declared.command.Command.{Command}
use Rattle.tb_script.specs.declared.command.Command.TheVariants as command
use Rattle.tb_tree.specs.Documents.{found}
use Rattle.tb_tree.specs.declared.node_test.Test.TheVariants as test
use Rattle.tb_span.specs.declared.item.Axis.TheVariants.{Descendant}
use Rattle.tb_pattern.specs.Plain.{matching, PlainEdges, no_edges, edge}
use Rattle.tb_pattern.specs.declared.pattern.Mark.TheVariants as mark
use Rattle.tb_query.specs.Answer.{match_trees, counted}
use Rattle.tb_top.specs.History.{documents_at}
use Rattle.tb_top.specs.Deeds.{Record, loaded, refused, answered, refused_query, told, heard, Deed, history_of}
use Rattle.tb_top.specs.Transcript.{transcript_of}
use Rattle.tb_flwor.specs.Faults.{IsFaultOf}
use Rattle.tb_top.specs.Check.{IsCheck}

-- `a` in `a` in `a`, and `x` alone
abbrev nested : Plain
nested = elem (codes "a") (kid (elem (codes "a") (kid (elem (codes "a") no_kids) no_kids)) no_kids)

abbrev alone : Plain
alone = elem (codes "x") no_kids

abbrev deed : ℕ → ℕ → Command → Record → Deed
deed session place c r = record { session = session; place = place; command = c; result = r }

-- `(//- first (//- second))`
abbrev below : List ℕ → PlainEdges → PlainEdges
below name edges = edge Descendant mark.One (matching (test.Name name) [] false edges) no_edges

abbrev asked : List ℕ → Plain → Record
asked name root = answered 1 (Some (counted (match_trees (below name (below name no_edges)) (Some root))))

-- one session loads nested `a` as `n`, and asks for `a` below `a` in it
abbrev nested_deeds : List Deed
nested_deeds =
    deed 0 0 (command.Load (codes "n") []) (loaded 1 nested) ∷ deed 0 1 (command.Query []) (asked (codes "a") nested) ∷ []

pub nested-transcript : transcript_of 1 nested_deeds
    ≡ codes "session 1\n1 load n at 1\n2 query front 1 trees 3\n(witness\n(a\n(a\n)a\n)a\n)witness\n(witness\n(a\n(a\n)a\n)a\n)witness\n(witness\n(a\n(a\n)a\n)a\n)witness\n.\nend\nhistory 1\n1 session 1 change 1 load n\nok\n"
unfolding digits
nested-transcript = refl

-- two sessions and a mark, in the order of the rounds
abbrev marks_deeds : List Deed
marks_deeds =
    deed 0 0 (command.Load (codes "a") []) (loaded 1 alone) ∷ deed 0 1 (command.Tell 0 (codes "m")) (told 1) ∷ deed 1 0 (command.Hear 0 (codes "m")) (heard 1)
    ∷ deed 1 1 (command.Query []) (asked (codes "x") alone) ∷ []

pub marks-transcript : transcript_of 2 marks_deeds
    ≡ codes "session 1\n1 load a at 1\n2 tell m front 1\nend\nsession 2\n1 hear m front 1\n2 query front 1 trees 0\n.\nend\nhistory 1\n1 session 1 change 1 load a\nok\n"
unfolding digits
marks-transcript = refl

-- a load that is refused makes no change, and the next is the first
abbrev refused_deeds : List Deed
refused_deeds =
    deed 0 0 (command.Load (codes "x") []) (refused (esis.WrongEnd 2)) ∷ deed 0 1 (command.Load (codes "y") []) (loaded 1 nested) ∷ []

pub refused-transcript : transcript_of 1 refused_deeds ≡ codes "session 1\n1 load refused wrong-end 2\n2 load y at 1\nend\nhistory 1\n1 session 1 change 1 load y\nok\n"
unfolding digits
refused-transcript = refl

-- queries that are refused see no front and make no change, with a number and without one
abbrev refused_query_deeds : List Deed
refused_query_deeds =
    deed 0 0 (command.Query []) (refused_query (query.Syntax 11)) ∷ deed 0 1 (command.Load (codes "n") []) (loaded 1 alone)
    ∷ deed 0 2 (command.Query []) (refused_query query.TooNested) ∷ []

pub refused_query-transcript : transcript_of 1 refused_query_deeds
    ≡ codes "session 1\n1 query refused syntax 11\n2 load n at 1\n3 query refused too-nested\nend\nhistory 1\n1 session 1 change 1 load n\nok\n"
unfolding digits
refused_query-transcript = refl

pub empty-transcript : transcript_of 0 [] ≡ codes "history 0\nok\n"
unfolding digits
empty-transcript = refl

-- the second load of a name stands in the place of the first, and the earlier fronts keep theirs
abbrev twice_deeds : List Deed
twice_deeds =
    deed 0 0 (command.Load (codes "x") []) (loaded 1 nested) ∷ deed 1 0 (command.Load (codes "x") []) (loaded 2 alone) ∷ deed 0 1 (command.Load (codes "y") []) (loaded 3 nested) ∷ []

abbrev twice : ℕ → List ℕ → Option Plain
twice front name = found name (documents_at (history_of twice_deeds) front)

pub twice-documents : twice 0 (codes "x") ∷ twice 1 (codes "x") ∷ twice 2 (codes "x") ∷ twice 3 (codes "x") ∷ twice 2 (codes "y") ∷ []
    ≡ None ∷ Some nested ∷ Some alone ∷ Some alone ∷ None ∷ []
twice-documents = refl

pub twice-transcript : transcript_of 2 twice_deeds
    ≡ codes "session 1\n1 load x at 1\n2 load y at 3\nend\nsession 2\n1 load x at 2\nend\nhistory 3\n1 session 1 change 1 load x\n2 session 2 change 1 load x\n3 session 1 change 2 load y\nok\n"
unfolding digits
twice-transcript = refl

-- what `check` prints of two loads, one with a fault
pub check-refused : IsCheck ((command.Load (codes "x") (codes "(a\n)b\n") ∷ command.Load (codes "y") (codes "(a\n)a\n") ∷ []) ∷ [])
    (codes "1 1 load refused wrong-end 2\ncheck sessions 1 commands 2 loads 2 queries 0\n")
unfolding digits
check-refused =
    let line = codes "1 1 load refused wrong-end 2\n" in
    (line, (line, [], ((line, [], (refl, ([], [], (refl, refl, refl)), refl)), refl, refl)), refl)

-- and of three queries, two of which have a fault
pub check-refused_queries : (s t u : List ℕ) → IsFaultOf s (Some (query.BadByte 0)) → IsFaultOf t None → IsFaultOf u (Some query.TooLong)
    → IsCheck ((command.Query s ∷ command.Query t ∷ []) ∷ (command.Query u ∷ []) ∷ [])
    (codes "1 1 query refused bad-byte 0\n2 1 query refused too-long\ncheck sessions 2 commands 3 loads 0 queries 3\n")
unfolding digits
check-refused_queries s t u bad none long =
    let one = codes "1 1 query refused bad-byte 0\n" in
    let two = codes "2 1 query refused too-long\n" in (
      one ++ two,
      (
        one,
        two,
        (
          (one, [], ((Some (query.BadByte 0), bad, refl), ([], [], ((None, none, refl), refl, refl)), refl)),
          (two, [], ((two, [], ((Some query.TooLong, long, refl), refl, refl)), refl, refl)),
          refl,
        ),
      ),
      refl,
    )

-- an answer whose sum is past the range is one line
pub past-transcript : transcript_of 1 (deed 0 0 (command.Query []) (answered 0 None) ∷ []) ≡ codes "session 1\n1 query front 0 refused past-128-bits\nend\nhistory 0\nok\n"
unfolding digits
past-transcript = refl
