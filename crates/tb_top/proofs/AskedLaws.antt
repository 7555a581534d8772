-- The query of a text is one, as far as its answers go, and a text that is read as one has no fault.
use Rattle.std.proofs.Common.{◌≡◌, ℕ, List, [], None, subst, refl, sym, append-nil}
use Rattle.std.specs.Prelude.{Ok}
use Rattle.tb_tree.specs.Documents.{Docs}
use Rattle.tb_token.specs.tokens.Lexemes.{toks_of}
use Rattle.tb_token.specs.declared.lexer.token.Token.{Token}
use Rattle.tb_token.proofs.lexing.CutLaws.{one_cut}
use Rattle.tb_pattern.specs.declared.pattern.Pattern.{Pattern}
use Rattle.tb_query.specs.Answer.{answer}
use Rattle.tb_query.specs.declared.query.Query.{Query}
use Rattle.tb_query.specs.declared.query.Query.TheVariants.{Match, Flwor}
use Rattle.tb_flwor.specs.Asked.{AskFor, AreSame}
use Rattle.tb_flwor.specs.Calls.{Reads}
use Rattle.tb_flwor.specs.Faults.{IsFaultOf, IsRefused}
use Rattle.tb_flwor.specs.declared.fault.QueryFault.{QueryFault}
use Rattle.tb_flwor.proofs.OneFault.{never-both}
use Rattle.tb_flwor.proofs.OneQuery.{one-query}
use Rattle.tb_script.specs.declared.command.Command.TheVariants as command
use Rattle.tb_top.specs.Answered.{AsksFew}
use Rattle.tb_top.specs.Check.{IsRefusal}
use Rattle.tb_top.specs.Pieces.{Grows}
use Rattle.tb_top.specs.Single.{IsBuilt}

-- queries with the same parts have one answer
answers-same : (docs : Docs) (q r : Query) → AreSame q r → answer docs q ≡ answer docs r
answers-same docs (Match p) (Match q) same = rw (same.0, same.1) refl
answers-same docs (Flwor p) (Flwor q) same = rw (same.0, same.1, same.2, same.3, same.4) refl
answers-same docs (Match p) (Flwor q) same = absurd same
answers-same docs (Flwor p) (Match q) same = absurd same

-- two queries that one text is read as
pub one-asked : (text : List ℕ) (q r : Query) → Reads text (Ok q) → Reads text (Ok r) → AreSame q r
one-asked text q r (ts, (cut, (fine, one))) (us, (also, (too, two))) =
    let same = one_cut text ts us None None cut.1 also.1 in
    one-query (toks_of text us) q r (subst (λ (vs : List Token). AskFor (toks_of text vs) q) same.0 one) two

pub asked-once : (text : List ℕ) (q r : Query) → Reads text (Ok q) → Reads text (Ok r) → (docs : Docs) → answer docs q ≡ answer docs r
asked-once text q r one two docs = answers-same docs q r (one-asked text q r one two)

pub asked-clean : (text : List ℕ) (q : Query) → Reads text (Ok q) → IsFaultOf text None
asked-clean text q (ts, (cut, (fine, asks))) = (ts, (cut, fine))

-- so what is read as a pattern is built, and so is what is refused
pub pattern-built : (text : List ℕ) (p : Pattern) → Reads text (Ok (Match p)) → IsBuilt (command.Query text)
pattern-built text p reads = λ q r. one-asked text (Match p) (Flwor q) reads r

pub asked-built : (text : List ℕ) (q : Query) → AsksFew q → Reads text (Ok q) → IsBuilt (command.Query text)
asked-built text (Match p) few reads = pattern-built text p reads
asked-built text (Flwor q) few reads = absurd few

pub refused-built : (text : List ℕ) (fault : QueryFault) → IsRefused text fault → IsBuilt (command.Query text)
refused-built text fault refused = λ q r. never-both text fault (asked-clean text (Flwor q) r) refused

-- of a text that is read nothing is told
pub read-refusal : (session number : ℕ) (text : List ℕ) (q : Query) (told : List ℕ) → Reads text (Ok q) → Grows told told (IsRefusal session number (command.Query text))
read-refusal session number text q told reads = ([], (None, asked-clean text q reads, refl), sym (append-nil told))
