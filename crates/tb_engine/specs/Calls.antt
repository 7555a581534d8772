-- What answering promises.
use Rattle.std.specs.Prelude.{◌≡◌, ℕ, ◌<◌, ◌^◌, List, [], ◌∷◌, Option, Some, None, Result, Ok, Err, ⊤}
use Rattle.tb_tree.specs.Plain.{Plain}
use Rattle.tb_tree.specs.Documents.{Docs, found}
use Rattle.tb_pattern.specs.Plain.{PlainEdges}
use Rattle.tb_pattern.specs.View.{edges_of}
use Rattle.tb_parjoin.specs.Traces.{Trace}
use Rattle.tb_parjoin.specs.declared.answer.Answer.{Answer}
use Rattle.tb_parjoin.specs.declared.settings.OrderRule.{OrderRule}
use Rattle.tb_parjoin.specs.declared.settings.OrderRule.TheVariants.{Written, Reverse}
use Rattle.tb_plan.specs.Orders.{edge_count, written_order, reverse_order}
use Rattle.tb_tlc.specs.declared.plan.Op.{Op}
use Rattle.tb_tlc.specs.declared.plan.Op.TheVariants.{Match}
use Rattle.tb_twig.specs.Calls.{AreTraced}
use Rattle.tb_engine.specs.declared.fault.EngineFault.{EngineFault}
use Rattle.tb_engine.specs.declared.fault.EngineFault.TheVariants.{Past, NoMemory}

-- the plan is one pattern, with fewer than 2^32 edges
abbrev pub IsOnePattern : List Op → Type 0
IsOnePattern (Match p ∷ []) = edge_count (edges_of p.edges) < 2 ^ 32
IsOnePattern _ = ⊥

-- The answer of a plan that means this: how many trees, and their lines; `Past` exactly where a sum is past the
-- range. Memory may be wanting at any time.
abbrev pub Answers : Option (ℕ × List ℕ) → Result Answer EngineFault → Type 0
Answers meant (Ok answer) = meant ≡ Some (answer.count, answer.text.items)
Answers meant (Err Past) = meant ≡ None
Answers meant (Err NoMemory) = ⊤

-- the order in which a pattern's edges are joined
abbrev pub order_by : OrderRule → PlainEdges → List ℕ
order_by Written edges = written_order edges
order_by Reverse edges = reverse_order edges

-- the traces of a pattern: one for each edge in this order, and none where there is no document
abbrev pub AreTracesOver : Option Plain → OrderRule → PlainEdges → List Trace → Type 0
AreTracesOver None rule edges traces = traces ≡ []
AreTracesOver (Some root) rule edges traces = AreTraced root edges (order_by rule edges) traces

-- the traces of a plan of one pattern
abbrev pub AreTraces : Docs → OrderRule → List Op → List Trace → Type 0
AreTraces docs rule (Match p ∷ ops) traces = AreTracesOver (found p.document docs) rule (edges_of p.edges) traces
AreTraces docs rule _ traces = ⊤
