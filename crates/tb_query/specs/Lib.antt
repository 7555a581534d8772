-- What a query means, from the nodes of a path to the answer over documents; the names that it has,
-- what it does in written order, and what makes it one that can be planned; the operators of plans over
-- rows; and last how the program keeps names.
pub mod Lists
pub mod Nodes
pub mod Tuples
pub mod Operands
pub mod Comparisons
pub mod Groups
pub mod Order
pub mod Parts
pub mod Results
pub mod Answer
pub mod Names
pub mod NameLaw
pub mod Actions
pub mod Plannable
pub mod SameRows
pub mod Selected
pub mod Operators
pub mod Shapes
pub mod Lent
