-- What the loops and the calls of the code need, by module of src/.
pub mod TestLaws
mod OrderLaws
mod SearchLaws
mod NodesLaws
mod PathsLaws
mod RefusalsLaws
mod PlanCodeLaws
mod MadeUpLaws
pub mod RowsLaws
