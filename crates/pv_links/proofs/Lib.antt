mod LinkLemmas
mod RowLemmas
