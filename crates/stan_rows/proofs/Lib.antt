mod RowLemmas
mod SignLemmas
