mod BayLemmas
mod FileLemmas
mod FillLemmas
mod HistoryLemmas
mod ImageLemmas
mod ListLemmas
mod MemLemmas
