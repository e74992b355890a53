mod ChainLemmas
mod LineLemmas
