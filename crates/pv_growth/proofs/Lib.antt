mod FrontLemmas
mod ItemLemmas
