mod BayLemmas
mod CommandLemmas
mod TourLemmas
