mod BegunLemmas
mod TagLemmas
