mod EndLemmas
mod LivedLemmas
mod NamingLemmas
mod PrintLemmas
mod ServedLemmas
mod TellLemmas
