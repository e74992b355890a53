mod FileLemmas
mod GroupLemmas
mod GroupReads
mod HostLemmas
mod LeastLemmas
mod WaitingLemmas
