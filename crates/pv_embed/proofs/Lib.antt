pub mod HostedLemmas
mod KeptLemmas
mod LetOutLemmas
mod MadeLemmas
mod OpeningLemmas
mod OutcomeLemmas
mod ReadLemmas
mod RequestLemmas
