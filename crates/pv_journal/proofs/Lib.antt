mod AppendLemmas
mod ArmedLemmas
mod FormatLemmas
mod GivenLemmas
mod LogLemmas
mod LookLemmas
mod ReadLemmas
