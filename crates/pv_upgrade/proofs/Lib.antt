mod FindLemmas
mod KeepLemmas
mod RenewLemmas
mod RenewedLemmas
mod RewriteLemmas
mod SiteLemmas
