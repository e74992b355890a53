-- The tags that a host has given with its requests, and those that it was told with their reports.
use Rattle.std.specs.Prelude.{◌≡◌, ℕ, List, [], ◌∷◌, ◌++◌, Option, Some, None, map, option_to_list, ⊤}
use Rattle.pv_base.specs.declared.txn.TxnId.{TxnId}
use Rattle.pv_embed.specs.Held.{Held}
use Rattle.pv_handle.specs.ByteState.{ByteState}
use Rattle.pv_handle.specs.Tags.{begun_of}
use Rattle.pv_handle.specs.declared.tags.Tag.{Tag}

-- What the host of a site has given with each request that has begun a transaction, and what it was told with each report of a transaction's number, since the site was opened:
-- the transaction and the tag, the oldest first.
pub record Tagging : Type 0 where
  pub given : List Tag
  pub told : List Tag

-- at an opening
abbrev pub untagged : Tagging
untagged = record { given = []; told = [] }

-- the numbers whose reports are to be let out yet
abbrev pub numbers_of : List Held → List TxnId
numbers_of [] = []
numbers_of (first ∷ held) = option_to_list (begun_of first.out) ++ numbers_of held

-- What was told is what was given first, each with its own transaction; and the rest is kept, for the reports that are to be let out, in their order.
pub record IsTagged (tagging : Tagging) (site : ByteState) : Type 0 where
  pub kept : tagging.given ≡ tagging.told ++ site.tags
  pub numbers : map (λ (tag : Tag). tag.txn) site.tags ≡ numbers_of site.hosted.held

-- What reports no number goes with the tag 0.
abbrev pub IsOfReport : Option TxnId → ℕ → Type 0
IsOfReport None tag = tag ≡ 0
IsOfReport (Some txn) tag = ⊤
