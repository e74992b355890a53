-- What hosts have given to their requests, so that they know their reports by it.
use Rattle.std.specs.Prelude.{◌≡◌, ℕ, Bool, false, if◌then◌else◌, List, [], ◌∷◌, ◌++◌, Option, Some, None, Result, Ok, Err}
use Rattle.pv_base.specs.Assignment.{is_same_txn}
use Rattle.pv_base.specs.declared.txn.TxnId.{TxnId}
use Rattle.pv_embed.specs.Held.{Held, Out}
use Rattle.pv_embed.specs.Hosted.{HostedState}
use Rattle.pv_embed.specs.Outputs.{out_of}
use Rattle.pv_embed.specs.Requests.{Begins, begun_at}
use Rattle.pv_handle.specs.declared.bytes.Waiting.{Waiting}
use Rattle.pv_handle.specs.declared.given.Given.{Given}
use Rattle.pv_handle.specs.declared.given.Given.TheVariants.{Nothing, Bytes, TooSmall}
use Rattle.pv_handle.specs.declared.tags.Tag.{Tag}

-- the tag of a request that has begun this transaction
abbrev pub tagged : Option TxnId → ℕ → List Tag
tagged None tag = []
tagged (Some txn) tag = record { txn = txn; tag = tag } ∷ []

-- A request was given this tag. It is kept with the transaction that the request has begun, behind those of the requests before.
abbrev pub KeepsTag : {X E : Type 0} → HostedState → HostedState → List Tag → List Tag → ℕ → Result X E → Type 0
KeepsTag old new tags later tag (Ok _) = (begun : Option TxnId) × Begins old new begun × (later ≡ tags ++ tagged begun tag)
KeepsTag old new tags later tag (Err _) = later ≡ tags

-- the transaction that is said to have begun by what is let out
abbrev pub begun_of : Out → Option TxnId
begun_of out = begun_at out None

-- The tag is that of the request whose number is reported so.
abbrev pub is_tag_for : Option TxnId → Tag → Bool
is_tag_for None tag = false
is_tag_for (Some txn) tag = is_same_txn tag.txn txn

-- the tag that is given with what goes out: that of its request with a report of the request's number, and 0 with all else
abbrev pub tag_of : Out → List Tag → ℕ
tag_of out [] = 0
tag_of out (first ∷ tags) = if is_tag_for (begun_of out) first then first.tag else 0

-- those that are kept then
abbrev pub tags_after : Out → List Tag → List Tag
tags_after out [] = []
tags_after out (first ∷ tags) = if is_tag_for (begun_of out) first then tags else first ∷ tags

-- What is next was written with this tag, or nothing was.
abbrev pub GoesWith : List Held → List Tag → List Tag → ℕ → Type 0
GoesWith [] tags later tag = (tag ≡ 0) × (later ≡ tags)
GoesWith (first ∷ held) tags later tag = (tag ≡ tag_of first.out tags) × (later ≡ tags_after first.out tags)

abbrev pub GivesTag : List Held → List Tag → List Tag → ℕ → Given → Type 0
GivesTag held tags later tag (Bytes count to) = GoesWith held tags later tag
GivesTag held tags later tag Nothing = (tag ≡ 0) × (later ≡ tags)
GivesTag held tags later tag (TooSmall needed) = (tag ≡ 0) × (later ≡ tags)

-- The same, by the answer.
abbrev pub TellsTag : {E : Type 0} → List Held → List Tag → List Tag → ℕ → Result Given E → Type 0
TellsTag held tags later tag (Ok given) = GivesTag held tags later tag given
TellsTag held tags later tag (Err _) = (tag ≡ 0) × (later ≡ tags)

-- The same of what waits, where something does.
abbrev pub LeavesWith : Option Waiting → List Tag → List Tag → ℕ → Type 0
LeavesWith None tags later tag = (tag ≡ 0) × (later ≡ tags)
LeavesWith (Some waiting) tags later tag = (tag ≡ tag_of (out_of waiting.output) tags) × (later ≡ tags_after (out_of waiting.output) tags)

abbrev pub LetsGo : Option Waiting → List Tag → List Tag → ℕ → Given → Type 0
LetsGo waiting tags later tag (Bytes count to) = LeavesWith waiting tags later tag
LetsGo waiting tags later tag Nothing = (tag ≡ 0) × (later ≡ tags)
LetsGo waiting tags later tag (TooSmall needed) = (tag ≡ 0) × (later ≡ tags)
