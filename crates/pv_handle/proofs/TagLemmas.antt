-- Tags stay with what waits, as what waits stays before what is held.
use Rattle.std.proofs.Common.{◌≡◌, ap, subst, ◌∙◌, ℕ, zero, Bool, List, Option, Some, Err}
use Rattle.pv_base.specs.declared.txn.TxnId.{TxnId}
use Rattle.pv_embed.specs.Held.{Held}
use Rattle.pv_embed.specs.Hosted.{HostedState, Stays}
use Rattle.pv_embed.specs.Requests.{Begins, SubmitsBy}
use Rattle.pv_embed.specs.declared.fault.SubmitFault.{SubmitFault}
use Rattle.pv_embed.specs.declared.fault.SubmitFault.TheVariants as submitting
use Rattle.pv_handle.proofs.ByteLemmas.{append-front, front, stays-front}
use Rattle.pv_handle.specs.Tags.{GivesTag, GoesWith, LetsGo}
use Rattle.pv_handle.specs.Waiting.{waits_before}
use Rattle.pv_handle.specs.declared.bytes.Waiting.{Waiting}
use Rattle.pv_handle.specs.declared.given.Given.{Given}
use Rattle.pv_handle.specs.declared.given.Given.TheVariants.{Nothing, Bytes, TooSmall}
use Rattle.pv_handle.specs.declared.tags.Tag.{Tag}

-- ## Requests
module _ (waiting : Option Waiting) (old new : HostedState) where
  pub begins-front : (begun : Option TxnId) → Begins old new begun → Begins (front waiting old) (front waiting new) begun
  begins-front begun begins = (begins.0, ap (waits_before waiting) begins.1 ∙ append-front waiting old.held begins.0, begins.2)

  -- A refusal is the same, whatever would be given with an answer.
  pub refused-front : (X Y : Type 0) (text : List ℕ) (query : Bool) (fault : SubmitFault) → SubmitsBy {X = X} old new text query (Err fault)
      → SubmitsBy {X = Y} (front waiting old) (front waiting new) text query (Err fault)
  refused-front X Y text query (submitting.Text error) refused = (ap (front waiting) refused.0, refused.1)
  refused-front X Y text query (submitting.Program error) refused = (ap (front waiting) refused.0, refused.1)
  refused-front X Y text query submitting.NoMemory stays = stays-front waiting old new stays

-- ## What goes out
-- What waits goes with its tag.
module _ (old after : HostedState) (waiting : Waiting) (is : front (Some waiting) after ≡ old) (tags later : List Tag) (tag : ℕ) where
  goes-with : LetsGo (Some waiting) tags later tag (Bytes zero zero) → GoesWith old.held tags later tag
  goes-with goes = subst (λ (held : List Held). GoesWith held tags later tag) (ap (λ (hosted : HostedState). hosted.held) is) goes

  pub gives-tag : (given : Given) → LetsGo (Some waiting) tags later tag given → GivesTag old.held tags later tag given
  gives-tag Nothing goes = goes
  gives-tag (Bytes count to) goes = goes-with goes
  gives-tag (TooSmall needed) goes = goes
