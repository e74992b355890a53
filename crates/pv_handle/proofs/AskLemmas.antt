-- The name of an item is given with the site that the item is at; and a question for an outcome keeps what waits.
use Rattle.std.proofs.Common.{◌≡◌, ◌≤◌, refl, sym, ap, subst, ◌∙◌, ℕ, List, length, map, Option, Some, None, Result, Ok, Err, option_map, slice_get}
use Rattle.std.proofs.lemmas.Option.{slice_get-map, slice_get_past}
use Rattle.pv_base.specs.Catalog.{Item}
use Rattle.pv_base.specs.declared.txn.TxnId.{TxnId}
use Rattle.pv_embed.specs.Hosted.{HostedState}
use Rattle.pv_embed.specs.Outcomes.{MayTell, TellsOutcome}
use Rattle.pv_embed.specs.declared.asked.Outcome.{Outcome}
use Rattle.pv_embed.specs.declared.asked.OutcomeFault.{OutcomeFault}
use Rattle.pv_embed.specs.declared.asked.OutcomeFault.TheVariants.{NotHere, Unwritten, NotBegun, NoMemory}
use Rattle.pv_handle.proofs.ByteLemmas.{front, stays-front}
use Rattle.pv_handle.proofs.KeepLemmas.{same-keeps, stays-keeps}
use Rattle.pv_handle.specs.Asked.{GivesItem}
use Rattle.pv_handle.specs.ByteView.{IsByteSite}
use Rattle.pv_handle.specs.Given.{GivesBytes}
use Rattle.pv_handle.specs.declared.bytes.ByteSite.TheInside.{Inside}
use Rattle.pv_handle.specs.declared.bytes.Waiting.{Waiting}
use Rattle.pv_handle.specs.declared.given.Given.{Given}
use Rattle.pv_handle.specs.declared.given.Given.TheVariants.{Nothing}

module _ (name : List ℕ) (site : ℕ) (room out : List ℕ) (given : Given) (gives : GivesBytes name site room out given) where
  given-with : (item : Option Item) → option_map (λ (it : Item). it.name) item ≡ Some name → option_map (λ (it : Item). it.site) item ≡ Some site → GivesItem item room out given
  given-with None named placed = absurd (let wrong : ⊥ = cc in wrong)
  given-with (Some item) named placed =
      let same_name : name ≡ item.name = cc in
      let same_site : site ≡ item.site = cc in
      subst (λ (bytes : List ℕ). GivesBytes bytes item.site room out given) same_name (subst (λ (at : ℕ). GivesBytes name at room out given) same_site gives)

  pub gives_item : (items : List Item) (n : ℕ) → slice_get (map (λ (it : Item). it.name) items) n ≡ Some name → slice_get (map (λ (it : Item). it.site) items) n ≡ Some site
      → GivesItem (slice_get items n) room out given
  gives_item items n named placed =
      given-with (slice_get items n) (sym (slice_get-map (λ (it : Item). it.name) items n) ∙ named) (sym (slice_get-map (λ (it : Item). it.site) items n) ∙ placed)

pub gives_none : (items : List Item) (n : ℕ) (room : List ℕ) → length items ≤ n → GivesItem (slice_get items n) room room Nothing
gives_none items n room past = subst (λ (item : Option Item). GivesItem item room room Nothing) (sym (slice_get_past items n past)) (refl, refl)

pub ruleset item_lemmas = (gives_item, gives_none)

-- What the site is asked keeps what the fields of a site in bytes say.
pub tells-keeps : (inside : Inside) (new : HostedState) → IsByteSite inside → (txn : TxnId) (result : Result Outcome OutcomeFault)
    → TellsOutcome inside.site new txn result → IsByteSite (record inside { site = new })
tells-keeps inside new was txn (Ok outcome) told = same-keeps inside new was told.0
tells-keeps inside new was txn (Err NotHere) told = same-keeps inside new was told.0
tells-keeps inside new was txn (Err Unwritten) told = same-keeps inside new was told.0
tells-keeps inside new was txn (Err NotBegun) told = same-keeps inside new was told.0
tells-keeps inside new was txn (Err NoMemory) stays = stays-keeps inside new was stays

-- What waits before what is held has no part in what is told.
module _ (waiting : Option Waiting) (old new : HostedState) (txn : TxnId) where
  may-front : MayTell old txn → MayTell (front waiting old) txn
  may-front may = record { here = may.here; written = may.written }

  pub tells-front : (result : Result Outcome OutcomeFault) → TellsOutcome old new txn result → TellsOutcome (front waiting old) (front waiting new) txn result
  tells-front (Ok outcome) told = (ap (front waiting) told.0, may-front told.1, told.2)
  tells-front (Err NotHere) told = (ap (front waiting) told.0, told.1)
  tells-front (Err Unwritten) told = (ap (front waiting) told.0, told.1, told.2)
  tells-front (Err NotBegun) told = (ap (front waiting) told.0, may-front told.1, told.2)
  tells-front (Err NoMemory) stays = stays-front waiting old new stays
