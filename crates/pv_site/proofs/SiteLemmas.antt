-- What is asked of a site, by its parts, and that it is ready after a step.
use Rattle.std.proofs.Common.{◌≡◌, refl, sym, subst, ap, ◌∙◌, ℕ, Bool, true, false, List, [], ◌∷◌, map, Option, Some, None}
use Rattle.std.specs.List.{find}
use Rattle.std.specs.Option.{option_map}
use Rattle.std.specs.Prelude.{is_some, not, ◌&&◌, ◌↔◌}
use Rattle.pv_base.specs.Assignment.{is_same_txn}
use Rattle.pv_base.specs.Catalog.{Declared}
use Rattle.pv_base.specs.Polyvalue.{names}
use Rattle.pv_base.specs.declared.txn.TxnId.{TxnId}
use Rattle.pv_coord.specs.Coordinator as coord
use Rattle.pv_coord.specs.Coordinator.{voting_work, work_of}
use Rattle.pv_coord.specs.Work.{Work}
use Rattle.pv_protocol.specs.Committed.{entry_in, grants_of}
use Rattle.pv_protocol.specs.Lock.{is_home}
use Rattle.pv_protocol.specs.Outcome.{named_here}
use Rattle.pv_protocol.specs.Shown.{shown}
use Rattle.pv_store.specs.Kept.{IsStoreOf}
use Rattle.pv_protocol.specs.Coordinate.{is_locking}
use Rattle.pv_protocol.specs.State.{Entry, Running}
use Rattle.pv_protocol.specs.State as model
use Rattle.pv_protocol.specs.Here.{Here}
use Rattle.std.proofs.lemmas.Bool.{true≢false}
use Rattle.pv_disk_model.specs.LogModel.{LogModel}
use Rattle.pv_site.proofs.LogLemmas.{holds-after, limit-after}
use Rattle.pv_site.specs.OnLog.{HoldsRecords, Logs}
use Rattle.pv_site.specs.Steps.{IsReady}
use Rattle.pv_site.proofs.Entries.{find-map}
use Rattle.pv_site.specs.Asked.{entries_of, grant_taken, is_touched, voting_at, IsIdle}
use Rattle.pv_site.specs.SiteState.{here_with}
use Rattle.pv_site.specs.SiteParts.{here_of, HaveStepped}
use Rattle.pv_site.specs.SiteView.{running_unless, state_of, IsSite}
use Rattle.pv_site.specs.declared.parts.SiteParts.{SiteParts}
use Rattle.pv_site.specs.declared.site.Site.TheInside.{Inside}

no-map : {X Y : Type 0} (f : X → Y) (xs : List X) → map f xs ≡ [] → xs ≡ []
no-map f [] is = refl
no-map f (x ∷ xs) is = absurd (let wrong : ⊥ = cc in wrong)

is-some-map : {X Y : Type 0} (f : X → Y) (x : Option X) → is_some x ≡ is_some (option_map f x)
is-some-map f None = refl
is-some-map f (Some x) = refl

taken-map : (site : ℕ) (work : Option Work) → coord.grant_of work site ≡ grant_taken site (option_map (λ (work : Work). work.entry) work)
taken-map site None = refl
taken-map site (Some work) = refl

-- Whether a site works on a transaction, of one that is up.
works-up : (parts : SiteParts) (txn : TxnId) → is_some (work_of parts.coord.contents txn) ≡ is_some (entry_in (Some (here_of parts).running) txn)
works-up parts txn =
    is-some-map (λ (work : Work). work.entry) (work_of parts.coord.contents txn)
    ∙ ap is_some (sym (find-map (λ (work : Work). work.entry) (λ (entry : Entry). is_same_txn txn entry.txn) parts.coord.contents.entries))

-- A site that is down has no entries.
pub works-in : (parts : SiteParts) (txn : TxnId) (down : Bool) → (down ≡ true → parts.coord.contents.entries ≡ [])
    → is_some (work_of parts.coord.contents txn) ≡ is_some (entry_in (running_unless down (here_of parts).running) txn)
works-in parts txn false none = works-up parts txn
works-in parts txn true none = ap (λ (works : List Work). is_some (find (λ (work : Work). is_same_txn txn work.entry.txn) works)) (none refl)

votes-up : (parts : SiteParts) (txn : TxnId) (site : ℕ) → coord.grant_of (voting_work parts.coord.contents txn) site ≡ grant_taken site (voting_at (Some (here_of parts).running) txn)
votes-up parts txn site =
    taken-map site (voting_work parts.coord.contents txn)
    ∙ ap (grant_taken site)
    (sym (find-map (λ (work : Work). work.entry) (λ (entry : Entry). is_same_txn txn entry.txn && not (is_locking entry.stage)) parts.coord.contents.entries))

pub votes-in : (parts : SiteParts) (txn : TxnId) (site : ℕ) (down : Bool) → (down ≡ true → parts.coord.contents.entries ≡ [])
    → coord.grant_of (voting_work parts.coord.contents txn) site ≡ grant_taken site (voting_at (running_unless down (here_of parts).running) txn)
votes-in parts txn site false none = votes-up parts txn site
votes-in parts txn site true none =
    ap (λ (works : List Work). coord.grant_of (find (λ (work : Work). is_same_txn txn work.entry.txn && not (is_locking work.entry.stage)) works) site) (none refl)

-- Which items a site shows that name a transaction, by its store.
module _ {W : Type 0} (inside : Inside W) (txn : TxnId) (item : ℕ) where
  abbrev is-touched-where : Bool → Bool
  is-touched-where down =
      is_some (running_unless down (here_of inside.parts).running)
      && (is_home inside.parts.catalog inside.parts.me.0 item && names (shown inside.parts.catalog inside.parts.store.records item) txn)

  pub touched-down : inside.down ≡ true → false ≡ is_touched (state_of inside) txn item
  touched-down down = sym (ap is-touched-where down)

  pub touched-up : IsSite inside → inside.down ≡ false
      → (is_home inside.parts.store.catalog inside.parts.store.site item && names (shown inside.parts.store.catalog inside.parts.store.records item) txn) ≡ is_touched (state_of inside) txn item
  touched-up is up =
      ap (λ (catalog : Declared). is_home catalog inside.parts.store.site item && names (shown catalog inside.parts.store.records item) txn) is.sound.tied.store_catalog
      ∙ ap (λ (site : ℕ). is_home inside.parts.catalog site item && names (shown inside.parts.catalog inside.parts.store.records item) txn) is.sound.tied.store_site
      ∙ sym (ap is-touched-where up)

module _ {W : Type 0} (M : LogModel W) (inside : Inside W) (log : W) (parts : SiteParts) (step : model.Step) where
  ready-by : (down : Bool) → inside.down ≡ down → down ≡ false → HaveStepped inside.parts parts step → Logs M inside.log log step.appended → M.is_intact log
      → IsReady M (state_of (record inside { down = down })) → IsReady M (state_of (record inside { log = log; parts = parts; down = down }))
  ready-by false is up stepped logged intact ready = record {
    intact = intact;
    limit = limit-after M inside.log log step.appended logged ∙ (ready.limit ∙ sym (ap (λ (here : Here). here.setup.catalog.journal) stepped.here));
    holds = subst (λ (here : Here). HoldsRecords M log here.surplus here.records) (sym stepped.here)
        (holds-after M inside.log log inside.parts.surplus inside.parts.store.records step.appended logged ready.holds);
  }
  ready-by true is up stepped logged intact ready = absurd (true≢false up)

  -- A site that is up is ready after a step.
  pub ready-after : inside.down ≡ false → HaveStepped inside.parts parts step → Logs M inside.log log step.appended → M.is_intact log
      → IsReady M (state_of inside) → IsReady M (state_of (record inside { log = log; parts = parts }))
  ready-after up stepped logged intact ready = ready-by inside.down refl up stepped logged intact ready

module _ {W : Type 0} (inside : Inside W) (sound : IsSite inside) where
  store-here : (running : Running) → IsStoreOf (here_with (state_of inside) running) inside.parts.store
  store-here running = record { site = sound.sound.tied.store_site; catalog = sound.sound.tied.store_catalog; records = refl }

  idle-by : (down : Bool) → (down ≡ true → inside.parts.locks.grants ≡ []) → (down ≡ true → inside.parts.coord.contents.entries ≡ [])
      → (grants_of (running_unless down (here_of inside.parts).running) ≡ [] → entries_of (running_unless down (here_of inside.parts).running) ≡ []
      → (inside.parts.locks.grants ≡ []) × (inside.parts.coord.contents.entries ≡ []))
  idle-by true grants entries = λ _ _. (grants refl, entries refl)
  idle-by false grants entries = λ no_grants no_entries. (no_grants, no-map (λ (work : Work). work.entry) inside.parts.coord.contents.entries no_entries)

  free-by : (down : Bool) → inside.parts.locks.grants ≡ [] → inside.parts.coord.contents.entries ≡ []
      → (grants_of (running_unless down (here_of inside.parts).running) ≡ []) × (entries_of (running_unless down (here_of inside.parts).running) ≡ [])
  free-by true grants entries = (refl, refl)
  free-by false grants entries = (grants, ap (map (λ (work : Work). work.entry)) entries)

  -- The site isn't idle where something stands.
  pub busy-where : (stands : Bool) → stands ≡ true → (stands ≡ false ↔ ((inside.parts.locks.grants ≡ []) × (inside.parts.coord.contents.entries ≡ [])))
      → (stands ≡ false) ↔ IsIdle (state_of inside)
  busy-where stands is standing =
      (λ never. absurd (true≢false (sym is ∙ never)), λ idle. standing.1 (idle-by inside.down sound.grants sound.entries idle.grants idle.entries))

  -- Else it is where no value names an outcome.
  pub idle-where : (stands named : Bool) → stands ≡ false → (stands ≡ false ↔ ((inside.parts.locks.grants ≡ []) × (inside.parts.coord.contents.entries ≡ [])))
      → ((here : Here) → IsStoreOf here inside.parts.store → (named ≡ false) ↔ (named_here here ≡ []))
      → (named ≡ false) ↔ IsIdle (state_of inside)
  idle-where stands named none standing naming =
      let nothing = standing.0 none in
      let free = free-by inside.down nothing.0 nothing.1 in (
        λ is. record { grants = free.0; entries = free.1; named = λ running. (naming (here_with (state_of inside) running) (store-here running)).0 is },
        λ idle. (naming (here_with (state_of inside) (here_of inside.parts).running) (store-here (here_of inside.parts).running)).1 (idle.named (here_of inside.parts).running),
      )
