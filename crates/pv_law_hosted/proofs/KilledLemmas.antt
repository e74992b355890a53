-- A transaction whose number was let out by a process that has gone before it let out that it asks for votes: it is dead in the run.
use Rattle.std.proofs.Common.{◌≡◌, ⊎_elim, ℕ, ◌<◌, true, false, None, List, inl, inr, sym, ap, subst}
use Rattle.std.specs.List.{Contains}
use Rattle.std.proofs.lemmas.Bool.{cases_Bool}
use Rattle.std.proofs.lemmas.List.Elements.{Contains-append_left}
use Rattle.pv_base.specs.declared.txn.TxnId.{TxnId}
use Rattle.pv_law_acts.specs.Seen.{IsDead, IsPassed, memory_at, work_in}
use Rattle.pv_model.specs.Events.{Event}
use Rattle.pv_protocol.specs.Committed.{home_of, is_committed}
use Rattle.pv_protocol.specs.State.{Setup, Site, began}
use Rattle.pv_protocol.specs.World.{World, site_at}
use Rattle.pv_embed.specs.Held.{note}
use Rattle.pv_law_hosted.proofs.NumberEvents.{is-asked-after}
use Rattle.pv_law_hosted.specs.Claims.{HoldsSite}
use Rattle.pv_law_hosted.specs.Deployment.{Deployment, station_at}
use Rattle.pv_law_hosted.specs.Mirrored.{IsMirrored, world_of}
use Rattle.pv_law_hosted.specs.Numbers.{AreNumbersFirst, IsAskedAfter, held_by}

-- A site that is down works on nothing, nor does one that was only started.
idle-site : (file : List ℕ) (site : Site) (txn : TxnId) → HoldsSite file site → work_in site.running txn ≡ None
idle-site file site txn (inl (contents, journal, spelled, down)) = ap (λ memory. work_in memory txn) down
idle-site file site txn (inr (journal, first)) = ap (λ (s : Site). work_in s.running txn) first

module _ (setup : Setup) (d : Deployment) (events : List Event) (m : IsMirrored setup d events) (firsts : AreNumbersFirst setup d) (n : ℕ) (txn : TxnId)
    (below : n < setup.catalog.sites) (there : Contains (station_at d n).let_out (note (began txn))) (unasked : IsAskedAfter txn (station_at d n).let_out → ⊥) where
  abbrev world : World
  world = world_of setup events

  home-is : home_of txn ≡ n
  home-is = (firsts txn n below).own (Contains-append_left (station_at d n).let_out (held_by (station_at d n).hosted) (note (began txn)) there)

  never-committed : is_committed world txn ≡ false
  never-committed =
      ⊎_elim (λ (is : is_committed world txn ≡ true). absurd (unasked (subst (λ k. IsAskedAfter txn (station_at d k).let_out) home-is (is-asked-after setup d events m firsts txn is))))
      (λ isnt. isnt) (cases_Bool (is_committed world txn))

  pub killed-dead : IsPassed world txn → HoldsSite (station_at d n).file (site_at world n) → IsDead world txn
  killed-dead passed holds = record {
    passed = passed;
    idle = subst (λ k. work_in (memory_at world k) txn ≡ None) (sym home-is) (idle-site (station_at d n).file (site_at world n) txn holds);
    uncommitted = never-committed;
  }
