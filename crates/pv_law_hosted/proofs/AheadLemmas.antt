-- What a host leaves of a file that may have written on before it said so.
use Rattle.std.proofs.Common.{◌≡◌, ◌⊎◌, inl, inr, ⊎_elim, ℕ, Bool, true, false, Some, List, [], ◌∷◌, ◌++◌, append-nil, refl, sym, subst}
use Rattle.pv_disk_model.specs.Disk.{overlaid}
use Rattle.pv_disk_model.specs.Size.{Contents}
use Rattle.pv_format.specs.Journal.{IsJournal}
use Rattle.pv_host.specs.HostFile.{IsFile, IsStored, MayLeave}
use Rattle.pv_host.specs.HostLog.{HostState, HostWrite, next_write, with_written, written_to}
use Rattle.pv_embed.specs.Hosted.{HostedState, Writes}
use Rattle.pv_law_hosted.specs.DeploymentEvents.{MayLeaveAhead}

-- the site once its host has said that what it was to write is in the file
abbrev told_of : HostedState → HostedState
told_of site = record site { site = record site.site { log = with_written site.site.log } }

told-writes : (site : HostedState) → Writes site (told_of site)
told-writes site = record { log = refl; same = refl }

module _ (written : (old new : HostedState) (write : HostWrite) (file : List ℕ) → Writes old new → next_write old.site.log ≡ Some write → IsFile old.site.log file
    → IsFile new.site.log (overlaid file write.place write.bytes))
    (crashed : (hosted : HostedState) (file left : List ℕ) → IsFile hosted.site.log file → MayLeave hosted.site.log file left → IsFile hosted.site.log left)
    (site : HostedState) (file left : List ℕ) (is_file : IsFile site.site.log file) where
  -- It is one of the log as it is, or as it is once the host has said so.
  pub ahead-file : MayLeaveAhead site.site.log file left → IsFile site.site.log left ⊎ IsFile (with_written site.site.log) left
  ahead-file (inl may) = inl (crashed site file left is_file may)
  ahead-file (inr (write, is, may)) =
      inr
      (crashed (told_of site) (overlaid file write.place write.bytes) left (written site (told_of site) write file (told-writes site) is is_file) may)

-- What the log has once the host has said so is what it had, or with the group that was asked for.
written-stored : (log : HostState) (left : List ℕ) (asked : Contents) (behind_gate : Bool) → log.asked ≡ asked → IsStored (written_to log asked behind_gate) left → IsStored log left
written-stored log left [] behind_gate is stored = stored
written-stored log left (first ∷ later) false is stored = stored
written-stored log left (first ∷ later) true is stored =
    let all = log.stored ++ first ∷ later in
    let whole : IsJournal all left = ⊎_elim (λ journal. journal) (λ journal. subst (λ (contents : Contents). IsJournal contents left) (append-nil all) journal) stored in
    inr (subst (λ (group : Contents). IsJournal (log.stored ++ group) left) (sym is) whole)

pub ahead-stored : ((log : HostState) (file : List ℕ) → IsFile log file → IsStored log file) → (log : HostState) (left : List ℕ)
    → IsFile log left ⊎ IsFile (with_written log) left → IsStored log left
ahead-stored journals log left is =
    ⊎_elim (λ file. journals log left file) (λ file. written-stored log left log.asked log.behind_gate refl (journals (with_written log) left file)) is
