-- What comes of stopping and starting a site.
use Rattle.std.proofs.Common.{◌≡◌, ℕ, Bool, Option, Some, None, List, [], ◌∷◌, ◌++◌, ap, ap₂, ◌∙◌}
use Rattle.std.proofs.lemmas.List.{append-nil, set-get_or}
use Rattle.pv_base.specs.Catalog.{Declared}
use Rattle.pv_format.specs.Message.{Envelope}
use Rattle.pv_protocol.specs.Arms.{attempted, calls_of, completed, reached, waits}
use Rattle.pv_protocol.specs.Attempt.{attempts, halted, of_start, opened}
use Rattle.pv_protocol.specs.Lines as protocol
use Rattle.pv_protocol.specs.Start.{Started, site_start, starts, too_long, no_epoch}
use Rattle.pv_protocol.specs.State as state
use Rattle.pv_protocol.specs.State.{Arm, Running}
use Rattle.pv_protocol.specs.World.{World, no_site, site_at, with_sent, with_site}
use Rattle.pv_protocol.specs.WorldStep.{ended}
use Rattle.pv_site.specs.SiteState.{setup_of}
use Rattle.pv_world.specs.Cells.{completed_site, start_attempt}

-- A site in its own place is no change.
pub with-own : (is : World) (n : ℕ) → with_site is n (site_at is n) ≡ is
with-own is n = ap (λ (sites : List state.Site). record is { sites = sites }) (set-get_or is.sites n no_site)

-- Nothing is sent, and the order stays.
pub quiet : (is : World) (n : ℕ) (site : state.Site) → with_sent (with_site (record is { order = is.order ++ [] }) n site) [] ≡ with_site is n site
quiet is n site =
    ap (λ (order : List state.Placed). with_sent (with_site (record is { order = order }) n site) []) (append-nil is.order)
    ∙ ap₂ (λ (sent : List Envelope) (fresh : List Bool). record (with_site is n site) { sent = sent; fresh = fresh }) (append-nil is.sent) (append-nil is.fresh)

-- A start changes its site alone.
started-site : (is : World) (n : ℕ) (started : Started) (armed : Option Arm)
    → completed is n (of_start n started) armed ≡ with_site is n (completed_site (site_at is n) (of_start n started) armed)
started-site is n (starts running epoch) armed = quiet is n (completed_site (site_at is n) (of_start n (starts running epoch)) armed)
started-site is n (too_long length) armed = quiet is n (completed_site (site_at is n) (of_start n (too_long length)) armed)
started-site is n no_epoch armed = quiet is n (completed_site (site_at is n) (of_start n no_epoch) armed)

module _ (is : World) (n : ℕ) where
  pub halted-down : (site_at is n).running ≡ None → ended (halted is n (site_at is n).running) ≡ (protocol.Line.down n ∷ [], is)
  halted-down down = ap (λ (running : Option Running). ended (halted is n running)) down

  pub halted-up : (running : Running) → (site_at is n).running ≡ Some running
      → ended (halted is n (site_at is n).running) ≡ (protocol.Line.stopped n ∷ [], with_site is n (record (site_at is n) { running = None }))
  halted-up running up = ap (λ (memory : Option Running). ended (halted is n memory)) up

  module _ (catalog : Declared) where
    pub opened-up : (running : Running) → (site_at is n).running ≡ Some running
        → ended (opened (setup_of catalog) is n (site_at is n).running) ≡ (protocol.Line.up n ∷ [], is)
    opened-up running up = ap (λ (memory : Option Running). ended (opened (setup_of catalog) is n memory)) up

    pub opened-down : (site_at is n).running ≡ None
        → ended (opened (setup_of catalog) is n (site_at is n).running) ≡ ended (attempts is n (start_attempt catalog n (site_at is n)))
    opened-down down = ap (λ (memory : Option Running). ended (opened (setup_of catalog) is n memory)) down

    -- A start that isn't broken off.
    pub opened-done : (armed : Option Arm) (line : protocol.Line) → (site_at is n).running ≡ None
        → reached (calls_of (start_attempt catalog n (site_at is n))) (site_at is n).arm ≡ waits armed → (start_attempt catalog n (site_at is n)).lines ≡ line ∷ []
        → ended (opened (setup_of catalog) is n (site_at is n).running)
        ≡ (line ∷ [], with_site is n (completed_site (site_at is n) (start_attempt catalog n (site_at is n)) armed))
    opened-done armed line down waiting prints =
        opened-down down
        ∙ ap (attempted is n (start_attempt catalog n (site_at is n))) waiting
        ∙ ap₂ (λ (lines : List protocol.Line) (world : World). (lines, world)) prints (started-site is n (site_start (setup_of catalog) 0 (site_at is n).records) armed)
