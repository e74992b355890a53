use Rattle.std.proofs.Common.{◌≤◌, ℕ, [], subst}
use Rattle.pv_base.specs.declared.limits.TheConstants.{HELD_NAMES, MIN_JOURNAL}
use Rattle.pv_protocol.specs.World.{no_site}
use Rattle.pv_world.proofs.RestartFirst.{can-start, first-begun, stands-empty}
use Rattle.pv_world.proofs.restart.first_started.Goals as goal

pub started-requires-clause-replayable : goal.started-requires-clause-replayable
started-requires-clause-replayable c =
    let least : MIN_JOURNAL ≤ c.args.catalog.now.journal = subst (λ (n : ℕ). MIN_JOURNAL ≤ n) c.journal-limit.ensures.limit c.journal-limit.ensures.least in
    let narrow = c.no_records_are_narrow.ensures HELD_NAMES c.args.catalog.now c.args.site.0 in
    can-start c.args.catalog.now least c.args.site.0 narrow (c.starts_keep_width.ensures HELD_NAMES c.args.catalog.now c.args.site.0 [] 1 narrow) c.in_ok-disk.disk c.in_ok-left.left
    c.in_ok-disk.ensures c.in_ok-left.ensures

pub returns : goal.returns
returns c =
    let least : MIN_JOURNAL ≤ c.args.catalog.now.journal = subst (λ (n : ℕ). MIN_JOURNAL ≤ n) c.journal-limit.ensures.limit c.journal-limit.ensures.least in
    first-begun c.args.catalog.now least c.args.site.0 c.in_ok-cell.cell c.in_ok-cell.field-0-1
    (c.in_ok-cell.ensures no_site
    (stands-empty c.args.catalog.now least c.args.site.0 c.in_ok-disk.disk c.in_ok-left.left c.in_ok-disk.ensures c.in_ok-left.ensures))
