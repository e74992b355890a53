use Rattle.std.proofs.Common.{◌≡◌, ◌++◌, drop}
use Rattle.pv_site.specs.Shares.{shown_values}
use Rattle.pv_site.proofs.locking.values_of.Given as goal

abbrev pub invariant-loop-want : goal.invariant-loop-want
invariant-loop-want l =
    shown_values l.fn.store.catalog l.fn.store.records l.fn.wants
    ≡ l.values.items ++ shown_values l.fn.store.catalog l.fn.store.records (drop l.want-index l.wants)
