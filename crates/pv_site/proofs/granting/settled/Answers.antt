-- Where no outcome is named, all stays as it is.
use Rattle.std.proofs.Common.{◌∙◌, sym}
use Rattle.std.specs.List.{list_all}
use Rattle.std.proofs.lemmas.Bool.{and_parts}
use Rattle.pv_model.specs.Alternatives.{Read}
use Rattle.pv_site.proofs.SureLemmas.{sure-writes-put-in}
use Rattle.pv_cases.specs.Sure.{is_one_case}
use Rattle.pv_site.proofs.granting.settled.Goals as goal

pub returns-then-is_sure_throughout-clause-writes : goal.returns-then-is_sure_throughout-clause-writes
returns-then-is_sure_throughout-clause-writes c =
    let writes = c.args.joined.writes.items in
    sure-writes-put-in c.args.store.now.records writes
    (and_parts (is_one_case c.args.joined.reply) (list_all (λ (write : Read). is_one_case write.cases) writes) (sym c.is_sure_throughout.ensures ∙ c.if-is_sure_throughout.true)).1
