-- The text is cut into its words.
use Rattle.std.proofs.Common.{ap, arith, ◌∙◌}
use Rattle.pv_audit.proofs.RestLemmas.{few-words, line-read-in}
use Rattle.pv_script.specs.LineFaults.{texts}
use Rattle.pv_audit.proofs.printed.read_line.Goals as goal

pub line_in-requires : goal.line_in-requires
line_in-requires c =
    let few = few-words c.args.text.now c.in_ok-words.words.items c.in_ok-words.ensures in
    rw c.deref.ensures.value (omega (arith, few, c.requires.short))

pub returns : goal.returns
returns c =
    line-read-in c.args.catalog.now c.args.text.now (texts c.deref.result.now) c.line_in.result c.requires.named (ap texts c.deref.ensures.value ∙ c.in_ok-words.ensures) c.line_in.ensures
