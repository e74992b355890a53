-- What was heard is said by its own line.
use Rattle.std.proofs.Common.{◌≡◌, ◌++◌, OnOk, sym, subst}
use Rattle.pv_told.specs.declared.line.ClientWhat.{ClientWhat}
use Rattle.pv_transcript.specs.Heard.{heard_line}
use Rattle.pv_live.specs.Told.{heard_by}
use Rattle.pv_live.proofs.telling.push_told.Goals as goal

pub returns-in-Peek : goal.returns-in-Peek
returns-in-Peek c =
    subst (λ (what : ClientWhat). OnOk c.push_peek.result
    (c.push_peek.new.text.items ≡ c.args.text.now.items ++ heard_line c.args.catalog.now c.args.client c.args.request (heard_by c.args.site.0 what)))
    (sym c.in-Peek.is) (c.push_peek.ensures c.args.catalog.now)

pub returns-in-Worn : goal.returns-in-Worn
returns-in-Worn c =
    subst (λ (what : ClientWhat). OnOk c.push_worn.result
    (c.push_worn.new.text.items ≡ c.args.text.now.items ++ heard_line c.args.catalog.now c.args.client c.args.request (heard_by c.args.site.0 what)))
    (sym c.in-Worn.is) (c.push_worn.ensures.text c.args.catalog.now)

pub returns-in-NoMemory : goal.returns-in-NoMemory
returns-in-NoMemory c =
    subst (λ (what : ClientWhat). OnOk c.push_no_memory.result
    (c.push_no_memory.new.text.items ≡ c.args.text.now.items ++ heard_line c.args.catalog.now c.args.client c.args.request (heard_by c.args.site.0 what)))
    (sym c.in-NoMemory.is) (c.push_no_memory.ensures.text c.args.catalog.now)
