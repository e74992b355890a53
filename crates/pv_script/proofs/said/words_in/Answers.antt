-- A line that is too long, or has other bytes.
use Rattle.std.proofs.Common.{◌≡◌, false, arith}
use Rattle.std.specs.List.{list_all}
use Rattle.pv_model.specs.Text.{is_text_byte}
use Rattle.pv_script.proofs.CauseLemmas.{IsLineFault-long, IsLineFault-bytes}
use Rattle.pv_script.proofs.said.words_in.Goals as goal

pub returns-then-line-most_bytes-clause-fault : goal.returns-then-line-most_bytes-clause-fault
returns-then-line-most_bytes-clause-fault c = λ before same. IsLineFault-long before c.args.line.now (rw same (rw (← c.most_bytes.ensures) (omega arith)))

pub returns-then-not-is_text-clause-fault : goal.returns-then-not-is_text-clause-fault
returns-then-not-is_text-clause-fault c = λ before same.
    let no : list_all is_text_byte c.args.line.now ≡ false = cc in
    IsLineFault-bytes before c.args.line.now (rw same (rw (← c.most_bytes.ensures) (omega arith))) no
